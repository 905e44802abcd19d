-- The first bad token decides, and in it the left number.
use mathlib.Core.Path.{refl}
use mathlib.Core.List.{List, [], ◌∷◌, ◌++◌}
use Prim.Native.Nat.{ℕ}
use Rattle.style.specs.declared.Style.{Style}
use Rattle.text.specs.Faults as b
use Rattle.text.specs.Promises.{FirstsDecide}
use Rattle.text.specs.declared.Fault.TheVariants.{Slip, Huge}
use Rattle.text.proofs.Grammar.{slip_correct, huge_correct}
use Rattle.text.proofs.Refuses.{free_left, free_right, slips, huge_ones}

not_free : {c : ℕ} (t u : List ℕ) → b.Free c (t ++ c ∷ u) → ⊥
not_free [] u (b.cons h f) = h refl
not_free (x ∷ t) u (b.cons h f) = not_free t u f

-- the only token is the bad one
sole : {y : Style} {bad : List ℕ → Type 0} {t : List ℕ} → b.Free 44 t → b.FirstBad y bad t → bad t
sole f (b.only h x) = x
sole f (b.here {t = t} h x u) = absurd (not_free t u f)
sole f (b.later {t = t} {u = u} x h z) = absurd (not_free t u f)

huge_alone : {y : Style} {t : List ℕ} → b.Free y.joiner t → b.HugeToken y t → b.Huge y t
huge_alone f (b.single x) = x
huge_alone f (b.left {t = t} x u) = absurd (not_free t u f)
huge_alone f (b.right {t = t} {u = u} x z) = absurd (not_free t u f)

none_alone : {y : Style} {t : List ℕ} → b.Free y.joiner t → b.NoToken y t → b.NoNumber y t
none_alone f (b.single j x) = x
none_alone f (b.left {t = t} j x u) = absurd (not_free t u f)
none_alone f (b.right {t = t} {u = u} x z) = absurd (not_free t u f)
none_alone f (b.falling {t = t} {u = u} x z h) = absurd (not_free t u f)

pub firsts_decide : FirstsDecide
firsts_decide y ok Slip = record {
  token = λ t u f e. slips y ok (b.here f (sole f (slip_correct y ok t e)) u);
  left = λ t u f j e. slips y ok (b.only f (b.left j (none_alone j (sole (free_left t y.joiner u f) (slip_correct y ok t e))) u));
  next = λ t u r x h e. slips y ok (b.later x h (slip_correct y ok u e));
  right = λ t u a x f j e. slips y ok (b.only f (b.right x (none_alone j (sole (free_right t y.joiner u f) (slip_correct y ok u e)))));
}
firsts_decide y ok Huge = record {
  token = λ t u f e. huge_ones y ok (b.here f (sole f (huge_correct y ok t e)) u);
  left = λ t u f j e. huge_ones y ok (b.only f (b.left (huge_alone j (sole (free_left t y.joiner u f) (huge_correct y ok t e))) u));
  next = λ t u r x h e. huge_ones y ok (b.later x h (huge_correct y ok u e));
  right = λ t u a x f j e. huge_ones y ok (b.only f (b.right x (huge_alone j (sole (free_right t y.joiner u f) (huge_correct y ok u e)))));
}
