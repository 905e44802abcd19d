-- Lines of a register put into a buffer, piece by piece, and how long they are.
use mathlib.Core.Path.{◌≡◌, sym, ap, ◌∙◌}
use mathlib.Core.List.{List, [], ◌∷◌, ◌++◌}
use Prim.Native.Nat.{ℕ, ◌+◌, ◌-◌, ◌≤◌, ◌<◌}
use native.Mathlib.Omega.{arith}
use lib.ListN.{length, set, take, drop, replicate, length-drop, length-append, length-replicate}
use Rattle.text.specs.Lists.{space}
use Rattle.print.specs.Texts.{decimal, PutsDecimal}
use Rattle.print.specs.Kernels.{Puts}
use Rattle.print.proofs.Decimals.{digits-most}
use Rattle.print.proofs.Buffer.{put_is, puts_one, puts_then, puts_long, puts_is, decimal_puts}
use Rattle.register.specs.Register.{line_end, column, ended, line}
use Rattle.register.specs.Kernels.{Narrow}
use lib.Seq.{length-take-le}
use borrow.Rule.Slice.PartMut.{put_mid, Post-is}

-- ---- lengths

pub narrow_digits : (x : ℕ) → Narrow x → length (decimal x) ≤ 10
narrow_digits x h = digits-most 9 x (omega arith)

length-column : (x : ℕ) → Narrow x → length (column x) ≡ 12
unfolding column
length-column x h = simp (length-append, length-replicate) (omega (arith, narrow_digits x h))

pub length-ended : (n : ℕ) → length (ended n) ≡ n + 1
unfolding ended
length-ended n = length-append (replicate n space) (line_end ∷ []) ∙ omega (arith, length-replicate n space)

pub length-line : (a b c : ℕ) → Narrow a → Narrow b → Narrow c → length (line a b c) ≡ 73
unfolding line
length-line a b c ha hb hc =
    omega (
      arith,
      length-append (column a) (column b ++ (column c ++ ended 36)),
      length-append (column b) (column c ++ ended 36),
      length-append (column c) (ended 36),
      length-column a ha,
      length-column b hb,
      length-column c hc,
      length-ended 36,
    )

-- ---- blanks, up to place p

-- a part of the buffer that is filled with blanks
pub blanks_put : (at n : ℕ) (out : List ℕ) → at + n ≤ length out → (part : List ℕ) → part ≡ replicate (length (take (at + n - at) (drop at out))) space
    → Puts at (replicate n space) (at + n) out (put_mid at (at + n - at) out part)
blanks_put at n out h part e =
    let k : length (take (at + n - at) (drop at out)) ≡ n = length-take-le (at + n - at) (drop at out) (omega (arith, length-drop at out)) ∙ omega arith in
    let l : length blanks ≡ n = length-replicate {A = ℕ} n space in
    record {
      next = omega (arith, l);
      leaves =
          ap (put_mid at (at + n - at) out) (e ∙ ap (λ (k : ℕ). replicate k space) k)
          ∙ ap (λ (x : List ℕ). take at out ++ (blanks ++ x)) (Post-is at (at + n) out (omega arith))
          ∙ ap (λ (k : ℕ). take at out ++ (blanks ++ drop k out)) (let q : at + n ≡ at + length blanks = omega (arith, l) in q)
          ∙ sym (put_is at blanks out (omega arith));
    }
  where
    blanks : List ℕ
    blanks = replicate n space

-- ---- a column, a line's end, a line

module _ (at x : ℕ) (out : List ℕ) (small : Narrow x) (room : at + 12 ≤ length out) (d : ℕ) (e : d ≡ length (decimal x)) where
  pub column_puts : (p r : ℕ) (out' out'' : List ℕ) → Puts at (replicate (12 - d) space) p out out' → PutsDecimal p x r out' out'' → Puts at (column x) r out out''
  unfolding column
  column_puts p r out' out'' b q =
      let n : length (replicate (12 - d) space) ≡ 12 - d = length-replicate (12 - d) space in
      let m : length out' ≡ length out = puts_long at p (replicate (12 - d) space) out out' (omega (arith, n)) b in
      puts_is at r (replicate (12 - d) space ++ decimal x) (column x) out out'' (ap (λ (k : ℕ). replicate (12 - k) space ++ decimal x) e)
      (puts_then at p r (replicate (12 - d) space) (decimal x) out out' out'' (omega (arith, n, narrow_digits x small)) b
      (decimal_puts p x out' (omega (arith, m, n, b.next, narrow_digits x small)) r out'' q))

module _ (at n : ℕ) (out : List ℕ) (room : at + n + 1 ≤ length out) (p : ℕ) (out' : List ℕ) (b : Puts at (replicate n space) p out out') where
  end_long : length out' ≡ length out
  end_long = puts_long at p (replicate n space) out out' (omega (arith, length-replicate n space)) b

  pub end-place : p < length out'
  end-place = omega (arith, end_long, b.next, length-replicate n space)

  pub end_puts : Puts at (ended n) (p + 1) out (set out' p line_end)
  unfolding ended
  end_puts =
      puts_then at p (p + 1) (replicate n space) (line_end ∷ []) out out' (set out' p line_end) (omega (arith, length-replicate n space)) b (puts_one p line_end out' end-place)

module _ (at a b c : ℕ) (out : List ℕ) (ha : Narrow a) (hb : Narrow b) (hc : Narrow c) (room : at + 73 ≤ length out) where
  module _ (p : ℕ) (o₁ : List ℕ) (x : Puts at (column a) p out o₁) where
    first_long : length o₁ ≡ length out
    first_long = puts_long at p (column a) out o₁ (omega (arith, length-column a ha)) x

    first_place : p ≡ at + 12
    first_place = omega (arith, x.next, length-column a ha)

    pub first_room : p + 12 ≤ length o₁
    first_room = omega (arith, first_long, first_place)

    module _ (q : ℕ) (o₂ : List ℕ) (y : Puts p (column b) q o₁ o₂) where
      second_long : length o₂ ≡ length out
      second_long = puts_long p q (column b) o₁ o₂ (omega (arith, first_place, first_long, length-column b hb)) y ∙ first_long

      second_place : q ≡ at + 24
      second_place = omega (arith, y.next, first_place, length-column b hb)

      pub second_room : q + 12 ≤ length o₂
      second_room = omega (arith, second_long, second_place)

      module _ (s : ℕ) (o₃ : List ℕ) (z : Puts q (column c) s o₂ o₃) where
        third_long : length o₃ ≡ length out
        third_long = puts_long q s (column c) o₂ o₃ (omega (arith, second_place, second_long, length-column c hc)) z ∙ second_long

        third_place : s ≡ at + 36
        third_place = omega (arith, z.next, second_place, length-column c hc)

        pub third_room : s + 36 + 1 ≤ length o₃
        third_room = omega (arith, third_long, third_place)

        pub line_puts : (e : ℕ) (o₄ : List ℕ) → Puts s (ended 36) e o₃ o₄ → Puts at (line a b c) e out o₄
        unfolding line
        line_puts e o₄ w =
            puts_then at p e (column a) (column b ++ (column c ++ ended 36)) out o₁ o₄
            (omega (arith, length-column a ha, length-append (column b) (column c ++ ended 36), length-column b hb, length-append (column c) (ended 36), length-column c hc, length-ended 36)) x
            (puts_then p q e (column b) (column c ++ ended 36) o₁ o₂ o₄
            (omega (arith, first_place, first_long, length-column b hb, length-append (column c) (ended 36), length-column c hc, length-ended 36)) y
            (puts_then q s e (column c) (ended 36) o₂ o₃ o₄ (omega (arith, second_place, second_long, length-column c hc, length-ended 36)) z w))
