-- A text is a list, or its first bad token is no token, or is huge: it is cut at its commas, and each token at its first joiner. So what is read is what the grammar says.
use mathlib.Core.Path.{◌≡◌, sym, ◌∙◌, subst}
use mathlib.Core.Logic.{◌⊎◌, ⊎_elim, inl, inr}
use mathlib.Core.Bool.{false≢true}
use mathlib.Core.List.{List, [], ◌∷◌, ◌++◌}
use Prim.Native.Nat.{ℕ}
use lib.Dec.{eqb}
use borrow.Author.Tests.{eqb-true, eqb-false}
use Rattle.word.proofs.Cases.{zero_one, by_lt, by_test}
use Rattle.style.specs.Promises.{Allowed}
use Rattle.style.specs.declared.Style.{Style}
use Rattle.text.specs.Lists.{comma, blank, Range, range}
use Rattle.text.specs.Grammar as g
use Rattle.text.specs.Faults as b
use Rattle.text.specs.Readings.{Alone, From, no_list, ranges, parse}
use Rattle.text.specs.declared.Fault.{Fault}
use Rattle.text.specs.declared.Fault.TheVariants.{Slip, Huge}
use Rattle.text.proofs.Accepts.{blank_is, is_blank_lem, complete}
use Rattle.text.proofs.Numbers.{cut, any, Judged, good, huge, none, judge}
use Rattle.text.proofs.Refuses.{free_left, free_right, slips, huge_ones}

-- ---- a text and a byte

-- in pieces, each of which has not the byte
data Pieces (c : ℕ) : List ℕ → Type 0 where
  last : {t : List ℕ} → b.Free c t → Pieces c t
  more : {t u : List ℕ} → b.Free c t → Pieces c u → Pieces c (t ++ c ∷ u)

pieces : (c : ℕ) (t : List ℕ) → Pieces c t
pieces c [] = last b.nil
pieces c (d ∷ t) =
    by_test (eqb d c)
    (λ e. subst (λ (x : ℕ). Pieces c (x ∷ t)) (sym (eqb-true d c e)) (more {t = []} b.nil (pieces c t)))
    (λ e. longer (eqb-false d c e) (pieces c t))
  where
    longer : (d ≡ c → ⊥) → {t : List ℕ} → Pieces c t → Pieces c (d ∷ t)
    longer h (last f) = last (b.cons h f)
    longer h (more {t = t} f p) = more {t = d ∷ t} (b.cons h f) p

all-blank : (t : List ℕ) → g.Blanks t ⊎ (g.Blanks t → ⊥)
all-blank [] = inl g.nil
all-blank (c ∷ t) =
    by_test (blank c)
    (λ e. ⊎_elim (λ x. inl (g.cons (blank_is c e) x)) (λ h. inr (λ x. h (rest x))) (all-blank t))
    (λ e. inr (λ x. false≢true (sym e ∙ is_blank_lem c (head x))))
  where
    head : {c : ℕ} {t : List ℕ} → g.Blanks (c ∷ t) → g.Blank c
    head (g.cons e x) = e

    rest : {c : ℕ} {t : List ℕ} → g.Blanks (c ∷ t) → g.Blanks t
    rest (g.cons e x) = x

module _ (st : Style) (ok : Allowed st) where
  -- ---- every token is good, huge or none

  data Verdict (t : List ℕ) : Type 0 where
    right : (r : Range) → g.Token st t r → Verdict t
    large : b.HugeToken st t → Verdict t
    wrong : b.NoToken st t → Verdict t

  one_number : {t : List ℕ} → b.Free st.joiner t → Judged st ok t → Verdict t
  one_number j (good a x) = right (range a a) (g.single x)
  one_number j (huge x) = large (b.single x)
  one_number j (none x) = wrong (b.single j x)

  second : {t u : List ℕ} (a : ℕ) → g.Numeral st t a → Judged st ok u → Verdict (t ++ st.joiner ∷ u)
  second a x (good c y) = by_lt c a (λ h. wrong (b.falling x y h)) (λ h. right (range a c) (g.pair x y h))
  second a x (huge y) = large (b.right x y)
  second a x (none y) = wrong (b.right x y)

  first : {t u : List ℕ} → b.Free comma u → b.Free st.joiner t → Judged st ok t → Verdict (t ++ st.joiner ∷ u)
  first {u = u} k j (good a x) = second a x (judge st ok (From a) u k any)
  first {u = u} k j (huge x) = large (b.left x u)
  first {u = u} k j (none x) = wrong (b.left j x u)

  token : {t : List ℕ} → Pieces st.joiner t → b.Free comma t → Verdict t
  token (last {t = t} j) f = one_number j (judge st ok Alone t f (cut j))
  token (more {t = t} {u = u} j p) f =
      let k = free_left t st.joiner u f in
      first (free_right t st.joiner u f) j (judge st ok Alone t k (cut j))

  -- ---- so is every text

  pub data Fate (t : List ℕ) : Type 0 where
    listed : (rs : List Range) → g.Listed st t rs → Fate t
    slip : b.NotList st t → Fate t
    over : b.NumberOver st t → Fate t

  -- the last token, and one with a comma after it
  end : {t : List ℕ} → b.Free comma t → Verdict t → Fate t
  end f (right r x) = listed (r ∷ []) (g.last x)
  end f (large x) = over (b.only f x)
  end f (wrong x) = slip (b.only f x)

  after_good : {t u : List ℕ} {r : Range} → g.Token st t r → g.Blanks u ⊎ (g.Blanks u → ⊥) → Fate u → Fate (t ++ comma ∷ u)
  after_good {r = r} x (inl z) y = listed (r ∷ []) (g.ended x z)
  after_good {r = r} x (inr h) (listed rs y) = listed (r ∷ rs) (g.more x y)
  after_good x (inr h) (slip y) = slip (b.later x h y)
  after_good x (inr h) (over y) = over (b.later x h y)

  on : {t u : List ℕ} → b.Free comma t → Verdict t → Fate u → Fate (t ++ comma ∷ u)
  on {u = u} f (large x) y = over (b.here f x u)
  on {u = u} f (wrong x) y = slip (b.here f x u)
  on {u = u} f (right r x) y = after_good x (all-blank u) y

  fate_of : {t : List ℕ} → Pieces comma t → Fate t
  fate_of (last {t = t} f) = end f (token (pieces st.joiner t) f)
  fate_of (more {t = t} f p) = on f (token (pieces st.joiner t) f) (fate_of p)

  pub fate : (t : List ℕ) → Fate t
  fate t = fate_of (pieces comma t)

  -- ---- so what is read is what the grammar says

  same_ranges : {rs qs : List Range} → ranges rs ≡ ranges qs → rs ≡ qs
  same_ranges e = cc

  no_ranges : {d : Fault} {qs : List Range} → no_list d ≡ ranges qs → ⊥
  no_ranges e = zero_one cc

  two_faults : no_list Slip ≡ no_list Huge → ⊥
  two_faults e = zero_one cc

  pub correct : (t : List ℕ) (rs : List Range) → parse st t ≡ ranges rs → g.Listed st t rs
  correct t rs e = go (fate t)
    where
      go : Fate t → g.Listed st t rs
      go (listed qs x) = subst (g.Listed st t) (same_ranges (sym (complete st ok x) ∙ e)) x
      go (slip x) = absurd (no_ranges (sym (slips st ok x) ∙ e))
      go (over x) = absurd (no_ranges (sym (huge_ones st ok x) ∙ e))

  pub slip_correct : (t : List ℕ) → parse st t ≡ no_list Slip → b.NotList st t
  slip_correct t e = go (fate t)
    where
      go : Fate t → b.NotList st t
      go (listed qs x) = absurd (no_ranges (sym e ∙ complete st ok x))
      go (slip x) = x
      go (over x) = absurd (two_faults (sym e ∙ huge_ones st ok x))

  pub huge_correct : (t : List ℕ) → parse st t ≡ no_list Huge → b.NumberOver st t
  huge_correct t e = go (fate t)
    where
      go : Fate t → b.NumberOver st t
      go (listed qs x) = absurd (no_ranges (sym e ∙ complete st ok x))
      go (slip x) = absurd (two_faults (sym (slips st ok x) ∙ e))
      go (over x) = x

  pub slip_not_huge : {t : List ℕ} → b.NotList st t → b.NumberOver st t → ⊥
  slip_not_huge x z = two_faults (sym (slips st ok x) ∙ huge_ones st ok z)

  pub bad_not_listed : {t : List ℕ} → b.NotList st t ⊎ b.NumberOver st t → (rs : List Range) → g.Listed st t rs → ⊥
  bad_not_listed (inl x) rs z = no_ranges (sym (slips st ok x) ∙ complete st ok z)
  bad_not_listed (inr x) rs z = no_ranges (sym (huge_ones st ok x) ∙ complete st ok z)
