-- The promises of specs/Promises.
use mathlib.Core.Path.{◌≡◌, refl, sym, ap, ◌∙◌, subst}
use mathlib.Core.Logic.{◌⊎◌, inl, inr}
use mathlib.Core.Bool.{Bool, true, false, ◌&&◌, ◌||◌, false≢true}
use mathlib.Core.List.{List, [], ◌∷◌, ◌++◌, append_assoc, append-nil}
use Prim.Native.Nat.{ℕ, zero, suc, ◌+◌, ◌≤◌, min, max}
use native.Mathlib.Omega.{arith}
use lib.Dec.{ltb, leb}
use lib.ListN.{length}
use borrow.Author.Tests.{ltb-true, ltb-false, leb-true}
use Rattle.word.proofs.Cases.{by_lt, by_test, and-true, or-true}
use Rattle.storage.specs.Refusals.{number_of, change_number}
use Rattle.storage.specs.Guards.{Passed}
use Rattle.storage.specs.Stores.{Bits, Bounded, Outcome, refused, done, held, answer, Changes}
use Rattle.storage.specs.declared.Bitmap.{Bitmap}
use Rattle.storage.specs.Promises.{Contained}
use Rattle.storage.proofs.Checks.{within_ok, within_no}
use Rattle.storage.proofs.Stores.{outcome_ok}
use Rattle.style.specs.Styles.{allowed}
use Rattle.style.specs.Promises.{Allowed}
use Rattle.style.specs.declared.Style.{Style}
use Rattle.style.proofs.Promises.{styles_mean}
use Rattle.text.specs.Lists.{plain, Range, covers, highest}
use Rattle.text.specs.Grammar as g
use Rattle.text.specs.Faults.{digits, Huge as HugeNumber, above, HugeToken, single, left, right, only, here, later, NumberOver, NotList}
use Rattle.text.specs.Readings.{Parsed, too_large, no_list, ranges, parse, union, reading_list}
use Rattle.text.specs.declared.Fault.TheVariants.{Slip, Huge}
use Rattle.text.specs.Promises.{ReadsGrammar, ReadsNumbers, WholeNumbers, NoList, TellsApart, Shows, ShowsHuge, Within, Union, High, ListRead, ListRefused, ReadsList, RefusesStyle}
use Rattle.text.proofs.Steps.{bit_below, bit-over}
use Rattle.text.proofs.Accepts.{complete, no_number, broken, parted}
use Rattle.text.proofs.Grammar.{Fate, listed, slip, over, fate, correct, slip_correct, huge_correct, slip_not_huge, bad_not_listed}
use Rattle.text.proofs.Refuses.{slips, huge_ones}
use Rattle.text.proofs.Marks.{between_marks, between_in}
use Rattle.text.proofs.Taken.{list_no_style, list-not-plain, list_is}
use Rattle.storage.specs.Refusals.{Change}

-- ---- the grammar

pub reads_grammar : ReadsGrammar
reads_grammar = record {
  accepted = λ y ok t rs. (complete y ok, correct y ok t rs);
  slip = λ y ok t. (slips y ok, slip_correct y ok t);
  huge = λ y ok t. (huge_ones y ok, huge_correct y ok t);
}

pub tells_apart : TellsApart
tells_apart y ok t = record {
  one = one (fate y ok t);
  apart = slip_not_huge y ok;
  together = (bad_not_listed y ok, λ f. bad f (fate y ok t));
}
  where
    one : Fate y ok t → ((rs : List Range) × g.Listed y t rs) ⊎ (NotList y t ⊎ NumberOver y t)
    one (listed rs x) = inl (rs, x)
    one (slip x) = inr (inl x)
    one (over x) = inr (inr x)

    bad : NoList (g.Listed y) t → Fate y ok t → NotList y t ⊎ NumberOver y t
    bad f (listed rs x) = absurd (f rs x)
    bad f (slip x) = inl x
    bad f (over x) = inr x

-- ---- a number by itself

-- a number without blanks
bare : {y : Style} {d : List ℕ} {a : ℕ} → g.Digits d (a + y.first) → a ≤ 4_294_967_295 → g.Numeral y d a
bare {y} {d} {a} x h = subst (λ (t : List ℕ). g.Numeral y t a) (append-nil d) (g.number {u = []} {w = []} g.nil x g.nil h)

pub reads-numbers : ReadsNumbers
reads-numbers = record {
  bit = λ y ok x h. complete y ok (g.last (g.single (bare x h)));
  below = λ y ok {d} {v} x l. no_number y ok Slip x (bit_below y.first (min too_large v) (omega (arith, l)));
  above = λ y ok {d} {v} x l. no_number y ok Huge x (bit-over y.first (min too_large v) (omega (arith, l)) (omega (arith, l, ok.first)));
}

pub whole_numbers : WholeNumbers
whole_numbers = record { broken = λ y ok x. broken y ok x; parted = λ y ok x. parted y ok x }

-- ---- the ranges as a set

pub covers-within : (rs : List Range) (i : ℕ) → covers rs i ≡ true → Within rs i
unfolding covers
covers-within [] i e = absurd (false≢true e)
covers-within (r ∷ rs) i e =
    by_test (between_marks r.low r.high i)
    (λ f.
    let a = and-true (leb r.low i) (leb i r.high) f in
    inl (leb-true r.low i a.0, leb-true i r.high a.1))
    (λ f. inr (covers-within rs i (sym (ap (λ (t : Bool). t || covers rs i) f) ∙ e)))

pub within-covers : (rs : List Range) (i : ℕ) → Within rs i → covers rs i ≡ true
unfolding covers
within-covers [] i w = absurd w
within-covers (r ∷ rs) i (inl w) = ap (λ (t : Bool). t || covers rs i) (between_in r.low r.high i w.0 w.1)
within-covers (r ∷ rs) i (inr w) = ap (λ (t : Bool). between_marks r.low r.high i || t) (within-covers rs i w) ∙ or-true (between_marks r.low r.high i)

within-highest : (rs : List Range) (i : ℕ) → Within rs i → i ≤ highest rs
unfolding highest
within-highest [] i w = absurd w
within-highest (r ∷ rs) i (inl w) = omega (arith, w.1)
within-highest (r ∷ rs) i (inr w) = omega (arith, within-highest rs i w)

-- one range or more, each with a number in it
data Good : List Range → Type 0 where
  one : {r : Range} → r.low ≤ r.high → Good (r ∷ [])
  also : {r : Range} {rs : List Range} → r.low ≤ r.high → Good rs → Good (r ∷ rs)

token_good : {y : Style} {t : List ℕ} {r : Range} → g.Token y t r → r.low ≤ r.high
token_good (g.single x) = omega arith
token_good (g.pair x y h) = h

listed_good : {y : Style} {t : List ℕ} {rs : List Range} → g.Listed y t rs → Good rs
listed_good (g.last x) = one (token_good x)
listed_good (g.ended x b) = one (token_good x)
listed_good (g.more x l) = also (token_good x) (listed_good l)

highest-within : (rs : List Range) → Good rs → Within rs (highest rs)
unfolding highest
highest-within [] x' = elim x' [ ]
highest-within (r ∷ []) (one h) = inl (omega arith, omega arith)
highest-within (r ∷ rs) (also h k) =
    by_lt (highest rs) r.high
    (λ l. inl (omega arith, omega arith))
    (λ l. let e : highest rs ≡ max r.high (highest rs) = omega arith in inr (subst (Within rs) e (highest-within rs k)))

union_is : (rs : List Range) → Good rs → Union rs (union rs)
union_is rs h = record {
  members = λ i. (within-covers rs i, covers-within rs i);
  holds = λ i w. omega (arith, within-highest rs i w);
  least = λ n f. omega (arith, f (highest rs) (highest-within rs h));
}

-- ---- reading a list

plain_high : (t : List ℕ) → plain t ≡ false → High t
unfolding plain
plain_high [] e = absurd (false≢true (sym e))
plain_high (c ∷ t) e =
    by_test (ltb c 128)
    (λ f. let k = plain_high t (sym (ap (λ (x : Bool). x && plain t) f) ∙ e) in (suc k.0, omega (arith, k.1), k.2))
    (λ f. (0, omega arith, ltb-false c 128 f))

plain_low : (t : List ℕ) → plain t ≡ true → High t → ⊥
unfolding plain
plain_low [] e (k, l, h) = omega arith
plain_low (c ∷ t) e (zero, l, h) = omega (arith, ltb-true c 128 (and-true (ltb c 128) (plain t) e).0)
plain_low (c ∷ t) e (suc k, l, h) = plain_low t (and-true (ltb c 128) (plain t) e).1 (k, omega arith, h)

-- an allowed style, and one that is not
is_allowed : (y : Style) → allowed y ≡ true → Allowed y
is_allowed y e = (styles_mean y).1 e

not-allowed : (y : Style) → allowed y ≡ false → Allowed y → ⊥
not-allowed y e ok = false≢true (sym e ∙ (styles_mean y).0 ok)

-- what becomes of a text
abbrev Ends : Style → List ℕ → ℕ → Outcome → Type 0
Ends y t c (done s) = ListRead y t c s s × (s.count ≤ c)
Ends y t c (refused e) = ListRefused y t c (union []) (number_of e)

module _ (y : Style) (t : List ℕ) (c : ℕ) (b : Bits) where
  -- a list in an allowed style
  low : allowed y ≡ true → plain t ≡ true → (High t → ⊥) → (p : Parsed) → parse y t ≡ p → Ends y t c (reading_list y t c b)
  low a e h (no_list Slip) f =
      let ok = is_allowed y a in
      subst (Ends y t c) (sym (list_is y t c b (no_list Slip) a e f)) (inr (ok, inr (h, inl (refl, slip_correct y ok t f))))
  low a e h (no_list Huge) f =
      let ok = is_allowed y a in
      subst (Ends y t c) (sym (list_is y t c b (no_list Huge) a e f)) (inr (ok, inr (h, inr (inl (refl, huge_correct y ok t f)))))
  low a e h (ranges rs) f =
      let ok = is_allowed y a in
      let x : g.Listed y t rs = correct y ok t rs f in
      by_lt c (union rs).count
      (λ l. subst (Ends y t c) (sym (list_is y t c b (ranges rs) a e f ∙ within_no c (union rs) l))
      (inr (ok, inr (h, inr (inr (refl, (rs, x, (highest rs, highest-within rs (listed_good x), omega arith))))))))
      (λ l. subst (Ends y t c) (sym (list_is y t c b (ranges rs) a e f ∙ within_ok c (union rs) l))
      ((ok, (h, (rs, x, union_is rs (listed_good x)))), l))

  end : Ends y t c (reading_list y t c b)
  end =
      by_test (allowed y)
      (λ a.
      by_test (plain t)
      (λ e. low a e (plain_low t e) (parse y t) refl)
      (λ e. subst (Ends y t c) (sym (list-not-plain y t c b a e)) (inr (is_allowed y a, inl (refl, plain_high t e)))))
      (λ a. subst (Ends y t c) (sym (list_no_style y t c b a)) (inl (refl, not-allowed y a)))

pub contained_list : (y : Style) (t : List ℕ) → Contained (reading_list y t)
contained_list y t = record {
  space = λ c b s h l e. (subst (Ends y t c) e (end y t c b)).1;
  bound = λ c b s h l e. let q = (subst (Ends y t c) e (end y t c b)).0.1.1 in bounded q.0 s q.2;
}
  where
    bounded : (rs : List Range) (s : Bits) → Union rs s → Bounded s
    bounded rs s u =
        record { past = λ i k. by_test (s.members i) (λ e. absurd (omega (arith, u.holds i ((u.members i).1 e)))) (λ e. e) }

pub reads-list : ReadsList
reads-list y t = record {
  made = λ c b s e. (subst (Ends y t c) e (end y t c b)).0;
  contained = contained_list y t;
  why = λ c b d e. subst (Ends y t c) e (end y t c b);
}

-- ---- the call, where neither 1 nor 2 applies

answer_is : (y : Style) (t ws ws' : List ℕ) (b : Bitmap) (r : Change) → Passed ws b → Changes (reading_list y t) ws b r ws' → r ≡ answer (reading_list y t (length ws) (held ws b)) b
answer_is y t ws ws' b r p c = c.answers ∙ ap (λ (o : Outcome). answer o b) (outcome_ok (reading_list y t) ws b p)

pub refuses_style : RefusesStyle
unfolding answer
refuses_style y t ws ws' b r p c = (
  λ f. refused_15 f,
  λ e. only_15 (reading_list y t (length ws) (held ws b)) (end y t (length ws) (held ws b)) (sym (ap change_number (answer_is y t ws ws' b r p c)) ∙ e),
)
  where
    refused_15 : (Allowed y → ⊥) → change_number r ≡ 15
    refused_15 f =
        by_test (allowed y)
        (λ a. absurd (f (is_allowed y a)))
        (λ a. ap change_number (answer_is y t ws ws' b r p c ∙ ap (λ (o : Outcome). answer o b) (list_no_style y t (length ws) (held ws b) a)))

    only_15 : (o : Outcome) → Ends y t (length ws) o → change_number (answer o b) ≡ 15 → Allowed y → ⊥
    only_15 (done s) f e ok = omega (arith, e)
    only_15 (refused d) (inl q) e ok = q.1 ok
    only_15 (refused d) (inr (a, inl q)) e ok = omega (arith, e, q.0)
    only_15 (refused d) (inr (a, inr (h, inl q))) e ok = omega (arith, e, q.0)
    only_15 (refused d) (inr (a, inr (h, inr (inl q)))) e ok = omega (arith, e, q.0)
    only_15 (refused d) (inr (a, inr (h, inr (inr q)))) e ok = omega (arith, e, q.0)

-- ---- a huge number stands in the text

module _ (y : Style) where
  number_shows : {t : List ℕ} → HugeNumber y t → Shows y t
  number_shows (above {v = v} (digits {u = u} {d = d} {w = w} b x c) h) =
      record { front = u; digits = d; back = w; number = v; stand = refl; mean = x; above = h }

  -- and in what holds that text
  right_of : {t : List ℕ} → Shows y t → (u : List ℕ) → Shows y (t ++ u)
  right_of s u = record {
    front = s.front;
    digits = s.digits;
    back = s.back ++ u;
    number = s.number;
    stand = ap (λ (z : List ℕ). z ++ u) s.stand ∙ append_assoc (s.front ++ s.digits) s.back u;
    mean = s.mean;
    above = s.above;
  }

  left_of : {t : List ℕ} → Shows y t → (u : List ℕ) → Shows y (u ++ t)
  left_of s u = record {
    front = u ++ s.front;
    digits = s.digits;
    back = s.back;
    number = s.number;
    stand =
        ap (λ (z : List ℕ). u ++ z) s.stand ∙ sym (append_assoc u (s.front ++ s.digits) s.back)
        ∙ ap (λ (z : List ℕ). z ++ s.back) (sym (append_assoc u s.front s.digits));
    mean = s.mean;
    above = s.above;
  }

  token_shows : {t : List ℕ} → HugeToken y t → Shows y t
  token_shows (single x) = number_shows x
  token_shows (left x u) = right_of (number_shows x) (y.joiner ∷ u)
  token_shows (right {t = t} {u = u} x z) = subst (Shows y) (append_assoc t (y.joiner ∷ []) u) (left_of (number_shows z) (t ++ y.joiner ∷ []))

  text_shows : {t : List ℕ} → NumberOver y t → Shows y t
  text_shows (only f x) = token_shows x
  text_shows (here f x u) = right_of (token_shows x) (44 ∷ u)
  text_shows (later {t = t} {u = u} x h z) = subst (Shows y) (append_assoc t (44 ∷ []) u) (left_of (text_shows z) (t ++ 44 ∷ []))

pub shows_huge : ShowsHuge
unfolding answer
shows_huge y t ws ws' b r p c e = go (reading_list y t (length ws) (held ws b)) (end y t (length ws) (held ws b)) (sym (ap change_number (answer_is y t ws ws' b r p c)) ∙ e)
  where
    go : (o : Outcome) → Ends y t (length ws) o → change_number (answer o b) ≡ 16 → Shows y t
    go (done s) f e = absurd (omega (arith, e))
    go (refused d) (inl q) e = absurd (omega (arith, e, q.0))
    go (refused d) (inr (a, inl q)) e = absurd (omega (arith, e, q.0))
    go (refused d) (inr (a, inr (h, inl q))) e = absurd (omega (arith, e, q.0))
    go (refused d) (inr (a, inr (h, inr (inl q)))) e = text_shows y q.1
    go (refused d) (inr (a, inr (h, inr (inr q)))) e = absurd (omega (arith, e, q.0))
