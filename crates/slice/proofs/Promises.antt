-- The promises of specs/Promises.
use mathlib.Core.Path.{◌≡◌, refl, sym, ap, ap₂, ◌∙◌, subst}
use mathlib.Core.Bool.{Bool, true, not, ◌&&◌}
use mathlib.Core.Logic.{◌⊎◌, inl, inr}
use Prim.Native.Nat.{ℕ, ◌+◌, ◌-◌, ◌*◌, ◌≤◌, ◌<◌}
use native.Mathlib.Omega.{arith}
use lib.ListN.{length, get_or, take}
use lib.Dec.{ltb, leb, eqb}
use borrow.Author.Tests.{lt-ltb, le-ltb, le-leb, lt-leb, eq-eqb, ne_eqb, eqb-false, not-true}
use Rattle.word.specs.Sets.{choose}
use Rattle.word.specs.Places.{bit, pack}
use Rattle.word.proofs.Cases.{by_lt, by_eq, and-false}
use Rattle.word.proofs.Places.{bit_past, bit-pack, pack-lt}
use Rattle.word.proofs.Sets.{top}
use Rattle.arch.specs.Scans.{nonzero_len}
use Rattle.storage.specs.Refusals.{number_of, answer_number, amount_value, truth_value}
use Rattle.storage.specs.Stores.{Bits, Bounded, Outcome, refused, done}
use Rattle.storage.specs.Promises.{HandsNone, Tests}
use Rattle.storage.specs.declared.Refusal.{Refusal}
use Rattle.storage.specs.declared.Refusal.TheVariants.{WidthOver, PastLength}
use Rattle.storage.proofs.Outcomes.{same, never, which}
use Rattle.storage.proofs.Promises.{amount-call, truth-call, both_means, tests}
use Rattle.slice.specs.Slices.{front_part, equal, field_at, with_field, setting_field_inside}
use Rattle.slice.specs.Promises.{GetMeans, FieldDigits, GetFieldMeans, EqMeans, EqualWords, FieldWritten, FieldRefused, SetFieldStrict, TrimmedMeans}
use Rattle.slice.proofs.Equals.{equal_of_same, same_of_equal, same_of_front, front_of_same, length_front, zero-past}
use Rattle.storage.specs.Refusals.{Amount}
use Rattle.std.specs.Prelude.{Ok, Err}

-- ---- what a call answers, from what it makes of a bitmap

pub get_means : GetMeans
get_means i =
    truth-call (λ s. Ok (s.members i)) (λ b. Tests (b.members i ≡ true))
    (λ b bounded. tests (b.members i ≡ true) (b.members i) (λ e. e) (λ e. e))

-- ---- equality

pub equal_words : EqualWords
equal_words ws os n m hn hm f g = (front_of_same ws os n m hn hm f g, same_of_front ws os n m hn hm)

pub eq_means : EqMeans
eq_means =
    both_means Err (λ s t. Ok (equal s t)) (λ r. HandsNone (answer_number r) (truth_value r))
    (λ b o r. Tests ((i : ℕ) → b.members i ≡ o.members i) (answer_number r) (truth_value r)) (λ e. (refl, refl))
    (λ b o bb bo. tests ((i : ℕ) → b.members i ≡ o.members i) (equal b o) (same_of_equal b o bb bo) (equal_of_same b o))

-- ---- fields

field-digits : (i width : ℕ) (b : Bits) → FieldDigits i width b (answer_number (field_at i width b)) (amount_value (field_at i width b))
unfolding field_at
field-digits i width b =
    by_lt 64 width
    (λ h. subst is (sym (ap (λ (t : Bool). choose t (Err WidthOver) (Ok (pack width s))) (lt-ltb 64 width h))) (inr (refl, refl, h)))
    (λ h.
    subst is (sym (ap (λ (t : Bool). choose t (Err WidthOver) (Ok (pack width s))) (le-ltb 64 width h)))
    (inl (refl, h, bit-pack width s, λ j l. bit_past (pack width s) width j (pack-lt width s) l)))
  where
    is : Amount → Type 0
    is a = FieldDigits i width b (answer_number a) (amount_value a)

    s : ℕ → Bool
    s j = b.members (i + j)

pub get_field_means : GetFieldMeans
get_field_means i width =
    amount-call (field_at i width) (FieldDigits i width) (λ b bounded. field-digits i width b)

module _ (i value width : ℕ) (b : Bits) where
  written_inside : 0 < width → width ≤ 64 → i + width ≤ 64 * b.count → FieldWritten i value width b (with_field i value width b)
  unfolding with_field
  written_inside p h inside = record {
    wide = h;
    inside = inr inside;
    none = λ e. absurd (omega arith);
    count = refl;
    field = λ j l.
        ap₂ (λ (s t : Bool). choose (s && t) (bit value (i + j - i)) (b.members (i + j))) (le-leb i (i + j) (omega arith)) (lt-ltb (i + j) (i + width) (omega arith))
        ∙ ap (bit value) (omega arith);
    below = λ p l. ap (λ (s : Bool). choose (s && ltb p (i + width)) (bit value (p - i)) (b.members p)) (lt-leb i p l);
    above = λ p l.
        ap (λ (t : Bool). choose (leb i p && t) (bit value (p - i)) (b.members p)) (le-ltb p (i + width) l)
        ∙ ap (λ (t : Bool). choose t (bit value (p - i)) (b.members p)) (and-false (leb i p));
  }

  written_none : width ≡ 0 → FieldWritten i value width b b
  written_none e = record {
    wide = omega arith;
    inside = inl e;
    none = λ e. refl;
    count = refl;
    field = λ j l. absurd (omega arith);
    below = λ p l. refl;
    above = λ p l. refl;
  }

  -- the outcome by its two tests and the end of the field
  by_field : (c : ℕ) (P : Outcome → Type 0) → (64 < width → P (refused WidthOver)) → (width ≡ 0 → P (done b))
      → (0 < width → width ≤ 64 → 64 * b.count < i + width → P (refused PastLength))
      → (0 < width → width ≤ 64 → i + width ≤ 64 * b.count → P (done (with_field i value width b))) → P (setting_field_inside i value width c b)
  unfolding setting_field_inside
  by_field c P wide none past inside =
      by_lt 64 width
      (λ h. rw (lt-ltb 64 width h) (wide h))
      (λ h. by_eq width 0
      (λ e. rw (le-ltb 64 width h, eq-eqb width 0 e) (none e))
      (λ e. by_lt (64 * b.count) (i + width)
      (λ l. rw (le-ltb 64 width h, ne_eqb width 0 e, lt-ltb (64 * b.count) (i + width) l) (past (omega arith) h l))
      (λ l. rw (le-ltb 64 width h, ne_eqb width 0 e, le-ltb (64 * b.count) (i + width) l) (inside (omega arith) h l))))

  field_made : (c : ℕ) (s : Bits) → setting_field_inside i value width c b ≡ done s → FieldWritten i value width b s
  field_made c s =
      by_field c (λ o. o ≡ done s → FieldWritten i value width b s)
      (λ h q. absurd (never (sym q)))
      (λ e q. subst (FieldWritten i value width b) (same q) (written_none e))
      (λ p h l q. absurd (never (sym q)))
      (λ p h l q. subst (FieldWritten i value width b) (same q) (written_inside p h l))

  field_why : (c : ℕ) (e : Refusal) → setting_field_inside i value width c b ≡ refused e → FieldRefused i width b (number_of e)
  field_why c e =
      by_field c (λ o. o ≡ refused e → FieldRefused i width b (number_of e))
      (λ h q. inl (sym (ap number_of (which q)), h))
      (λ z q. absurd (never q))
      (λ p h l q. inr (sym (ap number_of (which q)), p, h, l))
      (λ p h l q. absurd (never q))

  field_bounded : (s : Bits) → FieldWritten i value width b s → Bounded b → Bounded s
  field_bounded s f bounded =
      by_eq width 0
      (λ e. subst Bounded (sym (f.none e)) bounded)
      (λ z. record { past = λ p m. f.above p (omega (arith, f.count, inside z f.inside)) ∙ bounded.past p (omega (arith, f.count)) })
    where
      inside : (width ≡ 0 → ⊥) → (width ≡ 0) ⊎ (i + width ≤ 64 * b.count) → i + width ≤ 64 * b.count
      inside z (inl e) = absurd (z e)
      inside z (inr h) = h

pub set_field_strict : SetFieldStrict
set_field_strict i value width = record {
  made = λ c b. field_made i value width b c;
  contained = record {
    space = λ c b s h l q. omega (arith, (field_made i value width b c s q).count);
    bound = λ c b s h l q. field_bounded i value width b s (field_made i value width b c s q) h;
  };
  why = λ c b. field_why i value width b c;
}

-- ---- the front part

pub front_of : TrimmedMeans
unfolding front_part nonzero_len
front_of ws = record {
  front = ap (λ (m : ℕ). take m ws) (sym (length_front ws));
  last = λ k e. eqb-false (get_or ws k 0) 0 (not-true (eqb (get_or ws k 0) 0) ((top (λ k. not (eqb (get_or ws k 0) 0)) (length ws)).last k (e ∙ length_front ws)));
  after = λ k h. zero-past ws k (omega (arith, length_front ws));
}
