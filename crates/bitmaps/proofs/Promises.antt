-- The promises of specs/Promises.
use mathlib.Core.Path.{◌≡◌, refl, sym, ap, ap₂, ◌∙◌, subst}
use mathlib.Core.Bool.{Bool, true, false, not, ◌&&◌, ◌||◌, false≢true}
use mathlib.Core.Logic.{◌⊎◌, inl, inr}
use Prim.Native.Nat.{ℕ, suc, ◌+◌, ◌-◌, ◌*◌, ◌/◌, ◌%◌, ◌^◌, ◌<◌, max}
use native.Mathlib.Omega.{arith}
use lib.ListN.{get_or}
use lib.Dec.{ltb, leb, eqb}
use borrow.Author.Tests.{lt-ltb, le-ltb, le-leb, lt-leb, eq-eqb, ne_eqb}
use Rattle.word.specs.Sets.{choose, xorb}
use Rattle.word.specs.Places.{bit, word_of}
use Rattle.word.proofs.Cases.{by_lt, by_eq, by_test, or-false, and-false, and-keep, or-true, xor-true, xor-false}
use Rattle.word.proofs.Lists.{word_none, word-zero}
use Rattle.storage.specs.Refusals.{number_of}
use Rattle.storage.specs.Stores.{Bits, done, flipped, trimmed}
use Rattle.storage.specs.Promises.{LeastCount}
use Rattle.storage.proofs.Checks.{within_done}
use Rattle.storage.proofs.Outcomes.{same, never, which, lacks, meets_nothing}
use Rattle.storage.proofs.Promises.{least_count}
use Rattle.bitmaps.specs.Bitmaps.{trimming, setting, without, unsetting, is_listed, reach_of, setting_many, setting_region, setting_field, tidied, alone, keeping_bit, dropping_bit, flipping_bit}
use Rattle.bitmaps.specs.Promises.{WithBit, WithListed, WithoutBit, Fewest, WithRegion, WithField, Tidied, Tidies, FlippedBit, Sets, SetsMany}
use Rattle.bitmaps.specs.Promises.{Unsets, Trims, Regions, SetsNoRegion, FieldsSet, FieldUnchanged, KeepsBit, DropsBit, FlipsBit}
use Rattle.bitmaps.proofs.Cases.{reach_in, reach_who, reach_under, listed_at, listed_who}
use Rattle.bitmaps.proofs.Contained.{contained_setting, contained_setting_many, contained_unsetting, contained_trimming, contained_setting_region, contained_setting_field, contained_keeping, contained_dropping, contained_flipping}
use Rattle.bitmaps.proofs.Cases.{region_none, region-over, region-put}
use Rattle.bitmaps.proofs.Cases.{zero_digit_lem, no_digits, some_at, field-wide, field-over, field_put}

pub sets : Sets
unfolding setting
sets i = record {
  made = λ c b s e.
      subst (WithBit i b) (within_done c _ s e).0
      (record {
        count = refl;
        here = ap (λ (t : Bool). b.members i || t) (eq-eqb i i refl) ∙ or-true (b.members i);
        others = λ j n. ap (λ (t : Bool). b.members j || t) (ne_eqb j i n) ∙ or-false (b.members j);
      });
  contained = contained_setting i;
  why = λ c b e q. lacks c _ e q;
}

pub sets_many : SetsMany
unfolding setting_many
sets_many is = record {
  made = λ c b s e.
      subst (WithListed is b) (within_done c _ s e).0
      (record {
        all = λ t l. ap (λ (x : Bool). b.members (get_or is t 0) || x) (listed_at is t l) ∙ or-true (b.members (get_or is t 0));
        kept = λ j h. ap (λ (x : Bool). x || is_listed is j) h;
        only = λ j h. by_test (b.members j) (λ y. inl y) (λ n. inr (listed_who is j (sym (ap (λ (x : Bool). x || is_listed is j) n) ∙ h)));
        from = omega arith;
        reached = λ t l. omega (arith, reach_in is t l);
        least = λ n h r. omega (arith, reach_under is n r);
      });
  contained = contained_setting_many is;
  why = λ c b e q.
      let r = lacks c (record { members = λ j. b.members j || is_listed is j; count = max b.count (reach_of is) }) e q in
      (r.0, by_lt c b.count (λ l. inl l) (λ l. inr (reach_who is c (omega (arith, r.1)))));
}

removes : (i : ℕ) (b : Bits) → WithoutBit i b (without i b)
removes i b = record {
  count = refl;
  here = ap (λ (t : Bool). b.members i && not t) (eq-eqb i i refl) ∙ and-false (b.members i);
  others = λ j n. ap (λ (t : Bool). b.members j && not t) (ne_eqb j i n) ∙ and-keep (b.members j);
}

pub unsets : Unsets
unfolding unsetting
unsets i = record {
  made = λ c b s e. subst (WithoutBit i b) (same e) (removes i b);
  contained = contained_unsetting i;
  why = λ c b e q. never q;
}

pub trims : Trims
unfolding trimming
trims = record {
  made = λ c b s e. subst (Fewest b) (same e) (record { same = λ i. refl; count = least_count b.members b.count });
  contained = contained_trimming;
  why = λ c b e q. never q;
}

-- ---- a region of k > 0 numbers

region_rule : (i : ℕ) (v : Bool) (k : ℕ) (b : Bits)
    → WithRegion i v k b (record { members = λ p. choose (leb i p && ltb p (i + k)) v (b.members p); count = choose v (max b.count ((i + k - 1) / 64 + 1)) b.count })
region_rule i v k b = record {
  inside = λ j p q. ap₂ (λ (s t : Bool). choose (s && t) v (b.members j)) (le-leb i j p) (lt-ltb j (i + k) q);
  before = λ j p. ap (λ (s : Bool). choose (s && ltb j (i + k)) v (b.members j)) (lt-leb i j p);
  after = λ j p.
      ap (λ (t : Bool). choose (leb i j && t) v (b.members j)) (le-ltb j (i + k) p)
      ∙ ap (λ (t : Bool). choose t v (b.members j)) (and-false (leb i j));
  grown = λ last e t.
      ap (λ (x : Bool). choose x (max b.count ((i + k - 1) / 64 + 1)) b.count) t
      ∙ ap (λ (x : ℕ). max b.count (x / 64 + 1)) (omega arith);
  kept = λ t. ap (λ (x : Bool). choose x (max b.count ((i + k - 1) / 64 + 1)) b.count) t;
}

-- 4 exactly where the last index passes 2 ^ 64 - 1, then 6 for lack of space; k 0 does nothing, whatever i
pub regions : Regions
regions i v k some = record {
  made = λ c b s e.
      by_lt (2 ^ 64) (i + k)
      (λ h. absurd (never (sym e ∙ region-over i k c v b some h)))
      (λ h. (h, subst (WithRegion i v k b) (within_done c _ s (sym (region-put i k c v b some h) ∙ e)).0 (region_rule i v k b)));
  contained = contained_setting_region i v k;
  why = λ c b e q.
      by_lt (2 ^ 64) (i + k)
      (λ h. inl (ap number_of (which (sym q ∙ region-over i k c v b some h)), h))
      (λ h. let l = lacks c _ e (sym (region-put i k c v b some h) ∙ q) in inr (l.0, h, short c b v l.1));
}
  where
    short : (c : ℕ) (b : Bits) (t : Bool) → c < choose t (max b.count ((i + k - 1) / 64 + 1)) b.count → (c < b.count) ⊎ ((t ≡ true) × (64 * c < i + k))
    short c b true h = by_lt c b.count (λ l. inl l) (λ l. inr (refl, omega arith))
    short c b false h = inl h

pub region-nothing : (i : ℕ) (v : Bool) (c : ℕ) (b : Bits) → setting_region i v 0 c b ≡ done b
region-nothing i v c b = region_none i 0 c v b refl

pub region_unchanged : SetsNoRegion
region_unchanged i v = meets_nothing (setting_region i v 0) (region-nothing i v)

-- ---- a field of width > 0

field_rule : (i value width : ℕ) (b : Bits)
    → WithField i value width b
    (record {
      members = λ p. choose (leb i p && ltb p (i + width)) (bit value (p - i)) (b.members p);
      count = choose (eqb (value % 2 ^ width) 0) b.count (max b.count ((i + width - 1) / 64 + 1));
    })
field_rule i value width b = record {
  inside = λ j l.
      ap₂ (λ (s t : Bool). choose (s && t) (bit value (i + j - i)) (b.members (i + j))) (le-leb i (i + j) (omega arith)) (lt-ltb (i + j) (i + width) (omega arith))
      ∙ ap (bit value) (omega arith);
  before = λ p l. ap (λ (s : Bool). choose (s && ltb p (i + width)) (bit value (p - i)) (b.members p)) (lt-leb i p l);
  after = λ p l.
      ap (λ (t : Bool). choose (leb i p && t) (bit value (p - i)) (b.members p)) (le-ltb p (i + width) l)
      ∙ ap (λ (t : Bool). choose t (bit value (p - i)) (b.members p)) (and-false (leb i p));
  kept = λ none. ap (λ (t : Bool). choose t b.count (max b.count ((i + width - 1) / 64 + 1))) (eq-eqb (value % 2 ^ width) 0 (no_digits value width none));
  grown = λ j last l y e.
      ap (λ (t : Bool). choose t b.count (max b.count ((i + width - 1) / 64 + 1)))
      (ne_eqb (value % 2 ^ width) 0 (λ z. false≢true (sym (zero_digit_lem value width z j l) ∙ y)))
      ∙ ap (λ (x : ℕ). max b.count (x / 64 + 1)) (omega arith);
}

-- 3, 4 and 6 exactly; width 0 does nothing, whatever i
pub fields : FieldsSet
fields i value width n = record {
  made = λ c b s e.
      by_lt 64 width
      (λ h. absurd (never (sym e ∙ field-wide i value width c b h)))
      (λ h. by_lt (2 ^ 64) (i + width)
      (λ l. absurd (never (sym e ∙ field-over i value width c b h n l)))
      (λ l. (h, l, subst (WithField i value width b) (within_done c _ s (sym (field_put i value width c b h n l) ∙ e)).0 (field_rule i value width b))));
  contained = contained_setting_field i value width;
  why = λ c b e q.
      by_lt 64 width
      (λ h. inl (ap number_of (which (sym q ∙ field-wide i value width c b h)), h))
      (λ h. by_lt (2 ^ 64) (i + width)
      (λ l. inr (inl (ap number_of (which (sym q ∙ field-over i value width c b h n l)), h, l)))
      (λ l. let x = lacks c _ e (sym (field_put i value width c b h n l) ∙ q) in inr (inr (x.0, h, l, short c b x.1))));
}
  where
    short : (c : ℕ) (b : Bits) → c < choose (eqb (value % 2 ^ width) 0) b.count (max b.count ((i + width - 1) / 64 + 1))
        → (c < b.count) ⊎ (j : ℕ) × ((j < width) × (bit value j ≡ true) × (64 * c < i + width))
    short c b h =
        by_lt c b.count (λ l. inl l)
        (λ l. by_eq (value % 2 ^ width) 0
        (λ z. absurd (omega (arith, subst (λ (t : Bool). c < choose t b.count (max b.count ((i + width - 1) / 64 + 1))) (eq-eqb (value % 2 ^ width) 0 z) h)))
        (λ some.
        let d = some_at value width some in
        inr (d.0, (d.1, d.2, omega (arith, subst (λ (t : Bool). c < choose t b.count (max b.count ((i + width - 1) / 64 + 1))) (ne_eqb (value % 2 ^ width) 0 some) h)))))

pub field-nothing : (i value c : ℕ) (b : Bits) → setting_field i value 0 c b ≡ done b
unfolding setting_field
field-nothing i value c b = refl

pub field_unchanged : FieldUnchanged
field_unchanged i value = meets_nothing (setting_field i value 0) (field-nothing i value)

-- ---- one word worked on, and tidied

pub tidies : Tidies
unfolding tidied
tidies k t = record {
  same = λ j. either_members j test;
  trims = λ e none.
      subst (LeastCount t.members t.count)
      (sym (ap (λ (x : Bool). (choose x (trimmed t) t).count) (ap₂ (λ (x y : Bool). x && y) (eq-eqb (suc k) t.count e) (eq-eqb (word_of t.members k) 0 (empty none)))))
      (least_count t.members t.count);
  not_last = λ n. ap (λ (x : Bool). (choose (x && eqb (word_of t.members k) 0) (trimmed t) t).count) (ne_eqb (suc k) t.count n);
  not-empty = λ j e m.
      ap (λ (x : Bool). (choose (eqb (suc k) t.count && x) (trimmed t) t).count) (ne_eqb (word_of t.members k) 0 (λ z. full j e m z))
      ∙ ap (λ (x : Bool). (choose x (trimmed t) t).count) (and-false (eqb (suc k) t.count));
}
  where
    test : Bool
    test = eqb (suc k) t.count && eqb (word_of t.members k) 0

    either_members : (j : ℕ) (x : Bool) → (choose x (trimmed t) t).members j ≡ t.members j
    either_members j true = refl
    either_members j false = refl

    empty : ((j : ℕ) → j / 64 ≡ k → t.members j ≡ false) → word_of t.members k ≡ 0
    empty none = word_none t.members k (λ j l. none (64 * k + j) (omega arith))

    full : (j : ℕ) → j / 64 ≡ k → t.members j ≡ true → word_of t.members k ≡ 0 → ⊥
    full j e m z = false≢true (sym (word-zero t.members k (j % 64) z (omega arith)) ∙ ap t.members (omega arith) ∙ m)

pub keeps_bit : KeepsBit
unfolding keeping_bit
keeps_bit i = record {
  made = λ c b s e. (
    alone i b,
    record {
      count = refl;
      here =
          ap (λ (t : Bool). b.members i && (not (eqb (i / 64) (i / 64)) || t)) (eq-eqb i i refl) ∙ ap (λ (t : Bool). b.members i && t) (or-true (not (eqb (i / 64) (i / 64))))
          ∙ and-keep (b.members i);
      word = λ j p n.
          ap₂ (λ (x y : Bool). b.members j && (not x || y)) (eq-eqb (j / 64) (i / 64) p) (ne_eqb j i n) ∙ and-false (b.members j);
      others = λ j n. ap (λ (x : Bool). b.members j && (not x || eqb j i)) (ne_eqb (j / 64) (i / 64) n) ∙ and-keep (b.members j);
    },
    subst (Tidied (i / 64) _) (same e) (tidies (i / 64) _),
  );
  contained = contained_keeping i;
  why = λ c b e q. never q;
}

pub drops_bit : DropsBit
unfolding dropping_bit
drops_bit i = record {
  made = λ c b s e. (without i b, removes i b, subst (Tidied (i / 64) _) (same e) (tidies (i / 64) _));
  contained = contained_dropping i;
  why = λ c b e q. never q;
}

flips : (i : ℕ) (b : Bits) → FlippedBit i b (flipped i b)
flips i b = record {
  count = refl;
  here = ap (xorb (b.members i)) (eq-eqb i i refl) ∙ xor-true (b.members i);
  others = λ j n. ap (xorb (b.members j)) (ne_eqb j i n) ∙ xor-false (b.members j);
}

pub flips_bit : FlipsBit
unfolding flipping_bit
flips_bit i = record {
  made = λ c b s e. (flipped i b, flips i b, subst (Tidied (i / 64) _) (within_done c _ s e).0 (tidies (i / 64) _));
  contained = contained_flipping i;
  why = λ c b e q. let l = lacks c _ e q in (l.0, (tidied (i / 64) (flipped i b), (flipped i b, flips i b, tidies (i / 64) _), l.1));
}
