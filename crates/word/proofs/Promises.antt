-- The promises of specs/Promises.
use Rattle.std.proofs.Common.{◌≡◌, ℕ, zero, suc, ◌+◌, ◌-◌, ◌*◌, ◌/◌, ◌%◌, ◌^◌, ◌<◌, ◌≤◌, Bool, true, false, not, ◌&&◌, ◌||◌, eqb, ltb, leb, ◌⊎◌, ◌↔◌, List, length, get_or, sym, refl, ap, ◌∙◌, subst, ap₂, inl, inr, true≢false, lt_of_lt_of_le, mod-lt, mod-eq_of_lt, mul_assoc, mul_comm, add-mul, one-mul, arith, ext_get_or, pow_pos, pow_mono, pow-add, le-ltb, lt-ltb, ne_eqb, le-leb, leb-true}
use borrow.Author.Tests.{eqb-false, not-true}
use lib.Arith.{lt_of_le-ne}
use lib.Pow.{pow-lt, split, high, low, ones_lt}
use Rattle.word.specs.Sets.{choose, count_below, least_from, nth, Least, Top, Counted}
use Rattle.word.specs.Places.{is_one, bit, pack, word_of, tab_from, words_of}
use Rattle.word.specs.Words.{low_mask, mirrored, without_least, low_product, funneled, pair_bit}
use Rattle.word.specs.Promises.{TestsMean, Ranked, SetsMean, HasDigit, HasDigits, BitsMean, MasksMean, WordsMean}
use Rattle.word.proofs.Cases.{by_lt, same_test, and-true, or-true}
use Rattle.word.proofs.Places.{bit_ones, bit-pack, pack-lt, pack_is}
use Rattle.word.proofs.Sets.{Nth, counts, counted, count-more, least, least_is, top, top_is, nth_is, nth_none, nth_has}
use Rattle.word.proofs.Words.{all_mask, single_is, up_out, mirrors, from_place}
use Rattle.word.proofs.Lists.{length_tab, get_d_tab, tab_is, length_words, word_at_lem, member-at, member-past}

pub tests_mean : TestsMean
tests_mean = record {
  chosen = λ A a b. refl;
  other = λ A a b. refl;
  both = refl;
  first = refl;
  second = refl;
  neither = refl;
  counts = refl;
  counts_not = refl;
  digit_0 = refl;
  digit_1 = λ d. refl;
}

-- ---- sets

count_means : (s : ℕ → Bool) (m v : ℕ) → (v ≡ count_below s m) ↔ Counted s m v
count_means s m v = ((λ e. counted s m v (sym e)), (λ c. sym (c.all (count_below s) (counts s))))

-- the member of a rank, by the definition's count
ranked : (s : ℕ → Bool) (r m p : ℕ) → Nth s r m p → Ranked s r m p
ranked s r m p n = (n.within, n.here, counted s p r n.under)

by_count : (s : ℕ → Bool) (r m p : ℕ) → Ranked s r m p → Nth s r m p
by_count s r m p c = record { within = c.0; here = c.1; under = sym ((count_means s p r).1 c.2) }

no_rank : (s : ℕ → Bool) (r m : ℕ) → count_below s m ≤ r → (q : ℕ) → ¬ Ranked s r m q
no_rank s r m h q c = let n = by_count s r m q c in omega (arith, count-more s q m n.within n.here, n.under)

rank_means : (s : ℕ → Bool) (r none m p : ℕ) → (p ≡ nth s r none m) ↔ (Ranked s r m p ⊎ ((p ≡ none) × ((q : ℕ) → ¬ Ranked s r m q)))
rank_means s r none m p = (there, back)
  where
    there : p ≡ nth s r none m → Ranked s r m p ⊎ ((p ≡ none) × ((q : ℕ) → ¬ Ranked s r m q))
    there e =
        by_lt r (count_below s m)
        (λ h. inl (subst (Ranked s r m) (sym e) (ranked s r m (nth s r none m) (nth_has s r none m h))))
        (λ h. inr (e ∙ nth_none s r none m h, no_rank s r m h))

    back : Ranked s r m p ⊎ ((p ≡ none) × ((q : ℕ) → ¬ Ranked s r m q)) → p ≡ nth s r none m
    back (inl c) = sym (nth_is s r none m p (by_count s r m p c))
    back (inr c) =
        by_lt r (count_below s m)
        (λ h. absurd (c.1 (nth s r none m) (ranked s r m (nth s r none m) (nth_has s r none m h))))
        (λ h. c.0 ∙ sym (nth_none s r none m h))

pub sets_mean : SetsMean
sets_mean = record {
  count = count_means;
  least = λ s i d p. ((λ e. subst (Least s i (i + d)) (sym e) (least s i d)), (λ l. sym (least_is s i d p l)));
  top = λ s m t. ((λ e. subst (Top s m) (sym e) (top s m)), (λ l. sym (top_is s m t l)));
  rank = rank_means;
}

-- ---- digits

-- what is above digit i, with the digit 1
with-one : (q i r : ℕ) → q * 2 ^ (i + 1) + 2 ^ i + r ≡ (q * 2 + 1) * 2 ^ i + r
with-one q i r =
    let next : 2 ^ (i + 1) ≡ 2 * 2 ^ i = pow-add 2 i 1 ∙ mul_comm (2 ^ i) 2 in
    let up : q * 2 ^ (i + 1) ≡ q * 2 * 2 ^ i = ap (λ (y : ℕ). q * y) next ∙ sym (mul_assoc q 2 (2 ^ i)) in
    omega (arith, add-mul (q * 2) 1 (2 ^ i))

digit_means : (x i : ℕ) → (bit x i ≡ true) ↔ HasDigit x i
unfolding bit
digit_means x i = (there (x / 2 ^ i % 2) refl, back)
  where
    there : (d : ℕ) → x / 2 ^ i % 2 ≡ d → is_one d ≡ true → HasDigit x i
    there zero e t = absurd (true≢false (sym t))
    there (suc d) e t =
        let up : x / 2 ^ i ≡ x / 2 ^ i / 2 * 2 + 1 = omega arith in (
          x / 2 ^ i / 2,
          x % 2 ^ i,
          sym (with-one (x / 2 ^ i / 2) i (x % 2 ^ i) ∙ ap (λ (y : ℕ). y * 2 ^ i + x % 2 ^ i) (sym up) ∙ split x i),
          mod-lt x (pow_pos i),
        )

    odd : (q : ℕ) → (q * 2 + 1) % 2 ≡ 1
    odd q = omega arith

    back : HasDigit x i → is_one (x / 2 ^ i % 2) ≡ true
    back (q, r, e, l) =
        ap (λ (y : ℕ). is_one (y / 2 ^ i % 2)) (e ∙ with-one q i r) ∙ ap (λ (y : ℕ). is_one (y % 2)) (high (q * 2 + 1) i l)
        ∙ ap is_one (odd q)

-- the number that is packed from a test
packs : (w : ℕ) (p : ℕ → Bool) (P : ℕ → Type 0) → ((i : ℕ) → i < w → (p i ≡ true) ↔ P i) → (x : ℕ) → (x ≡ pack w p) ↔ HasDigits w P x
packs w p P h x = (
  λ e. (
    subst (λ (y : ℕ). y < 2 ^ w) (sym e) (pack-lt w p),
    λ i l.
        let q : bit x i ≡ p i = ap (λ (y : ℕ). bit y i) e ∙ bit-pack w p i l in
        ((λ t. (h i l).0 (sym q ∙ t)), (λ t. q ∙ (h i l).1 t)),
  ),
  λ d. pack_is w x p d.0 (λ i l. same_test (bit x i) (p i) ((λ t. (h i l).1 ((d.1 i l).0 t)), (λ t. (d.1 i l).1 ((h i l).0 t)))),
)

word_means : (s : ℕ → Bool) (k x : ℕ) → (x ≡ word_of s k) ↔ HasDigits 64 (λ j. s (64 * k + j) ≡ true) x
unfolding word_of
word_means s k x = packs 64 (λ j. s (64 * k + j)) (λ j. s (64 * k + j) ≡ true) (λ j l. ((λ t. t), (λ t. t))) x

list_means : (i n : ℕ) (f : ℕ → ℕ) (xs : List ℕ) → (xs ≡ tab_from i n f) ↔ ((length xs ≡ n) × ((k : ℕ) → k < n → get_or xs k 0 ≡ f (i + k)))
list_means i n f xs = (
  λ e. (ap length e ∙ length_tab i n f, λ k l. ap (λ (ys : List ℕ). get_or ys k 0) e ∙ get_d_tab i n f k l),
  λ c.
      ext_get_or 0 xs (tab_from i n f) (c.0 ∙ sym (length_tab i n f))
      (λ k l. let l' : k < n = omega (arith, c.0) in c.1 k l' ∙ sym (get_d_tab i n f k l')),
)

set_means : (s : ℕ → Bool) (n : ℕ) (ws : List ℕ)
    → (ws ≡ words_of s n) ↔ ((length ws ≡ n) × ((k : ℕ) → k < n → HasDigits 64 (λ j. s (64 * k + j) ≡ true) (get_or ws k 0)))
unfolding words_of
set_means s n ws = (
  λ e. (ap length e ∙ length_words s n, λ k l. (word_means s k (get_or ws k 0)).0 (ap (λ (xs : List ℕ). get_or xs k 0) e ∙ word_at_lem s n k l)),
  λ c. tab_is n (word_of s) ws c.0 (λ k l. (word_means s k (get_or ws k 0)).1 (c.1 k l)),
)

pub bits_mean : BitsMean
bits_mean = record {
  digit = digit_means;
  packed = λ w p x. packs w p (λ i. p i ≡ true) (λ i l. ((λ t. t), (λ t. t))) x;
  word = word_means;
  place = member-at;
  past = member-past;
  listed = list_means;
  words = set_means;
}

-- ---- masks

low_means : (w n : ℕ) → n ≤ w → low_mask w n ≡ 2 ^ n - 1
unfolding low_mask
low_means w n h = sym (pack_is w (2 ^ n - 1) (λ i. ltb i n) (lt_of_lt_of_le (ones_lt n) (pow_mono h)) (λ i l. bit_ones n i))

pub masks_mean : MasksMean
masks_mean = record {
  ones = refl;
  low = low_means;
  whole = λ w n h. sym (all_mask w n h);
  one = λ w i h. sym (single_is w i) ∙ ap (λ (y : ℕ). y % 2 ^ w) (one-mul (2 ^ i)) ∙ mod-eq_of_lt (pow-lt h);
  none = λ w i h. sym (single_is w i) ∙ sym (up_out w 1 i h);
}

-- ---- what is made of a word

mirror_means : (w x y : ℕ) → (y ≡ mirrored w x) ↔ HasDigits w (λ i. (j : ℕ) × (i + j + 1 ≡ w) × (bit x j ≡ true)) y
unfolding mirrored
mirror_means w x y =
    packs w (λ i. bit x (w - suc i)) (λ i. (j : ℕ) × (i + j + 1 ≡ w) × (bit x j ≡ true))
    (λ i l. ((λ t. (w - suc i, omega arith, t)), (λ c. ap (bit x) (omega (arith, c.1)) ∙ c.2))) y

-- a place other than the least has the least below it
cleared_means : (w x y : ℕ) → (y ≡ without_least w x) ↔ HasDigits w (λ i. (bit x i ≡ true) × ((j : ℕ) × (j < i) × (bit x j ≡ true))) y
unfolding without_least
cleared_means w x y =
    packs w (λ i. bit x i && not (eqb i t)) (λ i. (bit x i ≡ true) × ((j : ℕ) × (j < i) × (bit x j ≡ true))) (λ i l. (there i l, back i l)) y
  where
    t : ℕ
    t = least_from (bit x) 0 w

    r : Least (bit x) 0 (0 + w) t
    r = least (bit x) 0 w

    -- no place is below the least
    from : (i : ℕ) → bit x i ≡ true → t ≤ i
    from i e = by_lt i t (λ l. absurd (true≢false (sym e ∙ r.under i (omega arith) l))) (λ l. l)

    there : (i : ℕ) → i < w → bit x i && not (eqb i t) ≡ true → (bit x i ≡ true) × ((j : ℕ) × (j < i) × (bit x j ≡ true))
    there i l e =
        let c = and-true (bit x i) (not (eqb i t)) e in
        let l' : t < i = lt_of_le-ne (from i c.0) (λ q. eqb-false i t (not-true (eqb i t) c.1) (sym q)) in
        (c.0, (t, l', r.here (omega arith)))

    back : (i : ℕ) → i < w → (bit x i ≡ true) × ((j : ℕ) × (j < i) × (bit x j ≡ true)) → bit x i && not (eqb i t) ≡ true
    back i l (e, (j, m, f)) = ap₂ (λ (a b : Bool). a && not b) e (ne_eqb i t (λ q. omega (arith, from j f)))

product_means : (w x y z : ℕ) → (z ≡ low_product w x y) ↔ ((z < 2 ^ w) × ((q : ℕ) × (x * y ≡ q * 2 ^ w + z)))
product_means w x y z = (
  λ e. (
    subst (λ (n : ℕ). n < 2 ^ w) (sym e) (mod-lt (x * y) (pow_pos w)),
    (x * y / 2 ^ w, sym (split (x * y) w) ∙ ap (λ (n : ℕ). x * y / 2 ^ w * 2 ^ w + n) (sym e)),
  ),
  λ c. sym (ap (λ (n : ℕ). n % 2 ^ w) c.1.1 ∙ low c.1.0 w c.0),
)

funnel_means : (w lo hi down up y : ℕ)
    → (y ≡ funneled w lo hi down up) ↔ HasDigits w (λ j. (bit lo (down + j) ≡ true) ⊎ ((i : ℕ) × (i + up ≡ j) × (bit hi i ≡ true))) y
unfolding funneled
funnel_means w lo hi down up y =
    packs w (λ j. bit lo (down + j) || (leb up j && bit hi (j - up))) (λ j. (bit lo (down + j) ≡ true) ⊎ ((i : ℕ) × (i + up ≡ j) × (bit hi i ≡ true)))
    (λ j l. (there j (bit lo (down + j)) refl, back j)) y
  where
    there : (j : ℕ) (a : Bool) → bit lo (down + j) ≡ a → a || (leb up j && bit hi (j - up)) ≡ true
        → (bit lo (down + j) ≡ true) ⊎ ((i : ℕ) × (i + up ≡ j) × (bit hi i ≡ true))
    there j true e t = inl e
    there j false e t =
        let c = and-true (leb up j) (bit hi (j - up)) t in
        inr (j - up, omega (arith, leb-true up j c.0), c.1)

    back : (j : ℕ) → (bit lo (down + j) ≡ true) ⊎ ((i : ℕ) × (i + up ≡ j) × (bit hi i ≡ true)) → bit lo (down + j) || (leb up j && bit hi (j - up)) ≡ true
    back j (inl e) = ap (λ (a : Bool). a || (leb up j && bit hi (j - up))) e
    back j (inr (i, q, e)) =
        ap₂ (λ (a b : Bool). bit lo (down + j) || (a && b)) (le-leb up j (omega arith)) (ap (bit hi) (omega arith) ∙ e) ∙ or-true (bit lo (down + j))

lower_means : (w lo hi i : ℕ) → i < w → pair_bit w lo hi i ≡ bit lo i
unfolding pair_bit
lower_means w lo hi i l = ap (λ (t : Bool). choose t (bit lo i) (bit hi (i - w))) (lt-ltb i w l)

upper_means : (w lo hi i : ℕ) → pair_bit w lo hi (w + i) ≡ bit hi i
unfolding pair_bit
upper_means w lo hi i = ap (λ (t : Bool). choose t (bit lo (w + i)) (bit hi (w + i - w))) (le-ltb (w + i) w (omega arith)) ∙ ap (bit hi) (omega arith)

pub words_mean : WordsMean
words_mean = record {
  mirror = mirror_means;
  back = λ w x h. (mirrors w x h).back;
  cleared = cleared_means;
  product = product_means;
  funnel = funnel_means;
  from = from_place;
  lower = lower_means;
  upper = upper_means;
}
