-- What the definitions promise, in words of their own. Each is proved in proofs/Promises.
-- Mostly: y is what a definition makes exactly where y is as said.
use Rattle.std.specs.Prelude.{◌≡◌, ℕ, suc, ◌+◌, ◌-◌, ◌*◌, ◌^◌, ◌<◌, ◌≤◌, Bool, true, false, ◌⊎◌, ◌↔◌, List, length, slice_index}
use Rattle.word.specs.Sets.{choose, xorb, val, count_below, least_from, top_below, nth, Least, Top, Counted}
use Rattle.word.specs.Places.{is_one, bit, pack, word_of, member, tab_from, words_of}
use Rattle.word.specs.Words.{all_ones, low_mask, single, mirrored, without_least, low_product, funneled, pair_bit}

-- truth values, line by line
pub record TestsMean : Type 1 where
  pub chosen : (A : Type 0) (a b : A) → choose true a b ≡ a
  pub other : (A : Type 0) (a b : A) → choose false a b ≡ b
  pub both : xorb true true ≡ false
  pub first : xorb true false ≡ true
  pub second : xorb false true ≡ true
  pub neither : xorb false false ≡ false
  pub counts : val true ≡ 1
  pub counts_not : val false ≡ 0
  pub digit_0 : is_one 0 ≡ false
  pub digit_1 : (d : ℕ) → is_one (suc d) ≡ true

-- p is the member below m with exactly r members below it, by any counting
abbrev pub Ranked : (ℕ → Bool) → ℕ → ℕ → ℕ → Type 0
Ranked s r m p = (p < m) × (s p ≡ true) × Counted s p r

-- the members counted, the least, the greatest, and the member of a rank, or `none` exactly where there is no such member
pub record SetsMean : Type 0 where
  pub count : (s : ℕ → Bool) (m v : ℕ) → (v ≡ count_below s m) ↔ Counted s m v
  pub least : (s : ℕ → Bool) (i d p : ℕ) → (p ≡ least_from s i d) ↔ Least s i (i + d) p
  pub top : (s : ℕ → Bool) (m t : ℕ) → (t ≡ top_below s m) ↔ Top s m t
  pub rank : (s : ℕ → Bool) (r none m p : ℕ) → (p ≡ nth s r none m) ↔ (Ranked s r m p ⊎ ((p ≡ none) × ((q : ℕ) → ¬ Ranked s r m q)))

-- binary digit i of x is 1, by arithmetic alone
abbrev pub HasDigit : ℕ → ℕ → Type 0
HasDigit x i = (q : ℕ) × (r : ℕ) × (x ≡ q * 2 ^ (i + 1) + 2 ^ i + r) × (r < 2 ^ i)

-- x has w digits, and digit i is 1 exactly where P i holds: there is one such number
abbrev pub HasDigits : ℕ → (ℕ → Type 0) → ℕ → Type 0
HasDigits w P x = (x < 2 ^ w) × ((i : ℕ) → i < w → (bit x i ≡ true) ↔ P i)

-- numbers as sets of places, and words as sets of numbers: number 64 * k + j is digit j of word k
pub record BitsMean : Type 0 where
  pub digit : (x i : ℕ) → (bit x i ≡ true) ↔ HasDigit x i
  pub packed : (w : ℕ) (p : ℕ → Bool) (x : ℕ) → (x ≡ pack w p) ↔ HasDigits w (λ i. p i ≡ true) x
  pub word : (s : ℕ → Bool) (k x : ℕ) → (x ≡ word_of s k) ↔ HasDigits 64 (λ j. s (64 * k + j) ≡ true) x
  pub place : (ws : List ℕ) (k j : ℕ) → j < 64 → member ws (64 * k + j) ≡ bit (slice_index ws k) j
  pub past : (ws : List ℕ) (i : ℕ) → 64 * length ws ≤ i → member ws i ≡ false
  pub listed : (i n : ℕ) (f : ℕ → ℕ) (xs : List ℕ) → (xs ≡ tab_from i n f) ↔ ((length xs ≡ n) × ((k : ℕ) → k < n → slice_index xs k ≡ f (i + k)))
  pub words : (s : ℕ → Bool) (n : ℕ) (ws : List ℕ)
      → (ws ≡ words_of s n) ↔ ((length ws ≡ n) × ((k : ℕ) → k < n → HasDigits 64 (λ j. s (64 * k + j) ≡ true) (slice_index ws k)))

-- masks, as numbers
pub record MasksMean : Type 0 where
  pub ones : all_ones ≡ 2 ^ 64 - 1
  pub low : (w n : ℕ) → n ≤ w → low_mask w n ≡ 2 ^ n - 1
  pub whole : (w n : ℕ) → w ≤ n → low_mask w n ≡ 2 ^ w - 1
  pub one : (w i : ℕ) → i < w → single w i ≡ 2 ^ i
  pub none : (w i : ℕ) → w ≤ i → single w i ≡ 0

-- y is the w places of the pair from `place` on
pub record FromPlace (w lo hi place y : ℕ) : Type 0 where
  pub fits : y < 2 ^ w
  pub at : (j : ℕ) → j < w → bit y j ≡ pair_bit w lo hi (place + j)

-- what the functions of word.rs make of a word
pub record WordsMean : Type 0 where
  -- `reverse_bits`: the places counted from the other end; twice gives the word back
  pub mirror : (w x y : ℕ) → (y ≡ mirrored w x) ↔ HasDigits w (λ i. (j : ℕ) × (i + j + 1 ≡ w) × (bit x j ≡ true)) y
  pub back : (w x : ℕ) → x < 2 ^ w → mirrored w (mirrored w x) ≡ x
  -- `clear_lowest_set`: a place stays exactly where there is one below it
  pub cleared : (w x y : ℕ) → (y ≡ without_least w x) ↔ HasDigits w (λ i. (bit x i ≡ true) × ((j : ℕ) × (j < i) × (bit x j ≡ true))) y
  -- `wrapping_mul`
  pub product : (w x y z : ℕ) → (z ≡ low_product w x y) ↔ ((z < 2 ^ w) × ((q : ℕ) × (x * y ≡ q * 2 ^ w + z)))
  -- `funnel`, whatever the amounts; those that add up to the width take the pair's places from one on
  pub funnel : (w lo hi down up y : ℕ)
      → (y ≡ funneled w lo hi down up) ↔ HasDigits w (λ j. (bit lo (down + j) ≡ true) ⊎ ((i : ℕ) × (i + up ≡ j) × (bit hi i ≡ true))) y
  pub from : (w lo hi down up : ℕ) → lo < 2 ^ w → down + up ≡ w → FromPlace w lo hi down (funneled w lo hi down up)
  -- two neighbouring words
  pub lower : (w lo hi i : ℕ) → i < w → pair_bit w lo hi i ≡ bit lo i
  pub upper : (w lo hi i : ℕ) → pair_bit w lo hi (w + i) ≡ bit hi i

-- words that a function of the crates above makes of others: their number stays, and the rule holds of the length, the old set and the new one
abbrev pub MovesWords : (ℕ → (ℕ → Bool) → ℕ → Bool) → (ℕ → (ℕ → Bool) → (ℕ → Bool) → Type 0) → Type 0
MovesWords f rule =
    (ws ws' : List ℕ) → ws' ≡ words_of (f (64 * length ws) (member ws)) (length ws)
    → (length ws' ≡ length ws) × rule (64 * length ws) (member ws) (member ws')
