-- What the kernels' definitions promise, in words of their own. Each is proved in proofs/Promises.
use Rattle.std.specs.Prelude.{◌≡◌, ℕ, suc, ◌-◌, ◌*◌, ◌%◌, ◌^◌, ◌<◌, ◌≤◌, Bool, true, false, ◌⊎◌, List, length, Option, slice_index}
use Rattle.word.specs.Sets.{count_below, Counts}
use Rattle.word.specs.Places.{member}
use Rattle.word.specs.Words.{all_ones}
use Rattle.arch.specs.Scans.{Alike, first_other, word_found, word_flag, word_index, word_there, nonzero_len, is_zero, count_set, filled_words, filled}

-- by the flag f, the index k and the word w of an answer: a word found is there, is other than x, and no word before it is;
-- nothing is found only where every word is x
abbrev pub FirstOther : ℕ → List ℕ → ℕ → ℕ → ℕ → Type 0
FirstOther x ws f k w =
    ((f ≡ 1) × (k < length ws) × (w ≡ slice_index ws k) × ¬ (w ≡ x) × Alike ws x 0 k) ⊎ ((f ≡ 0) × (k ≡ 0) × (w ≡ 0) × Alike ws x 0 (length ws))

-- `first_nonzero`
abbrev pub FirstNonzeroMeans : Type 0
FirstNonzeroMeans =
    (ws : List ℕ) (r : Option (ℕ × ℕ)) → r ≡ word_found ws (first_other 0 ws) → FirstOther 0 ws (word_flag r) (word_index r) (word_there r)

-- `first_not_ones`
abbrev pub FirstNotOnesMeans : Type 0
FirstNotOnesMeans =
    (ws : List ℕ) (r : Option (ℕ × ℕ)) → r ≡ word_found ws (first_other all_ones ws) → FirstOther (2 ^ 64 - 1) ws (word_flag r) (word_index r) (word_there r)

-- n words are left without trailing zeros: the last of them is not 0, and every word from n on is
pub record EndsNonzero (ws : List ℕ) (n : ℕ) : Type 0 where
  pub within : n ≤ length ws
  pub last : (k : ℕ) → suc k ≡ n → ¬ (slice_index ws k ≡ 0)
  pub after : (k : ℕ) → n ≤ k → slice_index ws k ≡ 0

-- `nonzero_len`
abbrev pub NonzeroLenMeans : Type 0
NonzeroLenMeans = (ws : List ℕ) → EndsNonzero ws (nonzero_len ws)

-- all words are 0 exactly where there is no member
pub record ZeroIsEmpty (ws : List ℕ) : Type 0 where
  pub empty : is_zero ws ≡ true → (i : ℕ) → member ws i ≡ false
  pub zero : ((i : ℕ) → member ws i ≡ false) → is_zero ws ≡ true

-- `is_zero`
abbrev pub IsZeroMeans : Type 0
IsZeroMeans = (ws : List ℕ) → ((k : ℕ) → slice_index ws k < 2 ^ 64) → ZeroIsEmpty ws

-- `count_set_bits`: the 64 low digits of what any counting of the members comes to
abbrev pub CountSetMeans : Type 0
CountSetMeans = (ws : List ℕ) (count : ℕ → ℕ) → Counts (member ws) count → count_set ws ≡ count (64 * length ws) % 2 ^ 64

-- the members counted, all of them where they fit the answer
abbrev pub CountIsWhole : Type 0
CountIsWhole = (ws : List ℕ) → length ws < 2 ^ 58 → count_set ws ≡ count_below (member ws) (64 * length ws)

-- the words from a on, below e, are x, the others as they were
pub record FillsWords (a e x : ℕ) (ws ws' : List ℕ) : Type 0 where
  pub long : length ws' ≡ length ws
  pub inside : (k : ℕ) → k < length ws → a ≤ k → k < e → slice_index ws' k ≡ x
  pub below : (k : ℕ) → k < a → slice_index ws' k ≡ slice_index ws k
  pub above : (k : ℕ) → e ≤ k → slice_index ws' k ≡ slice_index ws k

-- `fill_words`
abbrev pub FillWordsMeans : Type 0
FillWordsMeans = (a e x : ℕ) (ws : List ℕ) → FillsWords a e x ws (filled_words a e x ws)

-- in the region every number is a member or none is, elsewhere nothing changes, and no number comes in past the end
pub record Fills (from end : ℕ) (v : Bool) (ws ws' : List ℕ) : Type 0 where
  pub long : length ws' ≡ length ws
  pub in_region : (i : ℕ) → i < 64 * length ws → from ≤ i → i < end → member ws' i ≡ v
  pub before : (i : ℕ) → i < from → member ws' i ≡ member ws i
  pub after : (i : ℕ) → end ≤ i → member ws' i ≡ member ws i

-- `fill_region`
abbrev pub FillRegionMeans : Type 0
FillRegionMeans = (from end : ℕ) (v : Bool) (ws : List ℕ) → Fills from end v ws (filled from end v ws)
