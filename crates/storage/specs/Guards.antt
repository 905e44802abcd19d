-- What is asked first of a store and its record, on the promises' side: which number applies, and that none does.
use Rattle.std.specs.Prelude.{ℕ, ◌≤◌, ◌<◌, ◌≡◌, List, length}
use Rattle.storage.specs.declared.Bitmap.{Bitmap}

-- the limit of a store, as 01 has it
abbrev pub most_words : ℕ
most_words = 67_108_864

-- demand 1: 1 exactly where the store is over the limit, then 2 exactly where the count is over the store
pub data Stopped (ws : List ℕ) (b : Bitmap) (x : ℕ) : Type 0 where
  long : most_words < length ws → x ≡ 1 → Stopped ws b x
  over : length ws ≤ most_words → length ws < b.count → x ≡ 2 → Stopped ws b x

-- neither applies
pub record Passed (ws : List ℕ) (b : Bitmap) : Type 0 where
  pub short : length ws ≤ most_words
  pub inside : b.count ≤ length ws

-- nor to a second store, or to two more
pub record PassedTwo (ws : List ℕ) (b : Bitmap) (os : List ℕ) (o : Bitmap) : Type 0 where
  pub own : Passed ws b
  pub other : Passed os o

pub record PassedThree (ws : List ℕ) (b : Bitmap) (ls : List ℕ) (l : Bitmap) (rs : List ℕ) (r : Bitmap) : Type 0 where
  pub own : Passed ws b
  pub left : Passed ls l
  pub right : Passed rs r
