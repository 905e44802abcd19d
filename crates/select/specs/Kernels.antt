-- What the private functions of this crate make of a word, by its bytes, the lowest first.
use Rattle.std.specs.Prelude.{ℕ, zero, suc, ◌+◌, ◌*◌, ◌^◌, ◌≤◌, ◌<◌, ◌≡◌, leb}
use Rattle.word.specs.Sets.{val, count_below}
use Rattle.word.specs.Places.{bit}
use Rattle.select.specs.Select.{byte_of}

-- the number of m bytes whose byte k is f k
unfoldable pub num : ℕ → (ℕ → ℕ) → ℕ
num zero f = 0
num (suc m) f = num m (λ k. f (suc k)) * 2 ^ 8 + f 0

-- the sum of f at the numbers below k
unfoldable pub sum_below : (ℕ → ℕ) → ℕ → ℕ
sum_below f zero = 0
sum_below f (suc k) = f 0 + sum_below (λ j. f (suc j)) k

-- how many bits of byte k are set
abbrev pub set_in : ℕ → ℕ → ℕ
set_in x k = count_below (bit (byte_of x k)) 8

-- 1 where byte k of c is at most n
abbrev pub at_most : ℕ → ℕ → ℕ → ℕ
at_most c n k = val (leb (byte_of c k) n)

-- the top bit of each byte is free for the difference with n
pub record Room (c n : ℕ) : Type 0 where
  pub few : n < 128
  pub low : (k : ℕ) → k < 8 → byte_of c k ≤ 128

-- byte b of x has the bit of rank n, and the bytes before it have `below` set bits
pub record RankIn (x n b below : ℕ) : Type 0 where
  pub within : b < 8
  pub counted : below ≡ count_below (bit x) (8 * b)
  pub from : below ≤ n
  pub to : n < below + set_in x b
  pub few : n < below + 8
