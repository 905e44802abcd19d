-- The member of a rank in a word, by a table of its places in a byte.
use Rattle.std.specs.Prelude.{ℕ, ◌+◌, ◌-◌, ◌*◌, ◌/◌, ◌%◌, ◌^◌, List, get_or, ltb}
use Rattle.word.specs.Sets.{choose, count_below, nth}
use Rattle.word.specs.Places.{bit, tab_from}

-- 01: "the place of the rank-th one in a byte, 0 if none"
abbrev pub select_in : ℕ → ℕ → ℕ
select_in byte rank = nth (bit byte) rank 0 8

-- the entry at byte * 8 + rank
unfoldable pub select_table : List ℕ
unfolding tab_from
select_table = tab_from 0 2048 (λ k. select_in (k / 8) (k % 8))

-- byte b of x, the lowest first
unfoldable pub byte_of : ℕ → ℕ → ℕ
byte_of x b = x / 2 ^ (8 * b) % 2 ^ 8

-- the place of the set bit of x with rank r: its byte by x itself, its place there by the table; 64 if x has no such bit
unfoldable pub select_by : List ℕ → ℕ → ℕ → ℕ
unfolding byte_of
select_by table x r =
    let p = nth (bit x) r 64 64 in
    let b = p / 8 in
    choose (ltb p 64) (8 * b + get_or table (byte_of x b * 8 + (r - count_below (bit x) (8 * b))) 0) 64
