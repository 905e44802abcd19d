-- Reading, fields and equality within the words in use, on sets.
use Rattle.std.specs.Prelude.{ℕ, ◌+◌, ◌-◌, ◌*◌, Bool, ◌&&◌, List, ltb, leb, eqb, take, Ok, Err}
use Rattle.word.specs.Sets.{choose}
use Rattle.word.specs.Places.{bit, pack}
use Rattle.arch.specs.Scans.{nonzero_len}
use Rattle.pairs.specs.declared.SetOp.TheVariants.{Xor}
use Rattle.storage.specs.Stores.{Bits, refused, done, Op, size, combined}
use Rattle.storage.specs.declared.Refusal.TheVariants.{WidthOver, PastLength}
use Rattle.storage.specs.Refusals.{Amount}

-- the front part of the words, up to the last nonzero one
unfoldable pub front_part : List ℕ → List ℕ
front_part ws = take (nonzero_len ws) ws

-- no number is a member of one only
unfoldable pub equal : Bits → Bits → Bool
equal b o = eqb (size (combined Xor b o)) 0

-- the number whose binary digit j is i + j's membership; 3 over 64 digits
unfoldable pub field_at : ℕ → ℕ → Bits → Amount
field_at i width b = choose (ltb 64 width) (Err WidthOver) (Ok (pack width (λ j. b.members (i + j))))

-- the numbers from i on, below i + width, become the digits of value
unfoldable pub with_field : ℕ → ℕ → ℕ → Bits → Bits
with_field i value width b =
    record { members = λ p. choose (leb i p && ltb p (i + width)) (bit value (p - i)) (b.members p); count = b.count }

-- 3, then 5 where a place of the field is past the length; a field of no places changes nothing
unfoldable pub setting_field_inside : ℕ → ℕ → ℕ → Op
unfolding with_field
setting_field_inside i value width c b =
    let inside = choose (ltb (64 * b.count) (i + width)) (refused PastLength) (done (with_field i value width b)) in
    choose (ltb 64 width) (refused WidthOver) (choose (eqb width 0) (done b) inside)
