-- The table of the source is the table of the definition.
use Prim.Native.Nat.{ℕ, zero, suc, ◌≤◌, ◌<◌}
use mathlib.Core.Path.{◌≡◌, refl, sym, ap, ◌∙◌, subst}
use mathlib.Core.Bool.{Bool, true, false}
use mathlib.Core.List.{List, [], ◌∷◌}
use mathlib.Core.Option.{none, some}
use native.Mathlib.Omega.{arith}
use native.Mathlib.Decide.{ℕ_discrete}
use lib.ListN.{length, get_or, get_elem?}
use lib.Dec.{leb}
use borrow.Author.Tests.{le-leb, lt-leb}
use Rattle.word.specs.Sets.{choose}
use Rattle.sheet.specs.Kinds.{Row, table, bytes_in, size_by, size_in, known}
use Rattle.sheet.specs.declared.Kind.{Kind}
use Rattle.sheet.specs.Kinds.{Known}
use Rattle.std.specs.Prelude.{Some, None}

-- a fact of each number below a bound, from as many facts
abbrev pub Below : (ℕ → Type 0) → ℕ → Type 0
Below P zero = Unit {0}
Below P (suc n) = Below P n × P n

pub below_at : (P : ℕ → Type 0) (n k : ℕ) → Below P n → k < n → P k
below_at P zero k a l = absurd (omega arith)
below_at P (suc n) k a l = go (λ l'. below_at P n k a.0 l') (ℕ_discrete n k)
  where
    go : (k < n → P k) → Dec (n ≡ k) → P k
    go ih (yes e) = subst P e a.1
    go ih (no e) = ih (omega arith)

pub past_end : {A : Type 0} (l : List A) (k : ℕ) → length l ≤ k → get_elem? l k ≡ none
past_end [] k h = refl
past_end (a ∷ l) zero h = absurd (omega arith)
past_end (a ∷ l) (suc k) h = past_end l k (omega arith)

pub zero-kind : (e : ℕ) → size_in e 0 ≡ none
unfolding size_in
zero-kind e = refl

pub no_kind : (e k : ℕ) → k ≡ 0 → known (size_in e k) ≡ None
no_kind e k z = ap (λ (k : ℕ). known (size_in e k)) z ∙ ap known (zero-kind e)

pub past_kinds : (e k : ℕ) → length table < k → size_in e k ≡ none
unfolding size_in
past_kinds e zero l = absurd (omega arith)
past_kinds e (suc k) l = rw (past_end table k (omega arith)) refl

abbrev pub kind_at : ℕ → ℕ → Kind
kind_at b s = record { bytes = b; since = s }

-- the constant KINDS
abbrev pub rows : List Kind
rows =
    kind_at 0 0 ∷ kind_at 4 1 ∷ kind_at 4 1 ∷ kind_at 9 1 ∷ kind_at 13 1 ∷ kind_at 5 1 ∷ kind_at 5 1 ∷ kind_at 5 1 ∷ kind_at 0 1 ∷ kind_at 8 2 ∷ kind_at 8 2 ∷ kind_at 8 2 ∷ []

abbrev pub by_row : ℕ → Kind → Known
by_row e r = choose (leb r.since e) (Some r.bytes) None

-- it is the table of the definition, computed row by row
abbrev from_rows : List Row → List Kind
from_rows [] = []
from_rows (r ∷ rs) = kind_at (bytes_in r) r.since ∷ from_rows rs

rows_are : rows ≡ kind_at 0 0 ∷ from_rows table
unfolding bytes_in
rows_are = refl

from_row : (e : ℕ) (d : Kind) (rs : List Row) (k : ℕ) → k < length rs → by_row e (get_or (from_rows rs) k d) ≡ known (size_by e (get_elem? rs k))
from_row e d [] k l = absurd (omega arith)
from_row e d (r ∷ rs) zero l = by_test (leb r.since e)
  where
    by_test : (t : Bool) → choose t (Some (bytes_in r)) None ≡ known (choose t (some (bytes_in r)) none)
    by_test true = refl
    by_test false = refl
from_row e d (r ∷ rs) (suc k) l = from_row e d rs k (omega arith)

-- each kind of the source has the length and the first edition of the definition's table
pub row_of : (e k : ℕ) (d : Kind) → (k ≡ 0 → ⊥) → k ≤ length table → by_row e (get_or rows k d) ≡ known (size_in e k)
unfolding size_in
row_of e zero d n l = absurd (n refl)
row_of e (suc k) d n l = ap (λ (ks : List Kind). by_row e (get_or ks (suc k) d)) rows_are ∙ from_row e d table k (omega arith)

-- a row that is looked up
module _ (e k : ℕ) (r : Kind) (is : r ≡ get_or rows k r) (n : k ≡ 0 → ⊥) (l : k ≤ length table) where
  looked_up : by_row e r ≡ known (size_in e k)
  looked_up = ap (by_row e) is ∙ row_of e k r n l

  pub row_newer : e < r.since → None ≡ known (size_in e k)
  row_newer h = sym (ap (λ (t : Bool). choose t (Some r.bytes) None) (lt-leb r.since e h)) ∙ looked_up

  pub row-bytes : r.since ≤ e → Some r.bytes ≡ known (size_in e k)
  row-bytes h = sym (ap (λ (t : Bool). choose t (Some r.bytes) None) (le-leb r.since e h)) ∙ looked_up
