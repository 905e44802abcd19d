-- The lengths of payloads, and what the table tells of a kind.
use Prim.Native.Nat.{ℕ, zero, suc, ◌≤◌}
use mathlib.Core.Path.{◌≡◌, refl, sym, ap, ◌∙◌}
use mathlib.Core.Bool.{Bool, true, false}
use mathlib.Core.List.{List}
use mathlib.Core.Option.{Option, none, some}
use native.Mathlib.Omega.{arith}
use lib.ListN.{length}
use lib.Dec.{leb, eqb}
use borrow.Author.Tests.{eq-eqb, ne_eqb}
use Rattle.word.specs.Sets.{choose}
use Rattle.word.proofs.Cases.{by_lt, zero_one}
use Rattle.storage.specs.declared.Refusal.TheVariants.{BadPayload, NewerKind}
use Rattle.sheet.specs.Kinds.{Row, table, row_of, bytes_in, size_by, size_in, bytes_by, rule_of, known}
use Rattle.editions.specs.Reader.{asking_by}
use Rattle.sheet.proofs.Tables.{past_kinds}
use Rattle.decode.specs.Asks.{asked_by, asked_for}
use Rattle.decode.specs.Kernels.{payload_length, asks}
use Rattle.decode.specs.Asks.{Asked}
use Rattle.std.specs.Prelude.{Err, Some, None}

-- a kind that is known by its number
pub of_kind : (kind j n : ℕ) → payload_length j ≡ n → kind ≡ j → payload_length kind ≡ n
of_kind kind j n e k = ap payload_length k ∙ e

pub of_place : (kind : ℕ) → 1 ≤ kind → kind ≤ 2 → payload_length kind ≡ 4
unfolding payload_length
of_place kind a b = by_lt kind 2 (λ l. of_kind kind 1 4 refl (omega arith)) (λ l. of_kind kind 2 4 refl (omega arith))

pub of_region : payload_length 3 ≡ 9
unfolding payload_length
of_region = refl

pub of_field : payload_length 4 ≡ 13
unfolding payload_length
of_field = refl

pub of_turn : (kind : ℕ) → 5 ≤ kind → kind ≤ 6 → payload_length kind ≡ 5
unfolding payload_length
of_turn kind a b = by_lt kind 6 (λ l. of_kind kind 5 5 refl (omega arith)) (λ l. of_kind kind 6 5 refl (omega arith))

pub of_size : payload_length 7 ≡ 5
unfolding payload_length
of_size = refl

pub of_reverse : payload_length 8 ≡ 0
unfolding payload_length
of_reverse = refl

pub of_pair : (kind : ℕ) → 9 ≤ kind → kind ≤ 11 → payload_length kind ≡ 8
unfolding payload_length
of_pair kind a b =
    by_lt kind 10 (λ l. of_kind kind 9 8 refl (omega arith))
    (λ l. by_lt kind 11 (λ m. of_kind kind 10 8 refl (omega arith)) (λ m. of_kind kind 11 8 refl (omega arith)))

-- ---- what the lookup tells

never : {n : ℕ} → Some n ≡ None → ⊥
never p = zero_one cc

one : {m n : ℕ} → Some m ≡ Some n → m ≡ n
one p = cc

pub known_none : (o : Option ℕ) → None ≡ known o → o ≡ none
known_none none p = refl
known_none (some n) p = absurd (never (sym p))

pub known_some : (o : Option ℕ) (n : ℕ) → Some n ≡ known o → o ≡ some n
known_some none n p = absurd (never p)
known_some (some m) n p = ap some (one (sym p))

row-bytes : (e n : ℕ) (o : Option Row) → Some n ≡ known (size_by e o) → n ≡ bytes_by o
row-bytes e n none p = absurd (never p)
row-bytes e n (some r) p = go (leb r.since e) p
  where
    go : (t : Bool) → Some n ≡ known (choose t (some (bytes_in r)) none) → n ≡ bytes_in r
    go true q = one q
    go false q = absurd (never q)

pub record HeldBytes (kind n : ℕ) : Type 0 where
  pub bytes : n ≡ payload_length kind
  pub low : 1 ≤ kind
  pub high : kind ≤ length table

pub held : (e kind n : ℕ) → Some n ≡ known (size_in e kind) → HeldBytes kind n
unfolding size_in payload_length
held e zero n p = absurd (never p)
held e (suc k) n p = record {
  bytes = row-bytes e n (row_of (suc k)) p;
  low = omega arith;
  high = by_lt (length table) (suc k) (λ l. absurd (never (p ∙ ap known (past_kinds e (suc k) (omega arith))))) (λ l. l);
}

-- ---- what is asked

module _ (e kind : ℕ) (l : List ℕ) where
  -- by the bytes of its kind
  abbrev by : Option ℕ → Asked
  by o = asked_by (asking_by rule_of kind l o)

  pub asked_newer : None ≡ known (size_in e kind) → Err NewerKind ≡ asked_for e kind l
  unfolding asked_for
  asked_newer p = ap by (sym (known_none (size_in e kind) p))

  module _ (n : ℕ) (p : Some n ≡ known (size_in e kind)) where
    asked-with : (t : Bool) → eqb (length l) n ≡ t → asked_for e kind l ≡ asks (choose t (rule_of kind l) none)
    unfolding asked_for
    asked-with t q = ap by (known_some (size_in e kind) n p) ∙ ap (λ (t : Bool). asks (choose t (rule_of kind l) none)) q

    pub asked_long : (length l ≡ n → ⊥) → Err BadPayload ≡ asked_for e kind l
    asked_long h = sym (asked-with false (ne_eqb (length l) n h))

    pub asked_edit : (r : Asked) → length l ≡ n → r ≡ asks (rule_of kind l) → r ≡ asked_for e kind l
    asked_edit r h q = q ∙ sym (asked-with true (eq-eqb (length l) n h))
