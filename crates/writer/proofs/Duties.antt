-- A duty record that is not refused: its bytes.
use Prim.Native.Nat.{ℕ, ◌+◌, ◌*◌, ◌^◌, ◌/◌, ◌%◌, ◌≤◌}
use mathlib.Core.Path.{◌≡◌, refl, sym, ap, ap₂, ◌∙◌, subst}
use mathlib.Core.List.{List}
use native.Mathlib.Omega.{arith}
use lib.ListN.{length}
use Rattle.word.proofs.Cases.{zero_one}
use Rattle.storage.specs.declared.Refusal.{Refusal}
use Rattle.sheet.specs.declared.Fields.{Fields}
use Rattle.sheet.specs.declared.Edit.{Edit}
use Rattle.sheet.specs.Bytes.{bytes}
use Rattle.sheet.specs.Kinds.{table, row_of, size_in, kind_of, numbered, bytes_by, payload_of}
use Rattle.sheet.specs.Reads.{latest}
use Rattle.plain.specs.Writer.{most, Checked, bad, good, Entry, edit, checked_of, duty, laid, bytes_of}
use Rattle.plain.specs.Plain.{edit_for, entry_of}
use Rattle.sheet.proofs.Payloads.{kind_small, payload_length, payload_short, size-latest}
use Rattle.sheet.proofs.Rules.{length-bytes}
use Rattle.plain.proofs.Requests.{Says, checks_say, kind-kept}
use Rattle.writer.specs.Kernels.{or_zero, parts_of}
use Rattle.writer.proofs.Places.{LaidAt}
use Rattle.writer.specs.Kernels.{Parts}
use Rattle.std.specs.Prelude.{Ok, Err}

-- the two parts, if there are any
abbrev high : Parts → ℕ
high (Ok (h, l)) = h
high (Err e) = 0

abbrev low : Parts → ℕ
low (Ok (h, l)) = l
low (Err e) = 0

-- a kind is refused, or makes an edit of that kind
data Made (kind : ℕ) : Checked → Type 0 where
  stops : (e : Refusal) → Made kind (bad e)
  makes : (e : Edit) → kind_of e ≡ kind → Made kind (good (edit e))

made : (kind : ℕ) (f : Fields) → Made kind (checked_of (duty kind f))
unfolding entry_of
made kind f = go (checked_of (duty kind f)) (checks_say (duty kind f))
  where
    go : (c : Checked) → Says (duty kind f) c → Made kind c
    go (bad e) h = stops e
    go (good x) h = subst (λ (y : Entry). Made kind (good y)) h.1 (makes (edit_for kind f) (kind-kept kind f h.0))

-- what is asked is a record of this kind, whose payload is the n bytes of two parts
pub record Duty (kind h l n : ℕ) (c : Checked) : Type 0 where
  pub entry : Entry
  pub asked : c ≡ good entry
  pub laid_out : LaidAt entry (128 + kind) (bytes n (h * 2 ^ 64 + l)) n
  pub small : n ≤ most
  pub kinds : kind ≤ length table

module _ (kind : ℕ) (f : Fields) (r : Parts) (told : r ≡ parts_of (checked_of (duty kind f))) where
  pub duty_bad : (e : Refusal) → r ≡ Err e → checked_of (duty kind f) ≡ bad e
  unfolding parts_of
  duty_bad e p = go (checked_of (duty kind f)) (made kind f) (sym told ∙ p)
    where
      go : (c : Checked) → Made kind c → parts_of c ≡ Err e → c ≡ bad e
      go c (stops d) q = cc
      go c (makes x k) q = zero_one cc

  pub duty_good : (h l n : ℕ) → r ≡ Ok (h, l) → n ≡ or_zero (size_in latest kind) → Duty kind h l n (checked_of (duty kind f))
  unfolding parts_of bytes_of payload_of
  duty_good h l n p s = go (checked_of (duty kind f)) (made kind f) (sym told ∙ p)
    where
      go : (c : Checked) → Made kind c → parts_of c ≡ Ok (h, l) → Duty kind h l n c
      go c (stops d) q = zero_one cc
      go c (makes e k) q =
          let a : numbered e / 2 ^ 64 ≡ h = ap high q in
          let b : numbered e % 2 ^ 64 ≡ l = ap low q in
          let x : numbered e ≡ h * 2 ^ 64 + l = omega arith in
          let s' : length (payload_of e) ≡ n = ap or_zero (sym (size-latest e)) ∙ ap (λ (k : ℕ). or_zero (size_in latest k)) k ∙ sym s in
          let m : bytes_by (row_of (kind_of e)) ≡ n = sym (payload_length e) ∙ s' in
          let i = payload_short e in
          let j = kind_small e in
          record {
            entry = edit e;
            asked = refl;
            laid_out = record { shaped = ap₂ (λ (k : ℕ) (p : List ℕ). laid (128 + k) p) k (ap₂ bytes m x); sized = sym (length-bytes n (h * 2 ^ 64 + l)) };
            small = omega arith;
            kinds = omega arith;
          }
