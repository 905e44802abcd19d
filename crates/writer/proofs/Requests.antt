-- What a duty record is asked for, kind by kind: its refusal, or its payload as a number in two parts.
use Prim.Native.Nat.{ℕ, zero, suc, ◌+◌, ◌*◌, ◌^◌, ◌/◌, ◌%◌, ◌≤◌, ◌<◌}
use mathlib.Core.Path.{◌≡◌, refl, sym, ap, ap₂, ◌∙◌, subst}
use mathlib.Core.Option.{Option}
use native.Mathlib.Omega.{arith}
use native.Mathlib.Decide.{dec_le, ℕ_discrete}
use lib.ListN.{length}
use borrow.Author.Tests.{lt-ltb, le-ltb}
use Rattle.word.specs.Sets.{val}
use Rattle.storage.specs.declared.Refusal.TheVariants.{WidthOver, IndexOver, NewerKind}
use Rattle.sheet.specs.declared.Fields.{Fields}
use Rattle.sheet.specs.declared.Edit.{Edit}
use Rattle.sheet.specs.declared.Edit.TheVariants.{Set, Unset, SetRegion, SetField, Shift, Rotate, Resize, Reverse, ToggleRegion, Open, Close}
use Rattle.sheet.specs.Kinds.{numbered}
use Rattle.plain.specs.Writer.{Checked, bad, good, edit, checked_of, duty, makers, made_by}
use Rattle.sheet.proofs.Tables.{past_end}
use Rattle.editions.proofs.Turns.{take-true, take-false}
use Rattle.writer.specs.Kernels.{parts_of}
use Rattle.writer.specs.Kernels.{Parts}
use Rattle.std.specs.Prelude.{Ok, Err}

-- one of two kinds in a row
pair_of : (P : ℕ → Type 0) (k a : ℕ) → P a → P (a + 1) → a ≤ k → k ≤ a + 1 → P k
pair_of P k a x y l h = go (ℕ_discrete a k)
  where
    go : Dec (a ≡ k) → P k
    go (yes e) = subst P e x
    go (no e) = let d : a + 1 ≡ k = omega arith in subst P d y

abbrev parts : ℕ → ℕ → Parts
parts h l = Ok (h, l)

module _ (f : Fields) where
  abbrev pub GetsParts : Parts → ℕ → Type 0
  GetsParts r kind = r ≡ parts_of (checked_of (duty kind f))

  gets_at : (r : Parts) (kind k : ℕ) → kind ≡ k → GetsParts r k → GetsParts r kind
  gets_at r kind k e g = subst (GetsParts r) (sym e) g

  -- an edit whose payload is the number of two parts
  gets_edit : (kind : ℕ) (e : Edit) (h l : ℕ) → checked_of (duty kind f) ≡ good (edit e) → numbered e ≡ h * 2 ^ 64 + l → l < 2 ^ 64 → GetsParts (Ok (h, l)) kind
  unfolding parts_of
  gets_edit kind e h l c n b = ap₂ parts (omega arith) (omega arith) ∙ ap parts_of (sym c)

  pub gets_single : (kind : ℕ) → f.p < 2 ^ 32 → 1 ≤ kind → kind ≤ 2 → GetsParts (Ok (0, f.p)) kind
  unfolding numbered checked_of
  gets_single kind b l h =
      pair_of (GetsParts (Ok (0, f.p))) kind 1
      (gets_edit 1 (Set f.p) 0 f.p refl (omega arith) (omega arith))
      (gets_edit 2 (Unset f.p) 0 f.p refl (omega arith) (omega arith)) l h

  pub gets_both : (kind : ℕ) → f.p < 2 ^ 32 → f.k < 2 ^ 32 → 9 ≤ kind → kind ≤ 11 → GetsParts (Ok (0, (f.p * 2 ^ 32 + f.k))) kind
  unfolding numbered checked_of
  gets_both kind b c l h = go (dec_le kind 10)
    where
      low : ℕ
      low = f.p * 2 ^ 32 + f.k

      go : Dec (kind ≤ 10) → GetsParts (Ok (0, low)) kind
      go (yes m) =
          pair_of (GetsParts (Ok (0, low))) kind 9
          (gets_edit 9 (ToggleRegion f.p f.k) 0 low refl (omega arith) (omega arith))
          (gets_edit 10 (Open f.p f.k) 0 low refl (omega arith) (omega arith)) l m
      go (no m) = gets_at (Ok (0, low)) kind 11 (omega arith) (gets_edit 11 (Close f.p f.k) 0 low refl (omega arith) (omega arith))

  pub gets_nothing : (kind : ℕ) → kind ≡ 8 → GetsParts (Ok (0, 0)) kind
  unfolding numbered checked_of
  gets_nothing kind e = gets_at (Ok (0, 0)) kind 8 e (gets_edit 8 Reverse 0 0 refl refl (omega arith))

  module _ (d : ℕ) (e : d ≡ val f.flag) (s : d < 2) (c : f.k < 2 ^ 32) where
    pub gets_directed : (kind : ℕ) → 5 ≤ kind → kind ≤ 6 → GetsParts (Ok (0, (d * 2 ^ 39 + f.k * 2 ^ 7))) kind
    unfolding numbered checked_of
    gets_directed kind l h =
        pair_of (GetsParts (Ok (0, low))) kind 5
        (gets_edit 5 (Shift f.flag f.k) 0 low refl (omega arith) (omega arith))
        (gets_edit 6 (Rotate f.flag f.k) 0 low refl (omega arith) (omega arith)) l h
      where
        low : ℕ
        low = d * 2 ^ 39 + f.k * 2 ^ 7

    pub gets_region : (kind : ℕ) → f.p < 2 ^ 32 → kind ≡ 3 → GetsParts (Ok ((d * 128 + f.p / 2 ^ 25), (f.p % 2 ^ 25 * 2 ^ 39 + f.k * 128))) kind
    unfolding numbered checked_of
    gets_region kind b q =
        gets_at (Ok ((d * 128 + f.p / 2 ^ 25), (f.p % 2 ^ 25 * 2 ^ 39 + f.k * 128))) kind 3 q
        (gets_edit 3 (SetRegion f.flag f.p f.k) (d * 128 + f.p / 2 ^ 25) (f.p % 2 ^ 25 * 2 ^ 39 + f.k * 128) refl (omega arith) (omega arith))

  module _ (kind : ℕ) (q : kind ≡ 4) where
    pub gets_3 : 64 < f.width → GetsParts (Err WidthOver) kind
    unfolding parts_of checked_of
    gets_3 h = gets_at (Err WidthOver) kind 4 q (ap parts_of (sym (take-true (bad WidthOver) (good (edit (SetField f.p f.width f.value))) (lt-ltb 64 f.width h))))

    pub gets_field : f.p < 2 ^ 32 → f.value < 2 ^ 64 → f.width ≤ 64 → GetsParts (Ok ((f.p * 256 + f.width * 2 + f.value / 2 ^ 63), (f.value % 2 ^ 63 * 2))) kind
    unfolding numbered checked_of
    gets_field b v h =
        gets_at (Ok ((f.p * 256 + f.width * 2 + f.value / 2 ^ 63), (f.value % 2 ^ 63 * 2))) kind 4 q
        (gets_edit 4 (SetField f.p f.width f.value) (f.p * 256 + f.width * 2 + f.value / 2 ^ 63) (f.value % 2 ^ 63 * 2)
        (take-false (bad WidthOver) (good (edit (SetField f.p f.width f.value))) (le-ltb 64 f.width h)) (omega arith) (omega arith))

  module _ (kind : ℕ) (q : kind ≡ 7) where
    pub gets_4 : 4_294_967_296 < f.size → GetsParts (Err IndexOver) kind
    unfolding parts_of checked_of
    gets_4 h = gets_at (Err IndexOver) kind 7 q (ap parts_of (sym (take-true (bad IndexOver) (good (edit (Resize f.size))) (lt-ltb 4_294_967_296 f.size h))))

    pub gets_resize : f.size ≤ 4_294_967_296 → GetsParts (Ok (0, (f.size * 128))) kind
    unfolding numbered checked_of
    gets_resize h =
        gets_at (Ok (0, (f.size * 128))) kind 7 q
        (gets_edit 7 (Resize f.size) 0 (f.size * 128) (take-false (bad IndexOver) (good (edit (Resize f.size))) (le-ltb 4_294_967_296 f.size h)) (omega arith) (omega arith))

  pub gets_13_zero : (kind : ℕ) → kind ≡ 0 → GetsParts (Err NewerKind) kind
  unfolding parts_of checked_of
  gets_13_zero kind e = gets_at (Err NewerKind) kind 0 e refl

  pub gets_13_past : (kind : ℕ) → length makers < kind → GetsParts (Err NewerKind) kind
  unfolding parts_of checked_of
  gets_13_past zero h = absurd (omega arith)
  gets_13_past (suc k) h = ap (λ (m : Option (Fields → Checked)). parts_of (made_by m f)) (sym (past_end makers k (omega arith)))
