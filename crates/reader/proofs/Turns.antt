-- What one record does to the bitmap in a store.
use Prim.Native.Nat.{ℕ, ◌+◌, ◌-◌, ◌%◌, ◌≤◌, ◌<◌}
use mathlib.Core.Path.{◌≡◌, refl, sym, ap, ◌∙◌, subst}
use mathlib.Core.Bool.{Bool}
use mathlib.Core.List.{List}
use native.Mathlib.Omega.{arith}
use lib.ListN.{length, get_or, take, drop}
use borrow.Author.Tests.{le-leb, lt-leb}
use Rattle.word.specs.Sets.{choose}
use Rattle.word.proofs.Lists.{Fit}
use Rattle.storage.specs.Stores.{Bits, Outcome, refused, done, space_of, view, held, answer, store, Leaves, outcome, Changes}
use Rattle.storage.specs.declared.Bitmap.{Bitmap}
use Rattle.storage.specs.declared.Refusal.{Refusal}
use Rattle.storage.proofs.Stores.{leaves_refused, outcome_ok, written-view}
use Rattle.sheet.specs.Kinds.{size_in, rule_of}
use Rattle.editions.specs.Frames.{Item, size_at, end_at, item_at}
use Rattle.editions.specs.Reader.{Turn, stop, next, asking, taken}
use Rattle.sheet.specs.Reads.{step, turn_of, edition_of}
use Rattle.sheet.specs.declared.Edit.{Edit}
use Rattle.decode.specs.Asks.{asked_by, asked_for}
use Rattle.reader.specs.Kernels.{Padded, outcome_of, duty_item, turned}
use Rattle.storage.specs.Refusals.{Change, refusing}
use Rattle.std.specs.Prelude.{Ok, Err}
use Rattle.decode.specs.Asks.{Asked}

-- the step of an edit that is known
pub step_of : {e f : Edit} {ws ws' : List ℕ} {b : Bitmap} {r : Change} → e ≡ f → Changes (step f) ws b r ws' → Changes (step e) ws b r ws'
step_of {e} {f} {ws} {ws'} {b} {r} q h = subst (λ (x : Edit). Changes (step x) ws b r ws') (sym q) h

-- what is asked for comes to
abbrev comes : ℕ → Bits → Asked → Outcome
comes c b (Err e) = refused e
comes c b (Ok e) = step e c b

module _ (edition kind : ℕ) (payload : List ℕ) (c : ℕ) (b : Bits) where
  step_comes : (o : Outcome) → outcome_of (turn_of o) ≡ o
  step_comes (refused x) = refl
  step_comes (done s) = refl

  asked_comes : (t : Turn Edit) → outcome_of (taken (edition_of c edition) 0 b t) ≡ comes c b (asked_by t)
  unfolding edition_of
  asked_comes (stop e) = refl
  asked_comes (next e) = step_comes (step e c b)

  duty_comes : turned edition (duty_item kind payload) c b ≡ comes c b (asked_for edition kind payload)
  unfolding turned asked_for
  duty_comes = asked_comes (asking (size_in edition) rule_of kind payload)

-- ---- a duty record

module _ (edition kind : ℕ) (payload ws : List ℕ) (b : Bitmap) where
  pub duty_refused : (e : Refusal) → Err e ≡ asked_for edition kind payload
      → Leaves (turned edition (duty_item kind payload) (space_of ws) (held ws b)) ws b (refusing b e) ws
  duty_refused e q = leaves_refused (duty_comes edition kind payload (space_of ws) (held ws b) ∙ ap (comes (space_of ws) (held ws b)) (sym q))

  -- what its step does
  pub duty_does : (e : Edit) → Ok e ≡ asked_for edition kind payload → Padded ws b → (r : Change) (ws' : List ℕ) → Changes (step e) ws b r ws'
      → Leaves (turned edition (duty_item kind payload) (space_of ws) (held ws b)) ws b r ws'
  duty_does e q p r ws' h = subst (λ (o : Outcome). Leaves o ws b r ws') (sym asked-step) h
    where
      asked-step : turned edition (duty_item kind payload) (space_of ws) (held ws b) ≡ outcome (step e) ws b
      asked-step =
          duty_comes edition kind payload (space_of ws) (held ws b) ∙ ap (comes (space_of ws) (held ws b)) (sym q)
          ∙ sym (outcome_ok (step e) ws b p.passes)

-- ---- the record at a position

module _ (edition : ℕ) (sheet : List ℕ) (at first : ℕ) (e : first ≡ get_or sheet at 0) where
  pub remark : (ws : List ℕ) (b : Bitmap) → Fit ws → first < 128
      → Leaves (turned edition (item_at sheet at) (space_of ws) (held ws b)) ws b (Ok b) ws
  unfolding turned answer store view
  remark ws b f l = subst (λ (o : Outcome). Leaves o ws b (Ok b) ws) (sym same) (record { answers = refl; leaves = written-view ws b.count f })
    where
      asks : Turn Edit
      asks = asking (size_in edition) rule_of (item_at sheet at).kind (item_at sheet at).payload

      same : turned edition (item_at sheet at) (space_of ws) (held ws b) ≡ done (held ws b)
      same =
          ap (λ (t : Bool). outcome_of (choose t (taken (edition_of (length ws) edition) 0 (held ws b) asks) (next (held ws b))))
          (lt-leb 128 (get_or sheet at 0) (omega arith))

  pub on_duty : (end : ℕ) → end ≡ end_at sheet at → 128 ≤ first → item_at sheet at ≡ duty_item (first % 128) (take (end - (at + 3)) (drop (at + 3) sheet))
  on_duty end q l =
      λ i. record {
        duty = le-leb 128 (get_or sheet at 0) (omega arith) i;
        kind = ap (λ (x : ℕ). x % 128) (sym e) i;
        payload = take ((let k : size_at sheet at ≡ end - (at + 3) = omega arith in k i)) (drop (at + 3) sheet);
      }

  pub acts : (end : ℕ) (ws ws' : List ℕ) (b : Bitmap) (r : Change) → end ≡ end_at sheet at → 128 ≤ first
      → Leaves (turned edition (duty_item (first % 128) (take (end - (at + 3)) (drop (at + 3) sheet))) (space_of ws) (held ws b)) ws b r ws'
      → Leaves (turned edition (item_at sheet at) (space_of ws) (held ws b)) ws b r ws'
  acts end ws ws' b r q l h =
      subst (λ (x : Item). Leaves (turned edition x (space_of ws) (held ws b)) ws b r ws') (sym (on_duty end q l)) h
