-- The course of a reading: 14, then 1 and 2 of each store, then the sheet.
use Prim.Native.Nat.{ℕ, ◌≤◌, ◌<◌}
use mathlib.Core.Path.{◌≡◌, refl, sym, ap, ap₂, ◌∙◌, subst}
use mathlib.Core.Bool.{Bool, true, false, ◌&&◌}
use mathlib.Core.List.{List}
use lib.ListN.{length, replicate, length-replicate, get_or-replicate}
use lib.Seq.{ext_get_or}
use native.Mathlib.Omega.{arith}
use lib.Dec.{leb}
use borrow.Author.Tests.{le-leb, lt-leb}
use Rattle.word.specs.Sets.{choose}
use Rattle.word.proofs.Cases.{and-false, zero_one}
use Rattle.storage.specs.Stores.{Bits, no_words, checked, held, written, zeroed}
use Rattle.storage.specs.Guards.{PassedTwo}
use Rattle.storage.specs.declared.Bitmap.{Bitmap}
use Rattle.storage.specs.declared.Refusal.{Refusal}
use Rattle.storage.specs.declared.Refusal.TheVariants.{NoEdition}
use Rattle.storage.proofs.Checks.{checked_ok, stopped_two}
use Rattle.editions.specs.Reader.{Answer, refused, read}
use Rattle.sheet.specs.Reads.{edition_of, latest, fitting, Course, stopped, went, is_edition, course, read_answer, read_store, Reads}
use Rattle.reader.specs.Kernels.{Came}
use Rattle.sheet.proofs.Readings.{same-zeros}
use Rattle.storage.specs.Refusals.{passing, refusing}
use Rattle.std.specs.Prelude.{Err, Ok, is_err}
use Rattle.sheet.specs.Reads.{Reading}
use Rattle.sheet.specs.declared.ReadError.{ReadError}
use Rattle.storage.specs.declared.Refused.{Refused}
use Rattle.storage.proofs.Stores.{length-zeroed, zeroed_in}

-- a store that is filled with 0
all_zero : (ws : List ℕ) → replicate (length ws) 0 ≡ zeroed 0 (length ws) ws
all_zero ws =
    ext_get_or 0 (replicate (length ws) 0) (zeroed 0 (length ws) ws) (long ∙ sym (length-zeroed 0 (length ws) ws))
    (λ k l. let h : k < length ws = omega (arith, long) in get_or-replicate (length ws) k 0 0 h ∙ sym (zeroed_in 0 (length ws) ws k (omega arith) h))
  where
    zeros : List ℕ
    zeros = replicate (length ws) 0

    long : length zeros ≡ length ws
    long = length-replicate {A = ℕ} (length ws) 0

module _ (n : ℕ) (sheet ws : List ℕ) (o : Bitmap) (res : List ℕ) where
  abbrev whole : Answer Bits
  whole = read (edition_of (length res) n) sheet (fitting (length res) (held ws o))

  -- ---- what stops a reading

  stops : (e : Refusal) → course n sheet ws o res ≡ stopped e → Reads n sheet ws o res (Err (e, 0)) res
  stops e q = record { answers = ap read_answer (sym q); leaves = ap (λ (x : Course). read_store x res) (sym q) }

  by_edition : (t : Bool) → is_edition n ≡ t
      → course n sheet ws o res ≡ choose t (checked ws o stopped (checked res no_words stopped (went whole))) (stopped NoEdition)
  unfolding course
  by_edition t e = ap (λ (t : Bool). choose t (checked ws o stopped (checked res no_words stopped (went whole))) (stopped NoEdition)) e

  pub edition_under : n < 1 → Reads n sheet ws o res (Err (NoEdition, 0)) res
  edition_under h = stops NoEdition (by_edition false (ap (λ (t : Bool). t && leb n latest) (lt-leb 1 n h)))

  pub edition-over : latest < n → Reads n sheet ws o res (Err (NoEdition, 0)) res
  edition-over h = stops NoEdition (by_edition false (ap (λ (t : Bool). leb 1 n && t) (lt-leb n latest h) ∙ and-false (leb 1 n)))

  module _ (low : 1 ≤ n) (high : n ≤ latest) where
    in_edition : course n sheet ws o res ≡ checked ws o stopped (checked res no_words stopped (went whole))
    in_edition = by_edition true (ap₂ (λ (s t : Bool). s && t) (le-leb 1 n low) (le-leb n latest high))

    pub guard_stopped : (e : Refused) → Err e ≡ checked ws o (refusing o) (checked res no_words (refusing o) passing) → Reads n sheet ws o res (Err (e.0, 0)) res
    guard_stopped e p = stops e.0 (in_edition ∙ stopped_two ws o res no_words e stopped (went whole) p)

    module _ (p : PassedTwo ws o res no_words) where
      goes : course n sheet ws o res ≡ went whole
      goes =
          in_edition ∙ checked_ok ws o stopped (checked res no_words stopped (went whole)) p.own
          ∙ checked_ok res no_words stopped (went whole) p.other

      -- ---- what a reading leaves

      pub reads_done : (r : Reading) (res' : List ℕ) (k : ℕ) (b : Bitmap) → r ≡ Ok (k, b) → Came whole res r res' → Reads n sheet ws o res (Ok (k, b)) res'
      reads_done r res' k b q h = record {
        answers = sym q ∙ h.answers ∙ ap read_answer (sym goes);
        leaves = left whole h.leaves (sym q ∙ h.answers) ∙ ap (λ (x : Course). read_store x res) (sym goes);
      }
        where
          left : (a : Answer Bits) → ((j : ℕ) (s : Bits) → a ≡ Answer.done j s → res' ≡ written res (length res) s) → Ok (k, b) ≡ read_answer (went a)
              → res' ≡ read_store (went a) res
          left (refused e j) f p = zero_one cc
          left (Answer.done j s) f p = f j s refl

      pub reads-refused : (r : Reading) (res' res'' : List ℕ) (e : ReadError) → r ≡ Err e → Came whole res r res' → res'' ≡ replicate (length res') 0
          → Reads n sheet ws o res (Err e) res''
      reads-refused r res' res'' e q h z = record {
        answers = sym q ∙ h.answers ∙ ap read_answer (sym goes);
        leaves = z ∙ all_zero res' ∙ same-zeros res' res h.long ∙ left whole (sym q ∙ h.answers) ∙ ap (λ (x : Course). read_store x res) (sym goes);
      }
        where
          left : (a : Answer Bits) → Err e ≡ read_answer (went a) → zeroed 0 (length res) res ≡ read_store (went a) res
          left (refused d j) p = refl
          left (Answer.done j s) p = zero_one cc

      -- by whether it is refused: then the store is cleared, else left
      pub reads_back : (r : Reading) (res' res'' : List ℕ) (t : Bool) → t ≡ is_err r → Came whole res r res' → (t ≡ true → res'' ≡ replicate (length res') 0) → (t ≡ false → res'' ≡ res')
          → Reads n sheet ws o res r res''
      reads_back (Ok (k, b)) res' res'' t e h z w = subst (Reads n sheet ws o res (Ok (k, b))) (sym (w e)) (reads_done (Ok (k, b)) res' k b refl h)
      reads_back (Err why) res' res'' t e h z w = reads-refused (Err why) res' res'' why refl h (z e)
