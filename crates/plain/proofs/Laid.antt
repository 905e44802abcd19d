-- Records that are laid out one after another are read as they were, by the frames and by any edition that has their kinds.
use Prim.Native.Nat.{ℕ, suc, ◌+◌, ◌*◌, ◌^◌, ◌/◌, ◌%◌, ◌≤◌}
use mathlib.Core.Path.{◌≡◌, refl, sym, ap, ap₂, ◌∙◌}
use mathlib.Core.Bool.{true, false}
use mathlib.Core.List.{List, [], ◌∷◌, ◌++◌, append_assoc}
use mathlib.Core.Option.{Option, none, some}
use native.Mathlib.Omega.{arith}
use native.Mathlib.Nat.{add-zero, add-suc, suc-add, zero-add}
use lib.ListN.{length, get_or, take, drop, length-append}
use lib.Seq.{take-append_seam, drop-append-add, get_or-append_seam, get_or-append-add}
use lib.Dec.{leb}
use borrow.Author.Tests.{le-leb, lt-leb, le-ltb, eq-eqb}
use Rattle.sheet.specs.Bytes.{bytes}
use Rattle.sheet.specs.Kinds.{size_in, kind_of, payload_of, Ranged}
use Rattle.editions.specs.Frames.{Item, count_in, size_at, end_at, item_at, frames_fault, sheet_fault}
use Rattle.editions.specs.Reader.{Turn, stop, next, done, act, then, records, read}
use Rattle.editions.specs.Meaning.{Header, onward, effect}
use Rattle.sheet.specs.Reads.{edition_of, latest}
use Rattle.plain.specs.Writer.{Entry, edit, note, laid, bytes_of}
use Rattle.plain.specs.Plain.{body, sheet_of, edits_after, edits_in}
use Rattle.sheet.specs.declared.Edit.{Edit}
use Rattle.storage.specs.Stores.{Bits}
use Rattle.editions.proofs.Turns.{stop_next, next_inj, take-true, take-false, headed_true, act_remark, record-whole, all_read, edited, taken_of}
use Rattle.sheet.proofs.Payloads.{read_back, kind_small, payload_short, size-latest}

-- a record that fits its frame
abbrev pub Proper : Entry → Type 0
Proper (edit e) = Ranged e
Proper (note kind payload) = (kind ≤ 127) × (length payload ≤ 65_535)

abbrev pub AllProper : List Entry → Type 0
AllProper [] = Unit {0}
AllProper (e ∷ es) = Proper e × AllProper es

abbrev pub item_of : Entry → Item
item_of (edit e) = record { duty = true; kind = kind_of e; payload = payload_of e }
item_of (note kind payload) = record { duty = false; kind = kind; payload = payload }

pub two_bytes : (n : ℕ) → n ≤ 65_535 → n / 256 ^ 1 % 256 * 256 + n / 256 ^ 0 % 256 ≡ n
two_bytes n h = omega arith

-- ---- a record in its place

module _ (pre : List ℕ) (first : ℕ) (p rest : List ℕ) (short : length p ≤ 65_535) where
  abbrev placed : List ℕ
  placed = pre ++ (laid first p ++ rest)

  laid-size : size_at placed (length pre) ≡ length p
  unfolding bytes
  laid-size =
      ap₂ (λ (x y : ℕ). x * 256 + y) (get_or-append-add pre (laid first p ++ rest) 1 0) (get_or-append-add pre (laid first p ++ rest) 2 0)
      ∙ two_bytes (length p) short

  laid_item : item_at placed (length pre) ≡ record { duty = leb 128 first; kind = first % 128; payload = p }
  unfolding bytes
  laid_item =
      let a : get_or placed (length pre) 0 ≡ first = get_or-append_seam pre first (bytes 2 (length p) ++ p ++ rest) 0 in
      let b : take (size_at placed (length pre)) (drop (length pre + 3) placed) ≡ p =
      ap₂ (λ (n : ℕ) (l : List ℕ). take n l) laid-size (drop-append-add pre (laid first p ++ rest) 3) ∙ take-append_seam p rest in
      λ i. record { duty = leb 128 (a i); kind = a i % 128; payload = b i }

  laid_end : end_at placed (length pre) ≡ length (pre ++ laid first p)
  unfolding bytes
  laid_end = omega (arith, laid-size, length-append pre (laid first p), length-append (bytes 2 (length p)) p)

module _ (pre : List ℕ) (rest : List ℕ) where
  pub item_of_lem : (e : Entry) → Proper e → item_at (pre ++ (bytes_of e ++ rest)) (length pre) ≡ item_of e
  unfolding bytes_of
  item_of_lem (edit e) h =
      let a : (128 + kind_of e) % 128 ≡ kind_of e = omega (arith, kind_small e) in
      let b : leb 128 (128 + kind_of e) ≡ true = le-leb 128 (128 + kind_of e) (omega arith) in
      laid_item pre (128 + kind_of e) (payload_of e) rest (payload_short e) ∙ λ i. record { duty = b i; kind = a i; payload = payload_of e }
  item_of_lem (note k p) h =
      let a : k % 128 ≡ k = omega arith in
      let b : leb 128 k ≡ false = lt-leb 128 k (omega arith) in
      laid_item pre k p rest h.1 ∙ λ i. record { duty = b i; kind = a i; payload = p }

  pub end_of : (e : Entry) → Proper e → end_at (pre ++ (bytes_of e ++ rest)) (length pre) ≡ length (pre ++ bytes_of e)
  unfolding bytes_of
  end_of (edit e) h = laid_end pre (128 + kind_of e) (payload_of e) rest (payload_short e)
  end_of (note k p) h = laid_end pre k p rest h.1

  pub whole_of : (e : Entry) → Proper e → end_at (pre ++ (bytes_of e ++ rest)) (length pre) ≤ length (pre ++ (bytes_of e ++ rest))
  whole_of e h = omega (arith, end_of e h, length-append pre (bytes_of e), length-append pre (bytes_of e ++ rest), length-append (bytes_of e) rest)

-- ---- all records

frames_body : (pre : List ℕ) (es : List Entry) → AllProper es → frames_fault (pre ++ body es) (length es) (length pre) ≡ none
unfolding frames_fault body
frames_body pre [] h = take-false _ _ (le-ltb (length pre) (length (pre ++ [])) (omega (arith, length-append pre [])))
frames_body pre (e ∷ es) h =
    take-true _ _ (le-leb (end_at (pre ++ (bytes_of e ++ body es)) (length pre)) (length (pre ++ (bytes_of e ++ body es))) (whole_of pre (body es) e h.0))
    ∙ ap₂ (λ (l : List ℕ) (at : ℕ). frames_fault l (length es) at) (sym (append_assoc pre (bytes_of e) (body es))) (end_of pre (body es) e h.0)
    ∙ frames_body (pre ++ bytes_of e) es h.1

abbrev pub head : List Entry → List ℕ
head es = 78 ∷ 83 ∷ length es / 256 ^ 1 % 256 ∷ length es / 256 ^ 0 % 256 ∷ []

pub sheet_head : (es : List Entry) → sheet_of es ≡ head es ++ body es
unfolding sheet_of
sheet_head es = refl

pub sheet_headed : (es : List Entry) → Header (sheet_of es)
unfolding sheet_of
sheet_headed es = (omega arith, refl, refl)

pub sheet-count : (es : List Entry) → length es ≤ 65_535 → count_in (sheet_of es) ≡ length es
unfolding sheet_of
sheet-count es l = two_bytes (length es) l

-- the writer finds no fault in the plain sheet's bytes
pub no_fault : (es : List Entry) → length es ≤ 65_535 → AllProper es → sheet_fault (sheet_of es) ≡ none
unfolding sheet_fault
no_fault es l h =
    take-true _ _ (headed_true (sheet_of es) (sheet_headed es))
    ∙ ap₂ (λ (s : List ℕ) (n : ℕ). frames_fault s n 4) (sheet_head es) (sheet-count es l)
    ∙ frames_body (head es) es h

-- the edition has every duty record's kind
abbrev pub InEdition : ℕ → List Entry → Type 0
InEdition n [] = Unit {0}
InEdition n (edit e ∷ es) = (size_in n (kind_of e) ≡ some (length (payload_of e))) × InEdition n es
InEdition n (note k p ∷ es) = InEdition n es

pub in_latest : (es : List Entry) → InEdition latest es
in_latest [] = tt
in_latest (edit e ∷ es) = (size-latest e, in_latest es)
in_latest (note k p ∷ es) = in_latest es

module _ (c n : ℕ) where
  act_edit : (k : ℕ) (e : Edit) (s : Bits) → Ranged e → size_in n (kind_of e) ≡ some (length (payload_of e))
      → act (edition_of c n) k (item_of (edit e)) s ≡ (edition_of c n).step k e s
  unfolding act edition_of
  act_edit k e s h g =
      ap (λ (o : Option ℕ). taken_of (edition_of c n) k (item_of (edit e)) o s) g
      ∙ ap (λ (o : Option Edit). edited (edition_of c n) k o s)
      (take-true _ _ (eq-eqb (length (payload_of e)) (length (payload_of e)) refl) ∙ read_back e h)

  -- the record in its place takes its turn, and the others follow
  record_of : (pre : List ℕ) (x : Entry) (es : List Entry) (m i : ℕ) (s : Bits) → Proper x
      → records (edition_of c n) (pre ++ (bytes_of x ++ body es)) (suc m) i (length pre) s
      ≡ then (edition_of c n) (records (edition_of c n) ((pre ++ bytes_of x) ++ body es) m (suc i) (length (pre ++ bytes_of x))) (suc i) (act (edition_of c n) (suc i) (item_of x) s)
  record_of pre x es m i s h =
      record-whole (edition_of c n) (pre ++ (bytes_of x ++ body es)) m i (length pre) s (whole_of pre (body es) x h)
      ∙ ap₂ (λ (l : List ℕ) (at : ℕ). then (edition_of c n) (records (edition_of c n) l m (suc i) at) (suc i) (act (edition_of c n) (suc i) (item_at (pre ++ (bytes_of x ++ body es)) (length pre)) s))
      (sym (append_assoc pre (bytes_of x) (body es))) (end_of pre (body es) x h)
      ∙ ap (λ (r : Item). then (edition_of c n) (records (edition_of c n) ((pre ++ bytes_of x) ++ body es) m (suc i) (length (pre ++ bytes_of x))) (suc i) (act (edition_of c n) (suc i) r s))
      (item_of_lem pre (body es) x h)

  records_body : (pre : List ℕ) (es : List Entry) (i : ℕ) (s t : Bits) → AllProper es → InEdition n es → effect (edition_of c n) (edits_after i es) s ≡ next t
      → records (edition_of c n) (pre ++ body es) (length es) i (length pre) s ≡ done (i + length es) t
  unfolding body edits_after effect
  records_body pre [] i s t h g e =
      all_read (edition_of c n) (pre ++ []) i (length pre) s (omega (arith, length-append pre []))
      ∙ ap₂ (λ (k : ℕ) (x : Bits). done k x) (sym (add-zero i)) (next_inj e)
  records_body pre (edit x ∷ es) i s t h g e =
      record_of pre (edit x) es (length es) i s h.0
      ∙ ap (then (edition_of c n) (records (edition_of c n) (after ++ body es) (length es) (suc i) (length after)) (suc i)) (act_edit (suc i) x s h.0 g.0)
      ∙ go (λ s' q. records_body after es (suc i) s' t h.1 g.1 q) ((edition_of c n).step (suc i) x s) e
    where
      after : List ℕ
      after = pre ++ bytes_of (edit x)

      go : ((s' : Bits) → effect (edition_of c n) (edits_after (suc i) es) s' ≡ next t → records (edition_of c n) (after ++ body es) (length es) (suc i) (length after) s' ≡ done (suc i + length es) t)
          → (o : Turn Bits) → onward (effect (edition_of c n) (edits_after (suc i) es)) o ≡ next t
          → then (edition_of c n) (records (edition_of c n) (after ++ body es) (length es) (suc i) (length after)) (suc i) o ≡ done (i + suc (length es)) t
      go ih (stop x) q = absurd (stop_next q)
      go ih (next s') q = ih s' q ∙ ap (λ (m : ℕ). done m t) (suc-add i (length es) ∙ sym (add-suc i (length es)))
  records_body pre (note k p ∷ es) i s t h g e =
      record_of pre (note k p) es (length es) i s h.0
      ∙ ap (then (edition_of c n) (records (edition_of c n) ((pre ++ bytes_of (note k p)) ++ body es) (length es) (suc i) (length (pre ++ bytes_of (note k p)))) (suc i))
      (act_remark (edition_of c n) (suc i) (item_of (note k p)) s refl)
      ∙ records_body (pre ++ bytes_of (note k p)) es (suc i) s t h.1 g e
      ∙ ap (λ (m : ℕ). done m t) (suc-add i (length es) ∙ sym (add-suc i (length es)))

  -- the plain sheet's bytes are accepted with the effect of its edits in order
  pub read-sheet : (es : List Entry) (s t : Bits) → length es ≤ 65_535 → AllProper es → InEdition n es → effect (edition_of c n) (edits_in es) s ≡ next t
      → read (edition_of c n) (sheet_of es) (next s) ≡ done (length es) t
  unfolding read
  read-sheet es s t l h g e =
      take-true _ _ (headed_true (sheet_of es) (sheet_headed es))
      ∙ ap₂ (λ (x : List ℕ) (k : ℕ). records (edition_of c n) x k 0 4 s) (sheet_head es) (sheet-count es l)
      ∙ records_body (head es) es 0 s t h g e
      ∙ ap (λ (k : ℕ). done k t) (zero-add (length es))
