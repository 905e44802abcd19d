-- The plain sheet's bytes hold exactly its records, each where the last one ends.
use Prim.Native.Nat.{ℕ, zero, suc, ◌+◌, ◌*◌, ◌≤◌, ◌<◌}
use mathlib.Core.Path.{◌≡◌, refl, sym, ap, ap₂, ◌∙◌, subst}
use mathlib.Core.List.{List, [], ◌∷◌, ◌++◌, append_assoc, append-nil}
use mathlib.Core.Option.{some}
use native.Mathlib.Omega.{arith}
use native.Mathlib.Nat.{add-zero, add-suc, suc-add, zero-add}
use lib.ListN.{length, get_or, get_elem?, length-append, get_or-append}
use lib.Seq.{get_or-append_seam, get_or-append-add}
use lib.Dec.{leb}
use Rattle.sheet.specs.Bytes.{bytes}
use Rattle.editions.specs.Frames.{end_at}
use Rattle.editions.specs.Meaning.{Stands, start, Is}
use Rattle.plain.specs.Writer.{most, Entry, edit, note, laid, bytes_of}
use Rattle.plain.specs.Plain.{body, sheet_of}
use Rattle.sheet.specs.Kinds.{kind_of, payload_of, Ranged}
use Rattle.sheet.specs.Promises.{Laid}
use Rattle.plain.specs.Promises.{Shows, Holding}
use Rattle.sheet.specs.declared.Edit.{Edit}
use Rattle.editions.proofs.Turns.{none_some, some_inj}
use Rattle.sheet.proofs.Payloads.{kind_small, payload_short}
use Rattle.sheet.proofs.Papers.{table_agrees}
use Rattle.plain.proofs.Laid.{Proper, AllProper, item_of, two_bytes, end_of, head, sheet_head, sheet_headed, sheet-count}

-- ---- a record in its place

stands_laid : (pre rest p : List ℕ) (first b k : ℕ) → first ≡ 128 * b + k → k < 128 → length p ≤ most
    → Stands (pre ++ (laid first p ++ rest)) (length pre) (record { duty = leb 1 b; kind = k; payload = p })
unfolding bytes
stands_laid pre rest p first b k f s l = record {
  bit = b;
  first = get_or-append_seam pre first (bytes 2 (length p) ++ p ++ rest) 0 ∙ f;
  seven = s;
  duty = refl;
  size = ap₂ (λ (x y : ℕ). x * 256 + y) (get_or-append-add pre (laid first p ++ rest) 1 0) (get_or-append-add pre (laid first p ++ rest) 2 0) ∙ two_bytes (length p) l;
  inside = omega (arith, length-append pre (laid first p ++ rest), length-append (laid first p) rest, length-append (bytes 2 (length p)) p);
  bytes = λ j h.
      let e : length pre + 3 + j ≡ length pre + suc (suc (suc j)) = omega arith in
      sym (ap (λ (n : ℕ). get_or (pre ++ (laid first p ++ rest)) n 0) e ∙ get_or-append-add pre (laid first p ++ rest) (suc (suc (suc j))) 0 ∙ get_or-append p rest 0 j h);
}

-- kind and payload fit their bits
abbrev pub Framed : Entry → Type 0
Framed (edit e) = Unit {0}
Framed (note k p) = (k ≤ 127) × (length p ≤ most)

framed : (x : Entry) → Proper x → Framed x
framed (edit e) h = tt
framed (note k p) h = h

-- an entry after the bytes before it
pub stands_there : (pre rest : List ℕ) (x : Entry) → Framed x → Stands (pre ++ (bytes_of x ++ rest)) (length pre) (item_of x)
unfolding bytes_of
stands_there pre rest (edit e) h = stands_laid pre rest (payload_of e) (128 + kind_of e) 1 (kind_of e) refl (omega (arith, kind_small e)) (payload_short e)
stands_there pre rest (note k p) h = stands_laid pre rest p k 0 k (omega arith) (omega arith) h.1

-- what is laid out of an edit is its line in 01's table
pub laid_edit : (e : Edit) → Ranged e → Laid (kind_of e) (payload_of e) e
laid_edit e h =
    let its = table_agrees.lines e in
    record { kind_is = sym its.kind; ranged = its.ranges.0 h; long = its.bytes.0; unused = its.unused; digits_are = its.digits_are h }

shows : (x : Entry) → Proper x → Shows x (item_of x)
shows (edit e) h = (refl, laid_edit e h)
shows (note k p) h = (refl, refl, refl)

-- ---- all of them

module _ (sheet : List ℕ) where
  next_start : (pre rest : List ℕ) (i : ℕ) (x : Entry) → Proper x → sheet ≡ pre ++ (bytes_of x ++ rest) → start sheet i ≡ length pre → start sheet (suc i) ≡ length (pre ++ bytes_of x)
  unfolding start
  next_start pre rest i x h e at = ap (end_at sheet) at ∙ ap (λ (l : List ℕ). end_at l (length pre)) e ∙ end_of pre rest x h

  there : (pre : List ℕ) (es : List Entry) (i : ℕ) → AllProper es → sheet ≡ pre ++ body es → start sheet i ≡ length pre
      → (j : ℕ) (x : Entry) → get_elem? es j ≡ some x → Is sheet (i + j) (item_of x)
  unfolding body
  there pre [] i h e at j x q = absurd (none_some q)
  there pre (y ∷ es) i h e at zero x q =
      subst (λ (n : ℕ). Is sheet n (item_of x)) (sym (add-zero i))
      (subst (λ (n : ℕ). Stands sheet n (item_of x)) (sym at)
      (subst (λ (l : List ℕ). Stands l (length pre) (item_of x)) (sym e)
      (subst (λ (z : Entry). Stands (pre ++ (bytes_of y ++ body es)) (length pre) (item_of z)) (some_inj q) (stands_there pre (body es) y (framed y h.0)))))
  there pre (y ∷ es) i h e at (suc j) x q =
      subst (λ (n : ℕ). Is sheet n (item_of x)) (suc-add i j ∙ sym (add-suc i j))
      (there (pre ++ bytes_of y) es (suc i) h.1 (e ∙ sym (append_assoc pre (bytes_of y) (body es))) (next_start pre (body es) i y h.0 e at) j x q)

  ends : (pre : List ℕ) (es : List Entry) (i : ℕ) → AllProper es → sheet ≡ pre ++ body es → start sheet i ≡ length pre → start sheet (i + length es) ≡ length sheet
  unfolding body
  ends pre [] i h e at = ap (start sheet) (add-zero i) ∙ at ∙ ap length (sym (e ∙ append-nil pre))
  ends pre (y ∷ es) i h e at =
      ap (start sheet) (sym (suc-add i (length es) ∙ sym (add-suc i (length es))))
      ∙ ends (pre ++ bytes_of y) es (suc i) h.1 (e ∙ sym (append_assoc pre (bytes_of y) (body es))) (next_start pre (body es) i y h.0 e at)

one_of : (es : List Entry) (i : ℕ) (x : Entry) → AllProper es → get_elem? es i ≡ some x → Proper x
one_of [] i x h q = absurd (none_some q)
one_of (y ∷ es) zero x h q = subst Proper (some_inj q) h.0
one_of (y ∷ es) (suc i) x h q = one_of es i x h.1 q

pub sheet_is : (es : List Entry) → length es ≤ most → AllProper es → Holding (sheet_of es) es
unfolding start
sheet_is es l h = record {
  headed = sheet_headed es;
  many = sheet-count es l;
  records = λ i x q.
      let at = subst (λ (n : ℕ). Is (sheet_of es) n (item_of x)) (zero-add i) (there (sheet_of es) (head es) es 0 h (sheet_head es) refl i x q) in
      (item_of x, at, shows x (one_of es i x h q));
  ends = ap (start (sheet_of es)) (sym (zero-add (length es))) ∙ ends (sheet_of es) (head es) es 0 h (sheet_head es) refl;
}
