-- The table of kinds is the paper's: each line is computed, and the digits follow for any fields.
use Prim.Native.Nat.{ℕ, zero, suc, ◌+◌, ◌*◌, ◌^◌, ◌/◌, ◌%◌, ◌≤◌, ◌<◌}
use mathlib.Core.Path.{◌≡◌, refl, sym, ap, ap₂, ◌∙◌, subst}
use mathlib.Core.Bool.{Bool}
use mathlib.Core.List.{List, [], ◌∷◌, ◌++◌}
use mathlib.Core.Option.{Option, none, some}
use native.Mathlib.Omega.{arith}
use native.Mathlib.Nat.{mod-eq_of_lt, pow-suc, mul_comm, add-zero, suc-add, zero-add, add_comm, mul_assoc, add-mul-div_right, add-mul-mod_self_right}
use lib.ListN.{length, take, drop, length-append}
use lib.Pow.{pow_pos, split, high, mod-pow-add, shr-shr, shl-shr}
use lib.Dec.{leb}
use borrow.Author.Tests.{le-leb, lt-leb}
use Rattle.word.specs.Sets.{choose, val}
use Rattle.word.specs.Places.{is_one}
use Rattle.word.proofs.Cases.{by_lt}
use Rattle.sheet.specs.Bytes.{bytes}
use Rattle.sheet.specs.Layout.{Field, widths, packed, InRange}
use Rattle.sheet.specs.Kinds.{Row, bytes_in, number_in, row_of, size_in, known, known_number, known_bytes, kind_of, fields_of, numbered, bytes_by, fields_by, payload_of, Ranged}
use Rattle.sheet.specs.Reads.{edition_of}
use Rattle.sheet.specs.Paper.{Cell, paper_line, Allowed, digits, cell_digits, byte_digits}
use Rattle.sheet.specs.Promises.{AsPrinted, TableAgrees, HasKind, KnownExact, Laid, PayloadsExact}
use Rattle.sheet.specs.declared.Edit.{Edit}
use Rattle.sheet.specs.declared.Edit.TheVariants.{Set, Unset, SetRegion, SetField, Shift, Rotate, Resize, Reverse, ToggleRegion, Open, Close}
use Rattle.editions.proofs.Turns.{none_some}
use Rattle.sheet.proofs.Layouts.{Sized, range_sized, packed_small}
use Rattle.sheet.proofs.Payloads.{octets, fits, good_row, row_for_lem, good, numbered_is, payload_length, ranged, held, Lays, asks_lays}
use Rattle.sheet.proofs.Rules.{AllBytes, byte_bits, bytes_small}

-- ---- each line, computed

-- the fields of a row with an edit's values
abbrev cells : List Field → List ℕ → List Cell
cells [] vs = []
cells (f ∷ fs) [] = []
cells (f ∷ fs) (v ∷ vs) = record { bits = f.width; least = f.least; most = f.most; value = v } ∷ cells fs vs

pub record LineOf (e : Edit) : Type 0 where
  pub kind : kind_of e ≡ (paper_line e).kind
  fields : cells (fields_by (row_of (kind_of e))) (fields_of e) ≡ (paper_line e).fields
  size : (n : ℕ) → size_in n (kind_of e) ≡ choose (leb (paper_line e).edition n) (some (paper_line e).bytes) none
  bytes : bytes_by (row_of (kind_of e)) ≡ (paper_line e).bytes
  many : length (fields_by (row_of (kind_of e))) ≡ length (fields_of e)

pub each_line : (e : Edit) → LineOf e
unfolding size_in row_of kind_of fields_of bytes_in paper_line
each_line (Set p) = record { kind = refl; fields = refl; size = λ n. refl; bytes = refl; many = refl }
each_line (Unset p) = record { kind = refl; fields = refl; size = λ n. refl; bytes = refl; many = refl }
each_line (SetRegion v p k) = record { kind = refl; fields = refl; size = λ n. refl; bytes = refl; many = refl }
each_line (SetField p w v) = record { kind = refl; fields = refl; size = λ n. refl; bytes = refl; many = refl }
each_line (Shift d k) = record { kind = refl; fields = refl; size = λ n. refl; bytes = refl; many = refl }
each_line (Rotate d k) = record { kind = refl; fields = refl; size = λ n. refl; bytes = refl; many = refl }
each_line (Resize n) = record { kind = refl; fields = refl; size = λ n. refl; bytes = refl; many = refl }
each_line Reverse = record { kind = refl; fields = refl; size = λ n. refl; bytes = refl; many = refl }
each_line (ToggleRegion p k) = record { kind = refl; fields = refl; size = λ n. refl; bytes = refl; many = refl }
each_line (Open p k) = record { kind = refl; fields = refl; size = λ n. refl; bytes = refl; many = refl }
each_line (Close p k) = record { kind = refl; fields = refl; size = λ n. refl; bytes = refl; many = refl }

-- ---- digits

-- what stands above the digits is none of them
digits_above : (w a x : ℕ) → digits w (a * 2 ^ w + x) ≡ digits w x
unfolding digits
digits_above zero a x = refl
digits_above (suc w) a x =
    ap₂ (λ (d : ℕ) (l : List Bool). is_one d ∷ l)
    (ap (λ (y : ℕ). y / 2 ^ w % 2) (moved ∙ add_comm (a * 2 * 2 ^ w) x)
    ∙ ap (λ (y : ℕ). y % 2) (add-mul-div_right x (a * 2) (pow_pos w)) ∙ add-mul-mod_self_right (x / 2 ^ w) a 2)
    (ap (digits w) moved ∙ digits_above w (a * 2) x)
  where
    moved : a * 2 ^ suc w + x ≡ a * 2 * 2 ^ w + x
    moved = ap (λ (y : ℕ). y + x) (ap (λ (y : ℕ). a * y) (pow-suc 2 w ∙ mul_comm (2 ^ w) 2) ∙ sym (mul_assoc a 2 (2 ^ w)))

digits_mod : (w x : ℕ) → digits w (x % 2 ^ w) ≡ digits w x
digits_mod w x = sym (ap (digits w) (sym (split x w)) ∙ digits_above w (x / 2 ^ w) (x % 2 ^ w))

-- the digits in two parts
digits-cut : (a b x : ℕ) → digits (a + b) x ≡ digits a (x / 2 ^ b) ++ digits b x
unfolding digits
digits-cut zero b x = ap (λ (n : ℕ). digits n x) (zero-add b)
digits-cut (suc a) b x =
    ap (λ (n : ℕ). digits n x) (suc-add a b)
    ∙ ap₂ (λ (d : ℕ) (l : List Bool). is_one (d % 2) ∷ l) (ap (λ (n : ℕ). x / 2 ^ n) (add_comm a b) ∙ sym (shr-shr x b a)) (digits-cut a b x)

byte_digits_lem : (n x : ℕ) → byte_digits (bytes n x) ≡ digits (8 * n) x
unfolding byte_digits bytes
byte_digits_lem zero x = refl
byte_digits_lem (suc n) x =
    let e : 8 + 8 * n ≡ 8 * suc n = omega arith in
    ap₂ (λ (l m : List Bool). l ++ m) (digits_mod 8 (x / 256 ^ n) ∙ ap (λ (y : ℕ). digits 8 (x / y)) (byte_bits n)) (byte_digits_lem n x)
    ∙ sym (digits-cut 8 (8 * n) x) ∙ ap (λ (m : ℕ). digits m x) e

cell_digits_lem : (fs : List Field) (vs : List ℕ) → Sized fs vs → digits (widths fs) (packed fs vs) ≡ cell_digits (cells fs vs)
unfolding cell_digits packed
cell_digits_lem [] [] h = refl
cell_digits_lem [] (v ∷ vs) h = absurd h
cell_digits_lem (f ∷ fs) [] h = absurd h
cell_digits_lem (f ∷ fs) (v ∷ vs) h =
    digits-cut f.width (widths fs) (v * 2 ^ widths fs + packed fs vs)
    ∙ ap₂ (λ (x : ℕ) (l : List Bool). digits f.width x ++ l) (high v (widths fs) (packed_small fs vs h.1))
    (digits_above (widths fs) v (packed fs vs) ∙ cell_digits_lem fs vs h.1)

-- ---- ranges

allowed : (fs : List Field) (vs : List ℕ) → InRange fs vs → Allowed (cells fs vs)
allowed [] [] h = tt
allowed [] (v ∷ vs) h = absurd h
allowed (f ∷ fs) [] h = absurd h
allowed (f ∷ fs) (v ∷ vs) h = (h.0, h.1, allowed fs vs h.2)

in_ranges : (fs : List Field) (vs : List ℕ) → length fs ≡ length vs → Allowed (cells fs vs) → InRange fs vs
in_ranges [] [] l h = tt
in_ranges [] (v ∷ vs) l h = absurd (omega arith)
in_ranges (f ∷ fs) [] l h = absurd (omega arith)
in_ranges (f ∷ fs) (v ∷ vs) l h = (h.0, h.1, in_ranges fs vs (omega arith) h.2)

-- ---- the whole table

as_printed : (e : Edit) → AsPrinted e
unfolding Ranged payload_of numbered number_in edition_of
as_printed e = record {
  kind = its.kind;
  size = λ n c. ap (size_in n) (sym its.kind) ∙ its.size n;
  ranges = ((λ h. subst Allowed its.fields (allowed fs (fields_of e) h)), (λ h. in_ranges fs (fields_of e) its.many (subst Allowed (sym its.fields) h)));
  bytes = (payload_length e ∙ its.bytes, bytes_small (bytes_by (row_of (kind_of e))) (numbered e));
  unused = r.spare;
  digits_are = λ h. laid h;
}
  where
    its : LineOf e
    its = each_line e

    r : Row
    r = (row_for_lem e).row

    fs : List Field
    fs = fields_by (row_of (kind_of e))

    vs : List ℕ
    vs = fields_of e

    laid : Ranged e → byte_digits (payload_of e) ≡ cell_digits (paper_line e).fields ++ digits r.spare 0
    laid h =
        let low : digits r.spare (packed r.fields vs * 2 ^ r.spare) ≡ digits r.spare 0 =
        ap (digits r.spare) (sym (add-zero (packed r.fields vs * 2 ^ r.spare))) ∙ digits_above r.spare (packed r.fields vs) 0 in
        byte_digits_lem (bytes_by (row_of (kind_of e))) (numbered e)
        ∙ ap₂ (λ (n x : ℕ). digits (8 * n) x) (ap bytes_by (row_for_lem e).at) (numbered_is e)
        ∙ ap (λ (n : ℕ). digits n (number_in r vs)) (sym (octets (good e)))
        ∙ digits-cut (widths r.fields) r.spare (number_in r vs)
        ∙ ap₂ (λ (x : ℕ) (l : List Bool). digits (widths r.fields) x ++ l) (shl-shr (packed r.fields vs) r.spare) low
        ∙ ap (λ (l : List Bool). l ++ digits r.spare 0)
        (cell_digits_lem r.fields vs (range_sized r.fields vs (fits (good e)) (ranged e h))
        ∙ ap cell_digits (ap (λ (o : Option Row). cells (fields_by o) vs) (sym (row_for_lem e).at) ∙ its.fields))

pub table_agrees : TableAgrees
unfolding edition_of
table_agrees = record { lines = as_printed; others = others }
  where
    others : (n c k m : ℕ) → (edition_of c n).size k ≡ some m → (e : Edit) × ((paper_line e).kind ≡ k)
    others n c k m s =
        let a = held n k m s in
        let e : Edit = a.row.make [] in
        (e, sym (each_line e).kind ∙ (good_row k a.row a.at).kind [])

-- ---- the kinds that an edition has

-- a kind of the edition, by a line of the table, and a kind that it lacks
pub has_size : (n k : ℕ) (e : Edit) → (paper_line e).kind ≡ k → (paper_line e).edition ≤ n → size_in n k ≡ some (paper_line e).bytes
has_size n k e q l =
    ap (size_in n) (sym ((each_line e).kind ∙ q)) ∙ (each_line e).size n
    ∙ ap (λ (t : Bool). choose t (some (paper_line e).bytes) none) (le-leb (paper_line e).edition n l)

pub size_has : (n k m : ℕ) → size_in n k ≡ some m → HasKind n k
unfolding edition_of
size_has n k m s =
    let (e, q) = table_agrees.others n 0 k m s in
    by_lt n (paper_line e).edition
    (λ l.
    let z : ◌≡◌ {A = Option ℕ} none (some m) =
    sym (ap (size_in n) (sym ((each_line e).kind ∙ q)) ∙ (each_line e).size n
    ∙ ap (λ (t : Bool). choose t (some (paper_line e).bytes) none) (lt-leb (paper_line e).edition n l)) ∙ s in
    absurd (none_some z))
    (λ l. (e, q, l))

pub known_exact : KnownExact
known_exact n k = record {
  bytes = λ e q l. let s = has_size n k e q l in (ap (λ (o : Option ℕ). known_number (known o)) s, ap (λ (o : Option ℕ). known_bytes (known o)) s);
  newer = λ h. go h (size_in n k) refl;
}
  where
    go : ¬ HasKind n k → (o : Option ℕ) → size_in n k ≡ o → (known_number (known o) ≡ 13) × (known_bytes (known o) ≡ 0)
    go h none s = (refl, refl)
    go h (some m) s = absurd (h (size_has n k m s))

-- ---- digits tell bytes

digits-length : (w x : ℕ) → length (digits w x) ≡ w
unfolding digits
digits-length zero x = refl
digits-length (suc w) x = ap suc (digits-length w x)

-- the number of some digits
value : List Bool → ℕ
value [] = 0
value (b ∷ l) = val b * 2 ^ length l + value l

digits_value : (w x : ℕ) → value (digits w x) ≡ x % 2 ^ w
unfolding digits value
digits_value zero x = omega arith
digits_value (suc w) x =
    let e : 1 + w ≡ suc w = omega arith in
    ap₂ (λ (d n : ℕ). d * 2 ^ n + value (digits w x)) (one (x / 2 ^ w % 2) (omega arith)) (digits-length w x)
    ∙ ap (λ (y : ℕ). x / 2 ^ w % 2 * 2 ^ w + y) (digits_value w x) ∙ sym (mod-pow-add x 1 w) ∙ ap (λ (n : ℕ). x % 2 ^ n) e
  where
    one : (d : ℕ) → d < 2 → val (is_one d) ≡ d
    one zero h = refl
    one (suc zero) h = refl
    one (suc (suc d)) h = absurd (omega arith)

byte_is : (b c : ℕ) → b < 256 → c < 256 → digits 8 b ≡ digits 8 c → b ≡ c
byte_is b c h k e = sym (mod-eq_of_lt h) ∙ sym (digits_value 8 b) ∙ ap value e ∙ digits_value 8 c ∙ mod-eq_of_lt k

bytes_are : (p q : List ℕ) → AllBytes p → AllBytes q → length p ≡ length q → byte_digits p ≡ byte_digits q → p ≡ q
unfolding byte_digits
bytes_are [] [] h k l e = refl
bytes_are [] (c ∷ q) h k l e = absurd (omega arith)
bytes_are (b ∷ p) [] h k l e = absurd (omega arith)
bytes_are (b ∷ p) (c ∷ q) h k l e =
    ap₂ (λ (x : ℕ) (y : List ℕ). x ∷ y) (byte_is b c (h 0) (k 0) (ap (take 8) e))
    (bytes_are p q (λ i. h (suc i)) (λ i. k (suc i)) (omega arith) (ap (drop 8) e))

byte_digits-length : (p : List ℕ) → length (byte_digits p) ≡ 8 * length p
unfolding byte_digits
byte_digits-length [] = refl
byte_digits-length (b ∷ p) = omega (arith, byte_digits-length p)

-- (c) of 12
pub payloads_exact : PayloadsExact
unfolding edition_of
payloads_exact n c m r e d s h = ((λ a. to ((asks_lays n c m r e d s h).0 a)), (λ g. (asks_lays n c m r e d s h).1 (back g)))
  where
    its : AsPrinted e
    its = as_printed e

    to : Lays r.kind r.payload e → Laid r.kind r.payload e
    to g = record {
      kind_is = sym its.kind ∙ g.kind_is;
      ranged = its.ranges.0 g.ranged;
      long = ap length (sym g.bytes_are) ∙ its.bytes.0;
      unused = its.unused;
      digits_are = ap byte_digits (sym g.bytes_are) ∙ its.digits_are g.ranged;
    }

    back : Laid r.kind r.payload e → Lays r.kind r.payload e
    back g =
        let ranged : Ranged e = its.ranges.1 g.ranged in
        let cs : List Bool = cell_digits (paper_line e).fields in
        let same : length (payload_of e) ≡ length r.payload = its.bytes.0 ∙ sym g.long in
        let a : length (cs ++ digits its.unused 0) ≡ 8 * length (payload_of e) = ap length (sym (its.digits_are ranged)) ∙ byte_digits-length (payload_of e) in
        let b : length (cs ++ digits g.unused 0) ≡ 8 * length r.payload = ap length (sym g.digits_are) ∙ byte_digits-length r.payload in
        let u : its.unused ≡ g.unused =
        omega (arith, a, b, same, length-append cs (digits its.unused 0), length-append cs (digits g.unused 0), digits-length its.unused 0, digits-length g.unused 0) in
        record {
          kind_is = its.kind ∙ g.kind_is;
          ranged = ranged;
          bytes_are =
              bytes_are (payload_of e) r.payload its.bytes.1 h same
              (its.digits_are ranged ∙ ap (λ (n : ℕ). cs ++ digits n 0) u ∙ sym g.digits_are);
        }
