-- What is laid out of an edit is read back as it, and a good payload is the layout of its edit: by the rows of the table.
use Prim.Native.Nat.{ℕ, zero, suc, ◌+◌, ◌*◌, ◌^◌, ◌/◌, ◌%◌, ◌≤◌, ◌<◌}
use mathlib.Core.Path.{◌≡◌, refl, sym, ap, ap₂, ◌∙◌, subst}
use mathlib.Core.Bool.{Bool, true, false, ◌&&◌}
use mathlib.Core.List.{List, [], ◌∷◌}
use mathlib.Core.Logic.{◌↔◌}
use mathlib.Core.Option.{Option, none, some}
use native.Mathlib.Omega.{arith}
use native.Mathlib.Nat.{mod-eq_of_lt, add-zero, add-suc, suc-add}
use lib.ListN.{length, get_elem?}
use lib.Pow.{high, low, pow_pos, recompose, shl_lt}
use lib.Dec.{leb, eqb}
use borrow.Author.Tests.{le-leb, leb-true, eq-eqb, ne_eqb, eqb-true}
use Rattle.word.specs.Sets.{choose, val}
use Rattle.word.specs.Places.{is_one}
use Rattle.word.proofs.Cases.{by_lt, and-true}
use Rattle.sheet.specs.Bytes.{number, bytes}
use Rattle.sheet.specs.Layout.{Field, widths, packed, unpacked, in_range, InRange}
use Rattle.sheet.specs.Kinds.{Row, place, flag, width, word, size_field, value_at, table, bytes_in, values_in, number_in, parse_payload, row_of, size_by, size_in, parse_by, rule_of}
use Rattle.sheet.specs.Kinds.{kind_of, fields_of, number_by, numbered, bytes_by, fields_by, payload_of, Ranged}
use Rattle.editions.specs.Meaning.{Asks}
use Rattle.sheet.specs.Reads.{latest, edition_of}
use Rattle.editions.specs.Frames.{Item}
use Rattle.sheet.specs.declared.Edit.{Edit}
use Rattle.sheet.specs.declared.Edit.TheVariants.{Set, Unset, SetRegion, SetField, Shift, Rotate, Resize, Reverse, ToggleRegion, Open, Close}
use Rattle.sheet.proofs.Tables.{past_end}
use Rattle.editions.proofs.Turns.{none_some, some_inj, take-true, take-false}
use Rattle.sheet.proofs.Rules.{length-bytes, number-mod, AllBytes, number_fits, bytes-number, byte_bits}
use Rattle.sheet.proofs.Layouts.{Sized, Fits, fitting_in, fitting-fits, range_sized, in_range_lem, range_in, packed_small, unpacked-packed, packed-unpacked}

-- ---- a row's payload, as one number

-- what a number asks for whose fields and unused bits are known
pub parsed_as : (r : Row) (x : ℕ) (vs : List ℕ) (u : ℕ) → Sized r.fields vs → u < 2 ^ r.spare → x ≡ number_in r vs + u
    → parse_payload r x ≡ choose (eqb u 0 && in_range r.fields vs) (some (r.make vs)) none
unfolding parse_payload number_in
parsed_as r x vs u h l e =
    ap₂ (λ (m : ℕ) (ws : List ℕ). choose (eqb m 0 && in_range r.fields ws) (some (r.make ws)) none)
    (ap (λ (y : ℕ). y % 2 ^ r.spare) e ∙ low (packed r.fields vs) r.spare l)
    (ap (λ (y : ℕ). unpacked r.fields (y / 2 ^ r.spare)) e ∙ ap (unpacked r.fields) (high (packed r.fields vs) r.spare l)
    ∙ unpacked-packed r.fields vs h)

-- values in their ranges are read back
pub parsed_good : (r : Row) (vs : List ℕ) → Fits r.fields → InRange r.fields vs → parse_payload r (number_in r vs) ≡ some (r.make vs)
parsed_good r vs t h =
    parsed_as r (number_in r vs) vs 0 (range_sized r.fields vs t h) (pow_pos r.spare) (sym (add-zero (number_in r vs)))
    ∙ take-true _ _ (in_range_lem r.fields vs h)

-- a number that asks for an edit asks for that of its values, which are in their ranges, and has no unused bit set
pub parsed-values : (r : Row) (x : ℕ) (e : Edit) → parse_payload r x ≡ some e → (r.make (values_in r x) ≡ e) × InRange r.fields (values_in r x) × (x % 2 ^ r.spare ≡ 0)
unfolding parse_payload
parsed-values r x e q = go (eqb (x % 2 ^ r.spare) 0 && in_range r.fields (values_in r x)) refl q
  where
    go : (t : Bool) → eqb (x % 2 ^ r.spare) 0 && in_range r.fields (values_in r x) ≡ t → choose t (some (r.make (values_in r x))) none ≡ some e
        → (r.make (values_in r x) ≡ e) × InRange r.fields (values_in r x) × (x % 2 ^ r.spare ≡ 0)
    go false p z = absurd (none_some z)
    go true p z =
        let (a, b) = and-true (eqb (x % 2 ^ r.spare) 0) (in_range r.fields (values_in r x)) p in
        (some_inj z, range_in r.fields (values_in r x) b, eqb-true (x % 2 ^ r.spare) 0 a)

-- and it is the number of these values
parsed-number : (r : Row) (x : ℕ) → x < 2 ^ (widths r.fields + r.spare) → x % 2 ^ r.spare ≡ 0 → number_in r (values_in r x) ≡ x
unfolding values_in number_in
parsed-number r x l z =
    let back : x / 2 ^ r.spare % 2 ^ widths r.fields * 2 ^ r.spare + x % 2 ^ r.spare ≡ x = recompose (widths r.fields) r.spare l in
    ap (λ (y : ℕ). y * 2 ^ r.spare) (packed-unpacked r.fields (x / 2 ^ r.spare)) ∙ omega arith

-- ---- the rows: what is computed of each

-- a row whose fields fit their bits, that fills whole bytes, few enough, and that the latest edition has
abbrev check : Row → Bool
check r = fitting_in r.fields && (eqb (widths r.fields + r.spare) (8 * bytes_in r) && (leb (bytes_in r) 13 && leb r.since latest))

-- a row of kind k: its edits are of that kind, and have the values that they are made of
pub record GoodRow (k : ℕ) (r : Row) : Type 0 where
  pub checked : check r ≡ true
  pub kind : (vs : List ℕ) → kind_of (r.make vs) ≡ k
  pub kept : (vs : List ℕ) → InRange r.fields vs → fields_of (r.make vs) ≡ vs

module _ {k : ℕ} {r : Row} (g : GoodRow k r) where
  later : eqb (widths r.fields + r.spare) (8 * bytes_in r) && (leb (bytes_in r) 13 && leb r.since latest) ≡ true
  later = (and-true (fitting_in r.fields) _ g.checked).1

  last : leb (bytes_in r) 13 && leb r.since latest ≡ true
  last = (and-true (eqb (widths r.fields + r.spare) (8 * bytes_in r)) _ later).1

  pub fits : Fits r.fields
  fits = fitting-fits r.fields (and-true (fitting_in r.fields) _ g.checked).0

  pub octets : widths r.fields + r.spare ≡ 8 * bytes_in r
  octets = eqb-true _ _ (and-true (eqb (widths r.fields + r.spare) (8 * bytes_in r)) _ later).0

  short : bytes_in r ≤ 13
  short = leb-true _ _ (and-true (leb (bytes_in r) 13) _ last).0

  has : r.since ≤ latest
  has = leb-true _ _ (and-true (leb (bytes_in r) 13) _ last).1

is_val : (t : Bool) → is_one (val t) ≡ t
is_val true = refl
is_val false = refl

one_value : (a : Field) (vs : List ℕ) → InRange (a ∷ []) vs → value_at vs 0 ∷ [] ≡ vs
one_value a [] h = absurd h
one_value a (x ∷ []) h = refl
one_value a (x ∷ y ∷ vs) h = absurd h.2

two_values : (a b : Field) (vs : List ℕ) → InRange (a ∷ b ∷ []) vs → value_at vs 0 ∷ value_at vs 1 ∷ [] ≡ vs
two_values a b [] h = absurd h
two_values a b (x ∷ vs) h = rest vs h.2
  where
    rest : (vs : List ℕ) → InRange (b ∷ []) vs → x ∷ value_at vs 0 ∷ [] ≡ x ∷ vs
    rest vs h = ap (λ (l : List ℕ). x ∷ l) (one_value b vs h)

three-values : (a b c : Field) (vs : List ℕ) → InRange (a ∷ b ∷ c ∷ []) vs → value_at vs 0 ∷ value_at vs 1 ∷ value_at vs 2 ∷ [] ≡ vs
three-values a b c [] h = absurd h
three-values a b c (x ∷ vs) h = ap (λ (l : List ℕ). x ∷ l) (two_values b c vs h.2)

no_values : (vs : List ℕ) → InRange [] vs → [] ≡ vs
no_values [] h = refl
no_values (x ∷ vs) h = absurd h

flagged : (fs : List Field) (vs : List ℕ) → InRange (flag ∷ fs) vs → val (is_one (value_at vs 0)) ≡ value_at vs 0
flagged fs [] h = absurd h
flagged fs (zero ∷ vs) h = refl
flagged fs (suc zero ∷ vs) h = refl
flagged fs (suc (suc x) ∷ vs) h = absurd (omega (arith, h.1))

infixr 20 ◌▸◌
-- rows of kinds from k on
data GoodRows : ℕ → List Row → Type 0 where
  none_left : {k : ℕ} → GoodRows k []
  ◌▸◌ : {k : ℕ} {r : Row} {rs : List Row} → GoodRow k r → GoodRows (suc k) rs → GoodRows k (r ∷ rs)

good_rows : GoodRows 1 table
unfolding bytes_in kind_of fields_of
good_rows =
    record { checked = refl; kind = λ vs. refl; kept = one_value place }
    ▸ record { checked = refl; kind = λ vs. refl; kept = one_value place }
    ▸ record { checked = refl; kind = λ vs. refl; kept = λ vs h. ap (λ (x : ℕ). x ∷ value_at vs 1 ∷ value_at vs 2 ∷ []) (flagged (place ∷ place ∷ []) vs h) ∙ three-values flag place place vs h }
    ▸ record { checked = refl; kind = λ vs. refl; kept = three-values place width word }
    ▸ record { checked = refl; kind = λ vs. refl; kept = directed }
    ▸ record { checked = refl; kind = λ vs. refl; kept = directed }
    ▸ record { checked = refl; kind = λ vs. refl; kept = one_value size_field }
    ▸ record { checked = refl; kind = λ vs. refl; kept = no_values }
    ▸ record { checked = refl; kind = λ vs. refl; kept = two_values place place }
    ▸ record { checked = refl; kind = λ vs. refl; kept = two_values place place }
    ▸ record { checked = refl; kind = λ vs. refl; kept = two_values place place }
    ▸ none_left
  where
    directed : (vs : List ℕ) → InRange (flag ∷ place ∷ []) vs → val (is_one (value_at vs 0)) ∷ value_at vs 1 ∷ [] ≡ vs
    directed vs h = ap (λ (x : ℕ). x ∷ value_at vs 1 ∷ []) (flagged (place ∷ []) vs h) ∙ two_values flag place vs h

good_at : (rs : List Row) (i k : ℕ) (r : Row) → GoodRows i rs → get_elem? rs k ≡ some r → GoodRow (i + k) r
good_at [] i k r g e = absurd (none_some e)
good_at (x ∷ rs) i zero r (g ▸ gs) e = subst (GoodRow (i + 0)) (some_inj e) (subst (λ (n : ℕ). GoodRow n x) (sym (add-zero i)) g)
good_at (x ∷ rs) i (suc k) r (g ▸ gs) e = subst (λ (n : ℕ). GoodRow n r) (suc-add i k ∙ sym (add-suc i k)) (good_at rs (suc i) k r gs e)

-- the row of a kind is good
pub good_row : (k : ℕ) (r : Row) → row_of k ≡ some r → GoodRow k r
unfolding row_of
good_row zero r e = absurd (none_some e)
good_row (suc k) r e = let n : 1 + k ≡ suc k = omega arith in subst (λ (n : ℕ). GoodRow n r) n (good_at table 1 k r good_rows e)

-- an edit is made by the row of its kind, of its values
pub record RowFor (e : Edit) : Type 0 where
  pub row : Row
  pub at : row_of (kind_of e) ≡ some row
  pub makes : row.make (fields_of e) ≡ e

pub row_for_lem : (e : Edit) → RowFor e
unfolding row_of kind_of fields_of
row_for_lem (Set p) = record { row = _; at = refl; makes = refl }
row_for_lem (Unset p) = record { row = _; at = refl; makes = refl }
row_for_lem (SetRegion v p k) = record { row = _; at = refl; makes = ap (λ (t : Bool). SetRegion t p k) (is_val v) }
row_for_lem (SetField p w v) = record { row = _; at = refl; makes = refl }
row_for_lem (Shift d k) = record { row = _; at = refl; makes = ap (λ (t : Bool). Shift t k) (is_val d) }
row_for_lem (Rotate d k) = record { row = _; at = refl; makes = ap (λ (t : Bool). Rotate t k) (is_val d) }
row_for_lem (Resize n) = record { row = _; at = refl; makes = refl }
row_for_lem Reverse = record { row = _; at = refl; makes = refl }
row_for_lem (ToggleRegion p k) = record { row = _; at = refl; makes = refl }
row_for_lem (Open p k) = record { row = _; at = refl; makes = refl }
row_for_lem (Close p k) = record { row = _; at = refl; makes = refl }

-- kind and payload are what is laid out of an edit
pub record Lays (kind : ℕ) (p : List ℕ) (e : Edit) : Type 0 where
  pub kind_is : kind_of e ≡ kind
  pub ranged : Ranged e
  pub bytes_are : payload_of e ≡ p

-- ---- what follows for every kind

module _ (e : Edit) where
  abbrev r : Row
  r = (row_for_lem e).row

  pub good : GoodRow (kind_of e) r
  good = good_row (kind_of e) r (row_for_lem e).at

  pub kind_small : kind_of e ≤ length table
  unfolding row_of
  kind_small = go (kind_of e) (row_for_lem e).at
    where
      go : (k : ℕ) → row_of k ≡ some r → k ≤ length table
      go zero q = omega arith
      go (suc k) q = by_lt k (length table) (λ l. l) (λ l. absurd (none_some (sym (past_end table k l) ∙ q)))

  pub numbered_is : numbered e ≡ number_in r (fields_of e)
  unfolding numbered
  numbered_is = ap (λ (o : Option Row). number_by o (fields_of e)) (row_for_lem e).at

  bytes_is : bytes_by (row_of (kind_of e)) ≡ bytes_in r
  bytes_is = ap bytes_by (row_for_lem e).at

  pub payload_length : length (payload_of e) ≡ bytes_by (row_of (kind_of e))
  unfolding payload_of
  payload_length = length-bytes (bytes_by (row_of (kind_of e))) (numbered e)

  pub payload_short : length (payload_of e) ≤ 65_535
  payload_short = omega (arith, payload_length, bytes_is, short good)

  pub size-latest : size_in latest (kind_of e) ≡ some (length (payload_of e))
  unfolding size_in
  size-latest = ap (size_by latest) (row_for_lem e).at ∙ take-true _ _ (le-leb r.since latest (has good)) ∙ ap some (sym (payload_length ∙ bytes_is))

  module _ (h : Ranged e) where
    pub ranged : InRange r.fields (fields_of e)
    unfolding Ranged
    ranged = subst (λ (o : Option Row). InRange (fields_by o) (fields_of e)) (row_for_lem e).at h

    small : number_in r (fields_of e) < 256 ^ bytes_in r
    unfolding number_in
    small =
        subst (λ (n : ℕ). number_in r (fields_of e) < n) (ap (λ (n : ℕ). 2 ^ n) (octets good) ∙ sym (byte_bits (bytes_in r)))
        (shl_lt (widths r.fields) r.spare (packed_small r.fields (fields_of e) (range_sized r.fields (fields_of e) (fits good) ranged)))

    -- what is laid out is read back
    pub read_back : rule_of (kind_of e) (payload_of e) ≡ some e
    unfolding rule_of payload_of
    read_back =
        ap₂ parse_by (row_for_lem e).at (number-mod (bytes_by (row_of (kind_of e))) (numbered e) ∙ ap₂ (λ (x n : ℕ). x % 256 ^ n) numbered_is bytes_is ∙ mod-eq_of_lt small)
        ∙ parsed_good r (fields_of e) (fits good) ranged ∙ ap some (row_for_lem e).makes

-- what a payload asks for is an edit of its kind, of its values, in their ranges
pub record Asked (k : ℕ) (r : Row) (x : ℕ) (e : Edit) : Type 0 where
  pub kind_is : kind_of e ≡ k
  pub values : fields_of e ≡ values_in r x
  pub row_is : row_of (kind_of e) ≡ some r
  pub ranged : Ranged e

pub asked_of : (k : ℕ) (r : Row) → row_of k ≡ some r → (x : ℕ) (e : Edit) → parse_payload r x ≡ some e → Asked k r x e
unfolding Ranged
asked_of k r at x e q =
    let (m, i, z) = parsed-values r x e q in
    let kind : kind_of e ≡ k = ap kind_of (sym m) ∙ (good_row k r at).kind (values_in r x) in
    let values : fields_of e ≡ values_in r x = ap fields_of (sym m) ∙ (good_row k r at).kept (values_in r x) i in
    let row : row_of (kind_of e) ≡ some r = ap row_of kind ∙ at in
    record {
      kind_is = kind;
      values = values;
      row_is = row;
      ranged = subst (λ (o : Option Row). InRange (fields_by o) (fields_of e)) (sym row) (subst (InRange r.fields) (sym values) i);
    }

module _ (k : ℕ) (r : Row) (at : row_of k ≡ some r) (p : List ℕ) (l : length p ≡ bytes_in r) (h : AllBytes p) where
  number_small : number p < 2 ^ (widths r.fields + r.spare)
  number_small =
      subst (λ (n : ℕ). number p < n) (byte_bits (length p) ∙ ap (λ (n : ℕ). 2 ^ (8 * n)) l ∙ ap (λ (n : ℕ). 2 ^ n) (sym (octets (good_row k r at)))) (number_fits p h)

  -- a good payload is the layout of its edit
  laid_again : (e : Edit) → parse_payload r (number p) ≡ some e → Lays k p e
  unfolding payload_of numbered
  laid_again e q =
      let a : Asked k r (number p) e = asked_of k r at (number p) e q in
      let n : number_in r (values_in r (number p)) ≡ number p = parsed-number r (number p) number_small (parsed-values r (number p) e q).2 in
      record {
        kind_is = a.kind_is;
        ranged = a.ranged;
        bytes_are = ap₂ bytes (ap bytes_by a.row_is ∙ sym l) (ap₂ number_by a.row_is a.values ∙ n) ∙ bytes-number p h;
      }

-- ---- (c) of 12

-- a kind that an edition has
pub record Held (n k m : ℕ) : Type 0 where
  pub row : Row
  pub at : row_of k ≡ some row
  pub long : m ≡ bytes_in row

pub held : (n k m : ℕ) → size_in n k ≡ some m → Held n k m
unfolding size_in
held n k m s = go (row_of k) refl s
  where
    go : (o : Option Row) → row_of k ≡ o → size_by n o ≡ some m → Held n k m
    go none q s = absurd (none_some s)
    go (some r) q s = on (leb r.since n) s
      where
        on : (t : Bool) → choose t (some (bytes_in r)) none ≡ some m → Held n k m
        on true s = record { row = r; at = q; long = sym (some_inj s) }
        on false s = absurd (none_some s)

-- whatever the bytes, an edit that is asked for has its fields in their ranges
pub asks-ranged : (n c : ℕ) (r : Item) (e : Edit) → Asks (edition_of c n) r e → Ranged e
unfolding edition_of rule_of
asks-ranged n c r e a =
    let its : Held n r.kind (length r.payload) = held n r.kind (length r.payload) a.sized in
    (asked_of r.kind its.row its.at (number r.payload) e (ap (λ (o : Option Row). parse_by o (number r.payload)) (sym its.at) ∙ a.ruled)).ranged

pub asks_lays : (n c m : ℕ) (r : Item) (e : Edit) → r.duty ≡ true → size_in n r.kind ≡ some m → AllBytes r.payload
    → Asks (edition_of c n) r e ↔ Lays r.kind r.payload e
unfolding edition_of rule_of
asks_lays n c m r e d s h = (to, back)
  where
    its : Held n r.kind m
    its = held n r.kind m s

    to : Asks (edition_of c n) r e → Lays r.kind r.payload e
    to a =
        laid_again r.kind its.row its.at r.payload (some_inj (sym a.sized ∙ s) ∙ its.long) h e
        (ap (λ (o : Option Row). parse_by o (number r.payload)) (sym its.at) ∙ a.ruled)

    back : Lays r.kind r.payload e → Asks (edition_of c n) r e
    back g =
        let long : length r.payload ≡ m =
        ap length (sym g.bytes_are) ∙ payload_length e ∙ ap (λ (k : ℕ). bytes_by (row_of k)) g.kind_is ∙ ap bytes_by its.at ∙ sym its.long in
        record { duty = d; sized = s ∙ ap some (sym long); ruled = ap₂ rule_of (sym g.kind_is) (sym g.bytes_are) ∙ read_back e g.ranged }

-- ---- for a decoder: what a payload asks for, whose values and unused bits are known

module _ (k : ℕ) (r : Row) (at : row_of k ≡ some r) (p vs : List ℕ) (u : ℕ) (h : Sized r.fields vs) (l : u < 2 ^ r.spare) (e : number p ≡ number_in r vs + u) where
  rule_as : rule_of k p ≡ choose (eqb u 0 && in_range r.fields vs) (some (r.make vs)) none
  unfolding rule_of
  rule_as = ap (λ (o : Option Row). parse_by o (number p)) at ∙ parsed_as r (number p) vs u h l e

  pub rule_good : u ≡ 0 → InRange r.fields vs → rule_of k p ≡ some (r.make vs)
  rule_good z i = rule_as ∙ take-true _ _ (ap₂ (λ (s t : Bool). s && t) (eq-eqb u 0 z) (in_range_lem r.fields vs i))

  -- an unused bit is set
  pub rule_spoilt : (u ≡ 0 → ⊥) → rule_of k p ≡ none
  rule_spoilt z = rule_as ∙ take-false _ _ (ap (λ (t : Bool). t && in_range r.fields vs) (ne_eqb u 0 z))

  -- a value is out of its range
  pub rule_over : (InRange r.fields vs → ⊥) → rule_of k p ≡ none
  rule_over z = rule_as ∙ go (eqb u 0) (in_range r.fields vs) refl
    where
      go : (s t : Bool) → in_range r.fields vs ≡ t → choose (s && t) (some (r.make vs)) none ≡ none
      go s true q = absurd (z (range_in r.fields vs q))
      go true false q = refl
      go false false q = refl
