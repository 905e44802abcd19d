-- An accepted addition to a sheet, whoever made it: the earlier records are as they were, the one asked for is last, and nothing follows it.
use Prim.Native.Nat.{ℕ, zero, suc, ◌+◌, ◌*◌, ◌^◌, ◌/◌, ◌%◌, ◌≤◌, ◌<◌}
use mathlib.Core.Path.{◌≡◌, refl, sym, ap, ap₂, ◌∙◌, subst}
use mathlib.Core.List.{List, [], ◌∷◌, ◌++◌, append-nil}
use mathlib.Core.Logic.{◌↔◌}
use native.Mathlib.Omega.{arith}
use native.Mathlib.Numerals.{add-one}
use lib.ListN.{set as put, length, get_or, take, drop, length-append, length-take, length-set, get_or-append}
use lib.Seq.{sets, sets-eq, take_at, get_or-take, length-take-le, get_or-set_same, get_or-set_other, drop-set-lt}
use Rattle.sheet.specs.Bytes.{bytes}
use Rattle.sheet.specs.Kinds.{payload_of}
use Rattle.editions.specs.Frames.{Item, count_in}
use Rattle.editions.specs.Meaning.{Stands, Header, total, past, start, Whole, Is}
use Rattle.plain.specs.Writer.{most, Request, duty, remark, Entry, edit, note, bytes_of, count_raised}
use Rattle.plain.specs.Plain.{refusal_of, edit_for, entry_of}
use Rattle.sheet.specs.Promises.{Laid}
use Rattle.plain.specs.Promises.{Wanted, Grows}
use Rattle.plain.proofs.Laid.{item_of, two_bytes}
use Rattle.sheet.proofs.Rules.{length-bytes}
use Rattle.plain.proofs.Requests.{proper_entry, kind-kept}
use Rattle.plain.proofs.Sheets.{Framed, stands_there, laid_edit}

-- the front of a list after bytes are put in
pub put_last : (vs l : List ℕ) (n : ℕ) → n + length vs ≤ length l → take (n + length vs) (sets l n vs) ≡ take n l ++ vs
put_last vs l n h =
    ap (take (n + length vs)) (sets-eq vs l n h)
    ∙ take_at (take n l ++ vs) (drop (n + length vs) l) (n + length vs) (length-append (take n l) vs ∙ ap (λ (m : ℕ). m + length vs) (length-take-le n l (omega arith)))

pub drop_sets : (vs l : List ℕ) (i n : ℕ) → i + length vs ≤ n → drop n (sets l i vs) ≡ drop n l
drop_sets [] l i n h = refl
drop_sets (v ∷ vs) l i n h = drop_sets vs (put l i v) (suc i) n (omega arith) ∙ drop-set-lt n l i v (omega arith)

-- ---- the count

-- x in the two bytes of R
module _ (buf : List ℕ) (x : ℕ) where
  two_other : (j : ℕ) → (j ≡ 2 → ⊥) → (j ≡ 3 → ⊥) → get_or (sets buf 2 (bytes 2 x)) j 0 ≡ get_or buf j 0
  unfolding bytes
  two_other j a b = get_or-set_other (put buf 2 (x / 256 ^ 1 % 256)) 3 j (x / 256 ^ 0 % 256) 0 b ∙ get_or-set_other buf 2 j (x / 256 ^ 1 % 256) 0 a

  two_count : 4 ≤ length buf → x ≤ most → count_in (sets buf 2 (bytes 2 x)) ≡ x
  unfolding bytes
  two_count h l =
      ap₂ (λ (a b : ℕ). a * 256 + b)
      (get_or-set_other (put buf 2 (x / 256 ^ 1 % 256)) 3 2 (x / 256 ^ 0 % 256) 0 (λ e. omega arith) ∙ get_or-set_same buf 2 (x / 256 ^ 1 % 256) 0 (omega arith))
      (get_or-set_same (put buf 2 (x / 256 ^ 1 % 256)) 3 (x / 256 ^ 0 % 256) 0 (omega (arith, length-set buf 2 (x / 256 ^ 1 % 256))))
      ∙ two_bytes x l

  two_past : (n : ℕ) → 4 ≤ n → drop n (sets buf 2 (bytes 2 x)) ≡ drop n buf
  two_past n h = drop_sets (bytes 2 x) buf 2 n (omega (arith, length-bytes 2 x))

-- R raised: one more, and no other byte changes
module _ (buf : List ℕ) where
  pub length_raised : length (count_raised buf) ≡ length buf
  unfolding bytes
  length_raised = simp length-set

  other_raised : (j : ℕ) → (j ≡ 2 → ⊥) → (j ≡ 3 → ⊥) → get_or (count_raised buf) j 0 ≡ get_or buf j 0
  other_raised j a b = two_other buf _ j a b

  count_raised_lem : 4 ≤ length buf → count_in buf < most → count_in (count_raised buf) ≡ count_in buf + 1
  count_raised_lem h l = two_count buf (count_in buf + 1) h (omega arith)

  pub past_raised : (n : ℕ) → 4 ≤ n → drop n (count_raised buf) ≡ drop n buf
  past_raised n h = two_past buf _ n h

-- the count stands in the first four bytes
pub count-front : (buf : List ℕ) (len : ℕ) → 4 ≤ length (take len buf) → total (take len buf) ≡ count_in buf
count-front buf len h =
    ap₂ (λ (a b : ℕ). a * 256 + b) (get_or-take len buf 2 0 (omega (arith, length-take len buf))) (get_or-take len buf 3 0 (omega (arith, length-take len buf)))

-- ---- sheets of the same bytes

-- from the first record on to e
module _ (s t : List ℕ) (e : ℕ) (inside : e ≤ length t) (agree : (j : ℕ) → 4 ≤ j → j < e → get_or s j 0 ≡ get_or t j 0) where
  same-past : (at : ℕ) → 4 ≤ at → past s at ≤ e → past s at ≡ past t at
  same-past at a l = ap₂ (λ (x y : ℕ). at + 3 + (x * 256 + y)) (agree (at + 1) (omega arith) (omega arith)) (agree (at + 2) (omega arith) (omega arith))

  carried : (at : ℕ) (r : Item) → 4 ≤ at → past s at ≤ e → Stands s at r → Stands t at r
  carried at r a l h = record {
    bit = h.bit;
    first = sym (agree at a (omega arith)) ∙ h.first;
    seven = h.seven;
    duty = h.duty;
    size = omega (arith, same-past at a l, h.size);
    inside = omega (arith, h.size);
    bytes = λ j k. h.bytes j k ∙ agree (at + 3 + j) (omega arith) (omega (arith, h.size));
  }

-- a sheet of whole records, and another that has its bytes from the first record on
module _ (s t : List ℕ) (whole : (j : ℕ) → j < total s → Whole s j) (longer : length s ≤ length t)
    (agree : (j : ℕ) → 4 ≤ j → j < length s → get_or s j 0 ≡ get_or t j 0) where
  from_four : (i : ℕ) → 4 ≤ start s i
  unfolding start
  from_four zero = omega arith
  from_four (suc i) = omega (arith, from_four i)

  same_start : (i : ℕ) → i ≤ total s → start s i ≡ start t i
  unfolding start
  same_start zero l = refl
  same_start (suc i) l = same-past s t (length s) longer agree (start s i) (from_four i) (whole i (omega arith)) ∙ ap (past t) (same_start i (omega arith))

  same-record : (i : ℕ) (r : Item) → i < total s → Is s i r ↔ Is t i r
  same-record i r l = (to, back)
    where
      to : Is s i r → Is t i r
      to h = subst (λ (at : ℕ). Stands t at r) (same_start i (omega arith)) (carried s t (length s) longer agree (start s i) r (from_four i) (whole i l) h)

      back : Is t i r → Is s i r
      back h =
          carried t s (length s) (omega arith) (λ j a b. sym (agree j a b)) (start s i) r (from_four i)
          (omega (arith, whole i l, same-past s t (length s) longer agree (start s i) (from_four i) (whole i l)))
          (subst (λ (at : ℕ). Stands t at r) (sym (same_start i (omega arith))) h)

-- ---- the record at the end

pub bytes_long : (x : Entry) → length (bytes_of x) ≡ 3 + length (item_of x).payload
unfolding bytes_of bytes
bytes_long (edit e) = omega (arith, length-append (bytes 2 (length (payload_of e))) (payload_of e))
bytes_long (note k p) = omega (arith, length-append (bytes 2 (length p)) p)

module _ (buf : List ℕ) (len : ℕ) (x : Entry) where
  abbrev front : List ℕ
  front = take len buf

  abbrev after : List ℕ
  after = take len (count_raised buf) ++ bytes_of x

  module _ (fits : len ≤ length buf) (head : Header front) (whole : (j : ℕ) → j < total front → Whole front j) (ends : start front (total front) ≡ length front)
      (few : total front < most) (framed : Framed x) where
    front_long : length front ≡ len
    front_long = length-take-le len buf fits

    raised_long : length (take len (count_raised buf)) ≡ len
    raised_long = length-take-le len (count_raised buf) (omega (arith, length_raised buf))

    counted : total front ≡ count_in buf
    counted = count-front buf len head.0

    at_front : (j : ℕ) → j < len → get_or after j 0 ≡ get_or (count_raised buf) j 0
    at_front j l = get_or-append (take len (count_raised buf)) (bytes_of x) 0 j (omega (arith, raised_long)) ∙ get_or-take len (count_raised buf) j 0 l

    -- only bytes 2 and 3 are others
    others : (j : ℕ) → (j ≡ 2 → ⊥) → (j ≡ 3 → ⊥) → j < length front → get_or front j 0 ≡ get_or after j 0
    others j a b l = get_or-take len buf j 0 (omega (arith, front_long)) ∙ sym (at_front j (omega (arith, front_long)) ∙ other_raised buf j a b)

    agree : (j : ℕ) → 4 ≤ j → j < length front → get_or front j 0 ≡ get_or after j 0
    agree j a l = others j (λ e. omega arith) (λ e. omega arith) l

    after_long : length after ≡ len + length (bytes_of x)
    after_long = omega (arith, length-append (take len (count_raised buf)) (bytes_of x), raised_long)

    more : total after ≡ total front + 1
    more =
        ap₂ (λ (a b : ℕ). a * 256 + b) (at_front 2 (omega (arith, front_long, head.0))) (at_front 3 (omega (arith, front_long, head.0)))
        ∙ count_raised_lem buf (omega (arith, front_long, head.0)) (omega (arith, counted)) ∙ ap (λ (n : ℕ). n + 1) (sym counted)

    longer : length front ≤ length after
    longer = omega (arith, after_long, front_long)

    stands_last : Stands after len (item_of x)
    stands_last =
        subst (λ (l : List ℕ). Stands (take len (count_raised buf) ++ l) len (item_of x)) (append-nil (bytes_of x))
        (subst (λ (n : ℕ). Stands (take len (count_raised buf) ++ (bytes_of x ++ [])) n (item_of x)) raised_long (stands_there (take len (count_raised buf)) [] x framed))

    last-start : start after (total front) ≡ len
    last-start = sym (same_start front after whole longer agree (total front) (omega arith)) ∙ ends ∙ front_long

    pub grown : (q : Request) → Wanted q (item_of x) → Grows front q after
    unfolding start
    grown q w = record {
      headed = (
        omega (arith, head.0, longer),
        sym (others 0 (λ e. omega arith) (λ e. omega arith) (omega (arith, head.0))) ∙ head.1,
        sym (others 1 (λ e. omega arith) (λ e. omega arith) (omega (arith, head.0))) ∙ head.2,
      );
      raised = more;
      kept = same-record front after whole longer agree;
      last = (item_of x, subst (λ (n : ℕ). Stands after n (item_of x)) (sym last-start) stands_last, w);
      ends = ap (start after) (add-one (total front)) ∙ ap (past after) last-start ∙ omega (arith, stands_last.size, after_long, bytes_long x);
    }

-- ---- what is asked for

pub framed_entry : (q : Request) → refusal_of q ≡ 0 → Framed (entry_of q)
unfolding entry_of
framed_entry (duty k f) z = tt
framed_entry (remark k p) z = proper_entry (remark k p) tt z

pub wanted : (q : Request) → refusal_of q ≡ 0 → Wanted q (item_of (entry_of q))
unfolding entry_of
wanted (duty k f) z =
    let kind = kind-kept k f z in
    let e = edit_for k f in
    (refl, kind, λ t. subst (λ (n : ℕ). Laid n (payload_of e) e) kind (laid_edit e (proper_entry (duty k f) t z)))
wanted (remark k p) z = (refl, refl, refl)
