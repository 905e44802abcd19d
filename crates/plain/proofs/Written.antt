-- What the writer leaves is the plain sheet, after one call and after every list of calls.
use Prim.Native.Nat.{ℕ, zero, suc, ◌+◌, ◌*◌, ◌^◌, ◌/◌, ◌%◌, ◌≤◌, ◌<◌}
use mathlib.Core.Path.{◌≡◌, refl, sym, ap, ap₂, ◌∙◌, subst}
use mathlib.Core.Bool.{Bool, true, false, ◌||◌}
use mathlib.Core.List.{List, [], ◌∷◌, ◌++◌, append_assoc, append-nil}
use mathlib.Core.Option.{none, some}
use native.Mathlib.Omega.{arith}
use lib.ListN.{set as put, length, get_or, take, length-append, length-take}
use lib.Seq.{sets, take-set-lt, get_or-take}
use lib.Dec.{leb, ltb}
use borrow.Author.Tests.{ltb-false, leb-false, le-ltb, ne_eqb}
use Rattle.word.specs.Sets.{choose}
use Rattle.storage.specs.Refusals.{number_of, Amount, amount_value, answer_number}
use Rattle.storage.proofs.Promises.{each_number_once}
use Rattle.storage.specs.declared.Refusal.{Refusal}
use Rattle.storage.specs.declared.Refusal.TheVariants.{NoSpace, NotSheet}
use Rattle.editions.specs.Frames.{count_in, sheet_fault}
use Rattle.plain.specs.Writer.{most, Request, requested, Entry, Checked, bad, good, checked_of, bytes_of}
use Rattle.plain.specs.Writer.{Left, refuse, started, count_raised, placed, placed_by, judged, added, Writes}
use Rattle.plain.specs.Plain.{asked, Plain, body, sheet_of, no_room, refusal_of, entry_of, Answered, refusing, accepting, holding, Ask, start, addition, answered, Typed}
use Rattle.plain.specs.Plain.{Call, Went, length_after, InRow, answers, last_length, last_buffer, plain_answers, last_plain}
use Rattle.sheet.specs.declared.Fields.{Fields}
use Rattle.editions.proofs.Turns.{take-false}
use Rattle.plain.proofs.Laid.{Proper, AllProper, two_bytes, no_fault}
use Rattle.plain.proofs.Grown.{put_last, length_raised}
use Rattle.plain.proofs.Requests.{Says, PassesCheck, checks_say, TypedQ, checks_pass, neither}
use Rattle.std.specs.Prelude.{Ok}

-- the buffer's front is the plain sheet
abbrev pub Fronts : List ℕ → ℕ → Plain → Type 0
Fronts buf len none = len ≡ 0
Fronts buf len (some es) = (len ≡ length (sheet_of es)) × (take len buf ≡ sheet_of es) × (length es ≤ most) × AllProper es

-- a call's number, length and buffer agree with the plain sheet
record Agrees (len : ℕ) (l : Left) (a : Answered) : Type 0 where
  number : answer_number l.answer ≡ a.number
  long : amount_value l.answer ≡ a.long
  fronts : Fronts l.buffer (length_after len l.answer) a.plain

agree_refused : (buf : List ℕ) (len : ℕ) (p : Plain) (e : Refusal) → Fronts buf len p → Agrees len (refuse e buf) (refusing (number_of e) p)
agree_refused buf len p e h = record {
  number = refl;
  long = refl;
  fronts = subst (λ (n : ℕ). Fronts buf n p) (sym (take-false 0 len (ne_eqb (number_of e) 0 (λ z. omega (arith, (each_number_once.range e).0))))) h;
}

-- ---- a start

pub begun : (buf : List ℕ) → 4 ≤ length buf → take 4 (sets buf 0 (78 ∷ 83 ∷ 0 ∷ 0 ∷ [])) ≡ 78 ∷ 83 ∷ 0 ∷ 0 ∷ []
begun [] h = absurd (omega arith)
begun (a ∷ []) h = absurd (omega arith)
begun (a ∷ b ∷ []) h = absurd (omega arith)
begun (a ∷ b ∷ c ∷ []) h = absurd (omega arith)
begun (a ∷ b ∷ c ∷ d ∷ buf) h = refl

agree_start : (buf : List ℕ) (len : ℕ) (p : Plain) → Fronts buf len p → Agrees len (started buf) (answered (length buf) start p)
unfolding started answered sheet_of
agree_start buf len p h = go (ltb (length buf) 4) refl
  where
    fresh : Left
    fresh = record { answer = Ok 4; buffer = sets buf 0 (78 ∷ 83 ∷ 0 ∷ 0 ∷ []) }

    go : (t : Bool) → ltb (length buf) 4 ≡ t → Agrees len (choose t (refuse NoSpace buf) fresh) (choose t (refusing 6 p) (accepting []))
    go true e = agree_refused buf len p NoSpace h
    go false e = record { number = refl; long = refl; fronts = (refl, begun buf (ltb-false (length buf) 4 e), omega arith, tt) }

-- ---- an addition

body-snoc : (es : List Entry) (e : Entry) → body (es ++ e ∷ []) ≡ body es ++ bytes_of e
unfolding body
body-snoc [] e = append-nil (bytes_of e)
body-snoc (x ∷ es) e = ap (λ (l : List ℕ). bytes_of x ++ l) (body-snoc es e) ∙ sym (append_assoc (bytes_of x) (body es) (bytes_of e))

proper_snoc : (es : List Entry) (e : Entry) → AllProper es → Proper e → AllProper (es ++ e ∷ [])
proper_snoc [] e h p = (p, tt)
proper_snoc (x ∷ es) e h p = (h.0, proper_snoc es e h.1 p)

length-snoc : (es : List Entry) (e : Entry) → length (es ++ e ∷ []) ≡ length es + 1
length-snoc es e = length-append es (e ∷ [])

module _ (buf : List ℕ) (len : ℕ) (es : List Entry) (h : Fronts buf len (some es)) where
  in_buffer : len ≤ length buf
  in_buffer = omega (arith, h.0, rw length-take at (ap length h.1))

  four : 4 ≤ len
  unfolding sheet_of
  four = let e = h.0 in omega arith

  counted : count_in buf ≡ length es
  unfolding sheet_of
  counted =
      let a : get_or buf 2 0 ≡ get_or (sheet_of es) 2 0 = sym (get_or-take len buf 2 0 (omega (arith, four))) ∙ ap (λ (l : List ℕ). get_or l 2 0) h.1 in
      let b : get_or buf 3 0 ≡ get_or (sheet_of es) 3 0 = sym (get_or-take len buf 3 0 (omega (arith, four))) ∙ ap (λ (l : List ℕ). get_or l 3 0) h.1 in
      ap₂ (λ (x y : ℕ). x * 256 + y) a b ∙ two_bytes (length es) h.2

  longer : (e : Entry) → length (sheet_of (es ++ e ∷ [])) ≡ len + length (bytes_of e)
  unfolding sheet_of
  longer e = omega (arith, h.0, ap length (body-snoc es e), length-append (body es) (bytes_of e))

  stored : (e : Entry) → len + length (bytes_of e) ≤ length buf → take (len + length (bytes_of e)) (sets (count_raised buf) len (bytes_of e)) ≡ sheet_of (es ++ e ∷ [])
  unfolding sheet_of
  stored e l =
      put_last (bytes_of e) (count_raised buf) len (omega (arith, length_raised buf))
      ∙ ap (λ (f : List ℕ). f ++ bytes_of e) front
      ∙ last
    where
      high : ℕ
      high = (count_in buf + 1) / 256 ^ 1 % 256

      low : ℕ
      low = (count_in buf + 1) / 256 ^ 0 % 256

      front : take len (count_raised buf) ≡ put (put (sheet_of es) 2 high) 3 low
      front =
          take-set-lt len (put buf 2 high) 3 low (omega (arith, four))
          ∙ ap (λ (f : List ℕ). put f 3 low) (take-set-lt len buf 2 high (omega (arith, four)) ∙ ap (λ (f : List ℕ). put f 2 high) h.1)

      last : (78 ∷ 83 ∷ high ∷ low ∷ body es) ++ bytes_of e ≡ sheet_of (es ++ e ∷ [])
      last = rw (counted, ← (length-snoc es e), body-snoc es e)

  -- a record that is refused by nothing but want of room
  agree_room : (e : Entry) → Proper e → Agrees len (placed buf len e) (holding (length buf) es e 0)
  unfolding placed
  agree_room e p = subst (λ (t : Bool). Agrees len (placed buf len e) (choose t (refusing 6 (some es)) (accepting (es ++ e ∷ [])))) same (go full refl)
    where
      end : ℕ
      end = len + length (bytes_of e)

      full : Bool
      full = leb most (count_in buf) || ltb (length buf) end

      put_in : Left
      put_in = record { answer = Ok end; buffer = sets (count_raised buf) len (bytes_of e) }

      same : full ≡ no_room (length buf) es e
      same = ap₂ (λ (a b : ℕ). leb most a || ltb (length buf) b) counted (sym (longer e))

      go : (t : Bool) → full ≡ t → Agrees len (choose t (refuse NoSpace buf) put_in) (choose t (refusing 6 (some es)) (accepting (es ++ e ∷ [])))
      go true q = agree_refused buf len (some es) NoSpace h
      go false q =
          let (a, b) = neither (leb most (count_in buf)) (ltb (length buf) end) q in
          let room : end ≤ length buf = ltb-false (length buf) end b in
          let few : length es < most = subst (λ (n : ℕ). n < most) counted (leb-false most (count_in buf) a) in
          record {
            number = refl;
            long = sym (longer e);
            fronts = (sym (longer e), stored e room, omega (arith, length-snoc es e), proper_snoc es e h.3 p);
          }

  agree_checked : (q : Request) (c : Checked) → Says q c → PassesCheck c → Agrees len (placed_by buf len c) (holding (length buf) es (entry_of q) (refusal_of q))
  agree_checked q (bad e) s p =
      subst (Agrees len (refuse e buf)) (sym (ap (holding (length buf) es (entry_of q)) s ∙ wrong (number_of e) (each_number_once.range e).0))
      (agree_refused buf len (some es) e h)
    where
      wrong : (n : ℕ) → 1 ≤ n → holding (length buf) es (entry_of q) n ≡ refusing n (some es)
      wrong zero l = absurd (omega arith)
      wrong (suc n) l = refl
  agree_checked q (good x) s p =
      subst (Agrees len (placed buf len x)) (sym (ap₂ (holding (length buf) es) s.1 s.0)) (agree_room x p)

  agree_addition : (q : Request) → TypedQ q → Agrees len (added buf len q) (holding (length buf) es (entry_of q) (refusal_of q))
  unfolding added
  agree_addition q t =
      let e : added buf len q ≡ placed_by buf len (checked_of q) =
      take-false _ _ (le-ltb (length buf) len in_buffer) ∙ ap (judged buf len q) (ap sheet_fault h.1 ∙ no_fault es h.2 h.3) in
      subst (λ (l : Left). Agrees len l (holding (length buf) es (entry_of q) (refusal_of q))) (sym e) (agree_checked q (checked_of q) (checks_say q) (checks_pass q t))

-- ---- lists

-- what a call came to, by its contract
abbrev left_by : ℕ → List ℕ → Ask → Left
left_by len buf start = started buf
left_by len buf (addition d kind f payload) = added buf len (requested d kind f payload)

-- the writer reads an addition as the plain sheet does
same_request : (d : Bool) (kind : ℕ) (f : Fields) (payload : List ℕ) → requested d kind f payload ≡ asked d kind f payload
same_request true kind f payload = refl
same_request false kind f payload = refl

typed : (d : Bool) (kind : ℕ) (f : Fields) (payload : List ℕ) → Typed f → TypedQ (asked d kind f payload)
typed true kind f payload t = t
typed false kind f payload t = tt

no_start : (buf : List ℕ) (q : Request) → added buf 0 q ≡ refuse NotSheet buf
unfolding added
no_start buf q = take-false _ _ (le-ltb (length buf) 0 (omega arith))

agree : (buf : List ℕ) (len : ℕ) (p : Plain) (a : Ask) (r : Amount) (buf' : List ℕ) → Went len buf a r buf' → Fronts buf len p → Agrees len (left_by len buf a) (answered (length buf) a p)
unfolding answered
agree buf len p start r buf' w h = agree_start buf len p h
agree buf len none (addition d kind f payload) r buf' w h =
    subst (λ (l : Left). Agrees len l (refusing 9 none)) (sym (ap (λ (n : ℕ). added buf n (requested d kind f payload)) h ∙ no_start buf (requested d kind f payload)))
    (agree_refused buf len none NotSheet h)
agree buf len (some es) (addition d kind f payload) r buf' w h =
    let q : Request = asked d kind f payload in
    subst (λ (x : Request). Agrees len (added buf len x) (holding (length buf) es (entry_of q) (refusal_of q))) (sym (same_request d kind f payload))
    (agree_addition buf len es h q (typed d kind f payload w.1))

went_by : (len : ℕ) (buf : List ℕ) (a : Ask) (r : Amount) (buf' : List ℕ) → Went len buf a r buf' → Writes (left_by len buf a) r buf'
went_by len buf start r buf' w = w
went_by len buf (addition d kind f payload) r buf' w = w.0

-- only the bytes up to the length are spoken of
moved : (b b' : List ℕ) (len : ℕ) (p : Plain) → take len b' ≡ take len b → Fronts b len p → Fronts b' len p
moved b b' len none e h = h
moved b b' len (some es) e h = (h.0, e ∙ h.1, h.2, h.3)

pub along : (cs : List Call) (buf : List ℕ) (len : ℕ) (p : Plain) → InRow buf len cs → Fronts buf len p
    → (answers cs ≡ plain_answers p cs) × Fronts (last_buffer buf cs) (last_length len cs) (last_plain p cs)
unfolding InRow answers plain_answers last_buffer last_length last_plain
along [] buf len p a h = (refl, h)
along (c ∷ cs) buf len p a h =
    let w = went_by len c.buffer c.ask c.answer c.after a.1 in
    let g = agree c.buffer len p c.ask c.answer c.after a.1 (moved buf c.buffer len p a.0 h) in
    let next : Fronts c.after (length_after len c.answer) (answered (length c.buffer) c.ask p).plain =
    subst (λ (b : List ℕ). Fronts b (length_after len c.answer) (answered (length c.buffer) c.ask p).plain) (sym w.leaves)
    (subst (λ (r : Amount). Fronts (left_by len c.buffer c.ask).buffer (length_after len r) (answered (length c.buffer) c.ask p).plain) (sym w.answers) g.fronts) in
    let r = along cs c.after (length_after len c.answer) (answered (length c.buffer) c.ask p).plain a.2 next in
    let x = ap answer_number w.answers ∙ g.number in
    let n = ap amount_value w.answers ∙ g.long in
    (ap₂ (λ (a : ℕ × ℕ) (l : List (ℕ × ℕ)). a ∷ l) (λ i. (x i, n i)) r.0, r.1)
