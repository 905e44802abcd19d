-- The promises of specs/Promises about `Starts`, `Adds` and lists of calls.
use Prim.Native.Nat.{ℕ, ◌+◌, ◌≤◌, ◌<◌}
use mathlib.Core.Path.{◌≡◌, refl, sym, ap, ap₂, ◌∙◌, subst}
use mathlib.Core.Bool.{Bool, true, false, ◌||◌}
use mathlib.Core.List.{List, [], ◌∷◌}
use mathlib.Core.Logic.{◌⊎◌, inl, inr}
use mathlib.Core.Option.{Option, none, some}
use native.Mathlib.Omega.{arith}
use lib.ListN.{length, take, length-take}
use lib.Seq.{sets, length-sets}
use lib.Dec.{leb, ltb}
use borrow.Author.Tests.{ltb-true, ltb-false, lt-ltb, le-ltb, le-leb, lt-leb}
use Rattle.word.specs.Sets.{choose}
use Rattle.word.proofs.Cases.{by_lt, or-true}
use Rattle.storage.specs.Stores.{Bits, held}
use Rattle.storage.specs.Refusals.{number_of, Amount, amount_value, answer_number}
use Rattle.storage.proofs.Promises.{each_number_once}
use Rattle.storage.specs.declared.Refusal.{Refusal}
use Rattle.storage.specs.declared.Refusal.TheVariants.{CountOverStore, NoSpace}
use Rattle.editions.specs.Frames.{count_in, sheet_fault}
use Rattle.editions.specs.Reader.{Turn, done, read}
use Rattle.editions.specs.Meaning.{total}
use Rattle.sheet.specs.Reads.{edition_of, latest, fitting, Course, went, course, read_answer, read_store, reading_number, reading_record, reading_count}
use Rattle.plain.specs.Writer.{most, Request, duty, remark, Entry, edit, note, Checked, bad, good, checked_of, bytes_of}
use Rattle.plain.specs.Writer.{Left, refuse, started, count_raised, placed, placed_by, judged, added, Writes}
use Rattle.plain.specs.Plain.{sheet_of, refusal_of, edit_for, entry_of, answers, last_length, last_buffer, plain_answers, last_plain}
use Rattle.editions.specs.Promises.{SheetGets}
use Rattle.plain.specs.Promises.{RequestGets, bytes_asked, AddGets, over, fault, wrong, full, fine, LeavesRest, Grows, AddMeans, AddsMean}
use Rattle.plain.specs.Promises.{Holding, StartGets, short, fresh, StartMeans, StartsMean, WholeLists}
use Rattle.editions.proofs.Turns.{take-true, take-false}
use Rattle.editions.proofs.Faults.{fault_number, sheet_gets, fault_is, fault_none, good_sheet}
use Rattle.plain.proofs.Laid.{read-sheet, in_latest}
use Rattle.sheet.proofs.Readings.{course-passes, fits-old}
use Rattle.sheet.proofs.Papers.{table_agrees}
use Rattle.plain.proofs.Requests.{Says, checks_say, checks_good, request_gets, request_is}
use Rattle.plain.proofs.Grown.{put_last, drop_sets, length_raised, past_raised, count-front, bytes_long, grown, framed_entry, wanted}
use Rattle.plain.proofs.Written.{begun, Fronts, along}
use Rattle.plain.proofs.Begun.{begun-held}
use Rattle.plain.proofs.Sheets.{sheet_is}
use Rattle.std.specs.Prelude.{Ok, Err}

-- ---- one addition

bytes_asked_lem : (q : Request) → length (bytes_of (entry_of q)) ≡ 3 + bytes_asked q
unfolding entry_of
bytes_asked_lem (duty k f) = bytes_long (edit (edit_for k f)) ∙ ap (λ (n : ℕ). 3 + n) (table_agrees.lines (edit_for k f)).bytes.0
bytes_asked_lem (remark k p) = bytes_long (note k p)

module _ (buf : List ℕ) (len : ℕ) (q : Request) where
  abbrev sheet : List ℕ
  sheet = take len buf

  abbrev new : List ℕ
  new = bytes_of (entry_of q)

  abbrev put_in : Left
  put_in = record { answer = Ok (len + length new); buffer = sets (count_raised buf) len new }

  end_is : len + length new ≡ len + 3 + bytes_asked q
  end_is = omega (arith, bytes_asked_lem q)

  -- the call is refused with a number
  abbrev Refuses : ℕ → Type 0
  Refuses x = (e : Refusal) × (number_of e ≡ x) × (added buf len q ≡ refuse e buf)

  by_over : length buf < len → added buf len q ≡ refuse CountOverStore buf
  unfolding added
  by_over l = take-true _ _ (lt-ltb (length buf) len l)

  by_fault : len ≤ length buf → (o : Option Refusal) → sheet_fault sheet ≡ o → added buf len q ≡ judged buf len q o
  unfolding added
  by_fault l o e = take-false _ _ (le-ltb (length buf) len l) ∙ ap (judged buf len q) e

  at-fault : len ≤ length buf → (x : ℕ) → SheetGets sheet x → 0 < x → Refuses x
  at-fault l x g p = go (sheet_fault sheet) refl (fault_is sheet x g)
    where
      go : (o : Option Refusal) → sheet_fault sheet ≡ o → fault_number o ≡ x → Refuses x
      go none a z = absurd (omega arith)
      go (some e) a z = (e, z, by_fault l (some e) a)

  module _ (l : len ≤ length buf) (g : SheetGets sheet 0) where
    by_request : added buf len q ≡ placed_by buf len (checked_of q)
    by_request = by_fault l none (fault_none sheet g)

    at_wrong : (x : ℕ) → RequestGets q x → 0 < x → Refuses x
    at_wrong x w p = go (checked_of q) refl (checks_say q)
      where
        go : (c : Checked) → checked_of q ≡ c → Says q c → Refuses x
        go (bad e) a h = (e, sym h ∙ request_is q x w, by_request ∙ ap (placed_by buf len) a)
        go (good y) a h = absurd (omega (arith, h.0, request_is q x w))

    module _ (w : RequestGets q 0) where
      by_good : added buf len q ≡ placed buf len (entry_of q)
      by_good = by_request ∙ ap (placed_by buf len) (checks_good q (checked_of q) (checks_say q) (request_is q 0 w))

      counted : total sheet ≡ count_in buf
      counted = count-front buf len (good_sheet sheet g).headed.0

      no_room : (most ≤ total sheet) ⊎ (length buf < len + 3 + bytes_asked q) → added buf len q ≡ refuse NoSpace buf
      unfolding placed
      no_room (inl u) = by_good ∙ take-true _ _ (ap (λ (t : Bool). t || ltb (length buf) (len + length new)) (le-leb most (count_in buf) (omega (arith, counted))))
      no_room (inr v) =
          by_good ∙ take-true _ _ (ap (λ (t : Bool). leb most (count_in buf) || t) (lt-ltb (length buf) (len + length new) (omega (arith, end_is))) ∙ or-true (leb most (count_in buf)))

      room : total sheet < most → len + 3 + bytes_asked q ≤ length buf → added buf len q ≡ put_in
      unfolding placed
      room u v =
          by_good
          ∙ take-false _ _ (ap₂ (λ (s t : Bool). s || t) (lt-leb most (count_in buf) (omega (arith, counted))) (le-ltb (length buf) (len + length new) (omega (arith, end_is))))

  -- what it came to
  data Came : Left → Type 0 where
    refusing : (e : Refusal) → AddGets buf len q (number_of e) 0 → Came (refuse e buf)
    putting : len ≤ length buf → SheetGets sheet 0 → RequestGets q 0 → total sheet < most → len + 3 + bytes_asked q ≤ length buf → Came put_in

  came : Came (added buf len q)
  came = by_lt (length buf) len (λ l. subst Came (sym (by_over l)) (refusing CountOverStore (over l refl refl))) given
    where
      held : len ≤ length buf → SheetGets sheet 0 → RequestGets q 0 → Came (added buf len q)
      held l g w =
          by_lt (total sheet) most
          (λ u. by_lt (length buf) (len + 3 + bytes_asked q)
          (λ v. subst Came (sym (no_room l g w (inr v))) (refusing NoSpace (full l g w (inr v) refl refl)))
          (λ v. subst Came (sym (room l g w u v)) (putting l g w u v)))
          (λ u. subst Came (sym (no_room l g w (inl u))) (refusing NoSpace (full l g w (inl u) refl refl)))

      asked : len ≤ length buf → SheetGets sheet 0 → Came (added buf len q)
      asked l g =
          by_lt 0 (refusal_of q)
          (λ p.
          let (e, z, a) = at_wrong l g (refusal_of q) (request_gets q) p in
          subst Came (sym a) (refusing e (wrong l g (subst (RequestGets q) (sym z) (request_gets q)) (omega arith) refl)))
          (λ p. let z : refusal_of q ≡ 0 = omega arith in held l g (subst (RequestGets q) z (request_gets q)))

      given : len ≤ length buf → Came (added buf len q)
      given l =
          by_lt 0 (fault_number (sheet_fault sheet))
          (λ p.
          let (e, z, a) = at-fault l (fault_number (sheet_fault sheet)) (sheet_gets sheet) p in
          subst Came (sym a) (refusing e (fault l (subst (SheetGets sheet) (sym z) (sheet_gets sheet)) (omega arith) refl)))
          (λ p. let z : fault_number (sheet_fault sheet) ≡ 0 = omega arith in asked l (subst (SheetGets sheet) z (sheet_gets sheet)))

  gets : (a : Left) → Came a → AddGets buf len q (answer_number a.answer) (amount_value a.answer)
  gets a (refusing e g) = g
  gets a (putting l g w u v) = fine l g w u v refl end_is

  -- and no other number and length
  gives : (x n : ℕ) → AddGets buf len q x n → (answer_number (added buf len q).answer ≡ x) × (amount_value (added buf len q).answer ≡ n)
  gives x n h = go h
    where
      refused : Refuses x → n ≡ 0 → (answer_number (added buf len q).answer ≡ x) × (amount_value (added buf len q).answer ≡ n)
      refused (e, z, a) m = (ap (λ (l : Left). answer_number l.answer) a ∙ z, ap (λ (l : Left). amount_value l.answer) a ∙ sym m)

      go : AddGets buf len q x n → (answer_number (added buf len q).answer ≡ x) × (amount_value (added buf len q).answer ≡ n)
      go (over l e m) = refused (CountOverStore, sym e, by_over l) m
      go (fault l g p m) = refused (at-fault l x g p) m
      go (wrong l g w p m) = refused (at_wrong l g x w p) m
      go (full l g w u e m) = refused (NoSpace, sym e, no_room l g w u) m
      go (fine l g w u v e m) =
          (ap (λ (a : Left). answer_number a.answer) (room l g w u v) ∙ sym e, ap (λ (a : Left). amount_value a.answer) (room l g w u v) ∙ end_is ∙ sym m)

-- ---- what is left in the buffer

refuse_leaves : (e : Refusal) (buf : List ℕ) → LeavesRest buf (Err e) buf
refuse_leaves e buf = record { kept = λ p. refl; long = refl; past = λ z. refl }

module _ (buf : List ℕ) (len : ℕ) (q : Request) where
  leaves : (a : Left) → Came buf len q a → LeavesRest buf a.answer a.buffer
  leaves a (refusing e g) = refuse_leaves e buf
  leaves a (putting l g w u v) =
      let head = (good_sheet (sheet buf len q) g).headed in
      record {
        kept = λ p. absurd (omega arith);
        long = length-sets (count_raised buf) len (new buf len q) ∙ length_raised buf;
        past = λ z.
            drop_sets (new buf len q) (count_raised buf) len (len + length (new buf len q)) (omega arith)
            ∙ past_raised buf (len + length (new buf len q)) (omega (arith, head.0, length-take len buf));
      }

  grows : (a : Left) → Came buf len q a → answer_number a.answer ≡ 0 → Grows (take len buf) q (take (amount_value a.answer) a.buffer)
  grows a (refusing e g) z = absurd (omega (arith, (each_number_once.range e).0))
  grows a (putting l g w u v) z =
      let its = good_sheet (sheet buf len q) g in
      let good = request_is q 0 w in
      subst (Grows (take len buf) q)
      (sym (put_last (new buf len q) (count_raised buf) len (omega (arith, length_raised buf, end_is buf len q))))
      (grown buf len (entry_of q) l its.headed its.whole its.ends u (framed_entry q good) q (wanted q good))

-- what holds of what a call came to holds of its answer and of the buffer that it left
by_writes : (P : Amount → List ℕ → Type 0) (l : Left) (r : Amount) (buf' : List ℕ) → Writes l r buf' → P l.answer l.buffer → P r buf'
by_writes P l r buf' w h = subst (λ (a : Amount). P a buf') (sym w.answers) (subst (P l.answer) (sym w.leaves) h)

exactly : (G : ℕ → ℕ → Type 0) (a b x n : ℕ) → G a b → (a ≡ x) × (b ≡ n) → G x n
exactly G a b x n g h = subst (λ (y : ℕ). G y n) h.0 (subst (G a) h.1 g)

add_means : (buf : List ℕ) (len : ℕ) (q : Request) (r : Amount) (buf' : List ℕ) → Writes (added buf len q) r buf' → AddMeans buf len q r buf'
add_means buf len q r buf' w = by_writes (AddMeans buf len q) (added buf len q) r buf' w means
  where
    means : AddMeans buf len q (added buf len q).answer (added buf len q).buffer
    means =
        let a = added buf len q in
        let c = came buf len q in
        record {
          exact = λ x n. (exactly (AddGets buf len q) (answer_number a.answer) (amount_value a.answer) x n (gets buf len q a c), gives buf len q x n);
          leaves = leaves buf len q a c;
          grows = grows buf len q a c;
        }

-- (d): each number exactly, whatever is asked of whatever buffer
pub adding_means : AddsMean
adding_means = record {
  duties = λ buf len kind f payload r buf' w. add_means buf len (duty kind f) r buf' w;
  remarks = λ buf len kind f payload r buf' w. add_means buf len (remark kind payload) r buf' w;
}

-- ---- a start

module _ (buf : List ℕ) where
  -- what is promised of what a start came to
  start_of : (a : Left) → StartGets buf (answer_number a.answer) (amount_value a.answer) → LeavesRest buf a.answer a.buffer
      → (answer_number a.answer ≡ 0 → Holding (take 4 a.buffer) [])
      → ((x n : ℕ) → StartGets buf x n → (answer_number a.answer ≡ x) × (amount_value a.answer ≡ n)) → StartMeans buf a.answer a.buffer
  start_of a g l h b = record {
    exact = λ x n. (exactly (StartGets buf) (answer_number a.answer) (amount_value a.answer) x n g, b x n);
    leaves = l;
    empty = h;
  }

  started_means : StartMeans buf (started buf).answer (started buf).buffer
  unfolding started sheet_of
  started_means = go (ltb (length buf) 4) refl
    where
      sheet' : List ℕ
      sheet' = 78 ∷ 83 ∷ 0 ∷ 0 ∷ []

      made : Left
      made = record { answer = Ok 4; buffer = sets buf 0 sheet' }

      made_leaves : LeavesRest buf (Ok 4) (sets buf 0 sheet')
      made_leaves = record { kept = λ p. absurd (omega arith); long = length-sets buf 0 sheet'; past = λ z. drop_sets sheet' buf 0 4 (omega arith) }

      only_short : length buf < 4 → (x n : ℕ) → StartGets buf x n → (6 ≡ x) × (0 ≡ n)
      only_short l x n (short h a b) = (sym a, sym b)
      only_short l x n (fresh h a b) = absurd (omega arith)

      only_fresh : 4 ≤ length buf → (x n : ℕ) → StartGets buf x n → (0 ≡ x) × (4 ≡ n)
      only_fresh l x n (short h a b) = absurd (omega arith)
      only_fresh l x n (fresh h a b) = (sym a, sym b)

      go : (t : Bool) → ltb (length buf) 4 ≡ t → StartMeans buf (choose t (refuse NoSpace buf) made).answer (choose t (refuse NoSpace buf) made).buffer
      go true e =
          let l = ltb-true (length buf) 4 e in
          start_of (refuse NoSpace buf) (short l refl refl) (refuse_leaves NoSpace buf) (λ z. absurd (omega arith)) (only_short l)
      go false e =
          let l = ltb-false (length buf) 4 e in
          start_of made (fresh l refl refl) made_leaves (λ z. subst (λ (s : List ℕ). Holding s []) (sym (begun buf l)) (sheet_is [] (omega arith) tt)) (only_fresh l)

pub starting_means : StartsMean
starting_means buf r buf' w = by_writes (StartMeans buf) (started buf) r buf' w (started_means buf)

-- ---- lists of calls

-- (e)
pub whole_lists : WholeLists
whole_lists buf cs row = record {
  same = r.0;
  begun = begun-held cs r.0;
  length_is = λ es e. (front es e).0;
  bytes_are = λ es e. (front es e).1;
  laid = λ es e. sheet_is es (front es e).2 (front es e).3;
  effect_is = λ es e ws b res a res' p l t q h.
      let c : ℕ = length res in
      let sheet : List ℕ = take (last_length 0 cs) (last_buffer buf cs) in
      let reads : read (edition_of c latest) sheet (fitting c (held ws b)) ≡ done (length es) t =
      ap₂ (λ (s : List ℕ) (o : Turn Bits). read (edition_of c latest) s o) (front es e).1 (fits-old ws b.count c l)
      ∙ read-sheet c latest es (held ws b) t (front es e).2 (front es e).3 (in_latest es) q in
      let goes : course latest sheet ws b res ≡ went (done (length es) t) = course-passes latest ws b res sheet p ∙ ap went reads in
      let answer = h.answers ∙ ap read_answer goes in
      (ap reading_number answer, ap reading_record answer, ap reading_count answer, h.leaves ∙ ap (λ (x : Course). read_store x res) goes);
}
  where
    r : (answers cs ≡ plain_answers none cs) × Fronts (last_buffer buf cs) (last_length 0 cs) (last_plain none cs)
    r = along cs buf 0 none row refl

    front : (es : List Entry) → last_plain none cs ≡ some es → Fronts (last_buffer buf cs) (last_length 0 cs) (some es)
    front es e = subst (Fronts (last_buffer buf cs) (last_length 0 cs)) e r.1
