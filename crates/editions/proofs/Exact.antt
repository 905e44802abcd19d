-- The reader gives exactly the answer that is due, for any edition, state and step.
use Prim.Native.Nat.{ℕ, zero, suc, ◌+◌, ◌-◌, ◌≤◌, ◌<◌}
use mathlib.Core.Path.{◌≡◌, refl, sym, ap, ◌∙◌, subst}
use mathlib.Core.List.{List, [], ◌++◌}
use mathlib.Core.Logic.{◌↔◌}
use mathlib.Core.Option.{Option, none, some}
use native.Mathlib.Omega.{arith}
use native.Mathlib.Decide.{dec_le}
use native.Mathlib.Nat.{add-zero, add-suc, suc-add, zero-add}
use lib.ListN.{length}
use Rattle.storage.specs.Refusals.{number_of}
use Rattle.storage.specs.declared.Refusal.{Refusal}
use Rattle.storage.specs.declared.Refusal.TheVariants.{NotSheet, CutRecord, BytesRemain, BadPayload, NewerKind}
use Rattle.storage.proofs.Promises.{each_number_once}
use Rattle.editions.specs.Frames.{Item, end_at}
use Rattle.editions.specs.Reader.{Edition, Answer, refused, done, Turn, stop, next, act, then, records, copied, read}
use Rattle.editions.specs.Meaning.{Header, total, start, Whole, onward, Asks, effect, Sound, begin, Reached, AtRecord}
use Rattle.editions.specs.Meaning.{Newer, Bad, Fails, Applies, not-sheet, unfit, cut, newer, bad, fails, remain, Due}
use Rattle.editions.specs.Promises.{ReadExact}
use Rattle.editions.proofs.Stands.{stands, stands_whole, stands_is, asks, asked, item, Fine, sound_more, Less, sound_less}
use Rattle.editions.proofs.Turns.{none_some, stop_next, next_inj, take-true, take-false, header?, headed_true, headed_false, listed, edit, edit_of, edit_known}
use Rattle.editions.proofs.Turns.{does, effect_append, Did, went, lacked, spoilt, failed, did, act_did, record-whole, record-cut, all_read, bytes_left}

module _ {A S : Type 0} (E : Edition A S) (sheet : List ℕ) where
  -- the first i records are sound and applied, and make s of s₀
  abbrev pub Reaches : S → ℕ → S → Type 0
  Reaches s₀ i s = (es : List (ℕ × A)) × Sound E sheet i es × (effect E es s₀ ≡ next s)

  reaches_suc : (s₀ : S) (i : ℕ) (s t : S) → Reaches s₀ i s → Whole sheet i → Fine E sheet i → does E (suc i) (edit_of E (item E sheet i)) s ≡ next t → Reaches s₀ (suc i) t
  reaches_suc s₀ i s t (es, h, p) w g e = (
    es ++ listed (suc i) (edit_of E (item E sheet i)),
    sound_more E sheet i es h w g,
    effect_append E es (suc i) (edit_of E (item E sheet i)) s₀ ∙ ap (onward (does E (suc i) (edit_of E (item E sheet i)))) p ∙ e,
  )

  reaches_pred : (s₀ : S) (i : ℕ) (t : S) → Reaches s₀ (suc i) t → (s : S) × Reaches s₀ i s × Whole sheet i × Fine E sheet i × (does E (suc i) (edit_of E (item E sheet i)) s ≡ next t)
  reaches_pred s₀ i t (es, h, p) = go (effect E before s₀) refl (sym (effect_append E before (suc i) (edit_of E (item E sheet i)) s₀) ∙ ap (λ (l : List (ℕ × A)). effect E l s₀) (sym less.is) ∙ p)
    where
      less : Less E sheet i es
      less = sound_less E sheet i es h

      before : List (ℕ × A)
      before = less.before

      go : (o : Turn S) → effect E before s₀ ≡ o → onward (does E (suc i) (edit_of E (item E sheet i))) o ≡ next t
          → (s : S) × Reaches s₀ i s × Whole sheet i × Fine E sheet i × (does E (suc i) (edit_of E (item E sheet i)) s ≡ next t)
      go (stop x) p q = absurd (stop_next q)
      go (next s) p q = (s, (before, less.sound, p), less.whole, less.fine, q)

  -- a record that has made its turn is sound and applied
  pub reaches_next : (s₀ : S) (i : ℕ) (s t : S) → Reaches s₀ i s → Whole sheet i → act E (suc i) (item E sheet i) s ≡ next t → Reaches s₀ (suc i) t
  reaches_next s₀ i s t h w q = go (act E (suc i) (item E sheet i) s) (did E (suc i) (item E sheet i) s) q
    where
      go : (o : Turn S) → Did E (suc i) s (item E sheet i) o → o ≡ next t → Reaches s₀ (suc i) t
      go o (went u g d p) q = reaches_suc s₀ i s t h w g (d ∙ sym p ∙ q)
      go o (lacked d p x) q = absurd (stop_next (sym x ∙ q))
      go o (spoilt d m p y x) q = absurd (stop_next (sym x ∙ q))
      go o (failed e p why y x) q = absurd (stop_next (sym x ∙ q))

  reach_bound : (i : ℕ) (es : List (ℕ × A)) → 4 ≤ length sheet → Sound E sheet i es → start sheet i ≤ length sheet
  unfolding start
  reach_bound zero es l h = l
  reach_bound (suc i) es l h = (sound_less E sheet i es h).whole

  -- one more record of whole frame
  turned : (n i : ℕ) (s : S) → Whole sheet i → (o : Turn S) → Did E (suc i) s (item E sheet i) o
      → records E sheet (suc n) i (start sheet i) s ≡ then E (records E sheet n (suc i) (start sheet (suc i))) (suc i) o
  unfolding start
  turned n i s w o d =
      record-whole E sheet n i (start sheet i) s w ∙ ap (then E (records E sheet n (suc i) (start sheet (suc i))) (suc i)) (act_did E (suc i) (item E sheet i) s o d)

  -- the first i records are read
  advance : (s₀ : S) (i n : ℕ) (s : S) → Reaches s₀ i s → records E sheet (i + n) 0 4 s₀ ≡ records E sheet n i (start sheet i) s
  unfolding start effect
  advance s₀ zero n s (es, h, p) = ap (λ (m : ℕ). records E sheet m 0 4 s₀) (zero-add n) ∙ ap (records E sheet n 0 4) (next_inj (sym (ap (λ (l : List (ℕ × A)). effect E l s₀) (nothing es h)) ∙ p))
    where
      nothing : (es : List (ℕ × A)) → Sound E sheet 0 es → es ≡ []
      nothing es begin = refl
  advance s₀ (suc i) n t h =
      let (s, r, w, g, q) = reaches_pred s₀ i t h in
      ap (λ (m : ℕ). records E sheet m 0 4 s₀) (suc-add i n ∙ sym (add-suc i n)) ∙ advance s₀ i (suc n) s r ∙ turned n i s w (next t) (went t g q refl)

  module _ (old : Turn S) (good : Header sheet) (s₀ : S) (fits : old ≡ next s₀) where
    abbrev reached : (i : ℕ) (s : S) → Reaches s₀ i s → Reached E sheet old i
    reached i s h = record { headed = good; from = s₀; fits = fits; edits = h.0; sound = h.1; state = s; applied = h.2 }

    at-end : (i : ℕ) (s : S) → i ≡ total sheet → Reaches s₀ i s → Dec (start sheet i < length sheet) → Due E sheet old (records E sheet 0 i (start sheet i) s)
    at-end i s c h (yes l) =
        subst (Due E sheet old) (sym (bytes_left E sheet i (start sheet i) s l))
        (remain (reached (total sheet) s (subst (λ (m : ℕ). Reaches s₀ m s) c h)) (subst (λ (m : ℕ). start sheet m < length sheet) c l) refl c)
    at-end i s c h (no l) =
        let e : start sheet i ≡ length sheet = omega (arith, reach_bound i h.0 good.0 h.1) in
        subst (Due E sheet old) (sym (all_read E sheet i (start sheet i) s e))
        (record { numbered = c; reached = reached (total sheet) s (subst (λ (m : ℕ). Reaches s₀ m s) c h); ends = subst (λ (m : ℕ). start sheet m ≡ length sheet) c e; makes = refl })

    forward : (n i : ℕ) (s : S) → i + n ≡ total sheet → Reaches s₀ i s → Due E sheet old (records E sheet n i (start sheet i) s)
    forward zero i s c h = at-end i s (sym (add-zero i) ∙ c) h (dec_le (suc (start sheet i)) (length sheet))
    forward (suc n) i s c h =
        go (dec_le (end_at sheet (start sheet i)) (length sheet)) (λ t r. forward n (suc i) t (suc-add i n ∙ sym (add-suc i n) ∙ c) r)
      where
        here : (P : S → ℕ → Type 0) → P s i → AtRecord E sheet old (suc i) P
        here P p = record { index = i; numbered = refl; within = omega arith; reached = reached i s h; here = p }

        rest : S → Answer S
        rest = records E sheet n (suc i) (start sheet (suc i))

        after : Turn S → Type 0
        after o = Due E sheet old (then E rest (suc i) o)

        Later : Type 0
        Later = (t : S) → Reaches s₀ (suc i) t → Due E sheet old (rest t)

        on : Whole sheet i → Later → (o : Turn S) → Did E (suc i) s (item E sheet i) o → after o
        on w k o (went t g d q) = subst after (sym q) (k t (reaches_suc s₀ i s t h w g d))
        on w k o (lacked d p q) = subst after (sym q) (newer (here (Newer E sheet) (item E sheet i, stands sheet (start sheet i) w, d, p)) refl)
        on w k o (spoilt d m p x q) =
            let none-asked : (e : A) → ¬ Asks E (item E sheet i) e = λ e a. none_some (sym (edit_known E (item E sheet i) d m p ∙ x) ∙ asked E (item E sheet i) e a) in
            subst after (sym q) (bad (here (Bad E sheet) (item E sheet i, stands sheet (start sheet i) w, d, m, p, none-asked)) refl)
        on w k o (failed e p why x q) =
            subst after (sym q) (fails why (here (Fails E sheet why) (item E sheet i, stands sheet (start sheet i) w, e, asks E (item E sheet i) e p, x)) refl)

        go : Dec (Whole sheet i) → Later → Due E sheet old (records E sheet (suc n) i (start sheet i) s)
        go (yes w) k =
            let turn = did E (suc i) (item E sheet i) s in
            subst (Due E sheet old) (sym (turned n i s w (act E (suc i) (item E sheet i) s) turn)) (on w k (act E (suc i) (item E sheet i) s) turn)
        go (no w) k = subst (Due E sheet old) (sym (record-cut E sheet n i (start sheet i) s w)) (cut (here (λ s i. ¬ Whole sheet i) w) refl)

  -- ---- and back

  module _ (old : Turn S) where
    arrive : (i n : ℕ) → i + n ≡ total sheet → (h : Reached E sheet old i) → records E sheet (total sheet) 0 4 h.from ≡ records E sheet n i (start sheet i) h.state
    arrive i n c h = ap (λ (m : ℕ). records E sheet m 0 4 h.from) (sym c) ∙ advance h.from i n h.state (h.edits, h.sound, h.applied)

    read_copied : (i : ℕ) (h : Reached E sheet old i) → read E sheet old ≡ records E sheet (total sheet) 0 4 h.from
    unfolding read
    read_copied i h = take-true _ _ (headed_true sheet h.headed) ∙ ap (copied E sheet) h.fits

    stops : (P : S → ℕ → Type 0) (k : ℕ) (a : AtRecord E sheet old k P) (e : Refusal) → Whole sheet a.index
        → Did E (suc a.index) a.reached.state (item E sheet a.index) (stop e) → read E sheet old ≡ refused e k
    stops P k a e w d =
        let n : ℕ = total sheet - suc a.index in
        let l = a.within in
        let c : a.index + suc n ≡ total sheet = omega arith in
        read_copied a.index a.reached ∙ arrive a.index (suc n) c a.reached ∙ turned n a.index a.reached.state w (stop e) d
        ∙ ap (refused e) (sym a.numbered)

    cut-read : (k : ℕ) → AtRecord E sheet old k (λ s i. ¬ Whole sheet i) → read E sheet old ≡ refused CutRecord k
    cut-read k a =
        let n : ℕ = total sheet - suc a.index in
        let l = a.within in
        let c : a.index + suc n ≡ total sheet = omega arith in
        read_copied a.index a.reached ∙ arrive a.index (suc n) c a.reached
        ∙ record-cut E sheet n a.index (start sheet a.index) a.reached.state a.here ∙ ap (refused CutRecord) (sym a.numbered)

    finish : (h : Reached E sheet old (total sheet)) → read E sheet old ≡ records E sheet 0 (total sheet) (start sheet (total sheet)) h.state
    finish h = read_copied (total sheet) h ∙ arrive (total sheet) 0 (add-zero (total sheet)) h

    newer_read : (k : ℕ) → AtRecord E sheet old k (Newer E sheet) → read E sheet old ≡ refused NewerKind k
    newer_read k a =
        let (r, h, d, p) = a.here in
        let q = stands_is sheet (start sheet a.index) r h in
        stops (Newer E sheet) k a NewerKind (stands_whole sheet (start sheet a.index) r h)
        (lacked (ap (λ (x : Item). x.duty) q ∙ d) (ap (λ (x : Item). E.size x.kind) q ∙ p) refl)

    bad_read : (k : ℕ) → AtRecord E sheet old k (Bad E sheet) → read E sheet old ≡ refused BadPayload k
    bad_read k a =
        let (r, h, d, n, p, x) = a.here in
        let q = stands_is sheet (start sheet a.index) r h in
        let d' = ap (λ (x : Item). x.duty) q ∙ d in
        let p' = ap (λ (x : Item). E.size x.kind) q ∙ p in
        let y : Item = item E sheet a.index in
        stops (Bad E sheet) k a BadPayload (stands_whole sheet (start sheet a.index) r h)
        (spoilt d' n p' (not_some (edit E y n) (λ e z. x e (asks E r e (ap (edit_of E) (sym q) ∙ edit_known E y d' n p' ∙ z)))) refl)
      where
        not_some : (o : Option A) → ((e : A) → o ≡ some e → ⊥) → o ≡ none
        not_some none h = refl
        not_some (some e) h = absurd (h e refl)

    fails_read : (k : ℕ) (why : Refusal) → AtRecord E sheet old k (Fails E sheet why) → read E sheet old ≡ refused why k
    fails_read k why a =
        let (r, h, e, x, p) = a.here in
        stops (Fails E sheet why) k a why (stands_whole sheet (start sheet a.index) r h)
        (failed e (ap (edit_of E) (stands_is sheet (start sheet a.index) r h) ∙ asked E r e x) why p refl)

    -- the refusal of a number
    numbered : (d e : Refusal) (k : ℕ) → number_of e ≡ number_of d → read E sheet old ≡ refused d k → read E sheet old ≡ refused e k
    numbered d e k q p = p ∙ ap (λ (x : Refusal). refused x k) (sym (each_number_once.once e d q))

    -- a reading gives the answer that is due
    backward_refused : (e : Refusal) (k : ℕ) → Applies E sheet old (number_of e) k → read E sheet old ≡ refused e k
    unfolding read
    backward_refused e k (not-sheet h q z) = numbered NotSheet e k q (take-false _ _ (headed_false sheet h) ∙ ap (refused NotSheet) (sym z))
    backward_refused e k (unfit h why u q z) = numbered why e k q (take-true _ _ (headed_true sheet h) ∙ ap (copied E sheet) u ∙ ap (refused why) (sym z))
    backward_refused e k (cut a q) = numbered CutRecord e k q (cut-read k a)
    backward_refused e k (newer a q) = numbered NewerKind e k q (newer_read k a)
    backward_refused e k (bad a q) = numbered BadPayload e k q (bad_read k a)
    backward_refused e k (fails why a q) = numbered why e k q (fails_read k why a)
    backward_refused e k (remain h l q z) =
        numbered BytesRemain e k q (finish h ∙ bytes_left E sheet (total sheet) (start sheet (total sheet)) h.state l ∙ ap (refused BytesRemain) (sym z))

    -- what applies is the number of a refusal
    pub refusal_of : (x k : ℕ) → Applies E sheet old x k → (e : Refusal) × (number_of e ≡ x)
    refusal_of x k (not-sheet h q z) = (NotSheet, sym q)
    refusal_of x k (unfit h why u q z) = (why, sym q)
    refusal_of x k (cut a q) = (CutRecord, sym q)
    refusal_of x k (newer a q) = (NewerKind, sym q)
    refusal_of x k (bad a q) = (BadPayload, sym q)
    refusal_of x k (fails why a q) = (why, sym q)
    refusal_of x k (remain h l q z) = (BytesRemain, sym q)

    backward : (a : Answer S) → Due E sheet old a → read E sheet old ≡ a
    backward (refused e k) h = backward_refused e k h
    backward (done k s) h =
        finish h.reached ∙ all_read E sheet (total sheet) (start sheet (total sheet)) h.reached.state h.ends
        ∙ ap (done (total sheet)) h.makes ∙ ap (λ (m : ℕ). done m s) (sym h.numbered)

    due : Due E sheet old (read E sheet old)
    unfolding read start effect
    due = go (header? sheet) old refl
      where
        go : Dec (Header sheet) → (o : Turn S) → old ≡ o → Due E sheet old (read E sheet old)
        go (no h) o e = subst (Due E sheet old) (sym (take-false _ _ (headed_false sheet h))) (not-sheet h refl refl)
        go (yes h) (stop why) e = subst (Due E sheet old) (sym (take-true _ _ (headed_true sheet h) ∙ ap (copied E sheet) e)) (unfit h why e refl refl)
        go (yes h) (next s₀) e =
            subst (Due E sheet old) (sym (take-true _ _ (headed_true sheet h) ∙ ap (copied E sheet) e))
            (forward old h s₀ e (total sheet) 0 s₀ (zero-add (total sheet)) ([], begin, refl))

    both : (a : Answer S) → (read E sheet old ≡ a) ↔ Due E sheet old a
    both a = ((λ e. subst (Due E sheet old) e due), backward a)

-- the reader's answer is the one that is due, and no other
pub exact : ReadExact
exact A S E sheet old = both E sheet old
