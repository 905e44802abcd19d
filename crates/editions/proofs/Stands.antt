-- The reader's decoding of a record is the one that stands in the sheet, and no other.
use Prim.Native.Nat.{ℕ, suc, ◌+◌, ◌/◌, ◌%◌, ◌≤◌, ◌<◌}
use mathlib.Core.Path.{◌≡◌, refl, sym, ap, ◌∙◌, subst}
use mathlib.Core.Bool.{Bool, true, false, false≢true}
use mathlib.Core.List.{List, ◌++◌, append-nil}
use mathlib.Core.Option.{Option, none, some}
use native.Mathlib.Omega.{arith}
use lib.ListN.{length, get_or, take, drop, length-drop}
use lib.Seq.{length-take-le, ext_get_or, get_or-take, get_or-drop}
use lib.Dec.{leb, eqb}
use borrow.Author.Tests.{le-leb, lt-leb, eq-eqb, eqb-true}
use Rattle.word.specs.Sets.{choose}
use Rattle.word.proofs.Cases.{by_lt}
use Rattle.editions.specs.Frames.{Item, size_at, end_at, item_at}
use Rattle.editions.specs.Reader.{Edition}
use Rattle.editions.specs.Meaning.{Stands, start, Whole, Asks, Sound, remark, duty}
use Rattle.editions.proofs.Turns.{none_some, take-true, take-false, listed, sized, edit_of}

module _ (sheet : List ℕ) (at : ℕ) where
  -- the payload's bytes, where the frame is whole
  part_length : end_at sheet at ≤ length sheet → length (take (size_at sheet at) (drop (at + 3) sheet)) ≡ size_at sheet at
  part_length w = length-take-le (size_at sheet at) (drop (at + 3) sheet) (omega (arith, length-drop (at + 3) sheet))

  part_at : (j : ℕ) → j < size_at sheet at → get_or (take (size_at sheet at) (drop (at + 3) sheet)) j 0 ≡ get_or sheet (at + 3 + j) 0
  part_at j h = rw (get_or-take, get_or-drop)

  -- the record that the reader sees stands there
  pub stands : end_at sheet at ≤ length sheet → Stands sheet at (item_at sheet at)
  stands w = record {
    bit = get_or sheet at 0 / 128;
    first = omega arith;
    seven = omega arith;
    duty = by_lt (get_or sheet at 0) 128 (λ l. lt-leb 128 (get_or sheet at 0) l ∙ sym (lt-leb 1 (get_or sheet at 0 / 128) (omega arith)))
        (λ l. le-leb 128 (get_or sheet at 0) l ∙ sym (le-leb 1 (get_or sheet at 0 / 128) (omega arith)));
    size = sym (part_length w);
    inside = omega (arith, part_length w);
    bytes = λ j l. part_at j (subst (λ (n : ℕ). j < n) (part_length w) l);
  }

  module _ (r : Item) (h : Stands sheet at r) where
    -- its frame is whole
    pub stands_whole : end_at sheet at ≤ length sheet
    stands_whole = omega (arith, h.size, h.inside)

    -- and it is that record
    pub stands_is : item_at sheet at ≡ r
    stands_is = λ i. record { duty = d i; kind = k i; payload = p i }
      where
        k : get_or sheet at 0 % 128 ≡ r.kind
        k = omega (arith, h.first, h.seven)

        d : leb 128 (get_or sheet at 0) ≡ r.duty
        d =
            by_lt (get_or sheet at 0) 128
            (λ l. lt-leb 128 (get_or sheet at 0) l ∙ sym (lt-leb 1 h.bit (omega (arith, h.first, h.seven))) ∙ sym h.duty)
            (λ l. le-leb 128 (get_or sheet at 0) l ∙ sym (le-leb 1 h.bit (omega (arith, h.first, h.seven))) ∙ sym h.duty)

        long : length (take (size_at sheet at) (drop (at + 3) sheet)) ≡ size_at sheet at
        long = part_length stands_whole

        p : take (size_at sheet at) (drop (at + 3) sheet) ≡ r.payload
        p =
            ext_get_or 0 (take (size_at sheet at) (drop (at + 3) sheet)) r.payload (long ∙ h.size)
            (λ j l. part_at j (subst (λ (n : ℕ). j < n) long l) ∙ sym (h.bytes j (subst (λ (n : ℕ). j < n) (long ∙ h.size) l)))

-- a record asks for what the reader reads in it
module _ {A S : Type 0} (E : Edition A S) (r : Item) (e : A) where
  pub asks : edit_of E r ≡ some e → Asks E r e
  asks q = go r.duty refl (E.size r.kind) refl q
    where
      go : (d : Bool) → r.duty ≡ d → (o : Option ℕ) → E.size r.kind ≡ o → choose d (sized E r o) none ≡ some e → Asks E r e
      go false d o s q = absurd (none_some q)
      go true d none s q = absurd (none_some q)
      go true d (some n) s q = on (eqb (length r.payload) n) refl q
        where
          on : (t : Bool) → eqb (length r.payload) n ≡ t → choose t (E.rule r.kind r.payload) none ≡ some e → Asks E r e
          on false t q = absurd (none_some q)
          on true t q = record { duty = d; sized = s ∙ ap some (sym (eqb-true (length r.payload) n t)); ruled = q }

  pub asked : Asks E r e → edit_of E r ≡ some e
  asked a =
      take-true _ _ a.duty ∙ ap (sized E r) a.sized
      ∙ take-true _ _ (eq-eqb (length r.payload) (length r.payload) refl) ∙ a.ruled

-- ---- the records in order

module _ {A S : Type 0} (E : Edition A S) (sheet : List ℕ) where
  -- record i as the reader sees it
  abbrev pub item : ℕ → Item
  item i = item_at sheet (start sheet i)

  abbrev pub Fine : ℕ → Type 0
  Fine i = (item i).duty ≡ true → (e : A) × (edit_of E (item i) ≡ some e)

  pub sound_more : (i : ℕ) (es : List (ℕ × A)) → Sound E sheet i es → Whole sheet i → Fine i → Sound E sheet (suc i) (es ++ listed (suc i) (edit_of E (item i)))
  sound_more i es s w g = go (item i).duty refl
    where
      go : (t : Bool) → (item i).duty ≡ t → Sound E sheet (suc i) (es ++ listed (suc i) (edit_of E (item i)))
      go false d =
          subst (Sound E sheet (suc i)) (sym (append-nil es) ∙ ap (λ (o : Option A). es ++ listed (suc i) o) (sym (take-false _ _ d)))
          (remark (item i) s (stands sheet (start sheet i) w) d)
      go true d =
          let (e, q) = g d in
          subst (Sound E sheet (suc i)) (ap (λ (o : Option A). es ++ listed (suc i) o) (sym q)) (duty (item i) e s (stands sheet (start sheet i) w) (asks E (item i) e q))

  pub record Less (i : ℕ) (es : List (ℕ × A)) : Type 0 where
    pub before : List (ℕ × A)
    pub sound : Sound E sheet i before
    pub whole : Whole sheet i
    pub fine : Fine i
    pub is : es ≡ before ++ listed (suc i) (edit_of E (item i))

  pub sound_less : (i : ℕ) (es : List (ℕ × A)) → Sound E sheet (suc i) es → Less i es
  sound_less i es (remark r s h d) =
      let q = stands_is sheet (start sheet i) r h in
      let d' : (item i).duty ≡ false = ap (λ (x : Item). x.duty) q ∙ d in
      record {
        before = es;
        sound = s;
        whole = stands_whole sheet (start sheet i) r h;
        fine = λ t. absurd (false≢true (sym d' ∙ t));
        is = sym (append-nil es) ∙ ap (λ (o : Option A). es ++ listed (suc i) o) (sym (take-false _ _ d'));
      }
  sound_less i es (duty {es = fs} r e s h a) =
      let p : edit_of E (item i) ≡ some e = ap (edit_of E) (stands_is sheet (start sheet i) r h) ∙ asked E r e a in
      record {
        before = fs;
        sound = s;
        whole = stands_whole sheet (start sheet i) r h;
        fine = λ t. (e, p);
        is = ap (λ (o : Option A). fs ++ listed (suc i) o) (sym p);
      }
