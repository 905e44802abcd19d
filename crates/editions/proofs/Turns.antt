-- One record: what its turn says of it, for any edition, state and step.
use Prim.Native.Nat.{ℕ, suc, ◌≤◌, ◌<◌}
use mathlib.Core.Path.{◌≡◌, refl, sym, ap, ◌∙◌}
use mathlib.Core.Bool.{Bool, true, false, ◌&&◌, false≢true}
use mathlib.Core.List.{List, [], ◌∷◌, ◌++◌}
use mathlib.Core.Option.{Option, none, some}
use native.Mathlib.Omega.{arith}
use native.Mathlib.Decide.{dec_le, ℕ_discrete}
use lib.ListN.{length, get_or}
use lib.Dec.{leb, eqb}
use borrow.Author.Tests.{lt-ltb, le-ltb, le-leb, lt-leb, eq-eqb, ne_eqb}
use Rattle.word.specs.Sets.{choose}
use Rattle.word.proofs.Cases.{zero_one}
use Rattle.storage.specs.declared.Refusal.{Refusal}
use Rattle.storage.specs.declared.Refusal.TheVariants.{CutRecord, BytesRemain, BadPayload, NewerKind}
use Rattle.editions.specs.Frames.{Item, headed, end_at, item_at}
use Rattle.editions.specs.Reader.{Edition, refused, done, Turn, stop, next, ruled, asking_by, taken, act, then, records}
use Rattle.editions.specs.Meaning.{Header, onward, effect}

pub none_some : {X : Type 0} {x : X} → ◌≡◌ {A = Option X} none (some x) → ⊥
none_some e = zero_one cc

pub some_inj : {X : Type 0} {x y : X} → ◌≡◌ {A = Option X} (some x) (some y) → x ≡ y
some_inj e = cc

pub stop_next : {X : Type 0} {e : Refusal} {x : X} → stop e ≡ next x → ⊥
stop_next q = zero_one cc

pub stop_inj : {X : Type 0} {d e : Refusal} → ◌≡◌ {A = Turn X} (stop d) (stop e) → d ≡ e
stop_inj q = cc

pub next_inj : {X : Type 0} {x y : X} → ◌≡◌ {A = Turn X} (next x) (next y) → x ≡ y
next_inj e = cc

pub take-true : {X : Type 0} {t : Bool} (x y : X) → t ≡ true → choose t x y ≡ x
take-true x y e = ap (λ (t : Bool). choose t x y) e

pub take-false : {X : Type 0} {t : Bool} (x y : X) → t ≡ false → choose t x y ≡ y
take-false x y e = ap (λ (t : Bool). choose t x y) e

pub header? : (sheet : List ℕ) → Dec (Header sheet)
header? sheet = go (dec_le 4 (length sheet)) (ℕ_discrete (get_or sheet 0 0) 78) (ℕ_discrete (get_or sheet 1 0) 83)
  where
    go : Dec (4 ≤ length sheet) → Dec (get_or sheet 0 0 ≡ 78) → Dec (get_or sheet 1 0 ≡ 83) → Dec (Header sheet)
    go (yes a) (yes b) (yes c) = yes (a, b, c)
    go (yes a) (yes b) (no c) = no (λ h. c h.2)
    go (yes a) (no b) c = no (λ h. b h.1)
    go (no a) b c = no (λ h. a h.0)

pub headed_true : (sheet : List ℕ) → Header sheet → headed sheet ≡ true
headed_true sheet h = rw (le-leb 4 (length sheet) h.0, eq-eqb (get_or sheet 0 0) 78 h.1, eq-eqb (get_or sheet 1 0) 83 h.2) refl

pub headed_false : (sheet : List ℕ) → ¬ Header sheet → headed sheet ≡ false
headed_false sheet h = go (dec_le 4 (length sheet)) (ℕ_discrete (get_or sheet 0 0) 78) (ℕ_discrete (get_or sheet 1 0) 83)
  where
    none_of : (t : Bool) → (t && false) ≡ false
    none_of true = refl
    none_of false = refl

    go : Dec (4 ≤ length sheet) → Dec (get_or sheet 0 0 ≡ 78) → Dec (get_or sheet 1 0 ≡ 83) → headed sheet ≡ false
    go (yes a) (yes b) (yes c) = absurd (h (a, b, c))
    go (yes a) (yes b) (no c) = rw (ne_eqb (get_or sheet 1 0) 83 c, none_of (eqb (get_or sheet 0 0) 78)) (none_of (leb 4 (length sheet)))
    go (yes a) (no b) c = rw (ne_eqb (get_or sheet 0 0) 78 b) (none_of (leb 4 (length sheet)))
    go (no a) b c = rw (lt-leb 4 (length sheet) (omega arith)) refl

-- a record's edit, if it asks for one, with its number
abbrev pub listed : {A : Type 0} → ℕ → Option A → List (ℕ × A)
listed k none = []
listed k (some e) = (k, e) ∷ []

module _ {A S : Type 0} (E : Edition A S) where
  -- what a payload of n bytes asks for
  abbrev pub edit : Item → ℕ → Option A
  edit r n = choose (eqb (length r.payload) n) (E.rule r.kind r.payload) none

  -- what a duty record comes to, by its edit and by the bytes of its kind
  abbrev pub edited : ℕ → Option A → S → Turn S
  edited k o s = taken E k s (ruled o)

  abbrev pub taken_of : ℕ → Item → Option ℕ → S → Turn S
  taken_of k r o s = taken E k s (asking_by E.rule r.kind r.payload o)

  abbrev pub sized : Item → Option ℕ → Option A
  sized r none = none
  sized r (some n) = edit r n

  -- the edit that a duty record asks for: none for a remark, a kind outside the edition, a bad payload
  abbrev pub edit_of : Item → Option A
  edit_of r = choose r.duty (sized r (E.size r.kind)) none

module _ {A S : Type 0} (E : Edition A S) where
  -- what record k does, as its edit's step
  abbrev pub does : ℕ → Option A → S → Turn S
  does k none s = next s
  does k (some e) s = E.step k e s

  pub effect_append : (es : List (ℕ × A)) (k : ℕ) (o : Option A) (s : S) → effect E (es ++ listed k o) s ≡ onward (does k o) (effect E es s)
  unfolding effect
  effect_append [] k none s = refl
  effect_append [] k (some e) s = go (E.step k e s)
    where
      go : (o : Turn S) → onward (λ (s' : S). next s') o ≡ o
      go (stop x) = refl
      go (next x) = refl
  effect_append ((j, x) ∷ es) k o s = go (effect_append es k o) (E.step j x s)
    where
      go : ((s' : S) → effect E (es ++ listed k o) s' ≡ onward (does k o) (effect E es s')) → (q : Turn S) → onward (effect E (es ++ listed k o)) q ≡ onward (does k o) (onward (effect E es) q)
      go ih (stop x) = refl
      go ih (next s') = ih s'

  -- ---- one record

  -- what the turn of record k says of it
  pub data Did (k : ℕ) (s : S) (r : Item) (o : Turn S) : Type 0 where
    went : (t : S) → (r.duty ≡ true → (e : A) × (edit_of E r ≡ some e)) → does k (edit_of E r) s ≡ next t → o ≡ next t → Did k s r o
    lacked : r.duty ≡ true → E.size r.kind ≡ none → o ≡ stop NewerKind → Did k s r o
    spoilt : r.duty ≡ true → (n : ℕ) → E.size r.kind ≡ some n → edit E r n ≡ none → o ≡ stop BadPayload → Did k s r o
    failed : (e : A) → edit_of E r ≡ some e → (why : Refusal) → E.step k e s ≡ stop why → o ≡ stop why → Did k s r o

  pub edit_known : (r : Item) → r.duty ≡ true → (n : ℕ) → E.size r.kind ≡ some n → edit_of E r ≡ edit E r n
  edit_known r d n p = take-true _ _ d ∙ ap (sized E r) p

  module _ (k : ℕ) (r : Item) (s : S) where
    did_step : (e : A) → edit_of E r ≡ some e → (o : Turn S) → E.step k e s ≡ o → Did k s r o
    did_step e p (stop why) q = failed e p why q refl
    did_step e p (next t) q = went t (λ _. (e, p)) (ap (λ (o : Option A). does k o s) p ∙ q) refl

    did_edit : r.duty ≡ true → (n : ℕ) → E.size r.kind ≡ some n → (o : Option A) → edit E r n ≡ o → Did k s r (edited E k o s)
    did_edit d n p none q = spoilt d n p q refl
    did_edit d n p (some e) q = did_step e (edit_known r d n p ∙ q) (E.step k e s) refl

    did_known : r.duty ≡ true → (o : Option ℕ) → E.size r.kind ≡ o → Did k s r (taken_of E k r o s)
    did_known d none p = lacked d p refl
    did_known d (some n) p = did_edit d n p (edit E r n) refl

    did_duty : (d : Bool) → r.duty ≡ d → Did k s r (choose d (taken_of E k r (E.size r.kind) s) (next s))
    did_duty true d = did_known d (E.size r.kind) refl
    did_duty false d = went s (λ t. absurd (false≢true (sym d ∙ t))) (ap (λ (o : Option A). does k o s) (take-false _ _ d)) refl

    pub did : Did k s r (act E k r s)
    unfolding act
    did = did_duty r.duty refl

    pub on_duty : r.duty ≡ true → act E k r s ≡ taken_of E k r (E.size r.kind) s
    unfolding act
    on_duty d = take-true _ _ d

    pub act_edit : (e : A) → edit_of E r ≡ some e → act E k r s ≡ E.step k e s
    act_edit e p = go r.duty refl
      where
        by_size : (o : Option ℕ) → sized E r o ≡ some e → taken_of E k r o s ≡ E.step k e s
        by_size none q = absurd (none_some q)
        by_size (some n) q = ap (λ (o : Option A). edited E k o s) q

        go : (d : Bool) → r.duty ≡ d → act E k r s ≡ E.step k e s
        go true d = on_duty d ∙ by_size (E.size r.kind) (sym (take-true _ _ d) ∙ p)
        go false d = absurd (none_some (sym (take-false _ _ d) ∙ p))

    pub act_remark : r.duty ≡ false → act E k r s ≡ next s
    unfolding act
    act_remark d = take-false _ _ d

    pub act_did : (o : Turn S) → Did k s r o → act E k r s ≡ o
    act_did o (went t g h q) = go r.duty refl ∙ sym q
      where
        go : (d : Bool) → r.duty ≡ d → act E k r s ≡ next t
        go true d = let (e, p) = g d in act_edit e p ∙ sym (ap (λ (o : Option A). does k o s) p) ∙ h
        go false d = act_remark d ∙ sym (ap (λ (o : Option A). does k o s) (take-false _ _ d)) ∙ h
    act_did o (lacked d h q) = on_duty d ∙ ap (λ (o : Option ℕ). taken_of E k r o s) h ∙ sym q
    act_did o (spoilt d n h p q) = on_duty d ∙ ap (λ (o : Option ℕ). taken_of E k r o s) h ∙ ap (λ (o : Option A). edited E k o s) p ∙ sym q
    act_did o (failed e p why h q) = act_edit e p ∙ h ∙ sym q

  -- ---- the records in order

  module _ (sheet : List ℕ) where
    pub record-whole : (n i at : ℕ) (s : S) → end_at sheet at ≤ length sheet
        → records E sheet (suc n) i at s ≡ then E (records E sheet n (suc i) (end_at sheet at)) (suc i) (act E (suc i) (item_at sheet at) s)
    unfolding records
    record-whole n i at s w = take-true _ _ (le-leb (end_at sheet at) (length sheet) w)

    pub record-cut : (n i at : ℕ) (s : S) → ¬ (end_at sheet at ≤ length sheet) → records E sheet (suc n) i at s ≡ refused CutRecord (suc i)
    unfolding records
    record-cut n i at s w = take-false _ _ (lt-leb (end_at sheet at) (length sheet) (omega arith))

    pub all_read : (i at : ℕ) (s : S) → at ≡ length sheet → records E sheet 0 i at s ≡ done i s
    unfolding records
    all_read i at s e = take-false _ _ (le-ltb at (length sheet) (omega arith))

    pub bytes_left : (i at : ℕ) (s : S) → at < length sheet → records E sheet 0 i at s ≡ refused BytesRemain i
    unfolding records
    bytes_left i at s l = take-true _ _ (lt-ltb at (length sheet) l)
