-- A sheet keeps its meaning across editions, for any two of which the later holds the earlier.
use Prim.Native.Nat.{ℕ, zero, suc, ◌+◌, ◌≤◌}
use mathlib.Core.Path.{◌≡◌, refl, sym, ap, ◌∙◌}
use mathlib.Core.Bool.{Bool, true, false}
use mathlib.Core.List.{List, []}
use mathlib.Core.Logic.{◌⊎◌, inl, inr}
use mathlib.Core.Option.{Option, none, some}
use native.Mathlib.Omega.{arith}
use native.Mathlib.Decide.{dec_le}
use native.Mathlib.Nat.{add-suc, suc-add, zero-add}
use lib.ListN.{length}
use lib.Dec.{eqb, eqb→eq}
use Rattle.word.specs.Sets.{choose}
use Rattle.word.proofs.Cases.{zero_one}
use Rattle.storage.specs.Refusals.{number_of}
use Rattle.storage.specs.declared.Refusal.{Refusal}
use Rattle.storage.specs.declared.Refusal.TheVariants.{NewerKind}
use Rattle.editions.specs.Frames.{Item, end_at}
use Rattle.editions.specs.Reader.{Edition, Answer, refused, done, Turn, stop, next, act, then, records, copied, read}
use Rattle.editions.specs.Meaning.{Header, total, start, Whole, effect, begin, AtRecord, Newer, newer, Holds}
use Rattle.editions.specs.Promises.{AnyTwo}
use Rattle.editions.proofs.Turns.{take-true, take-false, header?, headed_true, headed_false, record-whole, record-cut, edit, edited, taken_of}
use Rattle.editions.proofs.Stands.{stands, item}
use Rattle.editions.proofs.Exact.{Reaches, reaches_next, exact}

module _ {A S : Type 0} (E F : Edition A S) (h : Holds E F) where
  edited_kept : (k : ℕ) (r : Item) (n : ℕ) (s : S) → E.size r.kind ≡ some n → edited E k (edit E r n) s ≡ edited F k (edit F r n) s
  edited_kept k r n s p = go (eqb (length r.payload) n) refl
    where
      on : length r.payload ≡ n → (o : Option A) → E.rule r.kind r.payload ≡ o → edited E k o s ≡ edited F k o s
      on l none q = refl
      on l (some e) q = sym (h.step_kept r.kind n r.payload e p l q k s)

      go : (b : Bool) → eqb (length r.payload) n ≡ b → edited E k (choose b (E.rule r.kind r.payload) none) s ≡ edited F k (choose b (F.rule r.kind r.payload) none) s
      go true e =
          let l : length r.payload ≡ n = eqb→eq _ _ (rw e tt) in
          on l (E.rule r.kind r.payload) refl ∙ ap (λ (o : Option A). edited F k o s) (sym (h.rule_kept r.kind n r.payload p l))
      go false e = refl

  -- a record has the same turn in both, or is a duty record of a kind that the earlier lacks
  act_kept : (k : ℕ) (r : Item) (s : S) → (act E k r s ≡ act F k r s) ⊎ ((r.duty ≡ true) × (E.size r.kind ≡ none))
  unfolding act
  act_kept k r s = go r.duty refl (E.size r.kind) refl
    where
      go : (d : Bool) → r.duty ≡ d → (o : Option ℕ) → E.size r.kind ≡ o
          → (choose d (taken_of E k r o s) (next s) ≡ choose d (taken_of F k r (F.size r.kind) s) (next s)) ⊎ ((r.duty ≡ true) × (E.size r.kind ≡ none))
      go false d o p = inl refl
      go true d none p = inr (d, p)
      go true d (some n) p = inl (edited_kept k r n s p ∙ ap (λ (o : Option ℕ). taken_of F k r o s) (sym (h.size-kept r.kind n p)))

  module _ (sheet : List ℕ) (old : Turn S) where
    -- E's answer is F's, or some record is newer
    abbrev SameOr : Answer S → Answer S → Type 0
    SameOr a b = (a ≡ b) ⊎ ((k : ℕ) × AtRecord E sheet old k (Newer E sheet))

    module _ (good : Header sheet) (s₀ : S) (fits : old ≡ next s₀) where
      records_kept : (n i : ℕ) (s : S) → i + n ≡ total sheet → Reaches E sheet s₀ i s → SameOr (records E sheet n i (start sheet i) s) (records F sheet n i (start sheet i) s)
      unfolding records start
      records_kept zero i s c g = inl refl
      records_kept (suc n) i s c g =
          go (λ t. records_kept n (suc i) t (suc-add i n ∙ sym (add-suc i n) ∙ c)) (dec_le (end_at sheet at) (length sheet))
        where
          at : ℕ
          at = start sheet i

          r : Item
          r = item E sheet i

          rest_E : S → Answer S
          rest_E = records E sheet n (suc i) (end_at sheet at)

          rest_F : S → Answer S
          rest_F = records F sheet n (suc i) (end_at sheet at)

          Here : Type 0
          Here = SameOr (records E sheet (suc n) i at s) (records F sheet (suc n) i at s)

          Later : Type 0
          Later = (t : S) → Reaches E sheet s₀ (suc i) t → SameOr (rest_E t) (rest_F t)

          -- both make the turn o
          same_turn : Whole sheet i → (o : Turn S) → act E (suc i) r s ≡ o → act F (suc i) r s ≡ o → then E rest_E (suc i) o ≡ then F rest_F (suc i) o → Here
          same_turn w o p q e =
              inl (record-whole E sheet n i at s w ∙ ap (then E rest_E (suc i)) p ∙ e ∙ sym (record-whole F sheet n i at s w ∙ ap (then F rest_F (suc i)) q))

          on : Later → Whole sheet i → act E (suc i) r s ≡ act F (suc i) r s → (o : Turn S) → act E (suc i) r s ≡ o → Here
          on ih w e (stop x) q = same_turn w (stop x) q (sym e ∙ q) refl
          on ih w e (next t) q = further (ih t (reaches_next E sheet s₀ i s t g w q))
            where
              further : SameOr (rest_E t) (rest_F t) → Here
              further (inl p) = same_turn w (next t) q (sym e ∙ q) p
              further (inr k) = inr k

          turn : Later → Whole sheet i → (act E (suc i) r s ≡ act F (suc i) r s) ⊎ ((r.duty ≡ true) × (E.size r.kind ≡ none)) → Here
          turn ih w (inl e) = on ih w e (act E (suc i) r s) refl
          turn ih w (inr (d, p)) =
              inr (
                suc i,
                record {
                  index = i;
                  numbered = refl;
                  within = omega arith;
                  reached = record { headed = good; from = s₀; fits = fits; edits = g.0; sound = g.1; state = s; applied = g.2 };
                  here = (r, stands sheet at w, d, p);
                },
              )

          go : Later → Dec (end_at sheet at ≤ length sheet) → Here
          go ih (yes w) = turn ih w (act_kept (suc i) r s)
          go ih (no w) = inl (record-cut E sheet n i at s w ∙ sym (record-cut F sheet n i at s w))

    -- the earlier gives the later's whole answer, or some record is newer
    same-or_newer : SameOr (read E sheet old) (read F sheet old)
    unfolding read start effect
    same-or_newer = go (header? sheet) old refl
      where
        read_E : Header sheet → (o : Turn S) → old ≡ o → read E sheet old ≡ copied E sheet o
        read_E g o e = take-true _ _ (headed_true sheet g) ∙ ap (copied E sheet) e

        read_F : Header sheet → (o : Turn S) → old ≡ o → read F sheet old ≡ copied F sheet o
        read_F g o e = take-true _ _ (headed_true sheet g) ∙ ap (copied F sheet) e

        go : Dec (Header sheet) → (o : Turn S) → old ≡ o → SameOr (read E sheet old) (read F sheet old)
        go (no g) o e = inl (take-false _ _ (headed_false sheet g) ∙ sym (take-false _ _ (headed_false sheet g)))
        go (yes g) (stop x) e = inl (read_E g (stop x) e ∙ sym (read_F g (stop x) e))
        go (yes g) (next s) e = on (records_kept g s e (total sheet) 0 s (zero-add (total sheet)) ([], begin, refl))
          where
            on : SameOr (records E sheet (total sheet) 0 4 s) (records F sheet (total sheet) 0 4 s) → SameOr (read E sheet old) (read F sheet old)
            on (inl p) = inl (read_E g (next s) e ∙ p ∙ sym (read_F g (next s) e))
            on (inr k) = inr k

-- and it names the first duty record of a kind that it lacks
pub any_two : AnyTwo
any_two A S E F h sheet old = record { same = go (same-or_newer E F h sheet old); kept = λ k s e. stays k s e (same-or_newer E F h sheet old) }
  where
    named : (k : ℕ) → AtRecord E sheet old k (Newer E sheet) → read E sheet old ≡ refused NewerKind k
    named k a = (exact A S E sheet old (refused NewerKind k)).1 (newer a refl)

    go : SameOr E F h sheet old (read E sheet old) (read F sheet old)
        → (read E sheet old ≡ read F sheet old) ⊎ ((why : Refusal) × (k : ℕ) × (read E sheet old ≡ refused why k) × (number_of why ≡ 13) × AtRecord E sheet old k (Newer E sheet))
    go (inl e) = inl e
    go (inr (k, a)) = inr (NewerKind, k, named k a, refl, a)

    stays : (k : ℕ) (s : S) → read E sheet old ≡ done k s → SameOr E F h sheet old (read E sheet old) (read F sheet old) → read F sheet old ≡ done k s
    stays k s e (inl p) = sym p ∙ e
    stays k s e (inr (j, a)) = let p = named j a in zero_one cc
