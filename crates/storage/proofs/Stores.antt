-- What is written reads back, and what a call leaves.
use mathlib.Core.Path.{◌≡◌, refl, sym, ap, ◌∙◌, fun_ext, subst}
use mathlib.Core.Bool.{Bool, ◌&&◌}
use mathlib.Core.List.{List, ◌++◌}
use mathlib.Core.Logic.{◌⊎◌, inl, inr}
use Prim.Native.Nat.{ℕ, ◌+◌, ◌-◌, ◌*◌, ◌/◌, ◌%◌, ◌^◌, ◌≤◌, ◌<◌}
use native.Mathlib.Omega.{arith}
use lib.ListN.{length, get_or, set, take, drop, length-set, length-append, length-drop, get_or-append}
use lib.Seq.{get_or-append-add, get_or-drop, get_or-set_other, length-take-le}
use lib.Dec.{ltb}
use borrow.Author.Tests.{lt-ltb, le-ltb}
use Rattle.word.specs.Sets.{choose}
use Rattle.word.specs.Places.{bit, word_of, member, words_of}
use Rattle.word.proofs.Cases.{by_lt, by_eq}
use Rattle.word.proofs.Places.{bit-zero, bit-pack, pack_is, pack-lt}
use Rattle.word.proofs.Lists.{Fit, at_place, past, length_tab, tab_at, tab_is, length_words, word_at_lem, words_fit}
use Rattle.word.proofs.Sweep.{get_d_set}
use Rattle.arch.specs.Scans.{filled_words}
use Rattle.arch.proofs.Regions.{length-filled_words, filled_in, filled_below, filled_above}
use Rattle.storage.specs.Stores.{Bits, Bounded, Outcome, refused, done, Op, with_count, space_of, checked, view, held, beside, word_at, written, zeroed, answer, store, Leaves, outcome, Changes}
use Rattle.storage.specs.Guards.{Passed}
use Rattle.storage.specs.declared.Bitmap.{Bitmap}
use Rattle.storage.specs.declared.Refusal.{Refusal}
use Rattle.std.specs.Prelude.{Ok, Err, IsErr, IsErrAnd}
use Rattle.storage.specs.declared.Refused.{Refused}
use Rattle.storage.specs.Refusals.{Change, passing, refusing}
use Rattle.storage.proofs.Checks.{checked_ok, stopped, stopped_two, gave_back, gave_back_two, raised}
use Rattle.storage.proofs.Views.{view-count, view_in, view_out}

-- ---- the store afterwards, by its words and their bits

pub record Stored (ws : List ℕ) (n : ℕ) (b : Bits) (ws' : List ℕ) : Type 0 where
  pub long : length ws' ≡ length ws
  pub fits : (k : ℕ) → k < b.count → get_or ws' k 0 < 2 ^ 64
  pub used : (k j : ℕ) → k < b.count → j < 64 → bit (get_or ws' k 0) j ≡ b.members (64 * k + j)
  pub dropped : (k : ℕ) → b.count ≤ k → k < n → get_or ws' k 0 ≡ 0
  pub kept : (k : ℕ) → b.count ≤ k → n ≤ k → get_or ws' k 0 ≡ get_or ws k 0

module _ (ws : List ℕ) (n : ℕ) (b : Bits) where
  word_used : (k : ℕ) → k < b.count → word_at ws n b k ≡ word_of b.members k
  unfolding word_at
  word_used k h = ap (λ (t : Bool). choose t (word_of b.members k) (choose (ltb k n) 0 (get_or ws k 0))) (lt-ltb k b.count h)

  word_dropped : (k : ℕ) → b.count ≤ k → k < n → word_at ws n b k ≡ 0
  unfolding word_at
  word_dropped k h l =
      ap (λ (t : Bool). choose t (word_of b.members k) (choose (ltb k n) 0 (get_or ws k 0))) (le-ltb k b.count h)
      ∙ ap (λ (t : Bool). choose t 0 (get_or ws k 0)) (lt-ltb k n l)

  word_kept : (k : ℕ) → b.count ≤ k → n ≤ k → word_at ws n b k ≡ get_or ws k 0
  unfolding word_at
  word_kept k h l =
      ap (λ (t : Bool). choose t (word_of b.members k) (choose (ltb k n) 0 (get_or ws k 0))) (le-ltb k b.count h)
      ∙ ap (λ (t : Bool). choose t 0 (get_or ws k 0)) (le-ltb k n l)

  pub stored_written : (ws' : List ℕ) → Stored ws n b ws' → ws' ≡ written ws n b
  unfolding written word_of
  stored_written ws' s = tab_is (length ws) (word_at ws n b) ws' s.long at
    where
      at : (k : ℕ) → k < length ws → get_or ws' k 0 ≡ word_at ws n b k
      at k h =
          by_lt k b.count
          (λ p. pack_is 64 (get_or ws' k 0) (λ j. b.members (64 * k + j)) (s.fits k p) (λ j l. s.used k j p l) ∙ sym (word_used k p))
          (λ p. by_lt k n
          (λ q. s.dropped k p q ∙ sym (word_dropped k p q))
          (λ q. s.kept k p q ∙ sym (word_kept k p q)))

  pub length-written : length (written ws n b) ≡ length ws
  unfolding written
  length-written = length_tab 0 (length ws) (word_at ws n b)

  written_at : (k : ℕ) → k < length ws → get_or (written ws n b) k 0 ≡ word_at ws n b k
  unfolding written
  written_at k h = tab_at (length ws) (word_at ws n b) k h

  -- and back: what is written has the right words and bits
  pub written_stored : b.count ≤ length ws → n ≤ length ws → Stored ws n b (written ws n b)
  unfolding word_of
  written_stored h hn = record {
    long = length-written;
    fits = λ k p. subst (λ (x : ℕ). x < 2 ^ 64) (sym (used k p)) (pack-lt 64 (λ j. b.members (64 * k + j)));
    used = λ k j p l. ap (λ (x : ℕ). bit x j) (used k p) ∙ bit-pack 64 (λ j. b.members (64 * k + j)) j l;
    dropped = λ k p q. written_at k (omega arith) ∙ word_dropped k p q;
    kept = λ k p q.
        by_lt k (length ws)
        (λ l. written_at k l ∙ word_kept k p q)
        (λ l. past (written ws n b) k (omega (arith, length-written)) ∙ sym (past ws k l));
  }
    where
      used : (k : ℕ) → k < b.count → get_or (written ws n b) k 0 ≡ word_of b.members k
      used k p = written_at k (omega arith) ∙ word_used k p

  -- what is read back is what was written
  pub view-written : b.count ≤ length ws → n ≤ length ws → Bounded b → view (written ws n b) b.count ≡ b
  unfolding view member
  view-written h hn bb = ap (λ (m : ℕ → Bool). record { members = m; count = b.count }) (fun_ext (λ i. at i))
    where
      at : (i : ℕ) → ltb (i / 64) b.count && bit (get_or (written ws n b) (i / 64) 0) (i % 64) ≡ b.members i
      at i =
          by_lt (i / 64) b.count
          (λ l.
          ap (λ (t : Bool). t && bit (get_or (written ws n b) (i / 64) 0) (i % 64)) (lt-ltb (i / 64) b.count l)
          ∙ (written_stored h hn).used (i / 64) (i % 64) l (omega arith) ∙ ap b.members (at_place i))
          (λ l.
          ap (λ (t : Bool). t && bit (get_or (written ws n b) (i / 64) 0) (i % 64)) (le-ltb (i / 64) b.count l)
          ∙ sym (bb.past i (omega arith)))

-- to write what was read changes nothing
pub written-view : (ws : List ℕ) (n : ℕ) → Fit ws → ws ≡ written ws n (view ws n)
unfolding view
written-view ws n f =
    stored_written ws n (view ws n) ws
    (record {
      long = refl;
      fits = λ k p. f k;
      used = λ k j p l. sym (view_in ws n k j p l);
      dropped = λ k p q. absurd (omega arith);
      kept = λ k p q. refl;
    })

-- ---- growth

pub length-zeroed : (a e : ℕ) (ws : List ℕ) → length (zeroed a e ws) ≡ length ws
unfolding zeroed
length-zeroed a e ws = length-filled_words a e 0 ws

pub zeroed_in : (a e : ℕ) (ws : List ℕ) (k : ℕ) → a ≤ k → k < e → get_or (zeroed a e ws) k 0 ≡ 0
unfolding zeroed
zeroed_in a e ws k p q =
    by_lt k (length ws) (λ h. filled_in a e 0 ws k h p q) (λ h. past (filled_words a e 0 ws) k (omega (arith, length-filled_words a e 0 ws)))

pub zeroed_out : (a e : ℕ) (ws : List ℕ) (k : ℕ) → (k < a) ⊎ (e ≤ k) → get_or (zeroed a e ws) k 0 ≡ get_or ws k 0
unfolding zeroed
zeroed_out a e ws k (inl p) = filled_below a e 0 ws k p
zeroed_out a e ws k (inr p) = filled_above a e 0 ws k p

pub zeroed_fit : (a e : ℕ) (ws : List ℕ) → Fit ws → Fit (zeroed a e ws)
zeroed_fit a e ws f k =
    by_lt k a
    (λ p. subst (λ (x : ℕ). x < 2 ^ 64) (sym (zeroed_out a e ws k (inl p))) (f k))
    (λ p. by_lt k e
    (λ q. subst (λ (x : ℕ). x < 2 ^ 64) (sym (zeroed_in a e ws k p q)) (omega arith))
    (λ q. subst (λ (x : ℕ). x < 2 ^ 64) (sym (zeroed_out a e ws k (inr q))) (f k)))

-- a bit of the grown bitmap is the old one's
pub grown-bit : (ws : List ℕ) (n e k j : ℕ) → (k < n) ⊎ (k < e) → j < 64 → bit (get_or (zeroed n e ws) k 0) j ≡ (view ws n).members (64 * k + j)
grown-bit ws n e k j h l =
    by_lt k n
    (λ p. ap (λ (x : ℕ). bit x j) (zeroed_out n e ws k (inl p)) ∙ sym (view_in ws n k j p l))
    (λ p.
    ap (λ (x : ℕ). bit x j) (zeroed_in n e ws k p (up p h)) ∙ bit-zero j
    ∙ sym (view_out ws n (64 * k + j) (omega arith)))
  where
    up : n ≤ k → (k < n) ⊎ (k < e) → k < e
    up p (inl q) = absurd (omega arith)
    up p (inr q) = q

-- ---- a call that is refused, and one that is done

pub leaves_refused : {o : Outcome} {ws : List ℕ} {b : Bitmap} {e : Refusal} → o ≡ refused e → Leaves o ws b (refusing b e) ws
unfolding answer store
leaves_refused {o} {ws} {b} {e} q =
    record { answers = ap (λ (x : Outcome). answer x b) (sym q); leaves = ap (λ (x : Outcome). store x ws b.count) (sym q) }

abbrev changed_to : Bitmap → ℕ → Change
changed_to b n = Ok (with_count b n)

pub leaves_done : {o : Outcome} {ws ws' : List ℕ} {b : Bitmap} {s : Bits} {m : ℕ} → o ≡ done s → Stored ws b.count s ws' → m ≡ s.count
    → Leaves o ws b (Ok (with_count b m)) ws'
unfolding answer store
leaves_done {o} {ws} {ws'} {b} {s} {m} q t e = record {
  answers = ap (λ (k : ℕ). changed_to b k) e ∙ ap (λ (x : Outcome). answer x b) (sym q);
  leaves = stored_written ws b.count s ws' t ∙ ap (λ (x : Outcome). store x ws b.count) (sym q);
}

module _ (op : Op) (ws : List ℕ) (b : Bitmap) where
  pub outcome_ok : Passed ws b → outcome op ws b ≡ op (space_of ws) (held ws b)
  unfolding outcome
  outcome_ok p = checked_ok ws b refused (op (space_of ws) (held ws b)) p

  -- refused by 1 or 2
  pub changes_stopped : (e : Refused) → Err e ≡ checked ws b (refusing b) passing → Changes op ws b (Err e) ws
  unfolding outcome
  changes_stopped e p =
      let q : e ≡ (e.0, b) = ap (λ (r : Bitmap). (e.0, r)) (gave_back ws b b e p) in
      subst (λ x. Leaves (checked ws b refused (op (space_of ws) (held ws b))) ws b (Err x) ws) (sym q)
      (leaves_refused (stopped ws b e refused (op (space_of ws) (held ws b)) p))

  pub changes_raised : {r : Change} {e : Refused} → IsErr r × IsErrAnd r (λ x. x ≡ e) → Err e ≡ checked ws b (refusing b) passing → Changes op ws b r ws
  changes_raised {r} {e} q p = subst (λ (x : Change). Changes op ws b x ws) (sym (raised q)) (changes_stopped e p)

  -- refused by the operation
  pub changes-refused : (e : Refusal) → Passed ws b → op (space_of ws) (held ws b) ≡ refused e → Changes op ws b (refusing b e) ws
  changes-refused e p q = leaves_refused (outcome_ok p ∙ q)

  pub changes_done : (ws' : List ℕ) (s : Bits) (m : ℕ) → Passed ws b → op (space_of ws) (held ws b) ≡ done s
      → Stored ws b.count s ws' → m ≡ s.count → Changes op ws b (Ok (with_count b m)) ws'
  changes_done ws' s m p q t e = leaves_done (outcome_ok p ∙ q) t e

-- two operations that come to the same on a store
pub changes-same : (op other : Op) (ws ws' : List ℕ) (b : Bitmap) (r : Change) → op (space_of ws) (held ws b) ≡ other (space_of ws) (held ws b)
    → Changes other ws b r ws' → Changes op ws b r ws'
unfolding outcome
changes-same op other ws ws' b r e h = subst (λ (o : Outcome). Leaves (checked ws b refused o) ws b r ws') (sym e) h

-- a call that changes nothing
pub keeps_changes : (op : Op) (ws : List ℕ) (b : Bitmap) → Fit ws → Passed ws b → op (space_of ws) (held ws b) ≡ done (view ws b.count)
    → Changes op ws b (Ok b) ws
keeps_changes op ws b f p q =
    changes_done op ws b ws (view ws b.count) b.count p q
    (record {
      long = refl;
      fits = λ k l. f k;
      used = λ k j l m. sym (view_in ws b.count k j (omega (arith, view-count ws b.count)) m);
      dropped = λ k l m. absurd (omega (arith, view-count ws b.count));
      kept = λ k l m. refl;
    })
    (sym (view-count ws b.count))

-- ---- a kernel on the words in use, which the rest of the store follows

pub part_stored : (ws ws' : List ℕ) (n : ℕ) (f : ℕ → Bool) (s : Bits) → n ≤ length ws → ws' ≡ words_of f n ++ drop n ws → s.count ≡ n
    → ((i : ℕ) → i < 64 * n → f i ≡ s.members i) → Stored ws n s ws'
unfolding word_of
part_stored ws ws' n f s h e q g = record {
  long = ap length e ∙ length-append (words_of f n) (drop n ws) ∙ omega (arith, length_words f n, length-drop n ws);
  fits = λ k p. subst (λ (x : ℕ). x < 2 ^ 64) (sym (front k (omega arith))) (words_fit f n k);
  used = λ k j p l.
      ap (λ (x : ℕ). bit x j) (front k (omega arith) ∙ word_at_lem f n k (omega arith))
      ∙ bit-pack 64 (λ j. f (64 * k + j)) j l ∙ g (64 * k + j) (omega arith);
  dropped = λ k p r. absurd (omega arith);
  kept = λ k p r.
      ap (λ (y : List ℕ). get_or y k 0) e ∙ ap (λ (m : ℕ). get_or (words_of f n ++ drop n ws) m 0) (omega (arith, length_words f n))
      ∙ get_or-append-add (words_of f n) (drop n ws) (k - n) 0 ∙ get_or-drop n ws (k - n) 0 ∙ ap (λ (m : ℕ). get_or ws m 0) (omega arith);
}
  where
    front : (k : ℕ) → k < n → get_or ws' k 0 ≡ get_or (words_of f n) k 0
    front k l = ap (λ (y : List ℕ). get_or y k 0) e ∙ get_or-append (words_of f n) (drop n ws) 0 k (omega (arith, length_words f n))

-- a call that keeps the count, by a kernel that leaves the words of g
pub part-changes : (op : Op) (ws part : List ℕ) (b : Bitmap) (g : ℕ → Bool) (s : Bits) → Passed ws b
    → op (space_of ws) (held ws b) ≡ done s → s.count ≡ b.count → part ≡ words_of g (length (take b.count ws))
    → ((i : ℕ) → i < 64 * b.count → g i ≡ s.members i) → Changes op ws b (Ok b) (part ++ drop b.count ws)
part-changes op ws part b g s p q e w h =
    changes_done op ws b (part ++ drop n ws) s n p q
    (part_stored ws (part ++ drop n ws) n g s p.inside
    (ap (λ (y : List ℕ). y ++ drop n ws) (w ∙ ap (words_of g) (length-take-le n ws p.inside))) e h)
    (sym e)
  where
    n : ℕ
    n = b.count

-- ---- one word changed

pub word_stored : (ws : List ℕ) (n k v : ℕ) (s : Bits) → Fit ws → n ≤ length ws → k < n → s.count ≡ n → v < 2 ^ 64
    → ((j : ℕ) → j < 64 → bit v j ≡ s.members (64 * k + j)) → ((m j : ℕ) → (m ≡ k → ⊥) → j < 64 → (view ws n).members (64 * m + j) ≡ s.members (64 * m + j))
    → Stored ws n s (set ws k v)
word_stored ws n k v s f h l e hv here there = record {
  long = length-set ws k v;
  fits = λ m p.
      by_eq m k
      (λ q. subst (λ (x : ℕ). x < 2 ^ 64) (sym (get_d_set ws k m v (omega arith) q)) hv)
      (λ q. subst (λ (x : ℕ). x < 2 ^ 64) (sym (get_or-set_other ws k m v 0 q)) (f m));
  used = λ m j p r.
      by_eq m k
      (λ q. ap (λ (x : ℕ). bit x j) (get_d_set ws k m v (omega arith) q) ∙ here j r ∙ ap (λ (x : ℕ). s.members (64 * x + j)) (sym q))
      (λ q. ap (λ (x : ℕ). bit x j) (get_or-set_other ws k m v 0 q) ∙ sym (view_in ws n m j (omega arith) r) ∙ there m j q r);
  dropped = λ m p q. absurd (omega arith);
  kept = λ m p q. get_or-set_other ws k m v 0 (omega arith);
}

-- refused by the 1 or 2 of either store
pub two_stopped : (op : Bits → Op) (ws os : List ℕ) (b o : Bitmap) (e : Refused) → Err e ≡ checked ws b (refusing b) (checked os o (refusing b) passing)
    → Changes (beside os o op) ws b (Err e) ws
unfolding outcome beside
two_stopped op ws os b o e p =
    let q : e ≡ (e.0, b) = ap (λ (r : Bitmap). (e.0, r)) (gave_back_two ws b os o e p) in
    subst (λ x. Leaves (checked ws b refused (beside os o op (space_of ws) (held ws b))) ws b (Err x) ws) (sym q)
    (leaves_refused (stopped_two ws b os o e refused (op (held os o) (space_of ws) (held ws b)) p))

pub two_raised : (op : Bits → Op) (ws os : List ℕ) (b o : Bitmap) {r : Change} {e : Refused} → IsErr r × IsErrAnd r (λ x. x ≡ e)
    → Err e ≡ checked ws b (refusing b) (checked os o (refusing b) passing) → Changes (beside os o op) ws b r ws
two_raised op ws os b o {r} {e} q p = subst (λ (x : Change). Changes (beside os o op) ws b x ws) (sym (raised q)) (two_stopped op ws os b o e p)
