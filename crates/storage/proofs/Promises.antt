-- The promises of specs/Promises.
use mathlib.Core.Path.{◌≡◌, refl, sym, ap, ap₂, ◌∙◌, subst}
use mathlib.Core.Bool.{Bool, true, false, ◌&&◌}
use mathlib.Core.List.{List, [], ◌∷◌}
use mathlib.Core.Logic.{◌⊎◌, inl, inr}
use Prim.Native.Nat.{ℕ, suc, ◌+◌, ◌-◌, ◌*◌, ◌/◌, ◌%◌, ◌^◌, ◌≤◌, ◌<◌, max}
use native.Mathlib.Omega.{arith}
use lib.ListN.{length, get_or}
use lib.Dec.{ltb, leb, eqb, eqb→eq}
use borrow.Author.Tests.{lt-ltb, le-ltb, ltb-true, le-leb, leb-true}
use Rattle.word.specs.Sets.{choose, least_from, Least}
use Rattle.word.specs.Places.{member}
use Rattle.word.proofs.Cases.{by_lt, every_at, and-true, zero_one}
use Rattle.word.proofs.Sets.{least, counted}
use Rattle.word.proofs.Lists.{determined, at_place, member-at}
use Rattle.pairs.specs.Pairs.{table_of}
use Rattle.pairs.specs.declared.SetOp.TheVariants.{Or}
use Rattle.pairs.proofs.Promises.{table_means}
use Rattle.storage.specs.Refusals.{last_number, number_of, Found, Amount, Truth, Change, Guard, passing, refusing, change_number, change_record, answer_number}
use Rattle.storage.specs.Refusals.{found_flag, found_value, amount_value, truth_value}
use Rattle.storage.specs.Stores.{Bits, Bounded, Outcome, refused, done, Space, Op, no_words, with_count, space_of, checked, view, held, beside}
use Rattle.storage.specs.Stores.{reading, reading_both, combined, written, answer, store, outcome, Leaves, found_below, next_from, size}
use Rattle.storage.specs.Stores.{words_for}
use Rattle.storage.specs.Guards.{Stopped, Passed}
use Rattle.storage.specs.Promises.{EachNumberOnce, Guarded, CheckMeans, Stops, GuardedBoth, CheckTwoMeans}
use Rattle.storage.specs.Promises.{CheckThreeMeans, RefusalKeeps, ZeroWordsMean, WordsAndSets, SpaceRules, WrittenMeans, SpaceExact}
use Rattle.storage.specs.Promises.{TrimmedCountMeans, CombinedMeans, UnitedMeans, SizeMeans, PlacesMean, HandsNone, FindsNone}
use Rattle.storage.specs.Promises.{AnswersTell, Tests, Finds, NextMember, NextFromMeans, ReadingsMean, RecordsMean, AmountCall, TruthCall, FoundCall, Meets}
use Rattle.storage.specs.Promises.{Kept, Made, Ends, EndsAs, ChangeMeans, MakeMeans, BesideMeans, OneEnd, Exactly, MeetsExactly, OnceExact}
use Rattle.storage.specs.Promises.{Determines, DeterminesBeside, Chains}
use Rattle.std.specs.Prelude.{Some, None, Ok, Err}
use Rattle.storage.specs.declared.Bitmap.{Bitmap}
use Rattle.storage.specs.declared.Refusal.{Refusal}
use Rattle.storage.specs.declared.Refusal.TheVariants.{StoreTooLong, CountOverStore, WidthOver, IndexOver, PastLength, NoSpace, NotList}
use Rattle.storage.specs.declared.Refusal.TheVariants.{NotAscii, NotSheet, CutRecord, BytesRemain, BadPayload, NewerKind, NoEdition, BadStyle, NumberOver}
use Rattle.storage.proofs.Checks.{checked_ok, which_way, refuses, passed_as, within_ok, within_no}
use Rattle.storage.proofs.Outcomes.{by_outcome, let_pass, same, never, which}
use Rattle.storage.proofs.Views.{view-count, view_in, bounded_view}
use Rattle.storage.proofs.Stores.{Stored, stored_written, written_stored, view-written, written-view, length-written, length-zeroed, zeroed_in, zeroed_out}
use Rattle.storage.proofs.Trims.{trimmed-le, trimmed_holds, trimmed_least}

-- ---- the numbers

range : (e : Refusal) → (1 ≤ number_of e) × (number_of e ≤ last_number)
range StoreTooLong = omega arith
range CountOverStore = omega arith
range WidthOver = omega arith
range IndexOver = omega arith
range PastLength = omega arith
range NoSpace = omega arith
range NotList = omega arith
range NotAscii = omega arith
range NotSheet = omega arith
range CutRecord = omega arith
range BytesRemain = omega arith
range BadPayload = omega arith
range NewerKind = omega arith
range NoEdition = omega arith
range BadStyle = omega arith
range NumberOver = omega arith

-- the refusals in the order of their numbers
abbrev ordered : List Refusal
ordered =
    StoreTooLong ∷ CountOverStore ∷ WidthOver ∷ IndexOver ∷ PastLength ∷ NoSpace ∷ NotList ∷ NotAscii ∷ NotSheet ∷ CutRecord
    ∷ BytesRemain ∷ BadPayload ∷ NewerKind ∷ NoEdition ∷ BadStyle ∷ NumberOver ∷ []

nth_refusal : (k : ℕ) → k < last_number → number_of (get_or ordered k NoEdition) ≡ suc k
nth_refusal k l =
    eqb→eq (number_of (get_or ordered k NoEdition)) (suc k) (every_at (λ k. eqb (number_of (get_or ordered k NoEdition)) (suc k)) last_number tt k l)

found : (e : Refusal) → get_or ordered (number_of e - 1) NoEdition ≡ e
found StoreTooLong = refl
found CountOverStore = refl
found WidthOver = refl
found IndexOver = refl
found PastLength = refl
found NoSpace = refl
found NotList = refl
found NotAscii = refl
found NotSheet = refl
found CutRecord = refl
found BytesRemain = refl
found BadPayload = refl
found NewerKind = refl
found NoEdition = refl
found BadStyle = refl
found NumberOver = refl

pub each_number_once : EachNumberOnce
each_number_once = record {
  range = range;
  once = λ d e p. sym (found d) ∙ ap (λ (n : ℕ). get_or ordered (n - 1) NoEdition) p ∙ found e;
  each = λ n a b. (get_or ordered (n - 1) NoEdition, nth_refusal (n - 1) (omega arith) ∙ omega arith);
}

-- ---- 1, then 2

-- what a guard lets pass, and what it says where it does not
pub guarded : {A : Type 0} (ws : List ℕ) (b : Bitmap) (refuse : Refusal → A) (a : A) (No : A → ℕ → Type 0) (Rest : A → Type 0)
    → ((e : Refusal) → No (refuse e) (number_of e)) → (Passed ws b → Rest a) → (r : A) → r ≡ checked ws b refuse a → Guarded ws b (No r) (Rest r)
guarded ws b refuse a No Rest stop rest r q = record {
  stop = λ k s.
      let t = refuses ws b k s in
      subst (No r) t.number (subst (λ x. No x (number_of t.why)) (sym (q ∙ t.is _ refuse a)) (stop t.why));
  rest = λ p. subst Rest (sym (q ∙ checked_ok ws b refuse a p)) (rest p);
}

-- of what holds where nothing is refused, something else follows
pub guarded_map : {ws : List ℕ} {b : Bitmap} {No : ℕ → Type 0} {P Q : Type 0} → (Passed ws b → P → Q) → Guarded ws b No P → Guarded ws b No Q
guarded_map f g = record { stop = g.stop; rest = λ p. f p (g.rest p) }

pub check_gives : (r : Bitmap) (ws : List ℕ) (b : Bitmap) (g : Guard) → g ≡ checked ws b (refusing r) passing → Guarded ws b (Stops g r) (change_number g ≡ 0)
check_gives r ws b = guarded ws b (refusing r) passing (λ g k. Stops g r k) (λ g. change_number g ≡ 0) (λ e. (refl, refl)) (λ p. refl)

pub check_means : CheckMeans
check_means ws b = check_gives b ws b _ refl

check_two_gives : (r : Bitmap) (ws : List ℕ) (b : Bitmap) (os : List ℕ) (o : Bitmap) (g : Guard)
    → g ≡ checked ws b (refusing r) (checked os o (refusing r) passing) → GuardedBoth ws b os o (Stops g r) (change_number g ≡ 0)
check_two_gives r ws b os o =
    guarded ws b (refusing r) (checked os o (refusing r) passing) (λ g k. Stops g r k) (λ g. Guarded os o (Stops g r) (change_number g ≡ 0)) (λ e. (refl, refl))
    (λ p. check_gives r os o _ refl)

pub check_two_means : CheckTwoMeans
check_two_means ws b os o = check_two_gives b ws b os o _ refl

pub check_three_means : CheckThreeMeans
check_three_means ws b ls l rs r =
    guarded ws b (refusing b) (checked ls l (refusing b) (checked rs r (refusing b) passing)) (λ g k. Stops g b k)
    (λ g. GuardedBoth ls l rs r (Stops g b) (change_number g ≡ 0)) (λ e. (refl, refl)) (λ p. check_two_gives b ls l rs r _ refl) _ refl

-- a call that only reads: what holds of its answer for every bitmap holds of it here
pub reading_means : {A : Type 0} (refuse : Refusal → A) (f : Bits → A) (No : A → ℕ → Type 0) (Rest : Bits → A → Type 0)
    → ((e : Refusal) → No (refuse e) (number_of e)) → ((b : Bits) → Bounded b → Rest b (f b)) → (ws : List ℕ) (b : Bitmap) (r : A) → r ≡ reading ws b refuse f
    → Guarded ws b (No r) (Rest (held ws b) r)
unfolding reading
reading_means refuse f No Rest stop rest ws b r q =
    guarded ws b refuse (f (held ws b)) No (Rest (held ws b)) stop (λ p. rest (held ws b) (bounded_view ws b.count)) r q

-- and of two bitmaps
pub both_means : {A : Type 0} (refuse : Refusal → A) (f : Bits → Bits → A) (No : A → ℕ → Type 0) (Rest : Bits → Bits → A → Type 0)
    → ((e : Refusal) → No (refuse e) (number_of e)) → ((b o : Bits) → Bounded b → Bounded o → Rest b o (f b o))
    → (ws : List ℕ) (b : Bitmap) (os : List ℕ) (o : Bitmap) (r : A) → r ≡ reading_both ws b os o refuse f
    → GuardedBoth ws b os o (No r) (Rest (held ws b) (held os o) r)
unfolding reading_both
both_means refuse f No Rest stop rest ws b os o =
    reading_means refuse (λ s. reading os o refuse (f s)) No (λ s a. Guarded os o (No a) (Rest s (held os o) a)) stop
    (λ s h. reading_means refuse (f s) No (Rest s) stop (λ t k. rest s t h k) os o (reading os o refuse (f s)) refl) ws b

pub readings_mean : ReadingsMean
readings_mean = record {
  one = λ A refuse f No Rest. reading_means refuse f No Rest;
  two = λ A refuse f No Rest. both_means refuse f No Rest;
}

pub records_mean : RecordsMean
records_mean = record { none = refl; made = λ b n. refl; kept = λ b. refl; alone = λ n. refl }

-- a test whose truth value is true exactly where P holds
pub tests : (P : Type 0) (t : Bool) → (t ≡ true → P) → (P → t ≡ true) → Tests P (answer_number (Ok t)) (truth_value (Ok t))
tests P true f g = (refl, inl (refl, f refl))
tests P false f g = (refl, inr (refl, λ p. let e : false ≡ true = g p in zero_one cc))

pub amount-call : (f : Bits → Amount) (Rest : Bits → ℕ → ℕ → Type 0) → ((b : Bits) → Bounded b → Rest b (answer_number (f b)) (amount_value (f b))) → AmountCall f Rest
amount-call f Rest =
    reading_means Err f (λ r. HandsNone (answer_number r) (amount_value r)) (λ b r. Rest b (answer_number r) (amount_value r)) (λ e. (refl, refl))

-- a field is a number as a count is
pub field-call : (f : Bits → Amount) (Rest : Bits → ℕ → ℕ → Type 0) → ((b : Bits) → Bounded b → Rest b (answer_number (f b)) (amount_value (f b))) → AmountCall f Rest
field-call = amount-call

pub truth-call : (f : Bits → Truth) (Rest : Bits → ℕ → ℕ → Type 0) → ((b : Bits) → Bounded b → Rest b (answer_number (f b)) (truth_value (f b))) → TruthCall f Rest
truth-call f Rest =
    reading_means Err f (λ r. HandsNone (answer_number r) (truth_value r)) (λ b r. Rest b (answer_number r) (truth_value r)) (λ e. (refl, refl))

pub found-call : (f : Bits → Found) (Rest : Bits → ℕ → ℕ → ℕ → Type 0)
    → ((b : Bits) → Bounded b → Rest b (answer_number (f b)) (found_flag (f b)) (found_value (f b))) → FoundCall f Rest
found-call f Rest =
    reading_means Err f (λ r. FindsNone (answer_number r) (found_flag r) (found_value r))
    (λ b r. Rest b (answer_number r) (found_flag r) (found_value r)) (λ e. (refl, refl, refl))

pub answers_tell : AnswersTell
answers_tell = record {
  place = λ p. (refl, refl, refl);
  no_place = (refl, refl, refl);
  number = λ n. (refl, refl);
  holds = (refl, refl);
  fails = (refl, refl);
  change = λ b. (refl, refl);
  pass = refl;
  stop = λ e b. (refl, refl);
  no_found = λ e. (refl, refl, refl);
  no_number = λ e. (refl, refl);
  no_truth = λ e. (refl, refl);
  no_change = λ e b. (refl, refl);
}

-- ---- words and regions

pub places_mean : PlacesMean
unfolding words_for
places_mean = record {
  up_to_lem = λ i n. ((λ h. omega arith), (λ h. omega arith));
  words_for = λ k n. ((λ h. omega arith), (λ h. omega arith));
  in_region = λ a k i. (
    (λ e. let (x, y) = and-true (leb a i) (ltb i (a + k)) e in (leb-true a i x, ltb-true i (a + k) y)),
    (λ h. ap₂ ◌&&◌ (le-leb a i h.0) (lt-ltb i (a + k) h.1)),
  );
  passing = λ i k last e. ((λ t. omega (arith, ltb-true (2 ^ 64) (i + k) t)), (λ h. lt-ltb (2 ^ 64) (i + k) (omega arith)));
}

pub size_means : SizeMeans
unfolding size
size_means b = counted b.members (64 * b.count) (size b) refl

-- ---- words and sets

pub words_and_sets : WordsAndSets
words_and_sets = record { words = determined; back = view-written; same = written-view }

pub space_rules : WrittenMeans
space_rules ws n b h hn =
    let s : Stored ws n b (written ws n b) = written_stored ws n b h hn in
    record {
      long = s.long;
      used = λ i l.
          ap (member (written ws n b)) (sym (at_place i)) ∙ member-at (written ws n b) (i / 64) (i % 64) (omega arith)
          ∙ s.used (i / 64) (i % 64) (omega arith) (omega arith) ∙ ap b.members (at_place i);
      dropped = s.dropped;
      kept = s.kept;
    }

pub space_exact : SpaceExact
space_exact = record { enough = within_ok; lacking = λ c b h. (NoSpace, within_no c b h, refl) }

pub least_count : TrimmedCountMeans
least_count s n = record { low = trimmed-le s n; holds = trimmed_holds s n; least = trimmed_least s n }

-- ---- what a changing call answers and leaves

leaves_kept : (o : Outcome) (ws ws' : List ℕ) (b : Bitmap) (r : Change) (e : Refusal) → Leaves o ws b r ws' → o ≡ refused e
    → Kept b.count ws (change_number r) (change_record r).count ws' (number_of e)
unfolding answer store
leaves_kept o ws ws' b r e l q = record {
  number = ap change_number a;
  count = ap (λ (x : Change). (change_record x).count) a;
  words = l.leaves ∙ ap (λ (x : Outcome). store x ws b.count) q;
}
  where
    a : r ≡ refusing b e
    a = l.answers ∙ ap (λ (x : Outcome). answer x b) q

keeps : (o : Outcome) (ws ws' : List ℕ) (b : Bitmap) (r : Change) → Leaves o ws b r ws' → 0 < change_number r → (change_record r ≡ b) × (ws' ≡ ws)
unfolding answer store
keeps (refused e) ws ws' b r l p = (ap change_record l.answers, l.leaves)
keeps (done s) ws ws' b r l p = absurd (omega (arith, ap change_number l.answers))

pub refusal_keeps : RefusalKeeps
refusal_keeps op ws ws' b r l p = keeps (outcome op ws b) ws ws' b r l p

-- a guard before an outcome
pub leaves_guarded : (os : List ℕ) (o : Bitmap) (x : Outcome) (ws ws' : List ℕ) (b : Bitmap) (r : Change) → Leaves (checked os o refused x) ws b r ws'
    → Guarded os o (Kept b.count ws (change_number r) (change_record r).count ws') (Leaves x ws b r ws')
leaves_guarded os o x ws ws' b r l = record {
  stop = λ k s.
      let t = refuses os o k s in
      subst (Kept b.count ws (change_number r) (change_record r).count ws') t.number (leaves_kept _ ws ws' b r t.why l (t.is _ refused x));
  rest = λ p. subst (λ (y : Outcome). Leaves y ws b r ws') (checked_ok os o refused x p) l;
}

-- a store that was written with s holds it
pub stored : (rule : Bits → Type 0) (n : ℕ) (ws ws' : List ℕ) (s : Bits) (x m : ℕ) → n ≤ length ws → s.count ≤ length ws → Bounded s → rule s
    → x ≡ 0 → m ≡ s.count → ws' ≡ written ws n s → Made rule n ws x m ws'
stored rule n ws ws' s x m h k bound holds number count words = record {
  number = number;
  made = subst rule (sym seen) holds;
  inside = omega arith;
  words = subst (λ (y : Bits). SpaceRules ws n y ws') (sym seen) (subst (SpaceRules ws n s) (sym words) (space_rules ws n s k h));
}
  where
    seen : view ws' m ≡ s
    seen = ap (view ws') count ∙ ap (λ (y : List ℕ). view y s.count) words ∙ view-written ws n s k h bound

leaves_made : (o : Outcome) (ws ws' : List ℕ) (b : Bitmap) (r : Change) (s : Bits) (rule : Bits → Type 0) → Leaves o ws b r ws' → o ≡ done s
    → b.count ≤ length ws → s.count ≤ length ws → Bounded s → rule s → Made rule b.count ws (change_number r) (change_record r).count ws'
unfolding answer store
leaves_made o ws ws' b r s rule l q h k bound holds =
    let a : r ≡ Ok (with_count b s.count) = l.answers ∙ ap (λ (x : Outcome). answer x b) q in
    stored rule b.count ws ws' s _ _ h k bound holds (ap change_number a) (ap (λ (x : Change). (change_record x).count) a)
    (l.leaves ∙ ap (λ (x : Outcome). store x ws b.count) q)

positive : (e : Refusal) → 0 < number_of e
positive e = omega (arith, (range e).0)

-- an operation by its promise, on a bitmap that 1 and 2 have let pass
pub leaves_ends : (op : Op) (rule : Space → Bits → Bits → Type 0) (why : Space → Bits → ℕ → Type 0) → Meets op rule why
    → (ws ws' : List ℕ) (b : Bitmap) (r : Change) → Passed ws b → Leaves (op (space_of ws) (held ws b)) ws b r ws'
    → EndsAs rule why (held ws b) ws (change_number r) (change_record r).count ws'
leaves_ends op rule why meets ws ws' b r p l =
    subst (λ (n : ℕ). Ends (rule (length ws) s) (why (length ws) s) n ws (change_number r) (change_record r).count ws') (sym (view-count ws b.count))
    (by_outcome (op (length ws) s)
    (λ t q. inl (leaves_made _ ws ws' b r t (rule (length ws) s) l q p.inside
    (meets.contained.space (length ws) s t bound in_view q)
    (meets.contained.bound (length ws) s t bound in_view q)
    (meets.made (length ws) s t q)))
    (λ e q.
    let k = leaves_kept _ ws ws' b r e l q in
    inr (
      subst (λ (x : ℕ). 0 < x) (sym k.number) (positive e),
      subst (why (length ws) s) (sym k.number) (meets.why (length ws) s e q),
      record { number = refl; count = k.count; words = k.words },
    )))
  where
    s : Bits
    s = held ws b

    bound : Bounded s
    bound = bounded_view ws b.count

    in_view : s.count ≤ length ws
    in_view = omega (arith, p.inside, view-count ws b.count)

pub change_means : ChangeMeans
unfolding outcome
change_means op rule why meets ws ws' b r l =
    guarded_map (leaves_ends op rule why meets ws ws' b r)
    (leaves_guarded ws b (op (space_of ws) (held ws b)) ws ws' b r l)

pub make_means : MakeMeans
make_means op rule why meets ws ws' r l = change_means op rule why meets ws ws' no_words r l

pub beside_means : BesideMeans
unfolding outcome beside
beside_means op rule why meets os ws ws' o b r l =
    guarded_map
    (λ p x.
    guarded_map (λ p'. leaves_ends (op s) (rule s) (why s) (meets s (bounded_view os o.count)) ws ws' b r p)
    (leaves_guarded os o (op s (space_of ws) (held ws b)) ws ws' b r x))
    (leaves_guarded ws b (beside os o op (space_of ws) (held ws b)) ws ws' b r l)
  where
    s : Bits
    s = held os o

-- ---- one answer

pub once_exact : OnceExact
once_exact op rule why meets once c b h l bound = record {
  done_is = λ s. (
    (λ q. (meets.made c b s q, meets.contained.space c b s bound l q)),
    (λ r. by_outcome (op c b)
        (λ t q. q ∙ ap done (one.result t s (meets.made c b t q) r.0))
        (λ e q. absurd (one.apart s (number_of e) r.0 r.1 (meets.why c b e q)))),
  );
  refused_is = λ k. (
    (λ r. subst (why c b) r.2 (meets.why c b r.0 r.1)),
    (λ w. by_outcome (op c b)
        (λ t q. absurd (one.apart t k (meets.made c b t q) (meets.contained.space c b t bound l q) w))
        (λ e q. (e, q, one.number (number_of e) k (meets.why c b e q) w))),
  );
}
  where
    one : OneEnd c (rule c b) (why c b)
    one = once c b h l bound

-- a store that holds what the rule says is the one written with it
made_written : (rule : Bits → Type 0) (n : ℕ) (ws ws' : List ℕ) (x m : ℕ) → ((i : ℕ) → get_or ws' i 0 < 2 ^ 64) → Made rule n ws x m ws'
    → ws' ≡ written ws n (view ws' m)
made_written rule n ws ws' x m f h =
    stored_written ws n (view ws' m) ws'
    (record {
      long = h.words.long;
      fits = λ k l. f k;
      used = λ k j l u. sym (view_in ws' m k j (omega (arith, l, view-count ws' m)) u);
      dropped = h.words.dropped;
      kept = h.words.kept;
    })

kept_once : (n : ℕ) (ws xs ys : List ℕ) (x y k m a : ℕ) → Kept n ws x k xs a → Kept n ws y m ys a → (x ≡ y) × (k ≡ m) × (xs ≡ ys)
kept_once n ws xs ys x y k m a p q = (p.number ∙ sym q.number, p.count ∙ sym q.count, p.words ∙ sym q.words)

module _ (op : Op) (rule : Space → Bits → Bits → Type 0) (why : Space → Bits → ℕ → Type 0) (exact : MeetsExactly op rule why) (ws xs ys : List ℕ) (o : Bitmap) (x y k m : ℕ)
    (f : (i : ℕ) → get_or xs i 0 < 2 ^ 64) (g : (i : ℕ) → get_or ys i 0 < 2 ^ 64) where
  pub ends_one : Passed ws o → EndsAs rule why (held ws o) ws x k xs → EndsAs rule why (held ws o) ws y m ys → (x ≡ y) × (k ≡ m) × (xs ≡ ys)
  ends_one p = go
    where
      b : Bits
      b = held ws o

      is : Exactly (length ws) (op (length ws) b) (rule (length ws) b) (why (length ws) b)
      is = exact (length ws) b p.short (omega (arith, p.inside, view-count ws o.count)) (bounded_view ws o.count)

      makes : {x k : ℕ} {xs : List ℕ} → Made (rule (length ws) b) b.count ws x k xs → op (length ws) b ≡ done (view xs k)
      makes {k = k} {xs = xs} u = (is.done_is (view xs k)).1 (u.made, omega (arith, u.inside, view-count xs k))

      apart : {x y k : ℕ} {xs : List ℕ} → Made (rule (length ws) b) b.count ws x k xs → why (length ws) b y → ⊥
      apart {y = y} u w = let (e, q, _) = (is.refused_is y).1 w in never (sym (makes u) ∙ q)

      go : EndsAs rule why b ws x k xs → EndsAs rule why b ws y m ys → (x ≡ y) × (k ≡ m) × (xs ≡ ys)
      go (inl u) (inl v) =
          let s : view xs k ≡ view ys m = same (sym (makes u) ∙ makes v) in (
            u.number ∙ sym v.number,
            sym (view-count xs k) ∙ ap (λ (t : Bits). t.count) s ∙ view-count ys m,
            made_written _ b.count ws xs x k f u ∙ ap (written ws b.count) s ∙ sym (made_written _ b.count ws ys y m g v),
          )
      go (inl u) (inr v) = absurd (apart u v.1)
      go (inr u) (inl v) = absurd (apart v u.1)
      go (inr u) (inr v) =
          let (d, p, a) = (is.refused_is x).1 u.1 in
          let (e, q, c) = (is.refused_is y).1 v.1 in
          let t : x ≡ y = sym a ∙ ap number_of (which (sym p ∙ q)) ∙ c in
          kept_once b.count ws xs ys x y k m x u.2 (subst (Kept b.count ws y m ys) (sym t) v.2)

-- 1 and 2 leave one answer, and else what is left to say decides
pub guarded_once : (os : List ℕ) (o : Bitmap) (n : ℕ) (ws xs ys : List ℕ) (x y k m : ℕ) {P Q : Type 0} → Guarded os o (Kept n ws x k xs) P
    → Guarded os o (Kept n ws y m ys) Q → (Passed os o → P → Q → (x ≡ y) × (k ≡ m) × (xs ≡ ys)) → (x ≡ y) × (k ≡ m) × (xs ≡ ys)
guarded_once os o n ws xs ys x y k m {P} {Q} p q f = go (which_way os o)
  where
    go : ((x : ℕ) × Stopped os o x) ⊎ Passed os o → (x ≡ y) × (k ≡ m) × (xs ≡ ys)
    go (inl (z, s)) = kept_once n ws xs ys x y k m z (p.stop z s) (q.stop z s)
    go (inr t) = f t (p.rest t) (q.rest t)

pub determines : Determines
determines op rule why exact ws xs ys b x y k m f g p q =
    guarded_once ws b b.count ws xs ys x y k m p q (ends_one op rule why exact ws xs ys b x y k m f g)

pub determines_beside : DeterminesBeside
determines_beside op rule why exact os ws xs ys o b x y k m f g p q =
    guarded_once ws b b.count ws xs ys x y k m p q
    (λ t p' q'. guarded_once os o b.count ws xs ys x y k m p' q'
    (λ t'. ends_one (op s) (rule s) (why s) (exact s (bounded_view os o.count)) ws xs ys b x y k m f g t))
  where
    s : Bits
    s = held os o

pub zero_words_mean : ZeroWordsMean
zero_words_mean old new ws = record {
  long = length-zeroed old new ws;
  zero = zeroed_in old new ws;
  below = λ k h. zeroed_out old new ws k (inl h);
  above = λ k h. zeroed_out old new ws k (inr h);
}

-- ---- set operations of two bitmaps

pub combined_fewest : CombinedMeans
unfolding combined
combined_fewest op b o = record {
  each = λ i. table_means op (b.members i) (o.members i);
  count = least_count (λ i. table_of op (b.members i) (o.members i)) (max b.count o.count);
}

pub combined_either : UnitedMeans
unfolding combined
combined_either b o = record { each = λ i. table_means Or (b.members i) (o.members i); count = refl }

-- ---- calls in a row

accepted : (o : Outcome) (ws ws' : List ℕ) (b : Bitmap) (r : Change) → Leaves o ws b r ws' → change_number r ≡ 0
    → (s : Bits) × (o ≡ done s) × (change_record r ≡ with_count b s.count) × (ws' ≡ written ws b.count s)
unfolding answer store
accepted (refused e) ws ws' b r l z = absurd (omega (arith, positive e, ap change_number l.answers))
accepted (done s) ws ws' b r l z = (s, refl, ap change_record l.answers, l.leaves)

pub chains : Chains
unfolding outcome
chains op ws ws' b r contained l z =
    let a = accepted (outcome op ws b) ws ws' b r l z in
    let s : Bits = a.0 in
    let p = let_pass ws b (op (space_of ws) (held ws b)) s a.1 in
    let in_view : (view ws b.count).count ≤ length ws = subst (λ (n : ℕ). n ≤ length ws) (sym (view-count ws b.count)) p.1.inside in
    let room : s.count ≤ length ws = contained.space (length ws) (view ws b.count) s (bounded_view ws b.count) in_view p.0 in
    let bound : Bounded s = contained.bound (length ws) (view ws b.count) s (bounded_view ws b.count) in_view p.0 in
    let long : length ws' ≡ length ws = ap length a.3 ∙ length-written ws b.count s in (
      s,
      record {
        made = p.0;
        long = long;
        seen = ap (held ws') a.2 ∙ ap (λ (y : List ℕ). view y s.count) a.3 ∙ view-written ws b.count s room p.1.inside bound;
        record_is = a.2;
        passes = subst (Passed ws') (sym a.2) (passed_as ws ws' b s.count long room p.1);
      },
    )

-- ---- the least member from a place on

pub next-member : NextFromMeans
unfolding next_from found_below
next-member b bounded i =
    by_lt p e
    (λ h. subst is (sym (ap (λ (t : Bool). choose t there none) (lt-ltb p e h))) (refl, inl (refl, (r.from, r.here (omega arith), r.under))))
    (λ h.
    subst is (sym (ap (λ (t : Bool). choose t there none) (le-ltb p e h)))
    (refl, inr (refl, refl, λ q l. by_lt q e (λ m. r.under q l (omega arith)) (λ m. bounded.past q m))))
  where
    e : ℕ
    e = 64 * b.count

    p : ℕ
    p = least_from b.members i (e - i)

    there : Found
    there = Ok (Some p)

    none : Found
    none = Ok None

    r : Least b.members i (i + (e - i)) p
    r = least b.members i (e - i)

    is : Found → Type 0
    is a = NextMember b.members i (answer_number a) (found_flag a) (found_value a)

-- what is found, and what is not
pub finds_at : (rule : ℕ → Type 0) (none : Type 0) (v : ℕ) → Finds rule none 0 1 v → rule v
finds_at rule none v (e, inl x) = x.1
finds_at rule none v (e, inr x) = absurd (omega (arith, x.0))

pub finds_nothing : (rule : ℕ → Type 0) (none : Type 0) → Finds rule none 0 0 0 → none
finds_nothing rule none (e, inl x) = absurd (omega (arith, x.0))
finds_nothing rule none (e, inr x) = x.2
