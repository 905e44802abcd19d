-- The refusals 1 and 2, of one store and of several, and 6.
use mathlib.Core.Path.{◌≡◌, refl, sym, ap, ◌∙◌}
use mathlib.Core.List.{List}
use mathlib.Core.Logic.{◌⊎◌, inl, inr}
use Prim.Native.Nat.{ℕ, ◌≤◌, ◌<◌}
use native.Mathlib.Omega.{arith}
use lib.ListN.{length}
use borrow.Author.Tests.{lt-ltb, le-ltb}
use Rattle.word.proofs.Cases.{by_lt, zero_one}
use Rattle.std.specs.Prelude.{Result, Ok, Err, ⊤, IsErr, IsErrAnd, MatchResult}
use Rattle.storage.specs.Refusals.{number_of, Guard, passing, refusing}
use Rattle.storage.specs.Stores.{Bits, refused, done, Space, Op, with_count, store_limit, checked, held, reading, reading_both, beside, within}
use Rattle.storage.specs.Guards.{most_words, Stopped, long, over, Passed, PassedTwo, PassedThree}
use Rattle.storage.specs.declared.Bitmap.{Bitmap}
use Rattle.storage.specs.declared.Refusal.{Refusal}
use Rattle.storage.specs.declared.Refusal.TheVariants.{StoreTooLong, CountOverStore, NoSpace}
use Rattle.storage.specs.declared.Refused.{Refused}

module _ {A : Type 0} (ws : List ℕ) (b : Bitmap) (refuse : Refusal → A) (a : A) where
  pub checked_ok : Passed ws b → checked ws b refuse a ≡ a
  unfolding checked
  checked_ok p = rw (le-ltb store_limit (length ws) p.short, le-ltb (length ws) b.count p.inside)

  pub checked_long : store_limit < length ws → checked ws b refuse a ≡ refuse StoreTooLong
  unfolding checked
  checked_long h = rw (lt-ltb store_limit (length ws) h)

  pub checked-over : length ws ≤ store_limit → length ws < b.count → checked ws b refuse a ≡ refuse CountOverStore
  unfolding checked
  checked-over h l = rw (le-ltb store_limit (length ws) h, lt-ltb (length ws) b.count l)

-- 1 or 2 applies, or neither
pub which_way : (ws : List ℕ) (b : Bitmap) → ((x : ℕ) × Stopped ws b x) ⊎ Passed ws b
which_way ws b =
    by_lt most_words (length ws)
    (λ h. inl (1, long h refl))
    (λ h. by_lt (length ws) b.count (λ l. inl (2, over h l refl)) (λ l. inr (record { short = h; inside = l })))

-- the refusal of a number that applies, whatever comes after
pub record Refuses (ws : List ℕ) (b : Bitmap) (x : ℕ) : Type 1 where
  pub why : Refusal
  pub number : number_of why ≡ x
  pub is : (A : Type 0) (refuse : Refusal → A) (a : A) → checked ws b refuse a ≡ refuse why

pub refuses : (ws : List ℕ) (b : Bitmap) (x : ℕ) → Stopped ws b x → Refuses ws b x
refuses ws b x (long h e) = record { why = StoreTooLong; number = sym e; is = λ A refuse a. checked_long ws b refuse a h }
refuses ws b x (over h l e) = record { why = CountOverStore; number = sym e; is = λ A refuse a. checked-over ws b refuse a h l }

-- such a number is neither done nor the one of a newer kind
pub stop_number : (ws : List ℕ) (b : Bitmap) (x : ℕ) → Stopped ws b x → (0 < x) × (x ≡ 13 → ⊥)
stop_number ws b x (long h e) = (omega arith, λ z. omega arith)
stop_number ws b x (over h l e) = (omega arith, λ z. omega arith)

-- a store of the same length passes with any count that it has words for
pub passed_as : (ws ws' : List ℕ) (b : Bitmap) (n : ℕ) → length ws' ≡ length ws → n ≤ length ws → Passed ws b → Passed ws' (with_count b n)
passed_as ws ws' b n e h p = record { short = omega (arith, p.short); inside = omega arith }

-- a store is refused, by one refusal whatever comes after, or it passes: what the guard looks at, no proof below this one knows
pub by_guard : {P : Type 0} (ws : List ℕ) (b : Bitmap)
    → ((e : Refusal) → ((A : Type 0) (refuse : Refusal → A) (a : A) → checked ws b refuse a ≡ refuse e) → P) → (Passed ws b → P) → P
by_guard {P} ws b stop pass = go (which_way ws b)
  where
    go : ((x : ℕ) × Stopped ws b x) ⊎ Passed ws b → P
    go (inl (x, s)) = let r = refuses ws b x s in stop r.why r.is
    go (inr p) = pass p

-- ---- what the guards tell

-- a guard that has looked at one store, and gives back the record r where it stops
module _ (ws : List ℕ) (b r : Bitmap) (next : Guard) where
  pub passed_then : (u : ⊤) → Ok u ≡ checked ws b (refusing r) next → Passed ws b × (Ok u ≡ next)
  passed_then u p =
      by_guard ws b
      (λ e s. let q : Ok u ≡ refusing r e = p ∙ s Guard (refusing r) next in zero_one cc)
      (λ q. (q, p ∙ checked_ok ws b (refusing r) next q))

  pub stopped_then : {A : Type 0} (e : Refused) (refuse : Refusal → A) (a : A) → Err e ≡ checked ws b (refusing r) next
      → (Err e ≡ next → a ≡ refuse e.0) → checked ws b refuse a ≡ refuse e.0
  stopped_then {A} e refuse a p rest =
      by_guard ws b
      (λ d s. let q : Err e ≡ refusing r d = p ∙ s Guard (refusing r) next in s A refuse a ∙ ap refuse (cc))
      (λ q. checked_ok ws b refuse a q ∙ rest (p ∙ checked_ok ws b (refusing r) next q))

  -- it stops, or its answer is that of the others
  pub guard_stops : (e : Refused) → Err e ≡ checked ws b (refusing r) passing → Err e ≡ checked ws b (refusing r) next
  guard_stops e p =
      by_guard ws b
      (λ d s. p ∙ s Guard (refusing r) passing ∙ sym (s Guard (refusing r) next))
      (λ q. let t : Err e ≡ passing = p ∙ checked_ok ws b (refusing r) passing q in zero_one cc)

  pub guard_goes_on : (u : ⊤) (g : Guard) → Ok u ≡ checked ws b (refusing r) passing → g ≡ next → g ≡ checked ws b (refusing r) next
  guard_goes_on u g p q =
      by_guard ws b
      (λ e s. let t : Ok u ≡ refusing r e = p ∙ s Guard (refusing r) passing in zero_one cc)
      (λ t. q ∙ sym (checked_ok ws b (refusing r) next t))

module _ (ws : List ℕ) (b : Bitmap) where
  pub passed : {u : ⊤} → Ok u ≡ checked ws b (refusing b) passing → Passed ws b
  passed {u} p = (passed_then ws b b passing u p).0

  pub stopped : {A : Type 0} (e : Refused) (refuse : Refusal → A) (a : A) → Err e ≡ checked ws b (refusing b) passing → checked ws b refuse a ≡ refuse e.0
  stopped e refuse a p = stopped_then ws b b passing e refuse a p (λ q. zero_one cc)

  -- what a stopped guard gives back
  pub gave_back : (r : Bitmap) (e : Refused) → Err e ≡ checked ws b (refusing r) passing → e.1 ≡ r
  gave_back r e p =
      by_guard ws b
      (λ d s. let q : Err e ≡ refusing r d = p ∙ s Guard (refusing r) passing in cc)
      (λ q. let t : Err e ≡ passing = p ∙ checked_ok ws b (refusing r) passing q in zero_one cc)

  -- another record given back
  pub stops_giving : (r : Bitmap) (e : Refused) → Err e ≡ checked ws b (refusing b) passing → refusing r e.0 ≡ checked ws b (refusing r) passing
  stops_giving r e p = sym (stopped e (refusing r) passing p)

  pub passes_giving : (r : Bitmap) (u : ⊤) → Ok u ≡ checked ws b (refusing b) passing → passing ≡ checked ws b (refusing r) passing
  passes_giving r u p = sym (checked_ok ws b (refusing r) passing (passed p))

-- ---- of two stores, and of three

module _ (ws : List ℕ) (b : Bitmap) (os : List ℕ) (o r : Bitmap) where
  passed_after : (u : ⊤) → Ok u ≡ checked ws b (refusing r) (checked os o (refusing r) passing) → PassedTwo ws b os o
  passed_after u p =
      let q = passed_then ws b r (checked os o (refusing r) passing) u p in
      record { own = q.0; other = (passed_then os o r passing u q.1).0 }

  stopped_after : {A : Type 0} (e : Refused) (refuse : Refusal → A) (a : A) → Err e ≡ checked ws b (refusing r) (checked os o (refusing r) passing)
      → checked ws b refuse (checked os o refuse a) ≡ refuse e.0
  stopped_after e refuse a p =
      stopped_then ws b r (checked os o (refusing r) passing) e refuse (checked os o refuse a) p
      (λ q. stopped_then os o r passing e refuse a q (λ t. zero_one cc))

module _ (ws : List ℕ) (b : Bitmap) (os : List ℕ) (o : Bitmap) where
  pub passed_two : {u : ⊤} → Ok u ≡ checked ws b (refusing b) (checked os o (refusing b) passing) → PassedTwo ws b os o
  passed_two {u} p = passed_after ws b os o b u p

  pub stopped_two : {A : Type 0} (e : Refused) (refuse : Refusal → A) (a : A) → Err e ≡ checked ws b (refusing b) (checked os o (refusing b) passing)
      → checked ws b refuse (checked os o refuse a) ≡ refuse e.0
  stopped_two e refuse a p = stopped_after ws b os o b e refuse a p

  pub stops_giving_two : (r : Bitmap) (e : Refused) → Err e ≡ checked ws b (refusing b) (checked os o (refusing b) passing)
      → refusing r e.0 ≡ checked ws b (refusing r) (checked os o (refusing r) passing)
  stops_giving_two r e p = sym (stopped_two e (refusing r) passing p)

  pub passes_giving_two : (r : Bitmap) (u : ⊤) → Ok u ≡ checked ws b (refusing b) (checked os o (refusing b) passing)
      → passing ≡ checked ws b (refusing r) (checked os o (refusing r) passing)
  passes_giving_two r u p =
      let q = passed_after ws b os o b u p in
      sym (checked_ok ws b (refusing r) (checked os o (refusing r) passing) q.own ∙ checked_ok os o (refusing r) passing q.other)

  pub gave_back_two : (e : Refused) → Err e ≡ checked ws b (refusing b) (checked os o (refusing b) passing) → e.1 ≡ b
  gave_back_two e p =
      let q : Err e ≡ refusing b e.0 = p ∙ stopped_two e (refusing b) passing p in
      cc

module _ (ws : List ℕ) (b : Bitmap) (ls : List ℕ) (l : Bitmap) (rs : List ℕ) (r : Bitmap) where
  pub passed_three : {u : ⊤} → Ok u ≡ checked ws b (refusing b) (checked ls l (refusing b) (checked rs r (refusing b) passing)) → PassedThree ws b ls l rs r
  passed_three {u} p =
      let q = passed_then ws b b (checked ls l (refusing b) (checked rs r (refusing b) passing)) u p in
      let t = passed_after ls l rs r b u q.1 in
      record { own = q.0; left = t.own; right = t.other }

  pub stopped_three : {A : Type 0} (e : Refused) (refuse : Refusal → A) (a : A)
      → Err e ≡ checked ws b (refusing b) (checked ls l (refusing b) (checked rs r (refusing b) passing))
      → checked ws b refuse (checked ls l refuse (checked rs r refuse a)) ≡ refuse e.0
  stopped_three e refuse a p =
      stopped_then ws b b (checked ls l (refusing b) (checked rs r (refusing b) passing)) e refuse (checked ls l refuse (checked rs r refuse a)) p
      (λ q. stopped_after ls l rs r b e refuse a q)

-- what `?` hands on of an error
pub raised : {A E : Type 0} {r : Result A E} {e : E} → IsErr r × IsErrAnd r (λ x. x ≡ e) → r ≡ Err e
raised {r = Ok a} (p, q) = absurd q
raised {r = Err d} (p, q) = ap Err q

-- a guard's answer by way of `map_err`, which gives back the record r
pub handed_on : (r : Bitmap) {a m : Guard} (g : Guard) {P : Refused → Refused → Type 0} → MatchResult a (λ u. m ≡ Ok u) (λ e. IsErrAnd m (P e))
    → ((e d : Refused) → P e d → d ≡ (e.0, r)) → ((u : ⊤) → Ok u ≡ a → passing ≡ g) → ((e : Refused) → Err e ≡ a → refusing r e.0 ≡ g) → m ≡ g
handed_on r {a = Ok u} g p f pass stop = p ∙ pass u refl
handed_on r {a = Err e} {m = Err d} g p f pass stop = ap Err (f e d p) ∙ stop e refl
handed_on r {a = Err e} {m = Ok u} g p f pass stop = absurd p

-- what an answer by way of `map_err` tells of the one before it
pub mapped_ok : {A E D : Type 0} {a : Result A E} {m : Result A D} (P : E → D → Type 0) {x : A} → MatchResult a (λ y. m ≡ Ok y) (λ e. IsErrAnd m (P e))
    → m ≡ Ok x → Ok x ≡ a
mapped_ok {D = D} {a = Ok y} P {x} p q = let t : ◌≡◌ {A = Result _ D} (Ok x) (Ok y) = sym q ∙ p in let u : x ≡ y = cc in ap Ok u
mapped_ok {a = Err e} {m = Ok y} P p q = absurd p
mapped_ok {a = Err e} {m = Err d} P p q = zero_one cc

pub mapped_err : {A E D : Type 0} {a : Result A E} {m : Result A D} {P : E → D → Type 0} {d : D} (of : E → D)
    → m ≡ Err d → MatchResult a (λ y. m ≡ Ok y) (λ e. IsErrAnd m (P e)) → ((e : E) (d : D) → P e d → d ≡ of e) → (e : E) × (Err e ≡ a) × (d ≡ of e)
mapped_err {a = Ok y} {m} {d = d} of q p f = let t : Ok y ≡ Err d = sym p ∙ q in zero_one cc
mapped_err {a = Err e} {m = Ok y} of q p f = absurd p
mapped_err {a = Err e} {m = Err d} of q p f = (e, refl, (let t : d ≡ of e = f e d p in cc))

-- ---- calls that only read

pub reading_ok : {A : Type 0} (ws : List ℕ) (b : Bitmap) (refuse : Refusal → A) (f : Bits → A) → Passed ws b → reading ws b refuse f ≡ f (held ws b)
unfolding reading
reading_ok ws b refuse f p = checked_ok ws b refuse (f (held ws b)) p

-- and what is told of it
pub reading_is : {A : Type 0} (ws : List ℕ) (b : Bitmap) (refuse : Refusal → A) (f : Bits → A) (a : A) → Passed ws b → a ≡ f (held ws b) → a ≡ reading ws b refuse f
reading_is ws b refuse f a p q = q ∙ sym (reading_ok ws b refuse f p)

pub reading_stopped : {A : Type 0} (ws : List ℕ) (b : Bitmap) (e : Refused) (refuse : Refusal → A) (f : Bits → A)
    → Err e ≡ checked ws b (refusing b) passing → reading ws b refuse f ≡ refuse e.0
unfolding reading
reading_stopped ws b e refuse f p = stopped ws b e refuse (f (held ws b)) p

pub reading_raised : {A : Type 0} (ws : List ℕ) (b : Bitmap) (f : Bits → Result A Refusal) {r : Result A Refusal} {e : Refused}
    → IsErr r × IsErrAnd r (λ x. x ≡ e.0) → Err e ≡ checked ws b (refusing b) passing → r ≡ reading ws b Err f
reading_raised ws b f {r} {e} q p = raised q ∙ sym (reading_stopped ws b e Err f p)

-- and what an answer tells its caller: a refusal is the store's, and any other answer is of a store that passed
module _ {A : Type 0} (ws : List ℕ) (b : Bitmap) (refuse : Refusal → A) (f : Bits → A) where
  pub told-refused : (e : Refusal) → ((d : Refusal) → refuse e ≡ refuse d → e ≡ d) → ((b : Bits) → refuse e ≡ f b → ⊥) → refuse e ≡ reading ws b refuse f
      → refusing b e ≡ checked ws b (refusing b) passing
  unfolding reading
  told-refused e one none q =
      by_guard ws b
      (λ d s. ap (refusing b) (one d (q ∙ s _ refuse (f (held ws b)))) ∙ sym (s _ (refusing b) passing))
      (λ p. absurd (none (held ws b) (q ∙ checked_ok ws b refuse (f (held ws b)) p)))

  pub told : (a : A) → ((e : Refusal) → a ≡ refuse e → ⊥) → a ≡ reading ws b refuse f → Passed ws b × (a ≡ f (held ws b))
  unfolding reading
  told a kept q =
      by_guard ws b
      (λ e s. absurd (kept e (q ∙ s _ refuse (f (held ws b)))))
      (λ p. (p, q ∙ checked_ok ws b refuse (f (held ws b)) p))

-- a second bitmap, looked at after the first
module _ {A : Type 0} (ws : List ℕ) (b : Bitmap) (os : List ℕ) (o : Bitmap) (refuse : Refusal → A) (f : Bits → Bits → A) where
  pub both_ok : PassedTwo ws b os o → reading_both ws b os o refuse f ≡ f (held ws b) (held os o)
  unfolding reading_both
  both_ok p = reading_ok ws b refuse (λ s. reading os o refuse (f s)) p.own ∙ reading_ok os o refuse (f (held ws b)) p.other

  pub both_stopped : (e : Refused) → Err e ≡ checked ws b (refusing b) (checked os o (refusing b) passing) → reading_both ws b os o refuse f ≡ refuse e.0
  unfolding reading_both reading
  both_stopped e p = stopped_two ws b os o e refuse (f (held ws b) (held os o)) p

pub both_raised : {A : Type 0} (ws : List ℕ) (b : Bitmap) (os : List ℕ) (o : Bitmap) (f : Bits → Bits → Result A Refusal) {r : Result A Refusal} {e : Refused}
    → IsErr r × IsErrAnd r (λ x. x ≡ e.0) → Err e ≡ checked ws b (refusing b) (checked os o (refusing b) passing) → r ≡ reading_both ws b os o Err f
both_raised ws b os o f {r} {e} q p = raised q ∙ sym (both_stopped ws b os o Err f e p)

-- ---- a second store

pub beside_ok : (os : List ℕ) (o : Bitmap) (op : Bits → Op) (c : Space) (b : Bits) → Passed os o → beside os o op c b ≡ op (held os o) c b
unfolding beside
beside_ok os o op c b p = checked_ok os o refused (op (held os o) c b) p

-- ---- space

pub within_ok : (c : Space) (b : Bits) → b.count ≤ c → within c b ≡ done b
unfolding within
within_ok c b h = rw (le-ltb c b.count h)

pub within_no : (c : Space) (b : Bits) → c < b.count → within c b ≡ refused NoSpace
unfolding within
within_no c b h = rw (lt-ltb c b.count h)

-- a result that was accepted is the one asked for, and has space
pub within_done : (c : Space) (b s : Bits) → within c b ≡ done s → (b ≡ s) × (b.count ≤ c)
within_done c b s p =
    by_lt c b.count
    (λ h. let q : refused NoSpace ≡ done s = sym (within_no c b h) ∙ p in zero_one cc)
    (λ h. let q : done b ≡ done s = sym (within_ok c b h) ∙ p in ((cc), h))
