-- What is asked of the writer: its checks are the plain sheet's tests, these are 01's conditions, and what they let pass fits its frame.
use Prim.Native.Nat.{ℕ, zero, suc, ◌+◌, ◌^◌, ◌≤◌, ◌<◌}
use mathlib.Core.Path.{◌≡◌, refl, sym, ap, ap₂, ◌∙◌, subst}
use mathlib.Core.Bool.{Bool, true, false, ◌&&◌, ◌||◌}
use mathlib.Core.List.{List, [], ◌∷◌}
use mathlib.Core.Logic.{◌⊎◌, inl, inr}
use mathlib.Core.Option.{Option, none, some}
use native.Mathlib.Omega.{arith}
use native.Mathlib.Nat.{add-zero, add-suc, suc-add}
use lib.ListN.{length, get_elem?}
use lib.Dec.{ltb, eqb}
use borrow.Author.Tests.{ltb-true, ltb-false, eqb-true, eqb-false, lt-ltb, le-ltb, eq-eqb, ne_eqb}
use Rattle.word.specs.Sets.{choose, val}
use Rattle.word.proofs.Cases.{by_lt, by_eq, or-true, and-true, and-false, zero_one}
use Rattle.storage.specs.Refusals.{number_of}
use Rattle.storage.proofs.Promises.{each_number_once}
use Rattle.storage.specs.declared.Refusal.{Refusal}
use Rattle.storage.specs.declared.Refusal.TheVariants.{WidthOver, IndexOver, BadPayload, NewerKind}
use Rattle.sheet.specs.Paper.{paper_line, values, given}
use Rattle.sheet.specs.Layout.{InRange}
use Rattle.sheet.specs.Kinds.{place, kind_of, Ranged}
use Rattle.plain.specs.Writer.{most, Request, duty, remark, note, Checked, bad, good, makers, maker_of, made_by, checked_of}
use Rattle.plain.specs.Plain.{wrong_kind, wrong_width, wrong_size, wrong_payload, refusal_of, edit_for, entry_of, Typed}
use Rattle.plain.specs.Promises.{FieldsAgree, DutyGets, no_kind, wide, large, good_duty, RemarkGets, high, over_long, good_remark, RequestGets}
use Rattle.sheet.specs.declared.Fields.{Fields}
use Rattle.sheet.proofs.Tables.{past_end}
use Rattle.editions.proofs.Turns.{take-true, take-false}
use Rattle.sheet.proofs.Papers.{each_line}
use Rattle.plain.proofs.Laid.{Proper}

-- ---- the writer's checks

-- what they come to is what the plain sheet says: its number, or its record
abbrev pub Says : Request → Checked → Type 0
Says q (bad e) = refusal_of q ≡ number_of e
Says q (good e) = (refusal_of q ≡ 0) × (entry_of q ≡ e)

-- a record that they let pass fits its frame
abbrev pub PassesCheck : Checked → Type 0
PassesCheck (bad e) = Unit {0}
PassesCheck (good e) = Proper e

-- a maker of kind k, beside the plain sheet's edit of that kind
record GoodMaker (k : ℕ) (m : Fields → Checked) : Type 0 where
  says : (f : Fields) → Says (duty k f) (m f)
  passing : (f : Fields) → Typed f → PassesCheck (m f)
  line : (f : Fields) → ((paper_line (edit_for k f)).kind ≡ k) × (values (paper_line (edit_for k f)).fields ≡ given k f)

-- one that refuses by a test, and one that refuses nothing
tested : (k : ℕ) (t : Fields → Bool) (e : Refusal) → ((f : Fields) → refusal_of (duty k f) ≡ choose (t f) (number_of e) 0)
    → ((f : Fields) → t f ≡ false → Typed f → Proper (entry_of (duty k f)))
    → ((f : Fields) → ((paper_line (edit_for k f)).kind ≡ k) × (values (paper_line (edit_for k f)).fields ≡ given k f))
    → GoodMaker k (λ f. choose (t f) (bad e) (good (entry_of (duty k f))))
tested k t e r p c = record { says = λ f. says f (t f) (r f); passing = λ f y. passing f y (t f) refl; line = c }
  where
    says : (f : Fields) (s : Bool) → refusal_of (duty k f) ≡ choose s (number_of e) 0 → Says (duty k f) (choose s (bad e) (good (entry_of (duty k f))))
    says f true a = a
    says f false a = (a, refl)

    passing : (f : Fields) → Typed f → (s : Bool) → t f ≡ s → PassesCheck (choose s (bad e) (good (entry_of (duty k f))))
    passing f y true a = tt
    passing f y false a = p f a y

free : (k : ℕ) → ((f : Fields) → refusal_of (duty k f) ≡ 0) → ((f : Fields) → Typed f → Proper (entry_of (duty k f)))
    → ((f : Fields) → ((paper_line (edit_for k f)).kind ≡ k) × (values (paper_line (edit_for k f)).fields ≡ given k f))
    → GoodMaker k (λ f. good (entry_of (duty k f)))
free k r p c = tested k (λ f. false) NewerKind r (λ f a y. p f y) c

infixr 20 ◌▸◌
-- makers of kinds from k on
data GoodMakers : ℕ → List (Fields → Checked) → Type 0 where
  none_left : {k : ℕ} → GoodMakers k []
  ◌▸◌ : {k : ℕ} {m : Fields → Checked} {ms : List (Fields → Checked)} → GoodMaker k m → GoodMakers (suc k) ms → GoodMakers k (m ∷ ms)

-- values in the ranges of the table
one : (p : ℕ) → p < 2 ^ 32 → InRange (place ∷ []) (p ∷ [])
one p h = (omega arith, omega arith, tt)

two : (p k : ℕ) → p < 2 ^ 32 → k < 2 ^ 32 → InRange (place ∷ place ∷ []) (p ∷ k ∷ [])
two p k a b = (omega arith, omega arith, one k b)

bit : (d : Bool) → val d ≤ 1
bit true = omega arith
bit false = omega arith

good_makers : GoodMakers 1 makers
unfolding refusal_of entry_of kind_of Ranged paper_line given
good_makers =
    free 1 (λ f. refl) (λ f t. one f.p t.0) (λ f. (refl, refl))
    ▸ free 2 (λ f. refl) (λ f t. one f.p t.0) (λ f. (refl, refl))
    ▸ free 3 (λ f. refl) (λ f t. (omega arith, bit f.flag, two f.p f.k t.0 t.1)) (λ f. (refl, refl))
    ▸ tested 4 (λ f. ltb 64 f.width) WidthOver (λ f. refl)
    (λ f q t. (omega arith, omega arith, (omega arith, ltb-false 64 f.width q, (omega arith, omega arith, tt)))) (λ f. (refl, refl))
    ▸ free 5 (λ f. refl) (λ f t. (omega arith, bit f.flag, one f.k t.1)) (λ f. (refl, refl))
    ▸ free 6 (λ f. refl) (λ f t. (omega arith, bit f.flag, one f.k t.1)) (λ f. (refl, refl))
    ▸ tested 7 (λ f. ltb 4_294_967_296 f.size) IndexOver (λ f. refl) (λ f q t. (omega arith, ltb-false 4_294_967_296 f.size q, tt)) (λ f. (refl, refl))
    ▸ free 8 (λ f. refl) (λ f t. tt) (λ f. (refl, refl))
    ▸ free 9 (λ f. refl) (λ f t. two f.p f.k t.0 t.1) (λ f. (refl, refl))
    ▸ free 10 (λ f. refl) (λ f t. two f.p f.k t.0 t.1) (λ f. (refl, refl))
    ▸ free 11 (λ f. refl) (λ f t. two f.p f.k t.0 t.1) (λ f. (refl, refl))
    ▸ none_left

-- the maker of a kind
record MakerFor (k : ℕ) : Type 0 where
  maker : Fields → Checked
  at : maker_of k ≡ some maker
  is_good : GoodMaker k maker

good_at : (ms : List (Fields → Checked)) (i k : ℕ) → GoodMakers i ms → k < length ms → (m : Fields → Checked) × (get_elem? ms k ≡ some m) × GoodMaker (i + k) m
good_at [] i k g l = absurd (omega arith)
good_at (m ∷ ms) i zero (g ▸ gs) l = (m, refl, subst (λ (n : ℕ). GoodMaker n m) (sym (add-zero i)) g)
good_at (m ∷ ms) i (suc k) (g ▸ gs) l =
    let (n, e, h) = good_at ms (suc i) k gs (omega arith) in
    (n, e, subst (λ (j : ℕ). GoodMaker j n) (suc-add i k ∙ sym (add-suc i k)) h)

maker_for : (k : ℕ) → 1 ≤ k → k ≤ length makers → MakerFor k
maker_for zero a b = absurd (omega arith)
maker_for (suc k) a b =
    let (m, e, h) = good_at makers 1 k good_makers (omega arith) in
    let n : 1 + k ≡ suc k = omega arith in
    record { maker = m; at = e; is_good = subst (λ (j : ℕ). GoodMaker j m) n h }

-- other kinds have none
no_maker : (k : ℕ) → (k < 1) ⊎ (length makers < k) → maker_of k ≡ none
no_maker zero h = refl
no_maker (suc k) (inl l) = absurd (omega arith)
no_maker (suc k) (inr l) = past_end makers k (omega arith)

wrong_kind_lem : (k : ℕ) (f : Fields) → (k < 1) ⊎ (length makers < k) → refusal_of (duty k f) ≡ 13
unfolding refusal_of
wrong_kind_lem k f (inl l) = take-true _ _ (ap (λ (t : Bool). t || ltb (length makers) k) (eq-eqb k 0 (omega arith)))
wrong_kind_lem k f (inr l) = take-true _ _ (ap (λ (t : Bool). eqb k 0 || t) (lt-ltb (length makers) k l) ∙ or-true (eqb k 0))

by_kind : {A : Type 0} (k : ℕ) → ((k < 1) ⊎ (length makers < k) → A) → (1 ≤ k → k ≤ length makers → A) → A
by_kind k f g = by_lt k 1 (λ l. f (inl l)) (λ l. by_lt (length makers) k (λ m. f (inr m)) (λ m. g l m))

pub checks_say : (q : Request) → Says q (checked_of q)
unfolding checked_of refusal_of entry_of
checks_say (duty k f) =
    by_kind k
    (λ h. subst (λ (o : Option (Fields → Checked)). Says (duty k f) (made_by o f)) (sym (no_maker k h)) (wrong_kind_lem k f h))
    (λ a b.
    let m = maker_for k a b in
    subst (λ (o : Option (Fields → Checked)). Says (duty k f) (made_by o f)) (sym m.at) (m.is_good.says f))
checks_say (remark k p) = go (wrong_kind (remark k p)) refl (wrong_payload (remark k p)) refl
  where
    go : (x : Bool) → wrong_kind (remark k p) ≡ x → (y : Bool) → wrong_payload (remark k p) ≡ y
        → Says (remark k p) (choose x (bad NewerKind) (choose y (bad BadPayload) (good (note k p))))
    go true a y b = take-true _ _ a
    go false a true b = take-false _ _ a ∙ take-true _ _ b
    go false a false b = (take-false _ _ a ∙ take-false _ _ b, refl)

abbrev pub TypedQ : Request → Type 0
TypedQ (duty k f) = Typed f
TypedQ (remark k p) = Unit {0}

pub checks_pass : (q : Request) → TypedQ q → PassesCheck (checked_of q)
unfolding checked_of
checks_pass (duty k f) t =
    by_kind k
    (λ h. subst (λ (o : Option (Fields → Checked)). PassesCheck (made_by o f)) (sym (no_maker k h)) tt)
    (λ a b.
    let m = maker_for k a b in
    subst (λ (o : Option (Fields → Checked)). PassesCheck (made_by o f)) (sym m.at) (m.is_good.passing f t))
checks_pass (remark k p) t = go (ltb 127 k) refl (ltb most (length p)) refl
  where
    go : (x : Bool) → ltb 127 k ≡ x → (y : Bool) → ltb most (length p) ≡ y → PassesCheck (choose x (bad NewerKind) (choose y (bad BadPayload) (good (note k p))))
    go true a y b = tt
    go false a true b = tt
    go false a false b = (ltb-false 127 k a, ltb-false most (length p) b)

-- ---- the plain sheet's tests

pub neither : (a b : Bool) → (a || b) ≡ false → (a ≡ false) × (b ≡ false)
neither false b q = (refl, q)
neither true b q = zero_one cc

either : (a b : Bool) → (a || b) ≡ true → (a ≡ true) ⊎ (b ≡ true)
either true b q = inl refl
either false b q = inr q

-- each number where 01 says
pub request_gets : (q : Request) → RequestGets q (refusal_of q)
unfolding refusal_of
request_gets (duty k f) = go (wrong_kind (duty k f)) refl (wrong_width (duty k f)) refl (wrong_size (duty k f)) refl
  where
    kinds : (eqb k 0 ≡ true) ⊎ (ltb (length makers) k ≡ true) → (k < 1) ⊎ (length makers < k)
    kinds (inl e) = inl (omega (arith, eqb-true k 0 e))
    kinds (inr e) = inr (ltb-true (length makers) k e)

    go : (a : Bool) → wrong_kind (duty k f) ≡ a → (b : Bool) → wrong_width (duty k f) ≡ b → (c : Bool) → wrong_size (duty k f) ≡ c
        → DutyGets k f (choose a 13 (choose b 3 (choose c 4 0)))
    go true p b q c r = no_kind (kinds (either (eqb k 0) _ p)) refl
    go false p true q c r = let (x, y) = and-true (eqb k 4) _ q in wide (eqb-true k 4 x) (ltb-true 64 f.width y) refl
    go false p false q true r = let (x, y) = and-true (eqb k 7) _ r in large (eqb-true k 7 x) (ltb-true 4_294_967_296 f.size y) refl
    go false p false q false r =
        let (x, y) = neither (eqb k 0) _ p in
        let n = eqb-false k 0 x in
        good_duty (omega arith) (ltb-false (length makers) k y)
        (λ e. ltb-false 64 f.width (sym (ap (λ (t : Bool). t && ltb 64 f.width) (eq-eqb k 4 e)) ∙ q))
        (λ e. ltb-false 4_294_967_296 f.size (sym (ap (λ (t : Bool). t && ltb 4_294_967_296 f.size) (eq-eqb k 7 e)) ∙ r)) refl
request_gets (remark k p) = go (wrong_kind (remark k p)) refl (wrong_payload (remark k p)) refl
  where
    go : (a : Bool) → wrong_kind (remark k p) ≡ a → (b : Bool) → wrong_payload (remark k p) ≡ b → RemarkGets k p (choose a 13 (choose b 12 0))
    go true x b y = high (ltb-true 127 k x) refl
    go false x true y = over_long (ltb-false 127 k x) (ltb-true _ (length p) y) refl
    go false x false y = good_remark (ltb-false 127 k x) (ltb-false _ (length p) y) refl

-- and no other
pub request_is : (q : Request) (x : ℕ) → RequestGets q x → refusal_of q ≡ x
unfolding refusal_of
request_is (duty k f) x (no_kind h e) = wrong_kind_lem k f h ∙ sym e
request_is (duty k f) x (wide h l e) = ap (λ (n : ℕ). refusal_of (duty n f)) h ∙ take-true _ _ (lt-ltb 64 f.width l) ∙ sym e
request_is (duty k f) x (large h l e) = ap (λ (n : ℕ). refusal_of (duty n f)) h ∙ take-true _ _ (lt-ltb 4_294_967_296 f.size l) ∙ sym e
request_is (duty k f) x (good_duty a b c d e) =
    take-false _ _ (ap₂ (λ (s t : Bool). s || t) (ne_eqb k 0 (omega arith)) (le-ltb (length makers) k b))
    ∙ take-false _ _ (only k 4 64 f.width c) ∙ take-false _ _ (only k 7 4_294_967_296 f.size d) ∙ sym e
  where
    only : (k n a b : ℕ) → (k ≡ n → b ≤ a) → (eqb k n && ltb a b) ≡ false
    only k n a b h =
        by_eq k n (λ e. ap (λ (t : Bool). eqb k n && t) (le-ltb a b (h e)) ∙ and-false (eqb k n)) (λ e. ap (λ (t : Bool). t && ltb a b) (ne_eqb k n e))
request_is (remark k p) x (high l e) = take-true _ _ (lt-ltb 127 k l) ∙ sym e
request_is (remark k p) x (over_long h l e) = take-false _ _ (le-ltb 127 k h) ∙ take-true _ _ (lt-ltb _ (length p) l) ∙ sym e
request_is (remark k p) x (good_remark h l e) = take-false _ _ (le-ltb 127 k h) ∙ take-false _ _ (le-ltb _ (length p) l) ∙ sym e

-- ---- what they let pass

pub checks_good : (q : Request) (c : Checked) → Says q c → refusal_of q ≡ 0 → c ≡ good (entry_of q)
checks_good q (bad e) s z = absurd (omega (arith, (each_number_once.range e).0))
checks_good q (good e) s z = ap good (sym s.1)

-- a request with nothing wrong asks for a record that fits its frame
pub proper_entry : (q : Request) → TypedQ q → refusal_of q ≡ 0 → Proper (entry_of q)
proper_entry q t z = subst PassesCheck (checks_good q (checked_of q) (checks_say q) z) (checks_pass q t)

-- and of the kind asked for
pub kind-kept : (k : ℕ) (f : Fields) → refusal_of (duty k f) ≡ 0 → kind_of (edit_for k f) ≡ k
kind-kept k f z =
    by_kind k (λ h. absurd (omega (arith, wrong_kind_lem k f h))) (λ a b. (each_line (edit_for k f)).kind ∙ ((maker_for k a b).is_good.line f).0)

pub fields_agree : FieldsAgree
fields_agree k f a b = (maker_for k a b).is_good.line f
