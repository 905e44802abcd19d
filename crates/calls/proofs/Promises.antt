-- The promises of specs/Promises.
use Prim.Native.Nat.{ℕ, ◌≤◌, ◌<◌}
use mathlib.Core.Path.{◌≡◌, refl, sym, ap, ◌∙◌, subst}
use mathlib.Core.Bool.{Bool, true, false, not, false≢true}
use mathlib.Core.List.{List}
use mathlib.Core.Logic.{◌⊎◌, inl, inr}
use native.Mathlib.Omega.{arith}
use lib.ListN.{length}
use borrow.Author.Tests.{ne_eqb}
use Rattle.word.proofs.Cases.{by_test}
use Rattle.storage.specs.Refusals.{answer_number, found_flag, found_value, amount_value, truth_value}
use Rattle.storage.specs.Stores.{Bits, Op, view, bitmap_of}
use Rattle.storage.specs.Guards.{Stopped, Passed}
use Rattle.storage.specs.Promises.{Guarded, GuardedBoth, HandsNone, FindsNone, Kept, EndsAs, CallEnds, BesideEnds}
use Rattle.storage.proofs.Promises as storage
use Rattle.storage.proofs.Checks.{which_way}
use Rattle.combine.proofs.Promises as combine
use Rattle.shapes.specs.Promises.{SplitMeans}
use Rattle.shapes.proofs.Halves as halves
use Rattle.style.specs.Styles.{allowed}
use Rattle.style.specs.declared.Style.{Style}
use Rattle.style.proofs.Promises.{styles_mean}
use Rattle.print.specs.Promises.{NotPrinted, TextPut, PrintsText}
use Rattle.storage.specs.declared.Bitmap.{Bitmap}
use Rattle.print.proofs.Promises.{prints_text}
use Rattle.register.specs.Promises.{PrintsRegister}
use Rattle.register.proofs.Promises.{write_register_means}
use Rattle.plain.specs.Writer.{started, added, requested}
use Rattle.plain.specs.Promises.{LeavesRest}
use Rattle.sheet.specs.declared.Fields.{Fields}
use Rattle.sheet.proofs.Readings.{reading_means}
use Rattle.plain.proofs.Writings.{starting_means, adding_means}
use Rattle.answers.specs.Answers.{AddedOut}
use Rattle.calls.specs.Calls.{Changed, SplitOff, Printed, Registered, Written}
use Rattle.calls.specs.Promises.{ChangesMean, ReadingsOut, OthersMean, TruthIn, StyleIn, RefusedChangesNothing}
use Rattle.storage.specs.Refusals.{Found, Amount, Truth}
use Rattle.std.specs.Prelude.{Ok, Err}

-- ---- what crosses is what the answer is

carry : (P : ℕ → ℕ → Type 0) {x v r w : ℕ} → r ≡ x → w ≡ v → P x v → P r w
carry P {v = v} {r = r} p q h = subst (P r) (sym q) (subst (λ (y : ℕ). P y v) (sym p) h)

carry_three : (P : ℕ → ℕ → ℕ → Type 0) {x f v r g w : ℕ} → r ≡ x → g ≡ f → w ≡ v → P x f v → P r g w
carry_three P {f = f} {v = v} {r = r} p q s h = carry (P r) q s (subst (λ (y : ℕ). P y f v) (sym p) h)

-- ---- changing calls

pub changes_mean : ChangesMean
changes_mean = record {
  alone = λ op rule why meets ws ws' n r n' h.
      carry (λ x m. CallEnds rule why ws (bitmap_of n) x m ws') h.out.number h.out.count
      (storage.change_means op rule why meets ws ws' (bitmap_of n) _ (record { answers = refl; leaves = h.leaves }));
  with-one = λ op rule why meets os ws ws' m n r n' h.
      carry (λ x c. BesideEnds rule why os (bitmap_of m) ws (bitmap_of n) x c ws') h.out.number h.out.count
      (storage.beside_means op rule why meets os ws ws' (bitmap_of m) (bitmap_of n) _ (record { answers = refl; leaves = h.leaves }));
  with_two = λ op rule why meets xs ys ws ws' k m n r n' h.
      let x : Bits = view xs k in
      let y : Bits = view ys m in
      carry
      (λ a c. Guarded ws (bitmap_of n) (Kept n ws a c ws')
      (GuardedBoth xs (bitmap_of k) ys (bitmap_of m) (Kept n ws a c ws') (EndsAs (rule x y) (why x y) (view ws n) ws a c ws')))
      h.out.number h.out.count
      (combine.both_means op rule why meets xs (bitmap_of k) ys (bitmap_of m) ws (bitmap_of n) _ ws' (record { answers = refl; leaves = h.leaves }));
}

-- ---- reading calls

-- what a refusal hands out
abbrev no_found : Found → ℕ → Type 0
no_found a = FindsNone (answer_number a) (found_flag a) (found_value a)

abbrev no_number : Amount → ℕ → Type 0
no_number a = HandsNone (answer_number a) (amount_value a)

abbrev no_truth : Truth → ℕ → Type 0
no_truth a = HandsNone (answer_number a) (truth_value a)

pub readings_out : ReadingsOut
readings_out = record {
  found = λ rule g holds ws n r f v o.
      carry_three (λ x t y. Guarded ws (bitmap_of n) (FindsNone x t y) (rule (view ws n) x t y)) o.number o.found o.place
      (storage.reading_means Err g no_found (λ b a. rule b (answer_number a) (found_flag a) (found_value a)) (λ e. (refl, refl, refl)) holds
      ws (bitmap_of n) _ refl);
  amount = λ rule g holds ws n r v o.
      carry (λ x y. Guarded ws (bitmap_of n) (HandsNone x y) (rule (view ws n) x y)) o.number o.value
      (storage.reading_means Err g no_number (λ b a. rule b (answer_number a) (amount_value a)) (λ e. (refl, refl)) holds ws (bitmap_of n) _ refl);
  truth = λ rule g holds ws n r v o.
      carry (λ x y. Guarded ws (bitmap_of n) (HandsNone x y) (rule (view ws n) x y)) o.number o.value
      (storage.reading_means Err g no_truth (λ b a. rule b (answer_number a) (truth_value a)) (λ e. (refl, refl)) holds ws (bitmap_of n) _ refl);
  found-both = λ rule g holds ws os n m r f v o.
      carry_three (λ x t y. GuardedBoth ws (bitmap_of n) os (bitmap_of m) (FindsNone x t y) (rule (view ws n) (view os m) x t y)) o.number o.found o.place
      (storage.both_means Err g no_found (λ b c a. rule b c (answer_number a) (found_flag a) (found_value a)) (λ e. (refl, refl, refl)) holds
      ws (bitmap_of n) os (bitmap_of m) _ refl);
  amount-both = λ rule g holds ws os n m r v o.
      carry (λ x y. GuardedBoth ws (bitmap_of n) os (bitmap_of m) (HandsNone x y) (rule (view ws n) (view os m) x y)) o.number o.value
      (storage.both_means Err g no_number (λ b c a. rule b c (answer_number a) (amount_value a)) (λ e. (refl, refl)) holds
      ws (bitmap_of n) os (bitmap_of m) _ refl);
  truth-both = λ rule g holds ws os n m r v o.
      carry (λ x y. GuardedBoth ws (bitmap_of n) os (bitmap_of m) (HandsNone x y) (rule (view ws n) (view os m) x y)) o.number o.value
      (storage.both_means Err g no_truth (λ b c a. rule b c (answer_number a) (truth_value a)) (λ e. (refl, refl)) holds
      ws (bitmap_of n) os (bitmap_of m) _ refl);
}

-- ---- the other calls

pub others_mean : OthersMean
others_mean = record {
  split = λ at ws ts ws' ts' n r n' t h.
      carry_three (λ x m k. SplitMeans at ws (bitmap_of n) ts x m k ws' ts') h.out.number h.out.count h.out.tail
      (halves.split_means at ws (bitmap_of n) ts _ ws' ts' (record { answers = refl; head = h.head; tail = h.tail }));
  print = λ y ws bs bs' n r v h.
      carry (λ x z. PrintsText y ws (bitmap_of n) bs x z bs') h.out.number h.out.value (prints_text y ws (bitmap_of n) bs _ bs' (record { answers = refl; leaves = h.leaves }));
  register = λ ws bs bs' n r v h.
      carry (λ x z. PrintsRegister ws (bitmap_of n) bs x z bs') h.out.number h.out.value
      (write_register_means ws (bitmap_of n) bs _ bs' (record { answers = refl; leaves = h.leaves }));
  read = λ e sheet ws res res' n r k m h. (_, h.out, reading_means e sheet ws (bitmap_of n) res _ res' (record { answers = refl; leaves = h.leaves }));
  start = λ bs bs' n r n' h. (_, h.out, starting_means bs _ bs' (record { answers = refl; leaves = h.leaves }));
  add_duty = λ bs bs' payload f n kind r n' h. (_, h.out, adding_means.duties bs n kind f payload _ bs' (record { answers = refl; leaves = h.leaves }));
  add_remark = λ bs bs' payload f n kind r n' h. (_, h.out, adding_means.remarks bs n kind f payload _ bs' (record { answers = refl; leaves = h.leaves }));
}

pub truth_in : TruthIn
truth_in = record { zero = refl; other = λ v h. ap not (ne_eqb v 0 (omega arith)) }

pub style_in : StyleIn
style_in = record {
  first = λ f j b k. refl;
  joiner = λ f j b k. refl;
  tight = λ f j k. truth_in.zero;
  spaced = λ f j b k h. truth_in.other b h;
  shortest = λ f j b k. refl;
}

-- ---- a refused call

change : (op : Op) (ws ws' : List ℕ) (n r n' : ℕ) → Changed op ws n r ws' n' → 0 < r → (n' ≡ n) × (ws' ≡ ws)
change op ws ws' n r n' h p =
    let k = storage.refusal_keeps op ws ws' (bitmap_of n) _ (record { answers = refl; leaves = h.leaves }) (omega (arith, h.out.number)) in
    (h.out.count ∙ ap (λ (b : Bitmap). b.count) k.0, k.1)

split : (at : ℕ) (ws ts ws' ts' : List ℕ) (n r n' t : ℕ) → SplitOff at ws n ts r ws' n' ts' t → 0 < r → (n' ≡ n) × (ws' ≡ ws) × (ts' ≡ ts)
split at ws ts ws' ts' n r n' t h p =
    let k = halves.split_keeps at ws (bitmap_of n) ts _ ws' ts' (record { answers = refl; head = h.head; tail = h.tail }) (omega (arith, h.out.number)) in
    (h.out.count ∙ ap (λ (b : Bitmap). b.count) k.0, k.2, k.3)

-- put or too short a buffer, and refused: the buffer was too short
not-put : {t bs bs' : List ℕ} {r v : ℕ} → 0 < r → ((length t ≤ length bs) × TextPut t bs r v bs') ⊎ ((length bs < length t) × NotPrinted bs r v bs' 6) → bs' ≡ bs
not-put p (inl x) = absurd (omega (arith, x.1.number))
not-put p (inr x) = x.1.bytes

print : (y : Style) (ws bs bs' : List ℕ) (n r v : ℕ) → Printed y ws n bs r bs' v → 0 < r → bs' ≡ bs
print y ws bs bs' n r v h p =
    way (which_way ws (bitmap_of n))
  where
    q : PrintsText y ws (bitmap_of n) bs r v bs'
    q = others_mean.print y ws bs bs' n r v h

    way : ((x : ℕ) × Stopped ws (bitmap_of n) x) ⊎ Passed ws (bitmap_of n) → bs' ≡ bs
    way (inl (x, s)) = (q.stop x s).bytes
    way (inr t) =
        by_test (allowed y)
        (λ a. not-put p ((q.rest t).rest ((styles_mean y).1 a)).2)
        (λ a. ((q.rest t).stop (λ ok. false≢true (sym a ∙ (styles_mean y).0 ok))).bytes)

register : (ws bs bs' : List ℕ) (n r v : ℕ) → Registered ws n bs r bs' v → 0 < r → bs' ≡ bs
register ws bs bs' n r v h p =
    way (which_way ws (bitmap_of n))
  where
    q : PrintsRegister ws (bitmap_of n) bs r v bs'
    q = others_mean.register ws bs bs' n r v h

    way : ((x : ℕ) × Stopped ws (bitmap_of n) x) ⊎ Passed ws (bitmap_of n) → bs' ≡ bs
    way (inl (x, s)) = (q.stop x s).bytes
    way (inr t) = not-put p (q.rest t).2

kept : (a : Amount) (bs bs' : List ℕ) (n r n' : ℕ) → AddedOut a n r n' → LeavesRest bs a bs' → 0 < r → (n' ≡ n) × (bs' ≡ bs)
kept (Ok m) bs bs' n r n' o k p = absurd (omega (arith, o.number))
kept (Err e) bs bs' n r n' o k p = (o.length, k.kept (omega (arith, o.number)))

start : (bs bs' : List ℕ) (n r n' : ℕ) → Written (started bs) n r bs' n' → 0 < r → (n' ≡ n) × (bs' ≡ bs)
start bs bs' n r n' h = kept _ bs bs' n r n' h.out (starting_means bs _ bs' (record { answers = refl; leaves = h.leaves })).leaves

add : (bs bs' payload : List ℕ) (d : Bool) (f : Fields) (n kind r n' : ℕ) → Written (added bs n (requested d kind f payload)) n r bs' n' → 0 < r
    → (n' ≡ n) × (bs' ≡ bs)
add bs bs' payload true f n kind r n' h =
    kept _ bs bs' n r n' h.out (adding_means.duties bs n kind f payload _ bs' (record { answers = refl; leaves = h.leaves })).leaves
add bs bs' payload false f n kind r n' h =
    kept _ bs bs' n r n' h.out (adding_means.remarks bs n kind f payload _ bs' (record { answers = refl; leaves = h.leaves })).leaves

pub refused-changes-nothing : RefusedChangesNothing
refused-changes-nothing = record { change = change; split = split; print = print; register = register; start = start; add = add }
