-- The promises of specs/Promises.
use Prim.Native.Nat.{ℕ, ◌<◌, ◌≤◌}
use mathlib.Core.Path.{◌≡◌}
use mathlib.Core.Bool.{true, false}
use mathlib.Core.Logic.{◌↔◌}
use native.Mathlib.Omega.{arith}
use Rattle.storage.specs.Refusals.{last_number, number_of}
use Rattle.storage.specs.declared.Refusal.{Refusal}
use Rattle.storage.proofs.Promises.{each_number_once}
use Rattle.told.specs.declared.Told.{Told}
use Rattle.told.specs.Tellings.{found_told}
use Rattle.answers.specs.Answers.{ChangeOut, SplitOut, FoundOut, ValueOut, AmountOut, TruthOut, ReadingOut, AddedOut}
use Rattle.answers.specs.Promises.{Crosses, AtMostLast, RefusedHandsOut, Flags}
use Rattle.storage.specs.Refusals.{Found, Amount, Truth, Change}
use Rattle.std.specs.Prelude.{Ok, Err, Some, None}
use Rattle.sheet.specs.Reads.{Reading}
use Rattle.shapes.specs.Shapes.{Split}

value_out : {t : Told} {r v : ℕ} → ValueOut t r v ↔ ((r ≡ t.number) × (v ≡ t.value))
value_out = ((λ o. (o.number, o.value)), (λ q. record { number = q.0; value = q.1 }))

found_out : {a : Found} {r f v : ℕ} → FoundOut a r f v ↔ ((r ≡ (found_told a).number) × (f ≡ (found_told a).tag) × (v ≡ (found_told a).value))
found_out = ((λ o. (o.number, o.found, o.place)), (λ q. record { number = q.0; found = q.1; place = q.2 }))

pub crosses : Crosses
crosses = record {
  change_done = λ b r n. ((λ o. (o.number, o.count)), (λ q. record { number = q.0; count = q.1 }));
  change-refused = λ e b r n. ((λ o. (o.number, o.count)), (λ q. record { number = q.0; count = q.1 }));
  split_done = λ h u r n t. ((λ o. (o.number, o.count, o.tail)), (λ q. record { number = q.0; count = q.1; tail = q.2 }));
  split-refused = λ e b r n t. ((λ o. (o.number, o.count, o.tail)), (λ q. record { number = q.0; count = q.1; tail = q.2 }));
  found_at = λ p r f v. found_out;
  found_nothing = λ r f v. found_out;
  found-refused = λ e r f v. found_out;
  amount_is = λ n r v. value_out;
  amount-refused = λ e r v. value_out;
  truth-true = λ r v. value_out;
  truth-false = λ r v. value_out;
  truth-refused = λ e r v. value_out;
  reading_done = λ k b r at n. ((λ o. (o.number, o.at, o.count)), (λ q. record { number = q.0; at = q.1; count = q.2 }));
  reading-refused = λ e k r at n. ((λ o. (o.number, o.at, o.count)), (λ q. record { number = q.0; at = q.1; count = q.2 }));
  added_done = λ m old r n. ((λ o. (o.number, o.length)), (λ q. record { number = q.0; length = q.1 }));
  added-refused = λ e old r n. ((λ o. (o.number, o.length)), (λ q. record { number = q.0; length = q.1 }));
}

top : (e : Refusal) → number_of e ≤ last_number
top e = (each_number_once.range e).1

-- ---- of each kind of answer all that is promised: the last number, what a refusal hands out, the flags

change_ends : (a : Change) (r n : ℕ) → ChangeOut a r n → r ≤ last_number
change_ends (Ok b) r n o = omega arith
change_ends (Err e) r n o = omega (arith, top e.0)

split_ends : (a : Split) (r n t : ℕ) → SplitOut a r n t → (r ≤ last_number) × (0 < r → t ≡ 0)
split_ends (Ok (h, t1)) r n t o = (omega arith, (λ q. omega arith))
split_ends (Err e) r n t o = (omega (arith, top e.0), (λ q. omega arith))

found_ends : (a : Found) (r f v : ℕ) → FoundOut a r f v → (r ≤ last_number) × (0 < r → (f ≡ 0) × (v ≡ 0)) × (f ≤ 1) × (f ≡ 0 → v ≡ 0)
found_ends (Ok (Some p)) r f v o = (omega arith, (λ q. (omega arith, omega arith)), omega arith, (λ q. omega arith))
found_ends (Ok None) r f v o = (omega arith, (λ q. (omega arith, omega arith)), omega arith, (λ q. omega arith))
found_ends (Err e) r f v o = (omega (arith, top e), (λ q. (omega arith, omega arith)), omega arith, (λ q. omega arith))

amount_ends : (a : Amount) (r v : ℕ) → AmountOut a r v → (r ≤ last_number) × (0 < r → v ≡ 0)
amount_ends (Ok n) r v o = (omega arith, (λ q. omega arith))
amount_ends (Err e) r v o = (omega (arith, top e), (λ q. omega arith))

truth_ends : (a : Truth) (r v : ℕ) → TruthOut a r v → (r ≤ last_number) × (0 < r → v ≡ 0) × (v ≤ 1)
truth_ends (Ok true) r v o = (omega arith, (λ q. omega arith), omega arith)
truth_ends (Ok false) r v o = (omega arith, (λ q. omega arith), omega arith)
truth_ends (Err e) r v o = (omega (arith, top e), (λ q. omega arith), omega arith)

reading_ends : (a : Reading) (r k n : ℕ) → ReadingOut a r k n → (r ≤ last_number) × (0 < r → n ≡ 0)
reading_ends (Ok (k1, b)) r k n o = (omega arith, (λ q. omega arith))
reading_ends (Err e) r k n o = (omega (arith, top e.0), (λ q. omega arith))

added_ends : (a : Amount) (old r n : ℕ) → AddedOut a old r n → (r ≤ last_number) × (0 < r → n ≡ old)
added_ends (Ok n1) old r n o = (omega arith, (λ q. omega arith))
added_ends (Err e) old r n o = (omega (arith, top e), (λ q. omega arith))

pub at_most-last : AtMostLast
at_most-last = record {
  change = change_ends;
  split = λ a r n t o. (split_ends a r n t o).0;
  found = λ a r f v o. (found_ends a r f v o).0;
  amount = λ a r v o. (amount_ends a r v o).0;
  truth = λ a r v o. (truth_ends a r v o).0;
  reading = λ a r k n o. (reading_ends a r k n o).0;
  added = λ a old r n o. (added_ends a old r n o).0;
}

pub refused_hands_out : RefusedHandsOut
refused_hands_out = record {
  split = λ a r n t o. (split_ends a r n t o).1;
  found = λ a r f v o. (found_ends a r f v o).1;
  amount = λ a r v o. (amount_ends a r v o).1;
  truth = λ a r v o. (truth_ends a r v o).1;
  reading = λ a r k n o. (reading_ends a r k n o).1;
  added = λ a old r n o. (added_ends a old r n o).1;
}

pub flags : Flags
flags = record {
  truth = λ a r v o. (truth_ends a r v o).2;
  found = λ a r f v o. (found_ends a r f v o).2;
  nothing = λ a r f v o. (found_ends a r f v o).3;
}
