-- The promises of specs/Promises.
use mathlib.Core.Path.{refl}
use Rattle.told.specs.declared.Told.{Told}
use Rattle.told.specs.Promises.{Four, FourNumbers}

same : (r : Told) → Four r r.number r.tag r.value r.also
same r = (refl, refl, refl, refl)

pub four-numbers : FourNumbers
four-numbers = record {
  alike = λ r t. ((λ o. (o.number, o.tag, o.value, o.also)), (λ q. record { number = q.0; tag = q.1; value = q.2; also = q.3 }));
  four = λ n t v a. same _;
  found_at = λ p. same _;
  found_nothing = same _;
  found-refused = λ e. same _;
  amount_is = λ n. same _;
  amount-refused = λ e. same _;
  truth-true = same _;
  truth-false = same _;
  truth-refused = λ e. same _;
  change_done = λ b. same _;
  change-refused = λ e b. same _;
  split_done = λ h u. same _;
  split-refused = λ e b. same _;
  word_at_lem = λ k w. same _;
  word-nothing = same _;
  guard_pass = same _;
  guard_stop = λ e b. same _;
}
