-- The first store's refusal, and where it has none what is found of the second.
use mathlib.Core.Path.{sym, ◌∙◌}
use Rattle.std.proofs.Common.{rules}
use Rattle.storage.proofs.Checks.{guard_stops, guard_goes_on, raised, stops_giving, passes_giving, handed_on}
use Rattle.storage.proofs.check_two.Goals as goal

pub returns-in_err-check : goal.returns-in_err-check
returns-in_err-check c = raised c.from_residual.ensures ∙ guard_stops _ _ _ _ _ (sym c.in_err-check.was ∙ c.check.ensures)

pub returns : goal.returns
returns c =
    guard_goes_on _ _ _ _ _ _ (sym c.in_ok-check.was ∙ c.check.ensures)
    (handed_on c.args.b _ c.map_err.ensures.cases (λ e d h. search rules)
    (λ u q. passes_giving _ _ _ _ (q ∙ c.check-2.ensures)) (λ e q. stops_giving _ _ _ _ (q ∙ c.check-2.ensures)))
