-- What the calls that a register is made of answer of a store that passes.
use mathlib.Core.Path.{ap, ◌≡◌, ◌∙◌}
use mathlib.Core.List.{List}
use Prim.Native.Nat.{ℕ, ◌+◌, ◌*◌, ◌≤◌}
use native.Mathlib.Omega.{arith}
use lib.ListN.{length}
use Rattle.storage.specs.Stores.{view, held, reading, size}
use Rattle.storage.specs.Guards.{most_words, Passed}
use Rattle.storage.specs.declared.Bitmap.{Bitmap}
use Rattle.storage.proofs.Checks.{reading_ok}
use Rattle.storage.proofs.Views.{bounded_view}
use Rattle.print.specs.Texts.{runs, AnswersRun}
use Rattle.print.specs.declared.Run.{Run}
use Rattle.print.proofs.Runs.{next-answer}
use Rattle.register.specs.Kernels.{Ahead}
use Rattle.register.proofs.Ahead.{ahead_start, ahead_more, ahead_within, runs-most}
use Rattle.storage.specs.Refusals.{Amount}
use Rattle.std.specs.Result.{result_unwrap_or}
use Rattle.std.specs.Prelude.{Ok, Err}

pub small : {ws : List ℕ} {b : Bitmap} → Passed ws b → (held ws b).count ≤ most_words
unfolding view
small p = omega (arith, p)

module _ (ws : List ℕ) (b : Bitmap) (p : Passed ws b) where
  pub next_first : (r : Run) → AnswersRun ws b 0 r → Ahead (held ws b) 0 r
  unfolding view
  next_first r e = ahead_start (held ws b) (bounded_view ws b.count) r (next-answer ws b 0 p (omega arith) r e)

  pub runs_fit : length (runs (held ws b)) ≤ 64 * b.count
  unfolding view
  runs_fit = runs-most (held ws b) (bounded_view ws b.count)

  module _ (n : ℕ) (run : Run) (g : Ahead (held ws b) n run) where
    pub within : run.end ≤ 64 * b.count
    unfolding view
    within = ahead_within (held ws b) (bounded_view ws b.count) n run g

    pub next_more : (r : Run) → AnswersRun ws b run.end r → Ahead (held ws b) (n + 1) r
    unfolding view
    next_more r e = ahead_more (held ws b) (bounded_view ws b.count) n run g r (next-answer ws b run.end p within r e)

    -- and it does not come before
    pub next_from : (r : Run) → AnswersRun ws b run.end r → run.end ≤ r.low
    next_from r e = (next-answer ws b run.end p within r e).from

  module _ (a : Amount) (e : a ≡ reading ws b Err (λ s. Ok (size s))) where
    is : a ≡ Ok (size (held ws b))
    is = e ∙ reading_ok ws b Err (λ s. Ok (size s)) p

    pub counted_is : (n : ℕ) → n ≡ result_unwrap_or a 0 → n ≡ size (held ws b)
    counted_is n q = q ∙ ap (λ (r : Amount). result_unwrap_or r 0) is
