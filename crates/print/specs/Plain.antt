-- The printed form as document 01 has it, for the plain style.
use Rattle.std.specs.Prelude.{ℕ, ◌<◌, Bool, List, [], ◌∷◌, ◌++◌}
use Rattle.text.specs.Lists.{Range}
use Rattle.print.specs.Forms.{Runs, Figures}

-- a run: one number by itself; two with a hyphen between
pub data PrintedRun : List ℕ → Range → Type 0 where
  alone : {t : List ℕ} {a : ℕ} → Figures t a → PrintedRun t (record { low = a; high = a })
  ends : {t u : List ℕ} {a b : ℕ} → a < b → Figures t a → Figures u b → PrintedRun (t ++ 45 ∷ u) (record { low = a; high = b })

-- runs: a comma and one blank between two
pub data PrintedRuns : List ℕ → List Range → Type 0 where
  nothing : PrintedRuns [] []
  last : {t : List ℕ} {r : Range} → PrintedRun t r → PrintedRuns t (r ∷ [])
  next : {t u : List ℕ} {r q : Range} {rs : List Range} → PrintedRun t r → PrintedRuns u (q ∷ rs) → PrintedRuns (t ++ 44 ∷ 32 ∷ u) (r ∷ q ∷ rs)

-- t is the printed form of the maximal runs of s
abbrev pub IsText : (ℕ → Bool) → List ℕ → Type 0
IsText s t = (rs : List Range) × Runs s 0 rs × PrintedRuns t rs
