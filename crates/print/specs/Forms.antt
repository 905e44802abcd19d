-- The printed form of list text (01, "List text"; 02, T-01): which texts are printed of a set in a style. Its bytes are typed from the papers.
use Rattle.std.specs.Prelude.{ℕ, ◌+◌, ◌*◌, ◌≤◌, ◌<◌, ◌≡◌, Bool, true, false, List, [], ◌∷◌, ◌++◌}
use Rattle.style.specs.declared.Style.{Style}
use Rattle.text.specs.Lists.{Range}

-- the maximal runs of s from i on, rising: no member before a run, all of it members, none right after it; and none after the last
pub data Runs (s : ℕ → Bool) : ℕ → List Range → Type 0 where
  none : {i : ℕ} → ((j : ℕ) → i ≤ j → s j ≡ false) → Runs s i []
  more : {i : ℕ} {r : Range} {rs : List Range} → i ≤ r.low → r.low ≤ r.high → ((j : ℕ) → i ≤ j → j < r.low → s j ≡ false)
      → ((j : ℕ) → r.low ≤ j → j ≤ r.high → s j ≡ true) → s (r.high + 1) ≡ false → Runs s (r.high + 1) rs → Runs s i (r ∷ rs)

-- a number's digits, 48 to 57: no 0 stands before another
pub data Figures : List ℕ → ℕ → Type 0 where
  figure : {d : ℕ} → d < 10 → Figures ((48 + d) ∷ []) d
  figures : {t : List ℕ} {v d : ℕ} → 0 < v → d < 10 → Figures t v → Figures (t ++ (48 + d) ∷ []) (10 * v + d)

-- between two: a comma, and after it a blank or none
pub data Between (y : Style) : List ℕ → Type 0 where
  spaced : y.blank ≡ true → Between y (44 ∷ 32 ∷ [])
  tight : y.blank ≡ false → Between y (44 ∷ [])

-- the numbers from a to b, each by itself: a bit plus the first number
pub data PrintedEach (y : Style) : List ℕ → ℕ → ℕ → Type 0 where
  final : {t : List ℕ} {a : ℕ} → Figures t (a + y.first) → PrintedEach y t a a
  then : {t m u : List ℕ} {a b : ℕ} → Figures t (a + y.first) → Between y m → PrintedEach y u (a + 1) b → PrintedEach y (t ++ (m ++ u)) a b

-- a run: number by number where it has fewer than the shortest, else its ends with the joiner between
pub data PrintedRun (y : Style) : List ℕ → Range → Type 0 where
  each : {t : List ℕ} {a b : ℕ} → b + 1 < a + y.shortest → PrintedEach y t a b → PrintedRun y t (record { low = a; high = b })
  ends : {t u : List ℕ} {a b : ℕ} → a + y.shortest ≤ b + 1 → Figures t (a + y.first) → Figures u (b + y.first)
      → PrintedRun y (t ++ y.joiner ∷ u) (record { low = a; high = b })

pub data PrintedRuns (y : Style) : List ℕ → List Range → Type 0 where
  nothing : PrintedRuns y [] []
  last : {t : List ℕ} {r : Range} → PrintedRun y t r → PrintedRuns y t (r ∷ [])
  next : {t m u : List ℕ} {r q : Range} {rs : List Range} → PrintedRun y t r → Between y m → PrintedRuns y u (q ∷ rs)
      → PrintedRuns y (t ++ (m ++ u)) (r ∷ q ∷ rs)

-- t is the printed form of the maximal runs of s
abbrev pub IsText : Style → (ℕ → Bool) → List ℕ → Type 0
IsText y s t = (rs : List Range) × Runs s 0 rs × PrintedRuns y t rs
