-- The runs of a bitmap, one after the other: which is the next, how many there are, and where they lie.
use mathlib.Core.Path.{◌≡◌, sym, ap, ◌∙◌, subst}
use mathlib.Core.Bool.{Bool, false, true, false≢true}
use mathlib.Core.List.{List, [], ◌∷◌}
use Prim.Native.Nat.{ℕ, zero, suc, ◌+◌, ◌-◌, ◌*◌, ◌≤◌, ◌<◌}
use native.Mathlib.Omega.{arith}
use lib.ListN.{length, drop, length-drop}
use lib.Seq.{drop-drop}
use Rattle.word.proofs.Cases.{by_lt}
use Rattle.storage.specs.Stores.{Bits, Bounded}
use Rattle.text.specs.Lists.{Range, range}
use Rattle.print.specs.Texts.{runs}
use Rattle.print.specs.Kernels.{NextRun}
use Rattle.print.specs.Forms.{Runs, none, more}
use Rattle.print.specs.declared.Run.{Run}
use Rattle.print.proofs.Runs.{runs_are, next_none, next_some}
use Rattle.register.specs.Kernels.{Ahead}

-- each run lies below e
pub data Below (e : ℕ) : List Range → Type 0 where
  nil : Below e []
  cons : {r : Range} {rs : List Range} → r.low ≤ r.high → r.high < e → Below e rs → Below e (r ∷ rs)

module _ (s : ℕ → Bool) (e : ℕ) (past : (j : ℕ) → e ≤ j → s j ≡ false) where
  pub high_below : (i : ℕ) → s i ≡ true → i < e
  high_below i m = by_lt i e (λ h. h) (λ h. absurd (false≢true (sym (past i h) ∙ m)))

  runs_below : (i : ℕ) (rs : List Range) → Runs s i rs → Below e rs
  runs_below i [] x = nil
  runs_below i (r ∷ rs) (more a b f m z x) = cons b (high_below r.high (m r.high b (omega arith))) (runs_below (r.high + 1) rs x)

  runs_few : (i : ℕ) (rs : List Range) → i ≤ e → Runs s i rs → length rs + i ≤ e
  runs_few i [] h x = omega arith
  runs_few i (r ∷ rs) h (more a b f m z x) =
      omega (arith, a, b, runs_few (r.high + 1) rs (omega (arith, high_below r.high (m r.high b (omega arith)))) x)

pub drop_below : {e : ℕ} (n : ℕ) (rs : List Range) → Below e rs → Below e (drop n rs)
drop_below zero rs x = x
drop_below (suc n) [] nil = nil
drop_below (suc n) (r ∷ rs) (cons a b x) = drop_below n rs x

module _ (b : Bits) (bound : Bounded b) where
  abbrev s : ℕ → Bool
  s = b.members

  abbrev e : ℕ
  e = 64 * b.count

  pub ahead_start : (run : Run) → NextRun s e 0 run → Ahead b 0 run
  ahead_start run n = record { i = 0; next = n; left = runs_are b bound }

  pub runs-most : length (runs b) ≤ e
  runs-most = omega (arith, runs_few s e bound.past 0 (runs b) (omega arith) (runs_are b bound))

  pub all_below : Below e (runs b)
  all_below = runs_below s e bound.past 0 (runs b) (runs_are b bound)

  module _ (n : ℕ) (run : Run) (g : Ahead b n run) where
    -- no run is left
    pub ahead_none : run.end ≤ run.low → drop n (runs b) ≡ []
    ahead_none h = next_none s e g.i run (drop n (runs b)) bound.past g.next h g.left

    pub ahead_all : run.end ≤ run.low → length (runs b) ≤ n
    ahead_all h = omega (arith, ap length (ahead_none h), length-drop n (runs b))

    -- a run is left: this one
    pub ahead_some : run.low < run.end → (qs : List Range) × (drop n (runs b) ≡ range run.low (run.end - 1) ∷ qs) × Runs s run.end qs
    ahead_some h = next_some s e g.i run (drop n (runs b)) g.next h g.left

    pub ahead_within : run.end ≤ e
    ahead_within = g.next.within

    pub ahead_below : run.low < run.end → n < length (runs b)
    ahead_below h = omega (arith, ap length (ahead_some h).1, length-drop n (runs b))

    -- one more
    pub ahead_more : (run' : Run) → NextRun s e run.end run' → Ahead b (n + 1) run'
    ahead_more run' x =
        let d : drop 1 (drop n (runs b)) ≡ drop (n + 1) (runs b) = drop-drop 1 n (runs b) in
        by_lt run.low run.end
        (λ h. let q = ahead_some h in record { i = run.end; next = x; left = subst (Runs s run.end) (sym (ap (drop 1) q.1) ∙ d) q.2 })
        (λ h.
        let q : run.end ≡ e = g.next.none (omega (arith, g.next.order)) in
        record {
          i = run.end;
          next = x;
          left = subst (Runs s run.end) (sym (ap (drop 1) (ahead_none h)) ∙ d) (none {i = run.end} (λ j l. bound.past j (omega (arith, q))));
        })
