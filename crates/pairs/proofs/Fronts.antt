-- What a loop leaves that stores one word a turn into the front part of some words.
use mathlib.Core.Path.{◌≡◌, ap, ◌∙◌}
use mathlib.Core.List.{List, ◌++◌}
use Prim.Native.Nat.{ℕ, ◌-◌, ◌≤◌, ◌<◌}
use native.Mathlib.Omega.{arith}
use lib.ListN.{length, get_or, take, drop, length-append, length-drop, get_or-append}
use lib.Seq.{length-take-le, get_or-append-add, get_or-drop}
use Rattle.word.proofs.Sweep.{Swept}

pub swept_front : (ws front : List ℕ) (new new' : ℕ → ℕ) (e k : ℕ) → e ≤ length ws → Swept (take e ws) new 0 k front → e ≤ k
    → ((j : ℕ) → j < e → new j ≡ new' j) → Swept ws new' 0 e (front ++ drop e ws)
swept_front ws front new new' e k h s l same = record {
  long = length-append front (drop e ws) ∙ omega (arith, long, length-drop e ws);
  fresh = λ j p q. get_or-append front (drop e ws) 0 j (omega (arith, long)) ∙ s.fresh j p (omega arith) ∙ same j q;
  below = λ j p. absurd (omega arith);
  above = λ j p.
      ap (λ (x : ℕ). get_or (front ++ drop e ws) x 0) (omega (arith, long)) ∙ get_or-append-add front (drop e ws) (j - e) 0
      ∙ get_or-drop e ws (j - e) 0 ∙ ap (λ (x : ℕ). get_or ws x 0) (omega arith);
}
  where
    long : length front ≡ e
    long = s.long ∙ length-take-le e ws h
