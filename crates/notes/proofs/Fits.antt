-- A text that was written fits its buffer.
use mathlib.Core.Path.{◌≡◌, sym, ap, ◌∙◌}
use mathlib.Core.Bool.{Bool}
use mathlib.Core.List.{List}
use Prim.Native.Nat.{ℕ, ◌≤◌}
use native.Mathlib.Omega.{arith}
use lib.ListN.{length}
use lib.Dec.{leb}
use borrow.Author.Tests.{leb-true}
use Rattle.word.specs.Sets.{choose}
use Rattle.word.proofs.Cases.{by_test, zero_one}
use Rattle.storage.specs.Stores.{held}
use Rattle.storage.specs.declared.Bitmap.{Bitmap}
use Rattle.storage.specs.declared.Refusal.TheVariants.{NoSpace}
use Rattle.storage.proofs.Checks.{told}
use Rattle.style.specs.Styles.{plain_style}
use Rattle.print.specs.Texts.{text_of, list_answer, Prints}
use Rattle.storage.specs.Refusals.{Amount}
use Rattle.std.specs.Prelude.{Ok, Err}

same : {a b : ℕ} → ◌≡◌ {A = Amount} (Ok a) (Ok b) → a ≡ b
same e = cc

pub fits : (ws : List ℕ) (b : Bitmap) (out : List ℕ) (k : ℕ) (r : Amount) (out' : List ℕ) → r ≡ Ok k → Prints plain_style ws b out r out' → k ≤ length out
fits ws b out k r out' e p =
    let t : List ℕ = text_of plain_style (held ws b) in
    let a = told ws b Err (list_answer plain_style out) r (λ d q. zero_one cc) p.answers in
    by_test (leb (length t) (length out))
    (λ y. omega (arith, leb-true (length t) (length out) y, same (sym e ∙ a.1 ∙ ap (λ (x : Bool). choose x (Ok (length t)) (Err NoSpace)) y)))
    (λ y. let q : Ok k ≡ Err NoSpace = sym e ∙ a.1 ∙ ap (λ (x : Bool). choose x (Ok (length t)) (Err NoSpace)) y in zero_one cc)
