-- The promise of specs/Promises.
use Prim.Native.Nat.{ℕ}
use mathlib.Core.Path.{◌≡◌, sym, ap, ap₂, ◌∙◌}
use mathlib.Core.Bool.{Bool, true, ◌&&◌, ◌||◌, not, false≢true}
use native.Mathlib.Omega.{arith}
use lib.Dec.{ltb, leb, eqb}
use borrow.Author.Tests.{le-leb, leb-true, lt-ltb, le-ltb, ne_eqb, eq-eqb}
use Rattle.word.proofs.Cases.{by_lt, and-true}
use Rattle.style.specs.Styles.{joins}
use Rattle.style.specs.Promises.{Joins, StylesMean}

both : {a b : Bool} → a ≡ true → b ≡ true → a && b ≡ true
both e f = ap₂ ◌&&◌ e f

joins_is : (c : ℕ) → Joins c → joins c ≡ true
joins_is c j =
    both (le-leb 33 c (omega (arith, j.printable, j.no_blank)))
    (both (le-leb c 126 j.printable.1)
    (both (ap not (ne_eqb c 44 j.no_comma))
    (by_lt c 48
    (λ l. ap (λ (t : Bool). t || ltb 57 c) (lt-ltb c 48 l))
    (λ l. by_lt 57 c (λ m. ap₂ ◌||◌ (le-ltb c 48 l) (lt-ltb 57 c m)) (λ m. absurd (j.no_digit l m))))))

is_joins : (c : ℕ) → joins c ≡ true → Joins c
is_joins c e =
    let p = and-true (leb 33 c) (leb c 126 && (not (eqb c 44) && (ltb c 48 || ltb 57 c))) e in
    let q = and-true (leb c 126) (not (eqb c 44) && (ltb c 48 || ltb 57 c)) p.1 in
    let r = and-true (not (eqb c 44)) (ltb c 48 || ltb 57 c) q.1 in
    record {
      printable = (omega (arith, leb-true 33 c p.0), leb-true c 126 q.0);
      no_digit = λ l m. false≢true (sym (ap₂ ◌||◌ (le-ltb c 48 l) (le-ltb 57 c m)) ∙ r.1);
      no_comma = λ d. false≢true (sym (ap not (eq-eqb c 44 d)) ∙ r.0);
      no_blank = λ d. omega (arith, leb-true 33 c p.0, d);
    }

pub styles_mean : StylesMean
styles_mean y = (
  λ a. both (le-leb y.first 1_000 a.first) (both (joins_is y.joiner a.joiner) (both (le-leb 2 y.shortest a.shortest.0) (le-leb y.shortest 9 a.shortest.1))),
  λ e.
      let p = and-true (leb y.first 1_000) (joins y.joiner && (leb 2 y.shortest && leb y.shortest 9)) e in
      let q = and-true (joins y.joiner) (leb 2 y.shortest && leb y.shortest 9) p.1 in
      let r = and-true (leb 2 y.shortest) (leb y.shortest 9) q.1 in
      record {
        first = leb-true y.first 1_000 p.0;
        joiner = is_joins y.joiner q.0;
        shortest = (leb-true 2 y.shortest r.0, leb-true y.shortest 9 r.1);
      },
)
