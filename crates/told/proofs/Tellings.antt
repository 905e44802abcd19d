-- What is told of an answer that is known by an equation.
use mathlib.Core.Path.{◌≡◌, sym, subst}
use Rattle.told.specs.Tellings.{SameNumbers}
use Rattle.told.specs.declared.Told.{Told}

pub told_of : {A : Type 0} (f : A → Told) {a b : A} {r : Told} → SameNumbers r (f a) → b ≡ a → SameNumbers r (f b)
told_of f {r = r} s e = subst (λ x. SameNumbers r (f x)) (sym e) s
