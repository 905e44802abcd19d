-- Texts that are no list in a style (02, T-02): the first bad token is bad by a number of digits only that is above the limit, or for another reason.
use Rattle.std.specs.Prelude.{ℕ, ◌+◌, ◌<◌, ◌≡◌, List, [], ◌∷◌, ◌++◌}
use Rattle.style.specs.declared.Style.{Style}
use Rattle.text.specs.Lists.{Range}
use Rattle.text.specs.Grammar.{Blanks, Digits, Numeral, Token}

-- the byte c is not in the text
pub data Free (c : ℕ) : List ℕ → Type 0 where
  nil : Free c []
  cons : {d : ℕ} {t : List ℕ} → (d ≡ c → ⊥) → Free c t → Free c (d ∷ t)

-- digits only, blanks around them, and the number that they mean, whatever it is
pub data Written : List ℕ → ℕ → Type 0 where
  digits : {u d w : List ℕ} {v : ℕ} → Blanks u → Digits d v → Blanks w → Written (u ++ d ++ w) v

-- a number above the limit, which rises with the first number
pub data Huge (y : Style) : List ℕ → Type 0 where
  above : {t : List ℕ} {v : ℕ} → Written t v → 4_294_967_295 + y.first < v → Huge y t

-- no number of the style: not digits only, or below the first number
pub data NoNumber (y : Style) : List ℕ → Type 0 where
  other : {t : List ℕ} → ((v : ℕ) → Written t v → ⊥) → NoNumber y t
  below : {t : List ℕ} {v : ℕ} → Written t v → v < y.first → NoNumber y t

-- a bad token that is huge: its number, its left number whatever the right one is, or, after a good left one, its right number
pub data HugeToken (y : Style) : List ℕ → Type 0 where
  single : {t : List ℕ} → Huge y t → HugeToken y t
  left : {t : List ℕ} → Huge y t → (u : List ℕ) → HugeToken y (t ++ y.joiner ∷ u)
  right : {t u : List ℕ} {a : ℕ} → Numeral y t a → Huge y u → HugeToken y (t ++ y.joiner ∷ u)

-- a bad token that is no token: cut at its first joiner, its number, its left number, or, after a good left one, its right number is none; or the range falls
pub data NoToken (y : Style) : List ℕ → Type 0 where
  single : {t : List ℕ} → Free y.joiner t → NoNumber y t → NoToken y t
  left : {t : List ℕ} → Free y.joiner t → NoNumber y t → (u : List ℕ) → NoToken y (t ++ y.joiner ∷ u)
  right : {t u : List ℕ} {a : ℕ} → Numeral y t a → NoNumber y u → NoToken y (t ++ y.joiner ∷ u)
  falling : {t u : List ℕ} {a b : ℕ} → Numeral y t a → Numeral y u b → b < a → NoToken y (t ++ y.joiner ∷ u)

-- a text, cut at its commas, whose first bad token is of the kind `bad`: its only one, one with a comma and whatever else after it, or one after a good
-- token. Blanks after the last comma are no token
pub data FirstBad (y : Style) (bad : List ℕ → Type 0) : List ℕ → Type 0 where
  only : {t : List ℕ} → Free 44 t → bad t → FirstBad y bad t
  here : {t : List ℕ} → Free 44 t → bad t → (u : List ℕ) → FirstBad y bad (t ++ 44 ∷ u)
  later : {t u : List ℕ} {r : Range} → Token y t r → (Blanks u → ⊥) → FirstBad y bad u → FirstBad y bad (t ++ 44 ∷ u)

-- 16, and 7
abbrev pub NumberOver : Style → List ℕ → Type 0
NumberOver y = FirstBad y (HugeToken y)

abbrev pub NotList : Style → List ℕ → Type 0
NotList y = FirstBad y (NoToken y)
