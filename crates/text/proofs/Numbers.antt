-- The text of a number: how it is read, and whether it is a number of the style, a huge one or none.
use mathlib.Core.Path.{◌≡◌, refl, sym, ap, ◌∙◌, subst}
use mathlib.Core.Bool.{Bool, true, true≢false}
use mathlib.Core.List.{List, [], ◌∷◌, ◌++◌, append_assoc, append-nil}
use Prim.Native.Nat.{ℕ, ◌+◌, ◌-◌, ◌*◌, ◌≤◌, min}
use native.Mathlib.Omega.{arith}
use Rattle.word.proofs.Cases.{by_lt}
use Rattle.style.specs.Promises.{Allowed}
use Rattle.style.specs.declared.Style.{Style}
use Rattle.text.specs.Lists.{comma, zero_digit, list_limit, Range}
use Rattle.text.specs.Grammar as g
use Rattle.text.specs.Faults as b
use Rattle.text.specs.Readings.{kind, too_large, NumberSoFar, Unread, Open, Closed, Left, Alone, From, part, unread, by_kind, TextSoFar, bad, reading, next, reads}
use Rattle.text.specs.declared.Fault.TheVariants.{Slip}
use Rattle.text.specs.declared.Kind.{Kind}
use Rattle.text.proofs.Tokens.{reads_bad}
use Rattle.text.proofs.Accepts.{IsKind, is_digit, is_blank, is_joiner, is_comma, is_other, kind_is, next-at, blanks_none, written_read}

module _ (st : Style) (ok : Allowed st) where
  -- ---- a number's text is read

  -- as far as it is read
  pub data Begun : NumberSoFar → List ℕ → Type 0 where
    blanks : {y : List ℕ} → g.Blanks y → Begun Unread y
    opened : {y : List ℕ} (u d : List ℕ) (v : ℕ) → g.Blanks u → g.Digits d v → y ≡ u ++ d → Begun (Open (min too_large v)) y
    closed : {y : List ℕ} (u d w : List ℕ) (v : ℕ) → g.Blanks u → g.Digits d v → g.Blanks w → y ≡ u ++ d ++ w → Begun (Closed (min too_large v)) y

  blanks-snoc : {u : List ℕ} (c : ℕ) → g.Blanks u → g.Blank c → g.Blanks (u ++ c ∷ [])
  blanks-snoc c g.nil e = g.cons e g.nil
  blanks-snoc c (g.cons f b) e = g.cons f (blanks-snoc c b e)

  -- a left number has no joiner in it
  pub data Joins : Left → List ℕ → Type 0 where
    cut : {t : List ℕ} → b.Free st.joiner t → Joins Alone t
    any : {a : ℕ} {t : List ℕ} → Joins (From a) t

  -- one byte
  data Stepped (rs : List Range) (l : Left) (n : NumberSoFar) (y : List ℕ) (c : ℕ) : Type 0 where
    on : (m : NumberSoFar) → next st (reading rs (part l n)) c ≡ reading rs (part l m) → Begun m (y ++ c ∷ []) → Stepped rs l n y c
    off : next st (reading rs (part l n)) c ≡ bad Slip → Stepped rs l n y c

  step : (rs : List Range) (l : Left) (n : NumberSoFar) (y : List ℕ) (c : ℕ) (t : List ℕ) → (c ≡ comma → ⊥) → Joins l (c ∷ t) → {k : Kind} → k ≡ kind st.joiner c
      → IsKind st.joiner c k → Begun n y
      → Stepped rs l n y c
  unfolding by_kind
  step rs l Unread y c t h j e (is_digit d) (blanks b) =
      on (Open (min too_large (c - zero_digit))) (next-at st ok rs (part l Unread) c e ∙ ap (λ (x : ℕ). reading rs (part l (Open x))) (omega (arith, d.1)))
      (opened y (c ∷ []) (c - zero_digit) b (g.one d) refl)
  step rs l (Open x) y c t h j e (is_digit d) (opened u s v b z ey) =
      on (Open (min too_large (10 * v + (c - zero_digit)))) (next-at st ok rs (part l (Open (min too_large v))) c e ∙ ap (λ (x : ℕ). reading rs (part l (Open x))) (omega arith))
      (opened u (s ++ c ∷ []) (10 * v + (c - zero_digit)) b (g.more c z d) (ap (λ (z : List ℕ). z ++ c ∷ []) ey ∙ append_assoc u s (c ∷ [])))
  step rs l (Closed x) y c t h j e (is_digit d) (closed u s w v b z b' ey) = off (next-at st ok rs (part l (Closed (min too_large v))) c e)
  step rs l Unread y c t h j e (is_blank d) (blanks b) = on Unread (next-at st ok rs (part l Unread) c e) (blanks (blanks-snoc c b d))
  step rs l (Open x) y c t h j e (is_blank d) (opened u s v b z ey) =
      on (Closed (min too_large v)) (next-at st ok rs (part l (Open (min too_large v))) c e)
      (closed u s (c ∷ []) v b z (g.cons d g.nil) (ap (λ (z : List ℕ). z ++ c ∷ []) ey))
  step rs l (Closed x) y c t h j e (is_blank d) (closed u s w v b z b' ey) =
      on (Closed (min too_large v)) (next-at st ok rs (part l (Closed (min too_large v))) c e)
      (closed u s (w ++ c ∷ []) v b z (blanks-snoc c b' d) (ap (λ (z : List ℕ). z ++ c ∷ []) ey ∙ append_assoc (u ++ s) w (c ∷ [])))
  step rs Alone n y c t h (cut (b.cons f k)) e (is_joiner d) x = absurd (f d)
  step rs (From a) n y c t h any e (is_joiner d) x = off (next-at st ok rs (part (From a) n) c e)
  step rs l n y c t h j e (is_comma d) x = absurd (h d)
  step rs l n y c t h j e is_other x = off (next-at st ok rs (part l n) c e)

  joins_tail : {l : Left} {c : ℕ} {t : List ℕ} → Joins l (c ∷ t) → Joins l t
  joins_tail (cut (b.cons f k)) = cut k
  joins_tail any = any

  -- read to its end, or stopped at a slip
  pub data Ran (rs : List Range) (l : Left) (n : NumberSoFar) (y t : List ℕ) : Type 0 where
    read : (m : NumberSoFar) → reads st (reading rs (part l n)) t ≡ reading rs (part l m) → Begun m (y ++ t) → Ran rs l n y t
    stopped : reads st (reading rs (part l n)) t ≡ bad Slip → Ran rs l n y t

  run : (rs : List Range) (l : Left) (t : List ℕ) → b.Free comma t → Joins l t → (n : NumberSoFar) (y : List ℕ) → Begun n y → Ran rs l n y t
  unfolding reads
  run rs l [] f j n y x = read n refl (subst (Begun n) (sym (append-nil y)) x)
  run rs l (c ∷ t) (b.cons h f) j n y x = go (λ m z. run rs l t f (joins_tail j) m (y ++ c ∷ []) z) (step rs l n y c t h j refl (kind_is st.joiner c) x)
    where
      go : ((m : NumberSoFar) → Begun m (y ++ c ∷ []) → Ran rs l m (y ++ c ∷ []) t) → Stepped rs l n y c → Ran rs l n y (c ∷ t)
      go ih (off e) = stopped (ap (λ (z : TextSoFar). reads st z t) e ∙ reads_bad st Slip t)
      go ih (on m e z) = then (ih m z)
        where
          then : Ran rs l m (y ++ c ∷ []) t → Ran rs l n y (c ∷ t)
          then (read k q w) = read k (ap (λ (z : TextSoFar). reads st z t) e ∙ q) (subst (Begun k) (append_assoc y (c ∷ []) t) w)
          then (stopped q) = stopped (ap (λ (z : TextSoFar). reads st z t) e ∙ q)

  -- ---- what a number's text is

  -- digits with blanks around them, or blanks, or neither, at which the reading stops
  pub data Text (rs : List Range) (l : Left) (t : List ℕ) : Type 0 where
    written : (v : ℕ) → b.Written t v → Text rs l t
    blank : g.Blanks t → Text rs l t
    slipped : reads st (reading rs (part l Unread)) t ≡ bad Slip → Text rs l t

  pub text : (rs : List Range) (l : Left) (t : List ℕ) → b.Free comma t → Joins l t → Text rs l t
  text rs l t f j = go (run rs l t f j Unread [] (blanks g.nil))
    where
      from : {n : NumberSoFar} → Begun n t → Text rs l t
      from (blanks x) = blank x
      from (opened u d v x z e) = written v (subst (λ (w : List ℕ). b.Written w v) (append-nil (u ++ d) ∙ sym e) (b.digits x z g.nil))
      from (closed u d w v x z y e) = written v (subst (λ (w : List ℕ). b.Written w v) (sym e) (b.digits x z y))

      go : Ran rs l Unread [] t → Text rs l t
      go (read m e x) = from x
      go (stopped e) = slipped e

  -- what was read last is no digit of a number at hand
  abbrev numberless : TextSoFar → Bool
  numberless (bad d) = true
  numberless (reading rs p) = unread p.number

  not_written : (rs : List Range) (l : Left) (t : List ℕ) (v : ℕ) → numberless (reads st (reading rs (part l Unread)) t) ≡ true → b.Written t v → ⊥
  not_written rs l t v e w =
      let k = written_read st ok rs l w refl in
      true≢false (sym e ∙ ap numberless k.read ∙ k.full)

  pub not-digits : (rs : List Range) (l : Left) {t : List ℕ} → reads st (reading rs (part l Unread)) t ≡ bad Slip → (v : ℕ) → b.Written t v → ⊥
  not-digits rs l {t} e v w = not_written rs l t v (ap numberless e) w

  pub not-blanks : {t : List ℕ} → g.Blanks t → (v : ℕ) → b.Written t v → ⊥
  not-blanks {t} x v w = not_written [] Alone t v (ap numberless (blanks_none st ok [] Alone x)) w

  -- a number of the style, a huge one, or none
  pub data Judged (t : List ℕ) : Type 0 where
    good : (a : ℕ) → g.Numeral st t a → Judged t
    huge : b.Huge st t → Judged t
    none : b.NoNumber st t → Judged t

  numeral : {t : List ℕ} {v : ℕ} → b.Written t v → st.first ≤ v → v ≤ list_limit + st.first → g.Numeral st t (v - st.first)
  numeral (b.digits {d = d} {v = v} x y z) h l = let k : v ≡ v - st.first + st.first = omega arith in g.number x (subst (g.Digits d) k y) z (omega arith)

  pub judge : (l : Left) (t : List ℕ) → b.Free comma t → Joins l t → Judged t
  judge l t f j = go (text [] l t f j)
    where
      go : Text [] l t → Judged t
      go (written v w) =
          by_lt v st.first
          (λ h. none (b.below w h))
          (λ h. by_lt (list_limit + st.first) v (λ k. huge (b.above w k)) (λ k. good (v - st.first) (numeral w h k)))
      go (blank x) = none (b.other (not-blanks x))
      go (slipped e) = none (b.other (not-digits [] l e))
