-- Every text with a bad token is refused, for its first one.
use mathlib.Core.Path.{◌≡◌, refl, sym, ap, ◌∙◌}
use mathlib.Core.Logic.{◌⊎◌, inl, inr}
use mathlib.Core.List.{List, [], ◌∷◌, ◌++◌}
use Prim.Native.Nat.{ℕ, ◌<◌, min}
use native.Mathlib.Omega.{arith}
use borrow.Author.Tests.{lt-leb}
use Rattle.style.specs.Promises.{Allowed}
use Rattle.style.specs.declared.Style.{Style}
use Rattle.text.specs.Lists.{comma, Range}
use Rattle.text.specs.Grammar as g
use Rattle.text.specs.Faults as b
use Rattle.text.specs.Readings.{too_large, NumberSoFar, Unread, Left, Alone, From, Part, part, fresh, value, empty, token}
use Rattle.text.specs.Readings.{TextSoFar, bad, reading, token_ends, reads, no_list, text_ends, parsed, parse}
use Rattle.text.specs.declared.Fault.{Fault}
use Rattle.text.specs.declared.Fault.TheVariants.{Slip, Huge}
use Rattle.text.proofs.Steps.{ranged_bad, token_bad, token-empty, other, bit_below, bit-over}
use Rattle.text.proofs.Tokens.{reads_bad}
use Rattle.text.proofs.Accepts.{reads-append, reads-cons, blanks_none, Kept, written_read, number_read, part-token, past_joiner, comma-read, upto_comma}
use Rattle.text.proofs.Numbers.{cut, any, Text, written, blank, slipped, text}
use Rattle.std.specs.Prelude.{Ok, Err, Some, None}

-- what is on either side of another byte
pub free_left : {c : ℕ} (t : List ℕ) (d : ℕ) (u : List ℕ) → b.Free c (t ++ d ∷ u) → b.Free c t
free_left [] d u f = b.nil
free_left (x ∷ t) d u (b.cons h f) = b.cons h (free_left t d u f)

pub free_right : {c : ℕ} (t : List ℕ) (d : ℕ) (u : List ℕ) → b.Free c (t ++ d ∷ u) → b.Free c u
free_right [] d u (b.cons h f) = f
free_right (x ∷ t) d u (b.cons h f) = free_right t d u f

module _ (st : Style) (ok : Allowed st) where
  -- ---- a bad token

  -- it stops the reading, or it ends as no range, or it is blank
  data Fails (rs : List Range) (d : Fault) (t : List ℕ) : Type 0 where
    stops : reads st (reading rs fresh) t ≡ bad d → Fails rs d t
    ends : (p : Part) → reads st (reading rs fresh) t ≡ reading rs p → token st.first p ≡ Err d → Fails rs d t
    blanks : d ≡ Slip → g.Blanks t → Fails rs d t

  -- a huge number is read as one, and one below the first as a slip
  huge_read : (rs : List Range) (l : Left) {t : List ℕ} → b.Huge st t → Kept st ok rs l t (Err Huge)
  huge_read rs l (b.above {v = v} w h) = written_read st ok rs l w (bit-over st.first (min too_large v) (omega (arith, ok.first)) (omega (arith, ok.first)))

  below_read : (rs : List Range) (l : Left) {t : List ℕ} {v : ℕ} → b.Written t v → v < st.first → Kept st ok rs l t (Err Slip)
  below_read rs l {v = v} w h = written_read st ok rs l w (bit_below st.first (min too_large v) (omega (arith, h)))

  -- a bad number without a joiner
  single : (rs : List Range) (d : Fault) {t : List ℕ} → Kept st ok rs Alone t (Err d) → Fails rs d t
  single rs d k = ends (part Alone k.n) k.read (part-token st ok Alone k.n k.is k.full ∙ ranged_bad Alone d)

  -- a bad left number
  left : (rs : List Range) (d : Fault) (t : List ℕ) (n : NumberSoFar) → reads st (reading rs fresh) t ≡ reading rs (part Alone n) → value st.first n ≡ Err d
      → (u : List ℕ) → Fails rs d (t ++ st.joiner ∷ u)
  left rs d t n e f u = stops (past_joiner st ok rs t n e f u ∙ reads_bad st d u)

  -- past a good left number
  past : (rs : List Range) {t : List ℕ} {a : ℕ} → g.Numeral st t a → (u : List ℕ) → reads st (reading rs fresh) (t ++ st.joiner ∷ u) ≡ reads st (reading rs (part (From a) Unread)) u
  past rs {t} x u = let k = number_read st ok rs Alone x in past_joiner st ok rs t k.n k.read k.is u

  right : (rs : List Range) (d : Fault) {t u : List ℕ} {a : ℕ} → g.Numeral st t a → Kept st ok rs (From a) u (Err d) → Fails rs d (t ++ st.joiner ∷ u)
  right rs d {u = u} {a = a} x k =
      ends (part (From a) k.n) (past rs x u ∙ k.read) (part-token st ok (From a) k.n k.is k.full ∙ ranged_bad (From a) d)

  huge_fails : (rs : List Range) {t : List ℕ} → b.HugeToken st t → Fails rs Huge t
  huge_fails rs (b.single x) = single rs Huge (huge_read rs Alone x)
  huge_fails rs (b.left {t = t} x u) = let k = huge_read rs Alone x in left rs Huge t k.n k.read k.is u
  huge_fails rs (b.right {a = a} x y) = right rs Huge x (huge_read rs (From a) y)

  none_fails : (rs : List Range) {t : List ℕ} → b.Free comma t → b.NoToken st t → Fails rs Slip t
  unfolding value empty
  none_fails rs f (b.single {t = t} j (b.other not)) = go (text st ok rs Alone t f (cut j))
    where
      go : Text st ok rs Alone t → Fails rs Slip t
      go (written v w) = absurd (not v w)
      go (blank x) = blanks refl x
      go (slipped e) = stops e
  none_fails rs f (b.single j (b.below w h)) = single rs Slip (below_read rs Alone w h)
  none_fails rs f (b.left {t = t} j (b.other not) u) = go (text st ok rs Alone t (free_left t st.joiner u f) (cut j))
    where
      go : Text st ok rs Alone t → Fails rs Slip (t ++ st.joiner ∷ u)
      go (written v w) = absurd (not v w)
      go (blank x) = left rs Slip t Unread (blanks_none st ok rs Alone x) refl u
      go (slipped e) =
          stops (reads-append st ok (reading rs fresh) t (st.joiner ∷ u) ∙ ap (λ (z : TextSoFar). reads st z (st.joiner ∷ u)) e ∙ reads_bad st Slip (st.joiner ∷ u))
  none_fails rs f (b.left {t = t} j (b.below w h) u) = let q = below_read rs Alone w h in left rs Slip t q.n q.read q.is u
  none_fails rs f (b.right {t = t} {u = u} {a = a} x (b.other not)) = go (text st ok rs (From a) u (free_right t st.joiner u f) any)
    where
      go : Text st ok rs (From a) u → Fails rs Slip (t ++ st.joiner ∷ u)
      go (written v w) = absurd (not v w)
      go (blank y) = ends (part (From a) Unread) (past rs x u ∙ blanks_none st ok rs (From a) y) (token_bad st.first (part (From a) Unread) Slip refl refl)
      go (slipped e) = stops (past rs x u ∙ e)
  none_fails rs f (b.right {a = a} x (b.below w h)) = right rs Slip x (below_read rs (From a) w h)
  none_fails rs f (b.falling {t = t} {u = u} {a = a} {b = c} x y h) =
      let k = number_read st ok rs (From a) y in
      ends (part (From a) k.n) (past rs x u ∙ k.read) (part-token st ok (From a) k.n k.is k.full ∙ other (Ok (Some (a, c))) (Err Slip) (lt-leb a c h))

  -- ---- a text with a bad token

  -- with a comma after it
  before-comma : (rs : List Range) (d : Fault) {t : List ℕ} → Fails rs d t → (u : List ℕ) → reads st (reading rs fresh) (t ++ comma ∷ u) ≡ bad d
  unfolding empty
  before-comma rs d {t} (stops e) u =
      reads-append st ok (reading rs fresh) t (comma ∷ u) ∙ ap (λ (z : TextSoFar). reads st z (comma ∷ u)) e ∙ reads_bad st d (comma ∷ u)
  before-comma rs d {t} (ends p e f) u =
      reads-append st ok (reading rs fresh) t (comma ∷ u) ∙ ap (λ (z : TextSoFar). reads st z (comma ∷ u)) e ∙ reads-cons st ok (reading rs p) comma u
      ∙ ap (λ (z : TextSoFar). reads st z u) (comma-read st ok rs p ∙ ap (token_ends rs) f) ∙ reads_bad st d u
  before-comma rs d {t} (blanks e x) u =
      reads-append st ok (reading rs fresh) t (comma ∷ u) ∙ ap (λ (z : TextSoFar). reads st z (comma ∷ u)) (blanks_none st ok rs Alone x) ∙ reads-cons st ok (reading rs fresh) comma u
      ∙ ap (λ (z : TextSoFar). reads st z u) (comma-read st ok rs fresh ∙ ap (token_ends rs) (token-empty st.first fresh refl) ∙ ap bad (sym e)) ∙ reads_bad st d u

  -- at the text's end, where blanks are no token after a good one
  at-end : (rs : List Range) (d : Fault) {t : List ℕ} → Fails rs d t → (rs ≡ []) ⊎ (g.Blanks t → ⊥) → parsed st.first (reads st (reading rs fresh) t) ≡ no_list d
  unfolding parsed empty
  at-end rs d (stops e) k = ap (parsed st.first) e
  at-end rs d (ends p e f) k = ap (parsed st.first) e ∙ ap (text_ends rs) f
  at-end rs d (blanks e x) (inl k) =
      ap (parsed st.first) (blanks_none st ok rs Alone x) ∙ ap (text_ends rs) (token-empty st.first fresh refl)
      ∙ ap (λ (qs : List Range). text_ends qs (Ok None)) k ∙ ap no_list (sym e)
  at-end rs d (blanks e x) (inr k) = absurd (k x)

  module _ (kind : List ℕ → Type 0) (d : Fault) (fails : (rs : List Range) (t : List ℕ) → b.Free comma t → kind t → Fails rs d t) where
    first_bad : (rs : List Range) {t : List ℕ} → b.FirstBad st kind t → (rs ≡ []) ⊎ (g.Blanks t → ⊥) → parsed st.first (reads st (reading rs fresh) t) ≡ no_list d
    unfolding parsed
    first_bad rs (b.only {t = t} f x) k = at-end rs d (fails rs t f x) k
    first_bad rs (b.here {t = t} f x u) k = ap (parsed st.first) (before-comma rs d (fails rs t f x) u)
    first_bad rs (b.later {u = u} {r = r} x h y) k = ap (parsed st.first) (upto_comma st ok rs x u) ∙ first_bad (rs ++ r ∷ []) y (inr h)

  pub slips : {t : List ℕ} → b.NotList st t → parse st t ≡ no_list Slip
  unfolding parse
  slips x = first_bad (b.NoToken st) Slip (λ rs t f z. none_fails rs f z) [] x (inl refl)

  pub huge_ones : {t : List ℕ} → b.NumberOver st t → parse st t ≡ no_list Huge
  unfolding parse
  huge_ones x = first_bad (b.HugeToken st) Huge (λ rs t f z. huge_fails rs z) [] x (inl refl)
