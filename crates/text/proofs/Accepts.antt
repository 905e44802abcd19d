-- Every text of the grammar is read, with its ranges.
use mathlib.Core.Path.{◌≡◌, refl, sym, ap, ap₂, ◌∙◌, subst}
use mathlib.Core.Logic.{⊎_elim, ◌⊎◌, inl, inr}
use mathlib.Core.Bool.{Bool, true, false, ◌&&◌, ◌||◌}
use mathlib.Core.List.{List, [], ◌∷◌, ◌++◌, append_assoc}
use Prim.Native.Nat.{ℕ, ◌+◌, ◌≤◌, min, ◌-◌}
use native.Mathlib.Omega.{arith}
use lib.Dec.{leb, eqb}
use borrow.Author.Tests.{le-leb, lt-leb, leb-true, eq-eqb, eqb-true, eqb-false}
use Rattle.word.proofs.Cases.{by_test, and-true, or-true}
use Rattle.style.specs.Promises.{Allowed}
use Rattle.style.specs.declared.Style.{Style}
use Rattle.text.specs.Lists.{comma, blank, digit, Range, zero_digit}
use Rattle.text.specs.Grammar as g
use Rattle.text.specs.Faults.{Written, digits}
use Rattle.text.specs.Readings.{kind, too_large, NumberSoFar, Unread, Open, Closed, Left, Alone, From, Part, part, fresh, bit_of, value, unread, empty, ranged, token}
use Rattle.text.specs.Readings.{by_joiner, by_kind, TextSoFar, reading, token_ends, after, next, reads, no_list, ranges, text_ends, parsed, parse}
use Rattle.text.specs.declared.Kind.{Kind}
use Rattle.text.specs.declared.Fault.{Fault}
use Rattle.text.specs.declared.Fault.TheVariants.{Slip}
use Rattle.text.proofs.Tokens.{reads_bad}
use Rattle.text.proofs.Steps.{kind-digit, kind-blank, kind_joiner, kind-comma, kind_other, chosen, token-at, bit_of_lem}
use Rattle.text.specs.declared.Kind.TheVariants.{Digit, Blank, Joiner, Comma, Other}
use Rattle.text.specs.Readings.{Value}
use Rattle.std.specs.Prelude.{Ok, Err, Some}

-- ---- what a byte is

or_cases : (a b : Bool) → a || b ≡ true → (a ≡ true) ⊎ (b ≡ true)
or_cases true b e = inl refl
or_cases false b e = inr e

-- the bytes from a to b
between_is : (a b c : ℕ) → leb a c && leb c b ≡ true → (a ≤ c) × (c ≤ b)
between_is a b c e = let q = and-true (leb a c) (leb c b) e in (leb-true a c q.0, leb-true c b q.1)

is_between : (a b c : ℕ) → (a ≤ c) × (c ≤ b) → leb a c && leb c b ≡ true
is_between a b c h = ap₂ ◌&&◌ (le-leb a c h.0) (le-leb c b h.1)

-- the bytes that the reader takes for digits and for blanks are the grammar's
pub digit_is : (c : ℕ) → digit c ≡ true → g.Digit c
digit_is c e = between_is 48 57 c e

pub is_digit_lem : (c : ℕ) → g.Digit c → digit c ≡ true
is_digit_lem c h = is_between 48 57 c h

pub blank_is : (c : ℕ) → blank c ≡ true → g.Blank c
blank_is c e = ⊎_elim (λ x. inl (eqb-true c 32 x)) (λ x. inr (between_is 9 13 c x)) (or_cases (eqb c 32) (leb 9 c && leb c 13) e)

pub is_blank_lem : (c : ℕ) → g.Blank c → blank c ≡ true
is_blank_lem c (inl e) = ap (λ (t : Bool). t || (leb 9 c && leb c 13)) (eq-eqb c 32 e)
is_blank_lem c (inr h) = ap (λ (t : Bool). eqb c 32 || t) (is_between 9 13 c h) ∙ or-true (eqb c 32)

pub blank_low : (c : ℕ) → g.Blank c → c ≤ 32
blank_low c (inl e) = omega arith
blank_low c (inr h) = omega (arith, h.1)

-- a blank is no digit
blank-kind : (j c : ℕ) → g.Blank c → Blank ≡ kind j c
blank-kind j c h = kind-blank j c (ap (λ (t : Bool). t && leb c 57) (lt-leb 48 c (omega (arith, blank_low c h)))) (is_blank_lem c h)

-- the kinds where j joins, with what they say of the byte
pub data IsKind (j c : ℕ) : Kind → Type 0 where
  is_digit : g.Digit c → IsKind j c (Digit (c - zero_digit))
  is_blank : g.Blank c → IsKind j c Blank
  is_joiner : c ≡ j → IsKind j c Joiner
  is_comma : c ≡ comma → IsKind j c Comma
  is_other : IsKind j c Other

pub kind_is : (j c : ℕ) → IsKind j c (kind j c)
kind_is j c = go (digit c) refl (blank c) refl (eqb c j) refl (eqb c comma) refl
  where
    go : (a : Bool) → digit c ≡ a → (b : Bool) → blank c ≡ b → (k : Bool) → eqb c j ≡ k → (m : Bool) → eqb c comma ≡ m → IsKind j c (kind j c)
    go true e b f k h m i = subst (IsKind j c) (kind-digit j c e) (is_digit (digit_is c e))
    go false e true f k h m i = subst (IsKind j c) (kind-blank j c e f) (is_blank (blank_is c f))
    go false e false f true h m i = subst (IsKind j c) (kind_joiner j c e f (eqb-true c j h)) (is_joiner (eqb-true c j h))
    go false e false f false h true i = subst (IsKind j c) (kind-comma j c e f (eqb-false c j h) (eqb-true c comma i)) (is_comma (eqb-true c comma i))
    go false e false f false h false i = subst (IsKind j c) (kind_other j c e f (eqb-false c j h) (eqb-false c comma i)) is_other

-- an allowed joiner is no digit, no comma and no blank
pub record Apart (j : ℕ) : Type 0 where
  pub digit : digit j ≡ false
  pub comma : comma ≡ j → ⊥
  pub blank : blank j ≡ false

pub joiner_apart : (y : Style) → Allowed y → Apart y.joiner
joiner_apart y ok = record {
  digit = by_test (digit y.joiner) (λ e. let d = digit_is y.joiner e in absurd (ok.joiner.no_digit d.0 d.1)) (λ e. e);
  comma = λ e. ok.joiner.no_comma (sym e);
  blank = by_test (blank y.joiner) (λ e. absurd (no_blank (blank_is y.joiner e))) (λ e. e);
}
  where
    no_blank : g.Blank y.joiner → ⊥
    no_blank (inl e) = ok.joiner.no_blank e
    no_blank (inr h) = omega (arith, h.1, ok.joiner.printable)

-- ---- reading on, in an allowed style

module _ (st : Style) (ok : Allowed st) where
  apart : Apart st.joiner
  apart = joiner_apart st ok

  pub reads-append : (x : TextSoFar) (a b : List ℕ) → reads st x (a ++ b) ≡ reads st (reads st x a) b
  unfolding reads
  reads-append x [] b = refl
  reads-append x (c ∷ a) b = reads-append (next st x c) a b

  reads-one : (x : TextSoFar) (c : ℕ) → reads st x (c ∷ []) ≡ next st x c
  unfolding reads
  reads-one x c = refl

  pub reads-cons : (x : TextSoFar) (c : ℕ) (t : List ℕ) → reads st x (c ∷ t) ≡ reads st (next st x c) t
  unfolding reads
  reads-cons x c t = refl

  pub next-at : (rs : List Range) (p : Part) (c : ℕ) {k : Kind} → k ≡ kind st.joiner c → next st (reading rs p) c ≡ after st.first rs p (by_kind st.first p k)
  unfolding next
  next-at rs p c e = ap (λ (x : Kind). after st.first rs p (by_kind st.first p x)) (sym e)

  -- ---- every text of the grammar is read

  pub blanks_none : (rs : List Range) (l : Left) {t : List ℕ} → g.Blanks t → reads st (reading rs (part l Unread)) t ≡ reading rs (part l Unread)
  unfolding reads by_kind
  blanks_none rs l g.nil = refl
  blanks_none rs l (g.cons {c = c} {t = t} e b) =
      ap (λ (x : TextSoFar). reads st x t) (next-at rs (part l Unread) c (blank-kind st.joiner c e)) ∙ blanks_none rs l b

  blanks-closed : (rs : List Range) (l : Left) (v : ℕ) {t : List ℕ} → g.Blanks t → reads st (reading rs (part l (Closed v))) t ≡ reading rs (part l (Closed v))
  unfolding reads by_kind
  blanks-closed rs l v g.nil = refl
  blanks-closed rs l v (g.cons {c = c} {t = t} e b) =
      ap (λ (x : TextSoFar). reads st x t) (next-at rs (part l (Closed v)) c (blank-kind st.joiner c e)) ∙ blanks-closed rs l v b

  digits-read : (rs : List Range) (l : Left) {t : List ℕ} {v : ℕ} → g.Digits t v → reads st (reading rs (part l Unread)) t ≡ reading rs (part l (Open (min too_large v)))
  unfolding by_kind
  digits-read rs l (g.one {c = c} e) =
      reads-one (reading rs (part l Unread)) c ∙ next-at rs (part l Unread) c (kind-digit st.joiner c (is_digit_lem c e))
      ∙ ap (λ (x : ℕ). reading rs (part l (Open x))) (omega arith)
  digits-read rs l (g.more {t = t} {v = v} c d e) =
      reads-append (reading rs (part l Unread)) t (c ∷ [])
      ∙ ap (λ (x : TextSoFar). reads st x (c ∷ [])) (digits-read rs l d)
      ∙ reads-one (reading rs (part l (Open (min too_large v)))) c
      ∙ next-at rs (part l (Open (min too_large v))) c (kind-digit st.joiner c (is_digit_lem c e))
      ∙ ap (λ (x : ℕ). reading rs (part l (Open x))) (omega arith)

  -- digits that were read, blanks around them: n is what is kept of them, and x what that is worth
  pub record Kept (rs : List Range) (l : Left) (t : List ℕ) (x : Value) : Type 0 where
    pub n : NumberSoFar
    pub read : reads st (reading rs (part l Unread)) t ≡ reading rs (part l n)
    pub is : value st.first n ≡ x
    pub full : unread n ≡ false

  -- blanks after the digits
  tail_read : (rs : List Range) (l : Left) (v : ℕ) {w : List ℕ} → g.Blanks w
      → (n : NumberSoFar) × (reads st (reading rs (part l (Open v))) w ≡ reading rs (part l n)) × (value st.first n ≡ bit_of st.first v) × (unread n ≡ false)
  unfolding reads by_kind value
  tail_read rs l v g.nil = (Open v, refl, refl, refl)
  tail_read rs l v (g.cons {c = c} {t = t} e b) = (
    Closed v,
    ap (λ (x : TextSoFar). reads st x t) (next-at rs (part l (Open v)) c (blank-kind st.joiner c e)) ∙ blanks-closed rs l v b,
    refl,
    refl,
  )

  pub written_read : (rs : List Range) (l : Left) {t : List ℕ} {v : ℕ} {x : Value} → Written t v → bit_of st.first (min too_large v) ≡ x → Kept rs l t x
  written_read rs l (digits {u = u} {d = d} {w = w} {v = v} b x y) e =
      let q = tail_read rs l (min too_large v) y in
      record {
        n = q.0;
        read =
            reads-append (reading rs (part l Unread)) (u ++ d) w
            ∙ ap (λ (z : TextSoFar). reads st z w) (reads-append (reading rs (part l Unread)) u d ∙ ap (λ (z : TextSoFar). reads st z d) (blanks_none rs l b) ∙ digits-read rs l x)
            ∙ q.1;
        is = q.2 ∙ e;
        full = q.3;
      }

  -- a number of an allowed style is not too large
  pub number_read : (rs : List Range) (l : Left) {t : List ℕ} {a : ℕ} → g.Numeral st t a → Kept rs l t (Ok a)
  number_read rs l (g.number {a = a} b x y h) =
      written_read rs l (digits b x y) (bit_of_lem st.first (min too_large (a + st.first)) a (omega (arith, ok.first)) h)

  -- a token
  pub part-token : (l : Left) (n : NumberSoFar) {x : Value} → value st.first n ≡ x → unread n ≡ false → token st.first (part l n) ≡ ranged l x
  unfolding empty
  part-token Alone n e f = token-at st.first (part Alone n) f refl e
  part-token (From a) n e f = token-at st.first (part (From a) n) refl refl e

  joiner_read : (rs : List Range) (n : NumberSoFar) {x : Value} → value st.first n ≡ x
      → next st (reading rs (part Alone n)) st.joiner ≡ after st.first rs (part Alone n) (by_joiner Alone x)
  unfolding by_kind
  joiner_read rs n e =
      next-at rs (part Alone n) st.joiner (kind_joiner st.joiner st.joiner apart.digit apart.blank refl)
      ∙ ap (λ (x : Value). after st.first rs (part Alone n) (by_joiner Alone x)) e

  -- past the joiner
  pub past_joiner : (rs : List Range) (t : List ℕ) (n : NumberSoFar) {x : Value} → reads st (reading rs fresh) t ≡ reading rs (part Alone n) → value st.first n ≡ x → (u : List ℕ)
      → reads st (reading rs fresh) (t ++ st.joiner ∷ u) ≡ reads st (after st.first rs (part Alone n) (by_joiner Alone x)) u
  past_joiner rs t n e f u =
      reads-append (reading rs fresh) t (st.joiner ∷ u)
      ∙ ap (λ (z : TextSoFar). reads st z (st.joiner ∷ u)) e
      ∙ reads-cons (reading rs (part Alone n)) st.joiner u
      ∙ ap (λ (z : TextSoFar). reads st z u) (joiner_read rs n f)

  pub comma-read : (rs : List Range) (p : Part) → next st (reading rs p) comma ≡ token_ends rs (token st.first p)
  unfolding by_kind
  comma-read rs p = next-at rs p comma (kind-comma st.joiner comma refl refl apart.comma refl)

  token-read : (rs : List Range) {t : List ℕ} {r : Range} → g.Token st t r
      → (p : Part) × (reads st (reading rs fresh) t ≡ reading rs p) × (token st.first p ≡ Ok (Some (r.low, r.high)))
  token-read rs (g.single {t = t} {a = a} x) =
      let q = number_read rs Alone x in
      (part Alone q.n, q.read, part-token Alone q.n q.is q.full)
  token-read rs (g.pair {t = t} {u = u} {a = a} {b = b} x y h) =
      let q = number_read rs Alone x in
      let s = number_read rs (From a) y in (
        part (From a) s.n,
        past_joiner rs t q.n q.read q.is u ∙ s.read,
        part-token (From a) s.n s.is s.full ∙ chosen _ _ (le-leb a b h),
      )

  -- up to a comma
  pub upto_comma : (rs : List Range) {t : List ℕ} {r : Range} → g.Token st t r → (u : List ℕ) → reads st (reading rs fresh) (t ++ comma ∷ u) ≡ reads st (reading (rs ++ r ∷ []) fresh) u
  upto_comma rs {t} x u =
      let q = token-read rs x in
      reads-append (reading rs fresh) t (comma ∷ u)
      ∙ ap (λ (z : TextSoFar). reads st z (comma ∷ u)) q.1
      ∙ reads-cons (reading rs q.0) comma u
      ∙ ap (λ (z : TextSoFar). reads st z u) (comma-read rs q.0 ∙ ap (token_ends rs) q.2)

  ended-parsed : (rs : List Range) (r : Range) → parsed st.first (reading (rs ++ r ∷ []) fresh) ≡ ranges (rs ++ r ∷ [])
  unfolding parsed token empty
  ended-parsed [] r = refl
  ended-parsed (q ∷ rs) r = refl

  list_read : (rs : List Range) {t : List ℕ} {qs : List Range} → g.Listed st t qs → parsed st.first (reads st (reading rs fresh) t) ≡ ranges (rs ++ qs)
  unfolding parsed
  list_read rs (g.last x) = let q = token-read rs x in ap (parsed st.first) q.1 ∙ ap (text_ends rs) q.2
  list_read rs (g.ended {u = u} {r = r} x b) = ap (parsed st.first) (upto_comma rs x u ∙ blanks_none (rs ++ r ∷ []) Alone b) ∙ ended-parsed rs r
  list_read rs (g.more {u = u} {r = r} {rs = qs} x y) =
      ap (parsed st.first) (upto_comma rs x u) ∙ list_read (rs ++ r ∷ []) y ∙ ap ranges (append_assoc rs (r ∷ []) qs)

  pub complete : {t : List ℕ} {rs : List Range} → g.Listed st t rs → parse st t ≡ ranges rs
  unfolding parse
  complete x = list_read [] x

  -- digits that are no number of the style
  pub no_number : {d : List ℕ} {v : ℕ} (f : Fault) → g.Digits d v → bit_of st.first (min too_large v) ≡ Err f → parse st d ≡ no_list f
  unfolding parse parsed token empty value
  no_number f x e = ap (parsed st.first) (digits-read [] Alone x) ∙ ap (λ (z : Value). text_ends [] (ranged Alone z)) e

  -- digits with another byte behind them, or with a digit after blanks
  pub broken : {d : List ℕ} {v : ℕ} → g.Digits d v → (c : ℕ) → (g.Digit c → ⊥) → (g.Blank c → ⊥) → (c ≡ st.joiner → ⊥) → (c ≡ comma → ⊥) → (t : List ℕ) → parse st (d ++ c ∷ t) ≡ no_list Slip
  unfolding parse parsed by_kind
  broken {d} {v} x c e f g h t =
      ap (parsed st.first)
      (reads-append (reading [] fresh) d (c ∷ t) ∙ ap (λ (z : TextSoFar). reads st z (c ∷ t)) (digits-read [] Alone x)
      ∙ reads-cons (reading [] (part Alone (Open (min too_large v)))) c t
      ∙ ap (λ (z : TextSoFar). reads st z t) (next-at [] (part Alone (Open (min too_large v))) c (kind_other st.joiner c no_digit no_blank g h)) ∙ reads_bad st Slip t)
    where
      no_digit : digit c ≡ false
      no_digit = by_test (digit c) (λ q. absurd (e (digit_is c q))) (λ q. q)

      no_blank : blank c ≡ false
      no_blank = by_test (blank c) (λ q. absurd (f (blank_is c q))) (λ q. q)

  pub parted : {d : List ℕ} {v : ℕ} → g.Digits d v → (c : ℕ) → g.Blank c → {w : List ℕ} → g.Blanks w → (k : ℕ) → g.Digit k → (t : List ℕ) → parse st (d ++ c ∷ (w ++ k ∷ t)) ≡ no_list Slip
  unfolding parse parsed by_kind
  parted {d} {v} x c e {w} b k f t =
      ap (parsed st.first)
      (reads-append (reading [] fresh) d (c ∷ (w ++ k ∷ t)) ∙ ap (λ (z : TextSoFar). reads st z (c ∷ (w ++ k ∷ t))) (digits-read [] Alone x)
      ∙ reads-cons (reading [] (part Alone (Open (min too_large v)))) c (w ++ k ∷ t)
      ∙ ap (λ (z : TextSoFar). reads st z (w ++ k ∷ t)) (next-at [] (part Alone (Open (min too_large v))) c (blank-kind st.joiner c e))
      ∙ reads-append (reading [] (part Alone (Closed (min too_large v)))) w (k ∷ t) ∙ ap (λ (z : TextSoFar). reads st z (k ∷ t)) (blanks-closed [] Alone (min too_large v) b)
      ∙ reads-cons (reading [] (part Alone (Closed (min too_large v)))) k t
      ∙ ap (λ (z : TextSoFar). reads st z t) (next-at [] (part Alone (Closed (min too_large v))) k (kind-digit st.joiner k (is_digit_lem k f))) ∙ reads_bad st Slip t)
