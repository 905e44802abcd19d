-- A piece and what stands before it: lengths, and bytes put.
use mathlib.Core.Path.{◌≡◌, refl, sym, ap, ◌∙◌, subst}
use mathlib.Core.Bool.{Bool, true, false}
use mathlib.Core.List.{List, [], ◌∷◌, ◌++◌, append_assoc, append-nil}
use Prim.Native.Nat.{ℕ, zero, suc, ◌+◌, ◌-◌, ◌*◌, ◌≤◌, ◌<◌}
use native.Mathlib.Omega.{arith}
use lib.ListN.{length, set, length-append, length-set}
use Rattle.word.proofs.Cases.{by_eq, by_lt}
use Rattle.style.specs.Promises.{Allowed}
use Rattle.style.specs.declared.Style.{Style}
use Rattle.text.specs.Lists.{comma, space, list_limit, Range, range}
use Rattle.print.specs.Texts.{decimal, size_of, singles, cut, printed, gap, others, text}
use Rattle.print.specs.Kernels.{separator, pieces_at, Puts}
use Rattle.print.proofs.Decimals.{digits-most, digits_some}
use Rattle.print.proofs.Printed.{printed-one, printed_two, cut_short, cut_long, others-append}
use Rattle.print.proofs.Buffer.{puts_none, puts_one, puts_then, puts_is, puts_long}

-- ---- the lengths

gap-most : (b : Bool) → (0 < length (gap b)) × (length (gap b) ≤ 2)
gap-most true = (omega arith, omega arith)
gap-most false = (omega arith, omega arith)

pub gap_length : (b : Bool) (at : ℕ) → length (separator b at) ≤ 2
gap_length b zero = omega arith
gap_length b (suc at) = (gap-most b).1

pub gap_none : (b : Bool) (at : ℕ) → at ≡ 0 → 0 ≡ length (separator b at)
gap_none b zero e = refl
gap_none b (suc at) e = absurd (omega arith)

gap_is : (b : Bool) (at : ℕ) → (at ≡ 0 → ⊥) → gap b ≡ separator b at
gap_is b zero e = absurd (e refl)
gap_is b (suc at) e = refl

-- with a blank, and without
gap_full : (b : Bool) (at : ℕ) → (at ≡ 0 → ⊥) → b ≡ true → comma ∷ space ∷ [] ≡ separator b at
gap_full b at e f = ap gap (sym f) ∙ gap_is b at e

gap_tight : (b : Bool) (at : ℕ) → (at ≡ 0 → ⊥) → b ≡ false → comma ∷ [] ≡ separator b at
gap_tight b at e f = ap gap (sym f) ∙ gap_is b at e

pub gap_two : (b : Bool) (at : ℕ) → (at ≡ 0 → ⊥) → b ≡ true → 2 ≡ length (separator b at)
gap_two b at e f = ap length (gap_full b at e f)

pub gap-one : (b : Bool) (at : ℕ) → (at ≡ 0 → ⊥) → b ≡ false → 1 ≡ length (separator b at)
gap-one b at e f = ap length (gap_tight b at e f)

pub gap-room : (b : Bool) (at : ℕ) → (at ≡ 0 → ⊥) → 0 < length (separator b at)
gap-room b at e = omega (arith, (gap-most b).0, ap length (gap_is b at e))

pub puts_gap_none : (b : Bool) (at : ℕ) (out : List ℕ) → at ≡ 0 → Puts at (separator b at) 0 out out
puts_gap_none b zero out e = puts_none 0 out
puts_gap_none b (suc at) out e = absurd (omega arith)

pub puts_gap_two : (b : Bool) (at : ℕ) (out : List ℕ) → (at ≡ 0 → ⊥) → b ≡ true → at + length (separator b at) ≤ length out
    → Puts at (separator b at) (at + 2) out (set (set out at comma) (at + 1) space)
puts_gap_two b at out e f h =
    let l : at + 2 ≤ length out = omega (arith, gap_two b at e f) in
    puts_is at (at + 2) (comma ∷ space ∷ []) (separator b at) out (set (set out at comma) (at + 1) space) (gap_full b at e f)
    (puts_then at (at + 1) (at + 2) (comma ∷ []) (space ∷ []) out (set out at comma) (set (set out at comma) (at + 1) space) (omega arith)
    (puts_one at comma out (omega arith))
    (subst (λ (r : ℕ). Puts (at + 1) (space ∷ []) r (set out at comma) (set (set out at comma) (at + 1) space)) (omega arith)
    (puts_one (at + 1) space (set out at comma) (omega (arith, length-set out at comma)))))

pub puts_gap_one : (b : Bool) (at : ℕ) (out : List ℕ) → (at ≡ 0 → ⊥) → b ≡ false → at + length (separator b at) ≤ length out
    → Puts at (separator b at) (at + 1) out (set out at comma)
puts_gap_one b at out e f h =
    puts_is at (at + 1) (comma ∷ []) (separator b at) out (set out at comma) (gap_tight b at e f)
    (puts_one at comma out (omega (arith, gap-one b at e f)))

pub single-length : (y : Style) (x : ℕ) → length (decimal (x + y.first)) ≡ length (printed y (range x x))
single-length y x = sym (ap length (printed-one y x x refl))

pub two_length : (y : Style) (a b : ℕ) → (a ≡ b → ⊥) → length (printed y (range a b)) ≡ length (decimal (a + y.first)) + 1 + length (decimal (b + y.first))
two_length y a b e = ap length (printed_two y a b e) ∙ length-append (decimal (a + y.first)) (y.joiner ∷ decimal (b + y.first)) ∙ omega arith

pub ten_digits : (x : ℕ) → x < 10_000_000_000 → length (decimal x) ≤ 10
ten_digits x h = digits-most 9 x (omega arith)

-- a number of an allowed style
pub counted : (y : Style) → Allowed y → (a : ℕ) → a ≤ list_limit → a + y.first < 10_000_000_000
counted y ok a h = omega (arith, ok.first)

pub printed_some : (y : Style) (r : Range) → 0 < length (printed y r)
printed_some y r =
    by_eq r.low r.high
    (λ e. omega (arith, ap length (printed-one y r.low r.high e), digits_some (r.low + y.first)))
    (λ e. omega (arith, two_length y r.low r.high e))

pub printed-length : (y : Style) → Allowed y → (a b : ℕ) → a ≤ list_limit → b ≤ list_limit → length (printed y (range a b)) ≤ 21
printed-length y ok a b h l =
    by_eq a b
    (λ e. omega (arith, ap length (printed-one y a b e), ten_digits (a + y.first) (counted y ok a h)))
    (λ e. omega (arith, two_length y a b e, ten_digits (a + y.first) (counted y ok a h), ten_digits (b + y.first) (counted y ok b l)))

-- ---- pieces after pieces

pub pieces_none : (y : Style) (at : ℕ) → pieces_at y at [] ≡ []
unfolding text others
pieces_none y zero = refl
pieces_none y (suc at) = refl

pieces_more : (y : Style) (at : ℕ) (r : Range) (ps : List Range) → pieces_at y at (r ∷ ps) ≡ (separator y.blank at ++ printed y r) ++ others y ps
unfolding text others
pieces_more y zero r ps = refl
pieces_more y (suc at) r ps = sym (append_assoc (gap y.blank) (printed y r) (others y ps))

pieces-others : (y : Style) (at : ℕ) (ps : List Range) → 0 < at → pieces_at y at ps ≡ others y ps
pieces-others y zero ps h = absurd (omega arith)
pieces-others y (suc at) ps h = refl

pub pieces-one : (y : Style) (at : ℕ) (r : Range) → pieces_at y at (r ∷ []) ≡ separator y.blank at ++ printed y r
unfolding others
pieces-one y at r = pieces_more y at r [] ∙ append-nil (separator y.blank at ++ printed y r)

pieces_some : (y : Style) (at : ℕ) (r : Range) (ps : List Range) → 0 < length (pieces_at y at (r ∷ ps))
pieces_some y at r ps =
    omega (
      arith,
      ap length (pieces_more y at r ps),
      length-append (separator y.blank at ++ printed y r) (others y ps),
      length-append (separator y.blank at) (printed y r),
      printed_some y r,
    )

pub pieces-append : (y : Style) (at : ℕ) (ps qs : List Range) → pieces_at y at (ps ++ qs) ≡ pieces_at y at ps ++ pieces_at y (at + length (pieces_at y at ps)) qs
pieces-append y at [] qs =
    let e : at + length (pieces_at y at []) ≡ at = omega (arith, ap length (pieces_none y at)) in
    sym (ap (λ (t : List ℕ). t ++ pieces_at y (at + length (pieces_at y at [])) qs) (pieces_none y at) ∙ ap (λ (k : ℕ). pieces_at y k qs) e)
pieces-append y at (r ∷ ps) qs =
    pieces_more y at r (ps ++ qs)
    ∙ ap (λ (t : List ℕ). (separator y.blank at ++ printed y r) ++ t) (others-append y ps qs)
    ∙ sym (append_assoc (separator y.blank at ++ printed y r) (others y ps) (others y qs))
    ∙ ap (λ (t : List ℕ). t ++ others y qs) (sym (pieces_more y at r ps))
    ∙ ap (λ (t : List ℕ). pieces_at y at (r ∷ ps) ++ t) (sym (pieces-others y (at + length (pieces_at y at (r ∷ ps))) qs (omega (arith, pieces_some y at r ps))))

pub pieces-length : (y : Style) (at : ℕ) (ps qs : List Range)
    → length (pieces_at y at (ps ++ qs)) ≡ length (pieces_at y at ps) + length (pieces_at y (at + length (pieces_at y at ps)) qs)
pieces-length y at ps qs = ap length (pieces-append y at ps qs) ∙ length-append (pieces_at y at ps) (pieces_at y (at + length (pieces_at y at ps)) qs)

-- ---- the numbers of a run, one by one

singles-split : (m n a : ℕ) → singles a (m + n) ≡ singles a m ++ singles (a + m) n
unfolding singles
singles-split zero n a =
    let e : a ≡ a + 0 = omega arith in
    let f : 0 + n ≡ n = omega arith in
    ap (singles a) f ∙ ap (λ (k : ℕ). singles k n) e
singles-split (suc m) n a =
    let e : suc a + m ≡ a + suc m = omega arith in
    let f : suc m + n ≡ suc (m + n) = omega arith in
    ap (singles a) f ∙ ap (λ (ps : List Range). range a a ∷ ps) (singles-split m n (suc a) ∙ ap (λ (k : ℕ). singles (suc a) m ++ singles k n) e)

pub one_single : (a : ℕ) → singles a 1 ≡ range a a ∷ []
unfolding singles
one_single a = refl

no_single : (a : ℕ) → singles a 0 ≡ []
unfolding singles
no_single a = refl

module _ (y : Style) (at a : ℕ) where
  -- what is printed of the numbers from a up to x
  abbrev up_to : ℕ → List ℕ
  up_to x = pieces_at y at (singles a (x - a))

  pub upto_none : (x : ℕ) → x ≡ a → up_to x ≡ []
  upto_none x e =
      let k : x - a ≡ 0 = omega arith in
      ap (λ (n : ℕ). pieces_at y at (singles a n)) k ∙ ap (pieces_at y at) (no_single a) ∙ pieces_none y at

  -- one number more
  pub upto_next : (x : ℕ) → a ≤ x → up_to (x + 1) ≡ up_to x ++ (separator y.blank (at + length (up_to x)) ++ printed y (range x x))
  upto_next x h =
      let k : x + 1 - a ≡ x - a + 1 = omega arith in
      let l : a + (x - a) ≡ x = omega arith in
      ap (λ (n : ℕ). pieces_at y at (singles a n)) k
      ∙ ap (pieces_at y at) (singles-split (x - a) 1 a ∙ ap (λ (ps : List Range). singles a (x - a) ++ ps) (ap (λ (n : ℕ). singles n 1) l ∙ one_single x))
      ∙ pieces-append y at (singles a (x - a)) (range x x ∷ [])
      ∙ ap (λ (t : List ℕ). up_to x ++ t) (pieces-one y (at + length (up_to x)) (range x x))

  pub upto_length : (x : ℕ) → a ≤ x → length (up_to (x + 1)) ≡ length (up_to x) + (length (separator y.blank (at + length (up_to x))) + length (printed y (range x x)))
  upto_length x h =
      ap length (upto_next x h) ∙ length-append (up_to x) (separator y.blank (at + length (up_to x)) ++ printed y (range x x))
      ∙ ap (λ (k : ℕ). length (up_to x) + k) (length-append (separator y.blank (at + length (up_to x))) (printed y (range x x)))

  -- fewer numbers are no longer
  pub upto_most : (x e : ℕ) → a ≤ x → x ≤ e → length (up_to x) ≤ length (up_to e)
  upto_most x e h l =
      let k : x - a + (e - x) ≡ e - a = omega arith in
      let q : singles a (e - a) ≡ singles a (x - a) ++ singles (a + (x - a)) (e - x) = ap (singles a) (sym k) ∙ singles-split (x - a) (e - x) a in
      omega (arith, ap (λ (ps : List Range). length (pieces_at y at ps)) q, pieces-length y at (singles a (x - a)) (singles (a + (x - a)) (e - x)))

-- ---- a run

pub cut_each : (y : Style) (at a e : ℕ) → a < e → e - a < y.shortest → pieces_at y at (singles a (e - a)) ≡ pieces_at y at (cut y.shortest (range a (e - 1)))
cut_each y at a e h l =
    let k : size_of (range a (e - 1)) ≡ e - a = omega arith in
    ap (pieces_at y at) (sym (cut_short y.shortest (range a (e - 1)) (omega arith) ∙ ap (singles a) k))

pub cut-whole : (y : Style) (at a e : ℕ) → a < e → y.shortest ≤ e - a
    → separator y.blank at ++ printed y (range a (e - 1)) ≡ pieces_at y at (cut y.shortest (range a (e - 1)))
cut-whole y at a e h l = sym (ap (pieces_at y at) (cut_long y.shortest (range a (e - 1)) (omega arith)) ∙ pieces-one y at (range a (e - 1)))

-- a run takes at most 23 bytes a number
singles-most : (y : Style) → Allowed y → (n at a : ℕ) → a + n ≤ list_limit + 1 → length (pieces_at y at (singles a n)) ≤ 23 * n
singles-most y ok zero at a h = omega (arith, ap (λ (ps : List Range). length (pieces_at y at ps)) (no_single a), ap length (pieces_none y at))
singles-most y ok (suc n) at a h =
    let k : suc n ≡ 1 + n = omega arith in
    let q : singles a (suc n) ≡ (range a a ∷ []) ++ singles (a + 1) n = ap (singles a) k ∙ singles-split 1 n a ∙ ap (λ (ps : List Range). ps ++ singles (a + 1) n) (one_single a) in
    omega (
      arith,
      ap (λ (ps : List Range). length (pieces_at y at ps)) q,
      pieces-length y at (range a a ∷ []) (singles (a + 1) n),
      ap length (pieces-one y at (range a a)),
      length-append (separator y.blank at) (printed y (range a a)),
      gap_length y.blank at,
      printed-length y ok a a (omega arith) (omega arith),
      singles-most y ok n (at + length (pieces_at y at (range a a ∷ []))) (a + 1) (omega arith),
    )

pub run-most : (y : Style) → Allowed y → (at a e : ℕ) → a < e → e ≤ list_limit + 1 → length (pieces_at y at (cut y.shortest (range a (e - 1)))) ≤ 23 * (e - a)
run-most y ok at a e h l =
    by_lt (e - a) y.shortest
    (λ s. omega (arith, ap length (cut_each y at a e h s), singles-most y ok (e - a) at a (omega arith)))
    (λ s.
    omega (
      arith,
      ap length (cut-whole y at a e h s),
      length-append (separator y.blank at) (printed y (range a (e - 1))),
      gap_length y.blank at,
      printed-length y ok a (e - 1) (omega arith) (omega arith),
    ))

-- ---- a run measured: p is the place after the numbers from a up to x

pub record Counting (y : Style) (at a e x p : ℕ) : Type 0 where
  pub low : a ≤ x
  pub high : x ≤ e
  pub place : p ≡ at + length (pieces_at y at (singles a (x - a)))
  pub short : p ≤ 23 * x

module _ (y : Style) (ok : Allowed y) (at a e : ℕ) (h : a < e) (l : e ≤ list_limit + 1) where
  -- one piece, of u and v bytes
  module _ (s : y.shortest ≤ e - a) (u v : ℕ) (eu : u ≡ length (separator y.blank at)) (ev : v ≡ length (printed y (range a (e - 1)))) where
    pub whole-place : at + u + v ≡ at + length (pieces_at y at (cut y.shortest (range a (e - 1))))
    whole-place = omega (arith, ap length (cut-whole y at a e h s), length-append (separator y.blank at) (printed y (range a (e - 1))))

    pub whole_short : u + v ≤ 23
    whole_short = omega (arith, gap_length y.blank at, printed-length y ok a (e - 1) (omega arith) (omega arith))

  pub counting_start : at ≤ 23 * a → Counting y at a e a at
  counting_start s = record { low = omega arith; high = omega arith; place = omega (arith, ap length (upto_none y at a a refl)); short = s }

  module _ (x p : ℕ) (g : Counting y at a e x p) where
    pub counting_end : e - a < y.shortest → e ≤ x → p ≡ at + length (pieces_at y at (cut y.shortest (range a (e - 1))))
    counting_end s m =
        let k : x ≡ e = omega (arith, g.high) in
        g.place ∙ ap (λ (n : ℕ). at + length (pieces_at y at (singles a (n - a)))) k ∙ ap (λ (t : List ℕ). at + length t) (cut_each y at a e h s)

    -- one number more, of u and v bytes
    module _ (m : x < e) (u v : ℕ) (eu : u ≡ length (separator y.blank p)) (ev : v ≡ length (printed y (range x x))) where
      pub counting_short : u + v ≤ 23
      counting_short = omega (arith, gap_length y.blank p, printed-length y ok x x (omega arith) (omega arith))

      pub counting_more : Counting y at a e (x + 1) (p + u + v)
      counting_more = record {
        low = omega (arith, g.low);
        high = omega arith;
        place = omega (arith, g.place, upto_length y at a x g.low, ap (λ (n : ℕ). length (separator y.blank n)) g.place);
        short = omega (arith, g.short, counting_short);
      }

-- ---- a run put: the numbers from a up to x are put, and p is the place after them

pub record Putting (y : Style) (at a e : ℕ) (out : List ℕ) (x p : ℕ) (out' : List ℕ) : Type 0 where
  pub low : a ≤ x
  pub high : x ≤ e
  pub puts : Puts at (pieces_at y at (singles a (x - a))) p out out'

module _ (y : Style) (at a e : ℕ) (h : a < e) (out : List ℕ) (room : at + length (pieces_at y at (cut y.shortest (range a (e - 1)))) ≤ length out) where
  -- one piece
  module _ (s : y.shortest ≤ e - a) where
    pub whole_room : at + (length (separator y.blank at) + length (printed y (range a (e - 1)))) ≤ length out
    whole_room = omega (arith, ap length (cut-whole y at a e h s), length-append (separator y.blank at) (printed y (range a (e - 1))))

    pub whole_puts : (r : ℕ) (out' : List ℕ) → Puts at (separator y.blank at ++ printed y (range a (e - 1))) r out out'
        → Puts at (pieces_at y at (cut y.shortest (range a (e - 1)))) r out out'
    whole_puts r out' q = puts_is at r _ (pieces_at y at (cut y.shortest (range a (e - 1)))) out out' (cut-whole y at a e h s) q

  pub putting_first : Putting y at a e out a at out
  putting_first = record { low = omega arith; high = omega arith; puts = puts_is at at [] (pieces_at y at (singles a (a - a))) out out (sym (upto_none y at a a refl)) (puts_none at out) }

  module _ (s : e - a < y.shortest) (x p : ℕ) (out' : List ℕ) (g : Putting y at a e out x p out') where
    abbrev front : List ℕ
    front = pieces_at y at (singles a (x - a))

    fits : at + length (pieces_at y at (singles a (e - a))) ≤ length out
    fits = omega (arith, ap length (cut_each y at a e h s))

    pub putting_size : length out' ≡ length out
    putting_size = puts_long at p front out out' (omega (arith, fits, upto_most y at a x e g.low g.high)) g.puts

    pub putting_done : e ≤ x → Puts at (pieces_at y at (cut y.shortest (range a (e - 1)))) p out out'
    putting_done m =
        let k : x ≡ e = omega (arith, g.high) in
        puts_is at p front (pieces_at y at (cut y.shortest (range a (e - 1)))) out out'
        (ap (λ (n : ℕ). pieces_at y at (singles a (n - a))) k ∙ cut_each y at a e h s) g.puts

    module _ (m : x < e) where
      -- the bytes of the next number
      abbrev more : List ℕ
      more = separator y.blank p ++ printed y (range x x)

      next_is : pieces_at y at (singles a (x + 1 - a)) ≡ front ++ more
      next_is = upto_next y at a x g.low ∙ ap (λ (n : ℕ). front ++ (separator y.blank n ++ printed y (range x x))) (sym g.puts.next)

      total : at + (length front + length more) ≤ length out
      total = omega (arith, fits, ap length next_is, length-append front more, upto_most y at a (x + 1) e (omega (arith, g.low)) (omega arith))

      pub number-room : p + (length (separator y.blank p) + length (printed y (range x x))) ≤ length out'
      number-room = omega (arith, total, putting_size, g.puts.next, length-append (separator y.blank p) (printed y (range x x)))

      pub putting_number : (r : ℕ) (out'' : List ℕ) → Puts p more r out' out'' → Putting y at a e out (x + 1) r out''
      putting_number r out'' q = record {
        low = omega (arith, g.low);
        high = omega arith;
        puts = puts_is at r (front ++ more) (pieces_at y at (singles a (x + 1 - a))) out out'' (sym next_is) (puts_then at p r front more out out' out'' total g.puts q);
      }

-- ---- a piece after what stands before it

module _ (y : Style) (at a b : ℕ) (out : List ℕ) (h : at + (length (separator y.blank at) + length (printed y (range a b))) ≤ length out) (start : ℕ) (o₁ : List ℕ)
    (p : Puts at (separator y.blank at) start out o₁) where
  abbrev x : ℕ
  x = a + y.first

  abbrev z : ℕ
  z = b + y.first

  long₁ : length o₁ ≡ length out
  long₁ = puts_long at start (separator y.blank at) out o₁ (omega arith) p

  first_length : length (decimal x) ≤ length (printed y (range a b))
  first_length = by_eq a b (λ e. omega (arith, ap length (printed-one y a b e))) (λ e. omega (arith, two_length y a b e))

  pub first_room : start + length (decimal x) ≤ length o₁
  first_room = omega (arith, p.next, long₁, first_length)

  module _ (next : ℕ) (o₂ : List ℕ) (q : Puts start (decimal x) next o₁ o₂) where
    pub piece_one : a ≡ b → Puts at (separator y.blank at ++ printed y (range a b)) next out o₂
    piece_one e =
        subst (λ (t : List ℕ). Puts at (separator y.blank at ++ t) next out o₂) (sym (printed-one y a b e))
        (puts_then at start next (separator y.blank at) (decimal x) out o₁ o₂ (omega (arith, first_length)) p q)

    long₂ : length o₂ ≡ length out
    long₂ = puts_long start next (decimal x) o₁ o₂ first_room q ∙ long₁

    module _ (e : a ≡ b → ⊥) where
      pub joiner_room : next < length o₂
      joiner_room = omega (arith, q.next, p.next, long₂, two_length y a b e)

      pub last-room : next + 1 + length (decimal z) ≤ length (set o₂ next y.joiner)
      last-room = omega (arith, q.next, p.next, long₂, two_length y a b e, length-set o₂ next y.joiner)

      module _ (r : ℕ) (o₃ : List ℕ) (s : Puts (next + 1) (decimal z) r (set o₂ next y.joiner) o₃) where
        pub piece_two : Puts at (separator y.blank at ++ printed y (range a b)) r out o₃
        piece_two =
            subst (λ (t : List ℕ). Puts at (separator y.blank at ++ t) r out o₃) (sym (printed_two y a b e))
            (puts_then at start r (separator y.blank at) (decimal x ++ y.joiner ∷ decimal z) out o₁ o₃
            (omega (arith, length-append (decimal x) (y.joiner ∷ decimal z), two_length y a b e)) p
            (puts_then start next r (decimal x) (y.joiner ∷ decimal z) o₁ o₂ o₃ (omega (arith, p.next, long₁, two_length y a b e)) q
            (puts_then next (next + 1) r (y.joiner ∷ []) (decimal z) o₂ (set o₂ next y.joiner) o₃ (omega (arith, last-room, length-set o₂ next y.joiner))
            (puts_one next y.joiner o₂ joiner_room) s)))

        pub long₃ : length o₃ ≡ length out
        long₃ = puts_long (next + 1) r (decimal z) (set o₂ next y.joiner) o₃ last-room s ∙ length-set o₂ next y.joiner ∙ long₂
