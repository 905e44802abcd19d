-- Bytes put at a place of a buffer.
use mathlib.Core.Path.{◌≡◌, refl, sym, ap, ap₂, ◌∙◌, subst}
use mathlib.Core.Bool.{Bool}
use mathlib.Core.List.{List, [], ◌∷◌, ◌++◌, append_assoc, append-nil}
use Prim.Native.Nat.{ℕ, zero, suc, ◌+◌, ◌-◌, ◌/◌, ◌%◌, ◌≤◌, ◌<◌}
use native.Mathlib.Omega.{arith}
use lib.ListN.{length, set, take, drop, length-append, length-drop}
use borrow.Author.Tests.{le-leb, lt-leb}
use Rattle.word.specs.Sets.{choose}
use Rattle.text.specs.Lists.{zero_digit}
use Rattle.print.specs.Texts.{decimal, decimal_at, PutsDecimal}
use Rattle.print.specs.Kernels.{put_at, Puts}
use Rattle.print.proofs.Decimals.{last_digits, last-all, last_none, last_more, length_last}

pub length-put : (at : ℕ) (t out : List ℕ) → at + length t ≤ length out → length (put_at at t out) ≡ length out
unfolding put_at
length-put zero t out h = length-append t (drop (length t) out) ∙ omega (arith, length-drop (length t) out)
length-put (suc at) t [] h = refl
length-put (suc at) t (c ∷ out) h = ap suc (length-put at t out (omega arith))

put_none : (at : ℕ) (out : List ℕ) → put_at at [] out ≡ out
unfolding put_at
put_none zero out = refl
put_none (suc at) [] = refl
put_none (suc at) (c ∷ out) = ap (λ (y : List ℕ). c ∷ y) (put_none at out)

over_then : (a b out : List ℕ) → length a + length b ≤ length out → put_at (length a) b (put_at 0 a out) ≡ put_at 0 (a ++ b) out
unfolding put_at
over_then [] b out h = refl
over_then (x ∷ a) b [] h = absurd (omega arith)
over_then (x ∷ a) b (c ∷ out) h = ap (λ (y : List ℕ). x ∷ y) (over_then a b out (omega arith))

-- bytes after bytes
pub put_then : (at : ℕ) (a b out : List ℕ) → at + (length a + length b) ≤ length out → put_at (at + length a) b (put_at at a out) ≡ put_at at (a ++ b) out
unfolding put_at
put_then zero a b out h =
    let e : 0 + length a ≡ length a = omega arith in
    ap (λ (k : ℕ). put_at k b (put_at 0 a out)) e ∙ over_then a b out (omega arith)
put_then (suc at) a b [] h = absurd (omega arith)
put_then (suc at) a b (c ∷ out) h =
    let e : suc at + length a ≡ suc (at + length a) = omega arith in
    ap (λ (k : ℕ). put_at k b (c ∷ put_at at a out)) e ∙ ap (λ (y : List ℕ). c ∷ y) (put_then at a b out (omega arith))

-- one byte before bytes
put-before : (p c : ℕ) (t out : List ℕ) → p < length out → set (put_at (suc p) t out) p c ≡ put_at p (c ∷ t) out
unfolding put_at
put-before p c t [] h = absurd (omega arith)
put-before zero c t (x ∷ out) h = refl
put-before (suc p) c t (x ∷ out) h = ap (λ (y : List ℕ). x ∷ y) (put-before p c t out (omega arith))

put_one : (at c : ℕ) (out : List ℕ) → at < length out → set out at c ≡ put_at at (c ∷ []) out
put_one at c out h = ap (λ (y : List ℕ). set y at c) (sym (put_none (suc at) out)) ∙ put-before at c [] out h

-- what stands before them, they, and what stands behind
pub put_is : (at : ℕ) (t out : List ℕ) → at ≤ length out → put_at at t out ≡ take at out ++ (t ++ drop (at + length t) out)
unfolding put_at
put_is zero t out h = let e : length t ≡ 0 + length t = omega arith in ap (λ (k : ℕ). t ++ drop k out) e
put_is (suc at) t [] h = absurd (omega arith)
put_is (suc at) t (c ∷ out) h =
    let e : suc (at + length t) ≡ suc at + length t = omega arith in
    ap (λ (y : List ℕ). c ∷ y) (put_is at t out (omega arith)) ∙ ap (λ (k : ℕ). c ∷ (take at out ++ (t ++ drop k (c ∷ out)))) e

-- ---- what a function puts

pub puts_none : (at : ℕ) (out : List ℕ) → Puts at [] at out out
puts_none at out = record { next = omega arith; leaves = sym (put_none at out) }

pub puts_one : (at c : ℕ) (out : List ℕ) → at < length out → Puts at (c ∷ []) (at + 1) out (set out at c)
puts_one at c out h = record { next = refl; leaves = put_one at c out h }

pub puts_then : (at r q : ℕ) (a b out out' out'' : List ℕ) → at + (length a + length b) ≤ length out → Puts at a r out out' → Puts r b q out' out''
    → Puts at (a ++ b) q out out''
puts_then at r q a b out out' out'' h x y = record {
  next = omega (arith, x.next, y.next, length-append a b);
  leaves = y.leaves ∙ ap₂ (λ (i : ℕ) (o : List ℕ). put_at i b o) x.next x.leaves ∙ put_then at a b out h;
}

pub puts_long : (at r : ℕ) (t out out' : List ℕ) → at + length t ≤ length out → Puts at t r out out' → length out' ≡ length out
puts_long at r t out out' h p = ap length p.leaves ∙ length-put at t out h

pub puts_is : (at r : ℕ) (t t' out out' : List ℕ) → t ≡ t' → Puts at t r out out' → Puts at t' r out out'
puts_is at r t t' out out' e p = subst (λ (x : List ℕ). Puts at x r out out') e p

-- ---- digits, the last first: those from place p on are put, and y has the others

pub record PuttingDigits (at x : ℕ) (out out' : List ℕ) (p y : ℕ) (s : List ℕ) : Type 0 where
  pub low : at ≤ p
  pub digits : last_digits (p - at) y ++ s ≡ decimal x
  pub leaves : out' ≡ put_at p s out

module _ (at x : ℕ) (out : List ℕ) (h : at + length (decimal x) ≤ length out) where
  pub putting_start : (end : ℕ) → end ≡ at + length (decimal x) → PuttingDigits at x out out end x []
  putting_start end e =
      let q : end - at ≡ length (decimal x) = omega (arith, e) in
      record {
        low = omega arith;
        digits = ap (λ (k : ℕ). last_digits k x ++ []) q ∙ append-nil (last_digits (length (decimal x)) x) ∙ last-all x;
        leaves = sym (put_none end out);
      }

  module _ (out' : List ℕ) (p y : ℕ) (s : List ℕ) (g : PuttingDigits at x out out' p y s) where
    pub putting_place : p + length s ≡ at + length (decimal x)
    putting_place =
        omega (arith, g.low, ap length (sym g.digits), length-append (last_digits (p - at) y) s, length_last (p - at) y)

    pub putting_long : length out' ≡ length out
    putting_long = ap length g.leaves ∙ length-put p s out (omega (arith, putting_place))

    -- the digit before those
    pub putting_more : (p' y' c : ℕ) → at < p → p ≡ suc p' → y' ≡ y / 10 → c ≡ zero_digit + y % 10 → PuttingDigits at x out (set out' p' c) p' y' (c ∷ s)
    putting_more p' y' c l ep ey ec = record {
      low = omega arith;
      digits =
          ap₂ (λ (z d : ℕ). last_digits (p' - at) z ++ d ∷ s) ey ec
          ∙ sym (append_assoc (last_digits (p' - at) (y / 10)) ((zero_digit + y % 10) ∷ []) s)
          ∙ ap (λ (z : List ℕ). z ++ s) (sym (last_more (p' - at) y))
          ∙ ap (λ (k : ℕ). last_digits k y ++ s) (omega arith) ∙ g.digits;
      leaves =
          ap (λ (o : List ℕ). set o p' c) (g.leaves ∙ ap (λ (k : ℕ). put_at k s out) ep)
          ∙ put-before p' c s out (omega (arith, putting_place));
    }

    pub putting_end : p ≤ at → out' ≡ put_at at (decimal x) out
    putting_end l =
        g.leaves
        ∙ ap₂ (λ (k : ℕ) (t : List ℕ). put_at k t out) (omega (arith, g.low))
        (sym (ap (λ (z : List ℕ). z ++ s) (ap (λ (k : ℕ). last_digits k y) (omega arith) ∙ last_none y)) ∙ g.digits)

  -- two at once
  pub putting_two : (out' : List ℕ) (p y : ℕ) (s : List ℕ) → PuttingDigits at x out out' p y s → at + 2 ≤ p
      → PuttingDigits at x out (set (set out' (p - 1) (zero_digit + y % 100 % 10)) (p - 2) (zero_digit + y % 100 / 10)) (p - 2) (y / 100)
      ((zero_digit + y % 100 / 10) ∷ (zero_digit + y % 100 % 10) ∷ s)
  putting_two out' p y s g l =
      putting_more (set out' (p - 1) (zero_digit + y % 100 % 10)) (p - 1) (y / 10) ((zero_digit + y % 100 % 10) ∷ s)
      (putting_more out' p y s g (p - 1) (y / 10) (zero_digit + y % 100 % 10) (omega arith) (omega arith) refl (omega arith))
      (p - 2) (y / 100) (zero_digit + y % 100 / 10) (omega arith) (omega arith) (omega arith) (omega arith)

  -- the last one
  pub putting_last : (out' : List ℕ) (p y : ℕ) (s : List ℕ) → PuttingDigits at x out out' p y s → at < p → p < at + 2
      → set out' at (zero_digit + y % 10) ≡ put_at at (decimal x) out
  putting_last out' p y s g l h =
      putting_end (set out' at (zero_digit + y % 10)) at (y / 10) ((zero_digit + y % 10) ∷ s)
      (putting_more out' p y s g at (y / 10) (zero_digit + y % 10) l (omega arith) refl refl) (omega arith)

-- ---- the digits of a number, where there is room for them

module _ (at x : ℕ) (out : List ℕ) where
  abbrev end : ℕ
  end = at + length (decimal x)

  abbrev there : List ℕ
  there = decimal_at at x out

  there_is : at ≤ length out → put_at at (decimal x) out ≡ there
  unfolding decimal_at
  there_is h = put_is at (decimal x) out h

  pub decimal_lacks : length out < end → PutsDecimal at x at out out
  decimal_lacks h = record {
    next = sym (ap (λ (t : Bool). choose t end at) (lt-leb end (length out) h));
    leaves = sym (ap (λ (t : Bool). choose t there out) (lt-leb end (length out) h));
  }

  module _ (h : end ≤ length out) (r : ℕ) (out' : List ℕ) where
    pub decimal-fits : Puts at (decimal x) r out out' → PutsDecimal at x r out out'
    decimal-fits p = record {
      next = p.next ∙ sym (ap (λ (t : Bool). choose t end at) (le-leb end (length out) h));
      leaves =
          p.leaves ∙ there_is (omega arith) ∙ sym (ap (λ (t : Bool). choose t there out) (le-leb end (length out) h));
    }

    pub decimal_puts : PutsDecimal at x r out out' → Puts at (decimal x) r out out'
    decimal_puts p = record {
      next = p.next ∙ ap (λ (t : Bool). choose t end at) (le-leb end (length out) h);
      leaves =
          p.leaves ∙ ap (λ (t : Bool). choose t there out) (le-leb end (length out) h) ∙ sym (there_is (omega arith));
    }
