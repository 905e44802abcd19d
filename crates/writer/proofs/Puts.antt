-- Bytes put into a buffer.
use Prim.Native.Nat.{ℕ, suc, ◌+◌, ◌^◌, ◌/◌, ◌%◌, ◌-◌, ◌≤◌, ◌<◌}
use mathlib.Core.Path.{◌≡◌, refl, sym, ap, ap₂, ◌∙◌}
use mathlib.Core.List.{List, [], ◌∷◌, ◌++◌}
use native.Mathlib.Omega.{arith}
use native.Mathlib.Nat.{add-zero, add-suc, suc-add, pow-suc, div-div-eq-div-mul}
use lib.ListN.{set, length, take, drop, length-set}
use lib.Seq.{sets, set_comm, sets-eq}
use Rattle.std.proofs.lemmas.List.{append_assoc}
use borrow.Rule.Slice.PartMut.{put_mid, Post-is}
use Rattle.sheet.specs.Bytes.{bytes}

-- bytes after bytes
pub sets_append : (u v l : List ℕ) (i : ℕ) → sets l i (u ++ v) ≡ sets (sets l i u) (i + length u) v
sets_append [] v l i = ap (λ (k : ℕ). sets l k v) (sym (add-zero i))
sets_append (a ∷ u) v l i =
    sets_append u v (set l i a) (suc i) ∙ ap (λ (k : ℕ). sets (sets (set l i a) (suc i) u) k v) (suc-add i (length u) ∙ sym (add-suc i (length u)))

-- a byte before others, in either order
sets_before : (u l : List ℕ) (i j a : ℕ) → j < i → set (sets l i u) j a ≡ sets (set l j a) i u
sets_before [] l i j a h = refl
sets_before (b ∷ u) l i j a h =
    sets_before u (set l i b) (suc i) j a (omega arith) ∙ ap (λ (m : List ℕ). sets m (suc i) u) (set_comm l i j b a (λ e. omega arith))

-- the n low bytes of x are put from the last on: those from i on are there
pub record Putting (b₀ : List ℕ) (at n x : ℕ) (b : List ℕ) (left i : ℕ) : Type 0 where
  pub bound : i ≤ n
  pub room : at + n ≤ length b₀
  pub same : length b ≡ length b₀
  pub rest : left ≡ x / 256 ^ (n - i)
  pub there : b ≡ sets b₀ (at + i) (bytes (n - i) x)

module _ (b₀ : List ℕ) (at n x : ℕ) where
  pub put_first : at + n ≤ length b₀ → Putting b₀ at n x b₀ x n
  unfolding bytes
  put_first h =
      let e : n - n ≡ 0 = omega arith in
      record {
        bound = omega arith;
        room = h;
        same = refl;
        rest = rw e (let d : x ≡ x / 1 = omega arith in d);
        there = rw e refl;
      }

  pub put_next : (b : List ℕ) (left i : ℕ) → Putting b₀ at n x b left i → 0 < i
      → Putting b₀ at n x (set b (at + (i - 1)) (left % 256)) (left / 256) (i - 1)
  unfolding bytes
  put_next b left i p h =
      let m : ℕ = n - i in
      let e : n - (i - 1) ≡ suc m = omega arith in
      let s : at + i ≡ suc (at + (i - 1)) = omega arith in
      record {
        bound = omega arith;
        room = p.room;
        same = length-set b (at + (i - 1)) (left % 256) ∙ p.same;
        rest = ap (λ (y : ℕ). y / 256) p.rest ∙ div-div-eq-div-mul x (256 ^ m) 256 ∙ ap (λ (y : ℕ). x / y) (sym (pow-suc 256 m) ∙ ap (λ (y : ℕ). 256 ^ y) (sym e));
        there =
            ap₂ (λ (c : List ℕ) (y : ℕ). set c (at + (i - 1)) (y % 256)) p.there p.rest
            ∙ sets_before (bytes m x) b₀ (at + i) (at + (i - 1)) (x / 256 ^ m % 256) (omega arith)
            ∙ ap (λ (y : ℕ). sets (set b₀ (at + (i - 1)) (x / 256 ^ m % 256)) y (bytes m x)) s
            ∙ ap (λ (y : ℕ). sets b₀ (at + (i - 1)) (bytes y x)) (sym e);
      }

  pub put_last : (b : List ℕ) (left i : ℕ) → Putting b₀ at n x b left i → i ≡ 0 → b ≡ sets b₀ at (bytes n x)
  put_last b left i p z =
      let e : n - i ≡ n = omega arith in
      let s : at + i ≡ at = omega arith in
      p.there ∙ ap₂ (λ (y z : ℕ). sets b₀ y (bytes z x)) s e

-- a payload is copied
pub copied : (b₀ : List ℕ) (at : ℕ) (s b : List ℕ) → at + length s ≤ length b₀ → b ≡ s
    → put_mid at (at + length s - at) b₀ b ≡ sets b₀ at s
copied b₀ at s b h e =
    ap (put_mid at (at + length s - at) b₀) e
    ∙ ap (λ (l : List ℕ). take at b₀ ++ (s ++ l)) (Post-is at (at + length s) b₀ (omega arith))
    ∙ sym (append_assoc (take at b₀) s (drop (at + length s) b₀)) ∙ sym (sets-eq s b₀ at h)
