-- A region of words flipped: whole words, and the edge words' other bits twice.
use mathlib.Core.Path.{◌≡◌, refl, sym, ap, ap₂, ◌∙◌, subst}
use mathlib.Core.Bool.{Bool, true, false, not, ◌&&◌}
use mathlib.Core.List.{List, ◌++◌}
use Prim.Native.Nat.{ℕ, ◌+◌, ◌-◌, ◌*◌, ◌/◌, ◌%◌, ◌^◌, ◌≤◌, ◌<◌}
use native.Mathlib.Omega.{arith}
use lib.ListN.{length, get_or, set, take, drop, length-set}
use lib.Seq.{get_or-set_other}
use lib.Pow.{ones_sub-lt}
use lib.Dec.{leb, ltb, eqb}
use lib.Bits.{bit_xor, xor_lt}
use borrow.Author.Tests.{le-ltb, lt-ltb, le-leb, lt-leb, eq-eqb, ne_eqb, ltb-true, ltb-false, not-true}
use Rattle.word.specs.Sets.{xorb}
use Rattle.word.specs.Places.{bit, word_of, member, words_of}
use Rattle.word.specs.Words.{low_mask}
use Rattle.word.proofs.Cases.{by_lt, by_eq, xor-false, and-false}
use Rattle.word.proofs.Places.{bit-xor, bit_not, bit-pack, pack-lt}
use Rattle.word.proofs.Lists.{Fit, member-at, length_words, word_at_lem}
use Rattle.word.proofs.Sweep.{get_d_set, Swept, part_at, part_long, part_swept}
use Rattle.shape.specs.Kernels.{Flipped}

abbrev edged : List ℕ → ℕ → ℕ → List ℕ
edged ws a x = set ws a (bit_xor (get_or ws a 0) x)

-- once for the mask at either edge, once for all
twice : (t p q : Bool) → (p ≡ true → q ≡ true → ⊥) → not (xorb (xorb t p) q) ≡ xorb t (not p && not q)
twice true true true n = absurd (n refl refl)
twice true true false n = refl
twice true false true n = refl
twice true false false n = refl
twice false true true n = absurd (n refl refl)
twice false true false n = refl
twice false false true n = refl
twice false false false n = refl

module _ (ws : List ℕ) (a x : ℕ) (s : ℕ → Bool) (f : Fit ws) (h : a < length ws) (hx : x < 2 ^ 64) (bits : (j : ℕ) → j < 64 → bit x j ≡ s (64 * a + j)) where
  edge_fit : Fit (edged ws a x)
  edge_fit k =
      by_eq k a
      (λ e. subst (λ (y : ℕ). y < 2 ^ 64) (sym (get_d_set ws a k (bit_xor (get_or ws a 0) x) h e)) (xor_lt 64 (get_or ws a 0) x (f a) hx))
      (λ e. subst (λ (y : ℕ). y < 2 ^ 64) (sym (get_or-set_other ws a k (bit_xor (get_or ws a 0) x) 0 e)) (f k))

  edge_bit : (k j : ℕ) → j < 64 → bit (get_or (edged ws a x) k 0) j ≡ xorb (bit (get_or ws k 0) j) (eqb k a && s (64 * k + j))
  edge_bit k j l =
      by_eq k a
      (λ e.
      ap (λ (y : ℕ). bit y j) (get_d_set ws a k (bit_xor (get_or ws a 0) x) h e) ∙ bit-xor (get_or ws a 0) x j
      ∙ ap₂ (λ (y t : Bool). xorb y t) (ap (λ (m : ℕ). bit (get_or ws m 0) j) (sym e)) (bits j l ∙ ap (λ (m : ℕ). s (64 * m + j)) (sym e))
      ∙ ap (λ (t : Bool). xorb (bit (get_or ws k 0) j) (t && s (64 * k + j))) (sym (eq-eqb k a e)))
      (λ e.
      ap (λ (y : ℕ). bit y j) (get_or-set_other ws a k (bit_xor (get_or ws a 0) x) 0 e)
      ∙ sym (ap (λ (t : Bool). xorb (bit (get_or ws k 0) j) (t && s (64 * k + j))) (ne_eqb k a e) ∙ xor-false (bit (get_or ws k 0) j)))

module _ (ws part : List ℕ) (i last x y : ℕ) (f : Fit ws) (il : i ≤ last) (h : last / 64 < length ws) (ex : x ≡ low_mask 64 (i % 64)) (ey : y ≡ low_mask 64 (last % 64 + 1)) where
  abbrev one : List ℕ
  one = edged ws (i / 64) x

  abbrev two : List ℕ
  two = edged (edged ws (i / 64) x) (last / 64) ((2 ^ 64 - 1) - y)

  abbrev low : ℕ → Bool
  low p = ltb p i

  abbrev high : ℕ → Bool
  high p = not (ltb p (last + 1))

  mask_lt : (z n : ℕ) → z ≡ low_mask 64 n → z < 2 ^ 64
  unfolding low_mask
  mask_lt z n e = subst (λ (q : ℕ). q < 2 ^ 64) (sym e) (pack-lt 64 (λ j. ltb j n))

  mask_bit : (z n j : ℕ) → z ≡ low_mask 64 n → j < 64 → bit z j ≡ ltb j n
  unfolding low_mask
  mask_bit z n j e l = ap (λ (q : ℕ). bit q j) e ∙ bit-pack 64 (λ j. ltb j n) j l

  ltb_same : (p q r s : ℕ) → (p < q → r < s) → (q ≤ p → s ≤ r) → ltb p q ≡ ltb r s
  ltb_same p q r s g k = by_lt p q (λ l. lt-ltb p q l ∙ sym (lt-ltb r s (g l))) (λ l. le-ltb p q l ∙ sym (le-ltb r s (k l)))

  one_long : length (edged ws (i / 64) x) ≡ length ws
  one_long = length-set ws (i / 64) (bit_xor (get_or ws (i / 64) 0) x)

  one_fit : Fit one
  one_fit = edge_fit ws (i / 64) x low f (omega arith) (mask_lt x (i % 64) ex) (λ j l. mask_bit x (i % 64) j ex l ∙ ltb_same j (i % 64) (64 * (i / 64) + j) i (λ q. omega arith) (λ q. omega arith))

  one_bit : (k j : ℕ) → j < 64 → bit (get_or one k 0) j ≡ xorb (bit (get_or ws k 0) j) (eqb k (i / 64) && low (64 * k + j))
  one_bit = edge_bit ws (i / 64) x low f (omega arith) (mask_lt x (i % 64) ex) (λ j l. mask_bit x (i % 64) j ex l ∙ ltb_same j (i % 64) (64 * (i / 64) + j) i (λ q. omega arith) (λ q. omega arith))

  y_bits : (j : ℕ) → j < 64 → bit ((2 ^ 64 - 1) - y) j ≡ high (64 * (last / 64) + j)
  y_bits j l =
      bit_not y 64 j (mask_lt y (last % 64 + 1) ey) l
      ∙ ap not (mask_bit y (last % 64 + 1) j ey l ∙ ltb_same j (last % 64 + 1) (64 * (last / 64) + j) (last + 1) (λ q. omega arith) (λ q. omega arith))

  two_fit : Fit two
  two_fit = edge_fit one (last / 64) ((2 ^ 64 - 1) - y) high one_fit (omega (arith, one_long)) (ones_sub-lt 64 y) y_bits

  two_bit : (k j : ℕ) → j < 64 → bit (get_or two k 0) j ≡ xorb (xorb (bit (get_or ws k 0) j) (eqb k (i / 64) && low (64 * k + j))) (eqb k (last / 64) && high (64 * k + j))
  two_bit k j l =
      edge_bit one (last / 64) ((2 ^ 64 - 1) - y) high one_fit (omega (arith, one_long)) (ones_sub-lt 64 y) y_bits k j l
      ∙ ap (λ (t : Bool). xorb t (eqb k (last / 64) && high (64 * k + j))) (one_bit k j l)

  two_long : length (edged (edged ws (i / 64) x) (last / 64) ((2 ^ 64 - 1) - y)) ≡ length ws
  two_long = length-set one (last / 64) (bit_xor (get_or one (last / 64) 0) ((2 ^ 64 - 1) - y)) ∙ one_long

  -- between the edge words the test of the edge is for nothing
  low_only : (k j : ℕ) → i / 64 ≤ k → j < 64 → eqb k (i / 64) && low (64 * k + j) ≡ low (64 * k + j)
  low_only k j p l =
      by_eq k (i / 64)
      (λ e. ap (λ (t : Bool). t && low (64 * k + j)) (eq-eqb k (i / 64) e))
      (λ e. ap (λ (t : Bool). t && low (64 * k + j)) (ne_eqb k (i / 64) e) ∙ sym (le-ltb (64 * k + j) i (omega arith)))

  high_only : (k j : ℕ) → k ≤ last / 64 → j < 64 → eqb k (last / 64) && high (64 * k + j) ≡ high (64 * k + j)
  high_only k j p l =
      by_eq k (last / 64)
      (λ e. ap (λ (t : Bool). t && high (64 * k + j)) (eq-eqb k (last / 64) e))
      (λ e. ap (λ (t : Bool). t && high (64 * k + j)) (ne_eqb k (last / 64) e) ∙ sym (ap not (lt-ltb (64 * k + j) (last + 1) (omega arith))))

  pub flips_region : part ≡ words_of (λ t. not (member (take (last / 64 + 1 - i / 64) (drop (i / 64) two)) t)) (length (take (last / 64 + 1 - i / 64) (drop (i / 64) two)))
      → Flipped i (last + 1) ws (take (i / 64) two ++ (part ++ drop (last / 64 + 1 - i / 64) (drop (i / 64) two)))
  unfolding word_of
  flips_region ep = record {
    long = sw.long ∙ two_long;
    fits = λ k g. fit k;
    bits = λ k j l.
        by_lt k (i / 64)
        (λ p.
        ap (λ (v : ℕ). bit v j) (sw.below k p) ∙ outside k j l (omega arith) (omega arith)
        ∙ sym (ap (λ (t : Bool). xorb (bit (get_or ws k 0) j) (t && ltb (64 * k + j) (last + 1))) (lt-leb i (64 * k + j) (omega arith)) ∙ xor-false (bit (get_or ws k 0) j)))
        (λ p. by_lt k (last / 64 + 1)
        (λ q.
        ap (λ (v : ℕ). bit v j) (inside k p q) ∙ bit-pack 64 (λ j. not (member mid (64 * (k - i / 64) + j))) j l
        ∙ ap not (member-at mid (k - i / 64) j l ∙ ap (λ (v : ℕ). bit v j) (part_at two (i / 64) (last / 64 + 1) k p q) ∙ two_bit k j l)
        ∙ ap₂ (λ (t u : Bool). not (xorb (xorb (bit (get_or ws k 0) j) t) u)) (low_only k j p l) (high_only k j (omega arith) l)
        ∙ twice (bit (get_or ws k 0) j) (low (64 * k + j)) (high (64 * k + j)) (λ e g. apart (64 * k + j) e g)
        ∙ ap₂ (λ (t u : Bool). xorb (bit (get_or ws k 0) j) (t && u)) (not-lt (64 * k + j) i) (not-not (ltb (64 * k + j) (last + 1))))
        (λ q.
        ap (λ (v : ℕ). bit v j) (sw.above k q) ∙ outside k j l (omega arith) (omega arith)
        ∙ sym (ap (λ (t : Bool). xorb (bit (get_or ws k 0) j) (leb i (64 * k + j) && t)) (le-ltb (64 * k + j) (last + 1) (omega arith))
        ∙ ap (xorb (bit (get_or ws k 0) j)) (and-false (leb i (64 * k + j))) ∙ xor-false (bit (get_or ws k 0) j))));
    above = λ k q.
        sw.above k (omega arith) ∙ get_or-set_other one (last / 64) k (bit_xor (get_or one (last / 64) 0) ((2 ^ 64 - 1) - y)) 0 (omega arith)
        ∙ get_or-set_other ws (i / 64) k (bit_xor (get_or ws (i / 64) 0) x) 0 (omega arith);
  }
    where
      mid : List ℕ
      mid = take (last / 64 + 1 - i / 64) (drop (i / 64) two)

      mid_long : length (take (last / 64 + 1 - i / 64) (drop (i / 64) two)) ≡ last / 64 + 1 - i / 64
      mid_long = part_long two (i / 64) (last / 64 + 1) (omega (arith, two_long))

      is : part ≡ words_of (λ t. not (member mid t)) (last / 64 + 1 - i / 64)
      is = ep ∙ ap (words_of (λ t. not (member mid t))) mid_long

      sw : Swept two (λ k. get_or part (k - i / 64) 0) (i / 64) (last / 64 + 1) (take (i / 64) two ++ (part ++ drop (last / 64 + 1 - i / 64) (drop (i / 64) two)))
      sw = part_swept two part (i / 64) (last / 64 + 1) (omega arith) (omega (arith, two_long)) (ap length is ∙ length_words (λ t. not (member mid t)) (last / 64 + 1 - i / 64))

      inside : (k : ℕ) → i / 64 ≤ k → k < last / 64 + 1 → get_or (take (i / 64) two ++ (part ++ drop (last / 64 + 1 - i / 64) (drop (i / 64) two))) k 0 ≡ word_of (λ t. not (member mid t)) (k - i / 64)
      inside k p q = sw.fresh k p q ∙ ap (λ (v : List ℕ). get_or v (k - i / 64) 0) is ∙ word_at_lem (λ t. not (member mid t)) (last / 64 + 1 - i / 64) (k - i / 64) (omega arith)

      fit : (k : ℕ) → get_or (take (i / 64) two ++ (part ++ drop (last / 64 + 1 - i / 64) (drop (i / 64) two))) k 0 < 2 ^ 64
      fit k =
          by_lt k (i / 64)
          (λ p. subst (λ (v : ℕ). v < 2 ^ 64) (sym (sw.below k p)) (two_fit k))
          (λ p. by_lt k (last / 64 + 1)
          (λ q. subst (λ (v : ℕ). v < 2 ^ 64) (sym (inside k p q)) (pack-lt 64 (λ j. not (member mid (64 * (k - i / 64) + j)))))
          (λ q. subst (λ (v : ℕ). v < 2 ^ 64) (sym (sw.above k q)) (two_fit k)))

      outside : (k j : ℕ) → j < 64 → (k ≡ i / 64 → ⊥) → (k ≡ last / 64 → ⊥) → bit (get_or two k 0) j ≡ bit (get_or ws k 0) j
      outside k j l n m =
          two_bit k j l
          ∙ ap₂ (λ (t u : Bool). xorb (xorb (bit (get_or ws k 0) j) (t && low (64 * k + j))) (u && high (64 * k + j))) (ne_eqb k (i / 64) n) (ne_eqb k (last / 64) m)
          ∙ xor-false (xorb (bit (get_or ws k 0) j) false) ∙ xor-false (bit (get_or ws k 0) j)

      apart : (p : ℕ) → low p ≡ true → high p ≡ true → ⊥
      apart p e g = omega (arith, ltb-true p i e, ltb-false p (last + 1) (not-true (ltb p (last + 1)) g))

      not-not : (t : Bool) → not (not t) ≡ t
      not-not true = refl
      not-not false = refl

      not-lt : (p q : ℕ) → not (ltb p q) ≡ leb q p
      not-lt p q = by_lt p q (λ l. ap not (lt-ltb p q l) ∙ sym (lt-leb q p l)) (λ l. ap not (le-ltb p q l) ∙ sym (le-leb q p l))
