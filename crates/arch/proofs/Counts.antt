-- The set bits of the words, counted word by word.
use Rattle.std.proofs.Common.{◌≡◌, ℕ, suc, ◌+◌, ◌*◌, ◌/◌, ◌%◌, ◌^◌, ◌<◌, ◌≤◌, List, [], ◌∷◌, length, get_or, sym, refl, ap, ap₂, ◌∙◌, arith, mod-eq_of_lt}
use Rattle.std.specs.List.{fold}
use native.Mathlib.Nat.{mod-add-mod}
use Rattle.word.specs.Sets.{count_below}
use Rattle.word.specs.Places.{bit, member}
use Rattle.word.proofs.Sets.{count_add, count_ext}
use Rattle.arch.specs.Scans.{count_set}
use Rattle.word.proofs.Lists.{member-at}

pub count-start : (ws : List ℕ) → 0 ≡ count_below (member ws) (64 * 0) % 2 ^ 64
unfolding count_below
count-start ws = refl

pub count-end : (ws : List ℕ) (i n : ℕ) → i ≤ length ws → length ws ≤ i → n ≡ count_below (member ws) (64 * i) % 2 ^ 64 → n ≡ count_set ws
unfolding count_set
count-end ws i n p q e = e ∙ ap (λ (k : ℕ). count_below (member ws) (64 * k) % 2 ^ 64) (omega arith)

-- the members below word i + 1 are those below word i and those of word i
pub count_word : (ws : List ℕ) (i : ℕ) → count_below (member ws) (64 * (i + 1)) ≡ count_below (member ws) (64 * i) + count_below (bit (get_or ws i 0)) 64
count_word ws i =
    ap (count_below (member ws)) (omega arith)
    ∙ count_add (member ws) (64 * i) 64
    ∙ ap (λ (x : ℕ). count_below (member ws) (64 * i) + x)
    (count_ext (λ j. member ws (64 * i + j)) (bit (get_or ws i 0)) 64 (λ j l. member-at ws i j l))

pub count_next : (ws : List ℕ) (i n c r : ℕ) → n ≡ count_below (member ws) (64 * i) % 2 ^ 64 → c ≡ count_below (bit (get_or ws i 0)) 64 → r ≡ (n + c) % 2 ^ 64
    → r ≡ count_below (member ws) (64 * (i + 1)) % 2 ^ 64
count_next ws i n c r en ec er =
    er
    ∙ ap (λ (x : ℕ). (x + c) % 2 ^ 64) en
    ∙ mod-add-mod (count_below (member ws) (64 * i)) (2 ^ 64) c
    ∙ ap (λ (x : ℕ). (count_below (member ws) (64 * i) + x) % 2 ^ 64) ec
    ∙ ap (λ (x : ℕ). x % 2 ^ 64) (sym (count_word ws i))

-- a word before others
member_first : (x : ℕ) (ws : List ℕ) (i : ℕ) → i < 64 → member (x ∷ ws) i ≡ bit x i
unfolding member
member_first x ws i l =
    let z : i / 64 ≡ 0 = omega arith in
    let m : i % 64 ≡ i = omega arith in
    ap₂ (λ (k j : ℕ). bit (get_or (x ∷ ws) k 0) j) z m

member_later : (x : ℕ) (ws : List ℕ) (i : ℕ) → member (x ∷ ws) (64 + i) ≡ member ws i
unfolding member
member_later x ws i =
    let z : (64 + i) / 64 ≡ suc (i / 64) = omega arith in
    let m : (64 + i) % 64 ≡ i % 64 = omega arith in
    ap₂ (λ (k j : ℕ). bit (get_or (x ∷ ws) k 0) j) z m

count_first : (x : ℕ) (ws : List ℕ) → count_below (member (x ∷ ws)) (64 * length (x ∷ ws)) ≡ count_below (bit x) 64 + count_below (member ws) (64 * length ws)
count_first x ws =
    ap (count_below (member (x ∷ ws))) (omega arith)
    ∙ count_add (member (x ∷ ws)) 64 (64 * length ws)
    ∙ ap₂ (λ (a b : ℕ). a + b) (count_ext (member (x ∷ ws)) (bit x) 64 (member_first x ws))
    (count_ext (λ j. member (x ∷ ws) (64 + j)) (member ws) (64 * length ws) (λ i l. member_later x ws i))

-- word by word from n on, each sum wrapped
pub count_fold : (ws : List ℕ) (n : ℕ) → n < 2 ^ 64
    → fold (λ (a x : ℕ). (a + count_below (bit x) 64) % 2 ^ 64) n ws ≡ (n + count_below (member ws) (64 * length ws)) % 2 ^ 64
unfolding count_below
count_fold [] n h = sym (mod-eq_of_lt (omega arith)) ∙ ap (λ (a : ℕ). a % 2 ^ 64) (omega arith)
count_fold (x ∷ ws) n h =
    count_fold ws ((n + count_below (bit x) 64) % 2 ^ 64) (omega arith)
    ∙ mod-add-mod (n + count_below (bit x) 64) (2 ^ 64) (count_below (member ws) (64 * length ws))
    ∙ ap (λ (a : ℕ). a % 2 ^ 64) (omega (arith, count_first x ws))

pub count_all : (ws : List ℕ) → fold (λ (a x : ℕ). (a + count_below (bit x) 64) % 2 ^ 64) 0 ws ≡ count_set ws
unfolding count_set
count_all ws = count_fold ws 0 (omega arith) ∙ ap (λ (a : ℕ). a % 2 ^ 64) (omega arith)
