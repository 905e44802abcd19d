-- Lists made from an index, and words that are determined by their set.
use Rattle.std.proofs.Common.{◌≡◌, ℕ, zero, suc, ◌+◌, ◌*◌, ◌/◌, ◌%◌, ◌^◌, ◌<◌, ◌≤◌, Bool, false, List, length, get_or, take, sym, refl, ap, ◌∙◌, subst, ap₂, le_of_suc-le-suc, not-suc-le-zero, add-zero, add-suc, suc-add, zero-add, arith, length-take-le, get_or-take, ext_get_or}
use lib.ListN.{get_or-eq_default}
use Rattle.word.specs.Places.{bit, word_of, member, tab_from, words_of}
use Rattle.word.proofs.Cases.{by_lt}
use Rattle.word.proofs.Places.{bit-zero, pack-lt, bit-pack, pack_is}

-- every word has 64 digits
abbrev pub Fit : List ℕ → Type 0
Fit ws = (k : ℕ) → get_or ws k 0 < 2 ^ 64

-- those below e have, as far as a loop has come
pub record FitTo (ws : List ℕ) (e : ℕ) : Type 0 where
  pub at : (k : ℕ) → k < e → get_or ws k 0 < 2 ^ 64

pub fit_none : (ws : List ℕ) → FitTo ws 0
fit_none ws = record { at = λ k l. absurd (omega arith) }

pub fit_more : {ws : List ℕ} {e : ℕ} → FitTo ws e → get_or ws e 0 < 2 ^ 64 → FitTo ws (e + 1)
fit_more {ws} {e} f h = record { at = λ k l. by_lt k e (λ p. f.at k p) (λ p. subst (λ (m : ℕ). get_or ws m 0 < 2 ^ 64) (omega arith) h) }

pub past : (ws : List ℕ) (k : ℕ) → length ws ≤ k → get_or ws k 0 ≡ 0
past ws k h = get_or-eq_default ws 0 h

pub fit_part : (ws : List ℕ) (n : ℕ) → Fit ws → n ≤ length ws → Fit (take n ws)
fit_part ws n f h k =
    by_lt k n
    (λ l. subst (λ (x : ℕ). x < 2 ^ 64) (sym (get_or-take n ws k 0 l)) (f k))
    (λ l. subst (λ (x : ℕ). x < 2 ^ 64) (sym (past (take n ws) k (omega (arith, length-take-le n ws h)))) (omega arith))

-- ---- a list made from an index

pub length_tab : (i n : ℕ) (f : ℕ → ℕ) → length (tab_from i n f) ≡ n
unfolding tab_from
length_tab i zero f = refl
length_tab i (suc n) f = ap suc (length_tab (suc i) n f)

pub get_d_tab : (i n : ℕ) (f : ℕ → ℕ) (k : ℕ) → k < n → get_or (tab_from i n f) k 0 ≡ f (i + k)
unfolding tab_from
get_d_tab i zero f k h = absurd (not-suc-le-zero h)
get_d_tab i (suc n) f zero h = ap f (sym (add-zero i))
get_d_tab i (suc n) f (suc k) h = get_d_tab (suc i) n f k (le_of_suc-le-suc h) ∙ ap f (suc-add i k ∙ sym (add-suc i k))

pub tab_at : (n : ℕ) (f : ℕ → ℕ) (k : ℕ) → k < n → get_or (tab_from 0 n f) k 0 ≡ f k
tab_at n f k h = get_d_tab 0 n f k h ∙ ap f (zero-add k)

-- a list is the one made by f where each of its elements is f's
pub tab_is : (n : ℕ) (f : ℕ → ℕ) (ws : List ℕ) → length ws ≡ n → ((k : ℕ) → k < n → get_or ws k 0 ≡ f k) → ws ≡ tab_from 0 n f
tab_is n f ws e h =
    ext_get_or 0 ws (tab_from 0 n f) (e ∙ sym (length_tab 0 n f))
    (λ k l. let l' : k < n = omega arith in h k l' ∙ sym (tab_at n f k l'))

-- ---- place 64 * k + j is bit j of word k

pub at-word : (k j : ℕ) → j < 64 → (64 * k + j) / 64 ≡ k
at-word k j h = omega arith

pub at-bit : (k j : ℕ) → j < 64 → (64 * k + j) % 64 ≡ j
at-bit k j h = omega arith

pub at_place : (i : ℕ) → 64 * (i / 64) + i % 64 ≡ i
at_place i = omega arith

pub member-at : (ws : List ℕ) (k j : ℕ) → j < 64 → member ws (64 * k + j) ≡ bit (get_or ws k 0) j
unfolding member
member-at ws k j l = ap₂ (λ (x y : ℕ). bit (get_or ws x 0) y) (at-word k j l) (at-bit k j l)

pub member-past : (ws : List ℕ) (i : ℕ) → 64 * length ws ≤ i → member ws i ≡ false
unfolding member
member-past ws i h = ap (λ (x : ℕ). bit x (i % 64)) (past ws (i / 64) (omega arith)) ∙ bit-zero (i % 64)

-- ---- the words of a set

pub length_words : (s : ℕ → Bool) (n : ℕ) → length (words_of s n) ≡ n
unfolding words_of
length_words s n = length_tab 0 n (word_of s)

pub word_at_lem : (s : ℕ → Bool) (n k : ℕ) → k < n → get_or (words_of s n) k 0 ≡ word_of s k
unfolding words_of
word_at_lem s n k h = tab_at n (word_of s) k h

pub words_fit : (s : ℕ → Bool) (n : ℕ) → Fit (words_of s n)
unfolding word_of
words_fit s n k =
    by_lt k n
    (λ h. subst (λ (x : ℕ). x < 2 ^ 64) (sym (word_at_lem s n k h)) (pack-lt 64 (λ j. s (64 * k + j))))
    (λ h. subst (λ (x : ℕ). x < 2 ^ 64) (sym (past (words_of s n) k (omega (arith, length_words s n)))) (omega arith))

-- a word of a set is 0 exactly where none of its numbers is a member
pub word_none : (s : ℕ → Bool) (k : ℕ) → ((j : ℕ) → j < 64 → s (64 * k + j) ≡ false) → word_of s k ≡ 0
unfolding word_of
word_none s k h = sym (pack_is 64 0 (λ j. s (64 * k + j)) (omega arith) (λ j l. bit-zero j ∙ sym (h j l)))

pub word-zero : (s : ℕ → Bool) (k j : ℕ) → word_of s k ≡ 0 → j < 64 → s (64 * k + j) ≡ false
unfolding word_of
word-zero s k j e l = sym (bit-pack 64 (λ j. s (64 * k + j)) j l) ∙ ap (λ (x : ℕ). bit x j) e ∙ bit-zero j

-- a list of words is a set's where each of its bits is the set's
pub words_is : (n : ℕ) (s : ℕ → Bool) (ws : List ℕ) → length ws ≡ n → ((k : ℕ) → k < n → get_or ws k 0 < 2 ^ 64)
    → ((k j : ℕ) → k < n → j < 64 → bit (get_or ws k 0) j ≡ s (64 * k + j)) → ws ≡ words_of s n
unfolding words_of word_of
words_is n s ws e f h = tab_is n (word_of s) ws e (λ k l. pack_is 64 (get_or ws k 0) (λ j. s (64 * k + j)) (f k l) (λ j m. h k j l m))

-- the words of a set have the set's members
pub member_words : (s : ℕ → Bool) (n i : ℕ) → i < 64 * n → member (words_of s n) i ≡ s i
unfolding word_of member
member_words s n i h =
    ap (λ (x : ℕ). bit x (i % 64)) (word_at_lem s n (i / 64) (omega arith))
    ∙ bit-pack 64 (λ j. s (64 * (i / 64) + j)) (i % 64) (omega arith)
    ∙ ap s (at_place i)

-- and the set of some words has those words
pub words_member : (ws : List ℕ) → Fit ws → words_of (member ws) (length ws) ≡ ws
words_member ws f = sym (words_is (length ws) (member ws) ws refl (λ k l. f k) (λ k j l m. sym (member-at ws k j m)))

-- words of one length with the same members are equal
pub determined : (xs ys : List ℕ) → Fit xs → Fit ys → length xs ≡ length ys → ((i : ℕ) → member xs i ≡ member ys i) → xs ≡ ys
determined xs ys f g e h =
    words_is (length ys) (member ys) xs e (λ k l. f k) (λ k j l m. sym (member-at xs k j m) ∙ h (64 * k + j)) ∙ words_member ys g
