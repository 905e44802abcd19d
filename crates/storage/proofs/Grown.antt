-- What a store holds after growth and a kernel on the words in use.
use mathlib.Core.Path.{◌≡◌, refl, sym, ap, ap₂, ◌∙◌, fun_ext, subst}
use mathlib.Core.Bool.{Bool, false}
use mathlib.Core.List.{List, ◌++◌}
use mathlib.Core.Logic.{inl, inr}
use Prim.Native.Nat.{ℕ, ◌+◌, ◌-◌, ◌*◌, ◌/◌, ◌%◌, ◌^◌, ◌≤◌, ◌<◌, max}
use native.Mathlib.Omega.{arith}
use lib.ListN.{length, get_or, set, take, drop, length-set, length-append, length-drop, get_or-append}
use lib.Seq.{get_or-append-add, get_or-drop, get_or-set_other, get_or-take, length-take-le}
use lib.Bits.{bit_xor, xor_lt}
use borrow.Author.Tests.{ne_eqb}
use Rattle.word.specs.Sets.{xorb}
use Rattle.word.specs.Places.{bit, word_of, member, words_of}
use Rattle.word.specs.Words.{single}
use Rattle.word.proofs.Cases.{by_lt, by_eq, eqb_same, xor-false}
use Rattle.word.proofs.Places.{bit-xor, bit-pack}
use Rattle.word.proofs.Words.{bit-single, single-lt}
use Rattle.word.proofs.Lists.{Fit, at_place, member-at, member-past, word_none, length_words, word_at_lem, words_fit}
use Rattle.word.proofs.Sweep.{get_d_set}
use Rattle.arch.specs.Scans.{nonzero_len}
use Rattle.storage.specs.Stores.{Bits, with_count, view, flipped, trimmed_count, trimmed, zeroed}
use Rattle.storage.specs.Guards.{Passed}
use Rattle.storage.specs.declared.Bitmap.{Bitmap}
use Rattle.storage.proofs.Views.{view-count, view_out}
use Rattle.storage.proofs.Checks.{passed_as}
use Rattle.storage.proofs.Stores.{Stored, part_stored, length-zeroed, zeroed_out, zeroed_fit, grown-bit}
use Rattle.storage.proofs.Trims.{trimmed-length, trimmed_stored}

-- ---- the grown words hold the old set

module _ (ws z : List ℕ) (n e : ℕ) (ez : z ≡ zeroed n e ws) where
  pub grown_long : length z ≡ length ws
  grown_long = ap length ez ∙ length-zeroed n e ws

  pub grown_fit : Fit ws → Fit z
  grown_fit f = subst Fit (sym ez) (zeroed_fit n e ws f)

  pub grown-kept : (k : ℕ) → max n e ≤ k → get_or z k 0 ≡ get_or ws k 0
  grown-kept k h = ap (λ (y : List ℕ). get_or y k 0) ez ∙ zeroed_out n e ws k (inr (omega arith))

  pub grown-at : (k j : ℕ) → k < max n e → j < 64 → bit (get_or z k 0) j ≡ (view ws n).members (64 * k + j)
  grown-at k j h l =
      ap (λ (y : List ℕ). bit (get_or y k 0) j) ez
      ∙ by_lt k n (λ q. grown-bit ws n e k j (inl q) l) (λ q. grown-bit ws n e k j (inr (omega arith)) l)

  pub grown_members : (m : ℕ) → m ≡ max n e → m ≤ length ws → member (take m z) ≡ (view ws n).members
  grown_members m em h = fun_ext at
    where
      at : (i : ℕ) → member (take m z) i ≡ (view ws n).members i
      at i =
          by_lt i (64 * m)
          (λ l.
          ap (member (take m z)) (sym (at_place i)) ∙ member-at (take m z) (i / 64) (i % 64) (omega arith)
          ∙ ap (λ (x : ℕ). bit x (i % 64)) (get_or-take m z (i / 64) 0 (omega arith)) ∙ grown-at (i / 64) (i % 64) (omega arith) (omega arith)
          ∙ ap (view ws n).members (at_place i))
          (λ l. member-past (take m z) i (omega (arith, length-take-le m z (omega (arith, grown_long)))) ∙ sym (view_out ws n i (omega arith)))

  -- ---- one word of them changed

  pub grown-word : (k v : ℕ) (s : Bits) → e ≡ k + 1 → Fit ws → n ≤ length ws → k < length ws → s.count ≡ max n e → v < 2 ^ 64
      → ((j : ℕ) → j < 64 → bit v j ≡ s.members (64 * k + j)) → ((m j : ℕ) → (m ≡ k → ⊥) → j < 64 → (view ws n).members (64 * m + j) ≡ s.members (64 * m + j))
      → Stored ws n s (set z k v)
  grown-word k v s ee f h l c hv here there = record {
    long = length-set z k v ∙ grown_long;
    fits = λ m p.
        by_eq m k
        (λ q. subst (λ (x : ℕ). x < 2 ^ 64) (sym (get_d_set z k m v (omega (arith, grown_long)) q)) hv)
        (λ q. subst (λ (x : ℕ). x < 2 ^ 64) (sym (get_or-set_other z k m v 0 q)) (grown_fit f m));
    used = λ m j p r.
        by_eq m k
        (λ q. ap (λ (x : ℕ). bit x j) (get_d_set z k m v (omega (arith, grown_long)) q) ∙ here j r ∙ ap (λ (x : ℕ). s.members (64 * x + j)) (sym q))
        (λ q. ap (λ (x : ℕ). bit x j) (get_or-set_other z k m v 0 q) ∙ grown-at m j (omega arith) r ∙ there m j q r);
    dropped = λ m p q. absurd (omega arith);
    kept = λ m p q. get_or-set_other z k m v 0 (omega arith) ∙ grown-kept m (omega arith);
  }

  -- ---- a kernel on them: it leaves the words of g, and nothing of g lies past the result's count

  pub grown-part : (m : ℕ) (part : List ℕ) (g : ℕ → Bool) (s : Bits) → m ≡ max n e → m ≤ length ws → m ≡ max n s.count → part ≡ words_of g (length (take m z))
      → ((i : ℕ) → i < 64 * s.count → g i ≡ s.members i) → ((i : ℕ) → 64 * s.count ≤ i → i < 64 * m → g i ≡ false)
      → Stored ws n s (part ++ drop m z)
  unfolding word_of
  grown-part m part g s em h ec ep inside none = record {
    long = length-append part (drop m z) ∙ omega (arith, part_long, length-drop m z, grown_long);
    fits = λ k p. subst (λ (x : ℕ). x < 2 ^ 64) (sym (front k (omega arith))) (words_fit g m k);
    used = λ k j p l.
        ap (λ (x : ℕ). bit x j) (front k (omega arith) ∙ word_at_lem g m k (omega arith))
        ∙ bit-pack 64 (λ j. g (64 * k + j)) j l ∙ inside (64 * k + j) (omega arith);
    dropped = λ k p q. front k (omega arith) ∙ word_at_lem g m k (omega arith) ∙ word_none g k (λ j l. none (64 * k + j) (omega arith) (omega arith));
    kept = λ k p q.
        ap (λ (x : ℕ). get_or (part ++ drop m z) x 0) (omega (arith, part_long))
        ∙ get_or-append-add part (drop m z) (k - m) 0 ∙ get_or-drop m z (k - m) 0 ∙ ap (λ (x : ℕ). get_or z x 0) (omega arith) ∙ grown-kept k (omega arith);
  }
    where
      is : part ≡ words_of g m
      is = ep ∙ ap (words_of g) (length-take-le m z (omega (arith, grown_long)))

      part_long : length part ≡ m
      part_long = ap length is ∙ length_words g m

      front : (k : ℕ) → k < m → get_or (part ++ drop m z) k 0 ≡ get_or (words_of g m) k 0
      front k l = get_or-append part (drop m z) 0 k (omega (arith, part_long)) ∙ ap (λ (y : List ℕ). get_or y k 0) is

-- the grown store passes with its count
pub passed_grown : (ws z : List ℕ) (b : Bitmap) (e m : ℕ) → Passed ws b → z ≡ zeroed b.count e ws → m ≡ max b.count e → e ≤ length ws → Passed z (with_count b m)
passed_grown ws z b e m p ez em h = passed_as ws z b m (grown_long ws z b.count e ez) (omega (arith, p.inside)) p

-- ---- one bit of the grown words flipped

pub flip_stored : (ws z : List ℕ) (n i x : ℕ) → z ≡ zeroed n (i / 64 + 1) ws → Fit ws → n ≤ length ws → i / 64 < length ws → x ≡ single 64 (i % 64)
    → Stored ws n (flipped i (view ws n)) (set z (i / 64) (bit_xor (get_or z (i / 64) 0) x))
flip_stored ws z n i x ez f h l ex =
    grown-word ws z n (i / 64 + 1) ez (i / 64) (bit_xor (get_or z (i / 64) 0) x) (flipped i (view ws n)) refl f h l (omega (arith, view-count ws n))
    (xor_lt 64 (get_or z (i / 64) 0) x (grown_fit ws z n (i / 64 + 1) ez f (i / 64)) (subst (λ (y : ℕ). y < 2 ^ 64) (sym ex) (single-lt 64 (i % 64))))
    (λ j q.
    bit-xor (get_or z (i / 64) 0) x j
    ∙ ap₂ xorb (grown-at ws z n (i / 64 + 1) ez (i / 64) j (omega arith) q)
    (ap (λ (y : ℕ). bit y j) ex ∙ bit-single 64 (i % 64) j q ∙ eqb_same j (i % 64) (64 * (i / 64) + j) i (λ e. omega arith) (λ e. omega arith)))
    (λ m j e q. sym (ap (xorb ((view ws n).members (64 * m + j))) (ne_eqb (64 * m + j) i (omega arith)) ∙ xor-false ((view ws n).members (64 * m + j))))

-- ---- a kernel on the words in use, and then trimmed

module _ (ws part : List ℕ) (n : ℕ) (g : ℕ → Bool) (s : Bits) (f : Fit ws) (h : n ≤ length ws) (ep : part ≡ words_of g (length (take n ws)))
    (c : s.count ≡ n) (same : (i : ℕ) → i < 64 * n → g i ≡ s.members i) where
  st : Stored ws n s (part ++ drop n ws)
  st = part_stored ws (part ++ drop n ws) n g s h (ap (λ (y : List ℕ). y ++ drop n ws) (ep ∙ ap (words_of g) (length-take-le n ws h))) c same

  fit : Fit (part ++ drop n ws)
  fit k = by_lt k n (λ l. st.fits k (omega arith)) (λ l. subst (λ (x : ℕ). x < 2 ^ 64) (sym (st.kept k (omega arith) l)) (f k))

  bits : (k j : ℕ) → k < n → j < 64 → bit (get_or (part ++ drop n ws) k 0) j ≡ s.members (64 * k + j)
  bits k j l q = st.used k j (omega arith) q

  none : (i : ℕ) → 64 * n ≤ i → i < 64 * s.count → s.members i ≡ false
  none i a b = absurd (omega arith)

  pub part-trimmed : Stored ws n (trimmed s) (part ++ drop n ws)
  part-trimmed =
      trimmed_stored (part ++ drop n ws) n s fit (omega (arith, st.long)) (omega arith) bits none ws n (omega arith) st.long (λ k a b. st.kept k (omega arith) b)

  pub part-trimmed-length : nonzero_len (take n (part ++ drop n ws)) ≡ trimmed_count s.members s.count
  part-trimmed-length = trimmed-length (part ++ drop n ws) n s fit (omega (arith, st.long)) (omega arith) bits none
