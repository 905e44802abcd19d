-- One word worked on, and the count trimmed where it is the last and is 0.
use mathlib.Core.Path.{◌≡◌, refl, sym, ap, ap₂, ◌∙◌, subst, fun_ext}
use mathlib.Core.Bool.{Bool, true, false, not, ◌&&◌, ◌||◌, false≢true}
use mathlib.Core.List.{List}
use Prim.Native.Nat.{ℕ, suc, ◌+◌, ◌-◌, ◌*◌, ◌/◌, ◌%◌, ◌^◌, ◌≤◌, ◌<◌, max}
use native.Mathlib.Omega.{arith}
use lib.ListN.{length, get_or, set, take, length-set}
use lib.Seq.{get_or-set_other, length-take-le}
use lib.Dec.{eqb}
use lib.Bits.{bit_and, bit_xor, and_lt}
use borrow.Author.Tests.{eq-eqb, ne_eqb, eqb-true}
use Rattle.word.specs.Sets.{choose, xorb}
use Rattle.word.specs.Places.{bit, word_of}
use Rattle.word.specs.Words.{single}
use Rattle.word.proofs.Cases.{by_lt, by_eq, eqb_same, and-true, and-keep, and-false}
use Rattle.word.proofs.Places.{bit-zero, bit-and, bit_not, bit-pack, pack_is}
use Rattle.word.proofs.Words.{bit-single, single-lt}
use Rattle.word.proofs.Lists.{Fit}
use Rattle.word.proofs.Sweep.{get_d_set}
use Rattle.arch.specs.Scans.{nonzero_len}
use Rattle.arch.proofs.Scans.{nonzero_le}
use Rattle.storage.specs.Stores.{with_count, Bits, done, Op, Space, view, within, flipped, trimmed, zeroed, Changes}
use Rattle.storage.specs.Guards.{Passed}
use Rattle.storage.specs.declared.Bitmap.{Bitmap}
use Rattle.storage.specs.declared.Refusal.TheVariants.{NoSpace}
use Rattle.storage.proofs.Checks.{within_ok, within_no}
use Rattle.storage.proofs.Views.{view-count, view_in, view_out}
use Rattle.storage.proofs.Stores.{Stored, changes_done, changes-refused, word_stored}
use Rattle.storage.proofs.Grown.{flip_stored}
use Rattle.storage.proofs.Trims.{trimmed-length, trimmed_stored}
use Rattle.bitmaps.specs.Bitmaps.{tidied, keeping_bit, dropping_bit, flipping_bit}
use Rattle.bitmap.specs.Kernels.{tidy_count, masking}
use Rattle.storage.specs.Refusals.{refusing}
use Rattle.std.specs.Prelude.{Ok}

-- ---- the count

pub tidy_stays : (ws : List ℕ) (n k : ℕ) → k + 1 < n → n ≡ tidy_count ws n k
unfolding tidy_count
tidy_stays ws n k h = ap (λ (t : Bool). choose (t && eqb (get_or ws k 0) 0) (nonzero_len (take n ws)) n) (sym (ne_eqb (suc k) n (omega arith)))

pub tidy_full : (ws : List ℕ) (n k : ℕ) → (get_or ws k 0 ≡ 0 → ⊥) → n ≡ tidy_count ws n k
unfolding tidy_count
tidy_full ws n k h =
    sym
    (ap (λ (t : Bool). choose (eqb (suc k) n && t) (nonzero_len (take n ws)) n) (ne_eqb (get_or ws k 0) 0 h)
    ∙ ap (λ (t : Bool). choose t (nonzero_len (take n ws)) n) (and-false (eqb (suc k) n)))

pub tidy_trims : (ws : List ℕ) (n k r : ℕ) → k < n → n ≤ k + 1 → get_or ws k 0 ≡ 0 → r ≡ nonzero_len (take n ws) → r ≡ tidy_count ws n k
unfolding tidy_count
tidy_trims ws n k r l h z e =
    e ∙ ap₂ (λ (t u : Bool). choose (t && u) (nonzero_len (take n ws)) n) (sym (eq-eqb (suc k) n (omega arith))) (sym (eq-eqb (get_or ws k 0) 0 z))

tidy_le : (ws : List ℕ) (n k : ℕ) → n ≤ length ws → tidy_count ws n k ≤ n
unfolding tidy_count
tidy_le ws n k h = go (eqb (suc k) n && eqb (get_or ws k 0) 0)
  where
    go : (t : Bool) → choose t (nonzero_len (take n ws)) n ≤ n
    go true = omega (arith, nonzero_le (take n ws), length-take-le n ws h)
    go false = omega arith

-- ---- the store: it holds s in its first words, and word k was worked on

module _ (ws ws' : List ℕ) (n k u : ℕ) (s : Bits) (fit : Fit ws') (c : s.count ≡ u) (l : n ≤ u) (h : u ≤ length ws') (inside : k < u)
    (st : Stored ws n s ws') (grown : n < u → get_or ws' k 0 ≡ 0 → ⊥) where
  word_same : word_of s.members k ≡ get_or ws' k 0
  unfolding word_of
  word_same = sym (pack_is 64 (get_or ws' k 0) (λ j. s.members (64 * k + j)) (fit k) (λ j m. st.used k j (omega arith) m))

  none : (i : ℕ) → 64 * u ≤ i → i < 64 * s.count → s.members i ≡ false
  none i a b = absurd (omega arith)

  bits : (m j : ℕ) → m < u → j < 64 → bit (get_or ws' m 0) j ≡ s.members (64 * m + j)
  bits m j a b = st.used m j (omega arith) b

  -- the test of the code is the definition's
  pub tidied_stored : Stored ws n (tidied k s) ws' × (tidy_count ws' u k ≡ (tidied k s).count)
  unfolding tidied tidy_count
  tidied_stored =
      subst (λ (x : Bool). Stored ws n (choose x (trimmed s) s) ws' × (choose test (nonzero_len (take u ws')) u ≡ (choose x (trimmed s) s).count))
      (sym same) (go test (λ e. eqb-true (get_or ws' k 0) 0 (and-true (eqb (suc k) u) (eqb (get_or ws' k 0) 0) e).1))
    where
      test : Bool
      test = eqb (suc k) u && eqb (get_or ws' k 0) 0

      same : eqb (suc k) s.count && eqb (word_of s.members k) 0 ≡ eqb (suc k) u && eqb (get_or ws' k 0) 0
      same = ap₂ (λ (a b : ℕ). eqb (suc k) a && eqb b 0) c word_same

      keep : get_or ws' k 0 ≡ 0 → (m : ℕ) → nonzero_len (take u ws') ≤ m → n ≤ m → get_or ws' m 0 ≡ get_or ws m 0
      keep z m a b = by_lt n u (λ q. absurd (grown q z)) (λ q. st.kept m (omega arith) b)

      go : (t : Bool) → (t ≡ true → get_or ws' k 0 ≡ 0) → Stored ws n (choose t (trimmed s) s) ws' × (choose t (nonzero_len (take u ws')) u ≡ (choose t (trimmed s) s).count)
      go false e = (st, sym c)
      go true e =
          (trimmed_stored ws' u s fit h (omega arith) bits none ws n l st.long (keep (e refl)), trimmed-length ws' u s fit h (omega arith) bits none)

-- ---- the three calls

module _ (ws : List ℕ) (b : Bitmap) (i : ℕ) (f : Fit ws) (p : Passed ws b) where
  n : ℕ
  n = b.count

  k : ℕ
  k = i / 64

  -- a call that works on a word in use by a function of its bits
  in_place : (op : Op) (s : Bits) (v r : ℕ) → i / 64 < b.count → op (length ws) (view ws b.count) ≡ done (tidied (i / 64) s) → s.count ≡ b.count → v < 2 ^ 64
      → ((j : ℕ) → j < 64 → bit v j ≡ s.members (64 * (i / 64) + j))
      → ((m j : ℕ) → (m ≡ i / 64 → ⊥) → j < 64 → (view ws b.count).members (64 * m + j) ≡ s.members (64 * m + j))
      → r ≡ tidy_count (set ws (i / 64) v) b.count (i / 64) → Changes op ws b (Ok (with_count b r)) (set ws (i / 64) v)
  in_place op s v r h e c hv here there er =
      let st : Stored ws b.count s (set ws (i / 64) v) = word_stored ws b.count (i / 64) v s f p.inside h c hv here there in
      let t = tidied_stored ws (set ws (i / 64) v) b.count (i / 64) b.count s (fit_set v hv) c (omega arith)
      (omega (arith, length-set ws (i / 64) v, p.inside)) h st (λ q. absurd (omega arith)) in
      changes_done op ws b (set ws (i / 64) v) (tidied (i / 64) s) r p e t.0 (er ∙ t.1)
    where
      fit_set : (v : ℕ) → v < 2 ^ 64 → Fit (set ws (i / 64) v)
      fit_set v hv m =
          by_eq m (i / 64)
          (λ q. subst (λ (x : ℕ). x < 2 ^ 64) (sym (get_d_set ws (i / 64) m v (omega (arith, p.inside)) q)) hv)
          (λ q. subst (λ (x : ℕ). x < 2 ^ 64) (sym (get_or-set_other ws (i / 64) m v 0 q)) (f m))

  -- past the words in use nothing is worked on
  untouched : (op : Op) (s : Bits) → b.count ≤ i / 64 → op (length ws) (view ws b.count) ≡ done (tidied (i / 64) s) → s.count ≡ b.count
      → ((m j : ℕ) → m < b.count → j < 64 → (view ws b.count).members (64 * m + j) ≡ s.members (64 * m + j)) → Changes op ws b (Ok b) ws
  unfolding tidied
  untouched op s h e c same =
      changes_done op ws b ws s b.count p
      (e ∙ ap (λ (t : Bool). done (choose (t && eqb (word_of s.members (i / 64)) 0) (trimmed s) s)) (ne_eqb (suc (i / 64)) s.count (omega arith)))
      (record {
        long = refl;
        fits = λ m l. f m;
        used = λ m j l q. sym (view_in ws b.count m j (omega arith) q) ∙ same m j (omega arith) q;
        dropped = λ m l q. absurd (omega arith);
        kept = λ m l q. refl;
      })
      (sym c)

  -- the places of a mask kept
  keep_here : (t : Bool) (mask j : ℕ) → j < 64
      → t && bit mask j ≡ t && (not (eqb ((64 * (i / 64) + j) / 64) (i / 64)) || bit mask ((64 * (i / 64) + j) % 64))
  keep_here t mask j l =
      let e : j ≡ (64 * (i / 64) + j) % 64 = omega arith in
      ap (λ (x : ℕ). t && bit mask x) e
      ∙ ap (λ (u : Bool). t && (not u || bit mask ((64 * (i / 64) + j) % 64))) (sym (eq-eqb ((64 * (i / 64) + j) / 64) (i / 64) (omega arith)))

  keep_there : (t : Bool) (mask m j : ℕ) → (m ≡ i / 64 → ⊥) → j < 64 → t ≡ t && (not (eqb ((64 * m + j) / 64) (i / 64)) || bit mask ((64 * m + j) % 64))
  keep_there t mask m j q l = sym (ap (λ (u : Bool). t && (not u || bit mask ((64 * m + j) % 64))) (ne_eqb ((64 * m + j) / 64) (i / 64) (omega arith)) ∙ and-keep t)

  pub keep-changes : (mask r : ℕ) → mask < 2 ^ 64 → i / 64 < b.count → r ≡ tidy_count (set ws (i / 64) (bit_and (get_or ws (i / 64) 0) mask)) b.count (i / 64)
      → Changes (masking i mask) ws b (Ok (with_count b r)) (set ws (i / 64) (bit_and (get_or ws (i / 64) 0) mask))
  unfolding masking
  keep-changes mask r fit h er =
      in_place (masking i mask) _ (bit_and (get_or ws (i / 64) 0) mask) r h refl (view-count ws b.count) (and_lt 64 (get_or ws (i / 64) 0) mask (f (i / 64)) fit)
      (λ j l.
      bit-and (get_or ws (i / 64) 0) mask j ∙ ap (λ (s : Bool). s && bit mask j) (sym (view_in ws b.count (i / 64) j h l))
      ∙ keep_here ((view ws b.count).members (64 * (i / 64) + j)) mask j l)
      (λ m j q l. keep_there ((view ws b.count).members (64 * m + j)) mask m j q l) er

  pub keep-past : (mask : ℕ) → b.count ≤ i / 64 → Changes (masking i mask) ws b (Ok b) ws
  unfolding masking
  keep-past mask h =
      untouched (masking i mask) _ h refl (view-count ws b.count) (λ m j l q. keep_there ((view ws b.count).members (64 * m + j)) mask m j (omega arith) q)

  -- `xori`: a word that grew in holds the flipped bit alone, so it is never dropped
  pub xori-changes : (z : List ℕ) (x u r : ℕ) → i / 64 < length ws → z ≡ zeroed b.count (i / 64 + 1) ws → x ≡ single 64 (i % 64) → u ≡ max b.count (i / 64 + 1)
      → r ≡ tidy_count (set z (i / 64) (bit_xor (get_or z (i / 64) 0) x)) u (i / 64)
      → Changes (flipping_bit i) ws b (Ok (with_count b r)) (set z (i / 64) (bit_xor (get_or z (i / 64) 0) x))
  unfolding flipping_bit
  xori-changes z x u r h ez ex eu er =
      changes_done (flipping_bit i) ws b ws' (tidied (i / 64) s) r p (within_ok (length ws) (tidied (i / 64) s) (omega (arith, t.1, small))) t.0 (er ∙ t.1)
    where
      ws' : List ℕ
      ws' = set z (i / 64) (bit_xor (get_or z (i / 64) 0) x)

      s : Bits
      s = flipped i (view ws b.count)

      st : Stored ws b.count s ws'
      st = flip_stored ws z b.count i x ez f p.inside h ex

      count : s.count ≡ u
      count = omega (arith, eu, view-count ws b.count)

      fit : Fit ws'
      fit m =
          by_lt m u
          (λ a. st.fits m (omega (arith, count)))
          (λ a. subst (λ (y : ℕ). y < 2 ^ 64) (sym (st.kept m (omega (arith, count)) (omega (arith, eu)))) (f m))

      not-zero : b.count < u → get_or ws' (i / 64) 0 ≡ 0 → ⊥
      not-zero q e =
          false≢true
          (sym (bit-zero (i % 64)) ∙ ap (λ (y : ℕ). bit y (i % 64)) (sym e)
          ∙ st.used (i / 64) (i % 64) (omega (arith, count, eu)) (omega arith)
          ∙ ap₂ xorb (view_out ws b.count (64 * (i / 64) + i % 64) (omega (arith, eu))) (eq-eqb (64 * (i / 64) + i % 64) i (omega arith)))

      t : Stored ws b.count (tidied (i / 64) s) ws' × (tidy_count ws' u (i / 64) ≡ (tidied (i / 64) s).count)
      t = tidied_stored ws ws' b.count (i / 64) u s fit count (omega (arith, eu)) (omega (arith, eu, st.long, p.inside)) (omega (arith, eu)) st not-zero

      small : tidy_count ws' u (i / 64) ≤ u
      small = tidy_le ws' u (i / 64) (omega (arith, eu, st.long, p.inside))

  pub xori-refused : length ws ≤ i / 64 → Changes (flipping_bit i) ws b (refusing b NoSpace) ws
  unfolding flipping_bit tidied word_of
  xori-refused h =
      changes-refused (flipping_bit i) ws b NoSpace p
      (ap (λ (t : Bool). within (length ws) (choose t (trimmed s) s))
      (ap (λ (t : Bool). eqb (suc (i / 64)) s.count && t) (ne_eqb (word_of s.members (i / 64)) 0 full) ∙ and-false
      (eqb (suc (i / 64)) s.count))
      ∙ within_no (length ws) s (omega arith))
    where
      s : Bits
      s = flipped i (view ws b.count)

      -- the word holds the flipped bit
      full : word_of s.members (i / 64) ≡ 0 → ⊥
      full e =
          false≢true
          (sym (bit-zero (i % 64)) ∙ ap (λ (y : ℕ). bit y (i % 64)) (sym e) ∙ bit-pack 64 (λ j. s.members (64 * (i / 64) + j)) (i % 64) (omega arith)
          ∙ ap₂ xorb (view_out ws b.count (64 * (i / 64) + i % 64) (omega (arith, p.inside))) (eq-eqb (64 * (i / 64) + i % 64) i (omega arith)))

-- ---- the masks of `andi` and `andnoti`: bit i alone, and all but it

module _ (i x : ℕ) (e : x ≡ single 64 (i % 64)) where
  one_bit : (j : ℕ) → j / 64 ≡ i / 64 → bit x (j % 64) ≡ eqb j i
  one_bit j q =
      ap (λ (y : ℕ). bit y (j % 64)) e ∙ bit-single 64 (i % 64) (j % 64) (omega arith)
      ∙ eqb_same (j % 64) (i % 64) j i (λ r. omega arith) (λ r. omega arith)

  pub keeps_bit : (c : Space) (b : Bits) → keeping_bit i c b ≡ masking i x c b
  unfolding keeping_bit masking
  keeps_bit c b = ap (λ (s : ℕ → Bool). done (tidied (i / 64) (record { members = s; count = b.count }))) (fun_ext (λ j. ap (λ (t : Bool). b.members j && t) (at j)))
    where
      at : (j : ℕ) → not (eqb (j / 64) (i / 64)) || eqb j i ≡ not (eqb (j / 64) (i / 64)) || bit x (j % 64)
      at j =
          by_eq (j / 64) (i / 64)
          (λ q. ap (λ (t : Bool). not (eqb (j / 64) (i / 64)) || t) (sym (one_bit j q)))
          (λ q.
          let z : eqb (j / 64) (i / 64) ≡ false = ne_eqb (j / 64) (i / 64) q in
          ap (λ (t : Bool). not t || eqb j i) z ∙ sym (ap (λ (t : Bool). not t || bit x (j % 64)) z))

  pub drops_bit : (c : Space) (b : Bits) → dropping_bit i c b ≡ masking i ((2 ^ 64 - 1) - x) c b
  unfolding dropping_bit masking
  drops_bit c b = ap (λ (s : ℕ → Bool). done (tidied (i / 64) (record { members = s; count = b.count }))) (fun_ext (λ j. ap (λ (t : Bool). b.members j && t) (at j)))
    where
      at : (j : ℕ) → not (eqb j i) ≡ not (eqb (j / 64) (i / 64)) || bit ((2 ^ 64 - 1) - x) (j % 64)
      at j =
          by_eq (j / 64) (i / 64)
          (λ q.
          ap not (sym (one_bit j q)) ∙ sym (bit_not x 64 (j % 64) (subst (λ (y : ℕ). y < 2 ^ 64) (sym e) (single-lt 64 (i % 64))) (omega arith))
          ∙ ap (λ (t : Bool). not t || bit ((2 ^ 64 - 1) - x) (j % 64)) (sym (eq-eqb (j / 64) (i / 64) q)))
          (λ q.
          ap not (ne_eqb j i (λ r. q (ap (λ (m : ℕ). m / 64) r)))
          ∙ sym (ap (λ (t : Bool). not t || bit ((2 ^ 64 - 1) - x) (j % 64)) (ne_eqb (j / 64) (i / 64) q)))
