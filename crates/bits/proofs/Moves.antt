-- What the loops over whole words leave.
use mathlib.Core.Path.{◌≡◌, refl, ap, ap₂, ◌∙◌, sym, subst}
use mathlib.Core.Bool.{Bool, true, false, not, ◌&&◌}
use mathlib.Core.List.{List, ◌++◌}
use Prim.Native.Nat.{ℕ, suc, ◌+◌, ◌-◌, ◌*◌, ◌/◌, ◌%◌, ◌^◌, ◌≤◌, ◌<◌}
use native.Mathlib.Omega.{arith}
use lib.ListN.{length, get_or, set, take, drop}
use lib.Seq.{length-take-le}
use lib.Dec.{eqb}
use borrow.Author.Tests.{lt-ltb, ne_eqb}
use lib.Pow.{ones_sub-lt}
use lib.Bits.{bit_xor, xor_lt}
use Rattle.word.specs.Places.{bit, member, words_of}
use Rattle.word.specs.Sets.{choose, xorb}
use Rattle.word.specs.Words.{single, mirrored}
use Rattle.word.proofs.Cases.{eqb_same}
use Rattle.word.proofs.Places.{bit_not, bit-xor}
use Rattle.word.proofs.Words.{mirrors, bit-single, single-lt}
use Rattle.word.proofs.Lists.{Fit, FitTo, member-at}
use Rattle.storage.specs.Stores.{Bits, refused, done, view, Changes}
use Rattle.storage.specs.Guards.{Passed}
use Rattle.storage.specs.declared.Bitmap.{Bitmap}
use Rattle.storage.specs.declared.Refusal.TheVariants.{PastLength}
use Rattle.storage.proofs.Views.{view-count, view_in, view-part}
use Rattle.storage.proofs.Stores.{part-changes, changes_done, changes-refused, word_stored}
use Rattle.bitwise.specs.Bitwise.{toggling_inside, inverting, reversing}
use Rattle.word.proofs.Sweep.{Swept, swept_words}
use Rattle.bitwise.proofs.Cases.{toggling-past}
use Rattle.storage.specs.Refusals.{refusing}
use Rattle.std.specs.Prelude.{Ok}

pub inverted_is : (ws ws' : List ℕ) (e : ℕ) → FitTo ws e → Swept ws (λ k. (2 ^ 64 - 1) - get_or ws k 0) 0 e ws' → length ws ≤ e
    → ws' ≡ words_of (λ i. not (member ws i)) (length ws)
inverted_is ws ws' e f s h =
    swept_words ws (λ k. (2 ^ 64 - 1) - get_or ws k 0) (λ i. not (member ws i)) e ws' s h
    (λ k l. ones_sub-lt 64 (get_or ws k 0))
    (λ k j l m. bit_not (get_or ws k 0) 64 j (f.at k (omega arith)) m ∙ ap not (sym (member-at ws k j m)))

-- the call, from what its kernel left of the words in use
pub invert-changes : (ws part : List ℕ) (b : Bitmap) → Passed ws b
    → part ≡ words_of (λ i. not (member (take b.count ws) i)) (length (take b.count ws)) → Changes inverting ws b (Ok b) (part ++ drop b.count ws)
unfolding inverting
invert-changes ws part b p e =
    part-changes inverting ws part b (λ i. not (member (take b.count ws) i)) _ p refl (view-count ws b.count) e
    (λ i l.
    ap not (sym (view-part ws b.count i p.inside))
    ∙ ap (λ (t : Bool). t && not ((view ws b.count).members i)) (sym (lt-ltb i (64 * (view ws b.count).count) (omega (arith, view-count ws b.count)))))

-- ---- reversal

-- a word that the loop makes is the mirrored one of the other end
pub mirror_at : (old ws : List ℕ) (k m x : ℕ) → x ≡ mirrored 64 (get_or ws m 0) → get_or ws m 0 ≡ get_or old m 0 → m + suc k ≡ length old
    → x ≡ mirrored 64 (get_or old (length old - suc k) 0)
mirror_at old ws k m x e q l = e ∙ ap (mirrored 64) (q ∙ ap (λ (i : ℕ). get_or old i 0) (omega arith))

pub reversed_is : (ws ws' : List ℕ) → Fit ws → Swept ws (λ k. mirrored 64 (get_or ws (length ws - suc k) 0)) 0 (length ws) ws'
    → ws' ≡ words_of (λ i. member ws (64 * length ws - suc i)) (length ws)
reversed_is ws ws' f s =
    swept_words ws (λ k. mirrored 64 (get_or ws (length ws - suc k) 0)) (λ i. member ws (64 * length ws - suc i)) (length ws) ws' s (omega arith)
    (λ k l. (mirrors 64 (get_or ws (length ws - suc k) 0) (f (length ws - suc k))).fits)
    (λ k j l m.
    (mirrors 64 (get_or ws (length ws - suc k) 0) (f (length ws - suc k))).place j (63 - j) (omega arith)
    ∙ sym (member-at ws (length ws - suc k) (63 - j) (omega arith)) ∙ ap (member ws) (place k j l m))
  where
    place : (k j : ℕ) → k < length ws → j < 64 → 64 * (length ws - suc k) + (63 - j) ≡ 64 * length ws - suc (64 * k + j)
    place k j l m = omega arith

pub reverse-changes : (ws part : List ℕ) (b : Bitmap) → Passed ws b
    → part ≡ words_of (λ i. member (take b.count ws) (64 * length (take b.count ws) - suc i)) (length (take b.count ws))
    → Changes reversing ws b (Ok b) (part ++ drop b.count ws)
unfolding reversing
reverse-changes ws part b p e =
    part-changes reversing ws part b (λ i. member (take n ws) (64 * length (take n ws) - suc i)) _ p refl (view-count ws n) e
    (λ i l.
    sym (view-part ws n (64 * length (take n ws) - suc i) p.inside)
    ∙ ap (λ (m : ℕ). (view ws n).members (64 * m - suc i)) (length-take-le n ws p.inside ∙ sym (view-count ws n))
    ∙ ap (λ (t : Bool). t && (view ws n).members (64 * (view ws n).count - suc i)) (sym (lt-ltb i (64 * (view ws n).count) (omega (arith, view-count ws n)))))
  where
    n : ℕ
    n = b.count

-- ---- one bit

pub toggle-changes : (ws : List ℕ) (b : Bitmap) (i x : ℕ) → Fit ws → Passed ws b → i / 64 < b.count → x ≡ single 64 (i % 64)
    → Changes (toggling_inside i) ws b (Ok b) (set ws (i / 64) (bit_xor (get_or ws (i / 64) 0) x))
unfolding toggling_inside
toggle-changes ws b i x f p h e =
    changes_done (toggling_inside i) ws b (set ws k v) s n p
    (ap (λ (t : Bool). choose t (done s) (refused PastLength)) (lt-ltb i (64 * (view ws n).count) (omega (arith, view-count ws n))))
    (word_stored ws n k v s f p.inside h (view-count ws n) (xor_lt 64 (get_or ws k 0) x (f k) (subst (λ (y : ℕ). y < 2 ^ 64) (sym e) (single-lt 64 (i % 64)))) here there)
    (sym (view-count ws n))
  where
    n : ℕ
    n = b.count

    k : ℕ
    k = i / 64

    v : ℕ
    v = bit_xor (get_or ws k 0) x

    s : Bits
    s = record { members = λ j. xorb ((view ws n).members j) (eqb j i); count = (view ws n).count }

    here : (j : ℕ) → j < 64 → bit v j ≡ xorb ((view ws n).members (64 * k + j)) (eqb (64 * k + j) i)
    here j l =
        bit-xor (get_or ws k 0) x j
        ∙ ap₂ xorb (sym (view_in ws n k j h l))
        (ap (λ (y : ℕ). bit y j) e ∙ bit-single 64 (i % 64) j l ∙ eqb_same j (i % 64) (64 * k + j) i (λ q. omega arith) (λ q. omega arith))

    keep : (t : Bool) → t ≡ xorb t false
    keep true = refl
    keep false = refl

    there : (m j : ℕ) → (m ≡ k → ⊥) → j < 64 → (view ws n).members (64 * m + j) ≡ xorb ((view ws n).members (64 * m + j)) (eqb (64 * m + j) i)
    there m j q l = keep ((view ws n).members (64 * m + j)) ∙ ap (xorb ((view ws n).members (64 * m + j))) (sym (ne_eqb (64 * m + j) i (omega arith)))

pub toggle-past : (ws : List ℕ) (b : Bitmap) (i : ℕ) → Passed ws b → b.count ≤ i / 64 → Changes (toggling_inside i) ws b (refusing b PastLength) ws
toggle-past ws b i p h =
    changes-refused (toggling_inside i) ws b PastLength p (toggling-past i (length ws) (view ws b.count) (omega (arith, view-count ws b.count)))
