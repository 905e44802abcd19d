-- The promises of specs/Promises.
use mathlib.Core.Path.{◌≡◌, refl, sym, ap, ◌∙◌, subst}
use mathlib.Core.Bool.{Bool, true, false, not, ◌&&◌}
use mathlib.Core.Logic.{inl, inr}
use Prim.Native.Nat.{ℕ, zero, suc, ◌+◌, ◌-◌, ◌*◌, ◌≤◌, ◌<◌}
use native.Mathlib.Omega.{arith}
use mathlib.Core.List.{List}
use lib.ListN.{length}
use lib.Dec.{ltb, eqb}
use borrow.Author.Tests.{lt-ltb, le-ltb, eq-eqb, ne_eqb}
use Rattle.word.specs.Places.{member, words_of}
use Rattle.word.specs.Sets.{choose, val, xorb, count_below, nth, Counted}
use Rattle.word.proofs.Cases.{by_lt, xor-true, xor-false}
use Rattle.word.proofs.Lists.{length_words, member_words}
use Rattle.word.proofs.Sets.{Nth, count_add, count_none, counted, nth_has, nth_none}
use Rattle.storage.specs.Refusals.{number_of, answer_number, found_flag, found_value}
use Rattle.storage.specs.Stores.{Bits, Bounded, refused, done, size, found_below}
use Rattle.storage.specs.Promises.{Hands, AmountCall}
use Rattle.storage.specs.declared.Refusal.TheVariants.{PastLength}
use Rattle.storage.proofs.Outcomes.{same, never, which, contained_done}
use Rattle.storage.proofs.Promises.{amount-call, found-call}
use Rattle.bitwise.specs.Bitwise.{toggling_inside, inverting, reversing, clear_size, count_region, rank_of, selected}
use Rattle.bitwise.specs.Promises.{Toggled, TogglesInside, Inverted, Inverts, Reversed, Reverses, InvertWordsMeans, ReverseWordsMeans}
use Rattle.bitwise.specs.Promises.{CountClearBitsMeans, CountRegionMeans, RankMeans, Selected, SelectMeans}
use Rattle.bitwise.proofs.Cases.{toggling-past}
use Rattle.storage.specs.Refusals.{Found}
use Rattle.std.specs.Prelude.{Ok, Some, None}

-- ---- toggle

-- i flipped, in as many words
abbrev flipped_at : ℕ → Bits → Bits
flipped_at i b = record { members = λ j. xorb (b.members j) (eqb j i); count = b.count }

toggling_below : (i c : ℕ) (b : Bits) → i < 64 * b.count → toggling_inside i c b ≡ done (flipped_at i b)
unfolding toggling_inside
toggling_below i c b l = ap (λ (t : Bool). choose t (done (flipped_at i b)) (refused PastLength)) (lt-ltb i (64 * b.count) l)

toggled : (i c : ℕ) (b s : Bits) → toggling_inside i c b ≡ done s → (i < 64 * b.count) × Toggled i b s
toggled i c b s q =
    by_lt i (64 * b.count)
    (λ l. (
      l,
      subst (Toggled i b) (same (sym (toggling_below i c b l) ∙ q))
          (record {
            count = refl;
            flipped = ap (xorb (b.members i)) (eq-eqb i i refl) ∙ xor-true (b.members i);
            others = λ j n. ap (xorb (b.members j)) (ne_eqb j i n) ∙ xor-false (b.members j);
          }),
    ))
    (λ l. absurd (never (sym q ∙ toggling-past i c b l)))

pub toggles_inside : TogglesInside
toggles_inside i = record {
  made = toggled i;
  contained = record {
    space = λ c b s h l q. omega (arith, (toggled i c b s q).1.count);
    bound = λ c b s h l q.
        let (k, t) = toggled i c b s q in
        record { past = λ j m. t.others j (omega (arith, t.count)) ∙ h.past j (omega (arith, t.count)) };
  };
  why = λ c b e q.
      by_lt i (64 * b.count)
      (λ l. absurd (never (sym (toggling_below i c b l) ∙ q)))
      (λ l. (ap number_of (which (sym q ∙ toggling-past i c b l)), l));
}

-- ---- invert and reverse

pub inverts : Inverts
unfolding inverting
inverts = record {
  made = λ c b s q. subst (Inverted b) (same q) (inverted b);
  contained = contained_done inverting _ (λ c b. refl) (λ b. omega arith) (λ b h. record { past = (inverted b).past });
  why = λ c b e q. never q;
}
  where
    inverted : (b : Bits) → Inverted b (record { members = λ i. ltb i (64 * b.count) && not (b.members i); count = b.count })
    inverted b = record {
      count = refl;
      below = λ i l. ap (λ (t : Bool). t && not (b.members i)) (lt-ltb i (64 * b.count) l);
      past = λ i l. ap (λ (t : Bool). t && not (b.members i)) (le-ltb i (64 * b.count) l);
    }

pub reverses : Reverses
unfolding reversing
reverses = record {
  made = λ c b s q. subst (Reversed b) (same q) (reversed b);
  contained = contained_done reversing _ (λ c b. refl) (λ b. omega arith) (λ b h. record { past = (reversed b).past });
  why = λ c b e q. never q;
}
  where
    reversed : (b : Bits) → Reversed b (record { members = λ i. ltb i (64 * b.count) && b.members (64 * b.count - suc i); count = b.count })
    reversed b = record {
      count = refl;
      mirror = λ i j q.
          ap (λ (t : Bool). t && b.members (64 * b.count - suc i)) (lt-ltb i (64 * b.count) (omega arith)) ∙ ap b.members (omega arith);
      past = λ i l. ap (λ (t : Bool). t && b.members (64 * b.count - suc i)) (le-ltb i (64 * b.count) l);
    }

-- ---- counts

count-call : (f : Bits → ℕ) (rule : Bits → ℕ → Type 0) → ((b : Bits) → Bounded b → rule b (f b)) → AmountCall (λ s. Ok (f s)) (λ b. Hands (rule b))
count-call f rule holds = amount-call (λ s. Ok (f s)) (λ b. Hands (rule b)) (λ b bounded. (refl, holds b bounded))

counting : (s : ℕ → Bool) (k : ℕ) → Counted s k (count_below s k)
counting s k = counted s k (count_below s k) refl

-- members and others make all numbers
count-others : (s : ℕ → Bool) (m : ℕ) → count_below (λ i. not (s i)) m + count_below s m ≡ m
unfolding count_below
count-others s zero = refl
count-others s (suc m) = omega (arith, count-others s m, one (s m))
  where
    one : (t : Bool) → val (not t) + val t ≡ 1
    one true = refl
    one false = refl

pub count_clear_bits_means : CountClearBitsMeans
unfolding clear_size size
count_clear_bits_means =
    count-call clear_size (λ b. Counted (λ i. not (b.members i)) (64 * b.count))
    (λ b bounded. counted (λ i. not (b.members i)) (64 * b.count) (clear_size b) (omega (arith, count-others b.members (64 * b.count))))

pub count_region_means : CountRegionMeans
unfolding count_region
count_region_means i k =
    count-call (count_region i k) (λ b. Counted (λ j. b.members (i + j)) k) (λ b bounded. counting (λ j. b.members (i + j)) k)

pub rank_means : RankMeans
unfolding rank_of
rank_means i = count-call (rank_of i) (λ b. Counted b.members i) (λ b bounded. counting b.members i)

-- ---- the member of a rank

selects : (r : ℕ) (b : Bits) → Bounded b → Selected r b (answer_number (selected r b)) (found_flag (selected r b)) (found_value (selected r b))
unfolding selected found_below
selects r b bounded =
    by_lt r (count_below s len)
    (λ h.
    let n : Nth s r len p = nth_has s r len len h in
    subst is (sym (ap (λ (t : Bool). choose t (Ok (Some p)) (Ok None)) (lt-ltb p len n.within)))
    (refl, inl (refl, (n.here, counted s p r n.under))))
    (λ h.
    let e : p ≡ len = nth_none s r len len h in
    subst is (sym (ap (λ (t : Bool). choose t (Ok (Some p)) (Ok None)) (le-ltb p len (omega arith))))
    (refl, inr (refl, refl, λ e. (count_below s e, counting s e, omega (arith, most e, h)))))
  where
    s : ℕ → Bool
    s = b.members

    len : ℕ
    len = 64 * b.count

    p : ℕ
    p = nth s r len len

    is : Found → Type 0
    is a = Selected r b (answer_number a) (found_flag a) (found_value a)

    most : (e : ℕ) → count_below s e ≤ count_below s len
    most e =
        by_lt e len
        (λ l. let w : e + (len - e) ≡ len = omega arith in omega (arith, count_add s e (len - e), ap (count_below s) w))
        (λ l.
        let w : len + (e - len) ≡ e = omega arith in
        omega (arith, count_add s len (e - len), ap (count_below s) w, count_none (λ j. s (len + j)) (e - len) (λ j m. bounded.past (len + j) (omega arith))))

pub select_means : SelectMeans
select_means r = found-call (selected r) (Selected r) (selects r)

-- ---- words as they are

made_long : (s : ℕ → Bool) (n : ℕ) (ws' : List ℕ) → ws' ≡ words_of s n → length ws' ≡ n
made_long s n ws' e = ap length e ∙ length_words s n

made_member : (s : ℕ → Bool) (n : ℕ) (ws' : List ℕ) → ws' ≡ words_of s n → (i : ℕ) → i < 64 * n → member ws' i ≡ s i
made_member s n ws' e i l = ap (λ (x : List ℕ). member x i) e ∙ member_words s n i l

pub invert_words_means : InvertWordsMeans
invert_words_means ws ws' e = (made_long _ (length ws) ws' e, made_member _ (length ws) ws' e)

pub reverse_words_means : ReverseWordsMeans
reverse_words_means ws ws' e = (
  made_long _ (length ws) ws' e,
  λ i j q. made_member _ (length ws) ws' e i (omega arith) ∙ ap (member ws) {x = 64 * length ws - suc i} {y = j} (omega arith),
)
