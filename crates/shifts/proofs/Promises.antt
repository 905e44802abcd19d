-- The promises of specs/Promises.
use mathlib.Core.Path.{◌≡◌, refl, sym, ap, ap₂, ◌∙◌, fun_ext, subst}
use mathlib.Core.Bool.{Bool, true, false, ◌&&◌, false≢true}
use mathlib.Core.List.{List}
use Prim.Native.Nat.{ℕ, ◌+◌, ◌-◌, ◌*◌, ◌%◌, ◌≤◌, ◌<◌}
use native.Mathlib.Nat.{mod-lt, mod-eq_of_lt, add-mod_right}
use native.Mathlib.Omega.{arith}
use borrow.Author.Tests.{lt-ltb, le-ltb, ltb-true}
use lib.Dec.{ltb}
use lib.ListN.{length}
use Rattle.word.specs.Places.{member, words_of}
use Rattle.word.proofs.Cases.{by_lt, and-true}
use Rattle.word.proofs.Lists.{member-past, member_words, length_words}
use Rattle.word.specs.Promises.{MovesWords}
use Rattle.storage.specs.Stores.{Bits, Bounded, done, Op}
use Rattle.storage.proofs.Outcomes.{same, never, contained_done}
use Rattle.shifts.specs.Shifts.{moved_up, moved_down, turned_up, turned_down, kept, shifting_left, shifting_right, rotating_left, rotating_right}
use Rattle.shifts.specs.Promises.{Moves, ShiftedLeft, ShiftsLeft, LeftWordsMeans, ShiftedRight, ShiftsRight, RightWordsMeans}
use Rattle.shifts.specs.Promises.{RotatedLeft, RotatesLeft, TurnLeftMeans, RotatedRight, RotatesRight, TurnRightMeans, Rotations}
use Rattle.shifts.proofs.Rings.{there, back, turned_from}
use Rattle.shifts.proofs.Cases.{moved_up_lem, moved_in}

-- ---- below the length and past it

within : (f : ℕ → Bool) (b : Bits) (i : ℕ) → i < 64 * b.count → (kept f b).members i ≡ f i
within f b i l = ap (λ (t : Bool). t && f i) (lt-ltb i (64 * b.count) l)

past_it : (f : ℕ → Bool) (b : Bits) (i : ℕ) → 64 * b.count ≤ i → (kept f b).members i ≡ false
past_it f b i l = ap (λ (t : Bool). t && f i) (le-ltb i (64 * b.count) l)

-- a member is below the length, and is one of f's
inside : (f : ℕ → Bool) (b : Bits) (i : ℕ) → (kept f b).members i ≡ true → (i < 64 * b.count) × (f i ≡ true)
inside f b i e = let t = and-true (ltb i (64 * b.count)) (f i) e in (ltb-true i (64 * b.count) t.0, t.1)

-- a member of a bounded set is below its length
below : (b : Bits) (i : ℕ) → Bounded b → b.members i ≡ true → i < 64 * b.count
below b i h e = by_lt i (64 * b.count) (λ l. l) (λ l. absurd (false≢true (sym (h.past i l) ∙ e)))

-- a set that is b's below the length is b's
kept_is : (f : ℕ → Bool) (b s : Bits) → Bounded b → s.count ≡ b.count → ((i : ℕ) → i < 64 * b.count → f i ≡ b.members i) → done (kept f s) ≡ done b
kept_is f b s h e g =
    ap₂ (λ (m : ℕ → Bool) (n : ℕ). done (record { members = m; count = n }))
    (fun_ext (λ i. by_lt i (64 * b.count)
    (λ l. within f s i (omega (arith, e)) ∙ g i l)
    (λ l. past_it f s i (omega (arith, e)) ∙ sym (h.past i l))))
    e

-- what keeps below the length is done, and moves by the rule
kept_moves : (op : Op) (f : Bits → ℕ → Bool) (rule : ℕ → (ℕ → Bool) → (ℕ → Bool) → Type 0) → ((c : ℕ) (b : Bits) → op c b ≡ done (kept (f b) b))
    → ((b : Bits) → Bounded b → rule (64 * b.count) b.members (kept (f b) b).members) → Moves op rule
kept_moves op f rule e r = record {
  made = λ c b s q h. subst (λ (x : Bits). (x.count ≡ b.count) × rule (64 * b.count) b.members x.members) (same (sym (e c b) ∙ q)) (refl, r b h);
  contained = contained_done op (λ b. kept (f b) b) e (λ b. omega arith) (λ b h. record { past = past_it (f b) b });
  why = λ c b x q. never (sym (e c b) ∙ q);
}

-- ---- the shifts

pub shifts_left : ShiftsLeft
unfolding shifting_left
shifts_left k =
    kept_moves (shifting_left k) (λ b. moved_up k b.members) (ShiftedLeft k) (λ c b. refl)
    (λ b h. record {
      goes = λ i e l. within (moved_up k b.members) b (i + k) l ∙ moved_up_lem k b.members (i + k) (omega arith) ∙ ap b.members (omega arith) ∙ e;
      comes = λ m e. came b m (inside (moved_up k b.members) b m e);
    })
  where
    came : (b : Bits) (m : ℕ) → (m < 64 * b.count) × (moved_up k b.members m ≡ true) → (i : ℕ) × (b.members i ≡ true) × (i + k ≡ m) × (m < 64 * b.count)
    came b m p =
        by_lt m k
        (λ l. absurd (false≢true (sym (moved_in k b.members m l) ∙ p.1)))
        (λ l. (m - k, sym (moved_up_lem k b.members m l) ∙ p.1, omega arith, p.0))

pub shifts_right : ShiftsRight
unfolding shifting_right
shifts_right k =
    kept_moves (shifting_right k) (λ b. moved_down k b.members) (ShiftedRight k) (λ c b. refl)
    (λ b h. record {
      goes = λ i e l. within (moved_down k b.members) b (i - k) (omega (arith, below b i h e)) ∙ ap b.members (omega arith) ∙ e;
      comes = λ m e. let p = inside (moved_down k b.members) b m e in (m + k, p.1, omega arith, omega arith, p.0);
    })

-- ---- the rotations

pub rotates_left : RotatesLeft
unfolding rotating_left
rotates_left k =
    kept_moves (rotating_left k) (λ b. turned_up (64 * b.count) k b.members) (RotatedLeft k) (λ c b. refl)
    (λ b h.
    let len : ℕ = 64 * b.count in
    record {
      goes = λ i l.
          within (turned_up len k b.members) b ((i + k) % len) (mod-lt (i + k) (omega arith)) ∙ turned_from len b.members k ((i + k) % len) i l refl;
      comes = λ m l. ((m + (len - k % len)) % len, mod-lt (m + (len - k % len)) (omega arith), there len k m l);
      past = past_it (turned_up len k b.members) b;
    })

pub rotates_right : RotatesRight
unfolding rotating_right
rotates_right k =
    kept_moves (rotating_right k) (λ b. turned_down (64 * b.count) k b.members) (RotatedRight k) (λ c b. refl)
    (λ b h. record {
      goes = within (turned_down (64 * b.count) k b.members) b;
      past = past_it (turned_down (64 * b.count) k b.members) b;
    })

-- ---- of words as they are

-- the set of all words
abbrev whole : List ℕ → Bits
whole ws = record { members = member ws; count = length ws }

-- what a call that keeps below the length makes of the set is the set of the words made
words_move : (op : Op) (f : ℕ → (ℕ → Bool) → ℕ → Bool) (rule : ℕ → (ℕ → Bool) → (ℕ → Bool) → Type 0)
    → ((c : ℕ) (b : Bits) → op c b ≡ done (kept (f (64 * b.count) b.members) b)) → Moves op rule → MovesWords f rule
words_move op f rule e m ws ws' q =
    subst (λ (x : List ℕ). (length x ≡ length ws) × rule (64 * length ws) (member ws) (member x)) (sym q)
    (length_words g (length ws), subst (rule (64 * length ws) (member ws)) (fun_ext made) (m.made 0 (whole ws) (kept g (whole ws)) (e 0 (whole ws)) (record { past = member-past ws })).1)
  where
    g : ℕ → Bool
    g = f (64 * length ws) (member ws)

    made : (i : ℕ) → (kept g (whole ws)).members i ≡ member (words_of g (length ws)) i
    made i =
        by_lt i (64 * length ws)
        (λ l. within g (whole ws) i l ∙ sym (member_words g (length ws) i l))
        (λ l. past_it g (whole ws) i l ∙ sym (member-past (words_of g (length ws)) i (omega (arith, length_words g (length ws)))))

pub left_words_means : LeftWordsMeans
unfolding shifting_left
left_words_means k = words_move (shifting_left k) (λ len. moved_up k) (ShiftedLeft k) (λ c b. refl) (shifts_left k)

pub right_words_means : RightWordsMeans
unfolding shifting_right
right_words_means k = words_move (shifting_right k) (λ len. moved_down k) (ShiftedRight k) (λ c b. refl) (shifts_right k)

pub turn_left_means : TurnLeftMeans
unfolding rotating_left
turn_left_means k = words_move (rotating_left k) (λ len. turned_up len k) (RotatedLeft k) (λ c b. refl) (rotates_left k)

pub turn_right_means : TurnRightMeans
unfolding rotating_right
turn_right_means k = words_move (rotating_right k) (λ len. turned_down len k) (RotatedRight k) (λ c b. refl) (rotates_right k)

-- ---- rotations one after the other

-- the result of an operation on sets that keeps below the length has no member where there are no words
none : (f : ℕ → Bool) (b s : Bits) → b.count ≡ 0 → done (kept f b) ≡ done s → (i : ℕ) → s.members i ≡ false
none f b s e q i =
    let r : kept f b ≡ s = cc in
    ap (λ (x : Bits). x.members i) (sym r) ∙ past_it f b i (omega arith)

pub rotations : Rotations
unfolding rotating_left rotating_right turned_up turned_down
rotations = record {
  left_right = λ k c b h.
      let len : ℕ = 64 * b.count in
      let s : Bits = kept (turned_up len k b.members) b in (
        s,
        refl,
        kept_is (turned_down len k s.members) b s h refl
            (λ i l. within (turned_up len k b.members) b ((i + k) % len) (mod-lt (i + k) (omega arith)) ∙ ap b.members (back len k i l)),
      );
  right_left = λ k c b h.
      let len : ℕ = 64 * b.count in
      let s : Bits = kept (turned_down len k b.members) b in (
        s,
        refl,
        kept_is (turned_up len k s.members) b s h refl
            (λ i l.
            within (turned_down len k b.members) b ((i + (len - k % len)) % len) (mod-lt (i + (len - k % len)) (omega arith))
            ∙ ap b.members (there len k i l)),
      );
  round_left = λ c b h.
      let len : ℕ = 64 * b.count in
      kept_is (turned_up len len b.members) b b h refl
      (λ i l. turned_from len b.members len i i l (add-mod_right i len ∙ mod-eq_of_lt l));
  round_right = λ c b h.
      let len : ℕ = 64 * b.count in
      kept_is (turned_down len len b.members) b b h refl (λ i l. ap b.members (add-mod_right i len ∙ mod-eq_of_lt l));
  empty_left = λ k c b s e q. none (turned_up (64 * b.count) k b.members) b s e q;
  empty_right = λ k c b s e q. none (turned_down (64 * b.count) k b.members) b s e q;
}
