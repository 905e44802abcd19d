-- The promises of specs/Promises.
use mathlib.Core.Path.{◌≡◌, refl, sym, ap, ap₂, ◌∙◌, subst}
use mathlib.Core.Bool.{Bool, true, false, ◌&&◌, ◌||◌, false≢true}
use mathlib.Core.Logic.{inl, inr}
use Prim.Native.Nat.{ℕ, suc, ◌+◌, ◌-◌, ◌*◌, ◌/◌, ◌^◌, ◌≤◌, ◌<◌, max}
use native.Mathlib.Omega.{arith}
use lib.Dec.{ltb, leb}
use borrow.Author.Tests.{lt-ltb, le-ltb, le-leb, lt-leb, eq-eqb, ne_eqb}
use Rattle.word.specs.Sets.{xorb, Top}
use Rattle.word.proofs.Cases.{by_lt, by_eq, or-false, and-false, xor-true, xor-false}
use Rattle.word.proofs.Sets.{top, top_is}
use Rattle.storage.specs.Refusals.{number_of}
use Rattle.storage.specs.Stores.{Bits, Bounded, refused, done, flipped, words_for}
use Rattle.storage.specs.Promises.{Contained}
use Rattle.storage.specs.declared.Refusal.{Refusal}
use Rattle.storage.proofs.Checks.{within_done}
use Rattle.storage.proofs.Outcomes.{same, never, which, lacks, bounded_flipped, contained_within, contained_done, meets_nothing}
use Rattle.storage.proofs.Trims.{bounded_trimmed}
use Rattle.storage.proofs.Promises.{least_count}
use Rattle.shifts.specs.Shifts.{moved_down}
use Rattle.shifts.proofs.Cases.{moved_up_lem, moved_in}
use Rattle.shapes.specs.Shapes.{top_of, cut_at, toggling, toggling_region, raising, lowered, lowering, truncated, truncating, resizing, joined, appending}
use Rattle.shapes.specs.Promises.{FlippedFrom, Toggles, TogglesRegion, TogglesNoRegion, IsTop, RaisedBy, TopPasses, Raises, LoweredBy, Lowers}
use Rattle.shapes.specs.Promises.{CutBelow, TruncatedTo, Truncates, ResizedTo, Resizes, JoinedWith, Joins}
use Rattle.shapes.proofs.Cases.{flipped_region, region_none, region-over, region-put}
use Rattle.shapes.proofs.Cases.{raised, raise_none, raise_over, raise_put}

-- ---- flipped

bounded_region : (i k : ℕ) → (k ≡ 0 → ⊥) → (b : Bits) → Bounded b → Bounded (flipped_region i k b)
bounded_region i k some b h = record {
  past = λ j l. ap₂ (λ (x t : Bool). xorb x (leb i j && t)) (h.past j (omega arith)) (le-ltb j (i + k) (omega arith)) ∙ and-false (leb i j);
}

flips : (i k : ℕ) → (k ≡ 0 → ⊥) → (b : Bits) → FlippedFrom i k b (flipped_region i k b)
flips i k some b = record {
  inside = λ j p q. ap₂ (λ (s t : Bool). xorb (b.members j) (s && t)) (le-leb i j p) (lt-ltb j (i + k) q) ∙ xor-true (b.members j);
  before = λ j p. ap (λ (s : Bool). xorb (b.members j) (s && ltb j (i + k))) (lt-leb i j p) ∙ xor-false (b.members j);
  after = λ j p. ap (λ (t : Bool). xorb (b.members j) (leb i j && t)) (le-ltb j (i + k) p) ∙ ap (xorb (b.members j)) (and-false (leb i j)) ∙ xor-false (b.members j);
  count = λ last e. ap (λ (x : ℕ). max b.count (x / 64 + 1)) (omega arith);
}

pub contained_toggling_region : (i k : ℕ) → Contained (toggling_region i k)
contained_toggling_region i k =
    by_eq k 0
    (λ z. contained_done (toggling_region i k) (λ b. b) (λ c b. region_none i k c b z) (λ b. omega arith) (λ b h. h))
    (λ some. by_lt (2 ^ 64) (i + k)
    (λ l. record {
      space = λ c b s h m q. absurd (never (sym q ∙ region-over i k c b some l));
      bound = λ c b s h m q. absurd (never (sym q ∙ region-over i k c b some l));
    })
    (λ l. contained_within (toggling_region i k) (flipped_region i k) (λ c b. region-put i k c b some l) (bounded_region i k some)))

pub toggles_region : TogglesRegion
toggles_region i k some = record {
  made = λ c b s e.
      by_lt (2 ^ 64) (i + k)
      (λ h. absurd (never (sym e ∙ region-over i k c b some h)))
      (λ h. (h, subst (FlippedFrom i k b) (within_done c (flipped_region i k b) s (sym (region-put i k c b some h) ∙ e)).0 (flips i k some b)));
  contained = contained_toggling_region i k;
  why = λ c b e q.
      by_lt (2 ^ 64) (i + k)
      (λ h. inl (ap number_of (which (sym q ∙ region-over i k c b some h)), h))
      (λ h. let l = lacks c (flipped_region i k b) e (sym (region-put i k c b some h) ∙ q) in inr (l.0, h, l.1));
}

pub region-nothing : (i c : ℕ) (b : Bits) → toggling_region i 0 c b ≡ done b
region-nothing i c b = region_none i 0 c b refl

pub region_unchanged : TogglesNoRegion
region_unchanged i = meets_nothing (toggling_region i 0) (region-nothing i)

pub toggles : Toggles
unfolding toggling
toggles i = record {
  made = λ c b s e. subst (FlippedFrom i 1 b) (within_done c _ s e).0 (one b);
  contained = contained_within (toggling i) (flipped i) (λ c b. refl) (bounded_flipped i);
  why = λ c b e q. lacks c _ e q;
}
  where
    one : (b : Bits) → FlippedFrom i 1 b (flipped i b)
    one b = record {
      inside = λ j p q. ap (xorb (b.members j)) (eq-eqb j i (omega arith)) ∙ xor-true (b.members j);
      before = λ j p. ap (xorb (b.members j)) (ne_eqb j i (omega arith)) ∙ xor-false (b.members j);
      after = λ j p. ap (xorb (b.members j)) (ne_eqb j i (omega arith)) ∙ xor-false (b.members j);
      count = λ last e. ap (λ (x : ℕ). max b.count (x / 64 + 1)) (omega arith);
    }

-- ---- moved up

module _ (b : Bits) (h : Bounded b) where
  t : Top b.members (64 * b.count) (top_of b)
  t = top b.members (64 * b.count)

  top_here : (m : ℕ) → top_of b ≡ suc m → IsTop b m
  top_here m e = record {
    here = t.last m (sym e);
    over = λ i l. by_lt i (64 * b.count) (λ q. t.over i (omega arith) q) (λ q. h.past i q);
  }

  inside : (m : ℕ) → b.members m ≡ true → m < 64 * b.count
  inside m e = by_lt m (64 * b.count) (λ q. q) (λ q. absurd (false≢true (sym (h.past m q) ∙ e)))

  top_of_lem : (m : ℕ) → IsTop b m → top_of b ≡ suc m
  top_of_lem m r =
      top_is b.members (64 * b.count) (suc m)
      (record {
        within = inside m r.here;
        last = λ k e. ap b.members (omega arith) ∙ r.here;
        over = λ k l q. r.over k (omega arith);
      })

  none_of : ((i : ℕ) → b.members i ≡ false) → top_of b ≡ 0
  none_of n = top_is b.members (64 * b.count) 0 (record { within = omega arith; last = λ k e. absurd (omega arith); over = λ k l q. n k })

  -- a member has a greatest above it
  pub some_top : (top_of b ≡ 0 → ⊥) → (m : ℕ) × (top_of b ≡ suc m)
  some_top n = (top_of b - 1, omega arith)

raised_words : (k m : ℕ) (b : Bits) → top_of b ≡ suc m → max b.count (words_for (top_of b + k)) ≡ max b.count ((m + k) / 64 + 1)
unfolding words_for
raised_words k m b e = ap (λ (x : ℕ). max b.count ((x + k + 63) / 64)) e ∙ ap (max b.count) (omega arith)

bounded_raised : (k : ℕ) (b : Bits) → Bounded b → Bounded (raised k b)
unfolding words_for
bounded_raised k b h = record {
  past = λ i l.
      by_lt i k
      (λ q. moved_in k b.members i q)
      (λ q. moved_up_lem k b.members i q ∙ by_lt (i - k) (64 * b.count) (λ r. (t b h).over (i - k) (omega arith) r) (λ r. h.past (i - k) r));
}

pub contained_raising : (k : ℕ) → Contained (raising k)
contained_raising k = record {
  space = λ c b s h l q. (each c b s h l q).0;
  bound = λ c b s h l q. (each c b s h l q).1;
}
  where
    each : (c : ℕ) (b s : Bits) → Bounded b → b.count ≤ c → raising k c b ≡ done s → (s.count ≤ c) × Bounded s
    each c b s h l q =
        by_eq (top_of b) 0
        (λ z. let e : b ≡ s = same (sym (raise_none k c b z) ∙ q) in (subst (λ (x : Bits). x.count ≤ c) e l, subst Bounded e h))
        (λ z. by_lt (2 ^ 64) (top_of b + k)
        (λ o. absurd (never (sym q ∙ raise_over k c b z o)))
        (λ o. let w = within_done c (raised k b) s (sym (raise_put k c b z o) ∙ q) in
        (subst (λ (x : Bits). x.count ≤ c) w.0 w.1, subst Bounded w.0 (bounded_raised k b h))))

pub raises : Raises
raises k = record {
  made = λ c b s e h. made c b s e h;
  contained = contained_raising k;
  why = λ c b e q h. why c b e q h;
}
  where
    all-false : (b : Bits) → Bounded b → top_of b ≡ 0 → (i : ℕ) → b.members i ≡ false
    all-false b h z i = by_lt i (64 * b.count) (λ q. (t b h).over i (omega arith) q) (λ q. h.past i q)

    made : (c : ℕ) (b s : Bits) → raising k c b ≡ done s → Bounded b → RaisedBy k b s
    made c b s e h =
        by_eq (top_of b) 0
        (λ z.
        subst (RaisedBy k b) (same (sym (raise_none k c b z) ∙ e))
        (record {
          goes = λ i m. absurd (false≢true (sym (all-false b h z i) ∙ m));
          comes = λ i m. absurd (false≢true (sym (all-false b h z i) ∙ m));
          count = λ m r. absurd (false≢true (sym (all-false b h z m) ∙ r.here));
          nothing = λ n. refl;
        }))
        (λ z. by_lt (2 ^ 64) (top_of b + k)
        (λ o. absurd (never (sym e ∙ raise_over k c b z o)))
        (λ o.
        subst (RaisedBy k b) (within_done c (raised k b) s (sym (raise_put k c b z o) ∙ e)).0
        (record {
          goes = λ i m. moved_up_lem k b.members (i + k) (omega arith) ∙ ap b.members (omega arith) ∙ m;
          comes = λ m r.
              by_lt m k
              (λ q. absurd (false≢true (sym (moved_in k b.members m q) ∙ r)))
              (λ q. (m - k, sym (moved_up_lem k b.members m q) ∙ r, omega arith));
          count = λ m r. (omega (arith, top_of_lem b h m r), raised_words k m b (top_of_lem b h m r));
          nothing = λ n. absurd (z (none_of b h n));
        })))

    why : (c : ℕ) (b : Bits) (e : Refusal) → raising k c b ≡ refused e → Bounded b → TopPasses k c b (number_of e)
    why c b e q h =
        by_eq (top_of b) 0
        (λ z. absurd (never (sym (raise_none k c b z) ∙ q)))
        (λ z.
        let m : ℕ = (some_top b h z).0 in
        let em : top_of b ≡ suc m = (some_top b h z).1 in
        by_lt (2 ^ 64) (top_of b + k)
        (λ o. (m, top_here b h m em, inl (ap number_of (which (sym q ∙ raise_over k c b z o)), omega arith)))
        (λ o. let l = lacks c (raised k b) e (sym (raise_put k c b z o) ∙ q) in (m, top_here b h m em, inr (l.0, omega arith, subst (λ (x : ℕ). c < x) (raised_words k m b em) l.1))))

-- ---- moved down

pub lowers_by : (k : ℕ) (b : Bits) → LoweredBy k b (lowered k b)
unfolding lowered moved_down
lowers_by k b = record {
  goes = λ i m l. ap b.members (omega arith) ∙ m;
  comes = λ m r. (m + k, r, omega arith, omega arith);
  count = least_count (λ i. b.members (i + k)) b.count;
}

pub bounded_lowered : (k : ℕ) (b : Bits) → Bounded b → Bounded (lowered k b)
unfolding lowered moved_down
bounded_lowered k b h = bounded_trimmed (record { members = λ i. b.members (i + k); count = b.count }) (record { past = λ i l. h.past (i + k) (omega arith) })

lowered-le : (k : ℕ) (b : Bits) → (lowered k b).count ≤ b.count
unfolding lowered moved_down
lowered-le k b = (least_count (λ i. b.members (i + k)) b.count).low

pub lowers : Lowers
unfolding lowering
lowers k = record {
  made = λ c b s e. subst (LoweredBy k b) (same e) (lowers_by k b);
  contained = contained_done (lowering k) (lowered k) (λ c b. refl) (lowered-le k) (bounded_lowered k);
  why = λ c b e q. never q;
}

-- ---- cut

cuts : (k n : ℕ) (b : Bits) → CutBelow k b (record { members = (cut_at k b).members; count = n })
cuts k n b = record {
  below = λ i l. ap (λ (t : Bool). t && b.members i) (lt-ltb i k l);
  from = λ i l. ap (λ (t : Bool). t && b.members i) (le-ltb i k l);
}

pub truncates_to : (k : ℕ) (b : Bits) → TruncatedTo k b (truncated k b)
unfolding truncated
truncates_to k b = record { cut = record { below = (cuts k 0 b).below; from = (cuts k 0 b).from }; count = least_count (cut_at k b).members b.count }

pub bounded_truncated : (k : ℕ) (b : Bits) → Bounded b → Bounded (truncated k b)
unfolding truncated
bounded_truncated k b h = bounded_trimmed (cut_at k b) (record { past = λ i l. ap (λ (t : Bool). ltb i k && t) (h.past i l) ∙ and-false (ltb i k) })

pub truncates : Truncates
unfolding truncating
truncates k = record {
  made = λ c b s e. subst (TruncatedTo k b) (same e) (truncates_to k b);
  contained = contained_done (truncating k) (truncated k) (λ c b. refl) (λ b. (truncates_to k b).count.low) (bounded_truncated k);
  why = λ c b e q. never q;
}

pub resizes : Resizes
unfolding resizing words_for
resizes k = record {
  made = λ c b s e. subst (ResizedTo k b) (within_done c _ s e).0 (record { cut = cuts k ((k + 63) / 64) b; holds = omega arith; least = λ n l. omega arith });
  contained =
      contained_within (resizing k) (λ b. record { members = (cut_at k b).members; count = words_for k }) (λ c b. refl)
      (λ b h. record { past = λ i l. ap (λ (t : Bool). t && b.members i) (le-ltb i k (omega arith)) });
  why = λ c b e q. lacks c _ e q;
}

-- ---- joined

pub joins : Joins
unfolding appending
joins o k = record {
  made = λ c b s e h. subst (JoinedWith o b) (within_done c _ s e).0 (record {
    first = λ i l. ap (λ (t : Bool). b.members i || t) (moved_in (64 * b.count) o.members i l) ∙ or-false (b.members i);
    second = λ i.
        ap₂ (λ (s t : Bool). s || t) (h.past (64 * b.count + i) (omega arith)) (moved_up_lem (64 * b.count) o.members (64 * b.count + i) (omega arith))
        ∙ ap o.members (omega arith);
    count = refl;
  });
  contained =
      contained_within (appending o) (joined o) (λ c b. refl)
      (λ b h. record { past = λ i l. ap₂ (λ (s t : Bool). s || t) (h.past i (omega arith)) (moved_up_lem (64 * b.count) o.members i (omega arith) ∙ k.past (i - 64 * b.count) (omega arith)) });
  why = λ c b e q. lacks c _ e q;
}
