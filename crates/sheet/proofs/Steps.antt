-- What each step makes of a bitmap, and where it is refused, by the promises of the operations: a step is refused exactly where its result has no space.
-- Positions and amounts have 32 bits, and 1 bounds the store, so no index passes 2 ^ 64 - 1.
use Prim.Native.Nat.{ℕ, ◌+◌, ◌-◌, ◌*◌, ◌^◌, ◌≤◌, ◌<◌}
use mathlib.Core.Path.{◌≡◌, refl, sym, ap, ◌∙◌, subst}
use mathlib.Core.Bool.{Bool, true, false, false≢true}
use mathlib.Core.Logic.{◌↔◌, ◌⊎◌, inl, inr}
use native.Mathlib.Omega.{arith}
use Rattle.word.proofs.Cases.{by_lt, by_eq}
use Rattle.storage.specs.Refusals.{number_of}
use Rattle.storage.specs.Stores.{Bits, Bounded, Outcome, refused, done, store_limit}
use Rattle.storage.specs.Promises.{Contained, Meets}
use Rattle.storage.specs.declared.Refusal.{Refusal}
use Rattle.storage.proofs.Outcomes.{same, never, which, by_outcome, contained_done}
use Rattle.storage.proofs.Promises.{each_number_once}
use Rattle.bitwise.proofs.Promises.{reverses}
use Rattle.shifts.proofs.Promises.{rotates_left, rotates_right}
use Rattle.bitmaps.specs.Bitmaps.{setting_region, setting_field}
use Rattle.bitmaps.proofs.Promises.{sets, unsets, regions, region-nothing, fields, field-nothing}
use Rattle.shapes.specs.Shapes.{toggling_region}
use Rattle.shapes.proofs.Promises.{toggles_region, region-nothing as toggles-nothing, raises, lowers, resizes}
use Rattle.gap.proofs.Promises.{opens, closes}
use Rattle.sheet.specs.Kinds.{Ranged}
use Rattle.editions.specs.Reader.{stop, next}
use Rattle.sheet.specs.Reads.{step, turn_of, edition_of}
use Rattle.sheet.specs.Promises.{Does, StepsExact}
use Rattle.sheet.specs.declared.Edit.{Edit}
use Rattle.sheet.specs.declared.Edit.TheVariants.{Set, Unset, SetRegion, SetField, Shift, Rotate, Resize, Reverse, ToggleRegion, Open, Close}
use Rattle.editions.proofs.Turns.{stop_next, stop_inj, next_inj}
use Rattle.sheet.proofs.Meant.{means_one}

-- ---- one law over edits: each is as the promise of its operation says

-- so many words hold whatever an edit makes of a bitmap in a store
abbrev roomy : ℕ
roomy = 2 ^ 28

-- a bitmap that fits into c words and into some store, and an edit with its fields in their ranges
record Given (e : Edit) (c : ℕ) (b : Bits) : Type 0 where
  pub bounded : Bounded b
  pub space : b.count ≤ c
  pub short : b.count ≤ store_limit
  pub ranged : Ranged e

-- 6, where whatever the edit means has more than c words; so there are fewer than are enough
record Lacking (e : Edit) (c : ℕ) (b : Bits) (k : ℕ) : Type 0 where
  pub six : k ≡ 6
  pub low : c < roomy
  pub over : (s : Bits) → Does e b s → c < s.count

abbrev StepMeets : Edit → Type 0
StepMeets e = Meets (step e) (λ c b s. Bounded b → Does e b s) (λ c b k. Given e c b → Lacking e c b k)

-- from the promise of the operation that the edit names
by_promise : (e : Edit) (rule : ℕ → Bits → Bits → Type 0) (why : ℕ → Bits → ℕ → Type 0) → Meets (step e) rule why
    → ((c : ℕ) (b s : Bits) → Bounded b → rule c b s → Does e b s) → ((c : ℕ) (b : Bits) (k : ℕ) → Given e c b → why c b k → Lacking e c b k) → StepMeets e
by_promise e rule why m f g = record {
  made = λ c b s q h. f c b s h (m.made c b s q);
  contained = m.contained;
  why = λ c b x q h. g c b (number_of x) h (m.why c b x q);
}

-- of no numbers or no digits a step is done with what there was
by_nothing : (e : Edit) → ((c : ℕ) (b : Bits) → step e c b ≡ done b) → ((b : Bits) → Does e b b) → StepMeets e
by_nothing e n f = record {
  made = λ c b s q h. subst (Does e b) (same (sym (n c b) ∙ q)) (f b);
  contained = contained_done (step e) (λ b. b) n (λ b. omega arith) (λ b h. h);
  why = λ c b x q h. absurd (never (sym (n c b) ∙ q));
}

-- a member of a bitmap in a store is below 2 ^ 32
member_low : (b : Bits) → Bounded b → b.count ≤ store_limit → (i : ℕ) → b.members i ≡ true → i < 2 ^ 32
member_low b h k i m = by_lt i (64 * b.count) (λ u. omega arith) (λ u. absurd (false≢true (sym (h.past i u) ∙ m)))

-- a region that becomes empty keeps the count, so only a full one lacks space
region_lacks : (v : Bool) (p n c : ℕ) (b : Bits) (k : ℕ) → (n ≡ 0 → ⊥) → Given (SetRegion v p n) c b → k ≡ 6
    → (c < b.count) ⊎ ((v ≡ true) × (64 * c < p + n)) → Lacking (SetRegion v p n) c b k
unfolding Ranged
region_lacks v p n c b k z g e (inl l) = absurd (omega (arith, g.space))
region_lacks v p n c b k z g e (inr (t, l)) = record {
  six = e;
  low = omega (arith, g.ranged, g.short);
  over = λ s m. omega (arith, (m.1 z).grown (p + n - 1) (omega arith) t);
}

step_meets : (e : Edit) → StepMeets e
unfolding step Ranged
step_meets (Set p) =
    by_promise (Set p) _ _ (sets p) (λ c b s h m. m)
    (λ c b k g l. record { six = l.0; low = omega (arith, l.1, g.ranged, g.short); over = λ s m. omega (arith, l.1, m.count) })
step_meets (Unset p) = by_promise (Unset p) _ _ (unsets p) (λ c b s h m. m) (λ c b k g l. absurd l)
step_meets (SetRegion v p n) =
    by_eq n 0
    (λ z. by_nothing (SetRegion v p n) (λ c b. ap (λ (m : ℕ). setting_region p v m c b) z ∙ region-nothing p v c b) (λ b. ((λ y. refl), (λ y. absurd (y z)))))
    (λ z. by_promise (SetRegion v p n) _ _ (regions p v n z)
    (λ c b s h m. ((λ y. absurd (z y)), (λ y. m.1)))
    (λ c b k g l. elim l [ inl u ↦ absurd (omega (arith, u.1, g.ranged)) | inr u ↦ region_lacks v p n c b k z g u.0 u.2 ]))
step_meets (SetField p w v) =
    by_eq w 0
    (λ z. by_nothing (SetField p w v) (λ c b. ap (λ (m : ℕ). setting_field p v m c b) z ∙ field-nothing p v c b) (λ b. ((λ y. refl), (λ y. absurd (y z)))))
    (λ z. by_promise (SetField p w v) _ _ (fields p v w z)
    (λ c b s h m. ((λ y. absurd (z y)), (λ y. m.2)))
    (λ c b k g l. elim l [
      | inl u ↦ absurd (omega (arith, u.1, g.ranged))
      | inr (inl u) ↦ absurd (omega (arith, u.2, g.ranged))
      | inr (inr (e, i, j, inl u)) ↦ absurd (omega (arith, u, g.space))
      | inr (inr (e, i, j, inr (d, (u, y, o)))) ↦ record {
        six = e;
        low = omega (arith, o, g.ranged);
        over = λ s m. omega (arith, o, (m.1 z).grown d (p + w - 1) u y (omega arith));
      }
    ]))
step_meets (Shift true n) = by_promise (Shift true n) _ _ (lowers n) (λ c b s h m. m) (λ c b k g l. absurd l)
step_meets (Shift false n) =
    by_promise (Shift false n) _ _ (raises n) (λ c b s h m. m h)
    (λ c b k g l.
    let (t, top, u) = l g.bounded in
    let low : t < 2 ^ 32 = member_low b g.bounded g.short t top.here in
    elim u [
      | inl y ↦ absurd (omega (arith, y.1, g.ranged))
      | inr y ↦ record { six = y.0; low = omega (arith, y.2, g.ranged, g.short); over = λ s m. omega (arith, y.2, (m.count t top).1) }
    ])
step_meets (Rotate true n) = by_promise (Rotate true n) _ _ (rotates_right n) (λ c b s h m. m h) (λ c b k g l. absurd l)
step_meets (Rotate false n) = by_promise (Rotate false n) _ _ (rotates_left n) (λ c b s h m. m h) (λ c b k g l. absurd l)
step_meets (Resize n) =
    by_promise (Resize n) _ _ (resizes n) (λ c b s h m. m)
    (λ c b k g l. record { six = l.0; low = omega (arith, l.1, g.ranged); over = λ s m. omega (arith, l.1, m.holds) })
step_meets Reverse = by_promise Reverse _ _ reverses (λ c b s h m. m) (λ c b k g l. absurd l)
step_meets (ToggleRegion p n) =
    by_eq n 0
    (λ z. by_nothing (ToggleRegion p n) (λ c b. ap (λ (m : ℕ). toggling_region p m c b) z ∙ toggles-nothing p c b) (λ b. ((λ y. refl), (λ y. absurd (y z)))))
    (λ z. by_promise (ToggleRegion p n) _ _ (toggles_region p n z)
    (λ c b s h m. ((λ y. absurd (z y)), (λ y. m.1)))
    (λ c b k g l. elim l [
      | inl u ↦ absurd (omega (arith, u.1, g.ranged))
      | inr u ↦ record {
        six = u.0;
        low = omega (arith, u.2, g.ranged, g.short);
        over = λ s m. omega (arith, u.2, (m.1 z).count (p + n - 1) (omega arith));
      }
    ]))
step_meets (Open p n) =
    by_promise (Open p n) _ _ (opens p n) (λ c b s h m. m h)
    (λ c b k g l. elim (l g.bounded) [
      | inl (e, i, u, y, o) ↦ absurd (omega (arith, o, g.ranged, member_low b g.bounded g.short i y))
      | inr (e, a, i, y, inl u) ↦ record {
        six = e;
        low = omega (arith, u.1, member_low b g.bounded g.short i y);
        over = λ s m. omega (arith, u.1, m.count.holds i (m.below i u.0 ∙ y));
      }
      | inr (e, a, i, y, inr u) ↦ record {
        six = e;
        low = omega (arith, u.1, g.ranged, member_low b g.bounded g.short i y);
        over = λ s m. omega (arith, u.1, m.count.holds (i + n) (m.moved i u.0 ∙ y));
      }
    ])
step_meets (Close p n) = by_promise (Close p n) _ _ (closes p n) (λ c b s h m. m h) (λ c b k g l. absurd (l g.bounded g.space g.short))

pub contained_step : (e : Edit) → Contained (step e)
contained_step e = (step_meets e).contained

-- ---- the promise

-- what the edit means is made in a store that is large enough
step-result : (e : Edit) (b : Bits) → Bounded b → b.count ≤ store_limit → Ranged e → (s : Bits) × Does e b s × Bounded s
step-result e b h l r =
    by_outcome (step e roomy b)
    (λ s q. (s, (step_meets e).made roomy b s q h, (contained_step e).bound roomy b s h (omega arith) q))
    (λ x q.
    let o = ((step_meets e).why roomy b x q (record { bounded = h; space = omega arith; short = l; ranged = r })).low in
    absurd (omega arith))

-- what a step of an edition comes to is what its operation comes to
pub made_next : (o : Outcome) (s : Bits) → (turn_of o ≡ next s) ↔ (o ≡ done s)
made_next (refused e) s = ((λ q. absurd (stop_next q)), (λ q. absurd (never (sym q))))
made_next (done b) s = ((λ q. ap done (next_inj q)), (λ q. ap next (same q)))

made_stop : (o : Outcome) (x : Refusal) → (turn_of o ≡ stop x) ↔ (o ≡ refused x)
made_stop (refused e) x = ((λ q. ap refused (stop_inj q)), (λ q. ap stop (which q)))
made_stop (done b) x = ((λ q. absurd (stop_next (sym q))), (λ q. absurd (never q)))

pub steps_exact : StepsExact
unfolding edition_of
steps_exact n c e b l h k r = record {
  done_is = λ i s. (
    (λ q.
        let p = (made_next (step e c b) s).0 q in
        ((step_meets e).made c b s p h, (contained_step e).space c b s h k p)),
    (λ m. (made_next (step e c b) s).1 (by_outcome (step e c b)
        (λ t q. q ∙ ap done (means_one e b t s h ((step_meets e).made c b t q h) m.0))
        (λ x q. absurd (omega (arith, m.1, (lack x q).over s m.0))))),
  );
  refused_is = λ i x. (
    (λ q.
        let l = lack x ((made_stop (step e c b) x).0 q) in
        (l.six, result.0, result.1, l.over result.0 result.1)),
    (λ m. (made_stop (step e c b) x).1 (by_outcome (step e c b)
        (λ t q. absurd (omega (arith, m.3, (contained_step e).space c b t h k q, ap count (means_one e b t m.1 h ((step_meets e).made c b t q h) m.2))))
        (λ y q. q ∙ ap refused (each_number_once.once y x ((lack y q).six ∙ sym m.0))))),
  );
  one = λ s t m n. means_one e b s t h m n;
  bounded = λ s m. subst Bounded (means_one e b result.0 s h result.1 m) result.2;
}
  where
    count : Bits → ℕ
    count s = s.count

    result : (s : Bits) × Does e b s × Bounded s
    result = step-result e b h (omega arith) r

    lack : (x : Refusal) → step e c b ≡ refused x → Lacking e c b (number_of x)
    lack x q = (step_meets e).why c b x q (record { bounded = h; space = k; short = omega arith; ranged = r })
