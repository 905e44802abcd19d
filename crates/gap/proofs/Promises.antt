-- The promises of specs/Promises.
use mathlib.Core.Path.{◌≡◌, refl, sym, ap, ◌∙◌, subst}
use mathlib.Core.Bool.{Bool, true, false≢true}
use mathlib.Core.Logic.{inl, inr}
use Prim.Native.Nat.{ℕ, zero, suc, ◌+◌, ◌-◌, ◌*◌, ◌/◌, ◌^◌, ◌≤◌, ◌<◌}
use native.Mathlib.Omega.{arith}
use Rattle.word.proofs.Cases.{by_lt, by_test}
use Rattle.storage.specs.Refusals.{number_of}
use Rattle.storage.specs.Stores.{Bits, Bounded, refused, done, within, words_for, trimmed}
use Rattle.storage.specs.declared.Refusal.{Refusal}
use Rattle.storage.proofs.Checks.{within_done}
use Rattle.storage.proofs.Outcomes.{never, which, lacks}
use Rattle.shapes.specs.Shapes.{top_of}
use Rattle.gap.specs.Gaps.{opening, closing}
use Rattle.gap.specs.Kernels.{gap_opened}
use Rattle.gap.specs.Promises.{Trimmed, Opens, NotOpened, OpenMeans, Closes, CloseMeans}
use Rattle.gap.proofs.Tops.{TopAt, ends_of, top_le, ends_count}
use Rattle.gap.proofs.Tails.{opened_below, opened_gap, opened_from, closed_below, closed_from}
use Rattle.gap.proofs.Opens.{open_none, open_over, open_put, opened_ends}
use Rattle.gap.proofs.Closes.{shut, close_none, close_over, close_put, close_done}

-- ---- the fewest words

-- a member lies below the end
ends_under : {s : ℕ → Bool} {t : ℕ} → TopAt s t → (i : ℕ) → s i ≡ true → i < t
ends_under {s} {t} e i y = by_lt i t (λ l. l) (λ l. absurd (false≢true (sym (e.over i l) ∙ y)))

ends_trimmed : (s : Bits) (t : ℕ) → TopAt s.members t → s.count ≡ words_for t → Trimmed s
unfolding words_for
ends_trimmed s t e c = record { holds = λ i y. omega (arith, ends_under e i y); least = λ n f. least t e c n f }
  where
    least : (t : ℕ) → TopAt s.members t → s.count ≡ (t + 63) / 64 → (n : ℕ) → ((i : ℕ) → s.members i ≡ true → i < 64 * n) → s.count ≤ n
    least zero e c n f = omega arith
    least (suc q) e c n f = omega (arith, f q (e.last q refl))

trimmed_bounded : {s : Bits} → Trimmed s → Bounded s
trimmed_bounded {s} t = record { past = λ i l. by_test (s.members i) (λ y. absurd (omega (arith, t.holds i y))) (λ n. n) }

own_trimmed : (b : Bits) → Bounded b → Trimmed (trimmed b)
own_trimmed b h = ends_trimmed (trimmed b) (top_of b) (ends_of b h) (ends_count b.members (top_of b) (ends_of b h) b.count (top_le b))

-- ---- open

-- what is done has space, and is as promised
module _ (p k c : ℕ) (b : Bits) (h : Bounded b) where
  no_tail : top_of b ≤ p → Opens p k b (trimmed b)
  no_tail l = record {
    below = λ i m. refl;
    empty = λ i m q. e.over i (omega arith);
    moved = λ i m. e.over (i + k) (omega arith) ∙ sym (e.over i (omega arith));
    last = λ i m y. absurd (omega (arith, ends_under e i y));
    count = own_trimmed b h;
  }
    where
      e : TopAt b.members (top_of b)
      e = ends_of b h

  with_tail : p < top_of b → top_of b + k ≤ 2 ^ 64 → Opens p k b (record { members = gap_opened p k b.members; count = words_for (top_of b + k) })
  with_tail l g = record {
    below = λ i m. opened_below p k b.members i m;
    empty = λ i m q. opened_gap p k b.members i m q;
    moved = λ i m. opened_from p k b.members (i + k) (omega arith) ∙ ap b.members (omega arith);
    last = λ i m y. omega (arith, ends_under (ends_of b h) i y);
    count = ends_trimmed _ (top_of b + k) (opened_ends p k c b h l) refl;
  }

  open_made : (s : Bits) → opening p k c b ≡ done s → Opens p k b s × (s.count ≤ c)
  open_made s q =
      by_lt p (top_of b)
      (λ l. by_lt (2 ^ 64) (top_of b + k)
      (λ g. absurd (never (sym q ∙ open_over p k c b h l g)))
      (λ g. let w = within_done c _ s (sym (open_put p k c b h l g) ∙ q) in (subst (Opens p k b) w.0 (with_tail l g), subst (λ (x : Bits). x.count ≤ c) w.0 w.1)))
      (λ l. let w = within_done c _ s (sym (open_none p k c b h l) ∙ q) in (subst (Opens p k b) w.0 (no_tail l), subst (λ (x : Bits). x.count ≤ c) w.0 w.1))

  open_why : (e : Refusal) → opening p k c b ≡ refused e → NotOpened p k c b (number_of e)
  unfolding words_for
  open_why e q =
      by_lt p (top_of b)
      (λ l. by_lt (2 ^ 64) (top_of b + k)
      (λ g. inl (ap number_of (which (sym q ∙ open_over p k c b h l g)), top_of b - 1, omega arith, (ends_of b h).last (top_of b - 1) (omega arith), omega arith))
      (λ g.
      let x = lacks c _ e (sym (open_put p k c b h l g) ∙ q) in
      inr (x.0, (λ i m y. omega (arith, ends_under (ends_of b h) i y)), top_of b - 1, (ends_of b h).last (top_of b - 1) (omega arith), inr (omega arith, omega (arith, x.1)))))
      (λ l.
      let x = lacks c _ e (sym (open_none p k c b h l) ∙ q) in
      let n = ends_count b.members (top_of b) (ends_of b h) b.count (top_le b) in
      inr (
        x.0,
        (λ i m y. absurd (omega (arith, ends_under (ends_of b h) i y))),
        top_of b - 1,
        (ends_of b h).last (top_of b - 1) (omega (arith, x.1, n)),
        inl (omega (arith, x.1, n), omega (arith, x.1, n)),
      ))

pub opens : OpenMeans
opens p k = record {
  made = λ c b s q h. (open_made p k c b h s q).0;
  contained = record { space = λ c b s h l q. (open_made p k c b h s q).1; bound = λ c b s h l q. trimmed_bounded (open_made p k c b h s q).0.count };
  why = λ c b e q h. open_why p k c b h e q;
}

-- ---- close

module _ (p k : ℕ) (b : Bits) (h : Bounded b) where
  shut_bounded : Bounded (shut p k b)
  shut_bounded = record {
    past = λ i l.
        by_lt i p
        (λ m. closed_below p k b.members i m ∙ h.past i l)
        (λ m. closed_from p k b.members i m ∙ h.past (i + k) (omega arith));
  }

  shut_closes : Closes p k b (trimmed (shut p k b))
  shut_closes = record {
    below = λ i m. closed_below p k b.members i m;
    moved = λ i m. closed_from p k b.members i m;
    count = own_trimmed (shut p k b) shut_bounded;
  }

  close_made : (c : ℕ) (s : Bits) → closing p k c b ≡ done s → Closes p k b s × (s.count ≤ c)
  close_made c s q =
      by_lt (p + k) (top_of b)
      (λ l. by_lt (2 ^ 64) (top_of b - k)
      (λ g. absurd (never (sym q ∙ close_over p k c b h l g)))
      (λ g. put (sym (close_put p k c b h l g) ∙ q)))
      (λ l. put (sym (close_none p k c b h l) ∙ q))
    where
      put : within c (trimmed (shut p k b)) ≡ done s → Closes p k b s × (s.count ≤ c)
      put e = let w = within_done c (trimmed (shut p k b)) s e in (subst (Closes p k b) w.0 shut_closes, subst (λ (x : Bits). x.count ≤ c) w.0 w.1)

pub closes : CloseMeans
closes p k = record {
  made = λ c b s q h. (close_made p k b h c s q).0;
  contained = record { space = λ c b s h l q. (close_made p k b h c s q).1; bound = λ c b s h l q. trimmed_bounded (close_made p k b h c s q).0.count };
  why = λ c b e q h l m. never (sym (close_done p k c b h l (omega arith)) ∙ q);
}
