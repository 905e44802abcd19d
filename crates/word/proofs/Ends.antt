-- What a loop leaves that goes from both ends: the words below lo and from hi on are new, those between are old.
use Rattle.std.proofs.Common.{◌≡◌, ℕ, ◌+◌, ◌-◌, ◌<◌, ◌≤◌, List, length, get_or, set, sym, refl, ap, ◌∙◌, arith, length-set, get_or-set_other}
use Rattle.word.proofs.Cases.{by_lt, by_eq}
use Rattle.word.proofs.Sweep.{Swept, get_d_set}

pub record Closing (old : List ℕ) (new : ℕ → ℕ) (lo hi : ℕ) (ws : List ℕ) : Type 0 where
  pub long : length ws ≡ length old
  pub front : (k : ℕ) → k < lo → get_or ws k 0 ≡ new k
  pub middle : (k : ℕ) → lo ≤ k → k < hi → get_or ws k 0 ≡ get_or old k 0
  pub back : (k : ℕ) → hi ≤ k → k < length old → get_or ws k 0 ≡ new k

pub close_none : (old : List ℕ) (new : ℕ → ℕ) → Closing old new 0 (length old) old
close_none old new =
    record { long = refl; front = λ k p. absurd (omega arith); middle = λ k p q. refl; back = λ k p q. absurd (omega arith) }

-- one word at each end, which may be the same
pub close_both : (old : List ℕ) (new : ℕ → ℕ) (lo hi : ℕ) (ws : List ℕ) (x y : ℕ) → Closing old new lo hi ws → lo < hi → hi ≤ length old
    → x ≡ new lo → y ≡ new (hi - 1) → Closing old new (lo + 1) (hi - 1) (set (set ws lo x) (hi - 1) y)
close_both old new lo hi ws x y c h l ex ey = record {
  long = length-set (set ws lo x) (hi - 1) y ∙ length-set ws lo x ∙ c.long;
  front = λ k p.
      by_eq k (hi - 1) (λ q. last k q)
      (λ q. get_or-set_other (set ws lo x) (hi - 1) k y 0 q ∙ by_eq k lo
      (λ r. get_d_set ws lo k x (omega (arith, c.long)) r ∙ ex ∙ ap new (sym r))
      (λ r. get_or-set_other ws lo k x 0 r ∙ c.front k (omega arith)));
  middle = λ k p q.
      get_or-set_other (set ws lo x) (hi - 1) k y 0 (omega arith) ∙ get_or-set_other ws lo k x 0 (omega arith) ∙ c.middle k (omega arith) (omega arith);
  back = λ k p q.
      by_eq k (hi - 1) (λ r. last k r)
      (λ r. get_or-set_other (set ws lo x) (hi - 1) k y 0 r ∙ get_or-set_other ws lo k x 0 (omega arith) ∙ c.back k (omega arith) q);
}
  where
    last : (k : ℕ) → k ≡ hi - 1 → get_or (set (set ws lo x) (hi - 1) y) k 0 ≡ new k
    last k q = get_d_set (set ws lo x) (hi - 1) k y (omega (arith, length-set ws lo x, c.long)) q ∙ ey ∙ ap new (sym q)

-- nothing is left between
pub closed : (old : List ℕ) (new : ℕ → ℕ) (lo hi : ℕ) (ws : List ℕ) → Closing old new lo hi ws → hi ≤ lo → Swept old new 0 (length old) ws
closed old new lo hi ws c h = record {
  long = c.long;
  fresh = λ k p q. by_lt k lo (λ l. c.front k l) (λ l. c.back k (omega arith) q);
  below = λ k p. absurd (omega arith);
  above = λ k p. lib.ListN.get_or-eq_default ws 0 (omega (arith, c.long)) ∙ sym (lib.ListN.get_or-eq_default old 0 p);
}
