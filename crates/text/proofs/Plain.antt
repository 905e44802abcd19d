-- The plain style is read as document 01 says, with 16 for a part of its 7.
use mathlib.Core.Path.{◌≡◌, refl, sym, ap, ◌∙◌, subst}
use mathlib.Core.Logic.{⊎_elim, inl, inr}
use mathlib.Core.List.{List}
use Prim.Native.Nat.{ℕ, ◌+◌}
use native.Mathlib.Omega.{arith}
use Rattle.storage.specs.Refusals.{number_of}
use Rattle.storage.specs.Stores.{Bits}
use Rattle.style.specs.Styles.{plain_style}
use Rattle.style.specs.Promises.{Allowed}
use Rattle.style.proofs.Promises.{styles_mean}
use Rattle.text.specs.Lists.{Range}
use Rattle.text.specs.Grammar as g
use Rattle.text.specs.Plain as base
use Rattle.text.specs.Promises.{ReadAs, RefusedAs, ListRead, ListRefused, before, PlainReads}
use Rattle.text.proofs.Grammar.{bad_not_listed}
use Rattle.text.proofs.Promises.{tells_apart}
use Rattle.text.proofs.Once.{reads-list_exact}

pub plain-allowed : Allowed plain_style
plain-allowed = (styles_mean plain_style).1 refl

-- ---- the two grammars

number_base : {t : List ℕ} {a : ℕ} → g.Numeral plain_style t a → base.Numeral t a
number_base (g.number {d = d} {a = a} b x w h) = let k : a + 0 ≡ a = omega arith in base.number b (subst (g.Digits d) k x) w h

base_number : {t : List ℕ} {a : ℕ} → base.Numeral t a → g.Numeral plain_style t a
base_number (base.number {d = d} {v = v} b x w h) = let k : v ≡ v + 0 = omega arith in g.number b (subst (g.Digits d) k x) w h

token_base : {t : List ℕ} {r : Range} → g.Token plain_style t r → base.Token t r
token_base (g.single x) = base.single (number_base x)
token_base (g.pair x y h) = base.pair (number_base x) (number_base y) h

base_token : {t : List ℕ} {r : Range} → base.Token t r → g.Token plain_style t r
base_token (base.single x) = g.single (base_number x)
base_token (base.pair x y h) = g.pair (base_number x) (base_number y) h

pub listed_base : {t : List ℕ} {rs : List Range} → g.Listed plain_style t rs → base.Listed t rs
listed_base (g.last x) = base.last (token_base x)
listed_base (g.ended x b) = base.ended (token_base x) b
listed_base (g.more x l) = base.more (token_base x) (listed_base l)

pub base_listed : {t : List ℕ} {rs : List Range} → base.Listed t rs → g.Listed plain_style t rs
base_listed (base.last x) = g.last (base_token x)
base_listed (base.ended x b) = g.ended (base_token x) b
base_listed (base.more x l) = g.more (base_token x) (base_listed l)

-- ---- so the promises

module _ (t : List ℕ) (c : ℕ) (b : Bits) where
  read_base : (s : Bits) → ListRead plain_style t c b s → ReadAs base.Listed t c b s
  read_base s (ok, (h, (rs, x, u))) = (h, (rs, listed_base x, u))

  base_read : (s : Bits) → ReadAs base.Listed t c b s → ListRead plain_style t c b s
  base_read s (h, (rs, x, u)) = (plain-allowed, (h, (rs, base_listed x, u)))

  refused_base : (n : ℕ) → ListRefused plain_style t c b n → RefusedAs base.Listed t c b (before n)
  refused_base n (inl p) = absurd (p.1 plain-allowed)
  refused_base n (inr (ok, inl p)) = inl (ap before p.0, p.1)
  refused_base n (inr (ok, inr (h, inl p))) = inr (inl (ap before p.0, h, λ rs x. bad_not_listed plain_style ok (inl p.1) rs (base_listed x)))
  refused_base n (inr (ok, inr (h, inr (inl p)))) = inr (inl (ap before p.0, h, λ rs x. bad_not_listed plain_style ok (inr p.1) rs (base_listed x)))
  refused_base n (inr (ok, inr (h, inr (inr (e, (rs, x, q)))))) = inr (inr (ap before e, h, (rs, listed_base x, q)))

  -- the number now, and that it was k
  base_refused : (k : ℕ) → RefusedAs base.Listed t c b k → (n : ℕ) × ListRefused plain_style t c b n × (before n ≡ k)
  base_refused k (inl (e, h)) = (8, inr (plain-allowed, inl (refl, h)), sym e)
  base_refused k (inr (inl (e, h, f))) =
      ⊎_elim
      (λ x. (7, inr (plain-allowed, inr (h, inl (refl, x))), sym e))
      (λ x. (16, inr (plain-allowed, inr (h, inr (inl (refl, x)))), sym e))
      ((tells_apart plain_style plain-allowed t).together.1 (λ rs x. f rs (listed_base x)))
  base_refused k (inr (inr (e, h, (rs, x, q)))) = (6, inr (plain-allowed, inr (h, inr (inr (refl, (rs, base_listed x, q))))), sym e)

pub plain-reads : PlainReads
plain-reads t c b h l k =
    let e = reads-list_exact plain_style t c b h l k in
    record {
      done_is = λ s. (λ q. let r = (e.done_is s).0 q in (read_base t c b s r.0, r.1), λ r. (e.done_is s).1 (base_read t c b s r.0, r.1));
      refused_is = λ n. (
        λ q. subst (RefusedAs base.Listed t c b) q.2 (refused_base t c b (number_of q.0) ((e.refused_is (number_of q.0)).0 (q.0, q.1, refl))),
        λ r.
            let z = base_refused t c b n r in
            let w = (e.refused_is z.0).1 z.1 in
            (w.0, w.1, ap before w.2 ∙ z.2),
      );
    }
