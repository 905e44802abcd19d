-- What is printed of a set reads back as the set.
use mathlib.Core.Path.{◌≡◌, refl, sym, ap, ◌∙◌, subst, fun_ext}
use mathlib.Core.Bool.{Bool, true, false, ◌&&◌, false≢true}
use mathlib.Core.List.{List, [], ◌∷◌, ◌++◌, append-nil}
use mathlib.Core.Logic.{inl}
use Prim.Native.Nat.{ℕ, ◌+◌, ◌*◌, ◌/◌, ◌%◌, ◌≤◌, ◌<◌, max}
use native.Mathlib.Omega.{arith}
use lib.Dec.{ltb, eqb}
use borrow.Author.Tests.{lt-ltb, eqb-true}
use Rattle.word.specs.Sets.{choose}
use Rattle.word.proofs.Cases.{by_lt, and-true}
use Rattle.word.proofs.Lists.{word-zero}
use Rattle.storage.specs.Stores as stores
use Rattle.storage.specs.Stores.{Bits, Bounded, trimmed_count, trimmed}
use Rattle.storage.proofs.Checks.{within_ok}
use Rattle.storage.proofs.Trims.{trimmed_is}
use Rattle.style.specs.Promises.{Allowed}
use Rattle.style.specs.declared.Style.{Style}
use Rattle.style.proofs.Promises.{styles_mean}
use Rattle.text.specs.Lists.{comma, list_limit, plain, Range, range, covers, highest}
use Rattle.text.specs.Grammar as g
use Rattle.text.specs.Readings.{ranges, union, reading_list}
use Rattle.print.specs.Texts.{runs, decimal, pieces, printed, gap, others, text, text_of}
use Rattle.print.proofs.Decimals.{decimal-digits}
use Rattle.text.proofs.Accepts.{blank_low, complete}
use Rattle.print.proofs.Runs.{runs_are, Parted, done, piece, parted_cover, pieces-parted}
use Rattle.text.proofs.Taken.{list_is}

-- ---- what is printed is a list of the grammar

decimal-number : (y : Style) (n : ℕ) → n ≤ list_limit → g.Numeral y (decimal (n + y.first)) n
decimal-number y n h =
    subst (λ (t : List ℕ). g.Numeral y t n) (append-nil (decimal (n + y.first))) (g.number g.nil (decimal-digits (n + y.first)) g.nil h)

-- ranges that a list may hold
data Fit : List Range → Type 0 where
  fit_none : Fit []
  fit_more : {r : Range} {rs : List Range} → r.low ≤ r.high → r.high ≤ list_limit → Fit rs → Fit (r ∷ rs)

printed-token : (y : Style) (r : Range) → r.low ≤ r.high → r.high ≤ list_limit → g.Token y (printed y r) r
unfolding printed
printed-token y r h l = go (eqb r.low r.high) refl
  where
    go : (t : Bool) → eqb r.low r.high ≡ t
        → g.Token y (choose t (decimal (r.low + y.first)) (decimal (r.low + y.first) ++ y.joiner ∷ decimal (r.high + y.first))) r
    go true e =
        subst (λ (b : ℕ). g.Token y (decimal (r.low + y.first)) (range r.low b)) (eqb-true r.low r.high e) (g.single (decimal-number y r.low (omega arith)))
    go false e = g.pair (decimal-number y r.low (omega arith)) (decimal-number y r.high l) h

-- a blank before a token
blank-number : {y : Style} {t : List ℕ} {v : ℕ} → g.Numeral y t v → g.Numeral y (32 ∷ t) v
blank-number (g.number b d w h) = g.number (g.cons (inl refl) b) d w h

blank-token : {y : Style} {t : List ℕ} {r : Range} → g.Token y t r → g.Token y (32 ∷ t) r
blank-token (g.single x) = g.single (blank-number x)
blank-token (g.pair x z h) = g.pair (blank-number x) z h

others-listed : (y : Style) (t : List ℕ) (r : Range) (rs : List Range) → g.Token y t r → Fit rs → g.Listed y (t ++ others y rs) (r ∷ rs)
unfolding others
others-listed y t r [] x fit_none = subst (λ (z : List ℕ). g.Listed y z (r ∷ [])) (sym (append-nil t)) (g.last x)
others-listed y t r (q ∷ rs) x (fit_more h l f) =
    go y.blank (others-listed y (32 ∷ printed y q) q rs (blank-token (printed-token y q h l)) f) (others-listed y (printed y q) q rs (printed-token y q h l) f)
  where
    go : (b : Bool) → g.Listed y (32 ∷ (printed y q ++ others y rs)) (q ∷ rs) → g.Listed y (printed y q ++ others y rs) (q ∷ rs)
        → g.Listed y (t ++ (gap b ++ (printed y q ++ others y rs))) (r ∷ q ∷ rs)
    go true a b = g.more x a
    go false a b = g.more x b

text-listed : (y : Style) (r : Range) (rs : List Range) → Fit (r ∷ rs) → g.Listed y (text y (r ∷ rs)) (r ∷ rs)
unfolding text
text-listed y r rs (fit_more h l f) = others-listed y (printed y r) r rs (printed-token y r h l) f

parted_fit : (s : ℕ → Bool) (i : ℕ) (rs : List Range) → Parted s i rs → ((j : ℕ) → s j ≡ true → j ≤ list_limit) → Fit rs
parted_fit s i [] (done f) h = fit_none
parted_fit s i (r ∷ rs) (piece a b f m x) h = fit_more b (h r.high (m r.high b (omega arith))) (parted_fit s (r.high + 1) rs x h)

-- ---- its bytes are below 128

and_both : (a b : Bool) → a ≡ true → b ≡ true → a && b ≡ true
and_both true b e f = f
and_both false b e f = absurd (false≢true e)

plain-append : (a b : List ℕ) → plain a ≡ true → plain b ≡ true → plain (a ++ b) ≡ true
unfolding plain
plain-append [] b e f = f
plain-append (c ∷ a) b e f =
    and_both (ltb c 128) (plain (a ++ b)) (and-true (ltb c 128) (plain a) e).0 (plain-append a b (and-true (ltb c 128) (plain a) e).1 f)

plain-cons : (c : ℕ) (t : List ℕ) → c < 128 → plain t ≡ true → plain (c ∷ t) ≡ true
unfolding plain
plain-cons c t h e = and_both (ltb c 128) (plain t) (lt-ltb c 128 h) e

plain-nil : plain [] ≡ true
unfolding plain
plain-nil = refl

plain-blanks : {t : List ℕ} → g.Blanks t → plain t ≡ true
plain-blanks g.nil = plain-nil
plain-blanks (g.cons {c = c} {t = t} e b) = plain-cons c t (omega (arith, blank_low c e)) (plain-blanks b)

plain-digits : {t : List ℕ} {v : ℕ} → g.Digits t v → plain t ≡ true
plain-digits (g.one {c = c} e) = plain-cons c [] (omega (arith, e.1)) plain-nil
plain-digits (g.more {t = t} c d e) = plain-append t (c ∷ []) (plain-digits d) (plain-cons c [] (omega (arith, e.1)) plain-nil)

module _ (y : Style) (ok : Allowed y) where
  plain-number : {t : List ℕ} {v : ℕ} → g.Numeral y t v → plain t ≡ true
  plain-number (g.number {u = u} {d = d} {w = w} b x z h) = plain-append (u ++ d) w (plain-append u d (plain-blanks b) (plain-digits x)) (plain-blanks z)

  plain-token : {t : List ℕ} {r : Range} → g.Token y t r → plain t ≡ true
  plain-token (g.single x) = plain-number x
  plain-token (g.pair {t = t} {u = u} x z h) =
      plain-append t (y.joiner ∷ u) (plain-number x) (plain-cons y.joiner u (omega (arith, ok.joiner.printable.1)) (plain-number z))

  pub plain-listed : {t : List ℕ} {rs : List Range} → g.Listed y t rs → plain t ≡ true
  plain-listed (g.last x) = plain-token x
  plain-listed (g.ended {t = t} {u = u} x b) = plain-append t (comma ∷ u) (plain-token x) (plain-cons comma u (omega arith) (plain-blanks b))
  plain-listed (g.more {t = t} {u = u} x l) = plain-append t (comma ∷ u) (plain-token x) (plain-cons comma u (omega arith) (plain-listed l))

-- ---- the largest number is a member, and the last

record Last (s : ℕ → Bool) (i t : ℕ) : Type 0 where
  at : s t ≡ true
  from : i ≤ t
  past : (j : ℕ) → t < j → s j ≡ false

parted-last : (s : ℕ → Bool) (i : ℕ) (r : Range) (rs : List Range) → Parted s i (r ∷ rs) → Last s i (highest (r ∷ rs))
unfolding highest
parted-last s i r [] (piece a b f m (done x)) =
    let e : max r.high 0 ≡ r.high = omega arith in
    record { at = ap s e ∙ m r.high b (omega arith); from = omega arith; past = λ j h. x j (omega arith) }
parted-last s i r (q ∷ rs) (piece a b f m x) =
    let l = parted-last s (r.high + 1) q rs x in
    let e : max r.high (highest (q ∷ rs)) ≡ highest (q ∷ rs) = omega (arith, l.from) in
    record { at = ap s e ∙ l.at; from = omega (arith, l.from, e); past = λ j h. l.past j (omega (arith, e)) }

-- the words that it needs
words_needed : (s : ℕ → Bool) (n t : ℕ) → t / 64 < n → Last s 0 t → trimmed_count s n ≡ t / 64 + 1
words_needed s n t low l =
    trimmed_is s n (t / 64 + 1) (omega arith) (λ i h k. l.past i (omega arith))
    (λ k e h.
    let p : 64 * k + t % 64 ≡ t = omega arith in
    false≢true (sym (word-zero s k (t % 64) h (omega arith)) ∙ ap s p ∙ l.at))

-- ---- of a bitmap

module _ (y : Style) (ok : Allowed y) (b : Bits) (h : Bounded b) (small : b.count ≤ stores.store_limit) where
  below : (j : ℕ) → b.members j ≡ true → j < 64 * b.count
  below j e = by_lt j (64 * b.count) (λ p. p) (λ p. absurd (false≢true (sym (h.past j p) ∙ e)))

  -- the pieces that are printed
  abbrev written : List Range
  written = pieces y.shortest (runs b)

  parted : Parted b.members 0 written
  parted = pieces-parted y.shortest b.members 0 (runs b) (runs_are b h)

  -- an empty set prints nothing
  pub prints_nothing : ((j : ℕ) → b.members j ≡ false) → text_of y b ≡ []
  unfolding text
  prints_nothing z = ap (text y) (go written parted)
    where
      go : (rs : List Range) → Parted b.members 0 rs → rs ≡ []
      go [] x = refl
      go (r ∷ rs) (piece p q f m x) = absurd (false≢true (sym (z r.low) ∙ m r.low (omega arith) q))

  module _ (i : ℕ) (e : b.members i ≡ true) where
    listed-pieces : (rs : List Range) → Parted b.members 0 rs → g.Listed y (text y rs) rs
    listed-pieces [] (done f) = absurd (false≢true (sym (f i (omega arith)) ∙ e))
    listed-pieces (r ∷ rs) x = text-listed y r rs (parted_fit b.members 0 (r ∷ rs) x (λ j q. omega (arith, below j q)))

    pub text_is_list : g.Listed y (text_of y b) written
    text_is_list = listed-pieces written parted

    pub lists_members : (j : ℕ) → covers written j ≡ b.members j
    lists_members j = parted_cover b.members 0 written parted j (omega arith)

    pub reads_back : (c : ℕ) (old : Bits) → trimmed_count b.members b.count ≤ c → reading_list y (text_of y b) c old ≡ stores.done (trimmed b)
    reads_back c old space = go written parted
      where
        go : (rs : List Range) → Parted b.members 0 rs → reading_list y (text y rs) c old ≡ stores.done (trimmed b)
        go [] (done f) = absurd (false≢true (sym (f i (omega arith)) ∙ e))
        go (r ∷ rs) x =
            list_is y (text y (r ∷ rs)) c old (ranges (r ∷ rs)) ((styles_mean y).0 ok) (plain-listed y ok (listed-pieces (r ∷ rs) x)) (complete y ok (listed-pieces (r ∷ rs) x))
            ∙ within_ok c (union (r ∷ rs)) (omega (arith, count))
            ∙ ap stores.done (λ k. record { members = fun_ext (λ j. parted_cover b.members 0 (r ∷ rs) x j (omega arith)) k; count = sym count k })
          where
            last : Last b.members 0 (highest (r ∷ rs))
            last = parted-last b.members 0 r rs x

            count : trimmed_count b.members b.count ≡ highest (r ∷ rs) / 64 + 1
            count = words_needed b.members b.count (highest (r ∷ rs)) (omega (arith, below (highest (r ∷ rs)) last.at)) last
