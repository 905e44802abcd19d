-- The walk over a list text, token by token.
use mathlib.Core.Path.{◌≡◌, refl, sym, ap, ◌∙◌}
use mathlib.Core.Bool.{Bool, true, false, false≢true, true≢false}
use mathlib.Core.List.{List, [], ◌∷◌, ◌++◌}
use Prim.Native.Nat.{ℕ, ◌+◌, ◌-◌, ◌≤◌, ◌<◌, max}
use native.Mathlib.Omega.{arith}
use native.Mathlib.Numerals.{add-one}
use lib.ListN.{length, get_or, drop, drop_of_length-le}
use lib.Seq.{drop-cons}
use Rattle.word.proofs.Cases.{zero_one}
use Rattle.word.proofs.Lists.{Fit}
use Rattle.arch.specs.Scans.{filled}
use Rattle.style.specs.declared.Style.{Style}
use Rattle.text.specs.Lists.{Range, range, highest}
use Rattle.text.specs.Readings.{kind, Part, fresh, token, Step, Go, Ends, Stop, by_kind, TextSoFar, bad, reading, token_ends, after, next, reads, no_list, ranges, text_ends, parsed, parse}
use Rattle.text.specs.Kernels.{measured_of, marked, Walked}
use Rattle.text.specs.declared.Fault.{Fault}
use Rattle.text.specs.declared.Fault.TheVariants.{Slip}
use Rattle.text.specs.declared.Kind.{Kind}
use Rattle.text.proofs.Marks.{marked_none, marked_more, length_marked}
use Rattle.text.specs.Readings.{Token}
use Rattle.std.specs.Prelude.{Ok, Err, Some, None}

-- ---- reading on

pub reads_bad : (st : Style) (d : Fault) (t : List ℕ) → reads st (bad d) t ≡ bad d
unfolding reads next
reads_bad st d [] = refl
reads_bad st d (c ∷ t) = reads_bad st d t

reads_at : (st : Style) (x : TextSoFar) (t : List ℕ) (i : ℕ) → i < length t → reads st x (drop i t) ≡ reads st (next st x (get_or t i 0)) (drop (i + 1) t)
unfolding reads
reads_at st x t i h = rw (add-one, drop-cons t i 0 h)

-- the byte at i makes s of the token st.first p
reads-step : (st : Style) (rs : List Range) (p : Part) (t : List ℕ) (i : ℕ) {s : Step} → i < length t → by_kind st.first p (kind st.joiner (get_or t i 0)) ≡ s
    → reads st (reading rs p) (drop i t) ≡ reads st (after st.first rs p s) (drop (i + 1) t)
unfolding next
reads-step st rs p t i h e = reads_at st (reading rs p) t i h ∙ ap (λ (x : Step). reads st (after st.first rs p x) (drop (i + 1) t)) e

-- from the place a with a fresh token, the walk has come to the place i with the token st.first p
pub record Inside (st : Style) (t : List ℕ) (a i : ℕ) (p : Part) : Type 0 where
  pub from : a ≤ i
  pub within : i ≤ length t
  pub same : (rs : List Range) → reads st (reading rs fresh) (drop a t) ≡ reads st (reading rs p) (drop i t)

pub inside_start : (st : Style) (t : List ℕ) (a : ℕ) → a ≤ length t → Inside st t a a fresh
inside_start st t a h = record { from = omega arith; within = h; same = λ rs. refl }

-- one byte
module _ (st : Style) (t : List ℕ) (a i : ℕ) (p : Part) (k : Kind) (r : Step) (x : Inside st t a i p) (h : i < length t)
    (ek : k ≡ kind st.joiner (get_or t i 0)) (er : r ≡ by_kind st.first p k) where
  at_byte : {s : Step} → r ≡ s → by_kind st.first p (kind st.joiner (get_or t i 0)) ≡ s
  at_byte e = sym (er ∙ ap (by_kind st.first p) ek) ∙ e

  pub inside_go : (q : Part) → r ≡ Go q → Inside st t a (i + 1) q
  inside_go q e = record {
    from = omega (arith, x.from);
    within = omega arith;
    same = λ rs. x.same rs ∙ reads-step st rs p t i h (at_byte e);
  }

  pub inside_stop : (d : Fault) → r ≡ Stop d → (rs : List Range) → reads st (reading rs fresh) (drop a t) ≡ bad d
  inside_stop d e rs = x.same rs ∙ reads-step st rs p t i h (at_byte e) ∙ reads_bad st d (drop (i + 1) t)

  pub inside_ends : r ≡ Ends → (rs : List Range) → reads st (reading rs fresh) (drop a t) ≡ reads st (token_ends rs (token st.first p)) (drop (i + 1) t)
  inside_ends e rs = x.same rs ∙ reads-step st rs p t i h (at_byte e)

-- how the token's walk ended: at the text's end, or past a comma
pub data Ended (st : Style) (t : List ℕ) (a : ℕ) (p : Part) : ℕ → Bool → Type 0 where
  at_end : {i : ℕ} {m : Bool} → m ≡ false → ((rs : List Range) → reads st (reading rs fresh) (drop a t) ≡ reading rs p) → Ended st t a p i m
  at_comma : {i : ℕ} {m : Bool} → m ≡ true → a < i → i ≤ length t
      → ((rs : List Range) → reads st (reading rs fresh) (drop a t) ≡ reads st (token_ends rs (token st.first p)) (drop i t)) → Ended st t a p i m

pub ended-left : (st : Style) (t : List ℕ) (a i : ℕ) (p : Part) (m : Bool) → Inside st t a i p → length t ≤ i → m ≡ false → (j : ℕ) → Ended st t a p j m
unfolding reads
ended-left st t a i p m x h e j = at_end e (λ rs. x.same rs ∙ ap (reads st (reading rs p)) (drop_of_length-le t h))

pub ended-comma : (st : Style) (t : List ℕ) (a i : ℕ) (p : Part) (k : Kind) (r : Step) → Inside st t a i p → i < length t → k ≡ kind st.joiner (get_or t i 0) → r ≡ by_kind st.first p k → r ≡ Ends
    → (j : ℕ) (m : Bool) → j ≡ i + 1 → m ≡ true → Ended st t a p j m
ended-comma st t a i p k r x h ek er e j m ej em =
    at_comma {i = j} em (omega (arith, x.from)) (omega arith)
    (λ rs. inside_ends st t a i p k r x h ek er e rs ∙ ap (λ (n : ℕ). reads st (token_ends rs (token st.first p)) (drop n t)) (sym ej))

-- ---- token by token

-- some token has ended
abbrev pub some : List Range → Bool
some [] = false
some (r ∷ rs) = true

-- the tokens with the ranges rs are passed
pub record TokensTo (st : Style) (t ws ws' : List ℕ) (top : ℕ) (any : Bool) (at : ℕ) (rs : List Range) : Type 0 where
  pub within : at ≤ length t
  pub rest : parse st t ≡ parsed st.first (reads st (reading rs fresh) (drop at t))
  pub top_is : top ≡ highest rs
  pub any_is : any ≡ some rs
  pub marks : ws' ≡ marked rs ws

pub going_start : (st : Style) (t ws : List ℕ) → Fit ws → TokensTo st t ws ws 0 false 0 []
unfolding parse highest
going_start st t ws f = record { within = omega arith; rest = refl; top_is = refl; any_is = refl; marks = marked_none ws f }

highest-end : (rs : List Range) (a b : ℕ) → highest (rs ++ range a b ∷ []) ≡ max (highest rs) b
unfolding highest
highest-end [] a b = omega arith
highest-end (r ∷ rs) a b = omega (arith, highest-end rs a b)

some_end : (rs : List Range) (r : Range) → true ≡ some (rs ++ r ∷ [])
some_end [] r = refl
some_end (q ∷ rs) r = refl

-- the text is no list
not-whole : (st : Style) (t : List ℕ) (d : Fault) (rs qs : List Range) → parse st t ≡ no_list d → parse st t ≡ ranges rs → qs ≡ rs
not-whole st t d rs qs e f = zero_one cc

pub walked_bad : (st : Style) (t ws ws' : List ℕ) (rs : List Range) (d : Fault) → ws' ≡ marked rs ws → parse st t ≡ no_list d → Walked st t (Err d) ws ws'
walked_bad st t ws ws' rs d m e = record { measures = ap measured_of (sym e); passed = rs; whole = λ qs f. not-whole st t d qs rs e f; marks = m }

pub walked_good : (st : Style) (t ws ws' : List ℕ) (rs : List Range) (top : ℕ) → ws' ≡ marked rs ws → parse st t ≡ ranges rs → top ≡ highest rs → Walked st t (Ok top) ws ws'
walked_good st t ws ws' rs top m e f = record { measures = ap Ok f ∙ ap measured_of (sym e); passed = rs; whole = λ qs g. same_ranges (sym e ∙ g); marks = m }
  where
    same_ranges : {qs : List Range} → ranges rs ≡ ranges qs → rs ≡ qs
    same_ranges g = cc

module _ (st : Style) (t ws ws' : List ℕ) (top : ℕ) (any : Bool) (a : ℕ) (rs : List Range) (g : TokensTo st t ws ws' top any a rs) where
  pub going_length : length ws' ≡ length ws
  going_length = ap length g.marks ∙ length_marked rs ws

  -- a byte at which the token stops
  pub stops : (d : Fault) → reads st (reading rs fresh) (drop a t) ≡ bad d → Walked st t (Err d) ws ws'
  unfolding parsed
  stops d e = walked_bad st t ws ws' rs d g.marks (g.rest ∙ ap (parsed st.first) e)

  module _ (i : ℕ) (more : Bool) (p : Part) (d : Ended st t a p i more) (r : Token) (er : r ≡ token st.first p) where
    -- what a token makes of the text
    ends_parse : more ≡ false → parse st t ≡ text_ends rs (token st.first p)
    unfolding parsed
    ends_parse e = go d e
      where
        go : {j : ℕ} {m : Bool} → Ended st t a p j m → m ≡ false → parse st t ≡ text_ends rs (token st.first p)
        go (at_end f s) e = g.rest ∙ ap (parsed st.first) (s rs)
        go (at_comma f l h s) e = absurd (true≢false (sym f ∙ e))

    goes_parse : more ≡ true → (a < i) × (i ≤ length t) × (parse st t ≡ parsed st.first (reads st (token_ends rs (token st.first p)) (drop i t)))
    goes_parse e = go d e
      where
        go : {j : ℕ} {m : Bool} → Ended st t a p j m → m ≡ true → (a < j) × (j ≤ length t) × (parse st t ≡ parsed st.first (reads st (token_ends rs (token st.first p)) (drop j t)))
        go (at_end f s) e = absurd (false≢true (sym f ∙ e))
        go (at_comma f l h s) e = (l, h, g.rest ∙ ap (parsed st.first) (s rs))

    -- an empty token, or none
    bad_at : (w : Fault) → text_ends rs (token st.first p) ≡ no_list w → token_ends rs (token st.first p) ≡ bad w → parse st t ≡ no_list w
    unfolding parsed
    bad_at w e f = go d
      where
        go : {j : ℕ} {m : Bool} → Ended st t a p j m → parse st t ≡ no_list w
        go (at_end x s) = g.rest ∙ ap (parsed st.first) (s rs) ∙ e
        go (at_comma {i = j} x l h s) = g.rest ∙ ap (parsed st.first) (s rs ∙ ap (λ (y : TextSoFar). reads st y (drop j t)) f ∙ reads_bad st w (drop j t))

    pub none_at : (w : Fault) → r ≡ Err w → Walked st t (Err w) ws ws'
    none_at w e = walked_bad st t ws ws' rs w g.marks (bad_at w (ap (text_ends rs) (sym er ∙ e)) (ap (token_ends rs) (sym er ∙ e)))

    text_ends-empty : (qs : List Range) → false ≡ some qs → text_ends qs (Ok None) ≡ no_list Slip
    text_ends-empty [] e = refl
    text_ends-empty (q ∷ qs) e = absurd (false≢true e)

    text_ends_some : (qs : List Range) → true ≡ some qs → text_ends qs (Ok None) ≡ ranges qs
    text_ends_some [] e = absurd (true≢false e)
    text_ends_some (q ∷ qs) e = refl

    -- the first token
    pub empty_first : r ≡ (Ok None) → any ≡ false → Walked st t (Err Slip) ws ws'
    empty_first e f =
        walked_bad st t ws ws' rs Slip g.marks
        (bad_at Slip (ap (text_ends rs) (sym er ∙ e) ∙ text_ends-empty rs (sym f ∙ g.any_is)) (ap (token_ends rs) (sym er ∙ e)))

    -- not the last one
    pub empty_inner : r ≡ (Ok None) → more ≡ true → Walked st t (Err Slip) ws ws'
    unfolding parsed
    empty_inner e f =
        walked_bad st t ws ws' rs Slip g.marks
        ((goes_parse f).2 ∙ ap (λ (y : TextSoFar). parsed st.first (reads st y (drop i t))) (ap (token_ends rs) (sym er ∙ e)) ∙ ap (parsed st.first) (reads_bad st Slip (drop i t)))

    pub empty-last : r ≡ (Ok None) → any ≡ true → more ≡ false → Walked st t (Ok top) ws ws'
    empty-last e f h =
        walked_good st t ws ws' rs top g.marks (ends_parse h ∙ ap (text_ends rs) (sym er ∙ e) ∙ text_ends_some rs (sym f ∙ g.any_is)) g.top_is

    -- a range
    module _ (x y : ℕ) (e : r ≡ Ok (Some (x, y))) (us : List ℕ) (m : us ≡ filled x (y + 1) true ws') (top' : ℕ) (et : top' ≡ max top y) where
      more_marks : us ≡ marked (rs ++ range x y ∷ []) ws
      more_marks = marked_more rs x y ws ws' us g.marks m

      pub more-length : length us ≡ length ws
      more-length = ap length more_marks ∙ length_marked (rs ++ range x y ∷ []) ws

      more_top : top' ≡ highest (rs ++ range x y ∷ [])
      more_top = et ∙ ap (λ (z : ℕ). max z y) g.top_is ∙ sym (highest-end rs x y)

      pub range_last : more ≡ false → Walked st t (Ok top') ws us
      range_last f = walked_good st t ws us (rs ++ range x y ∷ []) top' more_marks (ends_parse f ∙ ap (text_ends rs) (sym er ∙ e)) more_top

      pub range-more : more ≡ true → TokensTo st t ws us top' true i (rs ++ range x y ∷ [])
      range-more f = record {
        within = (goes_parse f).1;
        rest = (goes_parse f).2 ∙ ap (λ (z : TextSoFar). parsed st.first (reads st z (drop i t))) (ap (token_ends rs) (sym er ∙ e));
        top_is = more_top;
        any_is = some_end rs (range x y);
        marks = more_marks;
      }

      pub range_less : more ≡ true → length t - i < length t - a
      range_less f = let q = goes_parse f in omega arith
