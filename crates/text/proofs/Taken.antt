-- What `from_list` answers and leaves.
use mathlib.Core.Path.{◌≡◌, refl, sym, ap, ap₂, ◌∙◌, subst}
use mathlib.Core.Bool.{Bool, true, false, ◌||◌}
use mathlib.Core.List.{List, [], ◌++◌}
use mathlib.Core.Logic.{inr}
use Prim.Native.Nat.{ℕ, ◌+◌, ◌*◌, ◌/◌, ◌%◌, ◌≤◌, ◌<◌, max}
use native.Mathlib.Omega.{arith}
use lib.ListN.{length, get_or, take, drop}
use lib.Seq.{length-take-le, get_or-take}
use Rattle.word.specs.Sets.{choose}
use Rattle.word.specs.Places.{bit, member, words_of}
use Rattle.word.proofs.Cases.{zero_one}
use Rattle.word.proofs.Places.{bit-zero}
use Rattle.word.proofs.Lists.{member-at, at_place}
use Rattle.storage.specs.Stores.{Bits, refused, with_count, view, within, zeroed, Changes}
use Rattle.storage.specs.Guards.{Passed}
use Rattle.storage.specs.declared.Bitmap.{Bitmap}
use Rattle.storage.specs.declared.Refusal.{Refusal}
use Rattle.storage.specs.declared.Refusal.TheVariants.{NoSpace, NotList, NotAscii, BadStyle}
use Rattle.storage.proofs.Checks.{within_ok, within_no}
use Rattle.storage.proofs.Stores.{Stored, changes_done, changes-refused, part_stored, length-zeroed, zeroed_in, zeroed_out}
use Rattle.style.specs.Styles.{allowed}
use Rattle.style.specs.declared.Style.{Style}
use Rattle.text.specs.Lists.{plain, Range, covers, highest}
use Rattle.text.specs.Readings.{token, empty, reads, Parsed, no_list, ranges, parsed, parse, union, refusal_of, list_outcome, reading_list}
use Rattle.text.specs.Kernels.{measured_of, marked, Walked}
use Rattle.text.specs.declared.Fault.{Fault}
use Rattle.text.specs.declared.Fault.TheVariants.{Slip}
use Rattle.storage.specs.Refusals.{refusing}
use Rattle.std.specs.Prelude.{Ok, Err}
use Rattle.text.specs.Kernels.{Measured}

-- ---- the operation's cases

pub list_no_style : (y : Style) (t : List ℕ) (c : ℕ) (b : Bits) → allowed y ≡ false → reading_list y t c b ≡ refused BadStyle
unfolding reading_list
list_no_style y t c b e = ap (λ (x : Bool). choose x (choose (plain t) (list_outcome c (parse y t)) (refused NotAscii)) (refused BadStyle)) e

pub list-not-plain : (y : Style) (t : List ℕ) (c : ℕ) (b : Bits) → allowed y ≡ true → plain t ≡ false → reading_list y t c b ≡ refused NotAscii
unfolding reading_list
list-not-plain y t c b a e = ap₂ (λ (z x : Bool). choose z (choose x (list_outcome c (parse y t)) (refused NotAscii)) (refused BadStyle)) a e

pub list_is : (y : Style) (t : List ℕ) (c : ℕ) (b : Bits) (p : Parsed) → allowed y ≡ true → plain t ≡ true → parse y t ≡ p → reading_list y t c b ≡ list_outcome c p
unfolding reading_list
list_is y t c b p a e f = ap₂ (λ (z x : Bool). choose z (choose x (list_outcome c (parse y t)) (refused NotAscii)) (refused BadStyle)) a e ∙ ap (list_outcome c) f

-- no byte
pub list-empty : (y : Style) (c : ℕ) (b : Bits) → allowed y ≡ true → reading_list y [] c b ≡ refused NotList
unfolding parse parsed reads token empty plain
list-empty y c b a = list_is y [] c b (no_list Slip) a refl refl

-- ---- what a measurement says of the text

measured_top : (p : Parsed) (x : ℕ) → measured_of p ≡ Ok x → (rs : List Range) × (p ≡ ranges rs) × (x ≡ highest rs)
measured_top (no_list d) x e = zero_one cc
measured_top (ranges rs) x e = (rs, refl, top_same e)
  where
    top_same : measured_of (ranges rs) ≡ Ok x → x ≡ highest rs
    top_same f = cc

measured_none : (p : Parsed) (d : Fault) → measured_of p ≡ Err d → p ≡ no_list d
measured_none (no_list f) d e = same e
  where
    same : measured_of (no_list f) ≡ Err d → no_list f ≡ no_list d
    same h = cc
measured_none (ranges rs) d e = zero_one cc

-- no word is lent, none is marked
none_marked : (rs : List Range) → marked rs [] ≡ []
unfolding marked words_of
none_marked rs = refl

-- ---- the call

module _ (y : Style) (t ws : List ℕ) (b : Bitmap) (p : Passed ws b) where
  pub list-refused_15 : allowed y ≡ false → Changes (reading_list y t) ws b (refusing b BadStyle) ws
  list-refused_15 e = changes-refused (reading_list y t) ws b BadStyle p (list_no_style y t (length ws) (view ws b.count) e)

  module _ (a : allowed y ≡ true) where
    pub list-refused_8 : plain t ≡ false → Changes (reading_list y t) ws b (refusing b NotAscii) ws
    list-refused_8 e = changes-refused (reading_list y t) ws b NotAscii p (list-not-plain y t (length ws) (view ws b.count) a e)

    module _ (e : plain t ≡ true) (m : Measured) (part : List ℕ) (w : Walked y t m [] part) where
      pub untouched : part ++ ws ≡ ws
      untouched = ap (λ (z : List ℕ). z ++ ws) (w.marks ∙ none_marked w.passed)

      back : (r : Refusal) → reading_list y t (length ws) (view ws b.count) ≡ refused r → Changes (reading_list y t) ws b (refusing b r) (part ++ ws)
      back r q = subst (λ (z : List ℕ). Changes (reading_list y t) ws b (refusing b r) z) (sym untouched) (changes-refused (reading_list y t) ws b r p q)

      -- 7 or 16
      pub list-refused_as : (d : Fault) → m ≡ Err d → (r : Refusal) → r ≡ refusal_of d → Changes (reading_list y t) ws b (refusing b r) (part ++ ws)
      list-refused_as d f r h =
          back r (list_is y t (length ws) (view ws b.count) (no_list d) a e (measured_none (parse y t) d (sym w.measures ∙ f)) ∙ ap refused (sym h))

      module _ (top : ℕ) (f : m ≡ Ok top) where
        found : (rs : List Range) × (parse y t ≡ ranges rs) × (top ≡ highest rs)
        found = measured_top (parse y t) top (sym w.measures ∙ f)

        abbrev rs : List Range
        rs = found.0

        count_is : (union rs).count ≡ top / 64 + 1
        count_is = ap (λ (x : ℕ). x / 64 + 1) (sym found.2)

        read : reading_list y t (length ws) (view ws b.count) ≡ within (length ws) (union rs)
        read = list_is y t (length ws) (view ws b.count) (ranges rs) a e found.1

        pub list-refused_6 : length (part ++ ws) < top / 64 + 1 → Changes (reading_list y t) ws b (refusing b NoSpace) (part ++ ws)
        list-refused_6 h = back NoSpace (read ∙ within_no (length ws) (union rs) (omega (arith, count_is, ap length untouched)))

        -- zeroed, then walked again
        module _ (h : top / 64 + 1 ≤ length (part ++ ws)) (u : ℕ) (eu : u ≡ max b.count (top / 64 + 1)) (z : List ℕ) (ez : z ≡ zeroed 0 u (part ++ ws))
            (m' : Measured) (us : List ℕ) (v : Walked y t m' (take (top / 64 + 1) z) us) where
          abbrev c : ℕ
          c = top / 64 + 1

          z_is : z ≡ zeroed 0 u ws
          z_is = ez ∙ ap (zeroed 0 u) untouched

          long : length z ≡ length ws
          long = ap length z_is ∙ length-zeroed 0 u ws

          pub list-room : c ≤ length z
          list-room = omega (arith, long, ap length untouched)

          zero : (k : ℕ) → k < u → get_or z k 0 ≡ 0
          zero k l = ap (λ (y : List ℕ). get_or y k 0) z_is ∙ zeroed_in 0 u ws k (omega arith) l

          old : (k : ℕ) → u ≤ k → get_or z k 0 ≡ get_or ws k 0
          old k l = ap (λ (y : List ℕ). get_or y k 0) z_is ∙ zeroed_out 0 u ws k (inr l)

          none : (i : ℕ) → i < 64 * c → member (take c z) i ≡ false
          none i l =
              ap (member (take c z)) (sym (at_place i)) ∙ member-at (take c z) (i / 64) (i % 64) (omega arith)
              ∙ ap (λ (x : ℕ). bit x (i % 64)) (get_or-take c z (i / 64) 0 (omega arith) ∙ zero (i / 64) (omega arith)) ∙ bit-zero (i % 64)

          set : us ++ drop c z ≡ words_of (λ i. member (take c z) i || covers rs i) c ++ drop c z
          unfolding marked
          set =
              ap (λ (y : List ℕ). y ++ drop c z)
              (v.marks ∙ ap (λ (qs : List Range). marked qs (take c z)) (v.whole rs found.1)
              ∙ ap (words_of (λ i. member (take c z) i || covers rs i)) (length-take-le c z list-room))

          stored : Stored z c (union rs) (us ++ drop c z)
          stored =
              part_stored z (us ++ drop c z) c (λ i. member (take c z) i || covers rs i) (union rs) list-room set count_is
              (λ i l. ap (λ (x : Bool). x || covers rs i) (none i l))

          pub list_done : Changes (reading_list y t) ws b (Ok (with_count b c)) (us ++ drop c z)
          list_done =
              changes_done (reading_list y t) ws b (us ++ drop c z) (union rs) c p
              (read ∙ within_ok (length ws) (union rs) (omega (arith, count_is, ap length untouched)))
              (record {
                long = stored.long ∙ long;
                fits = stored.fits;
                used = stored.used;
                dropped = λ k l q. stored.kept k l (omega (arith, count_is)) ∙ zero k (omega arith);
                kept = λ k l q. stored.kept k l (omega (arith, count_is)) ∙ old k (omega (arith, count_is));
              })
              (sym count_is)
