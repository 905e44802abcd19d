-- `from_list` in a style, byte by byte. proofs/Grammar: what is read is exactly what the grammar says.
use Rattle.std.specs.Prelude.{ℕ, ◌+◌, ◌-◌, min, Bool, true, false, ◌&&◌, List, [], ◌∷◌, ◌++◌, leb, eqb, Result, Option, Ok, Err, Some, None}
use Rattle.word.specs.Sets.{choose}
use Rattle.storage.specs.Stores.{Bits, Outcome, refused, Op, within, up_to}
use Rattle.storage.specs.declared.Refusal.{Refusal}
use Rattle.storage.specs.declared.Refusal.TheVariants.{NotList, NotAscii, BadStyle, NumberOver}
use Rattle.style.specs.Styles.{allowed}
use Rattle.style.specs.declared.Style.{Style}
use Rattle.text.specs.Lists.{comma, zero_digit, list_limit, blank, digit, with_digit, plain, Range, range, covers, highest}
use Rattle.text.specs.declared.Kind.{Kind}
use Rattle.text.specs.declared.Kind.TheVariants.{Digit, Blank, Joiner, Comma, Other}
use Rattle.text.specs.declared.Fault.{Fault}
use Rattle.text.specs.declared.Fault.TheVariants.{Slip, Huge}

-- what a byte is to a list with the joiner j
unfoldable pub kind : ℕ → ℕ → Kind
kind j c =
    choose (digit c) (Digit (c - zero_digit)) (choose (blank c) Blank (choose (eqb c j) Joiner (choose (eqb c comma) Comma Other)))

-- more than a number of any style may be
abbrev pub too_large : ℕ
too_large = list_limit + 1_001

-- one digit more; `too_large` stands for every larger number
abbrev pub grown : ℕ → ℕ → ℕ
grown v d = min too_large (with_digit v d)

-- how far a number is read: no digit yet, its last byte a digit, or blanks after it
pub data NumberSoFar : Type 0 where
  Unread : NumberSoFar
  Open : ℕ → NumberSoFar
  Closed : ℕ → NumberSoFar

-- the number before a token's joiner, where that came
pub data Left : Type 0 where
  Alone : Left
  From : ℕ → Left

-- how far a token is read: the number before its joiner, and the number at hand
pub record Part : Type 0 where
  pub left : Left
  pub number : NumberSoFar

abbrev pub part : Left → NumberSoFar → Part
part l n = record { left = l; number = n }

abbrev pub fresh : Part
fresh = part Alone Unread

-- a number that ended, and a token that ended: a range, or nothing but blanks
abbrev pub Value : Type 0
Value = Result ℕ Fault

abbrev pub Token : Type 0
Token = Result (Option (ℕ × ℕ)) Fault

-- the bit of a number that ended, in a list that counts from f; one below f is a slip, and one above the limit is huge
abbrev pub bit_of : ℕ → ℕ → Value
bit_of f v = choose (leb f v) (choose (leb v (list_limit + f)) (Ok (v - f)) (Err Huge)) (Err Slip)

unfoldable pub value : ℕ → NumberSoFar → Value
value f Unread = Err Slip
value f (Open v) = bit_of f v
value f (Closed v) = bit_of f v

-- nothing but blanks is read
abbrev pub unread : NumberSoFar → Bool
unread Unread = true
unread (Open v) = false
unread (Closed v) = false

abbrev pub alone : Left → Bool
alone Alone = true
alone (From a) = false

unfoldable pub empty : Part → Bool
empty p = alone p.left && unread p.number

-- a token that ended: one number, or two of which the second is not smaller
abbrev pub ranged : Left → Value → Token
ranged l (Err e) = Err e
ranged Alone (Ok b) = Ok (Some (b, b))
ranged (From a) (Ok b) = choose (leb a b) (Ok (Some (a, b))) (Err Slip)

unfoldable pub token : ℕ → Part → Token
token f p = choose (empty p) (Ok None) (ranged p.left (value f p.number))

-- what a byte makes of a token: it goes on, it ends, or it is none
pub data Step : Type 0 where
  Go : Part → Step
  Ends : Step
  Stop : Fault → Step

abbrev pub by_digit : Left → NumberSoFar → ℕ → Step
by_digit l Unread d = Go (part l (Open d))
by_digit l (Open v) d = Go (part l (Open (grown v d)))
by_digit l (Closed v) d = Stop Slip

abbrev pub by_blank : Left → NumberSoFar → Step
by_blank l Unread = Go (part l Unread)
by_blank l (Open v) = Go (part l (Closed v))
by_blank l (Closed v) = Go (part l (Closed v))

-- the left number is judged here, before anything of the right one is read
abbrev pub by_joiner : Left → Value → Step
by_joiner (From a) v = Stop Slip
by_joiner Alone (Err e) = Stop e
by_joiner Alone (Ok a) = Go (part (From a) Unread)

unfoldable pub by_kind : ℕ → Part → Kind → Step
by_kind f p (Digit d) = by_digit p.left p.number d
by_kind f p Blank = by_blank p.left p.number
by_kind f p Joiner = by_joiner p.left (value f p.number)
by_kind f p Comma = Ends
by_kind f p Other = Stop Slip

-- how far a text is read: the ranges of the tokens that ended, and the token at hand
pub data TextSoFar : Type 0 where
  bad : Fault → TextSoFar
  reading : List Range → Part → TextSoFar

-- a comma after a token
abbrev pub token_ends : List Range → Token → TextSoFar
token_ends rs (Ok (Some (a, b))) = reading (rs ++ range a b ∷ []) fresh
token_ends rs (Ok None) = bad Slip
token_ends rs (Err e) = bad e

abbrev pub after : ℕ → List Range → Part → Step → TextSoFar
after f rs p (Go q) = reading rs q
after f rs p Ends = token_ends rs (token f p)
after f rs p (Stop e) = bad e

unfoldable pub next : Style → TextSoFar → ℕ → TextSoFar
next y (bad e) c = bad e
next y (reading rs p) c = after y.first rs p (by_kind y.first p (kind y.joiner c))

unfoldable pub reads : Style → TextSoFar → List ℕ → TextSoFar
reads y x [] = x
reads y x (c ∷ t) = reads y (next y x c) t

-- what a text is: no list, and why, or one of these ranges
pub data Parsed : Type 0 where
  no_list : Fault → Parsed
  ranges : List Range → Parsed

-- an empty last token is allowed after a good one
abbrev pub text_ends : List Range → Token → Parsed
text_ends rs (Ok (Some (a, b))) = ranges (rs ++ range a b ∷ [])
text_ends [] (Ok None) = no_list Slip
text_ends (r ∷ rs) (Ok None) = ranges (r ∷ rs)
text_ends rs (Err e) = no_list e

unfoldable pub parsed : ℕ → TextSoFar → Parsed
parsed f (bad e) = no_list e
parsed f (reading rs p) = text_ends rs (token f p)

unfoldable pub parse : Style → List ℕ → Parsed
parse y t = parsed y.first (reads y (reading [] fresh) t)

-- the union of the ranges, in the words up to the largest number's
abbrev pub union : List Range → Bits
union rs = record { members = covers rs; count = up_to (highest rs) }

abbrev pub refusal_of : Fault → Refusal
refusal_of Slip = NotList
refusal_of Huge = NumberOver

abbrev pub list_outcome : ℕ → Parsed → Outcome
list_outcome c (no_list e) = refused (refusal_of e)
list_outcome c (ranges rs) = within c (union rs)

-- the earlier set is discarded; refusals 15, 8, 7 or 16, and 6, in this order
unfoldable pub reading_list : Style → List ℕ → Op
reading_list y t c b = let o = list_outcome c (parse y t) in choose (allowed y) (choose (plain t) o (refused NotAscii)) (refused BadStyle)
