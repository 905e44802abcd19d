-- What a call of each kind returns (r), hands out by its parameters and leaves in every lent word and byte.
-- A call that only reads hands out its answer, and its contract is that answer's own record.
use Rattle.std.specs.Prelude.{ℕ, ◌≡◌, Bool, not, List, eqb, Err}
use Rattle.storage.specs.Stores.{Op, reading, answer, store, outcome, bitmap_of}
use Rattle.shapes.specs.Shapes.{head_outcome, tail_outcome, split_answer}
use Rattle.style.specs.declared.Style.{Style}
use Rattle.print.specs.Texts.{list_answer, list_buffer}
use Rattle.register.specs.Register.{register_answer, register_buffer}
use Rattle.sheet.specs.Reads.{course, read_answer, read_store}
use Rattle.plain.specs.Writer.{Left}
use Rattle.answers.specs.Answers.{ChangeOut, SplitOut, AmountOut, ReadingOut, AddedOut}

-- a truth value that comes in as a number: 0 is false
abbrev pub truth : ℕ → Bool
truth v = not (eqb v 0)

-- a style that comes in as four numbers
abbrev pub style_of : ℕ → ℕ → ℕ → ℕ → Style
style_of f j b k = record { first = f; joiner = j; blank = truth b; shortest = k }

-- a changing call on the first n words of the store ws: the count goes in and out
pub record Changed (op : Op) (ws : List ℕ) (n r : ℕ) (ws' : List ℕ) (n' : ℕ) : Type 0 where
  pub out : ChangeOut (answer (outcome op ws (bitmap_of n)) (bitmap_of n)) r n'
  pub leaves : ws' ≡ store (outcome op ws (bitmap_of n)) ws n

-- `split_off`: the head's count goes in and out, the tail's goes out
pub record SplitOff (at : ℕ) (ws : List ℕ) (n : ℕ) (ts : List ℕ) (r : ℕ) (ws' : List ℕ) (n' : ℕ) (ts' : List ℕ) (t : ℕ) : Type 0 where
  pub out : SplitOut (split_answer (head_outcome at ws (bitmap_of n) ts) (tail_outcome at ws (bitmap_of n) ts) (bitmap_of n)) r n' t
  pub head : ws' ≡ store (head_outcome at ws (bitmap_of n) ts) ws n
  pub tail : ts' ≡ store (tail_outcome at ws (bitmap_of n) ts) ts 0

-- `write_list` of the first n words of ws into the buffer bs in a style: the text's length goes out
pub record Printed (y : Style) (ws : List ℕ) (n : ℕ) (bs : List ℕ) (r : ℕ) (bs' : List ℕ) (v : ℕ) : Type 0 where
  pub out : AmountOut (reading ws (bitmap_of n) Err (list_answer y bs)) r v
  pub leaves : bs' ≡ reading ws (bitmap_of n) (λ e. bs) (list_buffer y bs)

-- `write_register` of the first n words of ws into the buffer bs: the text's length goes out
pub record Registered (ws : List ℕ) (n : ℕ) (bs : List ℕ) (r : ℕ) (bs' : List ℕ) (v : ℕ) : Type 0 where
  pub out : AmountOut (reading ws (bitmap_of n) Err (register_answer bs)) r v
  pub leaves : bs' ≡ reading ws (bitmap_of n) (λ e. bs) (register_buffer bs)

-- a reading in edition e of a sheet, from the first n words of ws, into the store res: record and count go out
pub record Read (e : ℕ) (sheet ws : List ℕ) (n : ℕ) (res : List ℕ) (r : ℕ) (res' : List ℕ) (k m : ℕ) : Type 0 where
  pub out : ReadingOut (read_answer (course e sheet ws (bitmap_of n) res)) r k m
  pub leaves : res' ≡ read_store (course e sheet ws (bitmap_of n) res) res

-- a writer's call that came to l: the sheet's length goes in and out
pub record Written (l : Left) (n r : ℕ) (buf' : List ℕ) (n' : ℕ) : Type 0 where
  pub out : AddedOut l.answer n r n'
  pub leaves : buf' ≡ l.buffer
