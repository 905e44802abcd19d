-- A record at the end of the sheet, where there is room for it.
use Prim.Native.Nat.{ℕ, suc, ◌+◌, ◌-◌, ◌≤◌, ◌<◌}
use mathlib.Core.Path.{◌≡◌, refl, sym, ap, ap₂, ◌∙◌}
use mathlib.Core.Bool.{Bool, true, false, ◌||◌}
use mathlib.Core.List.{List, ◌∷◌, ◌++◌}
use native.Mathlib.Omega.{arith}
use native.Mathlib.Decide.{dec_le}
use native.Mathlib.Numerals.{add-one}
use lib.ListN.{set, length, length-append}
use lib.Seq.{sets}
use lib.Dec.{leb, ltb}
use borrow.Author.Tests.{le-leb, lt-leb, lt-ltb, le-ltb, ltb-false}
use Rattle.word.proofs.Cases.{zero_one}
use Rattle.storage.specs.declared.Refusal.TheVariants.{NoSpace}
use Rattle.sheet.specs.Bytes.{bytes}
use Rattle.editions.specs.Frames.{count_in}
use Rattle.plain.specs.Writer.{most, Entry, bytes_of, laid, Left, refuse, placed, Writes}
use Rattle.sheet.proofs.Rules.{length-bytes}
use Rattle.editions.proofs.Turns.{take-true, take-false}
use Rattle.writer.specs.Kernels.{roomless_in}
use Rattle.writer.proofs.Answers.{writes}
use Rattle.writer.proofs.Puts.{sets_append}
use Rattle.std.specs.Prelude.{Ok, Err}

module _ (buf : List ℕ) (len n : ℕ) where
  pub one_too_many : (r : ℕ) → r ≡ count_in buf → most ≤ r → true ≡ roomless_in buf len n
  unfolding roomless_in
  one_too_many r e h = ap (λ (t : Bool). t || ltb (length buf) (len + 3 + n)) (sym (le-leb most (count_in buf) (omega arith)))

  pub room-left : (r : ℕ) → r ≡ count_in buf → r < most → len ≤ length buf → ltb (length buf - len) (3 + n) ≡ roomless_in buf len n
  unfolding roomless_in
  room-left r e h l =
      same (dec_le (3 + n) (length buf - len)) ∙ ap (λ (t : Bool). t || ltb (length buf) (len + 3 + n)) (sym (lt-leb most (count_in buf) (omega arith)))
    where
      same : Dec (3 + n ≤ length buf - len) → ltb (length buf - len) (3 + n) ≡ ltb (length buf) (len + 3 + n)
      same (yes h) = le-ltb (length buf - len) (3 + n) h ∙ sym (le-ltb (length buf) (len + 3 + n) (omega arith))
      same (no h) = lt-ltb (length buf - len) (3 + n) (omega arith) ∙ sym (lt-ltb (length buf) (len + 3 + n) (omega arith))

  -- neither test of `roomless_in` holds
  pub record RoomLeft : Type 0 where
    pub few : leb most (count_in buf) ≡ false
    pub fits : len + 3 + n ≤ length buf

  pub room : (t : Bool) → t ≡ roomless_in buf len n → t ≡ false → RoomLeft
  unfolding roomless_in
  room t e f = go (leb most (count_in buf)) refl (ltb (length buf) (len + 3 + n)) refl (sym e ∙ f)
    where
      go : (x : Bool) → leb most (count_in buf) ≡ x → (y : Bool) → ltb (length buf) (len + 3 + n) ≡ y → (x || y) ≡ false → RoomLeft
      go true p y q z = zero_one cc
      go false p true q z = zero_one cc
      go false p false q z = record { few = p; fits = ltb-false (length buf) (len + 3 + n) q }

-- the count, then the record's first three bytes
pub put_head : (b b₁ b₂ : List ℕ) (len first n r : ℕ) → r ≡ count_in b → b₁ ≡ sets b 2 (bytes 2 (r + 1)) → b₂ ≡ sets (set b₁ len first) (len + 1) (bytes 2 n)
    → b₂ ≡ sets (sets b 2 (bytes 2 (count_in b + 1))) len (first ∷ bytes 2 n)
put_head b b₁ b₂ len first n r e p q =
    q ∙ ap₂ (λ (c : List ℕ) (k : ℕ). sets (set c len first) k (bytes 2 n)) (p ∙ ap (λ (m : ℕ). sets b 2 (bytes 2 (m + 1))) e) (add-one len)

-- a record is laid out as its first byte and n bytes of payload
pub record LaidAt (e : Entry) (first : ℕ) (body : List ℕ) (n : ℕ) : Type 0 where
  pub shaped : bytes_of e ≡ laid first body
  pub sized : n ≡ length body

module _ (buf : List ℕ) (len : ℕ) (e : Entry) (first : ℕ) (body : List ℕ) (n : ℕ) (a : LaidAt e first body n) where
  long : length (bytes_of e) ≡ 3 + n
  long =
      ap length a.shaped ∙ ap suc (length-append (bytes 2 (length body)) body)
      ∙ (let b = length-bytes 2 (length body) in let s = a.sized in omega arith)

  pub refused : (t : Bool) → t ≡ roomless_in buf len n → t ≡ true → Writes (placed buf len e) (Err NoSpace) buf
  unfolding placed roomless_in
  refused t p q =
      let end : len + 3 + n ≡ len + length (bytes_of e) = omega (arith, long) in
      writes _ (refuse NoSpace buf) (take-true _ _ (ap (λ (k : ℕ). leb most (count_in buf) || ltb (length buf) k) (sym end) ∙ sym p ∙ q))

  pub done : (b₁ b₂ : List ℕ) → RoomLeft buf len n → b₁ ≡ sets (sets buf 2 (bytes 2 (count_in buf + 1))) len (first ∷ bytes 2 n) → b₂ ≡ sets b₁ (len + 3) body
      → Writes (placed buf len e) (Ok (len + 3 + n)) b₂
  unfolding placed
  done b₁ b₂ r p q =
      let few = r.few in
      let room = r.fits in
      let end : len + length (bytes_of e) ≡ len + 3 + n = omega (arith, long) in
      let none : leb most (count_in buf) || ltb (length buf) (len + length (bytes_of e)) ≡ false = rw few (le-ltb (length buf) (len + length (bytes_of e)) (omega arith)) in
      let l : placed buf len e ≡ record { answer = Ok (len + length (bytes_of e)); buffer = sets base len (bytes_of e) } = take-false _ _ none in
      record { answers = ap Ok (sym end) ∙ ap (λ (x : Left). x.answer) (sym l); leaves = stored ∙ ap (λ (x : Left). x.buffer) (sym l) }
    where
      base : List ℕ
      base = sets buf 2 (bytes 2 (count_in buf + 1))

      head : List ℕ
      head = first ∷ bytes 2 n

      three : 3 ≡ length head
      three = ap suc (sym (length-bytes 2 n))

      stored : b₂ ≡ sets base len (bytes_of e)
      stored =
          q ∙ ap₂ (λ (c : List ℕ) (k : ℕ). sets c (len + k) body) p three ∙ sym (sets_append head body base len)
          ∙ ap (λ (m : ℕ). sets base len (first ∷ bytes 2 m ++ body)) a.sized
          ∙ ap (sets base len) (sym a.shaped)
