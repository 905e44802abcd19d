-- What the header says of a call, from its contract in Calls: what it returns, hands out and leaves. Proved in proofs/Promises.
use Rattle.std.specs.Prelude.{ℕ, ◌<◌, ◌≡◌, Bool, true, false, List, Err}
use Rattle.storage.specs.Refusals.{answer_number, found_flag, found_value, amount_value, truth_value}
use Rattle.storage.specs.Stores.{Bits, Bounded, Space, Op, view, beside, reading, reading_both, bitmap_of}
use Rattle.storage.specs.Promises.{Guarded, GuardedBoth, HandsNone, FindsNone, Meets, Kept, EndsAs, CallEnds, BesideEnds}
use Rattle.combine.specs.Combine.{beside_both}
use Rattle.shapes.specs.Promises.{SplitMeans}
use Rattle.style.specs.declared.Style.{Style}
use Rattle.print.specs.Promises.{PrintsText}
use Rattle.register.specs.Promises.{PrintsRegister}
use Rattle.plain.specs.Writer.{duty, remark, started, added, requested}
use Rattle.sheet.specs.Promises.{ReadingMeans}
use Rattle.plain.specs.Promises.{StartMeans, AddMeans}
use Rattle.sheet.specs.declared.Fields.{Fields}
use Rattle.answers.specs.Answers.{FoundOut, AmountOut, TruthOut, ReadingOut, AddedOut}
use Rattle.calls.specs.Calls.{truth, style_of, Changed, SplitOff, Printed, Registered, Read, Written}
use Rattle.storage.specs.Refusals.{Found, Amount, Truth}
use Rattle.sheet.specs.Reads.{Reading}

-- a changing call keeps what its operation promises: by itself, with a second bitmap, with two
pub record ChangesMean : Type 1 where
  pub alone : (op : Op) (rule : Space → Bits → Bits → Type 0) (why : Space → Bits → ℕ → Type 0) → Meets op rule why
      → (ws ws' : List ℕ) (n r n' : ℕ) → Changed op ws n r ws' n' → CallEnds rule why ws (bitmap_of n) r n' ws'
  pub with-one : (op : Bits → Op) (rule : Bits → Space → Bits → Bits → Type 0) (why : Bits → Space → Bits → ℕ → Type 0)
      → ((o : Bits) → Bounded o → Meets (op o) (rule o) (why o)) → (os ws ws' : List ℕ) (m n r n' : ℕ)
      → Changed (beside os (bitmap_of m) op) ws n r ws' n' → BesideEnds rule why os (bitmap_of m) ws (bitmap_of n) r n' ws'
  pub with_two : (op : Bits → Bits → Op) (rule : Bits → Bits → Space → Bits → Bits → Type 0) (why : Bits → Bits → Space → Bits → ℕ → Type 0)
      → ((x y : Bits) → Bounded x → Bounded y → Meets (op x y) (rule x y) (why x y))
      → (xs ys ws ws' : List ℕ) (k m n r n' : ℕ) → Changed (beside_both xs (bitmap_of k) ys (bitmap_of m) op) ws n r ws' n'
      → let x = view xs k in
      let y = view ys m in
      Guarded ws (bitmap_of n) (Kept n ws r n' ws')
      (GuardedBoth xs (bitmap_of k) ys (bitmap_of m) (Kept n ws r n' ws') (EndsAs (rule x y) (why x y) (view ws n) ws r n' ws'))

-- a reading call hands out what is promised of its answer by number, flag and value, of one bitmap or of two
pub record ReadingsOut : Type 1 where
  pub found : (rule : Bits → ℕ → ℕ → ℕ → Type 0) (g : Bits → Found)
      → ((b : Bits) → Bounded b → rule b (answer_number (g b)) (found_flag (g b)) (found_value (g b)))
      → (ws : List ℕ) (n r f v : ℕ) → FoundOut (reading ws (bitmap_of n) Err g) r f v → Guarded ws (bitmap_of n) (FindsNone r f v) (rule (view ws n) r f v)
  pub amount : (rule : Bits → ℕ → ℕ → Type 0) (g : Bits → Amount) → ((b : Bits) → Bounded b → rule b (answer_number (g b)) (amount_value (g b)))
      → (ws : List ℕ) (n r v : ℕ) → AmountOut (reading ws (bitmap_of n) Err g) r v → Guarded ws (bitmap_of n) (HandsNone r v) (rule (view ws n) r v)
  pub truth : (rule : Bits → ℕ → ℕ → Type 0) (g : Bits → Truth) → ((b : Bits) → Bounded b → rule b (answer_number (g b)) (truth_value (g b)))
      → (ws : List ℕ) (n r v : ℕ) → TruthOut (reading ws (bitmap_of n) Err g) r v → Guarded ws (bitmap_of n) (HandsNone r v) (rule (view ws n) r v)
  pub found-both : (rule : Bits → Bits → ℕ → ℕ → ℕ → Type 0) (g : Bits → Bits → Found)
      → ((b o : Bits) → Bounded b → Bounded o → rule b o (answer_number (g b o)) (found_flag (g b o)) (found_value (g b o)))
      → (ws os : List ℕ) (n m r f v : ℕ) → FoundOut (reading_both ws (bitmap_of n) os (bitmap_of m) Err g) r f v
      → GuardedBoth ws (bitmap_of n) os (bitmap_of m) (FindsNone r f v) (rule (view ws n) (view os m) r f v)
  pub amount-both : (rule : Bits → Bits → ℕ → ℕ → Type 0) (g : Bits → Bits → Amount)
      → ((b o : Bits) → Bounded b → Bounded o → rule b o (answer_number (g b o)) (amount_value (g b o)))
      → (ws os : List ℕ) (n m r v : ℕ) → AmountOut (reading_both ws (bitmap_of n) os (bitmap_of m) Err g) r v
      → GuardedBoth ws (bitmap_of n) os (bitmap_of m) (HandsNone r v) (rule (view ws n) (view os m) r v)
  pub truth-both : (rule : Bits → Bits → ℕ → ℕ → Type 0) (g : Bits → Bits → Truth)
      → ((b o : Bits) → Bounded b → Bounded o → rule b o (answer_number (g b o)) (truth_value (g b o)))
      → (ws os : List ℕ) (n m r v : ℕ) → TruthOut (reading_both ws (bitmap_of n) os (bitmap_of m) Err g) r v
      → GuardedBoth ws (bitmap_of n) os (bitmap_of m) (HandsNone r v) (rule (view ws n) (view os m) r v)

-- the other calls: `split_off`, `write_list`, `write_register`, and those of the sheet
pub record OthersMean : Type 0 where
  pub split : (at : ℕ) (ws ts ws' ts' : List ℕ) (n r n' t : ℕ) → SplitOff at ws n ts r ws' n' ts' t → SplitMeans at ws (bitmap_of n) ts r n' t ws' ts'
  pub print : (y : Style) (ws bs bs' : List ℕ) (n r v : ℕ) → Printed y ws n bs r bs' v → PrintsText y ws (bitmap_of n) bs r v bs'
  pub register : (ws bs bs' : List ℕ) (n r v : ℕ) → Registered ws n bs r bs' v → PrintsRegister ws (bitmap_of n) bs r v bs'
  pub read : (e : ℕ) (sheet ws res res' : List ℕ) (n r k m : ℕ) → Read e sheet ws n res r res' k m
      → (a : Reading) × ReadingOut a r k m × ReadingMeans e sheet ws (bitmap_of n) res a res'
  pub start : (bs bs' : List ℕ) (n r n' : ℕ) → Written (started bs) n r bs' n' → (a : Amount) × AddedOut a n r n' × StartMeans bs a bs'
  pub add_duty : (bs bs' payload : List ℕ) (f : Fields) (n kind r n' : ℕ) → Written (added bs n (requested true kind f payload)) n r bs' n'
      → (a : Amount) × AddedOut a n r n' × AddMeans bs n (duty kind f) a bs'
  pub add_remark : (bs bs' payload : List ℕ) (f : Fields) (n kind r n' : ℕ) → Written (added bs n (requested false kind f payload)) n r bs' n'
      → (a : Amount) × AddedOut a n r n' × AddMeans bs n (remark kind payload) a bs'

-- a truth value that comes in: 0 is false, any other is true
pub record TruthIn : Type 0 where
  pub zero : truth 0 ≡ false
  pub other : (v : ℕ) → 0 < v → truth v ≡ true

-- a style that comes in: number by number, in the order of the call
pub record StyleIn : Type 0 where
  pub first : (f j b k : ℕ) → (style_of f j b k).first ≡ f
  pub joiner : (f j b k : ℕ) → (style_of f j b k).joiner ≡ j
  pub tight : (f j k : ℕ) → (style_of f j 0 k).blank ≡ false
  pub spaced : (f j b k : ℕ) → 0 < b → (style_of f j b k).blank ≡ true
  pub shortest : (f j b k : ℕ) → (style_of f j b k).shortest ≡ k

-- a refused call changes no word, no byte, no count and no length, whatever it works on. Only `read` differs
pub record RefusedChangesNothing : Type 0 where
  pub change : (op : Op) (ws ws' : List ℕ) (n r n' : ℕ) → Changed op ws n r ws' n' → 0 < r → (n' ≡ n) × (ws' ≡ ws)
  pub split : (at : ℕ) (ws ts ws' ts' : List ℕ) (n r n' t : ℕ) → SplitOff at ws n ts r ws' n' ts' t → 0 < r → (n' ≡ n) × (ws' ≡ ws) × (ts' ≡ ts)
  pub print : (y : Style) (ws bs bs' : List ℕ) (n r v : ℕ) → Printed y ws n bs r bs' v → 0 < r → bs' ≡ bs
  pub register : (ws bs bs' : List ℕ) (n r v : ℕ) → Registered ws n bs r bs' v → 0 < r → bs' ≡ bs
  pub start : (bs bs' : List ℕ) (n r n' : ℕ) → Written (started bs) n r bs' n' → 0 < r → (n' ≡ n) × (bs' ≡ bs)
  pub add : (bs bs' payload : List ℕ) (d : Bool) (f : Fields) (n kind r n' : ℕ) → Written (added bs n (requested d kind f payload)) n r bs' n' → 0 < r
      → (n' ≡ n) × (bs' ≡ bs)
