-- What a guard that lets pass, and an answer that is read, say of the words in use: the bounds of `&words[..n]`. For `using` lists.
use Rattle.std.proofs.Common.{◌≡◌, ◌≤◌, List, ℕ, length, take, sym, ◌∙◌, Ok, Err, length-take-le}
use Rattle.std.specs.Prelude.{⊤, Result}
use Rattle.word.proofs.Cases.{zero_one}
use Rattle.storage.specs.Refusals.{Guard, passing, refusing}
use Rattle.storage.specs.Stores.{Bits, store_limit, checked, reading}
use Rattle.storage.specs.Guards.{Passed}
use Rattle.storage.specs.declared.Bitmap.{Bitmap}
use Rattle.storage.specs.declared.Refusal.{Refusal}
use Rattle.storage.proofs.Checks.{passed, told}

pub inside : (ws : List ℕ) (b : Bitmap) (r : Guard) (u : ⊤) → r ≡ checked ws b (refusing b) passing → r ≡ Ok u → b.count ≤ length ws
inside ws b r u p q = (passed ws b (sym q ∙ p)).inside

pub short : (ws : List ℕ) (b : Bitmap) (r : Guard) (u : ⊤) → r ≡ checked ws b (refusing b) passing → r ≡ Ok u → length ws ≤ store_limit
short ws b r u p q = (passed ws b (sym q ∙ p)).short

-- an answer that is read tells it too
module _ {A : Type 0} (ws : List ℕ) (b : Bitmap) (f : Bits → Result A Refusal) (r : Result A Refusal) (a : A) where
  read : r ≡ reading ws b Err f → r ≡ Ok a → Passed ws b
  read p q = (told ws b Err f (Ok a) (λ e s. zero_one cc) (sym q ∙ p)).0

  pub read_inside : r ≡ reading ws b Err f → r ≡ Ok a → b.count ≤ length ws
  read_inside p q = (read p q).inside

  pub read_short : r ≡ reading ws b Err f → r ≡ Ok a → length ws ≤ store_limit
  read_short p q = (read p q).short

-- the words in use are as many as their count says
pub taken : (n : ℕ) (ws : List ℕ) → n ≤ length ws → length (take n ws) ≡ n
taken n ws h = length-take-le n ws h

pub ruleset part_of_store = (inside, short, read_inside, read_short, taken)
