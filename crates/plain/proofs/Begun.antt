-- The plain sheet holds records exactly where a start was accepted: by its own answers, which are those of the calls.
use Prim.Native.Nat.{ℕ, zero, suc}
use mathlib.Core.Path.{◌≡◌, refl, sym, ap, ◌∙◌, subst}
use mathlib.Core.Bool.{Bool, true, false}
use mathlib.Core.List.{List, [], ◌∷◌, ◌++◌}
use mathlib.Core.Logic.{◌↔◌}
use mathlib.Core.Option.{none, some}
use native.Mathlib.Omega.{arith}
use lib.ListN.{length}
use lib.Dec.{ltb}
use Rattle.word.specs.Sets.{choose}
use Rattle.plain.specs.Writer.{Entry}
use Rattle.plain.specs.Plain.{asked, Plain, no_room, refusal_of, entry_of, Answered, refusing, accepting, holding, Ask, start, addition, answered, Call, answers, plain_answers, last_plain}
use Rattle.plain.specs.Promises.{Begun, here, later}
use Rattle.editions.proofs.Turns.{none_some}
use Rattle.storage.specs.Refusals.{answer_number}

abbrev Held : Plain → Type 0
Held p = (es : List Entry) × (p ≡ some es)

-- ---- one call

module _ (size : ℕ) where
  -- what is held stays held
  stays : (a : Ask) (es : List Entry) → Held (answered size a (some es)).plain
  unfolding answered
  stays start es = go (ltb size 4)
    where
      go : (t : Bool) → Held (choose t (refusing 6 (some es)) (accepting [])).plain
      go true = (es, refl)
      go false = ([], refl)
  stays (addition d kind f payload) es = go (entry_of (asked d kind f payload)) (refusal_of (asked d kind f payload))
    where
      room : (e : Entry) (t : Bool) → Held (choose t (refusing 6 (some es)) (accepting (es ++ e ∷ []))).plain
      room e true = (es, refl)
      room e false = (es ++ e ∷ [], refl)

      go : (e : Entry) (n : ℕ) → Held (holding size es e n).plain
      go e zero = room e (no_room size es e)
      go e (suc n) = (es, refl)

  -- an accepted start holds
  starts : (p : Plain) → (answered size start p).number ≡ 0 → Held (answered size start p).plain
  unfolding answered
  starts p = go (ltb size 4)
    where
      go : (t : Bool) → (choose t (refusing 6 p) (accepting [])).number ≡ 0 → Held (choose t (refusing 6 p) (accepting [])).plain
      go true q = absurd (omega arith)
      go false q = ([], refl)

  -- and nothing else makes a sheet hold that did not
  only : (a : Ask) → Held (answered size a none).plain → (a ≡ start) × ((answered size a none).number ≡ 0)
  unfolding answered
  only start h = go (ltb size 4) h
    where
      go : (t : Bool) → Held (choose t (refusing 6 none) (accepting [])).plain → (start ≡ start) × ((choose t (refusing 6 none) (accepting [])).number ≡ 0)
      go true h = absurd (none_some h.1)
      go false h = (refl, refl)
  only (addition d kind f payload) h = absurd (none_some h.1)

-- ---- lists

held_on : (cs : List Call) (es : List Entry) → Held (last_plain (some es) cs)
unfolding last_plain
held_on [] es = (es, refl)
held_on (c ∷ cs) es =
    let (fs, q) = stays (length c.buffer) c.ask es in
    subst (λ (p : Plain). Held (last_plain p cs)) (sym q) (held_on cs fs)

abbrev Same : Plain → List Call → Type 0
Same p cs = answers cs ≡ plain_answers p cs

module _ (p : Plain) (c : Call) (cs : List Call) (e : Same p (c ∷ cs)) where
  abbrev after : Answered
  after = answered (length c.buffer) c.ask p

  first_same : answer_number c.answer ≡ after.number
  unfolding answers plain_answers
  first_same = ap (λ (l : List (ℕ × ℕ)). first l) e
    where
      first : List (ℕ × ℕ) → ℕ
      first [] = 0
      first ((n, m) ∷ l) = n

  rest_same : Same after.plain cs
  unfolding answers plain_answers
  rest_same = ap (λ (l : List (ℕ × ℕ)). rest l) e
    where
      rest : List (ℕ × ℕ) → List (ℕ × ℕ)
      rest [] = []
      rest (a ∷ l) = l

to_held : (cs : List Call) (p : Plain) → Same p cs → Begun cs → Held (last_plain p cs)
unfolding last_plain
to_held [] p e x'' = elim x'' [ ]
to_held (c ∷ cs) p e (here a n) =
    let x : (answered (length c.buffer) start p).number ≡ 0 = ap (λ (b : Ask). (answered (length c.buffer) b p).number) (sym a) ∙ sym (first_same p c cs e) ∙ n in
    let (es, q) = starts (length c.buffer) p x in
    subst (λ (b : Ask). Held (last_plain (answered (length c.buffer) b p).plain cs)) (sym a)
    (subst (λ (o : Plain). Held (last_plain o cs)) (sym q) (held_on cs es))
to_held (c ∷ cs) p e (later b) = to_held cs (after p c cs e).plain (rest_same p c cs e) b

from_held : (cs : List Call) → Same none cs → Held (last_plain none cs) → Begun cs
unfolding last_plain
from_held [] e h = absurd (none_some h.1)
from_held (c ∷ cs) e h = go (λ s k. from_held cs s k) (after none c cs e).plain refl
  where
    go : (Same none cs → Held (last_plain none cs) → Begun cs) → (o : Plain) → (after none c cs e).plain ≡ o → Begun (c ∷ cs)
    go ih none q = later (ih (subst (λ (o : Plain). Same o cs) q (rest_same none c cs e)) (subst (λ (o : Plain). Held (last_plain o cs)) q h))
    go ih (some es) q = let (a, n) = only (length c.buffer) c.ask (es, q) in here a (first_same none c cs e ∙ n)

pub begun-held : (cs : List Call) → Same none cs → Begun cs ↔ Held (last_plain none cs)
begun-held cs e = (to_held cs none e, from_held cs e)
