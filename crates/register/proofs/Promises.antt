-- The promises of specs/Promises.
use mathlib.Core.Path.{◌≡◌, sym, ap, ◌∙◌, subst}
use mathlib.Core.List.{List}
use Prim.Native.Nat.{ℕ, ◌+◌, ◌-◌, ◌*◌, ◌≤◌}
use lib.ListN.{length}
use Rattle.word.proofs.Cases.{by_lt}
use native.Mathlib.Omega.{arith}
use Rattle.word.specs.Sets.{count_below}
use Rattle.word.proofs.Sets.{counts}
use Rattle.storage.specs.Stores.{Bits, Bounded, held}
use Rattle.storage.proofs.Views.{bounded_view}
use Rattle.print.proofs.Promises.{prints_runs}
use Rattle.print.proofs.Fitting.{put-or_short, guarded_print}
use Rattle.register.specs.Register.{register_of, register_answer, register_buffer}
use Rattle.register.specs.Pages.{IsRegister, Entry, Taken, Say, Sums}
use Rattle.register.specs.Promises.{OneRegister, TakenOff, ReadsOff, EnoughPages, WriteRegisterMeans}
use Rattle.register.proofs.Next.{small}
use Rattle.register.proofs.Forms.{rows_same}
use Rattle.scans.specs.Promises.{AllCounted}
use Rattle.register.proofs.Pages.{register_is, register_only}
use Rattle.register.proofs.Taken.{entries_of, say_is, say_only, all_only, all-taken, sums, sums-most}

pub one_register : OneRegister
one_register b bound h t = (register_only b bound t, λ e. subst (IsRegister b) (sym e) (register_is b bound h))

module _ (b : Bits) (bound : Bounded b) (t : List ℕ) (x : IsRegister b t) where
  -- so many members are counted, by the count that the definitions have
  below : (m : ℕ) → AllCounted b m → count_below b.members 0 + m ≡ count_below b.members (64 * b.count)
  below m c = omega (arith, (c (64 * b.count) (omega arith)).all (count_below b.members) (counts b.members), (counts b.members).none)

  runs-sum : (m : ℕ) → AllCounted b m → Sums (entries_of x.runs) m
  runs-sum m c = sums b.members (64 * b.count) 0 x.runs m bound.past (omega arith) x.maximal (below m c)

  taken_off : TakenOff b t x.pages
  taken_off = record {
    runs = λ es. (
      λ k. (x.runs, x.maximal, subst (λ (es : List Entry). Say es x.runs) (sym (all_only b t x k)) (say_is x.maximal)),
      λ y.
          let same : y.0 ≡ x.runs = (prints_runs b bound).only y.0 y.1 ∙ sym ((prints_runs b bound).only x.runs x.maximal) in
          subst (Taken t (50 * x.pages)) (sym (say_only y.2 ∙ ap entries_of same)) (all-taken b t x),
    );
    sum = λ es k p n m y h r.
        let c : AllCounted b m = subst (AllCounted b) (sym (rows_same r (x.foot k h)).2) x.counted in
        (subst (λ (es : List Entry). Sums es m) (sym (all_only b t x y)) (runs-sum m c), c);
  }

pub reads_off : ReadsOff
reads_off b bound t pages x e = let p : x.pages ≡ pages = omega (arith, x.bytes) in subst (TakenOff b t) p (taken_off b bound t x)

pub enough_pages : EnoughPages
enough_pages b bound t m x c =
    let n : length x.runs ≤ m = sums-most x.maximal (runs-sum b bound t x m c) in
    by_lt 1 x.pages
    (λ h. omega (arith, x.bytes, n, x.paged.full (x.pages - 1) (omega arith) (omega arith)))
    (λ h. omega (arith, x.bytes))

pub write_register_means : WriteRegisterMeans
write_register_means ws b out r out' p =
    guarded_print ws b out (register_answer out) (register_buffer out) r out' p.answers p.leaves
    (λ q a l. put-or_short (register_of (held ws b)) out r out' a l (IsRegister (held ws b)) (register_is (held ws b) (bounded_view ws b.count) (small q)))
