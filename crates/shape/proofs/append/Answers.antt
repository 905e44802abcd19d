-- The guard of both stores, then 6, then the other's words in use stand behind the first's, and the counts are added.
use Rattle.shape.proofs.Sizes.{append-refused, append-changes}
use Rattle.storage.proofs.Stores.{two_raised}
use Rattle.storage.specs.Guards.{PassedTwo}
use Rattle.storage.proofs.Checks.{passed_two}
use native.Mathlib.Omega.{arith}
use lib.Seq.{length-take-le}
use Rattle.word.proofs.Sweep.{part_long}
use mathlib.Core.Path.{refl, sym, ◌∙◌}
use Rattle.shape.proofs.append.Goals.{In_ok-check_two}
use Rattle.shape.proofs.append.Goals as goal

-- where the guard lets pass
passes : (c : In_ok-check_two) → PassedTwo c.args.words.now c.args.b c.args.other.now c.args.o
passes c = passed_two _ _ _ _ (sym c.in_ok-check_two.was ∙ c.check_two.ensures)

pub returns-in_err-check_two : goal.returns-in_err-check_two
returns-in_err-check_two c = two_raised _ _ _ _ _ c.from_residual.ensures (sym c.in_err-check_two.was ∙ c.check_two.ensures)

pub overflow_add-n : goal.overflow_add-n
overflow_add-n c =
    let ok = passes (goal.at.overflow_add-n c).In_ok-check_two in
    omega (arith, ok.own, ok.other)

pub returns-then-n-m : goal.returns-then-n-m
returns-then-n-m c =
    let ok = passes (goal.at.returns-then-n-m c).In_ok-check_two in
    append-refused _ _ _ _ (search arith)
    (search arith) ok.own ok.other
    c.if-n-m.true

pub slice_bounds-copy_from_slice-end-2 : goal.slice_bounds-copy_from_slice-end-2
slice_bounds-copy_from_slice-end-2 c =
    let ok = passes (goal.at.slice_bounds-copy_from_slice-end-2 c).In_ok-check_two in
    sym (length-take-le _ _ ok.other.inside)

pub copy_from_slice-requires : goal.copy_from_slice-requires
copy_from_slice-requires c =
    let ok = passes (goal.at.copy_from_slice-requires c).In_ok-check_two in
    part_long _ _ _ c.if-n-m.false ∙ omega arith ∙ sym (length-take-le _ _ ok.other.inside)

pub returns : goal.returns
returns c =
    let ok = passes (goal.at.returns c).In_ok-check_two in
    append-changes _ _ _ _ (search arith) (search arith) ok.own ok.other _ _ c.if-n-m.false c.copy_from_slice.ensures.after refl
