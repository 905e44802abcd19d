-- 6 in a buffer under four bytes, else the letters N and S and two zeros at its front, and the length 4.
use mathlib.Core.Path.{sym, subst}
use mathlib.Core.List.{List}
use Prim.Native.Nat.{ℕ}
use native.Mathlib.Omega.{arith}
use Rattle.std.specs.Prelude.{Ok}
use Rattle.plain.specs.Writer.{Starts}
use Rattle.writer.proofs.Answers.{starts_small, starts}
use Rattle.writer.proofs.start.Goals as goal

pub returns-then-buffer-lt4 : goal.returns-then-buffer-lt4
returns-then-buffer-lt4 c = starts_small _ (omega arith)

pub copy-requires : goal.copy-requires
copy-requires c = omega arith

pub returns : goal.returns
returns c = subst (λ (b : List ℕ). Starts c.args.buffer.now (Ok 4) b) (sym c.copy.ensures) (starts _ (omega arith))
