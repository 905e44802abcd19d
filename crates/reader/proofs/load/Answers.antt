-- The result store becomes the n old words and zeros past them.
use mathlib.Core.Path.{ap}
use mathlib.Core.List.{◌++◌}
use lib.ListN.{drop}
use native.Mathlib.Omega.{arith}
use Rattle.reader.proofs.Readings.{loaded}
use Rattle.reader.proofs.load.Goals as goal

pub returns : goal.returns
returns c =
    loaded _ _ _ _ _ (λ k. omega (arith, c.type_inv.words k)) c.requires.0 c.requires.1
    (ap (λ ws. ws ++ drop c.args.n c.args.res.now) c.copy_from_slice.ensures.after)
    c.zero_words.ensures
