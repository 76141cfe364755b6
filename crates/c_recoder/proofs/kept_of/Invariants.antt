-- `c_recoder::kept_of` meets its contract: after k turns the first k words stand. Assumes nothing.
use mathlib.Core.Path.{◌≡◌}
use Prim.Native.Nat.{◌+◌}
use lib.ListN.{length, take}
use Rattle.rules.specs.Limits.{number_words}
use Rattle.c_recoder.proofs.kept_of.Given as goal

abbrev pub invariant-loop-k : goal.invariant-loop-k
invariant-loop-k l = (length l.kept ≡ number_words + 1) × (take l.k l.kept ≡ take l.k l.fn.recoder.words)
