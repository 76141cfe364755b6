-- `naf_tally::only_in` meets its contract. Assumes nothing.
use mathlib.Core.Path.{refl}
use Prim.Native.Nat.{ℕ, ◌-◌, ◌^◌, ◌<◌, ◌≤◌}
use native.Mathlib.Omega.{arith}
use lib.Bits.{bit_and}
use lib.Count.{ones, ones-le}
use Rattle.naf_tally.specs.Tally.{only_in}
use Rattle.naf_tally.proofs.only_in.Goals as goal

-- a word has at most 64 ones
few : (a b : ℕ) → a < 2 ^ 64 → ones (a - bit_and a b) ≤ 64
few a b h = ones-le 64 (a - bit_and a b) (omega arith)

pub returns : goal.returns
unfolding only_in
returns c = (refl, few c.args.a c.args.b (omega arith))
