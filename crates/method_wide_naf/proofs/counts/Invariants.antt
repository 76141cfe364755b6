-- `method_wide_naf::counts` meets its contract: the digits below place i are counted. Assumes nothing.
use Prim.Native.Nat.{◌+◌, ◌≤◌}
use Rattle.integers.specs.Positional.{bytes_value}
use Rattle.method_wide_naf.proofs.Form.{Counted}
use Rattle.method_wide_naf.proofs.counts.Given as goal

abbrev pub invariant-loop-digit : goal.invariant-loop-digit
invariant-loop-digit l = (l.digit-index ≤ l.length) × (l.plus + l.minus ≤ l.digit-index) × Counted (bytes_value l.number) l.width l.digit-index l.plus l.minus
