-- `modified_digits::shape_of` meets its contract. Assumes nothing.
use mathlib.Core.Path.{◌≡◌}
use Prim.Native.Nat.{ℕ}
use native.Mathlib.Omega.{arith}
use Rattle.integers.specs.Positional.{bytes_value}
use Rattle.signed_digits.specs.Modified.{saved}
use Rattle.signed_digits.proofs.Modified.{modified_size, saved_at_most}
use Rattle.modified_digits.proofs.Form.{saved_fits}
use Rattle.modified_digits.proofs.shape_of.Goals.{After-saved-fewer}
use Rattle.modified_digits.proofs.shape_of.Goals as goal

module _ (c : After-saved-fewer) where
  abbrev e : ℕ
  e = bytes_value c.args.number.now

  fewer : c.saved-fewer.result ≡ saved e
  fewer = c.saved-fewer.ensures e c.requires c.count-plain.ensures

pub overflow_sub-length : goal.overflow_sub-length
overflow_sub-length c = omega (arith, fewer (goal.at.overflow_sub-length c).After-saved-fewer, c.count-plain.ensures, saved_fits (e (goal.at.overflow_sub-length c).After-saved-fewer))

pub overflow_mul-kept : goal.overflow_mul-kept
overflow_mul-kept c = omega (arith, fewer (goal.at.overflow_mul-kept c).After-saved-fewer, saved_at_most (e (goal.at.overflow_mul-kept c).After-saved-fewer))

pub overflow_sub-kept : goal.overflow_sub-kept
overflow_sub-kept c = omega (arith, fewer (goal.at.overflow_sub-kept c).After-saved-fewer, c.count-plain.ensures, saved_fits (e (goal.at.overflow_sub-kept c).After-saved-fewer))

pub returns : goal.returns
returns c =
    let plain = c.count-plain.ensures in
    record { digits = omega (arith, fewer (goal.at.returns c).After-saved-fewer, plain, modified_size (e (goal.at.returns c).After-saved-fewer)); canonical_digits = omega (arith, fewer (goal.at.returns c).After-saved-fewer, plain) }
