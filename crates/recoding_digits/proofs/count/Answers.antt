-- `recoding_digits::count` meets its contract. Assumes nothing.
use mathlib.Core.Path.{◌≡◌, sym, ap, ◌∙◌}
use mathlib.Core.List.{◌∷◌, ◌++◌, []}
use Prim.Native.Nat.{ℕ, ◌+◌, ◌*◌, ◌-◌, ◌≤◌}
use native.Mathlib.Omega.{arith}
use lib.Count.{count_leading_zeros}
use lib.IntN.{pos}
use lib.ListN.{length}
use Rattle.integers.specs.Positional.{bytes_value}
use Rattle.integers.proofs.Positional.{zero_if_empty}
use Rattle.signed_digits.specs.Naf.{canonical}
use Rattle.recoding_digits.proofs.Triple.{carry_small}
use Rattle.recoding_digits.proofs.TopByte.{highest_fits, count_by_highest, count_zero}
use Rattle.recoding_digits.proofs.count.Goals.{After-carry_above}
use Rattle.recoding_digits.proofs.count.Goals as goal

module _ (c : After-carry_above) where
  parts : c.args.number.now ≡ c.in-Some.low.now ++ (c.in-Some.highest.now ∷ [])
  parts = sym c.bytes-bytes.ensures.value ∙ c.in-Some.ensures.cases.0

  -- the count is right, and the subtraction in it does not wrap
  counted :
      let top : ℕ = 3 * c.from.result + c.carry_above.result in
      (count_leading_zeros 64 top ≤ 62) × (8 * length c.in-Some.low.now + (63 - count_leading_zeros 64 top) ≡ length (canonical (pos (bytes_value c.args.number.now))))
  counted =
      let top : ℕ = 3 * c.from.result + c.carry_above.result in
      count_by_highest c.args.number.now c.in-Some.low.now c.in-Some.highest.now parts c.bytes-bytes.ensures.small c.bytes-bytes.ensures.admitted.top top (rw (c.from.ensures, c.carry_above.ensures))

pub returns-in_default : goal.returns-in_default
returns-in_default c =
    let e : length c.args.number.now ≡ 0 = ap length (sym c.bytes-bytes.ensures.value) ∙ c.in_default.ensures.cases in
    sym (count_zero c.args.number.now (zero_if_empty c.args.number.now e))

pub overflow_add-top : goal.overflow_add-top
overflow_add-top c =
    let low = c.in-Some.low.now in
    let p = sym c.bytes-bytes.ensures.value ∙ c.in-Some.ensures.cases.0 in
    let fits = highest_fits c.args.number.now low c.in-Some.highest.now p c.bytes-bytes.ensures.small c.bytes-bytes.ensures.admitted.top in
    omega (arith, fits, carry_small (bytes_value low) (length low), c.from.ensures, c.carry_above.ensures)

pub overflow_sub-result : goal.overflow_sub-result
overflow_sub-result c = omega (arith, (counted (goal.at.overflow_sub-result c).After-carry_above).0)

pub returns : goal.returns
returns c = (counted (goal.at.returns c).After-carry_above).1
