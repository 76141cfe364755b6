-- `method_fixed_windows::nonzero_windows` meets its contract: the windows below i are counted. Assumes nothing.
use mathlib.Core.Path.{◌≡◌, refl, ◌∙◌}
use mathlib.Core.Bool.{Bool, true, false, cond, not}
use mir.Val.{bool_byte}
use Prim.Native.Nat.{◌≤◌}
use native.Mathlib.Nat.{mul-le-mul_left}
use native.Mathlib.Numerals.{add-one}
use native.Mathlib.Omega.{arith}
use lib.Dec.{eqb}
use Rattle.methods.specs.Forecast.{nonzero_windows}
use borrow.Author.Rules.{rules}
use Rattle.method_fixed_windows.proofs.nonzero_windows.Goals as goal

one_or_none : (zero : Bool) → (bool_byte (not zero) ≡ cond zero 0 1) × (bool_byte (not zero) ≤ 1)
one_or_none true = (refl, omega arith)
one_or_none false = (refl, omega arith)

pub loop-i-init : goal.loop-i-init
unfolding nonzero_windows
loop-i-init c = (search rules, search rules, refl)

pub window_at-requires : goal.window_at-requires
window_at-requires c =
    let args = c.args in
    let below : c.loop-i.i ≤ args.n = omega arith in
    omega (arith, mul-le-mul_left args.width below)

pub overflow_add-total : goal.overflow_add-total
overflow_add-total c = omega (arith, c.from-total.ensures, (one_or_none (eqb c.window_at.result 0)).1)

pub loop-i-preserved : goal.loop-i-preserved
unfolding nonzero_windows
loop-i-preserved c =
    let args = c.args in
    let one = one_or_none (eqb c.window_at.result 0) in
    let added = c.from-total.ensures ∙ one.0 in
    (search rules, omega (arith, one.1, c.from-total.ensures), rw (add-one c.loop-i.i, c.loop-i.invariant.2, rw c.window_at.ensures at added))
