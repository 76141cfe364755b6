-- `method_sliding_windows::later_windows` meets its contract: the windows from place i on are counted. Assumes nothing.
use mathlib.Core.Path.{◌≡◌, refl, ap, ◌∙◌}
use Rattle.std.specs.Prelude.{ℕ, Option, Some, None, is_some}
use mir.Val.{bool_byte}
use native.Mathlib.Omega.{arith}
use Rattle.methods.specs.Forecast.{later_windows}
use Rattle.method_sliding_windows.specs.Scan.{windows_in}
use borrow.Author.Rules.{rules}
use Rattle.method_sliding_windows.proofs.later_windows.Goals as goal

one_or_none : (o : Option ℕ) → bool_byte (is_some o) ≡ windows_in o
one_or_none None = refl
one_or_none (Some v) = refl

pub loop-i-preserved : goal.loop-i-preserved
loop-i-preserved c =
    let turn = c.next_window-taken.ensures in
    let added = c.from-windows.ensures ∙ ap bool_byte c.is_some.ensures ∙ one_or_none c.next_window-taken.result.value in
    (search rules, search rules, omega (arith, turn.windows, added, c.loop-i.invariant.2))

pub returns : goal.returns
unfolding later_windows
returns c =
    let z : c.loop-i.i ≡ 0 = omega arith in
    omega (arith, rw z at c.loop-i.invariant.2)
