-- The bytes of a step where they stand in a plan. Assumes nothing.
use mathlib.Core.Path.{◌≡◌}
use mathlib.Core.List.{List, [], ◌∷◌}
use Prim.Native.Nat.{ℕ, suc, ◌+◌, ◌≤◌}
use native.Mathlib.Numerals.{add-one}
use native.Mathlib.Nat.{add-zero}
use native.Mathlib.Omega.{arith}
use lib.ListN.{length, get_or, take, drop}
use lib.Seq.{drop-cons, drop-drop, get_or-drop}
use Rattle.std.specs.Int.{w16, from_le_bytes}
use Rattle.integers.specs.Positional.{positional, bytes_value}
use Rattle.chains.specs.Steps.{read_step}

pub two_bytes : (plan : List ℕ) (at : ℕ) → at + 2 ≤ length plan → from_le_bytes w16 (get_or plan at 0 ∷ get_or plan (at + 1) 0 ∷ []) ≡ bytes_value (take 2 (drop at plan))
unfolding positional
two_bytes plan at h = rw (add-one, drop-cons plan at 0 (omega arith), drop-cons plan (suc at) 0 (omega arith)) (omega arith)

pub step_there : (plan : List ℕ) (at j k : ℕ) → j ≡ bytes_value (take 2 (drop (at + 1) plan)) → k ≡ bytes_value (take 2 (drop (at + 3) plan))
    → record { operation = get_or plan at 0; first = j; second = k } ≡ read_step (drop at plan)
unfolding read_step
step_there plan at j k first second = rw (get_or-drop at plan 0 0, add-zero, drop-drop 1 at plan, drop-drop 3 at plan, first, second)
