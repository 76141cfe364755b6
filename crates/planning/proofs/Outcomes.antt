-- How many steps a granted request has, for the proof of plan. Assumes nothing.
use Rattle.std.specs.Prelude.{Ok}
use mathlib.Core.Path.{◌≡◌}
use mathlib.Core.List.{List}
use Prim.Native.Nat.{ℕ, ◌≤◌}
use Rattle.rules.specs.Limits.{plan_steps}
use Rattle.integers.specs.Positional.{bytes_value}
use Rattle.integers.proofs.Positional.{Below}
use Rattle.chains.specs.Counts.{counts_of, total}
use Rattle.methods.specs.declared.Method.{Method}
use Rattle.methods.specs.Method.{steps_by}
use Rattle.chains.proofs.Counts.{length_counted}
use Rattle.methods.proofs.Laws.{plannable}
use Rattle.methods.proofs.Every.{every_fit}
use Rattle.requests.specs.Request.{request}
use Rattle.requests.proofs.Requests.{granted_allowed}

-- the steps of a granted request are counted within the limit
pub counted_few : (number : List ℕ) (method width : ℕ) → Below 256 number → {m : Method} → request number method width ≡ Ok m
    → total (counts_of (steps_by m (bytes_value number))) ≤ plan_steps
counted_few number method width b {m} e =
    let g = granted_allowed number method width e in
    rw (← length_counted (steps_by m (bytes_value number))) (every_fit m (bytes_value number) g.1 (plannable number b g.0)).few
