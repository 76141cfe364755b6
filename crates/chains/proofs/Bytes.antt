-- Plans as bytes and as steps: reading undoes writing, and each step stands at its own place. Assumes nothing.
use mathlib.Core.Path.{◌≡◌, refl, ap, ◌∙◌}
use mathlib.Core.List.{List, [], ◌∷◌, ◌++◌}
use Prim.Native.Nat.{ℕ, zero, suc, ◌+◌, ◌*◌, ◌/◌, ◌%◌, ◌^◌, ◌<◌}
use native.Mathlib.Omega.{arith}
use lib.ListN.{length, drop, length-append}
use lib.Seq.{drop_at, drop-drop}
use Rattle.rules.specs.Limits.{step_bytes}
use Rattle.integers.specs.Positional.{positional}
use Rattle.chains.specs.Steps.{Step, read_step, read_steps, steps_of, step_bytes_of, plan_bytes_of}
use Rattle.chains.specs.Sound.{step_at}

-- ---- how many

length_step : (s : Step) → length (step_bytes_of s) ≡ step_bytes
unfolding step_bytes_of
length_step s = refl

pub length_plan : (steps : List Step) → length (plan_bytes_of steps) ≡ step_bytes * length steps
unfolding plan_bytes_of
length_plan [] = refl
length_plan (s ∷ steps) = rw length-append (omega (arith, length_step s, length_plan steps))

length_read : (r : ℕ) (bytes : List ℕ) → length (read_steps r bytes) ≡ r
unfolding read_steps
length_read zero bytes = refl
length_read (suc r) bytes = ap suc (length_read r (drop step_bytes bytes))

pub length_steps : (plan : List ℕ) → length (steps_of plan) ≡ length plan / step_bytes
unfolding steps_of
length_steps plan = length_read (length plan / step_bytes) plan

-- ---- each step at its own place

read_at : (r : ℕ) (bytes : List ℕ) (n : ℕ) → n < r → step_at (read_steps r bytes) n ≡ read_step (drop (step_bytes * n) bytes)
unfolding read_steps
read_at zero bytes n h = absurd (omega arith)
read_at (suc r) bytes zero h = refl
read_at (suc r) bytes (suc n) h =
    let e : step_bytes * suc n ≡ step_bytes + step_bytes * n = omega arith in
    read_at r (drop step_bytes bytes) n (omega arith) ∙ ap read_step (rw (e, drop-drop (step_bytes * n) step_bytes bytes))

pub step_at_lem : (plan : List ℕ) (n : ℕ) → n < length plan / step_bytes → step_at (steps_of plan) n ≡ read_step (drop (step_bytes * n) plan)
unfolding steps_of
step_at_lem plan n h = read_at (length plan / step_bytes) plan n h

-- ---- reading undoes writing, where two bytes hold each position

pub record Placed (s : Step) : Type 0 where
  pub first : s.first < 256 ^ 2
  pub second : s.second < 256 ^ 2

read_step_lem : (s : Step) (tail : List ℕ) → Placed s → read_step (step_bytes_of s ++ tail) ≡ s
unfolding read_step step_bytes_of positional
read_step_lem s tail p =
    let two : (v : ℕ) → v < 256 ^ 2 → v % 256 + 256 * (v / 256 % 256 + 256 * 0) ≡ v = λ v h. omega arith in
    λ i. record { operation = s.operation; first = two s.first p.first i; second = two s.second p.second i }

read_written : (steps : List Step) → ((n : ℕ) → n < length steps → Placed (step_at steps n)) → read_steps (length steps) (plan_bytes_of steps) ≡ steps
unfolding read_steps plan_bytes_of
read_written [] p = refl
read_written (s ∷ steps) p =
    rw (read_step_lem s (plan_bytes_of steps) (p 0 (omega arith)), drop_at (step_bytes_of s) (plan_bytes_of steps) step_bytes (length_step s), read_written steps (λ n h. p (suc n) (omega arith)))

pub steps_of_plan : (steps : List Step) → ((n : ℕ) → n < length steps → Placed (step_at steps n)) → steps_of (plan_bytes_of steps) ≡ steps
unfolding steps_of
steps_of_plan steps p =
    let r : length (plan_bytes_of steps) / step_bytes ≡ length steps = omega (arith, length_plan steps) in
    rw r (read_written steps p)
