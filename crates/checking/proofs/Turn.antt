-- Where the loop over the steps of a plan stands at each turn. Assumes nothing.
use Rattle.std.specs.Prelude.{Result, Ok, Err}
use mathlib.Core.Path.{◌≡◌, sym}
use mathlib.Core.Bool.{Bool, cond, ◌||◌}
use mathlib.Core.List.{List}
use Prim.Native.Nat.{ℕ, ◌+◌, ◌-◌, ◌*◌, ◌/◌, ◌<◌, ◌≤◌}
use native.Mathlib.Omega.{arith}
use lib.Dec.{eqb}
use lib.ListN.{length, drop}
use mir.Val.{bool_byte}
use Rattle.rules.specs.Limits.{step_bytes, value_bytes}
use Rattle.rules.specs.declared.Accepted.{Accepted}
use Rattle.rules.specs.declared.Refusal.{Refusal}
use Rattle.chains.specs.Steps.{Step, subtracting, read_step, steps_of}
use Rattle.chains.specs.Values.{start}
use Rattle.chains.proofs.Largest.{bits_after, bits_start}
use Rattle.records.specs.Recording.{Recording}
use Rattle.step_values.specs.Verdicts.{StepChecked}
use Rattle.work_space.specs.Bits.{IsGrown}
use Rattle.work_space.specs.End.{EndsAt}
use Rattle.chains.specs.Counts.{counts}
use Rattle.rules.specs.declared.Refusal.TheVariants.{WrongEnd}
use Rattle.checking.specs.Check.{accepted_of}
use Rattle.checking.proofs.Underway.{Underway, Done, underway_none, underway_counted, underway_next, underway_stop, underway_end, underway_few, underway_bits, underway_largest}
use Rattle.checking.proofs.Tally.{Holding, counts_to, holding_none, holding_few, holding_more, holding_all}

-- n steps are behind: they are counted, the bits are those of their values, and checking is underway in what was lent, whose record 0 was filled first
pub record Turn (plan first here : List ℕ) (n doublings not-additions bits : ℕ) : Type 0 where
  pub held : Holding (counts_to plan n) doublings not-additions
  pub largest : bits ≡ bits_after (steps_of plan) n
  pub underway : (lent : List ℕ) → Recording lent first start → Underway plan lent here n

pub turn_none : (plan first : List ℕ) → Turn plan first first 0 0 0 1
turn_none plan first = record {
  held = holding_none plan;
  largest = sym (bits_start (steps_of plan));
  underway = λ lent w. underway_none plan lent first w;
}

module _ (number plan first here lent : List ℕ) (n doublings not-additions bits : ℕ) (t : Turn plan first here n doublings not-additions bits) (begun : Recording lent first start) where
  -- the bits before a step
  pub turn_few : bits ≤ 8 * value_bytes
  turn_few = omega (arith, t.largest, underway_few plan lent here n (t.underway lent begun))

  -- a step, which is refused or passes
  module _ (h : n < length plan / step_bytes) (s : Step) (read : s ≡ read_step (drop (step_bytes * n) plan)) (r : Result Bool Refusal) (next : List ℕ) (checked : StepChecked s n here next r) where
    pub turn_refused : {x : Refusal} → r ≡ Err x → Done number plan lent next (Err x)
    turn_refused e = underway_stop plan lent here n (t.underway lent begun) h s read r next checked number e

    module _ {d : Bool} (e : r ≡ Ok d) where
      turn_held : Holding (counts_to plan (n + 1)) (doublings + bool_byte d) (not-additions + bool_byte (d || eqb s.operation subtracting))
      turn_held =
          let known = underway_counted plan lent here n (t.underway lent begun) h s read r next checked e in
          holding_more plan n doublings not-additions t.held s d h read known.0 known.1

      pub turn_counted : (doublings + bool_byte d ≤ n + 1) × (not-additions + bool_byte (d || eqb s.operation subtracting) ≤ n + 1)
      turn_counted = let few = holding_few plan (n + 1) _ _ turn_held (omega arith) in (omega (arith, few.0, few.1), few.1)

      pub turn_more : (more : ℕ) → IsGrown (n + 1) bits next more → Turn plan first next (n + 1) (doublings + bool_byte d) (not-additions + bool_byte (d || eqb s.operation subtracting)) more
      turn_more more grown =
          let on : (lent : List ℕ) → Recording lent first start → Underway plan lent next (n + 1) =
          λ lent w. underway_next plan lent here n (t.underway lent w) h s read r next checked e in
          record {
            held = turn_held;
            largest = underway_bits plan lent next n bits more (on lent begun) h t.largest grown;
            underway = on;
          }

  -- after the last
  module _ (e : n ≡ length plan / step_bytes) where
    pub turn_few_counts : (doublings ≤ not-additions) × (not-additions ≤ length plan / step_bytes)
    turn_few_counts = rw (← e) (holding_few plan n doublings not-additions t.held (omega arith))

    pub turn_done : {b : Bool} → EndsAt number (length plan / step_bytes) here b → Done number plan lent here (cond b (Ok tt) (Err (WrongEnd (length plan / step_bytes))))
    turn_done {b} end = rw e at (underway_end plan lent here n (t.underway lent begun) number e {t = b} (rw e end))

    pub turn_accepted : ◌≡◌ {A = Accepted} (record { counts = counts doublings (length plan / step_bytes - not-additions) (not-additions - doublings); largest_bits = bits }) (accepted_of (steps_of plan))
    turn_accepted =
        let all = rw e at (holding_all plan n doublings not-additions t.held e) in
        let largest = underway_largest plan n bits e t.largest in
        λ i. record { counts = all i; largest_bits = largest i }
