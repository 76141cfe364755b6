-- Checking the steps of a plan one after the other. Assumes nothing.
use Rattle.std.specs.Prelude.{Result, Ok, Err}
use mathlib.Core.Path.{◌≡◌, refl, sym, ◌∙◌}
use mathlib.Core.Bool.{Bool, cond}
use mathlib.Core.List.{List}
use Prim.Native.Nat.{ℕ, suc, ◌+◌, ◌*◌, ◌/◌, ◌<◌, ◌≤◌}
use native.Mathlib.Numerals.{add-one}
use native.Mathlib.Omega.{arith}
use lib.ListN.{length, drop, length-take}
use Rattle.rules.specs.Limits.{step_bytes, value_bytes}
use Rattle.rules.specs.Outcome.{and_then}
use Rattle.rules.specs.declared.Refusal.{Refusal}
use Rattle.rules.specs.declared.Refusal.TheVariants.{WrongEnd}
use Rattle.chains.specs.Steps.{Step, subtracting, read_step, steps_of}
use Rattle.chains.specs.Values.{start, step_value, values_of}
use Rattle.chains.specs.Sound.{step_at}
use Rattle.chains.specs.Counts.{is_doubling}
use Rattle.chains.specs.Largest.{largest_bits}
use Rattle.chains.proofs.Counts.{doubling_after}
use Rattle.chains.proofs.Largest.{largest_bits_lem, bits_after, bits_next, bits_all}
use Rattle.chains.proofs.Values.{values_after, length_values, length_after, after_none, after_all, after_more}
use Rattle.chains.proofs.Bytes.{length_steps, step_at_lem}
use Rattle.step_values.specs.Verdicts.{step_verdict, step_answer, grown, StepChecked}
use Rattle.records.specs.Recording.{Recording}
use Rattle.work_space.specs.Bits.{IsGrown}
use Rattle.work_space.specs.End.{EndsAt}
use Rattle.check_admission.specs.Admission.{admission}
use Rattle.checking.specs.Check.{judge, judged, steps_verdict, accepted_of, check_answer, check_space}
use Rattle.checking.proofs.Judge.{step_formed, judge_next, judge_stop, judge_end}

-- n steps are behind: judging goes on from there, and the values by then are recorded
pub record Underway (plan lent here : List ℕ) (n : ℕ) : Type 0 where
  pub rest : judge start (steps_of plan) ≡ judge (values_after (steps_of plan) n) (drop n (steps_of plan))
  pub recording : Recording lent here (values_after (steps_of plan) n)

pub underway_none : (plan lent here : List ℕ) → Recording lent here start → Underway plan lent here 0
underway_none plan lent here w = record { rest = rw (after_none (steps_of plan)); recording = rw (after_none (steps_of plan)) w }

-- the verdict on all steps and their end, and the values recorded by then
pub record Done (number plan lent here : List ℕ) (v : Result Unit Refusal) : Type 0 where
  pub verdict : steps_verdict number plan ≡ v
  pub recording : Recording lent here (judged plan).values

module _ {number plan lent here : List ℕ} {v : Result Unit Refusal} (passed : admission number (length plan) (length lent) ≡ Ok tt) (d : Done number plan lent here v) where
  pub done_answer : and_then v (Ok (accepted_of (steps_of plan))) ≡ check_answer number plan (length lent)
  done_answer = rw (passed, d.verdict)

  pub done_space : here ≡ check_space number plan lent
  done_space = rw passed d.recording.bytes

-- what the answer to a step says of its verdict
passes : (v : Result Unit Refusal) {b d : Bool} → Ok d ≡ and_then v (Ok b) → (v ≡ Ok tt) × (d ≡ b)
passes (Ok _) e = (refl, cc)
passes (Err r) e = absurd cc

fails : (v : Result Unit Refusal) (b : Bool) {r : Refusal} → Err r ≡ and_then v (Ok b) → v ≡ Err r
fails (Ok _) b e = absurd cc
fails (Err r) b e = cc

module _ (plan lent here : List ℕ) (n : ℕ) (u : Underway plan lent here n) where
  -- the step at hand
  module _ (h : n < length plan / step_bytes) (s : Step) (read : s ≡ read_step (drop (step_bytes * n) plan)) (r : Result Bool Refusal) (next : List ℕ) (checked : StepChecked s n here next r) where
    within : n < length (steps_of plan)
    within = rw (length_steps plan) h

    tested : (r ≡ step_answer (values_after (steps_of plan) n) (step_at (steps_of plan) n))
        × Recording lent next (grown (step_verdict (values_after (steps_of plan) n) (step_at (steps_of plan) n)) (values_after (steps_of plan) n) (step_value (values_after (steps_of plan) n) (step_at (steps_of plan) n)))
    tested =
        let same : s ≡ step_at (steps_of plan) n = read ∙ sym (step_at_lem plan n h) in
        rw same at (checked lent (values_after (steps_of plan) n) (rw add-one (length_after (steps_of plan) n (omega (arith, within)))) u.recording)

    module _ {d : Bool} (e : r ≡ Ok d) where
      ok : (step_verdict (values_after (steps_of plan) n) (step_at (steps_of plan) n) ≡ Ok tt) × (d ≡ is_doubling (values_after (steps_of plan) n) (step_at (steps_of plan) n))
      ok = passes _ (sym e ∙ tested.0)

      -- it passes: its operation is known, and the values of the whole plan tell whether it is a doubling
      pub underway_counted : (s.operation ≤ subtracting) × (d ≡ is_doubling (values_of (steps_of plan)) s)
      underway_counted =
          let formed = step_formed (steps_of plan) n within ok.0 in
          let same : s ≡ step_at (steps_of plan) n = read ∙ sym (step_at_lem plan n h) in
          rw same (formed.operation, ok.1 ∙ doubling_after (steps_of plan) n (step_at (steps_of plan) n) formed.first formed.second)

      pub underway_next : Underway plan lent next (n + 1)
      underway_next =
          rw add-one
          (record {
            rest = u.rest ∙ judge_next (steps_of plan) n within ok.0;
            recording = rw (after_more (steps_of plan) n within) (rw ok.0 at tested.1);
          })

    -- it does not
    pub underway_stop : (number : List ℕ) {x : Refusal} → r ≡ Err x → Done number plan lent next (Err x)
    unfolding steps_verdict judged
    underway_stop number {x} e =
        let failed : step_verdict (values_after (steps_of plan) n) (step_at (steps_of plan) n) ≡ Err x = fails _ _ (sym e ∙ tested.0) in
        let stop = u.rest ∙ judge_stop (steps_of plan) n within failed in
        record { verdict = rw stop; recording = rw stop (rw failed at tested.1) }

  -- after the last
  pub underway_end : (number : List ℕ) → n ≡ length plan / step_bytes → {t : Bool} → EndsAt number n here t → Done number plan lent here (cond t (Ok tt) (Err (WrongEnd n)))
  unfolding steps_verdict judged
  underway_end number e end =
      let f : n ≡ length (steps_of plan) = e ∙ sym (length_steps plan) in
      let all : Recording lent here (values_of (steps_of plan)) = rw (← after_all (steps_of plan), ← f) u.recording in
      let none : judge start (steps_of plan) ≡ record { verdict = (Ok tt); values = values_of (steps_of plan) } = u.rest ∙ rw f (judge_end (steps_of plan)) in
      record {
        verdict = rw (none, f, rw f at (end lent (values_of (steps_of plan)) (rw add-one (rw f (length_values (steps_of plan)))) all));
        recording = rw none all;
      }

-- no size has more bits than a value may
pub underway_few : (plan lent here : List ℕ) (n : ℕ) → Underway plan lent here n → bits_after (steps_of plan) n ≤ 8 * value_bytes
underway_few plan lent here n u =
    let some : 0 < length (values_after (steps_of plan) n) = omega (arith, length-take (suc n) (values_of (steps_of plan)), length_values (steps_of plan)) in
    (largest_bits_lem (values_after (steps_of plan) n) (8 * value_bytes) some).1 (λ i h. (u.recording.representable i h).small)

-- once the next size is recorded, its bit just above the largest before it is added
pub underway_bits : (plan lent here : List ℕ) (n bits more : ℕ) → Underway plan lent here (n + 1) → n < length plan / step_bytes → bits ≡ bits_after (steps_of plan) n
    → IsGrown (n + 1) bits here more → more ≡ bits_after (steps_of plan) (n + 1)
underway_bits plan lent here n bits more u h e is =
    let within : n < length (steps_of plan) = rw (length_steps plan) h in
    let known = is lent (values_after (steps_of plan) (n + 1)) (omega (arith, length_after (steps_of plan) (n + 1) (omega arith))) u.recording in
    rw (known, e, add-one) (sym (bits_next (steps_of plan) n within))

-- once all are, these are the bits of the largest size of the plan
pub underway_largest : (plan : List ℕ) (n bits : ℕ) → n ≡ length plan / step_bytes → bits ≡ bits_after (steps_of plan) n → bits ≡ largest_bits (steps_of plan)
underway_largest plan n bits e b = let f : n ≡ length (steps_of plan) = e ∙ sym (length_steps plan) in b ∙ rw f (bits_all (steps_of plan))
