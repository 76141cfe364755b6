-- Counting the steps of a plan one after the other. Assumes nothing.
use mathlib.Core.Path.{◌≡◌, refl, sym, ap, ◌∙◌}
use mathlib.Core.Bool.{Bool, true, false, ◌||◌}
use mathlib.Core.List.{List, [], ◌∷◌}
use Prim.Native.Nat.{ℕ, zero, suc, ◌+◌, ◌-◌, ◌*◌, ◌/◌, ◌<◌, ◌≤◌}
use native.Mathlib.Numerals.{add-one}
use native.Mathlib.Omega.{arith}
use lib.Dec.{eqb}
use lib.ListN.{length, take, drop}
use lib.Seq.{length-take-le, take_all, take-suc}
use mir.Val.{bool_byte}
use Rattle.rules.specs.Limits.{step_bytes}
use Rattle.rules.specs.declared.Counts.{Counts}
use Rattle.chains.specs.Steps.{Step, subtracting, add, read_step, steps_of}
use Rattle.chains.specs.Values.{values_of}
use Rattle.chains.specs.Sound.{step_at}
use Rattle.chains.specs.Counts.{counts, is_doubling, one_step, step_counts, plus, total, sum_counts, counts_of}
use Rattle.chains.proofs.Counts.{sum_append, sum_total}
use Rattle.chains.proofs.Bytes.{length_steps, step_at_lem}

-- what two numbers hold of the counts: the doublings, and all steps but the additions
pub record Holding (c : Counts) (doublings not-additions : ℕ) : Type 0 where
  pub doubled : doublings ≡ c.doublings
  pub all : not-additions ≡ c.doublings + c.subtractions

module _ (plan : List ℕ) where
  -- the counts of the first n steps
  abbrev pub counts_to : ℕ → Counts
  counts_to n = sum_counts (step_counts (values_of (steps_of plan))) (take n (steps_of plan))

  pub holding_none : Holding (counts_to 0) 0 0
  unfolding sum_counts
  holding_none = record { doubled = refl; all = refl }

  module _ (n : ℕ) (doublings not-additions : ℕ) (h : Holding (counts_to n) doublings not-additions) where
    -- no more than there are steps
    pub holding_few : n ≤ length plan / step_bytes → (doublings ≤ not-additions) × (not-additions ≤ n)
    holding_few l =
        let long : length (take n (steps_of plan)) ≡ n = length-take-le n (steps_of plan) (rw (length_steps plan) l) in
        let all = sum_total (is_doubling (values_of (steps_of plan))) (take n (steps_of plan)) in
        (omega (arith, h.doubled, h.all), omega (arith, h.all))

    -- one step more
    pub holding_more : (s : Step) (d : Bool) → n < length plan / step_bytes → s ≡ read_step (drop (step_bytes * n) plan) → s.operation ≤ subtracting → d ≡ is_doubling (values_of (steps_of plan)) s
        → Holding (counts_to (n + 1)) (doublings + bool_byte d) (not-additions + bool_byte (d || eqb s.operation subtracting))
    unfolding sum_counts
    holding_more s d l read known e =
        let same : step_at (steps_of plan) n ≡ s = step_at_lem plan n l ∙ sym read in
        let more : counts_to (n + 1) ≡ plus (counts_to n) (plus (one_step d s) (counts 0 0 0)) =
        rw (add-one, take-suc (steps_of plan) n (add 0 0) (rw (length_steps plan) l), sum_append (step_counts (values_of (steps_of plan))) (take n (steps_of plan)) (step_at (steps_of plan) n ∷ []), same, e) in
        let one = one_held s d known in
        rw more (record { doubled = omega (arith, h.doubled, one.0); all = omega (arith, h.all, one.1) })
      where
        one_held : (s : Step) (d : Bool) → s.operation ≤ subtracting → (bool_byte d ≡ (one_step d s).doublings) × (bool_byte (d || eqb s.operation subtracting) ≡ (one_step d s).doublings + (one_step d s).subtractions)
        one_held s d known = go s.operation known d
          where
            go : (o : ℕ) → o ≤ subtracting → (d : Bool)
                → (bool_byte d ≡ (one_step d (record { operation = o; first = 0; second = 0 })).doublings)
                × (bool_byte (d || eqb o subtracting) ≡ (one_step d (record { operation = o; first = 0; second = 0 })).doublings + (one_step d (record { operation = o; first = 0; second = 0 })).subtractions)
            go zero h true = (refl, refl)
            go zero h false = (refl, refl)
            go (suc zero) h true = (refl, refl)
            go (suc zero) h false = (refl, refl)
            go (suc (suc o)) h d = absurd (omega arith)

    -- after the last, the additions are what is left
    pub holding_all : n ≡ length plan / step_bytes → counts doublings (n - not-additions) (not-additions - doublings) ≡ counts_of (steps_of plan)
    unfolding counts_of
    holding_all e =
        let f : n ≡ length (steps_of plan) = e ∙ sym (length_steps plan) in
        let whole : counts_to n ≡ counts_of (steps_of plan) = ap (sum_counts (step_counts (values_of (steps_of plan)))) (take_all n (steps_of plan) (omega arith)) in
        let all : total (counts_of (steps_of plan)) ≡ n = sum_total (is_doubling (values_of (steps_of plan))) (steps_of plan) ∙ sym f in
        let c : Counts = counts_of (steps_of plan) in
        let d : doublings ≡ c.doublings = h.doubled ∙ ap (λ (c : Counts). c.doublings) whole in
        let r : not-additions ≡ c.doublings + c.subtractions = h.all ∙ ap (λ (c : Counts). c.doublings + c.subtractions) whole in
        let a : n - not-additions ≡ c.additions = omega arith in
        let s : not-additions - doublings ≡ c.subtractions = omega arith in
        λ i. record { doublings = d i; additions = a i; subtractions = s i }
