-- `method_modified_naf::counts` meets its contract. Assumes nothing.
use mathlib.Core.Path.{◌≡◌, ap, ◌∙◌}
use mathlib.Core.List.{List}
use Prim.Native.Nat.{ℕ, ◌+◌, ◌≤◌}
use native.Mathlib.Omega.{arith}
use lib.IntN.{pos}
use lib.ListN.{length}
use Rattle.integers.specs.Positional.{bytes_value}
use Rattle.rules.specs.Limits.{plan_steps}
use Rattle.rules.specs.declared.Counts.{Counts}
use Rattle.signed_digits.specs.Naf.{canonical}
use Rattle.signed_digits.specs.Modified.{saved}
use Rattle.signed_digits.proofs.Left.{some_digits}
use Rattle.signed_digits.proofs.Modified.{saved_at_most}
use Rattle.chains.specs.Counts.{counts, counts_of, total}
use Rattle.chains.proofs.Counts.{length_counted}
use Rattle.methods.specs.NonAdjacentForm.{naf_steps}
use Rattle.methods.specs.ModifiedNaf.{modified_naf_steps}
use Rattle.methods.proofs.Laws.{Plannable, plannable}
use Rattle.methods.proofs.NonAdjacentForm.{naf_counts, naf_few}
use Rattle.methods.proofs.ModifiedNaf.{modified_counts_by_naf}
use Rattle.method_modified_naf.proofs.counts.Goals.{After-counts-plain, After-saved-fewer}
use Rattle.method_modified_naf.proofs.counts.Goals as goal

-- method 4's counts of a number above zero, and what the modified form changes in them
module _ (c : After-counts-plain) where
  abbrev number : List ℕ
  number = c.args.number.now

  abbrev e : ℕ
  e = bytes_value number

  possible : Plannable e
  possible = plannable number c.words.ensures.small c.words.ensures.positive

  plain : c.counts-plain.result ≡ counts_of (naf_steps e)
  plain = c.counts-plain.ensures

  few : total (counts_of (naf_steps e)) ≤ plan_steps
  few = rw (← length_counted (naf_steps e)) (naf_few e possible)

  -- a doubling for each digit but one
  digits : (counts_of (naf_steps e)).doublings + 1 ≡ length (canonical (pos e))
  digits = omega (arith, ap (λ (c : Counts). c.doublings) (naf_counts e possible.some), some_digits 2 (omega arith) e possible.some)

  changes : ((counts_of (modified_naf_steps e)).doublings + saved e ≡ (counts_of (naf_steps e)).doublings) × ((counts_of (modified_naf_steps e)).additions ≡ (counts_of (naf_steps e)).additions + saved e) × ((counts_of (modified_naf_steps e)).subtractions + saved e ≡ (counts_of (naf_steps e)).subtractions)
  changes = modified_counts_by_naf e possible.some

-- the digits saved
fewer : (c : After-saved-fewer) → c.saved-fewer.result ≡ saved (bytes_value c.args.number.now)
fewer c =
    let made : c.new-tripled.result ≡ bytes_value c.args.number.now = c.new-tripled.ensures ∙ c.words.ensures.value in
    (rw made at c.saved-fewer.ensures) (ap (λ (c : Counts). c.doublings + 1) (plain (goal.at.After-saved-fewer c).After-counts-plain) ∙ digits (goal.at.After-saved-fewer c).After-counts-plain)

same : (c : Counts) {d a s : ℕ} → d ≡ c.doublings → a ≡ c.additions → s ≡ c.subtractions → counts d a s ≡ c
same c p q r = rw (p, q, r)

pub overflow_add-plain : goal.overflow_add-plain
overflow_add-plain c =
    omega (arith, few (goal.at.overflow_add-plain c).After-counts-plain, ap (λ (c : Counts). c.doublings) (plain (goal.at.overflow_add-plain c).After-counts-plain))

pub overflow_sub-doublings : goal.overflow_sub-doublings
overflow_sub-doublings c =
    omega (arith, fewer (goal.at.overflow_sub-doublings c).After-saved-fewer, changes (goal.at.overflow_sub-doublings c).After-counts-plain, ap (λ (c : Counts). c.doublings) (plain (goal.at.overflow_sub-doublings c).After-counts-plain))

pub overflow_add-additions : goal.overflow_add-additions
overflow_add-additions c =
    omega (arith, fewer (goal.at.overflow_add-additions c).After-saved-fewer, saved_at_most (e (goal.at.overflow_add-additions c).After-counts-plain), few (goal.at.overflow_add-additions c).After-counts-plain, ap (λ (c : Counts). c.additions) (plain (goal.at.overflow_add-additions c).After-counts-plain))

pub overflow_sub-subtractions : goal.overflow_sub-subtractions
overflow_sub-subtractions c =
    omega (arith, fewer (goal.at.overflow_sub-subtractions c).After-saved-fewer, changes (goal.at.overflow_sub-subtractions c).After-counts-plain, ap (λ (c : Counts). c.subtractions) (plain (goal.at.overflow_sub-subtractions c).After-counts-plain))

pub returns : goal.returns
returns c =
    let p = plain (goal.at.returns c).After-counts-plain in
    let few = fewer (goal.at.returns c).After-saved-fewer in
    let change = changes (goal.at.returns c).After-counts-plain in
    same (counts_of (modified_naf_steps (e (goal.at.returns c).After-counts-plain))) (omega (arith, ap (λ (c : Counts). c.doublings) p)) (omega (arith, ap (λ (c : Counts). c.additions) p)) (omega (arith, ap (λ (c : Counts). c.subtractions) p))
