-- Counts of a plan in the making, by positions, one step more. Without hidden doublings they are its counts. Assumes nothing.
use mathlib.Core.Path.{◌≡◌, refl, ◌∙◌}
use mathlib.Core.Bool.{Bool, true, false, cond}
use mathlib.Core.Logic.{◌≢◌}
use mathlib.Core.List.{List, [], ◌∷◌}
use Prim.Native.Nat.{ℕ, zero, suc, ◌+◌, ◌≤◌}
use borrow.Author.Tests.{eq-eqb, ne_eqb}
use native.Mathlib.Nat.{add-zero}
use native.Mathlib.Omega.{arith}
use lib.ListN.{length}
use Rattle.rules.specs.declared.Counts.{Counts}
use Rattle.chains.specs.Steps.{Step, add, subtract}
use Rattle.chains.specs.Counts.{counts, one_step, plus, sum_counts}
use Rattle.chains.proofs.Counts.{names_twice, position_counts, positions_append}
use Rattle.methods.specs.PartialPlan.{PartialPlan, followed, double, add_at, subtract_at, doubled}
use Rattle.methods.proofs.Laws.{latest_followed, length_followed, length_doubled, latest_doubled}

-- the counts so far
abbrev pub counts_in : PartialPlan → Counts
counts_in b = position_counts b.steps

counts_followed : (b : PartialPlan) (s : Step) → counts_in (followed b s) ≡ plus (counts_in b) (plus (one_step (names_twice s) s) (counts 0 0 0))
unfolding followed position_counts sum_counts
counts_followed b s = positions_append b.steps (s ∷ [])

module _ (b : PartialPlan) (d a s : ℕ) (so_far : counts_in b ≡ counts d a s) where
  pub counts_double : counts_in (double b) ≡ counts (d + 1) a s
  counts_double =
      counts_followed b (add b.latest b.latest) ∙ rw (so_far, eq-eqb b.latest b.latest refl) (simp add-zero)

  -- an addition names two positions
  pub counts_add : (p : ℕ) → b.latest ≢ p → counts_in (add_at p b) ≡ counts d (a + 1) s
  counts_add p n =
      counts_followed b (add b.latest p) ∙ rw (so_far, ne_eqb b.latest p n) (simp add-zero)

  pub counts_subtract : (p : ℕ) → counts_in (subtract_at p b) ≡ counts d a (s + 1)
  counts_subtract p = counts_followed b (subtract b.latest p) ∙ rw so_far (simp add-zero)

pub counts_doubled : (n : ℕ) (b : PartialPlan) (d a s : ℕ) → counts_in b ≡ counts d a s → counts_in (doubled n b) ≡ counts (d + n) a s
unfolding doubled
counts_doubled zero b d a s e = e ∙ simp add-zero
counts_doubled (suc n) b d a s e =
    let f : d + suc n ≡ d + 1 + n = omega arith in
    rw f (counts_doubled n (double b) (d + 1) a s (counts_double b d a s e))

-- a position just filled is not one that was filled before
pub not_before : (b : PartialPlan) (s : Step) (p : ℕ) → p ≤ length b.steps → (followed b s).latest ≢ p
not_before b s p h e = omega (arith, latest_followed b s, length_followed b s)

pub not_before_doubled : (n : ℕ) (b : PartialPlan) (p : ℕ) → 1 ≤ n → p ≤ length b.steps → (doubled n b).latest ≢ p
not_before_doubled n b p some h e = omega (arith, latest_doubled n b some, length_doubled n b)

-- the counts of either plan
pub counts_cond : (c : Bool) (xs ys : List Step) → position_counts (cond c xs ys) ≡ cond c (position_counts xs) (position_counts ys)
counts_cond true xs ys = refl
counts_cond false xs ys = refl
