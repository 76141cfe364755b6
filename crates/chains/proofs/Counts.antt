-- Counts of a plan: each step is counted once; without hidden doublings positions give the same counts, and otherwise values move steps to the doublings
-- only. Assumes nothing.
use mathlib.Core.Path.{◌≡◌, refl, sym, ap, ◌∙◌}
use mathlib.Core.Logic.{◌↔◌, ◌≢◌, ◌⊎◌, inl, inr}
use mathlib.Core.Bool.{Bool, true, false, ◌&&◌, cond, false≢true}
use mathlib.Core.List.{List, [], ◌∷◌, ◌++◌}
use Prim.Native.Nat.{ℕ, suc, ◌+◌, ◌<◌}
use borrow.Author.Tests.{eqb-true, eqb-false, eq-eqb, ne_eqb}
use native.Mathlib.Nat.{zero-add, add_assoc}
use native.Mathlib.Omega.{arith}
use lib.Dec.{eqb}
use lib.IntN.{ℤ, pos, neg_ℤ}
use lib.ListN.{length}
use lib.Seq.{get_or-take}
use Rattle.rules.specs.declared.Counts.{Counts}
use Rattle.integers.specs.Signed.{is_same}
use Rattle.integers.proofs.Signed.{same_true, same_false, same_is}
use Rattle.chains.specs.Steps.{Step, adding, add, subtract}
use Rattle.chains.specs.Values.{at, step_value, extend, values_of}
use Rattle.chains.specs.Sound.{step_at}
use Rattle.chains.proofs.Values.{values_after}
use Rattle.chains.specs.Counts.{counts, is_doubling, one_step, step_counts, plus, total, sum_counts, counts_of, HidesNone, NoHiddenDoubling}

-- ---- what a doubling is

-- equal values are added, or opposite ones subtracted
abbrev pub Doubles : List ℤ → Step → Type 0
Doubles values s =
    ((s.operation ≡ adding) × (at values s.first ≡ at values s.second))
    ⊎ ((s.operation ≢ adding) × (at values s.first ≡ neg_ℤ (at values s.second)))

pub doubling_is : (values : List ℤ) (s : Step) → is_doubling values s ≡ true ↔ Doubles values s
unfolding is_doubling
doubling_is values s = (λ e. to (eqb s.operation adding) refl e, from)
  where
    to : (adds : Bool) → eqb s.operation adding ≡ adds
        → cond adds (is_same (at values s.first) (at values s.second)) (is_same (at values s.first) (neg_ℤ (at values s.second))) ≡ true → Doubles values s
    to true a e = inl (eqb-true _ _ a, (same_is _ _).0 e)
    to false a e = inr (eqb-false _ _ a, (same_is _ _).0 e)

    from : Doubles values s → is_doubling values s ≡ true
    from (inl d) = rw (eq-eqb s.operation adding d.0) (same_true _ _ d.1)
    from (inr d) = rw (ne_eqb s.operation adding d.0) (same_true _ _ d.1)

-- 1, 2, 2, 4, and 1, 2, -1, 2
pub hidden_sum : counts_of (add 0 0 ∷ add 0 0 ∷ add 1 2 ∷ []) ≡ counts 3 0 0
unfolding counts_of sum_counts is_doubling values_of extend step_value
hidden_sum = refl

pub hidden_difference : counts_of (add 0 0 ∷ subtract 0 1 ∷ subtract 0 2 ∷ []) ≡ counts 2 0 1
unfolding counts_of sum_counts is_doubling values_of extend step_value
hidden_difference = refl

-- ---- all steps

pub sum_append : (f : Step → Counts) (xs ys : List Step) → sum_counts f (xs ++ ys) ≡ plus (sum_counts f xs) (sum_counts f ys)
unfolding sum_counts
sum_append f [] ys = simp zero-add
sum_append f (s ∷ xs) ys = rw (sum_append f xs ys) (simp add_assoc)

pub one_total : (d : Bool) (s : Step) → total (one_step d s) ≡ 1
one_total d s = go d (eqb s.operation adding)
  where
    go : (d adds : Bool) → total (cond d (counts 1 0 0) (cond adds (counts 0 1 0) (counts 0 0 1))) ≡ 1
    go true adds = refl
    go false true = refl
    go false false = refl

-- each step is counted once, whichever are doublings
pub sum_total : (d : Step → Bool) (steps : List Step) → total (sum_counts (λ s. one_step (d s) s) steps) ≡ length steps
unfolding sum_counts
sum_total d [] = refl
sum_total d (s ∷ steps) = omega (arith, one_total (d s) s, sum_total d steps)

pub length_counted : (steps : List Step) → length steps ≡ total (counts_of steps)
unfolding counts_of
length_counted steps = sym (sum_total (is_doubling (values_of steps)) steps)

-- the values of the positions below its own tell whether a step is a doubling
pub doubling_after : (steps : List Step) (n : ℕ) (s : Step) → s.first < suc n → s.second < suc n → is_doubling (values_after steps n) s ≡ is_doubling (values_of steps) s
unfolding is_doubling
doubling_after steps n s j k = rw (get_or-take (suc n) (values_of steps) s.first (pos 0) j, get_or-take (suc n) (values_of steps) s.second (pos 0) k)

-- ---- by positions, as document 01 counted: an add step that names one position twice is a doubling

abbrev pub names_twice : Step → Bool
names_twice s = eqb s.operation adding && eqb s.first s.second

unfoldable pub position_counts : List Step → Counts
position_counts steps = sum_counts (λ s. one_step (names_twice s) s) steps

pub positions_append : (xs ys : List Step) → position_counts (xs ++ ys) ≡ plus (position_counts xs) (position_counts ys)
unfolding position_counts
positions_append xs ys = sum_append (λ s. one_step (names_twice s) s) xs ys

pub positions_counted : (steps : List Step) → length steps ≡ total (position_counts steps)
unfolding position_counts
positions_counted steps = sym (sum_total names_twice steps)

pub same_total : (steps : List Step) → total (counts_of steps) ≡ total (position_counts steps)
same_total steps = sym (length_counted steps) ∙ positions_counted steps

-- one position has one value
twice_doubles : (values : List ℤ) (s : Step) → names_twice s ≡ true → is_doubling values s ≡ true
unfolding is_doubling
twice_doubles values s e = go (eqb s.operation adding) refl (eqb s.first s.second) refl e
  where
    go : (a : Bool) → eqb s.operation adding ≡ a → (p : Bool) → eqb s.first s.second ≡ p → a && p ≡ true → is_doubling values s ≡ true
    go true a true p e = rw a (same_true _ _ (ap (at values) (eqb-true _ _ p)))
    go true a false p e = cc
    go false a p q e = cc

-- with some additions and some subtractions moved to the doublings
pub record Moved (before after : Counts) : Type 0 where
  pub from_additions : ℕ
  pub from_subtractions : ℕ
  pub doublings : after.doublings ≡ before.doublings + from_additions + from_subtractions
  pub additions : before.additions ≡ after.additions + from_additions
  pub subtractions : before.subtractions ≡ after.subtractions + from_subtractions

moved_one : (values : List ℤ) (s : Step) → Moved (one_step (names_twice s) s) (step_counts values s)
moved_one values s = go (names_twice s) refl (is_doubling values s) refl (eqb s.operation adding)
  where
    go : (p : Bool) → names_twice s ≡ p → (d : Bool) → is_doubling values s ≡ d → (adds : Bool)
        → Moved (cond p (counts 1 0 0) (cond adds (counts 0 1 0) (counts 0 0 1))) (cond d (counts 1 0 0) (cond adds (counts 0 1 0) (counts 0 0 1)))
    go true p true d adds = record { from_additions = 0; from_subtractions = 0; doublings = refl; additions = refl; subtractions = refl }
    go true p false d adds = absurd (false≢true (sym d ∙ twice_doubles values s p))
    go false p true d true = record { from_additions = 1; from_subtractions = 0; doublings = refl; additions = refl; subtractions = refl }
    go false p true d false = record { from_additions = 0; from_subtractions = 1; doublings = refl; additions = refl; subtractions = refl }
    go false p false d true = record { from_additions = 0; from_subtractions = 0; doublings = refl; additions = refl; subtractions = refl }
    go false p false d false = record { from_additions = 0; from_subtractions = 0; doublings = refl; additions = refl; subtractions = refl }

moved_all : (values : List ℤ) (steps : List Step) → Moved (sum_counts (λ s. one_step (names_twice s) s) steps) (sum_counts (step_counts values) steps)
unfolding sum_counts
moved_all values [] = record { from_additions = 0; from_subtractions = 0; doublings = refl; additions = refl; subtractions = refl }
moved_all values (s ∷ steps) =
    let one = moved_one values s in
    let more = moved_all values steps in
    record {
      from_additions = one.from_additions + more.from_additions;
      from_subtractions = one.from_subtractions + more.from_subtractions;
      doublings = omega (arith, one.doublings, more.doublings);
      additions = omega (arith, one.additions, more.additions);
      subtractions = omega (arith, one.subtractions, more.subtractions);
    }

pub moved : (steps : List Step) → Moved (position_counts steps) (counts_of steps)
unfolding position_counts counts_of
moved steps = moved_all (values_of steps) steps

-- ---- without hidden doublings

one_same : (values : List ℤ) (s : Step) → HidesNone values s → is_doubling values s ≡ names_twice s
unfolding is_doubling
one_same values s h = go (eqb s.operation adding) refl (eqb s.first s.second) refl
  where
    go : (a : Bool) → eqb s.operation adding ≡ a → (p : Bool) → eqb s.first s.second ≡ p → is_doubling values s ≡ names_twice s
    go true a true p = rw (a, p) (same_true _ _ (ap (at values) (eqb-true _ _ p)))
    go true a false p = rw (a, p) (same_false _ _ (h.sums (eqb-true _ _ a) (eqb-false _ _ p)))
    go false a p q = rw a (same_false _ _ (h.differences (eqb-false _ _ a)))

all_same : (values : List ℤ) (steps : List Step) → ((n : ℕ) → n < length steps → HidesNone values (step_at steps n))
    → sum_counts (step_counts values) steps ≡ sum_counts (λ s. one_step (names_twice s) s) steps
unfolding sum_counts
all_same values [] h = refl
all_same values (s ∷ steps) h = rw (one_same values s (h 0 (omega arith)), all_same values steps (λ n l. h (suc n) (omega arith)))

pub unhidden_counts : (steps : List Step) → NoHiddenDoubling steps → counts_of steps ≡ position_counts steps
unfolding counts_of position_counts
unhidden_counts steps h = all_same (values_of steps) steps h
