-- A plan that a loop writes: what is written so far, and that what is to come will give the rest. Assumes nothing.
use mathlib.Core.Path.{◌≡◌, refl, ap, ◌∙◌}
use mathlib.Core.List.{List, ◌++◌}
use Prim.Native.Nat.{ℕ, suc, ◌-◌, ◌<◌, ◌≤◌}
use native.Mathlib.Omega.{arith}
use lib.ListN.{length, drop}
use Rattle.chains.specs.Steps.{Step, plan_bytes_of}
use Rattle.chains.proofs.Bytes.{length_plan}
use Rattle.methods.specs.PartialPlan.{PartialPlan, none, down_from}
use Rattle.methods.proofs.Laws.{down_grows}
use Rattle.plan_writing.specs.declared.Cursor.{Cursor}
use Rattle.plan_writing.specs.Writing.{Writing}

pub record Unfinished (lent here : List ℕ) (c : Cursor) (to-come : PartialPlan → PartialPlan) (all : List Step) : Type 0 where
  pub partial : PartialPlan
  pub writing : Writing lent here c partial
  pub rest : (to-come partial).steps ≡ all

-- nothing is to come
pub finished : {lent here : List ℕ} {c : Cursor} {all : List Step} → Unfinished lent here c (λ b. b) all → here ≡ plan_bytes_of all ++ drop (length (plan_bytes_of all)) lent
finished {all = all} u = u.writing.bytes ∙ rw (u.rest, length_plan all)

-- ---- from a place down

-- the places below i are to come
abbrev pub Underway : List ℕ → List ℕ → Cursor → (ℕ → PartialPlan → PartialPlan) → ℕ → List Step → Type 0
Underway lent here c f i all = Unfinished lent here c (down_from f i) all

-- nothing is written yet
pub nothing_written : (lent : List ℕ) (c : Cursor) → c.steps ≡ 0 → c.latest ≡ 0 → Writing lent lent c none
unfolding plan_bytes_of
nothing_written lent c s l = record { steps = s; latest = l; bytes = refl }

module _ (lent here : List ℕ) (c : Cursor) (f : ℕ → PartialPlan → PartialPlan) (all : List Step) where
  -- place i above zero is the one above i - 1
  pub down_one : (i : ℕ) → 0 < i → Underway lent here c f i all → Underway lent here c f (suc (i - 1)) all
  down_one i h u = let e : suc (i - 1) ≡ i = omega arith in rw e u

  -- one place down
  pub underway_next : (next : List ℕ) (d : Cursor) (i : ℕ) → (u : Underway lent here c f (suc i) all) → Writing lent next d (f i u.partial) → Underway lent next d f i all
  unfolding down_from
  underway_next next d i u w = record { partial = f i u.partial; writing = w; rest = u.rest }

  -- the steps of the next place are among all
  pub underway_room : (i : ℕ) → ((i : ℕ) (b : PartialPlan) → length b.steps ≤ length (f i b).steps) → (u : Underway lent here c f (suc i) all) → length (f i u.partial).steps ≤ length all
  unfolding down_from
  underway_room i more u = omega (arith, down_grows f i (f i u.partial) more, ap length u.rest)

  -- all is written
  pub underway_end : Underway lent here c f 0 all → here ≡ plan_bytes_of all ++ drop (length (plan_bytes_of all)) lent
  unfolding down_from
  underway_end u = finished u
