-- One step more in the buffer. Assumes nothing.
use mathlib.Core.Path.{◌≡◌, sym, ap, ◌∙◌}
use mathlib.Core.List.{List, [], ◌∷◌, ◌++◌, append_assoc, append-nil}
use Prim.Native.Nat.{ℕ, suc, ◌+◌, ◌*◌, ◌≤◌}
use native.Mathlib.Omega.{arith}
use lib.ListN.{length, set, take, drop, length-append}
use lib.Seq.{sets-eq, take_at, drop_at, drop-drop}
use Rattle.rules.specs.Limits.{step_bytes}
use Rattle.chains.specs.Steps.{Step, step_bytes_of, plan_bytes_of}
use Rattle.chains.proofs.Bytes.{length_plan}
use Rattle.methods.specs.PartialPlan.{PartialPlan, followed}
use Rattle.plan_writing.specs.declared.Cursor.{Cursor}
use Rattle.plan_writing.specs.Writing.{Writing}

-- five stores in a row
pub five_stores : (l : List ℕ) (at v w x y z : ℕ) → at + step_bytes ≤ length l
    → set (set (set (set (set l at v) (at + 1) w) (at + 2) x) (at + 3) y) (at + 4) z ≡ take at l ++ ((v ∷ w ∷ x ∷ y ∷ z ∷ []) ++ drop (at + step_bytes) l)
five_stores l at v w x y z h =
    let e1 : at + 1 ≡ suc at = omega arith in
    let e2 : at + 2 ≡ suc (suc at) = omega arith in
    let e3 : at + 3 ≡ suc (suc (suc at)) = omega arith in
    let e4 : at + 4 ≡ suc (suc (suc (suc at))) = omega arith in
    rw (e1, e2, e3, e4) (sets-eq (v ∷ w ∷ x ∷ y ∷ z ∷ []) l at h ∙ append_assoc (take at l) (v ∷ w ∷ x ∷ y ∷ z ∷ []) (drop (at + step_bytes) l))

plan_followed : (steps : List Step) (s : Step) → plan_bytes_of (steps ++ (s ∷ [])) ≡ plan_bytes_of steps ++ step_bytes_of s
unfolding plan_bytes_of
plan_followed [] s = append-nil (step_bytes_of s)
plan_followed (t ∷ steps) s = ap (λ (l : List ℕ). step_bytes_of t ++ l) (plan_followed steps s) ∙ sym (append_assoc (step_bytes_of t) (plan_bytes_of steps) (step_bytes_of s))

-- the bytes of a step put where the cursor stands
pub followed_writing : (lent here next : List ℕ) (c : Cursor) (b : PartialPlan) (s : Step) → Writing lent here c b
    → next ≡ take (step_bytes * c.steps) here ++ (step_bytes_of s ++ drop (step_bytes * c.steps + step_bytes) here)
    → Writing lent next (record { steps = c.steps + 1; latest = c.steps + 1 }) (followed b s)
unfolding followed
followed_writing lent here next c b s w e =
    let n : ℕ = length b.steps in
    let front : List ℕ = plan_bytes_of b.steps in
    let long : length front ≡ step_bytes * c.steps = length_plan b.steps ∙ ap (λ (k : ℕ). step_bytes * k) (sym w.steps) in
    let low : take (step_bytes * c.steps) here ≡ front = rw w.bytes (take_at front (drop (step_bytes * n) lent) (step_bytes * c.steps) long) in
    let m : step_bytes * n ≡ step_bytes * c.steps = ap (λ (k : ℕ). step_bytes * k) (sym w.steps) in
    let high : drop (step_bytes * c.steps + step_bytes) here ≡ drop (step_bytes * c.steps + step_bytes) lent =
    sym (drop-drop step_bytes (step_bytes * c.steps) here)
    ∙ ap (drop step_bytes) (ap (drop (step_bytes * c.steps)) w.bytes ∙ drop_at front (drop (step_bytes * n) lent) (step_bytes * c.steps) long ∙ ap (λ (k : ℕ). drop k lent) m)
    ∙ drop-drop step_bytes (step_bytes * c.steps) lent in
    let total : step_bytes * length (b.steps ++ (s ∷ [])) ≡ step_bytes * c.steps + step_bytes = rw length-append (omega (arith, w.steps)) in
    record {
      steps = rw length-append (ap (λ (k : ℕ). k + 1) w.steps);
      latest = ap (λ (k : ℕ). k + 1) w.steps;
      bytes = e ∙ rw (low, high, total, plan_followed b.steps s) (sym (append_assoc front (step_bytes_of s) (drop (step_bytes * c.steps + step_bytes) lent)));
    }
