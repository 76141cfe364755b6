-- The values at the positions of a chain: each step adds one and changes none before it. Assumes nothing.
use mathlib.Core.Path.{◌≡◌, refl, sym, ap, ◌∙◌}
use mathlib.Core.List.{List, [], ◌∷◌, ◌++◌}
use Prim.Native.Nat.{ℕ, suc, ◌+◌, ◌<◌, ◌≤◌}
use native.Mathlib.Nat.{add-zero}
use native.Mathlib.Omega.{arith}
use lib.IntN.{ℤ, pos}
use lib.ListN.{length, take, drop, length-append, take-append-drop}
use lib.Seq.{length-take-le, take_all, take-length, take-take, take-append_seam, take-suc, get_or-take, get_or_at}
use Rattle.chains.specs.Steps.{Step, add}
use Rattle.chains.specs.Values.{at, step_value, extend, start, values_of}
use Rattle.chains.specs.Sound.{step_at}

-- ---- from any values on

length_extend : (values : List ℤ) (steps : List Step) → length (extend values steps) ≡ length values + length steps
unfolding extend
length_extend values [] = sym (add-zero (length values))
length_extend values (s ∷ steps) = length_extend (values ++ (step_value values s ∷ [])) steps ∙ rw length-append (omega arith)

pub extend_append : (values : List ℤ) (xs ys : List Step) → extend values (xs ++ ys) ≡ extend (extend values xs) ys
unfolding extend
extend_append values [] ys = refl
extend_append values (s ∷ xs) ys = extend_append (values ++ (step_value values s ∷ [])) xs ys

-- the values that were there stay
extend_prefix : (values : List ℤ) (steps : List Step) → take (length values) (extend values steps) ≡ values
unfolding extend
extend_prefix values [] = take-length values
extend_prefix values (s ∷ steps) =
    let v : ℤ = step_value values s in
    let more : List ℤ = values ++ (v ∷ []) in
    sym (take-take (length values) (length more) (extend more steps) (rw length-append (omega arith))) ∙ ap (take (length values)) (extend_prefix more steps) ∙ take-append_seam values (v ∷ [])

pub extend_keeps : (values : List ℤ) (steps : List Step) (i : ℕ) → i < length values → at (extend values steps) i ≡ at values i
extend_keeps values steps i h = sym (get_or-take (length values) (extend values steps) i (pos 0) h) ∙ ap (λ (l : List ℤ). at l i) (extend_prefix values steps)

-- ---- from position 0 on

-- the values of position 0 and of those that the first n steps fill
abbrev pub values_after : List Step → ℕ → List ℤ
values_after steps n = take (suc n) (values_of steps)

pub length_values : (steps : List Step) → length (values_of steps) ≡ suc (length steps)
unfolding values_of
length_values steps = omega (arith, length_extend start steps)

pub length_after : (steps : List Step) (n : ℕ) → n ≤ length steps → length (values_after steps n) ≡ suc n
length_after steps n h = length-take-le (suc n) (values_of steps) (omega (arith, length_values steps))

-- the steps from n on take no part in them
values_of_take : (steps : List Step) (n : ℕ) → n ≤ length steps → values_of (take n steps) ≡ values_after steps n
unfolding values_of
values_of_take steps n h =
    let below : List ℤ = extend start (take n steps) in
    let long : length below ≡ suc n = omega (arith, length_extend start (take n steps), length-take-le n steps h) in
    let all : extend start steps ≡ extend below (drop n steps) = rw (← extend_append start (take n steps) (drop n steps), take-append-drop n steps) in
    rw (all, ← long) (sym (extend_prefix below (drop n steps)))

-- before the first step there is position 0
pub after_none : (steps : List Step) → values_after steps 0 ≡ start
unfolding values_of extend
after_none steps = sym (values_of_take steps 0 (omega arith))

pub after_all : (steps : List Step) → values_after steps (length steps) ≡ values_of steps
after_all steps = take_all (suc (length steps)) (values_of steps) (omega (arith, length_values steps))

-- the next step fills the next position
pub after_more : (steps : List Step) (n : ℕ) → n < length steps → values_after steps (suc n) ≡ values_after steps n ++ (step_value (values_after steps n) (step_at steps n) ∷ [])
unfolding values_of extend
after_more steps n h =
    rw (← values_of_take steps (suc n) h, ← values_of_take steps n (omega arith), take-suc steps n (add 0 0) h) (extend_append start (take n steps) (step_at steps n ∷ []))

pub value_at : (steps : List Step) (n : ℕ) → n < length steps → at (values_of steps) (suc n) ≡ step_value (values_after steps n) (step_at steps n)
value_at steps n h =
    let v : ℤ = step_value (values_after steps n) (step_at steps n) in
    sym (get_or-take (suc (suc n)) (values_of steps) (suc n) (pos 0) (omega arith)) ∙ ap (λ (l : List ℤ). at l (suc n)) (after_more steps n h)
    ∙ get_or_at (values_after steps n) v [] (pos 0) (suc n) (length_after steps n (omega arith))

pub value_first : (steps : List Step) → at (values_of steps) 0 ≡ pos 1
unfolding values_of
value_first steps = extend_keeps start steps 0 (omega arith)
