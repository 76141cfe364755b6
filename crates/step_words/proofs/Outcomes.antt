-- The step that the text of two positions comes to, by the tests that led to it. Assumes nothing.
use mathlib.Core.Path.{◌≡◌}
use mathlib.Core.List.{List}
use Prim.Native.Nat.{ℕ, ◌+◌, ◌-◌}
use native.Mathlib.Omega.{arith}
use borrow.Author.Tests.{eq-eqb, ne_eqb}
use lib.ListN.{length, take, drop, length-drop}
use lib.Seq.{take_all}
use Rattle.chains.specs.Steps.{Step}
use Rattle.decimal.specs.Decimal.{decimal_value}
use Rattle.step_words.specs.Word.{no_step, position_digits, step_behind, step_in}

-- a part of a text up to its end
pub all_behind : (n : ℕ) (text : List ℕ) → take (length text - n) (drop n text) ≡ drop n text
all_behind n text = take_all (length text - n) (drop n text) (omega (arith, length-drop n text))

module _ (operation : ℕ) (text : List ℕ) {j : ℕ} (e : j ≡ position_digits text 44) where
  pub no_first : j ≡ 0 → no_step ≡ step_in operation text
  unfolding step_in
  no_first z = rw (← e) (simp (eq-eqb j 0 z))

  module _ (some : j ≡ 0 → ⊥) {rest : List ℕ} (r : rest ≡ drop (j + 1) text) {k : ℕ} (f : k ≡ position_digits rest 41) where
    pub no_second : k ≡ 0 → no_step ≡ step_in operation text
    unfolding step_in step_behind
    no_second z = rw (← e) (simp (ne_eqb j 0 some) (rw (← r, ← f) (simp (eq-eqb k 0 z))))

    module _ (more : k ≡ 0 → ⊥) where
      pub not_closed : (length rest ≡ k + 1 → ⊥) → no_step ≡ step_in operation text
      unfolding step_in step_behind
      not_closed n = rw (← e) (simp (ne_eqb j 0 some) (rw (← r, ← f) (simp (ne_eqb k 0 more, ne_eqb (length rest) (k + 1) n))))

      pub is_step : length rest ≡ k + 1 → {first second : ℕ} → first ≡ decimal_value (take j text) → second ≡ decimal_value (take k rest)
          → ◌≡◌ {A = Step} (record { operation = operation; first = first; second = second }) (step_in operation text)
      unfolding step_in step_behind
      is_step n p q = rw (← e) (simp (ne_eqb j 0 some) (rw (← r, ← f) (simp (ne_eqb k 0 more, eq-eqb (length rest) (k + 1) n) (rw (p, q)))))
