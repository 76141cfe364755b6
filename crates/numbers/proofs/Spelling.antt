-- One spelling (docs/RULES.md, 1.3): of the numbers that are admitted, those of equal value are the same bytes, and every value within the limit has one. Assumes nothing.
use Rattle.rules.specs.declared.Refusal.{Refusal}
use Rattle.std.specs.Prelude.{Result}
use mathlib.Core.Path.{◌≡◌, sym, ap, ◌∙◌}
use mathlib.Core.Logic.{◌↔◌, ◌≢◌}
use mathlib.Core.List.{List}
use Prim.Native.Nat.{ℕ, ◌^◌, ◌<◌, ◌≤◌}
use native.Mathlib.Omega.{arith}
use lib.ListN.{length}
use Rattle.rules.specs.Limits.{number_bytes}
use Rattle.rules.specs.Outcome.{Outcome, refused}
use Rattle.integers.specs.Positional.{bytes_value, bytes_of}
use Rattle.integers.proofs.Positional.{Below}
use Rattle.integers.proofs.Shortest.{bytes_value_lem, bytes_below, bytes_fit, bytes_top, bytes_only}
use Rattle.numbers.specs.Admission.{Padded, Admitted}
use Rattle.numbers.proofs.Tests.{NumberTest, too_long, padded, admitted, number_test}

-- an admitted number is the bytes of its value
pub own_bytes : (number : List ℕ) → Below 256 number → Admitted number → number ≡ bytes_of (bytes_value number)
own_bytes number b a = bytes_only number b a.top

pub one_spelling : (a b : List ℕ) → Below 256 a → Below 256 b → Admitted a → Admitted b → bytes_value a ≡ bytes_value b ↔ a ≡ b
one_spelling a b ba bb aa ab = (λ e. own_bytes a ba aa ∙ ap bytes_of e ∙ sym (own_bytes b bb ab), ap bytes_value)

pub some_spelling : (v : ℕ) → v < 256 ^ number_bytes → Below 256 (bytes_of v) × Admitted (bytes_of v) × (bytes_value (bytes_of v) ≡ v)
some_spelling v h = (bytes_below v, record { short = bytes_fit v number_bytes h; top = bytes_top v }, bytes_value_lem v)

-- an outcome that refuses the number neither with 1 nor with 13
pub record Admitting (o : Outcome) : Type 0 where
  pub not_1 : o ≢ refused 1 0
  pub not_13 : o ≢ refused 13 0

-- if a call gives these two exactly when the rules say, its outcome is such a one exactly for an admitted number
module _ (number : List ℕ) {o : Outcome} (one : o ≡ refused 1 0 ↔ number_bytes < length number) (thirteen : o ≡ refused 13 0 ↔ (length number ≤ number_bytes) × Padded number) where
  pub admitting_is : Admitting o ↔ Admitted number
  admitting_is = (λ s. go s (number_test number), λ a. record { not_1 = λ e. omega (arith, one.0 e, a.short); not_13 = λ e. let p = (thirteen.0 e).1 in a.top p.some p.highest_zero })
    where
      go : Admitting o → {v : Result Unit Refusal} → NumberTest number v → Admitted number
      go s (too_long h) = absurd (s.not_1 (one.1 h))
      go s (padded h p) = absurd (s.not_13 (thirteen.1 (h, p)))
      go s (admitted a) = a
