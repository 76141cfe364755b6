-- What the rules promise of the start of taking, as theorems about the definitions that its statement cites. Assumes nothing.
use Rattle.rules.specs.declared.Refusal.{Refusal}
use Rattle.std.specs.Prelude.{Result, Ok, Err}
use mathlib.Core.Path.{◌≡◌, refl}
use mathlib.Core.Logic.{◌↔◌}
use mathlib.Core.List.{List, []}
use Prim.Native.Nat.{ℕ, ◌<◌, ◌≤◌}
use native.Mathlib.Omega.{arith}
use lib.ListN.{length}
use Rattle.rules.specs.Limits.{number_bytes}
use Rattle.rules.specs.Outcome.{Outcome, refused, answered}
use Rattle.integers.specs.Positional.{bytes_value}
use Rattle.numbers.specs.Admission.{Padded, number_verdict, Admitted}
use Rattle.numbers.proofs.Tests.{NumberTest, too_long, padded, admitted, number_only, number_test}
use Rattle.taking.specs.Take.{start_answer, start_number, start_outcome}

module _ (number : List ℕ) where
  -- the outcome, in the rules' numbers
  abbrev pub outcome : Outcome
  outcome = start_outcome (start_answer number)

  -- each outcome, with what led there
  pub data Given : Outcome → Type 0 where
    one : number_bytes < length number → Given (refused 1 0)
    thirteen : length number ≤ number_bytes → Padded number → Given (refused 13 0)
    ready : {vs : List ℕ} → Admitted number → vs ≡ [] → Given (answered vs)

  given_only : {o : Outcome} → Given o → outcome ≡ o
  given_only (one h) = rw (number_only number (too_long h))
  given_only (thirteen h p) = rw (number_only number (padded h p))
  given_only (ready a e) = rw (number_only number (admitted a), e)

  -- every outcome is one of these
  pub no_other : Given outcome
  no_other = go (number_test number) refl
    where
      go : {v : Result Unit Refusal} → NumberTest number v → number_verdict number ≡ v → Given outcome
      go (too_long h) e = rw e (one h)
      go (padded h p) e = rw e (thirteen h p)
      go (admitted a) e = rw e (ready a refl)

  given : {o : Outcome} → outcome ≡ o → Given o
  given e = rw e at no_other

  -- 1, place 0: the number is longer than the limit
  pub start_refuses_1 : outcome ≡ refused 1 0 ↔ number_bytes < length number
  start_refuses_1 = (λ e. elim (given e) [ one h ↦ h ], λ h. given_only (one h))

  -- 13, place 0: its highest byte is zero
  pub start_refuses_13 : outcome ≡ refused 13 0 ↔ (length number ≤ number_bytes) × Padded number
  start_refuses_13 = (λ e. elim (given e) [ thirteen h p ↦ (h, p) ], λ h. given_only (thirteen h.0 h.1))

  -- otherwise it is ready, with no values
  pub start_answers : (vs : List ℕ) → outcome ≡ answered vs ↔ Admitted number × (vs ≡ [])
  start_answers vs = (λ e. elim (given e) [ ready a q ↦ (a, q) ], λ h. given_only (ready h.0 h.1))

  -- the number that the recoder handed back stands for; zero after a refusal
  pub start_number_lem : Admitted number → start_number number ≡ bytes_value number
  start_number_lem a = rw (number_only number (admitted a))

  pub refused_number : (n p : ℕ) → outcome ≡ refused n p → start_number number ≡ 0
  refused_number n p e = go (number_verdict number) refl
    where
      go : (v : Result Unit Refusal) → number_verdict number ≡ v → start_number number ≡ 0
      go (Ok tt) t = let f = rw t at e in let z : ◌≡◌ {A = ℕ} 0 1 = cc in absurd (omega arith)
      go (Err r) t = rw t
