-- A call that is handed a number and writes bytes, with refusals 1, 13 and 6: each outcome with what it is given for, and no other. Assumes nothing.
use Rattle.std.specs.Prelude.{Err}
use mathlib.Core.Path.{◌≡◌, refl}
use mathlib.Core.Logic.{◌↔◌}
use mathlib.Core.List.{List}
use Prim.Native.Nat.{ℕ, ◌<◌, ◌≤◌}
use lib.ListN.{length}
use Rattle.rules.specs.Limits.{number_bytes}
use Rattle.rules.specs.Outcome.{Outcome, refused, answered, refusal}
use Rattle.rules.specs.declared.Refusal.{Refusal}
use Rattle.rules.proofs.Memory.{writes, Writes, stopped, no_room, all_fits, writes_only, writes_one}
use Rattle.numbers.specs.Admission.{Padded, number_verdict, Admitted}
use Rattle.numbers.proofs.Tests.{NumberTest, too_long, padded, number_only, number_test, admitted_is}

module _ (values : ℕ → List ℕ) (number bytes : List ℕ) (room : ℕ) where
  abbrev pub outcome : Outcome
  outcome = writes values (number_verdict number) bytes room

  pub data Given : Outcome → Type 0 where
    one : number_bytes < length number → Given (refused 1 0)
    thirteen : length number ≤ number_bytes → Padded number → Given (refused 13 0)
    six : {p : ℕ} → Admitted number → room < length bytes → p ≡ length bytes → Given (refused 6 p)
    fits : {vs : List ℕ} → Admitted number → length bytes ≤ room → vs ≡ values (length bytes) → Given (answered vs)

  given_only : {o : Outcome} → Given o → outcome ≡ o
  given_only (one h) = writes_only values _ bytes room (stopped (number_only number (too_long h)))
  given_only (thirteen h p) = writes_only values _ bytes room (stopped (number_only number (padded h p)))
  given_only (six a h e) = rw e (writes_only values _ bytes room (no_room ((admitted_is number).1 a) h))
  given_only (fits a h e) = rw e (writes_only values _ bytes room (all_fits ((admitted_is number).1 a) h))

  stops : {r : Refusal} → NumberTest number (Err r) → Given (refusal r)
  stops (too_long h) = one h
  stops (padded h p) = thirteen h p

  -- every outcome is one of these
  pub no_other : Given outcome
  no_other = go (writes_one values (number_verdict number) bytes room)
    where
      go : {o : Outcome} → Writes values (number_verdict number) bytes room o → Given o
      go (stopped t) = stops (rw t at (number_test number))
      go (no_room t h) = six ((admitted_is number).0 t) h refl
      go (all_fits t h) = fits ((admitted_is number).0 t) h refl

  given : {o : Outcome} → outcome ≡ o → Given o
  given e = rw e at no_other

  -- 1, place 0: the number is longer than the limit
  pub refuses_1 : outcome ≡ refused 1 0 ↔ number_bytes < length number
  refuses_1 = (λ e. elim (given e) [ one h ↦ h ], λ h. given_only (one h))

  -- 13, place 0: its highest byte is zero
  pub refuses_13 : outcome ≡ refused 13 0 ↔ (length number ≤ number_bytes) × Padded number
  refuses_13 = (λ e. elim (given e) [ thirteen h p ↦ (h, p) ], λ h. given_only (thirteen h.0 h.1))

  -- 6, place the bytes needed: more are to be written than are lent
  pub refuses_6 : (p : ℕ) → outcome ≡ refused 6 p ↔ Admitted number × (room < length bytes) × (p ≡ length bytes)
  refuses_6 p = (λ e. elim (given e) [ six a h q ↦ (a, h, q) ], λ h. given_only (six h.0 h.1 h.2))

  -- otherwise the values are answered
  pub answers : (vs : List ℕ) → outcome ≡ answered vs ↔ Admitted number × (length bytes ≤ room) × (vs ≡ values (length bytes))
  answers vs = (λ e. elim (given e) [ fits a h q ↦ (a, h, q) ], λ h. given_only (fits h.0 h.1 h.2))
