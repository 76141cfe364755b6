-- A call that is handed a digit string and writes bytes: each outcome with what it is given for, and no other. Assumes nothing.
use Rattle.std.specs.Prelude.{Err}
use mathlib.Core.Path.{◌≡◌, refl}
use mathlib.Core.Logic.{◌↔◌}
use mathlib.Core.List.{List}
use Prim.Native.Nat.{ℕ, ◌<◌, ◌≤◌}
use lib.ListN.{length}
use Rattle.rules.specs.Limits.{string_digits}
use Rattle.rules.specs.Outcome.{Outcome, refused, answered, refusal}
use Rattle.rules.specs.declared.Refusal.{Refusal}
use Rattle.rules.proofs.Memory.{writes, Writes, stopped, no_room, all_fits, writes_only, writes_one}
use Rattle.digit_strings.specs.Admission.{string_verdict, DigitString, LowestBad}
use Rattle.digit_strings.proofs.Tests.{StringTest, too_long, bad_digit, digits, string_only, string_test, digit_string_is}

module _ (values : ℕ → List ℕ) (w : ℕ) (string bytes : List ℕ) (room : ℕ) where
  abbrev pub outcome : Outcome
  outcome = writes values (string_verdict w string) bytes room

  pub data Given : Outcome → Type 0 where
    five : string_digits < length string → Given (refused 5 0)
    four : {p : ℕ} → length string ≤ string_digits → LowestBad w string p → Given (refused 4 p)
    six : {p : ℕ} → DigitString w string → room < length bytes → p ≡ length bytes → Given (refused 6 p)
    answer : {vs : List ℕ} → DigitString w string → length bytes ≤ room → vs ≡ values (length bytes) → Given (answered vs)

  given_only : {o : Outcome} → Given o → outcome ≡ o
  given_only (five h) = writes_only values _ bytes room (stopped (string_only w string (too_long h)))
  given_only (four h l) = writes_only values _ bytes room (stopped (string_only w string (bad_digit h l)))
  given_only (six d h e) = rw e (writes_only values _ bytes room (no_room (string_only w string (digits d)) h))
  given_only (answer d h e) = rw e (writes_only values _ bytes room (all_fits (string_only w string (digits d)) h))

  stops : {r : Refusal} → StringTest w string (Err r) → Given (refusal r)
  stops (too_long h) = five h
  stops (bad_digit h l) = four h l

  -- every outcome is one of these
  pub no_other : Given outcome
  no_other = go (writes_one values (string_verdict w string) bytes room)
    where
      go : {o : Outcome} → Writes values (string_verdict w string) bytes room o → Given o
      go (stopped t) = stops (rw t at (string_test w string))
      go (no_room t h) = six ((digit_string_is w string).0 t) h refl
      go (all_fits t h) = answer ((digit_string_is w string).0 t) h refl

  given : {o : Outcome} → outcome ≡ o → Given o
  given e = rw e at no_other

  -- 5, place 0: the string is longer than the limit
  pub refuses_5 : outcome ≡ refused 5 0 ↔ string_digits < length string
  refuses_5 = (λ e. elim (given e) [ five h ↦ h ], λ h. given_only (five h))

  -- 4, place the lowest byte that is no digit
  pub refuses_4 : (p : ℕ) → outcome ≡ refused 4 p ↔ (length string ≤ string_digits) × LowestBad w string p
  refuses_4 p = (λ e. elim (given e) [ four h l ↦ (h, l) ], λ h. given_only (four h.0 h.1))

  -- 6, place the bytes needed: more are to be written than are lent
  pub refuses_6 : (p : ℕ) → outcome ≡ refused 6 p ↔ DigitString w string × (room < length bytes) × (p ≡ length bytes)
  refuses_6 p = (λ e. elim (given e) [ six d h q ↦ (d, h, q) ], λ h. given_only (six h.0 h.1 h.2))

  -- otherwise the values are answered
  pub answers : (vs : List ℕ) → outcome ≡ answered vs ↔ DigitString w string × (length bytes ≤ room) × (vs ≡ values (length bytes))
  answers vs = (λ e. elim (given e) [ answer d h q ↦ (d, h, q) ], λ h. given_only (answer h.0 h.1 h.2))
