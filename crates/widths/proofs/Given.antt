-- A call that is handed a digit string and its width and writes bytes: each outcome with what it is given for, and no other. Assumes nothing.
use Rattle.rules.specs.declared.Refusal.{Refusal}
use Rattle.std.specs.Prelude.{Result}
use mathlib.Core.Path.{◌≡◌, ◌∙◌}
use mathlib.Core.Logic.{◌↔◌}
use mathlib.Core.List.{List}
use Prim.Native.Nat.{ℕ, ◌<◌, ◌≤◌}
use lib.ListN.{length}
use Rattle.rules.specs.Limits.{string_digits}
use Rattle.rules.specs.Outcome.{Outcome, refused, answered}
use Rattle.rules.proofs.Memory.{writes}
use Rattle.digit_strings.specs.Admission.{DigitString, LowestBad}
use Rattle.digit_strings.proofs.Given as of_string
use Rattle.widths.specs.Width.{AllowedWidth, wide_verdict}
use Rattle.widths.proofs.Tests.{WidthTest, not_allowed, allowed, width_test, width_first, wide_tests}

module _ (values : ℕ → List ℕ) (w : ℕ) (string bytes : List ℕ) (room : ℕ) where
  abbrev pub outcome : Outcome
  outcome = writes values (wide_verdict w string) bytes room

  pub data Given : Outcome → Type 0 where
    three : ¬ AllowedWidth w → Given (refused 3 0)
    five : AllowedWidth w → string_digits < length string → Given (refused 5 0)
    four : {p : ℕ} → AllowedWidth w → length string ≤ string_digits → LowestBad w string p → Given (refused 4 p)
    six : {p : ℕ} → AllowedWidth w → DigitString w string → room < length bytes → p ≡ length bytes → Given (refused 6 p)
    answer : {vs : List ℕ} → AllowedWidth w → DigitString w string → length bytes ≤ room → vs ≡ values (length bytes) → Given (answered vs)

  -- at a width that is allowed it is that of a call without one
  by_string : AllowedWidth w → outcome ≡ of_string.outcome values w string bytes room
  by_string a = rw (wide_tests w a string)

  given_only : {o : Outcome} → Given o → outcome ≡ o
  given_only (three n) = rw (width_first w n string)
  given_only (five a h) = by_string a ∙ (of_string.refuses_5 values w string bytes room).1 h
  given_only (four a h l) = by_string a ∙ (of_string.refuses_4 values w string bytes room _).1 (h, l)
  given_only (six a d h e) = by_string a ∙ (of_string.refuses_6 values w string bytes room _).1 (d, h, e)
  given_only (answer a d h e) = by_string a ∙ (of_string.answers values w string bytes room _).1 (d, h, e)

  -- every outcome is one of these
  pub no_other : Given outcome
  no_other = go (width_test w)
    where
      after : AllowedWidth w → {o : Outcome} → of_string.Given values w string bytes room o → Given o
      after a (of_string.five h) = five a h
      after a (of_string.four h l) = four a h l
      after a (of_string.six d h e) = six a d h e
      after a (of_string.answer d h e) = answer a d h e

      go : {v : Result Unit Refusal} → WidthTest w v → Given outcome
      go (not_allowed n) = rw (given_only (three n)) (three n)
      go (allowed a) = rw (by_string a) (after a (of_string.no_other values w string bytes room))

  given : {o : Outcome} → outcome ≡ o → Given o
  given e = rw e at no_other

  -- 3, place 0: the width is outside the limits
  pub refuses_3 : outcome ≡ refused 3 0 ↔ ¬ AllowedWidth w
  refuses_3 = (λ e. elim (given e) [ three n ↦ n ], λ n. given_only (three n))

  -- 5, place 0: the string is longer than the limit
  pub refuses_5 : outcome ≡ refused 5 0 ↔ AllowedWidth w × (string_digits < length string)
  refuses_5 = (λ e. elim (given e) [ five a h ↦ (a, h) ], λ h. given_only (five h.0 h.1))

  -- 4, place the lowest byte that is no digit of the width
  pub refuses_4 : (p : ℕ) → outcome ≡ refused 4 p ↔ AllowedWidth w × (length string ≤ string_digits) × LowestBad w string p
  refuses_4 p = (λ e. elim (given e) [ four a h l ↦ (a, h, l) ], λ h. given_only (four h.0 h.1 h.2))

  -- 6, place the bytes needed: more are to be written than are lent
  pub refuses_6 : (p : ℕ) → outcome ≡ refused 6 p ↔ AllowedWidth w × DigitString w string × (room < length bytes) × (p ≡ length bytes)
  refuses_6 p = (λ e. elim (given e) [ six a d h q ↦ (a, d, h, q) ], λ h. given_only (six h.0 h.1 h.2 h.3))

  -- otherwise the values are answered
  pub answers : (vs : List ℕ) → outcome ≡ answered vs ↔ AllowedWidth w × DigitString w string × (length bytes ≤ room) × (vs ≡ values (length bytes))
  answers vs = (λ e. elim (given e) [ answer a d h q ↦ (a, d, h, q) ], λ h. given_only (answer h.0 h.1 h.2 h.3))
