-- Two numbers that no call refuses with 1 or 13 have equal values exactly if they are the same bytes, and then every call has the same outcome and leaves the same (docs/RULES.md, 1.3). Assumes nothing.
use Rattle.std.specs.Prelude.{Ok}
use mathlib.Core.Path.{◌≡◌, refl}
use mathlib.Core.Logic.{◌↔◌}
use mathlib.Core.List.{List}
use Prim.Native.Nat.{ℕ}
use lib.ListN.{length, take}
use Rattle.integers.specs.Positional.{bytes_value}
use Rattle.integers.proofs.Positional.{Below}
use Rattle.integers.proofs.Shortest.{bytes_top}
use Rattle.numbers.specs.Admission.{Padded, Admitted}
use Rattle.numbers.proofs.Spelling.{Admitting, admitting_is, one_spelling}
use Rattle.recoding.specs.Recode.{recode_buffer}
use Rattle.recoding.proofs.Promises as recode
use Rattle.recoding_modified.specs.RecodeModified.{recode_modified_buffer}
use Rattle.recoding_modified.proofs.Promises as recode-modified
use Rattle.recoding_wide.specs.RecodeWide.{recode_wide_buffer}
use Rattle.recoding_wide.proofs.Promises as recode-wide
use Rattle.taking.specs.Take.{start_number}
use Rattle.taking.proofs.Promises as start
use Rattle.planning.specs.Plan.{plan_buffer}
use Rattle.planning.proofs.Promises as plan
use Rattle.checking.specs.Check.{check_space}
use Rattle.checking.proofs.Promises as check
use Rattle.decimal.specs.Decimal.{parsed, parsed_buffer}
use Rattle.decimal.proofs.Value.{parsed_bytes}

-- ---- if one call refuses a number with neither 1 nor 13, no call does: whatever else they are handed, they admit the same numbers

module _ (number : List ℕ) where
  pub recode_admits : (room : ℕ) → Admitting (recode.outcome number room) ↔ Admitted number
  recode_admits room = admitting_is number (recode.refuses_1 number room) (recode.refuses_13 number room)

  pub recode_modified_admits : (room : ℕ) → Admitting (recode-modified.outcome number room) ↔ Admitted number
  recode_modified_admits room = admitting_is number (recode-modified.refuses_1 number room) (recode-modified.refuses_13 number room)

  pub recode_wide_admits : (w room : ℕ) → Admitting (recode-wide.outcome w number room) ↔ Admitted number
  recode_wide_admits w room = admitting_is number (recode-wide.refuses_1 w number room) (recode-wide.refuses_13 w number room)

  pub start_admits : Admitting (start.outcome number) ↔ Admitted number
  start_admits = admitting_is number (start.start_refuses_1 number) (start.start_refuses_13 number)

  pub forecast_admits : (method width : ℕ) → Admitting (plan.forecasts number method width) ↔ Admitted number
  forecast_admits method width = admitting_is number (plan.forecast_refuses_1 number method width) (plan.forecast_refuses_13 number method width)

  pub plan_admits : (method width room : ℕ) → Admitting (plan.plans number method width room) ↔ Admitted number
  plan_admits method width room = admitting_is number (plan.plan_refuses_1 number method width room) (plan.plan_refuses_13 number method width room)

  pub check_admits : (steps : List ℕ) (room : ℕ) → Admitting (check.outcome number steps room) ↔ Admitted number
  check_admits steps room = admitting_is number (check.refuses_1 number steps room) (check.refuses_13 number steps room)

  -- some call refuses the number with neither
  pub data SomeAdmits : Type 0 where
    recode_does : (room : ℕ) → Admitting (recode.outcome number room) → SomeAdmits
    recode_modified_does : (room : ℕ) → Admitting (recode-modified.outcome number room) → SomeAdmits
    recode_wide_does : (w room : ℕ) → Admitting (recode-wide.outcome w number room) → SomeAdmits
    start_does : Admitting (start.outcome number) → SomeAdmits
    forecast_does : (method width : ℕ) → Admitting (plan.forecasts number method width) → SomeAdmits
    plan_does : (method width room : ℕ) → Admitting (plan.plans number method width room) → SomeAdmits
    check_does : (steps : List ℕ) (room : ℕ) → Admitting (check.outcome number steps room) → SomeAdmits

  some_admits : SomeAdmits → Admitted number
  some_admits (recode_does room s) = (recode_admits room).0 s
  some_admits (recode_modified_does room s) = (recode_modified_admits room).0 s
  some_admits (recode_wide_does w room s) = (recode_wide_admits w room).0 s
  some_admits (start_does s) = start_admits.0 s
  some_admits (forecast_does method width s) = (forecast_admits method width).0 s
  some_admits (plan_does method width room s) = (plan_admits method width room).0 s
  some_admits (check_does steps room s) = (check_admits steps room).0 s

-- ---- two such numbers with equal values are the same input. Every slice that a caller hands over has elements below 256

module _ (a b : List ℕ) (bytes-a : Below 256 a) (bytes-b : Below 256 b) (some-a : SomeAdmits a) (some-b : SomeAdmits b) where
  pub same_bytes : bytes_value a ≡ bytes_value b ↔ a ≡ b
  same_bytes = one_spelling a b bytes-a bytes-b (some_admits a some-a) (some_admits b some-b)

  module _ (equal : bytes_value a ≡ bytes_value b) where
    pub same_recoding : (out : List ℕ) → (recode.outcome a (length out) ≡ recode.outcome b (length out)) × (recode_buffer a out ≡ recode_buffer b out)
    same_recoding out = rw (same_bytes.0 equal) (refl, refl)

    pub same_modified_recoding : (out : List ℕ)
        → (recode-modified.outcome a (length out) ≡ recode-modified.outcome b (length out)) × (recode_modified_buffer a out ≡ recode_modified_buffer b out)
    same_modified_recoding out = rw (same_bytes.0 equal) (refl, refl)

    pub same_wide_recoding : (w : ℕ) (out : List ℕ)
        → (recode-wide.outcome w a (length out) ≡ recode-wide.outcome w b (length out)) × (recode_wide_buffer w a out ≡ recode_wide_buffer w b out)
    same_wide_recoding w out = rw (same_bytes.0 equal) (refl, refl)

    pub same_start : (start.outcome a ≡ start.outcome b) × (start_number a ≡ start_number b)
    same_start = rw (same_bytes.0 equal) (refl, refl)

    pub same_forecast : (method width : ℕ) → plan.forecasts a method width ≡ plan.forecasts b method width
    same_forecast method width = rw (same_bytes.0 equal)

    pub same_plan : (method width : ℕ) (out : List ℕ)
        → (plan.plans a method width (length out) ≡ plan.plans b method width (length out)) × (plan_buffer a method width out ≡ plan_buffer b method width out)
    same_plan method width out = rw (same_bytes.0 equal) (refl, refl)

    pub same_verdict : (steps space : List ℕ) → (check.outcome a steps (length space) ≡ check.outcome b steps (length space)) × (check_space a steps space ≡ check_space b steps space)
    same_verdict steps space = rw (same_bytes.0 equal) (refl, refl)

-- ---- what decimal reads is never padded, so no call refuses it with 13

pub decimal_unpadded : (text bytes : List ℕ) (n : ℕ) → parsed text (length bytes) ≡ Ok n → Padded (take n (parsed_buffer text bytes)) → ⊥
decimal_unpadded text bytes n e p = let q = rw (parsed_bytes text bytes n e) at p in bytes_top _ q.some q.highest_zero
