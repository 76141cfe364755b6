-- What the private functions of the scan share.
use Rattle.std.specs.Prelude.{ℕ, ◌+◌, ◌≡◌, Bool, not, List, Option, drop}
use Rattle.std.specs.List.{position}
use Rattle.digit_strings.specs.Admission.{first_failing}

-- from a place on, this many bytes pass the test: the first that does not comes that much later
abbrev pub PassFor : (ℕ → Bool) → List ℕ → ℕ → ℕ → Type 0
PassFor test s from n = first_failing test (drop from s) ≡ n + first_failing test (drop (from + n) s)

-- the place of the first byte that does not pass, if there is one
unfoldable pub failing_place : (ℕ → Bool) → List ℕ → Option ℕ
failing_place test s = position (λ b. not (test b)) s
