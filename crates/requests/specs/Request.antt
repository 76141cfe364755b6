-- What is asked for by number, method and width (docs/RULES.md, "Calls"): a method, or refusal 1, 13, 2 or 3, in this order.
use Rattle.methods.specs.declared.Method.{Method}
use Rattle.rules.specs.declared.Refusal.{Refusal}
use Rattle.std.specs.Prelude.{ℕ, List, Result, Ok, Err}
use Rattle.rules.specs.Outcome.{and_then}
use Rattle.numbers.specs.Admission.{positive_verdict}
use Rattle.methods.specs.Method.{method_of}

-- whether a method is granted
abbrev pub verdict_of : Result Method Refusal → Result Unit Refusal
verdict_of (Ok m) = Ok tt
verdict_of (Err r) = Err r

-- refusals 1, 13 and 2, then the method that is asked for or 3
unfoldable pub request : List ℕ → ℕ → ℕ → Result Method Refusal
request number method width = and_then (positive_verdict number) (method_of method width)
