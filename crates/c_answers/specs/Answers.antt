-- The answers as C takes them. If a call is not refused, the refusal and its place are 0; if it is, they are its number and place (docs/RULES.md, 4.13), and
-- every other field is 0: a refusal answers its number and place and nothing else.
use Rattle.std.specs.Prelude.{ℕ, Result, Ok, Err, Option, Some, None}
use Rattle.rules.specs.Refusals.{refusal_number, refusal_place}
use Rattle.rules.specs.declared.Refusal.{Refusal}
use Rattle.rules.specs.declared.Counts.{Counts as Steps}
use Rattle.rules.specs.declared.Accepted.{Accepted as Checked}
use Rattle.rules.specs.declared.Limits.{Limits as Documented}
use Rattle.reading.specs.declared.ReadBack.{ReadBack}
use Rattle.decimal.specs.declared.NotDecimal.{NotDecimal}
use Rattle.c_answers.specs.declared.Limits.{Limits}
use Rattle.c_answers.specs.declared.Started.{Started}
use Rattle.c_answers.specs.declared.Length.{Length}
use Rattle.c_answers.specs.declared.Value.{Value}
use Rattle.c_answers.specs.declared.Counts.{Counts}
use Rattle.c_answers.specs.declared.Accepted.{Accepted}
use Rattle.c_answers.specs.declared.Parsed.{Parsed}

-- a refusal
abbrev pub refused_fields : Refusal → Started
refused_fields r = record { refusal = refusal_number r; place = refusal_place r }

-- the refusal of an answer, whatever else it has
abbrev pub started_fields : {A : Type 0} → Result A Refusal → Started
started_fields (Ok _) = record { refusal = 0; place = 0 }
started_fields (Err r) = refused_fields r

abbrev pub written_fields : Result ℕ Refusal → Length
written_fields (Ok n) = record { refusal = 0; place = 0; length = n }
written_fields (Err r) = record { refusal = refusal_number r; place = refusal_place r; length = 0 }

abbrev pub read_fields : Result ReadBack Refusal → Value
read_fields (Ok v) = record { refusal = 0; place = 0; sign = v.sign; length = v.length }
read_fields (Err r) = record { refusal = refusal_number r; place = refusal_place r; sign = 0; length = 0 }

abbrev pub counted_fields : Result Steps Refusal → Counts
counted_fields (Ok c) = record { refusal = 0; place = 0; doublings = c.doublings; additions = c.additions; subtractions = c.subtractions }
counted_fields (Err r) = record { refusal = refusal_number r; place = refusal_place r; doublings = 0; additions = 0; subtractions = 0 }

-- the fields of the counts, and then the bits, which are 0 beside a refusal
abbrev pub accepted_fields : Counts → ℕ → Accepted
accepted_fields c bits = record {
  refusal = c.refusal;
  place = c.place;
  doublings = c.doublings;
  additions = c.additions;
  subtractions = c.subtractions;
  largest_bits = bits;
}

abbrev pub checked_fields : Result Checked Refusal → Accepted
checked_fields (Ok a) = accepted_fields (counted_fields (Ok a.counts)) a.largest_bits
checked_fields (Err r) = accepted_fields (counted_fields (Err r)) 0

-- a text that is a number, by how many bytes it has; if it is none, a decimal one tells its place
abbrev pub hexadecimal_fields : Option ℕ → Parsed
hexadecimal_fields (Some n) = record { is_number = 1; place = 0; length = n }
hexadecimal_fields None = record { is_number = 0; place = 0; length = 0 }

abbrev pub decimal_fields : Result ℕ NotDecimal → Parsed
decimal_fields (Ok n) = record { is_number = 1; place = 0; length = n }
decimal_fields (Err n) = record { is_number = 0; place = n.digits; length = 0 }

abbrev pub limit_fields : Documented → Limits
limit_fields l = record {
  number_bytes = l.number_bytes;
  string_digits = l.string_digits;
  step_bytes = l.step_bytes;
  plan_steps = l.plan_steps;
  value_bytes = l.value_bytes;
  record_bytes = l.record_bytes;
}
