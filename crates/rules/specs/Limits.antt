-- The limits by name (docs/RULES.md, 8.1), all but the widths of windows, which stand in methods, and the room for words; and the version (9.8). The constants of src/lib.rt are the same, as `current` and `lesmutka_version` show; docs/ARCHITECTURE.md, "How to change a limit", names the other files that have them.
use Rattle.std.specs.Prelude.{ℕ, ◌+◌, ◌*◌, ◌/◌, ◌^◌}
use Rattle.rules.specs.declared.Limits.{Limits}

-- the version: 10000 * major + 100 * minor + patch
abbrev pub version : ℕ
version = 800

-- a number has at most this many bytes
abbrev pub number_bytes : ℕ
number_bytes = 48

-- the words of eight bytes that hold such a number
abbrev pub number_words : ℕ
number_words = number_bytes / 8

-- a digit string that is handed in has at most this many digits
abbrev pub string_digits : ℕ
string_digits = 768

-- the widths of a non-adjacent form: digits of the largest width have sizes below 2 ^ 7, so each has a byte
abbrev pub least_width : ℕ
least_width = 2

abbrev pub largest_width : ℕ
largest_width = 8

-- a step of a plan has this many bytes
abbrev pub step_bytes : ℕ
step_bytes = 5

-- a plan has at most this many steps
abbrev pub plan_steps : ℕ
plan_steps = 960

-- the size of a value has at most this many bytes
abbrev pub value_bytes : ℕ
value_bytes = 49

-- the words of eight bytes that hold such a size; the top one holds a single byte
abbrev pub value_words : ℕ
value_words = value_bytes / 8 + 1

-- a value's size is below this
abbrev pub value_bound : ℕ
value_bound = 2 ^ (8 * value_bytes)

-- a record of the work space: a sign byte, then the size
abbrev pub record_bytes : ℕ
record_bytes = 1 + value_bytes

abbrev pub documented : Limits
documented = record {
  number_bytes = number_bytes;
  string_digits = string_digits;
  step_bytes = step_bytes;
  plan_steps = plan_steps;
  value_bytes = value_bytes;
  record_bytes = record_bytes;
}
