-- A digit raised by the largest of its width, so that none is below zero.
use Rattle.std.specs.Prelude.{ℕ, ◌+◌, ◌%◌}
use Rattle.digit_strings.specs.Admission.{largest_digit}

-- by the digit's byte: from 0 to twice the largest
abbrev pub raised : ℕ → ℕ → ℕ
raised w b = (b + largest_digit w) % 256
