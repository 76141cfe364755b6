-- The widths that windows allow, by name; those of a non-adjacent form are limits of the rules. src/lib.rt has the same for the code; the contracts show
-- that the two agree.
use Rattle.std.specs.Prelude.{ℕ}

-- a fixed window has from 1 to this many bits
abbrev pub fixed_window_bits : ℕ
fixed_window_bits = 6

-- and so a sliding one
abbrev pub sliding_window_bits : ℕ
sliding_window_bits = 6
