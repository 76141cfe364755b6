-- How many bits the largest size in a method's plan has, for a number e above zero. That it is so is shown in proofs/.
use Rattle.std.specs.Prelude.{ℕ, ◌+◌, ◌-◌, ◌%◌, ◌^◌, ◌&&◌, cond, ltb, leb, eqb}
use Rattle.integers.specs.Bits.{bit_length}
use Rattle.methods.specs.declared.Method.{Method}
use Rattle.methods.specs.declared.Method.TheVariants.{Binary, FixedWindows, SlidingWindows, Naf, WideNaf, ModifiedNaf}

-- method 3: an even number shorter than a window gets the whole table, which ends at 2^d - 1
abbrev pub sliding_largest_bits : ℕ → ℕ → ℕ
sliding_largest_bits e d = cond (eqb (e % 2) 0 && ltb (bit_length e) d) d (bit_length e)

-- 2^L - 1, where it is above a bound, is made from 2^L
abbrev pub ones_largest_bits : ℕ → ℕ → ℕ
ones_largest_bits bound e = cond (ltb bound e && eqb (e + 1) (2 ^ bit_length e)) (bit_length e + 1) (bit_length e)

-- method 4: each above 1
abbrev pub naf_largest_bits : ℕ → ℕ
naf_largest_bits e = ones_largest_bits 1 e

-- method 5: an odd number of L bits, at least w, that is above 2^L - 2^(w-1) is made from 2^L; otherwise as for method 3 with windows of w - 1 bits, whose
-- table it has
abbrev pub wide_largest_bits : ℕ → ℕ → ℕ
wide_largest_bits e w =
    cond (eqb (e % 2) 1 && leb w (bit_length e) && ltb (2 ^ bit_length e) (e + 2 ^ (w - 1))) (bit_length e + 1)
    (sliding_largest_bits e (w - 1))

-- method 6: each above 3
abbrev pub modified_largest_bits : ℕ → ℕ
modified_largest_bits e = ones_largest_bits 3 e

-- in any other plan no size has more bits than the number; a line a method
abbrev pub largest_bits_by : Method → ℕ → ℕ
largest_bits_by Binary e = bit_length e
largest_bits_by (FixedWindows d) e = bit_length e
largest_bits_by (SlidingWindows d) e = sliding_largest_bits e d
largest_bits_by Naf e = naf_largest_bits e
largest_bits_by (WideNaf w) e = wide_largest_bits e w
largest_bits_by ModifiedNaf e = modified_largest_bits e
