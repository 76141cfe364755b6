-- `cleaning_wide::clean_wide` meets its contract: what is written is the form of the sign and the size that are read. Assumes nothing.
use Rattle.std.specs.Prelude.{Ok}
use mathlib.Core.Path.{◌≡◌}
use Prim.Native.Nat.{◌+◌}
use native.Mathlib.Omega.{arith}
use lib.ListN.{take}
use Rattle.std.proofs.lemmas.Result.{err_from_is_err_and}
use Rattle.rules.specs.Limits.{string_digits, largest_width}
use Rattle.digit_strings.proofs.Tests.{digit_string_is}
use Rattle.digit_strings.proofs.Sizes.{string_bits}
use Rattle.widths.specs.Width.{width_verdict}
use Rattle.wide_digits.proofs.Padded.{zeros_blank}
use Rattle.cleaning.specs.Clean.{cleaning_of}
use Rattle.cleaning_wide.proofs.Value.{Read, read_refused, read_value, cleaned}
use Rattle.cleaning_wide.proofs.clean_wide.Goals.{In_ok-width, In_ok-sign, After-write-length}
use Rattle.cleaning_wide.proofs.clean_wide.Goals as goal

-- past refusal 3
passed : (c : In_ok-width) → width_verdict c.in_ok-width.width ≡ Ok tt
passed c = rw c.in_ok-width.ensures.1 c.in_ok-width.ensures.0

-- what is read
read : (c : In_ok-sign) → Read c.in_ok-width.width (passed (goal.at.In_ok-sign c).In_ok-width) c.args.digits.now c.in_ok-sign.field-0.sign c.read_of_width.new.out
read c = read_value c.in_ok-width.width (passed (goal.at.In_ok-sign c).In_ok-width) c.args.digits.now c.in_ok-sign.ensures.answer c.in_ok-sign.ensures.buffer

-- and what is written
written : (c : After-write-length) → take c.write-length.result c.write-length.new.out ≡ cleaning_of c.in_ok-width.width c.args.digits.now
written c =
    let r = read (goal.at.After-write-length c).In_ok-sign in
    cleaned c.in_ok-width.width c.args.digits.now _ _ _ _ r.sign_is r.size_is c.write-length.ensures.form

pub returns-in_err-sign : goal.returns-in_err-sign
returns-in_err-sign c =
    let p = passed (goal.at.returns-in_err-sign c).In_ok-width in
    let e = read_refused c.in_ok-width.width p c.args.digits.now c.in_err-sign.ensures.answer in
    let exit = err_from_is_err_and c.from_residual-in_err-sign.result c.from_residual-in_err-sign.ensures.1 in
    record { answer = rw (exit.1, exit.2, ← c.in_ok-width.ensures.1, p, e); buffer = rw (← c.in_ok-width.ensures.1, p, e) }

pub write-length-requires : goal.write-length-requires
write-length-requires c =
    let r = read (goal.at.write-length-requires c).In_ok-sign in
    let within = r.string.within in
    record {
      bytes_bound = rw (c.bits.ensures.value, r.size_is) (string_bits _ _ r.string);
      bits_in_bounds = omega arith;
      bits_in_bounds_2 = omega arith;
      blank = zeros_blank (string_digits + largest_width);
    }

pub returns : goal.returns
returns c =
    let p = passed (goal.at.returns c).In_ok-width in
    let s = (digit_string_is _ _).1 (read (goal.at.returns c).In_ok-sign).string in
    let e = written (goal.at.returns c).After-write-length in
    record {
      answer = rw (← c.in_ok-width.ensures.1, p, s, ← e) c.put.ensures.answer;
      buffer = rw (← c.in_ok-width.ensures.1, p, s, ← e) c.put.ensures.buffer;
    }
