-- `recoding_digits::write_byte` meets its contract. Assumes nothing.
use mathlib.Core.Path.{◌≡◌, refl, sym, ◌∙◌}
use Prim.Native.Nat.{ℕ, ◌+◌, ◌*◌, ◌/◌, ◌%◌, ◌^◌}
use native.Mathlib.Omega.{arith}
use lib.IntN.{pos}
use Rattle.integers.specs.Positional.{bytes_value}
use Rattle.integers.specs.Tabulate.{tabulate}
use Rattle.integers.proofs.Positional.{Below, positional_at}
use Rattle.integers.proofs.Tabulate.{tabulate_same}
use Rattle.signed_digits.specs.Naf.{canonical}
use Rattle.digit_strings.specs.Places.{place_byte}
use Rattle.recoding_digits.specs.Internal.{difference}
use Rattle.recoding_digits.proofs.Parts.{part_written}
use Rattle.recoding_digits.proofs.Triple.{carry_small, carry_step, byte_digit_lem, more_of, less_of}
use Rattle.recoding_digits.proofs.write_byte.Goals as goal

pub overflow_add-triple : goal.overflow_add-triple
overflow_add-triple c =
    omega (arith, carry_small (bytes_value c.args.number.now) c.args.k, c.requires.carry_value)

pub returns : goal.returns
returns c =
    let number = c.args.number.now in
    let k = c.args.k in
    let count = c.args.count in
    let e : ℕ = bytes_value number in
    let bytes : Below 256 number = λ i. (c.type_inv.number i).fits in
    let b : c.byte_at-byte.result ≡ e / 256 ^ k % 256 = c.byte_at-byte.ensures.0 ∙ positional_at 256 number k bytes in
    let n : c.byte_at-next.result ≡ e / 256 ^ (k + 1) % 256 = c.byte_at-next.ensures.0 ∙ positional_at 256 number (k + 1) bytes in
    let more : (3 * c.byte_at-byte.result + c.args.carry) / 2 + 128 * c.byte_at-next.result ≡ more_of e k = rw (b, n, c.requires.carry_value) in
    let less : c.byte_at-byte.result / 2 + 128 * c.byte_at-next.result ≡ less_of e k = rw (b, n) in
    let table : tabulate (difference (more_of e k) (less_of e k)) count ≡ tabulate (λ j. place_byte (canonical (pos e)) (8 * k + j)) count =
    tabulate_same (difference (more_of e k) (less_of e k)) (λ j. place_byte (canonical (pos e)) (8 * k + j)) count (λ j h. sym (byte_digit_lem e k j (omega arith))) in
    let out = c.args.out.now in
    let written = part_written (difference ((3 * c.byte_at-byte.result + c.args.carry) / 2 + 128 * c.byte_at-next.result) (c.byte_at-byte.result / 2 + 128 * c.byte_at-next.result)) out c.write_differences.new.out (8 * k) (8 * k + count) count refl c.requires.count_in_bounds c.write_differences.ensures in
    record {
      carried = rw (b, c.requires.carry_value) (sym (carry_step e k));
      buffer = rw (more, less, table) at written;
    }
