-- `wide_digits::digit_byte` meets its contract. Assumes nothing.
use Prim.Native.Nat.{◌*◌, ◌/◌}
use borrow.Author.Tests.{eq-eqb, ne_eqb}
use Rattle.wide_digits.proofs.Digit.{Bytes, digit_bytes_lem}
use borrow.Author.Rules.{rules}
use Rattle.wide_digits.proofs.digit_byte.Goals.{Start}
use Rattle.wide_digits.proofs.digit_byte.Goals as goal

bytes : (c : Start) → Bytes c.args.half c.args.remainder (c.args.remainder / c.args.half * (2 * c.args.half))
bytes c = digit_bytes_lem c.args.half c.args.remainder (search rules) (search rules) (search rules)

pub returns-then-sign-eq0 : goal.returns-then-sign-eq0
returns-then-sign-eq0 c = rw (eq-eqb c.args.sign 0 c.if-sign-eq0.true) (bytes (goal.at.returns-then-sign-eq0 c).Start).own

pub returns-else-sign-eq0 : goal.returns-else-sign-eq0
returns-else-sign-eq0 c = rw (ne_eqb c.args.sign 0 c.if-sign-eq0.false) (bytes (goal.at.returns-else-sign-eq0 c).Start).opposite
