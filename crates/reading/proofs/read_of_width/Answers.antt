-- `reading::read_of_width` meets its contract: the bytes that it puts are those of the size. Assumes nothing.
use mathlib.Core.Path.{◌≡◌, sym}
use lib.ListN.{get_or, take}
use mir.Syntax.{w8}
use mir.Val.{Fits}
use borrow.Author.Rules.{rules}
use Rattle.std.proofs.lemmas.Result.{err_from_is_err_and}
use Rattle.reading.specs.ReadBack.{size_bytes}
use Rattle.digit_strings.proofs.Tests.{digit_string_is}
use Rattle.reading.proofs.Outcomes.{size_is, front_digits, front_value}
use Rattle.reading.proofs.read_of_width.Goals.{After-significant-bytes}
use Rattle.reading.proofs.read_of_width.Goals as goal

sized : (c : After-significant-bytes) → take c.significant-bytes.result c.size_of-size.result ≡ size_bytes c.args.digits.now
sized c =
    let size = c.size_of-size in
    let value = rw (front_value c.args.digits.now c.significant.result c.significant.ensures) at size.ensures in
    size_is c.args.digits.now size.result c.significant-bytes.result value (λ i. let f : Fits w8 (get_or size.result i 0) = search rules in f.fits) c.significant-bytes.ensures

pub sign_of-sign-requires : goal.sign_of-sign-requires
sign_of-sign-requires c =
    front_digits c.args.width c.args.digits.now c.significant.result ((digit_string_is c.args.width c.args.digits.now).0 (sym c.in_ok-string_verdict.ensures))

pub size_of-size-requires-clause-digit_string : goal.size_of-size-requires-clause-digit_string
size_of-size-requires-clause-digit_string c =
    front_digits c.args.width c.args.digits.now c.significant.result ((digit_string_is c.args.width c.args.digits.now).0 (sym c.in_ok-string_verdict.ensures))

pub returns-in_err-length : goal.returns-in_err-length
returns-in_err-length c =
    let e = sized (goal.at.returns-in_err-length c).After-significant-bytes in
    let exit = err_from_is_err_and c.from_residual-in_err-length.result c.from_residual-in_err-length.ensures.1 in
    record {
      answer = rw (exit.1, exit.2, ← c.in_ok-string_verdict.ensures, ← e, ← c.in_err-length.ensures.answer);
      buffer = rw (← c.in_ok-string_verdict.ensures, ← e) c.in_err-length.ensures.buffer;
    }

pub returns : goal.returns
returns c =
    let e = sized (goal.at.returns c).After-significant-bytes in
    record {
      answer = rw (← c.in_ok-string_verdict.ensures, ← e, ← c.in_ok-length.ensures.answer, ← front_value c.args.digits.now c.significant.result c.significant.ensures, ← c.sign_of-sign.ensures);
      buffer = rw (← c.in_ok-string_verdict.ensures, ← e) c.in_ok-length.ensures.buffer;
    }
