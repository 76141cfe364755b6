-- `step_words::step_in` meets its contract: each answer goes by the tests that led to it. Assumes nothing.
use mathlib.Core.Path.{sym, refl}
use Prim.Native.Nat.{◌+◌}
use native.Mathlib.Omega.{arith}
use Rattle.step_words.proofs.Outcomes.{all_behind, no_first, no_second, not_closed, is_step}
use Rattle.step_words.proofs.step_in.Goals as goal

pub returns-in_err-first : goal.returns-in_err-first
returns-in_err-first c = rw c.from_residual.ensures (no_first c.args.operation c.args.text.now (sym c.in_err-first.ensures) refl)

pub returns-in_err-second : goal.returns-in_err-second
returns-in_err-second c =
    let (some, digits, value) = c.in_ok-first.ensures in
    let rest = all_behind (c.in_ok-first.first.digits + 1) c.args.text.now in
    rw c.from_residual-in_err-second.ensures (no_second c.args.operation c.args.text.now digits (λ z. omega arith) rest (sym c.in_err-second.ensures) refl)

pub returns-then-behind-second : goal.returns-then-behind-second
returns-then-behind-second c =
    let (some, digits, value) = c.in_ok-first.ensures in
    let (more, others, next) = c.in_ok-second.ensures in
    let rest = all_behind (c.in_ok-first.first.digits + 1) c.args.text.now in
    not_closed c.args.operation c.args.text.now digits (λ z. omega arith) rest others (λ z. omega arith) (λ closed. omega arith)

pub returns : goal.returns
returns c =
    let (some, digits, value) = c.in_ok-first.ensures in
    let (more, others, next) = c.in_ok-second.ensures in
    let rest = all_behind (c.in_ok-first.first.digits + 1) c.args.text.now in
    is_step c.args.operation c.args.text.now digits (λ z. omega arith) rest others (λ z. omega arith) (omega arith) value next
