-- `hexadecimal::parse` meets its contract: each answer goes by the tests that led to it. Assumes nothing.
use mathlib.Core.Path.{◌≡◌, refl, sym, ◌∙◌}
use mathlib.Core.Bool.{true}
use mathlib.Core.Logic.{inl, inr}
use native.Mathlib.Omega.{arith}
use borrow.Author.Tests.{eqb-true, eqb-false}
use lib.ListN.{length}
use Rattle.hexadecimal.specs.Hex.{is_hex}
use Rattle.hexadecimal.proofs.Value.{no_number, number}
use Rattle.hexadecimal.proofs.parse.Goals.{then-is_empty-via-then-is_empty, then-is_empty-via-else-is_empty+then-bytes-n, then-is_empty-via-else-is_empty+else-bytes-n+then-not-is_hex}
use Rattle.hexadecimal.proofs.parse.Goals as goal

pub returns-then-is_empty : goal.returns-then-is_empty
returns-then-is_empty c =
    let text = c.without_prefix-text.result.now in
    let e =
    no_number text (length c.args.bytes.now) (elim c.then-is_empty.branch [
      | then-is_empty-via-then-is_empty w ↦ inl (eqb-true (length text) 0 (sym c.is_empty.ensures ∙ w.if-is_empty.true))
      | then-is_empty-via-else-is_empty+then-bytes-n w ↦ inr (inl w.if-bytes-n.true)
      | then-is_empty-via-else-is_empty+else-bytes-n+then-not-is_hex w ↦ inr (inr (sym w.is_hex.ensures ∙ w.if-not-is_hex.true))
    ]) in
    rw (← c.without_prefix-text.ensures) (record { answer = e; buffer = rw (← e) refl })

pub returns : goal.returns
returns c =
    let text = c.without_prefix-text.result.now in
    let hex : is_hex text ≡ true = sym c.is_hex.ensures ∙ c.if-not-is_hex.false in
    let e = number text (length c.args.bytes.now) (eqb-false (length text) 0 (sym c.if-is_empty.ensures)) (omega arith) hex in
    rw (← c.without_prefix-text.ensures) (record { answer = e; buffer = rw (← e) c.write.ensures })
