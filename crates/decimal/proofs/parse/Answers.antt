-- `decimal::parse` meets its contract: each answer goes by the tests that led to it. Assumes nothing.
use mathlib.Core.Path.{◌≡◌, refl, sym, ap, ◌∙◌}
use mathlib.Core.Logic.{inl, inr}
use mathlib.Core.List.{List, ◌++◌}
use Prim.Native.Nat.{ℕ}
use native.Mathlib.Omega.{arith}
use borrow.Author.Tests.{eqb-true, eqb-false}
use lib.ListN.{length, take, drop}
use lib.Seq.{length-take-le}
use Rattle.integers.specs.Positional.{low_bytes}
use Rattle.decimal.specs.Decimal.{decimal_value, byte_count}
use Rattle.decimal.proofs.Digits.{stops_nowhere, value_fits}
use Rattle.decimal.proofs.Value.{stopped, unfit, number, significant_length}
use Rattle.decimal.proofs.parse.Goals as goal

pub returns-in-Some : goal.returns-in-Some
returns-in-Some c =
    let e = stopped c.args.text.now (length c.args.bytes.now) (sym c.first_other.ensures ∙ c.in-Some.is) in
    record { answer = e; buffer = rw (← e) refl }

pub returns-then-is_empty : goal.returns-then-is_empty
returns-then-is_empty c =
    let text = c.args.text.now in
    let room = length c.args.bytes.now in
    let none = sym c.first_other.ensures ∙ c.in_default.is in
    let e =
    unfit text room none (elim c.then-is_empty.either [ inl z ↦ inl (eqb-true (length text) 0 (sym c.is_empty.ensures ∙ z)) | inr short ↦ inr short.1 ]) in
    record { answer = e; buffer = rw (← e) refl }

pub write-requires : goal.write-requires
write-requires c = record { text_value = stops_nowhere c.args.text.now (sym c.first_other.ensures ∙ c.in_default.is) }

pub returns : goal.returns
returns c =
    let text = c.args.text.now in
    let bytes = c.args.bytes.now in
    let none = sym c.first_other.ensures ∙ c.in_default.is in
    let n : ℕ = byte_count text in
    let long : length (take n bytes) ≡ n = length-take-le n bytes (omega arith) in
    let written : c.write.new.bytes ≡ low_bytes n (decimal_value text) = c.write.ensures ∙ ap (λ (m : ℕ). low_bytes m (decimal_value text)) long in
    let size = significant_length (decimal_value text) n c.significant.result (drop n bytes) (value_fits text (stops_nowhere text none)) (rw written at c.significant.ensures) in
    let e = number text (length bytes) none (eqb-false (length text) 0 (sym c.if-is_empty.ensures)) (omega arith) size in
    record { answer = e; buffer = rw (← e) (ap (λ (l : List ℕ). l ++ drop n bytes) written) }
