-- `hexadecimal::is_hex` meets its contract: what is passed and what is left of the text decide. Assumes nothing.
use mathlib.Core.Path.{◌≡◌}
use mathlib.Core.Bool.{◌&&◌}
use lib.ListN.{drop}
use Rattle.hexadecimal.specs.Hex.{is_hex}
use Rattle.hexadecimal.proofs.is_hex.Given as goal

abbrev pub invariant-loop-byte : goal.invariant-loop-byte
invariant-loop-byte l = is_hex l.text ≡ (l.all && is_hex (drop l.byte-index l.text))
