-- A digit string is the table of the bytes of its places. Assumes nothing.
use mathlib.Core.Path.{◌≡◌, sym, ◌∙◌}
use mathlib.Core.List.{List, ◌++◌}
use Prim.Native.Nat.{ℕ}
use lib.IntN.{ℤ, pos}
use lib.ListN.{length, drop, length-map, get_or-map}
use Rattle.integers.specs.Tabulate.{tabulate}
use Rattle.integers.proofs.Tabulate.{tabulate_of}
use Rattle.signed_digits.specs.Bytes.{digit_byte, digit_bytes}
use Rattle.digit_strings.specs.Places.{place_byte}

bytes_table : (ds : List ℤ) → digit_bytes ds ≡ tabulate (place_byte ds) (length (digit_bytes ds))
unfolding place_byte
bytes_table ds = tabulate_of (place_byte ds) (digit_bytes ds) (λ i h. get_or-map digit_byte ds i (pos 0))

-- all its places, written to the start of a buffer
pub places_written : (ds : List ℤ) (out : List ℕ) {n : ℕ} → n ≡ length ds → tabulate (place_byte ds) n ++ drop n out ≡ digit_bytes ds ++ drop n out
places_written ds out e = rw (e ∙ sym (length-map ds digit_byte), ← bytes_table ds)
