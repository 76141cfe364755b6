-- `words::store_word` meets its contract. Assumes nothing.
use Rattle.std.proofs.Common.{◌≡◌, ℕ, zero, suc, ◌+◌, ◌/◌, ◌%◌, ◌^◌, refl, ◌∙◌, pow-suc, div-one, arith}
use Rattle.std.specs.Int.{byte_at, bytes_low_first}
use native.Mathlib.Nat.{pow-zero, div-div-eq-div-mul}
use borrow.Rule.Slice.PartMut.{Post-is}
use Rattle.integers.specs.Positional.{low_bytes}
use Rattle.words.proofs.store_word.Goals as goal

-- std's bytes from byte i on
low_from : (i k n : ℕ) → bytes_low_first i k n ≡ low_bytes k (n / 256 ^ i)
unfolding low_bytes
low_from i zero n = refl
low_from i (suc k) n = rw (low_from (suc i) k n, byte i, pow-suc, ← div-div-eq-div-mul) refl
  where
    byte : (i : ℕ) → byte_at i n ≡ n / 256 ^ i % 256
    byte zero = rw (pow-zero, div-one) refl
    byte (suc i) = refl

pub returns : goal.returns
returns c =
    let args = c.args in
    let low : c.copy_from_slice.new.self ≡ low_bytes 8 args.word = c.copy_from_slice.ensures.after ∙ c.to_le_bytes.ensures ∙ low_from 0 8 args.word ∙ rw (pow-zero, div-one) refl in
    rw (low, Post-is args.at (args.at + 8) args.bytes.now (omega arith)) refl
