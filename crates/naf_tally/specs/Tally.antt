-- What a number e and 3 e have in binary, counted from the lowest word up. No promise speaks of these.
use Rattle.std.specs.Prelude.{◌≡◌, ℕ, zero, suc, ◌+◌, ◌-◌, ◌*◌, ◌≤◌}
use Rattle.std.specs.Int.Bits.{bit_and}
use Rattle.std.specs.Int.Count.{ones}
use Rattle.integers.specs.Bits.{bit_length}
use Rattle.naf_tally.specs.declared.Tally.{Tally}
use Rattle.naf_tally.specs.declared.Top.{Top}

-- how many places hold 1 in a and 0 in b
unfoldable pub only_in : ℕ → ℕ → ℕ
only_in a b = ones (a - bit_and a b)

-- the bit length of a number, by its highest word that is not 0
abbrev pub length_to : Top → ℕ
length_to t = t.under + bit_length t.word

-- the bit length of a number that has v above this many places, and this bit length below
unfoldable pub length_above : ℕ → ℕ → ℕ → ℕ
length_above below places zero = below
length_above below places (suc v) = places + bit_length (suc v)

pub record Within (t : Tally) : Type 0 where
  pub plus : t.plus ≤ t.places
  pub minus : t.minus ≤ t.places
  pub under : t.top.under ≤ t.places
  pub carry : t.carry ≤ 2

-- all of e but the rest above is counted: above, 3 e has three times the rest, and the carry
pub record Tallied (e rest : ℕ) (t : Tally) : Type 0 where
  pub plus : t.plus + only_in (3 * rest + t.carry) rest ≡ only_in (3 * e) e
  pub minus : t.minus + only_in rest (3 * rest + t.carry) ≡ only_in e (3 * e)
  pub length : length_above (length_to t.top) t.places (3 * rest + t.carry) ≡ bit_length (3 * e)
