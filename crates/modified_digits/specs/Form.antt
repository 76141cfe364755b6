-- What the shape of a modified form says of it. No promise speaks of this.
use Rattle.std.specs.Prelude.{◌≡◌, ℕ, ◌*◌, ◌-◌, pos, length}
use Rattle.signed_digits.specs.Naf.{canonical}
use Rattle.signed_digits.specs.Modified.{modified, saved}
use Rattle.modified_digits.specs.declared.Shape.{Shape}

pub record ShapeOf (e : ℕ) (s : Shape) : Type 0 where
  pub digits : s.length ≡ length (modified e)
  pub canonical_digits : s.kept ≡ length (canonical (pos e)) - 3 * saved e
