-- Refusal 6 by cases. Assumes nothing.
use Rattle.rules.specs.declared.Refusal.{Refusal}
use Rattle.std.specs.Prelude.{Result, Ok, Err}
use mathlib.Core.Path.{◌≡◌}
use mathlib.Core.List.{List}
use Prim.Native.Nat.{ℕ, ◌<◌, ◌≤◌}
use borrow.Author.Tests.{lt-ltb, le-ltb}
use native.Mathlib.Decide.{dec_lt}
use native.Mathlib.Omega.{arith}
use lib.ListN.{length}
use Rattle.rules.specs.declared.Refusal.TheVariants.{RoomTooSmall}
use Rattle.rules.specs.Memory.{fitted}

module _ (bytes : List ℕ) (room : ℕ) where
  pub too_small : room < length bytes → fitted bytes room ≡ Err (RoomTooSmall (length bytes))
  unfolding fitted
  too_small h = rw (lt-ltb room (length bytes) h)

  pub fits : length bytes ≤ room → fitted bytes room ≡ Ok (length bytes)
  unfolding fitted
  fits h = rw (le-ltb room (length bytes) h)

  -- one or the other: what holds of both answers holds
  pub by_room : (P : Result ℕ Refusal → Type 0) → (room < length bytes → P (Err (RoomTooSmall (length bytes)))) → (length bytes ≤ room → P (Ok (length bytes))) → P (fitted bytes room)
  by_room P small all = go (dec_lt room (length bytes))
    where
      go : Dec (room < length bytes) → P (fitted bytes room)
      go (yes h) = rw (too_small h) (small h)
      go (no h) = let l : length bytes ≤ room = omega arith in rw (fits l) (all l)
