-- A part of a buffer that is written whole. Assumes nothing.
use mathlib.Core.Path.{◌≡◌}
use mathlib.Core.List.{List, ◌++◌}
use Prim.Native.Nat.{ℕ, ◌+◌, ◌-◌, ◌≤◌}
use native.Mathlib.Omega.{arith}
use lib.ListN.{length, take, drop, length-take, length-drop}
use lib.Seq.{drop-drop, length-take-le}
use Rattle.integers.specs.Tabulate.{tabulate}

module _ (f : ℕ → ℕ) (l y : List ℕ) where
  -- its first n bytes
  pub front_written : (n : ℕ) → n ≤ length l → y ≡ tabulate f (length (take n l)) → y ++ drop n l ≡ tabulate f n ++ drop n l
  front_written n h w = rw (w, length-take-le n l h)

  -- the n from a up to e
  pub part_written : (a e n : ℕ) → a + n ≡ e → e ≤ length l → y ≡ tabulate f (length (take (e - a) (drop a l)))
      → take a l ++ (y ++ drop (e - a) (drop a l)) ≡ take a l ++ (tabulate f n ++ drop (a + n) l)
  part_written a e n s h w =
      let room : length (take (e - a) (drop a l)) ≡ n = omega (arith, length-take (e - a) (drop a l), length-drop a l) in
      let above : a + (e - a) ≡ a + n = omega arith in
      rw (w, room, drop-drop (e - a) a l, above)
