-- The last element of a list with one element more below. Assumes nothing.
use mathlib.Core.Path.{◌≡◌}
use mathlib.Core.Logic.{◌↔◌}
use mathlib.Core.List.{List, [], ◌∷◌}
use Prim.Native.Nat.{◌<◌}
use native.Mathlib.Omega.{arith}
use native.Mathlib.Numerals.{sub-one}
use lib.ListN.{length}
use Rattle.lists.specs.Top.{TopOtherThan}

pub top_cons : {A : Type 0} (z x : A) (l : List A) → TopOtherThan z (x ∷ l) ↔ ((x ≡ z → 0 < length l) × TopOtherThan z l)
top_cons z x [] = (
  λ top. (λ e. absurd (top (omega arith) e), λ l. absurd (omega arith)),
  λ r l e. omega (arith, r.0 e),
)
top_cons z x (_ ∷ l) = (
  λ top. (λ e. omega arith, λ h. simp sub-one (simp sub-one at (top (omega arith)))),
  λ r h. simp sub-one (simp sub-one at (r.1 (omega arith))),
)
