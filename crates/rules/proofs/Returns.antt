-- A call that writes, past its tests: the answer, in the call's own form, and the buffer at each return. Assumes nothing.
use Rattle.rules.specs.declared.Refusal.{Refusal}
use Rattle.std.specs.Prelude.{Result, Ok, Err}
use mathlib.Core.Path.{◌≡◌}
use mathlib.Core.List.{List, ◌++◌}
use Prim.Native.Nat.{ℕ, ◌<◌, ◌≤◌}
use lib.ListN.{length, drop}
use Rattle.rules.specs.declared.Refusal.TheVariants.{RoomTooSmall}
use Rattle.rules.specs.Memory.{written, leaves}
use Rattle.rules.proofs.Fitted.{too_small, fits}

module _ {A : Type 0} (form : Result ℕ Refusal → A) {tests : Result Unit Refusal} (bytes out : List ℕ) {n : ℕ} (passed : tests ≡ Ok tt) (needed : n ≡ length bytes) where
  pub returns_refused : length out < n
      → (form (Err (RoomTooSmall n)) ≡ form (written tests bytes (length out))) × (out ≡ leaves (written tests bytes (length out)) bytes out)
  returns_refused h = let e = too_small bytes (length out) (rw needed at h) in (rw (passed, e, needed), rw (passed, e))

  pub returns_written : n ≤ length out → {after : List ℕ} → after ≡ bytes ++ drop n out
      → (form (Ok n) ≡ form (written tests bytes (length out))) × (after ≡ leaves (written tests bytes (length out)) bytes out)
  returns_written h w = let e = fits bytes (length out) (rw needed at h) in (rw (passed, e, needed), rw (passed, e, ← needed) w)
