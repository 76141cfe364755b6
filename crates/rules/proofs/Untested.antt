-- A call that writes and tests nothing but the room: each outcome with what it is given for, and no other; and what it leaves. Assumes nothing.
use Rattle.std.specs.Prelude.{Ok}
use mathlib.Core.Path.{◌≡◌, refl}
use mathlib.Core.Logic.{◌↔◌}
use mathlib.Core.List.{List, [], ◌∷◌, ◌++◌}
use Prim.Native.Nat.{ℕ, ◌<◌, ◌≤◌}
use lib.ListN.{length, drop}
use Rattle.rules.specs.Outcome.{Outcome, refused, answered, written_outcome, length_value}
use Rattle.rules.specs.Memory.{fitted, leaves}
use Rattle.rules.proofs.Fitted.{too_small, fits, by_room}
use Rattle.rules.proofs.Memory as memory

module _ (bytes : List ℕ) (room : ℕ) where
  abbrev pub outcome : Outcome
  outcome = written_outcome (fitted bytes room)

  pub data Given : Outcome → Type 0 where
    six : {p : ℕ} → room < length bytes → p ≡ length bytes → Given (refused 6 p)
    answer : {vs : List ℕ} → length bytes ≤ room → vs ≡ length bytes ∷ [] → Given (answered vs)

  given_only : {o : Outcome} → Given o → outcome ≡ o
  given_only (six h e) = rw (too_small bytes room h, e)
  given_only (answer h e) = rw (fits bytes room h, e)

  -- every outcome is one of these
  pub no_other : Given outcome
  no_other = by_room bytes room (λ w. Given (written_outcome w)) (λ h. six h refl) (λ h. answer h refl)

  given : {o : Outcome} → outcome ≡ o → Given o
  given e = rw e at no_other

  -- 6, place the bytes needed: more are to be written than are lent
  pub refuses_6 : (p : ℕ) → outcome ≡ refused 6 p ↔ (room < length bytes) × (p ≡ length bytes)
  refuses_6 p = (λ e. elim (given e) [ six h q ↦ (h, q) ], λ h. given_only (six h.0 h.1))

  -- otherwise the length is answered
  pub answers : (vs : List ℕ) → outcome ≡ answered vs ↔ (length bytes ≤ room) × (vs ≡ length bytes ∷ [])
  answers vs = (λ e. elim (given e) [ answer h q ↦ (h, q) ], λ h. given_only (answer h.0 h.1))

module _ (bytes out : List ℕ) where
  -- a refusal changes nothing
  pub refused_leaves : (n p : ℕ) → outcome bytes (length out) ≡ refused n p → leaves (fitted bytes (length out)) bytes out ≡ out
  refused_leaves = memory.refused_leaves length_value (Ok tt) bytes out

  -- on success the bytes stand at the start of the buffer, and those above stay
  pub answered_leaves : (vs : List ℕ) → outcome bytes (length out) ≡ answered vs → leaves (fitted bytes (length out)) bytes out ≡ bytes ++ drop (length bytes) out
  answered_leaves = memory.answered_leaves length_value (Ok tt) bytes out
