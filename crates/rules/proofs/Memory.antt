-- A call that writes: its outcomes, and what each leaves in the buffer. Assumes nothing.
use Rattle.std.specs.Prelude.{Result, Ok, Err}
use mathlib.Core.Path.{◌≡◌, refl, sym}
use mathlib.Core.Logic.{◌≢◌}
use mathlib.Core.List.{List, ◌++◌}
use Prim.Native.Nat.{ℕ, ◌<◌, ◌≤◌}
use native.Mathlib.Omega.{arith}
use lib.ListN.{length, drop}
use Rattle.rules.specs.declared.Refusal.{Refusal}
use Rattle.rules.specs.Outcome.{Outcome, refused, answered, refusal, outcome_of}
use Rattle.rules.specs.Memory.{written, leaves}
use Rattle.rules.proofs.Fitted.{too_small, fits, by_room}

module _ (values : ℕ → List ℕ) (tests : Result Unit Refusal) (bytes : List ℕ) (room : ℕ) where
  abbrev pub writes : Outcome
  writes = outcome_of values (written tests bytes room)

  -- each outcome with what it is given for
  pub data Writes : Outcome → Type 0 where
    stopped : {r : Refusal} → tests ≡ Err r → Writes (refusal r)
    no_room : tests ≡ Ok tt → room < length bytes → Writes (refused 6 (length bytes))
    all_fits : tests ≡ Ok tt → length bytes ≤ room → Writes (answered (values (length bytes)))

  pub writes_only : {o : Outcome} → Writes o → writes ≡ o
  writes_only (stopped t) = rw t
  writes_only (no_room t h) = rw (t, too_small bytes room h)
  writes_only (all_fits t h) = rw (t, fits bytes room h)

pub writes_one : (values : ℕ → List ℕ) (tests : Result Unit Refusal) (bytes : List ℕ) (room : ℕ) → Writes values tests bytes room (writes values tests bytes room)
writes_one values (Err r) bytes room = stopped refl
writes_one values (Ok tt) bytes room = by_room bytes room (λ w. Writes values (Ok tt) bytes room (outcome_of values w)) (no_room refl) (all_fits refl)

not_both : {n p : ℕ} {vs : List ℕ} → refused n p ≢ answered vs
not_both e =
    let z : ◌≡◌ {A = ℕ} 0 1 = cc in
    absurd (omega arith)

module _ (values : ℕ → List ℕ) (tests : Result Unit Refusal) (bytes out : List ℕ) where
  -- a refusal changes nothing
  pub refused_leaves : (n p : ℕ) → writes values tests bytes (length out) ≡ refused n p → leaves (written tests bytes (length out)) bytes out ≡ out
  refused_leaves n p = go (written tests bytes (length out))
    where
      go : (w : Result ℕ Refusal) → outcome_of values w ≡ refused n p → leaves w bytes out ≡ out
      go (Ok _) e = absurd (not_both (sym e))
      go (Err _) e = refl

  -- on success the bytes stand at the start of the buffer, and those above stay
  pub answered_leaves : (vs : List ℕ) → writes values tests bytes (length out) ≡ answered vs
      → leaves (written tests bytes (length out)) bytes out ≡ bytes ++ drop (length bytes) out
  answered_leaves vs = go (writes_one values tests bytes (length out))
    where
      go : {o : Outcome} → Writes values tests bytes (length out) o → o ≡ answered vs → leaves (written tests bytes (length out)) bytes out ≡ bytes ++ drop (length bytes) out
      go (stopped t) q = absurd (not_both q)
      go (no_room t h) q = absurd (not_both q)
      go (all_fits t h) q = rw (t, fits bytes (length out) h)
