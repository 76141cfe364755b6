-- What testing a step comes to, each verdict with what it is given for and no other. Assumes nothing.
use Rattle.rules.specs.declared.Refusal.{Refusal}
use Rattle.std.specs.Prelude.{Result, Ok, Err}
use mathlib.Core.Path.{◌≡◌, refl, sym, ap, ◌∙◌}
use mathlib.Core.Logic.{◌↔◌}
use mathlib.Core.Bool.{Bool, true, false, ◌&&◌, false≢true, and-eq-true_iff}
use mathlib.Core.List.{List}
use Prim.Native.Nat.{ℕ, ◌<◌, ◌≤◌}
use borrow.Author.Tests.{ltb-true, ltb-false, leb-true, eqb-true, eqb-false, lt-ltb, le-ltb, le-leb, ne_eqb}
use native.Mathlib.Omega.{arith}
use native.Mathlib.Nat.{lt_of_lt_of_le}
use lib.Dec.{ltb, eqb, leb, lit<}
use lib.IntN.{ℤ, pos, negsuc, nat_abs}
use lib.ListN.{length}
use Rattle.rules.specs.Limits.{value_bound}
use Rattle.rules.specs.declared.Refusal.TheVariants.{MalformedStep, ValueIsZero, ValueTooLarge}
use Rattle.chains.specs.Steps.{Step, subtracting}
use Rattle.chains.specs.Values.{step_value}
use Rattle.chains.specs.Sound.{WellFormed, Representable}
use Rattle.step_values.specs.Verdicts.{is_well_formed, step_verdict}

-- what testing step i comes to, its value z: for 9 before 10 or 11
pub data Tested (i : ℕ) (s : Step) (z : ℤ) : Result Unit Refusal → Type 0 where
  passed : WellFormed i s → Representable z → Tested i s z (Ok tt)
  malformed : (WellFormed i s → ⊥) → Tested i s z (Err (MalformedStep i))
  value_is_zero : WellFormed i s → z ≡ pos 0 → Tested i s z (Err (ValueIsZero i))
  value_too_large : WellFormed i s → value_bound ≤ nat_abs z → Tested i s z (Err (ValueTooLarge i))

-- what the code's test of a form says
pub within : (operation first second i : ℕ) → leb operation subtracting && ltb first i && ltb second i ≡ true → (operation ≤ subtracting) × (first < i) × (second < i)
within operation first second i e =
    let known = (and-eq-true_iff (leb operation subtracting && ltb first i) (ltb second i)).0 e in
    let low = (and-eq-true_iff (leb operation subtracting) (ltb first i)).0 known.0 in
    (leb-true _ _ low.0, ltb-true _ _ low.1, ltb-true _ _ known.1)

pub well_formed_is : (i : ℕ) (s : Step) → is_well_formed i s ≡ true ↔ WellFormed i s
unfolding is_well_formed
well_formed_is i s =
    (λ e. let w = within s.operation s.first s.second i e in record { operation = w.0; first = w.1; second = w.2 }, λ n. rw (le-leb s.operation subtracting n.operation, lt-ltb s.first i n.first, lt-ltb s.second i n.second))

not_well_formed : (i : ℕ) (s : Step) → (WellFormed i s → ⊥) → is_well_formed i s ≡ false
not_well_formed i s h = go (is_well_formed i s) refl
  where
    go : (t : Bool) → is_well_formed i s ≡ t → is_well_formed i s ≡ false
    go true e = absurd (h ((well_formed_is i s).0 e))
    go false e = e

pub size_zero : (z : ℤ) → nat_abs z ≡ 0 → z ≡ pos 0
size_zero (pos n) e = ap pos e
size_zero (negsuc n) e = absurd (omega arith)

module _ (values : List ℤ) (s : Step) where
  abbrev i : ℕ
  i = length values

  abbrev z : ℤ
  z = step_value values s

  pub tested : Tested (length values) s (step_value values s) (step_verdict values s)
  unfolding step_verdict
  tested = go (is_well_formed i s) refl (eqb (nat_abs z) 0) refl (ltb (nat_abs z) value_bound) refl
    where
      go : (a : Bool) → is_well_formed i s ≡ a → (b : Bool) → eqb (nat_abs z) 0 ≡ b → (c : Bool) → ltb (nat_abs z) value_bound ≡ c → Tested i s z (step_verdict values s)
      go false e b f c g = rw e (malformed (λ n. false≢true (sym e ∙ (well_formed_is i s).1 n)))
      go true e true f c g = rw (e, f) (value_is_zero ((well_formed_is i s).0 e) (size_zero z (eqb-true _ _ f)))
      go true e false f true g = rw (e, f, g) (passed ((well_formed_is i s).0 e) (record { nonzero = λ h. eqb-false _ _ f (ap nat_abs h); small = ltb-true _ _ g }))
      go true e false f false g = rw (e, f, g) (value_too_large ((well_formed_is i s).0 e) (ltb-false _ _ g))

  pub tested_only : {v : Result Unit Refusal} → Tested (length values) s (step_value values s) v → step_verdict values s ≡ v
  unfolding step_verdict
  tested_only (passed n h) = rw ((well_formed_is i s).1 n, ne_eqb (nat_abs z) 0 (λ e. h.nonzero (size_zero z e)), lt-ltb (nat_abs z) value_bound h.small)
  tested_only (malformed h) = rw (not_well_formed i s h)
  tested_only (value_is_zero n e) = rw ((well_formed_is i s).1 n, e)
  tested_only (value_too_large n l) =
      let some : 0 < nat_abs z = lt_of_lt_of_le (lit< tt) l in
      rw ((well_formed_is i s).1 n, ne_eqb (nat_abs z) 0 (λ e. omega arith), le-ltb (nat_abs z) value_bound l)
