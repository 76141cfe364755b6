-- What checking a step comes to at each of its outcomes. Assumes nothing.
use Rattle.std.specs.Prelude.{Result, Ok, Err}
use mathlib.Core.Path.{◌≡◌, refl, sym, ap, ◌∙◌}
use mathlib.Core.Logic.{◌≢◌}
use mathlib.Core.Bool.{Bool, true, false, cond}
use mathlib.Core.List.{List, [], ◌∷◌, ◌++◌}
use Prim.Native.Nat.{ℕ, ◌+◌, ◌*◌, ◌<◌, ◌≤◌}
use borrow.Author.Tests.{ltb-true, ltb-false, eqb-true, eqb-false, eq-eqb, ne_eqb}
use native.Mathlib.Omega.{arith}
use lib.Bits.{bit_xor}
use lib.Dec.{ltb, eqb}
use lib.IntN.{ℤ, pos, negsuc, neg_ℤ, nat_abs, ◌+ℤ◌}
use lib.ListN.{length, get_or, length-append, get_or-append}
use mir.Val.{bool_byte}
use Rattle.rules.specs.Limits.{value_bytes, value_bound, record_bytes}
use Rattle.rules.specs.declared.Refusal.{Refusal}
use Rattle.rules.specs.declared.Refusal.TheVariants.{MalformedStep, ValueIsZero, ValueTooLarge}
use Rattle.integers.specs.Positional.{bytes_value, low_bytes}
use Rattle.integers.specs.Signed.{sign_of, is_same}
use Rattle.integers.proofs.Blocks.{placed}
use Rattle.chains.specs.Steps.{Step, adding}
use Rattle.chains.specs.Values.{at, step_value}
use Rattle.chains.specs.Sound.{WellFormed, Representable}
use Rattle.chains.specs.Counts.{is_doubling}
use Rattle.chains.specs.Records.{record_of}
use Rattle.records.specs.Recording.{Recording, size_bytes, distance_of}
use Rattle.records.proofs.Recording.{has_record, recording_more}
use Rattle.records.proofs.Records.{record_read}
use Rattle.step_values.specs.Verdicts.{is_well_formed, step_verdict, step_answer, grown, StepChecked, signs_at}
use Rattle.rules.specs.Outcome.{and_then}
use Rattle.step_values.proofs.Signed.{addend, addend_size, agreeing, same_sign, same_sizes, opposite_size, opposite_sign, opposite_differ}
use Rattle.step_values.proofs.Tested.{value_is_zero, value_too_large, passed, size_zero, tested_only}

-- ---- a step by its two values

module _ (values : List ℤ) (s : Step) where
  abbrev x : ℤ
  x = at values s.first

  -- what is added to the first value
  abbrev w : ℤ
  w = addend s.operation (at values s.second)

  value_is : step_value values s ≡ x +ℤ w
  unfolding step_value
  value_is = go (eqb s.operation adding) (at values s.second)
    where
      go : (adds : Bool) (y : ℤ) → cond adds (x +ℤ y) (x +ℤ neg_ℤ y) ≡ x +ℤ cond adds y (neg_ℤ y)
      go true y = refl
      go false y = refl

  doubling_same : is_doubling values s ≡ is_same x w
  unfolding is_doubling
  doubling_same = go (eqb s.operation adding) (at values s.second)
    where
      go : (adds : Bool) (y : ℤ) → cond adds (is_same x y) (is_same x (neg_ℤ y)) ≡ is_same x (cond adds y (neg_ℤ y))
      go true y = refl
      go false y = refl

size_some : (z : ℤ) → z ≢ pos 0 → nat_abs z ≢ 0
size_some (pos n) d e = d (ap pos e)
size_some (negsuc n) d e = omega arith

not_zero : (z : ℤ) → nat_abs z ≢ 0 → z ≢ pos 0
not_zero z d e = d (ap nat_abs e)

-- of two sizes below a bound the distance is below it
distance_lt : (m n b : ℕ) → m < b → n < b → distance_of m n < b
distance_lt m n b hm hn = omega arith

module _ (lent next : List ℕ) (values : List ℤ) (s : Step) {v : Result Unit Refusal} (e : step_verdict values s ≡ v) where
  answered : {r : Result Bool Refusal} → r ≡ and_then v (Ok (is_doubling values s)) → Recording lent next (grown v values (step_value values s))
      → (r ≡ step_answer values s) × Recording lent next (grown (step_verdict values s) values (step_value values s))
  answered q w = rw e (q, w)

-- ---- the sign and the size in record j

abbrev sign_at : List ℕ → ℕ → ℕ
sign_at here j = get_or here (record_bytes * j) 0

abbrev size_at : List ℕ → ℕ → ℕ
size_at here j = bytes_value (size_bytes here (record_bytes * j + 1))

read : {lent here : List ℕ} {values : List ℤ} (j : ℕ) → Recording lent here values → j < length values → record_bytes * j + record_bytes ≤ length here
    → (sign_at here j ≡ sign_of (at values j)) × (size_at here j ≡ nat_abs (at values j))
read {lent} {here} {values} j r h fits = record_read here (record_bytes * j) fits (at values j) (has_record lent here values r j h)

-- ---- the outcomes

module _ (s : Step) (n : ℕ) (here : List ℕ) where
  pub malformed_checked : is_well_formed (n + 1) s ≡ false → StepChecked s n here here (Err (MalformedStep (n + 1)))
  unfolding step_verdict
  malformed_checked h lent values long r = answered lent here values s {v = Err (MalformedStep (n + 1))} (rw (long, h)) refl r

  module _ (formed : WellFormed (n + 1) s) (room : record_bytes * n + 2 * record_bytes ≤ length here) where
    abbrev first : ℕ
    first = size_at here s.first

    abbrev second : ℕ
    second = size_at here s.second

    -- the operation, where what is added has the first value's sign
    abbrev signs : ℕ
    signs = signs_at here (record_bytes * s.first) (record_bytes * s.second)

    record Values (values : List ℤ) : Type 0 where
      sign : sign_at here s.first ≡ sign_of (x values s)
      first_size : first ≡ nat_abs (x values s)
      second_size : second ≡ nat_abs (w values s)
      first_representable : Representable (x values s)
      second_small : nat_abs (w values s) < value_bound
      agree : eqb signs s.operation ≡ eqb (sign_of (x values s)) (sign_of (w values s))

    both : (lent : List ℕ) (values : List ℤ) → length values ≡ n + 1 → Recording lent here values → Values values
    both lent values long r =
        let j : s.first < length values = rw long formed.first in
        let k : s.second < length values = rw long formed.second in
        let one = read s.first r j (omega (arith, formed.first)) in
        let two = read s.second r k (omega (arith, formed.second)) in
        let y = r.representable s.second k in
        record {
          sign = one.0;
          first_size = one.1;
          second_size = two.1 ∙ sym (addend_size s.operation (at values s.second));
          first_representable = r.representable s.first j;
          second_small = rw (addend_size s.operation (at values s.second)) y.small;
          agree = rw (one.0, two.0) (agreeing s.operation (x values s) (at values s.second) formed.operation y.nonzero);
        }

    formed_at : (values : List ℤ) → length values ≡ n + 1 → WellFormed (length values) s
    formed_at values long = rw long formed

    -- of one sign
    module _ (e : signs ≡ s.operation) where
      one_sign : (values : List ℤ) → Values values → sign_of (x values s) ≡ sign_of (w values s)
      one_sign values v = eqb-true _ _ (sym v.agree ∙ eq-eqb signs s.operation e)

      sum_is : (values : List ℤ) → Values values → (sign_at here s.first ≡ sign_of (step_value values s)) × (first + second ≡ nat_abs (step_value values s))
      sum_is values v =
          let q = same_sign (x values s) (w values s) (one_sign values v) in
          rw (value_is values s) (v.sign ∙ sym q.0, rw (v.first_size, v.second_size) (sym q.1))

      pub sum_too_large : ltb (first + second) value_bound ≡ false → StepChecked s n here here (Err (ValueTooLarge (n + 1)))
      sum_too_large l lent values long r =
          let q = sum_is values (both lent values long r) in
          answered lent here values s (rw long at (tested_only values s (value_too_large (formed_at values long) (rw (← q.1) (ltb-false _ _ l))))) refl r

      pub sum_stored : (next : List ℕ) → length next ≡ length here → ltb (first + second) value_bound ≡ true
          → next ≡ placed here (record_bytes * (n + 1)) record_bytes (sign_at here s.first ∷ low_bytes value_bytes (first + second))
          → (d : Bool) → d ≡ eqb (size_at next s.first) (size_at next s.second) → StepChecked s n here next (Ok d)
      unfolding record_of
      sum_stored next kept l store d same lent values long r =
          let v = both lent values long r in
          let z : ℤ = step_value values s in
          let q = sum_is values v in
          let fine : Representable z = record { nonzero = not_zero z (λ f. size_some (x values s) v.first_representable.nonzero (omega (arith, q.1, v.first_size))); small = rw (← q.1) (ltb-true _ _ l) } in
          let more : Recording lent next (values ++ (z ∷ [])) = recording_more lent here values r z (n + 1) next long fine (rw (← q.0, ← q.1) store) in
          let again : (j : ℕ) → j < n + 1 → size_at next j ≡ nat_abs (at values j) =
          λ j h. rw (get_or-append values (z ∷ []) (pos 0) j (rw long h)) at (read j more (rw length-append (omega arith)) (omega arith)).1 in
          let sizes : is_doubling values s ≡ eqb (nat_abs (x values s)) (nat_abs (w values s)) = doubling_same values s ∙ same_sizes (x values s) (w values s) (one_sign values v) in
          answered lent next values s (tested_only values s (passed (formed_at values long) fine))
          (ap Ok (same ∙ rw (again s.first formed.first, again s.second formed.second, ← addend_size s.operation (at values s.second)) (sym sizes))) more

    -- of opposite signs
    module _ (e : signs ≢ s.operation) where
      two_signs : (values : List ℤ) → Values values → sign_of (x values s) ≢ sign_of (w values s)
      two_signs values v = eqb-false _ _ (sym v.agree ∙ ne_eqb signs s.operation e)

      apart_is : (values : List ℤ) → Values values → distance_of first second ≡ nat_abs (step_value values s)
      apart_is values v = rw (value_is values s, v.first_size, v.second_size) (sym (opposite_size (x values s) (w values s) (two_signs values v)))

      pub apart_zero : eqb (distance_of first second) 0 ≡ true → StepChecked s n here here (Err (ValueIsZero (n + 1)))
      apart_zero l lent values long r =
          let q = apart_is values (both lent values long r) in
          answered lent here values s (rw long at (tested_only values s (value_is_zero (formed_at values long) (size_zero _ (sym q ∙ eqb-true _ _ l))))) refl r

      pub apart_stored : (next : List ℕ) → eqb (distance_of first second) 0 ≡ false
          → next ≡ placed here (record_bytes * (n + 1)) record_bytes (bit_xor (sign_at here s.first) (bool_byte (ltb first second)) ∷ low_bytes value_bytes (distance_of first second))
          → StepChecked s n here next (Ok false)
      unfolding record_of
      apart_stored next l store lent values long r =
          let v = both lent values long r in
          let z : ℤ = step_value values s in
          let q = apart_is values v in
          let some : nat_abs z ≢ 0 = λ f. eqb-false _ _ l (q ∙ f) in
          let sign : bit_xor (sign_at here s.first) (bool_byte (ltb first second)) ≡ sign_of z =
          rw (v.sign, v.first_size, v.second_size, value_is values s) (sym (opposite_sign (x values s) (w values s) (two_signs values v) (rw (value_is values s) at some))) in
          let fine : Representable z = record {
            nonzero = not_zero z some;
            small = rw (← q, v.first_size, v.second_size) (distance_lt _ _ value_bound v.first_representable.small v.second_small);
          } in
          answered lent next values s (tested_only values s (passed (formed_at values long) fine))
          (ap Ok (sym (doubling_same values s ∙ opposite_differ (x values s) (w values s) (two_signs values v))))
          (recording_more lent here values r z (n + 1) next long fine (rw (← sign, ← q) store))
