-- What the rules promise of check, as theorems about the definitions that its statement cites. Assumes nothing.
use Rattle.std.specs.Prelude.{Result, Ok, Err}
use mathlib.Core.Path.{◌≡◌, refl, ◌∙◌}
use mathlib.Core.Logic.{◌↔◌, ◌≢◌, ◌⊎◌, inl, inr}
use mathlib.Core.List.{List, [], ◌∷◌}
use Prim.Native.Nat.{ℕ, suc, ◌*◌, ◌%◌, ◌^◌, ◌<◌, ◌≤◌}
use native.Mathlib.Omega.{arith}
use lib.IntN.{ℤ, pos, nat_abs, ℤ_discrete}
use lib.ListN.{length, take}
use Rattle.rules.specs.Limits.{number_bytes, step_bytes, plan_steps, value_bytes, value_bound}
use Rattle.rules.specs.Outcome.{Outcome, refused, answered, refusal, checked_values, checked_outcome, and_then}
use Rattle.rules.specs.declared.Refusal.{Refusal}
use Rattle.integers.specs.Bits.{bit_length}
use Rattle.integers.specs.Positional.{bytes_value}
use Rattle.integers.proofs.Signed.{same_true, same_false}
use Rattle.numbers.specs.Admission.{Padded, Admitted, Positive}
use Rattle.numbers.proofs.Tests.{too_long, padded, refused as not-admitted, is_zero}
use Rattle.chains.specs.Steps.{Step, read_steps, steps_of}
use Rattle.chains.specs.Values.{at, start, values_of, end_of}
use Rattle.chains.specs.Sound.{step_at, WellFormed, Sound}
use Rattle.chains.specs.Counts.{sum_counts, counts_of}
use Rattle.chains.specs.Largest.{largest_bits}
use Rattle.chains.proofs.Largest.{bits_none, bits_all, bits_few, bits_least, bits_end, bits_below}
use Rattle.records.specs.Recording.{recorded}
use Rattle.step_values.proofs.Tested.{Tested, malformed, value_is_zero, value_too_large}
use Rattle.check_admission.specs.Admission.{room_for, admission}
use Rattle.check_admission.proofs.Admission.{Checkable, Admits, number_refused, plan_length, space_too_short, checkable, admits, admits_only}
use Rattle.checking.specs.Check.{Judged, judge, judged, steps_verdict, accepted_of, check_answer, check_space, end_verdict}
use Rattle.checking.proofs.Judge.{SoundTo, Judges, sound, stops, judges, judges_only}

-- step i is the first that is not sound: the steps before it are, and this is wrong with it
pub record FirstAt (steps : List Step) (i : ℕ) (Wrong : Step → ℤ → Type 0) : Type 0 where
  pub before : ℕ
  pub place : i ≡ suc before
  pub within : before < length steps
  pub earlier : SoundTo steps before
  pub wrong : Wrong (step_at steps before) (at (values_of steps) i)

first : {steps : List Step} {n : ℕ} {Wrong : Step → ℤ → Type 0} → n < length steps → SoundTo steps n → Wrong (step_at steps n) (at (values_of steps) (suc n))
    → FirstAt steps (suc n) Wrong
first {n = n} h b w = record { before = n; place = refl; within = h; earlier = b; wrong = w }

-- judging stops there, with the values of the positions below i
first_judged : {steps : List Step} {i : ℕ} {Wrong : Step → ℤ → Type 0} {r : Refusal} (f : FirstAt steps i Wrong)
    → Tested i (step_at steps f.before) (at (values_of steps) i) (Err r) → judge start steps ≡ record { verdict = Err r; values = take i (values_of steps) }
first_judged {steps} f t = rw f.place (judges_only steps (stops f.within f.earlier (rw f.place at t)))

-- ---- each refusal is given exactly when the rules say, and no other

module _ (number plan : List ℕ) (room : ℕ) where
  -- the outcome, in the rules' numbers
  abbrev pub outcome : Outcome
  outcome = checked_outcome (check_answer number plan room)

  -- each outcome with what it is given for
  pub data Given : Outcome → Type 0 where
    one : number_bytes < length number → Given (refused 1 0)
    thirteen : length number ≤ number_bytes → Padded number → Given (refused 13 0)
    two : Admitted number → bytes_value number ≡ 0 → Given (refused 2 0)
    seven : Positive number → (length plan % step_bytes ≢ 0) ⊎ (step_bytes * plan_steps < length plan) → Given (refused 7 0)
    eight : Positive number → length plan % step_bytes ≡ 0 → length plan ≤ step_bytes * plan_steps → room < room_for (length plan) → Given (refused 8 0)
    nine : {i : ℕ} → Checkable number (length plan) room → FirstAt (steps_of plan) i (λ s z. WellFormed i s → ⊥) → Given (refused 9 i)
    ten : {i : ℕ} → Checkable number (length plan) room → FirstAt (steps_of plan) i (λ s z. WellFormed i s × (z ≡ pos 0)) → Given (refused 10 i)
    eleven : {i : ℕ} → Checkable number (length plan) room → FirstAt (steps_of plan) i (λ s z. WellFormed i s × (value_bound ≤ nat_abs z)) → Given (refused 11 i)
    twelve : {i : ℕ} → Checkable number (length plan) room → Sound (steps_of plan) → i ≡ length (steps_of plan) → end_of (steps_of plan) ≢ pos (bytes_value number)
        → Given (refused 12 i)
    accepted : {vs : List ℕ} → Checkable number (length plan) room → Sound (steps_of plan) → end_of (steps_of plan) ≡ pos (bytes_value number)
        → vs ≡ checked_values (accepted_of (steps_of plan)) → Given (answered vs)

  stopped : {r : Refusal} → Admits number (length plan) room (Err r) → outcome ≡ refusal r
  stopped t = rw (admits_only number (length plan) room t)

  -- the outcome by what judging comes to
  outcome_is : Checkable number (length plan) room → {j : Judged} → judge start (steps_of plan) ≡ j
      → let r = length (steps_of plan) in outcome ≡ checked_outcome (and_then (and_then j.verdict (end_verdict number (at j.values r) r)) (Ok (accepted_of (steps_of plan))))
  unfolding steps_verdict judged
  outcome_is a e = rw (admits_only number (length plan) room (checkable a), e)

  refused_first : {i : ℕ} {Wrong : Step → ℤ → Type 0} {r : Refusal} → Checkable number (length plan) room → (f : FirstAt (steps_of plan) i Wrong)
      → Tested i (step_at (steps_of plan) f.before) (at (values_of (steps_of plan)) i) (Err r) → outcome ≡ refusal r
  refused_first a f t = outcome_is a (first_judged f t)

  given_only : {o : Outcome} → Given o → outcome ≡ o
  given_only (one h) = stopped (number_refused (not-admitted (too_long h)))
  given_only (thirteen h p) = stopped (number_refused (not-admitted (padded h p)))
  given_only (two a z) = stopped (number_refused (is_zero a z))
  given_only (seven p w) = stopped (plan_length p w)
  given_only (eight p w f l) = stopped (space_too_short p w f l)
  given_only (nine a f) = refused_first a f (malformed f.wrong)
  given_only (ten a f) = refused_first a f (value_is_zero f.wrong.0 f.wrong.1)
  given_only (eleven a f) = refused_first a f (value_too_large f.wrong.0 f.wrong.1)
  given_only (twelve a s e d) = outcome_is a (judges_only (steps_of plan) (sound s)) ∙ rw (same_false _ _ d, e)
  given_only (accepted a s e v) = outcome_is a (judges_only (steps_of plan) (sound s)) ∙ rw (same_true _ _ e, v)

  -- every outcome is one of these
  pub no_other : Given outcome
  no_other = go (admits number (length plan) room)
    where
      be : {o : Outcome} → Given o → Given outcome
      be g = rw (given_only g) g

      steps : Checkable number (length plan) room → {j : Judged} → Judges (steps_of plan) j → Given outcome
      steps a (sound s) = end (ℤ_discrete (end_of (steps_of plan)) (pos (bytes_value number)))
        where
          end : Dec (end_of (steps_of plan) ≡ pos (bytes_value number)) → Given outcome
          end (yes q) = be (accepted a s q refl)
          end (no d) = be (twelve a s refl d)
      steps a (stops h b (malformed x)) = be (nine a (first h b x))
      steps a (stops h b (value_is_zero x z)) = be (ten a (first h b (x, z)))
      steps a (stops h b (value_too_large x l)) = be (eleven a (first h b (x, l)))

      go : {v : Result Unit Refusal} → Admits number (length plan) room v → Given outcome
      go (number_refused (not-admitted (too_long h))) = be (one h)
      go (number_refused (not-admitted (padded h p))) = be (thirteen h p)
      go (number_refused (is_zero a z)) = be (two a z)
      go (plan_length p w) = be (seven p w)
      go (space_too_short p w f l) = be (eight p w f l)
      go (checkable a) = steps a (judges (steps_of plan))

  given : {o : Outcome} → outcome ≡ o → Given o
  given e = rw e at no_other

  -- 1, place 0: number longer than the limit
  pub refuses_1 : outcome ≡ refused 1 0 ↔ number_bytes < length number
  refuses_1 = (λ e. elim (given e) [ one h ↦ h ], λ h. given_only (one h))

  -- 13, place 0: its highest byte is zero
  pub refuses_13 : outcome ≡ refused 13 0 ↔ (length number ≤ number_bytes) × Padded number
  refuses_13 = (λ e. elim (given e) [ thirteen h p ↦ (h, p) ], λ h. given_only (thirteen h.0 h.1))

  -- 2, place 0: number is zero
  pub refuses_2 : outcome ≡ refused 2 0 ↔ Admitted number × (bytes_value number ≡ 0)
  refuses_2 = (λ e. elim (given e) [ two a z ↦ (a, z) ], λ h. given_only (two h.0 h.1))

  -- 7, place 0: plan bytes not a multiple of a step's, or more than the limit
  pub refuses_7 : outcome ≡ refused 7 0 ↔ Positive number × ((length plan % step_bytes ≢ 0) ⊎ (step_bytes * plan_steps < length plan))
  refuses_7 = (λ e. elim (given e) [ seven p w ↦ (p, w) ], λ h. given_only (seven h.0 h.1))

  -- 8, place 0: work space shorter than r + 1 records
  pub refuses_8 : outcome ≡ refused 8 0 ↔ Positive number × (length plan % step_bytes ≡ 0) × (length plan ≤ step_bytes * plan_steps) × (room < room_for (length plan))
  refuses_8 = (λ e. elim (given e) [ eight p w f l ↦ (p, w, f, l) ], λ h. given_only (eight h.0 h.1 h.2 h.3))

  -- 9, place i: unknown operation, or j or k not below i
  pub refuses_9 : (i : ℕ) → outcome ≡ refused 9 i ↔ Checkable number (length plan) room × FirstAt (steps_of plan) i (λ s z. WellFormed i s → ⊥)
  refuses_9 i = (λ e. elim (given e) [ nine a f ↦ (a, f) ], λ h. given_only (nine h.0 h.1))

  -- 10, place i: the value at step i is zero
  pub refuses_10 : (i : ℕ) → outcome ≡ refused 10 i ↔ Checkable number (length plan) room × FirstAt (steps_of plan) i (λ s z. WellFormed i s × (z ≡ pos 0))
  refuses_10 i = (λ e. elim (given e) [ ten a f ↦ (a, f) ], λ h. given_only (ten h.0 h.1))

  -- 11, place i: the value at step i has the size of the bound or more
  pub refuses_11 : (i : ℕ) → outcome ≡ refused 11 i ↔ Checkable number (length plan) room × FirstAt (steps_of plan) i (λ s z. WellFormed i s × (value_bound ≤ nat_abs z))
  refuses_11 i = (λ e. elim (given e) [ eleven a f ↦ (a, f) ], λ h. given_only (eleven h.0 h.1))

  -- 12, place r: all steps sound, a(r) is not the number
  pub refuses_12 : (i : ℕ)
      → outcome ≡ refused 12 i ↔ Checkable number (length plan) room × Sound (steps_of plan) × (i ≡ length (steps_of plan)) × (end_of (steps_of plan) ≢ pos (bytes_value number))
  refuses_12 i = (λ e. elim (given e) [ twelve a s p d ↦ (a, s, p, d) ], λ h. given_only (twelve h.0 h.1 h.2 h.3))

  -- counts and bits are answered exactly for a sound plan that ends at the number, and they are its own
  pub accepts : (vs : List ℕ)
      → outcome ≡ answered vs ↔ Checkable number (length plan) room × Sound (steps_of plan) × (end_of (steps_of plan) ≡ pos (bytes_value number)) × (vs ≡ checked_values (accepted_of (steps_of plan)))
  accepts vs = (λ e. elim (given e) [ accepted a s x v ↦ (a, s, x, v) ], λ h. given_only (accepted h.0 h.1 h.2 h.3))

  -- ---- the bits of the largest size

  bits_are : {d a s b : ℕ} → outcome ≡ answered (d ∷ a ∷ s ∷ b ∷ []) → b ≡ largest_bits (steps_of plan)
  bits_are e = let same = ((accepts _).0 e).3 in cc

  module _ {d a s b : ℕ} (e : outcome ≡ answered (d ∷ a ∷ s ∷ b ∷ [])) where
    -- the least number of bits that holds every size
    pub least_bits : (k : ℕ) → b ≤ k ↔ ((i : ℕ) → i ≤ length (steps_of plan) → nat_abs (at (values_of (steps_of plan)) i) < 2 ^ k)
    least_bits k = rw (bits_are e) (bits_least (steps_of plan) k)

    -- no fewer than the number has, no more than a value may have, and at most one for each step beside that of position 0
    pub number_bits : bit_length (bytes_value number) ≤ b
    number_bits = let end = ((accepts _).0 e).2 in rw (bits_are e) (rw end at (bits_end (steps_of plan)))

    pub value_bits : b ≤ 8 * value_bytes
    value_bits = rw (bits_are e) (bits_below (steps_of plan) (omega arith) ((accepts _).0 e).1)

    pub step_bits : b ≤ suc (length (steps_of plan))
    step_bits = rw (bits_are e, ← bits_all (steps_of plan)) (bits_few (steps_of plan) (length (steps_of plan)) (omega arith))

  -- the empty plan: no steps, and 1 bit
  pub empty_bits : {vs : List ℕ} → plan ≡ [] → outcome ≡ answered vs → vs ≡ 0 ∷ 0 ∷ 0 ∷ 1 ∷ []
  unfolding steps_of read_steps counts_of sum_counts
  empty_bits {vs} z e = ((accepts vs).0 e).3 ∙ rw (z, bits_none)

-- ---- memory

module _ (number plan space : List ℕ) where
  pub untouched : {r : Refusal} → admission number (length plan) (length space) ≡ Err r → check_space number plan space ≡ space
  untouched e = rw e

  filled : Checkable number (length plan) (length space) → {j : Judged} → judge start (steps_of plan) ≡ j → check_space number plan space ≡ recorded j.values space
  unfolding judged
  filled a e = rw (admits_only number (length plan) (length space) (checkable a), e)

  -- refusals other than 9 to 12 change nothing
  pub refused_untouched : (n p : ℕ) → outcome number plan (length space) ≡ refused n p → (n ≤ 8) ⊎ (12 < n) → check_space number plan space ≡ space
  refused_untouched n p e h = to (given number plan (length space) e) h
    where
      stays : {r : Refusal} → Admits number (length plan) (length space) (Err r) → check_space number plan space ≡ space
      stays t = untouched (admits_only number (length plan) (length space) t)

      none : {n : ℕ} → 8 < n → n ≤ 12 → (n ≤ 8) ⊎ (12 < n) → ⊥
      none l m (inl h) = omega arith
      none l m (inr h) = omega arith

      to : {n p : ℕ} → Given number plan (length space) (refused n p) → (n ≤ 8) ⊎ (12 < n) → check_space number plan space ≡ space
      to (one l) h = stays (number_refused (not-admitted (too_long l)))
      to (thirteen l q) h = stays (number_refused (not-admitted (padded l q)))
      to (two a z) h = stays (number_refused (is_zero a z))
      to (seven p w) h = stays (plan_length p w)
      to (eight p w f l) h = stays (space_too_short p w f l)
      to (nine a f) h = absurd (none (omega arith) (omega arith) h)
      to (ten a f) h = absurd (none (omega arith) (omega arith) h)
      to (eleven a f) h = absurd (none (omega arith) (omega arith) h)
      to (twelve a s q d) h = absurd (none (omega arith) (omega arith) h)

  -- at 9 to 11 it has filled records 0 to i - 1
  pub refused_filled : (n i : ℕ) → outcome number plan (length space) ≡ refused n i → 9 ≤ n → n ≤ 11
      → check_space number plan space ≡ recorded (take i (values_of (steps_of plan))) space
  refused_filled n i e l h = to (given number plan (length space) e) l h
    where
      to : {n i : ℕ} → Given number plan (length space) (refused n i) → 9 ≤ n → n ≤ 11 → check_space number plan space ≡ recorded (take i (values_of (steps_of plan))) space
      to (one t) l h = absurd (omega arith)
      to (thirteen t q) l h = absurd (omega arith)
      to (two a z) l h = absurd (omega arith)
      to (seven p w) l h = absurd (omega arith)
      to (eight p w f s) l h = absurd (omega arith)
      to (nine a f) l h = filled a (first_judged f (malformed f.wrong))
      to (ten a f) l h = filled a (first_judged f (value_is_zero f.wrong.0 f.wrong.1))
      to (eleven a f) l h = filled a (first_judged f (value_too_large f.wrong.0 f.wrong.1))
      to (twelve a s q d) l h = absurd (omega arith)

  -- it fills records 0 to r when it accepts or answers 12
  pub all_filled : {vs : List ℕ} {i : ℕ} → (outcome number plan (length space) ≡ answered vs) ⊎ (outcome number plan (length space) ≡ refused 12 i)
      → check_space number plan space ≡ recorded (values_of (steps_of plan)) space
  all_filled {vs} (inl e) = let h = (accepts number plan (length space) vs).0 e in filled h.0 (judges_only (steps_of plan) (sound h.1))
  all_filled {i = i} (inr e) = let h = (refuses_12 number plan (length space) i).0 e in filled h.0 (judges_only (steps_of plan) (sound h.1))
