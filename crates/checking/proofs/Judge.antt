-- Judging the steps of a plan: passed exactly where all of them are sound, and else stopped at the first that is not. Assumes nothing.
use Rattle.std.specs.Prelude.{Result, Ok, Err}
use mathlib.Core.Path.{◌≡◌, sym, ap, ◌∙◌}
use mathlib.Core.List.{List}
use Prim.Native.Nat.{ℕ, zero, suc, ◌+◌, ◌<◌, ◌≤◌}
use native.Mathlib.Decide.{dec_lt}
use native.Mathlib.Omega.{arith}
use lib.IntN.{ℤ}
use lib.ListN.{length, drop}
use lib.Seq.{drop-cons, drop-length}
use Rattle.rules.specs.declared.Refusal.{Refusal}
use Rattle.chains.specs.Steps.{Step, add}
use Rattle.chains.specs.Values.{at, start, values_of}
use Rattle.chains.specs.Sound.{step_at, WellFormed, Representable, Sound}
use Rattle.chains.proofs.Values.{values_after, length_after, after_none, after_all, after_more, value_at}
use Rattle.step_values.specs.Verdicts.{step_verdict}
use Rattle.step_values.proofs.Tested.{Tested, passed, tested, tested_only}
use Rattle.checking.specs.Check.{Judged, judge}

-- ---- the step after n others, with the values of the positions below its own

module _ (steps : List Step) (n : ℕ) (h : n < length steps) where
  step_tested : Tested (suc n) (step_at steps n) (at (values_of steps) (suc n)) (step_verdict (values_after steps n) (step_at steps n))
  step_tested = rw (length_after steps n (omega arith), ← value_at steps n h) at (tested (values_after steps n) (step_at steps n))

  step_tested_only : {v : Result Unit Refusal} → Tested (suc n) (step_at steps n) (at (values_of steps) (suc n)) v → step_verdict (values_after steps n) (step_at steps n) ≡ v
  step_tested_only t = tested_only (values_after steps n) (step_at steps n) (rw (length_after steps n (omega arith), ← value_at steps n h) t)

  -- one that passes is well formed
  pub step_formed : step_verdict (values_after steps n) (step_at steps n) ≡ Ok tt → WellFormed (suc n) (step_at steps n)
  step_formed e = elim (rw e at step_tested) [ passed f v ↦ f ]

  -- it passes: on to the next
  pub judge_next : step_verdict (values_after steps n) (step_at steps n) ≡ Ok tt
      → judge (values_after steps n) (drop n steps) ≡ judge (values_after steps (suc n)) (drop (suc n) steps)
  unfolding judge
  judge_next e = rw (drop-cons steps n (add 0 0) h, e) (ap (λ (values : List ℤ). judge values (drop (suc n) steps)) (sym (after_more steps n h)))

  -- it fails: the first refusal, with the values recorded by then
  pub judge_stop : {r : Refusal} → step_verdict (values_after steps n) (step_at steps n) ≡ Err r
      → judge (values_after steps n) (drop n steps) ≡ record { verdict = Err r; values = values_after steps n }
  unfolding judge
  judge_stop e = rw (drop-cons steps n (add 0 0) h, e)

-- ---- all steps

-- the step after n others is sound
pub record SoundAt (steps : List Step) (n : ℕ) : Type 0 where
  pub formed : WellFormed (suc n) (step_at steps n)
  pub representable : Representable (at (values_of steps) (suc n))

-- the first n steps are sound
abbrev pub SoundTo : List Step → ℕ → Type 0
SoundTo steps n = (m : ℕ) → m < n → SoundAt steps m

sound_more : (steps : List Step) (n : ℕ) → SoundTo steps n → SoundAt steps n → SoundTo steps (suc n)
sound_more steps n before here m h = go (dec_lt m n)
  where
    go : Dec (m < n) → SoundAt steps m
    go (yes l) = before m l
    go (no l) = let e : m ≡ n = omega arith in rw e here

module _ (steps : List Step) where
  -- after the last: none refused
  pub judge_end : judge (values_after steps (length steps)) (drop (length steps) steps) ≡ record { verdict = (Ok tt); values = values_of steps }
  unfolding judge
  judge_end = rw (drop-length steps, after_all steps)

  -- what is sound can be left behind
  judge_from : (n : ℕ) → n ≤ length steps → SoundTo steps n → judge start steps ≡ judge (values_after steps n) (drop n steps)
  judge_from zero h b = rw (after_none steps)
  judge_from (suc n) h b =
      let here : SoundAt steps n = b n (omega arith) in
      judge_from n (omega arith) (λ m l. b m (omega arith)) ∙ judge_next steps n h (step_tested_only steps n h (passed here.formed here.representable))

-- what judging comes to
pub data Judges (steps : List Step) : Judged → Type 0 where
  sound : Sound steps → Judges steps (record { verdict = (Ok tt); values = values_of steps })
  stops : {n : ℕ} {r : Refusal} → n < length steps → SoundTo steps n → Tested (suc n) (step_at steps n) (at (values_of steps) (suc n)) (Err r)
      → Judges steps (record { verdict = Err r; values = values_after steps n })

module _ (steps : List Step) where
  pub judges_only : {j : Judged} → Judges steps j → judge start steps ≡ j
  judges_only (sound s) = judge_from steps (length steps) (omega arith) (λ m l. record { formed = s.formed m l; representable = s.representable m l }) ∙ judge_end steps
  judges_only (stops {n} h b t) = judge_from steps n (omega arith) b ∙ judge_stop steps n h (step_tested_only steps n h t)

  judges_from : (k n : ℕ) → n + k ≡ length steps → SoundTo steps n → (j : Judged) × Judges steps j
  judges_from zero n e b = (_, sound (record { formed = λ m l. (b m (omega arith)).formed; representable = λ m l. (b m (omega arith)).representable }))
  judges_from (suc k) n e b =
      go (step_verdict (values_after steps n) (step_at steps n)) (step_tested steps n (omega arith)) (λ s. judges_from k (suc n) (omega arith) s)
    where
      go : (v : Result Unit Refusal) → Tested (suc n) (step_at steps n) (at (values_of steps) (suc n)) v → (SoundTo steps (suc n) → (j : Judged) × Judges steps j)
          → (j : Judged) × Judges steps j
      go (Ok tt) (passed x y) later = later (sound_more steps n b (record { formed = x; representable = y }))
      go (Err r) t later = (_, stops {n = n} (omega arith) b t)

  pub judges : Judges steps (judge start steps)
  judges = let found = judges_from (length steps) 0 (omega arith) (λ m l. absurd (omega arith)) in rw (judges_only found.1) found.1
