-- What the call promises: when it refuses, and five bytes a word. What a word comes to is promised in step_words. Assumes nothing.
use Rattle.std.specs.Prelude.{Result, Ok, Err}
use mathlib.Core.Path.{◌≡◌, refl, sym, ap, ◌∙◌}
use mathlib.Core.Logic.{◌↔◌, ◌≢◌, ◌⊎◌, inl, inr}
use mathlib.Core.List.{List, [], ◌∷◌, ◌++◌}
use Prim.Native.Nat.{ℕ, ◌*◌, ◌<◌, ◌≤◌}
use native.Mathlib.Decide.{dec_lt}
use native.Mathlib.Omega.{arith}
use lib.ListN.{length, drop}
use Rattle.rules.specs.Limits.{step_bytes, plan_steps}
use Rattle.rules.specs.declared.Refusal.{Refusal}
use Rattle.rules.specs.declared.Refusal.TheVariants.{PlanLength}
use Rattle.rules.specs.Memory.{fitted}
use Rattle.rules.specs.Outcome.{Outcome, refused, answered, refusal, written_outcome, length_value}
use Rattle.rules.proofs.Memory as memory
use Rattle.rules.proofs.Memory.{Writes, stopped, no_room, all_fits, writes_only, writes_one}
use Rattle.text_words.specs.Words.{text_words}
use Rattle.step_text.specs.Steps.{text_steps, count_test, steps_answer, steps_buffer}
use Rattle.step_text.proofs.Written.{length_steps, CountTest, too_many, counted, count_only, count_test_lem}

-- five bytes a word
pub five_bytes : (text : List ℕ) → length (text_steps text) ≡ step_bytes * length (text_words text)
five_bytes text = length_steps text

-- more words than a plan has steps are refused with 7; any other text only where there is no room
pub too_many_words : (text : List ℕ) (room : ℕ) → plan_steps < length (text_words text) → steps_answer text room ≡ Err PlanLength
too_many_words text room h = rw (count_only (too_many h))

pub few_words : (text : List ℕ) (room : ℕ) → length (text_words text) ≤ plan_steps → steps_answer text room ≡ fitted (text_steps text) room
few_words text room h = rw (count_only (counted h))

-- ---- each refusal is given exactly when the rules say, and no other

-- the bytes that a text's steps need
abbrev pub needed : List ℕ → ℕ
needed text = step_bytes * length (text_words text)

module _ (text : List ℕ) (room : ℕ) where
  -- the outcome, in the rules' numbers
  abbrev pub outcome : Outcome
  outcome = written_outcome (steps_answer text room)

  -- each outcome, with what led there: the number of words decides before the room
  pub data Given : Outcome → Type 0 where
    seven : plan_steps < length (text_words text) → Given (refused 7 0)
    six : {p : ℕ} → length (text_words text) ≤ plan_steps → room < needed text → p ≡ needed text → Given (refused 6 p)
    fits : {vs : List ℕ} → length (text_words text) ≤ plan_steps → needed text ≤ room → vs ≡ needed text ∷ [] → Given (answered vs)

  abbrev verdict : Result Unit Refusal
  verdict = count_test (length (text_words text))

  only : {o : Outcome} → Writes length_value verdict (text_steps text) room o → outcome ≡ o
  only = writes_only length_value verdict (text_steps text) room

  given_only : {o : Outcome} → Given o → outcome ≡ o
  given_only (seven h) = only (stopped (count_only (too_many h)))
  given_only (six a h e) = only (no_room (count_only (counted a)) (rw (length_steps text) h)) ∙ ap (refused 6) (length_steps text ∙ sym e)
  given_only (fits a h e) = only (all_fits (count_only (counted a)) (rw (length_steps text) h)) ∙ ap (λ (n : ℕ). answered (n ∷ [])) (length_steps text) ∙ ap answered (sym e)

  stops : {r : Refusal} → CountTest (length (text_words text)) (Err r) → Given (refusal r)
  stops (too_many h) = seven h

  passes : verdict ≡ Ok tt → length (text_words text) ≤ plan_steps
  passes t = elim (rw t at (count_test_lem (length (text_words text)))) [ counted h ↦ h ]

  -- every outcome is one of these
  pub no_other : Given outcome
  no_other = go (writes_one length_value verdict (text_steps text) room)
    where
      go : {o : Outcome} → Writes length_value verdict (text_steps text) room o → Given o
      go (stopped t) = stops (rw t at (count_test_lem (length (text_words text))))
      go (no_room t h) = six (passes t) (omega (arith, length_steps text)) (length_steps text)
      go (all_fits t h) = fits (passes t) (omega (arith, length_steps text)) (ap (λ (n : ℕ). n ∷ []) (length_steps text))

  given : {o : Outcome} → outcome ≡ o → Given o
  given e = rw e at no_other

  -- 7, place 0: more words than a plan has steps, whatever the room
  pub refuses_7 : outcome ≡ refused 7 0 ↔ plan_steps < length (text_words text)
  refuses_7 = (λ e. elim (given e) [ seven h ↦ h ], λ h. given_only (seven h))

  -- 6, place the bytes needed: the steps are more than the bytes lent
  pub refuses_6 : (p : ℕ) → outcome ≡ refused 6 p ↔ (length (text_words text) ≤ plan_steps) × (room < needed text) × (p ≡ needed text)
  refuses_6 p = (λ e. elim (given e) [ six a h q ↦ (a, h, q) ], λ h. given_only (six h.0 h.1 h.2))

  -- otherwise the length is answered
  pub answers : (vs : List ℕ) → outcome ≡ answered vs ↔ (length (text_words text) ≤ plan_steps) × (needed text ≤ room) × (vs ≡ needed text ∷ [])
  answers vs = (λ e. elim (given e) [ fits a h q ↦ (a, h, q) ], λ h. given_only (fits h.0 h.1 h.2))

  -- with room for the longest plan no text is refused with 6: it has too many words, or its length is answered
  module _ (enough : step_bytes * plan_steps ≤ room) where
    pub steps_room : (p : ℕ) → outcome ≢ refused 6 p
    steps_room p e = let h = (refuses_6 p).0 e in omega arith

    pub steps_room_answer : outcome ≡ refused 7 0 ⊎ outcome ≡ answered (needed text ∷ [])
    steps_room_answer = go (dec_lt plan_steps (length (text_words text)))
      where
        go : Dec (plan_steps < length (text_words text)) → outcome ≡ refused 7 0 ⊎ outcome ≡ answered (needed text ∷ [])
        go (yes h) = inl (refuses_7.1 h)
        go (no h) = inr (given_only (fits (omega arith) (omega arith) refl))

-- ---- memory

-- a refusal changes nothing
pub refused_leaves : (text out : List ℕ) (n p : ℕ) → outcome text (length out) ≡ refused n p → steps_buffer text out ≡ out
refused_leaves text out = memory.refused_leaves length_value (count_test (length (text_words text))) (text_steps text) out

-- on success the steps stand at the start of the buffer, and the bytes above stay
pub answered_leaves : (text out : List ℕ) (vs : List ℕ) → outcome text (length out) ≡ answered vs
    → steps_buffer text out ≡ text_steps text ++ drop (needed text) out
answered_leaves text out vs e = rw (← length_steps text) (memory.answered_leaves length_value (count_test (length (text_words text))) (text_steps text) out vs e)
