-- The steps of a text's words in a buffer, one word after the other. Assumes nothing.
use Rattle.rules.specs.declared.Refusal.{Refusal}
use Rattle.std.specs.Prelude.{Result, Ok, Err}
use mathlib.Core.Path.{◌≡◌, refl, sym, ap, ◌∙◌}
use mathlib.Core.List.{List, [], ◌∷◌, ◌++◌, map, append_assoc, append-nil}
use Prim.Native.Nat.{ℕ, ◌+◌, ◌*◌, ◌<◌, ◌≤◌}
use native.Mathlib.Decide.{dec_lt}
use native.Mathlib.Omega.{arith}
use borrow.Author.Tests.{lt-ltb, le-ltb}
use lib.ListN.{length, take, drop, length-append, length-drop, length-map, take-append-drop}
use lib.Seq.{take_at, drop_at, drop-drop, length-take-le}
use Rattle.rules.specs.Limits.{step_bytes, plan_steps}
use Rattle.rules.specs.declared.Refusal.TheVariants.{PlanLength}
use Rattle.chains.specs.Steps.{Step, step_bytes_of, plan_bytes_of}
use Rattle.chains.proofs.Bytes.{length_plan}
use Rattle.text_words.specs.Words.{text_words}
use Rattle.step_words.specs.Word.{word_step}
use Rattle.step_text.specs.Steps.{text_steps, count_test}

-- a step for each word
pub length_steps : (text : List ℕ) → length (text_steps text) ≡ step_bytes * length (text_words text)
unfolding text_steps
length_steps text = length_plan (map word_step (text_words text)) ∙ ap (λ (n : ℕ). step_bytes * n) (length-map (text_words text) word_step)

-- each verdict on the number of words with what it is given for
pub data CountTest (n : ℕ) : Result Unit Refusal → Type 0 where
  too_many : plan_steps < n → CountTest n (Err PlanLength)
  counted : n ≤ plan_steps → CountTest n (Ok tt)

pub count_only : {n : ℕ} {v : Result Unit Refusal} → CountTest n v → count_test n ≡ v
unfolding count_test
count_only {n} (too_many h) = simp (lt-ltb plan_steps n h)
count_only {n} (counted h) = simp (le-ltb plan_steps n h)

pub count_test_lem : (n : ℕ) → CountTest n (count_test n)
count_test_lem n = go (dec_lt plan_steps n)
  where
    go : Dec (plan_steps < n) → CountTest n (count_test n)
    go (yes h) = let t = too_many h in rw (count_only t) t
    go (no h) = let t : CountTest n (Ok tt) = counted (omega arith) in rw (count_only t) t

length_step : (s : Step) → length (step_bytes_of s) ≡ step_bytes
unfolding step_bytes_of
length_step s = refl

-- the first word's step comes first
first_step : (text word rest : List ℕ) → text_words text ≡ word ∷ text_words rest → text_steps text ≡ step_bytes_of (word_step word) ++ text_steps rest
unfolding text_steps plan_bytes_of
first_step text word rest e = ap (λ (words : List (List ℕ)). plan_bytes_of (map word_step words)) e

-- what is written of the first n words, and what is left to read
pub record Underway (text lent rest : List ℕ) (n : ℕ) (out : List ℕ) : Type 0 where
  pub long : length out ≡ length lent
  pub room : step_bytes * length (text_words text) ≤ length lent
  pub words : n + length (text_words rest) ≡ length (text_words text)
  pub bytes : take (step_bytes * n) out ++ text_steps rest ≡ text_steps text
  pub above : drop (step_bytes * n) out ≡ drop (step_bytes * n) lent

pub start : (text out : List ℕ) → step_bytes * length (text_words text) ≤ length out → Underway text out text 0 out
start text out h = record { long = refl; room = h; words = omega arith; bytes = refl; above = refl }

module _ (text lent rest : List ℕ) (n : ℕ) (out : List ℕ) (u : Underway text lent rest n out) where
  -- at the end all are written
  pub finish : length (text_words rest) ≡ 0 → out ≡ text_steps text ++ drop (step_bytes * length (text_words text)) lent
  finish e =
      let none : text_steps rest ≡ [] = no_bytes (text_steps rest) (omega (arith, length_steps rest)) in
      let all : take (step_bytes * n) out ≡ text_steps text = sym (append-nil (take (step_bytes * n) out)) ∙ (rw none at u.bytes) in
      let whole : length (text_words text) ≡ n = omega (arith, u.words) in
      rw whole (sym (take-append-drop (step_bytes * n) out) ∙ rw (all, u.above))
    where
      no_bytes : (l : List ℕ) → length l ≡ 0 → l ≡ []
      no_bytes [] h = refl
      no_bytes (x ∷ l) h = absurd (omega arith)

  -- one word more
  module _ (word after : List ℕ) (next : text_words rest ≡ word ∷ text_words after) where
    pub room_more : step_bytes * n + step_bytes ≤ length out
    room_more = omega (arith, u.room, u.long, u.words, ap length next)

    pub step_more : (s : Step) → s ≡ word_step word → {out' : List ℕ} → out' ≡ take (step_bytes * n) out ++ (step_bytes_of s ++ drop (step_bytes * n + step_bytes) out)
        → Underway text lent after (n + 1) out'
    step_more s e {out' = out'} p =
        let m : ℕ = step_bytes * n in
        let front : List ℕ = take m out ++ step_bytes_of s in
        let above : List ℕ = drop (m + step_bytes) out in
        let next_place : step_bytes * (n + 1) ≡ m + step_bytes = omega arith in
        let fits : m + step_bytes ≤ length out = room_more in
        let size : length front ≡ m + step_bytes = rw (length-append (take m out) (step_bytes_of s), length-take-le m out (omega arith), length_step s) in
        let made : out' ≡ front ++ above = p ∙ sym (append_assoc (take m out) (step_bytes_of s) above) in
        record {
          long = ap length made ∙ length-append front above ∙ omega (arith, size, length-drop (m + step_bytes) out, u.long);
          room = u.room;
          words = omega (arith, u.words, ap length next);
          bytes = rw (made, next_place, take_at front above (m + step_bytes) size, append_assoc (take m out) (step_bytes_of s) (text_steps after), e, ← first_step rest word after next) u.bytes;
          above = rw (made, next_place, drop_at front above (m + step_bytes) size, ← drop-drop step_bytes m out, u.above) (drop-drop step_bytes m lent);
        }
