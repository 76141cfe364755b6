-- Plans as people write them: a word for each step.
use Rattle.rules.specs.declared.Refusal.{Refusal}
use Rattle.std.specs.Prelude.{ℕ, cond, List, map, ltb, length, Result, Ok, Err}
use Rattle.rules.specs.Limits.{plan_steps}
use Rattle.rules.specs.Memory.{written, leaves}
use Rattle.rules.specs.declared.Refusal.TheVariants.{PlanLength}
use Rattle.chains.specs.Steps.{plan_bytes_of}
use Rattle.text_words.specs.Words.{text_words}
use Rattle.step_words.specs.Word.{word_step}

-- the bytes of a text's steps, in order
unfoldable pub text_steps : List ℕ → List ℕ
text_steps text = plan_bytes_of (map word_step (text_words text))

-- a plan has no more steps than the limit
unfoldable pub count_test : ℕ → Result Unit Refusal
count_test words = cond (ltb plan_steps words) (Err PlanLength) (Ok tt)

-- into a lent buffer: refusal 7 where there are too many, nothing and refusal 6 where there is no room, or all of them
abbrev pub steps_answer : List ℕ → ℕ → Result ℕ Refusal
steps_answer text room = written (count_test (length (text_words text))) (text_steps text) room

-- the buffer afterwards
abbrev pub steps_buffer : List ℕ → List ℕ → List ℕ
steps_buffer text out = leaves (steps_answer text (length out)) (text_steps text) out
