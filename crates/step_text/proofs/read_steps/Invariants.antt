-- `step_text::read_steps` meets its contract: the steps of the words read stand at the start of the buffer. Assumes nothing.
use mathlib.Core.Path.{◌≡◌}
use Rattle.step_text.proofs.Written.{Underway}
use Rattle.step_text.proofs.read_steps.Given as goal

abbrev pub invariant-loop-n : goal.invariant-loop-n
invariant-loop-n l = record {
  last : l.n-iterator.a.end ≡ l.words;
  written : Underway l.text l.initial.out l.n-iterator.b.0.now l.n-iterator.a.start l.out;
}
