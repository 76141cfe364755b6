-- `triples::Tripled::new` meets its contract: the words below k are those of 3 e. Assumes nothing.
use Rattle.std.proofs.Common.{◌≡◌, ℕ, ◌+◌, ◌^◌, ◌<◌, ◌≤◌, length, get_or}
use Rattle.rules.specs.Limits.{number_words}
use Rattle.triples.proofs.Triple.{TripledBelow}
use Rattle.triples.proofs.Tripled.new.Given as goal

abbrev pub invariant-loop-k : goal.invariant-loop-k
invariant-loop-k l =
    (length l.triple ≡ number_words + 1) × (l.carry ≤ 2) × TripledBelow l.k l.fn.words l.triple l.carry × ((i : ℕ) → get_or l.triple i 0 < 2 ^ 64)
