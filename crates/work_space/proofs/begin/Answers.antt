-- `work_space::begin` meets its contract. Assumes nothing.
use Rattle.records.proofs.Recording.{recording_none, recording_more}
use lib.IntN.{pos}
use lib.Dec.{lit<}
use mathlib.Core.List.{[]}
use mathlib.Core.Path.{◌≡◌, refl}
use Prim.Native.Nat.{ℕ}
use native.Mathlib.Omega.{arith}
use Rattle.chains.specs.Sound.{Representable}
use Rattle.chains.specs.Records.{record_of}
use Rattle.work_space.proofs.begin.Goals as goal

one_representable : Representable (pos 1)
one_representable = record { nonzero = λ e. let z : ◌≡◌ {A = ℕ} 1 0 = cc in omega arith; small = lit< tt }

pub returns : goal.returns
unfolding record_of
returns c =
    let space = c.args.space.now in
    recording_more space space [] (recording_none space) (pos 1) 0 c.store.new.space refl one_representable (rw c.one.ensures at c.store.ensures)
