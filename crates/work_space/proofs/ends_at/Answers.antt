-- `work_space::ends_at` meets its contract. Assumes nothing.
use Rattle.chain_values.specs.Value.{integer_of}
use Rattle.work_space.proofs.End.{ends_at}
use Rattle.work_space.proofs.ends_at.Goals as goal

pub returns : goal.returns
returns c =
    let args = c.args in
    ends_at args.number.now args.space.now args.steps (integer_of c.load.result) c.load.ensures c.is_number.result c.is_number.ensures
