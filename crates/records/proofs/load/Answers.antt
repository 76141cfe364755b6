-- `records::load` meets its contract. Assumes nothing.
use Rattle.chain_values.specs.Value.{integer_of}
use Rattle.records.proofs.Records.{value_read}
use Rattle.records.proofs.load.Goals as goal

pub returns : goal.returns
unfolding integer_of
returns c =
    let space = c.args.space.now in
    let at = c.args.at in
    λ z h. rw c.load_size.ensures (value_read space at c.requires z h)
