-- `column_of` meets its contract: the search starts at the first name, and the law of columns says what it finds.
use Rattle.offsets.specs.Cut.{cut}
use Rattle.offsets.proofs.NameSteps.{column_told}
use Rattle.offsets.proofs.column_of.Goals as goal

pub returns : goal.returns
returns c =
    let both = column_told (cut c.args.names.now c.args.ends.now) c.args.name.now _ c.column_from.ensures in
    record { reader = both.0; rules = both.1 }
