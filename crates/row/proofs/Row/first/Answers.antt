-- `first` meets its contract: it starts at the first hit.
use Rattle.row.proofs.Rows.{first_kept}
use Rattle.row.proofs.Row.first.Goals as goal

pub returns : goal.returns
returns c = let a = c.args in
    first_kept a.self.now.leaves.now a.self.now.starts.now a.self.now.masks.now a.i c.first_from.result c.first_from.ensures
