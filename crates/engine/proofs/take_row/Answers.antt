-- `take_row` meets its contract: the row that the cursors give is evaluated, and they go on.
use Rattle.engine.proofs.RowLaws.{row_evaluated}
use Rattle.engine.proofs.take_row.Goals as goal

pub row_holds-holds-requires : goal.row_holds-holds-requires
row_holds-holds-requires c = c.requires

pub returns : goal.returns
returns c = λ tree live groups ready.
    row_evaluated {query = c.args.query} c.advance-row.result c.go_on-next.result c.requires c.advance-row.ensures c.go_on-next.ensures tree live groups ready c.row_holds-holds.ensures
