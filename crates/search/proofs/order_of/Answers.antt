-- `order_of` meets its contract, test by test.
use borrow.Author.Tests.{not-true, not-false}
use Rattle.search.proofs.Shapes.{names_wrong, leaves_wrong, many_bytes, shape_told}
use Rattle.search.proofs.order_of.Goals as goal

pub returns-then-not-are_names : goal.returns-then-not-are_names
returns-then-not-are_names c =
    record {
      shape = λ query. names_wrong _ c.are_names.result c.are_names.ensures.rules (not-true _ c.if-not-are_names.true-raw);
      order = tt;
    }

pub returns-then-not-is_cut : goal.returns-then-not-is_cut
returns-then-not-is_cut c =
    record {
      shape = λ query. leaves_wrong _ c.is_cut.result c.is_cut.ensures.rules (not-true _ c.if-not-is_cut.true-raw);
      order = tt;
    }

pub returns-then-leaves-gt-MAX_INDEX_BYTES : goal.returns-then-leaves-gt-MAX_INDEX_BYTES
returns-then-leaves-gt-MAX_INDEX_BYTES c =
    record {
      shape = λ query. many_bytes _ c.if-leaves-gt-MAX_INDEX_BYTES.true;
      order = tt;
    }

pub returns : goal.returns
returns c =
    record {
      shape = λ query. shape_told _ (c.are_names.ensures.rules.0 (not-false _ c.if-not-are_names.false-raw)) (c.is_cut.ensures.rules.0 (not-false _ c.if-not-is_cut.false-raw)) c.if-leaves-gt-MAX_INDEX_BYTES.false c.newest_first.result c.newest_first.ensures;
      order = c.newest_first.ensures.placed;
    }
