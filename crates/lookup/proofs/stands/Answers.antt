-- `stands` meets its contract: each way out is one of the three orders of what is shared.
use native.Mathlib.Omega.{arith}
use Rattle.lookup.proofs.Ordering.{stands_behind, stands_as_before, stands_compared}
use Rattle.lookup.proofs.stands.Goals as goal

pub returns-then-prefix-same : goal.returns-then-prefix-same
returns-then-prefix-same c =
    let a = c.args in
    record {
      most = tt;
      order = stands_behind a.word.now a.same a.prefix a.suffix.now c.if-prefix-same.true;
    }

pub returns-then-same-prefix : goal.returns-then-same-prefix
returns-then-same-prefix c =
    let a = c.args in
    record {
      most = c.requires;
      order = stands_as_before a.word.now a.same a.prefix a.suffix.now c.if-same-prefix.true;
    }

pub overflow_add-result : goal.overflow_add-result
overflow_add-result c = let a = c.args in
    let k = stands_compared a.word.now a.same a.prefix a.suffix.now c.requires c.if-prefix-same.false c.if-same-prefix.false c.compare.ensures c.in-Less.is in
    omega (arith, k.0, c.well_formed.0.0)

pub returns-in-Less : goal.returns-in-Less
returns-in-Less c =
    let a = c.args in
    let k = stands_compared a.word.now a.same a.prefix a.suffix.now c.requires c.if-prefix-same.false c.if-same-prefix.false c.compare.ensures c.in-Less.is in
    let both = k in
    record { most = both.0; order = both.1 }

pub returns-in-Equal : goal.returns-in-Equal
returns-in-Equal c =
    let a = c.args in
    let k = stands_compared a.word.now a.same a.prefix a.suffix.now c.requires c.if-prefix-same.false c.if-same-prefix.false c.compare.ensures c.in-Equal.is in
    let both = k in
    record { most = both.0; order = both.1 }

pub returns-in-Greater : goal.returns-in-Greater
returns-in-Greater c =
    let a = c.args in
    let k = stands_compared a.word.now a.same a.prefix a.suffix.now c.requires c.if-prefix-same.false c.if-same-prefix.false c.compare.ensures c.in-Greater.is in
    let both = k in
    record { most = both.0; order = both.1 }
