-- A row is evaluated: the arrays of a compiled query are what the evaluation asks for.
use Prim.Native.Nat.{ℕ}
use mathlib.Core.Path.{ap}
use mathlib.Core.Bool.{Bool}
use mathlib.Core.List.{List}
use Rattle.query.specs.declared.Query.{Query}
use Rattle.query.specs.Tree.{Tree}
use Rattle.evaluate.specs.Evaluate.{Compiled, DecidesQuery}
use Rattle.engine.specs.Run.{IsCompiled}
use Rattle.engine.specs.Rows.{RowDecided}

compiled_arrays : (query : Query) (tree : Tree) → IsCompiled query tree
    → Compiled tree query.words.ties query.words.distances query.words.columns query.words.count query.ops.codes query.ops.len
compiled_arrays query tree c =
    record {
      ties_are = ap (λ (q : Query). q.words.ties) c.same;
      distances_are = ap (λ (q : Query). q.words.distances) c.same;
      columns_are = ap (λ (q : Query). q.words.columns) c.same;
      count_is = ap (λ (q : Query). q.words.count) c.same;
      codes_are = ap (λ (q : Query). q.ops.codes) c.same;
      len_is = ap (λ (q : Query). q.ops.len) c.same;
    }

pub decided_evaluated : (query : Query) {leaves starts matched : List ℕ} {count : ℕ} {marks spare : List ℕ} {r : Bool}
    → DecidesQuery query.words.ties query.words.distances query.words.columns query.words.count query.ops.codes query.ops.len leaves starts matched count marks spare r
    → RowDecided query leaves starts matched count marks spare r
decided_evaluated query decides tree live docid hits compiled given agrees room =
    decides tree hits live docid compiled.fit (compiled_arrays query tree compiled) given agrees room
