-- `stretch_from` meets its contract. The loop's invariant: the entries up to the one for `at` are taken, and `next` stands on the one after it. The
-- measure is what is left up to the largest docid.
use Prim.Native.Nat.{◌+◌, ◌-◌, ◌≤◌, ◌<◌}
use mathlib.Core.List.{List}
use Rattle.doclist.specs.Doclist.{Entry}
use Rattle.cursors.specs.Groups.{last_key}
use Rattle.cursors.specs.Arrays.{StandsOn}
use Rattle.postings.specs.Lists.{Stretched}
use Rattle.postings.proofs.stretch_from.Given as goal

abbrev pub invariant-loop-next : goal.invariant-loop-next
invariant-loop-next l = ((e : Entry) (es : List Entry) → StandsOn l.leaves e es l.docid l.body l.last → Stretched l.keep l.leaves l.rest e es l.last (record { end = l.close + 1; last = l.at; next = l.next }))
    × (l.body ≤ l.close)
    × (l.close ≤ l.last)
    × (l.at ≤ l.next.docid)
    × (l.at < last_key → l.at < l.next.docid)
    × (l.next.body ≤ l.last)
    × (l.next.docid < last_key → l.close + 1 < l.next.body)
    × (l.docid < last_key → (l.docid < l.next.docid) × (l.at < last_key))

abbrev pub decreases-loop-next : goal.decreases-loop-next
decreases-loop-next l = last_key - l.at
