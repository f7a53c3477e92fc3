-- `find_entry` meets its contract: each way out is an answer whose claim holds.
use borrow.Enum.Refused.{opened}
use native.Mathlib.Omega.{arith}
use mathlib.Core.Path.{sym, ap, ◌∙◌, subst}
use borrow.Author.Tests.{not-true, not-false}
use mir.Facts.{to_z-of_z}
use Rattle.common.proofs.Cases.{false_not_true}
use Rattle.doclist.specs.Docid.{key_of}
use Rattle.leaf.specs.Answers.{CheckShape}
use Rattle.lookup.specs.Entries.{Decides}
use Rattle.lookup.proofs.EntryLaws.{refused_no_leaf, accepted_leaf, decides_claim, deciding_exact}
use Rattle.lookup.proofs.find_entry.Goals as goal

pub returns-then-not-entry_shape : goal.returns-then-not-entry_shape
returns-then-not-entry_shape c = let a = c.args in
    deciding_exact a.columns a.newer.now a.older.now a.word.now a.docid
    (λ h. false_not_true (sym (not-true _ c.if-not-entry_shape.true-raw) ∙ c.entry_shape.ensures.1 h))

pub returns-in_default : goal.returns-in_default
returns-in_default c = let a = c.args in
    let h = c.entry_shape.ensures.0 (not-false _ c.if-not-entry_shape.false-raw) in
    let n : CheckShape a.columns a.newer.now = record { some = h.some; few = h.few; size = omega (arith, h.size) } in
    deciding_exact a.columns a.newer.now a.older.now a.word.now a.docid (h, refused_no_leaf a.columns a.newer.now c.check.result n c.check.ensures.exact (opened c.in_default.in_default-own.keys2))

pub returns-in_default-check : goal.returns-in_default-check
returns-in_default-check c = let a = c.args in
    let h = c.entry_shape.ensures.0 (not-false _ c.if-not-entry_shape.false-raw) in
    let o : CheckShape a.columns a.older.now = record { some = h.some; few = h.few; size = omega (arith, h.size) } in
    let l = accepted_leaf a.columns a.newer.now c.check.result c.check.ensures.exact c.in-Accepted.is in
    deciding_exact a.columns a.newer.now a.older.now a.word.now a.docid (h, l, refused_no_leaf a.columns a.older.now c.check-2.result o c.check-2.ensures.exact (opened c.in_default-check.in_default-check-own.keys2))

pub decide-requires : goal.decide-requires
decide-requires c = let a = c.args in
    let h = c.entry_shape.ensures.0 (not-false _ c.if-not-entry_shape.false-raw) in
    let l = accepted_leaf a.columns a.newer.now c.check.result c.check.ensures.exact c.in-Accepted.is in
    let m = accepted_leaf a.columns a.older.now c.check-2.result c.check-2.ensures.exact c.in-Accepted-check.is in
    (omega (arith, h.word_right.some), l, m)

pub returns : goal.returns
returns c = let a = c.args in
    let h = c.entry_shape.ensures.0 (not-false _ c.if-not-entry_shape.false-raw) in
    let l = accepted_leaf a.columns a.newer.now c.check.result c.check.ensures.exact c.in-Accepted.is in
    let m = accepted_leaf a.columns a.older.now c.check-2.result c.check-2.ensures.exact c.in-Accepted-check.is in
    let k = c.key_of.ensures ∙ ap key_of (to_z-of_z c.ranges.docid) in
    let d = subst (λ n. Decides l.0 m.0 a.word.now n c.decide.result) k (c.decide.ensures l.0 m.0 (l.1, m.1)) in
    deciding_exact a.columns a.newer.now a.older.now a.word.now a.docid (decides_claim a.columns a.newer.now a.older.now a.word.now a.docid l.0 m.0 h (l.1, m.1) c.decide.result d)
