-- `decide` meets its contract: the newer leaf's entry, or that it has none and what the older says.
use borrow.Enum.Refused.{opened}
use mathlib.Core.Path.{subst}
use Rattle.lookup.specs.Entries.{EntryFound}
use Rattle.lookup.proofs.EntryLaws.{found_no_entry}
use Rattle.lookup.proofs.decide.Goals as goal

pub overflow_sub-result : goal.overflow_sub-result
overflow_sub-result c = let a = c.args in
    let p = c.requires.1 in
    (subst (EntryFound p.0 a.word.now a.docid) c.in-At.is (c.entry_in.ensures p.0 p.1)).0

pub returns-in-At : goal.returns-in-At
returns-in-At c = let a = c.args in
    λ ts us g. (subst (EntryFound ts a.word.now a.docid) c.in-At.is (c.entry_in.ensures ts g.0)).1

pub returns-in_default-entry_in : goal.returns-in_default-entry_in
returns-in_default-entry_in c = let a = c.args in
    λ ts us g. (
      found_no_entry ts a.word.now a.docid c.entry_in.result (opened c.in_default.in_default-own.keys2) (c.entry_in.ensures ts g.0),
      found_no_entry us a.word.now a.docid c.entry_in-2.result (opened c.in_default-entry_in.in_default-entry_in-own.keys2) (c.entry_in-2.ensures us g.1),
    )

pub overflow_sub-result-2 : goal.overflow_sub-result-2
overflow_sub-result-2 c = let a = c.args in
    let p = c.requires.2 in
    (subst (EntryFound p.0 a.word.now a.docid) c.in-At-entry_in.is (c.entry_in-2.ensures p.0 p.1)).0

pub returns : goal.returns
returns c = let a = c.args in
    λ ts us g. (
      found_no_entry ts a.word.now a.docid c.entry_in.result (opened c.in_default.in_default-own.keys2) (c.entry_in.ensures ts g.0),
      (subst (EntryFound us a.word.now a.docid) c.in-At-entry_in.is (c.entry_in-2.ensures us g.1)).1,
    )
