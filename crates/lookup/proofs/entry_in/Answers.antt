-- `entry_in` meets its contract: the entry's place in the list, moved to where the list stands.
use borrow.Enum.Refused.{opened}
use native.Mathlib.Omega.{arith}
use mathlib.Core.Path.{ap, subst}
use mathlib.Core.List.{List}
use lib.ListN.{length}
use Rattle.leaf.specs.Leaf.{Term, LeafIs, ListIs}
use Rattle.lookup.specs.Words.{WordFound}
use Rattle.lookup.proofs.EntryLaws.{found_none, no_list_no_entry, list_entry, list_entry_most, list_no_entry}
use Rattle.lookup.proofs.entry_in.Goals as goal

pub returns-in_default : goal.returns-in_default
returns-in_default c = let a = c.args in
    λ ts g. no_list_no_entry a.docid (found_none ts a.word.now c.seek.result (opened c.in_default.in_default-own.keys2) (c.seek.ensures a.columns ts g))

pub overflow_add-end : goal.overflow_add-end
overflow_add-end c = let a = c.args in
    let l : (ts : List Term) → LeafIs a.columns a.leaf.now ts → ListIs ts a.word.now c.in-Found.start c.in-Found.size = λ ts g. (subst (WordFound ts a.word.now) c.in-Found.is (c.seek.ensures a.columns ts g)).0 in
    let p = c.requires.1 in
    omega (arith, (l p.0 p.1).inside, ap length p.1.bytes, c.well_formed.0.0)

pub slice_bounds-find-end : goal.slice_bounds-find-end
slice_bounds-find-end c = let a = c.args in
    let l : (ts : List Term) → LeafIs a.columns a.leaf.now ts → ListIs ts a.word.now c.in-Found.start c.in-Found.size = λ ts g. (subst (WordFound ts a.word.now) c.in-Found.is (c.seek.ensures a.columns ts g)).0 in
    let p = c.requires.1 in
    omega (arith, (l p.0 p.1).inside, ap length p.1.bytes)

pub returns-in_default-find : goal.returns-in_default-find
returns-in_default-find c = let a = c.args in
    let l : (ts : List Term) → LeafIs a.columns a.leaf.now ts → ListIs ts a.word.now c.in-Found.start c.in-Found.size = λ ts g. (subst (WordFound ts a.word.now) c.in-Found.is (c.seek.ensures a.columns ts g)).0 in
    λ ts g. list_no_entry a.columns a.leaf.now a.docid g (l ts g) c.find.ensures.content (opened c.in_default-find.in_default-find-own.keys2)

pub overflow_add-result : goal.overflow_add-result
overflow_add-result c = let a = c.args in
    let l : (ts : List Term) → LeafIs a.columns a.leaf.now ts → ListIs ts a.word.now c.in-Found.start c.in-Found.size = λ ts g. (subst (WordFound ts a.word.now) c.in-Found.is (c.seek.ensures a.columns ts g)).0 in
    let p = c.requires.1 in
    let m = list_entry_most a.columns a.leaf.now a.docid p.1 (l p.0 p.1) c.find.ensures.content c.in-At.is in
    omega (arith, (l p.0 p.1).inside, ap length p.1.bytes, c.well_formed.0.0)

pub overflow_add-result-2 : goal.overflow_add-result-2
overflow_add-result-2 c = let a = c.args in
    let l : (ts : List Term) → LeafIs a.columns a.leaf.now ts → ListIs ts a.word.now c.in-Found.start c.in-Found.size = λ ts g. (subst (WordFound ts a.word.now) c.in-Found.is (c.seek.ensures a.columns ts g)).0 in
    let p = c.requires.1 in
    let m = list_entry_most a.columns a.leaf.now a.docid p.1 (l p.0 p.1) c.find.ensures.content c.in-At.is in
    omega (arith, (l p.0 p.1).inside, ap length p.1.bytes, c.well_formed.0.0)

pub returns : goal.returns
returns c = let a = c.args in
    let l : (ts : List Term) → LeafIs a.columns a.leaf.now ts → ListIs ts a.word.now c.in-Found.start c.in-Found.size = λ ts g. (subst (WordFound ts a.word.now) c.in-Found.is (c.seek.ensures a.columns ts g)).0 in
    λ ts g. list_entry a.columns a.leaf.now a.docid g (l ts g) c.find.ensures.content c.in-At.is
