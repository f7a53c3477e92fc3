-- `announced` meets its contract: each number that is read decides how the reading goes on.
use mathlib.Core.Path.{sym, ◌∙◌}
use borrow.Author.Tests.{lt-ltb, le-ltb, le-leb, lt-leb}
use Rattle.doclist.proofs.announced.Goals as goal

pub returns-in_default : goal.returns-in_default
returns-in_default c = let e = sym c.read.ensures.reader ∙ c.in_default.is in
    simp e

pub returns-then-name-column : goal.returns-then-name-column
returns-then-name-column c = let e = sym c.read.ensures.reader ∙ c.in-Value.is in
    simp (e, le-leb _ _ c.if-name-column.true)

pub returns-then-columns-name : goal.returns-then-columns-name
returns-then-columns-name c = let e = sym c.read.ensures.reader ∙ c.in-Value.is in
    simp (e, lt-leb _ _ c.if-name-column.false, le-ltb _ _ c.if-columns-name.true)

pub returns-in_default-read : goal.returns-in_default-read
returns-in_default-read c = let e = sym c.read.ensures.reader ∙ c.in-Value.is in
    let f = sym c.read-2.ensures.reader ∙ c.in_default-read.is in
    simp (e, lt-leb _ _ c.if-name-column.false, lt-ltb _ _ c.if-columns-name.false, f)

pub returns : goal.returns
returns c = let e = sym c.read.ensures.reader ∙ c.in-Value.is in
    let f = sym c.read-2.ensures.reader ∙ c.in-Value-read.is in
    c.spot_at.ensures ∙ simp (e, lt-leb _ _ c.if-name-column.false, lt-ltb _ _ c.if-columns-name.false, f)
