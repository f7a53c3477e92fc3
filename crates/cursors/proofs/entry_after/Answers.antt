-- `cursors::entry_after` meets its contract: where an entry stands at `body`, the next one of its list is read after its first
-- byte 0.
use Rattle.std.proofs.Common.{◌≡◌, ℕ, ◌+◌, List, Some, ◌∙◌, ap, arith, length, refl, rules, slice_range, subst, sym}
use Rattle.common.specs.Bytes.{part, span}
use Rattle.cursors.specs.Arrays.{is_open}
use Rattle.cursors.proofs.Bodies.{last_inside, stands_last, next_not_refused, next_here, FirstZero, first_zero}
use Rattle.cursors.proofs.entry_after.Goals as goal

-- the first byte 0 of the part that was taken closes the entry's body, and the list goes on after it
closes : (leaves : List ℕ) {entry : List ℕ} {from to body last size : ℕ} → from ≡ body → to ≡ last → entry ≡ slice_range leaves from to → length entry + from ≡ to
    → FirstZero entry (Some size) → (size ≡ span is_open (part leaves body last)) × (body + size ≡ last → ⊥)
closes leaves {entry} {from} {to} {body} {last} {size} f t q l z =
    let p : entry ≡ part leaves body last = rw (q, f, t) refl in
    (z.0 ∙ ap (span is_open) p, λ e. omega (arith, z.1))

pub returns-in_default-clause-content : goal.returns-in_default-clause-content
returns-in_default-clause-content c e rest small on = absurd (omega (arith, last_inside on, c.in_default.ensures.lookup.0))

pub returns-in_default-first_zero-clause-content : goal.returns-in_default-first_zero-clause-content
returns-in_default-first_zero-clause-content c e rest small on =
    let entry = c.in-Some.entry.now in
    let q : entry ≡ part c.args.leaves.now c.args.body c.args.last = search rules in
    stands_last (length entry) on (sym (first_zero entry c.in_default-first_zero.ensures) ∙ ap (span is_open) q) (omega (arith, last_inside on, c.in-Some.ensures.lookup))

pub returns-in_default-read-clause-content : goal.returns-in_default-read-clause-content
returns-in_default-read-clause-content c e rest small on =
    let entry = c.in-Some.entry.now in
    let size = c.in-Some-first_zero.size in
    let z = closes c.args.leaves.now c.from-from.ensures c.from-to.ensures c.in-Some.ensures.lookup.0.2 c.in-Some.ensures.lookup.0.3 (subst (FirstZero entry) c.in-Some-first_zero.is (first_zero entry c.first_zero.ensures)) in
    let r = rw c.from-from.ensures at c.read.ensures.reader in
    next_not_refused size on z.0 z.1 (sym r ∙ c.in_default-read.is)

pub returns-then-value-eq0-clause-content : goal.returns-then-value-eq0-clause-content
returns-then-value-eq0-clause-content c e rest small on =
    let entry = c.in-Some.entry.now in
    let size = c.in-Some-first_zero.size in
    let z = closes c.args.leaves.now c.from-from.ensures c.from-to.ensures c.in-Some.ensures.lookup.0.2 c.in-Some.ensures.lookup.0.3 (subst (FirstZero entry) c.in-Some-first_zero.is (first_zero entry c.first_zero.ensures)) in
    let r = rw c.from-from.ensures at c.read.ensures.reader in
    let k = next_here size on z.0 z.1 (sym r ∙ c.in-Value.is) in absurd (omega (arith, k.more))

pub returns-in_default-checked_add-clause-content : goal.returns-in_default-checked_add-clause-content
returns-in_default-checked_add-clause-content c e rest small on =
    let entry = c.in-Some.entry.now in
    let size = c.in-Some-first_zero.size in
    let z = closes c.args.leaves.now c.from-from.ensures c.from-to.ensures c.in-Some.ensures.lookup.0.2 c.in-Some.ensures.lookup.0.3 (subst (FirstZero entry) c.in-Some-first_zero.is (first_zero entry c.first_zero.ensures)) in
    let r = rw c.from-from.ensures at c.read.ensures.reader in
    let k = next_here size on z.0 z.1 (sym r ∙ c.in-Value.is) in absurd (c.in_default-checked_add.ensures (omega (arith, k.fits)))

pub returns-in_default-try_from-clause-content : goal.returns-in_default-try_from-clause-content
returns-in_default-try_from-clause-content c e rest small on =
    let entry = c.in-Some.entry.now in
    let size = c.in-Some-first_zero.size in
    let z = closes c.args.leaves.now c.from-from.ensures c.from-to.ensures c.in-Some.ensures.lookup.0.2 c.in-Some.ensures.lookup.0.3 (subst (FirstZero entry) c.in-Some-first_zero.is (first_zero entry c.first_zero.ensures)) in
    let r = rw c.from-from.ensures at c.read.ensures.reader in
    let k = next_here size on z.0 z.1 (sym r ∙ c.in-Value.is) in absurd (omega (arith, k.inside, c.in_default-try_from.ensures))

pub returns-clause-content : goal.returns-clause-content
returns-clause-content c e rest small on =
    let entry = c.in-Some.entry.now in
    let size = c.in-Some-first_zero.size in
    let z = closes c.args.leaves.now c.from-from.ensures c.from-to.ensures c.in-Some.ensures.lookup.0.2 c.in-Some.ensures.lookup.0.3 (subst (FirstZero entry) c.in-Some-first_zero.is (first_zero entry c.first_zero.ensures)) in
    let r = rw c.from-from.ensures at c.read.ensures.reader in
    let k = next_here size on z.0 z.1 (sym r ∙ c.in-Value.is) in rw (c.in-Some-checked_add.ensures.1, c.in-Ok.ensures.1) k.stands
