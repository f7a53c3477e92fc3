-- `cursors::least_block` meets its contract.
use Rattle.std.proofs.Common.{rules, ◌≡◌, ℕ, List, true, take, refl, ap, ◌∙◌, arith}
use Rattle.cursors.specs.Arrays.{least_of, next_of, blocks_of}
use Rattle.cursors.specs.Frames.{among}
use Rattle.cursors.proofs.Framing.{among_least}
use Rattle.cursors.proofs.Blocks.{least_all}
use Rattle.cursors.proofs.least_block.Goals as goal

pub returns-then-contains-clause-content : goal.returns-then-contains-clause-content
returns-then-contains-clause-content c =
    let a = c.args in
    let blocks : List ℕ = take (blocks_of a.n) a.mins.now in
    let has : among a.rest blocks ≡ true = search rules in
    let r : c.next_of.result ≡ next_of a.rest = search rules in
    λ docids h m low.
    let all = least_all docids a.mins.now a.n h m (blocks_of a.n) refl in
    let most = among_least a.rest blocks has in
    let q : a.rest ≡ least_of (take a.n docids) = omega arith in
    r ∙ ap next_of q

pub returns-clause-content : goal.returns-clause-content
returns-clause-content c =
    let a = c.args in
    let r : c.next_of-2.result ≡ next_of (least_of (take (blocks_of a.n) a.mins.now)) = search rules in
    λ docids h m low. r ∙ ap next_of (least_all docids a.mins.now a.n h m (blocks_of a.n) refl)
