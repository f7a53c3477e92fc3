-- `opening::word_at` meets its contract: where the arrays hold the words of a query, the part is there.
use Rattle.std.proofs.Common.{◌≡◌, ℕ, List, Option, Some, None, MatchOption, unwrap_or, ap, ◌∙◌, arith}
use denote.Bor.{Bor}
use Rattle.opening.proofs.Nodes.{node_here}
use Rattle.opening.proofs.word_at.Goals as goal

-- what is taken where the part is there
taken : {P : Type 0} {s : List ℕ} (o : Option (Bor (List ℕ))) (Q : Bor (List ℕ) → Type 0) (d : Bor (List ℕ)) {r : Bor (List ℕ)}
    → MatchOption o P Q → (P → ⊥) → ((x : Bor (List ℕ)) → Q x → x.now ≡ s) → r ≡ unwrap_or o d → r.now ≡ s
taken None Q d m out is e = absurd (out m)
taken (Some x) Q d m out is e = ap (λ (b : Bor (List ℕ)). b.now) e ∙ is x m

pub returns : goal.returns
returns c marks count nodes n w at =
    let here = node_here c.args.i n w at in
    taken c.get.result _ _ c.get.ensures.lookup.0 (λ out. omega (arith, out, here.rises, here.inside, c.start_of-from.ensures, c.from-to.ensures)) (λ x m. m.2) c.unwrap_or.ensures
    ∙ rw (c.start_of-from.ensures, c.from-to.ensures) here.bytes
