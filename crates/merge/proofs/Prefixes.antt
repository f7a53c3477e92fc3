-- What was written so far is the front of the whole, also where the writing stops early: the terms of the words up to the last one taken
-- (`merging_front`).
use Prim.Native.Nat.{ℕ}
use mathlib.Core.Path.{◌≡◌, refl, sym, ap, ◌∙◌, subst}
use mathlib.Core.Bool.{Bool}
use mathlib.Core.List.{List, [], ◌∷◌, ◌++◌}
use Rattle.leaf.specs.Leaf.{Term, Before, Terms, NoTerm}
use Rattle.leaf.proofs.Once.{passed_over}
use Rattle.meaning.specs.Index.{leaf_entry}
use Rattle.merged.specs.Merged.{Merged}
use Rattle.merged.proofs.Finding.{leaf_none}
use Rattle.merged.proofs.Once.{good_terms, terms_one}
use Rattle.merged.proofs.Making.{terms_or_none}
use Rattle.merge.specs.Words.{Merging}
use Rattle.merge.proofs.Ordered.{after_or, up_to_before, front_entry}

-- terms, parted after a word
record PartedTerms (count : ℕ) (before last : List ℕ) (us : List Term) : Type 0 where
  front : List Term
  rest : List Term
  whole : us ≡ front ++ rest
  good : Terms count before front
  up_to : (word : List ℕ) → Before last word → NoTerm front word
  after : (word : List ℕ) → (Before last word → ⊥) → NoTerm rest word

part_terms : (count : ℕ) (last before : List ℕ) (us : List Term) → Terms count before us → PartedTerms count before last us
part_terms count last before [] h = record { front = []; rest = []; whole = refl; good = tt; up_to = λ word b. tt; after = λ word n. tt }
part_terms count last before (u ∷ us) h =
    after_or last u.word
    (λ b. record {
      front = [];
      rest = u ∷ us;
      whole = refl;
      good = tt;
      up_to = λ word c. tt;
      after = λ word n. passed_over count before u us word h (up_to_before last word u.word n b);
    })
    (λ n.
    let p = part_terms count last u.word us h.2 in
    record {
      front = u ∷ p.front;
      rest = p.rest;
      whole = ap (λ (r : List Term). u ∷ r) p.whole;
      good = (h.0, h.1, p.good);
      up_to = λ word b. (λ e. n (subst (Before last) (sym e) b), p.up_to word b);
      after = p.after;
    })

pub merging_front : {keep : Bool} {count : ℕ} {index left : List (List Term)} {last : List ℕ} {ts : List Term} → Merging keep count index left last ts
    → (final : List Term) → Merged keep count index final → (rest : List Term) × (final ≡ ts ++ rest)
merging_front {count = count} {last = last} {ts = ts} m final f =
    let p = part_terms count last [] final (good_terms count final f.good) in
    let same_entries : (word : List ℕ) (docid : ℕ) → leaf_entry word docid ts ≡ leaf_entry word docid p.front =
    λ word docid.
    after_or last word
    (λ b. leaf_none ts word docid (m.up_to word b) ∙ sym (leaf_none p.front word docid (p.up_to word b)))
    (λ n.
    m.done word n docid
    ∙ sym (f.entries word docid)
    ∙ ap (leaf_entry word docid) p.whole
    ∙ front_entry p.front p.rest word docid (p.after word n)) in
    let e = terms_one count ts p.front (terms_or_none count ts m.good) (terms_or_none count p.front p.good) same_entries in
    (p.rest, p.whole ∙ ap (λ (r : List Term). r ++ p.rest) (sym e))
