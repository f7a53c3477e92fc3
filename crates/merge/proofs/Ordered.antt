-- Words in their order: a word is after another or not (`after_or`); a term whose word is after all others goes to the end (`terms_end`).
use Prim.Native.Nat.{ℕ}
use mathlib.Core.Path.{◌≡◌, refl, sym, ◌∙◌, subst}
use mathlib.Core.List.{List, [], ◌∷◌, ◌++◌}
use Rattle.leaf.specs.Leaf.{Term, Before, GoodTerm, Terms, NoTerm}
use Rattle.leaf.proofs.Words.{before_case, before_irrefl, before_trans}
use Rattle.meaning.specs.Index.{entry_for, leaf_entry}
use Rattle.merged.proofs.Finding.{leaf_here, leaf_next, leaf_none}
use Rattle.common.proofs.Same.{same_case}

-- ---- two words

-- a word comes after another, or not
pub after_or {ℓ} : {X : Type ℓ} (v w : List ℕ) → (Before v w → X) → ((Before v w → ⊥) → X) → X
after_or v w f g =
    before_case v w f
    (λ e. g (λ b. before_irrefl w (subst (λ (x : List ℕ). Before x w) e b)))
    (λ b. g (λ c. before_irrefl v (before_trans v w v c b)))

-- one that does not come after another comes before all words that do
pub up_to_before : (last word later : List ℕ) → (Before last word → ⊥) → Before last later → Before word later
up_to_before last word later n b =
    before_case last word
    (λ c. absurd (n c))
    (λ e. subst (λ (x : List ℕ). Before x later) e b)
    (λ c. before_trans word last later c b)

-- one that comes before another comes before all words that do not come before that
pub before_not_earlier : (earlier word later : List ℕ) → Before earlier word → (Before later word → ⊥) → Before earlier later
before_not_earlier earlier word later b n =
    before_case word later
    (λ c. before_trans earlier word later b c)
    (λ e. subst (Before earlier) e b)
    (λ c. absurd (n c))

-- one that does not come before another, and is not the same, comes after it
pub not_before_after : (v w : List ℕ) → (Before v w → ⊥) → (v ≡ w → ⊥) → Before w v
not_before_after v w n d = before_case v w (λ b. absurd (n b)) (λ e. absurd (d e)) (λ b. b)

-- ---- terms

-- a term goes to the end where its word comes after `last`, and all others do not
pub terms_end : (count : ℕ) (last before : List ℕ) (ts : List Term) (t : Term) → Terms count before ts → ((word : List ℕ) → Before last word → NoTerm ts word)
    → Before before t.word → Before last t.word → GoodTerm count t → Terms count before (ts ++ (t ∷ []))
terms_end count last before [] t h up b l g = (b, g, tt)
terms_end count last before (u ∷ ts) t h up b l g =
    (h.0, h.1, terms_end count last u.word ts t h.2 (λ word c. (up word c).1) (up_to_before last u.word t.word (λ c. (up u.word c).0 refl) l) l g)

-- the entries of the term at the end
pub end_entry : (ts : List Term) (t : Term) (word : List ℕ) (docid : ℕ) → t.word ≡ word → NoTerm ts word → leaf_entry word docid (ts ++ (t ∷ [])) ≡ entry_for docid t.entries
end_entry [] t word docid e n = leaf_here t [] word docid e
end_entry (u ∷ ts) t word docid e n = leaf_next u (ts ++ (t ∷ [])) word docid n.0 ∙ end_entry ts t word docid e n.1

-- terms that lack a word change none of its entries where they come after others
pub front_entry : (ts us : List Term) (word : List ℕ) (docid : ℕ) → NoTerm us word → leaf_entry word docid (ts ++ us) ≡ leaf_entry word docid ts
front_entry [] us word docid n = leaf_none us word docid n
front_entry (t ∷ ts) us word docid n =
    same_case t.word word
    (λ e. leaf_here t (ts ++ us) word docid e ∙ sym (leaf_here t ts word docid e))
    (λ d. leaf_next t (ts ++ us) word docid d ∙ front_entry ts us word docid n ∙ sym (leaf_next t ts word docid d))
