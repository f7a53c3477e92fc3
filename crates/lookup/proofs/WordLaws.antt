-- Of the answers of a lookup in one leaf exactly one is right (`word_exact`): what each comes to (`word_claims`), for an
-- accepted leaf in its terms (`found_of`, `nothing_of`), and what its number says (`accepted_exactly`, `shape_exactly`,
-- `broken_exactly`).
use Prim.Native.Nat.{ℕ, ◌+◌, ◌≤◌}
use native.Mathlib.Omega.{arith}
use mathlib.Core.Path.{◌≡◌, refl, sym, ap, ap₂, ◌∙◌, subst}
use mathlib.Core.Logic.{◌↔◌, inl, inr, ⊎_elim}
use mathlib.Core.List.{List, [], ◌∷◌}
use lib.ListN.{length}
use denote.Enum.Declared.{tag_of}
use Rattle.common.specs.Refusals.{Exclusive, Numbered}
use Rattle.common.proofs.Refusals.{number_differs}
use Rattle.common.proofs.Refusals as refusals
use Rattle.leaf.specs.Leaf.{Term, LeafIs, IsLeaf, NoLeaf, ListIs, NoTerm}
use Rattle.leaf.proofs.Laws.{same_terms}
use Rattle.leaf.proofs.Checks.{leaves_exclusive, leaves_numbered}
use Rattle.leaf.proofs.Once.{list_once, list_not_none}
use Rattle.lookup.specs.Numbers.{numbers_read}
use Rattle.lookup.specs.Words.{LookupShape, word_numbers, word_read, word_refusals, WordFound, WordIs, word_part}
use Rattle.lookup.specs.declared.WordAnswer.{WordAnswer}
use Rattle.lookup.specs.declared.WordAnswer.TheVariants.{Found, Nothing, Shape, Broken}
use Rattle.lookup.specs.contracts.WordAnswer.{the_type}
use types.Run.{OneOf, miss}

module _ (columns : ℕ) (leaf word : List ℕ) where
  pub refusals_exclusive : Exclusive (word_refusals columns leaf word)
  refusals_exclusive = (λ n h. n h, leaves_exclusive columns 0 (leaf ∷ []))

  pub refusals_numbered : Numbered (word_refusals columns leaf word)
  refusals_numbered = (omega arith, leaves_numbered columns 0 (leaf ∷ []))

  -- number 0 says that the leaf is accepted
  pub accepted_exactly : {r : WordAnswer} → WordIs columns leaf word r → ((word_numbers r).number ≡ 0) ↔ (LookupShape columns leaf word × IsLeaf columns leaf)
  accepted_exactly {r} w =
      let k = refusals.accepted_exactly (word_refusals columns leaf word) refusals_exclusive refusals_numbered (word_numbers r).second (word_numbers r) w.answered in
      (λ e. let q = k.0 e in (q.0, q.1.0), λ h. k.1 (h.0, (h.1, tt)))

  -- ---- what each answer comes to

  abbrev pub WordClaim : WordAnswer → Type 0
  WordClaim (Found start size read) = LookupShape columns leaf word × ((ts : List Term) × LeafIs columns leaf ts × WordFound ts word (Found start size read))
  WordClaim (Nothing read) = LookupShape columns leaf word × ((ts : List Term) × LeafIs columns leaf ts × WordFound ts word (Nothing read))
  WordClaim Shape = LookupShape columns leaf word → ⊥
  WordClaim Broken = LookupShape columns leaf word × NoLeaf columns leaf

  is_claim : (r : WordAnswer) → WordIs columns leaf word r → WordClaim r
  is_claim (Found start size read) w = let k = (accepted_exactly w).0 refl in (k.0, (k.1.0, k.1.1, w.found k.1.0 k.0 k.1.1))
  is_claim (Nothing read) w = let k = (accepted_exactly w).0 refl in (k.0, (k.1.0, k.1.1, w.found k.1.0 k.0 k.1.1))
  is_claim Shape w =
      ⊎_elim
      (λ h. h.0)
      (λ h. ⊎_elim (λ k. number_differs k.1 (λ z. omega arith)) (λ k. number_differs k.1 (λ z. omega arith)) h.1)
      w.answered
  is_claim Broken w =
      ⊎_elim
      (λ h. number_differs h.1 (λ z. omega arith))
      (λ h. (h.0, ⊎_elim (λ k. k.0) (λ k. number_differs k.1 (λ z. omega arith)) h.1))
      w.answered

  claim_is : (r : WordAnswer) → WordClaim r → WordIs columns leaf word r
  claim_is (Found start size read) p =
      record {
        answered = inr (p.0, inr ((p.1.0, p.1.1), refl));
        found = λ us h m. subst (λ (x : List Term). WordFound x word (Found start size read)) (same_terms columns leaf p.1.0 us h.leaf_right.size p.1.1 m) p.1.2;
      }
  claim_is (Nothing read) p =
      record {
        answered = inr (p.0, inr ((p.1.0, p.1.1), refl));
        found = λ us h m. subst (λ (x : List Term). WordFound x word (Nothing read)) (same_terms columns leaf p.1.0 us h.leaf_right.size p.1.1 m) p.1.2;
      }
  claim_is Shape p = record { answered = inl (p, refl); found = λ us h m. p h }
  claim_is Broken p = record { answered = inr (p.0, inl (p.1, refl)); found = λ us h m. p.1 us m }

  pub word_claims : (r : WordAnswer) → WordIs columns leaf word r ↔ WordClaim r
  word_claims r = (is_claim r, claim_is r)

  -- with the terms of the leaf at hand
  pub found_of : (ts : List Term) → LookupShape columns leaf word → LeafIs columns leaf ts → (start size : ℕ)
      → WordIs columns leaf word (Found start size (numbers_read ts word)) ↔ ListIs ts word start size
  found_of ts h l start size = (λ w. (w.found ts h l).0, λ i. claim_is (Found start size (numbers_read ts word)) (h, (ts, l, (i, refl))))

  pub nothing_of : (ts : List Term) → LookupShape columns leaf word → LeafIs columns leaf ts
      → WordIs columns leaf word (Nothing (numbers_read ts word)) ↔ NoTerm ts word
  nothing_of ts h l = (λ w. (w.found ts h l).0, λ n. claim_is (Nothing (numbers_read ts word)) (h, (ts, l, (n, refl))))

  -- the numbers read of an accepted leaf
  pub read_of : (ts : List Term) → LookupShape columns leaf word → LeafIs columns leaf ts → {r : WordAnswer} → WordIs columns leaf word r → word_read r ≡ numbers_read ts word
  read_of ts h l {r} w = go r (w.found ts h l)
    where
      go : (r : WordAnswer) → WordFound ts word r → word_read r ≡ numbers_read ts word
      go (Found start size read) f = f.1
      go (Nothing read) f = f.1
      go Shape f = absurd f
      go Broken f = absurd f

  -- what the numbers 1 and 3 say
  pub shape_exactly : {r : WordAnswer} → WordIs columns leaf word r → ((word_numbers r).number ≡ 1) ↔ (LookupShape columns leaf word → ⊥)
  shape_exactly {r} w = go r (is_claim r w)
    where
      go : (r : WordAnswer) → WordClaim r → ((word_numbers r).number ≡ 1) ↔ (LookupShape columns leaf word → ⊥)
      go (Found start size read) p = (λ z. absurd (omega arith), λ n. absurd (n p.0))
      go (Nothing read) p = (λ z. absurd (omega arith), λ n. absurd (n p.0))
      go Shape p = (λ _. p, λ _. refl)
      go Broken p = (λ z. absurd (omega arith), λ n. absurd (n p.0))

  pub broken_exactly : {r : WordAnswer} → WordIs columns leaf word r → ((word_numbers r).number ≡ 3) ↔ (LookupShape columns leaf word × NoLeaf columns leaf)
  broken_exactly {r} w = go r (is_claim r w)
    where
      go : (r : WordAnswer) → WordClaim r → ((word_numbers r).number ≡ 3) ↔ (LookupShape columns leaf word × NoLeaf columns leaf)
      go (Found start size read) p = (λ z. absurd (omega arith), λ n. absurd (n.1 p.1.0 p.1.1))
      go (Nothing read) p = (λ z. absurd (omega arith), λ n. absurd (n.1 p.1.0 p.1.1))
      go Shape p = (λ z. absurd (omega arith), λ n. absurd (p n.0))
      go Broken p = (λ _. p, λ _. refl)

  -- ---- one answer is right

  -- in the terms of the first
  same_list : {ts us : List Term} → LookupShape columns leaf word → LeafIs columns leaf ts → LeafIs columns leaf us → us ≡ ts
  same_list {ts} {us} h l m = same_terms columns leaf us ts h.leaf_right.size m l

  -- what is said of the terms of one is said of those of the other
  moved : {ts us : List Term} → LookupShape columns leaf word → LeafIs columns leaf ts → LeafIs columns leaf us → (r : WordAnswer) → WordFound us word r → WordFound ts word r
  moved h l m r f = subst (λ (x : List Term). WordFound x word r) (same_list h l m) f

  found_none : (start size m n : ℕ) → WordClaim (Found start size m) → WordClaim (Nothing n) → ⊥
  found_none start size m n p q = list_not_none p.1.2.0 (moved p.0 p.1.1 q.1.1 (Nothing n) q.1.2).0

  found_same : (a b m c d n : ℕ) → WordClaim (Found a b m) → WordClaim (Found c d n) → Found a b m ≡ Found c d n
  found_same a b m c d n p q =
      let f = moved p.0 p.1.1 q.1.1 (Found c d n) q.1.2 in
      let e = list_once columns p.1.1.good p.1.2.0 f.0 in
      let r : m ≡ n = p.1.2.1 ∙ sym f.1 in
      ap₂ (λ (x y : ℕ). Found x y m) e.0 e.1 ∙ ap (Found c d) r

  none_same : (m n : ℕ) → WordClaim (Nothing m) → WordClaim (Nothing n) → Nothing m ≡ Nothing n
  none_same m n p q = ap Nothing (p.1.2.1 ∙ sym (moved p.0 p.1.1 q.1.1 (Nothing n) q.1.2).1)

  word_once : (a b : WordAnswer) → WordClaim a → WordClaim b → a ≡ b
  word_once (Found a b m) (Found c d n) p q = found_same a b m c d n p q
  word_once (Found a b m) (Nothing n) p q = absurd (found_none a b m n p q)
  word_once (Found a b m) Shape p q = absurd (q p.0)
  word_once (Found a b m) Broken p q = absurd (q.1 p.1.0 p.1.1)
  word_once (Nothing m) (Found a b n) p q = absurd (found_none a b n m q p)
  word_once (Nothing m) (Nothing n) p q = none_same m n p q
  word_once (Nothing m) Shape p q = absurd (q p.0)
  word_once (Nothing m) Broken p q = absurd (q.1 p.1.0 p.1.1)
  word_once Shape (Found a b n) p q = absurd (p q.0)
  word_once Shape (Nothing n) p q = absurd (p q.0)
  word_once Shape Shape p q = refl
  word_once Shape Broken p q = absurd (p q.0)
  word_once Broken (Found a b n) p q = absurd (p.1 q.1.0 q.1.1)
  word_once Broken (Nothing n) p q = absurd (p.1 q.1.0 q.1.1)
  word_once Broken Shape p q = absurd (q p.0)
  word_once Broken Broken p q = refl

  -- an answer whose claim holds is given exactly
  pub word_exact : {r : WordAnswer} → WordClaim r → (a : WordAnswer) → (r ≡ a) ↔ WordIs columns leaf word a
  word_exact {r} p a = (λ e. claim_is a (subst WordClaim e p), λ q. word_once r a p (is_claim a q))

  pub found_claim : (ts : List Term) → LookupShape columns leaf word → LeafIs columns leaf ts → (r : WordAnswer) → WordFound ts word r → WordClaim r
  found_claim ts h l (Found start size read) t = (h, (ts, l, t))
  found_claim ts h l (Nothing read) t = (h, (ts, l, t))
  found_claim ts h l Shape t = absurd t
  found_claim ts h l Broken t = absurd t

  pub found_inside : (start size read : ℕ) → WordIs columns leaf word (Found start size read) → start + size ≤ length leaf
  found_inside start size read w = let p = is_claim (Found start size read) w in omega (arith, p.1.2.0.inside, ap length p.1.1.bytes)

-- where a match falls past what was found, the part is empty
pub none_found : (bytes : List ℕ) (r : WordAnswer) → OneOf (1 ∷ 2 ∷ 3 ∷ []) (tag_of the_type r) → [] ≡ word_part bytes r
none_found bytes (Found start size read) k = absurd (miss (1 ∷ 2 ∷ 3 ∷ []) 0 tt k)
none_found bytes (Nothing read) k = refl
none_found bytes Shape k = refl
none_found bytes Broken k = refl
