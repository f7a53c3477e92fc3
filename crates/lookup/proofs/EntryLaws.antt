-- The entry of a docid in one leaf is one, and inside it; of the answers of a lookup in two leaves exactly one is right
-- (`deciding_exact`).
use Prim.Native.Nat.{ℕ, ◌+◌, ◌≤◌, ◌<◌}
use native.Mathlib.Omega.{arith}
use mathlib.Core.Path.{◌≡◌, refl, sym, ap, ap₂, ◌∙◌, subst}
use mathlib.Core.Logic.{◌↔◌, inl, inr, ⊎_elim}
use mathlib.Core.List.{List, [], ◌∷◌}
use lib.IntN.{ℤ}
use lib.ListN.{length}
use denote.Enum.Declared.{tag_of}
use Rattle.common.specs.Bytes.{part}
use Rattle.common.specs.Refusals.{numbers, Exclusive, Numbered}
use Rattle.common.proofs.Refusals.{number_differs, second_differs}
use Rattle.common.proofs.Refusals as refusals
use Rattle.doclist.specs.Docid.{zero_key, key_of}
use Rattle.doclist.specs.Doclist.{Entry, WellFormed, encode_list, entry_place}
use Rattle.doclist.specs.contracts.EntryAt as entry_at
use Rattle.doclist.specs.declared.EntryAt.{EntryAt}
use Rattle.doclist.specs.declared.EntryAt.TheVariants.{At, Absent, Refused}
use Rattle.doclist.proofs.Places.{place_not_refused, placed, placed_within}
use Rattle.leaf.specs.Leaf as leaf
use Rattle.leaf.specs.Leaf.{Term, encode_leaf, LeafIs, IsLeaf, NoLeaf, ListIs, NoTerm}
use Rattle.leaf.specs.Answers.{CheckShape}
use Rattle.leaf.specs.declared.LeafCheck.{LeafCheck}
use Rattle.leaf.specs.declared.LeafCheck.TheVariants.{Accepted}
use Rattle.leaf.specs.contracts.LeafCheck as leaf-check
use Rattle.leaf.proofs.Checks.{leaves_exclusive, leaves_numbered, CheckPromise}
use Rattle.leaf.proofs.Checks as check
use Rattle.leaf.proofs.Once.{term_once, list_once, list_not_none, list_good, list_part}
use Rattle.leaf.proofs.Laws.{same_terms}
use Rattle.lookup.specs.Words.{WordFound}
use Rattle.lookup.specs.declared.WordAnswer.TheVariants as word
use Rattle.lookup.specs.declared.WordAnswer.{WordAnswer}
use Rattle.lookup.specs.Entries.{EntryIs, NoEntry, EntryFound, DecidingShape, BothLeaves, Decides, deciding_numbers, deciding_refusals, DecidingIs, entry_part}
use Rattle.lookup.specs.declared.EntryAnswer.{EntryAnswer}
use Rattle.lookup.specs.declared.EntryAnswer.TheVariants.{Newer, Older, Nothing, Shape, NewerBroken, OlderBroken}
use Rattle.lookup.specs.contracts.WordAnswer as word-answer
use Rattle.lookup.specs.contracts.EntryAnswer as entry-answer
use types.Run.{OneOf, miss}

-- ---- the entry of a docid in one leaf

absent_at {ℓ} : {X : Type ℓ} {e : EntryAt} {first last : ℕ} → e ≡ Absent → e ≡ At first last → X
absent_at p q = let z : ◌≡◌ {A = ℕ} 0 1 = cc in absurd (omega arith)

at_first : {e : EntryAt} {a b c d : ℕ} → e ≡ At a b → e ≡ At c d → a ≡ c
at_first p q = cc

at_last : {e : EntryAt} {a b c d : ℕ} → e ≡ At a b → e ≡ At c d → b ≡ d
at_last p q = cc

pub entry_inside : {ts : List Term} {word : List ℕ} {docid start size : ℕ} → EntryIs ts word docid start size → start + size ≤ length (encode_leaf ts)
entry_inside {docid = docid} e =
    let p = placed 0 zero_key e.list.term.entries docid e.first e.last e.place in
    omega (arith, (placed_within p).1, e.ends, e.list.whole, e.list.inside)

pub entry_once : (count : ℕ) {ts : List Term} {word : List ℕ} {docid a n b m : ℕ} → leaf.WellFormed count ts → EntryIs ts word docid a n → EntryIs ts word docid b m
    → (a ≡ b) × (n ≡ m)
entry_once count {ts} {word} {docid} w e f =
    let l = list_once count w e.list f.list in
    let p : entry_place e.list.term.entries docid ≡ At f.first f.last = ap (λ (t : Term). entry_place t.entries docid) (term_once count w e.list f.list) ∙ f.place in
    let q = at_first e.place p in
    let r = at_last e.place p in
    let s = e.starts in
    let t = f.starts in
    (omega (arith, l.0), omega (arith, l.0, e.ends, f.ends))

-- ---- what finding the list and then the entry says

-- where a match falls past what was found
pub found_none : (ts : List Term) (sought : List ℕ) (r : WordAnswer) → OneOf (1 ∷ 2 ∷ 3 ∷ []) (tag_of word-answer.the_type r) → WordFound ts sought r → NoTerm ts sought
found_none ts sought (word.Found start size read) k t = absurd (miss (1 ∷ 2 ∷ 3 ∷ []) 0 tt k)
found_none ts sought (word.Nothing read) k t = t.0
found_none ts sought word.Shape k t = absurd t
found_none ts sought word.Broken k t = absurd t

pub found_absent : (es : List Entry) (docid : ℕ) (r : EntryAt) → OneOf (1 ∷ 2 ∷ []) (tag_of entry_at.the_type r) → r ≡ entry_place es docid → entry_place es docid ≡ Absent
found_absent es docid (At first last) k e = absurd (miss (1 ∷ 2 ∷ []) 0 tt k)
found_absent es docid Absent k e = sym e
found_absent es docid Refused k e = place_not_refused 0 zero_key es docid (sym e)

pub found_no_entry : (ts : List Term) (sought : List ℕ) (docid : ℕ) (r : EntryAt) → OneOf (1 ∷ 2 ∷ []) (tag_of entry_at.the_type r) → EntryFound ts sought docid r → NoEntry ts sought docid
found_no_entry ts sought docid (At first last) k t = absurd (miss (1 ∷ 2 ∷ []) 0 tt k)
found_no_entry ts sought docid Absent k t = t
found_no_entry ts sought docid Refused k t = absurd t

pub no_list_no_entry : {ts : List Term} {sought : List ℕ} (docid : ℕ) → NoTerm ts sought → NoEntry ts sought docid
no_list_no_entry docid n start size e = list_not_none e.list n

-- the list of the word is the part from `from` on, and `r` is what finding the docid in that part gave
module _ (count : ℕ) (leaf : List ℕ) {ts : List Term} {sought : List ℕ} {from bytes : ℕ} (docid : ℕ) (g : LeafIs count leaf ts) (l : ListIs ts sought from bytes)
    {r : EntryAt} (f : (es : List Entry) → WellFormed count es → part leaf from (from + bytes) ≡ encode_list es → r ≡ entry_place es docid) where
  place_is : r ≡ entry_place l.term.entries docid
  place_is = f l.term.entries (list_good count l g.good) (list_part count l leaf g.bytes)

  pub list_entry_most : {first last : ℕ} → r ≡ At first last → (first < last) × (last ≤ bytes)
  list_entry_most {first} {last} e =
      let p = placed_within (placed 0 zero_key l.term.entries docid first last (sym place_is ∙ e)) in
      (p.0, omega (arith, p.1, l.whole))

  pub list_entry : {first last : ℕ} → r ≡ At first last → EntryFound ts sought docid (At (from + first) (from + last))
  list_entry {first} {last} e =
      let m = (list_entry_most e).0 in (
        omega arith,
        record {
          list_start = from;
          list_size = bytes;
          list = l;
          first = first;
          last = last;
          place = sym place_is ∙ e;
          starts = refl;
          ends = omega arith;
        },
      )

  pub list_no_entry : OneOf (1 ∷ 2 ∷ []) (tag_of entry_at.the_type r) → NoEntry ts sought docid
  list_no_entry k start size e =
      absent_at (found_absent l.term.entries docid r k place_is) (ap (λ (t : Term). entry_place t.entries docid) (term_once count g.good l e.list) ∙ e.place)

-- ---- the check of each leaf

not_accepted : (r : LeafCheck) → OneOf (1 ∷ 2 ∷ []) (tag_of leaf-check.the_type r) → r ≡ Accepted → ⊥
not_accepted r k e = miss (1 ∷ 2 ∷ []) 0 tt (subst (λ (x : LeafCheck). OneOf (1 ∷ 2 ∷ []) (tag_of leaf-check.the_type x)) e k)

pub refused_no_leaf : (count : ℕ) (bytes : List ℕ) (r : LeafCheck) → CheckShape count bytes → CheckPromise count bytes r
    → OneOf (1 ∷ 2 ∷ []) (tag_of leaf-check.the_type r) → NoLeaf count bytes
refused_no_leaf count bytes r h c k ts l = not_accepted r k ((c Accepted).1 ((check.accepted_exactly count bytes).1 (h, (ts, l))))

pub accepted_leaf : (count : ℕ) (bytes : List ℕ) (r : LeafCheck) → CheckPromise count bytes r → r ≡ Accepted → IsLeaf count bytes
accepted_leaf count bytes r c e = ((check.accepted_exactly count bytes).0 ((c Accepted).0 e)).1

-- ---- one answer is right

module _ (columns : ℕ) (newer older sought : List ℕ) (docid : ℤ) where
  abbrev Right : Type 0
  Right = DecidingShape columns newer older sought

  -- what each answer comes to
  abbrev pub DecidingClaim : EntryAnswer → Type 0
  DecidingClaim (Newer start size) = Right × ((ts us : List Term) × BothLeaves columns newer older ts us × EntryIs ts sought (key_of docid) start size)
  DecidingClaim (Older start size) =
      Right × ((ts us : List Term) × BothLeaves columns newer older ts us × NoEntry ts sought (key_of docid) × EntryIs us sought (key_of docid) start size)
  DecidingClaim Nothing =
      Right × ((ts us : List Term) × BothLeaves columns newer older ts us × NoEntry ts sought (key_of docid) × NoEntry us sought (key_of docid))
  DecidingClaim Shape = Right → ⊥
  DecidingClaim NewerBroken = Right × NoLeaf columns newer
  DecidingClaim OlderBroken = Right × IsLeaf columns newer × NoLeaf columns older

  -- with the terms of both leaves at hand, the claim of an answer that decides holds
  pub decides_claim : (ts us : List Term) → DecidingShape columns newer older sought → BothLeaves columns newer older ts us → (r : EntryAnswer)
      → Decides ts us sought (key_of docid) r → DecidingClaim r
  decides_claim ts us h l (Newer start size) d = (h, (ts, us, l, d))
  decides_claim ts us h l (Older start size) d = (h, (ts, us, l, d.0, d.1))
  decides_claim ts us h l Nothing d = (h, (ts, us, l, d.0, d.1))
  decides_claim ts us h l Shape d = absurd d
  decides_claim ts us h l NewerBroken d = absurd d
  decides_claim ts us h l OlderBroken d = absurd d

  -- two answers about the terms of the leaves
  module _ (h : DecidingShape columns newer older sought) {ts us vs ws : List Term} (l : BothLeaves columns newer older ts us) (m : BothLeaves columns newer older vs ws) where
    newer_same : vs ≡ ts
    newer_same = same_terms columns newer vs ts (omega (arith, h.size)) m.0 l.0

    older_same : ws ≡ us
    older_same = same_terms columns older ws us (omega (arith, h.size)) m.1 l.1

    both_newer : (a n b k : ℕ) → EntryIs ts sought (key_of docid) a n → EntryIs vs sought (key_of docid) b k → Newer a n ≡ Newer b k
    both_newer a n b k e f =
        let q = entry_once columns l.0.good e (subst (λ (x : List Term). EntryIs x sought (key_of docid) b k) newer_same f) in
        ap₂ Newer q.0 q.1

    both_older : (a n b k : ℕ) → EntryIs us sought (key_of docid) a n → EntryIs ws sought (key_of docid) b k → Older a n ≡ Older b k
    both_older a n b k e f =
        let q = entry_once columns l.1.good e (subst (λ (x : List Term). EntryIs x sought (key_of docid) b k) older_same f) in
        ap₂ Older q.0 q.1

    newer_not : (a n : ℕ) → EntryIs ts sought (key_of docid) a n → NoEntry vs sought (key_of docid) → ⊥
    newer_not a n e f = subst (λ (x : List Term). NoEntry x sought (key_of docid)) newer_same f a n e

    older_not : (a n : ℕ) → EntryIs us sought (key_of docid) a n → NoEntry ws sought (key_of docid) → ⊥
    older_not a n e f = subst (λ (x : List Term). NoEntry x sought (key_of docid)) older_same f a n e

  -- and one whose claim holds decides
  pub claim_decides : (ts us : List Term) → DecidingShape columns newer older sought → BothLeaves columns newer older ts us → (r : EntryAnswer)
      → DecidingClaim r → Decides ts us sought (key_of docid) r
  claim_decides ts us h l (Newer start size) p = subst (λ (x : List Term). EntryIs x sought (key_of docid) start size) (newer_same h l p.1.2) p.1.3
  claim_decides ts us h l (Older start size) p = (
    subst (λ (x : List Term). NoEntry x sought (key_of docid)) (newer_same h l p.1.2) p.1.3,
    subst (λ (x : List Term). EntryIs x sought (key_of docid) start size) (older_same h l p.1.2) p.1.4,
  )
  claim_decides ts us h l Nothing p = (
    subst (λ (x : List Term). NoEntry x sought (key_of docid)) (newer_same h l p.1.2) p.1.3,
    subst (λ (x : List Term). NoEntry x sought (key_of docid)) (older_same h l p.1.2) p.1.4,
  )
  claim_decides ts us h l Shape p = absurd (p h)
  claim_decides ts us h l NewerBroken p = absurd (p.1 ts l.0)
  claim_decides ts us h l OlderBroken p = absurd (p.2 us l.1)

  deciding_once : (a b : EntryAnswer) → DecidingClaim a → DecidingClaim b → a ≡ b
  deciding_once (Newer a n) (Newer b k) p q = both_newer p.0 p.1.2 q.1.2 a n b k p.1.3 q.1.3
  deciding_once (Newer a n) (Older b k) p q = absurd (newer_not p.0 p.1.2 q.1.2 a n p.1.3 q.1.3)
  deciding_once (Newer a n) Nothing p q = absurd (newer_not p.0 p.1.2 q.1.2 a n p.1.3 q.1.3)
  deciding_once (Newer a n) Shape p q = absurd (q p.0)
  deciding_once (Newer a n) NewerBroken p q = absurd (q.1 p.1.0 p.1.2.0)
  deciding_once (Newer a n) OlderBroken p q = absurd (q.2 p.1.1 p.1.2.1)
  deciding_once (Older a n) (Newer b k) p q = absurd (newer_not q.0 q.1.2 p.1.2 b k q.1.3 p.1.3)
  deciding_once (Older a n) (Older b k) p q = both_older p.0 p.1.2 q.1.2 a n b k p.1.4 q.1.4
  deciding_once (Older a n) Nothing p q = absurd (older_not p.0 p.1.2 q.1.2 a n p.1.4 q.1.4)
  deciding_once (Older a n) Shape p q = absurd (q p.0)
  deciding_once (Older a n) NewerBroken p q = absurd (q.1 p.1.0 p.1.2.0)
  deciding_once (Older a n) OlderBroken p q = absurd (q.2 p.1.1 p.1.2.1)
  deciding_once Nothing (Newer b k) p q = absurd (newer_not q.0 q.1.2 p.1.2 b k q.1.3 p.1.3)
  deciding_once Nothing (Older b k) p q = absurd (older_not q.0 q.1.2 p.1.2 b k q.1.4 p.1.4)
  deciding_once Nothing Nothing p q = refl
  deciding_once Nothing Shape p q = absurd (q p.0)
  deciding_once Nothing NewerBroken p q = absurd (q.1 p.1.0 p.1.2.0)
  deciding_once Nothing OlderBroken p q = absurd (q.2 p.1.1 p.1.2.1)
  deciding_once Shape (Newer b k) p q = absurd (p q.0)
  deciding_once Shape (Older b k) p q = absurd (p q.0)
  deciding_once Shape Nothing p q = absurd (p q.0)
  deciding_once Shape Shape p q = refl
  deciding_once Shape NewerBroken p q = absurd (p q.0)
  deciding_once Shape OlderBroken p q = absurd (p q.0)
  deciding_once NewerBroken (Newer b k) p q = absurd (p.1 q.1.0 q.1.2.0)
  deciding_once NewerBroken (Older b k) p q = absurd (p.1 q.1.0 q.1.2.0)
  deciding_once NewerBroken Nothing p q = absurd (p.1 q.1.0 q.1.2.0)
  deciding_once NewerBroken Shape p q = absurd (q p.0)
  deciding_once NewerBroken NewerBroken p q = refl
  deciding_once NewerBroken OlderBroken p q = absurd (p.1 q.1.0 q.1.1)
  deciding_once OlderBroken (Newer b k) p q = absurd (p.2 q.1.1 q.1.2.1)
  deciding_once OlderBroken (Older b k) p q = absurd (p.2 q.1.1 q.1.2.1)
  deciding_once OlderBroken Nothing p q = absurd (p.2 q.1.1 q.1.2.1)
  deciding_once OlderBroken Shape p q = absurd (q p.0)
  deciding_once OlderBroken NewerBroken p q = absurd (q.1 p.1.0 p.1.1)
  deciding_once OlderBroken OlderBroken p q = refl

  -- ---- the claims and the refusals

  pub refusals_exclusive : Exclusive (deciding_refusals columns newer older sought)
  refusals_exclusive = (λ n h. n h, leaves_exclusive columns 0 (newer ∷ older ∷ []))

  pub refusals_numbered : Numbered (deciding_refusals columns newer older sought)
  refusals_numbered = (omega arith, leaves_numbered columns 0 (newer ∷ older ∷ []))

  abbrev Is : EntryAnswer → Type 0
  Is = DecidingIs columns newer older sought docid

  -- number 0 says that both leaves are accepted
  pub accepted_exactly : {r : EntryAnswer} → Is r → ((deciding_numbers r).number ≡ 0) ↔ (Right × IsLeaf columns newer × IsLeaf columns older)
  accepted_exactly {r} d =
      let k = refusals.accepted_exactly (deciding_refusals columns newer older sought) refusals_exclusive refusals_numbered (deciding_numbers r).second (deciding_numbers r) d.answered in
      (λ e. let q = k.0 e in (q.0, q.1.0, q.1.1.0), λ h. k.1 (h.0, (h.1, (h.2, tt))))

  -- an answer with number 0, in the terms of both leaves
  decided : {r : EntryAnswer} → Is r → (deciding_numbers r).number ≡ 0 → DecidingClaim r
  decided {r} d e =
      let k = (accepted_exactly d).0 e in
      let l : BothLeaves columns newer older k.1.0 k.2.0 = (k.1.1, k.2.1) in
      decides_claim k.1.0 k.2.0 k.0 l r (d.decides k.1.0 k.2.0 k.0 l)

  is_claim : (r : EntryAnswer) → Is r → DecidingClaim r
  is_claim (Newer start size) d = decided d refl
  is_claim (Older start size) d = decided d refl
  is_claim Nothing d = decided d refl
  is_claim Shape d =
      ⊎_elim
      (λ h. h.0)
      (λ h.
      ⊎_elim
      (λ k. number_differs k.1 (λ z. omega arith))
      (λ k. ⊎_elim (λ m. number_differs m.1 (λ z. omega arith)) (λ m. number_differs m.1 (λ z. omega arith)) k.1)
      h.1)
      d.answered
  is_claim NewerBroken d =
      ⊎_elim
      (λ h. number_differs h.1 (λ z. omega arith))
      (λ h. (
        h.0,
        ⊎_elim (λ k. k.0) (λ k. ⊎_elim (λ m. second_differs m.1 (λ z. omega arith)) (λ m. number_differs m.1 (λ z. omega arith)) k.1) h.1,
      ))
      d.answered
  is_claim OlderBroken d =
      ⊎_elim
      (λ h. number_differs h.1 (λ z. omega arith))
      (λ h.
      ⊎_elim
      (λ k. second_differs k.1 (λ z. omega arith))
      (λ k. (h.0, k.0, ⊎_elim (λ m. m.0) (λ m. number_differs m.1 (λ z. omega arith)) k.1))
      h.1)
      d.answered

  -- the claim of an answer with number 0
  claim_decided : {ts us : List Term} (r : EntryAnswer) → Right → BothLeaves columns newer older ts us → DecidingClaim r → deciding_numbers r ≡ numbers 0 (deciding_numbers r).second → Is r
  claim_decided {ts} {us} r h l p e =
      record { answered = inr (h, inr ((ts, l.0), inr ((us, l.1), e))); decides = λ vs ws g m. claim_decides vs ws g m r p }

  claim_is : (r : EntryAnswer) → DecidingClaim r → Is r
  claim_is (Newer start size) p = claim_decided (Newer start size) p.0 p.1.2 p refl
  claim_is (Older start size) p = claim_decided (Older start size) p.0 p.1.2 p refl
  claim_is Nothing p = claim_decided Nothing p.0 p.1.2 p refl
  claim_is Shape p = record { answered = inl (p, refl); decides = λ ts us h l. p h }
  claim_is NewerBroken p = record { answered = inr (p.0, inl (p.1, refl)); decides = λ ts us h l. p.1 ts l.0 }
  claim_is OlderBroken p = record { answered = inr (p.0, inr (p.1, inl (p.2, refl))); decides = λ ts us h l. p.2 us l.1 }

  pub deciding_claims : (r : EntryAnswer) → Is r ↔ DecidingClaim r
  deciding_claims r = (is_claim r, claim_is r)

  -- an answer whose claim holds is given exactly
  pub deciding_exact : {r : EntryAnswer} → DecidingClaim r → (a : EntryAnswer) → (r ≡ a) ↔ Is a
  deciding_exact {r} p a = (λ e. claim_is a (subst DecidingClaim e p), λ q. deciding_once r a p (is_claim a q))

  -- what the numbers 1 and 3 say
  pub shape_exactly : {r : EntryAnswer} → Is r → ((deciding_numbers r).number ≡ 1) ↔ (Right → ⊥)
  shape_exactly {r} d = go r (is_claim r d)
    where
      go : (r : EntryAnswer) → DecidingClaim r → ((deciding_numbers r).number ≡ 1) ↔ (Right → ⊥)
      go (Newer start size) p = (λ z. absurd (omega arith), λ n. absurd (n p.0))
      go (Older start size) p = (λ z. absurd (omega arith), λ n. absurd (n p.0))
      go Nothing p = (λ z. absurd (omega arith), λ n. absurd (n p.0))
      go Shape p = (λ _. p, λ _. refl)
      go NewerBroken p = (λ z. absurd (omega arith), λ n. absurd (n p.0))
      go OlderBroken p = (λ z. absurd (omega arith), λ n. absurd (n p.0))

  pub newer_broken_exactly : {r : EntryAnswer} → Is r → (deciding_numbers r ≡ numbers 3 0) ↔ (Right × NoLeaf columns newer)
  newer_broken_exactly {r} d = go r (is_claim r d)
    where
      go : (r : EntryAnswer) → DecidingClaim r → (deciding_numbers r ≡ numbers 3 0) ↔ (Right × NoLeaf columns newer)
      go (Newer start size) p = (λ e. number_differs e (λ z. omega arith), λ n. absurd (n.1 p.1.0 p.1.2.0))
      go (Older start size) p = (λ e. number_differs e (λ z. omega arith), λ n. absurd (n.1 p.1.0 p.1.2.0))
      go Nothing p = (λ e. number_differs e (λ z. omega arith), λ n. absurd (n.1 p.1.0 p.1.2.0))
      go Shape p = (λ e. number_differs e (λ z. omega arith), λ n. absurd (p n.0))
      go NewerBroken p = (λ _. p, λ _. refl)
      go OlderBroken p = (λ e. second_differs e (λ z. omega arith), λ n. absurd (n.1 p.1.0 p.1.1))

  pub older_broken_exactly : {r : EntryAnswer} → Is r → (deciding_numbers r ≡ numbers 3 1) ↔ (Right × IsLeaf columns newer × NoLeaf columns older)
  older_broken_exactly {r} d = go r (is_claim r d)
    where
      go : (r : EntryAnswer) → DecidingClaim r → (deciding_numbers r ≡ numbers 3 1) ↔ (Right × IsLeaf columns newer × NoLeaf columns older)
      go (Newer start size) p = (λ e. number_differs e (λ z. omega arith), λ n. absurd (n.2 p.1.1 p.1.2.1))
      go (Older start size) p = (λ e. number_differs e (λ z. omega arith), λ n. absurd (n.2 p.1.1 p.1.2.1))
      go Nothing p = (λ e. number_differs e (λ z. omega arith), λ n. absurd (n.2 p.1.1 p.1.2.1))
      go Shape p = (λ e. number_differs e (λ z. omega arith), λ n. absurd (p n.0))
      go NewerBroken p = (λ e. second_differs e (λ z. omega arith), λ n. absurd (p.1 n.1.0 n.1.1))
      go OlderBroken p = (λ _. p, λ _. refl)

  pub newer_inside : (start size : ℕ) → Is (Newer start size) → start + size ≤ length newer
  newer_inside start size d = let p = is_claim (Newer start size) d in omega (arith, entry_inside p.1.3, ap length p.1.2.0.bytes)

  pub older_inside : (start size : ℕ) → Is (Older start size) → start + size ≤ length older
  older_inside start size d = let p = is_claim (Older start size) d in omega (arith, entry_inside p.1.4, ap length p.1.2.1.bytes)

-- where a match falls past what was found, the part is empty
pub none_decides : (newer older : List ℕ) (r : EntryAnswer) → OneOf (2 ∷ 3 ∷ 4 ∷ 5 ∷ []) (tag_of entry-answer.the_type r) → [] ≡ entry_part newer older r
none_decides newer older (Newer start size) k = absurd (miss (2 ∷ 3 ∷ 4 ∷ 5 ∷ []) 0 tt k)
none_decides newer older (Older start size) k = absurd (miss (2 ∷ 3 ∷ 4 ∷ 5 ∷ []) 1 tt k)
none_decides newer older Nothing k = refl
none_decides newer older Shape k = refl
none_decides newer older NewerBroken k = refl
none_decides newer older OlderBroken k = refl
