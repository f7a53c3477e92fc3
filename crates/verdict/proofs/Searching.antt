-- One search of the three: the list that it leaves at the front of its room, and the numbers that its refusals give.
use Prim.Native.Nat.{ℕ, suc, ◌-◌, ◌≤◌}
use native.Mathlib.Omega.{arith}
use mathlib.Core.Path.{◌≡◌, refl, sym, ap, ◌∙◌, subst}
use mathlib.Core.Logic.{◌⊎◌, inl, inr, ⊎_elim}
use mathlib.Core.List.{List, [], ◌∷◌, ◌++◌, map, append_assoc}
use lib.IntN.{ℤ, pos}
use lib.ListN.{length, take, replicate, length-append, length-map, length-replicate}
use lib.Seq.{take_at}
use Rattle.common.specs.Refusals.{Numbers, numbers, Refusal, FirstDue, AllPassed, shape_refusal, room_refusal}
use Rattle.common.proofs.Refusals.{Lacks, all_passed, number_differs, passed_first, lacks_append, lacks_passed, same_front, exclusive_front}
use Rattle.doclist.specs.Docid.{docid_of}
use Rattle.leaf.specs.Answers.{leaf_refusals}
use Rattle.meaning.specs.Listing.{Answers, room_with}
use Rattle.meaning.proofs.Lists.{lists_unique}
use Rattle.search.specs.Search.{Input, column_count, leaf_bytes, ShapeRight, Searchable, numbers_of, query_refusal, refusals, Searched}
use Rattle.search.specs.declared.Answer.{Answer}
use Rattle.search.specs.declared.Answer.TheVariants as answer
use Rattle.search.proofs.Order.{refusals_exclusive, none_broken, searchable}
use Rattle.search.proofs.Corollaries.{accepted_exactly, count_is_length}
use Rattle.verdict.specs.Counting.{Shown, FoundIn}

-- ---- the list at the front

room_length : (n : ℕ) (ds : List ℕ) → length ds ≤ n → length (room_with n ds) ≡ n
room_length n ds h =
    let a = length-append (map docid_of ds) (replicate (n - length ds) (pos 0)) in
    let b = length-map ds docid_of in
    let c = length-replicate (n - length ds) (pos 0) in
    omega arith

module _ (x : Input) (n : ℕ) (r : Answer) (room : List ℤ) (s : Searched x n r room) (k : ℕ) (e : r ≡ answer.Found k) where
  found_list : (a : Searchable x) × Answers a.index a.tree s.docids × (length s.docids ≤ n)
  found_list =
      let w = (accepted_exactly x n r room s).0 (ap (λ (q : Answer). (numbers_of q).number) e) in
      let a = w.0 in
      let l = s.listed a.tree a.index a.shape a.is_query a.is_index in
      (a, l, subst (λ (ds : List ℕ). length ds ≤ n) (lists_unique _ w.1 s.docids w.2 l) w.3)

  -- the room holds the list, whose length is the answer
  found_length : k ≡ length s.docids
  found_length =
      let w = found_list in
      let a = w.0 in
      ap (λ (q : Answer). (numbers_of q).second) (sym e ∙ (count_is_length x n r room s a.tree a.index a.shape a.is_query a.is_index w.2).0)

  pub found_room : room ≡ room_with n s.docids
  found_room = let w = found_list in let a = w.0 in (count_is_length x n r room s a.tree a.index a.shape a.is_query a.is_index w.2).1

  -- a search that found its list shows it
  pub found_shown : Shown (take k room) s.docids
  found_shown =
      record {
        are = ap (take k) found_room ∙ take_at (map docid_of s.docids) _ k (length-map s.docids docid_of ∙ sym found_length);
        rising = found_list.1.rising;
      }

  found_kept : length room ≡ n
  found_kept = ap length found_room ∙ room_length n s.docids found_list.2

  found_fits : k ≤ length room
  found_fits = omega (arith, found_kept, found_length, found_list.2)

pub found_in : (x : Input) (n : ℕ) (r : Answer) (room : List ℤ) → Searched x n r room → FoundIn r room
found_in x n (answer.Found k) room s = (s.docids, found_shown x n (answer.Found k) room s k refl, found_fits x n (answer.Found k) room s k refl)
found_in x n answer.Shape room s = tt
found_in x n answer.Query room s = tt
found_in x n (answer.Leaf i) room s = tt
found_in x n (answer.Room k) room s = tt

-- a room keeps its length
pub kept_room : (x : Input) (n : ℕ) (r : Answer) (room : List ℤ) → Searched x n r room → length room ≡ n
kept_room x n (answer.Found k) room s = found_kept x n (answer.Found k) room s k refl
kept_room x n answer.Shape room s = ap length s.left ∙ length-replicate n (pos 0)
kept_room x n answer.Query room s = ap length s.left ∙ length-replicate n (pos 0)
kept_room x n (answer.Leaf i) room s = ap length s.left ∙ length-replicate n (pos 0)
kept_room x n (answer.Room k) room s = ap length s.left ∙ length-replicate n (pos 0)

-- ---- the numbers of its refusals

module _ (k : ℕ) where
  lacks_leaves : (3 ≡ k → ⊥) → (count i : ℕ) (bs : List (List ℕ)) → Lacks k (leaf_refusals count i bs)
  lacks_leaves n count i [] = tt
  lacks_leaves n count i (b ∷ bs) = (n, lacks_leaves n count (suc i) bs)

  -- those after the shape
  pub lacks_tail : (x : Input) (n need : ℕ) → (2 ≡ k → ⊥) → (3 ≡ k → ⊥) → (4 ≡ k → ⊥) → Lacks k (query_refusal x ∷ (leaf_refusals (column_count x) 0 (leaf_bytes x) ++ room_refusal n need ∷ []))
  lacks_tail x n need a b c =
      (a, lacks_append k (leaf_refusals (column_count x) 0 (leaf_bytes x)) (room_refusal n need ∷ []) (lacks_leaves b (column_count x) 0 (leaf_bytes x)) (c, tt))

  -- all
  pub lacks_search : (x : Input) (n need : ℕ) → (1 ≡ k → ⊥) → (2 ≡ k → ⊥) → (3 ≡ k → ⊥) → (4 ≡ k → ⊥) → Lacks k (refusals x n need)
  lacks_search x n need a b c d = (a, lacks_tail x n need b c d)

lacks_zero : (x : Input) (n need : ℕ) → Lacks 0 (refusals x n need)
lacks_zero x n need = lacks_search 0 x n need (λ z. omega arith) (λ z. omega arith) (λ z. omega arith) (λ z. omega arith)

-- a search that found its list passed them
pub found_passed : (x : Input) (n : ℕ) (r : Answer) (room : List ℤ) (s : Searched x n r room) → (numbers_of r).number ≡ 0 → AllPassed (refusals x n (length s.docids))
found_passed x n r room s z =
    let fs = refusals x n (length s.docids) in
    lacks_passed fs (numbers 0 (length s.docids)) (numbers_of r) (subst (λ (k : ℕ). Lacks k fs) (sym z) (lacks_zero x n (length s.docids))) s.answered

-- they are passed exactly where the search is accepted
pub passed_searchable : (x : Input) (n need : ℕ) → AllPassed (refusals x n need) → Searchable x × (need ≤ n)
passed_searchable x n need p =
    let w = searchable x n need (numbers 0 need) (λ z. omega arith) (λ z. omega arith) (λ z. omega arith) (all_passed (refusals x n need) (numbers 0 need) p) in
    (w.0, ⊎_elim (λ h. number_differs h.1 (λ z. omega arith)) (λ h. h.0) w.1)

pub searchable_passed : (x : Input) (n need : ℕ) → Searchable x → need ≤ n → AllPassed (refusals x n need)
searchable_passed x n need a l =
    lacks_passed (refusals x n need) (numbers 0 need) (numbers 0 need) (lacks_zero x n need)
    (inr (
      a.shape,
      inr (
        (a.tree, a.is_query),
        none_broken (column_count x) (room_refusal n need ∷ []) (numbers 0 need) 0 (leaf_bytes x) a.is_index.contents (numbers 0 need) a.is_index.are_leaves (inr (l, refl)),
      ),
    ))

-- ---- two searches

-- the refusals before the room's
abbrev fore : Input → List Refusal
fore x = shape_refusal (ShapeRight x) ∷ query_refusal x ∷ leaf_refusals (column_count x) 0 (leaf_bytes x)

fore_searchable : (x : Input) → AllPassed (fore x) → Searchable x
fore_searchable x p =
    (searchable x 0 0 (numbers 0 0) (λ z. omega arith) (λ z. omega arith) (λ z. omega arith) (passed_first (room_refusal 0 0 ∷ []) (numbers 0 0) (numbers 0 0) (fore x) p (inr (omega arith, refl)))).0

-- of the same input, with the same need where it is searchable: the same numbers, or what follows gives them
module _ (x : Input) (n need other : ℕ) (fs gs : List Refusal) (a b m q : Numbers) (same : Searchable x → need ≡ other) where
  pub same_search : FirstDue (refusals x n need ++ fs) a m → FirstDue (refusals x n other ++ gs) b q → (m ≡ q) ⊎ (Searchable x × FirstDue fs a m × FirstDue gs b q)
  same_search d e =
      ⊎_elim inl
      (λ w. let s = fore_searchable x w.0 in ⊎_elim inl (λ h. inr (s, h.0, h.1)) (rooms (same s) w.1 w.2))
      (same_front (fore x) (room_refusal n need ∷ fs) (room_refusal n other ∷ gs) a b m q (exclusive_front (fore x) (room_refusal n 0 ∷ []) (refusals_exclusive x n 0))
      (subst (λ (l : List Refusal). FirstDue l a m) (append_assoc (fore x) (room_refusal n need ∷ []) fs) d)
      (subst (λ (l : List Refusal). FirstDue l b q) (append_assoc (fore x) (room_refusal n other ∷ []) gs) e))
    where
      rooms : need ≡ other → FirstDue (room_refusal n need ∷ fs) a m → FirstDue (room_refusal n other ∷ gs) b q → (m ≡ q) ⊎ (FirstDue fs a m × FirstDue gs b q)
      rooms h d e =
          ⊎_elim
          (λ o. ⊎_elim (λ p. inl (o.1 ∙ ap (numbers 4) h ∙ sym p.1)) (λ p. let k = o.0 in absurd (omega (arith, p.0))) e)
          (λ o. ⊎_elim (λ p. let k = o.0 in absurd (omega (arith, p.0))) (λ p. inr (o.1, p.1)) e)
          d
