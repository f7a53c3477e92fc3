-- What a search's promise says of its answer, one theorem for each demand, and what each number says (`accepted_exactly`
-- and the like). `s` is the promise for any search in a room of `n` numbers that answered `r` and left `room`.
use Prim.Native.Nat.{ℕ, zero, suc, ◌+◌, ◌-◌, ◌≤◌, ◌<◌}
use native.Mathlib.Nat.{not-suc-le-zero, le_of_suc-le-suc}
use native.Mathlib.Omega.{arith}
use mathlib.Core.Path.{◌≡◌, refl, sym, ap, ◌∙◌, subst}
use mathlib.Core.Logic.{◌↔◌, ◌⊎◌, inl, inr, ⊎_elim}
use mathlib.Core.List.Memᴰ
use mathlib.Core.List.{List, [], ◌∷◌, ◌++◌, map, Memᴰ}
use mathlib.Core.Bool.{true}
use lib.IntN.{ℤ}
use lib.ListN.{length, get_or, take, length-map}
use lib.Seq.{take_at}
use lib.Signed.{lt_z}
use borrow.Author.Tests.{lt-ltb}
use Rattle.common.specs.Refusals.{Numbers, numbers, Refusal, FirstDue, room_refusal}
use Rattle.common.specs.Rooms.{zeros}
use Rattle.common.proofs.Refusals.{passes, gives, number_differs, first_due_once, room_gives}
use Rattle.common.proofs.Lists.{empty}
use Rattle.common.proofs.Members.{no_member}
use Rattle.offsets.proofs.Cuts.{length_cut}
use Rattle.doclist.specs.Docid.{docid_limit, docid_of, key_of}
use Rattle.doclist.proofs.Docids.{key_of_docid, same_order}
use Rattle.doclist.specs.Doclist.{Rising}
use Rattle.doclist.proofs.Content.{rising_low}
use Rattle.leaf.specs.Leaf.{Term, IsLeaf, NoLeaf, AreLeaves}
use Rattle.leaf.specs.Answers.{leaf_refusals}
use Rattle.query.specs.Tree.{Tree, NOT, joined, FilledTree}
use Rattle.query.proofs.Bounds as bounds
use Rattle.query.proofs.Accepting.{reads_unique}
use Rattle.meaning.specs.Satisfies.{Satisfies, StandsAt}
use Rattle.meaning.specs.Written.{WrittenTree}
use Rattle.meaning.specs.Index.{live}
use Rattle.meaning.specs.Listing.{Answers, room_with}
use Rattle.meaning.proofs.Lists.{lists_unique}
use Rattle.meaning.proofs.Some.{holds_some}
use Rattle.meaning.proofs.Distances.{answers_with_same}
use Rattle.search.specs.Search.{numbers_of, Input, column_names, column_count, leaf_bytes, leaf_pairs, ShapeRight, IsQuery, IndexIs, Searchable, refusals, room_for, SearchedWith, Searched}
use Rattle.search.specs.Checking.{SoundLeaves}
use Rattle.search.specs.declared.Answer.{Answer}
use Rattle.search.specs.declared.Answer.TheVariants as answer
use Rattle.search.proofs.Indexes.{newest_none}
use Rattle.search.proofs.Order.{numbers_once, refusals_exclusive, first_broken, broken_first, searchable, last_due, behind_shape, behind_query, other_need}

-- ---- the leaves that break a rule

-- the leaf `i` breaks a rule
abbrev pub Breaks : Input → List (List ℕ) → ℕ → Type 0
Breaks x bs i = NoLeaf (column_count x) (get_or bs i [])

-- what is known of an answer that the leaves of number `k` on decide: it names the first of them that breaks a rule
pub record FirstBroken (x : Input) (bs : List (List ℕ)) (k i : ℕ) (r : Answer) : Type 0 where
  pub first : ℕ
  pub answers : r ≡ answer.Leaf (k + first)
  pub not_later : first ≤ i
  pub breaks : Breaks x bs first
  pub others_keep : (j : ℕ) → j < first → IsLeaf (column_count x) (get_or bs j [])

module _ (x : Input) (r : Answer) where
  broken_here : (k i : ℕ) (b : List ℕ) (bs : List (List ℕ)) → NoLeaf (column_count x) b → numbers_of r ≡ numbers 3 k → FirstBroken x (b ∷ bs) k i r
  broken_here k i b bs n a =
      let e : k ≡ k + 0 = omega arith in
      record { first = 0; answers = numbers_once r (answer.Leaf k) a ∙ ap answer.Leaf e; not_later = omega arith; breaks = n; others_keep = λ j m. absurd (not-suc-le-zero m) }

  broken_later : (k i : ℕ) (b : List ℕ) (bs : List (List ℕ)) → IsLeaf (column_count x) b → FirstBroken x bs (suc k) i r → FirstBroken x (b ∷ bs) k (suc i) r
  broken_later k i b bs l f =
      let e : suc k + f.first ≡ k + suc f.first = omega arith in
      record {
        first = suc f.first;
        answers = f.answers ∙ ap answer.Leaf e;
        not_later = let l = f.not_later in omega arith;
        breaks = f.breaks;
        others_keep = others;
      }
    where
      others : (j : ℕ) → j < suc f.first → IsLeaf (column_count x) (get_or (b ∷ bs) j [])
      others zero m = l
      others (suc j) m = f.others_keep j (le_of_suc-le-suc m)

  first_of : (fs : List Refusal) (accepted : Numbers) (k i : ℕ) (bs : List (List ℕ)) → i < length bs → Breaks x bs i → FirstDue (leaf_refusals (column_count x) k bs ++ fs) accepted (numbers_of r)
      → FirstBroken x bs k i r
  first_of fs accepted k i [] l b d = absurd (not-suc-le-zero l)
  first_of fs accepted k zero (c ∷ bs) l b d = ⊎_elim (λ h. broken_here k 0 c bs h.0 h.1) (λ h. absurd (b h.0.0 h.0.1)) d
  first_of fs accepted k (suc i) (c ∷ bs) l b d =
      ⊎_elim (λ h. broken_here k (suc i) c bs h.0 h.1) (λ h. broken_later k i c bs h.0 (first_of fs accepted (suc k) i bs (le_of_suc-le-suc l) b h.1)) d

-- ---- lists of docids

-- a docid that stands after another is greater
rising_from : (low limit : ℕ) (ds : List ℕ) → Rising low limit ds → (i : ℕ) → i < length ds → low ≤ get_or ds i 0
rising_from low limit [] h i l = absurd (not-suc-le-zero l)
rising_from low limit (d ∷ ds) h zero l = h.0
rising_from low limit (d ∷ ds) h (suc i) l = let k = rising_from (suc d) limit ds h.2 i (le_of_suc-le-suc l) in omega (arith, h.0)

rising_order : (low limit : ℕ) (ds : List ℕ) → Rising low limit ds → (i j : ℕ) → i < j → j < length ds → get_or ds i 0 < get_or ds j 0
rising_order low limit [] h i j m l = absurd (not-suc-le-zero l)
rising_order low limit (d ∷ ds) h i zero m l = absurd (not-suc-le-zero m)
rising_order low limit (d ∷ ds) h zero (suc j) m l = rising_from (suc d) limit ds h.2 j (le_of_suc-le-suc l)
rising_order low limit (d ∷ ds) h (suc i) (suc j) m l = rising_order (suc d) limit ds h.2 i j (le_of_suc-le-suc m) (le_of_suc-le-suc l)

shown_member : (d : ℕ) (ds : List ℕ) → Memᴰ (docid_of d) (map docid_of ds) ↔ Memᴰ d ds
shown_member d ds = (
  λ m. let o = Memᴰ.of_map docid_of ds m in let f : o.0 ≡ d = sym (key_of_docid o.0) ∙ ap key_of o.2 ∙ key_of_docid d in subst (λ k. Memᴰ k ds) f o.1,
  λ m. Memᴰ.map docid_of m,
)

-- ---- an index without leaves

-- nothing stands in it, and so no docid satisfies a query
none_satisfies : (t : Tree) (d : ℕ) → FilledTree t → Satisfies (live []) d t → ⊥
none_satisfies t d w h = Memᴰ.not-nil (holds_some (StandsAt (live []) d) t w h).2.2.2

-- ---- two answers

-- a refusal leaves zeros, whatever the list is
pub refused_zeros : (n : ℕ) (docids : List ℕ) (r : Answer) → ((numbers_of r).number ≡ 0 → ⊥) → room_for n docids r ≡ zeros n
refused_zeros n docids (answer.Found k) z = absurd (z refl)
refused_zeros n docids answer.Shape z = refl
refused_zeros n docids answer.Query z = refl
refused_zeros n docids (answer.Leaf i) z = refl
refused_zeros n docids (answer.Room k) z = refl

-- the checks were passed: the number is 0 or 4
abbrev pub Answered : Answer → Type 0
Answered r = ((numbers_of r).number ≡ 0) ⊎ ((numbers_of r).number ≡ 4)

pub passed_or_not : (r : Answer) → Answered r ⊎ ((((numbers_of r).number ≡ 0) → ⊥) × (((numbers_of r).number ≡ 4) → ⊥))
passed_or_not (answer.Found n) = inl (inl refl)
passed_or_not answer.Shape = inr (λ z. omega arith, λ z. omega arith)
passed_or_not answer.Query = inr (λ z. omega arith, λ z. omega arith)
passed_or_not (answer.Leaf i) = inr (λ z. omega arith, λ z. omega arith)
passed_or_not (answer.Room n) = inl (inr refl)

passed_searchable : (x : Input) (n : ℕ) (r : Answer) (room : List ℤ) (s : Searched x n r room) → Answered r
    → Searchable x × FirstDue (room_refusal n (length s.docids) ∷ []) (numbers 0 (length s.docids)) (numbers_of r)
passed_searchable x n r room s p =
    searchable x n (length s.docids) (numbers_of r) (not_other 1 (λ z. omega arith) (λ z. omega arith)) (not_other 2 (λ z. omega arith) (λ z. omega arith)) (not_other 3 (λ z. omega arith) (λ z. omega arith)) s.answered
  where
    not_other : (k : ℕ) → (0 ≡ k → ⊥) → (4 ≡ k → ⊥) → (numbers_of r).number ≡ k → ⊥
    not_other k a b e = ⊎_elim (λ z. a (sym z ∙ e)) (λ z. b (sym z ∙ e)) p

-- the answer and what the room holds are unique
pub answer_unique : (x : Input) (n : ℕ) (r q : Answer) (room left : List ℤ) → Searched x n r room → Searched x n q left → (r ≡ q) × (room ≡ left)
answer_unique x n r q room left s t =
    ⊎_elim
    (λ a. agree (once (passed_searchable x n r room s a).0))
    (λ a. ⊎_elim (λ b. agree (once (passed_searchable x n q left t b).0)) (λ b. refused a b) (passed_or_not q))
    (passed_or_not r)
  where
    once : Searchable x → s.docids ≡ t.docids
    once a =
        lists_unique _ s.docids t.docids
        (s.listed a.tree a.index a.shape a.is_query a.is_index) (t.listed a.tree a.index a.shape a.is_query a.is_index)

    same_answer : FirstDue (refusals x n (length t.docids)) (numbers 0 (length t.docids)) (numbers_of r) → r ≡ q
    same_answer d =
        numbers_once r q
        (first_due_once (refusals x n (length t.docids)) (refusals_exclusive x n (length t.docids)) (numbers 0 (length t.docids)) (numbers_of r) (numbers_of q) d t.answered)

    agree : s.docids ≡ t.docids → (r ≡ q) × (room ≡ left)
    agree e =
        let p = same_answer (subst (λ (l : List ℕ). FirstDue (refusals x n (length l)) (numbers 0 (length l)) (numbers_of r)) e s.answered) in
        (p, s.left ∙ ap (room_for n s.docids) p ∙ ap (λ (l : List ℕ). room_for n l q) e ∙ sym t.left)

    refused : (((numbers_of r).number ≡ 0) → ⊥) × (((numbers_of r).number ≡ 4) → ⊥) → (((numbers_of q).number ≡ 0) → ⊥) × (((numbers_of q).number ≡ 4) → ⊥) → (r ≡ q) × (room ≡ left)
    refused a b =
        let p = same_answer (other_need x n (length s.docids) (length t.docids) (numbers_of r) a.0 a.1 s.answered) in
        (p, s.left ∙ refused_zeros n s.docids r a.0 ∙ sym (refused_zeros n t.docids q b.0) ∙ sym t.left)

-- ---- queries with every distance written

-- a search for one gives the same, whatever a NEAR without a number stands for
pub written_same : (b c : ℕ) (x : Input) (n : ℕ) (r : Answer) (room : List ℤ) (tree : Tree)
    → IsQuery x tree → WrittenTree tree → SearchedWith b x n r room → SearchedWith c x n r room
written_same b c x n r room tree q w s =
    record {
      docids = s.docids;
      listed = λ t index shape query is.
          answers_with_same b c index t s.docids (subst WrittenTree (reads_unique (column_names x) x.query tree t q query) w) (s.listed t index shape query is);
      answered = s.answered;
      left = s.left;
    }

-- "every query with all its distances written has the same list as before": when it stood for 10
pub same_as_before : (x : Input) (n : ℕ) (r q : Answer) (room left : List ℤ) (tree : Tree)
    → IsQuery x tree → WrittenTree tree → SearchedWith 10 x n r room → Searched x n q left → (r ≡ q) × (room ≡ left)
same_as_before x n r q room left tree h w s t = answer_unique x n r q room left (written_same 10 3 x n r room tree h w s) t

-- ---- the search

module _ (x : Input) (n : ℕ) (r : Answer) (room : List ℤ) (s : Searched x n r room) where
  -- its shape is right, the query is this tree, and the leaves make up this index
  module _ (tree : Tree) (index : List (List Term)) (shape : ShapeRight x) (query : IsQuery x tree) (is : IndexIs x index) where
    list : Answers index tree s.docids
    list = s.listed tree index shape query is

    -- listed ⇔ satisfies
    pub listed_satisfies : (d : ℕ) → d < docid_limit → Memᴰ d s.docids ↔ Satisfies (live index) d tree
    listed_satisfies d h = list.exact d h

    -- in rising order, and so each once
    pub listed_rising : (i j : ℕ) → i < j → j < length s.docids → get_or s.docids i 0 < get_or s.docids j 0
    listed_rising = rising_order 0 docid_limit s.docids list.rising

    -- "Rising order in demand 3 is signed order" (document 02, §9)
    pub listed_signed : (i j : ℕ) → i < j → j < length s.docids → lt_z (docid_of (get_or s.docids i 0)) (docid_of (get_or s.docids j 0)) ≡ true
    listed_signed i j h l = same_order (get_or s.docids i 0) (get_or s.docids j 0) ∙ lt-ltb _ _ (listed_rising i j h l)

    decides : FirstDue (room_refusal n (length s.docids) ∷ []) (numbers 0 (length s.docids)) (numbers_of r)
    decides = last_due x n (length s.docids) (numbers_of r) shape tree query index is s.answered

    -- with room for the answers it is accepted: the count is the list's length, and the room holds the list and zeros
    pub count_is_length : length s.docids ≤ n → (r ≡ answer.Found (length s.docids)) × (room ≡ room_with n s.docids)
    count_is_length h =
        let e : r ≡ answer.Found (length s.docids) = ⊎_elim (λ d. absurd (let k = d.0 in omega arith)) (λ d. numbers_once r (answer.Found (length s.docids)) d.1) decides in
        (e, s.left ∙ ap (room_for n s.docids) e)

    -- with too little room it is refused: the need is the length of that same list, and the room holds zeros
    pub need_is_length : n < length s.docids → (r ≡ answer.Room (length s.docids)) × (room ≡ zeros n)
    need_is_length h =
        let e : r ≡ answer.Room (length s.docids) = ⊎_elim (λ d. numbers_once r (answer.Room (length s.docids)) d.1) (λ d. absurd (let k = d.0 in omega arith)) decides in
        (e, s.left ∙ ap (room_for n s.docids) e)

    -- the docids that stand in the room are those that satisfy
    pub room_satisfies : length s.docids ≤ n → (d : ℕ) → d < docid_limit → Memᴰ (docid_of d) (take (length s.docids) room) ↔ Satisfies (live index) d tree
    room_satisfies h d l =
        let e : take (length s.docids) room ≡ map docid_of s.docids =
        ap (take (length s.docids)) (count_is_length h).1 ∙ take_at (map docid_of s.docids) _ (length s.docids) (length-map s.docids docid_of) in
        let m = shown_member d s.docids in
        let t = listed_satisfies d l in
        (λ k. t.0 (m.0 (subst (Memᴰ (docid_of d)) e k)), λ k. subst (Memᴰ (docid_of d)) (sym e) (m.1 (t.1 k)))

  -- with no leaves the list is empty
  pub no_leaves : (tree : Tree) → ShapeRight x → IsQuery x tree → length x.leaf_ends ≡ 0 → (s.docids ≡ []) × (r ≡ answer.Found 0) × (room ≡ zeros n)
  no_leaves tree shape query z =
      let b : leaf_bytes x ≡ [] = empty (leaf_bytes x) (length_cut x.leaves x.leaf_ends ∙ z) in
      let l : IndexIs x [] = record { contents = []; are_leaves = subst (λ bs. AreLeaves (column_count x) bs []) (sym b) tt; newest_first = newest_none (leaf_pairs x) } in
      let list = s.listed tree [] shape query l in
      let e : s.docids ≡ [] =
      no_member s.docids (λ d m.
      let k = rising_low 0 docid_limit s.docids d list.rising m in
      none_satisfies tree d (bounds.reads_filled query) ((list.exact d k.1).0 m)) in
      let c = count_is_length tree [] shape query l (subst (λ ds. length ds ≤ n) (sym e) (omega arith)) in
      let k : n - 0 ≡ n = omega arith in
      (e, c.0 ∙ ap (λ ds. answer.Found (length ds)) e, c.1 ∙ ap (room_with n) e ∙ ap zeros k)

  -- if a leaf breaks a rule the answer is the first that does, and zeros, whatever the others hold
  pub refused_leaf : (tree : Tree) → ShapeRight x → IsQuery x tree → (i : ℕ) → i < length x.leaf_ends → Breaks x (leaf_bytes x) i
      → FirstBroken x (leaf_bytes x) 0 i r × (room ≡ zeros n)
  refused_leaf tree shape query i l b =
      let m = length s.docids in
      let c = length_cut x.leaves x.leaf_ends in
      let f = first_of x r (room_refusal n m ∷ []) (numbers 0 m) 0 i (leaf_bytes x) (omega arith) b (passes (λ f. f tree query) (passes (λ f. f shape) s.answered).1).1 in
      (f, s.left ∙ ap (room_for n s.docids) f.answers)

  -- a broken shape, and a query that is none, are refused by their number, and zeros
  pub refused_shape : (ShapeRight x → ⊥) → (r ≡ answer.Shape) × (room ≡ zeros n)
  refused_shape h =
      let e = numbers_once r answer.Shape (gives h s.answered).1 in
      (e, s.left ∙ ap (room_for n s.docids) e)

  pub refused_query : ShapeRight x → ((tree : Tree) → IsQuery x tree → ⊥) → (r ≡ answer.Query) × (room ≡ zeros n)
  refused_query shape h =
      let e = numbers_once r answer.Query (gives (λ q. h q.0 q.1) (passes (λ f. f shape) s.answered).1).1 in
      (e, s.left ∙ ap (room_for n s.docids) e)

  -- a row that satisfies the right side of a NOT is not in the list
  pub not_right_side : (left right : Tree) (index : List (List Term)) → ShapeRight x → IsQuery x (joined NOT left right) → IndexIs x index
      → (d : ℕ) → d < docid_limit → Satisfies (live index) d right → Memᴰ d s.docids → ⊥
  not_right_side left right index shape query is d h t m = ((listed_satisfies (joined NOT left right) index shape query is d h).0 m).1 t

  -- ---- what each number says

  -- answer 0 or 4 ⇔ the shape is right, the query is a tree, and the leaves make up an index
  pub searchable_exactly : Answered r ↔ Searchable x
  searchable_exactly = (
    λ p. (passed_searchable x n r room s p).0,
    λ a.
        ⊎_elim
        (λ h. inr (ap (λ (m : Numbers). m.number) h.1))
        (λ h. inl (ap (λ (m : Numbers). m.number) h.1))
        (decides a.tree a.index a.shape a.is_query a.is_index),
  )

  -- the list of a search that passes the checks
  same_list : (a : Searchable x) (docids : List ℕ) → Answers a.index a.tree docids → docids ≡ s.docids
  same_list a docids h = lists_unique _ docids s.docids h (s.listed a.tree a.index a.shape a.is_query a.is_index)

  -- answer 0 ⇔ so, and the list of all docids that satisfy the query is no longer than the room
  pub accepted_exactly : ((numbers_of r).number ≡ 0) ↔ ((a : Searchable x) × (docids : List ℕ) × Answers a.index a.tree docids × (length docids ≤ n))
  accepted_exactly = (there, back)
    where
      there : (numbers_of r).number ≡ 0 → (a : Searchable x) × (docids : List ℕ) × Answers a.index a.tree docids × (length docids ≤ n)
      there z =
          let w = passed_searchable x n r room s (inl z) in
          let a = w.0 in (
            a,
            s.docids,
            s.listed a.tree a.index a.shape a.is_query a.is_index,
            ⊎_elim (λ h. let e = ap (λ (m : Numbers). m.number) h.1 in absurd (omega arith)) (λ h. h.0) w.1,
          )

      back : (a : Searchable x) × (docids : List ℕ) × Answers a.index a.tree docids × (length docids ≤ n) → (numbers_of r).number ≡ 0
      back h =
          let a = h.0 in
          let l = subst (λ (ds : List ℕ). length ds ≤ n) (same_list a h.1 h.2) h.3 in
          ap (λ (q : Answer). (numbers_of q).number) (count_is_length a.tree a.index a.shape a.is_query a.is_index l).0

  -- answer 4 ⇔ it is longer
  pub no_room_exactly : ((numbers_of r).number ≡ 4) ↔ ((a : Searchable x) × (docids : List ℕ) × Answers a.index a.tree docids × (n < length docids))
  no_room_exactly = (there, back)
    where
      there : (numbers_of r).number ≡ 4 → (a : Searchable x) × (docids : List ℕ) × Answers a.index a.tree docids × (n < length docids)
      there z =
          let w = passed_searchable x n r room s (inr z) in
          let a = w.0 in (
            a,
            s.docids,
            s.listed a.tree a.index a.shape a.is_query a.is_index,
            ⊎_elim (λ h. h.0) (λ h. let e = ap (λ (m : Numbers). m.number) h.1 in absurd (omega arith)) w.1,
          )

      back : (a : Searchable x) × (docids : List ℕ) × Answers a.index a.tree docids × (n < length docids) → (numbers_of r).number ≡ 4
      back h =
          let a = h.0 in
          let l = subst (λ (ds : List ℕ). n < length ds) (same_list a h.1 h.2) h.3 in
          ap (λ (q : Answer). (numbers_of q).number) (need_is_length a.tree a.index a.shape a.is_query a.is_index l).0

  -- answer 1 ⇔ the shape is broken
  pub shape_exactly : ((numbers_of r).number ≡ 1) ↔ (ShapeRight x → ⊥)
  shape_exactly = (
    λ z h. behind_shape x n (length s.docids) (numbers_of r) (passes (λ f. f h) s.answered).1 z,
    λ h. ap (λ (q : Answer). (numbers_of q).number) (refused_shape h).0,
  )

  -- answer 2 ⇔ the shape is right and the query is none
  pub query_exactly : ((numbers_of r).number ≡ 2) ↔ (ShapeRight x × ((tree : Tree) → IsQuery x tree → ⊥))
  query_exactly = (
    λ z.
        ⊎_elim
        (λ h. let e = ap (λ (m : Numbers). m.number) h.1 in absurd (omega arith))
        (λ h. (h.0, λ tree q. behind_query x n (length s.docids) (numbers_of r) (passes (λ f. f tree q) h.1).1 z))
        s.answered,
    λ h. ap (λ (q : Answer). (numbers_of q).number) (refused_query h.0 h.1).0,
  )

  -- answer 3 with `i` ⇔ the shape is right, the query is a tree, and the leaf `i` is the first that breaks a rule
  pub leaf_exactly : (i : ℕ) → (numbers_of r ≡ numbers 3 i)
      ↔ (ShapeRight x × ((tree : Tree) × IsQuery x tree) × SoundLeaves (column_count x) (leaf_bytes x) i × (i < length (leaf_bytes x)))
  leaf_exactly i = (there, back)
    where
      m : ℕ
      m = length s.docids

      there : numbers_of r ≡ numbers 3 i → ShapeRight x × ((tree : Tree) × IsQuery x tree) × SoundLeaves (column_count x) (leaf_bytes x) i × (i < length (leaf_bytes x))
      there e =
          ⊎_elim
          (λ h. number_differs h.1 (λ z. omega arith))
          (λ h.
          ⊎_elim
          (λ g. number_differs g.1 (λ z. omega arith))
          (λ g.
          let w = broken_first (column_count x) (room_refusal n m ∷ []) (numbers 0 m) 0 i (leaf_bytes x) (λ k d z. room_gives n m 3 k (λ y. omega arith) (λ y. omega arith) d z) g.1 in
          let q : w.0 ≡ i = omega (arith, w.1) in (
            h.0,
            g.0,
            subst (SoundLeaves (column_count x) (leaf_bytes x)) q (record { index = w.3.0; sound = w.3.1; inside = omega (arith, w.2); broken = λ _. w.4 }),
            subst (λ (k : ℕ). k < length (leaf_bytes x)) q w.2,
          ))
          h.1)
          (subst (FirstDue (refusals x n m) (numbers 0 m)) e s.answered)

      back : ShapeRight x × ((tree : Tree) × IsQuery x tree) × SoundLeaves (column_count x) (leaf_bytes x) i × (i < length (leaf_bytes x)) → numbers_of r ≡ numbers 3 i
      back h =
          first_due_once (refusals x n m) (refusals_exclusive x n m) (numbers 0 m) (numbers_of r) (numbers 3 i) s.answered
          (inr (h.0, inr (h.1, first_broken (column_count x) (room_refusal n m ∷ []) (numbers 0 m) 0 i i (leaf_bytes x) h.2.index (omega arith) h.2.sound h.3 (h.2.broken h.3))))
