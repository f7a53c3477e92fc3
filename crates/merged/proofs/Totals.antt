-- The total of live positions: an index has one (`total_some`, `total_one`), and a merge leaves it as it was (`total_same`).
use Prim.Native.Nat.{ℕ, ◌≤◌, ◌<◌}
use native.Mathlib.Omega.{arith}
use mathlib.Core.Path.{◌≡◌, refl, sym, ap, ◌∙◌, subst}
use mathlib.Core.Bool.{Bool}
use mathlib.Core.Logic.{inl, inr, ⊎_elim}
use mathlib.Core.List.Memᴰ
use mathlib.Core.List.{List, [], ◌∷◌, ◌++◌, map, Memᴰ}
use lib.ListN.{length}
use Rattle.common.proofs.Members.{member_map, member_each}
use Rattle.common.proofs.Numbers.{less_irrefl, less_trans}
use Rattle.directory.specs.Order.{up_to}
use Rattle.doclist.specs.Docid.{docid_limit}
use Rattle.doclist.specs.Doclist.{Entry}
use Rattle.doclist.proofs.Entries.{entry_good}
use Rattle.leaf.specs.Leaf.{Term, Before, WellFormed}
use Rattle.leaf.proofs.Words.{before_irrefl, before_trans, before_some}
use Rattle.document.proofs.Only.{rising_rise}
use Rattle.meaning.specs.Satisfies.{Live}
use Rattle.meaning.specs.Index.{MaybeEntry, nothing, or_else, deciding, decided_positions, live}
use Rattle.merged.specs.Merged.{Merged, index_of}
use Rattle.merged.specs.Totals.{position_count, columns_total, docids_total, words_total, HasWord, HasDocid, WordsAre, DocidsAre, TotalIs}
use Rattle.merged.proofs.Finding.{leaf_none, no_term, leaf_lacks, term_good}
use Rattle.merged.proofs.Living.{merged_live}
use Rattle.merged.proofs.Rising.{rising_some, member_or, less_compare, rise_rising, before_compare, words_rise, rise_words}
use Rattle.merged.proofs.Sums.{total_each, total_zero, InOrNothing, total_rise}

-- ---- what an index lacks

-- no entry decides for a word that it lacks
pub lacks_word : (index : List (List Term)) (word : List ℕ) (docid : ℕ) → (HasWord index word → ⊥) → deciding index word docid ≡ nothing
lacks_word [] word docid f = refl
lacks_word (ts ∷ index) word docid f =
    ap (λ (m : MaybeEntry). or_else m (deciding index word docid))
    (leaf_none ts word docid (no_term ts word (λ t m e. f (record { leaf = ts; term = t; in_index = Memᴰ.head refl; in_leaf = m; same_word = e }))))
    ∙ lacks_word index word docid (λ h. f (record { leaf = h.leaf; term = h.term; in_index = Memᴰ.tail h.in_index; in_leaf = h.in_leaf; same_word = h.same_word }))

-- nor for a docid that it lacks
pub lacks_docid : (index : List (List Term)) (word : List ℕ) (docid : ℕ) → (HasDocid index docid → ⊥) → deciding index word docid ≡ nothing
lacks_docid [] word docid f = refl
lacks_docid (ts ∷ index) word docid f =
    ap (λ (m : MaybeEntry). or_else m (deciding index word docid))
    (leaf_lacks ts word docid
    (λ t d m n e. f (record { leaf = ts; term = t; entry = d; in_index = Memᴰ.head refl; in_leaf = m; in_list = n; same_docid = e })))
    ∙ lacks_docid index word docid
    (λ h. f (record { leaf = h.leaf; term = h.term; entry = h.entry; in_index = Memᴰ.tail h.in_index; in_leaf = h.in_leaf; in_list = h.in_list; same_docid = h.same_docid }))

-- a word or a docid that an index lacks has no live position in it
no_positions : (index : List (List Term)) (word : List ℕ) (docid : ℕ) → deciding index word docid ≡ nothing → (column : ℕ) → live index word docid column ≡ []
no_positions index word docid e column = ap (λ (m : MaybeEntry). decided_positions m column) e

-- ---- sums of positions

-- no positions in any column
pub no_columns : (l : Live) (word : List ℕ) (docid count : ℕ) → ((column : ℕ) → l word docid column ≡ []) → columns_total l word docid count ≡ 0
no_columns l word docid count h = total_zero (λ (column : ℕ). position_count l word docid column) (up_to count) (λ column m. ap length (h column))

words_agree : (one other : Live) → ((word : List ℕ) (docid column : ℕ) → one word docid column ≡ other word docid column)
    → (words : List (List ℕ)) (docids : List ℕ) (count : ℕ) → words_total one words docids count ≡ words_total other words docids count
words_agree one other same words docids count =
    total_each (λ (word : List ℕ). docids_total one word docids count) (λ (word : List ℕ). docids_total other word docids count) words
    (λ word m.
    total_each (λ (docid : ℕ). columns_total one word docid count) (λ (docid : ℕ). columns_total other word docid count) docids
    (λ docid n.
    total_each (λ (column : ℕ). position_count one word docid column) (λ (column : ℕ). position_count other word docid column) (up_to count)
    (λ column k. ap length (same word docid column))))

-- ---- two indexes with the same live positions

module _ (i j : List (List Term)) (same : (word : List ℕ) (docid column : ℕ) → live i word docid column ≡ live j word docid column) (count : ℕ) where
  -- a docid of the one is one of the other, or counts nothing there
  docids_or : (ds es : List ℕ) → DocidsAre j es → (word : List ℕ) → InOrNothing (λ (docid : ℕ). columns_total (live i) word docid count) ds es
  docids_or ds es e word docid m =
      ⊎_elim
      (λ n. inl n)
      (λ n. inr (no_columns (live i) word docid count (λ column. same word docid column ∙ no_positions j word docid (lacks_docid j word docid (λ h. n ((e.exact docid).1 h))) column)))
      (member_or ◌<◌ less_irrefl less_compare docid es)

  words_or : (vs ws : List (List ℕ)) (docids : List ℕ) → WordsAre j ws → InOrNothing (λ (word : List ℕ). docids_total (live i) word docids count) vs ws
  words_or vs ws docids e word m =
      ⊎_elim
      (λ n. inl n)
      (λ n. inr
      (total_zero (λ (docid : ℕ). columns_total (live i) word docid count) docids
      (λ docid k. no_columns (live i) word docid count (λ column. same word docid column ∙ no_positions j word docid (lacks_word j word docid (λ h. n ((e.exact word).1 h))) column))))
      (member_or Before before_irrefl before_compare word ws)

-- they have the same total
pub total_agree : (i j : List (List Term)) → ((word : List ℕ) (docid column : ℕ) → live i word docid column ≡ live j word docid column)
    → (count n m : ℕ) → TotalIs i count n → TotalIs j count m → n ≡ m
total_agree i j same count n m s t =
    s.summed
    ∙ (words_agree (live i) (live j) same s.words s.docids count
    ∙ (total_each (λ (word : List ℕ). docids_total (live j) word s.docids count) (λ (word : List ℕ). docids_total (live j) word t.docids count) s.words (λ word k. rows word)
    ∙ (words ∙ sym t.summed)))
  where
    again : (word : List ℕ) (docid column : ℕ) → live j word docid column ≡ live j word docid column
    again word docid column = refl

    rows : (word : List ℕ) → docids_total (live j) word s.docids count ≡ docids_total (live j) word t.docids count
    rows word =
        total_rise ◌<◌ less_irrefl less_trans less_compare (λ (docid : ℕ). columns_total (live j) word docid count) s.docids t.docids
        (rising_rise 0 docid_limit s.docids s.docids_are.rising) (rising_rise 0 docid_limit t.docids t.docids_are.rising)
        (docids_or j j again count s.docids t.docids t.docids_are word)
        (docids_or j i (λ w d c. sym (same w d c)) count t.docids s.docids s.docids_are word)

    words : words_total (live j) s.words t.docids count ≡ words_total (live j) t.words t.docids count
    words =
        total_rise Before before_irrefl before_trans before_compare (λ (word : List ℕ). docids_total (live j) word t.docids count) s.words t.words
        (words_rise [] s.words s.words_are.rising) (words_rise [] t.words t.words_are.rising)
        (words_or j j again count s.words t.words t.docids t.words_are)
        (words_or j i (λ w d c. sym (same w d c)) count t.words s.words t.docids s.words_are)

-- an index has one total
pub total_one : (index : List (List Term)) (count n m : ℕ) → TotalIs index count n → TotalIs index count m → n ≡ m
total_one index = total_agree index index (λ word docid column. refl)

-- ---- the words and docids of an index

leaf_docids : List Term → List ℕ
leaf_docids [] = []
leaf_docids (t ∷ ts) = map (λ (e : Entry). e.docid) t.entries ++ leaf_docids ts

all_words : List (List Term) → List (List ℕ)
all_words [] = []
all_words (ts ∷ index) = map (λ (t : Term). t.word) ts ++ all_words index

all_docids : List (List Term) → List ℕ
all_docids [] = []
all_docids (ts ∷ index) = leaf_docids ts ++ all_docids index

word_from : (index : List (List Term)) (word : List ℕ) → Memᴰ word (all_words index) → HasWord index word
unfolding all_words
word_from [] word m = absurd (Memᴰ.not-nil m)
word_from (ts ∷ index) word m =
    ⊎_elim
    (λ n. let q = member_map (λ (t : Term). t.word) ts word n in record { leaf = ts; term = q.0; in_index = Memᴰ.head refl; in_leaf = q.1; same_word = sym q.2 })
    (λ n. let h = word_from index word n in record { leaf = h.leaf; term = h.term; in_index = Memᴰ.tail h.in_index; in_leaf = h.in_leaf; same_word = h.same_word })
    (Memᴰ.append_cases (map (λ (t : Term). t.word) ts) m)

word_in : (index : List (List Term)) (ts : List Term) (t : Term) → Memᴰ ts index → Memᴰ t ts → Memᴰ t.word (all_words index)
unfolding all_words
word_in [] ts t m n = absurd (Memᴰ.not-nil m)
word_in (us ∷ index) ts t m n =
    ⊎_elim
    (λ (e : ts ≡ us). Memᴰ.append_left (all_words index) (Memᴰ.map (λ (x : Term). x.word) (subst (Memᴰ t) e n)))
    (λ k. Memᴰ.append_right (map (λ (x : Term). x.word) us) (word_in index ts t k n))
    (Memᴰ.cases_cons m)

-- an entry of a leaf with a docid
record LeafHas (ts : List Term) (docid : ℕ) : Type 0 where
  term : Term
  entry : Entry
  in_leaf : Memᴰ term ts
  in_list : Memᴰ entry term.entries
  same_docid : entry.docid ≡ docid

leaf_docid_from : (ts : List Term) (docid : ℕ) → Memᴰ docid (leaf_docids ts) → LeafHas ts docid
unfolding leaf_docids
leaf_docid_from [] docid m = absurd (Memᴰ.not-nil m)
leaf_docid_from (t ∷ ts) docid m =
    ⊎_elim
    (λ n. let q = member_map (λ (e : Entry). e.docid) t.entries docid n in record { term = t; entry = q.0; in_leaf = Memᴰ.head refl; in_list = q.1; same_docid = sym q.2 })
    (λ n. let h = leaf_docid_from ts docid n in record { term = h.term; entry = h.entry; in_leaf = Memᴰ.tail h.in_leaf; in_list = h.in_list; same_docid = h.same_docid })
    (Memᴰ.append_cases (map (λ (e : Entry). e.docid) t.entries) m)

leaf_docid_in : (ts : List Term) (t : Term) (e : Entry) → Memᴰ t ts → Memᴰ e t.entries → Memᴰ e.docid (leaf_docids ts)
unfolding leaf_docids
leaf_docid_in [] t e m n = absurd (Memᴰ.not-nil m)
leaf_docid_in (u ∷ ts) t e m n =
    ⊎_elim
    (λ (p : t ≡ u). Memᴰ.append_left (leaf_docids ts) (Memᴰ.map (λ (d : Entry). d.docid) (subst (λ (x : Term). Memᴰ e x.entries) p n)))
    (λ k. Memᴰ.append_right (map (λ (d : Entry). d.docid) u.entries) (leaf_docid_in ts t e k n))
    (Memᴰ.cases_cons m)

docid_from : (index : List (List Term)) (docid : ℕ) → Memᴰ docid (all_docids index) → HasDocid index docid
unfolding all_docids
docid_from [] docid m = absurd (Memᴰ.not-nil m)
docid_from (ts ∷ index) docid m =
    ⊎_elim
    (λ n. let h = leaf_docid_from ts docid n in
    record { leaf = ts; term = h.term; entry = h.entry; in_index = Memᴰ.head refl; in_leaf = h.in_leaf; in_list = h.in_list; same_docid = h.same_docid })
    (λ n. let h = docid_from index docid n in
    record { leaf = h.leaf; term = h.term; entry = h.entry; in_index = Memᴰ.tail h.in_index; in_leaf = h.in_leaf; in_list = h.in_list; same_docid = h.same_docid })
    (Memᴰ.append_cases (leaf_docids ts) m)

docid_in : (index : List (List Term)) (ts : List Term) (docid : ℕ) → Memᴰ ts index → Memᴰ docid (leaf_docids ts) → Memᴰ docid (all_docids index)
unfolding all_docids
docid_in [] ts docid m n = absurd (Memᴰ.not-nil m)
docid_in (us ∷ index) ts docid m n =
    ⊎_elim
    (λ (e : ts ≡ us). Memᴰ.append_left (all_docids index) (subst (λ (x : List Term). Memᴰ docid (leaf_docids x)) e n))
    (λ k. Memᴰ.append_right (leaf_docids us) (docid_in index ts docid k n))
    (Memᴰ.cases_cons m)

-- ---- there is a total

module _ (columns : ℕ) (index : List (List Term)) (good : (ts : List Term) → Memᴰ ts index → WellFormed columns ts) where
  word_pos : (word : List ℕ) → HasWord index word → Before [] word
  word_pos word h =
      subst (Before []) h.same_word
      (before_some h.term.word (term_good columns [] h.leaf h.term (good h.leaf h.in_index).terms h.in_leaf).some)

  docid_small : (docid : ℕ) → HasDocid index docid → docid < docid_limit
  docid_small docid h =
      let g = term_good columns [] h.leaf h.term (good h.leaf h.in_index).terms h.in_leaf in
      subst (λ (d : ℕ). d < docid_limit) h.same_docid (entry_good 0 columns h.term.entries h.entry g.list.entries h.in_list).limit

  -- it has a rising list of its words
  pub words_some : (words : List (List ℕ)) × WordsAre index words
  words_some =
      let r = rising_some Before before_trans before_compare (all_words index) in (
        r.0,
        record {
          rising = rise_words [] r.0 r.1 (member_each (Before []) r.0 (λ w m. word_pos w (word_from index w ((r.2 w).0 m))));
          exact = λ w. (
            λ m. word_from index w ((r.2 w).0 m),
            λ h. (r.2 w).1 (subst (λ (v : List ℕ). Memᴰ v (all_words index)) h.same_word (word_in index h.leaf h.term h.in_index h.in_leaf)),
          );
        },
      )

  -- and one of its docids
  pub docids_some : (docids : List ℕ) × DocidsAre index docids
  docids_some =
      let r = rising_some ◌<◌ less_trans less_compare (all_docids index) in (
        r.0,
        record {
          rising =
              rise_rising 0 docid_limit r.0 r.1 (member_each (λ d. 0 ≤ d) r.0 (λ d m. omega arith))
              (member_each (λ d. d < docid_limit) r.0 (λ d m. docid_small d (docid_from index d ((r.2 d).0 m))));
          exact = λ d. (
            λ m. docid_from index d ((r.2 d).0 m),
            λ h. (r.2 d).1
                (docid_in index h.leaf d h.in_index
                (subst (λ (e : ℕ). Memᴰ e (leaf_docids h.leaf)) h.same_docid (leaf_docid_in h.leaf h.term h.entry h.in_leaf h.in_list))),
          );
        },
      )

  -- an index of well-formed contents has a total, for every number of columns
  pub total_some : (count : ℕ) → (n : ℕ) × TotalIs index count n
  total_some count =
      let w = words_some in
      let d = docids_some in
      (words_total (live index) w.0 d.0 count, record { words = w.0; docids = d.0; words_are = w.1; docids_are = d.1; summed = refl })

-- ---- a merge

-- the leaf of the index that is left
pub left_only : (terms ts : List Term) → Memᴰ ts (index_of terms) → ts ≡ terms
left_only [] ts m = absurd (Memᴰ.not-nil m)
left_only (t ∷ us) ts m = Memᴰ.eq_of_singleton m

-- there is one where there is a term
pub left_member : (terms : List Term) (t : Term) → Memᴰ t terms → Memᴰ terms (index_of terms)
left_member [] t m = absurd (Memᴰ.not-nil m)
left_member (u ∷ ts) t m = Memᴰ.head refl

module _ {keep : Bool} {count : ℕ} {index : List (List Term)} {terms : List Term} (m : Merged keep count index terms) where
  -- counted "per word, docid and column"
  pub counts_same : (word : List ℕ) (docid column : ℕ) → position_count (live (index_of terms)) word docid column ≡ position_count (live index) word docid column
  counts_same word docid column = ap length (merged_live m word docid column)

  -- and in total
  pub total_same : (n k : ℕ) → TotalIs index count n → TotalIs (index_of terms) count k → n ≡ k
  total_same = total_agree index (index_of terms) (λ word docid column. sym (merged_live m word docid column)) count
