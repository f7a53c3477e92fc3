-- The positions that a merge writes are as many as the live positions beforehand (`written_live`).
use Prim.Native.Nat.{ℕ, ◌<◌}
use mathlib.Core.Path.{◌≡◌, refl, sym, ap, ◌∙◌, subst}
use mathlib.Core.Bool.{Bool}
use mathlib.Core.Logic.{◌⊎◌, ⊎_elim}
use mathlib.Core.List.Memᴰ
use mathlib.Core.List.{List, [], Memᴰ}
use lib.ListN.{length}
use Rattle.common.proofs.Numbers.{less_irrefl, less_trans}
use Rattle.directory.specs.Order.{up_to}
use Rattle.directory.proofs.Placing.{upto_member}
use Rattle.doclist.specs.Docid.{docid_limit}
use Rattle.doclist.specs.Doclist.{Column, Columns, Entry}
use Rattle.doclist.proofs.Entries.{entry_good}
use Rattle.leaf.specs.Leaf.{Term, Before, GoodTerm, Terms, WellFormed}
use Rattle.leaf.proofs.Words.{before_irrefl, before_trans}
use Rattle.document.proofs.Only.{rising_rise}
use Rattle.meaning.specs.Index.{MaybeEntry, entry_for, deciding, positions_in, decided_positions, live}
use Rattle.merged.specs.Merged.{Merged, index_of}
use Rattle.merged.specs.Totals.{total, position_count, columns_total, docids_total, words_total, WordsAre, DocidsAre, TotalIs, positions_written}
use Rattle.merged.proofs.Finding.{column_found, column_none, columns_rise, columns_few, entry_found, entry_none, entries_rise, leaf_none, leaf_found, no_term, term_good, terms_rise}
use Rattle.merged.proofs.Once.{good_terms}
use Rattle.merged.proofs.Living.{left_deciding}
use Rattle.merged.proofs.Rising.{less_compare, upto_rise, before_compare, words_rise}
use Rattle.merged.proofs.Sums.{total_each, total_zero, total_keyed}
use Rattle.merged.proofs.Totals.{no_columns, left_only, left_member, total_some, total_same}

-- ---- an entry

-- the positions written in the columns of an entry, and in the entries of a list
abbrev in_columns : List Column → ℕ
in_columns cs = total (λ (c : Column). length c.positions) cs

abbrev in_entries : List Entry → ℕ
in_entries es = total (λ (e : Entry). in_columns e.columns) es

columns_written : (count : ℕ) (cs : List Column) → Columns 0 count cs → total (λ (column : ℕ). length (positions_in column cs)) (up_to count) ≡ in_columns cs
columns_written count cs h =
    total_keyed ◌<◌ less_irrefl less_trans less_compare (λ (column : ℕ). length (positions_in column cs)) (λ (c : Column). c.column) (λ (c : Column). length c.positions) (up_to count) cs
    (upto_rise count) (columns_rise count 0 cs h)
    (λ c m. ap length (column_found count 0 cs c h m))
    (λ c m. upto_member count c.column (columns_few count 0 cs c h m))
    (λ column f. ap length (column_none cs column f))

-- ---- a leaf

module _ (count : ℕ) (terms : List Term) (h : Terms count [] terms) where
  -- a term's entries decide in the index that has just this leaf
  term_decides : (t : Term) (docid : ℕ) → Memᴰ t terms → deciding (index_of terms) t.word docid ≡ entry_for docid t.entries
  term_decides t docid m = left_deciding terms t.word docid ∙ leaf_found count [] terms t docid h m

  module _ (docids : List ℕ) (are : DocidsAre (index_of terms) docids) where
    entries_written : (t : Term) → Memᴰ t terms → docids_total (live (index_of terms)) t.word docids count ≡ in_entries t.entries
    entries_written t m =
        total_keyed ◌<◌ less_irrefl less_trans less_compare (λ (docid : ℕ). columns_total (live (index_of terms)) t.word docid count) (λ (e : Entry). e.docid)
        (λ (e : Entry). in_columns e.columns) docids t.entries
        (rising_rise 0 docid_limit docids are.rising) (entries_rise 0 count t.entries g.list.entries)
        here
        (λ e n. (are.exact e.docid).1 (record { leaf = terms; term = t; entry = e; in_index = left_member terms t m; in_leaf = m; in_list = n; same_docid = refl }))
        (λ docid f.
        no_columns (live (index_of terms)) t.word docid count
        (λ column. ap (λ (x : MaybeEntry). decided_positions x column) (term_decides t docid m ∙ entry_none t.entries docid f)))
      where
        g : GoodTerm count t
        g = term_good count [] terms t h m

        here : (e : Entry) → Memᴰ e t.entries → columns_total (live (index_of terms)) t.word e.docid count ≡ in_columns e.columns
        here e n =
            total_each (λ (column : ℕ). position_count (live (index_of terms)) t.word e.docid column) (λ (column : ℕ). length (positions_in column e.columns)) (up_to count)
            (λ column k. ap (λ (x : MaybeEntry). length (decided_positions x column)) (term_decides t e.docid m ∙ entry_found 0 count t.entries e g.list.entries n))
            ∙ columns_written count e.columns (entry_good 0 count t.entries e g.list.entries n).columns

    terms_written : (words : List (List ℕ)) → WordsAre (index_of terms) words → words_total (live (index_of terms)) words docids count ≡ positions_written terms
    terms_written words w =
        total_keyed Before before_irrefl before_trans before_compare (λ (word : List ℕ). docids_total (live (index_of terms)) word docids count) (λ (t : Term). t.word)
        (λ (t : Term). in_entries t.entries) words terms
        (words_rise [] words w.rising) (terms_rise count [] terms h)
        entries_written
        (λ t m. (w.exact t.word).1 (record { leaf = terms; term = t; in_index = left_member terms t m; in_leaf = m; same_word = refl }))
        (λ word f.
        total_zero (λ (docid : ℕ). columns_total (live (index_of terms)) word docid count) docids
        (λ docid m.
        no_columns (live (index_of terms)) word docid count
        (λ column. ap (λ (x : MaybeEntry). decided_positions x column) (left_deciding terms word docid ∙ leaf_none terms word docid (no_term terms word f)))))

-- the positions written are the live positions of the index that is left
pub written_total : (count : ℕ) (terms : List Term) → (terms ≡ []) ⊎ WellFormed count terms → (n : ℕ) → TotalIs (index_of terms) count n → positions_written terms ≡ n
written_total count terms g n t = sym (t.summed ∙ terms_written count terms (good_terms count terms g) t.docids t.docids_are t.words t.words_are)

-- ---- a merge

left_good : (count : ℕ) (terms : List Term) → (terms ≡ []) ⊎ WellFormed count terms → (ts : List Term) → Memᴰ ts (index_of terms) → WellFormed count ts
left_good count terms g ts m =
    ⊎_elim
    (λ e. absurd (Memᴰ.not-nil (subst (λ (us : List Term). Memᴰ ts (index_of us)) e m)))
    (λ w. subst (WellFormed count) (sym (left_only terms ts m)) w)
    g

-- "The total of word positions written equals the total of live positions beforehand"
pub written_live : {keep : Bool} {count : ℕ} {index : List (List Term)} {terms : List Term} → Merged keep count index terms → (n : ℕ) → TotalIs index count n → positions_written terms ≡ n
written_live {count = count} {terms = terms} m n t =
    let k = total_some count (index_of terms) (left_good count terms m.good) count in
    written_total count terms m.good k.0 k.1 ∙ sym (total_same m n k.0 t k.1)
