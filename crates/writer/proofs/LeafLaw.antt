-- What the writer stores of the sorted rows is the document's leaf (`stored_leaf`).
use Rattle.std.specs.Prelude.{cond}
use Rattle.std.specs.List.{prefix_len}
use Prim.Native.Nat.{ℕ, zero, suc, ◌+◌, ◌≤◌}
use native.Mathlib.Nat.{not-suc-le-zero}
use native.Mathlib.Numerals.{one-add}
use native.Mathlib.Omega.{arith}
use mathlib.Core.Path.{◌≡◌, refl, sym, ap, subst, ◌∙◌}
use mathlib.Core.Logic.{◌⊎◌, inl, inr, ⊎_elim}
use mathlib.Core.Bool.{true, false}
use mathlib.Core.List.Memᴰ
use mathlib.Core.List.{List, [], ◌∷◌, ◌++◌, map, append_assoc, Memᴰ}
use lib.ListN.{length, take, drop, length-drop}
use Rattle.common.specs.Bytes.{same}
use Rattle.common.proofs.Cases.{bool_case, false_not_true}
use Rattle.common.proofs.Same.{same_true, same_refl}
use Rattle.common.proofs.Members.{Each, Rise, each_member, member_each, member_drop, rise_drop}
use Rattle.varint.specs.Varint.{encode}
use Rattle.offsets.specs.Cut.{Cuts, cut}
use Rattle.offsets.proofs.Cuts.{rules_cuts}
use Rattle.doclist.specs.Doclist.{encode_list}
use Rattle.leaf.specs.Leaf.{Before, shared, sized, encode_terms}
use Rattle.document.specs.Document.{all_words, insert_word, distinct, document_term, document_leaf}
use Rattle.leaf.proofs.Words.{before_trans}
use Rattle.leaf.proofs.Orders.{before_not_same, later_not_same}
use Rattle.document.proofs.Distinct.{insert_first, insert_there, distinct_from, distinct_same}
use Rattle.document.proofs.Size.{document_terms_leaf}
use Rattle.writer.specs.declared.rows.Row.{Row}
use Rattle.writer.specs.Rows.{no_row, row_word, document_rows, insert_rows, same_word}
use Rattle.writer.specs.Stored.{list_bytes, term_of, terms_from, terms_of}
use Rattle.writer.proofs.TermLaws.{run_cons, terms_nil, terms_cons}
use Rattle.writer.proofs.RowWords.{FoldedText, rows_words, rows_rise}
use Rattle.writer.proofs.RowLists.{kept, rows_list}
use Rattle.writer.proofs.Sorting.{Follows, ByKey, rows_have, rows_from, rows_sorted, kept_sorted}

module _ (folded : List ℕ) where
  -- the row's word is `w` or comes after it
  abbrev From : List ℕ → Row → Type 0
  From w r = (w ≡ row_word folded r) ⊎ Before w (row_word folded r)

  -- a row that is not of word `w`, and the later ones, come after those of `w`
  other_after : (w : List ℕ) (r : Row) → same_word folded w r ≡ false → From w r → Before w (row_word folded r)
  other_after w r t h =
      ⊎_elim (λ (e : w ≡ row_word folded r). false_not_true (sym t ∙ subst (λ x. same w x ≡ true) e (same_refl w))) (λ (b : Before w (row_word folded r)). b) h

  follows_after : (w : List ℕ) (r x : Row) → Before w (row_word folded r) → Follows folded r x → Before w (row_word folded x)
  follows_after w r x b f =
      ⊎_elim
      (λ (h : Before (row_word folded r) (row_word folded x)). before_trans w (row_word folded r) (row_word folded x) b h)
      (λ h. subst (Before w) h.0 b)
      f

  all_after : (w : List ℕ) (r : Row) (rows : List Row) → Before w (row_word folded r) → Each (Follows folded r) rows → Each (λ x. Before w (row_word folded x)) rows
  all_after w r rows b e = member_each (λ x. Before w (row_word folded x)) rows (λ x m. follows_after w r x b (each_member (Follows folded r) rows x e m))

  -- ---- a run is all rows of its word

  kept_none : (w : List ℕ) (rows : List Row) → Each (λ x. Before w (row_word folded x)) rows → kept folded w rows ≡ []
  kept_none w [] e = refl
  kept_none w (r ∷ rows) e = rw (before_not_same w (row_word folded r) e.0) (kept_none w rows e.1)

  run_kept : (w : List ℕ) (rows : List Row) → Each (From w) rows → Rise (Follows folded) rows → take (prefix_len (same_word folded w) rows) rows ≡ kept folded w rows
  run_kept w [] e h = refl
  run_kept w (r ∷ rows) e h =
      bool_case (same_word folded w r)
      (λ t. rw (t, one-add) (ap (λ l. r ∷ l) (run_kept w rows e.1 h.1)))
      (λ t. rw t (sym (kept_none w rows (all_after w r rows (other_after w r t e.0) h.0))))

  -- the words of the later rows come after its word
  run_after : (w : List ℕ) (rows : List Row) → Each (From w) rows → Rise (Follows folded) rows → Each (λ x. Before w (row_word folded x)) (drop (prefix_len (same_word folded w) rows) rows)
  run_after w [] e h = tt
  run_after w (r ∷ rows) e h =
      bool_case (same_word folded w r)
      (λ t. subst (λ b. Each (λ x. Before w (row_word folded x)) (drop (cond b (1 + prefix_len (same_word folded w) rows) 0) (r ∷ rows))) (sym t) (rw one-add (run_after w rows e.1 h.1)))
      (λ t. let b = other_after w r t e.0 in
      subst (λ b. Each (λ x. Before w (row_word folded x)) (drop (cond b (1 + prefix_len (same_word folded w) rows) 0) (r ∷ rows))) (sym t) (b, all_after w r rows b h.0))

  -- and have all rows of the later words
  run_later : (w v : List ℕ) (rows : List Row) → Before w v → kept folded v (drop (prefix_len (same_word folded w) rows) rows) ≡ kept folded v rows
  run_later w v [] b = refl
  run_later w v (r ∷ rows) b =
      bool_case (same_word folded w r)
      (λ t. rw (t, one-add, other t) (run_later w v rows b))
      (λ t. rw t refl)
    where
      other : same_word folded w r ≡ true → same_word folded v r ≡ false
      other t = subst (λ x. same v x ≡ false) (same_true w (row_word folded r) t) (later_not_same w v b)

  -- ---- the words of a run

  insert_least : (w : List ℕ) (vs : List (List ℕ)) → Each (Before w) vs → insert_word w vs ≡ w ∷ vs
  insert_least w [] e = refl
  insert_least w (v ∷ vs) e = insert_first w v vs e.0

  words_after : (w : List ℕ) (rows : List Row) → Each (λ x. Before w (row_word folded x)) rows → Each (Before w) (distinct (map (row_word folded) rows))
  words_after w rows e =
      member_each (Before w) (distinct (map (row_word folded) rows))
      (λ v m. let x = Memᴰ.of_map (row_word folded) rows (distinct_from (map (row_word folded) rows) v m) in
      subst (Before w) x.2 (each_member (λ x. Before w (row_word folded x)) rows x.0 e x.1))

  run_distinct : (w : List ℕ) (rows : List Row) → Each (From w) rows → Rise (Follows folded) rows
      → insert_word w (distinct (map (row_word folded) rows)) ≡ w ∷ distinct (map (row_word folded) (drop (prefix_len (same_word folded w) rows) rows))
  run_distinct w [] e h = refl
  run_distinct w (r ∷ rows) e h =
      bool_case (same_word folded w r)
      (λ t. let q = same_true w (row_word folded r) t in
      let k = run_distinct w rows e.1 h.1 in
      rw (t, one-add)
      (ap (λ v. insert_word w (insert_word v (distinct (map (row_word folded) rows)))) (sym q)
      ∙ ap (insert_word w) k
      ∙ insert_there w w (distinct (map (row_word folded) (drop (prefix_len (same_word folded w) rows) rows))) refl))
      (λ t. let b = other_after w r t e.0 in
      rw t (insert_least w (distinct (map (row_word folded) (r ∷ rows))) (words_after w (r ∷ rows) (b, all_after w r rows b h.0))))

-- ---- all runs

module _ (folded : List ℕ) (docid : ℕ) (texts : List (List ℕ)) where
  -- the rows of a word have its list
  abbrev Listed : List Row → List ℕ → Type 0
  Listed rows w = list_bytes docid (kept folded w rows) ≡ encode_list (document_term docid texts w).entries

  from_first : (r : Row) (rows : List Row) → Each (Follows folded r) rows → Each (From folded (row_word folded r)) rows
  from_first r rows e =
      member_each (From folded (row_word folded r)) rows
      (λ x m. ⊎_elim
      (λ (h : Before (row_word folded r) (row_word folded x)). inr h)
      (λ h. inl h.0)
      (each_member (Follows folded r) rows x e m))

  -- a term of the leaf, from the run of its rows
  term_stored : (before w : List ℕ) (run : List Row) (rest rest' : List ℕ) → list_bytes docid run ≡ encode_list (document_term docid texts w).entries → rest ≡ rest'
      → term_of before w docid run ++ rest
      ≡ encode (shared before w) ++ ((sized (drop (shared before w) w) ++ sized (encode_list (document_term docid texts w).entries)) ++ rest')
  term_stored before w run rest rest' e q =
      let es = (document_term docid texts w).entries in
      ap (λ l. ((encode (shared before w) ++ sized (drop (shared before w) w)) ++ sized l) ++ rest) e
      ∙ ap (λ l. ((encode (shared before w) ++ sized (drop (shared before w) w)) ++ sized (encode_list es)) ++ l) q
      ∙ ap (λ l. l ++ rest') (append_assoc (encode (shared before w)) (sized (drop (shared before w) w)) (sized (encode_list es)))
      ∙ append_assoc (encode (shared before w)) (sized (drop (shared before w) w) ++ sized (encode_list es)) rest'

  terms_stored : (most : ℕ) (last : Row) (rows : List Row) → length rows ≤ most → Rise (Follows folded) rows → ((w : List ℕ) → Memᴰ w (map (row_word folded) rows) → Listed rows w)
      → terms_from most folded docid last rows ≡ encode_terms (row_word folded last) (map (document_term docid texts) (distinct (map (row_word folded) rows)))
  terms_stored zero last [] l h f = terms_nil zero folded docid last
  terms_stored zero last (r ∷ rows) l h f = absurd (not-suc-le-zero l)
  terms_stored (suc most) last [] l h f = terms_nil (suc most) folded docid last
  terms_stored (suc most) last (r ∷ rows) l h f =
      let w = row_word folded r in
      let n = prefix_len (same_word folded (row_word folded r)) rows in
      let e = from_first r rows h.0 in
      let c = run_cons folded r rows in
      let d = run_distinct folded w rows e h.1 in
      terms_cons most folded docid last r rows
      ∙ ap (λ k. term_of (row_word folded last) w docid (take k (r ∷ rows)) ++ terms_from most folded docid r (drop k (r ∷ rows))) c
      ∙ term_stored (row_word folded last) w (r ∷ take n rows) (terms_from most folded docid r (drop n rows))
      (encode_terms w (map (document_term docid texts) (distinct (map (row_word folded) (drop n rows)))))
      (ap (list_bytes docid) (run_first r rows (run_kept folded w rows e h.1)) ∙ f w (Memᴰ.head refl))
      (terms_stored most r (drop n rows) (omega (arith, length-drop n rows)) (rise_drop (Follows folded) n rows h.1) (listed_later r rows e h.1 f))
      ∙ sym (ap (λ ws. encode_terms (row_word folded last) (map (document_term docid texts) ws)) d)
    where
      run_first : (r : Row) (rows : List Row) → take (prefix_len (same_word folded (row_word folded r)) rows) rows ≡ kept folded (row_word folded r) rows
          → r ∷ take (prefix_len (same_word folded (row_word folded r)) rows) rows ≡ kept folded (row_word folded r) (r ∷ rows)
      run_first r rows q = rw (same_refl (row_word folded r)) (ap (λ x. r ∷ x) q)

      listed_later : (r : Row) (rows : List Row) → Each (From folded (row_word folded r)) rows → Rise (Follows folded) rows
          → ((w : List ℕ) → Memᴰ w (map (row_word folded) (r ∷ rows)) → Listed (r ∷ rows) w)
          → (v : List ℕ) → Memᴰ v (map (row_word folded) (drop (prefix_len (same_word folded (row_word folded r)) rows) rows)) → Listed (drop (prefix_len (same_word folded (row_word folded r)) rows) rows) v
      listed_later r rows e h f v m =
          let n = prefix_len (same_word folded (row_word folded r)) rows in
          let x = Memᴰ.of_map (row_word folded) (drop n rows) m in
          let b : Before (row_word folded r) v = subst (Before (row_word folded r)) x.2 (each_member (λ x. Before (row_word folded r) (row_word folded x)) (drop n rows) x.0 (run_after folded (row_word folded r) rows e h) x.1) in
          let k : kept folded v (r ∷ rows) ≡ kept folded v rows = rw (later_not_same (row_word folded r) v b) refl in
          ap (list_bytes docid) (run_later folded (row_word folded r) v rows b ∙ sym k)
          ∙ f v (Memᴰ.tail (subst (λ a. Memᴰ a (map (row_word folded) rows)) x.2 (Memᴰ.map (row_word folded) (member_drop n rows x.0 x.1))))

-- ---- the document

module _ (s es folded : List ℕ) (f : FoldedText s folded) (small : length s ≤ 4096) (few : length es ≤ 16) (c : Cuts s es) where
  rows_order : Rise ByKey (document_rows s es)
  rows_order = rows_rise s folded f small 0 0 es (omega arith) (rules_cuts s es c)

  pub document_sorted : Rise (Follows folded) (insert_rows folded [] (document_rows s es))
  document_sorted = rows_sorted folded [] (document_rows s es) tt rows_order (λ x y m n. absurd (Memᴰ.not-nil m))

  document_words : distinct (map (row_word folded) (insert_rows folded [] (document_rows s es))) ≡ distinct (all_words (cut s es))
  document_words =
      distinct_same (map (row_word folded) (insert_rows folded [] (document_rows s es))) (map (row_word folded) (document_rows s es))
      (λ w m. let x = Memᴰ.of_map (row_word folded) (insert_rows folded [] (document_rows s es)) m in
      subst (λ a. Memᴰ a (map (row_word folded) (document_rows s es))) x.2 (Memᴰ.map (row_word folded)
      (⊎_elim (λ (n : Memᴰ x.0 []). absurd (Memᴰ.not-nil n)) (λ (n : Memᴰ x.0 (document_rows s es)). n) (rows_from folded [] (document_rows s es) x.0 x.1))))
      (λ w m. let x = Memᴰ.of_map (row_word folded) (document_rows s es) m in
      subst (λ a. Memᴰ a (map (row_word folded) (insert_rows folded [] (document_rows s es)))) x.2 (Memᴰ.map (row_word folded) (rows_have folded [] (document_rows s es) x.0 (inr x.1))))
      ∙ ap distinct (rows_words s folded f small 0 0 es (omega arith) (rules_cuts s es c))

  -- what is stored of the sorted rows is the leaf
  pub stored_leaf : (docid : ℕ) → terms_of folded docid (insert_rows folded [] (document_rows s es)) ≡ document_leaf docid (cut s es)
  stored_leaf docid =
      terms_stored folded docid (cut s es) (length (insert_rows folded [] (document_rows s es))) no_row (insert_rows folded [] (document_rows s es)) (omega arith) document_sorted
      (λ w m. ap (list_bytes docid) (kept_sorted folded w (document_rows s es) rows_order) ∙ rows_list s folded f small w es docid few (rules_cuts s es c))
      ∙ ap (λ ws. encode_terms [] (map (document_term docid (cut s es)) ws)) document_words
      ∙ sym (document_terms_leaf docid (cut s es))
