-- Two well-formed lists with the same bytes are the same.
use Prim.Native.Nat.{ℕ, zero, suc, ◌+◌, ◌-◌, ◌≤◌, ◌<◌}
use native.Mathlib.Omega.{arith}
use mathlib.Core.Path.{◌≡◌, refl, sym, ap, ap₂, ◌∙◌, subst}
use mathlib.Core.List.{List, [], ◌∷◌, ◌++◌, append_assoc}
use Rattle.common.proofs.Lists.{head_same, tail_same, no_element}
use Rattle.doclist.specs.Docid.{docid_limit, zero_key}
use Rattle.doclist.specs.Doclist.{Column, Entry, position_limit, Rising, NotEmpty, Columns, Entries, WellFormed, position_numbers, announced, column_numbers, encode_list}
use Rattle.doclist.proofs.Docids.{difference_one}
use Rattle.doclist.proofs.Numbers.{all_split, list_numbers, list_bytes}
use Rattle.doclist.proofs.Law.{small_entries}

-- ---- positions

-- what follows the positions of a column begins with 0 or 1
abbrev Low : List ℕ → Type 0
Low [] = ⊥
Low (r ∷ rs) = r < 2

low_head {ℓ} : {X : Type ℓ} (v : ℕ) (vs rs : List ℕ) → 2 ≤ v → Low rs → v ∷ vs ≡ rs → X
low_head v vs [] h l e = no_element (sym e)
low_head v vs (r ∷ rs) h l e = let p = head_same e in absurd (omega arith)

positions_split : (l b : ℕ) (ps qs rs us : List ℕ) → b ≤ l → Rising l position_limit ps → Rising l position_limit qs → Low rs → Low us
    → position_numbers b ps ++ rs ≡ position_numbers b qs ++ us → (ps ≡ qs) × (rs ≡ us)
positions_split l b [] [] rs us h hp hq lr lu e = (refl, e)
positions_split l b [] (q ∷ qs) rs us h hp hq lr lu e = low_head (q - b + 2) _ rs (omega arith) lr (sym e)
positions_split l b (p ∷ ps) [] rs us h hp hq lr lu e = low_head (p - b + 2) _ us (omega arith) lu e
positions_split l b (p ∷ ps) (q ∷ qs) rs us h hp hq lr lu e =
    let n = head_same e in
    let pq : p ≡ q = omega (arith, hp.0, hq.0) in
    let k = positions_split (suc p) p ps qs rs us (omega arith) hp.2 (rw (sym pq) at hq.2) lr lu (tail_same e ∙ ap (λ (x : ℕ). position_numbers x qs ++ us) (sym pq)) in
    (ap₂ ◌∷◌ pq k.0, k.1)

-- ---- columns

low_columns : (l count : ℕ) (cs : List Column) (xs : List ℕ) → Columns (suc l) count cs → Low (column_numbers cs ++ (0 ∷ xs))
low_columns l count [] xs h = omega arith
low_columns l count (c ∷ cs) xs h = go c.column refl
  where
    go : (n : ℕ) → c.column ≡ n → Low (column_numbers (c ∷ cs) ++ (0 ∷ xs))
    go zero e = absurd (omega (arith, h.0))
    go (suc n) e = subst (λ (k : ℕ). Low ((announced k ++ (position_numbers 0 c.positions ++ column_numbers cs)) ++ (0 ∷ xs))) (sym e) (omega arith)

-- the numbers of a column, from where its positions begin
abbrev column_rest : Column → List Column → List ℕ → List ℕ
column_rest c cs xs = position_numbers 0 c.positions ++ (column_numbers cs ++ (0 ∷ xs))

numbers_named : (n : ℕ) (c : Column) (cs : List Column) (xs : List ℕ) → c.column ≡ n
    → column_numbers (c ∷ cs) ++ (0 ∷ xs) ≡ announced n ++ column_rest c cs xs
numbers_named n c cs xs e =
    ap (λ (k : ℕ). (announced k ++ (position_numbers 0 c.positions ++ column_numbers cs)) ++ (0 ∷ xs)) e
    ∙ append_assoc (announced n) (position_numbers 0 c.positions ++ column_numbers cs) (0 ∷ xs)
    ∙ ap (λ (l : List ℕ). announced n ++ l) (append_assoc (position_numbers 0 c.positions) (column_numbers cs) (0 ∷ xs))

-- the first number of a column's positions is at least 2
first_position {ℓ} : {X : Type ℓ} (b : ℕ) (ps rs : List ℕ) (v : ℕ) (vs : List ℕ) → NotEmpty ps → v < 2 → v ∷ vs ≡ position_numbers b ps ++ rs → X
first_position b [] rs v vs s h e = absurd s
first_position b (p ∷ ps) rs v vs s h e = let n = head_same e in absurd (omega arith)

module _ (count : ℕ) where
  columns_split : (l : ℕ) (cs ds : List Column) (xs ys : List ℕ) → Columns l count cs → Columns l count ds
      → column_numbers cs ++ (0 ∷ xs) ≡ column_numbers ds ++ (0 ∷ ys) → (cs ≡ ds) × (xs ≡ ys)
  columns_split l [] [] xs ys h k e = (refl, tail_same e)
  columns_split l [] (d ∷ ds) xs ys h k e = go d.column refl
    where
      go : (n : ℕ) → d.column ≡ n → ([] ≡ d ∷ ds) × (xs ≡ ys)
      go zero m = first_position 0 d.positions _ 0 xs k.2 (omega arith) (e ∙ numbers_named 0 d ds ys m)
      go (suc n) m = let z = head_same (e ∙ numbers_named (suc n) d ds ys m) in absurd (omega arith)
  columns_split l (c ∷ cs) [] xs ys h k e = go c.column refl
    where
      go : (n : ℕ) → c.column ≡ n → (c ∷ cs ≡ []) × (xs ≡ ys)
      go zero m = first_position 0 c.positions _ 0 ys h.2 (omega arith) (sym e ∙ numbers_named 0 c cs xs m)
      go (suc n) m = let z = head_same (sym e ∙ numbers_named (suc n) c cs xs m) in absurd (omega arith)
  columns_split l (c ∷ cs) (d ∷ ds) xs ys h k e = go c.column d.column refl refl (columns_split (suc c.column) cs ds xs ys h.4)
    where
      both : c.column ≡ d.column → column_rest c cs xs ≡ column_rest d ds ys
          → (Columns (suc c.column) count ds → column_numbers cs ++ (0 ∷ xs) ≡ column_numbers ds ++ (0 ∷ ys) → (cs ≡ ds) × (xs ≡ ys))
          → (c ∷ cs ≡ d ∷ ds) × (xs ≡ ys)
      both m r ih =
          let p = positions_split 0 0 c.positions d.positions _ _ (omega arith) h.3 k.3
          (low_columns c.column count cs xs h.4) (low_columns d.column count ds ys k.4) r in
          let q = ih (subst (λ (j : ℕ). Columns (suc j) count ds) (sym m) k.4) p.1 in
          (ap₂ ◌∷◌ (λ i. record { column = m i; positions = p.0 i }) q.0, q.1)

      go : (n m : ℕ) → c.column ≡ n → d.column ≡ m
          → (Columns (suc c.column) count ds → column_numbers cs ++ (0 ∷ xs) ≡ column_numbers ds ++ (0 ∷ ys) → (cs ≡ ds) × (xs ≡ ys))
          → (c ∷ cs ≡ d ∷ ds) × (xs ≡ ys)
      go zero zero p q ih = both (p ∙ sym q) (sym (numbers_named 0 c cs xs p) ∙ e ∙ numbers_named 0 d ds ys q) ih
      go zero (suc m) p q ih = first_position 0 c.positions _ 1 _ h.2 (omega arith) (sym (numbers_named (suc m) d ds ys q) ∙ sym e ∙ numbers_named 0 c cs xs p)
      go (suc n) zero p q ih = first_position 0 d.positions _ 1 _ k.2 (omega arith) (sym (numbers_named (suc n) c cs xs p) ∙ e ∙ numbers_named 0 d ds ys q)
      go (suc n) (suc m) p q ih =
          let r = tail_same (sym (numbers_named (suc n) c cs xs p) ∙ e ∙ numbers_named (suc m) d ds ys q) in
          both (p ∙ head_same r ∙ sym q) (tail_same r) ih

  -- ---- entries

  entries_split : (l b : ℕ) (es fs : List Entry) → b < docid_limit → Entries l count es → Entries l count fs → list_numbers b es ≡ list_numbers b fs → es ≡ fs
  entries_split l b [] [] h he hf e = refl
  entries_split l b [] (f ∷ fs) h he hf e = no_element e
  entries_split l b (d ∷ es) [] h he hf e = no_element (sym e)
  entries_split l b (d ∷ es) (f ∷ fs) h he hf e =
      let m : d.docid ≡ f.docid = difference_one b d.docid f.docid h he.1 hf.1 (head_same e) in
      let c = columns_split 0 d.columns f.columns _ _ he.2 hf.2 (tail_same e) in
      let r = entries_split (suc d.docid) d.docid es fs he.1 he.3 (subst (λ (j : ℕ). Entries (suc j) count fs) (sym m) hf.3)
      (c.1 ∙ ap (λ (j : ℕ). list_numbers j fs) (sym m)) in
      ap₂ ◌∷◌ (λ i. record { docid = m i; columns = c.0 i }) r

  pub list_unique : (es fs : List Entry) → WellFormed count es → WellFormed count fs → encode_list es ≡ encode_list fs → es ≡ fs
  list_unique es fs g h e =
      entries_split 0 zero_key es fs (omega arith) g.entries h.entries
      (all_split (list_numbers zero_key es) (list_numbers zero_key fs)
      (small_entries count 0 zero_key es g.few_columns g.entries)
      (small_entries count 0 zero_key fs h.few_columns h.entries)
      (sym (list_bytes zero_key es) ∙ e ∙ list_bytes zero_key fs))
