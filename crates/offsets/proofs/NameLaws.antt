-- Laws of column names: the tests say the rules, and a column is found exactly by the rule.
use Prim.Native.Nat.{ℕ, zero, suc, ◌+◌, ◌-◌, ◌≤◌, ◌<◌}
use native.Mathlib.Nat.{not-suc-le-zero, le_of_suc-le-suc}
use native.Mathlib.Omega.{arith}
use mathlib.Core.Path.{◌≡◌, refl, sym, ap, ◌∙◌, subst}
use mathlib.Core.Logic.{◌↔◌}
use Rattle.std.specs.Prelude.{Some}
use mathlib.Core.Bool.{true, false, not}
use mathlib.Core.List.{List, [], ◌∷◌, map}
use lib.Dec.{leb}
use lib.ListN.{length, get_or, drop, length-drop}
use lib.Seq.{get_or-drop}
use borrow.Author.Tests.{leb-true, not-true}
use Rattle.common.specs.Pick.{pick, both}
use Rattle.common.specs.Bytes.{within, same}
use Rattle.common.proofs.Cases.{both_left, both_right, both_true, bool_case, false_not_true}
use Rattle.common.proofs.Same.{same_true, same_refl}
use Rattle.common.proofs.Members.{Every, every_each, each_every}
use Rattle.common.proofs.Numbers.{within_true}
use Rattle.common.specs.Bounds.{max_columns}
use Rattle.tokenizer.specs.Word.{fold}
use Rattle.offsets.specs.Cut.{cuts, Cuts, cut}
use Rattle.offsets.specs.Names.{max_name, is_name_byte, name_bytes, is_name, same_name, column_from, column_of, ColumnIs, each_name, is_new, all_distinct, names_ok, Names}
use Rattle.offsets.proofs.Cuts.{cuts_rules, rules_cuts, length_cut}

-- ---- two names

pub same_name_lem : (m n : List ℕ) → same_name m n ≡ true → map fold m ≡ map fold n
same_name_lem m n e = same_true (map fold m) (map fold n) e

pub name_same : (m n : List ℕ) → map fold m ≡ map fold n → same_name m n ≡ true
name_same m n e = ap (same (map fold m)) (sym e) ∙ same_refl (map fold m)

pub other_name : (m n : List ℕ) → same_name m n ≡ false → map fold m ≡ map fold n → ⊥
other_name m n e f = false_not_true (sym e ∙ name_same m n f)

pub name_other : (m n : List ℕ) → (map fold m ≡ map fold n → ⊥) → same_name m n ≡ false
name_other m n g = bool_case (same_name m n) (λ e. absurd (g (same_name_lem m n e))) (λ e. e)

-- ---- finding a column

-- where a search from number `a` on found it
record FirstNamed (a : ℕ) (names : List (List ℕ)) (name : List ℕ) (i : ℕ) : Type 0 where
  at : ℕ
  place : i ≡ a + at
  column : ColumnIs names name at

found_further : (a : ℕ) (n : List ℕ) (ns : List (List ℕ)) (name : List ℕ) (i : ℕ) → same_name n name ≡ false → FirstNamed (suc a) ns name i → FirstNamed a (n ∷ ns) name i
found_further a n ns name i e f =
    record {
      at = suc f.at;
      place = let p = f.place in omega arith;
      column = record { inside = let h = f.column.inside in omega arith; same = f.column.same; first = first };
    }
  where
    first : (j : ℕ) → j < suc f.at → map fold (get_or (n ∷ ns) j []) ≡ map fold name → ⊥
    first zero h = other_name n name e
    first (suc j) h = f.column.first j (le_of_suc-le-suc h)

column_sound : (a : ℕ) (ns : List (List ℕ)) (name : List ℕ) (i : ℕ) → column_from a ns name ≡ Some i → FirstNamed a ns name i
unfolding column_from
column_sound a [] name i e = let z : ◌≡◌ {A = ℕ} 0 1 = cc in absurd (omega arith)
column_sound a (n ∷ ns) name i e =
    bool_case (same_name n name)
    (λ t.
    let k : Some a ≡ Some i = sym (ap (λ b. pick b (Some a) (column_from (suc a) ns name)) t) ∙ e in
    let l : a ≡ i = cc in
    record { at = 0; place = omega arith; column = record { inside = omega arith; same = same_name_lem n name t; first = λ j h. absurd (not-suc-le-zero h) } })
    (λ t. found_further a n ns name i t (column_sound (suc a) ns name i (sym (ap (λ b. pick b (Some a) (column_from (suc a) ns name)) t) ∙ e)))

column_complete : (a : ℕ) (ns : List (List ℕ)) (name : List ℕ) (k : ℕ) → ColumnIs ns name k → column_from a ns name ≡ Some (a + k)
unfolding column_from
column_complete a [] name k c = absurd (not-suc-le-zero c.inside)
column_complete a (n ∷ ns) name zero c =
    let z : a + 0 ≡ a = omega arith in
    rw z (ap (λ b. pick b (Some a) (column_from (suc a) ns name)) (name_same n name c.same))
column_complete a (n ∷ ns) name (suc k) c =
    let z : a + suc k ≡ suc a + k = omega arith in
    rw z (ap (λ b. pick b (Some a) (column_from (suc a) ns name)) (name_other n name (c.first 0 (omega arith)))
    ∙ column_complete (suc a) ns name k (record { inside = le_of_suc-le-suc c.inside; same = c.same; first = λ j h. c.first (suc j) (omega arith) }))

-- a column is found exactly by the rule
pub column_law : (names : List (List ℕ)) (name : List ℕ) (i : ℕ) → (column_of names name ≡ Some i) ↔ ColumnIs names name i
column_law names name i = (to, from)
  where
    to : column_of names name ≡ Some i → ColumnIs names name i
    to e =
        let f = column_sound 0 names name i e in
        let p : f.at ≡ i = let q = f.place in omega arith in
        subst (ColumnIs names name) p f.column

    from : ColumnIs names name i → column_of names name ≡ Some i
    from c = let z : 0 + i ≡ i = omega arith in column_complete 0 names name i c ∙ ap Some z

-- whether a name is new does not depend on where the search starts
pub new_anywhere : (a b : ℕ) (ns : List (List ℕ)) (name : List ℕ) → is_new (column_from a ns name) ≡ is_new (column_from b ns name)
unfolding column_from
new_anywhere a b [] name = refl
new_anywhere a b (n ∷ ns) name =
    bool_case (same_name n name)
    (λ t. rw t refl)
    (λ t. rw t (new_anywhere (suc a) (suc b) ns name))

-- ---- the tests of every byte and every name

pub byte_test : Every 0 (λ b _. is_name_byte b) name_bytes
unfolding name_bytes
byte_test = record { none = refl; more = λ x xs. refl }

pub name_test : Every [] (λ n _. is_name n) each_name
unfolding each_name
name_test = record { none = refl; more = λ x xs. refl }

pub distinct_test : Every [] (λ n ns. is_new (column_of ns n)) all_distinct
unfolding all_distinct
distinct_test = record { none = refl; more = λ x xs. refl }

new_test : (name : List ℕ) → Every [] (λ n _. not (same_name n name)) (λ ns. is_new (column_of ns name))
unfolding column_from
new_test name = record { none = refl; more = more }
  where
    more : (n : List ℕ) (ns : List (List ℕ)) → is_new (column_of (n ∷ ns) name) ≡ both (not (same_name n name)) (is_new (column_of ns name))
    more n ns = bool_case (same_name n name) (λ t. rw t refl) (λ t. rw t (new_anywhere 1 0 ns name))

-- ---- all names

-- the rules of a table's names
names_rules : (names : List (List ℕ)) → within 1 max_columns (length names) ≡ true → each_name names ≡ true → all_distinct names ≡ true → Names names
names_rules names w e d =
    record {
      some = leb-true 1 (length names) (both_left (leb 1 (length names)) (leb (length names) max_columns) w);
      few = leb-true (length names) max_columns (both_right (leb 1 (length names)) (leb (length names) max_columns) w);
      not_empty = λ i h. (sized i h).0;
      short = λ i h. (sized i h).1;
      bytes = λ i j h k. every_each byte_test (get_or names i []) (right i h) j k;
      differ = differ;
    }
  where
    named : (i : ℕ) → i < length names → is_name (get_or names i []) ≡ true
    named i h = every_each name_test names e i h

    right : (i : ℕ) → i < length names → name_bytes (get_or names i []) ≡ true
    right i h = both_right (within 1 max_name (length (get_or names i []))) (name_bytes (get_or names i [])) (named i h)

    sized : (i : ℕ) → i < length names → (1 ≤ length (get_or names i [])) × (length (get_or names i []) ≤ max_name)
    sized i h =
        let n = length (get_or names i []) in
        let s = both_left (within 1 max_name n) (name_bytes (get_or names i [])) (named i h) in
        (leb-true 1 n (both_left (leb 1 n) (leb n max_name) s), leb-true n max_name (both_right (leb 1 n) (leb n max_name) s))

    differ : (i j : ℕ) → i < j → j < length names → map fold (get_or names i []) ≡ map fold (get_or names j []) → ⊥
    differ i j h k f =
        let n = get_or names i [] in
        let l : j - suc i < length (drop (suc i) names) = rw length-drop (omega arith) in
        let new = every_each distinct_test names d i (omega arith) in
        let o = not-true (same_name (get_or (drop (suc i) names) (j - suc i) []) n) (every_each (new_test n) (drop (suc i) names) new (j - suc i) l) in
        let z : suc i + (j - suc i) ≡ j = omega arith in
        other_name (get_or (drop (suc i) names) (j - suc i) []) n o (ap (map fold) (get_or-drop (suc i) names (j - suc i) [] ∙ ap (λ m. get_or names m []) z) ∙ sym f)

rules_each : (names : List (List ℕ)) → Names names → each_name names ≡ true
rules_each names r =
    each_every name_test names
    (λ i h.
    both_true (within 1 max_name (length (get_or names i []))) (name_bytes (get_or names i []))
    (within_true 1 max_name (length (get_or names i [])) (r.not_empty i h) (r.short i h))
    (each_every byte_test (get_or names i []) (λ j k. r.bytes i j h k)))

rules_distinct : (names : List (List ℕ)) → Names names → all_distinct names ≡ true
rules_distinct names r = each_every distinct_test names (λ i h. each_every (new_test (get_or names i [])) (drop (suc i) names) (new i))
  where
    new : (i k : ℕ) → k < length (drop (suc i) names) → not (same_name (get_or (drop (suc i) names) k []) (get_or names i [])) ≡ true
    new i k h =
        let l : k < length names - suc i = rw length-drop at h in
        let e = get_or-drop (suc i) names k [] in
        ap not (name_other (get_or (drop (suc i) names) k []) (get_or names i []) (λ f. r.differ i (suc i + k) (omega arith) (omega arith) (sym (sym (ap (map fold) e) ∙ f))))

-- the test is true exactly when the rules hold
pub names_law : (s es : List ℕ) → (names_ok s es ≡ true) ↔ (Cuts s es × Names (cut s es))
names_law s es = (to, from)
  where
    to : names_ok s es ≡ true → Cuts s es × Names (cut s es)
    to t =
        let w = within 1 max_columns (length es) in
        let e = each_name (cut s es) in
        let d = all_distinct (cut s es) in
        let u = both_right (cuts s es) (both w (both e d)) t in
        let v = both_right w (both e d) u in
        let l : within 1 max_columns (length (cut s es)) ≡ true = ap (within 1 max_columns) (length_cut s es) ∙ both_left w (both e d) u in
        (cuts_rules s es (both_left (cuts s es) (both w (both e d)) t), names_rules (cut s es) l (both_left e d v) (both_right e d v))

    from : Cuts s es × Names (cut s es) → names_ok s es ≡ true
    from r =
        let w = within 1 max_columns (length es) in
        let e = each_name (cut s es) in
        let d = all_distinct (cut s es) in
        let n = r.1 in
        let l = length_cut s es in
        both_true (cuts s es) (both w (both e d)) (rules_cuts s es r.0)
        (both_true w (both e d) (within_true 1 max_columns (length es) (omega (arith, n.some)) (omega (arith, n.few)))
        (both_true e d (rules_each (cut s es) n) (rules_distinct (cut s es) n)))
