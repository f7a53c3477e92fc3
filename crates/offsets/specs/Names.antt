-- Column names (document 01, "How things are lent"): 1 to 16 of them; a name has 1 to 32 ASCII letters, digits or `_`;
-- no two are equal when ASCII case is ignored. A column is found by its name, ASCII case ignored.
use Rattle.std.specs.Prelude.{ℕ, suc, ◌≤◌, ◌<◌, ◌≡◌, Bool, true, false, Option, None, Some, List, [], ◌∷◌, map, length, get_or, eqb, ltb}
use Rattle.common.specs.Pick.{pick, both, either}
use Rattle.common.specs.Bytes.{within, same}
use Rattle.common.specs.Bounds.{max_columns}
use Rattle.tokenizer.specs.Word.{is_word, fold}
use Rattle.offsets.specs.Cut.{cuts, cut}

abbrev pub max_name : ℕ
max_name = 32

-- ---- one name

-- an ASCII letter, a digit or `_`
abbrev pub is_name_byte : ℕ → Bool
is_name_byte b = either (eqb b 95) (both (ltb b 128) (is_word b))

unfoldable pub name_bytes : List ℕ → Bool
name_bytes [] = true
name_bytes (b ∷ s) = both (is_name_byte b) (name_bytes s)

abbrev pub is_name : List ℕ → Bool
is_name name = both (within 1 max_name (length name)) (name_bytes name)

-- whether two names are equal when ASCII case is ignored
abbrev pub same_name : List ℕ → List ℕ → Bool
same_name m n = same (map fold m) (map fold n)

-- ---- finding a column

-- the first of the names from number `i` on that is `name`
unfoldable pub column_from : ℕ → List (List ℕ) → List ℕ → Option ℕ
column_from i [] name = None
column_from i (n ∷ ns) name = pick (same_name n name) (Some i) (column_from (suc i) ns name)

abbrev pub column_of : List (List ℕ) → List ℕ → Option ℕ
column_of names name = column_from 0 names name

-- the same, rule by rule: column number `i` has the name, and none before it has
pub record ColumnIs (names : List (List ℕ)) (name : List ℕ) (i : ℕ) : Type 0 where
  pub inside : i < length names
  pub same : map fold (get_or names i []) ≡ map fold name
  pub first : (j : ℕ) → j < i → map fold (get_or names j []) ≡ map fold name → ⊥

-- ---- all names

unfoldable pub each_name : List (List ℕ) → Bool
each_name [] = true
each_name (n ∷ ns) = both (is_name n) (each_name ns)

-- whether a search found no such name
abbrev pub is_new : Option ℕ → Bool
is_new None = true
is_new (Some i) = false

-- whether no name is found again among the later ones: no two are equal when ASCII case is ignored
unfoldable pub all_distinct : List (List ℕ) → Bool
all_distinct [] = true
all_distinct (n ∷ ns) = both (is_new (column_of ns n)) (all_distinct ns)

-- whether a slice and its ends are a table's column names
abbrev pub names_ok : List ℕ → List ℕ → Bool
names_ok s es = both (cuts s es) (both (within 1 max_columns (length es)) (both (each_name (cut s es)) (all_distinct (cut s es))))

-- the same, rule by rule
pub record Names (names : List (List ℕ)) : Type 0 where
  pub some : 1 ≤ length names
  pub few : length names ≤ max_columns
  pub not_empty : (i : ℕ) → i < length names → 1 ≤ length (get_or names i [])
  pub short : (i : ℕ) → i < length names → length (get_or names i []) ≤ max_name
  pub bytes : (i j : ℕ) → i < length names → j < length (get_or names i []) → is_name_byte (get_or (get_or names i []) j 0) ≡ true
  pub differ : (i j : ℕ) → i < j → j < length names → map fold (get_or names i []) ≡ map fold (get_or names j []) → ⊥
