-- The entry that decides is that of the newest leaf that has one: of two rows of leaves, one newer than the other, the newer
-- row's, or else the older's; of a row of leaves, that of the first leaf with an entry.
use Prim.Native.Nat.{ℕ}
use mathlib.Core.Path.{◌≡◌, refl, ap, ◌∙◌}
use mathlib.Core.List.{List, [], ◌∷◌, ◌++◌}
use Rattle.doclist.specs.Doclist.{Entry}
use Rattle.leaf.specs.Leaf.{Term}
use Rattle.meaning.specs.Index.{MaybeEntry, nothing, entry, leaf_entry, or_else, deciding, decided_positions, live}

or_else_again : (x y z : MaybeEntry) → or_else x (or_else y z) ≡ or_else (or_else x y) z
or_else_again nothing y z = refl
or_else_again (entry e) y z = refl

pub deciding_append : (newer older : List (List Term)) (word : List ℕ) (docid : ℕ)
    → deciding (newer ++ older) word docid ≡ or_else (deciding newer word docid) (deciding older word docid)
deciding_append [] older word docid = refl
deciding_append (ts ∷ newer) older word docid =
    ap (or_else (leaf_entry word docid ts)) (deciding_append newer older word docid)
    ∙ or_else_again (leaf_entry word docid ts) (deciding newer word docid) (deciding older word docid)

-- none of the leaves has an entry for the word and the docid
abbrev pub NoneHas : List (List Term) → List ℕ → ℕ → Type 0
NoneHas [] word docid = Unit {0}
NoneHas (ts ∷ leaves) word docid = (leaf_entry word docid ts ≡ nothing) × NoneHas leaves word docid

pub none_decides : (leaves : List (List Term)) (word : List ℕ) (docid : ℕ) → NoneHas leaves word docid → deciding leaves word docid ≡ nothing
none_decides [] word docid h = refl
none_decides (ts ∷ leaves) word docid h = ap (λ x. or_else x (deciding leaves word docid)) h.0 ∙ none_decides leaves word docid h.1

-- "in the newest leaf that has such an entry"
pub newest_decides : (newer : List (List Term)) (ts : List Term) (older : List (List Term)) (word : List ℕ) (docid : ℕ) (e : Entry)
    → NoneHas newer word docid → leaf_entry word docid ts ≡ entry e → deciding (newer ++ (ts ∷ older)) word docid ≡ entry e
newest_decides newer ts older word docid e h here =
    deciding_append newer (ts ∷ older) word docid
    ∙ (ap (λ x. or_else x (deciding (ts ∷ older) word docid)) (none_decides newer word docid h)
    ∙ ap (λ x. or_else x (deciding older word docid)) here)

-- "a deletion, or no entry in any leaf, gives none"
pub deletion_gives_none : (leaves : List (List Term)) (word : List ℕ) (docid column : ℕ) (d : ℕ)
    → deciding leaves word docid ≡ entry (record { docid = d; columns = [] }) → live leaves word docid column ≡ []
deletion_gives_none leaves word docid column d h = ap (λ x. decided_positions x column) h

pub no_entry_gives_none : (leaves : List (List Term)) (word : List ℕ) (docid column : ℕ) → NoneHas leaves word docid → live leaves word docid column ≡ []
no_entry_gives_none leaves word docid column h = ap (λ x. decided_positions x column) (none_decides leaves word docid h)
