-- Lists have one merge (`merged_list_one`), and it keeps the rules of the table that they are of (`merged_columns`).
use Prim.Native.Nat.{ℕ, suc}
use mathlib.Core.Path.{◌≡◌, refl, sym, ◌∙◌}
use mathlib.Core.Bool.{Bool}
use mathlib.Core.List.{List, [], ◌∷◌, Memᴰ}
use Rattle.doclist.specs.Doclist.{Entry, Columns, Entries}
use Rattle.cursors.specs.Groups.{first_for, EveryList}
use Rattle.merged.proofs.Finding.{entry_found}
use Rattle.merged.proofs.Once.{entries_one}
use Rattle.merged.proofs.Kept.{kept_from}
use Rattle.postings.specs.Lists.{MergedList}
use Rattle.postings.proofs.Firsts.{first_good}

pub merged_list_one : (keep : Bool) (lists : List (List Entry)) (es fs : List Entry) → MergedList keep lists es → MergedList keep lists fs → es ≡ fs
merged_list_one keep lists es fs m n = entries_one 0 16 es fs m.good n.good (λ docid. m.entries docid ∙ sym (n.entries docid))

-- entries whose columns are below the count
entries_count : (low count : ℕ) (es : List Entry) → Entries low 16 es → ((e : Entry) → Memᴰ e es → Columns 0 count e.columns) → Entries low count es
entries_count low count [] h f = tt
entries_count low count (e ∷ es) h f =
    (h.0, h.1, f e (Memᴰ.head refl), entries_count (suc e.docid) count es h.3 (λ x m. f x (Memᴰ.tail m)))

pub merged_columns : (keep : Bool) (count : ℕ) (lists : List (List Entry)) (es : List Entry) → EveryList (Entries 0 count) lists → MergedList keep lists es → Entries 0 count es
merged_columns keep count lists es o m =
    entries_count 0 count es m.good
    (λ e k.
    let q = sym (m.entries e.docid) ∙ entry_found 0 16 es e m.good k in
    (first_good count e.docid lists e o (kept_from keep (first_for e.docid lists) e q)).1.columns)
