-- A byte string is accepted exactly where it is the encoding of well-formed entries.
use Prim.Native.Nat.{ℕ, zero, suc, ◌≤◌, ◌<◌}
use native.Mathlib.Omega.{arith}
use mathlib.Core.Path.{◌≡◌, refl, sym, ap, ◌∙◌}
use mathlib.Core.Logic.{◌↔◌}
use mathlib.Core.Bool.{false}
use mathlib.Core.List.{List, [], ◌∷◌, ◌++◌}
use lib.ListN.{length}
use Rattle.common.specs.Bytes.{within}
use Rattle.common.proofs.Cases.{bool_case}
use Rattle.common.proofs.Numbers.{within_true, within_least, within_most}
use Rattle.common.specs.Bounds.{max_columns}
use Rattle.varint.specs.Varint.{varint_limit}
use Rattle.doclist.specs.Docid.{zero_key}
use Rattle.doclist.specs.Doclist.{Column, Entry, position_limit, Rising, Columns, Entries, WellFormed, position_numbers, announced, column_numbers, encode_all, encode_list}
use Rattle.doclist.specs.Checking.{check_from, check_of}
use Rattle.doclist.specs.declared.State.TheVariants.{Start}
use Rattle.doclist.specs.declared.ListCheck.{ListCheck}
use Rattle.doclist.specs.declared.ListCheck.TheVariants.{Accepted, Refused}
use Rattle.doclist.proofs.Docids.{difference_limit}
use Rattle.doclist.proofs.Numbers.{Small, small_append, list_numbers, list_bytes, refused_not, taken, run_numbers}
use Rattle.doclist.proofs.Walking.{accepts}
use Rattle.doclist.proofs.Content.{content}

-- ---- the numbers of well-formed entries can be stored

pub small_positions : (l b : ℕ) (ps : List ℕ) → Rising l position_limit ps → Small (position_numbers b ps)
small_positions l b [] h = tt
small_positions l b (p ∷ ps) h = (omega (arith, h.1), small_positions (suc p) p ps h.2)

small_announced : (n : ℕ) → n < varint_limit → Small (announced n)
small_announced zero h = tt
small_announced (suc n) h = (omega arith, (h, tt))

pub small_columns : (l count : ℕ) (cs : List Column) → count ≤ max_columns → Columns l count cs → Small (column_numbers cs)
small_columns l count [] m h = tt
small_columns l count (c ∷ cs) m h =
    small_append (announced c.column) (position_numbers 0 c.positions ++ column_numbers cs) (small_announced c.column (omega (arith, h.1)))
    (small_append (position_numbers 0 c.positions) (column_numbers cs) (small_positions 0 0 c.positions h.3) (small_columns (suc c.column) count cs m h.4))

pub small_entries : (count l b : ℕ) (es : List Entry) → count ≤ max_columns → Entries l count es → Small (list_numbers b es)
small_entries count l b [] m h = tt
small_entries count l b (e ∷ es) m h = (
  difference_limit b e.docid,
  small_append (column_numbers e.columns) (0 ∷ list_numbers e.docid es) (small_columns 0 count e.columns m h.2)
      (omega arith, small_entries count (suc e.docid) e.docid es m h.3),
)

-- ---- the law

-- with a right number of columns, the answer is that of the walk
pub check_walk : (count : ℕ) (s : List ℕ) → 1 ≤ count → count ≤ max_columns → check_of count s ≡ check_from (length s) count s 0 Start
check_walk count s l h = rw (within_true 1 max_columns count l h) refl

-- with another, it is a refusal
pub check_wrong : (count : ℕ) (s : List ℕ) → within 1 max_columns count ≡ false → check_of count s ≡ Refused
check_wrong count s e = rw e refl

walk_law : (count : ℕ) (s : List ℕ) → 1 ≤ count → count ≤ max_columns → check_from (length s) count s 0 Start ≡ Accepted
    → (es : List Entry) × WellFormed count es × (s ≡ encode_list es)
walk_law count s l h e =
    let t = taken count s (length s) 0 Start (omega arith) e in
    let k = content count l t.numbers Start t.small t.accepted in (
      k.entries,
      record { some_column = l; few_columns = h; some_entry = k.some; entries = k.good },
      t.bytes ∙ ap encode_all k.numbers ∙ sym (list_bytes zero_key k.entries),
    )

pub list_law : (count : ℕ) (s : List ℕ) → (check_of count s ≡ Accepted) ↔ ((es : List Entry) × WellFormed count es × (s ≡ encode_list es))
list_law count s = (there, λ h. back h.0 h.1 h.2)
  where
    there : check_of count s ≡ Accepted → (es : List Entry) × WellFormed count es × (s ≡ encode_list es)
    there e =
        bool_case (within 1 max_columns count)
        (λ t.
        let l = within_least 1 max_columns count t in
        let h = within_most 1 max_columns count t in
        walk_law count s l h (sym (check_walk count s l h) ∙ e))
        (λ f. refused_not (check_wrong count s f) e)

    back : (es : List Entry) → WellFormed count es → s ≡ encode_list es → check_of count s ≡ Accepted
    back es w e =
        let m = small_entries count 0 zero_key es w.few_columns w.entries in
        check_walk count s w.some_column w.few_columns
        ∙ run_numbers count s (list_numbers zero_key es) (length s) 0 Start (omega arith) m (e ∙ list_bytes zero_key es)
        ∙ accepts count es w.some_entry w.entries

-- an answer that is what checking gives tells exactly the lists
pub checked : {r : ListCheck} (count : ℕ) (s : List ℕ) → r ≡ check_of count s
    → (r ≡ check_of count s) × ((r ≡ Accepted) ↔ ((es : List Entry) × WellFormed count es × (s ≡ encode_list es)))
checked count s e = let l = list_law count s in (e, (λ p. l.0 (sym e ∙ p), λ h. e ∙ l.1 h))
