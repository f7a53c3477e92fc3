-- What the rules say of each entry of a list, and how an entry is read: for those who walk through a list.
use Prim.Native.Nat.{ℕ, suc, ◌+◌, ◌≤◌, ◌<◌}
use native.Mathlib.Omega.{arith}
use mathlib.Core.Path.{◌≡◌, refl, sym, ap, ◌∙◌, subst}
use mathlib.Core.Logic.{⊎_elim}
use mathlib.Core.List.Memᴰ
use mathlib.Core.List.{List, [], ◌∷◌, ◌++◌, append_assoc, Memᴰ}
use lib.ListN.{length, drop, length-append}
use Rattle.common.specs.Bounds.{max_columns}
use Rattle.varint.specs.Varint.{encode, max_varint, read_at}
use Rattle.varint.specs.declared.Varint.TheVariants.{Value}
use Rattle.varint.proofs.Laws.{encode_pos}
use Rattle.doclist.specs.Docid.{docid_limit, zero_key, difference}
use Rattle.doclist.specs.Doclist.{Entry, Columns, Entries, WellFormed, column_numbers, entry_numbers, encode_all, entry_bytes, encode_from, encode_list, last_docid}
use Rattle.doclist.proofs.Docids.{difference_limit}
use Rattle.doclist.proofs.Numbers.{Small, small_append, next_number, list_numbers}
use Rattle.doclist.proofs.Law.{small_columns, small_entries}

-- ---- the rules, entry by entry

-- what they say of one entry
pub record GoodEntry (low count : ℕ) (e : Entry) : Type 0 where
  pub least : low ≤ e.docid
  pub limit : e.docid < docid_limit
  pub columns : Columns 0 count e.columns

pub entry_good : (low count : ℕ) (es : List Entry) (e : Entry) → Entries low count es → Memᴰ e es → GoodEntry low count e
entry_good low count [] e h m = absurd (Memᴰ.not-nil m)
entry_good low count (x ∷ es) e h m =
    ⊎_elim
    (λ p. subst (GoodEntry low count) (sym p) (record { least = h.0; limit = h.1; columns = h.2 }))
    (λ m. let k = entry_good (suc x.docid) count es e h.3 m in record { least = omega (arith, h.0, k.least); limit = k.limit; columns = k.columns })
    (Memᴰ.cases_cons m)

-- a docid has at most one entry
pub entry_one : (low count : ℕ) (es : List Entry) (d e : Entry) → Entries low count es → Memᴰ d es → Memᴰ e es → d.docid ≡ e.docid → d ≡ e
entry_one low count [] d e h m n s = absurd (Memᴰ.not-nil m)
entry_one low count (x ∷ es) d e h m n s =
    ⊎_elim
    (λ p.
    ⊎_elim
    (λ q. p ∙ sym q)
    (λ n. absurd (omega (arith, (entry_good (suc x.docid) count es e h.3 n).least, ap (λ (y : Entry). y.docid) p)))
    (Memᴰ.cases_cons n))
    (λ m.
    ⊎_elim
    (λ q. absurd (omega (arith, (entry_good (suc x.docid) count es d h.3 m).least, ap (λ (y : Entry). y.docid) q)))
    (λ n. entry_one (suc x.docid) count es d e h.3 m n s)
    (Memᴰ.cases_cons n))
    (Memᴰ.cases_cons m)

-- ---- the docid before an entry

-- an entry in the middle: it and those after it keep the rules, and its docid is not below the one before
pub entries_behind : (low before count : ℕ) (passed : List Entry) (e : Entry) (after : List Entry) → before ≤ low → Entries low count (passed ++ (e ∷ after))
    → (last_docid before passed ≤ e.docid) × GoodEntry low count e × Entries (suc e.docid) count after
entries_behind low before count [] e after b h = (omega (arith, h.0), record { least = h.0; limit = h.1; columns = h.2 }, h.3)
entries_behind low before count (x ∷ passed) e after b h =
    let k = entries_behind (suc x.docid) x.docid count passed e after (omega arith) h.3 in
    (k.0, record { least = omega (arith, h.0, k.1.least); limit = k.1.limit; columns = k.1.columns }, k.2)

pub encode_append : (before : ℕ) (passed es : List Entry) → encode_from before (passed ++ es) ≡ encode_from before passed ++ encode_from (last_docid before passed) es
encode_append before [] es = refl
encode_append before (e ∷ passed) es =
    ap (λ (l : List ℕ). entry_bytes before e ++ l) (encode_append e.docid passed es)
    ∙ sym (append_assoc (entry_bytes before e) (encode_from e.docid passed) (encode_from (last_docid e.docid passed) es))

-- ---- all numbers can be stored, and there are some

pub small_entry : (low before count : ℕ) (e : Entry) → count ≤ max_columns → GoodEntry low count e → Small (entry_numbers before e)
small_entry low before count e few g =
    (difference_limit before e.docid, small_append (column_numbers e.columns) (0 ∷ []) (small_columns 0 count e.columns few g.columns) (omega arith, tt))

pub small_list : (count : ℕ) (es : List Entry) → WellFormed count es → Small (list_numbers zero_key es)
small_list count es w = small_entries count 0 zero_key es w.few_columns w.entries

pub entry_pos : (before : ℕ) (e : Entry) → 0 < length (entry_bytes before e)
entry_pos before e =
    let p : 0 < length (encode (difference before e.docid)) = encode_pos max_varint (difference before e.docid) (omega arith) in
    simp length-append (omega arith)

pub entries_pos : (before : ℕ) (es : List Entry) → 0 < length es → 0 < length (encode_from before es)
entries_pos before [] z = absurd (omega arith)
entries_pos before (e ∷ es) z = rw (length-append (entry_bytes before e) (encode_from e.docid es)) (omega (arith, entry_pos before e))

pub list_pos : (count : ℕ) (es : List Entry) → WellFormed count es → 0 < length (encode_list es)
list_pos count es w = entries_pos zero_key es w.some_entry

-- ---- reading an entry

-- the docid's number, and the numbers of the columns after it
pub entry_number : (s : List ℕ) (at before : ℕ) (e : Entry) (t : List ℕ) → drop at s ≡ entry_bytes before e ++ t
    → (read_at s at ≡ Value (difference before e.docid) (at + length (encode (difference before e.docid))))
    × (drop (at + length (encode (difference before e.docid))) s ≡ encode_all (column_numbers e.columns ++ (0 ∷ [])) ++ t)
entry_number s at before e t b = next_number s at (difference before e.docid) (column_numbers e.columns ++ (0 ∷ [])) t (difference_limit before e.docid) b

-- the entry in front of others
pub first_entry : (s : List ℕ) (at before : ℕ) (e : Entry) (es : List Entry) (t : List ℕ) → drop at s ≡ encode_from before (e ∷ es) ++ t
    → drop at s ≡ entry_bytes before e ++ (encode_from e.docid es ++ t)
first_entry s at before e es t b = b ∙ append_assoc (entry_bytes before e) (encode_from e.docid es) t
