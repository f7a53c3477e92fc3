-- The first entry of a posting list, where it is read (`front_has`): a cursor that is made there stands on the whole list.
use Prim.Native.Nat.{ℕ, suc, ◌+◌, ◌-◌, ◌≤◌, ◌<◌}
use native.Mathlib.Omega.{arith}
use mathlib.Core.Path.{◌≡◌, refl, sym, ap, ◌∙◌, subst}
use mathlib.Core.List.{List, [], ◌∷◌, ◌++◌}
use lib.ListN.{length, drop, length-append}
use Rattle.varint.specs.Varint.{encode, max_varint, read_at}
use Rattle.varint.specs.declared.Varint.TheVariants.{Value, Refused}
use Rattle.varint.proofs.Laws.{encode_pos, refused_no_value, value_same, next_same}
use Rattle.doclist.specs.Docid.{zero_key, bits_of, key_of_bits}
use Rattle.doclist.specs.Doclist.{Column, Entry, Columns, Entries, WellFormed, entry_bytes, encode_from, encode_list}
use Rattle.doclist.proofs.Docids.{bits_key}
use Rattle.doclist.proofs.Entries.{entry_number, first_entry}
use Rattle.row.specs.Row.{body_bytes}
use Rattle.cursors.specs.Arrays.{ListAt}
use Rattle.row.proofs.Bodies.{body_length}
use Rattle.opening.specs.Fronts.{FrontHas}

-- ---- a table with fewer columns

columns_most : (low few many : ℕ) (cs : List Column) → few ≤ many → Columns low few cs → Columns low many cs
columns_most low few many [] h g = tt
columns_most low few many (c ∷ cs) h g = (g.0, omega (arith, g.1), g.2, g.3, columns_most (suc c.column) few many cs h g.4)

pub entries_most : (low few many : ℕ) (es : List Entry) → few ≤ many → Entries low few es → Entries low many es
entries_most low few many [] h g = tt
entries_most low few many (e ∷ es) h g = (g.0, g.1, columns_most 0 few many e.columns h g.2, entries_most (suc e.docid) few many es h g.3)

-- ---- the first entry

record ListBegins (leaf : List ℕ) (list next : ℕ) (entries : List Entry) (d body : ℕ) : Type 0 where
  pub reads : read_at leaf list ≡ Value d body
  pub inside : body < next
  pub stands : ListAt leaf entries (key_of_bits d) body (next - 1)

begins : (leaf : List ℕ) (list next : ℕ) (entries : List Entry) (tail : List ℕ) (columns : ℕ) → WellFormed columns entries
    → drop list leaf ≡ encode_list entries ++ tail → next ≡ list + length (encode_list entries) → (d body : ℕ) × ListBegins leaf list next entries d body
begins leaf list next [] tail columns w e q = absurd (omega (arith, w.some_entry))
begins leaf list next (x ∷ xs) tail columns w e q =
    let v : ℕ = bits_of x.docid in
    let body : ℕ = list + length (encode v) in
    let k = entry_number leaf list zero_key x (encode_from x.docid xs ++ tail) (first_entry leaf list zero_key x xs tail e) in
    let l : length (encode_list (x ∷ xs)) ≡ length (encode v) + length (body_bytes x.columns) + length (encode_from x.docid xs) =
    length-append (entry_bytes zero_key x) (encode_from x.docid xs)
    ∙ ap (λ (n : ℕ). n + length (encode_from x.docid xs)) (length-append (encode v) (body_bytes x.columns)) in
    let b = body_length x.columns in
    let g = entries_most 0 columns 16 (x ∷ xs) w.few_columns w.entries in (
      v,
      body,
      record {
        reads = k.0;
        inside = omega arith;
        stands =
            record {
              after = tail;
              same = bits_key x.docid g.1;
              some = omega (arith, encode_pos max_varint v (omega arith));
              bytes = k.1;
              ends = omega arith;
              limit = g.1;
              good = g.2;
              later = g.3;
            };
      },
    )

module _ (leaf : List ℕ) (base : ℕ) (word : List ℕ) (size mask list next : ℕ) (entries : List Entry) (tail : List ℕ) (columns : ℕ)
    (w : WellFormed columns entries) (e : drop list leaf ≡ encode_list entries ++ tail) (q : next ≡ list + length (encode_list entries)) where
  pub list_not_refused {ℓ} : {X : Type ℓ} → read_at leaf list ≡ Refused → X
  list_not_refused r = let k = begins leaf list next entries tail columns w e q in refused_no_value k.0 k.1 r k.2.reads

  pub front_has : {v body : ℕ} → read_at leaf list ≡ Value v body
      → (body < next)
      × ((docid : ℕ) → docid ≡ key_of_bits v
      → FrontHas leaf base word size mask next entries (record { word = word; size = size; mask = mask; docid = docid; body = base + body; last = base + next - 1; next = next }))
  front_has {v} {body} r =
      let k = begins leaf list next entries tail columns w e q in
      let h = rw (value_same k.2.reads r, next_same k.2.reads r) at k.2 in (
        h.inside,
        λ docid d.
            record {
              same_word = refl;
              same_size = refl;
              same_mask = refl;
              same_next = refl;
              body = body;
              last = next - 1;
              body_at = refl;
              last_at = omega (arith, h.inside);
              list = subst (λ (k : ℕ). ListAt leaf entries k body (next - 1)) (sym d) h.stands;
            },
      )
