-- What is counted and written of the merge, from docid to docid.
use Prim.Native.Nat.{ℕ, ◌+◌, ◌-◌, ◌≤◌, ◌<◌}
use native.Mathlib.Omega.{arith}
use mathlib.Core.Path.{◌≡◌, refl, sym, ap, ◌∙◌}
use mathlib.Core.Bool.{Bool, true, false}
use mathlib.Core.Logic.{inl, inr}
use mathlib.Core.List.{List, [], ◌++◌}
use lib.ListN.{length, drop, length-append}
use Rattle.common.specs.Bounds.{max_index_bytes}
use Rattle.common.specs.Bytes.{part, over}
use Rattle.common.specs.Frame.{KeptFrom}
use Rattle.common.proofs.Cases.{split}
use Rattle.common.proofs.Frames.{kept_later, kept_again}
use Rattle.common.proofs.Lists.{length_take_most}
use Rattle.varint.specs.Varint.{max_varint, encode}
use Rattle.varint.proofs.Laws.{encode_most}
use Rattle.doclist.specs.Docid.{docid_limit, zero_key, difference}
use Rattle.doclist.specs.Doclist.{Entry, encode_from, encode_list, last_docid}
use Rattle.doclist.proofs.Entries.{encode_append}
use Rattle.meaning.specs.Index.{nothing}
use Rattle.cursors.specs.Groups.{first_for, EveryList}
use Rattle.cursors.proofs.Each.{EntriesOrdered}
use Rattle.merged.specs.Merged.{kept_entry}
use Rattle.postings.specs.Lists.{TurnInside, BytesPut, turn_bytes, EntriesStored, Capped, most_bytes, ListMerged}
use Rattle.postings.specs.declared.Turn.{Turn}
use Rattle.postings.specs.declared.Stored.{Stored}
use Rattle.postings.proofs.Capping.{capped_exact, capped_small, capped_over}
use Rattle.postings.proofs.Merging.{MergedBelow, merged_none, merged_skip, merged_all}

-- ---- whatever is stored

-- what is known of the room and of the size
pub record Counted (write : Bool) (room₀ room : List ℕ) (stored : Stored) : Type 0 where
  pub few : stored.size ≤ most_bytes
  pub counted : write ≡ false → room ≡ room₀
  pub kept : KeptFrom stored.size room₀ room

module _ {write : Bool} {room₀ room room₁ leaves : List ℕ} {docid : ℕ} {turn : Turn} {stored r : Stored}
    (s : EntriesStored write room room₁ leaves docid turn stored r) (i : TurnInside leaves docid turn) where
  pub counted_more : Counted write room₀ room stored → Counted write room₀ room₁ r
  counted_more c =
      split 0 turn.size
      (λ p.
      split max_index_bytes stored.size
      (λ full. let e = s.over_full p full in same_size e.0 e.1)
      (λ free. more free (s.some p free)))
      (λ p. let z : turn.size ≡ 0 = omega arith in let e = s.none z in same_size (ap (λ (x : Stored). x.size) e.0) e.1)
    where
      same_size : r.size ≡ stored.size → room₁ ≡ room → Counted write room₀ room₁ r
      same_size e m =
          record {
            few = omega (arith, c.few);
            counted = λ off. m ∙ c.counted off;
            kept = rw (e, m) c.kept;
          }

      more : stored.size ≤ max_index_bytes → BytesPut write room room₁ stored.size (turn_bytes leaves turn stored.last docid) r.size → Counted write room₀ room₁ r
      more free b =
          let d : ℕ = difference stored.last docid in
          let body : List ℕ = part leaves turn.start (turn.start + turn.size) in
          let size : length body ≤ turn.start + turn.size - turn.start = length_take_most (turn.start + turn.size - turn.start) (drop turn.start leaves) in
          let bytes : length (turn_bytes leaves turn stored.last docid) ≡ length (encode d) + length body = length-append (encode d) body in
          record {
            few = omega (arith, b.ends, bytes, size, encode_most max_varint d, i.few);
            counted = λ off. b.counted off ∙ c.counted off;
            kept = kept_again (kept_later c.kept r.size (omega (arith, b.ends))) b.kept;
          }

-- ---- the merge

-- the merge below a docid, its size and its bytes
pub record Content (write keep : Bool) (lists : List (List Entry)) (room₀ room : List ℕ) (d : ℕ) (stored : Stored) : Type 0 where
  pub entries : List Entry
  pub merged : MergedBelow keep lists d entries
  pub size : Capped stored.size (length (encode_list entries))
  pub last : stored.last ≡ last_docid zero_key entries
  pub bytes : write ≡ true → length (encode_list entries) ≤ length room₀ → length (encode_list entries) ≤ max_index_bytes → room ≡ over (encode_list entries) room₀

module _ {write keep : Bool} {lists : List (List Entry)} {room₀ : List ℕ} where
  pub content_none : Content write keep lists room₀ room₀ 0 (record { size = 0; last = zero_key })
  content_none =
      record {
        entries = [];
        merged = merged_none keep lists;
        size = inl refl;
        last = refl;
        bytes = λ on f h. refl;
      }

  module _ {room : List ℕ} {d : ℕ} {stored : Stored} (c : Content write keep lists room₀ room d stored) where
    -- nothing is kept up to the new bound
    pub content_skip : (k : ℕ) → d ≤ k → ((j : ℕ) → d ≤ j → j < k → kept_entry keep (first_for j lists) ≡ nothing) → Content write keep lists room₀ room k stored
    content_skip k h n =
        record {
          entries = c.entries;
          merged = merged_skip keep lists d k c.entries h n c.merged;
          size = c.size;
          last = c.last;
          bytes = c.bytes;
        }

    pub content_all : EveryList EntriesOrdered lists → docid_limit ≤ d → ListMerged write keep lists room₀ room stored.size
    content_all o h = record { entries = c.entries; merged = merged_all keep lists d c.entries o h c.merged; size = c.size; bytes = c.bytes }

    -- entries from a docid on were stored
    module _ {room₁ leaves : List ℕ} {docid : ℕ} {turn : Turn} {r : Stored} (s : EntriesStored write room room₁ leaves docid turn stored r) (some : 0 < turn.size) (fs : List Entry)
        (bytes_are : turn_bytes leaves turn stored.last docid ≡ encode_from (last_docid zero_key c.entries) fs) where
      abbrev entries_after : List Entry
      entries_after = c.entries ++ fs

      abbrev due : List ℕ
      due = turn_bytes leaves turn stored.last docid

      list_is : encode_list entries_after ≡ encode_list c.entries ++ due
      list_is = encode_append zero_key c.entries fs ∙ ap (λ (w : List ℕ). encode_list c.entries ++ w) (sym bytes_are)

      list_length : length (encode_list entries_after) ≡ length (encode_list c.entries) + length due
      list_length = ap length list_is ∙ length-append (encode_list c.entries) due

      size_after : Capped r.size (length (encode_list entries_after))
      size_after =
          split max_index_bytes stored.size
          (λ full. inr (omega (arith, (s.over_full some full).0), omega (arith, list_length, capped_over stored.size (length (encode_list c.entries)) c.size full)))
          (λ free. inl (omega (arith, (s.some some free).ends, list_length, capped_exact stored.size (length (encode_list c.entries)) c.size free)))

      bytes_after : write ≡ true → length (encode_list entries_after) ≤ length room₀ → length (encode_list entries_after) ≤ max_index_bytes → room₁ ≡ over (encode_list entries_after) room₀
      bytes_after on f h =
          let n = list_length in
          let exact = capped_small stored.size (length (encode_list c.entries)) c.size (omega arith) in
          let p = s.some some (omega arith) in
          p.bytes room₀ (encode_list c.entries) on (c.bytes on (omega arith) (omega arith)) exact (omega (arith, p.ends))
          ∙ ap (λ (w : List ℕ). over w room₀) (sym list_is)

      pub content_more : (k : ℕ) → MergedBelow keep lists k entries_after → turn.last ≡ last_docid zero_key entries_after → Content write keep lists room₀ room₁ k r
      content_more k m l =
          record {
            entries = entries_after;
            merged = m;
            size = size_after;
            last = s.last some ∙ l;
            bytes = bytes_after;
          }
