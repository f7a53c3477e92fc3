-- One turn: what the cursor that was chosen gives to the merge, and what is left of its list.
use Prim.Native.Nat.{ℕ, suc, ◌+◌, ◌≤◌, ◌<◌}
use native.Mathlib.Omega.{arith}
use mathlib.Core.Path.{◌≡◌, refl, sym, ap, ap₂, ◌∙◌, subst}
use mathlib.Core.Bool.{Bool}
use mathlib.Core.Logic.{◌⊎◌, inl, inr, ⊎_elim}
use mathlib.Core.List.{List, [], ◌∷◌, ◌++◌, append_assoc}
use lib.ListN.{get_or}
use Rattle.common.specs.Bytes.{part}
use Rattle.common.proofs.Cases.{split, same_or}
use Rattle.varint.specs.Varint.{encode}
use Rattle.doclist.specs.Docid.{zero_key, difference}
use Rattle.doclist.specs.Doclist.{Entry, Entries, encode_from, last_docid}
use Rattle.meaning.specs.Index.{nothing, entry, entry_for}
use Rattle.row.specs.Row.{body_bytes}
use Rattle.cursors.specs.Groups.{first_for}
use Rattle.cursors.specs.Arrays.{StandsOn, ListAt}
use Rattle.merged.specs.Merged.{kept_entry}
use Rattle.merged.proofs.Finding.{entry_here, entry_next, entry_below}
use Rattle.postings.specs.Lists.{IsFirst, EachKept, PassedOver, TakenUp, Turned, turn_bytes, EntriesStored}
use Rattle.postings.specs.declared.First.{First}
use Rattle.postings.specs.declared.Turn.{Turn}
use Rattle.postings.specs.declared.Stored.{Stored}
use Rattle.postings.proofs.Growing.{Below, entry_behind, entry_front, last_join, Parted, parted}
use Rattle.postings.proofs.Stretching.{stretch_bytes}
use Rattle.postings.proofs.Merging.{MergedBelow, merged_more}
use Rattle.postings.proofs.Counting.{Content, content_skip, content_more}
use Rattle.postings.proofs.Standing.{Standing, first_below, first_here, first_later}

-- ---- entries that are kept

kept_found : (keep : Bool) (rest d : ℕ) (es : List Entry) → EachKept keep rest es → kept_entry keep (entry_for d es) ≡ entry_for d es
kept_found keep rest d [] h = refl
kept_found keep rest d (e ∷ es) h =
    same_or e.docid d
    (λ q. let f = entry_here e es d q in ap (kept_entry keep) f ∙ h.1 ∙ sym f)
    (λ q. let f = entry_next e es d q in ap (kept_entry keep) f ∙ kept_found keep rest d es h.2 ∙ sym f)

final_rest : (keep : Bool) (rest before : ℕ) (es : List Entry) → EachKept keep rest es → (last_docid before es ≡ before) ⊎ (last_docid before es < rest)
final_rest keep rest before [] h = inl refl
final_rest keep rest before (e ∷ es) h = inr (⊎_elim (λ (q : last_docid e.docid es ≡ e.docid). omega (arith, h.0)) (λ l. l) (final_rest keep rest e.docid es h.2))

-- ---- the turn

-- all docids up to the last of the turn are done
pub record Done (write keep : Bool) (leaves : List ℕ) (lists : List (List Entry)) (room₀ room : List ℕ) (from docid last : ℕ) (l : List Entry) (turn : Turn) (r : Stored) : Type 0 where
  pub left : List Entry
  pub stands : ListAt leaves left turn.next.docid turn.next.body last
  pub same : (d : ℕ) → turn.last + 1 ≤ d → entry_for d left ≡ entry_for d l
  pub content : Content write keep lists room₀ room (turn.last + 1) r
  pub onward : from ≤ turn.last + 1
  pub reached : from ≤ docid → docid ≤ turn.last

module _ {write keep : Bool} {leaves docids bodies lasts : List ℕ} {n : ℕ} {lists left : List (List Entry)} {room₀ room room₁ : List ℕ} {from : ℕ} {stored r : Stored} {turn : Turn}
    (st : Standing leaves docids bodies lasts n left) (same : (d : ℕ) → from ≤ d → first_for d left ≡ first_for d lists) (c : Content write keep lists room₀ room from stored)
    (f : First) (g : IsFirst docids bodies n f) (stores : EntriesStored write room room₁ leaves (get_or docids f.at 0) turn stored r)
    (e : Entry) (es : List Entry) (q : get_or left f.at [] ≡ e ∷ es) {body last : ℕ} (on : StandsOn leaves e es (get_or docids f.at 0) body last) where
  abbrev docid : ℕ
  docid = get_or docids f.at 0

  -- none below, and at the docid the entry
  below_is : (k : ℕ) → from ≤ k → k < docid → kept_entry keep (first_for k lists) ≡ nothing
  below_is k h l = ap (kept_entry keep) (sym (same k h) ∙ first_below st f g k l)

  here_is : (k : ℕ) → from ≤ k → k ≡ docid → first_for k lists ≡ entry e
  here_is k h z = sym (same k h) ∙ ap (λ (i : ℕ). first_for i left) (z ∙ on.same) ∙ first_here st f g e es q on.same

  -- ---- passed over

  module _ (p : PassedOver keep leaves from docid e es last turn) where
    unchanged : (k : ℕ) → Content write keep lists room₀ room k stored → Content write keep lists room₀ room₁ k r
    unchanged k h =
        let z = stores.none p.none in
        subst (λ (x : Stored). Content write keep lists room₀ room₁ k x) (sym z.0)
        (subst (λ (x : List ℕ). Content write keep lists room₀ x k stored) (sym z.1) h)

    after_it : (k : ℕ) → docid < k → entry_for k es ≡ entry_for k (e ∷ es)
    after_it k h = sym (entry_next e es k (λ z. omega (arith, on.same)))

    hidden : (docid < from) × (turn.last + 1 ≡ from) → Done write keep leaves lists room₀ room₁ from docid last (e ∷ es) turn r
    hidden h =
        record {
          left = es;
          stands = p.stands;
          same = λ d m. after_it d (omega (arith, h.0, h.1));
          content = unchanged (turn.last + 1) (subst (λ (k : ℕ). Content write keep lists room₀ room k stored) (sym h.1) c);
          onward = omega (arith, h.1);
          reached = λ m. absurd (omega (arith, h.0));
        }

    dropped : (from ≤ docid) × (kept_entry keep (entry e) ≡ nothing) × (turn.last ≡ docid) → Done write keep leaves lists room₀ room₁ from docid last (e ∷ es) turn r
    dropped h =
        let l = h.2 in
        record {
          left = es;
          stands = p.stands;
          same = λ d m. after_it d (omega arith);
          content =
              unchanged (turn.last + 1)
              (content_skip c (turn.last + 1) (omega (arith, h.0))
              (λ k a b. split k docid (below_is k a) (λ m. ap (kept_entry keep) (here_is k a (omega arith)) ∙ h.1)));
          onward = omega (arith, h.0);
          reached = λ m. omega arith;
        }

  -- ---- taken, with some after it

  module _ (t : TakenUp keep leaves from f.rest docid e es body last turn) where
    abbrev run : List Entry
    run = t.after.run

    abbrev behind : List Entry
    behind = t.after.left

    parts : Parted e.docid run behind
    parts = parted e.docid run behind (subst (Entries (suc e.docid) 16) t.after.whole on.later)

    final : turn.last ≡ last_docid e.docid run
    final = t.after.final

    onward : e.docid ≤ turn.last
    onward = omega (arith, final, parts.onward)

    below : Below (turn.last + 1) (e ∷ run)
    below = (omega (arith, onward), subst (λ (k : ℕ). Below (k + 1) run) (sym final) parts.below)

    run_is : (k : ℕ) → from ≤ k → e.docid < k → k < turn.last + 1 → entry_for k (e ∷ run) ≡ kept_entry keep (first_for k lists)
    run_is k a b l =
        let before : k < f.rest = ⊎_elim (λ (z : last_docid e.docid run ≡ e.docid). absurd (omega (arith, final))) (λ z. omega (arith, final)) (final_rest keep f.rest e.docid run t.after.kept) in
        let next : entry_for k (e ∷ run) ≡ entry_for k run = entry_next e run k (λ z. omega arith) in
        let none : entry_for k behind ≡ nothing = entry_below (suc (last_docid e.docid run)) 16 behind k parts.behind (omega (arith, final)) in
        let whole : first_for k lists ≡ entry_for k run =
        sym (same k a) ∙ first_later st f g e es q on.same k before ∙ entry_next e es k (λ z. omega arith) ∙ ap (entry_for k) t.after.whole ∙ entry_front k run behind none in
        next ∙ sym (kept_found keep f.rest k run t.after.kept) ∙ sym (ap (kept_entry keep) whole)

    entries_are : (k : ℕ) → from ≤ k → k < turn.last + 1 → entry_for k (e ∷ run) ≡ kept_entry keep (first_for k lists)
    entries_are k a l =
        let s = on.same in
        split k docid
        (λ m. entry_next e run k (λ z. omega arith) ∙ entry_below (suc e.docid) 16 run k parts.front (omega arith) ∙ sym (below_is k a m))
        (λ m.
        same_or k docid
        (λ z. entry_here e run k (sym s ∙ sym z) ∙ sym t.first ∙ sym (ap (kept_entry keep) (here_is k a z)))
        (λ z. run_is k a (omega arith) l))

    bytes_are : turn_bytes leaves turn stored.last docid ≡ encode_from (last_docid zero_key c.entries) (e ∷ run)
    bytes_are =
        ap₂ (λ (v : ℕ) (w : List ℕ). encode v ++ w)
        (ap₂ difference c.last on.same)
        (ap (λ (k : ℕ). part leaves k (turn.start + turn.size)) t.start ∙ stretch_bytes on t.after)
        ∙ sym (append_assoc (encode (difference (last_docid zero_key c.entries) e.docid)) (body_bytes e.columns) (encode_from e.docid run))

    merged : MergedBelow keep lists (turn.last + 1) (c.entries ++ e ∷ run)
    merged =
        merged_more keep lists from (turn.last + 1) c.entries (omega (arith, t.not_done, onward, on.same)) (e ∷ run)
        (omega (arith, t.not_done, on.same), on.limit, on.good, parts.front) below entries_are c.merged

    taken : Done write keep leaves lists room₀ room₁ from docid last (e ∷ es) turn r
    taken =
        record {
          left = behind;
          stands = t.after.stands;
          same = λ d m. sym (ap (λ (l : List Entry). entry_for d (e ∷ l)) t.after.whole ∙ entry_behind (turn.last + 1) d (e ∷ run) behind m below);
          content = content_more c stores t.some (e ∷ run) bytes_are (turn.last + 1) merged (final ∙ sym (last_join zero_key c.entries e run));
          onward = omega (arith, t.not_done, onward, on.same);
          reached = λ m. omega (arith, onward, on.same);
        }

  pub turn_done : Turned keep leaves from f.rest docid e es body last turn → Done write keep leaves lists room₀ room₁ from docid last (e ∷ es) turn r
  turn_done h = ⊎_elim (λ (p : PassedOver keep leaves from docid e es last turn). ⊎_elim (hidden p) (dropped p) p.why) (λ (t : TakenUp keep leaves from f.rest docid e es body last turn). taken t) h
