-- What an accepted answer means: the leaf stands at the front of the room and zeros after it (`written_leaf`), the
-- reader accepts it for that column count (`written_accepted`), and 0 bytes are written exactly where no column has a
-- word (`written_none`). Proofs/Reading of crate document says the rest of such a leaf. And when an answer is accepted
-- (`accepted_exactly`), and what each refusal leaves (`refused_shape`, `refused_overlong`, `refused_room`).
use Prim.Native.Nat.{ℕ, ◌-◌, ◌≤◌, ◌<◌}
use native.Mathlib.Omega.{arith}
use lib.IntN.{ℤ}
use mathlib.Core.Path.{◌≡◌, refl, sym, ap, subst, ◌∙◌}
use mathlib.Core.Logic.{◌↔◌}
use mathlib.Core.List.{List, ◌++◌}
use lib.ListN.{length, take, replicate}
use lib.Seq.{take_at}
use Rattle.offsets.specs.Cut.{cut}
use Rattle.offsets.proofs.Cuts.{length_cut, cut_joined}
use Rattle.doclist.specs.Docid.{key_of, IsDocid}
use Rattle.doclist.proofs.Docids.{key_in_range}
use Rattle.leaf.specs.Answers.{check_leaf}
use Rattle.leaf.specs.declared.LeafCheck.TheVariants.{Accepted}
use Rattle.document.specs.Document.{HasWordAt, document_terms, document_leaf, Writable}
use Rattle.document.proofs.Reading.{leaf_accepted, no_word}
use Rattle.writer.specs.declared.Answer.{Answer}
use Rattle.writer.specs.declared.Answer.TheVariants.{Written, Shape, Overlong, Room}
use Rattle.writer.specs.Answers.{numbers_of, DocumentShape, IsOverlong, AllShort, need_of, WriteIs, answer_of, held, room_of}
use Rattle.writer.proofs.Rules.{write_once, answers}

-- a document that is neither 1 nor 5 can be written
pub writable : (docid : ℤ) (s es : List ℕ) → IsDocid docid → DocumentShape s es → AllShort (cut s es) → Writable (key_of docid) (cut s es)
writable docid s es d h a =
    let n = length_cut s es in
    record {
      docid_range = key_in_range docid d;
      some = omega (arith, h.some);
      few = omega (arith, h.few);
      size = omega (arith, h.size, ap length (cut_joined s es h.ends));
      short = a;
    }

module _ (docid : ℤ) (s es : List ℕ) (room n : ℕ) (w : answer_of docid s es room ≡ Written n) where
  rules : DocumentShape s es × AllShort (cut s es) × (n ≡ need_of docid s es) × (n ≤ room)
  rules = ((answers docid s es room).written n).0 w

  -- the leaf, and then zeros
  pub written_room : room_of docid s es room ≡ document_leaf (key_of docid) (cut s es) ++ replicate (room - n) 0
  written_room = ap (held room (document_leaf (key_of docid) (cut s es))) w

  pub written_leaf : take n (room_of docid s es room) ≡ document_leaf (key_of docid) (cut s es)
  written_leaf = ap (take n) written_room ∙ take_at (document_leaf (key_of docid) (cut s es)) (replicate (room - n) 0) n (sym rules.2)

  -- 0 bytes exactly where there is no word
  pub written_none : (n ≡ 0) ↔ ((v : List ℕ) (c p : ℕ) → HasWordAt (cut s es) v c p → ⊥)
  written_none =
      let l = no_word (key_of docid) (cut s es) in
      (λ e. l.0 (sym rules.2 ∙ e), λ f. rules.2 ∙ l.1 f)

  -- what was written is accepted for that column count
  pub written_accepted : IsDocid docid → 0 < length (document_terms (key_of docid) (cut s es)) → check_leaf (length es) (take n (room_of docid s es room)) ≡ Accepted
  written_accepted d some =
      ap (check_leaf (length es)) written_leaf
      ∙ subst (λ k. check_leaf k (document_leaf (key_of docid) (cut s es)) ≡ Accepted) (length_cut s es)
      (leaf_accepted (key_of docid) (cut s es) (writable docid s es d rules.0 rules.1) some)

-- ---- what each number says, for any answer that is right

module _ (docid : ℤ) (s es : List ℕ) (room : ℕ) where
  -- answer 0 ⇔ the shape, no word over 64 bytes, and room enough
  pub accepted_exactly : (r : Answer) → WriteIs docid s es room r → ((numbers_of r).number ≡ 0) ↔ (DocumentShape s es × AllShort (cut s es) × (need_of docid s es ≤ room))
  accepted_exactly r c = (
    λ z. go r (write_once docid s es room r c) z,
    λ h. ap (λ (q : Answer). (numbers_of q).number) (sym (write_once docid s es room r c) ∙ ((answers docid s es room).written (need_of docid s es)).1 (h.0, h.1, refl, h.2)),
  )
    where
      go : (r : Answer) → answer_of docid s es room ≡ r → (numbers_of r).number ≡ 0 → DocumentShape s es × AllShort (cut s es) × (need_of docid s es ≤ room)
      go (Written n) e z = let k = ((answers docid s es room).written n).0 e in (k.0, k.1, omega (arith, k.2, k.3))
      go Shape e z = absurd (omega arith)
      go (Overlong d) e z = absurd (omega arith)
      go (Room n) e z = absurd (omega arith)

  -- every refusal leaves zeros
  zeros : (a : Answer) → ((numbers_of a).number ≡ 0 → ⊥) → answer_of docid s es room ≡ a → room_of docid s es room ≡ replicate room 0
  zeros (Written n) z e = absurd (z refl)
  zeros Shape z e = ap (held room (document_leaf (key_of docid) (cut s es))) e
  zeros (Overlong c) z e = ap (held room (document_leaf (key_of docid) (cut s es))) e
  zeros (Room n) z e = ap (held room (document_leaf (key_of docid) (cut s es))) e

  pub refused_shape : (DocumentShape s es → ⊥) → (answer_of docid s es room ≡ Shape) × (room_of docid s es room ≡ replicate room 0)
  refused_shape h = let e = (answers docid s es room).shape.1 h in (e, zeros Shape (λ z. omega arith) e)

  pub refused_overlong : (c : ℕ) → DocumentShape s es → IsOverlong (cut s es) c → (answer_of docid s es room ≡ Overlong c) × (room_of docid s es room ≡ replicate room 0)
  refused_overlong c h o = let e = ((answers docid s es room).overlong c).1 (h, o) in (e, zeros (Overlong c) (λ z. omega arith) e)

  pub refused_room : DocumentShape s es → AllShort (cut s es) → room < need_of docid s es
      → (answer_of docid s es room ≡ Room (need_of docid s es)) × (room_of docid s es room ≡ replicate room 0)
  refused_room h a l =
      let e = ((answers docid s es room).no_room (need_of docid s es)).1 (h, a, refl, l) in (e, zeros (Room (need_of docid s es)) (λ z. omega arith) e)
