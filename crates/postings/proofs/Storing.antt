-- An entry's bytes are counted, and written where they fit.
use Prim.Native.Nat.{ℕ, ◌+◌, ◌-◌, ◌≤◌, ◌<◌}
use native.Mathlib.Omega.{arith}
use mathlib.Core.Path.{◌≡◌, refl, sym, ap, ◌∙◌, subst}
use mathlib.Core.Bool.{Bool, true, false}
use mathlib.Core.List.{List, ◌++◌}
use lib.ListN.{length, take, drop, length-append, take-append-drop}
use lib.Seq.{length-take-le, drop_at}
use Rattle.common.specs.Bytes.{over}
use Rattle.common.specs.Frame.{KeptFrom}
use Rattle.common.proofs.Cases.{true_not_false}
use Rattle.common.proofs.Frames.{kept_all}
use Rattle.common.proofs.Rooms.{over_length, over_lent}
use Rattle.varint.specs.Varint.{encode}
use Rattle.doclist.specs.Docid.{difference}
use Rattle.postings.specs.Lists.{BytesPut}

-- what is written over the front of a room keeps the rest
pub over_kept : (w room : List ℕ) (n : ℕ) → n ≡ length w → length w ≤ length room → KeptFrom n room (over w room)
over_kept w room n e h =
    record {
      size = over_length w room h;
      kept = drop_at w (drop (length w) room) n (sym e) ∙ ap (λ (k : ℕ). drop k room) (sym e);
    }

-- where an entry ends
pub entry_ends : (number before docid size at : ℕ) (body : List ℕ) → size ≡ length (encode number) → number ≡ difference before docid
    → at + size + length body ≡ at + length (encode (difference before docid) ++ body)
entry_ends number before docid size at body s e =
    omega (arith, ap (λ (n : ℕ). length (encode n)) e, length-append (encode (difference before docid)) body)

module _ (write : Bool) (room w : List ℕ) (at r : ℕ) (ends : r ≡ at + length w) where
  -- only counted
  pub put_counted : write ≡ false → BytesPut write room room at w r
  put_counted off =
      record {
        ends = ends;
        counted = λ _. refl;
        kept = kept_all r room;
        bytes = λ before v on. true_not_false write on off;
      }

  -- no room
  pub put_not : length room < r → BytesPut write room room at w r
  put_not h =
      record {
        ends = ends;
        counted = λ _. refl;
        kept = kept_all r room;
        bytes = λ before v on e k f. absurd (omega (arith, ap length e ∙ over_length v before (omega arith)));
      }

  -- put into the rest of the room
  pub put_done : (back : List ℕ) → write ≡ true → r ≤ length room → back ≡ over w (take (length room - at) (drop at room))
      → BytesPut write room (take at room ++ (back ++ drop (length room - at) (drop at room))) at w r
  put_done back on h b =
      let n : length (take at room) ≡ at = length-take-le at room (omega arith) in
      let here : room ≡ over (take at room) room = sym (take-append-drop at room) ∙ ap (λ (k : ℕ). take at room ++ drop k room) (sym n) in
      let whole = over_lent room room (take at room) w back at (omega arith) (sym n) here b in
      record {
        ends = ends;
        counted = λ off. true_not_false write on off;
        kept = subst (KeptFrom r room) (sym whole) (over_kept (take at room ++ w) room r (omega (arith, length-append (take at room) w)) (omega (arith, length-append (take at room) w)));
        bytes = λ before v _ e k f. over_lent room before v w back at (omega arith) k e b;
      }
