-- The loop over all cursors: its start, its turns, and its ends.
use Prim.Native.Nat.{ℕ, ◌+◌, ◌≤◌, ◌<◌}
use native.Mathlib.Omega.{arith}
use mathlib.Core.Path.{◌≡◌, refl, sym, ap, ◌∙◌}
use mathlib.Core.Bool.{Bool}
use mathlib.Core.List.{List, [], ◌∷◌}
use lib.ListN.{length, get_or, set, length-set}
use Rattle.common.proofs.Frames.{kept_all}
use Rattle.doclist.specs.Docid.{docid_limit, zero_key}
use Rattle.doclist.specs.Doclist.{Entry}
use Rattle.meaning.specs.Index.{entry_for}
use Rattle.cursors.specs.Groups.{first_for, last_key}
use Rattle.cursors.specs.Arrays.{StandsOn, CursorsAre}
use Rattle.cursors.proofs.Each.{ordered}
use Rattle.merged.specs.Merged.{kept_entry}
use Rattle.std.specs.Prelude.{None}
use Rattle.postings.specs.Lists.{one_word, FirstOf, IsFirst, Turned, TurnInside, EntriesStored, ListPut}
use Rattle.postings.specs.declared.First.{First}
use Rattle.postings.specs.declared.Turn.{Turn}
use Rattle.postings.specs.declared.Stored.{Stored}
use Rattle.postings.proofs.Firsts.{first_set}
use Rattle.postings.proofs.Counting.{Counted, counted_more, Content, content_none, content_skip, content_all}
use Rattle.postings.proofs.Standing.{Standing, standing_start, standing_next, OnEntry, first_ended, on_first}
use Rattle.postings.proofs.Turning.{Done, turn_done}

-- where the cursors are right: the lists that are left have the entries from `from` on, and those below it are merged
pub record Progress (write keep : Bool) (leaves docids bodies lasts : List ℕ) (n : ℕ) (lists : List (List Entry)) (room₀ room : List ℕ) (from : ℕ) (stored : Stored) : Type 0 where
  pub left : List (List Entry)
  pub stands : Standing leaves docids bodies lasts n left
  pub same : (d : ℕ) → from ≤ d → first_for d left ≡ first_for d lists
  pub content : Content write keep lists room₀ room from stored

-- what the loop knows
pub record Going (write keep : Bool) (leaves docids₀ bodies₀ lasts : List ℕ) (n : ℕ) (room₀ docids bodies room : List ℕ) (from : ℕ) (stored : Stored) : Type 0 where
  pub room_size : length room ≡ length room₀
  pub docids_size : length docids ≡ 8
  pub bodies_size : length bodies ≡ 8
  pub from_most : from ≤ last_key
  pub counted : Counted write room₀ room stored
  pub progress : (masks follows : List ℕ) (mask : ℕ) (lists : List (List Entry)) → CursorsAre leaves docids₀ bodies₀ lasts masks follows n (one_word mask lists)
      → Progress write keep leaves docids bodies lasts n lists room₀ room from stored

-- more cursors than there can be
pub going_not : {write keep : Bool} {leaves docids bodies lasts masks follows : List ℕ} {n : ℕ} {room : List ℕ} → length docids ≡ 8 → 8 < n
    → ListPut write keep leaves docids bodies lasts masks follows n room room 0
going_not {room = room} e h =
    record {
      content = λ mask lists k. absurd (omega (arith, k.hold.room.docid_room));
      few = omega arith;
      counted = λ _. refl;
      kept = kept_all 0 room;
    }

module _ {write keep : Bool} {leaves docids₀ bodies₀ lasts : List ℕ} {n : ℕ} {room₀ : List ℕ} where
  pub going_start : length docids₀ ≡ 8 → length bodies₀ ≡ 8
      → Going write keep leaves docids₀ bodies₀ lasts n room₀ docids₀ bodies₀ room₀ 0 (record { size = 0; last = zero_key })
  going_start a b =
      record {
        room_size = refl;
        docids_size = a;
        bodies_size = b;
        from_most = omega arith;
        counted = record { few = omega arith; counted = λ _. refl; kept = kept_all 0 room₀ };
        progress = λ masks follows mask lists k. record { left = lists; stands = standing_start mask lists k; same = λ d h. refl; content = content_none };
      }

  module _ {docids bodies room : List ℕ} {from : ℕ} {stored : Stored} (g : Going write keep leaves docids₀ bodies₀ lasts n room₀ docids bodies room from stored)
    where
      -- no entry is left
      pub going_end : {masks follows : List ℕ} → FirstOf docids bodies n None → ListPut write keep leaves docids₀ bodies₀ lasts masks follows n room₀ room stored.size
      going_end {masks} {follows} e =
          let m = g.from_most in
          record {
            content = λ mask lists k.
                let p = g.progress masks follows mask lists k in
                content_all (content_skip p.content docid_limit (omega arith) (λ j a b. ap (kept_entry keep) (sym (p.same j a) ∙ first_ended p.stands e j))) (ordered k).0 (omega arith);
            few = g.counted.few;
            counted = g.counted.counted;
            kept = g.counted.kept;
          }

      -- one turn
      module _ (f : First) (chosen : IsFirst docids bodies n f) {room₁ : List ℕ} (turn : Turn) (r : Stored)
          (turned : (e : Entry) (es : List Entry) → StandsOn leaves e es (get_or docids f.at 0) (get_or bodies f.at 0) (get_or lasts f.at 0) → Turned keep leaves from f.rest (get_or docids f.at 0) e es (get_or bodies f.at 0) (get_or lasts f.at 0) turn)
          (place : TurnInside leaves (get_or docids f.at 0) turn) (stores : EntriesStored write room room₁ leaves (get_or docids f.at 0) turn stored r) where
        counted_here : Counted write room₀ room₁ r
        counted_here = counted_more stores place g.counted

        module _ (masks follows : List ℕ) (mask : ℕ) (lists : List (List Entry)) (k : CursorsAre leaves docids₀ bodies₀ lasts masks follows n (one_word mask lists)) where
          abbrev before : Progress write keep leaves docids bodies lasts n lists room₀ room from stored
          before = g.progress masks follows mask lists k

          abbrev entry_on : OnEntry leaves (get_or before.left f.at []) (get_or docids f.at 0) (get_or bodies f.at 0) (get_or lasts f.at 0)
          entry_on = on_first before.stands f chosen

          done : Done write keep leaves lists room₀ room₁ from (get_or docids f.at 0) (get_or lasts f.at 0) (entry_on.first ∷ entry_on.others) turn r
          done =
              turn_done before.stands before.same before.content f chosen stores entry_on.first entry_on.others entry_on.list entry_on.stands
              (turned entry_on.first entry_on.others entry_on.stands)

          goes_on : n ≤ 8 → Progress write keep leaves (set docids f.at turn.next.docid) (set bodies f.at turn.next.body) lasts n lists room₀ room₁ (turn.last + 1) r
          goes_on few =
              let d = done in
              record {
                left = set before.left f.at d.left;
                stands = standing_next before.stands f.at d.left turn.next.docid turn.next.body chosen.inside (omega (arith, g.docids_size)) (omega (arith, g.bodies_size)) d.stands;
                same = λ j m.
                    first_set j f.at d.left before.left (d.same j m ∙ sym (ap (entry_for j) entry_on.list))
                    ∙ before.same j (omega (arith, d.onward));
                content = d.content;
              }

        -- after the last docid
        pub going_last : {masks follows : List ℕ} → get_or docids f.at 0 ≡ last_key → ListPut write keep leaves docids₀ bodies₀ lasts masks follows n room₀ room₁ r.size
        going_last {masks} {follows} z =
            let c = counted_here in
            record {
              content = λ mask lists k.
                  let d = done masks follows mask lists k in
                  content_all d.content (ordered k).0 (omega (arith, d.reached (omega (arith, g.from_most))));
              few = c.few;
              counted = c.counted;
              kept = c.kept;
            }

        -- after any other
        pub going_on : get_or docids f.at 0 < last_key → n ≤ 8 → length room₁ ≡ length room
            → Going write keep leaves docids₀ bodies₀ lasts n room₀ (set docids f.at turn.next.docid) (set bodies f.at turn.next.body) room₁ (turn.last + 1) r
        going_on z few s =
            record {
              room_size = s ∙ g.room_size;
              docids_size = length-set docids f.at turn.next.docid ∙ g.docids_size;
              bodies_size = length-set bodies f.at turn.next.body ∙ g.bodies_size;
              from_most = omega (arith, (place.onward z).1);
              counted = counted_here;
              progress = λ masks follows mask lists k. goes_on masks follows mask lists k few;
            }
