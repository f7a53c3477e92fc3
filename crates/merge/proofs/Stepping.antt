-- A step of the merge: where no word is left the terms are the merge of the index (`step_ends`), else the word that was taken adds its term
-- (`step_on`). One leaf may go on alone (`lone_on`, `alone_on`), and a round is that or a step. The loop begins with all words left
-- (`loop_start`), and has enough steps for all of them (`loop_out`).
use Prim.Native.Nat.{ℕ, ◌-◌, ◌≤◌, ◌<◌}
use native.Mathlib.Omega.{arith}
use mathlib.Core.Path.{◌≡◌, refl, sym, ap, ◌∙◌, subst}
use mathlib.Core.Bool.{Bool, true, false}
use mathlib.Core.Logic.{inl, inr, ⊎_elim}
use mathlib.Core.List.{List, [], append-nil}
use lib.ListN.{length}
use lib.Seq.{get_or-set_same, get_or-set_other}
use Rattle.common.specs.Bounds.{max_word, max_leaves, max_index_bytes}
use Rattle.common.specs.Bytes.{over}
use Rattle.common.proofs.Cases.{false_not_true, same_or}
use Rattle.directory.specs.Order.{in_order}
use Rattle.offsets.specs.Cut.{cut}
use Rattle.doclist.specs.Doclist.{Entry}
use Rattle.leaf.specs.Leaf.{Term, encode_terms}
use Rattle.document.proofs.Size.{leaf_terms}
use Rattle.cursors.specs.Arrays.{group_cursors}
use Rattle.cursors.proofs.Each.{group_length}
use Rattle.opening.specs.Matching.{mask_of, TextIs}
use Rattle.opening.specs.Opening.{LeavesAre, Arrays, AsLong}
use Rattle.opening.specs.Fronts.{front_at, no_front, Placed, FrontsAre, HoldAll, all_popped, head_lists}
use Rattle.opening.specs.Walking.{AllPlaced, word_of, Begins, TakesWord, with_lead, Foremost, LeadOf, AloneTaken}
use Rattle.opening.specs.declared.Front.{Front}
use Rattle.opening.specs.declared.WordLists.{WordLists}
use Rattle.opening.specs.declared.Lead.{Lead}
use Rattle.opening.specs.declared.Lone.{Lone}
use Rattle.merged.specs.Merged.{Merged}
use Rattle.merged.proofs.Indexes.{leaves_good}
use Rattle.merged.proofs.Making.{merged_some}
use Rattle.merge.specs.Words.{every_word, with_term, Merging}
use Rattle.merge.specs.Terms.{LeastTaken, WordTaken, StoredFrame, WordAdded, LeafMerged, Stands, Going, OfLeaves, Steps, RivalIs, LoneStepped, Runs, Rounds, TermsPut}
use Rattle.merge.specs.declared.words.Taken.{Taken}
use Rattle.merge.specs.declared.words.Stored.{Stored}
use Rattle.merge.specs.declared.words.Stepped.{Stepped}
use Rattle.merge.specs.declared.words.LoneStep.{LoneStep}
use Rattle.merge.specs.declared.words.Run.{Run}
use Rattle.merge.specs.declared.words.Round.{Round}
use Rattle.merge.proofs.Every.{every_left}
use Rattle.merge.proofs.Merging.{merging_leaves, merging_step, merging_end}
use Rattle.merge.proofs.Counting.{fewer_left, few_words}
use Rattle.merge.proofs.Capping.{merging_shorter}

-- ---- the end

-- nothing is left: the terms are the merge
whole : {keep : Bool} {count : ℕ} {index : List (List Term)} {room after : List ℕ} {ts : List Term} {at : ℕ} → Merged keep count index ts → at ≡ length (encode_terms [] ts) → (at ≤ length room → after ≡ over (encode_terms [] ts) room)
    → LeafMerged keep count index room after at
whole {room = room} {ts = ts} f e w = record {
  terms = ts;
  merged = f;
  size = inl (e ∙ sym (ap length (leaf_terms ts)));
  bytes = λ fits small. w (omega (arith, ap length (leaf_terms ts))) ∙ ap (λ (x : List ℕ). over x room) (sym (leaf_terms ts));
}

-- what is written is too large: so is the merge
too_large : {keep : Bool} {count : ℕ} {bytes ends order : List ℕ} {index left : List (List Term)} {last room after : List ℕ} {ts : List Term} {at : ℕ}
    → LeavesAre count bytes ends order index → Merging keep count index left last ts → (max_index_bytes < at) × (max_index_bytes < length (encode_terms [] ts))
    → LeafMerged keep count index room after at
too_large {keep = keep} {count} {bytes} {ends} {order} {index} l m full =
    let f = merged_some keep count index (leaves_good count (in_order [] (cut bytes ends) order) index l.are) in
    let k = merging_shorter m f.0 f.1 in
    record { terms = f.0; merged = f.1; size = inr (full.0, omega (arith, full.1)); bytes = λ fits small. absurd (omega (arith, full.1)) }

-- ---- a word

-- the next word of all leaves
module _ {text stops marks bytes ends order : List ℕ} {fronts : List Front} {before held : Arrays} {next : WordLists}
    (rooms : AsLong before) (places : max_leaves ≤ length before.docids)
    (takes : TakesWord text stops marks 1 bytes ends order fronts before held next) where
  abbrev taken : Taken
  taken =
      record {
        next = next;
        lists = record { docids = held.docids; bodies = held.bodies; lasts = held.lasts; masks = held.masks; follows = held.follows; n = next.n };
      }

  pub every_taken : WordTaken text stops marks bytes ends order fronts taken
  every_taken = record {
    content = λ count index left is l f placed.
        ⊎_elim
        (λ n. inl n)
        (λ t.
        let mask : ℕ = mask_of every_word (word_of next) in
        let lists : List (List Entry) = head_lists (word_of next) left in
        inr (record {
          some_list = λ z. omega (arith, t.some, t.taken.hold.count, group_length mask 0 lists);
          least = t.least;
          some = t.some;
          fronts_are = t.taken.fronts_are;
          lists_are = record { small = l.small; hold = subst (HoldAll bytes held next.n) (sym (append-nil (group_cursors mask 0 lists))) t.taken.hold };
        }))
        (takes.content every_word count left is f (record { cuts = l.cuts; few = l.few; small = l.small; rooms = rooms }) placed (omega (arith, l.few)));
    placed = takes.placed;
    sized = takes.sized;
  }

-- ---- a step

-- the least word was taken, and the merge of its lists is added
module _ {keep : Bool} {bytes ends order : List ℕ} {count : ℕ} {index : List (List Term)} {most : ℕ} {base : List ℕ} {fronts : List Front} {stored : Stored} {room : List ℕ}
    (l : LeavesAre count bytes ends order index) (s : Stands keep count index bytes ends order most base fronts stored room) (taken : Taken) {after : List ℕ} {r : Stored} (t : LeastTaken count bytes ends order s.left taken)
    (placed : AllPlaced (length bytes) order taken.next.fronts) (added : WordAdded keep bytes stored taken.next.word taken.next.size taken.lists room after r) where
  pub word_on : Going keep count index bytes ends order (most - 1) base taken.next.fronts r after
  word_on =
      let w : List ℕ = word_of taken.next in
      let st = added.content (mask_of every_word w) (head_lists w s.left) s.terms t.lists_are s.before s.size in
      let m = merging_step s.merging w st.entries t.least t.some st.merged in
      record {
        goes_on = λ more.
            record {
              left = all_popped every_word w s.left;
              fewer = omega (arith, fewer_left w s.left t.some, s.fewer);
              placed = placed;
              fronts_are = t.fronts_are;
              last = w;
              terms = with_term w st.entries s.terms;
              merging = m;
              before = st.before more;
              size = st.size more;
              written = λ q. st.bytes more base s.written q;
            };
        ended = λ f. too_large l m (st.full f);
      }

module _ {keep : Bool} {text stops marks bytes ends order : List ℕ} {fronts : List Front} {stored : Stored} {taken : Taken} {room : List ℕ} (takes : WordTaken text stops marks bytes ends order fronts taken) where
  pub step_ends : taken.next.n ≡ 0 → stored.size ≤ max_word
      → Steps keep text stops marks bytes ends order fronts stored room room (record { fronts = taken.next.fronts; stored = record { word = stored.word; size = stored.size; at = stored.at; more = false } })
  step_ends z k = record {
    content = λ count index most base o s.
        record {
          goes_on = λ f. false_not_true f;
          ended = λ _.
              ⊎_elim
              (λ n. whole (merging_end s.merging n.empty) s.size s.written)
              (λ t. absurd (t.some_list z))
              (takes.content count index s.left o.every o.leaves s.fronts_are s.placed);
        };
    frame = record { sized = k; small = λ f. false_not_true f };
  }

  pub step_on : {after : List ℕ} {r : Stored} → (taken.next.n ≡ 0 → ⊥) → WordAdded keep bytes stored taken.next.word taken.next.size taken.lists room after r
      → Steps keep text stops marks bytes ends order fronts stored room after (record { fronts = taken.next.fronts; stored = r })
  step_on nz added = record {
    content = λ count index most base o s.
        ⊎_elim
        (λ n. absurd (nz n.none))
        (λ t. word_on o.leaves s taken t (takes.placed s.placed) added)
        (takes.content count index s.left o.every o.leaves s.fronts_are s.placed);
    frame = added.frame;
  }

-- ---- a leaf that goes on alone

placed_lead : (size : ℕ) (order : List ℕ) (fronts : List Front) (a b : Lead) → b.at ≡ a.at → (a.at < length fronts) → Placed size b.front → AllPlaced size order (with_lead fronts a) → AllPlaced size order (with_lead fronts b)
placed_lead size order fronts a b e h p all j i =
    same_or j a.at
    (λ q.
    subst (λ (k : ℕ). Placed size (front_at (with_lead fronts b) k)) (e ∙ sym q)
    (subst (Placed size) (sym (get_or-set_same fronts b.at b.front no_front (omega arith))) p))
    (λ ne.
    subst (Placed size) (get_or-set_other fronts a.at j a.front no_front ne ∙ sym (get_or-set_other fronts b.at j b.front no_front (λ q. ne (q ∙ e)))) (all j i))

module _ {text stops marks bytes ends order : List ℕ} {lead : Lead} {before held : Arrays} {lone : Lone} (takes : AloneTaken text stops marks 1 bytes ends order lead before held lone) where
  -- what was taken, as a word of all leaves
  abbrev as_taken : List Front → Taken
  as_taken fronts =
      record {
        next = record { fronts = with_lead fronts lone.lead; n = 1; word = lone.word; size = lone.size };
        lists = record { docids = held.docids; bodies = held.bodies; lasts = held.lasts; masks = held.masks; follows = held.follows; n = 1 };
      }

  alone_least : (count : ℕ) (index left : List (List Term)) (fronts : List Front) → OfLeaves text stops marks bytes ends order count index → RivalIs order fronts lead
      → FrontsAre every_word count bytes ends order (with_lead fronts lead) left → LeastTaken count bytes ends order left (as_taken fronts)
  alone_least count index left fronts o rival are =
      let t = takes.content every_word count fronts left o.every rival.0 are rival.1 in
      let w : List ℕ = word_of (as_taken fronts).next in
      record {
        some_list = λ z. omega arith;
        least = t.least;
        some = t.some;
        fronts_are = t.taken.fronts_are;
        lists_are = record { small = o.leaves.small; hold = subst (HoldAll bytes held 1) (sym (append-nil (group_cursors (mask_of every_word w) 0 (head_lists w left)))) t.taken.hold };
      }

  pub lone_on : {keep : Bool} {stored : Stored} {room after : List ℕ} {r : Stored}
      → WordAdded keep bytes stored lone.word lone.size (record { docids = held.docids; bodies = held.bodies; lasts = held.lasts; masks = held.masks; follows = held.follows; n = 1 }) room after r
      → LoneStepped keep text stops marks bytes ends order lead stored room after (record { lead = lone.lead; stored = r })
  lone_on added = record {
    content = λ count index most base fronts o rival s.
        let k = takes.alone in
        word_on o.leaves s (as_taken fronts) (alone_least count index s.left fronts o rival s.fronts_are)
        (placed_lead (length bytes) order fronts lead lone.lead takes.lead_at (omega (arith, k.leaf, k.able.1, rival.0)) (takes.placed k.placed) s.placed)
        added;
    lead_at = takes.lead_at;
    lead_rival = takes.lead_rival;
    frame = added.frame;
  }

-- the rival stays
rival_stays : (order : List ℕ) (fronts : List Front) (a b : Lead) → b.at ≡ a.at → b.rival ≡ a.rival → RivalIs order fronts a → RivalIs order fronts b
rival_stays order fronts a b e q r =
    (r.0, subst (λ (k : ℕ). Foremost fronts (length order) k b.rival) (sym e) (subst (Foremost fronts (length order) a.at) (sym q) r.1))

-- what the loop of a leaf that goes on alone knows
pub record Alone (keep : Bool) (text stops marks bytes ends order : List ℕ) (first : Lead) (from : Stored) (most : ℕ) (room : List ℕ) (lead : Lead) (stored : Stored) (left : ℕ) (after : List ℕ) : Type 0 where
  pub room_size : length after ≡ length room
  pub lead_at : lead.at ≡ first.at
  pub lead_rival : lead.rival ≡ first.rival
  pub runs : Runs keep text stops marks bytes ends order first from most room after (record { lead = lead; stored = stored; left = left })

module _ {keep : Bool} {text stops marks bytes ends order : List ℕ} {first : Lead} {from : Stored} {most : ℕ} {room : List ℕ} where
  pub alone_start : StoredFrame from → Alone keep text stops marks bytes ends order first from most room first from most room
  alone_start f = record { room_size = refl; lead_at = refl; lead_rival = refl; runs = record { content = λ count index base fronts o rival g. g; few = omega arith; frame = f } }

  module _ {lead : Lead} {stored : Stored} {left : ℕ} {now after : List ℕ} (a : Alone keep text stops marks bytes ends order first from most room lead stored left now) where
    pub alone_on : {r : LoneStep} → length after ≡ length now → LoneStepped keep text stops marks bytes ends order lead stored now after r → stored.more ≡ true
        → Alone keep text stops marks bytes ends order first from most room r.lead r.stored (left - 1) after
    alone_on size s more = record {
      room_size = size ∙ a.room_size;
      lead_at = s.lead_at ∙ a.lead_at;
      lead_rival = s.lead_rival ∙ a.lead_rival;
      runs =
          record {
            content = λ count index base fronts o rival g.
                s.content count index left base fronts o (rival_stays order fronts first lead a.lead_at a.lead_rival rival) ((a.runs.content count index base fronts o rival g).goes_on more);
            few = omega (arith, a.runs.few);
            frame = s.frame;
          };
    }

    -- no word was taken
    pub alone_out : after ≡ now → Runs keep text stops marks bytes ends order first from most room after (record { lead = lead; stored = stored; left = left })
    alone_out e = subst (λ (x : List ℕ). Runs keep text stops marks bytes ends order first from most room x (record { lead = lead; stored = stored; left = left })) (sym e) a.runs

-- ---- a round

module _ {keep : Bool} {text stops marks bytes ends order : List ℕ} {fronts : List Front} {stored : Stored} {left : ℕ} {room : List ℕ} {lead : Lead} (of : LeadOf fronts (length order) (length bytes) lead) (more : stored.more ≡ true)
    {now : List ℕ} {ran : Run} (runs : Runs keep text stops marks bytes ends order lead stored left room now ran) {rest : List Front} (same : rest ≡ with_lead fronts ran.lead) where
  ran_on : (count : ℕ) (index : List (List Term)) (base : List ℕ) → OfLeaves text stops marks bytes ends order count index → Going keep count index bytes ends order left base fronts stored room
      → Going keep count index bytes ends order ran.left base rest ran.stored now
  ran_on count index base o g =
      let s = g.goes_on more in
      let is = of.content o.leaves.few s.placed in
      subst (λ (fs : List Front). Going keep count index bytes ends order ran.left base fs ran.stored now) (sym same)
      (runs.content count index base fronts o (of.places, is.rival_first) (subst (λ (fs : List Front). Going keep count index bytes ends order left base fs stored room) (sym is.here) g))

  pub round_ran : ran.left < left → Rounds keep text stops marks bytes ends order fronts stored left room now (record { fronts = rest; stored = ran.stored; left = ran.left })
  round_ran h = record { content = ran_on; fewer = h; frame = runs.frame }

  -- it is whole
  pub round_ends : 0 < left → ran.stored.more ≡ false → Rounds keep text stops marks bytes ends order fronts stored left room now (record { fronts = rest; stored = ran.stored; left = 0 })
  round_ends h e = record {
    content = λ count index base o g. record { goes_on = λ m. false_not_true (sym e ∙ m); ended = (ran_on count index base o g).ended };
    fewer = h;
    frame = runs.frame;
  }

  pub round_steps : {after : List ℕ} {r : Stepped} → 0 < left → ran.stored.more ≡ true → Steps keep text stops marks bytes ends order rest ran.stored now after r
      → Rounds keep text stops marks bytes ends order fronts stored left room after (record { fronts = r.fronts; stored = r.stored; left = ran.left - 1 })
  round_steps h m s = record {
    content = λ count index base o g. s.content count index ran.left base o ((ran_on count index base o g).goes_on m);
    fewer = omega (arith, runs.few);
    frame = s.frame;
  }

-- ---- the loop

-- what the loop knows, with `left` steps to go
pub record Looping (keep : Bool) (text stops marks bytes ends order room : List ℕ) (fronts : List Front) (stored : Stored) (left : ℕ) (after : List ℕ) : Type 0 where
  pub room_size : length after ≡ length room
  pub frame : StoredFrame stored
  pub content : (count : ℕ) (index : List (List Term)) → OfLeaves text stops marks bytes ends order count index → Going keep count index bytes ends order left room fronts stored after

module _ {keep : Bool} {text stops marks bytes ends order room : List ℕ} where
  -- before a word is taken
  pub loop_start : {fronts : List Front} (word : List ℕ) → Begins text stops marks 1 bytes ends order fronts
      → Looping keep text stops marks bytes ends order room fronts (record { word = word; size = 0; at = 0; more = true }) 65537 room
  loop_start {fronts} word b = record {
    room_size = refl;
    frame = record { sized = omega arith; small = λ _. omega arith };
    content = λ count index o.
        let l = o.leaves in
        record {
          goes_on = λ _.
              record {
                left = index;
                fewer = omega (arith, few_words l, l.small);
                placed = b.placed;
                fronts_are = subst (FrontsAre every_word count bytes ends order fronts) (every_left index) (b.content every_word count index o.every l);
                last = [];
                terms = [];
                merging = merging_leaves keep count bytes ends order index l;
                before = refl;
                size = refl;
                written = λ q. refl;
              };
          ended = λ f. false_not_true (sym f);
        };
  }

  module _ {fronts : List Front} {stored : Stored} {left : ℕ} {now : List ℕ} (g : Looping keep text stops marks bytes ends order room fronts stored left now) where
    -- some words more
    pub loop_on : {r : Round} {after : List ℕ} → length after ≡ length now → Rounds keep text stops marks bytes ends order fronts stored left now after r
        → Looping keep text stops marks bytes ends order room r.fronts r.stored r.left after
    loop_on size s = record {
      room_size = size ∙ g.room_size;
      frame = s.frame;
      content = λ count index o. s.content count index room o (g.content count index o);
    }

    module _ (every : TextIs text stops marks 1 every_word) where
      -- no step is left, but a word would be
      pub loop_out : stored.more ≡ true → left ≡ 0 → TermsPut keep bytes ends order room now stored.at
      loop_out more z count index l = absurd (omega (arith, ((g.content count index (record { every = every; leaves = l })).goes_on more).fewer))

      pub loop_ends : stored.more ≡ false → TermsPut keep bytes ends order room now stored.at
      loop_ends f count index l = (g.content count index (record { every = every; leaves = l })).ended f
