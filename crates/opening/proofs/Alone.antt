-- A word that one leaf alone has: the lead's, where it comes before the rival's. It is the least (`alone_least`), no other front has it, and the
-- pass over all leaves takes it from this one only (`alone_taken`).
use Rattle.std.specs.Prelude.{None}
use Prim.Native.Nat.{ℕ, zero, suc, ◌+◌, ◌-◌, ◌≤◌, ◌<◌}
use native.Mathlib.Omega.{arith}
use mathlib.Core.Path.{◌≡◌, sym, ap, ◌∙◌, subst}
use mathlib.Core.Bool.{true, false}
use mathlib.Core.List.{List, []}
use lib.ListN.{length, set, length-set}
use lib.Seq.{get_or-set_same, get_or-set_other, set-get_or, set_out, set-set}
use Rattle.common.specs.Bounds.{max_leaves}
use Rattle.common.proofs.Cases.{bool_case, same_or}
use Rattle.offsets.specs.Cut.{Cuts}
use Rattle.leaf.specs.Leaf.{Term, Before}
use Rattle.leaf.specs.Rest.{RestIs}
use Rattle.leaf.proofs.Words.{before_irrefl, before_trans}
use Rattle.lexer.specs.Token.{Node}
use Rattle.cursors.specs.Arrays.{Cursor}
use Rattle.opening.specs.Opening.{Arrays}
use Rattle.opening.specs.Fronts.{front_word, skip_to, FrontIs, is_earlier, has_word, front_at, no_front, Least, LeastIs, head_lists, leaf_at, base_at, FrontsAre, HasPlace, with_cursor, WordTaken}
use Rattle.opening.specs.Walking.{AllNoneBefore, LeastTaken, with_lead, Foremost, LeadIs}
use Rattle.opening.specs.declared.Front.{Front}
use Rattle.opening.specs.declared.Lead.{Lead}
use Rattle.opening.proofs.Choosing.{earlier_some, earlier_before}
use Rattle.opening.proofs.Framing.{has_mask}
use Rattle.opening.proofs.Leading.{least_first, some_list}
use Rattle.opening.proofs.Taking.{Taking, has_same, has_not, taking_start, taking_other, taking_this, taking_end}
use Rattle.opening.proofs.Walks.{hold_none}

-- ---- over leaves whose fronts have another word

module _ (nodes : List Node) (columns : ℕ) (bytes ends order : List ℕ) (left : List (List Term)) (cs : List Cursor) (a : Arrays) (fronts : List Front) (n follow : ℕ) (front : Front) where
  passed_over : (k j : ℕ) → j + k ≤ length order → ((i : ℕ) → j ≤ i → i < j + k → has_word (front_at fronts i) front ≡ false)
      → Taking nodes columns (front_word front) bytes ends order left cs a fronts n follow j → Taking nodes columns (front_word front) bytes ends order left cs a fronts n follow (j + k)
  passed_over zero j h none t = subst (Taking nodes columns (front_word front) bytes ends order left cs a fronts n follow) (omega arith) t
  passed_over (suc k) j h none t =
      subst (Taking nodes columns (front_word front) bytes ends order left cs a fronts n follow) (omega arith)
      (passed_over k (j + 1) (omega arith) (λ i l z. none i (omega arith) (omega arith))
      (taking_other nodes columns bytes ends order left cs a fronts n follow j front (omega arith) t (none j (omega arith) (omega arith))))

-- ---- the lead's word

module _ (fronts : List Front) (m : ℕ) (lead : Lead) (inside : lead.at < m) (long : m ≤ length fronts) (e : is_earlier lead.front lead.rival ≡ true) (rival : Foremost fronts m lead.at lead.rival) where
  abbrev all : List Front
  all = with_lead fronts lead

  at_lead : front_at all lead.at ≡ lead.front
  at_lead = get_or-set_same fronts lead.at lead.front no_front (omega arith)

  at_other : (j : ℕ) → (j ≡ lead.at → ⊥) → front_at all j ≡ front_at fronts j
  at_other j ne = get_or-set_other fronts lead.at j lead.front no_front ne

  some : lead.front.mask ≡ 0 → ⊥
  some = earlier_some lead.front lead.rival e

  -- another front's word does not come before, nor is it the same
  other_after : (j : ℕ) → j < m → (j ≡ lead.at → ⊥) → ((front_at fronts j).mask ≡ 0 → ⊥) → Before (front_word lead.front) (front_word lead.rival)
  other_after j h ne s = earlier_before lead.front lead.rival e (rival.each j h ne s).0

  pub alone_least : Least all m lead.at
  alone_least =
      record {
        within = inside;
        some = λ z. some (ap (λ (f : Front). f.mask) (sym at_lead) ∙ z);
        least = λ j h s b.
            same_or j lead.at
            (λ q. before_irrefl (front_word lead.front) (subst (λ (f : Front). Before (front_word f) (front_word lead.front)) (ap (front_at all) q ∙ at_lead) (subst (λ (f : Front). Before (front_word (front_at all j)) (front_word f)) at_lead b)))
            (λ ne.
            let o = at_other j ne in
            let s' : (front_at fronts j).mask ≡ 0 → ⊥ = λ z. s (ap (λ (f : Front). f.mask) o ∙ z) in
            let b' : Before (front_word (front_at fronts j)) (front_word lead.front) = subst (λ (f : Front). Before (front_word f) (front_word lead.front)) o (subst (λ (f : Front). Before (front_word (front_at all j)) (front_word f)) at_lead b) in
            (rival.each j h ne s').1 (before_trans (front_word (front_at fronts j)) (front_word lead.front) (front_word lead.rival) b' (other_after j h ne s')));
      }

  other_not : (j : ℕ) → j < m → (j ≡ lead.at → ⊥) → has_word (front_at fronts j) lead.front ≡ false
  other_not j h ne =
      bool_case (has_word (front_at fronts j) lead.front)
      (λ t.
      let s = has_mask (front_at fronts j) lead.front t in
      absurd ((rival.each j h ne s).1 (subst (λ (w : List ℕ). Before w (front_word lead.rival)) (has_same (front_at fronts j) lead.front t) (other_after j h ne s))))
      (λ f. f)

  lead_has : has_word (front_at all lead.at) lead.front ≡ true
  lead_has =
      bool_case (has_word (front_at all lead.at) lead.front) (λ t. t)
      (λ f. absurd (has_not (front_at all lead.at) lead.front f (λ z. some (ap (λ (g : Front). g.mask) (sym at_lead) ∙ z)) (ap front_word (sym at_lead))))

  module _ (nodes : List Node) (columns : ℕ) (bytes ends order : List ℕ) (left : List (List Term)) (same_count : length order ≡ m) (are : FrontsAre nodes columns bytes ends order all left)
      (cuts : Cuts bytes ends) (before : Arrays) (place : HasPlace before 0) (next : Front)
      (seeks : (ts : List Term) → RestIs columns (leaf_at bytes ends order lead.at) lead.front.next (front_word lead.front) ts [] → FrontIs nodes columns (leaf_at bytes ends order lead.at) (base_at ends order lead.at) next (skip_to nodes ts)) where
    abbrev after : Arrays
    after = with_cursor before 0 lead.front 0

    abbrev moved : List Front
    moved = set all lead.at next

    -- the pass over the leaves up to the lead, over the lead, and over the others
    to_lead : Taking nodes columns (front_word lead.front) bytes ends order left [] before all 0 0 lead.at
    to_lead =
        subst (Taking nodes columns (front_word lead.front) bytes ends order left [] before all 0 0) (omega arith)
        (passed_over nodes columns bytes ends order left [] before all 0 0 lead.front lead.at 0 (omega arith)
        (λ i _ z. let ne : i ≡ lead.at → ⊥ = λ (q : i ≡ lead.at). omega arith in ap (λ (f : Front). has_word f lead.front) (at_other i ne) ∙ other_not i (omega arith) ne)
        (taking_start (front_word lead.front) are (hold_none bytes before)))

    over_lead : Taking nodes columns (front_word lead.front) bytes ends order left [] after moved 1 1 (lead.at + 1)
    over_lead =
        taking_this nodes columns bytes ends order left [] before all 0 0 lead.at lead.front (omega arith) to_lead next cuts lead_has place (omega (arith, length-set fronts lead.at lead.front))
        (λ ts r. seeks ts (subst (λ (f : Front). RestIs columns (leaf_at bytes ends order lead.at) f.next (front_word f) ts []) at_lead r))
        (ap (λ (f : Front). with_cursor before 0 f 0) (sym at_lead))

    over_all : Taking nodes columns (front_word lead.front) bytes ends order left [] after moved 1 1 (lead.at + 1 + (m - (lead.at + 1)))
    over_all =
        passed_over nodes columns bytes ends order left [] after moved 1 1 lead.front (m - (lead.at + 1)) (lead.at + 1) (omega arith)
        (λ i l z.
        let ne : i ≡ lead.at → ⊥ = λ (q : i ≡ lead.at). omega arith in
        ap (λ (f : Front). has_word f lead.front) (get_or-set_other all lead.at i next no_front ne ∙ at_other i ne) ∙ other_not i (omega arith) ne)
        over_lead

    pub alone_taken : LeastTaken nodes columns bytes ends order after left (record { fronts = set fronts lead.at next; n = 1; word = lead.front.word; size = lead.front.size })
    alone_taken =
        let l = subst (λ (k : ℕ). Least all k lead.at) (sym same_count) alone_least in
        record {
          least = subst (λ (f : Front). AllNoneBefore columns (front_word f) left) at_lead (least_first nodes columns bytes ends order all left are lead.at l);
          some = subst (λ (f : Front). 0 < length (head_lists (front_word f) left)) at_lead (some_list nodes columns bytes ends order all left are lead.at l);
          taken =
              subst (λ (fs : List Front). WordTaken nodes columns (front_word lead.front) bytes ends order after left [] (record { fronts = fs; n = 1 }))
              (set-set fronts lead.at lead.front next)
              (taking_end (lead.at + 1 + (m - (lead.at + 1))) (omega arith) over_all);
        }

-- ---- the lead of all leaves

module _ (fronts : List Front) (m : ℕ) (none : Front) (z : none.mask ≡ 0) where
  pub lead_nobody : length fronts ≡ max_leaves → LeastIs fronts m None → LeadIs fronts m (record { at = max_leaves; front = none; rival = none })
  lead_nobody long h =
      record {
        here = set_out fronts max_leaves none (omega arith);
        first = record { each = λ j i _ s. absurd (s (h j i)) };
        rival_first = record { each = λ j i _ s. absurd (s (h j i)) };
        rival_one = λ s. absurd (s z);
      }

  module _ (at : ℕ) (l : Least fronts m at) (long : m ≤ length fronts) where
    first_of : Foremost fronts m m (front_at fronts at)
    first_of = record { each = λ j i _ s. (l.some, l.least j i s) }

    others_at : (j : ℕ) → (j ≡ at → ⊥) → front_at (set fronts at none) j ≡ front_at fronts j
    others_at j ne = get_or-set_other fronts at j none no_front ne

    pub lead_only : LeastIs (set fronts at none) m None → LeadIs fronts m (record { at = at; front = front_at fronts at; rival = none })
    lead_only k =
        record {
          here = set-get_or fronts at no_front;
          first = first_of;
          rival_first = record { each = λ j i ne s. absurd (s (ap (λ (f : Front). f.mask) (sym (others_at j ne)) ∙ k j i)) };
          rival_one = λ s. absurd (s z);
        }

    pub lead_and_rival : (second : ℕ) → Least (set fronts at none) m second → LeadIs fronts m (record { at = at; front = front_at fronts at; rival = front_at (set fronts at none) second })
    lead_and_rival second l₂ =
        let ne : second ≡ at → ⊥ = λ q. l₂.some (ap (λ (f : Front). f.mask) (ap (front_at (set fronts at none)) q ∙ get_or-set_same fronts at none no_front (omega (arith, l.within))) ∙ z) in
        record {
          here = set-get_or fronts at no_front;
          first = first_of;
          rival_first =
              record {
                each = λ j i ne s.
                    let o = others_at j ne in (
                      l₂.some,
                      λ b. l₂.least j i (λ y. s (ap (λ (f : Front). f.mask) (sym o) ∙ y)) (subst (λ (f : Front). Before (front_word f) (front_word (front_at (set fronts at none) second))) (sym o) b),
                    );
              };
          rival_one = λ _. (second, l₂.within, ne, others_at second ne);
        }
