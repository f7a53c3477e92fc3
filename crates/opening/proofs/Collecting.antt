-- The pass on content: after each word that is taken the groups are those of the words taken so far, and what is left of
-- the leaves has every list of every other word that matches (`Collecting`). At its end the groups are all that a search
-- starts from (`collecting_end`).
use Rattle.std.specs.Prelude.{None}
use Prim.Native.Nat.{ℕ, ◌+◌, ◌*◌, ◌≤◌, ◌<◌}
use native.Mathlib.Omega.{arith}
use mathlib.Core.Path.{◌≡◌, refl, sym, ap, ap₂, ◌∙◌, subst}
use mathlib.Core.Logic.{◌⊎◌, inl, inr, ⊎_elim}
use mathlib.Core.List.Memᴰ
use mathlib.Core.List.{List, [], ◌∷◌, ◌++◌, map, append_assoc, append-nil, Memᴰ}
use lib.ListN.{length, get_or, length-append}
use Rattle.common.proofs.Same.{same_case}
use Rattle.common.proofs.Lists.{map_append}
use Rattle.doclist.specs.Doclist.{Entry}
use Rattle.leaf.specs.Leaf.{Term}
use Rattle.lexer.specs.Token.{Node}
use Rattle.cursors.specs.Groups.{Group}
use Rattle.cursors.specs.Arrays.{Cursor, group_cursors, cursors}
use Rattle.cursors.proofs.Each.{group_length}
use Rattle.opening.specs.Matching.{mask_of}
use Rattle.opening.specs.Opening.{LeavesAre, lists_of, group_of, lists_size, groups_size, GroupsOf, word_size, Arrays, Opened}
use Rattle.opening.specs.Fronts.{FrontsAre, Least, LeastIs, HoldAll, WordTaken, front_word, front_at, all_popped, head_lists, all_skipped}
use Rattle.opening.specs.declared.Front.{Front}
use Rattle.opening.specs.declared.Opening.{Opening}
use Rattle.opening.specs.Walking.{AllNoneBefore}
use Rattle.opening.proofs.Words.{lists_total, leaves_total, skipped_keeps, skipped_total, lists_are, taken_none, taken_keeps, taken_total, lists_none}
use Rattle.opening.proofs.Room.{one, list_size, words_fit, lists_fit}
use Rattle.opening.proofs.Leading.{none_left, least_first, least_matched, some_list}

-- ---- groups one after the other

abbrev pub groups_total : (List Entry → ℕ) → List Group → ℕ
groups_total weight [] = 0
groups_total weight (g ∷ gs) = lists_total weight g.lists + groups_total weight gs

lists_size_lem : (ls : List (List Entry)) → lists_size ls ≡ lists_total list_size ls
lists_size_lem [] = refl
lists_size_lem (l ∷ ls) = ap (λ (n : ℕ). list_size l + n) (lists_size_lem ls)

groups_size_lem : (gs : List Group) → groups_size gs ≡ groups_total list_size gs
groups_size_lem [] = refl
groups_size_lem (g ∷ gs) = ap₂ (λ (a b : ℕ). a + b) (lists_size_lem g.lists) (groups_size_lem gs)

total_more : (weight : List Entry → ℕ) (gs : List Group) (g : Group) → groups_total weight (gs ++ (g ∷ [])) ≡ groups_total weight gs + lists_total weight g.lists
total_more weight [] g = omega arith
total_more weight (x ∷ gs) g = let h = total_more weight gs g in omega arith

pub cursors_more : (gs : List Group) (g : Group) → cursors (gs ++ (g ∷ [])) ≡ cursors gs ++ group_cursors g.mask 0 g.lists
cursors_more [] g = append-nil (group_cursors g.mask 0 g.lists)
cursors_more (x ∷ gs) g =
    ap (λ (l : List Cursor). group_cursors x.mask 0 x.lists ++ l) (cursors_more gs g)
    ∙ sym (append_assoc (group_cursors x.mask 0 x.lists) (cursors gs) (group_cursors g.mask 0 g.lists))

-- ---- the pass

pub record Collecting (nodes : List Node) (leaves left : List (List Term)) (groups : List Group) : Type 0 where
  pub words : List (List ℕ)
  pub are : groups ≡ map (group_of nodes leaves) words
  pub some : (word : List ℕ) → Memᴰ word words → (mask_of nodes word ≡ 0 → ⊥) × (lists_of word leaves ≡ [] → ⊥)
  pub kept : (word : List ℕ) → (mask_of nodes word ≡ 0 → ⊥) → (Memᴰ word words × (lists_of word left ≡ [])) ⊎ (lists_of word leaves ≡ lists_of word left)
  pub total : (weight : List Entry → ℕ) → groups_total weight groups + leaves_total weight left ≤ leaves_total weight leaves

pub collecting_start : (nodes : List Node) (leaves : List (List Term)) → Collecting nodes leaves (all_skipped nodes leaves) []
collecting_start nodes leaves =
    record {
      words = [];
      are = refl;
      some = λ word m. absurd (Memᴰ.not-nil m);
      kept = λ word m. inr (sym (skipped_keeps nodes word m leaves));
      total = λ weight. omega (arith, skipped_total nodes weight leaves);
    }

module _ {nodes : List Node} {leaves left : List (List Term)} {groups : List Group} (columns : ℕ) (word : List ℕ) (m : Collecting nodes leaves left groups)
    (none : AllNoneBefore columns word left) (matched : mask_of nodes word ≡ 0 → ⊥) (found : head_lists word left ≡ [] → ⊥) where
  -- the lists in front are all that the word has
  all_lists : lists_of word leaves ≡ head_lists word left
  all_lists =
      ⊎_elim
      (λ h. absurd (found (sym (lists_are nodes columns word left none) ∙ h.1)))
      (λ h. h ∙ lists_are nodes columns word left none)
      (m.kept word matched)

  pub collecting_more : Collecting nodes leaves (all_popped nodes word left) (groups ++ (record { mask = mask_of nodes word; lists = head_lists word left } ∷ []))
  collecting_more =
      record {
        words = m.words ++ (word ∷ []);
        are =
            ap₂ (λ (gs : List Group) (ls : List (List Entry)). gs ++ (record { mask = mask_of nodes word; lists = ls } ∷ [])) m.are (sym all_lists)
            ∙ sym (map_append (group_of nodes leaves) m.words (word ∷ []));
        some = λ v h.
            ⊎_elim
            (λ k. m.some v k)
            (λ k.
            let q = Memᴰ.eq_of_singleton k in
            (λ z. matched (ap (mask_of nodes) (sym q) ∙ z), λ z. found (sym all_lists ∙ ap (λ (w : List ℕ). lists_of w leaves) (sym q) ∙ z)))
            (Memᴰ.append_cases m.words h);
        kept = λ v h.
            same_case v word
            (λ q.
            inl (
              Memᴰ.append_right m.words (Memᴰ.head q),
              ap (λ (w : List ℕ). lists_of w (all_popped nodes word left)) q ∙ taken_none nodes columns word left none,
            ))
            (λ q.
            let k = taken_keeps nodes columns word v q h left in
            ⊎_elim
            (λ y. inl (Memᴰ.append_left (word ∷ []) y.0, k ∙ y.1))
            (λ y. inr (y ∙ sym k))
            (m.kept v h));
        total = λ weight. omega (arith, m.total weight, taken_total nodes columns word weight left, total_more weight groups (record { mask = mask_of nodes word; lists = head_lists word left }));
      }

pub collecting_end : {nodes : List Node} {columns : ℕ} {bytes ends order : List ℕ} {leaves left : List (List Term)} {groups : List Group}
    → LeavesAre columns bytes ends order leaves → ((j : ℕ) → j < length left → get_or left j [] ≡ []) → Collecting nodes leaves left groups → GroupsOf nodes leaves (length bytes) groups
collecting_end {left = left} {groups = groups} h e m =
    record {
      words = m.words;
      are = m.are;
      every = λ word k f.
          ⊎_elim
          (λ y. y.0)
          (λ y. absurd (f (y ∙ lists_none word left e)))
          (m.kept word k);
      some = m.some;
      small = omega (arith, groups_size_lem groups, m.total list_size, lists_fit h);
    }

-- ---- how many cursors

pub lists_one : (ls : List (List Entry)) → lists_total one ls ≡ length ls
lists_one [] = refl
lists_one (l ∷ ls) = let h = lists_one ls in omega arith

cursors_count : (gs : List Group) → length (cursors gs) ≡ groups_total one gs
cursors_count [] = refl
cursors_count (g ∷ gs) =
    let h = cursors_count gs in
    omega (arith, length-append (group_cursors g.mask 0 g.lists) (cursors gs), group_length g.mask 0 g.lists, lists_one g.lists)

-- ---- the loop

-- the arrays hold the cursors of the words that were taken
pub record OpenSoFar (nodes : List Node) (columns : ℕ) (leaves : List (List Term)) (bytes ends order : List ℕ) (fronts : List Front) (a : Arrays) (n : ℕ) : Type 0 where
  pub groups : List Group
  pub left : List (List Term)
  pub fronts_are : FrontsAre nodes columns bytes ends order fronts left
  pub hold : HoldAll bytes a n (cursors groups)
  pub collecting : Collecting nodes leaves left groups

pub going_start : {nodes : List Node} {columns : ℕ} {leaves : List (List Term)} {bytes ends order : List ℕ} {fronts : List Front} (a : Arrays)
    → FrontsAre nodes columns bytes ends order fronts (all_skipped nodes leaves) → OpenSoFar nodes columns leaves bytes ends order fronts a 0
going_start {nodes} {leaves = leaves} a f =
    record {
      groups = [];
      left = all_skipped nodes leaves;
      fronts_are = f;
      hold =
          record {
            count = refl;
            room = record { docid_room = omega arith; body_room = omega arith; last_room = omega arith; mask_room = omega arith; follow_room = omega arith };
            each = λ k z. absurd (omega arith);
          };
      collecting = collecting_start nodes leaves;
    }

module _ (nodes : List Node) (columns : ℕ) (leaves : List (List Term)) (bytes ends order : List ℕ) (fronts : List Front) (a : Arrays) (n : ℕ)
    (g : OpenSoFar nodes columns leaves bytes ends order fronts a n) where
  -- no front has a word: all is taken
  pub going_end : LeavesAre columns bytes ends order leaves → LeastIs fronts (length order) None → Opened nodes leaves bytes a.docids a.bodies a.lasts a.masks a.follows n
  going_end h none =
      record {
        groups = g.groups;
        groups_are = collecting_end h (none_left nodes columns bytes ends order fronts g.left g.fronts_are none) g.collecting;
        cursors_are = record { small = h.small; hold = g.hold };
      }

  module _ (best : ℕ) (l : Least fronts (length order) best) where
    -- the arrays have room for the word's lists; when they are written, there are more cursors than before
    pub going_next : (a' : Arrays) (r : Opening) → LeavesAre columns bytes ends order leaves → length bytes < word_size * (length a.docids + 1)
        → ((left : List (List Term)) (cs : List Cursor) → FrontsAre nodes columns bytes ends order fronts left → HoldAll bytes a n cs
        → n + length (head_lists (front_word (front_at fronts best)) left) ≤ length a.docids → WordTaken nodes columns (front_word (front_at fronts best)) bytes ends order a' left cs r)
        → (n < r.n) × OpenSoFar nodes columns leaves bytes ends order r.fronts a' r.n
    going_next a' r h s take =
        let w : List ℕ = front_word (front_at fronts best) in
        let ls : List (List Entry) = head_lists w g.left in
        let x : Group = record { mask = mask_of nodes w; lists = ls } in
        let t = take g.left (cursors g.groups) g.fronts_are g.hold
        (omega (arith, g.hold.count, cursors_count g.groups, g.collecting.total one, taken_total nodes columns w one g.left, lists_one ls, words_fit h)) in (
          omega (arith, some_list nodes columns bytes ends order fronts g.left g.fronts_are best l, g.hold.count, t.hold.count, length-append (cursors g.groups) (group_cursors (mask_of nodes w) 0 ls), group_length (mask_of nodes w) 0 ls),
          record {
            groups = g.groups ++ (x ∷ []);
            left = all_popped nodes w g.left;
            fronts_are = t.fronts_are;
            hold = subst (HoldAll bytes a' r.n) (sym (cursors_more g.groups x)) t.hold;
            collecting = collecting_more columns w g.collecting (least_first nodes columns bytes ends order fronts g.left g.fronts_are best l) (least_matched nodes columns bytes ends order fronts g.left g.fronts_are best l) (λ q. omega (arith, some_list nodes columns bytes ends order fronts g.left g.fronts_are best l, ap length q));
          },
        )
