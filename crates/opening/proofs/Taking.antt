-- The pass that takes a word from all fronts that have it: what holds when `j` leaves are passed (`Taking`), from the start
-- (`taking_start`) over a leaf whose front has another word (`taking_other`) or this one (`taking_this`) to the end
-- (`taking_end`).
use Prim.Native.Nat.{ℕ, zero, suc, ◌+◌, ◌≤◌, ◌<◌}
use native.Mathlib.Omega.{arith}
use native.Mathlib.Numerals.{add-one}
use mathlib.Core.Path.{◌≡◌, refl, sym, ap, ◌∙◌, subst}
use mathlib.Core.Logic.{inl, ⊎_elim}
use mathlib.Core.Bool.{true, false}
use mathlib.Core.List.{List, [], ◌∷◌, ◌++◌, append_assoc, append-nil}
use lib.ListN.{length, get_or, take, drop, set, length-append, length-set, get_or-append, get_or-eq_default}
use lib.Seq.{take-suc, take_all, drop-drop, drop-append-le, get_or-set_same, get_or-set_other, get_or_at, split_at}
use borrow.Author.Tests.{ne_eqb}
use Rattle.common.specs.Bytes.{same}
use Rattle.common.proofs.Cases.{split, same_or, bool_case, false_not_true}
use Rattle.common.proofs.Same.{same_true, same_refl}
use Rattle.offsets.specs.Cut.{Cuts, cut, start_of}
use Rattle.offsets.proofs.Cuts.{cut_here, cut_start, cut_end, cut_length}
use Rattle.offsets.proofs.CutSteps.{no_part}
use Rattle.doclist.specs.Doclist.{Entry}
use Rattle.leaf.specs.Leaf.{Term}
use Rattle.leaf.specs.Rest.{RestIs}
use Rattle.lexer.specs.Token.{Node}
use Rattle.cursors.specs.Arrays.{ListAt, Cursor, group_cursors, no_cursor, CursorAt}
use Rattle.cursors.proofs.Bodies.{last_inside}
use Rattle.cursors.proofs.Each.{group_length}
use Rattle.opening.specs.Matching.{mask_of}
use Rattle.opening.specs.Opening.{Arrays, AsLong, Openable, OpenFrame}
use Rattle.opening.specs.Fronts.{front_word, skip_to, Shows, FrontIs, has_word, front_at, no_front, Placed, popped, all_popped, head_for, head_lists, leaf_at, base_at, FrontsAre, Able, HasPlace, with_cursor, HoldAll, WordTaken}
use Rattle.opening.specs.declared.Front.{Front}
use Rattle.opening.proofs.Masks.{matches_law}
use Rattle.opening.proofs.Framing.{has_mask}

-- ---- from a leaf to all leaves

module _ (bytes ends : List ℕ) (cuts : Cuts bytes ends) (i : ℕ) where
  pub list_lifted : (es : List Entry) (docid body last : ℕ) → 0 < length es → ListAt (get_or (cut bytes ends) i []) es docid body last
      → ListAt bytes es docid (start_of ends i + body) (start_of ends i + last)
  list_lifted [] docid body last z l = absurd (omega arith)
  list_lifted (e ∷ rest) docid body last z l =
      let leaf : List ℕ = get_or (cut bytes ends) i [] in
      let tail : List ℕ = drop (get_or ends i 0) bytes in
      let k = last_inside l in
      -- there is such a leaf, as it has bytes
      let h : i < length ends = split i (length ends) (λ x. x) (λ x. absurd (omega (arith, k.0, k.1, ap length (no_part bytes ends i x)))) in
      record {
        after = l.after ++ tail;
        same = l.same;
        some = omega (arith, l.some);
        bytes =
            sym (drop-drop body (start_of ends i) bytes)
            ∙ ap (drop body) (cut_here bytes ends cuts i h)
            ∙ drop-append-le body leaf tail (omega (arith, k.0, k.1))
            ∙ ap (λ (s : List ℕ). s ++ tail) l.bytes
            ∙ simp append_assoc;
        ends = omega (arith, l.ends);
        limit = l.limit;
        good = l.good;
        later = l.later;
      }

-- ---- one more cursor

abbrev HoldAt : List ℕ → Arrays → ℕ → Cursor → Type 0
HoldAt bytes a = CursorAt bytes a.docids a.bodies a.lasts a.masks a.follows

module _ {bytes : List ℕ} {a : Arrays} {n : ℕ} {cs : List Cursor} (h : HoldAll bytes a n cs) (f : Front) (follow : ℕ) (c : Cursor) (place : HasPlace a n)
    (stands : ListAt bytes c.left f.docid f.body f.last) (mask : f.mask ≡ c.mask) (follows : follow ≡ c.follows) where
  pub hold_more : HoldAll bytes (with_cursor a n f follow) (n + 1) (cs ++ (c ∷ []))
  hold_more =
      record {
        count = omega (arith, h.count, length-append cs (c ∷ []));
        room =
            record {
              docid_room = rw length-set (omega (arith, place.0));
              body_room = rw length-set (omega (arith, place.1));
              last_room = rw length-set (omega (arith, place.2));
              mask_room = rw length-set (omega (arith, place.3));
              follow_room = rw length-set (omega (arith, place.4));
            };
        each = λ k z. split k n (old k) (λ y. this k (omega arith));
      }
    where
      old : (k : ℕ) → k < n → HoldAt bytes (with_cursor a n f follow) k (get_or (cs ++ (c ∷ [])) k no_cursor)
      old k z =
          let ne : k ≡ n → ⊥ = λ (q : k ≡ n). omega arith in
          let e = h.each k z in
          let l : List Entry = (get_or cs k no_cursor).left in
          subst (HoldAt bytes (with_cursor a n f follow) k)
          (sym (get_or-append cs (c ∷ []) no_cursor k (omega (arith, h.count))))
          (record {
            list =
                subst (λ (y : ℕ). ListAt bytes l y (get_or (set a.bodies n f.body) k 0) (get_or (set a.lasts n f.last) k 0)) (sym (get_or-set_other a.docids n k f.docid 0 ne))
                (subst (λ (y : ℕ). ListAt bytes l (get_or a.docids k 0) y (get_or (set a.lasts n f.last) k 0)) (sym (get_or-set_other a.bodies n k f.body 0 ne))
                (subst (ListAt bytes l (get_or a.docids k 0) (get_or a.bodies k 0)) (sym (get_or-set_other a.lasts n k f.last 0 ne)) e.list));
            mask = get_or-set_other a.masks n k f.mask 0 ne ∙ e.mask;
            follow = get_or-set_other a.follows n k follow 0 ne ∙ e.follow;
          })

      here : HoldAt bytes (with_cursor a n f follow) n c
      here =
          record {
            list =
                subst (λ (y : ℕ). ListAt bytes c.left y (get_or (set a.bodies n f.body) n 0) (get_or (set a.lasts n f.last) n 0)) (sym (get_or-set_same a.docids n f.docid 0 place.0))
                (subst (λ (y : ℕ). ListAt bytes c.left f.docid y (get_or (set a.lasts n f.last) n 0)) (sym (get_or-set_same a.bodies n f.body 0 place.1))
                (subst (ListAt bytes c.left f.docid f.body) (sym (get_or-set_same a.lasts n f.last 0 place.2)) stands));
            mask = get_or-set_same a.masks n f.mask 0 place.3 ∙ mask;
            follow = get_or-set_same a.follows n follow 0 place.4 ∙ follows;
          }

      this : (k : ℕ) → k ≡ n → HoldAt bytes (with_cursor a n f follow) k (get_or (cs ++ (c ∷ [])) k no_cursor)
      this k q =
          subst (λ (i : ℕ). HoldAt bytes (with_cursor a n f follow) i (get_or (cs ++ (c ∷ [])) i no_cursor)) (sym q)
          (subst (HoldAt bytes (with_cursor a n f follow) n) (sym (get_or_at cs c [] no_cursor n (sym h.count))) here)

-- ---- the lists of a word, leaf by leaf

heads_append : (w : List ℕ) (a b : List (List Term)) → head_lists w (a ++ b) ≡ head_lists w a ++ head_lists w b
heads_append w [] b = refl
heads_append w (ts ∷ a) b =
    ap (λ (l : List (List Entry)). head_for w ts ++ l) (heads_append w a b) ∙ sym (append_assoc (head_for w ts) (head_lists w a) (head_lists w b))

heads_next : (w : List ℕ) (left : List (List Term)) (j : ℕ) → j < length left
    → head_lists w (take (j + 1) left) ≡ head_lists w (take j left) ++ head_for w (get_or left j [])
heads_next w left j h =
    ap (λ (k : ℕ). head_lists w (take k left)) (add-one j)
    ∙ ap (head_lists w) (take-suc left j [] h)
    ∙ heads_append w (take j left) (get_or left j [] ∷ [])
    ∙ ap (λ (l : List (List Entry)). head_lists w (take j left) ++ l) (append-nil (head_for w (get_or left j [])))

pub heads_split : (w : List ℕ) (left : List (List Term)) (j : ℕ) → j < length left
    → length (head_lists w left) ≡ length (head_lists w (take j left)) + length (head_for w (get_or left j [])) + length (head_lists w (drop (suc j) left))
heads_split w left j h =
    ap (λ (l : List (List Term)). length (head_lists w l)) (split_at left j [] h)
    ∙ ap length (heads_append w (take j left) (get_or left j [] ∷ drop (suc j) left))
    ∙ simp length-append (omega arith)

-- whether a cursor follows others of its group
abbrev pub follow_of : ℕ → List (List Entry) → ℕ
follow_of f [] = f
follow_of f (l ∷ ls) = 1

follow_more : (f : ℕ) (ls : List (List Entry)) (l : List Entry) → follow_of f (ls ++ (l ∷ [])) ≡ 1
follow_more f [] l = refl
follow_more f (x ∷ ls) l = refl

group_more : (mask f : ℕ) (ls : List (List Entry)) (l : List Entry)
    → group_cursors mask f (ls ++ (l ∷ [])) ≡ group_cursors mask f ls ++ (record { mask = mask; follows = follow_of f ls; left = l } ∷ [])
group_more mask f [] l = refl
group_more mask f (x ∷ ls) l = ap (λ (cs : List Cursor). record { mask = mask; follows = f; left = x } ∷ cs) (group_more mask 1 ls l ∙ again ls)
  where
    again : (ls : List (List Entry))
        → group_cursors mask 1 ls ++ (record { mask = mask; follows = follow_of 1 ls; left = l } ∷ []) ≡ group_cursors mask 1 ls ++ (record { mask = mask; follows = 1; left = l } ∷ [])
    again [] = refl
    again (y ∷ ls) = refl

-- ---- whether a front has the word

pub has_same : (f g : Front) → has_word f g ≡ true → front_word g ≡ front_word f
has_same f g e =
    ⊎_elim
    (λ h. h.1)
    (λ h. false_not_true h.0)
    ((matches_law (record { bytes = front_word f; star = false }) (front_word g)).0 (sym (rw (ne_eqb f.mask 0 (has_mask f g e)) refl) ∙ e))

pub has_not : (f g : Front) → has_word f g ≡ false → (f.mask ≡ 0 → ⊥) → front_word g ≡ front_word f → ⊥
has_not f g e h q =
    false_not_true
    (sym e ∙ rw (ne_eqb f.mask 0 h) ((matches_law (record { bytes = front_word f; star = false }) (front_word g)).1 (inl (refl, q))))

module _ (nodes : List Node) (columns : ℕ) (leaf : List ℕ) (base : ℕ) (f g : Front) where
  -- the front has another word, or none
  front_not : (ts : List Term) → FrontIs nodes columns leaf base f ts → has_word f g ≡ false
      → (head_for (front_word g) ts ≡ []) × (popped nodes (front_word g) ts ≡ ts)
  front_not [] s e = (refl, refl)
  front_not (t ∷ ts) s e =
      let q : same t.word (front_word g) ≡ false =
      bool_case (same t.word (front_word g)) (λ z. absurd (has_not f g e s.some (sym (same_true t.word (front_word g) z) ∙ sym s.word))) (λ z. z) in
      (rw q refl, rw q refl)

  -- the front has the word
  front_this : (ts : List Term) → FrontIs nodes columns leaf base f ts → has_word f g ≡ true
      → (t : Term) × (us : List Term) × (ts ≡ t ∷ us) × Shows nodes columns leaf base f t us × (t.word ≡ front_word g) × (head_for (front_word g) ts ≡ t.entries ∷ [])
      × (popped nodes (front_word g) ts ≡ skip_to nodes us)
  front_this [] s e = absurd (has_mask f g e s)
  front_this (t ∷ us) s e =
      let w : t.word ≡ front_word g = sym s.word ∙ sym (has_same f g e) in
      let q : same t.word (front_word g) ≡ true = ap (same t.word) (sym w) ∙ same_refl t.word in
      (t, us, refl, s, w, rw q refl, rw q refl)

-- ---- the pass

-- `j` leaves are passed: the word was taken from those of their fronts that had it
pub record Taking (nodes : List Node) (columns : ℕ) (word bytes ends order : List ℕ) (left : List (List Term)) (cs : List Cursor) (a : Arrays) (fronts : List Front) (n follow j : ℕ) : Type 0 where
  pub count : length left ≡ length order
  pub passed : (k : ℕ) → k < j → FrontIs nodes columns (leaf_at bytes ends order k) (base_at ends order k) (front_at fronts k) (popped nodes word (get_or left k []))
  pub ahead : (k : ℕ) → j ≤ k → k < length order → FrontIs nodes columns (leaf_at bytes ends order k) (base_at ends order k) (front_at fronts k) (get_or left k [])
  pub hold : HoldAll bytes a n (cs ++ group_cursors (mask_of nodes word) 0 (head_lists word (take j left)))
  pub follows_as : follow ≡ follow_of 0 (head_lists word (take j left))

pub taking_start : {nodes : List Node} {columns : ℕ} {bytes ends order : List ℕ} {left : List (List Term)} {cs : List Cursor} {a : Arrays} {fronts : List Front} {n : ℕ} (word : List ℕ)
    → FrontsAre nodes columns bytes ends order fronts left → HoldAll bytes a n cs
    → Taking nodes columns word bytes ends order left cs a fronts n 0 0
taking_start {bytes = bytes} {cs = cs} {a} {n = n} word f h =
    record {
      count = f.count;
      passed = λ k z. absurd (omega arith);
      ahead = λ k _ z. f.each k z;
      hold = subst (HoldAll bytes a n) (sym (append-nil cs)) h;
      follows_as = refl;
    }

module _ (nodes : List Node) (columns : ℕ) (bytes ends order : List ℕ) (left : List (List Term)) (cs : List Cursor) (a : Arrays) (fronts : List Front) (n follow j : ℕ) (front : Front)
    (inside : j < length order) (t : Taking nodes columns (front_word front) bytes ends order left cs a fronts n follow j) where
  -- how many cursors there are
  pub taking_count : n ≡ length cs + length (head_lists (front_word front) (take j left))
  taking_count =
      omega (
        arith,
        t.hold.count,
        length-append cs (group_cursors (mask_of nodes (front_word front)) 0 (head_lists (front_word front) (take j left))),
        group_length (mask_of nodes (front_word front)) 0 (head_lists (front_word front) (take j left)),
      )

  pub taking_other : has_word (front_at fronts j) front ≡ false
      → Taking nodes columns (front_word front) bytes ends order left cs a fronts n follow (j + 1)
  taking_other e =
      let k = front_not nodes columns (leaf_at bytes ends order j) (base_at ends order j) (front_at fronts j) front (get_or left j []) (t.ahead j (omega arith) inside) e in
      let q : head_lists (front_word front) (take (j + 1) left) ≡ head_lists (front_word front) (take j left) =
      heads_next (front_word front) left j (omega (arith, t.count))
      ∙ ap (λ (l : List (List Entry)). head_lists (front_word front) (take j left) ++ l) k.0
      ∙ append-nil (head_lists (front_word front) (take j left)) in
      record {
        count = t.count;
        passed = λ i z.
            split i j (λ y. t.passed i y)
            (λ y. let x : j ≡ i = omega arith in
            subst (λ (m : ℕ). FrontIs nodes columns (leaf_at bytes ends order m) (base_at ends order m) (front_at fronts m) (popped nodes (front_word front) (get_or left m []))) x
            (subst (FrontIs nodes columns (leaf_at bytes ends order j) (base_at ends order j) (front_at fronts j)) (sym k.1) (t.ahead j (omega arith) inside)));
        ahead = λ i y z. t.ahead i (omega arith) z;
        hold = subst (λ (l : List (List Entry)). HoldAll bytes a n (cs ++ group_cursors (mask_of nodes (front_word front)) 0 l)) (sym q) t.hold;
        follows_as = t.follows_as ∙ ap (follow_of 0) (sym q);
      }

  -- the arrays are not full
  pub taking_full : has_word (front_at fronts j) front ≡ true → length cs + length (head_lists (front_word front) left) ≤ length a.docids → length a.docids ≤ n
      → WordTaken nodes columns (front_word front) bytes ends order a left cs (record { fronts = fronts; n = n })
  taking_full e r full =
      let k = front_this nodes columns (leaf_at bytes ends order j) (base_at ends order j) (front_at fronts j) front (get_or left j []) (t.ahead j (omega arith) inside) e in
      absurd (omega (arith, taking_count, heads_split (front_word front) left j (omega (arith, t.count)), ap length k.5))

  pub taking_this : {b : Arrays} (other : Front) → Cuts bytes ends → has_word (front_at fronts j) front ≡ true → HasPlace a n → j < length fronts
      → ((ts : List Term) → RestIs columns (leaf_at bytes ends order j) (front_at fronts j).next (front_word (front_at fronts j)) ts []
      → FrontIs nodes columns (leaf_at bytes ends order j) (base_at ends order j) other (skip_to nodes ts))
      → b ≡ with_cursor a n (front_at fronts j) follow → Taking nodes columns (front_word front) bytes ends order left cs b (set fronts j other) (n + 1) 1 (j + 1)
  taking_this other cuts e place hj seeks p =
      let f : Front = front_at fronts j in
      let w : List ℕ = front_word front in
      let k = front_this nodes columns (leaf_at bytes ends order j) (base_at ends order j) f front (get_or left j []) (t.ahead j (omega arith) inside) e in
      let u : Term = k.0 in
      let s = k.3 in
      let q : head_lists w (take (j + 1) left) ≡ head_lists w (take j left) ++ (u.entries ∷ []) =
      heads_next w left j (omega (arith, t.count)) ∙ ap (λ (l : List (List Entry)). head_lists w (take j left) ++ l) k.5 in
      let x : Cursor = record { mask = mask_of nodes w; follows = follow_of 0 (head_lists w (take j left)); left = u.entries } in
      let at : ListAt bytes u.entries f.docid f.body f.last =
      subst (λ (b : ℕ). ListAt bytes u.entries f.docid b f.last) (sym s.body_at)
      (subst (λ (l : ℕ). ListAt bytes u.entries f.docid (base_at ends order j + s.body) l) (sym s.last_at)
      (list_lifted bytes ends cuts (get_or order j 0) u.entries f.docid s.body s.last s.good.list.some_entry s.list)) in
      let m : f.mask ≡ mask_of nodes w = s.mask ∙ ap (mask_of nodes) k.4 in
      let more = hold_more t.hold f follow x place at m t.follows_as in
      let moved = seeks k.1 (subst (λ (b : List ℕ). RestIs columns (leaf_at bytes ends order j) f.next b k.1 []) (sym s.word) s.rest) in
      subst (λ (x : Arrays). Taking nodes columns w bytes ends order left cs x (set fronts j other) (n + 1) 1 (j + 1)) (sym p)
      (record {
        count = t.count;
        passed = λ i z. split i j (λ y. old i y) (λ y. this i (omega arith) (subst (FrontIs nodes columns (leaf_at bytes ends order j) (base_at ends order j) other) (sym k.6) moved));
        ahead = λ i y z. later i (omega arith) z;
        hold =
            subst (HoldAll bytes (with_cursor a n f follow) (n + 1))
            (append_assoc cs (group_cursors (mask_of nodes w) 0 (head_lists w (take j left))) (x ∷ [])
            ∙ ap (λ (l : List Cursor). cs ++ l) (sym (group_more (mask_of nodes w) 0 (head_lists w (take j left)) u.entries) ∙ ap (group_cursors (mask_of nodes w) 0) (sym q)))
            more;
        follows_as = sym (ap (follow_of 0) q ∙ follow_more 0 (head_lists w (take j left)) u.entries);
      })
    where
      kept : (i : ℕ) → (i ≡ j → ⊥) → front_at (set fronts j other) i ≡ front_at fronts i
      kept i ne = get_or-set_other fronts j i other no_front ne

      old : (i : ℕ) → i < j → FrontIs nodes columns (leaf_at bytes ends order i) (base_at ends order i) (front_at (set fronts j other) i) (popped nodes (front_word front) (get_or left i []))
      old i y =
          subst (λ (f : Front). FrontIs nodes columns (leaf_at bytes ends order i) (base_at ends order i) f (popped nodes (front_word front) (get_or left i [])))
          (sym (kept i (λ (q : i ≡ j). omega arith))) (t.passed i y)

      later : (i : ℕ) → j < i → i < length order → FrontIs nodes columns (leaf_at bytes ends order i) (base_at ends order i) (front_at (set fronts j other) i) (get_or left i [])
      later i y z =
          subst (λ (f : Front). FrontIs nodes columns (leaf_at bytes ends order i) (base_at ends order i) f (get_or left i []))
          (sym (kept i (λ (q : i ≡ j). omega arith))) (t.ahead i (omega arith) z)

      this : (i : ℕ) → i ≡ j → FrontIs nodes columns (leaf_at bytes ends order j) (base_at ends order j) other (popped nodes (front_word front) (get_or left j []))
          → FrontIs nodes columns (leaf_at bytes ends order i) (base_at ends order i) (front_at (set fronts j other) i) (popped nodes (front_word front) (get_or left i []))
      this i q g =
          subst (λ (m : ℕ). FrontIs nodes columns (leaf_at bytes ends order m) (base_at ends order m) (front_at (set fronts j other) m) (popped nodes (front_word front) (get_or left m []))) (sym q)
          (subst (λ (f : Front). FrontIs nodes columns (leaf_at bytes ends order j) (base_at ends order j) f (popped nodes (front_word front) (get_or left j [])))
          (sym (get_or-set_same fronts j other no_front hj)) g)

-- ---- every leaf is passed

popped_at : (nodes : List Node) (word : List ℕ) (left : List (List Term)) (j : ℕ) → get_or (all_popped nodes word left) j [] ≡ popped nodes word (get_or left j [])
popped_at nodes word [] zero = refl
popped_at nodes word [] (suc j) = refl
popped_at nodes word (ts ∷ left) zero = refl
popped_at nodes word (ts ∷ left) (suc j) = popped_at nodes word left j

popped_length : (nodes : List Node) (word : List ℕ) (left : List (List Term)) → length (all_popped nodes word left) ≡ length left
popped_length nodes word [] = refl
popped_length nodes word (ts ∷ left) = ap suc (popped_length nodes word left)

pub taking_end : {nodes : List Node} {columns : ℕ} {word bytes ends order : List ℕ} {left : List (List Term)} {cs : List Cursor} {a : Arrays} {fronts : List Front} {n follow : ℕ} (j : ℕ)
    → length order ≤ j → Taking nodes columns word bytes ends order left cs a fronts n follow j
    → WordTaken nodes columns word bytes ends order a left cs (record { fronts = fronts; n = n })
taking_end {nodes} {columns} {word} {bytes} {ends} {order} {left} {cs} {a} {fronts} {n} j h t =
    record {
      fronts_are =
          record {
            count = popped_length nodes word left ∙ t.count;
            each = λ k z.
                subst (FrontIs nodes columns (leaf_at bytes ends order k) (base_at ends order k) (front_at fronts k)) (sym (popped_at nodes word left k)) (t.passed k (omega arith));
          };
      hold =
          subst (λ (l : List (List Term)). HoldAll bytes a n (cs ++ group_cursors (mask_of nodes word) 0 (head_lists word l)))
          (take_all j left (omega (arith, t.count))) t.hold;
    }

-- the arrays keep their lengths
pub record Lengths (before after : Arrays) : Type 0 where
  pub docid_length : length after.docids ≡ length before.docids
  pub body_length : length after.bodies ≡ length before.bodies
  pub last_length : length after.lasts ≡ length before.lasts
  pub mask_length : length after.masks ≡ length before.masks
  pub follow_length : length after.follows ≡ length before.follows

-- ---- what a turn hands over

-- a leaf lies inside all leaves, and so does the place where none is
pub leaf_inside : (bytes ends : List ℕ) (i base : ℕ) (leaf : List ℕ) → Cuts bytes ends → leaf ≡ get_or (cut bytes ends) i [] → base ≡ start_of ends i
    → base + length leaf ≤ length bytes
leaf_inside bytes ends i base leaf cuts e q =
    split i (length ends)
    (λ h. omega (arith, ap length e, cut_length bytes ends cuts i h, cut_start bytes ends cuts i h, cut_end bytes ends cuts i h))
    (λ h. omega (arith, ap length e, ap length (no_part bytes ends i h), start_inside i))
  where
    start_inside : (k : ℕ) → start_of ends k ≤ length bytes
    start_inside zero = omega arith
    start_inside (suc k) = split k (length ends) (λ h. cuts.none_passes k h) (λ h. omega (arith, get_or-eq_default ends 0 h))

pub able_more : {bytes ends order : List ℕ} {fronts : List Front} {a : Arrays} {n : ℕ} (j : ℕ) (other : Front)
    → Able bytes ends order fronts a n → n < length a.docids → j < length fronts → Placed (length bytes) other → Able bytes ends order (set fronts j other) a (n + 1)
able_more {bytes} {fronts = fronts} j other b h hj s =
    record {
      openable = b.openable;
      placed = λ k z.
          same_or k j
          (λ q. subst (λ (i : ℕ). Placed (length bytes) (front_at (set fronts j other) i)) (sym q) (subst (Placed (length bytes)) (sym (get_or-set_same fronts j other no_front hj)) s))
          (λ q. subst (Placed (length bytes)) (sym (get_or-set_other fronts j k other no_front q)) (b.placed k z));
      within = omega arith;
    }

pub lengths_more : {before a b : Arrays} (n : ℕ) (f : Front) (follow : ℕ) → Lengths before a → b ≡ with_cursor a n f follow → Lengths before b
lengths_more {before} {a} n f follow h e =
    subst (Lengths before) (sym e)
    (record {
      docid_length = length-set a.docids n f.docid ∙ h.docid_length;
      body_length = length-set a.bodies n f.body ∙ h.body_length;
      last_length = length-set a.lasts n f.last ∙ h.last_length;
      mask_length = length-set a.masks n f.mask ∙ h.mask_length;
      follow_length = length-set a.follows n follow ∙ h.follow_length;
    })

-- what `seek` says of a leaf, said of the part that the leaf is
pub sought_as : {nodes : List Node} {columns : ℕ} {leaf leaf' : List ℕ} {base base' next : ℕ} {word : List ℕ} {other : Front} → leaf ≡ leaf' → base ≡ base'
    → ((ts : List Term) → RestIs columns leaf next word ts [] → FrontIs nodes columns leaf base other (skip_to nodes ts))
    → (ts : List Term) → RestIs columns leaf' next word ts [] → FrontIs nodes columns leaf' base' other (skip_to nodes ts)
sought_as {nodes} {columns} {leaf} {base' = base'} {next = next} {word = word} {other = other} e q s ts r =
    subst (λ (l : List ℕ). FrontIs nodes columns l base' other (skip_to nodes ts)) e
    (subst (λ (b : ℕ). FrontIs nodes columns leaf b other (skip_to nodes ts)) q (s ts (subst (λ (l : List ℕ). RestIs columns l next word ts []) (sym e) r)))

-- ---- arrays of the same lengths

rooms_as : {a b : Arrays} → AsLong a → Lengths a b → AsLong b
rooms_as r l = (
  omega (arith, r.0, l.docid_length, l.body_length),
  omega (arith, r.1, l.docid_length, l.last_length),
  omega (arith, r.2, l.docid_length, l.mask_length),
  omega (arith, r.3, l.docid_length, l.follow_length),
)

-- a place that the first array has, the others have too
pub has_place : {bytes ends order : List ℕ} {a b : Arrays} {n : ℕ} → Openable bytes ends order a → Lengths a b → n < length b.docids → HasPlace b n
has_place o l h = let r = rooms_as o.rooms l in (h, omega (arith, r.0), omega (arith, r.1), omega (arith, r.2), omega (arith, r.3))

pub able_as : {bytes ends order : List ℕ} {fronts : List Front} {a b : Arrays} {n : ℕ} → Able bytes ends order fronts a n → Lengths a b → Able bytes ends order fronts b n
able_as h l =
    let o = h.openable in
    record {
      openable = record { cuts = o.cuts; few = o.few; small = o.small; rooms = rooms_as o.rooms l };
      placed = h.placed;
      within = omega (arith, h.within, l.docid_length);
    }

pub frame_lengths : {bytes : List ℕ} {a b : Arrays} {n : ℕ} → OpenFrame bytes a b n → Lengths a b
frame_lengths o =
    record {
      docid_length = o.docids_kept.size;
      body_length = o.bodies_kept.size;
      last_length = o.lasts_kept.size;
      mask_length = o.masks_kept.size;
      follow_length = o.follows_kept.size;
    }

pub lengths_back : {a b : Arrays} → Lengths a b → Lengths b a
lengths_back l =
    record {
      docid_length = sym l.docid_length;
      body_length = sym l.body_length;
      last_length = sym l.last_length;
      mask_length = sym l.mask_length;
      follow_length = sym l.follow_length;
    }
