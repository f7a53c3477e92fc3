-- The walk over the leaves' words: what holds where no word is taken, and where the least one is.
use Rattle.std.specs.Prelude.{None}
use Prim.Native.Nat.{ℕ, zero, suc, ◌+◌, ◌≤◌}
use native.Mathlib.Omega.{arith}
use mathlib.Core.Path.{◌≡◌, refl, sym, subst}
use mathlib.Core.Bool.{Bool, true, false}
use mathlib.Core.Logic.{◌↔◌, inl}
use mathlib.Core.List.{List, [], ◌∷◌}
use lib.ListN.{length, replicate, length-append}
use Rattle.common.specs.Bytes.{same}
use Rattle.common.specs.Bounds.{max_index_bytes, max_leaves}
use Rattle.common.proofs.Cases.{bool_case, false_refutes}
use Rattle.offsets.specs.Cut.{Cuts}
use Rattle.leaf.specs.Leaf.{Term}
use Rattle.lexer.specs.Token.{Node}
use Rattle.cursors.specs.Arrays.{Cursor}
use Rattle.opening.specs.Opening.{Arrays, Openable, OpenFrame}
use Rattle.opening.specs.Fronts.{front_word, front_at, Placed, Least, LeastIs, head_for, head_lists, FrontsAre, HoldAll, WordTaken}
use Rattle.opening.specs.Walking.{AllPlaced, NoneLeft, LeastTaken, TakesWord}
use Rattle.opening.specs.declared.Front.{Front}
use Rattle.opening.specs.declared.Opening.{Opening}
use Rattle.opening.specs.declared.WordLists.{WordLists}
use Rattle.opening.proofs.Framing.{placed_none, frame_none}
use Rattle.opening.proofs.Leading.{none_left, least_first, some_list}

-- ---- fronts without a word

same_fronts : (size n : ℕ) (f : Front) → Placed size f → (j : ℕ) → Placed size (front_at (replicate n f) j)
same_fronts size zero f p j = placed_none refl refl
same_fronts size (suc n) f p zero = p
same_fronts size (suc n) f p (suc j) = same_fronts size n f p j

pub none_placed : (size : ℕ) (order : List ℕ) (f : Front) → f.mask ≡ 0 → f.size ≡ 0 → AllPlaced size order (replicate 8 f)
none_placed size order f m s j h = same_fronts size 8 f (placed_none m s) j

-- ---- the least word

heads_few : (word : List ℕ) (left : List (List Term)) → length (head_lists word left) ≤ length left
heads_few word [] = omega arith
heads_few word (ts ∷ left) = omega (arith, length-append (head_for word ts) (head_lists word left), head_few ts, heads_few word left)
  where
    head_few : (ts : List Term) → length (head_for word ts) ≤ 1
    head_few [] = omega arith
    head_few (t ∷ ts) = bool_case (same t.word word) (λ e. rw e (omega arith)) (λ e. rw e (omega arith))

-- the arrays hold no cursor yet
pub hold_none : (bytes : List ℕ) (a : Arrays) → HoldAll bytes a 0 []
hold_none bytes a =
    record {
      count = refl;
      room = record { docid_room = omega arith; body_room = omega arith; last_room = omega arith; mask_room = omega arith; follow_room = omega arith };
      each = λ k z. absurd (omega arith);
    }

module _ (nodes : List Node) (columns : ℕ) (bytes ends order : List ℕ) (fronts : List Front) (left : List (List Term)) (f : FrontsAre nodes columns bytes ends order fronts left) where
  pub walk_over : (r : WordLists) → r.n ≡ 0 → LeastIs fronts (length order) None → NoneLeft left r
  walk_over r e none = record { none = e; empty = none_left nodes columns bytes ends order fronts left f none }

  -- the first front's word is taken from all that have it
  pub walk_on : (best : ℕ) → Least fronts (length order) best → (before after : Arrays) (o : Opening) → length order ≤ length before.docids
      → ((left : List (List Term)) (cs : List Cursor) → FrontsAre nodes columns bytes ends order fronts left → HoldAll bytes before 0 cs
      → 0 + length (head_lists (front_word (front_at fronts best)) left) ≤ length before.docids → WordTaken nodes columns (front_word (front_at fronts best)) bytes ends order after left cs o)
      → LeastTaken nodes columns bytes ends order after left (record { fronts = o.fronts; n = o.n; word = (front_at fronts best).word; size = (front_at fronts best).size })
  walk_on best l before after o room take =
      record {
        least = least_first nodes columns bytes ends order fronts left f best l;
        some = some_list nodes columns bytes ends order fronts left f best l;
        taken = take left [] f (hold_none bytes before) (omega (arith, heads_few (front_word (front_at fronts best)) left, f.count));
      }

-- ---- what the test of the leaves and arrays says

pub openable_of : {bytes ends order : List ℕ} {a : Arrays} → Cuts bytes ends × (length order ≤ max_leaves) × (length bytes ≤ max_index_bytes) × (length a.docids ≤ length a.bodies) × (length a.docids ≤ length a.lasts) × (length a.docids ≤ length a.masks) × (length a.docids ≤ length a.follows)
    → Openable bytes ends order a
openable_of k = record { cuts = k.0; few = k.1; small = k.2; rooms = (k.3, k.4, k.5, k.6) }

pub able_of : {bytes ends order : List ℕ} {a : Arrays} {t : Bool}
    → (t ≡ true) ↔ (Cuts bytes ends × (length order ≤ max_leaves) × (length bytes ≤ max_index_bytes) × (length a.docids ≤ length a.bodies) × (length a.docids ≤ length a.lasts) × (length a.docids ≤ length a.masks) × (length a.docids ≤ length a.follows))
    → t ≡ false → Openable bytes ends order a → ⊥
able_of i e o = false_refutes i e (o.cuts, o.few, o.small, o.rooms.0, o.rooms.1, o.rooms.2, o.rooms.3)

-- ---- the promise

module _ (text stops marks : List ℕ) (count : ℕ) (bytes ends order : List ℕ) (fronts : List Front) (a : Arrays) (r : WordLists) (n : r.n ≡ 0) (s : r.size ≡ 0) (same-fronts-left : r.fronts ≡ fronts) where
  -- leaves that can't be opened, or fronts that do not fit
  pub not_walked : (Openable bytes ends order a × AllPlaced (length bytes) order fronts → ⊥) → TakesWord text stops marks count bytes ends order fronts a a r
  not_walked unable =
      record {
        content = λ nodes columns left w f o p room. absurd (unable (o, p));
        placed = λ p. subst (AllPlaced (length bytes) order) (sym same-fronts-left) p;
        sized = omega arith;
        otherwise = λ _. (n, refl);
        frame = subst (OpenFrame bytes a a) (sym n) (frame_none bytes a);
      }

  -- no front has a word
  pub walked_over : LeastIs fronts (length order) None → TakesWord text stops marks count bytes ends order fronts a a r
  walked_over none =
      record {
        content = λ nodes columns left w f o p room. inl (walk_over nodes columns bytes ends order fronts left f r n none);
        placed = λ p. subst (AllPlaced (length bytes) order) (sym same-fronts-left) p;
        sized = omega arith;
        otherwise = λ _. (n, refl);
        frame = subst (OpenFrame bytes a a) (sym n) (frame_none bytes a);
      }
