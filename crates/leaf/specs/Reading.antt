-- What the functions of this crate compute, as they do it: a walk over the words of a leaf that knows how many were
-- sound and where they ended. The laws tie it to the content of Leaf.
use Rattle.std.specs.Prelude.{ℕ, zero, suc, ◌+◌, ◌-◌, Bool, List, [], ◌++◌, length, get_or, take, ltb, leb, eqb, Option, Some, None}
use Rattle.std.proofs.Math.Seq.{paste}
use Rattle.common.specs.Pick.{pick, both}
use Rattle.common.specs.Bytes.{part}
use Rattle.common.specs.Bounds.{max_word}
use Rattle.varint.specs.Varint.{read_at, on_varint}
use Rattle.doclist.specs.Checking as doclist
use Rattle.doclist.specs.declared.ListCheck.{ListCheck}
use Rattle.doclist.specs.declared.ListCheck.TheVariants as list-check
use Rattle.leaf.specs.declared.Head.{Head}
use Rattle.leaf.specs.declared.Sound.{Sound}

-- ---- one word

-- what was found at a word's place
abbrev pub head : ℕ → ℕ → ℕ → ℕ → ℕ → Option Head
head prefix from size list next = Some (record { prefix = prefix; from = from; size = size; list = list; next = next })

abbrev pub on_head {ℓ} : {X : Type ℓ} → X → Option Head → (ℕ → ℕ → ℕ → ℕ → ℕ → X) → X
on_head r (Some h) go = go h.prefix h.from h.size h.list h.next
on_head r None go = r

abbrev pub on_list {ℓ} : {X : Type ℓ} → X → ListCheck → X → X
on_list r list-check.Accepted x = x
on_list r list-check.Refused x = r

-- the list's length, at `to`, and the list: all inside
abbrev pub list_at : List ℕ → ℕ → ℕ → ℕ → ℕ → Option Head
list_at s prefix from size to =
    on_varint None (read_at s to) (λ bytes list. pick (ltb (length s - list) bytes) None (head prefix from size list (list + bytes)))

-- the suffix's length, at `at`, and the suffix: at least one byte, inside, and the word not too long
abbrev pub suffix_at : List ℕ → ℕ → ℕ → Option Head
suffix_at s prefix at =
    on_varint None (read_at s at) (λ size from.
    pick (eqb size 0) None
    (pick (ltb max_word size) None
    (pick (ltb (max_word - size) prefix) None
    (pick (ltb (length s - from) size) None (list_at s prefix from size (from + size))))))

-- the first word stands after the height, which takes one byte; it has no prefix
abbrev pub first_word : ℕ
first_word = 1

abbrev pub head_at : List ℕ → ℕ → Option Head
head_at s at = pick (eqb at first_word) (suffix_at s 0 at) (on_varint None (read_at s at) (λ prefix next. pick (ltb max_word prefix) None (suffix_at s prefix next)))

-- a word's room once a suffix was put after its first `p` bytes; where it does not fit the room stays
abbrev pub with_suffix : List ℕ → ℕ → List ℕ → List ℕ
with_suffix word p suffix = pick (leb (p + length suffix) (length word)) (paste word p suffix (length suffix)) word

-- a word that shares `p` bytes with `before` and goes on with `b` is a later word, and shares no more
abbrev pub joins_of : List ℕ → ℕ → ℕ → Bool
joins_of before p b = pick (ltb p (length before)) (ltb (get_or before p 0) b) (eqb p (length before))

-- ---- the walk

-- from the place `i`, where `words` sound words end, of which the last is `before`; `most` bounds how many follow
unfoldable pub walk_from : ℕ → ℕ → List ℕ → ℕ → List ℕ → ℕ → Sound
walk_from zero count s i before words = record { words = words; end = i }
walk_from (suc most) count s i before words =
    pick (ltb i (length s))
    (on_head (record { words = words; end = i }) (head_at s i) (λ prefix from size list next.
    pick (joins_of before prefix (get_or s from 0))
    (on_list (record { words = words; end = i }) (doclist.check_of count (part s list next))
    (walk_from most count s next (take prefix before ++ part s from (from + size)) (words + 1)))
    (record { words = words; end = i })))
    (record { words = words; end = i })

-- with no sound word the front is empty
abbrev pub no_sound : Sound
no_sound = record { words = 0; end = 0 }

abbrev pub front_of : Sound → Sound
front_of r = pick (eqb r.words 0) no_sound r

abbrev pub walk_of : ℕ → List ℕ → Sound
walk_of count s =
    on_varint no_sound (read_at s 0) (λ height first. pick (eqb height 0) (front_of (walk_from (length s) count s first [] 0)) no_sound)

-- the walk came to the end, with at least one word
abbrev pub is_leaf : ℕ → List ℕ → Bool
is_leaf count s = both (ltb 0 (walk_of count s).words) (eqb (walk_of count s).end (length s))
