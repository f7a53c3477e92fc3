-- Merging in any grouping gives the same: a keeping merge of neighbours changes no entry that decides (`merge_again`), so a merge after any of them is
-- the merge of all (`regrouped_same`), and one leaf alone is its own merge (`alone_same`).
use Prim.Native.Nat.{ℕ}
use mathlib.Core.Path.{◌≡◌, refl, sym, ap, ◌∙◌}
use mathlib.Core.Bool.{Bool, true}
use mathlib.Core.Logic.{◌↔◌, inr}
use mathlib.Core.List.{List, [], ◌∷◌, ◌++◌, append_assoc, append-nil}
use Rattle.leaf.specs.Leaf.{Term, WellFormed}
use Rattle.meaning.specs.Index.{MaybeEntry, nothing, leaf_entry, or_else, deciding}
use Rattle.meaning.proofs.Deciding.{deciding_append}
use Rattle.merged.specs.Merged.{kept_entry, Merged, index_of}
use Rattle.merged.specs.Grouping.{Regrouped, untouched, one_more}
use Rattle.merged.proofs.Once.{merged_one}
use Rattle.merged.proofs.Living.{or_nothing, left_deciding}
use Rattle.merged.proofs.Kept.{all_kept}

-- ---- a keeping merge

module _ {count : ℕ} {neighbours : List (List Term)} {terms : List Term} (m : Merged true count neighbours terms) where
  -- what decides among the neighbours decides after their merge
  pub keeping_decides : (word : List ℕ) (docid : ℕ) → deciding (index_of terms) word docid ≡ deciding neighbours word docid
  keeping_decides word docid = left_deciding terms word docid ∙ (m.entries word docid ∙ all_kept (deciding neighbours word docid))

  -- and so it does among newer and older leaves
  pub merge_again : (newer older : List (List Term)) (word : List ℕ) (docid : ℕ)
      → deciding (newer ++ (index_of terms ++ older)) word docid ≡ deciding (newer ++ (neighbours ++ older)) word docid
  merge_again newer older word docid =
      deciding_append newer (index_of terms ++ older) word docid
      ∙ (ap (or_else (deciding newer word docid))
      (deciding_append (index_of terms) older word docid
      ∙ (ap (λ (e : MaybeEntry). or_else e (deciding older word docid)) (keeping_decides word docid) ∙ sym (deciding_append neighbours older word docid)))
      ∙ sym (deciding_append newer (neighbours ++ older) word docid))

-- ---- any number of keeping merges

-- they change no entry that decides
pub regrouped_decides : {count : ℕ} {i j : List (List Term)} → Regrouped count i j → (word : List ℕ) (docid : ℕ) → deciding j word docid ≡ deciding i word docid
regrouped_decides untouched word docid = refl
regrouped_decides (one_more s r) word docid =
    regrouped_decides r word docid
    ∙ (ap (λ (i : List (List Term)). deciding i word docid) s.after
    ∙ (merge_again s.merged s.newer s.older word docid ∙ sym (ap (λ (i : List (List Term)). deciding i word docid) s.before)))

-- a merge of indexes in which the same decides
same_merge : {keep : Bool} {count : ℕ} {i j : List (List Term)} {terms : List Term} → ((word : List ℕ) (docid : ℕ) → deciding i word docid ≡ deciding j word docid)
    → Merged keep count i terms → Merged keep count j terms
same_merge {keep} same m = record { good = m.good; entries = λ word docid. m.entries word docid ∙ ap (kept_entry keep) (same word docid) }

-- the merges before and after are the same
pub regrouped_merged : {count : ℕ} {i j : List (List Term)} → Regrouped count i j → (keep : Bool) (terms : List Term) → Merged keep count i terms ↔ Merged keep count j terms
regrouped_merged r keep terms = (same_merge (λ word docid. sym (regrouped_decides r word docid)), same_merge (regrouped_decides r))

-- "a full merge after any keeping merges equals the full merge of all", and so does a keeping one
pub regrouped_same : {count : ℕ} {i j : List (List Term)} → Regrouped count i j → (keep : Bool) (ts us : List Term) → Merged keep count i ts → Merged keep count j us → ts ≡ us
regrouped_same {count} {i} r keep ts us m n = merged_one keep count i ts us m ((regrouped_merged r keep us).1 n)

-- ---- two groupings of three

-- "merging a with the merge of b and c gives the same [..] as merging the merge of a and b with c", where each may be several leaves
pub groupings_same : (keep : Bool) (count : ℕ) (a b c : List (List Term)) {ab bc ts us : List Term} → Merged true count (a ++ b) ab → Merged true count (b ++ c) bc
    → Merged keep count (a ++ index_of bc) ts → Merged keep count (index_of ab ++ c) us → ts ≡ us
groupings_same keep count a b c {ab} {bc} {ts} {us} m n p q =
    merged_one keep count (a ++ (b ++ c)) ts us (same_merge right p) (same_merge left q)
  where
    right : (word : List ℕ) (docid : ℕ) → deciding (a ++ index_of bc) word docid ≡ deciding (a ++ (b ++ c)) word docid
    right word docid =
        ap (λ (i : List (List Term)). deciding (a ++ i) word docid) (sym (append-nil (index_of bc)))
        ∙ (merge_again n a [] word docid ∙ ap (λ (i : List (List Term)). deciding (a ++ i) word docid) (append-nil (b ++ c)))

    left : (word : List ℕ) (docid : ℕ) → deciding (index_of ab ++ c) word docid ≡ deciding (a ++ (b ++ c)) word docid
    left word docid = merge_again m [] c word docid ∙ ap (λ (i : List (List Term)). deciding i word docid) (append_assoc a b c)

-- ---- one leaf

-- a leaf's terms are its keeping merge
pub alone_merged : (count : ℕ) (ts : List Term) → WellFormed count ts → Merged true count (ts ∷ []) ts
alone_merged count ts w = record { good = inr w; entries = λ word docid. sym (all_kept (or_else (leaf_entry word docid ts) nothing) ∙ or_nothing (leaf_entry word docid ts)) }

-- "merging one leaf alone gives it back"
pub alone_same : (count : ℕ) (ts us : List Term) → WellFormed count ts → Merged true count (ts ∷ []) us → us ≡ ts
alone_same count ts us w m = merged_one true count (ts ∷ []) us ts m (alone_merged count ts w)
