-- The merge word by word: it starts with no word (`merging_start`), each word that is taken adds its term (`merging_step`), and where nothing is left the
-- terms are the merge of the index (`merging_end`).
use Prim.Native.Nat.{ℕ, ◌≤◌, ◌<◌}
use native.Mathlib.Omega.{arith}
use mathlib.Core.Path.{◌≡◌, refl, sym, ap, ◌∙◌, subst}
use mathlib.Core.Bool.{Bool}
use mathlib.Core.List.{List, [], ◌∷◌, ◌++◌, Memᴰ}
use lib.ListN.{length, get_or}
use Rattle.common.specs.Bounds.{max_word}
use Rattle.directory.specs.Order.{in_order}
use Rattle.offsets.specs.Cut.{cut}
use Rattle.doclist.specs.Doclist.{Entry}
use Rattle.leaf.specs.Leaf.{Term, Before, GoodTerm, Terms, WellFormed, NoTerm}
use Rattle.leaf.proofs.Words.{before_case, before_irrefl, before_some, before_trans}
use Rattle.leaf.proofs.Once.{no_term_append}
use Rattle.meaning.specs.Index.{nothing, entry_for, leaf_entry, deciding}
use Rattle.cursors.specs.Groups.{first_for}
use Rattle.opening.specs.Opening.{LeavesAre, lists_of}
use Rattle.opening.specs.Fronts.{all_popped, head_lists}
use Rattle.opening.specs.Walking.{AllNoneBefore}
use Rattle.opening.proofs.Words.{lists_are, taken_keeps, lists_none}
use Rattle.opening.proofs.Standing.{first_decides}
use Rattle.merged.specs.Merged.{kept_entry, Merged}
use Rattle.merged.proofs.Finding.{leaf_none}
use Rattle.merged.proofs.Indexes.{leaves_good}
use Rattle.merged.proofs.Making.{terms_or_none}
use Rattle.postings.specs.Lists.{MergedList}
use Rattle.postings.proofs.Once.{merged_columns}
use Rattle.merge.specs.Words.{every_word, with_term, AllAfter, Merging}
use Rattle.merge.proofs.Every.{every_some}
use Rattle.merge.proofs.Ordered.{after_or, terms_end, end_entry, front_entry}
use Rattle.merge.proofs.Taken.{AtFront, at_front, heads_good, none_after, none_earlier, taken_after}

-- no entry decides for a word without a list
none_decides : (index : List (List Term)) (word : List ℕ) (docid : ℕ) → lists_of word index ≡ [] → deciding index word docid ≡ nothing
none_decides index word docid e = sym (first_decides docid word index) ∙ ap (first_for docid) e

-- ---- before the first word

-- well-formed contents come after the empty word
all_after : (count : ℕ) (index : List (List Term)) → ((ts : List Term) → Memᴰ ts index → WellFormed count ts) → AllAfter count [] index
all_after count [] good = tt
all_after count (ts ∷ index) good = ((good ts (Memᴰ.head refl)).terms, all_after count index (λ us m. good us (Memᴰ.tail m)))

pub merging_start : (keep : Bool) (count : ℕ) (index : List (List Term)) → ((ts : List Term) → Memᴰ ts index → WellFormed count ts) → Merging keep count index index [] []
merging_start keep count index good =
    let a = all_after count index good in
    record {
      good = tt;
      up_to = λ word b. tt;
      done = λ word n docid. sym (ap (kept_entry keep) (none_decides index word docid (none_after count [] word n index a)));
      kept = λ word b. refl;
      later = a;
    }

-- the contents of leaves are well-formed
pub merging_leaves : (keep : Bool) (count : ℕ) (bytes ends order : List ℕ) (index : List (List Term)) → LeavesAre count bytes ends order index → Merging keep count index index [] []
merging_leaves keep count bytes ends order index l = merging_start keep count index (leaves_good count (in_order [] (cut bytes ends) order) index l.are)

-- ---- one word

-- with its list, and where that is empty
pub with_some : (w : List ℕ) (es : List Entry) (ts : List Term) → 0 < length es → with_term w es ts ≡ ts ++ (record { word = w; entries = es } ∷ [])
with_some w [] ts h = absurd (omega arith)
with_some w (e ∷ es) ts h = refl

pub with_none : (w : List ℕ) (es : List Entry) (ts : List Term) → es ≡ [] → with_term w es ts ≡ ts
with_none w es ts e = ap (λ (l : List Entry). with_term w l ts) e

-- the term of a word at the end of the others, where its word comes after `last` and theirs do not
module _ (count : ℕ) (last w : List ℕ) (after : Before last w) where
  with_good : (ts : List Term) (es : List Entry) → Terms count [] ts → ((word : List ℕ) → Before last word → NoTerm ts word)
      → (0 < length es → GoodTerm count (record { word = w; entries = es })) → Terms count [] (with_term w es ts)
  with_good ts [] h up g = h
  with_good ts (e ∷ es) h up g =
      let k = g (omega arith) in
      terms_end count last [] ts (record { word = w; entries = e ∷ es }) h up (before_some w k.some) after k

  with_up_to : (ts : List Term) (es : List Entry) → ((word : List ℕ) → Before last word → NoTerm ts word) → (word : List ℕ) → Before w word → NoTerm (with_term w es ts) word
  with_up_to ts [] up word b = up word (before_trans last w word after b)
  with_up_to ts (e ∷ es) up word b =
      no_term_append ts (record { word = w; entries = e ∷ es } ∷ []) word (up word (before_trans last w word after b)) (λ q. before_irrefl w (subst (Before w) (sym q) b), tt)

-- its entries, and those of another word
with_entry : (w : List ℕ) (es : List Entry) (ts : List Term) (docid : ℕ) → NoTerm ts w → leaf_entry w docid (with_term w es ts) ≡ entry_for docid es
with_entry w [] ts docid n = leaf_none ts w docid n
with_entry w (e ∷ es) ts docid n = end_entry ts (record { word = w; entries = e ∷ es }) w docid refl n

with_other : (w : List ℕ) (es : List Entry) (ts : List Term) (word : List ℕ) (docid : ℕ) → (w ≡ word → ⊥) → leaf_entry word docid (with_term w es ts) ≡ leaf_entry word docid ts
with_other w [] ts word docid d = refl
with_other w (e ∷ es) ts word docid d = front_entry ts (record { word = w; entries = e ∷ es } ∷ []) word docid (d, tt)

module _ {keep : Bool} {count : ℕ} {index left : List (List Term)} {last : List ℕ} {ts : List Term} (m : Merging keep count index left last ts) where
  -- a word that comes after `last` and is not left has no entry
  nothing_decides : (word : List ℕ) (docid : ℕ) → Before last word → lists_of word left ≡ [] → leaf_entry word docid ts ≡ kept_entry keep (deciding index word docid)
  nothing_decides word docid b e =
      leaf_none ts word docid (m.up_to word b) ∙ sym (ap (kept_entry keep) (none_decides index word docid (sym (m.kept word b) ∙ e)))

  module _ (w : List ℕ) (least : AllNoneBefore count w left) (some : 0 < length (head_lists w left)) where
    pub word_front : AtFront count last w
    word_front = at_front count last w left m.later some

    -- the lists at the fronts are all that the index has for the word
    pub front_decides : (docid : ℕ) → first_for docid (head_lists w left) ≡ deciding index w docid
    front_decides docid =
        ap (first_for docid) (sym (lists_are every_word count w left least) ∙ m.kept w word_front.after)
        ∙ first_decides docid w index

  module _ (w : List ℕ) (es : List Entry) (least : AllNoneBefore count w left) (some : 0 < length (head_lists w left)) (list : MergedList keep (head_lists w left) es) where
    here : AtFront count last w
    here = word_front w least some

    term_good : 0 < length es → GoodTerm count (record { word = w; entries = es })
    term_good h =
        let f = here in
        record {
          some = subst (λ (x : List ℕ). 0 < length x) f.same_word f.good.some;
          short = subst (λ (x : List ℕ). length x ≤ max_word) f.same_word f.good.short;
          list = record {
            some_column = f.good.list.some_column;
            few_columns = f.good.list.few_columns;
            some_entry = h;
            entries = merged_columns keep count (head_lists w left) es (heads_good count last w left m.later) list;
          };
        }

    step_done : (word : List ℕ) → (Before w word → ⊥) → (docid : ℕ) → leaf_entry word docid (with_term w es ts) ≡ kept_entry keep (deciding index word docid)
    step_done word n docid =
        before_case w word
        (λ b. absurd (n b))
        (λ q. subst (λ (x : List ℕ). leaf_entry x docid (with_term w es ts) ≡ kept_entry keep (deciding index x docid)) q
        (with_entry w es ts docid (m.up_to w here.after) ∙ list.entries docid ∙ ap (kept_entry keep) (front_decides w least some docid)))
        (λ b.
        with_other w es ts word docid (λ q. before_irrefl word (subst (Before word) q b))
        ∙ after_or last word
        (λ c. nothing_decides word docid c (none_earlier count w word b left least))
        (λ c. m.done word c docid))

    pub merging_step : Merging keep count index (all_popped every_word w left) w (with_term w es ts)
    merging_step =
        let a = here.after in
        record {
          good = with_good count last w a ts es m.good m.up_to term_good;
          up_to = with_up_to count last w a ts es m.up_to;
          done = step_done;
          kept =
              λ word b.
              taken_keeps every_word count w word (λ q. before_irrefl w (subst (Before w) q b)) (every_some word) left
              ∙ m.kept word (before_trans last w word a b);
          later = taken_after count w last left m.later least;
        }

  -- ---- after the last word

  pub merging_end : ((j : ℕ) → j < length left → get_or left j [] ≡ []) → Merged keep count index ts
  merging_end empty = record {
    good = terms_or_none count ts m.good;
    entries = λ word docid. after_or last word (λ b. nothing_decides word docid b (lists_none word left empty)) (λ n. m.done word n docid);
  }
