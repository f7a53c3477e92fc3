-- How the merge grows from docid to docid.
use Prim.Native.Nat.{ℕ, ◌≤◌, ◌<◌}
use native.Mathlib.Omega.{arith}
use mathlib.Core.Path.{◌≡◌, sym, ap, ◌∙◌}
use mathlib.Core.Bool.{Bool}
use mathlib.Core.List.{List, [], ◌++◌}
use Rattle.common.proofs.Cases.{split}
use Rattle.doclist.specs.Docid.{docid_limit}
use Rattle.doclist.specs.Doclist.{Entry, Entries}
use Rattle.meaning.specs.Index.{nothing, entry_for}
use Rattle.cursors.specs.Groups.{first_for, EveryList}
use Rattle.cursors.proofs.Each.{EntriesOrdered}
use Rattle.merged.specs.Merged.{kept_entry}
use Rattle.merged.proofs.Finding.{entry_below}
use Rattle.postings.specs.Lists.{MergedList}
use Rattle.postings.proofs.Growing.{Below, below_wider, below_join, below_none, entry_behind, entry_front, entries_join}
use Rattle.postings.proofs.Firsts.{first_above}

-- the entries of the merge below a docid
pub record MergedBelow (keep : Bool) (lists : List (List Entry)) (d : ℕ) (es : List Entry) : Type 0 where
  pub good : Entries 0 16 es
  pub below : Below d es
  pub entries : (k : ℕ) → k < d → entry_for k es ≡ kept_entry keep (first_for k lists)

module _ (keep : Bool) (lists : List (List Entry)) where
  pub merged_none : MergedBelow keep lists 0 []
  merged_none = record { good = tt; below = tt; entries = λ k h. absurd (omega arith) }

  module _ (d c : ℕ) (es : List Entry) (h : d ≤ c) where
    -- nothing is kept up to the new bound
    pub merged_skip : ((k : ℕ) → d ≤ k → k < c → kept_entry keep (first_for k lists) ≡ nothing) → MergedBelow keep lists d es → MergedBelow keep lists c es
    merged_skip n m =
        record {
          good = m.good;
          below = below_wider d c es h m.below;
          entries = λ k l. split k d (m.entries k) (λ g. below_none d k es g m.below ∙ sym (n k g l));
        }

    -- some entries are
    pub merged_more : (fs : List Entry) → Entries d 16 fs → Below c fs → ((k : ℕ) → d ≤ k → k < c → entry_for k fs ≡ kept_entry keep (first_for k lists))
        → MergedBelow keep lists d es → MergedBelow keep lists c (es ++ fs)
    merged_more fs o b n m =
        record {
          good = entries_join 0 d es fs (omega arith) m.good m.below o;
          below = below_join c es fs (below_wider d c es h m.below) b;
          entries = λ k l.
              split k d
              (λ g. entry_front k es fs (entry_below d 16 fs k o g) ∙ m.entries k g)
              (λ g. entry_behind d k es fs g m.below ∙ n k g l);
        }

  -- all docids are passed
  pub merged_all : (d : ℕ) (es : List Entry) → EveryList EntriesOrdered lists → docid_limit ≤ d → MergedBelow keep lists d es → MergedList keep lists es
  merged_all d es o h m =
      record {
        good = m.good;
        entries = λ k. split k d (m.entries k) (λ g. below_none d k es g m.below ∙ sym (ap (kept_entry keep) (first_above k lists o (omega arith))));
      }
