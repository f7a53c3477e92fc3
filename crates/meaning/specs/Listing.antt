-- A search's list (document 01): "all docids that satisfy the query, rising, each once; its length is the search's count
-- and, with too little room, its need."
use Rattle.std.specs.Prelude.{ℕ, ◌-◌, ◌<◌, ℤ, pos, ◌↔◌, length, replicate}
use mathlib.Core.List.{List, ◌++◌, map, Memᴰ}
use Rattle.doclist.specs.Docid.{docid_limit, docid_of}
use Rattle.doclist.specs.Doclist.{Rising}
use Rattle.leaf.specs.Leaf.{Term}
use Rattle.query.specs.Tree.{Tree}
use Rattle.meaning.specs.Satisfies.{SatisfiesWith, bare_distance}
use Rattle.meaning.specs.Index.{live}

-- exactly the docids with a property, by their keys: all of them, no other, each once, in rising order
pub record Lists (P : ℕ → Type 0) (docids : List ℕ) : Type 0 where
  pub rising : Rising 0 docid_limit docids
  pub exact : (d : ℕ) → d < docid_limit → Memᴰ d docids ↔ P d

-- the docids of an index that satisfy a query, where a NEAR without a number stands for `n`
abbrev pub AnswersWith : ℕ → List (List Term) → Tree → List ℕ → Type 0
AnswersWith n leaves tree docids = Lists (λ d. SatisfiesWith n (live leaves) d tree) docids

abbrev pub Answers : List (List Term) → Tree → List ℕ → Type 0
Answers leaves tree docids = AnswersWith bare_distance leaves tree docids

-- a room of `n` numbers: the docids of these keys, then zeros
abbrev pub room_with : ℕ → List ℕ → List ℤ
room_with n docids = map docid_of docids ++ replicate (n - length docids) (pos 0)
