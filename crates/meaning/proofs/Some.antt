-- A row that satisfies a query has one of the query's words: no operator makes something of nothing.
use Prim.Native.Nat.{ℕ, ◌<◌}
use mathlib.Core.Path.{refl}
use mathlib.Core.Logic.{⊎_elim}
use mathlib.Core.List.Memᴰ
use mathlib.Core.List.{List, [], ◌∷◌, ◌++◌, Memᴰ}
use native.Mathlib.Omega.{arith}
use lib.ListN.{length}
use Rattle.lexer.specs.Token.{QueryWord}
use Rattle.query.specs.Tree.{OR, AND, NOT, Tree, leaf, joined, FilledTree}
use Rattle.meaning.specs.Satisfies.{Standing, Holds}

-- the first words of a tree's chains
abbrev pub first_phrase : Tree → List QueryWord
first_phrase (leaf c) = c.first.words
first_phrase (joined o a b) = first_phrase a ++ first_phrase b

abbrev pub SomeStands : Standing → List QueryWord → Type 0
SomeStands stands ws = (w : QueryWord) × Memᴰ w ws × ((column : ℕ) × (position : ℕ) × stands w column position)

first_stands : (stands : Standing) (ws : List QueryWord) (c p : ℕ) → 0 < length ws → Rattle.meaning.specs.Satisfies.Consecutive stands ws c p → SomeStands stands ws
first_stands stands [] c p h k = absurd (omega arith)
first_stands stands (w ∷ ws) c p h k = (w, Memᴰ.head refl, (c, p, k.0))

more_left : (stands : Standing) (vs ws : List QueryWord) → SomeStands stands vs → SomeStands stands (vs ++ ws)
more_left stands vs ws h = (h.0, Memᴰ.append_left ws h.1, h.2)

more_right : (stands : Standing) (vs ws : List QueryWord) → SomeStands stands ws → SomeStands stands (vs ++ ws)
more_right stands [] ws h = h
more_right stands (v ∷ vs) ws h = let r = more_right stands vs ws h in (r.0, Memᴰ.tail r.1, r.2)

pub holds_some : (stands : Standing) (t : Tree) → FilledTree t → Holds stands t → SomeStands stands (first_phrase t)
holds_some stands (leaf c) w h = first_stands stands c.first.words h.0.column h.0.first w.0 h.1.consecutive
holds_some stands (joined OR a b) w h =
    ⊎_elim (λ k. more_left stands (first_phrase a) (first_phrase b) (holds_some stands a w.0 k)) (λ k. more_right stands (first_phrase a) (first_phrase b) (holds_some stands b w.1 k)) h
holds_some stands (joined AND a b) w h = more_left stands (first_phrase a) (first_phrase b) (holds_some stands a w.0 h.0)
holds_some stands (joined NOT a b) w h = more_left stands (first_phrase a) (first_phrase b) (holds_some stands a w.0 h.0)
