-- Queries in which every NEAR has its distance written: what a NEAR without a number means does not matter to them
-- (document 02, §7).
use Rattle.std.specs.Prelude.{List, [], ◌∷◌}
use Rattle.lexer.specs.Token.{Distance, bare, written}
use Rattle.query.specs.Tree.{Link, Tree, leaf, joined}

abbrev pub IsWritten : Distance → Type 0
IsWritten bare = ⊥
IsWritten (written n) = Unit {0}

abbrev pub WrittenLinks : List Link → Type 0
WrittenLinks [] = Unit {0}
WrittenLinks (l ∷ ls) = IsWritten l.distance × WrittenLinks ls

-- no bare NEAR in a tree
abbrev pub WrittenTree : Tree → Type 0
WrittenTree (leaf c) = WrittenLinks c.links
WrittenTree (joined o a b) = WrittenTree a × WrittenTree b
