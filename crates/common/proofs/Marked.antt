-- The marked examples of several crates together.
use mathlib.Core.List.{List, [], ◌++◌, ◌∷◌}
use Rattle.common.specs.Marked.{Example, AllHold}

pub holds_both : (es fs : List Example) → AllHold es → AllHold fs → AllHold (es ++ fs)
holds_both [] fs h k = k
holds_both (e ∷ es) fs h k = (h.0, holds_both es fs h.1 k)
