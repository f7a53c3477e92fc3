-- `put_sized` meets its contract: the length, and after it the bytes.
use Prim.Native.Nat.{◌+◌, ◌≤◌}
use native.Mathlib.Omega.{arith}
use mathlib.Core.Path.{refl}
use lib.ListN.{length}
use Rattle.common.proofs.Rooms.{Wrote, wrote_first, wrote_within, fitted_more}
use Rattle.varint.specs.Varint.{encode}
use Rattle.leaf.proofs.Words.{sized_length}
use Rattle.storing.proofs.put_sized.Goals as goal
use Rattle.storing.proofs.put_sized.Goals.{After-put_number-at, Start}

-- both fit
fits : (c : Start) → length (encode (length c.args.bytes.now)) + length c.args.bytes.now ≤ length c.args.out.now
fits c = omega (arith, c.requires, sized_length c.args.bytes.now)

-- the length stands in the room
first : (c : After-put_number-at) → (length (encode (length c.args.bytes.now)) + length c.args.bytes.now ≤ length c.args.out.now)
    → Wrote c.args.out.now c.put_number-at.new.out (encode (length c.args.bytes.now)) c.put_number-at.result
first c fits_fact =
    let a = c.args in
    wrote_first a.out.now c.put_number-at.new.out (encode (length a.bytes.now)) c.put_number-at.result (omega (arith, fits_fact)) c.put_number-at.ensures

pub slice_bounds-put_bytes-count : goal.slice_bounds-put_bytes-count
slice_bounds-put_bytes-count c = wrote_within (first (goal.at.slice_bounds-put_bytes-count c).After-put_number-at (fits (goal.at.slice_bounds-put_bytes-count c).Start))

pub slice_bounds-put_bytes-start : goal.slice_bounds-put_bytes-start
slice_bounds-put_bytes-start c = wrote_within (first (goal.at.slice_bounds-put_bytes-start c).After-put_number-at (fits (goal.at.slice_bounds-put_bytes-start c).Start))

pub returns : goal.returns
returns c = let a = c.args in
    (fitted_more (first (goal.at.returns c).After-put_number-at (fits (goal.at.returns c).Start)) a.bytes.now c.put_bytes.new.out (length a.bytes.now) (fits (goal.at.returns c).Start) refl c.put_bytes.ensures).is
