-- A number at the front of a room, and bytes after it.
use Prim.Native.Nat.{ℕ, ◌-◌, ◌≤◌}
use native.Mathlib.Omega.{arith}
use mathlib.Core.Path.{◌≡◌, ap, ◌∙◌}
use mathlib.Core.List.{List, ◌++◌}
use lib.ListN.{length, take, drop, length-append, length-take, length-drop}
use Rattle.common.specs.Bytes.{over, fitted}
use Rattle.common.proofs.Rooms.{over_length, over_lent, fitted_over}

module _ (room front number body : List ℕ) (at : ℕ) (fits : length (number ++ body) ≤ length room) (ends : at ≡ length number) (wrote : front ≡ fitted number room) where
  front_is : front ≡ over number room
  front_is = wrote ∙ fitted_over number room (omega (arith, length-append number body))

  front_length : length front ≡ length room
  front_length = ap length front_is ∙ over_length number room (omega (arith, length-append number body))

  pub front_inside : at ≤ length front
  front_inside = omega (arith, front_length, length-append number body)

  -- the body was put into what is left of the room
  pub front_more : (back : List ℕ) → back ≡ fitted body (take (length front - at) (drop at front))
      → take at front ++ (back ++ drop (length front - at) (drop at front)) ≡ over (number ++ body) room
  front_more back e =
      let free : length body ≤ length (take (length front - at) (drop at front)) = simp (length-take, length-drop) (omega (arith, front_length, length-append number body)) in
      over_lent front room number body back at (omega (arith, length-append number body)) ends front_is (e ∙ fitted_over body (take (length front - at) (drop at front)) free)
