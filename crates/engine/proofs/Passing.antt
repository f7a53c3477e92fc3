-- Going on after a row: the cursors stay, or the only one that stands before the others passes over rows that lack a word.
use Rattle.std.specs.Prelude.{Option}
use Prim.Native.Nat.{ℕ, ◌≤◌}
use native.Mathlib.Omega.{arith}
use mathlib.Core.Path.{◌≡◌, refl}
use mathlib.Core.List.{List}
use lib.ListN.{get_or}
use lib.Bits.{bit_and}
use Rattle.cursors.specs.Groups.{Group, last_key, NextIs}
use Rattle.cursors.specs.Arrays.{CursorsAre, MinimaAre}
use Rattle.cursors.specs.Frames.{Passes}
use Rattle.cursors.specs.declared.Taken.{Taken}
use Rattle.engine.specs.Rows.{OneCursor, WentOn}
use Rattle.engine.proofs.Reaching.{next_from}

module _ {leaves docids bodies lasts masks : List ℕ} {n : ℕ} {mins : List ℕ} {needed : ℕ} where
  pub stays : (row : Taken) (follows : List ℕ) (groups : List Group) → CursorsAre leaves docids bodies lasts masks follows n groups → MinimaAre docids n mins → NextIs groups row.next → OneCursor docids n row
      → WentOn leaves docids bodies lasts masks follows n mins needed groups row.next
  stays row follows groups c m e l =
      record {
        left = groups;
        cursors_are = c;
        minima = m;
        next_is = e;
        since = 0;
        reached = omega arith;
        same = λ d h. refl;
        lacking = λ d h. absurd (omega arith);
      }

  pub passes : (row : Taken) {docids₁ bodies₁ mins₁ : List ℕ} {next : Option ℕ} → row.taken ≡ 1 → row.rest ≤ last_key → (bit_and (get_or masks row.last 0) needed ≡ needed → ⊥)
      → Passes row.last row.rest n leaves lasts (record { docids = docids; bodies = bodies; mins = mins }) (record { docids = docids₁; bodies = bodies₁; mins = mins₁ }) next
      → (follows : List ℕ) (groups : List Group) → CursorsAre leaves docids bodies lasts masks follows n groups → MinimaAre docids n mins → NextIs groups row.next → OneCursor docids n row
      → WentOn leaves docids₁ bodies₁ lasts masks follows n mins₁ needed groups next
  passes row {next = next} one small lacks pass follows groups c m e lone =
      let l = lone one in
      let p = pass.content masks follows groups c m l.0 small l.1 in
      record {
        left = p.left;
        cursors_are = p.cursors_are;
        minima = p.minima;
        next_is = p.next_is;
        since = row.rest;
        reached = next_from row.rest p.left next small p.reached p.next_is;
        same = p.later;
        lacking = λ d h. record { mask = get_or masks row.last 0; lacks = lacks; all = p.earlier d h };
      }
