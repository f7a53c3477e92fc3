-- How the code reads a run, test by test.
use Prim.Native.Nat.{ℕ, ◌-◌, ◌≤◌}
use mathlib.Core.Path.{◌≡◌, sym}
use mathlib.Core.Bool.{true}
use mathlib.Core.List.{List}
use lib.ListN.{length, take, drop}
use lib.Dec.{eqb}
use borrow.Author.Tests.{le-leb}
use Rattle.common.specs.Bytes.{span, same}
use Rattle.common.proofs.Parts.{part_all}
use Rattle.tokenizer.specs.Word.{is_digit}
use Rattle.lexer.specs.Tokens.{bytes_near_slash}
use Rattle.lexer.specs.Lexing.{is_near_written}
use Rattle.lexer.proofs.Stretches.{each_span}

-- ---- NEAR with digits

module _ (s : List ℕ) where
  pub near_digits : (n : ℕ) → 6 ≤ length s → length s ≤ 9 → same (take 5 s) bytes_near_slash ≡ true → n ≡ span is_digit (take (length s - 5) (drop 5 s))
      → eqb n (length (take (length s - 5) (drop 5 s))) ≡ is_near_written s
  unfolding is_near_written
  near_digits n l h e d =
      rw (le-leb 6 (length s) l, le-leb (length s) 9 h, e, d, part_all s 5) (sym (each_span is_digit (drop 5 s)))
