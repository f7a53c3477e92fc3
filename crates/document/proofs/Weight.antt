-- How much room a document's words take: in a text, each word and one byte more fit into the text and one byte more.
use Prim.Native.Nat.{ℕ, suc, ◌+◌, ◌≤◌, ◌<◌}
use native.Mathlib.Omega.{arith}
use mathlib.Core.Path.{◌≡◌}
use mathlib.Core.List.{List, [], ◌∷◌, ◌++◌, map, flatten}
use lib.ListN.{length, get_or, length-append}
use Rattle.common.proofs.Members.{member_at}
use Rattle.tokenizer.specs.Word.{Place, places, word_at, words_of}
use Rattle.tokenizer.proofs.Folds.{word_length}
use Rattle.tokenizer.proofs.Runs.{place_is_run, places_rise}
use Rattle.document.specs.Document.{all_words}

-- each word, and one byte more
abbrev pub weight : List (List ℕ) → ℕ
weight [] = 0
weight (w ∷ ws) = suc (length w) + weight ws

pub weight_append : (us ws : List (List ℕ)) → weight (us ++ ws) ≡ weight us + weight ws
weight_append [] ws = omega arith
weight_append (u ∷ us) ws = let e = weight_append us ws in omega arith

pub weight_count : (ws : List (List ℕ)) → length ws ≤ weight ws
weight_count [] = omega arith
weight_count (w ∷ ws) = let h = weight_count ws in omega arith

-- places that rise with a gap between them, all from `low` on
spread : (s : List ℕ) (d : Place) (ps : List Place) (low : ℕ) → low ≤ length s + 1
    → ((i : ℕ) → i < length ps → (low ≤ (get_or ps i d).start) × ((get_or ps i d).start < (get_or ps i d).end) × ((get_or ps i d).end ≤ length s))
    → ((i j : ℕ) → i < j → j < length ps → (get_or ps i d).end < (get_or ps j d).start)
    → weight (map (word_at s) ps) + low ≤ length s + 1
spread s d [] low l f g = omega arith
spread s d (q ∷ ps) low l f g =
    let h = f 0 (omega arith) in
    let n = word_length s q.start q.end h.2 in
    let r = spread s d ps (suc q.end) (omega (arith, h.2))
    (λ i k. let m = f (suc i) (omega arith) in (g 0 (suc i) (omega arith) (omega arith), m.1, m.2))
    (λ i j k m. g (suc i) (suc j) (omega arith) (omega arith)) in
    omega (arith, h.0, h.1)

pub text_weight : (s : List ℕ) → weight (words_of s) ≤ length s + 1
text_weight s =
    let r = spread s (record { start = 0; end = 0 }) (places s) 0 (omega arith)
    (λ i k. let p = (place_is_run s (get_or (places s) i (record { start = 0; end = 0 }))).0 (member_at (places s) (record { start = 0; end = 0 }) i k) in
    (omega arith, p.some, p.inside))
    (places_rise s (record { start = 0; end = 0 })) in
    omega arith

pub text_count : (s : List ℕ) → length (words_of s) ≤ length s + 1
text_count s = omega (arith, text_weight s, weight_count (words_of s))

-- all columns
pub document_weight : (texts : List (List ℕ)) → weight (all_words texts) ≤ length (flatten texts) + length texts
unfolding flatten
document_weight [] = omega arith
document_weight (t ∷ ts) =
    let r = document_weight ts in
    omega (arith, weight_append (words_of t) (all_words ts), text_weight t, length-append t (flatten ts))
