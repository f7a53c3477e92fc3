-- How terms are stored one after the other: a term at the end adds its bytes (`terms_append`), and a front is no longer than the whole
-- (`front_shorter`).
use Prim.Native.Nat.{ℕ, ◌≤◌}
use native.Mathlib.Omega.{arith}
use mathlib.Core.Path.{◌≡◌, refl, sym, ap, ◌∙◌}
use mathlib.Core.List.{List, [], ◌∷◌, ◌++◌, append_assoc, append-nil}
use lib.ListN.{length, drop, length-append}
use Rattle.varint.specs.Varint.{encode}
use Rattle.leaf.specs.Leaf.{Term, shared, term_bytes, encode_terms}
use Rattle.merge.specs.Words.{last_word}

-- ---- terms after others

pub terms_more : (before : List ℕ) (ts us : List Term) → encode_terms before (ts ++ us) ≡ encode_terms before ts ++ encode_terms (last_word before ts) us
terms_more before [] us = refl
terms_more before (t ∷ ts) us =
    let p : List ℕ = encode (shared before t.word) in
    let b : List ℕ = term_bytes (drop (shared before t.word) t.word) t.entries in
    ap (λ (r : List ℕ). p ++ (b ++ r)) (terms_more t.word ts us) ∙ sym (simp append_assoc)

-- one more
pub terms_append : (before : List ℕ) (ts : List Term) (t : Term)
    → encode_terms before (ts ++ (t ∷ []))
    ≡ encode_terms before ts ++ (encode (shared (last_word before ts) t.word) ++ term_bytes (drop (shared (last_word before ts) t.word) t.word) t.entries)
terms_append before ts t =
    terms_more before ts (t ∷ [])
    ∙ ap (λ (r : List ℕ). encode_terms before ts ++ (encode (shared (last_word before ts) t.word) ++ r))
    (append-nil (term_bytes (drop (shared (last_word before ts) t.word) t.word) t.entries))

-- whose word is then the last
pub last_append : (before : List ℕ) (ts : List Term) (t : Term) → last_word before (ts ++ (t ∷ [])) ≡ t.word
last_append before [] t = refl
last_append before (u ∷ ts) t = last_append u.word ts t

-- ---- a front is no longer than the whole

pub front_shorter : (before : List ℕ) (ts rest : List Term) → length (encode_terms before ts) ≤ length (encode_terms before (ts ++ rest))
front_shorter before ts rest = omega (arith, ap length (terms_more before ts rest), length-append (encode_terms before ts) (encode_terms (last_word before ts) rest))
