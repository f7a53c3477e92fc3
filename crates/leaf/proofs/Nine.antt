-- Document 02, §9: "Only docids and their differences may take ten bytes". The lengths in an accepted leaf are below 2^63; its height
-- is 0.
use Prim.Native.Nat.{ℕ, ◌≤◌}
use native.Mathlib.Omega.{arith}
use mathlib.Core.Path.{ap}
use mathlib.Core.List.{List, [], ◌∷◌, ◌++◌}
use lib.ListN.{length, drop, length-append}
use Rattle.common.specs.Bounds.{max_index_bytes}
use Rattle.common.proofs.Members.{Each}
use Rattle.varint.specs.Varint.{encode}
use Rattle.varint.proofs.Laws.{nine_bytes}
use Rattle.doclist.specs.Doclist.{encode_list}
use Rattle.doclist.proofs.Nine.{Nine}
use Rattle.leaf.specs.Leaf.{Term, GoodTerm, Terms, shared, sized, term_bytes, encode_terms, LeafIs}

-- of a term: the word's length and that of any part of it (prefix, suffix), and the list's length
abbrev pub TermNine : Term → Type 0
TermNine t = ((n : ℕ) → n ≤ length t.word → Nine n) × Nine (length (encode_list t.entries))

one_term : (count : ℕ) (t : Term) (suffix rest : List ℕ) → GoodTerm count t → length (term_bytes suffix t.entries ++ rest) ≤ max_index_bytes
    → TermNine t × (length rest ≤ max_index_bytes)
one_term count t suffix rest g h =
    let a = length-append (term_bytes suffix t.entries) rest in
    let b = length-append (sized suffix) (sized (encode_list t.entries)) in
    let c = length-append (encode (length (encode_list t.entries))) (encode_list t.entries) in
    ((λ n l. nine_bytes n (omega (arith, g.short)), nine_bytes (length (encode_list t.entries)) (omega arith)), omega arith)

terms_nine : (count : ℕ) (before : List ℕ) (ts : List Term) → Terms count before ts → length (encode_terms before ts) ≤ max_index_bytes → Each TermNine ts
terms_nine count before [] g h = tt
terms_nine count before (t ∷ ts) g h =
    let suffix : List ℕ = drop (shared before t.word) t.word in
    let e = length-append (encode (shared before t.word)) (term_bytes suffix t.entries ++ encode_terms t.word ts) in
    let k = one_term count t suffix (encode_terms t.word ts) g.1 (omega arith) in
    (k.0, terms_nine count t.word ts g.2 k.1)

pub lengths_nine : (count : ℕ) (leaf : List ℕ) (ts : List Term) → LeafIs count leaf ts → length leaf ≤ max_index_bytes → Each TermNine ts
lengths_nine count leaf [] l h = tt
lengths_nine count leaf (t ∷ ts) l h =
    let b = ap length l.bytes in
    let e = length-append (encode 0) (term_bytes t.word t.entries ++ encode_terms t.word ts) in
    let g = l.good.terms in
    let k = one_term count t t.word (encode_terms t.word ts) g.1 (omega arith) in
    (k.0, terms_nine count t.word ts g.2 k.1)
