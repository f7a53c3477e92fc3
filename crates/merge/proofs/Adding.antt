-- The term of the word that was taken, after those that were written: a word without an entry leaves all as it was (`word_none`), any other goes
-- to the end (`word_some`).
use Prim.Native.Nat.{ℕ, ◌+◌, ◌≤◌, ◌<◌}
use native.Mathlib.Omega.{arith}
use mathlib.Core.Path.{◌≡◌, refl, sym, ap, ◌∙◌}
use mathlib.Core.Bool.{Bool, true, false}
use mathlib.Core.Logic.{⊎_elim}
use mathlib.Core.List.{List, [], ◌∷◌, ◌++◌, append_assoc}
use lib.ListN.{length, take, drop, length-append}
use Rattle.common.specs.Bounds.{max_word, max_index_bytes}
use Rattle.common.specs.Bytes.{over}
use Rattle.common.proofs.Cases.{false_not_true, split}
use Rattle.varint.specs.Varint.{encode}
use Rattle.doclist.specs.Doclist.{Entry, encode_list}
use Rattle.leaf.specs.Leaf.{Term, shared, sized, encode_terms}
use Rattle.merge.specs.Words.{with_term, last_word}
use Rattle.merge.specs.Terms.{term_of, TermAt, last_of, WordAdded}
use Rattle.merge.specs.declared.words.Lists.{Lists}
use Rattle.merge.specs.declared.words.Stored.{Stored}
use Rattle.merge.proofs.Merging.{with_some, with_none}
use Rattle.merge.proofs.Stored.{terms_append, last_append}

no_entry : (es : List Entry) → length es ≡ 0 → es ≡ []
no_entry [] e = refl
no_entry (x ∷ es) e = absurd (omega arith)

-- a term at the end adds its bytes
with_bytes : (w : List ℕ) (es : List Entry) (ts : List Term) → 0 < length es → encode_terms [] (with_term w es ts) ≡ encode_terms [] ts ++ term_of (last_word [] ts) w es
with_bytes w es ts h =
    let n : ℕ = shared (last_word [] ts) w in
    ap (encode_terms []) (with_some w es ts h)
    ∙ terms_append [] ts (record { word = w; entries = es })
    ∙ ap (λ (x : List ℕ). encode_terms [] ts ++ x) (sym (append_assoc (encode n) (sized (drop n w)) (sized (encode_list es))))

-- and its word
with_last : (w : List ℕ) (es : List Entry) (ts : List Term) → 0 < length es → last_word [] (with_term w es ts) ≡ w
with_last w es ts h = ap (last_word []) (with_some w es ts h) ∙ last_append [] ts (record { word = w; entries = es })

module _ {keep : Bool} {leaves : List ℕ} {stored : Stored} (word : List ℕ) (n : ℕ) {ls : Lists} {room after : List ℕ} {size : ℕ}
    (put : TermAt keep leaves (last_of stored) (take n word) ls stored.at room after size) (small : stored.at ≤ max_index_bytes) where
  pub word_none : size ≡ 0 → stored.size ≤ max_word
      → WordAdded keep leaves stored word n ls room after (record { word = stored.word; size = stored.size; at = stored.at; more = true })
  word_none z s = record {
    content = λ mask lists ts k b e.
        let t = (put.content mask lists k).measured in
        let none : t.entries ≡ [] = no_entry t.entries (split 0 (length t.entries) (λ h. absurd (omega (arith, (t.some h).0))) (λ h. omega arith)) in
        let w : with_term (take n word) t.entries ts ≡ ts = with_none (take n word) t.entries ts none in
        record {
          entries = t.entries;
          merged = t.merged;
          before = λ _. b ∙ sym (ap (last_word []) w);
          size = λ _. e ∙ sym (ap (λ (us : List Term). length (encode_terms [] us)) w);
          bytes = λ _ base h q. put.frame.none z ∙ h q ∙ sym (ap (λ (us : List Term). over (encode_terms [] us) base) w);
          full = λ f. false_not_true (sym f);
        };
    frame = record { sized = s; small = λ _. small };
  }

  pub word_some : (size ≡ 0 → ⊥) → n ≤ max_word → (more : Bool) → (more ≡ true → stored.at + size ≤ max_index_bytes) → (more ≡ false → max_index_bytes < stored.at + size)
      → WordAdded keep leaves stored word n ls room after (record { word = word; size = n; at = stored.at + size; more = more })
  word_some nz s more fits over_full = record {
    content = λ mask lists ts k b e.
        let a = put.content mask lists k in
        let t = a.measured in
        let es : List Entry = t.entries in
        let w : List ℕ = take n word in
        let h : 0 < length es = split 0 (length es) (λ l. l) (λ l. absurd (nz (t.none (omega arith)))) in
        let term : List ℕ = term_of (last_of stored) w es in
        let same : encode_terms [] (with_term w es ts) ≡ encode_terms [] ts ++ term =
        with_bytes w es ts h ∙ ap (λ (x : List ℕ). encode_terms [] ts ++ term_of x w es) (sym b) in
        let long : length (encode_terms [] (with_term w es ts)) ≡ stored.at + length term = omega (arith, ap length same, length-append (encode_terms [] ts) term) in
        let exact : more ≡ true → size ≡ length term = λ m. ⊎_elim (λ q. q) (λ p. absurd (omega (arith, fits m))) (t.some h).1 in
        record {
          entries = es;
          merged = t.merged;
          before = λ _. sym (with_last w es ts h);
          size = λ m. omega (arith, exact m);
          bytes = λ m base g q.
              a.bytes base (encode_terms [] ts) h (g (omega arith)) e (omega (arith, exact m)) (omega (arith, exact m, fits m))
              ∙ ap (λ (x : List ℕ). over x base) (sym same);
          full = λ f. (over_full f, ⊎_elim (λ q. omega (arith, over_full f)) (λ p. omega arith) (t.some h).1);
        };
    frame = record { sized = s; small = fits };
  }
