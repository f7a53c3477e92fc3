-- The tests of the writer say document 01's rules, and so do its answers: each is the first refusal that is due
-- (`write_is`, `write_once`), and what that comes to in the document's words (`answers`).
use Prim.Native.Nat.{ℕ, zero, suc, ◌+◌, ◌≤◌, ◌<◌}
use native.Mathlib.Nat.{not-suc-le-zero, le_of_suc-le-suc}
use native.Mathlib.Omega.{arith}
use lib.IntN.{ℤ}
use mathlib.Core.Path.{◌≡◌, refl, sym, ap, subst, ◌∙◌}
use mathlib.Core.Logic.{◌↔◌, inl, inr}
use mathlib.Core.Bool.{true, false}
use mathlib.Core.List.{List, [], ◌∷◌, ◌++◌}
use lib.ListN.{length, get_or, replicate}
use lib.Dec.{ltb, leb}
use borrow.Author.Tests.{ltb-true, ltb-false, leb-true, leb-false, lt-ltb, le-ltb, le-leb}
use Rattle.common.specs.Pick.{pick, both, either}
use Rattle.common.specs.Bytes.{within}
use Rattle.common.specs.Refusals.{Numbers, numbers, Refusal, FirstDue, Exclusive, room_refusal}
use Rattle.common.proofs.Refusals.{known_by_numbers, first_due_once, exclusive_append, room_exclusive}
use Rattle.common.proofs.Cases.{bool_case, pick_case, both_left, both_right, both_true, false_not_true}
use Rattle.common.specs.Bounds.{max_word}
use Rattle.tokenizer.specs.Word.{words_of}
use Rattle.offsets.specs.Cut.{cuts, cut}
use Rattle.offsets.proofs.Cuts.{cuts_rules, rules_cuts, length_cut}
use Rattle.doclist.specs.Docid.{key_of}
use Rattle.document.specs.Document.{document_leaf}
use Rattle.writer.specs.declared.Answer.{Answer}
use Rattle.writer.specs.declared.Answer.TheVariants.{Written, Shape, Overlong, Room}
use Rattle.writer.specs.Answers.{numbers_of, is_document, DocumentShape, has_overlong, overlong_refusals, first_overlong, IsOverlong, AllShort, Writing, fitted_answer, need_of, refusals, WriteIs, answer_of, held, room_of, WriteExactly}
use Rattle.writer.proofs.LeafWriting.{short_before}

-- ---- the shape

pub shape_rules : (s es : List ℕ) → is_document s es ≡ true → DocumentShape s es
shape_rules s es t =
    let w = both_left (within 1 16 (length es)) (both (leb (length s) 4096) (cuts s es)) t in
    let b = both_right (within 1 16 (length es)) (both (leb (length s) 4096) (cuts s es)) t in
    record {
      ends = cuts_rules s es (both_right (leb (length s) 4096) (cuts s es) b);
      some = leb-true 1 (length es) (both_left (leb 1 (length es)) (leb (length es) 16) w);
      few = leb-true (length es) 16 (both_right (leb 1 (length es)) (leb (length es) 16) w);
      size = leb-true (length s) 4096 (both_left (leb (length s) 4096) (cuts s es) b);
    }

pub rules_shape : (s es : List ℕ) → DocumentShape s es → is_document s es ≡ true
rules_shape s es h =
    both_true (within 1 16 (length es)) (both (leb (length s) 4096) (cuts s es))
    (both_true (leb 1 (length es)) (leb (length es) 16) (le-leb 1 (length es) h.some) (le-leb (length es) 16 h.few))
    (both_true (leb (length s) 4096) (cuts s es) (le-leb (length s) 4096 h.size) (rules_cuts s es h.ends))

-- ---- words over 64 bytes

has_word : (ws : List (List ℕ)) → has_overlong ws ≡ true → (p : ℕ) × (p < length ws) × (max_word < length (get_or ws p []))
has_word [] t = false_not_true t
has_word (w ∷ ws) t =
    bool_case (ltb max_word (length w))
    (λ b. (0, omega arith, ltb-true max_word (length w) b))
    (λ b. let r = has_word ws (subst (λ x. either x (has_overlong ws) ≡ true) b t) in (suc r.0, omega (arith, r.1), r.2))

none_short : (ws : List (List ℕ)) → has_overlong ws ≡ false → (p : ℕ) → p < length ws → length (get_or ws p []) ≤ max_word
none_short [] t p h = absurd (not-suc-le-zero h)
none_short (w ∷ ws) t p h =
    bool_case (ltb max_word (length w))
    (λ b. false_not_true (sym (subst (λ x. either x (has_overlong ws) ≡ false) b t)))
    (λ b. go b p h (none_short ws (subst (λ x. either x (has_overlong ws) ≡ false) b t)))
  where
    go : ltb max_word (length w) ≡ false → (p : ℕ) → p < suc (length ws) → ((q : ℕ) → q < length ws → length (get_or ws q []) ≤ max_word) → length (get_or (w ∷ ws) p []) ≤ max_word
    go b zero h f = ltb-false max_word (length w) b
    go b (suc p) h f = f p (le_of_suc-le-suc h)

short_none : (ws : List (List ℕ)) → ((p : ℕ) → p < length ws → length (get_or ws p []) ≤ max_word) → has_overlong ws ≡ false
short_none ws f = bool_case (has_overlong ws) (λ t. let r = has_word ws t in absurd (omega (arith, f r.0 r.1, r.2))) (λ t. t)

word_has : (ws : List (List ℕ)) (p : ℕ) → p < length ws → max_word < length (get_or ws p []) → has_overlong ws ≡ true
word_has ws p h l = bool_case (has_overlong ws) (λ t. t) (λ t. absurd (omega (arith, none_short ws t p h, l)))

pub first_most : (ts : List (List ℕ)) → first_overlong ts ≤ length ts
first_most [] = omega arith
first_most (t ∷ ts) = let h = first_most ts in pick_case (λ n. n ≤ suc (length ts)) (has_overlong (words_of t)) 0 (suc (first_overlong ts)) (λ _. omega arith) (λ _. omega arith)

-- the first column has one
first_has : (ts : List (List ℕ)) → first_overlong ts < length ts → has_overlong (words_of (get_or ts (first_overlong ts) [])) ≡ true
first_has [] h = absurd (not-suc-le-zero h)
first_has (t ∷ ts) h =
    bool_case (has_overlong (words_of t))
    (λ b. rw b b)
    (λ b. rw b (first_has ts (le_of_suc-le-suc (subst (λ x. suc (pick x 0 (suc (first_overlong ts))) ≤ suc (length ts)) b h))))

-- a column that has one, with none before it, is the first
first_is : (ts : List (List ℕ)) (c : ℕ) → c < length ts → has_overlong (words_of (get_or ts c [])) ≡ true → ((b : ℕ) → b < c → has_overlong (words_of (get_or ts b [])) ≡ false) → first_overlong ts ≡ c
first_is [] c h t f = absurd (not-suc-le-zero h)
first_is (u ∷ ts) zero h t f = rw t refl
first_is (u ∷ ts) (suc c) h t f = rw (f 0 (omega arith)) (ap suc (first_is ts c (le_of_suc-le-suc h) t (λ b k. f (suc b) (omega arith))))

pub overlong_is : (ts : List (List ℕ)) → first_overlong ts < length ts → IsOverlong ts (first_overlong ts)
overlong_is ts h =
    let r = has_word (words_of (get_or ts (first_overlong ts) [])) (first_has ts h) in
    record {
      word = get_or (words_of (get_or ts (first_overlong ts) [])) r.0 [];
      position = r.0;
      stands = record { column = h; position = r.1; word = refl };
      long = r.2;
      first = λ w b p l st. subst (λ x. length x ≤ max_word) st.word (none_short (words_of (get_or ts b [])) (short_before ts b l) p st.position);
    }

pub is_overlong : (ts : List (List ℕ)) (c : ℕ) → IsOverlong ts c → (first_overlong ts ≡ c) × (c < length ts)
is_overlong ts c o = (
  first_is ts c o.stands.column
      (word_has (words_of (get_or ts c [])) o.position o.stands.position (subst (λ x. max_word < length x) (sym o.stands.word) o.long))
      (λ b l. short_none (words_of (get_or ts b [])) (λ p k. o.first (get_or (words_of (get_or ts b [])) p []) b p l (record { column = less b l; position = k; word = refl }))),
  o.stands.column,
)
  where
    less : (b : ℕ) → b < c → b < length ts
    less b l = omega (arith, o.stands.column)

pub short_all : (ts : List (List ℕ)) → first_overlong ts ≡ length ts → AllShort ts
short_all ts e w c p st =
    subst (λ x. length x ≤ max_word) st.word (none_short (words_of (get_or ts c [])) (short_before ts c (omega (arith, st.column))) p st.position)

pub all_short : (ts : List (List ℕ)) → AllShort ts → first_overlong ts ≡ length ts
all_short ts f =
    bool_case (ltb (first_overlong ts) (length ts))
    (λ t. let o = overlong_is ts (ltb-true (first_overlong ts) (length ts) t) in absurd (omega (arith, o.long, f o.word (first_overlong ts) o.position o.stands)))
    (λ t. omega (arith, ltb-false (first_overlong ts) (length ts) t, first_most ts))

-- ---- answers with the same numbers are the same

answer_with : ℕ → ℕ → Answer
answer_with zero n = Written n
answer_with (suc zero) n = Shape
answer_with (suc (suc zero)) n = Shape
answer_with (suc (suc (suc zero))) n = Shape
answer_with (suc (suc (suc (suc zero)))) n = Room n
answer_with (suc (suc (suc (suc (suc k))))) n = Overlong n

with_numbers : (r : Answer) → answer_with (numbers_of r).number (numbers_of r).second ≡ r
unfolding answer_with
with_numbers (Written n) = refl
with_numbers Shape = refl
with_numbers (Overlong c) = refl
with_numbers (Room n) = refl

-- ---- the answers

module _ (docid : ℤ) (s es : List ℕ) (room : ℕ) where
  answers_shape : (DocumentShape s es → ⊥) → WriteExactly docid s es room Shape
  answers_shape n = record {
    shape = (λ e. n, λ _. refl);
    overlong = λ c. (λ e. absurd (omega (arith, ap (λ (q : Answer). (numbers_of q).number) e)), λ k. absurd (n k.0));
    no_room = λ m. (λ e. absurd (omega (arith, ap (λ (q : Answer). (numbers_of q).number) e)), λ k. absurd (n k.0));
    written = λ m. (λ e. absurd (omega (arith, ap (λ (q : Answer). (numbers_of q).number) e)), λ k. absurd (n k.0));
  }

  module _ (h : DocumentShape s es) where
    answers_overlong : first_overlong (cut s es) < length (cut s es) → WriteExactly docid s es room (Overlong (first_overlong (cut s es)))
    answers_overlong l = record {
      shape = (λ e. absurd (omega (arith, ap (λ (q : Answer). (numbers_of q).number) e)), λ n. absurd (n h));
      overlong = λ c. (
        λ e. (h, subst (IsOverlong (cut s es)) (ap (λ (q : Answer). (numbers_of q).second) e) (overlong_is (cut s es) l)),
        λ k. ap Overlong (is_overlong (cut s es) c k.1).0,
      );
      no_room = λ m. (λ e. absurd (omega (arith, ap (λ (q : Answer). (numbers_of q).number) e)), λ k. absurd (omega (arith, l, all_short (cut s es) k.1)));
      written = λ m. (λ e. absurd (omega (arith, ap (λ (q : Answer). (numbers_of q).number) e)), λ k. absurd (omega (arith, l, all_short (cut s es) k.1)));
    }

    module _ (a : first_overlong (cut s es) ≡ length (cut s es)) where
      not_overlong : (c : ℕ) → IsOverlong (cut s es) c → ⊥
      not_overlong c o = let k = is_overlong (cut s es) c o in omega (arith, k.0, k.1)

      answers_room : room < need_of docid s es → WriteExactly docid s es room (Room (need_of docid s es))
      answers_room l = record {
        shape = (λ e. absurd (omega (arith, ap (λ (q : Answer). (numbers_of q).number) e)), λ n. absurd (n h));
        overlong = λ c. (λ e. absurd (omega (arith, ap (λ (q : Answer). (numbers_of q).number) e)), λ k. absurd (not_overlong c k.1));
        no_room = λ m. (λ e. (h, short_all (cut s es) a, sym (ap (λ (q : Answer). (numbers_of q).second) e), omega (arith, ap (λ (q : Answer). (numbers_of q).second) e)), λ k. ap Room (sym k.2));
        written = λ m. (λ e. absurd (omega (arith, ap (λ (q : Answer). (numbers_of q).number) e)), λ k. absurd (omega (arith, k.2, k.3)));
      }

      answers_written : need_of docid s es ≤ room → WriteExactly docid s es room (Written (need_of docid s es))
      answers_written l = record {
        shape = (λ e. absurd (omega (arith, ap (λ (q : Answer). (numbers_of q).number) e)), λ n. absurd (n h));
        overlong = λ c. (λ e. absurd (omega (arith, ap (λ (q : Answer). (numbers_of q).number) e)), λ k. absurd (not_overlong c k.1));
        no_room = λ m. (λ e. absurd (omega (arith, ap (λ (q : Answer). (numbers_of q).number) e)), λ k. absurd (omega (arith, k.2, k.3)));
        written = λ m. (λ e. (h, short_all (cut s es) a, sym (ap (λ (q : Answer). (numbers_of q).second) e), omega (arith, ap (λ (q : Answer). (numbers_of q).second) e)), λ k. ap Written (sym k.2));
      }

  -- the answer says which rule holds
  pub answers : WriteExactly docid s es room (answer_of docid s es room)
  answers =
      let n = length_cut s es in
      bool_case (is_document s es)
      (λ t. let h = shape_rules s es t in
      bool_case (ltb (first_overlong (cut s es)) (length es))
      (λ u. rw (t, u) (answers_overlong h (omega (arith, ltb-true (first_overlong (cut s es)) (length es) u))))
      (λ u. let a : first_overlong (cut s es) ≡ length (cut s es) = omega (arith, ltb-false (first_overlong (cut s es)) (length es) u, first_most (cut s es)) in
      bool_case (leb (need_of docid s es) room)
      (λ v. rw (t, u, v) (answers_written h a (leb-true (need_of docid s es) room v)))
      (λ v. rw (t, u, v) (answers_room h a (leb-false (need_of docid s es) room v)))))
      (λ t. rw t (answers_shape (λ h. false_not_true (sym t ∙ rules_shape s es h))))

-- ---- the first refusal that is due

module _ (fs : List Refusal) (accepted : Numbers) where
  -- no column has a long word: the refusals after decide
  none_long : (k : ℕ) (ts : List (List ℕ)) (m : Numbers) → first_overlong ts ≡ length ts → FirstDue fs accepted m → FirstDue (overlong_refusals k ts ++ fs) accepted m
  none_long k [] m e d = d
  none_long k (t ∷ ts) m e d =
      bool_case (has_overlong (words_of t))
      (λ b. absurd (omega (arith, subst (λ x. pick x 0 (suc (first_overlong ts)) ≡ suc (length ts)) b e)))
      (λ b. inr (none_short (words_of t) b, none_long (suc k) ts m (omega (arith, subst (λ x. pick x 0 (suc (first_overlong ts)) ≡ suc (length ts)) b e)) d))

  -- column `j` is the first that has one
  first_long : (k j : ℕ) (ts : List (List ℕ)) → j ≡ k + first_overlong ts → first_overlong ts < length ts → FirstDue (overlong_refusals k ts ++ fs) accepted (numbers 5 j)
  first_long k j [] e h = absurd (not-suc-le-zero h)
  first_long k j (t ∷ ts) e h =
      bool_case (has_overlong (words_of t))
      (λ b.
      let r = has_word (words_of t) b in
      let q : j ≡ k = omega (arith, ap (λ x. pick x 0 (suc (first_overlong ts))) b) in
      inl (record { position = r.0; inside = r.1; long = r.2 }, ap (numbers 5) q))
      (λ b.
      let q : first_overlong (t ∷ ts) ≡ suc (first_overlong ts) = ap (λ x. pick x 0 (suc (first_overlong ts))) b in
      inr (none_short (words_of t) b, first_long (suc k) j ts (omega arith) (omega arith)))

overlong_exclusive : (k : ℕ) (ts : List (List ℕ)) → Exclusive (overlong_refusals k ts)
overlong_exclusive k [] = tt
overlong_exclusive k (t ∷ ts) = (λ d p. let n = p d.position d.inside in omega (arith, d.long), overlong_exclusive (suc k) ts)

module _ (docid : ℤ) (s es : List ℕ) (room : ℕ) where
  pub refusals_exclusive : Exclusive (refusals docid s es room)
  refusals_exclusive =
      (λ n h. n h, exclusive_append (overlong_refusals 0 (cut s es)) (room_refusal room (need_of docid s es) ∷ []) (overlong_exclusive 0 (cut s es)) (room_exclusive, tt))

  -- the answer of the definition is the first that is due
  pub write_is : WriteIs docid s es room (answer_of docid s es room)
  write_is =
      let n = length_cut s es in
      bool_case (is_document s es)
      (λ t. let h = shape_rules s es t in
      bool_case (ltb (first_overlong (cut s es)) (length es))
      (λ u. rw (t, u) (inr (h, first_long _ _ 0 (first_overlong (cut s es)) (cut s es) (omega arith) (omega (arith, ltb-true (first_overlong (cut s es)) (length es) u)))))
      (λ u. let a : first_overlong (cut s es) ≡ length (cut s es) = omega (arith, ltb-false (first_overlong (cut s es)) (length es) u, first_most (cut s es)) in
      bool_case (leb (need_of docid s es) room)
      (λ v. rw (t, u, v) (inr (h, none_long _ _ 0 (cut s es) _ a (inr (leb-true (need_of docid s es) room v, refl)))))
      (λ v. rw (t, u, v) (inr (h, none_long _ _ 0 (cut s es) _ a (inl (leb-false (need_of docid s es) room v, refl)))))))
      (λ t. rw t (inl (λ h. false_not_true (sym t ∙ rules_shape s es h), refl)))

  -- and no other answer is
  pub write_once : (a : Answer) → WriteIs docid s es room a → answer_of docid s es room ≡ a
  write_once a c =
      known_by_numbers numbers_of answer_with with_numbers (answer_of docid s es room) a (first_due_once (refusals docid s es room) refusals_exclusive (numbers 0 (need_of docid s es)) _ _ write_is c)

-- ---- what the function returns

module _ (docid : ℤ) (s es : List ℕ) (size : ℕ) where
  -- what the contract asks of an answer and of the room
  abbrev Promise : Answer → List ℕ → Type 0
  Promise r after = (r ≡ answer_of docid s es size) × ((after ≡ room_of docid s es size) × ((a : Answer) → (r ≡ a) ↔ WriteIs docid s es size a))

  kept : (r : Answer) (after : List ℕ) → r ≡ answer_of docid s es size → after ≡ held size (document_leaf (key_of docid) (cut s es)) r → Promise r after
  kept r after e q = (
    e,
    (
      q ∙ ap (held size (document_leaf (key_of docid) (cut s es))) e,
      λ a. (λ p. subst (WriteIs docid s es size) (sym e ∙ p) (write_is docid s es size), λ c. e ∙ write_once docid s es size a c),
    ),
  )

  pub kept_shape : is_document s es ≡ false → (after : List ℕ) → after ≡ replicate size 0 → Promise Shape after
  kept_shape t after z = kept Shape after (rw t refl) z

  module _ (t : is_document s es ≡ true) (n : ℕ) (e : n ≡ first_overlong (cut s es)) where
    pub kept_overlong : n < length es → (after : List ℕ) → after ≡ replicate size 0 → Promise (Overlong n) after
    kept_overlong h after z = kept (Overlong n) after (rw (t, lt-ltb (first_overlong (cut s es)) (length es) (omega arith)) (ap Overlong e)) z

    module _ (h : length es ≤ n) where
      pub writing : Writing s es
      writing =
          let k = shape_rules s es t in
          record {
            ends = k.ends;
            some = k.some;
            few = k.few;
            size = k.size;
            short = omega (arith, first_most (cut s es), length_cut s es);
          }

      pub kept_leaf : (d : ℕ) → d ≡ key_of docid → (m : ℕ) → m ≡ size → (r : Answer) (after : List ℕ)
          → (r ≡ fitted_answer (length (document_leaf d (cut s es))) m) × (after ≡ held m (document_leaf d (cut s es)) r) → Promise r after
      kept_leaf d q m k r after w =
          kept r after
          (w.0
          ∙ ap (λ x. fitted_answer (length (document_leaf x (cut s es))) m) q
          ∙ ap (fitted_answer (need_of docid s es)) k
          ∙ sym (rw (t, le-ltb (first_overlong (cut s es)) (length es) (omega arith)) refl))
          (w.1 ∙ ap (λ x. held m (document_leaf x (cut s es)) r) q ∙ ap (λ x. held x (document_leaf (key_of docid) (cut s es)) r) k)
