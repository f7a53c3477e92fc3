-- The walk that seeks a word: the terms that it passed have other words, and where it stops the word's list stands or no
-- later term has the word.
use Prim.Native.Nat.{ℕ, ◌+◌, ◌-◌, ◌^◌, ◌≤◌, ◌<◌}
use native.Mathlib.Omega.{arith}
use mathlib.Core.Path.{◌≡◌, refl, sym, ap, ◌∙◌, subst}
use mathlib.Core.List.{List, [], ◌∷◌, ◌++◌, append_assoc, append-nil}
use lib.ListN.{length, drop, length-drop}
use Rattle.common.specs.Bytes.{part}
use Rattle.varint.specs.Varint.{read_at}
use Rattle.varint.specs.declared.Varint.TheVariants as varint
use Rattle.varint.proofs.Laws.{refused_no_value, next_same}
use Rattle.doclist.specs.Doclist.{encode_list}
use Rattle.leaf.specs.Leaf.{Term, Before, shared, encode_terms, encode_leaf, LeafIs, NoTerm}
use Rattle.leaf.specs.Reading.{first_word, head, head_at}
use Rattle.leaf.specs.Rest.{RestIs}
use Rattle.std.specs.Prelude.{None}
use Rattle.leaf.proofs.Words.{before_some, before_irrefl}
use Rattle.leaf.proofs.Heads.{head_sound}
use Rattle.leaf.proofs.Laws.{height_there}
use Rattle.leaf.proofs.Rest.{Meets, leaf_rest, head_complete, head_not_refused, none_left}
use Rattle.leaf.proofs.Once.{passed_over, no_term_append}
use Rattle.lookup.specs.Numbers.{height_numbers, first_numbers, later_numbers, numbers_from, numbers_read}
use Rattle.lookup.specs.Words.{WordFound}
use Rattle.lookup.specs.Order.{OrderIs, StandsIs}
use Rattle.lookup.specs.declared.WordAnswer.TheVariants.{Found, Nothing}
use Rattle.lookup.proofs.Numbers.{numbers_none, numbers_less, numbers_same, numbers_later}
use Rattle.lookup.specs.declared.Order.{Order}
use Rattle.lookup.specs.declared.Order.TheVariants.{Less, Equal, Greater}

-- the walk is at `i`: the terms `done` have other words, and `rest` are stored from there on, after a word that comes
-- before the one sought and shares `same` bytes with it; `read` numbers were read, and the next word has `n`
pub record Seeking (count : ℕ) (s word : List ℕ) (ts : List Term) (read n same i : ℕ) : Type 0 where
  pub done : List Term
  pub rest : List Term
  pub before : List ℕ
  pub stands : ts ≡ done ++ rest
  pub none : NoTerm done word
  pub earlier : Before before word
  pub shares : shared before word ≡ same
  pub here : RestIs count s i before rest []
  pub counted : numbers_read ts word ≡ read + numbers_from n rest word

seeking_start : (count : ℕ) (s word : List ℕ) (ts : List Term) → 0 < length word → LeafIs count s ts
    → Seeking count s word ts height_numbers first_numbers 0 first_word
seeking_start count s word ts h l =
    record {
      done = [];
      rest = ts;
      before = [];
      stands = refl;
      none = tt;
      earlier = before_some word h;
      shares = refl;
      here = leaf_rest count s ts [] l.good (l.bytes ∙ sym (append-nil (encode_leaf ts)));
      counted = refl;
    }

-- the walk begins with the height
module _ (count : ℕ) (s word : List ℕ) (ts : List Term) (small : length s < 2 ^ 63) (h : 0 < length word) (l : LeafIs count s ts) where
  height_is : read_at s 0 ≡ varint.Value 0 first_word
  height_is = height_there count s small ts [] (l.bytes ∙ sym (append-nil (encode_leaf ts)))

  pub height_not_refused {ℓ} : {X : Type ℓ} → read_at s 0 ≡ varint.Refused → X
  height_not_refused e = refused_no_value 0 first_word e height_is

  pub seeking_first : {v first : ℕ} → read_at s 0 ≡ varint.Value v first → Seeking count s word ts height_numbers first_numbers 0 first
  seeking_first e = subst (Seeking count s word ts height_numbers first_numbers 0) (next_same height_is e) (seeking_start count s word ts h l)

module _ (count : ℕ) (s word : List ℕ) (ts : List Term) (read n same i : ℕ) (small : length s < 2 ^ 63) (k : Seeking count s word ts read n same i) where
  pub seeking_end : length s ≤ i → WordFound ts word (Nothing read)
  seeking_end h =
      let e = none_left count s small k.rest k.here h in (
        subst (λ (l : List Term). NoTerm l word) (sym k.stands) (no_term_append k.done k.rest word k.none (subst (λ (l : List Term). NoTerm l word) (sym e) tt)),
        sym (k.counted ∙ ap (λ (l : List Term). read + numbers_from n l word) e ∙ numbers_none read n word),
      )

  -- the next term
  record Next : Type 0 where
    pub term : Term
    pub after : List Term
    pub whole : ts ≡ k.done ++ (term ∷ after)
    pub stored : RestIs count s i k.before (term ∷ after) []
    pub left : numbers_read ts word ≡ read + numbers_from n (term ∷ after) word

  next : i < length s → Next
  next h = go k.rest k.here k.stands k.counted
    where
      go : (rest : List Term) → RestIs count s i k.before rest [] → ts ≡ k.done ++ rest → numbers_read ts word ≡ read + numbers_from n rest word → Next
      go [] r e q = absurd (omega (arith, simp length-drop at (ap length r.bytes)))
      go (t ∷ us) r e q = record { term = t; after = us; whole = e; stored = r; left = q }

  pub seeking_refused {ℓ} : {X : Type ℓ} → i < length s → head_at s i ≡ None → X
  seeking_refused h e = head_not_refused count s small (next h).stored e

  module _ (h : i < length s) {p f m l x : ℕ} (e : head_at s i ≡ head p f m l x) (o : Order) (st : StandsIs word same p (part s f (f + m)) o) where
    -- the next term, as it was met, and how its word stands to the one sought
    record Met : Type 0 where
      pub next_term : Next
      pub meets : Meets count s i k.before next_term.term next_term.after [] p f m l x
      pub order : OrderIs next_term.term.word word o

    met : Met
    met =
        let t = next h in
        let z = head_complete count s small t.stored e in
        record {
          next_term = t;
          meets = z;
          order =
              subst (λ (w : List ℕ). OrderIs w word o) z.word
              (st k.before k.earlier k.shares (subst (Before k.before) (sym z.word) t.stored.good.0)
              (ap (shared k.before) z.word ∙ sym z.shares));
        }

    pub seeking_next : {more : ℕ} → o ≡ Less more → Seeking count s word ts (read + n) later_numbers more x
    seeking_next q =
        let t = met in
        let w = subst (OrderIs t.next_term.term.word word) q t.order in
        record {
          done = k.done ++ (t.next_term.term ∷ []);
          rest = t.next_term.after;
          before = t.next_term.term.word;
          stands = t.next_term.whole ∙ sym (append_assoc k.done (t.next_term.term ∷ []) t.next_term.after);
          none = no_term_append k.done (t.next_term.term ∷ []) word k.none (λ z. before_irrefl word (subst (λ (v : List ℕ). Before v word) z w.0), tt);
          earlier = w.0;
          shares = w.1;
          here = t.meets.rest;
          counted = omega (arith, t.next_term.left, numbers_less n t.next_term.term t.next_term.after word w.0);
        }

    pub seeking_behind : o ≡ Greater → WordFound ts word (Nothing (read + n))
    seeking_behind q =
        let t = met in
        let w = subst (OrderIs t.next_term.term.word word) q t.order in (
          subst (λ (v : List Term). NoTerm v word) (sym t.next_term.whole)
              (no_term_append k.done _ word k.none (passed_over count k.before t.next_term.term t.next_term.after word t.next_term.stored.good w)),
          omega (arith, t.next_term.left, numbers_later n t.next_term.term t.next_term.after word w),
        )

    pub seeking_found : s ≡ encode_leaf ts → o ≡ Equal → WordFound ts word (Found l (x - l) (read + n))
    seeking_found b q =
        let t = met in
        let w = subst (OrderIs t.next_term.term.word word) q t.order in
        let z = t.meets in
        let d = head_sound s i e in (
          record {
            before = k.done;
            term = t.next_term.term;
            after = t.next_term.after;
            stands = t.next_term.whole;
            same_word = w;
            bytes =
                ap (drop l) (sym b)
                ∙ z.list_here
                ∙ ap (λ (v : List ℕ). encode_list t.next_term.term.entries ++ v) (append-nil (encode_terms t.next_term.term.word t.next_term.after));
            whole = omega (arith, z.list_ends);
            inside = omega (arith, d.ends, d.within, ap length b);
          },
          omega (arith, t.next_term.left, numbers_same n t.next_term.term t.next_term.after word w),
        )
