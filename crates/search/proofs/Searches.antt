-- What a search answers in each case, refusal by refusal, from what the tests on its way told.
use Prim.Native.Nat.{ℕ, ◌≤◌, ◌<◌}
use native.Mathlib.Omega.{arith}
use mathlib.Core.Path.{◌≡◌, sym, ap, ◌∙◌, subst}
use mathlib.Core.Logic.{◌↔◌, inl, inr}
use mathlib.Core.Bool.{Bool, true, false}
use Rattle.std.specs.Prelude.{Option, None, Some, is_some}
use mathlib.Core.List.{List, [], ◌∷◌, ◌++◌, Permᴰ}
use lib.IntN.{ℤ}
use lib.ListN.{length}
use lib.Seq.{take_all}
use Rattle.common.specs.Refusals.{numbers, FirstDue, room_refusal}
use Rattle.common.specs.Rooms.{zeros}
use Rattle.common.proofs.Cases.{false_not_true}
use Rattle.offsets.proofs.Cuts.{length_cut}
use Rattle.directory.specs.Order.{up_to, OrderIs}
use Rattle.directory.proofs.Placing.{sorted_length}
use Rattle.leaf.specs.Leaf.{Term, AreLeaves}
use Rattle.leaf.specs.Answers.{leaf_refusals}
use Rattle.query.specs.Tree.{Tree}
use Rattle.query.specs.declared.Query.{Query}
use Rattle.query.specs.Reading.{Compiles}
use Rattle.query.proofs.Bounds.{reads_words, reads_filled}
use Rattle.meaning.specs.Listing.{Answers}
use Rattle.engine.specs.Run.{Ran}
use Rattle.engine.proofs.Rooms.{fitted_all, length_fitted}
use Rattle.search.specs.Search.{numbers_of, Input, column_names, column_count, leaf_bytes, leaf_pairs, ShapeRight, IsQuery, IndexIs, refusals, room_for, Searched}
use Rattle.search.specs.Checking.{SoundLeaves}
use Rattle.search.specs.declared.Answer.{Answer}
use Rattle.search.specs.declared.Answer.TheVariants as answer
use Rattle.search.proofs.Indexes.{pairs_count, index_ordered}
use Rattle.search.proofs.Order.{leaf_at, none_broken, first_broken}

-- the room was cleared for the answer `a`
abbrev pub RefusedWith : ℕ → Answer → Answer → List ℤ → Type 0
RefusedWith n a r room = (r ≡ a) × (room ≡ zeros n)

same_query : {a b : Query} → Some a ≡ Some b → a ≡ b
same_query e = cc

-- a search in a room of `n` numbers answered `r` and left `room`; the test of its shape gave `good`
module _ (x : Input) (n : ℕ) (r : Answer) (room : List ℤ) (good : Bool) (test : (good ≡ true) ↔ ShapeRight x) where
  pub shape_refused : good ≡ false → RefusedWith n answer.Shape r room → Searched x n r room
  shape_refused e a =
      let h : ShapeRight x → ⊥ = λ s. false_not_true (sym e ∙ test.1 s) in
      record {
        docids = [];
        listed = λ tree index s q is. absurd (h s);
        answered = inl (h, ap numbers_of a.0);
        left = a.1 ∙ sym (ap (room_for n []) a.0);
      }

  -- the shape is right, and the query was read
  module _ (right : good ≡ true) (reading : Option Query) (compiles : Compiles (column_names x) x.query reading) where
    shape : ShapeRight x
    shape = test.0 right

    pub query_refused : reading ≡ None → RefusedWith n answer.Query r room → Searched x n r room
    query_refused e a =
        let h : (tree : Tree) → IsQuery x tree → ⊥ = λ tree q. false_not_true (sym (ap is_some e) ∙ compiles.accepted.1 (tree, q)) in
        record {
          docids = [];
          listed = λ tree index s q is. absurd (h tree q);
          answered = inr (shape, inl (h, ap numbers_of a.0));
          left = a.1 ∙ sym (ap (room_for n []) a.0);
        }

    -- it is a query, and `i` leaves are sound
    module _ (compiled : Query) (ok : reading ≡ Some compiled) (i : ℕ) (checked : SoundLeaves (length x.name_ends) (leaf_bytes x) i) where
      -- the shape and the query are right: the leaves decide, and then the room
      behind_query : (need : ℕ) → FirstDue (leaf_refusals (column_count x) 0 (leaf_bytes x) ++ room_refusal n need ∷ []) (numbers 0 need) (numbers_of r) → FirstDue (refusals x n need) (numbers 0 need) (numbers_of r)
      behind_query need d = inr (shape, inr (compiles.accepted.0 (ap is_some ok), d))

      pub leaf_refused : i < length x.leaf_ends → RefusedWith n (answer.Leaf i) r room → Searched x n r room
      leaf_refused h a =
          let l = length_cut x.leaves x.leaf_ends in
          let b : i < length (leaf_bytes x) = omega arith in
          let d = first_broken (column_count x) (room_refusal n 0 ∷ []) (numbers 0 0) 0 i i (leaf_bytes x) checked.index (omega arith) checked.sound b (checked.broken b) in
          record {
            docids = [];
            listed = λ tree index s q is. let k = leaf_at (column_count x) (leaf_bytes x) is.contents i is.are_leaves b in absurd (checked.broken b k.0 k.1);
            answered = behind_query 0 (subst (FirstDue (leaf_refusals (column_count x) 0 (leaf_bytes x) ++ room_refusal n 0 ∷ []) (numbers 0 0)) (sym (ap numbers_of a.0)) d);
            left = a.1 ∙ sym (ap (room_for n []) a.0);
          }

      -- all leaves are sound, and the engine ran through them by age
      module _ (all : length x.leaf_ends ≤ i) (order : List ℕ) (by_age : OrderIs (leaf_pairs x) order) (found : ℕ) (before : List ℤ)
          (run : Ran compiled x.leaves x.leaf_ends order n found before) where
        leaves : AreLeaves (column_count x) (leaf_bytes x) checked.index
        leaves =
            let l = length_cut x.leaves x.leaf_ends in
            subst (λ bs. AreLeaves (column_count x) bs checked.index) (take_all i (leaf_bytes x) (omega arith)) checked.sound

        every : (tree : Tree) (index : List (List Term)) → ShapeRight x → IsQuery x tree → IndexIs x index → Answers index tree run.docids
        every tree index s q is =
            let c = sorted_length by_age ∙ pairs_count x.leaf_ends x.levels x.indexes s.dated in
            run.listed (length x.name_ends) tree index
            (record { fit = record { filled = reads_filled q; few = reads_words q }; same = same_query (sym ok ∙ compiles.content tree q) })
            (record {
              cuts = s.leaf_cuts;
              few = omega (arith, s.few_leaves);
              small = s.few_bytes;
              each_once = subst (λ k. Permᴰ (up_to k) order) (pairs_count x.leaf_ends x.levels x.indexes s.dated) by_age.each_once;
              are = index_ordered (column_count x) x.leaves x.leaf_ends x.levels x.indexes s.dated order by_age index is;
            })

        behind_leaves : FirstDue (room_refusal n (length run.docids) ∷ []) (numbers 0 (length run.docids)) (numbers_of r)
            → FirstDue (refusals x n (length run.docids)) (numbers 0 (length run.docids)) (numbers_of r)
        behind_leaves d =
            behind_query (length run.docids)
            (none_broken (column_count x) (room_refusal n (length run.docids) ∷ []) (numbers 0 (length run.docids)) 0 (leaf_bytes x) checked.index (numbers_of r) leaves d)

        -- the run kept the room's length
        kept : length before ≡ n
        kept = ap length run.left ∙ length_fitted n run.docids

        pub room_refused : length before < found → RefusedWith (length before) (answer.Room found) r room → Searched x n r room
        room_refused h a =
            let c = run.counted in
            let k = kept in
            record {
              docids = run.docids;
              listed = every;
              answered = behind_leaves (inl (omega arith, ap numbers_of a.0 ∙ ap (numbers 4) c));
              left = a.1 ∙ ap zeros k ∙ sym (ap (room_for n run.docids) a.0);
            }

        pub all_found : found ≤ length before → r ≡ answer.Found found → room ≡ before → Searched x n r room
        all_found h e m =
            let c = run.counted in
            let k = kept in
            record {
              docids = run.docids;
              listed = every;
              answered = behind_leaves (inr (omega arith, ap numbers_of e ∙ ap (numbers 0) c));
              left = m ∙ run.left ∙ fitted_all n run.docids (omega arith) ∙ sym (ap (room_for n run.docids) e);
            }
