-- A row that lacks a word which the query needs does not satisfy it.
use Prim.Native.Nat.{ℕ}
use native.Mathlib.Omega.{arith}
use mathlib.Core.Path.{◌≡◌, sym, ap, ◌∙◌}
use mathlib.Core.Bool.{false}
use mathlib.Core.List.Memᴰ
use mathlib.Core.List.{List, [], ◌∷◌}
use lib.ListN.{length, get_or}
use lib.Bits.{bit_and}
use Rattle.common.proofs.Cases.{false_not_true}
use Rattle.common.proofs.Bits.{all_common}
use Rattle.common.specs.Bits.{contains}
use Rattle.query.specs.declared.Query.{Query}
use Rattle.query.specs.Tree.{Tree, tree_nodes}
use Rattle.meaning.specs.Satisfies.{Live, StandsAt, Satisfies}
use Rattle.row.specs.Row.{Hit, RowIs}
use Rattle.chain.specs.Chains.{Agrees}
use Rattle.evaluate.specs.Needs.{Coded, Needed}
use Rattle.engine.specs.Run.{IsCompiled}
use Rattle.engine.specs.Rows.{Lacking, RowDecided}

-- ---- rows

module _ {query : Query} {needed : ℕ} (needs : Needed query.ops.codes query.ops.len query.words.count needed) where
  pub lacking_not : (tree : Tree) (live : Live) (d : ℕ) {hits : List Hit} → IsCompiled query tree → Agrees (StandsAt live d) (tree_nodes tree) hits → Lacking needed hits
      → Satisfies live d tree → ⊥
  lacking_not tree live d compiled agrees lacking h =
      lacking.lacks
      (all_common needed lacking.mask
      (λ i e.
      let s = needs tree live d coded h i e in
      let t = (agrees i s.inside s.column s.position).1 s.here in
      ap (λ (m : ℕ). contains m i) (sym (lacking.all t.0 t.1)) ∙ t.2))
    where
      coded : Coded tree query.ops.codes query.ops.len query.words.count
      coded =
          record {
            codes_are = ap (λ (q : Query). q.ops.codes) compiled.same;
            len_is = ap (λ (q : Query). q.ops.len) compiled.same;
            count_is = ap (λ (q : Query). q.words.count) compiled.same;
          }

  -- a row that lacks a word
  pub decided_lacking : {leaves starts matched : List ℕ} {count : ℕ} {marks spare : List ℕ}
      → ((leaves starts : List ℕ) (hits : List Hit) → RowIs leaves starts matched hits → count ≡ length hits → Lacking needed hits)
      → RowDecided query leaves starts matched count marks spare false
  decided_lacking {leaves} {starts} lacks tree live docid hits compiled given agrees room =
      (λ e. false_not_true e, λ h. absurd (lacking_not tree live docid compiled agrees (lacks leaves starts hits given.row given.count_is) h))

-- a row of one hit
pub one_lacks : (needed : ℕ) (leaves starts matched : List ℕ) (row : List Hit) → RowIs leaves starts matched row → 1 ≡ length row
    → (bit_and (get_or matched 0 0) needed ≡ needed → ⊥)
    → Lacking needed row
one_lacks needed leaves starts matched [] r e l = absurd (omega arith)
one_lacks needed leaves [] matched (h ∷ []) r e l = absurd r
one_lacks needed leaves (s ∷ starts) [] (h ∷ []) r e l = absurd r
one_lacks needed leaves (s ∷ starts) (m ∷ matched) (h ∷ []) r e l =
    record { mask = m; lacks = l; all = λ k i. ap (λ (x : Hit). x.mask) (Memᴰ.eq_of_singleton i) ∙ sym r.1 }
one_lacks needed leaves starts matched (h ∷ g ∷ row) r e l = absurd (omega arith)
