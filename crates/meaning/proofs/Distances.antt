-- Document 02, §7: "a query that writes every distance gives the same list as before". What a NEAR without a number stands for
-- does not matter to a query that has none.
use Prim.Native.Nat.{ℕ, ◌≤◌}
use mathlib.Core.Path.{◌≡◌, refl, subst}
use mathlib.Core.Logic.{◌↔◌, inl, inr, ⊎_elim}
use mathlib.Core.List.{List, [], ◌∷◌}
use Rattle.leaf.specs.Leaf.{Term}
use Rattle.lexer.specs.Token.{Distance, bare, written}
use Rattle.query.specs.Tree.{OR, AND, NOT, Link, Tree, leaf, joined}
use Rattle.meaning.specs.Satisfies.{Standing, StandsAt, Occurrence, between, distance_with, NearbyWith, ChosenWith, HoldsWith, SatisfiesWith}
use Rattle.meaning.specs.Written.{IsWritten, WrittenLinks, WrittenTree}
use Rattle.meaning.specs.Index.{live}
use Rattle.meaning.specs.Listing.{AnswersWith}
use Rattle.meaning.proofs.Lists.{lists_unique, lists_agree}

distance_same : (m n : ℕ) (d : Distance) → IsWritten d → distance_with m d ≡ distance_with n d
distance_same m n bare w = absurd w
distance_same m n (written k) w = refl

nearby_same : (m n : ℕ) (d : Distance) (a b : Occurrence) → IsWritten d → NearbyWith m d a b → NearbyWith n d a b
nearby_same m n d a b w h =
    record {
      same_column = h.same_column;
      close = subst (λ (k : ℕ). between a b ≤ k) (distance_same m n d w) h.close;
      apart = h.apart;
    }

chosen_same : (m n : ℕ) (stands : Standing) (o : Occurrence) (ls : List Link) → WrittenLinks ls → ChosenWith m stands o ls → ChosenWith n stands o ls
chosen_same m n stands o [] w h = tt
chosen_same m n stands o (l ∷ ls) w h =
    (h.0, h.1, nearby_same m n l.distance o h.0 w.0 h.2, chosen_same m n stands h.0 ls w.1 h.3)

pub holds_with_same : (m n : ℕ) (stands : Standing) (t : Tree) → WrittenTree t → HoldsWith m stands t ↔ HoldsWith n stands t
holds_with_same m n stands (leaf c) w =
    (λ h. (h.0, h.1, chosen_same m n stands h.0 c.links w h.2), λ h. (h.0, h.1, chosen_same n m stands h.0 c.links w h.2))
holds_with_same m n stands (joined OR x y) w =
    let l = holds_with_same m n stands x w.0 in
    let r = holds_with_same m n stands y w.1 in
    (⊎_elim (λ h. inl (l.0 h)) (λ h. inr (r.0 h)), ⊎_elim (λ h. inl (l.1 h)) (λ h. inr (r.1 h)))
holds_with_same m n stands (joined AND x y) w =
    let l = holds_with_same m n stands x w.0 in
    let r = holds_with_same m n stands y w.1 in
    (λ h. (l.0 h.0, r.0 h.1), λ h. (l.1 h.0, r.1 h.1))
holds_with_same m n stands (joined NOT x y) w =
    let l = holds_with_same m n stands x w.0 in
    let r = holds_with_same m n stands y w.1 in
    (λ h. (l.0 h.0, λ k. h.1 (r.1 k)), λ h. (l.1 h.0, λ k. h.1 (r.0 k)))

pub answers_with_same : (m n : ℕ) (leaves : List (List Term)) (t : Tree) (docids : List ℕ)
    → WrittenTree t → AnswersWith m leaves t docids → AnswersWith n leaves t docids
answers_with_same m n leaves t docids w h =
    lists_agree (λ d. SatisfiesWith m (live leaves) d t) (λ d. SatisfiesWith n (live leaves) d t) docids (λ d. holds_with_same m n (StandsAt (live leaves) d) t w) h

-- the lists for any two such distances are the same
pub lists_same : (m n : ℕ) (leaves : List (List Term)) (t : Tree) (ds es : List ℕ) → WrittenTree t → AnswersWith m leaves t ds → AnswersWith n leaves t es → ds ≡ es
lists_same m n leaves t ds es w h k = lists_unique (λ d. SatisfiesWith n (live leaves) d t) ds es (answers_with_same m n leaves t ds w h) k
