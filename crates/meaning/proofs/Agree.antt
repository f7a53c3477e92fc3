-- A query looks only at its own words, in the columns that their phrases allow: two rows in which these stand at the same
-- places satisfy it or not together.
use Prim.Native.Nat.{ℕ, suc}
use mathlib.Core.Path.{◌≡◌, refl, sym, subst}
use mathlib.Core.Bool.{true}
use mathlib.Core.Logic.{◌↔◌, inl, inr, ⊎_elim}
use mathlib.Core.List.{List, [], ◌∷◌, Memᴰ}
use Rattle.common.specs.Bits.{contains}
use Rattle.lexer.specs.Token.{QueryWord, Phrase}
use Rattle.query.specs.Tree.{OR, AND, NOT, Link, Chain, Tree, leaf, joined}
use Rattle.meaning.specs.Satisfies.{Live, Matches, StandsAt, Standing, Occurrence, Consecutive, Occurs, Chosen, ChainHolds, Holds, Satisfies}

-- ---- where a query looks

-- what a phrase, a chain, a tree sees of two rows is the same
abbrev pub SamePhrase : Standing → Standing → Phrase → Type 0
SamePhrase one other p =
    (w : QueryWord) → Memᴰ w p.words → (c position : ℕ) → contains p.columns c ≡ true → one w c position ↔ other w c position

abbrev pub SameLinks : Standing → Standing → List Link → Type 0
SameLinks one other [] = Unit {0}
SameLinks one other (l ∷ ls) = SamePhrase one other l.phrase × SameLinks one other ls

abbrev pub SameTree : Standing → Standing → Tree → Type 0
SameTree one other (leaf c) = SamePhrase one other c.first × SameLinks one other c.links
SameTree one other (joined o a b) = SameTree one other a × SameTree one other b

turned_links : (one other : Standing) (ls : List Link) → SameLinks one other ls → SameLinks other one ls
turned_links one other [] a = tt
turned_links one other (l ∷ ls) a = (λ w m c p h. ((a.0 w m c p h).1, (a.0 w m c p h).0), turned_links one other ls a.1)

turned : (one other : Standing) (t : Tree) → SameTree one other t → SameTree other one t
turned one other (leaf c) a = (λ w m k p h. ((a.0 w m k p h).1, (a.0 w m k p h).0), turned_links one other c.links a.1)
turned one other (joined o x y) a = (turned one other x a.0, turned one other y a.1)

-- ---- the law

module _ (one other : Standing) where
  carried : (ws : List QueryWord) (c p : ℕ) → ((w : QueryWord) → Memᴰ w ws → (position : ℕ) → one w c position → other w c position)
      → Consecutive one ws c p → Consecutive other ws c p
  carried [] c p a h = tt
  carried (w ∷ ws) c p a h = (a w (Memᴰ.head refl) p h.0, carried ws c (suc p) (λ v m. a v (Memᴰ.tail m)) h.1)

  occurs : (p : Phrase) (o : Occurrence) → SamePhrase one other p → Occurs one p o → Occurs other p o
  occurs p o a h =
      record {
        allowed = h.allowed;
        consecutive = carried p.words o.column o.first (λ w m position. (a w m o.column position h.allowed).0) h.consecutive;
        ends = h.ends;
      }

  chosen : (ls : List Link) (o : Occurrence) → SameLinks one other ls → Chosen one o ls → Chosen other o ls
  chosen [] o a h = tt
  chosen (l ∷ ls) o a h = (h.0, occurs l.phrase h.0 a.0 h.1, h.2, chosen ls h.0 a.1 h.3)

  chain : (c : Chain) → SamePhrase one other c.first → SameLinks one other c.links → ChainHolds one c → ChainHolds other c
  chain c a b h = (h.0, occurs c.first h.0 a h.1, chosen c.links h.0 b h.2)

-- either both rows satisfy the query or neither does
pub holds_same : (one other : Standing) (t : Tree) → SameTree one other t → Holds one t ↔ Holds other t
holds_same one other (leaf c) a =
    let b = turned one other (leaf c) a in
    (chain one other c a.0 a.1, chain other one c b.0 b.1)
holds_same one other (joined OR x y) a =
    let l = holds_same one other x a.0 in
    let r = holds_same one other y a.1 in
    (⊎_elim (λ h. inl (l.0 h)) (λ h. inr (r.0 h)), ⊎_elim (λ h. inl (l.1 h)) (λ h. inr (r.1 h)))
holds_same one other (joined AND x y) a =
    let l = holds_same one other x a.0 in
    let r = holds_same one other y a.1 in
    (λ h. (l.0 h.0, r.0 h.1), λ h. (l.1 h.0, r.1 h.1))
holds_same one other (joined NOT x y) a =
    let l = holds_same one other x a.0 in
    let r = holds_same one other y a.1 in
    (λ h. (l.0 h.0, λ k. h.1 (r.1 k)), λ h. (l.1 h.0, λ k. h.1 (r.0 k)))

-- ---- live positions

-- two live-position functions agree where a tree looks: its words, and those that begin with a word that has a `*`
abbrev pub AgreePhrase : Live → Live → ℕ → Phrase → Type 0
AgreePhrase one other d p =
    (w : QueryWord) → Memᴰ w p.words → (word : List ℕ) → Matches w word → (c : ℕ) → contains p.columns c ≡ true → one word d c ≡ other word d c

abbrev pub AgreeLinks : Live → Live → ℕ → List Link → Type 0
AgreeLinks one other d [] = Unit {0}
AgreeLinks one other d (l ∷ ls) = AgreePhrase one other d l.phrase × AgreeLinks one other d ls

abbrev pub AgreeTree : Live → Live → ℕ → Tree → Type 0
AgreeTree one other d (leaf c) = AgreePhrase one other d c.first × AgreeLinks one other d c.links
AgreeTree one other d (joined o a b) = AgreeTree one other d a × AgreeTree one other d b

module _ (one other : Live) (d : ℕ) where
  same_phrase : (p : Phrase) → AgreePhrase one other d p → SamePhrase (StandsAt one d) (StandsAt other d) p
  same_phrase p a w m c position h = (
    λ s. (s.0, s.1, subst (λ (l : List ℕ). Memᴰ position l) (a w m s.0 s.1 c h) s.2),
    λ s. (s.0, s.1, subst (λ (l : List ℕ). Memᴰ position l) (sym (a w m s.0 s.1 c h)) s.2),
  )

  same_links : (ls : List Link) → AgreeLinks one other d ls → SameLinks (StandsAt one d) (StandsAt other d) ls
  same_links [] a = tt
  same_links (l ∷ ls) a = (same_phrase l.phrase a.0, same_links ls a.1)

  same_tree : (t : Tree) → AgreeTree one other d t → SameTree (StandsAt one d) (StandsAt other d) t
  same_tree (leaf c) a = (same_phrase c.first a.0, same_links c.links a.1)
  same_tree (joined o x y) a = (same_tree x a.0, same_tree y a.1)

  -- live positions that agree wherever the query looks give the same answer
  pub satisfies_agree : (t : Tree) → AgreeTree one other d t → Satisfies one d t ↔ Satisfies other d t
  satisfies_agree t a = holds_same (StandsAt one d) (StandsAt other d) t (same_tree t a)
