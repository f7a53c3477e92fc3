-- The answers of `links`, `several` and `holds`.
use Prim.Native.Nat.{ℕ, suc, ◌+◌, ◌-◌, ◌≤◌, ◌<◌}
use native.Mathlib.Omega.{arith}
use mathlib.Core.Path.{◌≡◌, refl, sym, ap, ◌∙◌, subst}
use mathlib.Core.Bool.{Bool, true, false}
use mathlib.Core.Logic.{◌↔◌, ◌⊎◌, inl, inr, ⊎_elim}
use mathlib.Core.List.{List, [], ◌∷◌, ◌++◌, append_assoc}
use lib.ListN.{length, get_or, drop, length-append}
use borrow.Author.Tests.{eq-eqb, ne_eqb, lt-ltb, le-ltb}
use Rattle.common.proofs.Lists.{drop_inside, drop_outside, drop_next}
use Rattle.common.proofs.Cases.{fails_exactly, passes_exactly, false_refutes}
use Rattle.common.specs.Bits.{contains}
use Rattle.lexer.specs.Token.{QueryWord, Phrase, Distance, begins, continues, nears, Node, phrase_nodes, tie_distance}
use Rattle.query.specs.Tree.{Link, Chain, FilledLinks, link_nodes, chain_nodes}
use Rattle.meaning.specs.Satisfies.{Live, Standing, StandsAt, distance_of, ChainHolds}
use Rattle.row.specs.Row.{Hit}
use Rattle.row.specs.Walk.{candidates, WholeRow}
use Rattle.lexer.proofs.Nodes.{length_node_map, length_phrase_nodes}
use Rattle.chain.specs.Chains.{TiesAre, BeginsChain, run_end, chain_end, RowFits, Agrees, ChainAt, MarkRoom, mark_words, DecidesChain}
use Rattle.chain.specs.Reaching.{is_marked, distance_at, Nth, SomeAllowed, source_of, origin_of, Steps, window_of, operand_start}
use Rattle.chain.specs.Going.{GoesOn, InsideColumns, WordsAt, Continues}
use Rattle.chain.specs.declared.Window.{Window}
use Rattle.chain.proofs.Nodes.{length_ties, tie_is, columns_is, distance_is, phrase_end, chain_end_lem, links_stop, nears_high, StopsTied}
use Rattle.chain.proofs.Going.{goes_first, goes_single, goes_word, goes_link}

-- ---- a link

-- what stands in the arrays where the words `ws` of a link's phrase begin
record LinkIs (ties distances columns : List ℕ) (end : ℕ) (d : Distance) (set : ℕ) (ws : List QueryWord) : Type 0 where
  pub inside : end < length ties
  pub tie_high : 2 ≤ get_or ties end 0
  pub columns_are : get_or columns end 0 ≡ set
  pub distance_are : distance_at ties distances end ≡ distance_of d
  pub next_is : run_end 1 ties end ≡ end + length ws

module _ (nodes : List Node) (ties distances columns : List ℕ) (words : TiesAre nodes ties distances columns) where
  link_words : (end : ℕ) (d : Distance) (set : ℕ) (ws : List QueryWord) (ys : List Node) → 0 < length ws
      → drop end nodes ≡ phrase_nodes (nears d) set ws ++ ys → StopsTied 1 ys → LinkIs ties distances columns end d set ws
  link_words end d set [] ys h e s = absurd (omega arith)
  link_words end d set (w ∷ ws) ys h e s =
      let n : Node = record { tie = nears d; word = w; columns = set } in
      let xs : List Node = phrase_nodes continues set ws ++ ys in
      record {
        inside = rw (length_ties nodes ties distances columns words) (drop_inside nodes end n xs e);
        tie_high = rw (tie_is nodes ties distances columns words end n xs e) (nears_high d);
        columns_are = columns_is nodes ties distances columns words end n xs e;
        distance_are = distance_is nodes ties distances columns words end n xs e d refl;
        next_is =
            ap (λ (l : List ℕ). run_end 1 l end) words.ties_are
            ∙ phrase_end nodes end (nears d) set (w ∷ ws) ys h e s;
      }

  module _ (end set : ℕ) (l : Link) (ls : List Link) (at : WordsAt nodes end set [] (l ∷ ls)) where
    link_here : drop end nodes ≡ phrase_nodes (nears l.distance) l.phrase.columns l.phrase.words ++ (link_nodes ls ++ at.rest)
    link_here = at.here ∙ append_assoc (phrase_nodes (nears l.distance) l.phrase.columns l.phrase.words) (link_nodes ls) at.rest

    link_is : LinkIs ties distances columns end l.distance l.phrase.columns l.phrase.words
    link_is =
        link_words end l.distance l.phrase.columns l.phrase.words (link_nodes ls ++ at.rest) at.filled.0 link_here
        (links_stop ls at.rest at.filled.1 at.begins)

  -- after the last word of a chain the tie is less than 1
  no_link : (end : ℕ) (rest : List Node) → drop end nodes ≡ rest → BeginsChain rest → end < length ties → get_or ties end 0 < 1
  no_link end [] e b h = absurd (omega (arith, drop_outside nodes end e, length_ties nodes ties distances columns words))
  no_link end (n ∷ rest) e b h = rw (tie_is nodes ties distances columns words end n rest e, b) (omega arith)

-- ---- the answers of `links`

goes_moved : (stands : Standing) (ws : List QueryWord) (todo : List Link) (source : ℕ → ℕ → Bool) (hits : List Hit) (size size' at at' : ℕ) → size ≡ size' → at ≡ at'
    → GoesOn stands ws todo size source (candidates at hits) ≡ GoesOn stands ws todo size' source (candidates at' hits)
goes_moved stands ws todo source hits size size' at at' e f =
    ap (λ (n : ℕ). GoesOn stands ws todo n source (candidates at hits)) e ∙ ap (λ (n : ℕ). GoesOn stands ws todo size' source (candidates n hits)) f

module _ (ties distances columns : List ℕ) (from end : ℕ) (first : Bool) (leaves starts masks before marks : List ℕ) where
  stops_here : length ties ≤ end ⊎ (get_or ties end 0 < 1) → Continues ties distances columns from end first leaves starts masks before marks true
  stops_here out nodes [] [] hits live docid words at row agrees room inside more = ⊎_elim (λ h. absurd (omega arith)) (λ g. passes_exactly g) more
  stops_here out nodes [] (l ∷ todo) hits live docid words at row agrees room inside more =
      let k = link_is nodes ties distances columns words end (get_or columns from 0) l todo at in
      absurd (⊎_elim (λ h. omega (arith, k.inside)) (λ h. omega (arith, k.tie_high)) out)
  stops_here out nodes (w ∷ ws) todo hits live docid words at row agrees room inside more =
      let n : Node = record { tie = continues; word = w; columns = get_or columns from 0 } in
      let xs : List Node = phrase_nodes continues (get_or columns from 0) ws ++ (link_nodes todo ++ at.rest) in
      let i = drop_inside nodes end n xs at.here in
      let l = length_ties nodes ties distances columns words in
      let t = tie_is nodes ties distances columns words end n xs at.here in
      absurd (⊎_elim (λ h. omega arith) (λ h. omega arith) out)

  pub continues_outside : length ties ≤ end → Continues ties distances columns from end first leaves starts masks before marks true
  continues_outside h = stops_here (inl h)

  pub continues_low : get_or ties end 0 < 1 → Continues ties distances columns from end first leaves starts masks before marks true
  continues_low h = stops_here (inr h)

  -- the state after the word `end`
  record Behind (put : List ℕ) (nodes : List Node) (ws : List QueryWord) (todo : List Link) (hits : List Hit) (stands : Standing) : Type 0 where
    pub words_next : List QueryWord
    pub todo_next : List Link
    pub at_next : WordsAt nodes (end + 1) (get_or columns (operand_start ties from end) 0) words_next todo_next
    pub inside_next : InsideColumns (get_or columns (operand_start ties from end) 0) (source_of (origin_of false (get_or columns (operand_start ties from end) 0)) put) (candidates (end + 1 - 1) hits)
    pub same : GoesOn stands ws todo (end - from) (source_of (origin_of first (get_or columns from 0)) before) (candidates (end - 1) hits)
        ↔ GoesOn stands words_next todo_next (end + 1 - operand_start ties from end) (source_of (origin_of false (get_or columns (operand_start ties from end) 0)) put) (candidates (end + 1 - 1) hits)

  module _ (forward : from < end) (inside : end < length ties) (tied : 1 ≤ get_or ties end 0) (put : List ℕ) (r : Bool)
      (steps : (hits : List Hit) → RowFits leaves starts masks hits → mark_words ≤ length marks
      → Steps hits end (get_or columns end 0) (window_of ties distances from end) (source_of (origin_of first (get_or columns from 0)) before) put r) where
    -- what is known of a step, put together
    behind_of : (nodes : List Node) (ws ws' : List QueryWord) (todo todo' : List Link) (hits : List Hit) (stands : Standing) (start size : ℕ)
        → operand_start ties from end ≡ start → size ≡ end + 1 - start → get_or columns end 0 ≡ get_or columns start 0
        → WordsAt nodes (end + 1) (get_or columns start 0) ws' todo'
        → Steps hits end (get_or columns end 0) (window_of ties distances from end) (source_of (origin_of first (get_or columns from 0)) before) put r
        → GoesOn stands ws todo (end - from) (source_of (origin_of first (get_or columns from 0)) before) (candidates (end - 1) hits)
        ↔ GoesOn stands ws' todo' size (λ j column. is_marked put j) (candidates end hits)
        → Behind put nodes ws todo hits stands
    behind_of nodes ws ws' todo todo' hits stands start size e f g at s same =
        let m = goes_moved stands ws' todo' (λ j column. is_marked put j) hits size (end + 1 - operand_start ties from end) end (end + 1 - 1) (f ∙ ap (λ (n : ℕ). end + 1 - n) (sym e)) (omega arith) in
        record {
          words_next = ws';
          todo_next = todo';
          at_next = subst (λ (n : ℕ). WordsAt nodes (end + 1) (get_or columns n 0) ws' todo') (sym e) at;
          inside_next = λ j x n h.
              subst (λ (c : ℕ). contains c x.column ≡ true) (g ∙ ap (λ (n : ℕ). get_or columns n 0) (sym e))
              ((s.marks_are j x.column x.position (subst (λ (k : ℕ). Nth (candidates k hits) j x) (omega arith) n)).0 h).0;
          same = (λ h. subst (λ (X : Type 0). X) m (same.0 h), λ h. same.1 (subst (λ (X : Type 0). X) (sym m) h));
        }

    behind : (nodes : List Node) (ws : List QueryWord) (todo : List Link) (hits : List Hit) (live : Live) (docid : ℕ)
        → TiesAre nodes ties distances columns
        → WordsAt nodes end (get_or columns from 0) ws todo
        → RowFits leaves starts masks hits
        → Agrees (StandsAt live docid) nodes hits
        → MarkRoom before marks
        → InsideColumns (get_or columns from 0) (source_of (origin_of first (get_or columns from 0)) before) (candidates (end - 1) hits)
        → Behind put nodes ws todo hits (StandsAt live docid)
    behind nodes [] [] hits live docid words at row agrees room within =
        absurd (omega (arith, no_link nodes ties distances columns words end at.rest at.here at.begins inside))
    behind nodes (w ∷ ws) todo hits live docid words at row agrees room within =
        let set : ℕ = get_or columns from 0 in
        let n : Node = record { tie = continues; word = w; columns = set } in
        let xs : List Node = phrase_nodes continues set ws ++ (link_nodes todo ++ at.rest) in
        let t = tie_is nodes ties distances columns words end n xs at.here in
        let c : get_or columns end 0 ≡ set = columns_is nodes ties distances columns words end n xs at.here in
        let s = steps hits row room.spare_room in
        let e : window_of ties distances from end ≡ record { word = end - 1; back = 1; ahead = 0; apart = 0 } = simp (eq-eqb (get_or ties end 0) 1 t) in
        behind_of nodes (w ∷ ws) ws todo todo hits (StandsAt live docid) from (suc (end - from))
        (simp (le-ltb 1 (get_or ties end 0) (omega arith)))
        (omega arith)
        c
        (record { rest = at.rest; here = drop_next nodes end n xs at.here; begins = at.begins; filled = at.filled })
        s
        (goes_word leaves starts masks (StandsAt live docid) nodes hits agrees row end n xs at.here (get_or columns end 0) (record { word = end - 1; back = 1; ahead = 0; apart = 0 }) (source_of (origin_of first set) before) put r
        (subst (λ (x : Window). Steps hits end (get_or columns end 0) x (source_of (origin_of first set) before) put r) e s)
        (end - from) ws todo refl refl refl
        (subst (λ (x : ℕ). InsideColumns x (source_of (origin_of first set) before) (candidates (end - 1) hits)) (sym c) within))
    behind nodes [] (l ∷ todo) hits live docid words at row agrees room within = go l.phrase.words refl
      where
        is : LinkIs ties distances columns end l.distance l.phrase.columns l.phrase.words
        is = link_is nodes ties distances columns words end (get_or columns from 0) l todo at

        go : (ws : List QueryWord) → l.phrase.words ≡ ws → Behind put nodes [] (l ∷ todo) hits (StandsAt live docid)
        go [] q = absurd (omega (arith, at.filled.0, ap length q))
        go (w ∷ ws) q =
            let n : Node = record { tie = nears l.distance; word = w; columns = l.phrase.columns } in
            let xs : List Node = phrase_nodes continues l.phrase.columns ws ++ (link_nodes todo ++ at.rest) in
            let here : drop end nodes ≡ n ∷ xs =
            link_here nodes ties distances columns words end (get_or columns from 0) l todo at
            ∙ ap (λ (v : List QueryWord). phrase_nodes (nears l.distance) l.phrase.columns v ++ (link_nodes todo ++ at.rest)) q in
            let d : ℕ = distance_at ties distances end in
            let t : Window = record { word = end - 1; back = 1 + d; ahead = run_end 1 ties end - from + d; apart = run_end 1 ties end - end - 1 } in
            let s = steps hits row room.spare_room in
            let high = is.tie_high in
            let far = is.distance_are in
            let next : run_end 1 ties end ≡ end + suc (length ws) = is.next_is ∙ ap (λ (v : List QueryWord). end + length v) q in
            let e : window_of ties distances from end ≡ t = simp (ne_eqb (get_or ties end 0) 1 (λ z. omega arith)) in
            behind_of nodes [] ws (l ∷ todo) todo hits (StandsAt live docid) end 1
            (simp (lt-ltb 1 (get_or ties end 0) (omega arith)))
            (omega arith)
            refl
            (record {
              rest = at.rest;
              here = subst (λ (c : ℕ). drop (end + 1) nodes ≡ phrase_nodes continues c ws ++ (link_nodes todo ++ at.rest)) (sym is.columns_are) (drop_next nodes end n xs here);
              begins = at.begins;
              filled = at.filled.1;
            })
            s
            (goes_link leaves starts masks (StandsAt live docid) nodes hits agrees row end n xs here (get_or columns end 0) t (source_of (origin_of first (get_or columns from 0)) before) put r
            (subst (λ (x : Window). Steps hits end (get_or columns end 0) x (source_of (origin_of first (get_or columns from 0)) before) put r) e s)
            (end - from) l ws todo q is.columns_are (omega arith) (omega arith) (omega arith))

    -- the next word is not reached
    pub continues_not : r ≡ false → Continues ties distances columns from end first leaves starts masks before marks false
    continues_not e nodes ws todo hits live docid words at row agrees room within more =
        let b = behind nodes ws todo hits live docid words at row agrees room within in
        fails_exactly
        (λ h.
        let g = b.same.0 h in
        false_refutes (steps hits row room.spare_room).some e
        (g.0, g.1, subst (λ (k : ℕ). Nth (candidates k hits) g.0 g.1) (omega arith) g.2, g.3))

    -- it is reached: the chain goes on from there
    pub continues_more : r ≡ true → length put ≡ length marks → (spare : List ℕ) → length spare ≡ length before → (t : Bool)
        → Continues ties distances columns (operand_start ties from end) (end + 1) false leaves starts masks put spare t
        → Continues ties distances columns from end first leaves starts masks before marks t
    continues_more e kept spare free t go nodes ws todo hits live docid words at row agrees room within more =
        let b = behind nodes ws todo hits live docid words at row agrees room within in
        let some = (steps hits row room.spare_room).some.0 e in
        let q =
        go nodes b.words_next b.todo_next hits live docid words b.at_next row agrees
        (record { marks_room = omega (arith, room.spare_room); spare_room = omega (arith, room.marks_room) })
        b.inside_next
        (inr (some.0, some.1, subst (λ (k : ℕ). Nth (candidates k hits) some.0 some.1) (omega arith) some.2, some.3, (tt, tt))) in
        (λ h. b.same.1 (q.0 h), λ h. q.1 (b.same.0 h))

-- ---- the answers of `holds`

module _ (ties distances columns : List ℕ) (from : ℕ) (nodes : List Node) (words : TiesAre nodes ties distances columns) (c : Chain) (at : ChainAt nodes from c) where
  first_here : drop from nodes ≡ phrase_nodes begins c.first.columns c.first.words ++ (link_nodes c.links ++ at.rest)
  first_here = at.here ∙ append_assoc (phrase_nodes begins c.first.columns c.first.words) (link_nodes c.links) at.rest

  -- what stands in the arrays where a chain begins
  record FirstIs : Type 0 where
    pub word : QueryWord
    pub others : List QueryWord
    pub words_are : c.first.words ≡ word ∷ others
    pub inside : from < length ties
    pub columns_are : get_or columns from 0 ≡ c.first.columns
    pub node_is : drop from nodes ≡ record { tie = begins; word = word; columns = c.first.columns } ∷ (phrase_nodes continues c.first.columns others ++ (link_nodes c.links ++ at.rest))

  first_is : FirstIs
  first_is = go c.first.words refl
    where
      go : (ws : List QueryWord) → c.first.words ≡ ws → FirstIs
      go [] q = absurd (omega (arith, at.filled.0, ap length q))
      go (w ∷ ws) q =
          let n : Node = record { tie = begins; word = w; columns = c.first.columns } in
          let xs : List Node = phrase_nodes continues c.first.columns ws ++ (link_nodes c.links ++ at.rest) in
          let here : drop from nodes ≡ n ∷ xs =
          first_here ∙ ap (λ (v : List QueryWord). phrase_nodes begins c.first.columns v ++ (link_nodes c.links ++ at.rest)) q in
          record {
            word = w;
            others = ws;
            words_are = q;
            inside = rw (length_ties nodes ties distances columns words) (drop_inside nodes from n xs here);
            columns_are = columns_is nodes ties distances columns words from n xs here;
            node_is = here;
          }

  pub end_is : chain_end ties from ≡ from + length (chain_nodes c)
  end_is = ap (λ (l : List ℕ). chain_end l from) words.ties_are ∙ chain_end_lem nodes from c at.rest at.filled at.here at.begins

  -- a chain of several words has more than its first
  several_more : from + 1 < chain_end ties from → 0 < length first_is.others + length c.links
  several_more h =
      more c.links
      (omega (
        arith,
        end_is,
        length-append (phrase_nodes begins c.first.columns c.first.words) (link_nodes c.links),
        length_phrase_nodes begins c.first.columns c.first.words,
        ap length first_is.words_are,
      ))
    where
      more : (ls : List Link) → 0 < length first_is.others + length (link_nodes ls) → 0 < length first_is.others + length ls
      more [] k = k
      more (l ∷ ls) k = omega arith

  -- it holds if it can go on after its first word
  module _ (leaves starts masks : List ℕ) (hits : List Hit) (live : Live) (docid : ℕ) (row : RowFits leaves starts masks hits) (agrees : Agrees (StandsAt live docid) nodes hits) where
    holds_first : ChainHolds (StandsAt live docid) c
        ↔ GoesOn (StandsAt live docid) first_is.others c.links 1 (λ j column. contains (get_or columns from 0) column) (candidates from hits)
    holds_first =
        subst (λ (x : ℕ). ChainHolds (StandsAt live docid) c ↔ GoesOn (StandsAt live docid) first_is.others c.links 1 (λ j column. contains x column) (candidates from hits)) (sym first_is.columns_are)
        (goes_first leaves starts masks (StandsAt live docid) nodes hits agrees row from (record { tie = begins; word = first_is.word; columns = c.first.columns })
        (phrase_nodes continues c.first.columns first_is.others ++ (link_nodes c.links ++ at.rest)) first_is.node_is c first_is.others first_is.words_are)

-- a chain of one word
one_word : (p : Phrase) (ls : List Link) → 0 < length p.words → FilledLinks ls → length (phrase_nodes begins p.columns p.words ++ link_nodes ls) ≡ 1
    → (length p.words ≡ 1) × (ls ≡ [])
one_word p [] h f e = (omega (arith, length-append (phrase_nodes begins p.columns p.words) [], length_phrase_nodes begins p.columns p.words), refl)
one_word p (l ∷ ls) h f e =
    absurd
    (omega (
      arith,
      f.0,
      length-append (phrase_nodes begins p.columns p.words) (link_nodes (l ∷ ls)),
      length-append (phrase_nodes (nears l.distance) l.phrase.columns l.phrase.words) (link_nodes ls),
      length_phrase_nodes begins p.columns p.words,
      length_phrase_nodes (nears l.distance) l.phrase.columns l.phrase.words,
    ))

module _ (ties distances columns : List ℕ) (from : ℕ) (leaves starts masks marks spare : List ℕ) where
  pub decides_outside : length ties ≤ from → DecidesChain ties distances columns from leaves starts masks marks spare false
  decides_outside h nodes c hits live docid words at row agrees room =
      absurd (omega (arith, (first_is ties distances columns from nodes words c at).inside))

  pub decides_short : length distances < length ties → DecidesChain ties distances columns from leaves starts masks marks spare false
  decides_short h nodes c hits live docid words at row agrees room =
      absurd (omega (arith, ap length words.distances_are, length_node_map (λ n. tie_distance n.tie) nodes, length_ties nodes ties distances columns words))

  pub decides_narrow : length columns < length ties → DecidesChain ties distances columns from leaves starts masks marks spare false
  decides_narrow h nodes c hits live docid words at row agrees room =
      absurd (omega (arith, ap length words.columns_are, length_node_map (λ n. n.columns) nodes, length_ties nodes ties distances columns words))

  pub decides_cramped : (MarkRoom marks spare → ⊥) → DecidesChain ties distances columns from leaves starts masks marks spare false
  decides_cramped h nodes c hits live docid words at row agrees room = absurd (h room)

  pub decides_single : chain_end ties from ≡ from + 1 → (r : Bool)
      → ((hits : List Hit) → WholeRow leaves starts masks hits → (r ≡ true) ↔ SomeAllowed (candidates from hits) (get_or columns from 0))
      → DecidesChain ties distances columns from leaves starts masks marks spare r
  decides_single e r some nodes c hits live docid words at row agrees room =
      let f = first_is ties distances columns from nodes words c at in
      let o = one_word c.first c.links at.filled.0 at.filled.1 (omega (arith, end_is ties distances columns from nodes words c at)) in
      let h = holds_first ties distances columns from nodes words c at leaves starts masks hits live docid row agrees in
      let g = goes_single (StandsAt live docid) f.others c.links (get_or columns from 0) (candidates from hits) (omega (arith, o.0, ap length f.words_are)) o.1 in
      let s = some hits row.row in
      (λ t. h.1 (g.0 (s.0 t)), λ t. s.1 (g.1 (h.0 t)))

  pub decides_several : from + 1 < chain_end ties from → (before put : List ℕ) → MarkRoom before put → (r : Bool) → Continues ties distances columns from (from + 1) true leaves starts masks before put r
      → DecidesChain ties distances columns from leaves starts masks marks spare r
  decides_several e before put given r go nodes c hits live docid words at row agrees room =
      let f = first_is ties distances columns from nodes words c at in
      let h = holds_first ties distances columns from nodes words c at leaves starts masks hits live docid row agrees in
      let n : Node = record { tie = begins; word = f.word; columns = c.first.columns } in
      let xs : List Node = phrase_nodes continues c.first.columns f.others ++ (link_nodes c.links ++ at.rest) in
      let m = goes_moved (StandsAt live docid) f.others c.links (λ j column. contains (get_or columns from 0) column) hits (from + 1 - from) 1 (from + 1 - 1) from (omega arith) (omega arith) in
      let q =
      go nodes f.others c.links hits live docid words
      (record {
        rest = at.rest;
        here = subst (λ (x : ℕ). drop (from + 1) nodes ≡ phrase_nodes continues x f.others ++ (link_nodes c.links ++ at.rest)) (sym f.columns_are) (drop_next nodes from n xs f.node_is);
        begins = at.begins;
        filled = at.filled.1;
      })
      row agrees given
      (λ j s k t. t)
      (inl (several_more ties distances columns from nodes words c at e)) in
      (λ t. h.1 (subst (λ (X : Type 0). X) m (q.0 t)), λ t. q.1 (subst (λ (X : Type 0). X) (sym m) (h.0 t)))
