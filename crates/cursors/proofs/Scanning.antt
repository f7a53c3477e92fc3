-- The scan over all cursors that takes a row: from the start (`scanned_start`) over a cursor that does not stand on the docid
-- (`scanned_other`) or does (`scanned_hit`), or over a block without any (`scanned_block`), to the end (`scanned_end`).
use Rattle.std.specs.Prelude.{Option}
use Prim.Native.Nat.{ℕ, zero, suc, ◌+◌, ◌-◌, ◌*◌, ◌≤◌, ◌<◌, min}
use native.Mathlib.Omega.{arith}
use native.Mathlib.Numerals.{add-one}
use mathlib.Core.Path.{◌≡◌, refl, sym, ap, ap₂, ◌∙◌, subst}
use mathlib.Core.Bool.{Bool, true, false}
use mathlib.Core.List.{List, [], ◌∷◌, ◌++◌, append_assoc, append-nil}
use lib.ListN.{length, get_or, take, drop, set, length-append, length-map, drop_of_length-le, get_or-map}
use lib.Seq.{drop-cons, get_or-set_same, get_or-set_other}
use borrow.Author.Tests.{eq-eqb, ne_eqb}
use Rattle.common.specs.Pick.{pick}
use Rattle.common.proofs.Cases.{split}
use Rattle.common.specs.Frame.{KeptFrom}
use Rattle.common.specs.Bounds.{max_index_bytes}
use Rattle.doclist.specs.Docid.{docid_limit}
use Rattle.doclist.specs.Doclist.{Entry}
use Rattle.meaning.specs.Index.{MaybeEntry, nothing, entry}
use Rattle.row.specs.Row.{Hit, BodyAt, RowIs}
use Rattle.cursors.specs.Groups.{Group, hits_at, without, moved, BeginsFrom, From, NextIs, last_key}
use Rattle.cursors.specs.Arrays.{StandsOn, ListAt, StandsFor, Cursor, cursors, no_cursor, CursorAt, Hold, CursorsAre, least_of, next_of, block_size, blocks_of, MinimaAre, RowTaken}
use Rattle.cursors.specs.Frames.{other_than, RowFrame}
use Rattle.cursors.specs.Scanning.{front_entry, visible, hides, hidden_by, row_from, moved_cursor, over_other, taken_of, Scanned}
use Rattle.cursors.specs.declared.Scan.{Scan}
use Rattle.cursors.proofs.Each.{ordered, every_each, each_at}
use Rattle.cursors.proofs.Docids.{next_is}
use Rattle.cursors.proofs.Blocks.{block_inside, block_from}
use Rattle.cursors.proofs.Rows.{row_is}
use Rattle.cursors.proofs.Moving.{moved_cursors}

-- ---- hits written one after the other

row_kept : (leaves starts masks : List ℕ) (hits : List Hit) (s m : ℕ) → RowIs leaves starts masks hits
    → RowIs leaves (set starts (length hits) s) (set masks (length hits) m) hits
row_kept leaves starts masks [] s m h = tt
row_kept leaves [] masks (x ∷ hits) s m h = absurd h
row_kept leaves (a ∷ starts) [] (x ∷ hits) s m h = absurd h
row_kept leaves (a ∷ starts) (b ∷ masks) (x ∷ hits) s m h = (h.0, h.1, row_kept leaves starts masks hits s m h.2)

row_more : (leaves starts masks : List ℕ) (hits : List Hit) (s m : ℕ) (x : Hit) → RowIs leaves starts masks hits
    → length hits < length starts → length hits < length masks → BodyAt leaves s x.columns → m ≡ x.mask
    → RowIs leaves (set starts (length hits) s) (set masks (length hits) m) (hits ++ (x ∷ []))
row_more leaves [] masks [] s m x h l k b e = absurd (omega arith)
row_more leaves (a ∷ starts) [] [] s m x h l k b e = absurd (omega arith)
row_more leaves (a ∷ starts) (c ∷ masks) [] s m x h l k b e = (b, e, tt)
row_more leaves [] masks (y ∷ hits) s m x h l k b e = absurd h
row_more leaves (a ∷ starts) [] (y ∷ hits) s m x h l k b e = absurd h
row_more leaves (a ∷ starts) (c ∷ masks) (y ∷ hits) s m x h l k b e =
    (h.0, h.1, row_more leaves starts masks hits s m x h.2 (omega arith) (omega arith) b e)

-- ---- one cursor put elsewhere

module _ {leaves docids bodies lasts masks follows : List ℕ} (i pd pb : ℕ) where
  pub set_other : (k : ℕ) (c : Cursor) → (k ≡ i → ⊥) → CursorAt leaves docids bodies lasts masks follows k c
      → CursorAt leaves (set docids i pd) (set bodies i pb) lasts masks follows k c
  set_other k c h a =
      record {
        list =
            subst (λ (x : ℕ). ListAt leaves c.left x (get_or (set bodies i pb) k 0) (get_or lasts k 0)) (sym (get_or-set_other docids i k pd 0 h))
            (subst (λ (x : ℕ). ListAt leaves c.left (get_or docids k 0) x (get_or lasts k 0)) (sym (get_or-set_other bodies i k pb 0 h)) a.list);
        mask = a.mask;
        follow = a.follow;
      }

  pub set_here : (c c' : Cursor) → i < length docids → i < length bodies → CursorAt leaves docids bodies lasts masks follows i c
      → c'.mask ≡ c.mask → c'.follows ≡ c.follows → ListAt leaves c'.left pd pb (get_or lasts i 0)
      → CursorAt leaves (set docids i pd) (set bodies i pb) lasts masks follows i c'
  set_here c c' hd hb a m f h =
      record {
        list =
            subst (λ (x : ℕ). ListAt leaves c'.left x (get_or (set bodies i pb) i 0) (get_or lasts i 0)) (sym (get_or-set_same docids i pd 0 hd))
            (subst (λ (x : ℕ). ListAt leaves c'.left pd x (get_or lasts i 0)) (sym (get_or-set_same bodies i pb 0 hb)) h);
        mask = a.mask ∙ sym m;
        follow = a.follow ∙ sym f;
      }

-- ---- the scan

-- what the promise is given for
pub record ScanReady (leaves docids bodies lasts masks follows : List ℕ) (n : ℕ) (mins starts matched : List ℕ) (docid : ℕ) (gs : List Group) : Type 0 where
  pub cursors_are : CursorsAre leaves docids bodies lasts masks follows n gs
  pub minima : MinimaAre docids n mins
  pub limit : docid < docid_limit
  pub from : From docid gs
  pub start_room : n ≤ length starts
  pub matched_room : n ≤ length matched

pub scanned_start : {leaves docids bodies lasts masks follows : List ℕ} {n : ℕ} {mins starts matched : List ℕ} {docid : ℕ} {gs : List Group} (rest after : ℕ)
    → ScanReady leaves docids bodies lasts masks follows n mins starts matched docid gs
    → Scanned leaves docids bodies lasts masks follows n starts matched docid gs (record { hits = 0; hidden = false; taken = 0; last = 0; rest = rest; moved = after }) 0
scanned_start rest after r =
    record {
      small = r.cursors_are.small;
      counted = r.cursors_are.hold.count;
      limit = r.limit;
      passed = λ k l. absurd (omega arith);
      ahead = λ k _ l. r.cursors_are.hold.each k l;
      row = [];
      count = refl;
      stands = tt;
      goes_on = refl;
      none = λ e k l. absurd (omega arith);
      one = λ e. absurd (omega arith);
    }

module _ (leaves docids bodies lasts masks follows : List ℕ) (n : ℕ) (starts matched : List ℕ) (docid : ℕ) (gs : List Group) (scan : Scan) (i : ℕ) (inside : i < n)
    (p : Scanned leaves docids bodies lasts masks follows n starts matched docid gs scan i) where
  -- the cursor at `i` stands on another docid
  not_on : (l : List Entry) → ListAt leaves l (get_or docids i 0) (get_or bodies i 0) (get_or lasts i 0) → (StandsFor docid (get_or docids i 0) (get_or bodies i 0) → ⊥)
      → (without docid l ≡ l) × (front_entry docid l ≡ nothing)
  not_on [] h o = (refl, refl)
  not_on (e ∷ es) h o =
      let q = ne_eqb e.docid docid (λ (q : e.docid ≡ docid). o (h.same ∙ q, λ _. h.some)) in (simp q, simp q)

  next_cursor : drop i (cursors gs) ≡ get_or (cursors gs) i no_cursor ∷ drop (i + 1) (cursors gs)
  next_cursor = rw add-one (drop-cons (cursors gs) i no_cursor (omega (arith, p.counted)))

  pub scanned_other : (rest after : ℕ) → (StandsFor docid (get_or docids i 0) (get_or bodies i 0) → ⊥) → rest ≤ scan.rest → rest ≤ get_or docids i 0
      → Scanned leaves docids bodies lasts masks follows n starts matched docid gs
      (record { hits = scan.hits; hidden = hidden_by scan.hidden (get_or follows i 0); taken = scan.taken; last = scan.last; rest = rest; moved = after }) (i + 1)
  scanned_other rest after o hr hi =
      let c : Cursor = get_or (cursors gs) i no_cursor in
      let a = p.ahead i (omega arith) inside in
      let k = not_on c.left a.list o in
      let still : moved_cursor docid c ≡ c = ap (λ (l : List Entry). record { mask = c.mask; follows = c.follows; left = l }) k.0 in
      record {
        small = p.small;
        counted = p.counted;
        limit = p.limit;
        passed = λ j l.
            split j i (λ m. p.passed j m)
            (λ m. let q : i ≡ j = omega arith in
            subst (λ (x : ℕ). CursorAt leaves docids bodies lasts masks follows x (moved_cursor docid (get_or (cursors gs) x no_cursor))) q
            (subst (CursorAt leaves docids bodies lasts masks follows i) (sym still) a));
        ahead = λ j l m. p.ahead j (omega arith) m;
        row = p.row;
        count = p.count;
        stands = p.stands;
        goes_on =
            ap (λ (r : List Hit). p.row ++ r)
            (ap₂ (λ (x : MaybeEntry) (f : ℕ). visible (hidden_by scan.hidden f) c.mask x ++ row_from docid (hides (hidden_by scan.hidden f) x) (drop (i + 1) (cursors gs))) (sym k.1) a.follow
            ∙ ap (row_from docid scan.hidden) (sym next_cursor))
            ∙ p.goes_on;
        none = λ e j l. split j i (λ m. let z = p.none e j m in omega arith) (λ m. here j (omega arith));
        one = λ e. let z = p.one e in (omega arith, λ j l d. split j i (λ m. let y = z.1 j m d in omega arith) (λ m. here j (omega arith)));
      }
    where
      here : (j : ℕ) → i ≡ j → rest ≤ get_or docids j 0
      here j q = subst (λ (x : ℕ). rest ≤ get_or docids x 0) q hi

  -- the cursor at `i` stands on the docid
  on_entry : (l : List Entry) → ListAt leaves l (get_or docids i 0) (get_or bodies i 0) (get_or lasts i 0) → StandsFor docid (get_or docids i 0) (get_or bodies i 0)
      → (e : Entry) × (rest : List Entry) × (l ≡ e ∷ rest) × StandsOn leaves e rest docid (get_or bodies i 0) (get_or lasts i 0)
  on_entry [] h o = let s = o.1 h.0 in absurd (omega (arith, h.1))
  on_entry (e ∷ rest) h o = (e, rest, refl, subst (λ (d : ℕ). StandsOn leaves e rest d (get_or bodies i 0) (get_or lasts i 0)) o.0 h)

  -- the row with the hit of the cursor at `i`
  row_after : (b : Bool) (x : Hit) → scan.hits < length starts → scan.hits < length matched → BodyAt leaves (get_or bodies i 0) x.columns → get_or masks i 0 ≡ x.mask
      → RowIs leaves (set starts scan.hits (get_or bodies i 0)) (set matched scan.hits (get_or masks i 0)) (p.row ++ pick b [] (x ∷ []))
      × (pick b scan.hits (scan.hits + 1) ≡ length (p.row ++ pick b [] (x ∷ [])))
  row_after b x hs hm body m =
      subst (λ (j : ℕ).
      RowIs leaves (set starts j (get_or bodies i 0)) (set matched j (get_or masks i 0)) (p.row ++ pick b [] (x ∷ []))
      × (pick b j (j + 1) ≡ length (p.row ++ pick b [] (x ∷ [])))) (sym p.count) (both_ways b)
    where
      both_ways : (b : Bool) → RowIs leaves (set starts (length p.row) (get_or bodies i 0)) (set matched (length p.row) (get_or masks i 0)) (p.row ++ pick b [] (x ∷ []))
          × (pick b (length p.row) (length p.row + 1) ≡ length (p.row ++ pick b [] (x ∷ [])))
      both_ways true =
          subst (λ (r : List Hit). RowIs leaves (set starts (length p.row) (get_or bodies i 0)) (set matched (length p.row) (get_or masks i 0)) r × (length p.row ≡ length r))
          (sym (append-nil p.row))
          (row_kept leaves starts matched p.row (get_or bodies i 0) (get_or masks i 0) p.stands, refl)
      both_ways false = (
        row_more leaves starts matched p.row (get_or bodies i 0) (get_or masks i 0) x p.stands (omega (arith, p.count)) (omega (arith, p.count)) body m,
        sym (length-append p.row (x ∷ [])),
      )

  module _ (pd pb after : ℕ) where
    pub scanned_hit : i < length docids → i < length bodies → scan.hits < length starts → scan.hits < length matched → StandsFor docid (get_or docids i 0) (get_or bodies i 0)
        → ((e : Entry) (rest : List Entry) → length leaves ≤ max_index_bytes → StandsOn leaves e rest docid (get_or bodies i 0) (get_or lasts i 0) → ListAt leaves rest pd pb (get_or lasts i 0))
        → Scanned leaves (set docids i pd) (set bodies i pb) lasts masks follows n (set starts scan.hits (get_or bodies i 0)) (set matched scan.hits (get_or masks i 0)) docid gs
        (record { hits = pick (hidden_by scan.hidden (get_or follows i 0)) scan.hits (scan.hits + 1); hidden = true; taken = scan.taken + 1; last = i; rest = scan.rest; moved = after }) (i + 1)
    scanned_hit hd hb hs hm o next =
        let c : Cursor = get_or (cursors gs) i no_cursor in
        let a = p.ahead i (omega arith) inside in
        let s = on_entry c.left a.list o in
        go c refl a s.0 s.1 s.2 s.3
      where
        go : (c : Cursor) → get_or (cursors gs) i no_cursor ≡ c → CursorAt leaves docids bodies lasts masks follows i c → (e : Entry) (rest : List Entry) → c.left ≡ e ∷ rest
            → StandsOn leaves e rest docid (get_or bodies i 0) (get_or lasts i 0)
            → Scanned leaves (set docids i pd) (set bodies i pb) lasts masks follows n (set starts scan.hits (get_or bodies i 0)) (set matched scan.hits (get_or masks i 0)) docid gs
            (record { hits = pick (hidden_by scan.hidden (get_or follows i 0)) scan.hits (scan.hits + 1); hidden = true; taken = scan.taken + 1; last = i; rest = scan.rest; moved = after }) (i + 1)
        go c q a e rest l on =
            let x : Hit = record { mask = c.mask; columns = e.columns } in
            let covered : Bool = hidden_by scan.hidden (get_or follows i 0) in
            let r = row_after covered x hs hm (record { rest = _; bytes = on.bytes; good = on.good }) a.mask in
            let t = eq-eqb e.docid docid (sym on.same) in
            let left : without docid c.left ≡ rest = ap (without docid) l ∙ simp t in
            let head : front_entry docid c.left ≡ entry e = ap (front_entry docid) l ∙ simp t in
            let here = set_here i pd pb c (moved_cursor docid c) hd hb a refl refl (subst (λ (m : List Entry). ListAt leaves m pd pb (get_or lasts i 0)) (sym left) (next e rest p.small on)) in
            record {
              small = p.small;
              counted = p.counted;
              limit = p.limit;
              passed = λ j b.
                  split j i (λ m. set_other i pd pb j (moved_cursor docid (get_or (cursors gs) j no_cursor)) (λ (z : j ≡ i). omega arith) (p.passed j m))
                  (λ m. let z : i ≡ j = omega arith in
                  subst (λ (y : ℕ). CursorAt leaves (set docids i pd) (set bodies i pb) lasts masks follows y (moved_cursor docid (get_or (cursors gs) y no_cursor))) z
                  (subst (λ (y : Cursor). CursorAt leaves (set docids i pd) (set bodies i pb) lasts masks follows i (moved_cursor docid y)) (sym q) here));
              ahead = λ j b m. set_other i pd pb j (get_or (cursors gs) j no_cursor) (λ (z : j ≡ i). omega arith) (p.ahead j (omega arith) m);
              row = p.row ++ pick covered [] (x ∷ []);
              count = r.1;
              stands = r.0;
              goes_on =
                  append_assoc p.row (pick covered [] (x ∷ [])) (row_from docid true (drop (i + 1) (cursors gs)))
                  ∙ ap (λ (y : List Hit). p.row ++ y)
                  (ap₂ (λ (y : MaybeEntry) (f : ℕ). visible (hidden_by scan.hidden f) c.mask y ++ row_from docid (hides (hidden_by scan.hidden f) y) (drop (i + 1) (cursors gs))) (sym head) a.follow
                  ∙ ap (λ (y : Cursor). row_from docid scan.hidden (y ∷ drop (i + 1) (cursors gs))) (sym q)
                  ∙ ap (row_from docid scan.hidden) (sym next_cursor))
                  ∙ p.goes_on;
              none = λ u j b. absurd (omega arith);
              one = λ u. (
                omega arith,
                λ j b d. subst (λ (y : ℕ). scan.rest ≤ y) (sym (get_or-set_other docids i j pd 0 d)) (p.none (omega arith) j (omega arith)),
              );
            }

-- ---- a block without a cursor on the docid

module _ (leaves docids bodies lasts masks follows : List ℕ) (n : ℕ) (starts matched : List ℕ) (docid : ℕ) (gs : List Group) (from : ℕ) where
  -- where it hides nothing, the scan stays as it is
  scanned_others : (j : ℕ) (scan : Scan) → from + j ≤ n → scan.hidden ≡ false
      → ((k : ℕ) → from ≤ k → k < from + j → (get_or docids k 0 ≡ docid → ⊥) × (scan.rest ≤ get_or docids k 0))
      → Scanned leaves docids bodies lasts masks follows n starts matched docid gs scan from
      → Scanned leaves docids bodies lasts masks follows n starts matched docid gs scan (from + j)
  scanned_others zero scan h q o p = subst (Scanned leaves docids bodies lasts masks follows n starts matched docid gs scan) (omega arith) p
  scanned_others (suc j) scan h q o p =
      let at : ℕ = from + j in
      let before = scanned_others j scan (omega arith) q (λ k l m. o k l (omega arith)) p in
      let here = o at (omega arith) (omega arith) in
      subst (Scanned leaves docids bodies lasts masks follows n starts matched docid gs scan) (omega arith)
      (subst (λ (b : Bool). Scanned leaves docids bodies lasts masks follows n starts matched docid gs (record { hits = scan.hits; hidden = b; taken = scan.taken; last = scan.last; rest = scan.rest; moved = scan.moved }) (at + 1))
      (ap (λ (b : Bool). hidden_by b (get_or follows at 0)) q ∙ sym q)
      (scanned_other leaves docids bodies lasts masks follows n starts matched docid gs scan at (omega arith) before scan.rest scan.moved (λ s. here.0 s.0) (omega arith) here.1))

  -- a lower docid is below the others too
  pub scanned_lower : (m after : ℕ) (scan : Scan) → Scanned leaves docids bodies lasts masks follows n starts matched docid gs scan from
      → Scanned leaves docids bodies lasts masks follows n starts matched docid gs
      (record { hits = scan.hits; hidden = scan.hidden; taken = scan.taken; last = scan.last; rest = min scan.rest m; moved = after }) from
  scanned_lower m after scan p =
      record {
        small = p.small;
        counted = p.counted;
        limit = p.limit;
        passed = p.passed;
        ahead = p.ahead;
        row = p.row;
        count = p.count;
        stands = p.stands;
        goes_on = p.goes_on;
        none = λ e k l. let z = p.none e k l in omega arith;
        one = λ e. let z = p.one e in (z.0, λ k l d. let y = z.1 k l d in omega arith);
      }

  -- a cursor does not stand before a docid before which its list does not begin
  head_from : (l : List Entry) (d body last : ℕ) → ListAt leaves l d body last → BeginsFrom docid l → docid ≤ last_key → docid ≤ d
  head_from [] d body last h b z = omega arith
  head_from (e ∷ es) d body last h b z = omega (arith, h.same)

  pub scanned_block : (mins : List ℕ) (b to : ℕ) (scan : Scan) → MinimaAre docids n mins → From docid gs → n ≤ length docids → from ≡ block_size * b → from < n
      → to ≡ min n (from + block_size) → scan.hidden ≡ false → (get_or mins b 0 ≡ docid → ⊥)
      → Scanned leaves docids bodies lasts masks follows n starts matched docid gs scan from
      → Scanned leaves docids bodies lasts masks follows n starts matched docid gs (over_other scan false (get_or mins b 0)) to
  scanned_block mins b to scan h f i q l e hid o p =
      let m : ℕ = get_or mins b 0 in
      let z : to ≡ min n (block_size * b + block_size) = omega arith in
      let least = h.each b (omega arith) in
      let heads = every_each (BeginsFrom docid) gs f in
      let low =
      block_from docids n b i to z docid (omega (arith, p.limit))
      (λ k x y.
      head_from (get_or (cursors gs) k no_cursor).left (get_or docids k 0) (get_or bodies k 0) (get_or lasts k 0) (p.ahead k (omega arith) (omega arith)).list
      (each_at (BeginsFrom docid) (cursors gs) heads k (omega (arith, p.counted))) (omega (arith, p.limit))) in
      let j : ℕ = to - from in
      let t : from + j ≡ to = omega arith in
      subst (λ (x : Bool). Scanned leaves docids bodies lasts masks follows n starts matched docid gs (over_other scan x m) to) hid
      (subst (Scanned leaves docids bodies lasts masks follows n starts matched docid gs (over_other scan scan.hidden m)) t
      (scanned_others j (over_other scan scan.hidden m) (omega arith) hid
      (λ k x y. let w = block_inside docids n b i to z k (omega arith) (omega arith) in (λ (v : get_or docids k 0 ≡ docid). o (omega arith), omega arith))
      (scanned_lower m scan.moved scan p)))

-- ---- every cursor is passed

pub scanned_end : {leaves docids₀ bodies₀ docids bodies lasts masks follows : List ℕ} {n : ℕ} {mins₀ starts₀ matched₀ mins starts matched : List ℕ} {docid : ℕ} {gs : List Group} {scan : Scan} (next : Option ℕ)
    → ScanReady leaves docids₀ bodies₀ lasts masks follows n mins₀ starts₀ matched₀ docid gs
    → n ≤ length docids → n ≤ length bodies → next ≡ next_of (least_of (take n docids)) → MinimaAre docids n mins
    → Scanned leaves docids bodies lasts masks follows n starts matched docid gs scan n
    → RowTaken leaves docids bodies lasts masks follows n mins starts matched docid gs (taken_of scan next)
scanned_end {leaves} {docids = docids} {bodies = bodies} {lasts} {masks} {follows} {n} {starts = starts} {matched = matched} {docid = docid} {gs = gs} {scan = scan} next r hd hb e m p =
    let h = r.cursors_are.hold in
    let cs : List Cursor = cursors gs in
    let all : p.row ≡ hits_at docid gs =
    sym (append-nil p.row)
    ∙ ap (λ (l : List Cursor). p.row ++ row_from docid scan.hidden l) (sym (drop_of_length-le cs {i = n} (omega (arith, h.count))))
    ∙ p.goes_on
    ∙ row_is docid gs (ordered r.cursors_are) r.from in
    let are : CursorsAre leaves docids bodies lasts masks follows n (moved docid gs) =
    record {
      small = r.cursors_are.small;
      hold =
          subst (Hold leaves docids bodies lasts masks follows n) (sym (moved_cursors docid gs))
          (record {
            count = h.count ∙ sym (length-map cs (moved_cursor docid));
            room =
                record {
                  docid_room = hd;
                  body_room = hb;
                  last_room = h.room.last_room;
                  mask_room = h.room.mask_room;
                  follow_room = h.room.follow_room;
                };
            each = λ k l.
                subst (CursorAt leaves docids bodies lasts masks follows k) (sym (get_or-map (moved_cursor docid) cs k no_cursor)) (p.passed k l);
          });
    } in
    record {
      count = p.count ∙ ap length all;
      row = subst (RowIs leaves starts matched) all p.stands;
      cursors_are = are;
      minima = m;
      next_is = subst (NextIs (moved docid gs)) (sym e) (next_is (moved docid gs) are);
      lone = λ q. p.one q;
    }

-- ---- block by block

-- the cursors before the place `i` are passed, and the least docid of each block is right if it was
pub record BlocksPassed (docid n : ℕ) (leaves lasts masks follows docids₀ bodies₀ mins₀ starts₀ matched₀ docids bodies mins starts matched : List ℕ) (scan : Scan) (i : ℕ) : Type 0 where
  pub least : MinimaAre docids₀ n mins₀ → MinimaAre docids n mins × (min scan.rest scan.moved ≡ least_of (take i docids)) × (scan.rest ≡ least_of (other_than docid (take i docids₀)))
  pub row : (gs : List Group) → ScanReady leaves docids₀ bodies₀ lasts masks follows n mins₀ starts₀ matched₀ docid gs
      → Scanned leaves docids bodies lasts masks follows n starts matched docid gs scan i
  pub frame : RowFrame docid i docids₀ docids bodies₀ bodies starts₀ starts matched₀ matched scan.hits scan.taken scan.last
  pub minima_kept : KeptFrom (blocks_of n) mins₀ mins
