-- How the search for a docid's entry goes on, a number at a time, and what it finds in a well-formed list: the entry's place.
use Prim.Native.Nat.{ℕ, zero, suc, ◌+◌, ◌≤◌, ◌<◌}
use native.Mathlib.Omega.{arith}
use mathlib.Core.Path.{◌≡◌, refl, sym, ap, ap₂, ◌∙◌, subst}
use mathlib.Core.Bool.{false}
use mathlib.Core.List.{List, [], ◌∷◌, ◌++◌, append_assoc}
use lib.ListN.{length, drop, length-drop, length-append}
use lib.Dec.{eqb}
use borrow.Author.Tests.{lt-ltb, le-ltb, eq-eqb, ne_eqb}
use Rattle.common.specs.Pick.{pick}
use Rattle.common.specs.Bytes.{within}
use Rattle.common.proofs.Cases.{split}
use Rattle.common.proofs.Lists.{drop_past, drop_room}
use Rattle.common.proofs.Numbers.{within_true}
use Rattle.common.specs.Bounds.{max_columns}
use Rattle.varint.specs.Varint.{encode, max_varint, read_at, varint_limit}
use Rattle.varint.specs.declared.Varint.TheVariants.{Value, Refused}
use Rattle.varint.proofs.Laws.{stored_at, reads, encode_pos, next_after}
use Rattle.doclist.specs.Docid.{difference}
use Rattle.doclist.specs.Doclist.{Entry, Entries, WellFormed, column_numbers, encode_all, entry_bytes, encode_from, encode_list, entry_place_from, entry_place}
use Rattle.doclist.specs.Checking.{Sane, check_step, not_found_of, on_closed, find_from, find_of}
use Rattle.doclist.specs.declared.State.{State}
use Rattle.doclist.specs.declared.State.TheVariants.{Start, Between, Open, Name, Named, Broken}
use Rattle.doclist.specs.declared.EntryAt.{EntryAt}
use Rattle.doclist.specs.declared.EntryAt.TheVariants as entry_at
use types.Run.{OneOf, miss}
use denote.Enum.Declared.{tag_of}
use Rattle.doclist.specs.contracts.State.{the_type}
use Rattle.doclist.proofs.Steps.{sane_step}
use Rattle.doclist.proofs.Places.{place_behind}
use Rattle.doclist.proofs.Docids.{difference_limit}
use Rattle.doclist.proofs.Numbers.{Small, all_append}
use Rattle.doclist.proofs.Walking.{StateInside, Leads, StateReady, first, later, entry_stays}
use Rattle.doclist.proofs.Law.{small_columns}

-- ---- a turn of the search

module _ (count : ℕ) (s : List ℕ) (docid start i : ℕ) (q : State) where
  -- the list ends
  find_end : (k : ℕ) → length s ≤ i → find_from k count s docid start i q ≡ not_found_of q
  unfolding find_from
  find_end zero h = refl
  find_end (suc k) h = simp (le-ltb _ _ h)

  -- no number is stored here
  find_refused : (k : ℕ) → length s ≤ i + k → i < length s → read_at s i ≡ Refused → find_from k count s docid start i q ≡ entry_at.Refused
  unfolding find_from
  find_refused zero f h e = absurd (omega arith)
  find_refused (suc k) f h e = simp (lt-ltb _ _ h, e)

  -- one more number is taken
  find_again : (k v n : ℕ) → length s ≤ i + k → i < length s → read_at s i ≡ Value v n → i < n
      → (j : ℕ) × (length s ≤ n + j)
      × (find_from k count s docid start i q ≡ on_closed docid start n (check_step count q v) (λ from. find_from j count s docid from n (check_step count q v)))
  unfolding find_from
  find_again zero v n f h e l = absurd (omega arith)
  find_again (suc k) v n f h e l = (k, omega arith, simp (lt-ltb _ _ h, e))

-- a state in which no entry was closed
abbrev pub NotClosed : State → Type 0
NotClosed Start = Unit {0}
NotClosed (Between d) = ⊥
NotClosed (Open d c b l) = Unit {0}
NotClosed (Name d c) = Unit {0}
NotClosed (Named d c) = Unit {0}
NotClosed Broken = Unit {0}

not_closed : (docid start next : ℕ) (q : State) (go : ℕ → EntryAt) → NotClosed q → on_closed docid start next q go ≡ go start
not_closed docid start next Start go h = refl
not_closed docid start next (Between d) go h = absurd h
not_closed docid start next (Open d c b l) go h = refl
not_closed docid start next (Name d c) go h = refl
not_closed docid start next (Named d c) go h = refl
not_closed docid start next Broken go h = refl

-- where a match falls past `Between`
pub told_not_closed : (q : State) → OneOf (0 ∷ 2 ∷ 3 ∷ 4 ∷ 5 ∷ []) (tag_of the_type q) → NotClosed q
told_not_closed Start h = tt
told_not_closed (Between d) h = miss (0 ∷ 2 ∷ 3 ∷ 4 ∷ 5 ∷ []) 1 tt h
told_not_closed (Open d c b l) h = tt
told_not_closed (Name d c) h = tt
told_not_closed (Named d c) h = tt
told_not_closed Broken h = tt

-- ---- the invariant of `find`

-- what is left gives what the search of the whole list gives
pub record Finding (count : ℕ) (s : List ℕ) (docid start i : ℕ) (q : State) : Type 0 where
  pub sane : Sane q
  pub most : ℕ
  pub enough : length s ≤ i + most
  pub goes_on : find_of count s docid ≡ find_from most count s docid start i q

module _ {count : ℕ} {s : List ℕ} {docid start i : ℕ} {q : State} (c : Finding count s docid start i q) where
  pub finding_ends : length s ≤ i → find_of count s docid ≡ not_found_of q
  finding_ends h = c.goes_on ∙ find_end count s docid start i q c.most h

  pub finding_refused : i < length s → read_at s i ≡ Refused → find_of count s docid ≡ entry_at.Refused
  finding_refused h e = c.goes_on ∙ find_refused count s docid start i q c.most c.enough h e

  module _ {v n : ℕ} (h : i < length s) (e : read_at s i ≡ Value v n) where
    turn : (j : ℕ) × (length s ≤ n + j)
        × (find_of count s docid ≡ on_closed docid start n (check_step count q v) (λ from. find_from j count s docid from n (check_step count q v)))
    turn =
        let r = find_again count s docid start i q c.most v n c.enough h e (next_after (omega arith) ((stored_at s i v n).0 e)) in
        (r.0, r.1, c.goes_on ∙ r.2)

    still_sane : Sane (check_step count q v)
    still_sane = sane_step count q v c.sane ((stored_at s i v n).0 e).small

    -- the entry goes on
    pub finding_inside : NotClosed (check_step count q v) → Finding count s docid start n (check_step count q v)
    finding_inside o =
        record {
          sane = still_sane;
          most = turn.0;
          enough = turn.1;
          goes_on = turn.2 ∙ not_closed docid start n (check_step count q v) _ o;
        }

    -- an entry closed
    module _ {d : ℕ} (z : check_step count q v ≡ Between d) where
      pub finding_found : d ≡ docid → find_of count s docid ≡ entry_at.At start n
      finding_found m = turn.2 ∙ rw z (simp (eq-eqb d docid m))

      pub finding_behind : (d ≡ docid → ⊥) → docid < d → find_of count s docid ≡ entry_at.Absent
      finding_behind m l = turn.2 ∙ rw z (simp (ne_eqb d docid m, lt-ltb docid d l))

      pub finding_next : (d ≡ docid → ⊥) → d ≤ docid → Finding count s docid n n (Between d)
      finding_next m l =
          record {
            sane = rw z at still_sane;
            most = turn.0;
            enough = turn.1;
            goes_on = turn.2 ∙ rw z (simp (ne_eqb d docid m, le-ltb docid d l));
          }

-- ---- the search in a well-formed list

inside_not_closed : (q : State) → StateInside q → NotClosed q
inside_not_closed Start h = tt
inside_not_closed (Between d) h = h
inside_not_closed (Open d c b l) h = tt
inside_not_closed (Name d c) h = tt
inside_not_closed (Named d c) h = tt
inside_not_closed Broken h = tt

closing : (vs t : List ℕ) → encode_all (vs ++ (0 ∷ [])) ++ t ≡ encode_all vs ++ (encode 0 ++ t)
closing vs t =
    ap (λ (l : List ℕ). l ++ t) (all_append vs (0 ∷ []))
    ∙ append_assoc (encode_all vs) (encode 0 ++ []) t
    ∙ ap (λ (l : List ℕ). encode_all vs ++ l) (append_assoc (encode 0) [] t)

module _ (count : ℕ) (s : List ℕ) (docid : ℕ) where
  -- a number that is stored at the place `i`
  take_number : (v k start i : ℕ) (q : State) (t : List ℕ) → length s ≤ i + k → v < varint_limit → drop i s ≡ encode v ++ t
      → (j : ℕ) × (length s ≤ i + length (encode v) + j)
      × (find_from k count s docid start i q
      ≡ on_closed docid start (i + length (encode v)) (check_step count q v) (λ from. find_from j count s docid from (i + length (encode v)) (check_step count q v)))
  take_number v k start i q t f m e =
      let p : 0 < length (encode v) = encode_pos max_varint v (omega arith) in
      let room = drop_room s i (encode v) t e in
      find_again count s docid start i q k v (i + length (encode v)) f (omega arith) (reads max_varint s i v t (omega arith) (omega arith) m e) (omega arith)

  -- numbers that lead on inside an entry
  take_inside : (vs : List ℕ) (k start i : ℕ) (q r : State) (t : List ℕ) → length s ≤ i + k → Small vs → Leads count q vs r → drop i s ≡ encode_all vs ++ t
      → (j : ℕ) × (length s ≤ i + length (encode_all vs) + j)
      × (find_from k count s docid start i q ≡ find_from j count s docid start (i + length (encode_all vs)) r)
  take_inside [] k start i q r t f m l e = (k, omega arith, ap₂ (λ (n : ℕ) (p : State). find_from k count s docid start n p) (omega arith) l)
  take_inside (v ∷ vs) k start i q r t f m l e =
      let e' : drop i s ≡ encode v ++ (encode_all vs ++ t) = e ∙ append_assoc (encode v) (encode_all vs) t in
      let a = take_number v k start i q (encode_all vs ++ t) f m.0 e' in
      let n : ℕ = i + length (encode v) in
      let b = take_inside vs a.0 start n (check_step count q v) r t a.1 m.1 l.1 (drop_past s i (encode v) (encode_all vs ++ t) e') in
      let w : n + length (encode_all vs) ≡ i + length (encode v ++ encode_all vs) = simp length-append (omega arith) in (
        b.0,
        subst (λ (x : ℕ). length s ≤ x + b.0) w b.1,
        a.2
            ∙ not_closed docid start n (check_step count q v) _ (inside_not_closed (check_step count q v) l.0)
            ∙ b.2
            ∙ ap (λ (x : ℕ). find_from b.0 count s docid start x r) w,
      )

  -- numbers that lead on inside the entry of `d`, and its closing 0
  take_closed : (vs : List ℕ) (d c b l k start i : ℕ) (q : State) (t : List ℕ) → length s ≤ i + k → Small vs → Leads count q vs (Open d c b l)
      → drop i s ≡ encode_all (vs ++ (0 ∷ [])) ++ t
      → (j : ℕ) × (length s ≤ i + length (encode_all (vs ++ (0 ∷ []))) + j)
      × (find_from k count s docid start i q
      ≡ on_closed docid start (i + length (encode_all (vs ++ (0 ∷ [])))) (Between d) (λ from. find_from j count s docid from (i + length (encode_all (vs ++ (0 ∷ [])))) (Between d)))
  take_closed vs d c b l k start i q t f m h e =
      let e' : drop i s ≡ encode_all vs ++ (encode 0 ++ t) = e ∙ closing vs t in
      let n : ℕ = i + length (encode_all vs) in
      let a = take_inside vs k start i q (Open d c b l) (encode 0 ++ t) f m h e' in
      let z = take_number 0 a.0 start n (Open d c b l) t a.1 (omega arith) (drop_past s i (encode_all vs) (encode 0 ++ t) e') in
      let w : n + length (encode 0) ≡ i + length (encode_all (vs ++ (0 ∷ []))) = rw (all_append vs (0 ∷ [])) (simp length-append (omega arith)) in (
        z.0,
        subst (λ (x : ℕ). length s ≤ x + z.0) w z.1,
        a.2 ∙ z.2 ∙ ap (λ (x : ℕ). on_closed docid start x (Between d) (λ from. find_from z.0 count s docid from x (Between d))) w,
      )

  -- the first of the entries that are left
  find_entry : {q : State} {before low : ℕ} (e : Entry) (es : List Entry) (k i : ℕ) → StateReady q before low → count ≤ max_columns → Entries low count (e ∷ es)
      → length s ≤ i + k → drop i s ≡ encode_from before (e ∷ es)
      → ((j n : ℕ) → length s ≤ n + j → drop n s ≡ encode_from e.docid es → find_from j count s docid n n (Between e.docid) ≡ entry_place_from n e.docid es docid)
      → find_from k count s docid i i q ≡ entry_place_from i before (e ∷ es) docid
  find_entry {q} {before} e es k i r few h f b more =
      let st = entry_stays count e r h.0 h.1 h.2 in
      let vs : List ℕ = difference before e.docid ∷ column_numbers e.columns in
      let m : Small vs = (difference_limit before e.docid, small_columns 0 count e.columns few h.2) in
      let a = take_closed vs e.docid st.column st.base st.low k i i q (encode_from e.docid es) f m st.leads b in
      let n : ℕ = i + length (entry_bytes before e) in
      a.2
      ∙ ap (λ (x : EntryAt). pick (eqb e.docid docid) (entry_at.At i n) x)
      (split docid e.docid
      (λ l. rw (lt-ltb docid e.docid l) (sym (place_behind n e.docid (suc e.docid) count es docid (omega arith) h.3)))
      (λ l. rw (le-ltb docid e.docid l) (more a.0 n a.1 (drop_past s i (entry_bytes before e) (encode_from e.docid es) b))))

  find_later : (es : List Entry) (k i d : ℕ) → count ≤ max_columns → Entries (suc d) count es → length s ≤ i + k → drop i s ≡ encode_from d es
      → find_from k count s docid i i (Between d) ≡ entry_place_from i d es docid
  find_later [] k i d few h f b = find_end count s docid i i (Between d) k (omega (arith, simp length-drop at (ap length b)))
  find_later (e ∷ es) k i d few h f b = find_entry e es k i later few h f b (λ j n. find_later es j n e.docid few h.3)

  find_first : (es : List Entry) → 0 < length es → count ≤ max_columns → Entries 0 count es → s ≡ encode_list es
      → find_from (length s) count s docid 0 0 Start ≡ entry_place es docid
  find_first [] z few h b = absurd (omega arith)
  find_first (e ∷ es) z few h b = find_entry e es (length s) 0 first few h (omega arith) b (λ j n. find_later es j n e.docid few h.3)

-- ---- the law

-- with a right number of columns, the answer is that of the walk
pub find_walk : (count : ℕ) (s : List ℕ) (docid : ℕ) → 1 ≤ count → count ≤ max_columns → find_of count s docid ≡ find_from (length s) count s docid 0 0 Start
find_walk count s docid l h = rw (within_true 1 max_columns count l h) refl

-- with another, it is a refusal
pub find_wrong : (count : ℕ) (s : List ℕ) (docid : ℕ) → within 1 max_columns count ≡ false → find_of count s docid ≡ entry_at.Refused
find_wrong count s docid e = rw e refl

-- in a well-formed list the search finds the place of the entry
pub find_law : (count : ℕ) (s : List ℕ) (docid : ℕ) (es : List Entry) → WellFormed count es → s ≡ encode_list es → find_of count s docid ≡ entry_place es docid
find_law count s docid es w b =
    find_walk count s docid w.some_column w.few_columns
    ∙ find_first count s docid es w.some_entry w.few_columns w.entries b

-- an answer that is what the search gives is the place of the entry
pub found : {r : EntryAt} (count : ℕ) (s : List ℕ) (docid : ℕ) → r ≡ find_of count s docid
    → (r ≡ find_of count s docid) × ((es : List Entry) → WellFormed count es → s ≡ encode_list es → r ≡ entry_place es docid)
found count s docid e = (e, λ es w b. e ∙ find_law count s docid es w b)
