-- The sheet of three answers, and the promise from what the searches and the lists say.
use Prim.Native.Nat.{ℕ, ◌-◌, ◌≤◌}
use native.Mathlib.Omega.{arith}
use mathlib.Core.Path.{◌≡◌, refl, sym, ap, ◌∙◌, subst}
use mathlib.Core.Bool.{true, false}
use mathlib.Core.Logic.{◌⊎◌, inl, inr, ⊎_elim}
use mathlib.Core.List.{List, [], ◌∷◌, ◌++◌}
use lib.IntN.{ℤ}
use lib.ListN.{length, take}
use denote.Enum.Declared.{tag_of}
use types.Run.{OneOf, miss}
use Rattle.common.specs.Refusals.{Numbers, numbers, Refusal, FirstDue}
use Rattle.common.specs.Pick.{pick}
use Rattle.common.specs.Rooms.{zeros}
use Rattle.common.proofs.Cases.{false_not_true}
use Rattle.common.proofs.Refusals.{refused_first, passed_first}
use Rattle.doclist.specs.Docid.{key_of}
use Rattle.meaning.specs.Listing.{room_with}
use Rattle.search.specs.Search as search
use Rattle.search.specs.Search.{Searched}
use Rattle.search.specs.declared.Answer.{Answer}
use Rattle.search.specs.declared.Answer.TheVariants as answer
use Rattle.search.specs.contracts.Answer as answer-type
use Rattle.verdict.specs.Sheet.{Handed, asked, RunRight, row_count, Verdicts, numbers_of, twice_refusal, refusals, is_counted, room_for, CountedBy, Sheeted}
use Rattle.verdict.specs.Counting.{Shown, AllShown, Judged, refusal_of, FoundIn, Unless, SheetOf}
use Rattle.verdict.specs.declared.Sheet.{Sheet}
use Rattle.verdict.specs.declared.Sheet.TheVariants as sheet
use Rattle.verdict.proofs.Order.{after_pass, after_fail, after_silent}
use Rattle.verdict.proofs.Searching.{found_room, found_shown, found_passed, kept_room}

-- ---- the sheet of three answers

-- an answer that is no list refuses
pub refused_by : (a : Answer) (r : Sheet) → OneOf (1 ∷ 2 ∷ 3 ∷ 4 ∷ []) (tag_of answer-type.the_type a) → r ≡ refusal_of a → (next : ℕ → Type 0) → Unless a r next
refused_by (answer.Found n) r k e next = absurd (miss (1 ∷ 2 ∷ 3 ∷ 4 ∷ []) 0 tt k)
refused_by answer.Shape r k e next = e
refused_by answer.Query r k e next = e
refused_by (answer.Leaf i) r k e next = e
refused_by (answer.Room n) r k e next = e

-- a list lets the next decide
pub found_by : (a : Answer) (n : ℕ) (r : Sheet) (next : ℕ → Type 0) → a ≡ answer.Found n → next n → Unless a r next
found_by a n r next e h = subst (λ (q : Answer). Unless q r next) (sym e) h

-- the list at the front of a room
pub front_fits : (a : Answer) (n : ℕ) (room : List ℤ) → a ≡ answer.Found n → FoundIn a room → n ≤ length room
front_fits a n room e h = (subst (λ (q : Answer). FoundIn q room) e h).2

pub front_shown : (a : Answer) (n : ℕ) (room : List ℤ) → a ≡ answer.Found n → FoundIn a room → (docids : List ℕ) × Shown (take (n - 0) room) docids
front_shown a n room e h =
    let f = subst (λ (q : Answer). FoundIn q room) e h in
    let z : n - 0 ≡ n = omega arith in
    (f.0, subst (λ (i : ℕ). Shown (take i room) f.0) (sym z) f.1)

-- three lists let the sheet be that of the lists
pub lists_decide : (first last : ℕ) (a b c : Answer) (passes fails silents : List ℤ) (r : Sheet) (n m k : ℕ) → a ≡ answer.Found n → b ≡ answer.Found m → c ≡ answer.Found k
    → ((v : Verdicts) → AllShown (take (n - 0) passes) (take (m - 0) fails) (take (k - 0) silents) v → Judged first last v r) → SheetOf first last a b c passes fails silents r
lists_decide first last a b c passes fails silents r n m k d e f h =
    let x : n - 0 ≡ n = omega arith in
    let y : m - 0 ≡ m = omega arith in
    let z : k - 0 ≡ k = omega arith in
    found_by a n r _ d (found_by b m r _ e (found_by c k r _ f (λ v s.
    h v
    (record {
      passes_shown = subst (λ (i : ℕ). Shown (take i passes) v.passes) (sym x) s.passes_shown;
      fails_shown = subst (λ (i : ℕ). Shown (take i fails) v.fails) (sym y) s.fails_shown;
      silents_shown = subst (λ (i : ℕ). Shown (take i silents) v.silents) (sym z) s.silents_shown;
    }))))

-- ---- an answer, and what it makes of a sheet

-- a list, or a refusal that is the sheet's
abbrev Told : Answer → Sheet → (ℕ → Type 0) → Type 0
Told a r next = ((n : ℕ) × (a ≡ answer.Found n) × next n) ⊎ ((numbers_of r ≡ search.numbers_of a) × (is_counted r ≡ false) × ((search.numbers_of a).number ≡ 0 → ⊥))

told : (a : Answer) (r : Sheet) (next : ℕ → Type 0) → Unless a r next → Told a r next
told (answer.Found n) r next h = inl (n, refl, h)
told answer.Shape r next h = inr (ap numbers_of h, ap is_counted h, λ z. omega arith)
told answer.Query r next h = inr (ap numbers_of h, ap is_counted h, λ z. omega arith)
told (answer.Leaf i) r next h = inr (ap numbers_of h, ap is_counted h, λ z. omega arith)
told (answer.Room n) r next h = inr (ap numbers_of h, ap is_counted h, λ z. omega arith)

not_counted : (first last : ℕ) (v : Verdicts) (r : Sheet) → is_counted r ≡ false → CountedBy first last v r
not_counted first last v (sheet.Counted passed failed silent none) e = false_not_true (sym e)
not_counted first last v sheet.Shape e = tt
not_counted first last v sheet.Query e = tt
not_counted first last v (sheet.Leaf i) e = tt
not_counted first last v (sheet.Room n) e = tt
not_counted first last v (sheet.Twice d) e = tt

-- the refusals after those of the searches
abbrev Last : ℕ → ℕ → Verdicts → ℕ → Sheet → Type 0
Last first last v least r = FirstDue (twice_refusal first last v least ∷ []) (numbers 0 (row_count first last)) (numbers_of r)

-- what the lists make of a sheet
judged : (first last : ℕ) (v : Verdicts) (r : Sheet) → Judged first last v r → (least : ℕ) × Last first last v least r × CountedBy first last v r
judged first last v (sheet.Counted passed failed silent none) h = (0, inr (h.0, ap (numbers 0) h.2), h.1)
judged first last v sheet.Shape h = absurd h
judged first last v sheet.Query h = absurd h
judged first last v (sheet.Leaf i) h = absurd h
judged first last v (sheet.Room n) h = absurd h
judged first last v (sheet.Twice d) h = (key_of d, inl (h, refl), tt)

-- ---- through the refusals of a search

module _ (x : search.Input) (n : ℕ) (a : Answer) (room : List ℤ) (s : Searched x n a room) (r : Sheet) (next : ℕ → Type 0) (rest : ℕ → List Refusal) (accepted : Numbers) (C : Type 0) where
  -- its own give the sheet's numbers, or those after them do
  through : (is_counted r ≡ false → C) → ((i : ℕ) → a ≡ answer.Found i → next i → (least : ℕ) × FirstDue (rest least) accepted (numbers_of r) × C) → Unless a r next
      → (least : ℕ) × FirstDue (search.refusals x n (length s.docids) ++ rest least) accepted (numbers_of r) × C
  through refused found h =
      let fs = search.refusals x n (length s.docids) in
      ⊎_elim
      (λ f.
      let w = found f.0 f.1 f.2 in
      (w.0, passed_first (rest w.0) accepted (numbers_of r) fs (found_passed x n a room s (ap (λ (q : Answer). (search.numbers_of q).number) f.1)) w.1, w.2))
      (λ q. (
        0,
        refused_first (rest 0) accepted (numbers_of r) fs (numbers 0 (length s.docids)) (λ z. q.2 (ap (λ (m : Numbers). m.number) (sym q.0 ∙ z)))
            (subst (FirstDue fs (numbers 0 (length s.docids))) (sym q.0) s.answered),
        refused q.1,
      ))
      (told a r next h)

-- a sheet with counts comes of a list
counted_found : (a : Answer) (r : Sheet) (next : ℕ → Type 0) → Unless a r next → is_counted r ≡ true → (i : ℕ) × (a ≡ answer.Found i) × next i
counted_found a r next h t = ⊎_elim (λ f. f) (λ q. false_not_true (sym q.1 ∙ t)) (told a r next h)

-- ---- the promise

module _ (x : Handed) (n m k : ℕ) where
  abbrev from : ℕ
  from = key_of x.first

  abbrev to : ℕ
  to = key_of x.last

  -- a run that is none
  pub no_run : (i j : ℕ) → i ≡ from → j ≡ to → (RunRight i j → ⊥) → (r : Sheet) (pass-room fail-room silent-room : List ℤ) → r ≡ sheet.Shape
      → pass-room ≡ zeros n → fail-room ≡ zeros m → silent-room ≡ zeros k → Sheeted x n m k r pass-room fail-room silent-room
  no_run i j first_key last-key wrong r pass-room fail-room silent-room e p f s =
      let h : RunRight from to → ⊥ = λ run. wrong (subst (λ (q : ℕ). RunRight i q) (sym last-key) (subst (λ (q : ℕ). RunRight q to) (sym first_key) run)) in
      record {
        verdicts = record { passes = []; fails = []; silents = [] };
        passes_listed = λ run. absurd (h run);
        fails_listed = λ run. absurd (h run);
        silents_listed = λ run. absurd (h run);
        least = 0;
        answered = inl (h, ap numbers_of e);
        counted = not_counted from to _ r (ap is_counted e);
        passes_left = p ∙ ap (room_for n []) (sym e);
        fails_left = f ∙ ap (room_for m []) (sym e);
        silents_left = s ∙ ap (room_for k []) (sym e);
      }

  module _ (i j : ℕ) (first_key : i ≡ from) (last-key : j ≡ to) (a b c : Answer) (pass-room fail-room silent-room : List ℤ) (right : RunRight i j) (p : Searched (asked x x.pass) n a pass-room) (f : Searched (asked x x.fail) m b fail-room)
      (s : Searched (asked x x.silent) k c silent-room) (r : Sheet)
      (sheet-is : SheetOf i j a b c pass-room fail-room silent-room r) where
    run : RunRight from to
    run = subst (λ (q : ℕ). RunRight from q) last-key (subst (λ (q : ℕ). RunRight q j) first_key right)

    h : SheetOf from to a b c pass-room fail-room silent-room r
    h =
        subst (λ (q : ℕ). SheetOf from q a b c pass-room fail-room silent-room r) last-key
        (subst (λ (q : ℕ). SheetOf q j a b c pass-room fail-room silent-room r) first_key sheet-is)

    abbrev lists : Verdicts
    lists = record { passes = p.docids; fails = f.docids; silents = s.docids }

    due : (least : ℕ) × FirstDue (refusals x n m k lists least) (numbers 0 (row_count from to)) (numbers_of r) × CountedBy from to lists r
    due =
        let counts = not_counted from to lists r in
        let w =
        through (asked x x.pass) n a pass-room p r _ (after_pass x n m k lists) (numbers 0 (row_count from to)) (CountedBy from to lists r) counts (λ g d.
        through (asked x x.fail) m b fail-room f r _ (after_fail x n m k lists) (numbers 0 (row_count from to)) (CountedBy from to lists r) counts (λ l e.
        through (asked x x.silent) k c silent-room s r _ (after_silent x n m k lists) (numbers 0 (row_count from to)) (CountedBy from to lists r) counts (λ q t o.
        judged from to lists r
        (o lists
        (record {
          passes_shown = found_shown (asked x x.pass) n a pass-room p g d;
          fails_shown = found_shown (asked x x.fail) m b fail-room f l e;
          silents_shown = found_shown (asked x x.silent) k c silent-room s q t;
        }))))) h in
        (w.0, inr (run, w.1), w.2)

    promise : (q w u : List ℤ) → q ≡ room_for n p.docids r → w ≡ room_for m f.docids r → u ≡ room_for k s.docids r → Sheeted x n m k r q w u
    promise q w u d e g =
        record {
          verdicts = lists;
          passes_listed = λ _. p.listed;
          fails_listed = λ _. f.listed;
          silents_listed = λ _. s.listed;
          least = due.0;
          answered = due.1;
          counted = due.2;
          passes_left = d;
          fails_left = e;
          silents_left = g;
        }

    -- rooms that were cleared
    pub sheet_refused : (o : Sheet) → o ≡ r → is_counted r ≡ false → (q w u : List ℤ)
        → q ≡ zeros (length pass-room) → w ≡ zeros (length fail-room) → u ≡ zeros (length silent-room) → Sheeted x n m k o q w u
    sheet_refused o same t q w u d e g =
        subst (λ (y : Sheet). Sheeted x n m k y q w u) (sym same)
        (promise q w u
        (d ∙ ap zeros (kept_room (asked x x.pass) n a pass-room p) ∙ ap (λ y. pick y (room_with n p.docids) (zeros n)) (sym t))
        (e ∙ ap zeros (kept_room (asked x x.fail) m b fail-room f) ∙ ap (λ y. pick y (room_with m f.docids) (zeros m)) (sym t))
        (g ∙ ap zeros (kept_room (asked x x.silent) k c silent-room s) ∙ ap (λ y. pick y (room_with k s.docids) (zeros k)) (sym t)))

    -- rooms that stay as the searches left them
    pub sheet_counted : is_counted r ≡ true → Sheeted x n m k r pass-room fail-room silent-room
    sheet_counted t =
        let q = counted_found a r _ h t in
        let w = counted_found b r _ q.2 t in
        let u = counted_found c r _ w.2 t in
        promise pass-room fail-room silent-room
        (found_room (asked x x.pass) n a pass-room p q.0 q.1 ∙ ap (λ o. pick o (room_with n p.docids) (zeros n)) (sym t))
        (found_room (asked x x.fail) m b fail-room f w.0 w.1 ∙ ap (λ o. pick o (room_with m f.docids) (zeros m)) (sym t))
        (found_room (asked x x.silent) k c silent-room s u.0 u.1 ∙ ap (λ o. pick o (room_with k s.docids) (zeros k)) (sym t))
