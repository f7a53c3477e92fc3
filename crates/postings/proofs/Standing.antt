-- The lists that are left, as the cursors stand on them; and what the choice of a cursor says of them.
use Prim.Native.Nat.{ℕ, zero, suc, ◌≤◌, ◌<◌}
use native.Mathlib.Omega.{arith}
use mathlib.Core.Path.{◌≡◌, refl, sym, ap, ◌∙◌, subst}
use mathlib.Core.List.{List, [], ◌∷◌, ◌++◌, append-nil}
use lib.ListN.{length, get_or, set, length-set}
use lib.Seq.{get_or-set_same, get_or-set_other}
use Rattle.common.proofs.Cases.{same_or}
use Rattle.doclist.specs.Doclist.{Entry}
use Rattle.meaning.specs.Index.{MaybeEntry, nothing, entry, entry_for}
use Rattle.cursors.specs.Groups.{first_for}
use Rattle.cursors.specs.Arrays.{StandsOn, ListAt, group_cursors, no_cursor, CursorsAre}
use Rattle.cursors.proofs.Each.{group_length}
use Rattle.merged.proofs.Finding.{entry_here, entry_next, entry_below}
use Rattle.std.specs.Prelude.{None}
use Rattle.postings.specs.Lists.{one_word, FirstOf, IsFirst}
use Rattle.postings.specs.declared.First.{First}
use Rattle.postings.proofs.Firsts.{first_none, first_some}

-- each cursor stands on what is left of its list
pub record Standing (leaves docids bodies lasts : List ℕ) (n : ℕ) (left : List (List Entry)) : Type 0 where
  pub count : length left ≡ n
  pub each : (k : ℕ) → k < n → ListAt leaves (get_or left k []) (get_or docids k 0) (get_or bodies k 0) (get_or lasts k 0)

left_at : (mask follows : ℕ) (ls : List (List Entry)) (k : ℕ) → (get_or (group_cursors mask follows ls ++ []) k no_cursor).left ≡ get_or ls k []
left_at mask follows [] k = refl
left_at mask follows (l ∷ ls) zero = refl
left_at mask follows (l ∷ ls) (suc k) = left_at mask 1 ls k

pub standing_start : {leaves docids bodies lasts masks follows : List ℕ} {n : ℕ} (mask : ℕ) (lists : List (List Entry)) → CursorsAre leaves docids bodies lasts masks follows n (one_word mask lists)
    → Standing leaves docids bodies lasts n lists
standing_start {leaves} {docids} {bodies} {lasts} mask lists k =
    record {
      count = sym (k.hold.count ∙ ap length (append-nil (group_cursors mask 0 lists)) ∙ group_length mask 0 lists);
      each = λ j h. subst (λ (l : List Entry). ListAt leaves l (get_or docids j 0) (get_or bodies j 0) (get_or lasts j 0)) (left_at mask 0 lists j) (k.hold.each j h).list;
    }

-- ---- one list

-- no entry below the docid of its cursor
pub none_below : (leaves : List ℕ) (l : List Entry) (docid body last k : ℕ) → ListAt leaves l docid body last → (0 < body → k < docid) → entry_for k l ≡ nothing
none_below leaves [] docid body last k h b = refl
none_below leaves (e ∷ es) docid body last k h b =
    let m = b h.some in
    let s = h.same in
    entry_next e es k (λ q. omega arith) ∙ entry_below (suc e.docid) 16 es k h.later (omega arith)

-- a cursor with a body stands on an entry
pub record OnEntry (leaves : List ℕ) (l : List Entry) (docid body last : ℕ) : Type 0 where
  pub first : Entry
  pub others : List Entry
  pub list : l ≡ first ∷ others
  pub stands : StandsOn leaves first others docid body last

pub on_entry : (leaves : List ℕ) (l : List Entry) (docid body last : ℕ) → ListAt leaves l docid body last → 0 < body → OnEntry leaves l docid body last
on_entry leaves [] docid body last h b = absurd (omega (arith, h.1))
on_entry leaves (e ∷ es) docid body last h b = record { first = e; others = es; list = refl; stands = h }

-- ---- all lists

module _ {leaves docids bodies lasts : List ℕ} {n : ℕ} {left : List (List Entry)} (st : Standing leaves docids bodies lasts n left) where
  -- one cursor went on
  pub standing_next : (i : ℕ) (l : List Entry) (docid body : ℕ) → i < n → n ≤ length docids → n ≤ length bodies → ListAt leaves l docid body (get_or lasts i 0)
      → Standing leaves (set docids i docid) (set bodies i body) lasts n (set left i l)
  standing_next i l docid body h d b on =
      record {
        count = length-set left i l ∙ st.count;
        each = λ k m.
            same_or k i
            (λ q.
            subst (λ (j : ℕ). ListAt leaves (get_or (set left i l) j []) (get_or (set docids i docid) j 0) (get_or (set bodies i body) j 0) (get_or lasts j 0)) (sym q)
            (rw (get_or-set_same left i l [] (omega (arith, st.count)), get_or-set_same docids i docid 0 (omega arith), get_or-set_same bodies i body 0 (omega arith)) on))
            (λ q. rw (get_or-set_other left i k l [] q, get_or-set_other docids i k docid 0 q, get_or-set_other bodies i k body 0 q) (st.each k m));
      }

  none_at : (d j : ℕ) → j < n → (0 < get_or bodies j 0 → d < get_or docids j 0) → entry_for d (get_or left j []) ≡ nothing
  none_at d j h b = none_below leaves (get_or left j []) (get_or docids j 0) (get_or bodies j 0) (get_or lasts j 0) d (st.each j h) b

  -- no entry is left
  pub first_ended : FirstOf docids bodies n None → (d : ℕ) → first_for d left ≡ nothing
  first_ended g d = first_none d left (λ j h. none_at d j (omega (arith, st.count)) (λ b. absurd (omega (arith, g j (omega (arith, st.count))))))

  module _ (f : First) (g : IsFirst docids bodies n f) where
    pub on_first : OnEntry leaves (get_or left f.at []) (get_or docids f.at 0) (get_or bodies f.at 0) (get_or lasts f.at 0)
    on_first = on_entry leaves (get_or left f.at []) (get_or docids f.at 0) (get_or bodies f.at 0) (get_or lasts f.at 0) (st.each f.at g.inside) g.here.0

    -- below its docid there is none
    pub first_below : (d : ℕ) → d < get_or docids f.at 0 → first_for d left ≡ nothing
    first_below d h = first_none d left (λ j m. none_at d j (omega (arith, st.count)) (λ b. omega (arith, g.here.1, g.least j (omega (arith, st.count)) b)))

    module _ (e : Entry) (es : List Entry) (q : get_or left f.at [] ≡ e ∷ es) (same : get_or docids f.at 0 ≡ e.docid) where
      inside : f.at < length left
      inside = omega (arith, st.count, g.inside)

      -- at its docid it is its entry
      pub first_here : first_for e.docid left ≡ entry e
      first_here =
          first_some e.docid f.at e left inside
          (λ j h. none_at e.docid j (omega (arith, st.count, inside)) (λ b. omega (arith, g.here.1, g.newest j h b)))
          (ap (entry_for e.docid) q ∙ entry_here e es e.docid refl)

      -- before the docids of the others it is that of its list
      pub first_later : (d : ℕ) → d < f.rest → first_for d left ≡ entry_for d (e ∷ es)
      first_later d h = go (entry_for d (e ∷ es)) refl
        where
          other : (j : ℕ) → j < n → (j ≡ f.at → ⊥) → entry_for d (get_or left j []) ≡ nothing
          other j m o = none_at d j m (λ b. omega (arith, g.others j m o b))

          go : (x : MaybeEntry) → entry_for d (e ∷ es) ≡ x → first_for d left ≡ entry_for d (e ∷ es)
          go nothing p =
              first_none d left (λ j m. same_or j f.at (λ z. ap (λ (i : ℕ). entry_for d (get_or left i [])) z ∙ ap (entry_for d) q ∙ p) (λ o. other j (omega (arith, st.count)) o))
              ∙ sym p
          go (entry x) p =
              first_some d f.at x left inside (λ j m. other j (omega (arith, st.count, inside)) (λ z. omega arith)) (ap (entry_for d) q ∙ p)
              ∙ sym p
