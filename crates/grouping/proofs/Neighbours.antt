-- Lists by age one after the other (`newest_append`), and the leaves about some neighbours (`parted`).
use native.Mathlib.Omega.{arith}
use mathlib.Core.Path.{◌≡◌, refl, sym, ap, ap₂, ◌∙◌, subst}
use mathlib.Core.Logic.{⊎_elim}
use mathlib.Core.List.Memᴰ
use mathlib.Core.List.Permᴰ
use mathlib.Core.List.{List, [], ◌∷◌, ◌++◌, map, Memᴰ, Permᴰ}
use lib.ListN.{length}
use Rattle.common.proofs.Members.{rise_append, rise_map, map_rise}
use Rattle.directory.specs.Age.{Pair, Newer, Lent, lent, NewestFirst}
use Rattle.directory.proofs.Permutations.{perm_member}
use Rattle.directory.proofs.Ages.{age_rise, rise_age}
use Rattle.grouping.specs.Grouping.{DatedLeaf, NewerThanAll, OlderThanAll, Neighbours}

pub map_append : {A B : Type 0} (f : A → B) (xs ys : List A) → map f (xs ++ ys) ≡ map f xs ++ map f ys
map_append f [] ys = refl
map_append f (x ∷ xs) ys = ap (λ (l : List _). f x ∷ l) (map_append f xs ys)

pub perm_append : {A : Type 0} {a b c d : List A} → Permᴰ a b → Permᴰ c d → Permᴰ (a ++ c) (b ++ d)
perm_append {b = b} {c = c} p q = Permᴰ.trans (Permᴰ.append_right c p) (Permᴰ.append_left b q)

-- ---- by age

module _ {A : Type 0} where
  pub lent_append : (ps qs : List Pair) (xs ys : List A) → length xs ≡ length ps → lent (ps ++ qs) (xs ++ ys) ≡ lent ps xs ++ lent qs ys
  lent_append [] qs [] ys h = refl
  lent_append [] qs (x ∷ xs) ys h = absurd (omega arith)
  lent_append (p ∷ ps) qs [] ys h = absurd (omega arith)
  lent_append (p ∷ ps) qs (x ∷ xs) ys h = ap (λ (l : List (Lent A)). record { pair = p; content = x } ∷ l) (lent_append ps qs xs ys (omega arith))

  -- the pair of something that is lent
  lent_pair : (ps : List Pair) (xs : List A) (l : Lent A) → Memᴰ l (lent ps xs) → Memᴰ l.pair ps
  lent_pair [] xs l m = absurd (Memᴰ.not-nil m)
  lent_pair (p ∷ ps) [] l m = absurd (Memᴰ.not-nil m)
  lent_pair (p ∷ ps) (x ∷ xs) l m = ⊎_elim (λ e. Memᴰ.head (ap (λ (y : Lent A). y.pair) e)) (λ k. Memᴰ.tail (lent_pair ps xs l k)) (Memᴰ.cases_cons m)

  -- what is newer before what is older
  pub newest_append : {ps qs : List Pair} {xs ys i j : List A} → length xs ≡ length ps → ((p q : Pair) → Memᴰ p ps → Memᴰ q qs → Newer p q)
      → NewestFirst ps xs i → NewestFirst qs ys j → NewestFirst (ps ++ qs) (xs ++ ys) (i ++ j)
  newest_append {ps} {qs} {xs} {ys} h apart n m =
      let pair : Lent A → Pair = λ (l : Lent A). l.pair in
      record {
        sorted = n.sorted ++ m.sorted;
        each_once = subst (λ (l : List (Lent A)). Permᴰ l (n.sorted ++ m.sorted)) (sym (lent_append ps qs xs ys h)) (perm_append n.each_once m.each_once);
        by_age =
            rise_age (map pair (n.sorted ++ m.sorted))
            (map_rise pair Newer (n.sorted ++ m.sorted)
            (rise_append (λ (a b : Lent A). Newer a.pair b.pair) n.sorted m.sorted
            (rise_map pair Newer n.sorted (age_rise (map pair n.sorted) n.by_age))
            (rise_map pair Newer m.sorted (age_rise (map pair m.sorted) m.by_age))
            (λ a b k l. apart a.pair b.pair (lent_pair ps xs a (perm_member (Permᴰ.symm n.each_once) k)) (lent_pair qs ys b (perm_member (Permᴰ.symm m.each_once) l)))));
        are = ap₂ (λ (a b : List A). a ++ b) n.are m.are ∙ sym (map_append (λ (l : Lent A). l.content) n.sorted m.sorted);
      }

  -- one alone
  pub newest_alone : (p : Pair) (x : A) → NewestFirst (p ∷ []) (x ∷ []) (x ∷ [])
  newest_alone p x = record { sorted = record { pair = p; content = x } ∷ []; each_once = Permᴰ.refl (record { pair = p; content = x } ∷ []); by_age = λ i j a b. absurd (omega arith); are = refl }

  pub newest_none : NewestFirst {A = A} [] [] []
  newest_none = record { sorted = []; each_once = Permᴰ.nil; by_age = λ i j a b. absurd (omega arith); are = refl }

-- ---- the leaves about some neighbours

pub record Parted (leaves others : List DatedLeaf) : Type 0 where
  pub newer : List DatedLeaf
  pub older : List DatedLeaf
  pub each_once : Permᴰ others (newer ++ older)
  pub all_newer : (o : DatedLeaf) → Memᴰ o newer → NewerThanAll o leaves
  pub all_older : (o : DatedLeaf) → Memᴰ o older → OlderThanAll o leaves

pub parted : (leaves others : List DatedLeaf) → Neighbours leaves others → Parted leaves others
parted leaves [] h = record { newer = []; older = []; each_once = Permᴰ.nil; all_newer = λ o m. absurd (Memᴰ.not-nil m); all_older = λ o m. absurd (Memᴰ.not-nil m) }
parted leaves (o ∷ others) h =
    let r = parted leaves others (λ a m. h a (Memᴰ.tail m)) in
    ⊎_elim
    (λ n.
    record {
      newer = o ∷ r.newer;
      older = r.older;
      each_once = Permᴰ.cons refl r.each_once;
      all_newer = λ a m. ⊎_elim (λ e. subst (λ (b : DatedLeaf). NewerThanAll b leaves) (sym e) n) (r.all_newer a) (Memᴰ.cases_cons m);
      all_older = r.all_older;
    })
    (λ n.
    record {
      newer = r.newer;
      older = o ∷ r.older;
      each_once = Permᴰ.trans (Permᴰ.cons refl r.each_once) (Permᴰ.symm (Permᴰ.middle o r.newer r.older));
      all_newer = r.all_newer;
      all_older = λ a m. ⊎_elim (λ e. subst (λ (b : DatedLeaf). OlderThanAll b leaves) (sym e) n) (r.all_older a) (Memᴰ.cases_cons m);
    })
    (h o (Memᴰ.head refl))
