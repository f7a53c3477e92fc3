-- What holds whatever the leaves hold: where a front lies, and what is written to the arrays, one cursor after the other.
use Prim.Native.Nat.{ℕ, ◌+◌, ◌≤◌, ◌<◌}
use native.Mathlib.Omega.{arith}
use mathlib.Core.Path.{◌≡◌, refl, sym, ◌∙◌, subst}
use mathlib.Core.Bool.{true}
use mathlib.Core.List.{List}
use lib.ListN.{length, get_or, set}
use lib.Seq.{get_or-set_same, get_or-set_other}
use borrow.Author.Tests.{eq-eqb}
use Rattle.common.proofs.Cases.{false_not_true, same_or}
use Rattle.common.proofs.Frames.{kept_all, kept_more}
use Rattle.opening.specs.Opening.{Arrays, Openable, NotOpened, CursorFits, OpenFrame}
use Rattle.opening.specs.Fronts.{has_word, Placed, HasPlace, with_cursor}
use Rattle.opening.specs.declared.Front.{Front}

-- ---- fronts

pub placed_none : {size : ℕ} {f : Front} → f.mask ≡ 0 → f.size ≡ 0 → Placed size f
placed_none m s = record { sized = omega arith; inside = λ some. absurd (some m) }

pub placed_within : {a b : ℕ} {f : Front} → a ≤ b → Placed a f → Placed b f
placed_within h p = record { sized = p.sized; inside = λ some. let i = p.inside some in (i.0, omega (arith, i.1)) }

-- a front that has a word of another has one
pub has_mask : (f g : Front) → has_word f g ≡ true → f.mask ≡ 0 → ⊥
has_mask f g h e = false_not_true {X = ⊥} (sym (simp (eq-eqb f.mask 0 e)) ∙ h)

-- ---- cursors

pub not_opened : {bytes ends order : List ℕ} {before after : Arrays} {n : ℕ} → Openable bytes ends order before → (Openable bytes ends order before → ⊥) → NotOpened before after n
not_opened is not = absurd (not is)

pub frame_none : (bytes : List ℕ) (a : Arrays) → OpenFrame bytes a a 0
frame_none bytes a =
    record {
      few = omega arith;
      docids_kept = kept_all 0 a.docids;
      bodies_kept = kept_all 0 a.bodies;
      lasts_kept = kept_all 0 a.lasts;
      masks_kept = kept_all 0 a.masks;
      follows_kept = kept_all 0 a.follows;
      each = λ k h. absurd (omega arith);
    }

module _ {bytes : List ℕ} {first a b : Arrays} {n : ℕ} (o : OpenFrame bytes first a n) (f : Front) (follow : ℕ) (place : HasPlace a n) where
  pub frame_more : (f.mask ≡ 0 → ⊥) → f.body ≤ f.last → f.last < length bytes → follow ≤ 1 → b ≡ with_cursor a n f follow → OpenFrame bytes first b (n + 1)
  frame_more some list inside mark e =
      subst (λ (x : Arrays). OpenFrame bytes first x (n + 1)) (sym e)
      (record {
        few = omega (arith, place.0, o.docids_kept.size);
        docids_kept = kept_more f.docid o.docids_kept refl;
        bodies_kept = kept_more f.body o.bodies_kept refl;
        lasts_kept = kept_more f.last o.lasts_kept refl;
        masks_kept = kept_more f.mask o.masks_kept refl;
        follows_kept = kept_more follow o.follows_kept refl;
        each = λ k i.
            same_or k n
            (λ q. subst (CursorFits bytes (with_cursor a n f follow)) (sym q) here)
            (λ q.
            let c = o.each k (omega arith) in
            record {
              word = λ (z : get_or (set a.masks n f.mask) k 0 ≡ 0). c.word (sym (get_or-set_other a.masks n k f.mask 0 q) ∙ z);
              list = omega (arith, c.list, get_or-set_other a.bodies n k f.body 0 q, get_or-set_other a.lasts n k f.last 0 q);
              inside = omega (arith, c.inside, get_or-set_other a.lasts n k f.last 0 q);
              mark = omega (arith, c.mark, get_or-set_other a.follows n k follow 0 q);
            });
      })
    where
      here : CursorFits bytes (with_cursor a n f follow) n
      here =
          record {
            word = λ (z : get_or (set a.masks n f.mask) n 0 ≡ 0). some (sym (get_or-set_same a.masks n f.mask 0 place.3) ∙ z);
            list = omega (arith, get_or-set_same a.bodies n f.body 0 place.1, get_or-set_same a.lasts n f.last 0 place.2);
            inside = omega (arith, get_or-set_same a.lasts n f.last 0 place.2);
            mark = omega (arith, get_or-set_same a.follows n follow 0 place.4);
          }
