-- Entries that grow at their end by others, each with a docid above those before.
use Prim.Native.Nat.{ℕ, suc, ◌+◌, ◌≤◌, ◌<◌}
use native.Mathlib.Omega.{arith}
use mathlib.Core.Path.{◌≡◌, refl, ◌∙◌}
use mathlib.Core.List.{List, [], ◌∷◌, ◌++◌}
use Rattle.common.proofs.Cases.{same_or}
use Rattle.doclist.specs.Doclist.{Entry, Entries, last_docid}
use Rattle.meaning.specs.Index.{nothing, entry_for}
use Rattle.merged.proofs.Finding.{entry_here, entry_next}

-- all docids are below the bound
abbrev pub Below : ℕ → List Entry → Type 0
Below b [] = Unit {0}
Below b (e ∷ es) = (e.docid < b) × Below b es

pub below_wider : (b c : ℕ) (es : List Entry) → b ≤ c → Below b es → Below c es
below_wider b c [] h k = tt
below_wider b c (e ∷ es) h k = (omega (arith, k.0), below_wider b c es h k.1)

pub below_join : (b : ℕ) (es fs : List Entry) → Below b es → Below b fs → Below b (es ++ fs)
below_join b [] fs h k = k
below_join b (e ∷ es) fs h k = (h.0, below_join b es fs h.1 k)

-- a docid from the bound on has no entry
pub below_none : (b d : ℕ) (es : List Entry) → b ≤ d → Below b es → entry_for d es ≡ nothing
below_none b d [] h k = refl
below_none b d (e ∷ es) h k = entry_next e es d (λ q. omega (arith, k.0)) ∙ below_none b d es h k.1

-- ---- joined

-- its entry is that of what follows
pub entry_behind : (b d : ℕ) (es fs : List Entry) → b ≤ d → Below b es → entry_for d (es ++ fs) ≡ entry_for d fs
entry_behind b d [] fs h k = refl
entry_behind b d (e ∷ es) fs h k = entry_next e (es ++ fs) d (λ q. omega (arith, k.0)) ∙ entry_behind b d es fs h k.1

-- or that of what is in front, where what follows has none
pub entry_front : (d : ℕ) (es fs : List Entry) → entry_for d fs ≡ nothing → entry_for d (es ++ fs) ≡ entry_for d es
entry_front d [] fs n = n
entry_front d (e ∷ es) fs n =
    same_or e.docid d
    (λ q. simp (entry_here e (es ++ fs) d q, entry_here e es d q))
    (λ q. simp (entry_next e (es ++ fs) d q, entry_next e es d q) (entry_front d es fs n))

entries_lower : (low d : ℕ) (es : List Entry) → low ≤ d → Entries d 16 es → Entries low 16 es
entries_lower low d [] l h = tt
entries_lower low d (e ∷ es) l h = (omega (arith, h.0), h.1, h.2, h.3)

pub entries_join : (low d : ℕ) (es fs : List Entry) → low ≤ d → Entries low 16 es → Below d es → Entries d 16 fs → Entries low 16 (es ++ fs)
entries_join low d [] fs l h b k = entries_lower low d fs l k
entries_join low d (e ∷ es) fs l h b k = (h.0, h.1, h.2, entries_join (suc e.docid) d es fs (omega (arith, b.0)) h.3 b.1 k)

pub last_join : (before : ℕ) (es : List Entry) (e : Entry) (fs : List Entry) → last_docid before (es ++ e ∷ fs) ≡ last_docid e.docid fs
last_join before [] e fs = refl
last_join before (x ∷ es) e fs = last_join x.docid es e fs

-- ---- parted

-- entries after the docid `before`, parted: those in front end at their last docid, and the others are after it
pub record Parted (before : ℕ) (es fs : List Entry) : Type 0 where
  pub front : Entries (suc before) 16 es
  pub behind : Entries (suc (last_docid before es)) 16 fs
  pub below : Below (last_docid before es + 1) es
  pub onward : before ≤ last_docid before es

pub parted : (before : ℕ) (es fs : List Entry) → Entries (suc before) 16 (es ++ fs) → Parted before es fs
parted before [] fs h = record { front = tt; behind = h; below = tt; onward = omega arith }
parted before (e ∷ es) fs h =
    let p = parted e.docid es fs h.3 in
    record {
      front = (h.0, h.1, h.2, p.front);
      behind = p.behind;
      below = (omega (arith, p.onward), p.below);
      onward = omega (arith, p.onward, h.0);
    }
