-- `store` meets its contract: nothing, or an entry that is stored or is above the largest size.
use native.Mathlib.Omega.{arith}
use mathlib.Core.Path.{refl}
use Rattle.postings.proofs.store.Goals as goal

pub returns-then-turn-eq0 : goal.returns-then-turn-eq0
returns-then-turn-eq0 c = record {
  none = λ _. (refl, refl);
  last = λ h. absurd (omega (arith, c.if-turn-eq0.true));
  over_full = λ h. absurd (omega (arith, c.if-turn-eq0.true));
  some = λ h. absurd (omega (arith, c.if-turn-eq0.true));
}

pub returns-then-stored-gt-MAX_INDEX_BYTES : goal.returns-then-stored-gt-MAX_INDEX_BYTES
returns-then-stored-gt-MAX_INDEX_BYTES c = record {
  none = λ z. absurd (c.if-turn-eq0.false z);
  last = λ _. refl;
  over_full = λ _ _. (refl, refl);
  some = λ _ h. absurd (omega (arith, c.if-stored-gt-MAX_INDEX_BYTES.true));
}

pub returns : goal.returns
returns c = record {
  none = λ z. absurd (c.if-turn-eq0.false z);
  last = λ _. refl;
  over_full = λ _ h. absurd (omega (arith, c.if-stored-gt-MAX_INDEX_BYTES.false));
  some = λ _ _. c.add_entries-size.ensures;
}
