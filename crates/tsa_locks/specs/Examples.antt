-- Locks that are taken and given back, worked out.
use Rattle.std.specs.Prelude.{◌≡◌, true, false, [], ◌∷◌, None, Some}
use Rattle.tsa_locks.specs.Locks.{owned, shared_by, free, Exclusive, Shared, take, taken, blocked, give, mode_to_give}

pub record TakingsAreAsWritten : Type 0 where
  -- a free lock is taken by anybody, and one that is owned or shared not alone
  pub first : take false Exclusive 3 free ≡ taken (owned 3 1)
  pub second : take false Exclusive 4 (owned 3 1) ≡ blocked 3
  pub by_itself : take false Exclusive 3 (owned 3 1) ≡ blocked 3
  pub beside_readers : take false Exclusive 0 (shared_by (0 ∷ 2 ∷ [])) ≡ blocked 1
  -- a reader's own shared hold is in its way, too
  pub upgrade : take true Exclusive 1 (shared_by (0 ∷ 1 ∷ [])) ≡ blocked 1
  -- readers count, each by itself
  pub reader : take false Shared 1 free ≡ taken (shared_by (0 ∷ 1 ∷ []))
  pub reader_again : take false Shared 1 (shared_by (0 ∷ 1 ∷ [])) ≡ taken (shared_by (0 ∷ 2 ∷ []))
  pub reader_beside_owner : take true Shared 3 (owned 3 2) ≡ blocked 3
  -- a reentrant lock is taken again by its owner alone
  pub again : take true Exclusive 3 (owned 3 1) ≡ taken (owned 3 2)
  pub again_by_other : take true Exclusive 4 (owned 3 2) ≡ blocked 3
  -- what is given back was held
  pub inner : give Exclusive 3 (owned 3 2) ≡ Some (owned 3 1)
  pub outer : give Exclusive 3 (owned 3 1) ≡ Some free
  pub by_other : give Exclusive 4 (owned 3 1) ≡ None
  pub in_other_mode : give Shared 3 (owned 3 1) ≡ None
  pub reader_goes : give Shared 1 (shared_by (0 ∷ 2 ∷ [])) ≡ Some (shared_by (0 ∷ 1 ∷ []))
  pub twice : give Exclusive 3 free ≡ None
  -- a release without a mode gives back what is held alone, else what is shared
  pub alone : mode_to_give 3 (owned 3 1) ≡ Exclusive
  pub together : mode_to_give 1 (shared_by (0 ∷ 2 ∷ [])) ≡ Shared
