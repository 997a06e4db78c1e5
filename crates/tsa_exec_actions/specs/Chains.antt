-- Where the actions since a call stand: in one list of the actions of all threads, in which each has the number of its thread's action
-- before it. So a call keeps no more of its thread's holds than the number of the last action then.
use Rattle.std.specs.Prelude.{◌≡◌, ℕ, ◌+◌, ◌<◌, ◌≤◌, Some, List, [], ◌∷◌, ◌++◌, length, slice_get}
use Rattle.tsa_exec_actions.specs.declared.action.Action.{Action}

-- The actions back from the one of a number to those that were done when the call was made. The first of the list has number 1.
pub data IsSince (all : List Action) (call : ℕ) : (last : ℕ) → List Action → Type 0 where
  none : {last : ℕ} → last ≤ call → IsSince all call last []
  after : (k : ℕ) (a : Action) (rest : List Action) → call < k + 1 → slice_get all k ≡ Some a → IsSince all call a.before rest
      → IsSince all call (k + 1) (a ∷ rest)

pub record CallsArePlacesInTheList : Type 0 where
  -- nothing was done since a call that is made now
  pub begins : (all : List Action) (last : ℕ) → IsSince all last last []
  -- an action that is put behind all others is the last one of its thread, and for each of its calls one more was done
  pub goes_on : (all : List Action) (call : ℕ) (a : Action) (actions : List Action) → call ≤ length all → IsSince all call a.before actions
      → IsSince (all ++ a ∷ []) call (length all + 1) (a ∷ actions)
  -- and for those of all others the same was done as before
  pub stays : (all : List Action) (call last : ℕ) (a : Action) (actions : List Action) → IsSince all call last actions
      → IsSince (all ++ a ∷ []) call last actions
  -- no two lists are what was done since
  pub alone : (all : List Action) (call last : ℕ) (xs ys : List Action) → IsSince all call last xs → IsSince all call last ys → xs ≡ ys
