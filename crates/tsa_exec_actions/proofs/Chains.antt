-- Calls are places in the list of actions.
use Rattle.std.proofs.Common.{◌≡◌, ◌∙◌, ℕ, zero, suc, Some, List, [], ◌∷◌, ◌++◌, length, slice_get, refl, sym, ap, arith}
use Rattle.tsa_exec_actions.specs.Chains.{after, CallsArePlacesInTheList, IsSince, none}
use Rattle.tsa_exec_actions.specs.declared.action.Action.{Action}

at_end : (all : List Action) (a : Action) → slice_get (all ++ a ∷ []) (length all) ≡ Some a
at_end [] a = refl
at_end (x ∷ all) a = at_end all a

in_front : (all : List Action) (a : Action) (k : ℕ) (x : Action) → slice_get all k ≡ Some x → slice_get (all ++ a ∷ []) k ≡ Some x
in_front [] a zero x e = absurd cc
in_front [] a (suc k) x e = absurd cc
in_front (y ∷ all) a zero x e = e
in_front (y ∷ all) a (suc k) x e = in_front all a k x e

-- two actions at one place, and two lists of which the first and the rest are the same
same_action : (all : List Action) (j k : ℕ) (x y : Action) → j ≡ k → slice_get all j ≡ Some x → slice_get all k ≡ Some y → x ≡ y
same_action all j k x y same at other = some_same (sym at ∙ ap (slice_get all) same ∙ other)
  where
    some_same : {x y : Action} → Some x ≡ Some y → x ≡ y
    some_same e = cc

same_list : (x y : Action) (xs ys : List Action) → x ≡ y → xs ≡ ys → x ∷ xs ≡ y ∷ ys
same_list x y xs ys e f = cc

module _ (all : List Action) (call : ℕ) where
  stays : {last : ℕ} {actions : List Action} (a : Action) → IsSince all call last actions → IsSince (all ++ a ∷ []) call last actions
  stays a (none le) = none le
  stays a (after k x rest behind at since) = after k x rest behind (in_front all a k x at) (stays a since)

  alone : {m n : ℕ} {xs ys : List Action} → m ≡ n → IsSince all call m xs → IsSince all call n ys → xs ≡ ys
  alone same (none le) (none other) = refl
  alone same (none le) (after k x rest behind at since) = absurd (omega (arith, same, le, behind))
  alone same (after k x rest behind at since) (none le) = absurd (omega (arith, same, le, behind))
  alone same (after j x xs behind at since) (after k y ys before other back) =
      let number : j ≡ k = omega (arith, same) in let action = same_action all j k x y number at other in
      same_list x y xs ys action (alone (ap (λ a. a.before) action) since back)

pub calls_are_places_in_the_list : CallsArePlacesInTheList
calls_are_places_in_the_list = record {
  begins = λ all last. none (omega arith);
  goes_on = λ all call a actions inside since. after (length all) a actions (omega (arith, inside)) (at_end all a) (stays all call a since);
  stays = λ all call last a actions since. stays all call a since;
  alone = λ all call last xs ys x y. alone all call refl x y;
}
