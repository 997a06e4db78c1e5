-- What the profile asks of expressions.
use Rattle.std.specs.Prelude.{ℕ, pos, Bool, true, false, not, ◌&&◌, ◌||◌, nat_eq, List, [], ◌∷◌, ◌++◌, Option, Some, None, option_and_then}
use Rattle.std.specs.Prelude.{unwrap_or, is_some, is_none, slice_get}
use Rattle.std.specs.List.{list_any}
use Rattle.tsa_tree.specs.declared.expr.BinaryOp.TheVariants as op
use Rattle.tsa_tree.specs.declared.expr.UnaryOp.TheVariants as prefix
use Rattle.tsa_tree.specs.declared.number.Number.{Number}
use Rattle.tsa_tree.specs.declared.number.Number.TheVariants as numeral
use Rattle.tsa_tree.specs.expressions.Syntax.{Expression, Arguments, number, null, named, call, unary, binary, field, index, none, more}
use Rattle.tsa_tree.specs.types.DeclaredTypes.{value_in}
use Rattle.tsa_tree.specs.types.Expressions.{function_of}
use Rattle.tsa_tree.specs.types.Scopes.{Scope, context_of, known_in}
use Rattle.tsa_tree.specs.types.Lookups.{params_in}
use Rattle.tsa_place_model.specs.Ways.{Way}
use Rattle.tsa_place_model.specs.Calls.{Layout}
use Rattle.tsa_core.specs.Cells.{own_cell}
use Rattle.tsa_core.specs.Programs.{Attr}
use Rattle.tsa_core.specs.Uses.{access_guards, argument_ways}
use Rattle.tsa_profile_accesses.specs.declared.premise.ProfileCode.TheVariants.{PF1, PF2, PF3, PF5, PF8}
use Rattle.tsa_profile_accesses.specs.Locks.{is_empty, lacks_path, tries}
use Rattle.tsa_profile_accesses.specs.Premises.{Premise, premise}
use Rattle.tsa_profile_accesses.specs.declared.standing.Standing.{Standing}
use Rattle.tsa_profile_accesses.specs.declared.standing.Standing.TheVariants.{Inside}
use Rattle.tsa_profile_accesses.specs.Standing.{may_call, may_try, under_not, beside}

-- What an expression stands in: the layout of its unit, the attributes of the functions that are declared so far, by their numbers, what is
-- known there, which locals never change, and whether a thread works it out: an attribute is none that does.
pub record View : Type 0 where
  pub layout : Layout
  pub attributes : List (List Attr)
  pub here : Scope
  pub stable : ℕ → Bool
  pub is_run : Bool

-- the function that a call calls, by its number, and the attributes of one
abbrev pub callee : View → Expression → Option ℕ
callee v (call name args span) = option_and_then (λ e. function_of e.meaning) (known_in v.here name.text)
callee v e = None

abbrev pub attributes_at : List (List Attr) → ℕ → List Attr
attributes_at all n = unwrap_or (slice_get all n) []

abbrev pub of_callee : (ℕ → Bool) → Option ℕ → Bool
of_callee test None = false
of_callee test (Some n) = test n

abbrev pub is_try_call : View → Expression → Bool
is_try_call v e = of_callee (λ n. tries (attributes_at v.attributes n)) (callee v e)

abbrev pub lacks_a_path : View → Arguments → ℕ → Bool
lacks_a_path v args n = list_any (lacks_path (argument_ways v.stable v.here (params_in v.here n) args)) (attributes_at v.attributes n)

-- a cell that is read or written is guarded by what has no path there
abbrev pub guards : View → Expression → List (Option Way)
guards v e = access_guards v.layout v.stable v.here e

abbrev pub lacks_a_guard : View → Expression → Bool
lacks_a_guard v e = v.is_run && (not (is_empty (own_cell v.here e)) && list_any is_none (guards v e))

-- a try is compared with a constant other than 0 and 1
abbrev pub constant : View → Expression → Option Number
constant v e = value_in (context_of v.here) e

abbrev pub is_truth : Number → Bool
is_truth (numeral.Int (pos k)) = nat_eq k 0 || nat_eq k 1
is_truth (numeral.Int z) = false
is_truth (numeral.Unsigned k) = nat_eq k 0 || nat_eq k 1

abbrev pub is_other : Option Number → Bool
is_other None = false
is_other (Some n) = not (is_truth n)

abbrev pub compares_a_try : View → Expression → Expression → Bool
compares_a_try v left right = (is_try_call v left && is_other (constant v right)) || (is_try_call v right && is_other (constant v left))

-- What is asked at an expression itself, by its number; `is_value` says that its value is wanted, and not its place.
abbrev pub own : View → Standing → (is_value : Bool) → Expression → List Premise
own v s is_value (number n u span) = []
own v s is_value (null span) = []
own v s is_value (named name span) = premise PF2 span (is_value && lacks_a_guard v (named name span)) ∷ []
own v s is_value (call name args span) =
    premise PF1 span (not (may_call s))
    ∷ premise PF2 span (of_callee (lacks_a_path v args) (callee v (call name args span)))
    ∷ premise PF5 span (is_try_call v (call name args span) && not (may_try s))
    ∷ []
own v s is_value (unary prefix.Address inner span) = premise PF3 span (not (is_empty (guards v inner))) ∷ []
own v s is_value (unary o inner span) = []
own v s is_value (binary op.Equal left right span) = premise PF8 span (compares_a_try v left right) ∷ []
own v s is_value (binary op.Unequal left right span) = premise PF8 span (compares_a_try v left right) ∷ []
own v s is_value (binary o left right span) = []
own v s is_value (field base name arrow span) = premise PF2 span (is_value && lacks_a_guard v (field base name arrow span)) ∷ []
own v s is_value (index base at span) = premise PF2 span (is_value && lacks_a_guard v (index base at span)) ∷ []

-- What is asked inside an expression, part by part.
unfoldable mutual
  pub parts : View → Standing → Expression → List Premise
  parts v s (number n u span) = []
  parts v s (null span) = []
  parts v s (named name span) = []
  parts v s (call name args span) = arguments v args
  parts v s (unary prefix.Address inner span) = own v Inside false inner ++ parts v Inside inner
  parts v s (unary prefix.Not inner span) = own v (under_not s) true inner ++ parts v (under_not s) inner
  parts v s (unary o inner span) = own v Inside true inner ++ parts v Inside inner
  parts v s (binary op.Equal left right span) =
      (own v (beside s (is_some (constant v right))) true left ++ parts v (beside s (is_some (constant v right))) left)
      ++ (own v (beside s (is_some (constant v left))) true right ++ parts v (beside s (is_some (constant v left))) right)
  parts v s (binary op.Unequal left right span) =
      (own v (beside s (is_some (constant v right))) true left ++ parts v (beside s (is_some (constant v right))) left)
      ++ (own v (beside s (is_some (constant v left))) true right ++ parts v (beside s (is_some (constant v left))) right)
  parts v s (binary o left right span) = (own v Inside true left ++ parts v Inside left) ++ (own v Inside true right ++ parts v Inside right)
  parts v s (field base name arrow span) = own v Inside arrow base ++ parts v Inside base
  parts v s (index base at span) = (own v Inside false base ++ parts v Inside base) ++ (own v Inside true at ++ parts v Inside at)

  pub arguments : View → Arguments → List Premise
  arguments v none = []
  arguments v (more first rest) = (own v Inside true first ++ parts v Inside first) ++ arguments v rest

-- what is asked of an expression whose value is wanted
abbrev pub expression : View → Standing → Expression → List Premise
expression v s e = own v s true e ++ parts v s e
