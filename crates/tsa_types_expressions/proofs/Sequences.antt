-- The first premise that fails among some behind others; and what an answer says of it.
use Rattle.std.proofs.Common.{◌≡◌, ◌∙◌, Bool, true, false, List, [], ◌∷◌, ◌++◌, Option, Some, None, Result, Err, refl, sym, ap, subst}
use Rattle.std.specs.Prelude.{⊤}
use Rattle.tsa_base.specs.declared.token.Span.{Span}
use Rattle.tsa_tree.specs.declarations.Syntax.{DeclaredType}
use Rattle.tsa_tree.specs.declared.premise.TypeCode.{TypeCode}
use Rattle.tsa_types_expressions.specs.declared.refusal.TypeRefusal.{TypeRefusal}
use Rattle.tsa_types_expressions.specs.declared.refusal.TypeRefusal.TheVariants.{At, NoMemory}
use Rattle.tsa_types_expressions.specs.Judgements.{Judges}
use Rattle.tsa_tree.specs.types.Premises.{Premise, premise, or_else, first}
use Rattle.tsa_tree.specs.declared.premise.Failure.{Failure}
use Rattle.tsa_tree.specs.types.DeclaredTypes.{length_premises, typed_premises, declared_premises}
use Rattle.tsa_tree.specs.declared.kind.Declaring.{Declaring}
use Rattle.tsa_tree.specs.types.Scopes.{Scope, context_of}
use Rattle.tsa_types_expressions.specs.Verdicts.{at}
use Rattle.tsa_types_expressions.proofs.Steps.{first_append}

pub one_fails : (code : TypeCode) (span : Span) (b : Bool) (rest : List Premise) → b ≡ true → first (premise code span b ∷ rest) ≡ Some (at code span)
unfolding first
one_fails code span b rest h = rw h refl

pub one_holds : (code : TypeCode) (span : Span) (b : Bool) (rest : List Premise) → b ≡ false → first (premise code span b ∷ rest) ≡ first rest
unfolding first
one_holds code span b rest h = rw h refl

pub some_fail : (xs ys : List Premise) (f : Failure) → first xs ≡ Some f → first (xs ++ ys) ≡ Some f
some_fail xs ys f h = first_append xs ys ∙ ap (λ x. or_else x (first ys)) h

pub all_hold : (xs ys : List Premise) → first xs ≡ None → first (xs ++ ys) ≡ first ys
all_hold xs ys h = first_append xs ys ∙ ap (λ x. or_else x (first ys)) h

pub nothing_fails : first [] ≡ None
unfolding first
nothing_fails = refl

-- an answer of some, and of those behind them
pub judges_some : (x y : Option Failure) (e : TypeRefusal) → Judges x (Err e) → Judges (or_else x y) (Err e)
judges_some x y (At code span) h = ap (λ o. or_else o y) h
judges_some x y NoMemory h = h

pub judges_rest : (x y : Option Failure) (r : Result ⊤ TypeRefusal) → x ≡ None → Judges y r → Judges (or_else x y) r
judges_rest x y r none h = subst (λ o. Judges (or_else o y) r) (sym none) h

pub judged_some : (xs ys : List Premise) (e : TypeRefusal) → Judges (first xs) (Err e) → Judges (first (xs ++ ys)) (Err e)
judged_some xs ys e h = subst (λ o. Judges o (Err e)) (sym (first_append xs ys)) (judges_some (first xs) (first ys) e h)

pub judged_rest : (xs ys : List Premise) (r : Result ⊤ TypeRefusal) → first xs ≡ None → Judges (first ys) r → Judges (first (xs ++ ys)) r
judged_rest xs ys r none h = subst (λ o. Judges o r) (sym (first_append xs ys)) (judges_rest (first xs) (first ys) r none h)

-- a name that is declared wasn't taken
pub not_taken : (here : Scope) (what : Declaring) (span : Span) (t : DeclaredType) (b : Bool) → first (typed_premises here what b span t) ≡ None → b ≡ false
unfolding typed_premises first
not_taken here what span t true h = cc
not_taken here what span t false h = refl

some_hold : (x y : Option Failure) → or_else x y ≡ None → x ≡ None
some_hold None y h = refl
some_hold (Some f) y h = cc

pub not_taken_where_declared : (here : Scope) (what : Declaring) (span : Span) (t : DeclaredType) (b : Bool)
    → first (declared_premises here what b span t) ≡ None → b ≡ false
unfolding declared_premises
not_taken_where_declared here what span t b h =
    not_taken here what span t b
    (some_hold (first (typed_premises here what b span t)) (first (length_premises (context_of here) t.length))
    (sym (first_append (typed_premises here what b span t) (length_premises (context_of here) t.length)) ∙ h))

pub ruleset steps = (one_fails, one_holds, some_fail, all_hold, nothing_fails)
