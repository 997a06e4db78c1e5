-- Conditions by what the values of their parts tell.
use Rattle.std.proofs.Common.{◌≡◌, ◌∙◌, ℕ, Bool, true, false, List, Option, Some, None, option_map, if◌then◌else◌, refl, sym, ap, ap₂}
use Rattle.std.specs.Borrow.{Bor}
use Rattle.tsa_base.specs.declared.token.Span.{Span}
use Rattle.tsa_tree.proofs.expressions.Trees.{call_at}
use Rattle.tsa_tree.specs.declared.expr.Expr.{Expr}
use Rattle.tsa_tree.specs.declared.expr.ExprKind.{Call}
use Rattle.tsa_tree.specs.declared.expr.Name.{Name}
use Rattle.tsa_tree.specs.declared.meaning.Entry.{Entry}
use Rattle.tsa_tree.specs.declared.meaning.Meaning.{Meaning}
use Rattle.tsa_tree.specs.declared.meaning.Meaning.TheVariants as known
use Rattle.tsa_tree.specs.expressions.Shapes.{shape}
use Rattle.tsa_tree.specs.expressions.Syntax.{Identifier, named}
use Rattle.tsa_tree.specs.types.Expressions.{entry_type}
use Rattle.tsa_tree.specs.types.Scopes.{Scope, known_in}
use Rattle.tsa_core.specs.Meanings.{is_cell, loaded, meaning, of_call, of_name}
use Rattle.tsa_core.specs.Meanings as core
use Rattle.tsa_core.specs.Terms.{Term, global, load, Sense}
use Rattle.tsa_rules.specs.Conditions.{beside, comparison, condition, condition_in, either, subject_in}
use Rattle.tsa_rules.specs.Conditions as rule
use Rattle.tsa_rules.specs.Effects.{same_answer}
use Rattle.tsa_rules_roles.specs.ValueAnswers.{answer_beside, compared, subject}
use Rattle.tsa_rules_roles.specs.Worths.{gist_of, worth_of, worth_beside}
use Rattle.tsa_rules_roles.proofs.Worths.{loaded_is, beside_is, subject_is, answer_beside_is}

-- what is looked at
pub looked_at : (s : Sense) → subject (gist_of s).worth ≡ subject_in (loaded s)
looked_at s = sym (subject_is (loaded s) ∙ ap subject (loaded_is s))

-- one beside the other
abbrev side : (Bool → Bool) → Term → Term → Option rule.Condition
side f x y = beside f (subject_in x) (rule.answer_beside y)

side_is : (f : Bool → Bool) (x y : Term) → side f x y ≡ beside f (subject (worth_of x)) (answer_beside (worth_of y))
side_is f x y = ap₂ (beside f) (subject_is x) (answer_beside_is y)

terms_compared : (same : Bool) (x y : Term) → comparison (same_answer same) x y ≡ compared same (worth_of x) (worth_of y)
terms_compared same x y = ap₂ either (side_is (same_answer same) x y) (side_is (same_answer same) y x)

pub compares : (same : Bool) (l r : Sense)
    → compared same (worth_beside r.type.thing.kind (gist_of l)) (worth_beside l.type.thing.kind (gist_of r))
    ≡ comparison (same_answer same) (core.beside r.type.thing.kind l) (core.beside l.type.thing.kind r)
compares same l r =
    sym (terms_compared same (core.beside r.type.thing.kind l) (core.beside l.type.thing.kind r)
    ∙ ap₂ (compared same) (beside_is r.type.thing.kind l) (beside_is l.type.thing.kind r))

-- a name and a call by themselves
abbrev Alone : Sense → Type 0
Alone s = option_map (condition true) (subject_in (loaded s)) ≡ condition_in (loaded s)

global_alone : (b stable : Bool) (n : ℕ)
    → option_map (condition true) (subject_in (if b then load stable (global n) else global n)) ≡ condition_in (if b then load stable (global n) else global n)
global_alone true stable n = refl
global_alone false stable n = refl

meant_alone : (e : Entry) (m : Meaning) → Alone (record { term = core.name_term m; type = entry_type e; is_stable = core.never_changes e.thing })
meant_alone e (known.Global n) = global_alone _ _ n
meant_alone e (known.Local n) = refl
meant_alone e (known.Function n) = refl
meant_alone e known.Owned = refl
meant_alone e (known.Constant z) = refl
meant_alone e known.TypeName = refl

name_alone : (o : Option Entry) → Alone (of_name o)
name_alone None = refl
name_alone (Some e) = meant_alone e e.meaning

call_alone : (o : Option Entry) → Alone (of_call o)
call_alone None = refl
call_alone (Some e) = refl

pub named_tells : (here : Scope) (name : Identifier) (span : Span)
    → option_map (condition true) (subject_in (loaded (meaning here (named name span)))) ≡ condition_in (loaded (meaning here (named name span)))
unfolding meaning
named_tells here name span = name_alone (known_in here name.text)

pub call_tells : (here : Scope) (x : Expr) (callee : Name) (args : Bor (List Expr)) → x.kind ≡ Call callee args
    → option_map (condition true) (subject_in (loaded (meaning here (shape x)))) ≡ condition_in (loaded (meaning here (shape x)))
unfolding meaning
call_tells here x callee args is =
    ap (λ e. option_map (condition true) (subject_in (loaded (meaning here e)))) (call_at x callee args is)
    ∙ call_alone (known_in here callee.text.now)
    ∙ sym (ap (λ e. condition_in (loaded (meaning here e))) (call_at x callee args is))

pub ruleset conditions = (named_tells, call_tells)
