-- What the action of a point does for the rules, by cases.
use Rattle.std.proofs.Common.{◌≡◌, ◌∙◌, Bool, Option, Some, None, option_map, refl, sym, ap}
use Rattle.tsa_tree.specs.declarations.Syntax.{Initialiser, value, list}
use Rattle.tsa_tree.specs.declared.expr.BinaryOp.{BinaryOp}
use Rattle.tsa_tree.specs.declared.kind.Kind.{Kind}
use Rattle.tsa_tree.specs.types.Scopes.{Scope}
use Rattle.tsa_core.specs.Bodies.{declared, evaluate, test, branch, go_on, give, set_to}
use Rattle.tsa_core.specs.Terms.{Term, constant, variable, answer, global, member, element, target, load, address, converted, prefixed}
use Rattle.tsa_core.specs.Terms.{joined}
use Rattle.tsa_rules.specs.declared.case.Role.TheVariants as role
use Rattle.tsa_rules.specs.Cases.{tests_by}
use Rattle.tsa_rules.specs.Conditions.{answer_of, condition_in}
use Rattle.tsa_rules_roles.specs.declared.duty.Duty.TheVariants as duty
use Rattle.tsa_rules_roles.specs.declared.answers.Told.{Told}
use Rattle.tsa_rules_roles.specs.Duties.{Tells}
use Rattle.tsa_rules_roles.specs.ValueAnswers.{condition_of}

pub declares : (here : Scope) (kind : Kind) (init : Option Initialiser) → Tells (duty.Declares here.locals) (declared here kind init).action
declares here kind None = record { role = λ u f b. refl; condition = refl }
declares here kind (Some (value e)) = record { role = λ u f b. refl; condition = refl }
declares here kind (Some (list items span)) = record { role = λ u f b. refl; condition = refl }

pub sets : (x : Term) (o : Option BinaryOp) (kind : Kind) (right : Term) → Tells duty.Passes (set_to x o kind right)
sets (constant v) o kind right = record { role = λ u f b. refl; condition = refl }
sets (variable n) o kind right = record { role = λ u f b. refl; condition = refl }
sets answer o kind right = record { role = λ u f b. refl; condition = refl }
sets (global n) o kind right = record { role = λ u f b. refl; condition = refl }
sets (member base n) o kind right = record { role = λ u f b. refl; condition = refl }
sets (element base i) o kind right = record { role = λ u f b. refl; condition = refl }
sets (target p) o kind right = record { role = λ u f b. refl; condition = refl }
sets (load stable place) o kind right = record { role = λ u f b. refl; condition = refl }
sets (address place) o kind right = record { role = λ u f b. refl; condition = refl }
sets (converted to inner) o kind right = record { role = λ u f b. refl; condition = refl }
sets (prefixed p inner) o kind right = record { role = λ u f b. refl; condition = refl }
sets (joined p left other) o kind right = record { role = λ u f b. refl; condition = refl }

-- a test that tells an answer, and one that tells none
pub tests : (x : Term) (t : Told) (r : Option Told) → option_map condition_of r ≡ condition_in x → r ≡ Some t → Tells (duty.Tests t) (test x)
tests x t r told is =
    let e : Some (condition_of t) ≡ condition_in x = sym (ap (option_map condition_of) is) ∙ told in
    record { role = λ u f b. ap (tests_by u f) e; condition = e }

pub untold : (x : Term) (r : Option Told) → option_map condition_of r ≡ condition_in x → r ≡ None → Tells duty.Passes (test x)
untold x r told is =
    let e : None ≡ condition_in x = sym (ap (option_map condition_of) is) ∙ told in
    record { role = λ u f b. ap (tests_by u f) e; condition = e }

pub gives : (kind : Kind) (x : Term) (a : Option Bool) → a ≡ answer_of x → Tells (duty.Leaves a) (give kind x)
gives kind x a is = record { role = λ u f b. ap role.Leaves is; condition = refl }

pub evaluates : (x : Term) → Tells duty.Passes (evaluate x)
evaluates x = record { role = λ u f b. refl; condition = refl }

pub branches : (x : Term) → Tells duty.Passes (branch x)
branches x = record { role = λ u f b. refl; condition = refl }

pub goes_on : Tells duty.Passes go_on
goes_on = record { role = λ u f b. refl; condition = refl }

pub ruleset duties = (declares, sets, tests, untold, gives, evaluates, branches, goes_on)
