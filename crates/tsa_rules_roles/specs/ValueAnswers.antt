-- What values tell: the number that one is, the answer that it is or beside which another stands, and what a test looks at.
use Rattle.std.specs.Prelude.{Bool, false, Option, Some, None, option_map, option_and_then}
use Rattle.tsa_tree.specs.declared.kind.Kind.{Kind}
use Rattle.tsa_tree.specs.declared.kind.Kind.TheVariants as type
use Rattle.tsa_tree.specs.declared.number.Number.{Number}
use Rattle.tsa_tree.specs.types.Constants.{without_trap}
use Rattle.tsa_rules.specs.Conditions.{Subject, the_call, the_local, Condition, as_kind, answer_in, beside, either}
use Rattle.tsa_rules.specs.Effects.{same_answer}
use Rattle.tsa_rules_roles.specs.declared.gist.Gist.{Gist}
use Rattle.tsa_rules_roles.specs.declared.answers.Looked.{Looked}
use Rattle.tsa_rules_roles.specs.declared.answers.Looked.TheVariants as looked
use Rattle.tsa_rules_roles.specs.declared.answers.Told.{Told}
use Rattle.tsa_rules_roles.specs.declared.worth.Worth.{Worth}
use Rattle.tsa_rules_roles.specs.declared.worth.Worth.TheVariants as worth
use Rattle.tsa_rules_roles.specs.Worths.{worth_beside}

-- which subject and which condition of the rules the code's are
abbrev pub subject_of : Looked → Subject
subject_of looked.Call = the_call
subject_of (looked.Local n) = the_local n

abbrev pub condition_of : Told → Condition
condition_of t = record { subject = subject_of t.asked; yes_means = t.yes_means }

-- what may be looked at
abbrev pub subject : Worth → Option Subject
subject worth.Call = Some the_call
subject (worth.Local n) = Some (the_local n)
subject _ = None

-- a constant that is worked out without a trap
abbrev pub number : Worth → Option Number
number (worth.Number r) = without_trap r
number _ = None

abbrev pub answer : Worth → Option Bool
answer w = option_and_then answer_in (number w)

-- beside what a try gives that is a pointer, null stands for the answer 0
abbrev pub answer_beside : Worth → Option Bool
answer_beside worth.Null = Some false
answer_beside w = answer w

-- `==`, and `!=` where the answer is the other one
abbrev pub compared : (is_same : Bool) → Worth → Worth → Option Condition
compared is_same left right =
    either (beside (same_answer is_same) (subject left) (answer_beside right)) (beside (same_answer is_same) (subject right) (answer_beside left))

-- a number where one of a kind is wanted: an integer of the other kind is converted (C11 6.3.1.3)
abbrev pub converted : (to from : Kind) → Number → Number
converted type.Int type.Unsigned n = as_kind type.Int n
converted type.Unsigned type.Int n = as_kind type.Unsigned n
converted to from n = n

abbrev pub given : Kind → Gist → Option Number
given type.Int g = option_map (converted type.Int g.expression.thing.kind) (number g.worth)
given type.Unsigned g = option_map (converted type.Unsigned g.expression.thing.kind) (number g.worth)
given kind g = number (worth_beside kind g)
