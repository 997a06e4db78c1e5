-- What is asked of functions as they are written: the statuses that their points leave, and the rules that fail there.
use Rattle.std.specs.Prelude.{ℕ, List, [], ◌∷◌, ◌++◌, map, filter, Option, option_map, slice_get, codes}
use Rattle.tsa_place_model.specs.Ways.{Way, from}
use Rattle.tsa_place_model.specs.declared.path.Root.TheVariants.{Global}
use Rattle.tsa_core.specs.Control.{Outcome}
use Rattle.tsa_core.specs.Examples.{program}
use Rattle.tsa_core.specs.Programs.{Function, Program}
use Rattle.tsa_rules.specs.Statuses.{Status, Free, Shared, Exclusive, Lent, Pending}
use Rattle.tsa_rules.specs.Effects.{effect}
use Rattle.tsa_rules.specs.Fails.{Rule, all_rules, fails}

-- the path of a global by its number
abbrev pub global : ℕ → Way
global n = from (Global n)

-- what is asked of a program's function, by its number
abbrev pub of_function : {A : Type 0} → ℕ → (Program → Function → A) → Program → Option A
of_function n ask u = option_map (ask u) (slice_get u.functions n)

-- the rules that a status before a point breaks there, and the status after it
abbrev pub Judgement : Type 0
Judgement = List Rule × Status

abbrev pub fits : Status → Judgement
fits after = ([], after)

abbrev pub breaks : Rule → Status → Judgement
breaks rule after = (rule ∷ [], after)

abbrev pub broken_rules : Program → Function → ℕ → Way → Status → List Rule
broken_rules u f p c s = filter (λ rule. fails rule u f p c s) all_rules

abbrev pub judgement : Program → Function → ℕ → Outcome → Way → Status → Judgement
judgement u f p o c s = (broken_rules u f p c s, effect u f p c o s)

-- the statuses of a lock that is taken once, and of one that its holder may take again, in the order in which the rows below have them
abbrev pub once : List Status
once = Free ∷ Shared ∷ Exclusive 1 ∷ Lent ∷ Pending 4 ∷ []

abbrev pub again : List Status
again = Free ∷ Shared ∷ Exclusive 1 ∷ Exclusive 2 ∷ Exclusive 6 ∷ Exclusive 7 ∷ Lent ∷ Pending 4 ∷ []

abbrev pub judgements : ℕ → Outcome → Way → List Status → Program → Function → List Judgement
judgements p o c statuses u f = map (judgement u f p o c) statuses

-- a lock `mu` of a kind, a function `g` with an attribute that names its parameter `m`, and a function of some statements
abbrev pub with_call : (kind attribute body : List ℕ) → Program
with_call kind attribute body = program (
    codes "enum { ONE = 1 }; struct CAPABILITY(\"" ++ (kind ++ (codes "\") l { int s; }; struct l mu, nu; int g(struct l *m) " ++ (attribute
    ++ (codes "; void f(void) { " ++ (body ++ codes " }"))))))

-- what the statements of that function make at a point, left by an outcome, of the statuses of `mu`
abbrev pub judgements_of : (kind attribute body : List ℕ) → ℕ → Outcome → List Status → Option (List Judgement)
judgements_of kind attribute body p o statuses = of_function 1 (judgements p o (global 0) statuses) (with_call kind attribute body)
