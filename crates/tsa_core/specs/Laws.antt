-- Laws of the core program: its points are those of the text, its terms have the types of their expressions, edges go from point to point
-- by what the points do, every point but a return and the end goes on, and no point speaks of a local that isn't known there.
use Rattle.std.specs.Prelude.{◌≡◌, ℕ, ◌+◌, ◌<◌, ◌≤◌, pos, Bool, true, false, not, List, [], ◌∷◌, All, map, length, Option, Some, None}
use Rattle.std.specs.Prelude.{option_map, is_some, slice_get}
use Rattle.tsa_base.specs.declared.token.Span.{Span}
use Rattle.tsa_tree.specs.declared.kind.ExpressionType.{ExpressionType}
use Rattle.tsa_tree.specs.declared.kind.Kind.{Kind}
use Rattle.tsa_tree.specs.declared.meaning.Entry.{Entry}
use Rattle.tsa_tree.specs.declared.meaning.Meaning.{Meaning}
use Rattle.tsa_tree.specs.declared.meaning.Meaning.TheVariants as meant
use Rattle.tsa_tree.specs.declared.number.Number.{Number}
use Rattle.tsa_tree.specs.declared.number.Number.TheVariants as numeral
use Rattle.tsa_tree.specs.expressions.Syntax.{Expression}
use Rattle.tsa_tree.specs.points.Syntax.{Deed, declares, tests, switches, returns, ends, points_of_body}
use Rattle.tsa_tree.specs.statements.Syntax.{Statements}
use Rattle.tsa_tree.specs.types.Arithmetic.{is_nonzero}
use Rattle.tsa_tree.specs.types.DeclaredTypes.{value_in}
use Rattle.tsa_tree.specs.types.Expressions.{type_of}
use Rattle.tsa_tree.specs.types.Scopes.{Scope, context_of, known_in}
use Rattle.tsa_tree.specs.types.Targets.{declared_in_all}
use Rattle.tsa_tree.specs.types.Units.{outset}
use Rattle.tsa_tree.specs.units.Syntax.{UnitItem}
use Rattle.tsa_place_model.specs.Calls.{Layout}
use Rattle.tsa_core.specs.Bodies.{Action, evaluate, set_local, set_cell, declare, test, branch, go_on, give, Known, known_in_body, kinds_by}
use Rattle.tsa_core.specs.Bodies.{point_of, body_of, can_have}
use Rattle.tsa_core.specs.Control.{Outcome, Next, Yes, No, Rest, Chosen, Edge, count_all, body_edges, next_point}
use Rattle.tsa_core.specs.Meanings.{Call, meaning}
use Rattle.tsa_core.specs.Programs.{Bodied, Declared, bodied_function, body_in, declared_functions, uses_in}
use Rattle.tsa_core.specs.Terms.{Term, constant, variable, answer, global, member, element, target, load, address, converted, prefixed}
use Rattle.tsa_core.specs.Terms.{joined}

-- a body does at its points, in order, what the text does there, and has as many
abbrev pub PointsAreThoseOfTheText : Type 0
PointsAreThoseOfTheText = (here : Scope) (result : Kind) (body : Statements) (close : Span)
    → (map (λ k. k.deed) (known_in_body here body) ≡ map (λ p. p.deed) (points_of_body body close))
    × (length (body_of here result body).points ≡ length (points_of_body body close))

-- what an expression means has its type, where it has one
abbrev pub TermsHaveTheirTypes : Type 0
TermsHaveTheirTypes = (here : Scope) (e : Expression) (t : ExpressionType) → type_of (context_of here) e ≡ Some t → (meaning here e).type ≡ t

-- Edges go from a point that isn't the end to a point: the end has the number of the points before it.
abbrev pub IsInside : ℕ → Edge → Type 0
IsInside end e = (e.from < end) × (e.to ≤ end)

abbrev pub EdgesStayInside : Type 0
EdgesStayInside = (here : Scope) (result : Kind) (body : Statements) → All (IsInside (count_all body)) (body_of here result body).edges

-- Which outcomes a point may have: a test that is a constant has only its own, and a switch may choose any value.
abbrev pub is_next : Outcome → Bool
is_next Next = true
is_next _ = false

abbrev pub may_hold : Option Number → Bool
may_hold None = true
may_hold (Some n) = is_nonzero n

abbrev pub may_fail : Option Number → Bool
may_fail None = true
may_fail (Some n) = not (is_nonzero n)

abbrev pub is_told : Option Number → Outcome → Bool
is_told n Yes = may_hold n
is_told n No = may_fail n
is_told n _ = false

abbrev pub is_choice : Outcome → Bool
is_choice Rest = true
is_choice (Chosen z) = true
is_choice _ = false

abbrev pub test_value : Scope → Option Expression → Option Number
test_value here None = Some (numeral.Int (pos 1))
test_value here (Some e) = value_in (context_of here) e

abbrev pub goes_by : Scope → Deed → Outcome → Bool
goes_by here (tests e) o = is_told (test_value here e) o
goes_by here (switches e) o = is_choice o
goes_by here (returns e) o = false
goes_by here ends o = false
goes_by here _ o = is_next o

abbrev pub goes : Known → Outcome → Bool
goes k o = goes_by k.here k.deed o

-- an edge's outcome is one that its point's action can have, and that its point may have
abbrev pub OutcomesAreOfTheActions : Type 0
OutcomesAreOfTheActions = (here : Scope) (result : Kind) (body : Statements)
    → All (λ e. option_map (λ p. can_have p.action e.outcome) (slice_get (body_of here result body).points e.from) ≡ Some true) (body_of here result body).edges

abbrev pub OutcomesAreOfThePoints : Type 0
OutcomesAreOfThePoints = (here : Scope) (body : Statements)
    → All (λ e. option_map (λ k. goes k e.outcome) (slice_get (known_in_body here body) e.from) ≡ Some true) (body_edges here body)

-- Every point goes on for each outcome that it may have, but for the values that a switch doesn't name: for those it goes on as for the
-- rest.
abbrev pub is_chosen : Outcome → Bool
is_chosen (Chosen z) = true
is_chosen _ = false

abbrev pub PointsGoOn : Type 0
PointsGoOn = (here : Scope) (body : Statements) (n : ℕ) (k : Known) (o : Outcome) → slice_get (known_in_body here body) n ≡ Some k
    → goes k o ≡ true → is_chosen o ≡ false → is_some (next_point (body_edges here body) n o) ≡ true

-- the point that an edge leads to is the next one for its outcome, but for a switch, where the first case of a value counts
abbrev pub EdgesAreFollowed : Type 0
EdgesAreFollowed = (here : Scope) (body : Statements)
    → All (λ e. is_choice e.outcome ≡ false → next_point (body_edges here body) e.from e.outcome ≡ Some e.to) (body_edges here body)

-- Locals that are spoken of have lower numbers than a bound.
abbrev pub SpeaksBelow : ℕ → Term → Type 0
SpeaksBelow n (constant v) = Unit {0}
SpeaksBelow n (variable m) = m < n
SpeaksBelow n answer = Unit {0}
SpeaksBelow n (global g) = Unit {0}
SpeaksBelow n (member base k) = SpeaksBelow n base
SpeaksBelow n (element base i) = SpeaksBelow n base × SpeaksBelow n i
SpeaksBelow n (target p) = SpeaksBelow n p
SpeaksBelow n (load stable place) = SpeaksBelow n place
SpeaksBelow n (address place) = SpeaksBelow n place
SpeaksBelow n (converted kind inner) = SpeaksBelow n inner
SpeaksBelow n (prefixed op inner) = SpeaksBelow n inner
SpeaksBelow n (joined op left right) = SpeaksBelow n left × SpeaksBelow n right

abbrev pub CallsBelow : ℕ → Option Call → Type 0
CallsBelow n None = Unit {0}
CallsBelow n (Some c) = All (SpeaksBelow n) c.args

-- a local that is declared has the bound itself for its number: its initialiser doesn't speak of it
abbrev pub ActsBelow : ℕ → Action → Type 0
ActsBelow n (evaluate v) = SpeaksBelow n v
ActsBelow n (set_local m op kind right) = (m < n) × SpeaksBelow n right
ActsBelow n (set_cell place op kind right) = SpeaksBelow n place × SpeaksBelow n right
ActsBelow n (declare m kind v) = (m ≡ n) × SpeaksBelow n v
ActsBelow n (test v) = SpeaksBelow n v
ActsBelow n (branch v) = SpeaksBelow n v
ActsBelow n go_on = Unit {0}
ActsBelow n (give kind v) = SpeaksBelow n v

abbrev pub IsBelow : ℕ → Meaning → Type 0
IsBelow n (meant.Local m) = m < n
IsBelow n _ = Unit {0}

-- the locals that are known are among those declared so far
abbrev pub KnowsBelow : Scope → Type 0
KnowsBelow here = All (λ x. IsBelow here.locals x.1.meaning) here.names

abbrev pub PointBelow : Kind → Known → Type 0
PointBelow result k = CallsBelow k.here.locals (point_of result k).call × ActsBelow k.here.locals (point_of result k).action

abbrev pub PointsSpeakOfKnown : Type 0
PointsSpeakOfKnown = (here : Scope) (result : Kind) (body : Statements) → KnowsBelow here → All (PointBelow result) (known_in_body here body)

-- Locals are numbered in order of their declarations, from one on.
abbrev pub IsNumbered : ℕ → Scope → Deed → Type 0
IsNumbered n here (declares d) = here.locals ≡ n
IsNumbered n here _ = Unit {0}

abbrev pub AreNumbered : ℕ → List Known → Type 0
AreNumbered n [] = Unit {0}
AreNumbered n (k ∷ ks) = IsNumbered n k.here k.deed × AreNumbered (n + length (kinds_by k.here k.deed)) ks

-- a body declares as many locals as its text, which go on from those before, and at no point are more known
abbrev pub LocalsAreListed : Type 0
LocalsAreListed = (here : Scope) (result : Kind) (body : Statements)
    → (length (body_of here result body).locals ≡ declared_in_all body)
    × (AreNumbered here.locals (known_in_body here body) × All (λ k. k.here.locals ≤ here.locals + declared_in_all body) (known_in_body here body))

-- where the statements of a unit's function begin, the locals that are known are its parameters
abbrev pub BodiesBeginBelow : Type 0
BodiesBeginBelow = (items : List UnitItem) (name : List ℕ) (b : Bodied) → bodied_function name (outset items) items ≡ Some b
    → KnowsBelow b.here × (b.here.locals ≡ length b.head.params)

-- At each point of a unit's body a name that means a function is the name of the function that has the number.
abbrev pub HasName : List Declared → ℕ → List ℕ → Type 0
HasName ds n name = option_map (λ d. d.head.name.text) (slice_get ds n) ≡ Some name

abbrev pub KnowsNumbers : List Declared → Known → Type 0
KnowsNumbers ds k = (callee : List ℕ) (e : Entry) (n : ℕ) → known_in k.here callee ≡ Some e → e.meaning ≡ meant.Function n → HasName ds n callee

abbrev pub FunctionsAreNumbered : Type 0
FunctionsAreNumbered = (items : List UnitItem) (name : List ℕ) (b : Bodied) → bodied_function name (outset items) items ≡ Some b
    → All (KnowsNumbers (declared_functions (outset items) items)) (known_in_body b.here b.body)

-- what a function uses stands beside its points
abbrev pub UsesStandBesidePoints : Type 0
UsesStandBesidePoints = (l : Layout) (b : Bodied) → length (uses_in l b) ≡ length (body_in b).points
