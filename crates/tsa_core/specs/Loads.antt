-- The cells that expressions read are those that their terms load.
use Rattle.std.specs.Prelude.{◌≡◌, true, List, [], ◌∷◌, ◌++◌, map, Some}
use Rattle.tsa_tree.specs.declared.kind.ExpressionType.{ExpressionType}
use Rattle.tsa_tree.specs.declared.kind.ThingType.{ThingType}
use Rattle.tsa_tree.specs.expressions.Syntax.{Expression}
use Rattle.tsa_tree.specs.types.Expressions.{type_of}
use Rattle.tsa_tree.specs.types.Operands.{goes_to}
use Rattle.tsa_tree.specs.types.Runnable.{is_free}
use Rattle.tsa_tree.specs.types.Scopes.{Scope, context_of}
use Rattle.tsa_core.specs.Cells.{cells_read, inner_cells}
use Rattle.tsa_core.specs.Meanings.{as_kind, loaded, meaning}
use Rattle.tsa_core.specs.Terms.{Term, constant, variable, answer, global, member, element, target, load, address, converted, prefixed}
use Rattle.tsa_core.specs.Terms.{joined}

-- The places of the loads in a term, an outer load before those inside it, where other loads stand for those of the answer.
abbrev pub loads_with : (of_answer : List Term) → Term → List Term
loads_with ps (constant value) = []
loads_with ps (variable n) = []
loads_with ps answer = ps
loads_with ps (global n) = []
loads_with ps (member base n) = loads_with ps base
loads_with ps (element base at) = loads_with ps base ++ loads_with ps at
loads_with ps (target pointer) = loads_with ps pointer
loads_with ps (load stable place) = place ∷ loads_with ps place
loads_with ps (address place) = loads_with ps place
loads_with ps (converted kind inner) = loads_with ps inner
loads_with ps (prefixed op inner) = loads_with ps inner
loads_with ps (joined op left right) = loads_with ps left ++ loads_with ps right

-- the places of the loads in a term alone
abbrev pub loads : Term → List Term
loads x = loads_with [] x

-- the places that some cells are
abbrev pub places : Scope → List Expression → List Term
places here cells = map (λ e. (meaning here e).term) cells

-- of a typed expression without a call, the cells that are read on the way to what it stands for are those that its term loads, and the
-- cells that are read for its value are those that its value loads
abbrev pub LoadsAreCells : Type 0
LoadsAreCells = (here : Scope) (e : Expression) (t : ExpressionType) → type_of (context_of here) e ≡ Some t → is_free e ≡ true
    → (loads (meaning here e).term ≡ places here (inner_cells here e)) × (loads (loaded (meaning here e)) ≡ places here (cells_read here e))

-- to convert such a value for what it goes to changes no load
abbrev pub ConversionsKeepLoads : Type 0
ConversionsKeepLoads = (here : Scope) (e : Expression) (t : ExpressionType) (to : ThingType) → type_of (context_of here) e ≡ Some t → is_free e ≡ true
    → goes_to t to ≡ true → loads (as_kind to.kind (meaning here e)) ≡ places here (cells_read here e)
