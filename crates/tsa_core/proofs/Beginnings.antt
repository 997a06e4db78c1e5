-- Where a body begins, the locals that are known are its parameters.
use Rattle.std.proofs.Common.{◌≡◌, ℕ, ℤ, suc, ◌+◌, ◌+ℤ◌, pos, ◌≤◌, arith, Bool, true, false, List, [], ◌∷◌, length, slice_get, Option, Some}
use Rattle.std.proofs.Common.{None, refl, subst}
use Rattle.std.proofs.lemmas.List.Elements.{All-append, All-nil}
use Rattle.std.specs.Str.{bytes_eq}
use Rattle.tsa_tree.specs.declarations.Syntax.{EnumConstant, Parameter, Head}
use Rattle.tsa_tree.specs.declared.meaning.Entry.{Entry}
use Rattle.tsa_tree.specs.declared.meaning.Meaning.{Meaning}
use Rattle.tsa_tree.specs.declared.meaning.Meaning.TheVariants as meant
use Rattle.tsa_tree.specs.expressions.Syntax.{Identifier}
use Rattle.tsa_tree.specs.types.DeclaredTypes.{thing_type}
use Rattle.tsa_tree.specs.types.Enums.{enumerator_entry, enumerator_value, behind_enumerators}
use Rattle.tsa_tree.specs.types.Globals.{global_entry}
use Rattle.tsa_tree.specs.types.Heads.{function_entry, bodied, again, behind_known, behind_head, local_entry, with_param, inside_params}
use Rattle.tsa_tree.specs.types.Heads.{inside}
use Rattle.tsa_tree.specs.types.Scopes.{Scope, FunctionEntry, found, with_name, with_named, with_struct, a_type_name}
use Rattle.tsa_tree.specs.types.Structs.{members_behind}
use Rattle.tsa_tree.specs.declared.kind.Kind.TheVariants as type
use Rattle.tsa_tree.specs.types.Types.{single}
use Rattle.tsa_tree.specs.types.Units.{outset, behind_item}
use Rattle.tsa_tree.specs.units.Syntax.{UnitItem, structure_item, alias_item, enumeration_item, global_item, function_item, body_item}
use Rattle.tsa_core.specs.Laws.{IsBelow, KnowsBelow, BodiesBeginBelow}
use Rattle.tsa_core.specs.Programs.{Bodied, or_body, bodied_by, bodied_function}
use Rattle.tsa_core.proofs.KnownLocals.{NamesBelow, names_more, one_name}
use Rattle.tsa_core.proofs.TypedTerms.{some_same}

-- The locals among the names that are known have numbers below one.
abbrev pub Below : ℕ → Scope → Type 0
Below n here = NamesBelow n here.names

name_below : (n : ℕ) (here : Scope) (name : List ℕ) (e : Entry) → IsBelow n e.meaning → Below n here → Below n (with_name name e here)
name_below n here name e is h = All-append (λ x. IsBelow n x.1.meaning) here.names ((name, e) ∷ []) h (one_name n name e is)

named_below : (n : ℕ) (here : Scope) (name : Option Identifier) (e : Entry) → IsBelow n e.meaning → Below n here → Below n (with_named name e here)
named_below n here None e is h = h
named_below n here (Some name) e is h = name_below n here name.text e is h

-- no item makes a local known
module _ (n : ℕ) where
  enumerators_below : (here : Scope) (next : ℤ) (values : List EnumConstant) → Below n here → Below n (behind_enumerators here next values)
  unfolding behind_enumerators
  enumerators_below here next [] h = h
  enumerators_below here next (e ∷ rest) h =
      enumerators_below (with_name e.name.text (enumerator_entry (enumerator_value here e next)) here) (enumerator_value here e next +ℤ pos 1) rest
      (name_below n here e.name.text (enumerator_entry (enumerator_value here e next)) tt h)

  bodied_below : (here : Scope) (with_body : Bool) (k : ℕ) (o : Option FunctionEntry) → Below n here → Below n (bodied here with_body k o)
  bodied_below here with_body k None h = h
  bodied_below here with_body k (Some f) h = h

  again_below : (here : Scope) (head : Head) (with_body : Bool) (m : Meaning) → Below n here → Below n (again here head with_body m)
  again_below here head with_body (meant.Function k) h = bodied_below here with_body k (slice_get here.functions k) h
  again_below here head with_body (meant.Global k) h = h
  again_below here head with_body (meant.Local k) h = h
  again_below here head with_body meant.Owned h = h
  again_below here head with_body (meant.Constant z) h = h
  again_below here head with_body meant.TypeName h = h

  known_below : (here : Scope) (head : Head) (with_body : Bool) (o : Option Entry) → Below n here → Below n (behind_known here head with_body o)
  known_below here head with_body None h = name_below n here head.name.text (function_entry here head (length here.functions)) tt h
  known_below here head with_body (Some e) h = again_below here head with_body e.meaning h

  pub head_below : (here : Scope) (head : Head) (with_body : Bool) → Below n here → Below n (behind_head here head with_body)
  head_below here head with_body h = known_below here head with_body (found here.names head.name.text) h

  pub item_below : (here : Scope) (item : UnitItem) → Below n here → Below n (behind_item here item)
  item_below here (structure_item tag alias attrs members span) h =
      named_below n (with_struct (members_behind here [] members) here) alias (a_type_name (single (type.Structure (length here.structs)) false)) tt h
  item_below here (alias_item name ctype span) h = name_below n here name.text (a_type_name (thing_type here ctype)) tt h
  item_below here (enumeration_item tag alias values span) h =
      named_below n (behind_enumerators here (pos 0) values) alias (a_type_name (single type.Int false)) tt (enumerators_below here (pos 0) values h)
  item_below here (global_item d) h = name_below n here d.name.text (global_entry here d) tt h
  item_below here (function_item head) h = head_below here head false h
  item_below here (body_item head body close) h = head_below here head true h

-- the parameters are the first locals
pub params_below : (end : ℕ) (here : Scope) (n : ℕ) (params : List Parameter) → n + length params ≤ end → Below end here → Below end (inside_params here n params)
unfolding inside_params
params_below end here n [] le h = h
params_below end here n (p ∷ rest) le h =
    params_below end (with_param n p here) (suc n) rest (omega (arith, le)) (named_below end here p.name (local_entry here n p.ctype) (omega (arith, le)) h)

abbrev Begins : Bodied → Type 0
Begins b = KnowsBelow b.here × (b.here.locals ≡ length b.head.params)

inside_below : (here : Scope) (head : Head) → Below 0 here → KnowsBelow (inside here head true)
inside_below here head h =
    params_below (length head.params) (behind_head here head true) 0 head.params (omega arith)
    (names_more 0 (length head.params) (behind_head here head true).names (omega arith) (head_below 0 here head true h))

first_body : (taken : Bool) (x b : Bodied) (other : Option Bodied) → Begins x → (other ≡ Some b → Begins b) → or_body taken x other ≡ Some b → Begins b
first_body true x b other begins later is = subst Begins (some_same is) begins
first_body false x b other begins later is = later is

module _ (name : List ℕ) (b : Bodied) where
  by_item : (here : Scope) (item : UnitItem) (other : Option Bodied) → Below 0 here → (other ≡ Some b → Begins b) → bodied_by name here item other ≡ Some b → Begins b
  by_item here (body_item head body close) other h later is =
      first_body (bytes_eq name head.name.text) (record { here = inside here head true; head = head; body = body }) b other (inside_below here head h, refl) later is
  by_item here (structure_item tag alias attrs members span) other h later is = later is
  by_item here (alias_item text ctype span) other h later is = later is
  by_item here (enumeration_item tag alias values span) other h later is = later is
  by_item here (global_item d) other h later is = later is
  by_item here (function_item head) other h later is = later is

  body_begins : (here : Scope) (items : List UnitItem) → Below 0 here → bodied_function name here items ≡ Some b → Begins b
  unfolding bodied_function
  body_begins here [] h is = cc
  body_begins here (item ∷ rest) h is =
      by_item here item (bodied_function name (behind_item here item) rest) h (body_begins (behind_item here item) rest (item_below 0 here item h)) is

pub bodies_begin_below : BodiesBeginBelow
bodies_begin_below items name b is = body_begins name b (outset items) items (All-nil (λ x. IsBelow 0 x.1.meaning)) is
