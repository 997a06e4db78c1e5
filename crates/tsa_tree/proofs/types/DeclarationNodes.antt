-- The nodes of types, attributes, items and initialisers beside their premises.
use Rattle.std.proofs.Common.{◌≡◌, ℕ, suc, ℤ, pos, ◌+ℤ◌, Bool, true, false, not, ◌&&◌, ◌||◌, List, [], ◌∷◌, Option, Some, None, is_some}
use Rattle.std.proofs.Common.{is_none, length, drop, slice_get, refl, sym, subst, if◌then◌else◌}
use Rattle.tsa_base.specs.declared.token.Span.{Span}
use Rattle.tsa_tree.specs.attributes.Syntax.{Attribute}
use Rattle.tsa_tree.specs.declarations.Syntax as declared
use Rattle.tsa_tree.specs.declarations.Syntax.{Base, DeclaredType, Initialiser, Initialisers, value, list, no_more, one_more, Declaration}
use Rattle.tsa_tree.specs.declarations.Syntax.{Parameter, EnumConstant, Head}
use Rattle.tsa_tree.specs.expressions.Syntax.{Identifier, Expression, Arguments, none, more}
use Rattle.tsa_tree.specs.declared.kind.Declaring.TheVariants as declaring
use Rattle.tsa_tree.specs.declared.kind.Resolved.TheVariants as written
use Rattle.tsa_tree.specs.declared.meaning.Tag.TheVariants as kept
use Rattle.tsa_tree.specs.declared.premise.Bearer.TheVariants as on
use Rattle.tsa_tree.specs.declared.premise.TypeCode.TheVariants.{TY1, TY2, TY6, TY9}
use Rattle.tsa_tree.specs.types.Attributes.{Bearer, stands_on, is_lock_type, lock_premises, attributes_premises, attributes_beside}
use Rattle.tsa_tree.specs.types.Constants.{constant_of}
use Rattle.tsa_tree.specs.types.DeclaredTypes.{Resolved, Declaring, of_struct, of_enum, of_alias, base_of, qualified, declared_as, resolve}
use Rattle.tsa_tree.specs.types.DeclaredTypes.{thing_type, type_premise, unknown_tag, length_in, length_premises, typed_premises}
use Rattle.tsa_tree.specs.types.DeclaredTypes.{declared_premises}
use Rattle.tsa_tree.specs.types.Enums.{int_value, value_premises, enumerator_premises, enumerator_entry, enumerator_value, enum_premises}
use Rattle.tsa_tree.specs.types.Enums.{other_enum, behind_enumerators}
use Rattle.tsa_tree.specs.types.Expressions.{known_and}
use Rattle.tsa_tree.specs.types.Operands.{goes_to}
use Rattle.tsa_tree.specs.types.Fails.{fails, is_type_name}
use Rattle.tsa_tree.specs.types.FirstFailing.{codes_in_order, failure_at}
use Rattle.tsa_tree.specs.types.Globals.{with_global, bearer_of, global_init, inside_global, global_premises}
use Rattle.tsa_tree.specs.types.Heads.{with_param, behind_head, inside, is_another, params_premises, head_premises}
use Rattle.tsa_tree.specs.types.Initialisers.{cell_or_nothing, cell_premises, initialiser_premises, list_premises, is_constant_for}
use Rattle.tsa_tree.specs.types.Initialisers.{parts_of, or_no_parts, is_misfit}
use Rattle.tsa_tree.specs.types.Known as known
use Rattle.tsa_tree.specs.types.Known.{Context, Entry, Meaning}
use Rattle.tsa_tree.specs.types.Node as node
use Rattle.tsa_tree.specs.types.Node.{Node, told_at}
use Rattle.tsa_tree.specs.types.Nodes.{nodes_in_base, nodes_in_length, nodes_in_type, nodes_in_locks, nodes_in_attributes, nodes_in_members}
use Rattle.tsa_tree.specs.types.Nodes.{nodes_in_struct, nodes_in_value, nodes_in_enumerators, nodes_in_cell, nodes_in_initialiser}
use Rattle.tsa_tree.specs.types.Nodes.{nodes_in_initialisers, nodes_in_init, nodes_in_global, nodes_in_parameters, nodes_in_head}
use Rattle.tsa_tree.specs.types.Premises.{premise, or_else, first}
use Rattle.tsa_tree.specs.types.Scopes.{Scope, Tag, Members, found, context_of, with_name, with_owned, is_taken, is_named_taken, tag_in}
use Rattle.tsa_tree.specs.types.Structs.{with_member, first_place, other_struct, members_premises, inside_struct, struct_premises}
use Rattle.tsa_tree.specs.types.Types as type
use Rattle.tsa_tree.specs.types.Types.{Kind, ThingType}
use Rattle.tsa_tree.proofs.types.NodeLists.{Agree, no_nodes, joined, with_node, a_node}
use Rattle.tsa_tree.proofs.types.ExpressionNodes.{asked_if, expression_agrees}

-- A pointer to a type that is known names nothing unknown.
pointed_at : (is_const : Bool) (k : Kind) (l : Option ℕ) (c : Bool) → unknown_tag (declared_as true is_const (written.Type (record { kind = k; length = l; is_const = c }))) ≡ []
pointed_at is_const type.Int l c = refl
pointed_at is_const _ l c = refl

-- What a declarator and a `const` make of a base names what the base does.
made_unknown : (pointer pointer_const base_const : Bool) (r : Resolved) → unknown_tag (declared_as pointer pointer_const (qualified base_const r)) ≡ unknown_tag r
made_unknown true pc bc (written.Type t) = pointed_at pc t.kind t.length _
made_unknown false pc bc (written.Type t) = refl
made_unknown pointer pc bc (written.Unknown span) = refl
made_unknown pointer pc bc written.Refused = refl

-- a struct's tag that isn't known
struct_told : (span : Span) (o : Option Tag) → or_else (if is_none o then Some (record { code = TY1; span = span }) else None) None ≡ first (unknown_tag (of_struct span o))
unfolding first
struct_told span None = refl
struct_told span (Some (kept.Structure n)) = refl
struct_told span (Some (kept.Enumeration at)) = refl

-- an enum's tag that isn't known
enum_told : (span : Span) (o : Option Tag) → or_else (if is_none o then Some (record { code = TY1; span = span }) else None) None ≡ first (unknown_tag (of_enum span o))
unfolding first
enum_told span None = refl
enum_told span (Some (kept.Structure n)) = refl
enum_told span (Some (kept.Enumeration at)) = refl

-- a name of a type that isn't one
alias_told : (span : Span) (o : Option Entry)
    → or_else (if not (known_and is_type_name o) then Some (record { code = TY1; span = span }) else None) None ≡ first (unknown_tag (of_alias span o))
unfolding first
alias_told span None = refl
alias_told span (Some e) = by_meaning e.meaning e.thing
  where
    by_meaning : (m : Meaning) (t : ThingType)
        → or_else (if not (is_type_name (record { meaning = m; thing = t })) then Some (record { code = TY1; span = span }) else None) None
        ≡ first (unknown_tag (of_alias span (Some (record { meaning = m; thing = t }))))
    by_meaning known.TypeName t = refl
    by_meaning _ t = refl

-- what a type begins with
base_agrees : (here : Scope) (b : Base) → Agree (nodes_in_base here b) (unknown_tag (base_of here b))
unfolding failure_at fails told_at
base_agrees here declared.int = no_nodes
base_agrees here declared.unsigned = no_nodes
base_agrees here declared.void = no_nodes
base_agrees here (declared.structure tag) = a_node (node.tag here tag) _ (struct_told tag.span (found here.tags tag.text))
base_agrees here (declared.enumerated tag) = a_node (node.tag here tag) _ (enum_told tag.span (found here.tags tag.text))
base_agrees here (declared.alias name) = a_node (node.type_name here name) _ (alias_told name.span (found here.names name.text))

-- the names in a declared type
pub names_agree : (here : Scope) (t : DeclaredType) → Agree (nodes_in_base here t.base) (unknown_tag (resolve here t))
names_agree here t = subst (Agree (nodes_in_base here t.base)) (sym (made_unknown t.pointer t.pointer_const t.base_const (base_of here t.base))) (base_agrees here t.base)

-- a length
pub length_agrees : (c : Context) (l : Option Expression) → Agree (nodes_in_length c l) (length_premises c l)
unfolding failure_at fails told_at
length_agrees c None = no_nodes
length_agrees c (Some e) = asked_if c e (node.length c e) TY9 (λ t. not (is_some (length_in (constant_of c e)))) refl

-- a declaration by its name, its type and its length
pub declared_agrees : (n : Node) (here : Scope) (what : Declaring) (taken : Bool) (span : Span) (t : DeclaredType)
    → failure_at codes_in_order n ≡ first (premise TY2 span taken ∷ type_premise here what span t ∷ [])
    → Agree (n ∷ nodes_in_type here t) (declared_premises here what taken span t)
unfolding typed_premises declared_premises
declared_agrees n here what taken span t told =
    with_node n (premise TY2 span taken ∷ type_premise here what span t ∷ []) told (joined (names_agree here t) (length_agrees (context_of here) t.length))

-- the locks that an attribute names
locks_agree : (here : Scope) (given : Arguments) → Agree (nodes_in_locks here given) (lock_premises here given)
unfolding nodes_in_locks lock_premises failure_at fails told_at
locks_agree here none = no_nodes
locks_agree here (more e rest) =
    joined (asked_if (context_of here) e (node.lock here e) TY6 (λ t. not (is_lock_type here t)) refl) (locks_agree here rest)

-- attributes
pub attributes_agree : (here : Scope) (bearer : Bearer) (attrs : List Attribute) → Agree (nodes_in_attributes here bearer attrs) (attributes_premises here bearer attrs)
unfolding nodes_in_attributes attributes_premises failure_at fails told_at first
attributes_agree here bearer [] = no_nodes
attributes_agree here bearer (a ∷ rest) =
    joined
    (with_node (node.attribute bearer a) (premise TY6 a.span (not (stands_on a.kind bearer)) ∷ []) refl (locks_agree here a.args))
    (attributes_agree here bearer rest)

-- members behind others
members_agree : (here : Scope) (before : Members) (members : List Declaration) → Agree (nodes_in_members here before members) (members_premises here before members)
unfolding nodes_in_members members_premises failure_at fails told_at first
members_agree here before [] = no_nodes
members_agree here before (d ∷ rest) =
    joined
    (joined
    (declared_agrees (node.member here before d) here declaring.Thing (is_some (found before d.name.text)) d.span d.ctype refl)
    (attributes_agree (with_owned before here) on.Member d.attrs))
    (members_agree here (with_member here before d) rest)

-- a struct
pub struct_agrees : (here : Scope) (tag alias : Option Identifier) (attrs : List Attribute) (members : List Declaration) (span : Span)
    → Agree (nodes_in_struct here tag alias attrs members span) (struct_premises here tag alias attrs members span)
unfolding struct_premises inside_struct failure_at fails told_at first
struct_agrees here tag alias attrs members span =
    with_node
    (node.structure here tag alias span)
    (premise TY2 span (other_struct (length here.structs) (tag_in here tag) || is_named_taken alias here) ∷ [])
    refl
    (joined
    (attributes_agree here on.Structure (attributes_beside true (first_place span.to members) attrs))
    (joined (members_agree here [] members) (attributes_agree here on.Structure (attributes_beside false (first_place span.to members) attrs))))

-- an enumerator with its value
enumerator_agrees : (here : Scope) (count : ℤ) (name : Identifier) (v : Option Expression)
    → Agree
    (node.enumerator here count (record { name = name; value = v }) ∷ nodes_in_value (context_of here) v)
    (premise TY2 name.span (is_taken name.text here) ∷ value_premises here name v count)
unfolding failure_at fails told_at first
enumerator_agrees here count name None = a_node (node.enumerator here count (record { name = name; value = None })) _ refl
enumerator_agrees here count name (Some e) =
    with_node
    (node.enumerator here count (record { name = name; value = Some e }))
    (premise TY2 name.span (is_taken name.text here) ∷ [])
    refl
    (asked_if (context_of here) e (node.enumerator_value (context_of here) e) TY9 (λ t. not (is_some (int_value (constant_of (context_of here) e)))) refl)

-- enumerators from a count on
enumerators_agree : (here : Scope) (count : ℤ) (values : List EnumConstant) → Agree (nodes_in_enumerators here count values) (enumerator_premises here count values)
unfolding nodes_in_enumerators enumerator_premises
enumerators_agree here count [] = no_nodes
enumerators_agree here count (e ∷ rest) =
    joined
    (enumerator_agrees here count e.name e.value)
    (enumerators_agree (with_name e.name.text (enumerator_entry (enumerator_value here e count)) here) (enumerator_value here e count +ℤ pos 1) rest)

-- an enum
pub enum_agrees : (here : Scope) (tag alias : Option Identifier) (values : List EnumConstant) (span : Span)
    → Agree (node.enumeration here tag alias values span ∷ nodes_in_enumerators here (pos 0) values) (enum_premises here tag alias values span)
unfolding enum_premises failure_at fails told_at first
enum_agrees here tag alias values span =
    with_node
    (node.enumeration here tag alias values span)
    (premise TY2 span (other_enum span.from (tag_in here tag) || is_named_taken alias (behind_enumerators here (pos 0) values)) ∷ [])
    refl
    (enumerators_agree here (pos 0) values)

-- an expression for a cell, or beyond all
cell_agrees : (c : Context) (own : ℕ) (thing : Option ThingType) (e : Expression) → Agree (nodes_in_cell c own thing e) (cell_or_nothing c own thing e)
unfolding cell_premises failure_at fails told_at
cell_agrees c own None e = expression_agrees c e
cell_agrees c own (Some thing) e =
    asked_if c e (node.cell c own thing e) TY9 (λ t. not (goes_to t thing && is_constant_for c own thing.kind e)) refl

-- an initialiser
mutual
  unfolding nodes_in_initialiser initialiser_premises failure_at fails told_at first

  initialiser_agrees : (here : Scope) (own : ℕ) (thing : Option ThingType) (i : Initialiser) → Agree (nodes_in_initialiser here own thing i) (initialiser_premises here own thing i)
  initialiser_agrees here own thing (value e) = cell_agrees (context_of here) own thing e
  initialiser_agrees here own thing (list items span) =
      with_node
      (node.list here thing items span)
      (premise TY9 span (is_misfit (parts_of here thing) items) ∷ [])
      refl
      (initialisers_agree here own (or_no_parts (parts_of here thing)) items)

  -- those of a list
  initialisers_agree : (here : Scope) (own : ℕ) (types : List ThingType) (items : Initialisers) → Agree (nodes_in_initialisers here own types items) (list_premises here own types items)
  initialisers_agree here own types no_more = no_nodes
  initialisers_agree here own types (one_more first_item rest) = joined (initialiser_agrees here own (slice_get types 0) first_item) (initialisers_agree here own (drop 1 types) rest)

-- that of a global
init_agrees : (here : Scope) (own : ℕ) (thing : ThingType) (i : Option Initialiser) → Agree (nodes_in_init here own thing i) (global_init here own thing i)
init_agrees here own thing None = no_nodes
init_agrees here own thing (Some i) = initialiser_agrees here own (Some thing) i

-- a global
pub global_agrees : (here : Scope) (d : Declaration) → Agree (nodes_in_global here d) (global_premises here d)
unfolding typed_premises inside_global failure_at fails told_at first
global_agrees here d =
    with_node
    (node.global here d)
    (premise TY2 d.span (is_taken d.name.text here) ∷ type_premise here declaring.Thing d.span d.ctype ∷ [])
    refl
    (joined
    (names_agree here d.ctype)
    (joined
    (length_agrees (context_of (with_global here d)) d.ctype.length)
    (joined
    (attributes_agree (with_global here d) (bearer_of (with_global here d) (thing_type here d.ctype)) d.attrs)
    (init_agrees (with_global here d) here.globals (thing_type here d.ctype) d.init))))

-- parameters from a number on
params_agree : (here : Scope) (n : ℕ) (params : List Parameter) → Agree (nodes_in_parameters here n params) (params_premises here n params)
unfolding nodes_in_parameters params_premises failure_at fails told_at first
params_agree here n [] = no_nodes
params_agree here n (p ∷ rest) =
    joined (declared_agrees (node.parameter here p) here declaring.Thing (is_named_taken p.name here) p.span p.ctype refl) (params_agree (with_param n p here) (suc n) rest)

-- a function's head
pub head_agrees : (here : Scope) (head : Head) (with_body : Bool) → Agree (nodes_in_head here head with_body) (head_premises here head with_body)
unfolding head_premises failure_at fails told_at first
head_agrees here head with_body =
    joined
    (declared_agrees (node.function here head with_body) here declaring.Result (is_another here head with_body (found here.names head.name.text)) head.name.span head.result refl)
    (joined (params_agree (behind_head here head with_body) 0 head.params) (attributes_agree (inside here head with_body) on.Function head.attrs))
