-- The rules of types, code by code, and at which nodes each of them fails.
use Rattle.std.specs.Prelude.{ℤ, Bool, true, false, not, ◌&&◌, ◌||◌, Option, Some, None, is_some, is_none, length, pos}
use Rattle.tsa_tree.specs.expressions.Syntax.{Expression}
use Rattle.tsa_tree.specs.declared.kind.Declaring.TheVariants as declaring
use Rattle.tsa_tree.specs.declared.premise.TypeCode.{TypeCode}
use Rattle.tsa_tree.specs.declared.premise.TypeCode.TheVariants.{TY1, TY2, TY3, TY4, TY5, TY6, TY7, TY8, TY9}
use Rattle.tsa_tree.specs.types.Arithmetic.{is_int}
use Rattle.tsa_tree.specs.types.Attributes.{stands_on, is_lock_type}
use Rattle.tsa_tree.specs.types.Constants.{constant_of}
use Rattle.tsa_tree.specs.types.DeclaredTypes.{resolve, thing_type, is_refused, length_in, value_in}
use Rattle.tsa_tree.specs.types.Enums.{int_value, other_enum, behind_enumerators}
use Rattle.tsa_tree.specs.types.Expressions.{type_of, types_of, owner, member_of, known_and, breaks_call, miscounts}
use Rattle.tsa_tree.specs.types.Heads.{is_another}
use Rattle.tsa_tree.specs.types.Initialisers.{is_constant_for, parts_of, is_misfit}
use Rattle.tsa_tree.specs.types.Known as known
use Rattle.tsa_tree.specs.types.Known.{Meaning, Entry}
use Rattle.tsa_tree.specs.types.Locals.{has_type, init_breaks}
use Rattle.tsa_tree.specs.types.Node as node
use Rattle.tsa_tree.specs.types.Node.{Node}
use Rattle.tsa_tree.specs.types.Operands.{is_scalar, is_integer, goes_to, lacks, breaks_prefix, breaks_binary, breaks_index}
use Rattle.tsa_tree.specs.types.Scopes.{context_of, found, is_taken, is_named_taken, tag_in}
use Rattle.tsa_tree.specs.types.Simple.{assignment_breaks, is_written_to, written_type, return_breaks}
use Rattle.tsa_tree.specs.types.Statements.{is_elsewhere, is_case_again}
use Rattle.tsa_tree.specs.types.Structs.{other_struct}

-- what is known is a name of a type
abbrev pub is_type_name : Entry → Bool
is_type_name e = by_meaning e.meaning
  where
    by_meaning : Meaning → Bool
    by_meaning known.TypeName = true
    by_meaning _ = false

-- an enumerator without a value where counting on leaves `int`
abbrev pub counts_out : Option Expression → ℤ → Bool
counts_out None count = not (is_int count)
counts_out (Some e) count = false

-- The table, a row for each kind of node of which a rule speaks. An expression that has a failing node in it has no type, and a rule that
-- speaks of its type doesn't fail: `lacks` and `known_and` are false there.
unfoldable pub fails : TypeCode → Node → Bool
-- TY1: a name, a tag or a member isn't known where it stands (C11 6.2.1, 6.2.3, 6.5.1p2, 6.5.2.3p1, 6.7.8).
fails TY1 (node.name c used) = is_none (c.known used.text)
fails TY1 (node.member_name c base arrow used) =
    known_and (λ t. is_some (owner arrow t) && is_none (member_of c arrow used.text t)) (type_of c base)
fails TY1 (node.tag here used) = is_none (found here.tags used.text)
fails TY1 (node.type_name here used) = not (known_and is_type_name (found here.names used.text))
-- TY2: what is declared was declared before, or hides a name in scope (C11 6.7p3): a tag or a name of a type, an enumerator, a member, a
-- global, a parameter, a local; a function differs from its first declaration or has two bodies (C11 6.7p4, 6.9p3, p5); a label, the value
-- of a case or a default stands there twice (C11 6.8.1p3, 6.8.4.2p3).
fails TY2 (node.structure here tag alias span) = other_struct (length here.structs) (tag_in here tag) || is_named_taken alias here
fails TY2 (node.member here before d) = is_some (found before d.name.text)
fails TY2 (node.enumeration here tag alias values span) =
    other_enum span.from (tag_in here tag) || is_named_taken alias (behind_enumerators here (pos 0) values)
fails TY2 (node.enumerator here count e) = is_taken e.name.text here
fails TY2 (node.alias here name t span) = is_taken name.text here
fails TY2 (node.global here d) = is_taken d.name.text here
fails TY2 (node.function here head with_body) = is_another here head with_body (found here.names head.name.text)
fails TY2 (node.parameter here p) = is_named_taken p.name here
fails TY2 (node.local here d) = is_taken d.name.text here
fails TY2 (node.case a c key span) = a.in_switch && is_case_again a.cases span.from (value_in c key)
fails TY2 (node.default a span) = a.in_switch && is_elsewhere span.from a.default
fails TY2 (node.label a name span) = is_elsewhere span.from (found a.labels name.text)
-- TY3: an operand breaks the rule of its operator (C11 6.5.2.1 to 6.5.16) ..
fails TY3 (node.call c callee args span) = known_and (breaks_call c (types_of c args)) (c.known callee.text)
fails TY3 (node.prefix c op inner span) = breaks_prefix op (type_of c inner)
fails TY3 (node.binary c op left right span) = breaks_binary op (type_of c left) (type_of c right)
fails TY3 (node.access c base arrow span) = lacks (λ t. is_some (owner arrow t)) (type_of c base)
fails TY3 (node.index c base at span) = breaks_index (type_of c base) (type_of c at)
fails TY3 (node.assignment c left op right span) = assignment_breaks op (written_type (type_of c left)) (type_of c right)
-- .. a test is no scalar or a switch's value no integer (C11 6.8.4.1p1, 6.8.4.2p1, 6.8.5p2) ..
fails TY3 (node.test c e span) = lacks is_scalar (type_of c e)
fails TY3 (node.switch_value c e span) = lacks is_integer (type_of c e)
-- .. or what is declared has none of the types that it may have (C11 6.7.2 to 6.7.6), or a local's initialiser can't go to it (C11
-- 6.7.9p11).
fails TY3 (node.member here before d) = is_refused here declaring.Thing (resolve here d.ctype)
fails TY3 (node.alias here name t span) = is_refused here declaring.Type (resolve here t)
fails TY3 (node.global here d) = is_refused here declaring.Thing (resolve here d.ctype)
fails TY3 (node.function here head with_body) = is_refused here declaring.Result (resolve here head.result)
fails TY3 (node.parameter here p) = is_refused here declaring.Thing (resolve here p.ctype)
fails TY3 (node.local here d) =
    is_refused here declaring.Thing (resolve here d.ctype) || (has_type (resolve here d.ctype) && init_breaks here (thing_type here d.ctype) d.init)
-- TY4: a call has another number of arguments (C11 6.5.2.2p2).
fails TY4 (node.call c callee args span) = known_and (miscounts c (types_of c args)) (c.known callee.text)
-- TY5: the left side is no place, or is `const` (C11 6.5.16p2).
fails TY5 (node.left_side c e) = lacks is_written_to (type_of c e)
-- TY6: an attribute stands on another kind of thing, or an argument is no lock and no pointer to one.
fails TY6 (node.attribute bearer a) = not (stands_on a.kind bearer)
fails TY6 (node.lock here e) = known_and (λ t. not (is_lock_type here t)) (type_of (context_of here) e)
-- TY7: a `case` or a `default` stands in no switch, a `goto` has no label, a `break` no loop or switch round it, a `continue` no loop (C11
-- 6.8.1p2, 6.8.6).
fails TY7 (node.case a c key span) = not a.in_switch
fails TY7 (node.default a span) = not a.in_switch
fails TY7 (node.goto a name span) = not (is_some (found a.labels name.text))
fails TY7 (node.break a span) = not (a.in_loop || a.in_switch)
fails TY7 (node.continue a span) = not a.in_loop
-- TY8: a value is given in a `void` function, none in another, or one that can't go to the result (C11 6.8.6.4).
fails TY8 (node.return c result given span) = return_breaks c result given
-- TY9: a length isn't constant or isn't 1 to 65,536 (C11 6.7.6.2), an enumerator isn't constant or leaves `int` (C11 6.7.2.2p2), the value
-- of a case isn't constant (C11 6.8.4.2p3), or a global's initialiser isn't constant, can't go to its cell or doesn't fit the shape (C11
-- 6.7.9p2, p4, p11).
fails TY9 (node.length c e) = known_and (λ t. not (is_some (length_in (constant_of c e)))) (type_of c e)
fails TY9 (node.enumerator here count e) = counts_out e.value count
fails TY9 (node.enumerator_value c e) = known_and (λ t. not (is_some (int_value (constant_of c e)))) (type_of c e)
fails TY9 (node.case_value c key) = known_and (λ t. not (is_some (constant_of c key))) (type_of c key)
fails TY9 (node.cell c own thing e) = known_and (λ t. not (goes_to t thing && is_constant_for c own thing.kind e)) (type_of c e)
fails TY9 (node.list here thing items span) = is_misfit (parts_of here thing) items
fails code n = false
