-- The tokens of canonical text don't depend on where a tree stood: attributes, declarations and heads.
use Rattle.std.proofs.Common.{ℕ, ◌+◌, ◌≡◌, ap, refl, List, [], ◌∷◌, ◌++◌, Bool, Some, None, map, option_map}
use Rattle.std.specs.declared.option.Option.{Option}
use Rattle.tsa_tree.specs.attributes.Syntax.{Attribute, plain_attribute}
use Rattle.tsa_tree.specs.declarations.Syntax.{Base, int, unsigned, void, structure, enumerated, alias, DeclaredType, Initialiser, value}
use Rattle.tsa_tree.specs.declarations.Syntax.{list, Initialisers, no_more, one_more, Declaration, Parameter, EnumConstant, Head}
use Rattle.tsa_tree.specs.expressions.Syntax.{Identifier, Expression, Arguments, number, null, named, call, unary, binary, field, index}
use Rattle.tsa_tree.specs.expressions.Syntax.{none, more, plain_name, plain, plain_arguments}
use Rattle.tsa_tree.specs.declarations.Plain.{plain_base, plain_type, plain_initialiser, plain_initialisers, plain_declaration}
use Rattle.tsa_tree.specs.declarations.Plain.{plain_parameter, plain_constant, plain_head}
use Rattle.tsa_tree.specs.tokens.Signs.{level}
use Rattle.tsa_print.specs.declared.mark.Mark.TheVariants as marks
use Rattle.tsa_print.specs.Canonical.{mark, pieces, arguments, further}
use Rattle.tsa_print.specs.DeclarationPieces.{name_pieces, taken, attribute_pieces, attributes_pieces, base_pieces, type_pieces}
use Rattle.tsa_print.specs.DeclarationPieces.{length_pieces, initialiser_pieces, initialisers_pieces, further_pieces, init_pieces}
use Rattle.tsa_print.specs.DeclarationPieces.{declaration_pieces, members_pieces, parameter_pieces, further_parameters, parameters_pieces}
use Rattle.tsa_print.specs.DeclarationPieces.{head_pieces, value_pieces, constant_pieces, further_constants, constants_pieces}
use Rattle.tsa_print.specs.DeclarationPieces.{typedef_pieces}

mutual
  pub pieces_of_plain : (x : Expression) (k : ℕ) → pieces (plain x) k ≡ pieces x k
  pieces_of_plain (number v is_unsigned span) k = refl
  pieces_of_plain (null span) k = refl
  pieces_of_plain (named name span) k = refl
  pieces_of_plain (call callee args span) k = rw (arguments_of_plain args) refl
  pieces_of_plain (unary o inner span) k = rw (pieces_of_plain inner 11) refl
  pieces_of_plain (binary o left right span) k = rw (pieces_of_plain left (level o), pieces_of_plain right (level o + 1)) refl
  pieces_of_plain (field base name arrow span) k = rw (pieces_of_plain base 11) refl
  pieces_of_plain (index base at span) k = rw (pieces_of_plain base 11, pieces_of_plain at 0) refl

  arguments_of_plain : (xs : Arguments) → arguments (plain_arguments xs) ≡ arguments xs
  arguments_of_plain none = refl
  arguments_of_plain (more first rest) = rw (pieces_of_plain first 0, further_of_plain rest) refl

  further_of_plain : (xs : Arguments) → further (plain_arguments xs) ≡ further xs
  further_of_plain none = refl
  further_of_plain (more first rest) = rw (pieces_of_plain first 0, further_of_plain rest) refl

pub name_of_plain : (name : Option Identifier) → name_pieces (option_map plain_name name) ≡ name_pieces name
name_of_plain None = refl
name_of_plain (Some name) = refl

pub typedef_of_plain : (name : Option Identifier) → typedef_pieces (option_map plain_name name) ≡ typedef_pieces name
typedef_of_plain None = refl
typedef_of_plain (Some name) = refl

taken_of_plain : (text : Option (List ℕ)) (success : Option Bool) (args : Arguments) → taken text success (plain_arguments args) ≡ taken text success args
taken_of_plain (Some text) success args = refl
taken_of_plain None (Some result) args = rw (further_of_plain args) refl
taken_of_plain None None args = arguments_of_plain args

attribute_of_plain : (a : Attribute) → attribute_pieces (plain_attribute a) ≡ attribute_pieces a
attribute_of_plain a = rw (taken_of_plain a.text a.success a.args) refl

pub attributes_of_plain : (xs : List Attribute) → attributes_pieces (map plain_attribute xs) ≡ attributes_pieces xs
attributes_of_plain [] = refl
attributes_of_plain (x ∷ xs) = rw (attributes_of_plain xs) (ap (λ ps. ps ++ attributes_pieces xs) (attribute_of_plain x))

base_of_plain : (b : Base) → base_pieces (plain_base b) ≡ base_pieces b
base_of_plain int = refl
base_of_plain unsigned = refl
base_of_plain void = refl
base_of_plain (structure tag) = refl
base_of_plain (enumerated tag) = refl
base_of_plain (alias name) = refl

pub type_of_plain : (t : DeclaredType) → type_pieces (plain_type t) ≡ type_pieces t
type_of_plain t = rw (base_of_plain t.base) refl

length_of_plain : (x : Option Expression) → length_pieces (option_map plain x) ≡ length_pieces x
length_of_plain None = refl
length_of_plain (Some x) = rw (pieces_of_plain x 0) refl

mutual
  initialiser_of_plain : (x : Initialiser) → initialiser_pieces (plain_initialiser x) ≡ initialiser_pieces x
  initialiser_of_plain (value x) = pieces_of_plain x 0
  initialiser_of_plain (list items span) = rw (initialisers_of_plain items) refl

  initialisers_of_plain : (xs : Initialisers) → initialisers_pieces (plain_initialisers xs) ≡ initialisers_pieces xs
  initialisers_of_plain no_more = refl
  initialisers_of_plain (one_more first rest) = rw (initialiser_of_plain first, further_values_of_plain rest) refl

  further_values_of_plain : (xs : Initialisers) → further_pieces (plain_initialisers xs) ≡ further_pieces xs
  further_values_of_plain no_more = refl
  further_values_of_plain (one_more first rest) = rw (initialiser_of_plain first, further_values_of_plain rest) refl

init_of_plain : (x : Option Initialiser) → init_pieces (option_map plain_initialiser x) ≡ init_pieces x
init_of_plain None = refl
init_of_plain (Some x) = rw (initialiser_of_plain x) refl

pub declaration_of_plain : (d : Declaration) → declaration_pieces (plain_declaration d) ≡ declaration_pieces d
declaration_of_plain d =
    rw (type_of_plain d.ctype, length_of_plain d.ctype.length, attributes_of_plain d.attrs, init_of_plain d.init) refl

pub members_of_plain : (xs : List Declaration) → members_pieces (map plain_declaration xs) ≡ members_pieces xs
members_of_plain [] = refl
members_of_plain (x ∷ xs) = rw (declaration_of_plain x, members_of_plain xs) refl

parameter_of_plain : (p : Parameter) → parameter_pieces (plain_parameter p) ≡ parameter_pieces p
parameter_of_plain p = rw (type_of_plain p.ctype, name_of_plain p.name) refl

further_parameters_of_plain : (xs : List Parameter) → further_parameters (map plain_parameter xs) ≡ further_parameters xs
further_parameters_of_plain [] = refl
further_parameters_of_plain (x ∷ xs) = rw (parameter_of_plain x, further_parameters_of_plain xs) refl

parameters_of_plain : (xs : List Parameter) → parameters_pieces (map plain_parameter xs) ≡ parameters_pieces xs
parameters_of_plain [] = refl
parameters_of_plain (x ∷ xs) = rw (parameter_of_plain x, further_parameters_of_plain xs) refl

pub head_of_plain : (h : Head) → head_pieces (plain_head h) ≡ head_pieces h
head_of_plain h = rw (type_of_plain h.result, parameters_of_plain h.params, attributes_of_plain h.attrs) refl

value_of_plain : (x : Option Expression) → value_pieces (option_map plain x) ≡ value_pieces x
value_of_plain None = refl
value_of_plain (Some x) = rw (pieces_of_plain x 0) refl

constant_of_plain : (c : EnumConstant) → constant_pieces (plain_constant c) ≡ constant_pieces c
constant_of_plain c = rw (value_of_plain c.value) refl

further_constants_of_plain : (xs : List EnumConstant) → further_constants (map plain_constant xs) ≡ further_constants xs
further_constants_of_plain [] = refl
further_constants_of_plain (x ∷ xs) = rw (further_constants_of_plain xs) (ap (λ ps. mark marks.Comma ∷ (ps ++ further_constants xs)) (constant_of_plain x))

pub constants_of_plain : (xs : List EnumConstant) → constants_pieces (map plain_constant xs) ≡ constants_pieces xs
constants_of_plain [] = refl
constants_of_plain (x ∷ xs) = rw (further_constants_of_plain xs) (ap (λ ps. ps ++ further_constants xs) (constant_of_plain x))
