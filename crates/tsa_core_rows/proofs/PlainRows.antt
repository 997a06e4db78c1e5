-- Which nodes rows are made of outside of bodies: no points.
use Rattle.std.proofs.Common.{◌≡◌, ◌∙◌, ℕ, ℤ, ◌+ℤ◌, pos, suc, Bool, true, false, ◌&&◌, not, List, [], ◌∷◌, ◌++◌, Option, Some, None, refl, ap, ap₂}
use Rattle.tsa_tree.specs.attributes.Syntax.{Attribute}
use Rattle.tsa_tree.specs.declarations.Syntax.{Declaration, Initialiser, Initialisers, value, list, no_more, one_more, Parameter, EnumConstant, Head}
use Rattle.tsa_tree.specs.declared.kind.ThingType.{ThingType}
use Rattle.tsa_tree.specs.declared.meaning.Symbol.{Symbol}
use Rattle.tsa_tree.specs.declared.meaning.Symbol.TheVariants as symbol
use Rattle.tsa_tree.specs.expressions.Syntax.{Identifier, Expression, Arguments, number, null, named, call, unary, binary, field, index}
use Rattle.tsa_tree.specs.expressions.Syntax as args
use Rattle.tsa_tree.specs.types.Enums.{enumerator_value, enumerator_entry}
use Rattle.tsa_tree.specs.types.Expressions.{type_of}
use Rattle.tsa_tree.specs.types.Globals.{with_global}
use Rattle.tsa_tree.specs.types.Heads.{with_param, behind_head, inside}
use Rattle.tsa_tree.specs.types.Premises.{first}
use Rattle.tsa_tree.specs.types.Scopes.{Scope, Members, context_of, with_name, with_owned}
use Rattle.tsa_tree.specs.types.Structs.{with_member}
use Rattle.tsa_types_row.specs.BodyRows.{aside, aside_given, aside_all, aside_attributes, aside_init, aside_items, aside_given_init, aside_declaration}
use Rattle.tsa_types_row.specs.BodyRows.{declared_row, marked_row, row_in_init, row_in_given_init, local_parts}
use Rattle.tsa_types_row.specs.ExpressionRows.{member_op, member_of, row_in, row_in_all}
use Rattle.tsa_types_row.specs.ItemRows.{row_in_member, row_in_members, row_in_enumerators, row_in_global, param_row, row_in_param, row_in_params}
use Rattle.tsa_types_row.specs.declared.node.Node.{Node}
use Rattle.tsa_types_row.specs.declared.node.Op.{Op}
use Rattle.tsa_types_row.specs.declared.node.Op.TheVariants as op
use Rattle.tsa_core_rows.specs.Stretches.{is_point}

-- which nodes stand within bodies: all but an end and the head of a function
abbrev pub is_no_head : Symbol → Bool
is_no_head (symbol.Function n) = false
is_no_head s = true

abbrev pub is_inner : Op → Bool
is_inner (op.Declared s) = is_no_head s
is_inner op.End = false
is_inner o = true

-- and which of them are no points
abbrev pub is_plain : Op → Bool
is_plain (op.Declared s) = is_no_head s
is_plain o = not (is_point o)

abbrev pub every : (Op → Bool) → List Node → Bool
every test [] = true
every test (node ∷ rest) = test node.op && every test rest

-- Rows of plain nodes.
abbrev pub IsPlain : List Node → Type 0
IsPlain row = every is_plain row ≡ true

every_append : (test : Op → Bool) (xs ys : List Node) → every test (xs ++ ys) ≡ (every test xs && every test ys)
every_append test [] ys = refl
every_append test (x ∷ xs) ys = ap (λ b. test x.op && b) (every_append test xs ys) ∙ and_assoc (test x.op) (every test xs) (every test ys)
  where
    and_assoc : (a b c : Bool) → (a && (b && c)) ≡ ((a && b) && c)
    and_assoc true b c = refl
    and_assoc false b c = refl

pub every_both : (test : Op → Bool) (xs ys : List Node) → every test xs ≡ true → every test ys ≡ true → every test (xs ++ ys) ≡ true
every_both test xs ys h g = every_append test xs ys ∙ ap₂ (λ a b. a && b) h g

pub plain_both : (xs ys : List Node) → IsPlain xs → IsPlain ys → IsPlain (xs ++ ys)
plain_both xs ys h g = every_both is_plain xs ys h g

plain_member : (arrow : Bool) (m : Option (ℕ × ThingType)) → is_plain (member_op arrow m) ≡ true
plain_member arrow None = refl
plain_member arrow (Some m) = refl

module _ (here : Scope) (f : ℕ) where
  mutual
    unfolding row_in row_in_all

    pub plain : (e : Expression) → IsPlain (row_in here f e)
    plain (number n u span) = refl
    plain (null span) = refl
    plain (named name span) = refl
    plain (call callee given span) = plain_all given
    plain (unary o inner span) = plain inner
    plain (binary o left right span) = plain_both (row_in here f left) (row_in here f right) (plain left) (plain right)
    plain (field base name arrow span) =
        ap₂ (λ a c. a && c) (plain_member arrow (member_of here arrow name.text (type_of (context_of here) base))) (plain base)
    plain (index base at span) = plain_both (row_in here f base) (row_in here f at) (plain base) (plain at)

    plain_all : (given : Arguments) → IsPlain (row_in_all here f given)
    plain_all args.none = refl
    plain_all (args.more first rest) = plain_both (row_in here f first) (row_in_all here f rest) (plain first) (plain_all rest)

  pub plain_aside : (e : Expression) → IsPlain (aside here f e)
  unfolding marked_row
  plain_aside e = plain e

  pub plain_aside_given : (e : Option Expression) → IsPlain (aside_given here f e)
  plain_aside_given None = refl
  plain_aside_given (Some e) = plain_aside e

  plain_aside_all : (given : Arguments) → IsPlain (aside_all here f given)
  unfolding aside_all
  plain_aside_all args.none = refl
  plain_aside_all (args.more first rest) = plain_both (aside here f first) (aside_all here f rest) (plain_aside first) (plain_aside_all rest)

  plain_attributes : (attrs : List Attribute) → IsPlain (aside_attributes here f attrs)
  unfolding aside_attributes
  plain_attributes [] = refl
  plain_attributes (a ∷ rest) = plain_both (aside_all here f a.args) (aside_attributes here f rest) (plain_aside_all a.args) (plain_attributes rest)

  mutual
    unfolding aside_init aside_items

    plain_item : (i : Initialiser) → IsPlain (aside_init here f i)
    plain_item (value e) = plain_aside e
    plain_item (list items span) = plain_items items

    plain_items : (items : Initialisers) → IsPlain (aside_items here f items)
    plain_items no_more = refl
    plain_items (one_more first rest) = plain_both (aside_init here f first) (aside_items here f rest) (plain_item first) (plain_items rest)

  plain_init : (i : Option Initialiser) → IsPlain (row_in_given_init here f i)
  unfolding row_in_init
  plain_init None = refl
  plain_init (Some (value e)) = plain e
  plain_init (Some (list items span)) = plain_items items

  pub plain_parts : (d : Declaration) → IsPlain (local_parts here f d)
  unfolding local_parts
  plain_parts d =
      plain_both (aside_given here f d.ctype.length) (aside_attributes here f d.attrs ++ row_in_given_init here f d.init) (plain_aside_given d.ctype.length)
      (plain_both (aside_attributes here f d.attrs) (row_in_given_init here f d.init) (plain_attributes d.attrs) (plain_init d.init))

  plain_given_init : (i : Option Initialiser) → IsPlain (aside_given_init here f i)
  plain_given_init None = refl
  plain_given_init (Some i) = plain_item i

  plain_declaration : (d : Declaration) → IsPlain (aside_declaration here f d)
  unfolding aside_declaration
  plain_declaration d =
      plain_both (aside_given here f d.ctype.length) (aside_attributes here f d.attrs ++ aside_given_init here f d.init) (plain_aside_given d.ctype.length)
      (plain_both (aside_attributes here f d.attrs) (aside_given_init here f d.init) (plain_attributes d.attrs) (plain_given_init d.init))

-- Items outside of bodies.
pub plain_members : (here : Scope) (before : Members) (ds : List Declaration) → IsPlain (row_in_members here before ds)
unfolding row_in_members row_in_member
plain_members here before [] = refl
plain_members here before (d ∷ rest) =
    plain_both (row_in_member here before d) (row_in_members here (with_member here before d) rest)
    (plain_both (aside_given here 0 d.ctype.length) (aside_attributes (with_owned before here) 0 d.attrs) (plain_aside_given here 0 d.ctype.length)
    (plain_attributes (with_owned before here) 0 d.attrs))
    (plain_members here (with_member here before d) rest)

pub plain_enumerators : (here : Scope) (next : ℤ) (es : List EnumConstant) → IsPlain (row_in_enumerators here next es)
unfolding row_in_enumerators
plain_enumerators here next [] = refl
plain_enumerators here next (e ∷ rest) =
    let there = with_name e.name.text (enumerator_entry (enumerator_value here e next)) here in
    plain_both (declared_row (symbol.Constant (enumerator_value here e next)) e.name.span ++ aside_given here 0 e.value)
    (row_in_enumerators there (enumerator_value here e next +ℤ pos 1) rest)
    (plain_aside_given here 0 e.value)
    (plain_enumerators there (enumerator_value here e next +ℤ pos 1) rest)

pub plain_global : (here : Scope) (d : Declaration) → IsPlain (row_in_global here d)
unfolding row_in_global
plain_global here d = plain_declaration (with_global here d) 0 d

plain_param : (f n : ℕ) (name : Option Identifier) → IsPlain (param_row f n name)
plain_param f n None = refl
plain_param f n (Some name) = refl

plain_params : (here : Scope) (f n : ℕ) (ps : List Parameter) → IsPlain (row_in_params here f n ps)
unfolding row_in_params row_in_param
plain_params here f n [] = refl
plain_params here f n (p ∷ rest) = plain_both (row_in_param here f n p) (row_in_params (with_param n p here) f (suc n) rest)
    (plain_both (param_row f n p.name) (aside_given here f p.ctype.length) (plain_param f n p.name) (plain_aside_given here f p.ctype.length))
    (plain_params (with_param n p here) f (suc n) rest)

-- the head of a function behind its name
abbrev pub head_rest : Scope → ℕ → Head → Bool → List Node
head_rest here f head with_body = row_in_params (behind_head here head with_body) f 0 head.params ++ aside_attributes (inside here head with_body) f head.attrs

pub plain_head : (here : Scope) (f : ℕ) (head : Head) (with_body : Bool) → IsPlain (head_rest here f head with_body)
plain_head here f head with_body =
    plain_both (row_in_params (behind_head here head with_body) f 0 head.params) (aside_attributes (inside here head with_body) f head.attrs)
    (plain_params (behind_head here head with_body) f 0 head.params) (plain_attributes (inside here head with_body) f head.attrs)
