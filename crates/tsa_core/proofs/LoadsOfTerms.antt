-- The loads of what an expression means are the cells that are read.
use Rattle.std.proofs.Common.{◌≡◌, ◌∙◌, ℕ, Bool, true, false, not, ◌&&◌, ◌||◌, List, [], ◌∷◌, ◌++◌, Option, Some, None, is_some, option_map}
use Rattle.std.proofs.Common.{option_and_then, if◌then◌else◌, refl, sym, ap, ap₂, subst}
use Rattle.tsa_tree.specs.declared.expr.BinaryOp.{BinaryOp}
use Rattle.tsa_tree.specs.declared.expr.BinaryOp.TheVariants as op
use Rattle.tsa_tree.specs.declared.expr.UnaryOp.{UnaryOp}
use Rattle.tsa_tree.specs.declared.expr.UnaryOp.TheVariants as prefix
use Rattle.tsa_tree.specs.declared.kind.ExpressionType.{ExpressionType}
use Rattle.tsa_tree.specs.declared.kind.Kind.{Kind}
use Rattle.tsa_tree.specs.declared.kind.Kind.TheVariants as type
use Rattle.tsa_tree.specs.declared.kind.ThingType.{ThingType}
use Rattle.tsa_tree.specs.declared.meaning.Entry.{Entry}
use Rattle.tsa_tree.specs.declared.meaning.Meaning.{Meaning}
use Rattle.tsa_tree.specs.declared.meaning.Meaning.TheVariants as meant
use Rattle.tsa_tree.specs.expressions.Syntax.{Expression, number, null, named, call, unary, binary, field, index}
use Rattle.tsa_tree.specs.types.Expressions.{type_of, types_of, unless, result_type, member_type, member_of, owner}
use Rattle.tsa_tree.specs.types.Operands.{integer_kind, pointer_kind, unsigned_kind, is_scalar, comparable, goes_to, lacks, breaks_prefix}
use Rattle.tsa_tree.specs.types.Operands.{breaks_binary, breaks_comparison, breaks_index, prefix_type, binary_type, element_type}
use Rattle.tsa_tree.specs.types.Runnable.{has_call}
use Rattle.tsa_tree.specs.types.Scopes.{Scope, context_of, known_in}
use Rattle.tsa_tree.specs.types.Lookups.{members_at, numbered}
use Rattle.tsa_core.proofs.KindTests.{neither, not_false, not_true}
use Rattle.tsa_core.proofs.KindsOfTerms.{of_one, of_two, of_owner, typed}
use Rattle.tsa_core.proofs.MappedLists.{map_append}
use Rattle.tsa_core.proofs.TypedTerms.{terms_have_types, member_numbered}
use Rattle.tsa_core.proofs.ZeroConstants.{zero_alone, one_is_zero, other_is_zero, goes_zero}
use Rattle.tsa_core.specs.Cells.{inner_cells, argument_cells, cells_read}
use Rattle.tsa_core.specs.Loads.{loads_with, places, LoadsAreCells, ConversionsKeepLoads}
use Rattle.tsa_core.specs.Meanings.{is_loaded, is_int, loaded, null_pointer, name_term, of_name, of_call, of_field, to_member, beside}
use Rattle.tsa_core.specs.Meanings.{operands, as_kind, meaning}
use Rattle.tsa_core.specs.Terms.{Term, load, converted, Sense}
use Rattle.tsa_base.proofs.Truths.{never}

-- what an answer stands for: the loads of the arguments of each call
abbrev pub AnswersLoad : Scope → List Term → Expression → Type 0
AnswersLoad here ps (number n u span) = Unit {0}
AnswersLoad here ps (null span) = Unit {0}
AnswersLoad here ps (named name span) = Unit {0}
AnswersLoad here ps (call callee args span) = ps ≡ places here (argument_cells here args)
AnswersLoad here ps (unary o inner span) = AnswersLoad here ps inner
AnswersLoad here ps (binary o left right span) = AnswersLoad here ps left × AnswersLoad here ps right
AnswersLoad here ps (field base name arrow span) = AnswersLoad here ps base
AnswersLoad here ps (index base at span) = AnswersLoad here ps base × AnswersLoad here ps at

pub free_loads : (here : Scope) (ps : List Term) (e : Expression) → has_call e ≡ false → AnswersLoad here ps e
free_loads here ps (number n u span) h = tt
free_loads here ps (null span) h = tt
free_loads here ps (named name span) h = tt
free_loads here ps (call callee args span) h = never h
free_loads here ps (unary o inner span) h = free_loads here ps inner h
free_loads here ps (binary o left right span) h =
    let both = neither (has_call left) (has_call right) h in (free_loads here ps left both.0, free_loads here ps right both.1)
free_loads here ps (field base name arrow span) h = free_loads here ps base h
free_loads here ps (index base at span) h =
    let both = neither (has_call base) (has_call at) h in (free_loads here ps base both.0, free_loads here ps at both.1)

module _ (here : Scope) (ps : List Term) where
  -- the loads of what an expression stands for, and of its value
  abbrev InPlace : Expression → Type 0
  InPlace e = loads_with ps (meaning here e).term ≡ places here (inner_cells here e)

  abbrev pub InValue : Expression → Type 0
  InValue e = loads_with ps (loaded (meaning here e)) ≡ places here (cells_read here e)

  in_value : (e : Expression) → InPlace e → InValue e
  in_value e h = by (is_loaded (meaning here e))
    where
      by : (b : Bool) → loads_with ps (if b then load (meaning here e).is_stable (meaning here e).term else (meaning here e).term)
          ≡ places here ((if b then e ∷ [] else []) ++ inner_cells here e)
      by true = ap (λ xs. (meaning here e).term ∷ xs) h
      by false = h

  pub both_in : (xs ys : List Expression) (ls rs : List Term) → ls ≡ places here xs → rs ≡ places here ys → ls ++ rs ≡ places here (xs ++ ys)
  both_in xs ys ls rs h g = ap₂ (λ a b. a ++ b) h g ∙ sym (map_append (λ e. (meaning here e).term) xs ys)

  null_or : (e : Expression) (b : Bool) → (b ≡ true → (meaning here e).type.is_zero ≡ true) → InValue e
      → loads_with ps (if b then null_pointer else loaded (meaning here e)) ≡ places here (cells_read here e)
  null_or e true zero h = ap (places here) (sym (zero_alone here e (zero refl)))
  null_or e false zero h = h

  beside_in : (other : Kind) (e : Expression) → ((pointer_kind other && integer_kind (meaning here e).type.thing.kind) ≡ true → (meaning here e).type.is_zero ≡ true)
      → InValue e → loads_with ps (beside other (meaning here e)) ≡ places here (cells_read here e)
  beside_in other e zero h = null_or e (pointer_kind other && integer_kind (meaning here e).type.thing.kind) zero h

  name_in : (m : Meaning) → loads_with ps (name_term m) ≡ []
  name_in (meant.Global n) = refl
  name_in (meant.Local n) = refl
  name_in (meant.Function n) = refl
  name_in meant.Owned = refl
  name_in (meant.Constant z) = refl
  name_in meant.TypeName = refl

  entry_in : (o : Option Entry) → loads_with ps (of_name o).term ≡ []
  entry_in None = refl
  entry_in (Some e) = name_in e.meaning

  module _ (left right : Expression) (h : InValue left) (g : InValue right) where
    abbrev a : ExpressionType
    a = (meaning here left).type

    abbrev b : ExpressionType
    b = (meaning here right).type

    abbrev BothIn : BinaryOp → Type 0
    BothIn o = loads_with ps (operands o (meaning here left) (meaning here right)) ≡ places here (cells_read here left ++ cells_read here right)

    plainly : loads_with ps (loaded (meaning here left)) ++ loads_with ps (loaded (meaning here right)) ≡ places here (cells_read here left ++ cells_read here right)
    plainly = both_in (cells_read here left) (cells_read here right) _ _ h g

    compared : breaks_comparison (Some a) (Some b) ≡ false
        → loads_with ps (beside b.thing.kind (meaning here left)) ++ loads_with ps (beside a.thing.kind (meaning here right)) ≡ places here (cells_read here left ++ cells_read here right)
    compared e =
        let c = not_false (comparable a b) (neither (not (is_scalar a) || not (is_scalar b)) (not (comparable a b)) e).1 in
        both_in (cells_read here left) (cells_read here right) _ _ (beside_in b.thing.kind left (one_is_zero a b c) h)
        (beside_in a.thing.kind right (other_is_zero a b c) g)

    pub operands_in : (o : BinaryOp) → breaks_binary o (Some a) (Some b) ≡ false → BothIn o
    operands_in op.Or e = plainly
    operands_in op.And e = plainly
    operands_in op.BitOr e = plainly
    operands_in op.BitXor e = plainly
    operands_in op.BitAnd e = plainly
    operands_in op.Equal e = compared e
    operands_in op.Unequal e = compared e
    operands_in op.Less e = plainly
    operands_in op.More e = plainly
    operands_in op.LessEqual e = plainly
    operands_in op.MoreEqual e = plainly
    operands_in op.Plus e = plainly
    operands_in op.Minus e = plainly
    operands_in op.Times e = plainly
    operands_in op.Divide e = plainly
    operands_in op.Remainder e = plainly

  -- a member that is found
  found_in : (arrow : Bool) (s : Sense) (q : Option (ℕ × ThingType)) (x : ThingType) (cells : List Term) → option_map (λ m. m.1) q ≡ Some x
      → loads_with ps (if arrow then loaded s else s.term) ≡ cells → loads_with ps (to_member arrow s q).term ≡ cells
  found_in arrow s None x cells e h = cc
  found_in true s (Some m) x cells e h = h
  found_in false s (Some m) x cells e h = h

  owned_in : (arrow : Bool) (name : List ℕ) (s : Sense) (o : Option ℕ) (x : ThingType) (cells : List Term)
      → option_and_then (λ n. (context_of here).member n name) o ≡ Some x → loads_with ps (if arrow then loaded s else s.term) ≡ cells
      → loads_with ps (to_member arrow s (option_and_then (λ n. numbered (members_at here n) name 0) o)).term ≡ cells
  owned_in arrow name s None x cells e h = cc
  owned_in arrow name s (Some n) x cells e h = found_in arrow s (numbered (members_at here n) name 0) x cells (sym (member_numbered here n name) ∙ e) h

  field_in : (arrow : Bool) (name : List ℕ) (s : Sense) (o : Option ThingType) (t : ExpressionType) (cells : List Term) → member_of (context_of here) arrow name s.type ≡ o
      → option_map (member_type arrow s.type) o ≡ Some t → loads_with ps (if arrow then loaded s else s.term) ≡ cells
      → loads_with ps (of_field here arrow name s).term ≡ cells
  field_in arrow name s None t cells e f h = cc
  field_in arrow name s (Some x) t cells e f h = owned_in arrow name s (owner arrow s.type) x cells e h

  module _ (e : Expression) (h : InValue e) where
    abbrev AsIn : Kind → Type 0
    AsIn kind = loads_with ps (as_kind kind (meaning here e)) ≡ places here (cells_read here e)

    converted_in : (b : Bool) (kind : Kind) → loads_with ps (if b then converted kind (loaded (meaning here e)) else loaded (meaning here e)) ≡ places here (cells_read here e)
    converted_in true kind = h
    converted_in false kind = h

    as_in : (kind : Kind) → ((pointer_kind kind && integer_kind (meaning here e).type.thing.kind) ≡ true → (meaning here e).type.is_zero ≡ true) → AsIn kind
    as_in type.Int zero = converted_in (unsigned_kind (meaning here e).type.thing.kind) type.Int
    as_in type.Unsigned zero = converted_in (is_int (meaning here e).type.thing.kind) type.Unsigned
    as_in type.Void zero = beside_in type.Void e zero h
    as_in (type.Structure n) zero = beside_in (type.Structure n) e zero h
    as_in (type.Pointer n c) zero = beside_in (type.Pointer n c) e zero h
    as_in type.Null zero = beside_in type.Null e zero h
    as_in type.Function zero = beside_in type.Function e zero h

    pub goes_in : (t : ExpressionType) (to : ThingType) → type_of (context_of here) e ≡ Some t → goes_to t to ≡ true → AsIn to.kind
    goes_in t to is goes = as_in to.kind (goes_zero (meaning here e).type to (subst (λ x. goes_to x to ≡ true) (sym (terms_have_types here e t is)) goes))

  called_in : (broken : Bool) (o : Option Entry) (t : ExpressionType) → unless broken (option_map result_type o) ≡ Some t → loads_with ps (of_call o).term ≡ ps
  called_in true o t is = cc
  called_in false None t is = cc
  called_in false (Some e) t is = refl

  -- but for `&`, an operator is on a value
  prefix_in : (o : UnaryOp) (inner : Expression) → ((x : ExpressionType) → type_of (context_of here) inner ≡ Some x → InPlace inner) → (t : ExpressionType)
      → unless (breaks_prefix o (type_of (context_of here) inner)) (option_map (prefix_type o) (type_of (context_of here) inner)) ≡ Some t → InValue inner
  prefix_in o inner place t is =
      let parts = of_one (prefix_type o) (breaks_prefix o (type_of (context_of here) inner)) (type_of (context_of here) inner) t is in
      in_value inner (place parts.1.0 parts.1.1)

  pub in_place : (e : Expression) → AnswersLoad here ps e → (t : ExpressionType) → type_of (context_of here) e ≡ Some t → InPlace e
  unfolding type_of types_of meaning inner_cells argument_cells
  in_place (number n u span) answers t is = refl
  in_place (null span) answers t is = refl
  in_place (named name span) answers t is = entry_in (known_in here name.text)
  in_place (call callee args span) answers t is = called_in _ (known_in here callee.text) t is ∙ answers
  in_place (unary prefix.Minus inner span) answers t is = prefix_in prefix.Minus inner (in_place inner answers) t is
  in_place (unary prefix.Not inner span) answers t is = prefix_in prefix.Not inner (in_place inner answers) t is
  in_place (unary prefix.Flip inner span) answers t is = prefix_in prefix.Flip inner (in_place inner answers) t is
  in_place (unary prefix.Address inner span) answers t is =
      let parts = of_one (prefix_type prefix.Address) (breaks_prefix prefix.Address (type_of (context_of here) inner)) (type_of (context_of here) inner) t is in
      in_place inner answers parts.1.0 parts.1.1
  in_place (unary prefix.Follow inner span) answers t is = prefix_in prefix.Follow inner (in_place inner answers) t is
  in_place (binary o left right span) answers t is =
      let l = type_of (context_of here) left in
      let r = type_of (context_of here) right in
      let parts = of_two (binary_type o) (breaks_binary o l r) l r t is in
      operands_in left right (in_value left (in_place left answers.0 parts.1.0.0 parts.1.0.1)) (in_value right (in_place right answers.1 parts.1.1.0 parts.1.1.1)) o
      (subst (λ y. breaks_binary o (Some (meaning here left).type) y ≡ false) (typed here right parts.1.1.0 parts.1.1.1)
      (subst (λ x. breaks_binary o x r ≡ false) (typed here left parts.1.0.0 parts.1.0.1) parts.0))
  in_place (field base name true span) answers t is =
      let f : ExpressionType → Option ExpressionType = λ x. option_map (member_type true x) (member_of (context_of here) true name.text x) in
      let parts = of_owner f (lacks (λ x. is_some (owner true x)) (type_of (context_of here) base)) (type_of (context_of here) base) t is in
      field_in true name.text (meaning here base) (member_of (context_of here) true name.text (meaning here base).type) t (places here (cells_read here base)) refl
      (subst (λ x. f x ≡ Some t) (sym (terms_have_types here base parts.0 parts.1.0)) parts.1.1) (in_value base (in_place base answers parts.0 parts.1.0))
  in_place (field base name false span) answers t is =
      let f : ExpressionType → Option ExpressionType = λ x. option_map (member_type false x) (member_of (context_of here) false name.text x) in
      let parts = of_owner f (lacks (λ x. is_some (owner false x)) (type_of (context_of here) base)) (type_of (context_of here) base) t is in
      field_in false name.text (meaning here base) (member_of (context_of here) false name.text (meaning here base).type) t (places here (inner_cells here base)) refl
      (subst (λ x. f x ≡ Some t) (sym (terms_have_types here base parts.0 parts.1.0)) parts.1.1) (in_place base answers parts.0 parts.1.0)
  in_place (index base at span) answers t is =
      let l = type_of (context_of here) base in
      let r = type_of (context_of here) at in
      let parts = of_two (λ a i. element_type a) (breaks_index l r) l r t is in
      both_in (inner_cells here base) (cells_read here at) _ _ (in_place base answers.0 parts.1.0.0 parts.1.0.1) (in_value at (in_place at answers.1 parts.1.1.0 parts.1.1.1))

  pub value_in : (e : Expression) → AnswersLoad here ps e → (t : ExpressionType) → type_of (context_of here) e ≡ Some t → InValue e
  value_in e answers t is = in_value e (in_place e answers t is)

pub loads_are_cells : LoadsAreCells
loads_are_cells here e t is free =
    let answers = free_loads here [] e (not_true (has_call e) free) in (in_place here [] e answers t is, value_in here [] e answers t is)

pub conversions_keep : ConversionsKeepLoads
conversions_keep here e t to is free goes =
    goes_in here [] e (value_in here [] e (free_loads here [] e (not_true (has_call e) free)) t is) t to is goes
