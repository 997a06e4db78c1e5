-- What an expression is as a constant tells which places of globals, and which pointers to them, are constant.
use Rattle.std.proofs.Common.{◌≡◌, ◌∙◌, ℕ, zero, suc, arith, Bool, true, false, not, ◌&&◌, ◌||◌, nat_eq, nat_lt, List, Option, Some, None}
use Rattle.std.proofs.Common.{option_map, is_some, refl, sym, ap, if◌then◌else◌}
use Rattle.std.proofs.lemmas.Bool.Decides.{nat_tests}
use Rattle.std.specs.Prelude.{option_and_then}
use Rattle.tsa_base.specs.declared.token.Span.{Span}
use Rattle.tsa_tree.specs.declared.expr.BinaryOp.{BinaryOp}
use Rattle.tsa_tree.specs.declared.expr.BinaryOp.TheVariants as op
use Rattle.tsa_tree.specs.declared.expr.UnaryOp.{UnaryOp}
use Rattle.tsa_tree.specs.declared.expr.UnaryOp.TheVariants as prefix
use Rattle.tsa_tree.specs.declared.kind.ExpressionType.{ExpressionType}
use Rattle.tsa_tree.specs.declared.kind.ThingType.{ThingType}
use Rattle.tsa_tree.specs.declared.meaning.Entry.{Entry}
use Rattle.tsa_tree.specs.declared.meaning.Meaning.{Meaning}
use Rattle.tsa_tree.specs.declared.meaning.Meaning.TheVariants as known
use Rattle.tsa_tree.specs.expressions.Syntax.{Identifier, Expression, Arguments, number, null, named, call, unary, binary, field, index}
use Rattle.tsa_tree.specs.types.Constants.{constant_of}
use Rattle.tsa_tree.specs.types.Expressions.{type_of, types_of, known_and, breaks_call, miscounts, all_typed, unless, both, entry_type}
use Rattle.tsa_tree.specs.types.Expressions.{result_type, owner, member_of, member_type, number_type}
use Rattle.tsa_tree.specs.types.Initialisers.{is_earlier, is_index, length_at, is_constant_place, is_constant_pointer}
use Rattle.tsa_tree.specs.types.Known.{Context}
use Rattle.tsa_tree.specs.types.Operands.{lacks, breaks_prefix, breaks_binary, breaks_index, prefix_type, binary_type, element_type}
use Rattle.tsa_types_expressions.specs.declared.constants.Constant.{Constant}
use Rattle.tsa_types_expressions.specs.declared.constants.Constant.TheVariants as constant
use Rattle.tsa_types_expressions.specs.Found.{number_in, entry_constant, known_constant, prefix_constant, binary_constant, field_constant}
use Rattle.tsa_types_expressions.specs.Found.{index_constant, constant_in}
use Rattle.tsa_types_expressions.proofs.ConstantLaws.{constant_is}
use Rattle.tsa_types_declarations.specs.Cells.{fixed_by}

-- a place of a global before the one of a number, or the address of one
abbrev pub is_before : ℕ → (as_pointer : Bool) → Constant → Bool
is_before own false (constant.Place n) = nat_lt n own
is_before own true (constant.Address n) = nat_lt n own
is_before own as_pointer _ = false

-- which constants are places of earlier globals, and addresses of them
module _ (own : ℕ) where
  -- a name is a place where it means an earlier global, and never an address
  meaning_before : (m : Meaning) (t : ThingType) → is_earlier own (Some (record { meaning = m; thing = t })) ≡ is_before own false (entry_constant m)
  meaning_before (known.Global n) t = refl
  meaning_before (known.Local n) t = refl
  meaning_before (known.Function n) t = refl
  meaning_before known.Owned t = refl
  meaning_before (known.Constant z) t = refl
  meaning_before known.TypeName t = refl

  known_before : (o : Option Entry) → is_earlier own o ≡ is_before own false (known_constant o)
  known_before None = refl
  known_before (Some e) = meaning_before e.meaning e.thing

  no_address : (m : Meaning) → false ≡ is_before own true (entry_constant m)
  no_address (known.Global n) = refl
  no_address (known.Local n) = refl
  no_address (known.Function n) = refl
  no_address known.Owned = refl
  no_address (known.Constant z) = refl
  no_address known.TypeName = refl

  known_no_address : (o : Option Entry) → false ≡ is_before own true (known_constant o)
  known_no_address None = refl
  known_no_address (Some e) = no_address e.meaning

  -- `&` of a place is an address, and `*` of an address a place
  address_of : (k : Constant) → is_before own false k ≡ is_before own true (prefix_constant prefix.Address k)
  address_of (constant.Number r) = refl
  address_of constant.Null = refl
  address_of (constant.Place n) = refl
  address_of (constant.Address n) = refl
  address_of constant.Other = refl

  followed : (k : Constant) → is_before own true k ≡ is_before own false (prefix_constant prefix.Follow k)
  followed (constant.Number r) = refl
  followed constant.Null = refl
  followed (constant.Place n) = refl
  followed (constant.Address n) = refl
  followed constant.Other = refl

  -- neither is the other one, and no number is either
  no_place : (k : Constant) → false ≡ is_before own false (prefix_constant prefix.Address k)
  no_place (constant.Number r) = refl
  no_place constant.Null = refl
  no_place (constant.Place n) = refl
  no_place (constant.Address n) = refl
  no_place constant.Other = refl

  no_pointer : (k : Constant) → false ≡ is_before own true (prefix_constant prefix.Follow k)
  no_pointer (constant.Number r) = refl
  no_pointer constant.Null = refl
  no_pointer (constant.Place n) = refl
  no_pointer (constant.Address n) = refl
  no_pointer constant.Other = refl

  minus_before : (p : Bool) (k : Constant) → false ≡ is_before own p (prefix_constant prefix.Minus k)
  minus_before true (constant.Number r) = refl
  minus_before true constant.Null = refl
  minus_before true (constant.Place n) = refl
  minus_before true (constant.Address n) = refl
  minus_before true constant.Other = refl
  minus_before false (constant.Number r) = refl
  minus_before false constant.Null = refl
  minus_before false (constant.Place n) = refl
  minus_before false (constant.Address n) = refl
  minus_before false constant.Other = refl

  not_before : (p : Bool) (k : Constant) → false ≡ is_before own p (prefix_constant prefix.Not k)
  not_before true (constant.Number r) = refl
  not_before true constant.Null = refl
  not_before true (constant.Place n) = refl
  not_before true (constant.Address n) = refl
  not_before true constant.Other = refl
  not_before false (constant.Number r) = refl
  not_before false constant.Null = refl
  not_before false (constant.Place n) = refl
  not_before false (constant.Address n) = refl
  not_before false constant.Other = refl

  flip_before : (p : Bool) (k : Constant) → false ≡ is_before own p (prefix_constant prefix.Flip k)
  flip_before true (constant.Number r) = refl
  flip_before true constant.Null = refl
  flip_before true (constant.Place n) = refl
  flip_before true (constant.Address n) = refl
  flip_before true constant.Other = refl
  flip_before false (constant.Number r) = refl
  flip_before false constant.Null = refl
  flip_before false (constant.Place n) = refl
  flip_before false (constant.Address n) = refl
  flip_before false constant.Other = refl

  binary_before : (p : Bool) (op : BinaryOp) (k l : Constant) → false ≡ is_before own p (binary_constant op k l)
  binary_before true op (constant.Number r) (constant.Number s) = refl
  binary_before true op (constant.Number r) constant.Null = refl
  binary_before true op (constant.Number r) (constant.Place n) = refl
  binary_before true op (constant.Number r) (constant.Address n) = refl
  binary_before true op (constant.Number r) constant.Other = refl
  binary_before true op constant.Null l = refl
  binary_before true op (constant.Place n) l = refl
  binary_before true op (constant.Address n) l = refl
  binary_before true op constant.Other l = refl
  binary_before false op (constant.Number r) (constant.Number s) = refl
  binary_before false op (constant.Number r) constant.Null = refl
  binary_before false op (constant.Number r) (constant.Place n) = refl
  binary_before false op (constant.Number r) (constant.Address n) = refl
  binary_before false op (constant.Number r) constant.Other = refl
  binary_before false op constant.Null l = refl
  binary_before false op (constant.Place n) l = refl
  binary_before false op (constant.Address n) l = refl
  binary_before false op constant.Other l = refl

  -- a member of a place is one, by a point, and of what an address leads to, by an arrow
  member_before : (arrow : Bool) (k : Constant) → is_before own arrow k ≡ is_before own false (field_constant arrow k)
  member_before true (constant.Number r) = refl
  member_before true constant.Null = refl
  member_before true (constant.Place n) = refl
  member_before true (constant.Address n) = refl
  member_before true constant.Other = refl
  member_before false (constant.Number r) = refl
  member_before false constant.Null = refl
  member_before false (constant.Place n) = refl
  member_before false (constant.Address n) = refl
  member_before false constant.Other = refl

  member_no_address : (arrow : Bool) (k : Constant) → false ≡ is_before own true (field_constant arrow k)
  member_no_address true (constant.Number r) = refl
  member_no_address true constant.Null = refl
  member_no_address true (constant.Place n) = refl
  member_no_address true (constant.Address n) = refl
  member_no_address true constant.Other = refl
  member_no_address false (constant.Number r) = refl
  member_no_address false constant.Null = refl
  member_no_address false (constant.Place n) = refl
  member_no_address false (constant.Address n) = refl
  member_no_address false constant.Other = refl

  in_range : (n : ℕ) (a b : Bool) → nat_lt n own ≡ a → (a && b) ≡ is_before own false (if b then constant.Place n else constant.Other)
  in_range n true true h = sym h
  in_range n true false h = refl
  in_range n false true h = sym h
  in_range n false false h = refl

  -- an element of a place is one, by an index in range
  index_before : (l : Option ℕ) (k i : Constant) → (is_before own false k && is_index l (number_in i)) ≡ is_before own false (index_constant l k i)
  index_before l (constant.Number r) i = refl
  index_before l constant.Null i = refl
  index_before l (constant.Place n) i = in_range n (nat_lt n own) (is_index l (number_in i)) refl
  index_before l (constant.Address n) i = refl
  index_before l constant.Other i = refl

  element_no_address : (n : ℕ) (b : Bool) → false ≡ is_before own true (if b then constant.Place n else constant.Other)
  element_no_address n true = refl
  element_no_address n false = refl

  index_no_address : (l : Option ℕ) (k i : Constant) → false ≡ is_before own true (index_constant l k i)
  index_no_address l (constant.Number r) i = refl
  index_no_address l constant.Null i = refl
  index_no_address l (constant.Place n) i = element_no_address n (is_index l (number_in i))
  index_no_address l (constant.Address n) i = refl
  index_no_address l constant.Other i = refl

  module _ (c : Context) where
    -- an expression is one where what it is as a constant is
    pub place_is : (p : Bool) (e : Expression) → is_constant_place c own p e ≡ is_before own p (constant_in c e)
    unfolding constant_in
    place_is true (number n u span) = refl
    place_is false (number n u span) = refl
    place_is true (null span) = refl
    place_is false (null span) = refl
    place_is true (named name span) = known_no_address (c.known name.text)
    place_is false (named name span) = known_before (c.known name.text)
    place_is true (call callee args span) = refl
    place_is false (call callee args span) = refl
    place_is true (unary prefix.Address inner span) = place_is false inner ∙ address_of (constant_in c inner)
    place_is false (unary prefix.Address inner span) = no_place (constant_in c inner)
    place_is true (unary prefix.Follow inner span) = no_pointer (constant_in c inner)
    place_is false (unary prefix.Follow inner span) = place_is true inner ∙ followed (constant_in c inner)
    place_is true (unary prefix.Minus inner span) = minus_before true (constant_in c inner)
    place_is false (unary prefix.Minus inner span) = minus_before false (constant_in c inner)
    place_is true (unary prefix.Not inner span) = not_before true (constant_in c inner)
    place_is false (unary prefix.Not inner span) = not_before false (constant_in c inner)
    place_is true (unary prefix.Flip inner span) = flip_before true (constant_in c inner)
    place_is false (unary prefix.Flip inner span) = flip_before false (constant_in c inner)
    place_is true (binary op left right span) = binary_before true op (constant_in c left) (constant_in c right)
    place_is false (binary op left right span) = binary_before false op (constant_in c left) (constant_in c right)
    place_is true (field base name arrow span) = member_no_address arrow (constant_in c base)
    place_is false (field base name arrow span) = place_is arrow base ∙ member_before arrow (constant_in c base)
    place_is true (index base at span) = index_no_address (length_at (type_of c base)) (constant_in c base) (constant_in c at)
    place_is false (index base at span) =
        ap (λ b. b && is_index (length_at (type_of c base)) (constant_of c at)) (place_is false base)
        ∙ ap (λ n. is_before own false (constant_in c base) && is_index (length_at (type_of c base)) n) (constant_is c at)
        ∙ index_before (length_at (type_of c base)) (constant_in c base) (constant_in c at)

-- only the number 0 is one
abbrev pub zero_in : Option ExpressionType → Bool
zero_in None = false
zero_in (Some t) = t.is_zero

-- what isn't typed, and what operators, members, elements and calls give, is none
unless_zero : (b : Bool) (o : Option ExpressionType) → zero_in o ≡ false → zero_in (unless b o) ≡ false
unless_zero true o h = refl
unless_zero false o h = h

made_zero : {A : Type 0} (f : A → ExpressionType) → ((a : A) → (f a).is_zero ≡ false) → (o : Option A) → zero_in (option_map f o) ≡ false
made_zero f h None = refl
made_zero f h (Some a) = h a

both_zero : (f : ExpressionType → ExpressionType → ExpressionType) → ((a b : ExpressionType) → (f a b).is_zero ≡ false) → (o p : Option ExpressionType)
    → zero_in (both f o p) ≡ false
both_zero f h None p = refl
both_zero f h (Some a) None = refl
both_zero f h (Some a) (Some b) = h a b

entry_zero : (m : Meaning) (t : ThingType) → (entry_type (record { meaning = m; thing = t })).is_zero ≡ false
entry_zero (known.Global n) t = refl
entry_zero (known.Local n) t = refl
entry_zero (known.Function n) t = refl
entry_zero known.Owned t = refl
entry_zero (known.Constant z) t = refl
entry_zero known.TypeName t = refl

prefix_zero : (op : UnaryOp) (t : ExpressionType) → (prefix_type op t).is_zero ≡ false
prefix_zero prefix.Minus t = refl
prefix_zero prefix.Not t = refl
prefix_zero prefix.Flip t = refl
prefix_zero prefix.Address t = refl
prefix_zero prefix.Follow t = refl

binary_zero : (op : BinaryOp) (l r : ExpressionType) → (binary_type op l r).is_zero ≡ false
binary_zero op.Or l r = refl
binary_zero op.And l r = refl
binary_zero op.BitOr l r = refl
binary_zero op.BitXor l r = refl
binary_zero op.BitAnd l r = refl
binary_zero op.Equal l r = refl
binary_zero op.Unequal l r = refl
binary_zero op.Less l r = refl
binary_zero op.More l r = refl
binary_zero op.LessEqual l r = refl
binary_zero op.MoreEqual l r = refl
binary_zero op.Plus l r = refl
binary_zero op.Minus l r = refl
binary_zero op.Times l r = refl
binary_zero op.Divide l r = refl
binary_zero op.Remainder l r = refl

module _ (c : Context) where
  member_zero : (arrow : Bool) (name : List ℕ) (o : Option ExpressionType)
      → zero_in (option_and_then (λ t. option_map (member_type arrow t) (member_of c arrow name t)) o) ≡ false
  member_zero arrow name None = refl
  member_zero arrow name (Some t) = made_zero (member_type arrow t) (λ m. refl) (member_of c arrow name t)

-- Which constants are pointers, where they aren't the number 0: null, and addresses of earlier globals' places.
abbrev is_null : Constant → Bool
is_null constant.Null = true
is_null _ = false

prefix_not_null : (op : UnaryOp) (k : Constant) → is_null (prefix_constant op k) ≡ false
prefix_not_null prefix.Minus (constant.Number r) = refl
prefix_not_null prefix.Minus constant.Null = refl
prefix_not_null prefix.Minus (constant.Place n) = refl
prefix_not_null prefix.Minus (constant.Address n) = refl
prefix_not_null prefix.Minus constant.Other = refl
prefix_not_null prefix.Not (constant.Number r) = refl
prefix_not_null prefix.Not constant.Null = refl
prefix_not_null prefix.Not (constant.Place n) = refl
prefix_not_null prefix.Not (constant.Address n) = refl
prefix_not_null prefix.Not constant.Other = refl
prefix_not_null prefix.Flip (constant.Number r) = refl
prefix_not_null prefix.Flip constant.Null = refl
prefix_not_null prefix.Flip (constant.Place n) = refl
prefix_not_null prefix.Flip (constant.Address n) = refl
prefix_not_null prefix.Flip constant.Other = refl
prefix_not_null prefix.Address (constant.Number r) = refl
prefix_not_null prefix.Address constant.Null = refl
prefix_not_null prefix.Address (constant.Place n) = refl
prefix_not_null prefix.Address (constant.Address n) = refl
prefix_not_null prefix.Address constant.Other = refl
prefix_not_null prefix.Follow (constant.Number r) = refl
prefix_not_null prefix.Follow constant.Null = refl
prefix_not_null prefix.Follow (constant.Place n) = refl
prefix_not_null prefix.Follow (constant.Address n) = refl
prefix_not_null prefix.Follow constant.Other = refl

binary_not_null : (op : BinaryOp) (k l : Constant) → is_null (binary_constant op k l) ≡ false
binary_not_null op (constant.Number r) (constant.Number s) = refl
binary_not_null op (constant.Number r) constant.Null = refl
binary_not_null op (constant.Number r) (constant.Place n) = refl
binary_not_null op (constant.Number r) (constant.Address n) = refl
binary_not_null op (constant.Number r) constant.Other = refl
binary_not_null op constant.Null l = refl
binary_not_null op (constant.Place n) l = refl
binary_not_null op (constant.Address n) l = refl
binary_not_null op constant.Other l = refl

field_not_null : (arrow : Bool) (k : Constant) → is_null (field_constant arrow k) ≡ false
field_not_null true (constant.Number r) = refl
field_not_null true constant.Null = refl
field_not_null true (constant.Place n) = refl
field_not_null true (constant.Address n) = refl
field_not_null true constant.Other = refl
field_not_null false (constant.Number r) = refl
field_not_null false constant.Null = refl
field_not_null false (constant.Place n) = refl
field_not_null false (constant.Address n) = refl
field_not_null false constant.Other = refl

element_not_null : (n : ℕ) (b : Bool) → is_null (if b then constant.Place n else constant.Other) ≡ false
element_not_null n true = refl
element_not_null n false = refl

index_not_null : (l : Option ℕ) (k i : Constant) → is_null (index_constant l k i) ≡ false
index_not_null l (constant.Number r) i = refl
index_not_null l constant.Null i = refl
index_not_null l (constant.Place n) i = element_not_null n (is_index l (number_in i))
index_not_null l (constant.Address n) i = refl
index_not_null l constant.Other i = refl

meaning_not_null : (m : Meaning) → is_null (entry_constant m) ≡ false
meaning_not_null (known.Global n) = refl
meaning_not_null (known.Local n) = refl
meaning_not_null (known.Function n) = refl
meaning_not_null known.Owned = refl
meaning_not_null (known.Constant z) = refl
meaning_not_null known.TypeName = refl

known_not_null : (o : Option Entry) → is_null (known_constant o) ≡ false
known_not_null None = refl
known_not_null (Some e) = meaning_not_null e.meaning

no_zero : (n : ℕ) → nat_eq (suc n) 0 ≡ false
no_zero n = grind (arith, nat_tests)

number_zero : (n : ℕ) (u : Bool) → (number_type n u).is_zero ≡ nat_eq n 0
number_zero n true = refl
number_zero n false = refl

module _ (own : ℕ) where
  fixed_before : (k : Constant) → is_null k ≡ false → fixed_by own false k ≡ is_before own true k
  fixed_before (constant.Number r) h = refl
  fixed_before constant.Null h = cc
  fixed_before (constant.Place n) h = refl
  fixed_before (constant.Address n) h = refl
  fixed_before constant.Other h = refl

  module _ (c : Context) where
    fixed_at : (e : Expression) → zero_in (type_of c e) ≡ false → is_null (constant_in c e) ≡ false
        → fixed_by own (zero_in (type_of c e)) (constant_in c e) ≡ is_constant_place c own true e
    fixed_at e z h = ap (λ x. fixed_by own x (constant_in c e)) z ∙ fixed_before (constant_in c e) h ∙ sym (place_is own c true e)

    call_none : (callee : Identifier) (args : Arguments) (span : Span) → zero_in (type_of c (call callee args span)) ≡ false
    unfolding type_of
    call_none callee args span =
        unless_zero
        (known_and (breaks_call c (types_of c args)) (c.known callee.text) || (known_and (miscounts c (types_of c args)) (c.known callee.text) || not (all_typed (types_of c args))))
        (option_map result_type (c.known callee.text)) (made_zero result_type (λ e. refl) (c.known callee.text))

    -- an expression is a constant pointer where its type and what it is as a constant say so
    pub pointer_is : (e : Expression) → fixed_by own (zero_in (type_of c e)) (constant_in c e) ≡ is_constant_pointer c own e
    unfolding constant_in type_of
    pointer_is (number zero u span) = number_zero zero u
    pointer_is (number (suc n) u span) = number_zero (suc n) u ∙ no_zero n
    pointer_is (null span) = refl
    pointer_is (named name span) =
        fixed_at (named name span) (made_zero entry_type (λ e. entry_zero e.meaning e.thing) (c.known name.text)) (known_not_null (c.known name.text))
    pointer_is (call callee args span) = fixed_at (call callee args span) (call_none callee args span) refl
    pointer_is (unary op inner span) =
        fixed_at (unary op inner span) (unless_zero (breaks_prefix op (type_of c inner)) _ (made_zero (prefix_type op) (prefix_zero op) (type_of c inner)))
        (prefix_not_null op (constant_in c inner))
    pointer_is (binary op left right span) =
        fixed_at (binary op left right span) (unless_zero (breaks_binary op (type_of c left) (type_of c right)) _ (both_zero (binary_type op) (binary_zero op) (type_of c left) (type_of c right)))
        (binary_not_null op (constant_in c left) (constant_in c right))
    pointer_is (field base name arrow span) =
        fixed_at (field base name arrow span)
        (unless_zero (lacks (λ t. is_some (owner arrow t)) (type_of c base))
        (option_and_then (λ t. option_map (member_type arrow t) (member_of c arrow name.text t)) (type_of c base)) (member_zero c arrow name.text (type_of c base)))
        (field_not_null arrow (constant_in c base))
    pointer_is (index base at span) =
        fixed_at (index base at span)
        (unless_zero (breaks_index (type_of c base) (type_of c at)) _ (both_zero (λ a i. element_type a) (λ a b. refl) (type_of c base) (type_of c at)))
        (index_not_null (length_at (type_of c base)) (constant_in c base) (constant_in c at))
