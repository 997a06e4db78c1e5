-- The row of a typed expression is read as what the expression means, and the call in it.
use Rattle.std.proofs.Common.{◌≡◌, ◌∙◌, ℕ, suc, Bool, true, List, [], ◌∷◌, ◌++◌, length, Option, Some, None, option_map}
use Rattle.std.proofs.Common.{option_and_then, is_some, refl, sym, ap, ap₂, subst}
use Rattle.tsa_base.specs.declared.token.Span.{Span}
use Rattle.tsa_tree.specs.declared.expr.BinaryOp.{BinaryOp}
use Rattle.tsa_tree.specs.declared.expr.BinaryOp.TheVariants as binary_op
use Rattle.tsa_tree.specs.declared.expr.UnaryOp.{UnaryOp}
use Rattle.tsa_tree.specs.declared.expr.UnaryOp.TheVariants as prefix
use Rattle.tsa_tree.specs.declared.kind.ExpressionType.{ExpressionType}
use Rattle.tsa_tree.specs.declared.kind.Kind.{Kind}
use Rattle.tsa_tree.specs.declared.kind.ThingType.{ThingType}
use Rattle.tsa_tree.specs.declared.meaning.Entry.{Entry}
use Rattle.tsa_tree.specs.declared.meaning.Meaning.{Meaning}
use Rattle.tsa_tree.specs.declared.meaning.Meaning.TheVariants as meant
use Rattle.tsa_tree.specs.expressions.Syntax.{Expression, Arguments, number, null, named, call, unary, binary, field, index}
use Rattle.tsa_tree.specs.expressions.Syntax as args
use Rattle.tsa_tree.specs.types.Constants.{constant_of}
use Rattle.tsa_tree.specs.types.Expressions.{type_of, types_of, all_typed, entry_type, result_type, member_type, owner}
use Rattle.tsa_tree.specs.types.Expressions as typing
use Rattle.tsa_tree.specs.types.Lookups.{members_at, numbered, params_in}
use Rattle.tsa_tree.specs.types.Operands.{breaks_prefix, breaks_binary, breaks_index, lacks, prefix_type, binary_type, element_type}
use Rattle.tsa_tree.specs.types.Scopes.{Scope, context_of, known_in}
use Rattle.tsa_tree.specs.types.Symbols.{symbol_of, entry_symbol}
use Rattle.tsa_types_row.specs.ExpressionRows.{type_or_bare, is_fixed, entry_fixed, entry_function, args_count, member_op, member_of, callee_node}
use Rattle.tsa_types_row.specs.ExpressionRows.{node_in, row_in, row_in_all}
use Rattle.tsa_types_row.specs.Rows.{sized, framed}
use Rattle.tsa_types_row.specs.declared.node.Node.{Node}
use Rattle.tsa_core.specs.Meanings.{name_term, of_name, of_call, to_member, meaning, as_kind, arguments, call_of, call_in}
use Rattle.tsa_core.proofs.CallsHold.{call_called}
use Rattle.tsa_core.proofs.KindsOfTerms.{of_one, of_two, of_owner, typed}
use Rattle.tsa_core.proofs.TypedTerms.{terms_have_types, member_numbered}
use Rattle.tsa_core_rows.specs.Laws.{part_of, with_part, ExpressionsAreRead}
use Rattle.tsa_core_rows.specs.Reading.{Part, silent, Reading, behind_parts, symbol_term, read_name, args_read, read_call, prefix_call, read_prefix}
use Rattle.tsa_core_rows.specs.Reading.{binary_call, read_binary, read_index, read_node, read_before}
use Rattle.tsa_core_rows.proofs.AnyParts.{with_parts, read_framed, read_both}

-- the type of a node is that of what the expression means
thing_is : (here : Scope) (e : Expression) (t : ExpressionType) → type_of (context_of here) e ≡ Some t → type_or_bare (type_of (context_of here) e) ≡ (meaning here e).type
thing_is here e t is = ap type_or_bare (typed here e t is)

-- Names.
name_means : (f : ℕ) (m : Meaning) → symbol_term (symbol_of f m) ≡ name_term m
name_means f (meant.Global n) = refl
name_means f (meant.Local n) = refl
name_means f (meant.Function n) = refl
name_means f meant.Owned = refl
name_means f (meant.Constant z) = refl
name_means f meant.TypeName = refl

name_read : (f : ℕ) (o : Option Entry) (t : ExpressionType) → option_map entry_type o ≡ Some t
    → read_name (entry_symbol f o) (entry_fixed o) (type_or_bare (option_map entry_type o)) ≡ silent (of_name o)
name_read f None t is = cc
name_read f (Some e) t is = ap (λ x. silent (record { term = x; type = entry_type e; is_stable = is_fixed e.thing })) (name_means f e.meaning)

-- Arguments: as many parts as there are.
abbrev pub parts_of : Scope → Arguments → List Part
parts_of here args.none = []
parts_of here (args.more first rest) = part_of here first ∷ parts_of here rest

args_are_read : (here : Scope) (params : List ThingType) (given : Arguments) (rest : List Part)
    → args_read params (args_count given) (parts_of here given ++ rest) ≡ arguments here params given
unfolding arguments
args_are_read here [] args.none rest = refl
args_are_read here [] (args.more first others) rest = refl
args_are_read here (p ∷ params) args.none rest = refl
args_are_read here (p ∷ params) (args.more first others) rest = ap (λ xs. as_kind p.kind (meaning here first) ∷ xs) (args_are_read here params others rest)

args_taken : (here : Scope) (given : Arguments) (rest : List Part) → behind_parts (args_count given) (parts_of here given ++ rest) ≡ rest
args_taken here args.none rest = refl
args_taken here (args.more first others) rest = args_taken here others rest

call_read : (here : Scope) (given : Arguments) (o : Option Entry) (n : ℕ) (thing : ThingType) (rest : List Part) (x : ExpressionType)
    → o ≡ Some (record { meaning = meant.Function n; thing = thing }) → x ≡ result_type (record { meaning = meant.Function n; thing = thing })
    → read_call (entry_function o) (args_read (params_in here (entry_function o)) (args_count given) (parts_of here given ++ rest)) x
    ≡ record { sense = of_call o; call = call_of here given o }
call_read here given o n thing rest x is same =
    rw (is, same) (ap (λ xs. read_call n xs (result_type (record { meaning = meant.Function n; thing = thing }))) (args_are_read here (params_in here n) given rest))

first_typed : (o : Option ExpressionType) (ts : List (Option ExpressionType)) → all_typed (o ∷ ts) ≡ true → ((t : ExpressionType) × (o ≡ Some t)) × (all_typed ts ≡ true)
first_typed None ts e = cc
first_typed (Some t) ts e = ((t, refl), e)

-- A call stands in what `!` is before, or what is compared.
prefix_calls : (here : Scope) (o : UnaryOp) (inner : Expression) (span : Span) → prefix_call o (part_of here inner) ≡ call_in here (unary o inner span)
unfolding call_in
prefix_calls here prefix.Not inner span = refl
prefix_calls here prefix.Minus inner span = refl
prefix_calls here prefix.Flip inner span = refl
prefix_calls here prefix.Address inner span = refl
prefix_calls here prefix.Follow inner span = refl

binary_calls : (here : Scope) (o : BinaryOp) (left right : Expression) (span : Span)
    → binary_call o (part_of here left) (part_of here right) ≡ call_in here (binary o left right span)
unfolding call_in
binary_calls here binary_op.Or left right span = refl
binary_calls here binary_op.And left right span = refl
binary_calls here binary_op.BitOr left right span = refl
binary_calls here binary_op.BitXor left right span = refl
binary_calls here binary_op.BitAnd left right span = refl
binary_calls here binary_op.Equal left right span = refl
binary_calls here binary_op.Unequal left right span = refl
binary_calls here binary_op.Less left right span = refl
binary_calls here binary_op.More left right span = refl
binary_calls here binary_op.LessEqual left right span = refl
binary_calls here binary_op.MoreEqual left right span = refl
binary_calls here binary_op.Plus left right span = refl
binary_calls here binary_op.Minus left right span = refl
binary_calls here binary_op.Times left right span = refl
binary_calls here binary_op.Divide left right span = refl
binary_calls here binary_op.Remainder left right span = refl

-- Members: a typed one is found with its number.
member_same : (here : Scope) (name : List ℕ) (o : Option ℕ)
    → option_and_then (λ n. (context_of here).member n name) o ≡ option_map (λ m. m.1) (option_and_then (λ n. numbered (members_at here n) name 0) o)
member_same here name None = refl
member_same here name (Some n) = member_numbered here n name

module _ (params : ℕ → List ThingType) (result : Kind) where
  member_read : (arrow : Bool) (m q : Option (ℕ × ThingType)) (node : Node) (x : ExpressionType) (p : Part) (r : Reading) (t : ExpressionType) → m ≡ q
      → x ≡ (to_member arrow p.sense q).type → option_map (member_type arrow p.sense.type) (option_map (λ m. m.1) q) ≡ Some t
      → read_node params result (record { op = member_op arrow m; thing = x; worth = node.worth; size = node.size; span = node.span }) (with_part p r)
      ≡ with_part (silent (to_member arrow p.sense q)) r
  member_read arrow m None node x p r t is same typed = cc
  member_read arrow m (Some k) node x p r t is same typed = rw (is, same) refl

module _ (here : Scope) (f : ℕ) (result : Kind) where
  abbrev IsRead : Expression → Type 0
  IsRead e = (t : ExpressionType) (r : Reading) → type_of (context_of here) e ≡ Some t → read_before (params_in here) result (row_in here f e) r ≡ with_part (part_of here e) r

  mutual
    unfolding row_in row_in_all type_of types_of constant_of meaning call_in

    pub typed_part : (e : Expression) → IsRead e
    typed_part (number n u span) t r is = refl
    typed_part (null span) t r is = refl
    typed_part (named name span) t r is = ap (λ p. with_part p r) (name_read f (known_in here name.text) t is)
    typed_part (call callee given span) t r is =
        let node = node_in here f (call callee given span) in
        let row = framed (callee_node f callee (known_in here callee.text)) [] ++ row_in_all here f given in
        let k = call_called here callee given span t is in
        read_framed (params_in here) result node row r (with_parts (parts_of here given) r) (typed_parts given r k.all)
        ∙ ap₂ (λ p ps. record { parts = p ∷ ps; points = r.points })
        (call_read here given (known_in here callee.text) k.n k.thing r.parts (type_or_bare (type_of (context_of here) (call callee given span))) k.known (ap type_or_bare is ∙ k.type))
        (args_taken here given r.parts)
    typed_part (unary o inner span) t r is =
        let parts = of_one (prefix_type o) (breaks_prefix o (type_of (context_of here) inner)) (type_of (context_of here) inner) t is in
        read_framed (params_in here) result (node_in here f (unary o inner span)) (row_in here f inner) r (with_part (part_of here inner) r)
        (typed_part inner parts.1.0 r parts.1.1)
        ∙ ap (λ x. with_part (read_prefix o (part_of here inner) x) r) (thing_is here (unary o inner span) t is)
        ∙ ap (λ x. with_part (record { sense = meaning here (unary o inner span); call = x }) r) (prefix_calls here o inner span)
    typed_part (binary o left right span) t r is =
        let l = type_of (context_of here) left in
        let g = type_of (context_of here) right in
        let parts = of_two (binary_type o) (breaks_binary o l g) l g t is in
        let both = with_part (part_of here left) (with_part (part_of here right) r) in
        read_framed (params_in here) result (node_in here f (binary o left right span)) (row_in here f left ++ row_in here f right) r both
        (read_both (params_in here) result (row_in here f left) (row_in here f right) r (with_part (part_of here right) r) both
        (typed_part right parts.1.1.0 r parts.1.1.1) (typed_part left parts.1.0.0 (with_part (part_of here right) r) parts.1.0.1))
        ∙ ap (λ x. with_part (read_binary o (part_of here left) (part_of here right) x) r) (thing_is here (binary o left right span) t is)
        ∙ ap (λ x. with_part (record { sense = meaning here (binary o left right span); call = x }) r) (binary_calls here o left right span)
    typed_part (field base name arrow span) t r is =
        let e = field base name arrow span in
        let k : ExpressionType → Option ExpressionType = λ x. option_map (member_type arrow x) (typing.member_of (context_of here) arrow name.text x) in
        let parts = of_owner k (lacks (λ x. is_some (owner arrow x)) (type_of (context_of here) base)) (type_of (context_of here) base) t is in
        let s = meaning here base in
        let there = typed here base parts.0 parts.1.0 in
        let found : k s.type ≡ Some t = subst (λ x. k x ≡ Some t) (sym (terms_have_types here base parts.0 parts.1.0)) parts.1.1 in
        read_framed (params_in here) result (node_in here f e) (row_in here f base) r (with_part (part_of here base) r) (typed_part base parts.0 r parts.1.0)
        ∙ member_read (params_in here) result arrow (member_of here arrow name.text (type_of (context_of here) base))
        (option_and_then (λ n. numbered (members_at here n) name.text 0) (owner arrow s.type))
        (sized (suc (length (row_in here f base))) (node_in here f e)) (type_or_bare (type_of (context_of here) e)) (part_of here base) r t
        (ap (member_of here arrow name.text) there) (thing_is here e t is)
        (ap (option_map (member_type arrow s.type)) (sym (member_same here name.text (owner arrow s.type))) ∙ found)
    typed_part (index base at span) t r is =
        let l = type_of (context_of here) base in
        let g = type_of (context_of here) at in
        let parts = of_two (λ a i. element_type a) (breaks_index l g) l g t is in
        let both = with_part (part_of here base) (with_part (part_of here at) r) in
        read_framed (params_in here) result (node_in here f (index base at span)) (row_in here f base ++ row_in here f at) r both
        (read_both (params_in here) result (row_in here f base) (row_in here f at) r (with_part (part_of here at) r) both
        (typed_part at parts.1.1.0 r parts.1.1.1) (typed_part base parts.1.0.0 (with_part (part_of here at) r) parts.1.0.1))
        ∙ ap (λ x. with_part (read_index (part_of here base) (part_of here at) x) r) (thing_is here (index base at span) t is)

    typed_parts : (given : Arguments) (r : Reading) → all_typed (types_of (context_of here) given) ≡ true
        → read_before (params_in here) result (row_in_all here f given) r ≡ with_parts (parts_of here given) r
    typed_parts args.none r all = refl
    typed_parts (args.more first rest) r all =
        let h = first_typed (type_of (context_of here) first) (types_of (context_of here) rest) all in
        read_both (params_in here) result (row_in here f first) (row_in_all here f rest) r (with_parts (parts_of here rest) r) (with_parts (parts_of here (args.more first rest)) r)
        (typed_parts rest r h.1) (typed_part first h.0.0 (with_parts (parts_of here rest) r) h.0.1)

pub expressions_are_read : ExpressionsAreRead
expressions_are_read here f result e t r is = typed_part here f result e t r is
