-- The row of a body says which locals of the body never change.
use Rattle.std.proofs.Common.{◌≡◌, ◌∙◌, ℕ, Bool, true, List, [], ◌∷◌, ◌++◌, Option, Some, None, option_and_then, replicate, refl, sym, ap, append_assoc}
use Rattle.tsa_base.specs.declared.token.Span.{Span}
use Rattle.tsa_tree.specs.attributes.Syntax.{Attribute}
use Rattle.tsa_tree.specs.declarations.Syntax.{Declaration, Initialiser, Initialisers, value, list, no_more, one_more}
use Rattle.tsa_tree.specs.declared.expr.UnaryOp.{UnaryOp}
use Rattle.tsa_tree.specs.declared.expr.UnaryOp.TheVariants as prefix
use Rattle.tsa_tree.specs.declared.expr.BinaryOp.{BinaryOp}
use Rattle.tsa_tree.specs.declared.expr.BinaryOp.TheVariants as binary_op
use Rattle.tsa_tree.specs.declared.kind.ThingType.{ThingType}
use Rattle.tsa_tree.specs.declared.meaning.Entry.{Entry}
use Rattle.tsa_tree.specs.declared.meaning.Meaning.{Meaning}
use Rattle.tsa_tree.specs.declared.meaning.Meaning.TheVariants as meant
use Rattle.tsa_tree.specs.expressions.Syntax.{Expression, Arguments, number, null, named, call, unary, binary, field, index}
use Rattle.tsa_tree.specs.expressions.Syntax as args
use Rattle.tsa_tree.specs.points.Syntax.{declares, tests, switches, returns, ends, expression_span, simple_deed}
use Rattle.tsa_tree.specs.statements.Syntax.{Simple, evaluation, assignment, ForInit, no_init, simple_init, local_init, Statement, block}
use Rattle.tsa_tree.specs.statements.Syntax.{empty, local, simple, if_alone, if_else, while_loop, do_loop, for_loop, switch, case, otherwise}
use Rattle.tsa_tree.specs.statements.Syntax.{label, break, continue, goto, return, Statements, none, more}
use Rattle.tsa_tree.specs.types.Expressions.{type_of, owner}
use Rattle.tsa_tree.specs.types.Lookups.{members_at, numbered}
use Rattle.tsa_tree.specs.types.Scopes.{Scope, context_of, known_in, further}
use Rattle.tsa_tree.specs.types.Statements.{behind_init, behind}
use Rattle.tsa_tree.specs.types.Symbols.{symbol_of, entry_symbol}
use Rattle.tsa_tree.specs.types.Targets.{declared_in}
use Rattle.tsa_types_row.specs.BodyRows.{alone_row, aside, aside_given, aside_all, aside_attributes, aside_init, aside_items, marked_row}
use Rattle.tsa_types_row.specs.BodyRows.{row_in_init, row_in_given_init, local_parts, row_in_local, row_in_simple, row_in_for_init, row_in_step}
use Rattle.tsa_types_row.specs.BodyRows.{row_in_test, row_in_given_test, row_in_for, row_in_return, row_in_statement, row_in_statements, row_in_body}
use Rattle.tsa_types_row.specs.ExpressionRows.{member_op, member_of, row_in, row_in_all}
use Rattle.tsa_types_row.specs.declared.node.Node.{Node}
use Rattle.tsa_types_row.specs.declared.node.Op.TheVariants as op
use Rattle.tsa_core.specs.Bodies.{Known, knows, known_init, known_step, known, known_all, changed, stable_by, stable_behind}
use Rattle.tsa_core.specs.Meanings.{name_term, of_name, of_call, to_member, prefix_term, operands, meaning}
use Rattle.tsa_core.specs.Terms.{Sense}
use Rattle.tsa_core_rows.specs.Laws.{StableLocalsAreRead}
use Rattle.tsa_core_rows.specs.Reading.{symbol_changes, op_changes, first_changes, stable_at, stable_read}

-- Rows that change nothing, whatever stands behind them.
abbrev Leaves : List Node → Type 0
Leaves row = (stable : List Bool) (ys : List Node) → stable_read stable (row ++ ys) ≡ stable_read stable ys

left_by_both : (xs ys : List Node) → Leaves xs → Leaves ys → Leaves (xs ++ ys)
left_by_both xs ys h g stable zs = ap (stable_read stable) (append_assoc xs ys zs) ∙ h stable (ys ++ zs) ∙ g stable zs

left_by_member : (arrow : Bool) (m : Option (ℕ × ThingType)) (stable : List Bool) (row : List Node) → stable_at stable (member_op arrow m) row ≡ stable
left_by_member arrow None stable row = refl
left_by_member arrow (Some m) stable row = refl

module _ (here : Scope) (f : ℕ) where
  mutual
    unfolding row_in row_in_all

    left_by : (e : Expression) → Leaves (row_in here f e)
    left_by (number n u span) stable ys = refl
    left_by (null span) stable ys = refl
    left_by (named name span) stable ys = refl
    left_by (call callee given span) stable ys = left_by_all given stable ys
    left_by (unary o inner span) stable ys = left_by inner stable ys
    left_by (binary o left right span) stable ys = left_by_both (row_in here f left) (row_in here f right) (left_by left) (left_by right) stable ys
    left_by (field base name arrow span) stable ys =
        ap (λ s. stable_read s (row_in here f base ++ ys)) (left_by_member arrow (member_of here arrow name.text (type_of (context_of here) base)) stable (row_in here f base ++ ys))
        ∙ left_by base stable ys
    left_by (index base at span) stable ys = left_by_both (row_in here f base) (row_in here f at) (left_by base) (left_by at) stable ys

    left_by_all : (given : Arguments) → Leaves (row_in_all here f given)
    left_by_all args.none stable ys = refl
    left_by_all (args.more first rest) stable ys = left_by_both (row_in here f first) (row_in_all here f rest) (left_by first) (left_by_all rest) stable ys

  left_by_aside : (e : Expression) → Leaves (aside here f e)
  unfolding marked_row
  left_by_aside e stable ys = left_by e stable ys

  left_by_aside_given : (e : Option Expression) → Leaves (aside_given here f e)
  left_by_aside_given None stable ys = refl
  left_by_aside_given (Some e) stable ys = left_by_aside e stable ys

  left_by_aside_all : (given : Arguments) → Leaves (aside_all here f given)
  unfolding aside_all
  left_by_aside_all args.none stable ys = refl
  left_by_aside_all (args.more first rest) stable ys = left_by_both (aside here f first) (aside_all here f rest) (left_by_aside first) (left_by_aside_all rest) stable ys

  left_by_attributes : (attrs : List Attribute) → Leaves (aside_attributes here f attrs)
  unfolding aside_attributes
  left_by_attributes [] stable ys = refl
  left_by_attributes (a ∷ rest) stable ys = left_by_both (aside_all here f a.args) (aside_attributes here f rest) (left_by_aside_all a.args) (left_by_attributes rest) stable ys

  mutual
    unfolding aside_init aside_items

    left_by_item : (i : Initialiser) → Leaves (aside_init here f i)
    left_by_item (value e) stable ys = left_by_aside e stable ys
    left_by_item (list items span) stable ys = left_by_items items stable ys

    left_by_items : (items : Initialisers) → Leaves (aside_items here f items)
    left_by_items no_more stable ys = refl
    left_by_items (one_more first rest) stable ys = left_by_both (aside_init here f first) (aside_items here f rest) (left_by_item first) (left_by_items rest) stable ys

  left_by_init : (i : Option Initialiser) → Leaves (row_in_given_init here f i)
  unfolding row_in_init
  left_by_init None stable ys = refl
  left_by_init (Some (value e)) stable ys = left_by e stable ys
  left_by_init (Some (list items span)) stable ys = left_by_items items stable ys

  left_by_parts : (d : Declaration) → Leaves (local_parts here f d)
  unfolding local_parts
  left_by_parts d stable ys =
      left_by_both (aside_given here f d.ctype.length) (aside_attributes here f d.attrs ++ row_in_given_init here f d.init) (left_by_aside_given d.ctype.length)
      (left_by_both (aside_attributes here f d.attrs) (row_in_given_init here f d.init) (left_by_attributes d.attrs) (left_by_init d.init)) stable ys

-- What an assignment's left side changes.
name_changes : (f : ℕ) (m : Meaning) (stable : List Bool) → symbol_changes stable (symbol_of f m) ≡ changed stable (name_term m)
name_changes f (meant.Global n) stable = refl
name_changes f (meant.Local n) stable = refl
name_changes f (meant.Function n) stable = refl
name_changes f meant.Owned stable = refl
name_changes f (meant.Constant z) stable = refl
name_changes f meant.TypeName stable = refl

entry_changes : (f : ℕ) (o : Option Entry) (stable : List Bool) → symbol_changes stable (entry_symbol f o) ≡ changed stable (of_name o).term
entry_changes f None stable = refl
entry_changes f (Some e) stable = name_changes f e.meaning stable

call_changes : (o : Option Entry) (stable : List Bool) → stable ≡ changed stable (of_call o).term
call_changes None stable = refl
call_changes (Some e) stable = refl

prefix_changes : (o : UnaryOp) (s : Sense) (stable : List Bool) → stable ≡ changed stable (prefix_term o s)
prefix_changes prefix.Not s stable = refl
prefix_changes prefix.Minus s stable = refl
prefix_changes prefix.Flip s stable = refl
prefix_changes prefix.Address s stable = refl
prefix_changes prefix.Follow s stable = refl

binary_changes : (o : BinaryOp) (l r : Sense) (stable : List Bool) → stable ≡ changed stable (operands o l r)
binary_changes binary_op.Or l r stable = refl
binary_changes binary_op.And l r stable = refl
binary_changes binary_op.BitOr l r stable = refl
binary_changes binary_op.BitXor l r stable = refl
binary_changes binary_op.BitAnd l r stable = refl
binary_changes binary_op.Equal l r stable = refl
binary_changes binary_op.Unequal l r stable = refl
binary_changes binary_op.Less l r stable = refl
binary_changes binary_op.More l r stable = refl
binary_changes binary_op.LessEqual l r stable = refl
binary_changes binary_op.MoreEqual l r stable = refl
binary_changes binary_op.Plus l r stable = refl
binary_changes binary_op.Minus l r stable = refl
binary_changes binary_op.Times l r stable = refl
binary_changes binary_op.Divide l r stable = refl
binary_changes binary_op.Remainder l r stable = refl

member_changes : (arrow : Bool) (s : Sense) (m : Option (ℕ × ThingType)) (stable : List Bool) → stable ≡ changed stable (to_member arrow s m).term
member_changes arrow s None stable = refl
member_changes arrow s (Some m) stable = refl

member_first : (arrow : Bool) (m : Option (ℕ × ThingType)) (stable : List Bool) → op_changes stable (member_op arrow m) ≡ stable
member_first arrow None stable = refl
member_first arrow (Some m) stable = refl

left_changes : (here : Scope) (f : ℕ) (left : Expression) (stable : List Bool) (ys : List Node)
    → first_changes stable (row_in here f left ++ ys) ≡ changed stable (meaning here left).term
unfolding row_in meaning
left_changes here f (number n u span) stable ys = refl
left_changes here f (null span) stable ys = refl
left_changes here f (named name span) stable ys = entry_changes f (known_in here name.text) stable
left_changes here f (call callee given span) stable ys = call_changes (known_in here callee.text) stable
left_changes here f (unary o inner span) stable ys = prefix_changes o (meaning here inner) stable
left_changes here f (binary o left right span) stable ys = binary_changes o (meaning here left) (meaning here right) stable
left_changes here f (field base name arrow span) stable ys =
    let s = meaning here base in
    member_first arrow (member_of here arrow name.text (type_of (context_of here) base)) stable
    ∙ member_changes arrow s (option_and_then (λ struct. numbered (members_at here struct) name.text 0) (owner arrow s.type)) stable
left_changes here f (index base at span) stable ys = refl

-- what one point after another changes
behind_append : (stable : List Bool) (ks js : List Known) → stable_behind stable (ks ++ js) ≡ stable_behind (stable_behind stable ks) js
behind_append stable [] js = refl
behind_append stable (k ∷ ks) js = behind_append (stable_by stable k.here k.deed) ks js

module _ (f : ℕ) where
  -- a row changes what is changed at some points, whatever stands behind it
  abbrev ChangesAt : List Node → List Known → Type 0
  ChangesAt row ks = (stable : List Bool) (ys : List Node) → stable_read stable (row ++ ys) ≡ stable_read (stable_behind stable ks) ys

  both : (xs ys : List Node) (ks js : List Known) → ChangesAt xs ks → ChangesAt ys js → ChangesAt (xs ++ ys) (ks ++ js)
  both xs ys ks js h g stable zs =
      ap (stable_read stable) (append_assoc xs ys zs) ∙ h stable (ys ++ zs) ∙ g (stable_behind stable ks) zs
      ∙ ap (λ s. stable_read s zs) (sym (behind_append stable ks js))

  at_local : (here : Scope) (d : Declaration) → ChangesAt (row_in_local here f d) (knows here (declares d) ∷ [])
  unfolding row_in_local
  at_local here d stable ys = left_by_parts here f d (stable ++ true ∷ []) ys

  at_simple : (here : Scope) (s : Simple) → ChangesAt (row_in_simple here f s) (knows here (simple_deed s) ∷ [])
  unfolding row_in_simple marked_row
  at_simple here (evaluation e span) stable ys = left_by here f e stable ys
  at_simple here (assignment left o right span) stable ys =
      let l = row_in here f left in
      let r = row_in here f right in
      ap (λ s. stable_read s ((l ++ r) ++ ys)) (ap (first_changes stable) (append_assoc l r ys) ∙ left_changes here f left stable (r ++ ys))
      ∙ left_by_both l r (left_by here f left) (left_by here f right) (changed stable (meaning here left).term) ys

  at_init : (here : Scope) (init : ForInit) → ChangesAt (row_in_for_init here f init) (known_init here init)
  at_init here no_init stable ys = refl
  at_init here (simple_init s) stable ys = at_simple here s stable ys
  at_init here (local_init d) stable ys = at_local here d stable ys

  at_step : (here : Scope) (s : Option Simple) → ChangesAt (row_in_step here f s) (known_step here s)
  at_step here None stable ys = refl
  at_step here (Some s) stable ys = at_simple here s stable ys

  at_test : (here : Scope) (e : Expression) → ChangesAt (row_in_test here f e) (knows here (tests (Some e)) ∷ [])
  unfolding marked_row
  at_test here e stable ys = left_by here f e stable ys

  at_given_test : (here : Scope) (loop : Span) (e : Option Expression) → ChangesAt (row_in_given_test loop here f e) (knows here (tests e) ∷ [])
  at_given_test here loop None stable ys = refl
  at_given_test here loop (Some e) stable ys = at_test here e stable ys

  at_key : (here : Scope) (e : Expression) → ChangesAt (marked_row op.Branch (expression_span e) here f e) (knows here (switches e) ∷ [])
  unfolding marked_row
  at_key here e stable ys = left_by here f e stable ys

  at_return : (here : Scope) (span : Span) (e : Option Expression) → ChangesAt (row_in_return span here f e) (knows here (returns e) ∷ [])
  unfolding marked_row
  at_return here span None stable ys = refl
  at_return here span (Some e) stable ys = left_by here f e stable ys

  at_for : (here : Scope) (loop : Span) (init : ForInit) (test : Option Expression) (step : Option Simple)
      → ChangesAt (row_in_for loop here f init test step) (known_init here init ++ (knows (behind_init here init) (tests test) ∷ known_step (behind_init here init) step))
  unfolding row_in_for
  at_for here loop init test step stable ys =
      let there = behind_init here init in
      both (row_in_for_init here f init) (row_in_given_test loop there f test ++ row_in_step there f step) (known_init here init) (knows there (tests test) ∷ known_step there step)
      (at_init here init)
      (both (row_in_given_test loop there f test) (row_in_step there f step) (knows there (tests test) ∷ []) (known_step there step) (at_given_test there loop test) (at_step there step)) stable ys

  mutual
    unfolding row_in_statement row_in_statements known known_all

    at_statement : (here : Scope) (s : Statement) → ChangesAt (row_in_statement here f s) (known here s)
    at_statement here (block items span) stable ys = at_statements here items stable ys
    at_statement here (empty span) stable ys = refl
    at_statement here (local d) stable ys = at_local here d stable ys
    at_statement here (simple s) stable ys = at_simple here s stable ys
    at_statement here (if_alone test arm span) stable ys =
        both (row_in_test here f test) (row_in_statement here f arm) (knows here (tests (Some test)) ∷ []) (known here arm) (at_test here test) (at_statement here arm) stable ys
    at_statement here (if_else test arm other span) stable ys =
        let there = further (declared_in arm) here in
        both (row_in_test here f test) (row_in_statement here f arm ++ row_in_statement there f other) (knows here (tests (Some test)) ∷ []) (known here arm ++ known there other)
        (at_test here test)
        (both (row_in_statement here f arm) (row_in_statement there f other) (known here arm) (known there other) (at_statement here arm) (at_statement there other)) stable ys
    at_statement here (while_loop test body span) stable ys =
        both (row_in_test here f test) (row_in_statement here f body) (knows here (tests (Some test)) ∷ []) (known here body) (at_test here test) (at_statement here body) stable ys
    at_statement here (do_loop body test span) stable ys =
        both (row_in_statement here f body) (row_in_test here f test) (known here body) (knows here (tests (Some test)) ∷ []) (at_statement here body) (at_test here test) stable ys
    at_statement here (for_loop init test step body span) stable ys =
        let there = behind_init here init in
        both (row_in_for span here f init test step) (row_in_statement there f body) (known_init here init ++ (knows there (tests test) ∷ known_step there step)) (known there body)
        (at_for here span init test step) (at_statement there body) stable ys
        ∙ ap (λ ks. stable_read (stable_behind stable ks) ys) (append_assoc (known_init here init) (knows there (tests test) ∷ known_step there step) (known there body))
    at_statement here (switch key body span) stable ys =
        both (marked_row op.Branch (expression_span key) here f key) (row_in_statement here f body) (knows here (switches key) ∷ []) (known here body) (at_key here key)
        (at_statement here body) stable ys
    at_statement here (case key body span) stable ys = both (aside here f key) (row_in_statement here f body) [] (known here body) (left_by_aside here f key) (at_statement here body) stable ys
    at_statement here (otherwise body span) stable ys = at_statement here body stable ys
    at_statement here (label name body span) stable ys = at_statement here body stable ys
    at_statement here (break span) stable ys = refl
    at_statement here (continue span) stable ys = refl
    at_statement here (goto name span) stable ys = refl
    at_statement here (return given span) stable ys = at_return here span given stable ys

    at_statements : (here : Scope) (ss : Statements) → ChangesAt (row_in_statements here f ss) (known_all here ss)
    at_statements here none stable ys = refl
    at_statements here (more s ss) stable ys =
        both (row_in_statement here f s) (row_in_statements (behind here s) f ss) (known here s) (known_all (behind here s) ss) (at_statement here s)
        (at_statements (behind here s) ss) stable ys

pub stable_locals_are_read : StableLocalsAreRead
unfolding row_in_body
stable_locals_are_read here f result body close =
    let stable = replicate here.locals true in
    at_statements f here body stable (alone_row op.End close) ∙ sym (behind_append stable (known_all here body) (knows here ends ∷ []))
