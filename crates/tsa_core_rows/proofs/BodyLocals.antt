-- The row of a body declares the locals of the body.
use Rattle.std.proofs.Common.{◌≡◌, ◌∙◌, ℕ, Bool, List, [], ◌∷◌, ◌++◌, Option, Some, None, refl, sym, ap, ap₂, append_assoc}
use Rattle.std.proofs.lemmas.Grind.{flat_map-append}
use Rattle.tsa_base.specs.declared.token.Span.{Span}
use Rattle.tsa_tree.specs.attributes.Syntax.{Attribute}
use Rattle.tsa_tree.specs.declarations.Syntax.{Declaration, Initialiser, Initialisers, value, list, no_more, one_more}
use Rattle.tsa_tree.specs.declared.kind.Kind.{Kind}
use Rattle.tsa_tree.specs.declared.kind.ThingType.{ThingType}
use Rattle.tsa_tree.specs.expressions.Syntax.{Expression, Arguments, number, null, named, call, unary, binary, field, index}
use Rattle.tsa_tree.specs.expressions.Syntax as args
use Rattle.tsa_tree.specs.points.Syntax.{declares, tests, switches, returns, ends, expression_span, simple_deed}
use Rattle.tsa_tree.specs.statements.Syntax.{Simple, evaluation, assignment, ForInit, no_init, simple_init, local_init, Statement, block}
use Rattle.tsa_tree.specs.statements.Syntax.{empty, local, simple, if_alone, if_else, while_loop, do_loop, for_loop, switch, case, otherwise}
use Rattle.tsa_tree.specs.statements.Syntax.{label, break, continue, goto, return, Statements, none, more}
use Rattle.tsa_tree.specs.types.DeclaredTypes.{thing_type}
use Rattle.tsa_tree.specs.types.Expressions.{type_of}
use Rattle.tsa_tree.specs.types.Scopes.{Scope, context_of, further}
use Rattle.tsa_tree.specs.types.Statements.{behind_init, behind}
use Rattle.tsa_tree.specs.types.Targets.{declared_in}
use Rattle.tsa_types_row.specs.BodyRows.{alone_row, aside, aside_given, aside_all, aside_attributes, aside_init, aside_items, marked_row}
use Rattle.tsa_types_row.specs.BodyRows.{row_in_init, row_in_given_init, local_parts, row_in_local, row_in_simple, row_in_for_init, row_in_step}
use Rattle.tsa_types_row.specs.BodyRows.{row_in_test, row_in_given_test, row_in_for, row_in_return, row_in_statement, row_in_statements, row_in_body}
use Rattle.tsa_types_row.specs.ExpressionRows.{member_op, member_of, node_in, row_in, row_in_all}
use Rattle.tsa_types_row.specs.declared.node.Node.{Node}
use Rattle.tsa_types_row.specs.declared.node.Op.TheVariants as op
use Rattle.tsa_core.specs.Bodies.{Known, knows, known_init, known_step, known, known_all, kinds_by, kinds_declared}
use Rattle.tsa_core_rows.specs.Laws.{LocalsAreRead}
use Rattle.tsa_core_rows.specs.Reading.{op_kinds, kinds_read}

-- Rows without locals.
abbrev DeclaresNone : List Node → Type 0
DeclaresNone row = kinds_read row ≡ []

kinds_append : (xs ys : List Node) → kinds_read (xs ++ ys) ≡ kinds_read xs ++ kinds_read ys
kinds_append xs ys = flat_map-append (λ n. op_kinds n.op n.thing.thing.kind) xs ys

none_in_both : (xs ys : List Node) → DeclaresNone xs → DeclaresNone ys → DeclaresNone (xs ++ ys)
none_in_both xs ys h g = kinds_append xs ys ∙ ap₂ (λ a b. a ++ b) h g

none_at_member : (arrow : Bool) (m : Option (ℕ × ThingType)) (kind : Kind) → op_kinds (member_op arrow m) kind ≡ []
none_at_member arrow None kind = refl
none_at_member arrow (Some m) kind = refl

module _ (here : Scope) (f : ℕ) where
  mutual
    unfolding row_in row_in_all

    none_in : (e : Expression) → DeclaresNone (row_in here f e)
    none_in (number n u span) = refl
    none_in (null span) = refl
    none_in (named name span) = refl
    none_in (call callee given span) = none_in_all given
    none_in (unary o inner span) = none_in inner
    none_in (binary o left right span) = none_in_both (row_in here f left) (row_in here f right) (none_in left) (none_in right)
    none_in (field base name arrow span) =
        ap (λ ks. ks ++ kinds_read (row_in here f base))
        (none_at_member arrow (member_of here arrow name.text (type_of (context_of here) base)) (node_in here f (field base name arrow span)).thing.thing.kind)
        ∙ none_in base
    none_in (index base at span) = none_in_both (row_in here f base) (row_in here f at) (none_in base) (none_in at)

    none_in_all : (given : Arguments) → DeclaresNone (row_in_all here f given)
    none_in_all args.none = refl
    none_in_all (args.more first rest) = none_in_both (row_in here f first) (row_in_all here f rest) (none_in first) (none_in_all rest)

  none_aside : (e : Expression) → DeclaresNone (aside here f e)
  unfolding marked_row
  none_aside e = none_in e

  none_aside_given : (e : Option Expression) → DeclaresNone (aside_given here f e)
  none_aside_given None = refl
  none_aside_given (Some e) = none_aside e

  none_aside_all : (given : Arguments) → DeclaresNone (aside_all here f given)
  unfolding aside_all
  none_aside_all args.none = refl
  none_aside_all (args.more first rest) = none_in_both (aside here f first) (aside_all here f rest) (none_aside first) (none_aside_all rest)

  none_in_attributes : (attrs : List Attribute) → DeclaresNone (aside_attributes here f attrs)
  unfolding aside_attributes
  none_in_attributes [] = refl
  none_in_attributes (a ∷ rest) = none_in_both (aside_all here f a.args) (aside_attributes here f rest) (none_aside_all a.args) (none_in_attributes rest)

  mutual
    unfolding aside_init aside_items

    none_in_item : (i : Initialiser) → DeclaresNone (aside_init here f i)
    none_in_item (value e) = none_aside e
    none_in_item (list items span) = none_in_items items

    none_in_items : (items : Initialisers) → DeclaresNone (aside_items here f items)
    none_in_items no_more = refl
    none_in_items (one_more first rest) = none_in_both (aside_init here f first) (aside_items here f rest) (none_in_item first) (none_in_items rest)

  none_in_init : (i : Option Initialiser) → DeclaresNone (row_in_given_init here f i)
  unfolding row_in_init
  none_in_init None = refl
  none_in_init (Some (value e)) = none_in e
  none_in_init (Some (list items span)) = none_in_items items

  none_in_parts : (d : Declaration) → DeclaresNone (local_parts here f d)
  unfolding local_parts
  none_in_parts d =
      none_in_both (aside_given here f d.ctype.length) (aside_attributes here f d.attrs ++ row_in_given_init here f d.init) (none_aside_given d.ctype.length)
      (none_in_both (aside_attributes here f d.attrs) (row_in_given_init here f d.init) (none_in_attributes d.attrs) (none_in_init d.init))

module _ (f : ℕ) where
  -- a row declares what is declared at some points
  abbrev DeclaresAt : List Node → List Known → Type 0
  DeclaresAt row ks = kinds_read row ≡ kinds_declared ks

  both : (xs ys : List Node) (ks js : List Known) → DeclaresAt xs ks → DeclaresAt ys js → DeclaresAt (xs ++ ys) (ks ++ js)
  both xs ys ks js h g = kinds_append xs ys ∙ ap₂ (λ a b. a ++ b) h g ∙ sym (flat_map-append (λ k. kinds_by k.here k.deed) ks js)

  at_local : (here : Scope) (d : Declaration) → DeclaresAt (row_in_local here f d) (knows here (declares d) ∷ [])
  unfolding row_in_local
  at_local here d = ap (λ ks. (thing_type here d.ctype).kind ∷ ks) (none_in_parts here f d)

  at_simple : (here : Scope) (s : Simple) → DeclaresAt (row_in_simple here f s) (knows here (simple_deed s) ∷ [])
  unfolding row_in_simple marked_row
  at_simple here (evaluation e span) = none_in here f e
  at_simple here (assignment left o right span) = none_in_both (row_in here f left) (row_in here f right) (none_in here f left) (none_in here f right)

  at_init : (here : Scope) (init : ForInit) → DeclaresAt (row_in_for_init here f init) (known_init here init)
  at_init here no_init = refl
  at_init here (simple_init s) = at_simple here s
  at_init here (local_init d) = at_local here d

  at_step : (here : Scope) (s : Option Simple) → DeclaresAt (row_in_step here f s) (known_step here s)
  at_step here None = refl
  at_step here (Some s) = at_simple here s

  at_test : (here : Scope) (e : Expression) → DeclaresAt (row_in_test here f e) (knows here (tests (Some e)) ∷ [])
  unfolding marked_row
  at_test here e = none_in here f e

  at_given_test : (here : Scope) (loop : Span) (e : Option Expression) → DeclaresAt (row_in_given_test loop here f e) (knows here (tests e) ∷ [])
  at_given_test here loop None = refl
  at_given_test here loop (Some e) = at_test here e

  at_key : (here : Scope) (e : Expression) → DeclaresAt (marked_row op.Branch (expression_span e) here f e) (knows here (switches e) ∷ [])
  unfolding marked_row
  at_key here e = none_in here f e

  at_return : (here : Scope) (span : Span) (e : Option Expression) → DeclaresAt (row_in_return span here f e) (knows here (returns e) ∷ [])
  unfolding marked_row
  at_return here span None = refl
  at_return here span (Some e) = none_in here f e

  at_for : (here : Scope) (loop : Span) (init : ForInit) (test : Option Expression) (step : Option Simple)
      → DeclaresAt (row_in_for loop here f init test step) (known_init here init ++ (knows (behind_init here init) (tests test) ∷ known_step (behind_init here init) step))
  unfolding row_in_for
  at_for here loop init test step =
      let there = behind_init here init in
      both (row_in_for_init here f init) (row_in_given_test loop there f test ++ row_in_step there f step) (known_init here init) (knows there (tests test) ∷ known_step there step)
      (at_init here init)
      (both (row_in_given_test loop there f test) (row_in_step there f step) (knows there (tests test) ∷ []) (known_step there step) (at_given_test there loop test) (at_step there step))

  mutual
    unfolding row_in_statement row_in_statements known known_all

    at_statement : (here : Scope) (s : Statement) → DeclaresAt (row_in_statement here f s) (known here s)
    at_statement here (block items span) = at_statements here items
    at_statement here (empty span) = refl
    at_statement here (local d) = at_local here d
    at_statement here (simple s) = at_simple here s
    at_statement here (if_alone test arm span) =
        both (row_in_test here f test) (row_in_statement here f arm) (knows here (tests (Some test)) ∷ []) (known here arm) (at_test here test) (at_statement here arm)
    at_statement here (if_else test arm other span) =
        let there = further (declared_in arm) here in
        both (row_in_test here f test) (row_in_statement here f arm ++ row_in_statement there f other) (knows here (tests (Some test)) ∷ []) (known here arm ++ known there other)
        (at_test here test)
        (both (row_in_statement here f arm) (row_in_statement there f other) (known here arm) (known there other) (at_statement here arm) (at_statement there other))
    at_statement here (while_loop test body span) =
        both (row_in_test here f test) (row_in_statement here f body) (knows here (tests (Some test)) ∷ []) (known here body) (at_test here test) (at_statement here body)
    at_statement here (do_loop body test span) =
        both (row_in_statement here f body) (row_in_test here f test) (known here body) (knows here (tests (Some test)) ∷ []) (at_statement here body) (at_test here test)
    at_statement here (for_loop init test step body span) =
        let there = behind_init here init in
        both (row_in_for span here f init test step) (row_in_statement there f body) (known_init here init ++ (knows there (tests test) ∷ known_step there step)) (known there body)
        (at_for here span init test step) (at_statement there body)
        ∙ ap kinds_declared (append_assoc (known_init here init) (knows there (tests test) ∷ known_step there step) (known there body))
    at_statement here (switch key body span) =
        both (marked_row op.Branch (expression_span key) here f key) (row_in_statement here f body) (knows here (switches key) ∷ []) (known here body) (at_key here key)
        (at_statement here body)
    at_statement here (case key body span) = both (aside here f key) (row_in_statement here f body) [] (known here body) (none_aside here f key) (at_statement here body)
    at_statement here (otherwise body span) = at_statement here body
    at_statement here (label name body span) = at_statement here body
    at_statement here (break span) = refl
    at_statement here (continue span) = refl
    at_statement here (goto name span) = refl
    at_statement here (return given span) = at_return here span given

    at_statements : (here : Scope) (ss : Statements) → DeclaresAt (row_in_statements here f ss) (known_all here ss)
    at_statements here none = refl
    at_statements here (more s ss) =
        both (row_in_statement here f s) (row_in_statements (behind here s) f ss) (known here s) (known_all (behind here s) ss) (at_statement here s)
        (at_statements (behind here s) ss)

pub locals_are_read : LocalsAreRead
unfolding row_in_body
locals_are_read here f result body close =
    both f (row_in_statements here f body) (alone_row op.End close) (known_all here body) (knows here ends ∷ []) (at_statements f here body) refl
