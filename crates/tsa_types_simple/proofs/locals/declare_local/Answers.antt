use Rattle.std.proofs.Common.{◌∙◌, [], not, ap, sym}
use Rattle.tsa_tree.specs.declarations.Shapes.{decl_shape}
use Rattle.tsa_tree.specs.types.DeclaredTypes.{is_refused}
use Rattle.tsa_tree.specs.declared.kind.Declaring.TheVariants as declaring
use Rattle.tsa_tree.specs.types.Locals.{init_breaks, names_in}
use Rattle.tsa_tree.specs.types.Premises.{first}
use Rattle.tsa_types_simple.specs.declared.locals.LocalParts.{LocalParts}
use Rattle.tsa_tree.specs.declared.meaning.Symbol.TheVariants as symbol
use Rattle.tsa_types_row.specs.BodyRows.{alone_row, declared_row, row_in_given_init}
use Rattle.tsa_types_row.specs.Rows.{framed}
use Rattle.tsa_types_expressions.proofs.RowLaws.{noted}
use Rattle.tsa_types_simple.proofs.LocalRows.{local_row}
use Rattle.tsa_types_simple.proofs.LocalLaws.{local_is, seen_init, not_fresh}
use Rattle.tsa_types_simple.proofs.locals.declare_local.Goals as goal

pub returns-clause-judged : goal.returns-clause-judged
returns-clause-judged c =
    let here = c.args.scope.now in
    let d = decl_shape c.args.decl.now in
    let parts : LocalParts = record {
      taken = not c.in_ok-taken.field-0;
      refused = c.is_refused-refused.result;
      written = c.in_ok-written.written;
      attributes = c.in_ok-attributes.attributes;
      init = c.in_ok-init.init;
    } in
    let given = seen_init c.as_ref.result c.args.decl.now.init c.as_ref.ensures.value in
    c.local_failure.ensures
    ∙ local_is here d parts
    (not_fresh c.in_ok-taken.field-0 _ c.in_ok-taken.ensures.fresh)
    (c.is_refused-refused.ensures ∙ ap (is_refused here declaring.Thing) c.in_ok-written.ensures.resolved)
    c.in_ok-written.ensures.resolved
    c.in_ok-written.ensures.length
    c.in_ok-attributes.ensures.judged
    (c.in_ok-init.ensures.breaks ∙ ap (init_breaks here c.in_ok-written.written.thing) given ∙ ap (λ t. init_breaks here t d.init) c.in_ok-written.ensures.thing)
    (c.in_ok-init.ensures.failure ∙ ap (λ i. first (names_in here i)) given)

pub returns-clause-nodes : goal.returns-clause-nodes
returns-clause-nodes c =
    let here = c.args.scope.now in
    let f = c.args.function in
    let d = decl_shape c.args.decl.now in
    c.in_ok-close.ensures.put
    ∙ local_row here f d c.args.row.now c.open.new.self c.leaf.new.self c.written.new.row c.attributes.new.row c.initial_of.new.row
    c.in_ok-place_of_node.place_of_node c.local_node.result
    c.in_ok-place_of_node.ensures.number
    c.in_ok-place_of_node.ensures.put
    (c.in_ok-leaf.ensures.put
    ∙ ap (λ n. noted c.open.new.self (framed n [])) c.bare_node.ensures
    ∙ ap (λ m. noted c.open.new.self (alone_row m.op m.span)) c.new.ensures
    ∙ ap (λ n. noted c.open.new.self (declared_row (symbol.Local f n) d.name.span)) c.next_local-number.ensures)
    c.in_ok-written.ensures.nodes
    c.in_ok-attributes.ensures.nodes
    (c.in_ok-init.ensures.nodes ∙ ap (λ i. noted c.attributes.new.row (row_in_given_init here f i)) (seen_init c.as_ref.result c.args.decl.now.init c.as_ref.ensures.value))
    (c.local_node.ensures here (sym c.next_local-number.ensures) (sym c.in_ok-written.ensures.thing))
