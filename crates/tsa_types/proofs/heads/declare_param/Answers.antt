use Rattle.std.proofs.Common.{◌∙◌, refl, sym, ap, option_map}
use Rattle.tsa_tree.specs.declarations.Shapes.{param_shape}
use Rattle.tsa_tree.specs.declared.kind.Declaring.TheVariants as declaring
use Rattle.tsa_tree.specs.declared.meaning.Meaning.TheVariants as known
use Rattle.tsa_tree.specs.types.DeclaredTypes.{declared_premises}
use Rattle.tsa_tree.specs.types.Heads.{local_entry}
use Rattle.tsa_tree.specs.types.Premises.{first}
use Rattle.tsa_tree.specs.expressions.Shapes.{name_shape}
use Rattle.tsa_types_row.specs.BodyRows.{aside_given}
use Rattle.tsa_types_row.specs.ItemRows.{param_row, row_in_param}
use Rattle.tsa_types_expressions.proofs.RowLaws.{noted, noted_append}
use Rattle.tsa_types_declarations.proofs.DeclaredLaws.{declared_untaken, not_free, named_known}
use Rattle.tsa_types_declarations.proofs.Judging.{judged_so, on_kept}
use Rattle.tsa_types.proofs.heads.declare_param.Goals as goal

pub returns-clause-judged : goal.returns-clause-judged
returns-clause-judged c =
    judged_so _ _ _
    (c.failure.ensures ∙ c.in_ok-typing.ensures.whole _ _
    ∙ ap (λ taken. first (declared_premises c.args.scope.now declaring.Thing taken c.args.param.now.span (param_shape c.args.param.now).ctype)) (not_free _ _ c.in_ok-free.ensures.fresh))
    c.judged.ensures

pub returns-clause-behind : goal.returns-clause-behind
returns-clause-behind c =
    let here = c.args.scope.now in
    let p = param_shape c.args.param.now in
    on_kept _ _ _
    (c.failure.ensures ∙ c.in_ok-typing.ensures.whole _ _
    ∙ ap (λ taken. first (declared_premises here declaring.Thing taken p.span p.ctype)) (not_free _ _ c.in_ok-free.ensures.fresh))
    c.judged.ensures
    (λ kept.
    named_known here here c.declare_named.new.self p.name _ (local_entry here c.args.local.number p.ctype) c.in_ok-free.free refl
    (declared_untaken here declaring.Thing _ p.span p.ctype kept)
    c.in_ok-free.ensures.fresh c.in_ok-free.ensures.added
    (ap (λ t. record { meaning = known.Local c.args.local.number; thing = t }) c.in_ok-typing.ensures.thing))

pub returns-clause-nodes : goal.returns-clause-nodes
unfolding row_in_param
returns-clause-nodes c =
    let here = c.args.scope.now in
    let p = param_shape c.args.param.now in
    let name = param_row c.args.local.function c.args.local.number (option_map name_shape c.args.param.now.name) in
    let given = aside_given here c.args.local.function p.ctype.length in
    on_kept _ _ _
    (c.failure.ensures ∙ c.in_ok-typing.ensures.whole _ _
    ∙ ap (λ taken. first (declared_premises here declaring.Thing taken p.span p.ctype)) (not_free _ _ c.in_ok-free.ensures.fresh))
    c.judged.ensures
    (λ kept. c.in_ok-typing.ensures.nodes ∙ ap (λ r. noted r given) c.in_ok-put_name.ensures ∙ sym (noted_append c.args.row.now name given))
