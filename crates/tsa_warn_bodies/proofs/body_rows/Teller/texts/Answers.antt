use Rattle.std.proofs.Common.{◌∙◌, ◌++◌, map, refl, ap, ap₂}
use Rattle.std.proofs.lemmas.Result.{IfOk-weaker}
use Rattle.tsa_warn_text.specs.DeclaredNames.{declared_texts, labels_with}
use Rattle.tsa_path.specs.Labels.{label}
use Rattle.tsa_rules.specs.Legends.{names_in, param_labels}
use Rattle.tsa_warn_text.specs.Orders.{texts_of}
use Rattle.tsa_tree.specs.declarations.Shapes.{head_shape, param_shapes}
use Rattle.tsa_tree.specs.statements.Shapes.{point_shape}
use Rattle.tsa_warn_bodies.proofs.Firsts.{first_is}
use Rattle.tsa_warn_bodies.proofs.body_rows.Teller.texts.Goals as goal

pub returns : goal.returns
returns c =
    let tree = c.args.body.head.now in
    let here = c.args.course.now.known.here in
    let texts = declared_texts (map point_shape tree.points.now) in
    let firsts = first_is c.first.result c.unwrap_or-first.result _ _ c.first.ensures refl c.unwrap_or-first.ensures in
    let kinds = c.declared_kinds.ensures.by ∙ ap (λ v. v.notes.kinds.items) c.view-view.ensures in
    let scope = ap (λ k. k.known.here) c.course.view_is in
    let labels =
    ap (map label) c.deref.ensures.value
    ∙ c.in_ok-locals.ensures.by
    ∙ ap (λ h. param_labels h (head_shape tree).params (param_shapes c.unwrap_or-first.result.now) ++ labels_with texts c.declared_kinds.result.now) scope
    ∙ ap₂ (λ ps ks. param_labels here (head_shape tree).params ps ++ labels_with texts ks) firsts kinds in
    let numbers = c.numbers.ensures ∙ ap (λ v. v.numbers) c.view-view.ensures in
    IfOk-weaker c.new.result _ _ (λ t h. h ∙ ap₂ (λ ls ps. texts_of (names_in c.args.self.now.pass.ground.layout.now ls) ps) labels numbers) c.new.ensures
