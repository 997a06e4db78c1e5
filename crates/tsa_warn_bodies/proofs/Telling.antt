-- What is worked out of a body that is entered is what is told of it.
use Rattle.std.proofs.Common.{◌≡◌, ◌∙◌, List, ◌++◌, length, map, Some, slice_get, sym, ap, ap₂, subst}
use Rattle.tsa_tree.specs.declarations.Shapes.{head_shape}
use Rattle.tsa_tree.specs.statements.Shapes.{point_shape}
use Rattle.tsa_tree.specs.types.Units.{outset}
use Rattle.tsa_tree.specs.units.Syntax.{UnitItem}
use Rattle.tsa_place_model.specs.Ways.{Way}
use Rattle.tsa_core.specs.Bodies.{known_in_body}
use Rattle.tsa_core.specs.Programs.{Function, Program, declared_functions, program_of}
use Rattle.tsa_core.proofs.TextPoints.{points_are_those}
use Rattle.tsa_rules.specs.Attributes.{declared_kinds}
use Rattle.tsa_rules.specs.Legends.{declared_labels, labels_of, local_labels, names_in, param_labels}
use Rattle.tsa_warn_text.specs.DeclaredNames.{declared_texts, labels_with}
use Rattle.tsa_warn_text.proofs.DeclaredLabels.{names_and_kinds}
use Rattle.tsa_warn_text.specs.Orders.{texts_of}
use Rattle.tsa_flow.specs.FunctionFlow.{FunctionFlow}
use Rattle.tsa_flow.specs.Flows.{IsFlowOf}
use Rattle.tsa_flow.specs.Numbers.{IsFlowBy, IsFlowIn}
use Rattle.tsa_rules_bodies.specs.Paths.{paths_of}
use Rattle.tsa_rules_bodies.specs.Laws.{result_at}
use Rattle.tsa_rules_bodies.specs.Sites.{within}
use Rattle.tsa_rules_bodies.specs.declared.inside.Inside.{Inside}
use Rattle.tsa_tree.specs.declared.item.FnTree.{FnTree}
use Rattle.tsa_warn_bodies.specs.Bodies.{BodyText, IsToldBody}
use Rattle.tsa_warn_bodies.specs.Courses.{Course, first_params}
use Rattle.tsa_warn_bodies.specs.BodyEntries.{IsBodyAt, labels_at}
use Rattle.tsa_warn_bodies.specs.declared.body_rows.ToldBody.{ToldBody}
use Rattle.tsa_base.proofs.Options.{some_same as same}

flow_by : (u : Program) (f : Function) (paths : List Way) (w : FunctionFlow) → IsFlowBy u f (Some paths) (Some w) → IsFlowOf u f paths w
flow_by u f paths w (x, (is, h)) = subst (IsFlowOf u f paths) (sym (same is)) h

module _ (items : List UnitItem) (b : BodyText) (c : Course) (i : Inside) (tree : FnTree) (h : IsBodyAt items b c i tree) where
  abbrev u : Program
  u = program_of items

  abbrev paths : List Way
  paths = paths_of u h.function

  flow_is : (w : FunctionFlow) → IsFlowIn u (slice_get u.functions i.number) (Some w) → IsFlowOf u h.function paths w
  flow_is w told =
      flow_by u h.function paths w
      (subst (λ o. IsFlowBy u h.function o (Some w)) h.has_paths
      (subst (λ o. IsFlowIn u o (Some w)) (ap (slice_get u.functions) h.is_of.number ∙ h.is_there) told))

  -- the names of the locals are those of the text
  module _ (w : FunctionFlow) (flow : IsFlowOf u h.function paths w) where
    kinds : w.view.notes.kinds.items ≡ declared_kinds h.function.body
    kinds = flow.view.declared

    declared_are : labels_with (declared_texts (map point_shape tree.points.now)) w.view.notes.kinds.items ≡ declared_labels (known_in_body (within h.site) h.site.body)
    declared_are =
        ap₂ (λ ps ks. labels_with (declared_texts ps) ks) h.points (kinds ∙ ap declared_kinds h.stands.body)
        ∙ names_and_kinds (within h.site) h.site.body h.close

    params_are : param_labels c.known.here (head_shape tree).params (first_params c i.number) ≡ param_labels (within h.site) h.site.head.params h.declared.head.params
    params_are =
        ap₂ (λ here head. param_labels here head.params (first_params c i.number)) h.is_of.here h.tree_head
        ∙ ap (param_labels (within h.site) h.site.head.params) (ap (first_params c) h.is_of.number ∙ h.firsts)

    labels_are : labels_at c i.number tree w ≡ labels_of items (slice_get (declared_functions (outset items) items) b.number)
    labels_are =
        ap₂ (λ ps ls. ps ++ ls) params_are declared_are
        ∙ sym (ap (local_labels h.declared) h.is_first)
        ∙ sym (ap (labels_of items) h.is_declared)

  module _ (t : ToldBody) (tree_is : t.head.now ≡ tree) (told : IsFlowIn u (slice_get u.functions i.number) (Some t.flow))
      (says : t.texts ≡ texts_of (names_in u.layout (labels_at c i.number tree t.flow)) t.flow.view.numbers) where
    flow : IsFlowOf u h.function paths t.flow
    flow = flow_is t.flow told

    pub told_body : IsToldBody items b t
    told_body = record {
      function = h.function;
      is_there = h.is_there;
      flow = flow;
      texts = says ∙ ap₂ (λ ls ps. texts_of (names_in u.layout ls) ps) (labels_are t.flow flow) flow.view.numbered;
      name = ap (λ x. x.name.text.now) tree_is ∙ ap (λ x. x.name.text) h.tree_head ∙ sym (ap (λ x. x.name) h.text);
      points = ap (λ x. map point_shape x.points.now) tree_is ∙ h.points ∙ sym (ap (λ x. x.points) h.text);
      count =
          rw h.stands.body
          ((points_are_those (within h.site) (result_at h.site) h.site.body h.close).1 ∙ sym (ap (λ x. length x.points) h.text));
    }
