use Rattle.std.proofs.Common.{◌∙◌, length, map, sym, ap, subst}
use Rattle.std.specs.List.Sorted.{IsPermutation}
use Rattle.tsa_core.specs.Programs.{program_of}
use Rattle.tsa_warn_text.specs.Ranks.{numbers_of}
use Rattle.tsa_warn.specs.Bodies.{names_of}
use Rattle.tsa_warn.specs.Paths.{paths_of}
use Rattle.tsa_tool_held.specs.Held.{IsAccountHeld, account, try_names_from}
use Rattle.tsa_tool_held.proofs.Fronts.{on_error, on_ok}
use Rattle.tsa_tool_held.proofs.held.write_body.Goals as goal
use Rattle.tsa_base.proofs.Options.{some_same as same}

pub returns-clause-all : goal.returns-clause-all
returns-clause-all g c = on_ok c.write.result _ _ (λ all items b h.
    let u = program_of items in
    let paths = paths_of u h.function in
    let told = all (account items h.function b) (record {
      flow = h.flow;
      texts = h.texts;
      name = h.name;
      points = h.points;
      count = h.count;
      order = record { each = subst (λ t. IsPermutation (numbers_of t) c.order.result.now) h.texts c.order.ensures.each; ordered = c.order.ensures.ordered (names_of items b.number) paths h.texts };
      tries = ap (λ names. map (λ name. name.now) names) c.deref.ensures.value ∙ c.in_ok-tries.ensures u h.function paths h.flow.view (h.count ∙ ap length (sym h.points)) ∙ ap (try_names_from u h.function 0) h.points;
    }) in
    (told.0, (record { function = h.function; is_there = h.is_there; held = told.1.0 }, told.1.1))) c.write.ensures.all

pub returns-clause-front : goal.returns-clause-front
returns-clause-front g c = on_error c.write.result _ _ (λ front items b h lines held.
    let u = program_of items in
    let paths = paths_of u h.function in
    front (account items h.function b) (record {
      flow = h.flow;
      texts = h.texts;
      name = h.name;
      points = h.points;
      count = h.count;
      order = record { each = subst (λ t. IsPermutation (numbers_of t) c.order.result.now) h.texts c.order.ensures.each; ordered = c.order.ensures.ordered (names_of items b.number) paths h.texts };
      tries = ap (λ names. map (λ name. name.now) names) c.deref.ensures.value ∙ c.in_ok-tries.ensures u h.function paths h.flow.view (h.count ∙ ap length (sym h.points)) ∙ ap (try_names_from u h.function 0) h.points;
    }) lines (subst (λ f. IsAccountHeld c.args.starts.now (account items f b) lines) (same (sym held.is_there ∙ h.is_there)) held.held)) c.write.ensures.front
