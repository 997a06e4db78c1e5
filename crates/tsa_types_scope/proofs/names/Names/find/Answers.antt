use Rattle.std.proofs.Common.{◌∙◌, Some, map, rules, sym, ap}
use Rattle.std.specs.Str.{bytes_eq}
use Rattle.tsa_tree.specs.types.Lookups.{numbered}
use Rattle.tsa_types_scope.proofs.NameLists.{unnumbered, numbered_at, position_is, from_nothing}
use Rattle.tsa_types_scope.proofs.names.Names.find.Goals as goal

pub returns-in_err-number : goal.returns-in_err-number
returns-in_err-number g c =
    (search rules)
    ∙ sym (ap (λ ms. numbered ms c.args.text.now 0) (sym c.self.view_is)
    ∙ unnumbered (λ k. k.now) c.args.text.now c.self.inside.entries.entries 0 (sym c.in_err-number.ensures.value))

pub returns : goal.returns
returns g c =
    sym (ap (λ ms. numbered ms c.args.text.now 0) (sym c.self.view_is)
    ∙ numbered_at (λ k. k.now) c.args.text.now c.self.inside.entries.entries 0 c.in_ok-number.value.now (sym c.in_ok-number.ensures.value)
    ∙ ap (λ n. Some (n, c.in_ok-number.value.now)) (from_nothing _ ∙ position_is (λ k. bytes_eq c.args.text.now k.now) (map (λ e. e.0) c.self.inside.entries.entries) c.in_ok-number.number
    c.in_ok-number.ensures.index))
