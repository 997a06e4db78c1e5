use Rattle.std.proofs.Common.{◌∙◌, ap, sym, Ok}
use Rattle.std.proofs.lemmas.List.{length-map}
use Rattle.std.proofs.Math.Logic.{∥∥₁_map}
use Rattle.tsa_base.specs.Tokens.{lexeme}
use Rattle.tsa_tree.specs.units.Shapes.{item_shapes}
use Rattle.tsa_unit.proofs.ParsedLaws.{well_read}
use Rattle.tsa_unit.proofs.unit.read_parsed.Goals as goal

pub in_parsed-requires : goal.in_parsed-requires
in_parsed-requires c = record {
  well_read = ∥∥₁_map c.args.text.of_text (λ of.
      well_read c.args.text.tokens.now c.in_ok-list.list.items of c.in_ok-list.ensures.points
      (c.in_ok-list.ensures.gives ∙ ap (λ n. Ok (item_shapes c.in_ok-list.list.items, n)) (sym (length-map c.args.text.tokens.now lexeme))));
}
