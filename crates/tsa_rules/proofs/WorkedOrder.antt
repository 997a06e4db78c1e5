-- The order of warnings, worked out.
use Rattle.std.proofs.Common.{◌≡◌, ◌∙◌, codes, refl, sym}
use Rattle.tsa_core.proofs.BodyExamples.{worked}
use Rattle.tsa_path.specs.PathTexts.{path_text}
use Rattle.tsa_rules.specs.Legends.{legend_of}
use Rattle.tsa_rules.specs.Warnings.{by_text, by_locals}
use Rattle.tsa_rules.specs.OrderLaws.{unit, first_r, second_r, WarningsAreToldInOrder}

first_named : path_text ((legend_of unit).names 0) first_r ≡ codes "r->m"
unfolding worked
first_named = refl

second_named : path_text ((legend_of unit).names 0) second_r ≡ codes "r->m"
unfolding worked
second_named = refl

pub warnings_are_told_in_order : WarningsAreToldInOrder
unfolding worked
warnings_are_told_in_order = record {
  named_by_the_body = refl;
  named_by_the_declaration = refl;
  named_by_a_local = refl;
  first_r_is_named = first_named;
  second_r_is_named = second_named;
  by_bodies = refl;
  by_texts = by_text refl;
  by_declarations = by_locals (first_named ∙ sym second_named) refl;
}
