use Rattle.tsa_unit.proofs.ParsedLaws.{parsed_is, all_well_read, all_found, few, broken, refused_out, refused_lacking, too_deep, no_unit}
use Rattle.tsa_unit.proofs.ParsedLaws.{too_many, too_long, no_other}
use Rattle.tsa_tree.specs.tokens.Signs.{lexemes}
use Rattle.tsa_tree.proofs.tokens.Texts.{text_near}
use Rattle.tsa_unit.proofs.Texts.{text_room}
use Rattle.tsa_unit.proofs.unit.parse.Goals as goal

pub returns-clause-gives : goal.returns-clause-gives
returns-clause-gives c = parsed_is _ _ c.read_parsed.ensures.told

pub returns-clause-well_read : goal.returns-clause-well_read
returns-clause-well_read c = all_well_read _ _ c.requires.text c.read_parsed.ensures.told c.read_parsed.ensures.points

pub returns-clause-found : goal.returns-clause-found
returns-clause-found c = all_found _ _ c.read_parsed.ensures.told

pub returns-clause-few : goal.returns-clause-few
returns-clause-few c = few _ _ _ c.read_parsed.ensures.told

pub returns-clause-broken : goal.returns-clause-broken
returns-clause-broken c = broken _ _ _ c.read_parsed.ensures.told

pub returns-clause-left_out : goal.returns-clause-left_out
returns-clause-left_out c = refused_out _ _ _ c.read_parsed.ensures.told

pub returns-clause-lacking : goal.returns-clause-lacking
returns-clause-lacking c = refused_lacking _ _ _ c.read_parsed.ensures.told

pub returns-clause-too_deep : goal.returns-clause-too_deep
returns-clause-too_deep c = too_deep _ _ _ c.read_parsed.ensures.told

pub returns-clause-no_unit : goal.returns-clause-no_unit
returns-clause-no_unit c = no_unit _ _ _ c.read_parsed.ensures.told

pub returns-clause-too_many : goal.returns-clause-too_many
returns-clause-too_many c = too_many _ _ _ c.read_parsed.ensures.told

pub returns-clause-too_long : goal.returns-clause-too_long
returns-clause-too_long c = too_long _ _ _ c.read_parsed.ensures.told

pub returns-clause-no_other : goal.returns-clause-no_other
returns-clause-no_other c = no_other _ _ _ c.read_parsed.ensures.told

pub invariant_of-read_parsed : goal.invariant_of-read_parsed
invariant_of-read_parsed c = record {
  of_text = ∣ c.requires.text ∣₁;
  room = text_room c.args.tokens.now c.requires.text;
  near = text_near (lexemes c.args.tokens.now) c.requires.text;
}
