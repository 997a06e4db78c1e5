use Rattle.tsa_place_model.proofs.Leading.{places_are_led_to, what_is_led_to_bears, members_have_places, elements_have_places}
use Rattle.tsa_place_model.proofs.Leading.{places_have_one_way}
use Rattle.tsa_place_model.proofs.TextsTell.{texts_tell}
use Rattle.tsa_place_model.proofs.PlacedLaid.{placed_units_are_laid}
use Rattle.tsa_place_model.proofs.leading_laws.places_have_one_way_and_text.Goals as goal

pub returns-clause-led : goal.returns-clause-led
returns-clause-led c = places_are_led_to

pub returns-clause-bears : goal.returns-clause-bears
returns-clause-bears c = what_is_led_to_bears

pub returns-clause-members : goal.returns-clause-members
returns-clause-members c = members_have_places

pub returns-clause-elements : goal.returns-clause-elements
returns-clause-elements c = elements_have_places

pub returns-clause-one : goal.returns-clause-one
returns-clause-one c = places_have_one_way

pub returns-clause-texts : goal.returns-clause-texts
returns-clause-texts c = texts_tell places_are_led_to

pub returns-clause-placed : goal.returns-clause-placed
returns-clause-placed c = placed_units_are_laid
