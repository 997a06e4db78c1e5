use Rattle.tsa_place_model.proofs.Standing.{member_stands, element_stands}
use Rattle.tsa_place_model.proofs.standing_laws.places_stand_where_they_are_told.Goals as goal

pub returns-clause-members : goal.returns-clause-members
returns-clause-members c = member_stands

pub returns-clause-elements : goal.returns-clause-elements
returns-clause-elements c = element_stands
