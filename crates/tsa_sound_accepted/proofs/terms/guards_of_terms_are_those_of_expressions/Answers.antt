use Rattle.tsa_sound_accepted.proofs.terms.GuardsAgree as agreement
use Rattle.tsa_sound_accepted.proofs.terms.guards_of_terms_are_those_of_expressions.Goals as goal

pub returns : goal.returns
returns c = λ here k stable words e t bel sound gives is h. agreement.agree here k bel stable words e sound gives t is h
