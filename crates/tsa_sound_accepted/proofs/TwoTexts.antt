-- Two texts as one list of items, worked out.
use Rattle.std.proofs.Common.{◌≡◌, ℕ, true, false, List, [], ◌∷◌, ◌++◌, length, None, refl, subst, arith}
use Rattle.tsa_base.specs.Tokens.{tokens_of}
use Rattle.tsa_lex.specs.Quick.{quick_tokens_of}
use Rattle.tsa_lex.proofs.Quick.{tokens_are}
use Rattle.tsa_tree.specs.types.Texts.{unit_in}
use Rattle.tsa_tree.specs.types.FirstFailing.{first_failing}
use Rattle.tsa_tree.specs.units.Sound.{SoundItems, SpellableItems}
use Rattle.tsa_tree.specs.units.Syntax.{UnitItem}
use Rattle.tsa_core.specs.Programs.{program_of}
use Rattle.tsa_core.proofs.BodyExamples.{worked}
use Rattle.tsa_path.specs.Laws.{IsSmall}
use Rattle.tsa_rules.specs.KeptLaws.{each_alone, pointed}
use Rattle.tsa_rules.specs.Sheets.{Sheet, program_passes}
use Rattle.tsa_rules.specs.declared.status.Status.TheVariants.{Free, Exclusive}
use Rattle.tsa_rules.specs.Texts.{global}
use Rattle.tsa_rules.specs.Warnings.{HasNoWarnings}
use Rattle.tsa_rules.proofs.KeptPrograms.{programs_that_pass_have_no_warnings}
use Rattle.tsa_profile.proofs.Examples.{all}
use Rattle.tsa_sound_accepted.specs.TwoTexts.{names_a_type, names_a_label, AreSoundTogether, TwoTextsAreSound}
use Rattle.tsa_sound_accepted.specs.terms.Units.{IsInProfile}
use Rattle.tsa_sound_accepted.proofs.AcceptedUnits.{units_without_warnings_are_sound}

-- the items, by tokens that are worked out quickly
abbrev quickly : List UnitItem
quickly = unit_in (quick_tokens_of names_a_type) ++ unit_in (quick_tokens_of names_a_label)

-- what holds of them holds of the items
of_both : (P : List UnitItem → Type 0) (one other : List ℕ) → P (unit_in (quick_tokens_of one) ++ unit_in (quick_tokens_of other))
    → P (unit_in (tokens_of one) ++ unit_in (tokens_of other))
of_both P one other h =
    subst (λ tokens. P (unit_in tokens ++ unit_in (tokens_of other))) (tokens_are one)
    (subst (λ tokens. P (unit_in (quick_tokens_of one) ++ unit_in tokens)) (tokens_are other) h)

impossible : false ≡ true → ⊥
impossible e = cc

-- item by item: the name of a type, the global, the struct, two functions, two globals, and the function with a body
spellable : SpellableItems quickly
unfolding worked
spellable = (
  ((tt, refl), refl, refl),
  (
    (((refl, refl), refl, tt), tt, tt),
    (
      ((refl, tt), ((refl, refl), tt), ((((tt, refl), refl, tt), tt, refl), tt)),
      (
        ((tt, refl), refl, refl, ((((refl, refl), refl, refl), tt), refl), ((refl, refl), tt)),
        (
          ((tt, refl), refl, refl, ((((refl, refl), refl, refl), tt), refl), ((refl, refl), tt)),
          (
            (((refl, refl), refl, tt), tt, tt),
            (
              (((tt, refl), refl, tt), ((refl, refl), tt), tt),
              ((((tt, refl), refl, refl, (tt, refl), tt), (refl, ((refl, (refl, refl, refl)), ((refl, refl), (refl, tt))))), tt),
            ),
          ),
        ),
      ),
    ),
  ),
)

-- the member of the third item bears the name of a type
not_in_one_text : SoundItems [] quickly → ⊥
unfolding worked
not_in_one_text sound = impossible sound.1.1.0.2.0.0.1

typed : first_failing quickly ≡ None
unfolding worked
typed = refl

places : length (program_of quickly).layout.places ≡ 4
unfolding worked
places = refl

small : IsSmall (program_of quickly).layout
small = let four = places in omega (arith, four)

in_profile : IsInProfile quickly (program_of quickly).layout
unfolding all
in_profile = record { spellable = spellable; typed = typed; placed = refl; small = small; profiled = refl }

-- a sheet for each function: two that take and give a lock, and the one that writes under it
sheets : List Sheet
sheets =
    record { paths = pointed 0 ∷ []; points = each_alone (Free ∷ []) }
    ∷ record { paths = pointed 0 ∷ []; points = each_alone (Exclusive 1 ∷ []) }
    ∷ record { paths = global 1 ∷ []; points = each_alone (Free ∷ Exclusive 1 ∷ Exclusive 1 ∷ Exclusive 1 ∷ Exclusive 1 ∷ Free ∷ []) }
    ∷ []

passed : program_passes (program_of quickly) sheets ≡ true
unfolding worked sheets
passed = refl

quiet : HasNoWarnings (program_of quickly)
quiet = programs_that_pass_have_no_warnings (program_of quickly) sheets passed

together : AreSoundTogether quickly
together = record {
  spellable = spellable;
  not_in_one_text = not_in_one_text;
  in_profile = in_profile;
  quiet = quiet;
  sound = units_without_warnings_are_sound quickly (program_of quickly).layout in_profile quiet;
}

pub two_texts_are_sound : TwoTextsAreSound
two_texts_are_sound = of_both AreSoundTogether names_a_type names_a_label together
