-- The items of two texts as one list: one text gives a type a name that a member and a label of the other one bear. No single text reads as
-- these items, and what holds of accepted units holds of them.
use Rattle.std.specs.Prelude.{ℕ, List, [], ◌++◌, codes}
use Rattle.tsa_base.specs.Tokens.{tokens_of}
use Rattle.tsa_tree.specs.types.Texts.{unit_in}
use Rattle.tsa_tree.specs.units.Sound.{SoundItems, SpellableItems}
use Rattle.tsa_tree.specs.units.Syntax.{UnitItem}
use Rattle.tsa_core.specs.Programs.{program_of}
use Rattle.tsa_rules.specs.Warnings.{HasNoWarnings}
use Rattle.tsa_mean.specs.Sound.{Sound}
use Rattle.tsa_sound_accepted.specs.terms.Units.{IsInProfile}

-- the name of a type, and a global of it
abbrev pub names_a_type : List ℕ
names_a_type = codes "typedef int T; T n;"

-- a member and a label of that name, and a function that writes under a lock
abbrev pub names_a_label : List ℕ
names_a_label =
    codes "struct CAPABILITY(\"mutex\") lock { int T; }; void acq(struct lock *m) ACQUIRE(m); void rel(struct lock *m) RELEASE(m); "
    ++ codes "struct lock mu; int g GUARDED_BY(mu); void w(void) { acq(&mu); T: g = g - 1; if (g > 0) goto T; rel(&mu); }"

-- some items can be spelled and are sound, but not in one text
pub record AreSoundTogether (items : List UnitItem) : Type 0 where
  pub spellable : SpellableItems items
  pub not_in_one_text : SoundItems [] items → ⊥
  pub in_profile : IsInProfile items (program_of items).layout
  pub quiet : HasNoWarnings (program_of items)
  pub sound : Sound items

-- each text is read by itself
abbrev pub TwoTextsAreSound : Type 0
TwoTextsAreSound = AreSoundTogether (unit_in (tokens_of names_a_type) ++ unit_in (tokens_of names_a_label))
