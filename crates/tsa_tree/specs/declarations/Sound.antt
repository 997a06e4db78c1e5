-- Declarations and heads that the grammar can spell, by the words that may be names.
use Rattle.std.specs.Prelude.{◌≡◌, List, [], ◌∷◌, Bool, true, false, ◌||◌, not, Some, None}
use Rattle.std.specs.declared.option.Option.{Option}
use Rattle.tsa_tree.specs.attributes.Sound.{SoundAttributes}
use Rattle.tsa_tree.specs.declarations.Syntax.{Base, int, unsigned, void, structure, enumerated, alias, DeclaredType, Initialiser, value}
use Rattle.tsa_tree.specs.declarations.Syntax.{list, Initialisers, no_more, one_more, Declaration, Parameter, EnumConstant, Head}
use Rattle.tsa_tree.specs.expressions.Sound.{Words, is_tag_name, SoundExpression, SoundOptional}
use Rattle.tsa_tree.specs.expressions.Syntax.{Identifier}

abbrev pub SoundBase : Words → Base → Type 0
SoundBase words int = Unit {0}
SoundBase words unsigned = Unit {0}
SoundBase words void = Unit {0}
SoundBase words (structure tag) = is_tag_name tag.text ≡ true
SoundBase words (enumerated tag) = is_tag_name tag.text ≡ true
SoundBase words (alias name) = words.types name.text ≡ true

-- only a pointer can be a const one
abbrev pub SoundType : Words → DeclaredType → Type 0
SoundType words t = SoundBase words t.base × ((t.pointer || not t.pointer_const) ≡ true)

abbrev mutual
  pub SoundInitialiser : Words → Initialiser → Type 0
  SoundInitialiser words (value x) = SoundExpression words x
  SoundInitialiser words (list items span) = SoundInitialisers words items

  pub SoundInitialisers : Words → Initialisers → Type 0
  SoundInitialisers words no_more = Unit {0}
  SoundInitialisers words (one_more first rest) = SoundInitialiser words first × SoundInitialisers words rest

abbrev pub SoundInit : Words → Option Initialiser → Type 0
SoundInit words None = Unit {0}
SoundInit words (Some x) = SoundInitialiser words x

-- a local is initialised with an expression
abbrev pub SoundLocalInit : Words → Option Initialiser → Type 0
SoundLocalInit words None = Unit {0}
SoundLocalInit words (Some (value x)) = SoundExpression words x
SoundLocalInit words (Some (list items span)) = ⊥

abbrev pub SoundDeclarator : Words → Declaration → Type 0
SoundDeclarator words d = SoundType words d.ctype × (words.things d.name.text ≡ true) × SoundOptional words d.ctype.length

abbrev pub SoundMember : Words → Declaration → Type 0
SoundMember words d = SoundDeclarator words d × SoundAttributes words d.attrs × (d.init ≡ None)

abbrev pub SoundMembers : Words → List Declaration → Type 0
SoundMembers words [] = Unit {0}
SoundMembers words (d ∷ others) = SoundMember words d × SoundMembers words others

abbrev pub SoundGlobal : Words → Declaration → Type 0
SoundGlobal words d = SoundDeclarator words d × SoundAttributes words d.attrs × SoundInit words d.init

abbrev pub SoundLocal : Words → Declaration → Type 0
SoundLocal words d = SoundDeclarator words d × (d.attrs ≡ []) × SoundLocalInit words d.init

abbrev pub SoundName : Words → Option Identifier → Type 0
SoundName words None = Unit {0}
SoundName words (Some name) = words.things name.text ≡ true

abbrev pub SoundParameter : Words → Parameter → Type 0
SoundParameter words p = SoundType words p.ctype × (p.ctype.length ≡ None) × SoundName words p.name

abbrev pub SoundEachParameter : Words → List Parameter → Type 0
SoundEachParameter words [] = Unit {0}
SoundEachParameter words (p ∷ others) = SoundParameter words p × SoundEachParameter words others

-- a lone `void` is the empty list
abbrev pub is_bare_void : Base → (base_const pointer : Bool) → Option Identifier → Bool
is_bare_void void false false None = true
is_bare_void _ _ _ _ = false

abbrev pub is_lone_void : List Parameter → Bool
is_lone_void (p ∷ []) = is_bare_void p.ctype.base p.ctype.base_const p.ctype.pointer p.name
is_lone_void _ = false

abbrev pub SoundParameters : Words → List Parameter → Type 0
SoundParameters words ps = SoundEachParameter words ps × (is_lone_void ps ≡ false)

abbrev pub SoundHead : Words → Head → Type 0
SoundHead words h =
    SoundType words h.result
    × (h.result.length ≡ None)
    × (words.things h.name.text ≡ true)
    × SoundParameters words h.params
    × SoundAttributes words h.attrs

abbrev pub SoundConstant : Words → EnumConstant → Type 0
SoundConstant words c = (words.things c.name.text ≡ true) × SoundOptional words c.value

abbrev pub SoundEachConstant : Words → List EnumConstant → Type 0
SoundEachConstant words [] = Unit {0}
SoundEachConstant words (c ∷ others) = SoundConstant words c × SoundEachConstant words others

-- an enum has an enumerator
abbrev pub SoundConstants : Words → List EnumConstant → Type 0
SoundConstants words [] = ⊥
SoundConstants words (c ∷ others) = SoundEachConstant words (c ∷ others)
