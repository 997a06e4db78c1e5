-- What can be spelled by some words can be spelled by more of them; so what one text spells can be spelled beside others.
use Rattle.std.proofs.Common.{ℕ, ◌≡◌, refl, List, [], ◌∷◌, ◌++◌, Bool, true, false, ◌&&◌, Option, Some, None, Ok}
use Rattle.std.proofs.lemmas.Bool.{and_parts, and_from}
use Rattle.tsa_base.specs.Tokens.{Lexeme, tokens_of}
use Rattle.tsa_tree.specs.attributes.Sound.{SoundTaken, SoundAttributes}
use Rattle.tsa_tree.specs.attributes.Syntax.{Attribute, Taking, taking, a_text, one_expression, expressions, a_try}
use Rattle.tsa_tree.specs.declarations.Sound.{SoundBase, SoundInitialiser, SoundInitialisers, SoundInit, SoundLocalInit, SoundDeclarator}
use Rattle.tsa_tree.specs.declarations.Sound.{SoundMembers, SoundGlobal, SoundLocal, SoundName, SoundEachParameter, SoundHead}
use Rattle.tsa_tree.specs.declarations.Sound.{SoundEachConstant, SoundConstants}
use Rattle.tsa_tree.specs.declarations.Syntax.{Base, int, unsigned, void, structure, enumerated, alias, Initialiser, value, list, Initialisers}
use Rattle.tsa_tree.specs.declarations.Syntax.{no_more, one_more, Declaration, Parameter, EnumConstant, Head}
use Rattle.tsa_tree.specs.expressions.Sound.{Words, words_beside, all_words, is_name, is_sound, are_sound, SoundOptional}
use Rattle.tsa_tree.specs.expressions.Syntax.{Identifier, Expression, Arguments, number, null, named, call, unary, binary, field, index, none, more}
use Rattle.tsa_tree.specs.statements.Sound.{SoundSimple, SoundForInit, SoundForStep, SoundLocalIn, SoundStatement, SoundStatements}
use Rattle.tsa_tree.specs.statements.Syntax.{Simple, evaluation, assignment, ForInit, no_init, simple_init, local_init, Statement, block}
use Rattle.tsa_tree.specs.statements.Syntax.{empty, local, simple, if_alone, if_else, while_loop, do_loop, for_loop, switch, case}
use Rattle.tsa_tree.specs.statements.Syntax.{otherwise, label, break, continue, goto, return, Statements}
use Rattle.tsa_tree.specs.statements.Syntax as statements
use Rattle.tsa_tree.specs.tokens.Signs.{Aliases}
use Rattle.tsa_tree.specs.units.Answers.{Spells}
use Rattle.tsa_tree.specs.units.Shapes.{item_shapes}
use Rattle.tsa_tree.specs.units.Sound.{SoundTags, SoundItem, SoundItems, SpellableItem, SpellableItems}
use Rattle.tsa_tree.specs.units.SoundLaw.{SoundIsSpellable, WellReadIsSpellable, SpellableTogether}
use Rattle.tsa_tree.specs.units.Syntax.{UnitItem, structure_item, alias_item, enumeration_item, global_item, function_item, body_item}
use Rattle.tsa_tree.specs.units.Syntax.{names_of_item}
use Rattle.tsa_tree.proofs.units.Read.{unit_sound, well_read_sound}
use Rattle.tsa_grammar.specs.Reading.{all}

module _ (few many : Words) (things : (text : List ℕ) → few.things text ≡ true → many.things text ≡ true)
    (types : (text : List ℕ) → few.types text ≡ true → many.types text ≡ true) where
  both : (a b c d : Bool) → (a ≡ true → c ≡ true) → (b ≡ true → d ≡ true) → (a && b) ≡ true → (c && d) ≡ true
  both a b c d f g h = let parts = and_parts a b h in and_from c d (f parts.0) (g parts.1)

  mutual
    expression_more : (x : Expression) → is_sound few x ≡ true → is_sound many x ≡ true
    expression_more (number v is_unsigned span) h = h
    expression_more (null span) h = refl
    expression_more (named name span) h = things name.text h
    expression_more (call callee xs span) h = both _ _ _ _ (things callee.text) (arguments_more xs) h
    expression_more (unary o inner span) h = expression_more inner h
    expression_more (binary o left right span) h = both _ _ _ _ (expression_more left) (expression_more right) h
    expression_more (field base name arrow span) h = both _ _ _ _ (expression_more base) (things name.text) h
    expression_more (index base at span) h = both _ _ _ _ (expression_more base) (expression_more at) h

    arguments_more : (xs : Arguments) → are_sound few xs ≡ true → are_sound many xs ≡ true
    arguments_more none h = refl
    arguments_more (more x xs) h = both _ _ _ _ (expression_more x) (arguments_more xs) h

  optional_more : (x : Option Expression) → SoundOptional few x → SoundOptional many x
  optional_more None h = tt
  optional_more (Some x) h = expression_more x h

  taken_more : (t : Taking) (text : Option (List ℕ)) (success : Option Bool) (args : Arguments) → SoundTaken few t text success args
      → SoundTaken many t text success args
  taken_more a_text (Some text) None none h = h
  taken_more one_expression None None (more x none) h = expression_more x h
  taken_more expressions None None (more x xs) h = arguments_more (more x xs) h
  taken_more a_try None (Some result) (more x xs) h = arguments_more (more x xs) h
  taken_more _ _ _ _ h = absurd h

  attributes_more : (attrs : List Attribute) → SoundAttributes few attrs → SoundAttributes many attrs
  attributes_more [] h = tt
  attributes_more (a ∷ others) h = ((taken_more (taking a.kind) a.text a.success a.args h.0.0, h.0.1), attributes_more others h.1)

  base_more : (x : Base) → SoundBase few x → SoundBase many x
  base_more int h = tt
  base_more unsigned h = tt
  base_more void h = tt
  base_more (structure tag) h = h
  base_more (enumerated tag) h = h
  base_more (alias name) h = types name.text h

  mutual
    initialiser_more : (x : Initialiser) → SoundInitialiser few x → SoundInitialiser many x
    initialiser_more (value x) h = expression_more x h
    initialiser_more (list items span) h = initialisers_more items h

    initialisers_more : (xs : Initialisers) → SoundInitialisers few xs → SoundInitialisers many xs
    initialisers_more no_more h = tt
    initialisers_more (one_more first rest) h = (initialiser_more first h.0, initialisers_more rest h.1)

  init_more : (x : Option Initialiser) → SoundInit few x → SoundInit many x
  init_more None h = tt
  init_more (Some x) h = initialiser_more x h

  local_init_more : (x : Option Initialiser) → SoundLocalInit few x → SoundLocalInit many x
  local_init_more None h = tt
  local_init_more (Some (value x)) h = expression_more x h
  local_init_more (Some (list items span)) h = absurd h

  declarator_more : (d : Declaration) → SoundDeclarator few d → SoundDeclarator many d
  declarator_more d h = ((base_more d.ctype.base h.0.0, h.0.1), things d.name.text h.1, optional_more d.ctype.length h.2)

  members_more : (ds : List Declaration) → SoundMembers few ds → SoundMembers many ds
  members_more [] h = tt
  members_more (d ∷ others) h = ((declarator_more d h.0.0, attributes_more d.attrs h.0.1, h.0.2), members_more others h.1)

  global_more : (d : Declaration) → SoundGlobal few d → SoundGlobal many d
  global_more d h = (declarator_more d h.0, attributes_more d.attrs h.1, init_more d.init h.2)

  local_more : (d : Declaration) → SoundLocal few d → SoundLocal many d
  local_more d h = (declarator_more d h.0, h.1, local_init_more d.init h.2)

  name_more : (name : Option Identifier) → SoundName few name → SoundName many name
  name_more None h = tt
  name_more (Some name) h = things name.text h

  each_parameter_more : (ps : List Parameter) → SoundEachParameter few ps → SoundEachParameter many ps
  each_parameter_more [] h = tt
  each_parameter_more (p ∷ others) h =
      (((base_more p.ctype.base h.0.0.0, h.0.0.1), h.0.1, name_more p.name h.0.2), each_parameter_more others h.1)

  head_more : (x : Head) → SoundHead few x → SoundHead many x
  head_more x h = (
    (base_more x.result.base h.0.0, h.0.1),
    h.1,
    things x.name.text h.2,
    (each_parameter_more x.params h.3.0, h.3.1),
    attributes_more x.attrs h.4,
  )

  each_constant_more : (cs : List EnumConstant) → SoundEachConstant few cs → SoundEachConstant many cs
  each_constant_more [] h = tt
  each_constant_more (c ∷ others) h = ((things c.name.text h.0.0, optional_more c.value h.0.1), each_constant_more others h.1)

  constants_more : (cs : List EnumConstant) → SoundConstants few cs → SoundConstants many cs
  constants_more [] h = absurd h
  constants_more (c ∷ others) h = each_constant_more (c ∷ others) h

  simple_more : (x : Simple) → SoundSimple few x → SoundSimple many x
  simple_more (evaluation x span) h = expression_more x h
  simple_more (assignment left op right span) h = (expression_more left h.0, h.1, expression_more right h.2)

  for_init_more : (x : ForInit) → SoundForInit few x → SoundForInit many x
  for_init_more no_init h = tt
  for_init_more (simple_init x) h = simple_more x h
  for_init_more (local_init d) h = local_more d h

  for_step_more : (x : Option Simple) → SoundForStep few x → SoundForStep many x
  for_step_more None h = tt
  for_step_more (Some x) h = simple_more x h

  local_in_more : (in_block : Bool) (d : Declaration) → SoundLocalIn few in_block d → SoundLocalIn many in_block d
  local_in_more true d h = local_more d h
  local_in_more false d h = absurd h

  mutual
    statement_more : (in_block : Bool) (s : Statement) → SoundStatement few in_block s → SoundStatement many in_block s
    statement_more in_block (block items span) h = statements_more items h
    statement_more in_block (empty span) h = tt
    statement_more in_block (local d) h = local_in_more in_block d h
    statement_more in_block (simple x) h = simple_more x h
    statement_more in_block (if_alone test arm span) h = (expression_more test h.0, statement_more false arm h.1)
    statement_more in_block (if_else test arm other span) h =
        (expression_more test h.0, statement_more false arm h.1, h.2, statement_more false other h.3)
    statement_more in_block (while_loop test body span) h = (expression_more test h.0, statement_more false body h.1)
    statement_more in_block (do_loop body test span) h = (statement_more false body h.0, expression_more test h.1)
    statement_more in_block (for_loop init test step body span) h =
        (for_init_more init h.0, optional_more test h.1, for_step_more step h.2, statement_more false body h.3)
    statement_more in_block (switch x body span) h = (expression_more x h.0, statement_more false body h.1)
    statement_more in_block (case x body span) h = (expression_more x h.0, statement_more false body h.1)
    statement_more in_block (otherwise body span) h = statement_more false body h
    statement_more in_block (label name body span) h = (things name.text h.0, statement_more false body h.1)
    statement_more in_block (break span) h = tt
    statement_more in_block (continue span) h = tt
    statement_more in_block (goto name span) h = things name.text h
    statement_more in_block (return x span) h = optional_more x h

    statements_more : (xs : Statements) → SoundStatements few xs → SoundStatements many xs
    statements_more statements.none h = tt
    statements_more (statements.more first rest) h = (statement_more true first h.0, statements_more rest h.1)

  tags_more : (tag other : Option Identifier) → SoundTags few tag other → SoundTags many tag other
  tags_more None None h = absurd h
  tags_more (Some tag) other h = (h.0, name_more other h.1)
  tags_more None (Some other) h = (tt, things other.text h.1)

  item_more : (x : UnitItem) → SoundItem few x → SoundItem many x
  item_more (structure_item tag other attrs members span) h = (tags_more tag other h.0, attributes_more attrs h.1, members_more members h.2)
  item_more (alias_item name ctype span) h = ((base_more ctype.base h.0.0, h.0.1), h.1, things name.text h.2)
  item_more (enumeration_item tag other values span) h = (h.0, name_more other h.1, constants_more values h.2)
  item_more (global_item d) h = global_more d h
  item_more (function_item head) h = head_more head h
  item_more (body_item head body close) h = (head_more head h.0, statements_more body h.1)

-- a word that is no name of a type is a word
thing_is_word : (aliases : Aliases) (text : List ℕ) → is_name aliases text ≡ true → is_name [] text ≡ true
thing_is_word aliases [] h = h
thing_is_word aliases (c ∷ cs) h =
    let parts = and_parts _ _ h in
    and_from _ _ parts.0 (and_from _ _ (and_parts _ _ parts.1).0 refl)

item_spellable : (aliases : Aliases) (x : UnitItem) → SoundItem (words_beside aliases) x → SpellableItem x
item_spellable aliases x h = item_more (words_beside aliases) all_words (thing_is_word aliases) (λ text ok. (and_parts (is_name [] text) _ ok).0) x h

pub sound_is_spellable : SoundIsSpellable
sound_is_spellable aliases [] h = tt
sound_is_spellable aliases (x ∷ xs) h = (item_spellable aliases x h.0, sound_is_spellable (aliases ++ names_of_item x) xs h.1)

-- a unit that the tokens of a text spell can be spelled
pub unit_spellable : (text : List ℕ) (tokens : List Lexeme) (items : List UnitItem) → tokens_of text ≡ Ok tokens → Spells tokens all items
    → SpellableItems items
unit_spellable text tokens items e h = sound_is_spellable [] items (unit_sound text tokens items e h)

pub well_read_spellable : WellReadIsSpellable
well_read_spellable items well = sound_is_spellable [] (item_shapes items) (well_read_sound items well)

pub spellable_together : SpellableTogether
spellable_together [] ys h k = k
spellable_together (x ∷ xs) ys h k = (h.0, spellable_together xs ys h.1 k)
