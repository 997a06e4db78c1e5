-- Parameters, heads, tags and enumerators that the tokens of a text spell are sound.
use Rattle.std.proofs.Common.{ℕ, ◌≡◌, ap, sym, ◌∙◌, refl, List, Bool, true, false, Some, None}
use Rattle.std.proofs.lemmas.Bool.{and_from}
use Rattle.std.specs.declared.option.Option.{Option}
use Rattle.tsa_base.specs.Tokens.{Lexeme}
use Rattle.tsa_tree.specs.declared.sign.Sign.TheVariants as sign
use Rattle.tsa_tree.specs.declarations.Syntax.{Base, int, unsigned, void, structure, enumerated, alias, Parameter, EnumConstant, Head}
use Rattle.tsa_tree.specs.declarations.Spelling.{no_const, of_const, IsBase, of_int, of_unsigned, of_unsigned_int, of_signed, of_signed_int}
use Rattle.tsa_tree.specs.declarations.Spelling.{of_void, of_struct, of_enum, of_alias, of_specifier, no_star, of_star, of_const_star}
use Rattle.tsa_tree.specs.expressions.Syntax.{Identifier}
use Rattle.tsa_tree.specs.declarations.ItemSpelling.{IsParameter, of_named, of_unnamed, IsParameterList, of_last_parameter}
use Rattle.tsa_tree.specs.declarations.ItemSpelling.{of_further_parameter, IsParameters, no_parameter, of_lone_void, of_parameters, IsTag}
use Rattle.tsa_tree.specs.declarations.ItemSpelling.{no_tag, of_tag, of_signature, IsHead, of_head, IsConstant, of_name_alone}
use Rattle.tsa_tree.specs.declarations.ItemSpelling.{of_name_and_value, IsConstants, of_last_constant, of_constant_and_comma}
use Rattle.tsa_tree.specs.declarations.ItemSpelling.{of_further_constant, IsEnumBody, of_enum_body}
use Rattle.tsa_tree.specs.tokens.Signs.{Aliases, sign_at, is_void, is_close}
use Rattle.tsa_tree.specs.tokens.Signs as signs
use Rattle.tsa_tree.specs.expressions.Sound.{words_beside, is_name}
use Rattle.tsa_tree.specs.declarations.Sound.{SoundParameter, SoundEachParameter, SoundParameters, is_bare_void, is_lone_void, SoundHead}
use Rattle.tsa_tree.specs.declarations.Sound.{SoundConstant, SoundEachConstant, SoundConstants}
use Rattle.tsa_tree.specs.units.Sound.{SoundTag, SoundTags}
use Rattle.tsa_tree.proofs.tokens.NamesAndNumbers.{AreTokensOfKinds, name_at}
use Rattle.tsa_tree.proofs.tokens.SignsRead.{tag_at}
use Rattle.tsa_tree.proofs.expressions.ReadSound.{expression_sound}
use Rattle.tsa_tree.proofs.attributes.Read.{attributes_sound}
use Rattle.tsa_tree.proofs.declarations.Read.{specifier_sound, star_sound, declarator_sound}
use Rattle.tsa_grammar.specs.Reading.{all}

-- Only a bare `void` is one.

bare_named : (x : Base) (is_const pointer : Bool) (name : Identifier) → is_bare_void x is_const pointer (Some name) ≡ false
bare_named void false false name = refl
bare_named void false true name = refl
bare_named void true pointer name = refl
bare_named int is_const pointer name = refl
bare_named unsigned is_const pointer name = refl
bare_named (structure tag) is_const pointer name = refl
bare_named (enumerated tag) is_const pointer name = refl
bare_named (alias other) is_const pointer name = refl

bare_pointer : (x : Base) (is_const : Bool) → is_bare_void x is_const true None ≡ false
bare_pointer void false = refl
bare_pointer void true = refl
bare_pointer int is_const = refl
bare_pointer unsigned is_const = refl
bare_pointer (structure tag) is_const = refl
bare_pointer (enumerated tag) is_const = refl
bare_pointer (alias other) is_const = refl

bare_const : (x : Base) → is_bare_void x true false None ≡ false
bare_const void = refl
bare_const int = refl
bare_const unsigned = refl
bare_const (structure tag) = refl
bare_const (enumerated tag) = refl
bare_const (alias other) = refl

module _ (aliases : Aliases) (tokens : List Lexeme) where
  bare_base : {x : Base} {a b : ℕ} → IsBase tokens aliases x a b → signs.is_lone_void tokens aliases a ≡ false
      → sign_at tokens aliases b ≡ sign.Close → is_bare_void x false false None ≡ false
  bare_base (of_int e) lone close = refl
  bare_base (of_unsigned e) lone close = refl
  bare_base (of_unsigned_int e f) lone close = refl
  bare_base (of_signed e) lone close = refl
  bare_base (of_signed_int e f) lone close = refl
  bare_base (of_void e) lone close = absurd (let never : true ≡ false = sym (and_from _ _ (ap is_void e) (ap is_close close)) ∙ lone in cc)
  bare_base (of_struct e t) lone close = refl
  bare_base (of_enum e t) lone close = refl
  bare_base (of_alias e) lone close = refl

  -- a parameter that a parenthesis closes is no bare `void`, where no lone one stands there
  bare_parameter : {x : Parameter} {a b : ℕ} → IsParameter tokens aliases x a b → signs.is_lone_void tokens aliases a ≡ false
      → sign_at tokens aliases b ≡ sign.Close → is_bare_void x.ctype.base x.ctype.base_const x.ctype.pointer x.name ≡ false
  bare_parameter (of_named t s n) lone close = bare_named _ _ _ _
  bare_parameter (of_unnamed t (of_star e)) lone close = bare_pointer _ _
  bare_parameter (of_unnamed t (of_const_star e f)) lone close = bare_pointer _ _
  bare_parameter (of_unnamed (of_specifier (of_const e c) h k) no_star) lone close = bare_const _
  bare_parameter (of_unnamed (of_specifier no_const h (of_const e c)) no_star) lone close = bare_const _
  bare_parameter (of_unnamed (of_specifier no_const h no_const) no_star) lone close = bare_base h lone close

  no_lone_void : {xs : List Parameter} {a b : ℕ} → IsParameterList tokens aliases xs a b → signs.is_lone_void tokens aliases a ≡ false
      → sign_at tokens aliases b ≡ sign.Close → is_lone_void xs ≡ false
  no_lone_void (of_last_parameter h) lone close = bare_parameter h lone close
  no_lone_void (of_further_parameter h e (of_last_parameter k)) lone close = refl
  no_lone_void (of_further_parameter h e (of_further_parameter k f l)) lone close = refl

module _ (aliases : Aliases) (tokens : List Lexeme) (real : AreTokensOfKinds tokens) where
  parameter_sound : {x : Parameter} {a b : ℕ} → IsParameter tokens aliases x a b → SoundParameter (words_beside aliases) x
  parameter_sound (of_named {n = n} t s e) =
      ((specifier_sound aliases tokens real t, star_sound aliases tokens real s), refl, name_at aliases tokens real n e)
  parameter_sound (of_unnamed t s) = ((specifier_sound aliases tokens real t, star_sound aliases tokens real s), refl, tt)

  each_parameter_sound : {xs : List Parameter} {a b : ℕ} → IsParameterList tokens aliases xs a b → SoundEachParameter (words_beside aliases) xs
  each_parameter_sound (of_last_parameter h) = (parameter_sound h, tt)
  each_parameter_sound (of_further_parameter h e k) = (parameter_sound h, each_parameter_sound k)

  parameters_sound : {xs : List Parameter} {a b : ℕ} → IsParameters tokens aliases xs a b → sign_at tokens aliases b ≡ sign.Close
      → SoundParameters (words_beside aliases) xs
  parameters_sound no_parameter close = (tt, refl)
  parameters_sound (of_lone_void e) close = (tt, refl)
  parameters_sound (of_parameters lone h) close = (each_parameter_sound h, no_lone_void aliases tokens h lone close)

  pub head_sound : {h : Head} {a b : ℕ} → IsHead tokens aliases all h a b → SoundHead (words_beside aliases) h
  head_sound (of_head w t c (of_signature o f ps e xs)) =
      let told = declarator_sound aliases tokens real c in
      ((specifier_sound aliases tokens real t, told.0), refl, told.1, parameters_sound ps e, attributes_sound aliases tokens real xs)

  pub tag_sound : {tag : Option Identifier} {a b : ℕ} → IsTag tokens aliases tag a b → SoundTag tag
  tag_sound no_tag = tt
  tag_sound (of_tag {a = a} e) = tag_at aliases tokens real a e

  pub tags_sound : {tag : Option Identifier} {a b : ℕ} (name : Identifier) → IsTag tokens aliases tag a b → is_name aliases name.text ≡ true
      → SoundTags (words_beside aliases) tag (Some name)
  tags_sound name no_tag n = (tt, n)
  tags_sound name (of_tag {a = a} e) n = (tag_at aliases tokens real a e, n)

  constant_sound : {x : EnumConstant} {a b : ℕ} → IsConstant tokens aliases all x a b → SoundConstant (words_beside aliases) x
  constant_sound (of_name_alone {a = a} n) = (name_at aliases tokens real a n, tt)
  constant_sound (of_name_and_value {a = a} n e h) = (name_at aliases tokens real a n, expression_sound aliases tokens real h)

  each_constant_sound : {xs : List EnumConstant} {a b : ℕ} → IsConstants tokens aliases all xs a b → SoundEachConstant (words_beside aliases) xs
  each_constant_sound (of_last_constant h) = (constant_sound h, tt)
  each_constant_sound (of_constant_and_comma h e) = (constant_sound h, tt)
  each_constant_sound (of_further_constant h e k) = (constant_sound h, each_constant_sound k)

  some_constant : {xs : List EnumConstant} {a b : ℕ} → IsConstants tokens aliases all xs a b → SoundEachConstant (words_beside aliases) xs
      → SoundConstants (words_beside aliases) xs
  some_constant (of_last_constant h) each = each
  some_constant (of_constant_and_comma h e) each = each
  some_constant (of_further_constant h e k) each = each

  pub constants_sound : {xs : List EnumConstant} {a b : ℕ} → IsEnumBody tokens aliases all xs a b → SoundConstants (words_beside aliases) xs
  constants_sound (of_enum_body o f h c) = some_constant h (each_constant_sound h)
