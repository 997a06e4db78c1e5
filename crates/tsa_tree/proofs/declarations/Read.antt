-- Types, declarators, initialisers, members, globals and locals that the tokens of a text spell are sound.
use Rattle.std.proofs.Common.{ℕ, ◌+◌, ◌≡◌, refl, List, [], ◌∷◌, ◌++◌, Bool, true, false, ◌||◌, not, None}
use Rattle.std.specs.declared.option.Option.{Option}
use Rattle.tsa_base.specs.Tokens.{Lexeme}
use Rattle.tsa_tree.specs.declarations.Syntax.{Base, Specified, Initialiser, Initialisers, Declaration, Declarator}
use Rattle.tsa_tree.specs.declarations.Spelling.{Role, a_member, a_global, IsBase, of_int, of_unsigned, of_unsigned_int, of_signed}
use Rattle.tsa_tree.specs.declarations.Spelling.{of_signed_int, of_void, of_struct, of_enum, of_alias, IsSpecifier, of_specifier, IsStar}
use Rattle.tsa_tree.specs.declarations.Spelling.{no_star, of_star, of_const_star, IsDeclarator, of_declarator, IsLength, no_length}
use Rattle.tsa_tree.specs.declarations.Spelling.{of_length, IsInitialiser, of_value, of_no_values, of_values, IsInitialisers, of_last_value}
use Rattle.tsa_tree.specs.declarations.Spelling.{of_value_and_comma, of_further_value, IsInit, no_init, of_init, IsRest, of_rest}
use Rattle.tsa_tree.specs.declarations.Spelling.{IsDeclarators, of_last_declarator, of_further_declarator, IsMembers, no_member, of_members}
use Rattle.tsa_tree.specs.declarations.Spelling.{IsVariable, of_unset, of_set, IsVariables, of_last_variable, of_further_variable, IsLocals}
use Rattle.tsa_tree.specs.declarations.Spelling.{of_locals}
use Rattle.tsa_tree.specs.expressions.Syntax.{Expression}
use Rattle.tsa_tree.specs.tokens.Signs.{Aliases}
use Rattle.tsa_tree.specs.expressions.Sound.{Words, words_beside, SoundOptional, is_name}
use Rattle.tsa_tree.specs.declarations.Sound.{SoundBase, SoundInitialiser, SoundInitialisers, SoundInit, SoundMember, SoundMembers}
use Rattle.tsa_tree.specs.declarations.Sound.{SoundGlobal, SoundLocal}
use Rattle.tsa_tree.proofs.tokens.NamesAndNumbers.{AreTokensOfKinds, name_at}
use Rattle.tsa_tree.proofs.tokens.SignsRead.{tag_at, type_at}
use Rattle.tsa_tree.proofs.expressions.ReadSound.{expression_sound}
use Rattle.tsa_tree.proofs.attributes.Read.{attributes_sound}
use Rattle.tsa_grammar.specs.Reading.{all}

abbrev pub SoundGlobals : Words → List Declaration → Type 0
SoundGlobals words [] = Unit {0}
SoundGlobals words (d ∷ others) = SoundGlobal words d × SoundGlobals words others

abbrev pub SoundLocals : Words → List Declaration → Type 0
SoundLocals words [] = Unit {0}
SoundLocals words (d ∷ others) = SoundLocal words d × SoundLocals words others

members_append : (aliases : Aliases) (xs ys : List Declaration) → SoundMembers (words_beside aliases) xs → SoundMembers (words_beside aliases) ys
    → SoundMembers (words_beside aliases) (xs ++ ys)
members_append aliases [] ys h k = k
members_append aliases (x ∷ xs) ys h k = (h.0, members_append aliases xs ys h.1 k)

module _ (aliases : Aliases) (tokens : List Lexeme) (real : AreTokensOfKinds tokens) where
  base_sound : {x : Base} {a b : ℕ} → IsBase tokens aliases x a b → SoundBase (words_beside aliases) x
  base_sound (of_int e) = tt
  base_sound (of_unsigned e) = tt
  base_sound (of_unsigned_int e f) = tt
  base_sound (of_signed e) = tt
  base_sound (of_signed_int e f) = tt
  base_sound (of_void e) = tt
  base_sound (of_struct {a = a} e t) = tag_at aliases tokens real (a + 1) t
  base_sound (of_enum {a = a} e t) = tag_at aliases tokens real (a + 1) t
  base_sound (of_alias {a = a} e) = type_at aliases tokens real a e

  pub specifier_sound : {t : Specified} {a b : ℕ} → IsSpecifier tokens aliases t a b → SoundBase (words_beside aliases) t.base
  specifier_sound (of_specifier c h k) = base_sound h

  pub star_sound : {p c : Bool} {a b : ℕ} → IsStar tokens aliases p c a b → (p || not c) ≡ true
  star_sound no_star = refl
  star_sound (of_star e) = refl
  star_sound (of_const_star e f) = refl

  pub declarator_sound : {c : Declarator} {a b : ℕ} → IsDeclarator tokens aliases c a b
      → ((c.pointer || not c.pointer_const) ≡ true) × (is_name aliases c.name.text ≡ true)
  declarator_sound (of_declarator {m = m} s n) = (star_sound s, name_at aliases tokens real m n)

  length_sound : {d : ℕ} {x : Option Expression} {a b : ℕ} → IsLength tokens aliases all d x a b → SoundOptional (words_beside aliases) x
  length_sound no_length = tt
  length_sound (of_length o f h c) = expression_sound aliases tokens real h

  mutual
    initialiser_sound : {d : ℕ} {x : Initialiser} {a b : ℕ} → IsInitialiser tokens aliases all d x a b → SoundInitialiser (words_beside aliases) x
    initialiser_sound (of_value h) = expression_sound aliases tokens real h
    initialiser_sound (of_no_values o f c) = tt
    initialiser_sound (of_values o f h c) = initialisers_sound h

    initialisers_sound : {d : ℕ} {xs : Initialisers} {a b : ℕ} → IsInitialisers tokens aliases all d xs a b → SoundInitialisers (words_beside aliases) xs
    initialisers_sound (of_last_value h) = (initialiser_sound h, tt)
    initialisers_sound (of_value_and_comma h e) = (initialiser_sound h, tt)
    initialisers_sound (of_further_value h e k) = (initialiser_sound h, initialisers_sound k)

  init_sound : {r : Role} {d : ℕ} {x : Option Initialiser} {a b : ℕ} → IsInit tokens aliases all r d x a b → SoundInit (words_beside aliases) x
  init_sound no_init = tt
  init_sound (of_init e h) = initialiser_sound h

  member_unset : {d : ℕ} {x : Option Initialiser} {a b : ℕ} → IsInit tokens aliases all a_member d x a b → x ≡ None
  member_unset no_init = refl

  global_sound : {d : ℕ} {t : Specified} {c : Declarator} {x : Declaration} {a m b : ℕ} → SoundBase (words_beside aliases) t.base
      → IsDeclarator tokens aliases c a m
      → IsRest tokens aliases all a_global d t c x m b → SoundGlobal (words_beside aliases) x
  global_sound base h (of_rest l xs i) =
      let told = declarator_sound h in
      (((base, told.0), told.1, length_sound l), attributes_sound aliases tokens real xs, init_sound i)

  member_sound : {d : ℕ} {t : Specified} {c : Declarator} {x : Declaration} {a m b : ℕ} → SoundBase (words_beside aliases) t.base
      → IsDeclarator tokens aliases c a m
      → IsRest tokens aliases all a_member d t c x m b → SoundMember (words_beside aliases) x
  member_sound base h (of_rest l xs i) =
      let told = declarator_sound h in
      (((base, told.0), told.1, length_sound l), attributes_sound aliases tokens real xs, member_unset i)

  pub globals_sound : {d : ℕ} {t : Specified} {xs : List Declaration} {a b : ℕ} → SoundBase (words_beside aliases) t.base
      → IsDeclarators tokens aliases all a_global d t xs a b → SoundGlobals (words_beside aliases) xs
  globals_sound base (of_last_declarator c h) = (global_sound base c h, tt)
  globals_sound base (of_further_declarator c h e k) = (global_sound base c h, globals_sound base k)

  row_sound : {d : ℕ} {t : Specified} {xs : List Declaration} {a b : ℕ} → SoundBase (words_beside aliases) t.base
      → IsDeclarators tokens aliases all a_member d t xs a b → SoundMembers (words_beside aliases) xs
  row_sound base (of_last_declarator c h) = (member_sound base c h, tt)
  row_sound base (of_further_declarator c h e k) = (member_sound base c h, row_sound base k)

  pub members_sound : {d : ℕ} {xs : List Declaration} {a b : ℕ} → IsMembers tokens aliases all d xs a b → SoundMembers (words_beside aliases) xs
  members_sound no_member = tt
  members_sound (of_members {xs = xs} {ys = ys} t h e k) =
      members_append aliases xs ys (row_sound (specifier_sound t) h) (members_sound k)

  pub variable_sound : {d : ℕ} {t : Specified} {x : Declaration} {a b : ℕ} → SoundBase (words_beside aliases) t.base
      → IsVariable tokens aliases all d t x a b → SoundLocal (words_beside aliases) x
  variable_sound base (of_unset c l) = let told = declarator_sound c in (((base, told.0), told.1, length_sound l), refl, tt)
  variable_sound base (of_set c l e h) =
      let told = declarator_sound c in
      (((base, told.0), told.1, length_sound l), refl, expression_sound aliases tokens real h)

  variables_sound : {d : ℕ} {t : Specified} {xs : List Declaration} {a b : ℕ} → SoundBase (words_beside aliases) t.base
      → IsVariables tokens aliases all d t xs a b → SoundLocals (words_beside aliases) xs
  variables_sound base (of_last_variable h) = (variable_sound base h, tt)
  variables_sound base (of_further_variable h e k) = (variable_sound base h, variables_sound base k)

  pub locals_sound : {d : ℕ} {xs : List Declaration} {a b : ℕ} → IsLocals tokens aliases all false d xs a b → SoundLocals (words_beside aliases) xs
  locals_sound (of_locals t h) = variables_sound (specifier_sound t) h
