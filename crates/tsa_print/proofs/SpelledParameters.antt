-- A run of the pieces of parameters spells them up to spans.
use Rattle.std.proofs.Common.{ℕ, ◌+◌, ◌≡◌, ◌∙◌, ap, subst, sym, refl, List, [], ◌∷◌, ◌++◌, map, Bool, true, false, ◌&&◌, Some, None}
use Rattle.std.proofs.Common.{option_map}
use Rattle.std.specs.declared.option.Option.{Option}
use Rattle.tsa_base.specs.Tokens.{Lexeme}
use Rattle.tsa_tree.specs.declared.sign.Keyword.TheVariants as key
use Rattle.tsa_tree.specs.declared.sign.Sign.TheVariants as sign
use Rattle.tsa_tree.specs.declarations.Syntax.{Base, int, unsigned, void, structure, enumerated, alias, DeclaredType, Parameter}
use Rattle.tsa_tree.specs.expressions.Syntax.{Identifier, plain, plain_name, nowhere}
use Rattle.tsa_tree.specs.declarations.ItemSpelling.{parameter_start, parameter, IsParameter, of_named, of_unnamed, IsParameterList}
use Rattle.tsa_tree.specs.declarations.ItemSpelling.{of_last_parameter, of_further_parameter, IsParameters, of_lone_void, of_parameters}
use Rattle.tsa_tree.specs.declarations.Plain.{plain_type, plain_parameter}
use Rattle.tsa_tree.specs.tokens.Signs.{Aliases, sign_at, identifier_at, is_void, is_close, is_lone_void}
use Rattle.tsa_tree.specs.expressions.Sound.{words_beside}
use Rattle.tsa_tree.specs.declarations.Sound.{SoundBase, SoundType, SoundName, SoundEachParameter, SoundParameters, is_bare_void}
use Rattle.tsa_tree.specs.declarations.Sound as sound
use Rattle.tsa_print.specs.declared.mark.Mark.TheVariants as marks
use Rattle.tsa_print.specs.Canonical.{mark}
use Rattle.tsa_print.specs.DeclarationPieces.{name_pieces, base_pieces, const_pieces, star_pieces, type_pieces, parameter_pieces}
use Rattle.tsa_print.specs.DeclarationPieces.{further_parameters, parameters_pieces}
use Rattle.tsa_print.proofs.PieceSigns.{seen, name_seen, named_so}
use Rattle.tsa_print.proofs.Runs.{Run, run_split}
use Rattle.tsa_print.proofs.SpelledTypes.{made_plain, type_spelled}
use Rattle.tsa_print.proofs.WordSigns.{keyword_seen, alias_seen}

-- whether a parameter is a lone `void` where others follow or none
abbrev stands_alone : List Parameter → Bool → Bool
stands_alone [] bare = bare
stands_alone (x ∷ xs) bare = false

alone : (x : Parameter) (xs : List Parameter) → sound.is_lone_void (x ∷ xs) ≡ false
    → stands_alone xs (is_bare_void x.ctype.base x.ctype.base_const x.ctype.pointer x.name) ≡ false
alone x [] e = e
alone x (y ∷ ys) e = refl

module _ (aliases : Aliases) (ts : List Lexeme) where
  no_void : (a : ℕ) → is_void (sign_at ts aliases a) ≡ false → is_lone_void ts aliases a ≡ false
  no_void a e = rw e refl

  no_close : (a : ℕ) → is_close (sign_at ts aliases (a + 1)) ≡ false → is_lone_void ts aliases a ≡ false
  no_close a e = either (is_void (sign_at ts aliases a)) (is_close (sign_at ts aliases (a + 1))) e
    where
      either : (v c : Bool) → c ≡ false → (v && c) ≡ false
      either true c e = e
      either false c e = refl

  void_behind : (p c : Bool) (name : Option Identifier) (xs : List Parameter) (a b : ℕ) → SoundName (words_beside aliases) name
      → stands_alone xs (is_bare_void void false p name) ≡ false
      → Run ts (a + 1) ((star_pieces p c ++ name_pieces name) ++ further_parameters xs) b → is_lone_void ts aliases a ≡ false
  void_behind true c name xs a b ok e h = no_close a (ap is_close (seen aliases ts (a + 1) (mark marks.Star) h.0))
  void_behind false c (Some name) xs a b ok e h = no_close a (ap is_close (name_seen aliases ts (a + 1) name.text ok h.0))
  void_behind false c None [] a b ok e h = cc
  void_behind false c None (x ∷ xs) a b ok e h = no_close a (ap is_close (seen aliases ts (a + 1) (mark marks.Comma) h.0))

  -- parameters that are no lone `void` don't begin as one
  first_sign : (base : Base) (is_const p c : Bool) (name : Option Identifier) (xs : List Parameter) (a b : ℕ) → SoundBase (words_beside aliases) base
      → SoundName (words_beside aliases) name → stands_alone xs (is_bare_void base is_const p name) ≡ false
      → Run ts a ((((const_pieces is_const ++ base_pieces base) ++ star_pieces p c) ++ name_pieces name) ++ further_parameters xs) b
      → is_lone_void ts aliases a ≡ false
  first_sign base true p c name xs a b ok named e h = no_void a (ap is_void (keyword_seen aliases ts a key.Const h.0))
  first_sign int false p c name xs a b ok named e h = no_void a (ap is_void (keyword_seen aliases ts a key.Int h.0))
  first_sign unsigned false p c name xs a b ok named e h = no_void a (ap is_void (keyword_seen aliases ts a key.Unsigned h.0))
  first_sign void false p c name xs a b ok named e h = void_behind p c name xs a b named e h.1
  first_sign (structure tag) false p c name xs a b ok named e h = no_void a (ap is_void (keyword_seen aliases ts a key.Struct h.0))
  first_sign (enumerated tag) false p c name xs a b ok named e h = no_void a (ap is_void (keyword_seen aliases ts a key.Enum h.0))
  first_sign (alias other) false p c name xs a b ok named e h = no_void a (ap is_void (alias_seen aliases ts a other.text ok h.0))

  abbrev ParameterRead : DeclaredType → Option Identifier → (a b : ℕ) → Type 0
  ParameterRead t name a b =
      (u : Parameter)
      × IsParameter ts aliases u a b
      × (plain_parameter u ≡ record { name = option_map plain_name name; ctype = plain_type t; span = nowhere })

  parameter_spelled : (t : DeclaredType) (name : Option Identifier) (a b : ℕ) → SoundType (words_beside aliases) t → t.length ≡ None
      → SoundName (words_beside aliases) name
      → Run ts a (type_pieces t ++ name_pieces name) b → ParameterRead t name a b
  parameter_spelled t None a b ok long named h =
      let two = run_split ts a b (type_pieces t) [] h in
      let r = type_spelled aliases ts t a two.0 ok two.1 in
      subst (ParameterRead t None a) two.2 (
        parameter ts aliases r.0 t.pointer t.pointer_const None (parameter_start ts aliases t.pointer a r.1) two.0,
        of_unnamed r.2 r.3,
        ap (λ t. record { name = None; ctype = t; span = nowhere }) (made_plain r.0 t None r.4 r.5 (sym (ap (option_map plain) long))),
      )
  parameter_spelled t (Some name) a b ok long named h =
      let two = run_split ts a b (type_pieces t) (name_pieces (Some name)) h in
      let r = type_spelled aliases ts t a two.0 ok two.1 in
      subst (ParameterRead t (Some name) a) two.2.1 (
        parameter ts aliases r.0 t.pointer t.pointer_const (Some (identifier_at ts two.0)) r.1 (two.0 + 1),
        of_named r.2 r.3 (name_seen aliases ts two.0 name.text named two.2.0),
        ap (λ t. record { name = Some (plain_name (identifier_at ts two.0)); ctype = t; span = nowhere })
            (made_plain r.0 t None r.4 r.5 (sym (ap (option_map plain) long)))
            ∙ ap (λ n. record { name = Some n; ctype = plain_type t; span = nowhere }) (named_so ts two.0 name two.2.0),
      )

  abbrev ParameterList : List Parameter → (a b : ℕ) → Type 0
  ParameterList xs a b = (us : List Parameter) × IsParameterList ts aliases us a b × (map plain_parameter us ≡ map plain_parameter xs)

  abbrev pub Parameters : List Parameter → (a b : ℕ) → Type 0
  Parameters xs a b = (us : List Parameter) × IsParameters ts aliases us a b × (map plain_parameter us ≡ map plain_parameter xs)

  list_spelled : (x : Parameter) (xs : List Parameter) (a b : ℕ) → SoundEachParameter (words_beside aliases) (x ∷ xs)
      → Run ts a (parameter_pieces x ++ further_parameters xs) b → ParameterList (x ∷ xs) a b
  list_spelled x [] a b ok h =
      let two = run_split ts a b (parameter_pieces x) [] h in
      let u = parameter_spelled x.ctype x.name a two.0 ok.0.0 ok.0.1 ok.0.2 two.1 in
      subst (ParameterList (x ∷ []) a) two.2 (u.0 ∷ [], of_last_parameter u.1, ap (λ u. u ∷ []) u.2)
  list_spelled x (y ∷ ys) a b ok h =
      let two = run_split ts a b (parameter_pieces x) (further_parameters (y ∷ ys)) h in
      let u = parameter_spelled x.ctype x.name a two.0 ok.0.0 ok.0.1 ok.0.2 two.1 in
      let others = list_spelled y ys (two.0 + 1) b ok.1 two.2.1 in (
        u.0 ∷ others.0,
        of_further_parameter u.1 (seen aliases ts two.0 (mark marks.Comma) two.2.0) others.1,
        ap (λ u. u ∷ map plain_parameter others.0) u.2 ∙ ap (λ us. plain_parameter x ∷ us) others.2,
      )

  -- what stands between the parentheses of a function
  pub parameters_spelled : (xs : List Parameter) (a b : ℕ) → SoundParameters (words_beside aliases) xs → sign_at ts aliases b ≡ sign.Close
      → Run ts a (parameters_pieces xs) b → Parameters xs a b
  parameters_spelled [] a b ok closes h =
      let next : sign_at ts aliases (a + 1) ≡ sign.Close = ap (sign_at ts aliases) h.1 ∙ closes in
      subst (Parameters [] a) h.1 ([], of_lone_void (rw (keyword_seen aliases ts a key.Void h.0, next) refl), refl)
  parameters_spelled (x ∷ xs) a b ok closes h =
      let us = list_spelled x xs a b ok.0 h in
      let first = first_sign x.ctype.base x.ctype.base_const x.ctype.pointer x.ctype.pointer_const x.name xs a b ok.0.0.0.0 ok.0.0.2 (alone x xs ok.1) h in
      (us.0, of_parameters first us.1, us.2)
