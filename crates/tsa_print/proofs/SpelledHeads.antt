-- A run of the pieces of a function's head or of enumerators spells them up to spans.
use Rattle.std.proofs.Common.{ℕ, ◌+◌, ◌≡◌, ◌∙◌, ap, subst, sym, refl, List, [], ◌∷◌, ◌++◌, map, true, Some, None, option_map}
use Rattle.std.specs.declared.option.Option.{Option}
use Rattle.tsa_base.specs.Tokens.{Lexeme}
use Rattle.tsa_tree.specs.attributes.Syntax.{plain_attribute}
use Rattle.tsa_tree.specs.declarations.Syntax.{Declarator, Head, head_of, EnumConstant}
use Rattle.tsa_tree.specs.declarations.Spelling.{of_declarator}
use Rattle.tsa_tree.specs.expressions.Syntax.{Identifier, Expression, plain, plain_name}
use Rattle.tsa_tree.specs.declarations.ItemSpelling.{no_storage, of_signature, IsHead, of_head, IsConstant, of_name_alone}
use Rattle.tsa_tree.specs.declarations.ItemSpelling.{of_name_and_value, IsConstants, of_last_constant, of_further_constant}
use Rattle.tsa_tree.specs.declarations.Plain.{plain_type, plain_parameter, plain_constant, plain_head}
use Rattle.tsa_tree.specs.tokens.Signs.{Aliases, identifier_at}
use Rattle.tsa_tree.specs.expressions.Sound.{words_beside, SoundOptional, is_name}
use Rattle.tsa_tree.specs.declarations.Sound.{SoundHead, SoundEachConstant, SoundConstants}
use Rattle.tsa_grammar.specs.Reading.{all}
use Rattle.tsa_print.specs.declared.mark.Mark.TheVariants as marks
use Rattle.tsa_print.specs.Canonical.{word, mark}
use Rattle.tsa_print.specs.DeclarationPieces.{type_pieces, attributes_pieces, parameters_pieces, head_pieces, value_pieces, constant_pieces}
use Rattle.tsa_print.specs.DeclarationPieces.{further_constants, constants_pieces}
use Rattle.tsa_print.proofs.PieceSigns.{seen, name_seen, named_so}
use Rattle.tsa_print.proofs.Runs.{Run, run_split}
use Rattle.tsa_print.proofs.SpelledAttributes.{attributes_spelled}
use Rattle.tsa_print.proofs.SpelledInitialisers.{equals_seen}
use Rattle.tsa_print.proofs.SpelledOperands.{expression_spelled}
use Rattle.tsa_print.proofs.SpelledParameters.{parameters_spelled}
use Rattle.tsa_print.proofs.SpelledTypes.{made_plain, type_spelled}

head_plain : (x y : Head) → plain_name x.name ≡ plain_name y.name → plain_type x.result ≡ plain_type y.result
    → map plain_parameter x.params ≡ map plain_parameter y.params → map plain_attribute x.attrs ≡ map plain_attribute y.attrs
    → plain_head x ≡ plain_head y
head_plain x y e f g h = rw (e, f, g, h) refl

module _ (aliases : Aliases) (ts : List Lexeme) where
  abbrev pub HeadRead : Head → (a b : ℕ) → Type 0
  HeadRead x a b = (u : Head) × IsHead ts aliases all u a b × (plain_head u ≡ plain_head x)

  pub head_spelled : (x : Head) (a b : ℕ) → SoundHead (words_beside aliases) x → Run ts a (head_pieces x) b → HeadRead x a b
  head_spelled x a b ok h =
      let two = run_split ts a b (type_pieces x.result)
      (word x.name.text ∷ (mark marks.OpenCall ∷ (parameters_pieces x.params ++ (mark marks.CloseParenthesis ∷ attributes_pieces x.attrs)))) h in
      let t = type_spelled aliases ts x.result a two.0 ok.0 two.1 in
      let inner = run_split ts (two.0 + 1 + 1) b (parameters_pieces x.params) (mark marks.CloseParenthesis ∷ attributes_pieces x.attrs) two.2.1.1 in
      let closes = seen aliases ts inner.0 (mark marks.CloseParenthesis) inner.2.0 in
      let ps = parameters_spelled aliases ts x.params (two.0 + 1 + 1) inner.0 ok.3 closes inner.1 in
      let attrs = attributes_spelled aliases ts 0 x.attrs (inner.0 + 1) b ok.4 inner.2.1 in
      let c : Declarator = record { pointer = x.result.pointer; pointer_const = x.result.pointer_const; name = identifier_at ts two.0; start = t.1 } in
      let u = head_of t.0 c (record { params = ps.0; attrs = attrs.0 }) in (
        u,
        of_head no_storage t.2 (of_declarator t.3 (name_seen aliases ts two.0 x.name.text ok.2 two.2.0))
            (of_signature (seen aliases ts (two.0 + 1) (mark marks.OpenCall) two.2.1.0) refl ps.1 closes attrs.1),
        head_plain u x (named_so ts two.0 x.name two.2.0) (made_plain t.0 x.result None t.4 t.5 (sym (ap (option_map plain) ok.1))) ps.2 attrs.2,
      )

  abbrev ConstantRead : Identifier → Option Expression → (a b : ℕ) → Type 0
  ConstantRead name x a b =
      (u : EnumConstant) × IsConstant ts aliases all u a b × (plain_constant u ≡ record { name = plain_name name; value = option_map plain x })

  abbrev pub Constants : List EnumConstant → (a b : ℕ) → Type 0
  Constants xs a b = (us : List EnumConstant) × IsConstants ts aliases all us a b × (map plain_constant us ≡ map plain_constant xs)

  constant_spelled : (name : Identifier) (x : Option Expression) (a b : ℕ) → is_name aliases name.text ≡ true → SoundOptional (words_beside aliases) x
      → Run ts a (word name.text ∷ value_pieces x) b → ConstantRead name x a b
  constant_spelled name None a b is ok h = subst (ConstantRead name None a) h.1 (
    record { name = identifier_at ts a; value = None },
    of_name_alone (name_seen aliases ts a name.text is h.0),
    ap (λ n. record { name = n; value = None }) (named_so ts a name h.0),
  )
  constant_spelled name (Some x) a b is ok h =
      let u = expression_spelled aliases ts x 1 (a + 1 + 1) b ok h.1.1 in (
        record { name = identifier_at ts a; value = Some u.0 },
        of_name_and_value (name_seen aliases ts a name.text is h.0) (equals_seen aliases ts (a + 1) h.1.0) u.1,
        ap (λ n. record { name = n; value = Some (plain u.0) }) (named_so ts a name h.0)
            ∙ ap (λ v. record { name = plain_name name; value = Some v }) u.2,
      )

  each_spelled : (x : EnumConstant) (xs : List EnumConstant) (a b : ℕ) → SoundEachConstant (words_beside aliases) (x ∷ xs)
      → Run ts a (constant_pieces x ++ further_constants xs) b → Constants (x ∷ xs) a b
  each_spelled x [] a b ok h =
      let two = run_split ts a b (constant_pieces x) [] h in
      let u = constant_spelled x.name x.value a two.0 ok.0.0 ok.0.1 two.1 in
      subst (Constants (x ∷ []) a) two.2 (u.0 ∷ [], of_last_constant u.1, ap (λ u. u ∷ []) u.2)
  each_spelled x (y ∷ ys) a b ok h =
      let two = run_split ts a b (constant_pieces x) (further_constants (y ∷ ys)) h in
      let u = constant_spelled x.name x.value a two.0 ok.0.0 ok.0.1 two.1 in
      let others = each_spelled y ys (two.0 + 1) b ok.1 two.2.1 in (
        u.0 ∷ others.0,
        of_further_constant u.1 (seen aliases ts two.0 (mark marks.Comma) two.2.0) others.1,
        ap (λ u. u ∷ map plain_constant others.0) u.2 ∙ ap (λ us. plain_constant x ∷ us) others.2,
      )

  pub constants_spelled : (xs : List EnumConstant) (a b : ℕ) → SoundConstants (words_beside aliases) xs → Run ts a (constants_pieces xs) b → Constants xs a b
  constants_spelled [] a b ok h = absurd ok
  constants_spelled (x ∷ xs) a b ok h = each_spelled x xs a b ok h
