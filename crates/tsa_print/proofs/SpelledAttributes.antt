-- A run of the pieces of attributes spells them up to spans.
use Rattle.std.proofs.Common.{ℕ, ◌+◌, ◌≡◌, ◌∙◌, ap, subst, refl, List, [], ◌∷◌, ◌++◌, map, Bool, Some, None}
use Rattle.std.specs.declared.option.Option.{Option}
use Rattle.tsa_base.specs.Tokens.{Lexeme}
use Rattle.tsa_tree.specs.declared.attr.AttrKind.{AttrKind}
use Rattle.tsa_tree.specs.attributes.Syntax.{Attribute, plain_attribute, Taking, a_text, one_expression, expressions, a_try, taking}
use Rattle.tsa_tree.specs.attributes.Syntax.{negative, unquoted}
use Rattle.tsa_tree.specs.attributes.Spelling.{attribute, attribute_or, attribute_of, IsAttribute, of_text, of_one, of_expressions, of_try}
use Rattle.tsa_tree.specs.attributes.Spelling.{of_macro, IsAttributes, of_no_group, of_group}
use Rattle.tsa_tree.specs.expressions.Syntax.{Arguments, none, more, nowhere, plain_arguments}
use Rattle.tsa_tree.specs.tokens.Signs.{Aliases, identifier_at}
use Rattle.tsa_tree.specs.expressions.Spelling.{IsExpression}
use Rattle.tsa_tree.specs.expressions.Sound.{words_beside}
use Rattle.tsa_tree.specs.attributes.Sound.{SoundTaken, SoundAttributes}
use Rattle.tsa_grammar.specs.Reading.{all}
use Rattle.tsa_print.specs.declared.mark.Mark.TheVariants as marks
use Rattle.tsa_print.specs.Canonical.{quoted, mark, pieces, arguments, further}
use Rattle.tsa_print.specs.DeclarationPieces.{taken, attribute_pieces, attributes_pieces}
use Rattle.tsa_print.proofs.PieceSigns.{seen}
use Rattle.tsa_print.proofs.Runs.{Run, run_split}
use Rattle.tsa_print.proofs.SpelledOperands.{expression_spelled, series_spelled}
use Rattle.tsa_print.proofs.WordSigns.{macro_seen, quoted_so, try_so}
use Rattle.tsa_print.proofs.Negatives.{negative_alike}

abbrev plainly : AttrKind → Option (List ℕ) → Option Bool → Arguments → Attribute
plainly k text success args = record { kind = k; text = text; success = success; args = plain_arguments args; span = nowhere }

listed_plainly : (ts : List Lexeme) (k : AttrKind) (us xs : Arguments) (a b : ℕ) → plain_arguments us ≡ plain_arguments xs → negative k xs ≡ None
    → plain_attribute (attribute_of ts k us a b) ≡ plainly k None None xs
listed_plainly ts k us xs a b p e =
    ap (λ v. plain_attribute (attribute_or ts k us v a b)) (negative_alike k us xs p e)
    ∙ ap (λ args. record { kind = k; text = None; success = None; args = args; span = nowhere }) p

module _ (aliases : Aliases) (ts : List Lexeme) where
  abbrev Taken : (d : ℕ) → AttrKind → Option (List ℕ) → Option Bool → Arguments → (a b : ℕ) → Type 0
  Taken d k text success args a b =
      (u : Attribute) × IsAttribute ts aliases all d k u a b × (plain_attribute u ≡ plainly k text success args)

  abbrev pub Attributes : (d : ℕ) → List Attribute → (a b : ℕ) → Type 0
  Attributes d xs a b =
      (us : List Attribute) × IsAttributes ts aliases all d us a b × (map plain_attribute us ≡ map plain_attribute xs)

  taken_spelled : (d : ℕ) (k : AttrKind) (t : Taking) (text : Option (List ℕ)) (success : Option Bool) (args : Arguments) (a b : ℕ) → taking k ≡ t
      → SoundTaken (words_beside aliases) t text success args → negative k args ≡ None
      → Run ts (a + 1) (mark marks.OpenCall ∷ (taken text success args ++ mark marks.CloseParenthesis ∷ [])) b → Taken d k text success args a b
  taken_spelled d k a_text (Some text) None none a b e ok n h =
      let close = seen aliases ts (a + 1 + 1 + 1) (mark marks.CloseParenthesis) h.1.1.0 in
      subst (Taken d k (Some text) None none a) h.1.1.1 (
        attribute ts k (Some (unquoted (identifier_at ts (a + 1 + 1)).text)) None none a (a + 1 + 1 + 1 + 1),
        of_text e (seen aliases ts (a + 1) (mark marks.OpenCall) h.0) refl (seen aliases ts (a + 1 + 1) (quoted text) h.1.0) close,
        ap (λ t. plainly k (Some t) None none) (quoted_so ts (a + 1 + 1) text h.1.0),
      )
  taken_spelled d k one_expression None None (more x none) a b e ok n h =
      let two = run_split ts (a + 1 + 1) b (arguments (more x none)) (mark marks.CloseParenthesis ∷ []) h.1 in
      let one = run_split ts (a + 1 + 1) two.0 (pieces x 0) [] two.1 in
      let inner = expression_spelled aliases ts x (d + 1) (a + 1 + 1) one.0 ok one.1 in
      let u = subst (λ n. IsExpression ts aliases all (d + 1) 0 inner.0 (a + 1 + 1) n) one.2 inner.1 in
      let close = seen aliases ts two.0 (mark marks.CloseParenthesis) two.2.0 in
      subst (Taken d k None None (more x none) a) two.2.1 (
        attribute ts k None None (more inner.0 none) a (two.0 + 1),
        of_one e (seen aliases ts (a + 1) (mark marks.OpenCall) h.0) refl u close,
        ap (λ x. record { kind = k; text = None; success = None; args = more x none; span = nowhere }) inner.2,
      )
  taken_spelled d k expressions None None (more x xs) a b e ok n h =
      let two = run_split ts (a + 1 + 1) b (arguments (more x xs)) (mark marks.CloseParenthesis ∷ []) h.1 in
      let inner = series_spelled aliases ts x xs (d + 1) (a + 1 + 1) two.0 ok two.1 in
      let close = seen aliases ts two.0 (mark marks.CloseParenthesis) two.2.0 in
      subst (Taken d k None None (more x xs) a) two.2.1 (
        attribute_of ts k (more inner.0 inner.1) a (two.0 + 1),
        of_expressions e (seen aliases ts (a + 1) (mark marks.OpenCall) h.0) refl inner.2 close,
        listed_plainly ts k (more inner.0 inner.1) (more x xs) a (two.0 + 1) (rw (inner.3, inner.4) refl) n,
      )
  taken_spelled d k a_try None (Some result) (more x xs) a b e ok n h =
      let two = run_split ts (a + 1 + 1 + 1 + 1) b (pieces x 0 ++ further xs) (mark marks.CloseParenthesis ∷ []) h.1.1.1 in
      let inner = series_spelled aliases ts x xs (d + 1) (a + 1 + 1 + 1 + 1) two.0 ok two.1 in
      let close = seen aliases ts two.0 (mark marks.CloseParenthesis) two.2.0 in
      subst (Taken d k None (Some result) (more x xs) a) two.2.1 (
        attribute ts k None (Some result) (more inner.0 inner.1) a (two.0 + 1),
        of_try e (seen aliases ts (a + 1) (mark marks.OpenCall) h.0) refl (try_so ts (a + 1 + 1) result h.1.0)
            (seen aliases ts (a + 1 + 1 + 1) (mark marks.Comma) h.1.1.0) inner.2 close,
        rw (inner.3, inner.4) refl,
      )
  taken_spelled d k t text success args a b e ok n h = absurd ok

  pub attributes_spelled : (d : ℕ) (xs : List Attribute) (a b : ℕ) → SoundAttributes (words_beside aliases) xs → Run ts a (attributes_pieces xs) b
      → Attributes d xs a b
  attributes_spelled d [] a b ok h = subst (Attributes d [] a) h ([], of_no_group, refl)
  attributes_spelled d (x ∷ xs) a b ok h =
      let two = run_split ts a b (attribute_pieces x) (attributes_pieces xs) h in
      let first = taken_spelled d x.kind (taking x.kind) x.text x.success x.args a two.0 refl ok.0.0 ok.0.1 two.1.1 in
      let others = attributes_spelled d xs two.0 b ok.1 two.2 in (
        first.0 ∷ others.0,
        of_group (of_macro (macro_seen aliases ts a x.kind two.1.0) first.1) others.1,
        rw (first.2, others.2) refl,
      )
