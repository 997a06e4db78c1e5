-- The names that a tree has from the tokens of a text are names, and its numbers have their types.
use Rattle.std.proofs.Common.{ℕ, ◌+◌, ◌≡◌, refl, List, true, Ok}
use Rattle.std.proofs.lemmas.Bool.{and_from}
use Rattle.tsa_base.specs.Tokens.{Lexeme, tokens_of}
use Rattle.tsa_tree.specs.expressions.Answers.{Part, an_expression, a_unary, Spells}
use Rattle.tsa_tree.specs.expressions.Sound.{words_beside, is_sound, are_sound}
use Rattle.tsa_tree.specs.expressions.Spelling.{IsExpression, of_unary, of_binary, IsUnary, of_postfix, of_prefix, IsPostfix, of_primary}
use Rattle.tsa_tree.specs.expressions.Spelling.{of_field, of_index, IsPrimary, of_number, of_null, of_name, of_call, of_parentheses}
use Rattle.tsa_tree.specs.expressions.Spelling.{IsArguments, of_none, of_some, IsSeries, of_last, of_further}
use Rattle.tsa_tree.specs.expressions.Syntax.{Expression, Arguments}
use Rattle.tsa_tree.specs.tokens.Signs.{Aliases}
use Rattle.tsa_tree.proofs.tokens.NamesAndNumbers.{AreTokensOfKinds, tokens_of_kinds, name_at, number_at}
use Rattle.tsa_grammar.specs.Reading.{all}

module _ (aliases : Aliases) (tokens : List Lexeme) (real : AreTokensOfKinds tokens) where
  mutual
    pub expression_sound : {d k : ℕ} {t : Expression} {a b : ℕ} → IsExpression tokens aliases all d k t a b → is_sound (words_beside aliases) t ≡ true
    expression_sound (of_unary h) = unary_sound h
    expression_sound (of_binary l e le f r) = and_from _ _ (expression_sound l) (expression_sound r)

    pub unary_sound : {d : ℕ} {t : Expression} {a b : ℕ} → IsUnary tokens aliases all d t a b → is_sound (words_beside aliases) t ≡ true
    unary_sound (of_postfix h) = postfix_sound h
    unary_sound (of_prefix e f h) = unary_sound h

    postfix_sound : {d : ℕ} {t : Expression} {a b : ℕ} → IsPostfix tokens aliases all d t a b → is_sound (words_beside aliases) t ≡ true
    postfix_sound (of_primary h) = primary_sound h
    postfix_sound (of_field {m = m} h e f n) = and_from _ _ (postfix_sound h) (name_at aliases tokens real (m + 1) n)
    postfix_sound (of_index h e f g i c) = and_from _ _ (postfix_sound h) (expression_sound i)

    primary_sound : {d : ℕ} {t : Expression} {a b : ℕ} → IsPrimary tokens aliases all d t a b → is_sound (words_beside aliases) t ≡ true
    primary_sound (of_number {a = a} e) = number_at aliases tokens real a e
    primary_sound (of_null e) = refl
    primary_sound (of_name {a = a} e) = name_at aliases tokens real a e
    primary_sound (of_call {a = a} n o f xs c) = and_from _ _ (name_at aliases tokens real a n) (arguments_sound xs)
    primary_sound (of_parentheses o f h c) = expression_sound h

    arguments_sound : {d : ℕ} {xs : Arguments} {a b : ℕ} → IsArguments tokens aliases all d xs a b → are_sound (words_beside aliases) xs ≡ true
    arguments_sound of_none = refl
    arguments_sound (of_some h) = series_sound h

    pub series_sound : {d : ℕ} {xs : Arguments} {a b : ℕ} → IsSeries tokens aliases all d xs a b → are_sound (words_beside aliases) xs ≡ true
    series_sound (of_last h) = and_from _ _ (expression_sound h) refl
    series_sound (of_further h e xs) = and_from _ _ (expression_sound h) (series_sound xs)

-- a tree that the tokens of a text spell has names for names, and its numbers have their types
pub read_is_sound : (text : List ℕ) (tokens : List Lexeme) (aliases : Aliases) (p : Part) (depth : ℕ) (tree : Expression) (a b : ℕ) →
    tokens_of text ≡ Ok tokens → Spells tokens aliases all p depth tree a b → is_sound (words_beside aliases) tree ≡ true
read_is_sound text tokens aliases an_expression depth tree a b e h = expression_sound aliases tokens (tokens_of_kinds text tokens e) h
read_is_sound text tokens aliases a_unary depth tree a b e h = unary_sound aliases tokens (tokens_of_kinds text tokens e) h
