-- The points of statements as they are written, in order, one row a form.
use Rattle.std.specs.Prelude.{ℕ, ◌≡◌, List, [], ◌∷◌, Some, None, Ok, Err, codes, map}
use Rattle.std.specs.declared.result.Result.{Result}
use Rattle.tsa_base.specs.Tokens.{Lexeme, BadByte, tokens_of}
use Rattle.tsa_tree.specs.declared.expr.BinaryOp.TheVariants as op
use Rattle.tsa_tree.specs.declarations.Examples.{alone, unset}
use Rattle.tsa_tree.specs.declarations.Syntax.{int}
use Rattle.tsa_tree.specs.expressions.Examples.{bytes}
use Rattle.tsa_tree.specs.statements.Plain.{plain_statement}
use Rattle.tsa_tree.specs.points.Syntax.{Deed, declares, evaluates, assigns, tests, switches, jumps, idles, returns, ends, points_of}
use Rattle.tsa_tree.specs.points.Syntax.{points_of_body}
use Rattle.tsa_tree.specs.Reads.{read}
use Rattle.tsa_tree.specs.Rows.{a_statement, statement}
use Rattle.tsa_tree.specs.statements.Examples.{a, b}
use Rattle.tsa_tree.specs.statements.Syntax.{Statement, none}
use Rattle.tsa_grammar.specs.Reading.{Outcome}
use Rattle.tsa_base.specs.declared.token.Span.{Span}

abbrev read_in : Result (List Lexeme) BadByte → List Statement
read_in (Ok tokens) = read_from (read tokens a_statement (statement [] 0) 0)
  where
    read_from : Outcome Statement → List Statement
    read_from (Ok found) = found.0 ∷ []
    read_from (Err refusal) = []
read_in (Err bad) = []

abbrev deeds_in : List Statement → List Deed
deeds_in [] = []
deeds_in (x ∷ xs) = map (λ p. p.deed) (points_of (plain_statement x))

abbrev spans_in : List Statement → List Span
spans_in [] = []
spans_in (x ∷ xs) = map (λ p. p.span) (points_of x)

-- what is done in a statement, but for spans
abbrev pub deeds : List ℕ → List Deed
deeds text = deeds_in (read_in (tokens_of text))

-- where that stands
abbrev pub places : List ℕ → List Span
places text = spans_in (read_in (tokens_of text))

pub record PointsAreInOrder : Type 0 where
  pub of_a_block : deeds (codes "{ int a; a; ; { } b = a; }") ≡
      declares (unset (codes "a") (alone int)) ∷ evaluates a ∷ idles ∷ assigns b None a ∷ []
  pub of_an_if : deeds (codes "if (a) b; else ;") ≡ tests (Some a) ∷ evaluates b ∷ idles ∷ []
  pub of_a_while : deeds (codes "while (a) b;") ≡ tests (Some a) ∷ evaluates b ∷ []
  pub of_a_do : deeds (codes "do a; while (b);") ≡ evaluates a ∷ tests (Some b) ∷ []
  pub of_a_for : deeds (codes "for (a = b; a; a -= b) b;") ≡
      assigns a None b ∷ tests (Some a) ∷ assigns a (Some op.Minus) b ∷ evaluates b ∷ []
  pub of_a_local_for : deeds (codes "for (int a; b; ) ;") ≡ declares (unset (codes "a") (alone int)) ∷ tests (Some b) ∷ idles ∷ []
  pub of_an_endless_for : deeds (codes "for (;;) b;") ≡ tests None ∷ evaluates b ∷ []
  pub of_a_switch : deeds (codes "switch (a) { case 1: break; default: return b; }") ≡ switches a ∷ jumps ∷ returns (Some b) ∷ []
  pub of_jumps : deeds (codes "a: while (a) { continue; goto a; return; }") ≡ tests (Some a) ∷ jumps ∷ jumps ∷ returns None ∷ []
  -- where they stand
  pub places_of_a_for : places (codes "for(;;)a;") ≡ bytes 0 3 ∷ bytes 7 9 ∷ []
  pub places_inside_a_for : places (codes "for(a=b;(a);a=b)a;") ≡ bytes 4 7 ∷ bytes 9 10 ∷ bytes 12 15 ∷ bytes 16 18 ∷ []
  pub place_of_a_test : places (codes "do a; while(a+b);") ≡ bytes 3 5 ∷ bytes 12 15 ∷ []
  pub end_of_a_body : points_of_body none (bytes 5 6) ≡ record { deed = ends; span = bytes 5 6 } ∷ []
