-- Laws of the grammar of attributes.
use Rattle.std.proofs.Common.{ℕ, ◌<◌, ◌≡◌, ◌∙◌, ap, sym, subst, refl, List, [], Bool, true, false, length, arith, inl, inr}
use Rattle.std.proofs.lemmas.Bool.{cases_lt}
use Rattle.std.proofs.lemmas.Option.{slice_get_past}
use Rattle.tsa_base.specs.Tokens.{Lexeme}
use Rattle.tsa_tree.specs.expressions.Answers.{below_limit}
use Rattle.tsa_tree.specs.attributes.Syntax.{Attribute}
use Rattle.tsa_tree.specs.attributes.Spelling.{IsAttributes, of_no_group}
use Rattle.tsa_tree.specs.attributes.Beginnings.{BeginsAttributes, begins_one_group, begins_no_group}
use Rattle.tsa_tree.specs.attributes.Answers.{read_any, SpellTheSame, BeginTheSame, RefuseTheSame, OneList, PiecesBegin, Spelled, Begun}
use Rattle.tsa_tree.specs.attributes.Answers.{Refused, AnAnswer, OneAnswer}
use Rattle.tsa_tree.specs.Rows as rows
use Rattle.tsa_tree.specs.Rows.{is_attribute_sign, attributes}
use Rattle.tsa_tree.specs.tokens.Signs.{Aliases, sign_at, sign_in}
use Rattle.tsa_tree.proofs.attributes.TokenCounts.{ahead-attributes, none-there}
use Rattle.tsa_tree.proofs.attributes.Answers.{whole, going_on, read_any_answers}
use Rattle.tsa_tree.proofs.attributes.ListsToRows.{attributes_rows}
use Rattle.tsa_tree.proofs.attributes.RowEquality.{attributes_begin, attributes_refuse}
use Rattle.tsa_tree.proofs.RowsRead.{one_reading, piece_begins, one_bar}
use Rattle.tsa_tree.proofs.RowsFree.{free_spelled, free_begun, begun_to_bar}
use Rattle.tsa_tree.proofs.OneAnswer as verdicts
use Rattle.tsa_tree.proofs.expressions.RowsToProductions.{production_of}
use Rattle.tsa_grammar.specs.Reading.{all}

pub spell_the_same : SpellTheSame
spell_the_same tokens aliases fits d xs a b = ((λ lt i. attributes_rows tokens aliases fits i lt), (λ sp. production_of tokens fits sp tt))

pub begin_the_same : BeginTheSame
begin_the_same = attributes_begin

pub refuse_the_same : RefuseTheSame
refuse_the_same = attributes_refuse

ends_there : (tokens : List Lexeme) (aliases : Aliases) → is_attribute_sign (sign_at tokens aliases (length tokens)) ≡ false
unfolding sign_at
ends_there tokens aliases = ap (λ t. is_attribute_sign (sign_in aliases t)) (slice_get_past tokens (length tokens) (omega arith))

pub one_list : OneList
one_list tokens aliases d xs ys a h k =
    elim (cases_lt a (length tokens)) [
      | inl lt ↦ one_reading tokens rows.some_attributes (attributes aliases d) xs ys a (length tokens)
          (attributes_rows tokens aliases all h lt) (attributes_rows tokens aliases all k lt) (ends_there tokens aliases) (ends_there tokens aliases)
      | inr le ↦ none-there le h ∙ sym (none-there le k)
    ]

pub pieces_begin : PiecesBegin
pieces_begin tokens aliases fits d xs a b i le le' h =
    elim (cases_lt a b) [
      | inl lt ↦ (attributes_begin tokens aliases fits d a i).1
          (piece_begins tokens fits rows.some_attributes (attributes aliases d) xs a b i le le' (attributes_rows tokens aliases fits h lt))
      | inr ge ↦ (let e : a ≡ i = omega arith in subst (BeginsAttributes tokens aliases fits d a) e (begins_one_group begins_no_group))
    ]

pub an_answer : AnAnswer
an_answer tokens aliases d a = read_any_answers tokens aliases d a

module _ (tokens : List Lexeme) (aliases : Aliases) (d a : ℕ) where
  -- Attributes that are spelled within limits are spelled without them.
  free_attributes : (fits : ℕ → Bool) (xs : List Attribute) (e : ℕ) → IsAttributes tokens aliases fits d xs a e
      → IsAttributes tokens aliases all d xs a e
  free_attributes fits xs e h =
      elim (cases_lt a e) [
        | inl lt ↦ production_of tokens all (free_spelled tokens fits (attributes_rows tokens aliases fits h lt)) tt
        | inr le ↦ (let same : a ≡ e = omega (arith, ahead-attributes h) in
            subst (λ xs. IsAttributes tokens aliases all d xs a e) (sym (none-there le h))
            (subst (IsAttributes tokens aliases all d [] a) same of_no_group))
      ]

  -- Two lists are equal that are spelled up to where the longest beginning ends, where nothing is refused.
  one_whole : (xs ys : List Attribute) (e : ℕ) → IsAttributes tokens aliases all d xs a e → IsAttributes tokens aliases all d ys a e
      → verdicts.Whole (Spelled tokens aliases d a) (Begun tokens aliases d a) (Refused tokens aliases d a) e → xs ≡ ys
  one_whole xs ys e h k w =
      elim (cases_lt a e) [
        | inl lt ↦ go lt (is_attribute_sign (sign_at tokens aliases e)) refl
        | inr le ↦ none-there le h ∙ sym (none-there le k)
      ]
    where
      go : a < e → (more : Bool) → is_attribute_sign (sign_at tokens aliases e) ≡ more → xs ≡ ys
      go lt true sign = absurd (going_on tokens aliases d a xs e sign h w.0 w.1)
      go lt false sign =
          one_reading tokens rows.some_attributes (attributes aliases d) xs ys a e
          (attributes_rows tokens aliases all h lt) (attributes_rows tokens aliases all k lt) sign sign

pub one_answer : OneAnswer
one_answer tokens aliases d a other h =
    verdicts.one_answer (Spelled tokens aliases d a) (Begun tokens aliases d a) (Refused tokens aliases d a)
    (free_attributes tokens aliases d a below_limit)
    (λ i g. (attributes_begin tokens aliases all d a i).1
    (free_begun tokens below_limit ((attributes_begin tokens aliases below_limit d a i).0 g)))
    (λ i q g. (attributes_refuse tokens aliases all d a i q).1
    (free_begun tokens below_limit ((attributes_refuse tokens aliases below_limit d a i q).0 g)))
    (λ xs e sp. whole tokens aliases below_limit sp)
    (λ i q g. (attributes_begin tokens aliases below_limit d a i).1
    (begun_to_bar tokens below_limit ((attributes_refuse tokens aliases below_limit d a i q).0 g)))
    (one_whole tokens aliases d a)
    (λ i q p g k first. one_bar tokens rows.some_attributes (attributes aliases d) a i q p
    ((attributes_refuse tokens aliases all d a i q).0 g) ((attributes_refuse tokens aliases all d a i p).0 k)
    (λ j r g. first j r ((attributes_refuse tokens aliases all d a j r).1 g)))
    other (read_any tokens aliases d a) h (an_answer tokens aliases d a)
