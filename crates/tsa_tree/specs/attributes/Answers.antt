-- What a reader of attributes has to answer, by the grammar alone.
use Rattle.std.specs.Prelude.{ℕ, ◌≡◌, ◌≤◌, ◌<◌, List, [], Bool, Ok, Some, None, length}
use Rattle.tsa_base.specs.Tokens.{Lexeme}
use Rattle.tsa_tree.specs.attributes.Syntax.{Attribute}
use Rattle.tsa_tree.specs.attributes.Spelling.{IsAttributes}
use Rattle.tsa_tree.specs.attributes.Beginnings.{BeginsAttributes}
use Rattle.tsa_tree.specs.attributes.Refusals.{RefusesAttributes}
use Rattle.tsa_tree.specs.Rows as rows
use Rattle.tsa_tree.specs.Rows.{sees, rule, is_attribute_sign}
use Rattle.tsa_tree.specs.Reads.{read}
use Rattle.tsa_tree.specs.tokens.Signs.{Aliases, sign_at}
use Rattle.tsa_tree.specs.Verdicts as verdicts
use Rattle.tsa_grammar.specs.Spelling as forms
use Rattle.tsa_grammar.specs.Reading.{Outcome, choose, all}

module _ (tokens : List Lexeme) (aliases : Aliases) (depth a : ℕ) where
  abbrev pub Spelled : (ℕ → Bool) → List Attribute → ℕ → Type 0
  Spelled fits xs e = IsAttributes tokens aliases fits depth xs a e

  abbrev pub Begun : (ℕ → Bool) → ℕ → Type 0
  Begun fits i = BeginsAttributes tokens aliases fits depth a i

  abbrev pub Refused : (ℕ → Bool) → (i q : ℕ) → Type 0
  Refused fits i q = RefusesAttributes tokens aliases fits depth a i q

  abbrev pub IsLongest : List Attribute → ℕ → Type 0
  IsLongest xs e = verdicts.IsLongest Spelled Begun Refused xs e

  abbrev pub IsBroken : ℕ → Type 0
  IsBroken i = verdicts.IsBroken Spelled Begun Refused i

  abbrev pub IsRefused : (q i : ℕ) → Type 0
  IsRefused q i = verdicts.IsRefused Spelled Begun Refused q i

  abbrev pub IsTooDeep : ℕ → Type 0
  IsTooDeep i = verdicts.IsTooDeep Spelled Begun Refused i

  abbrev pub IsAnswer : Outcome (List Attribute) → Type 0
  IsAnswer answer = verdicts.IsAnswer Spelled Begun Refused answer

  -- what reading by the rows gives: no group of attributes, or one or more
  unfoldable pub read_any : Outcome (List Attribute)
  read_any = choose (is_attribute_sign (sign_at tokens aliases a)) (read tokens rows.some_attributes (rows.attributes aliases depth) a) (Ok ([], a))

-- the rows spell what the productions spell, where that has a token, and nothing else
abbrev pub SpellTheSame : Type 0
SpellTheSame = (tokens : List Lexeme) (aliases : Aliases) (fits : ℕ → Bool) (depth : ℕ) (xs : List Attribute) (a b : ℕ) →
    (a < b → IsAttributes tokens aliases fits depth xs a b → forms.Spells (rule tokens) (sees tokens) fits rows.some_attributes (rows.attributes aliases depth) xs a b)
    × (forms.Spells (rule tokens) (sees tokens) fits rows.some_attributes (rows.attributes aliases depth) xs a b → IsAttributes tokens aliases fits depth xs a b)

abbrev pub BeginTheSame : Type 0
BeginTheSame = (tokens : List Lexeme) (aliases : Aliases) (fits : ℕ → Bool) (depth a b : ℕ) →
    (BeginsAttributes tokens aliases fits depth a b → forms.Begins (rule tokens) (sees tokens) fits rows.some_attributes (rows.attributes aliases depth) a b None)
    × (forms.Begins (rule tokens) (sees tokens) fits rows.some_attributes (rows.attributes aliases depth) a b None → BeginsAttributes tokens aliases fits depth a b)

abbrev pub RefuseTheSame : Type 0
RefuseTheSame = (tokens : List Lexeme) (aliases : Aliases) (fits : ℕ → Bool) (depth a b q : ℕ) →
    (RefusesAttributes tokens aliases fits depth a b q → forms.Begins (rule tokens) (sees tokens) fits rows.some_attributes (rows.attributes aliases depth) a b (Some q))
    × (forms.Begins (rule tokens) (sees tokens) fits rows.some_attributes (rows.attributes aliases depth) a b (Some q) → RefusesAttributes tokens aliases fits depth a b q)

-- two lists of attributes that the same tokens spell, to the last one, are equal
abbrev pub OneList : Type 0
OneList = (tokens : List Lexeme) (aliases : Aliases) (depth : ℕ) (xs ys : List Attribute) (a : ℕ) →
    IsAttributes tokens aliases all depth xs a (length tokens) → IsAttributes tokens aliases all depth ys a (length tokens) → xs ≡ ys

-- every first piece of what is spelled begins it
abbrev pub PiecesBegin : Type 0
PiecesBegin = (tokens : List Lexeme) (aliases : Aliases) (fits : ℕ → Bool) (depth : ℕ) (xs : List Attribute) (a b i : ℕ) →
    a ≤ i → i ≤ b → IsAttributes tokens aliases fits depth xs a b → BeginsAttributes tokens aliases fits depth a i

-- there is a right answer for every list and place
abbrev pub AnAnswer : Type 0
AnAnswer = (tokens : List Lexeme) (aliases : Aliases) (depth a : ℕ) → IsAnswer tokens aliases depth a (read_any tokens aliases depth a)

-- and there is no other
abbrev pub OneAnswer : Type 0
OneAnswer = (tokens : List Lexeme) (aliases : Aliases) (depth a : ℕ) (other : Outcome (List Attribute)) →
    IsAnswer tokens aliases depth a other → other ≡ read_any tokens aliases depth a
