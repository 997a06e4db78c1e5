-- What the parts of the rows are in terms of the productions: their whole texts, what begins them, and what is refused in them.
use Rattle.std.proofs.Common.{ℕ, ◌+◌, ◌≤◌, ◌≡◌, List, Bool, true, Some, ◌⊎◌}
use Rattle.tsa_base.specs.Tokens.{Lexeme}
use Rattle.tsa_tree.specs.declared.expr.BinaryOp.{BinaryOp}
use Rattle.tsa_tree.specs.declared.sign.Sign.TheVariants as sign
use Rattle.tsa_tree.specs.expressions.Syntax.{Arguments}
use Rattle.tsa_tree.specs.attributes.Syntax.{Attribute}
use Rattle.tsa_tree.specs.tokens.Signs.{Aliases, sign_at, operator, level}
use Rattle.tsa_tree.specs.expressions.Spelling.{IsExpression, IsUnary, IsPostfix, IsSeries}
use Rattle.tsa_tree.specs.expressions.Beginnings.{BeginsExpression, BeginsUnary, BeginsArguments}
use Rattle.tsa_tree.specs.attributes.Spelling.{IsBalanced, IsEntries, IsGroup, IsAttributes}
use Rattle.tsa_tree.specs.attributes.Beginnings.{BeginsBalanced, BeginsEntries, BeginsGroup, BeginsAttributes}
use Rattle.tsa_tree.specs.attributes.Refusals.{RefusesEntries, RefusesGroup, RefusesAttributes}
use Rattle.tsa_tree.specs.Rows.{Sort, an_expression, some_arguments, a_skip, Node, Call, expression, operation, operand, postfix, series}
use Rattle.tsa_tree.specs.Rows.{attributes, group, entries, balanced, Closer, closer_kind, kind, sees, Row, rule}
use Rattle.tsa_tree.proofs.Inductions as all

module _ (tokens : List Lexeme) (fits : ℕ → Bool) where
  -- What holds where a part is asked for: that what it goes on with stands before it.
  abbrev pub Needs : (s : Sort) → Call s → ℕ → Type 0
  Needs _ (expression aliases d k) a = Unit {0}
  Needs _ (operation aliases d k start l) a =
      (top : ℕ) × ((o : BinaryOp) → operator (sign_at tokens aliases a) ≡ Some o → level o ≤ top)
      × IsExpression tokens aliases fits d top l start a × IsExpression tokens aliases fits d k l start a
  Needs _ (operand aliases d) a = Unit {0}
  Needs _ (postfix aliases d start base) a = IsPostfix tokens aliases fits d base start a
  Needs _ (series aliases d) a = Unit {0}
  Needs _ (attributes aliases d) a = Unit {0}
  Needs _ (group aliases d) a = Unit {0}
  Needs _ (entries aliases d) a = Unit {0}
  Needs _ (balanced aliases d closer) a = Unit {0}
  -- neither expressions nor attributes have parts of declarations
  Needs _ other a = ⊥

  -- a series and the parenthesis that closes it
  abbrev pub Closed : (aliases : Aliases) (d : ℕ) (xs : Arguments) (a b : ℕ) → Type 0
  Closed aliases d xs a b =
      (n : ℕ) × IsSeries tokens aliases fits d xs a n × (sign_at tokens aliases n ≡ sign.Close) × (b ≡ n + 1)

  -- entries of a list of attributes, and the parenthesis that closes them
  abbrev pub ClosedEntries : (aliases : Aliases) (d : ℕ) (xs : List Attribute) (a b : ℕ) → Type 0
  ClosedEntries aliases d xs a b =
      (n : ℕ) × IsEntries tokens aliases fits d xs a n × (sign_at tokens aliases n ≡ sign.Close) × (b ≡ n + 1)

  -- balanced tokens, and the token that closes them
  abbrev pub ClosedBalanced : (aliases : Aliases) (d : ℕ) (closer : Closer) (a b : ℕ) → Type 0
  ClosedBalanced aliases d closer a b =
      (n : ℕ) × IsBalanced tokens aliases fits d a n × (sees tokens (kind aliases (closer_kind closer)) n ≡ true) × (b ≡ n + 1)

  -- What a text of a part is, with what it goes on with.
  abbrev pub Means : (s : Sort) → Call s → Node s → (a b : ℕ) → Type 0
  Means _ (expression aliases d k) x a b = IsExpression tokens aliases fits d k x a b
  Means _ (operation aliases d k start l) x a b = IsExpression tokens aliases fits d k x start b
  Means _ (operand aliases d) x a b = IsUnary tokens aliases fits d x a b
  Means _ (postfix aliases d start base) x a b = IsPostfix tokens aliases fits d x start b
  Means _ (series aliases d) xs a b = Closed aliases d xs a b
  Means _ (attributes aliases d) xs a b = IsAttributes tokens aliases fits d xs a b
  Means _ (group aliases d) xs a b = IsGroup tokens aliases fits d xs a b
  Means _ (entries aliases d) xs a b = ClosedEntries aliases d xs a b
  Means _ (balanced aliases d closer) x a b = ClosedBalanced aliases d closer a b
  Means _ other x a b = ⊥

  -- What a beginning of a part is, with what it goes on with. A part that ends with a closing token may already be closed.
  abbrev pub Begun : (s : Sort) → Call s → (a b : ℕ) → Type 0
  Begun _ (expression aliases d k) a b = BeginsExpression tokens aliases fits d k a b
  Begun _ (operation aliases d k start l) a b = BeginsExpression tokens aliases fits d k start b
  Begun _ (operand aliases d) a b = BeginsUnary tokens aliases fits d a b
  Begun _ (postfix aliases d start base) a b = BeginsUnary tokens aliases fits d start b
  Begun _ (series aliases d) a b =
      BeginsArguments tokens aliases fits d a b ⊎ ((xs : Arguments) × Closed aliases d xs a b)
  Begun _ (attributes aliases d) a b = BeginsAttributes tokens aliases fits d a b
  Begun _ (group aliases d) a b = BeginsGroup tokens aliases fits d a b
  Begun _ (entries aliases d) a b =
      BeginsEntries tokens aliases fits d a b ⊎ ((xs : List Attribute) × ClosedEntries aliases d xs a b)
  Begun _ (balanced aliases d closer) a b = BeginsBalanced tokens aliases fits d a b ⊎ ClosedBalanced aliases d closer a b
  Begun _ other a b = ⊥

  -- What is refused in a part, and by which rule: attributes alone.
  abbrev pub Refused : (s : Sort) → Call s → (a b q : ℕ) → Type 0
  Refused an_expression c a b q = ⊥
  Refused some_arguments c a b q = ⊥
  Refused a_skip c a b q = ⊥
  Refused _ (attributes aliases d) a b q = RefusesAttributes tokens aliases fits d a b q
  Refused _ (group aliases d) a b q = RefusesGroup tokens aliases fits d a b q
  Refused _ (entries aliases d) a b q = RefusesEntries tokens aliases fits d a b q
  Refused _ other a b q = ⊥

  abbrev pub Keeps : (s : Sort) → (Node s → ℕ → Type 0) → Row s → ℕ → Type 0
  Keeps s P f a = all.Keeps (rule tokens) (sees tokens) fits Needs Means s P f a

  abbrev pub Opens : (s : Sort) → (ℕ → Type 0) → (ℕ → ℕ → Type 0) → Row s → ℕ → Type 0
  Opens s B R f a = all.Opens (rule tokens) (sees tokens) fits Needs Means Begun Refused s B R f a
