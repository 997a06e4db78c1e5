-- What reading by the rows gives for the pieces of a part.
use Rattle.std.specs.Prelude.{ℕ, ◌+◌, List, [], ◌∷◌, ◌++◌, Ok, Err}
use Rattle.tsa_base.specs.Tokens.{Lexeme}
use Rattle.tsa_tree.specs.declared.attr.AttrKind.{AttrKind}
use Rattle.tsa_tree.specs.declared.sign.Meaning.{Meaning}
use Rattle.tsa_tree.specs.declared.sign.Meaning.TheVariants as mean
use Rattle.tsa_tree.specs.expressions.Answers.{below_limit}
use Rattle.tsa_tree.specs.attributes.Refusals.{left_out, lacking}
use Rattle.tsa_tree.specs.attributes.Syntax.{Attribute, Taking, taking}
use Rattle.tsa_tree.specs.Reads.{read}
use Rattle.tsa_tree.specs.Rows.{some_attributes, a_skip, balanced, Kind, an_open, closing_parenthesis, sees, lacks, arguments_row}
use Rattle.tsa_tree.specs.Rows.{entries_end}
use Rattle.tsa_tree.specs.tokens.Signs.{Aliases, is_word_at, entry_meaning}
use Rattle.tsa_expr.specs.declared.refusal.SyntaxRefusal.{SyntaxRefusal}
use Rattle.tsa_expr.specs.declared.refusal.SyntaxRefusal.TheVariants.{At, NoMemory}
use Rattle.tsa_expr.specs.declared.refusal.SyntaxCode.TheVariants.{SY1, AT1, AT2, LM2}
use Rattle.tsa_grammar.specs.Form.{done}
use Rattle.tsa_grammar.specs.Reading.{Outcome, refuse, syntax, deep, barred, then, choose, follow}

-- the attributes after those that were there before
abbrev pub after : List Attribute → Outcome (List Attribute) → Outcome (List Attribute)
after front read = then read (λ xs at. Ok (front ++ xs, at))

module _ (tokens : List Lexeme) where
  -- one token of a kind
  unfoldable pub one_token : Kind → (at : ℕ) → Outcome (Unit {0})
  one_token k at = choose (sees tokens k at) (Ok (tt, at + 1)) (Err (refuse syntax at))

module _ (tokens : List Lexeme) (aliases : Aliases) where
  -- a parenthesis that opens a construct, where d are open
  unfoldable pub opening : (d at : ℕ) → Outcome (Unit {0})
  opening d at =
      choose (sees tokens (an_open aliases) at) (choose (below_limit d) (Ok (tt, at + 1)) (Err (refuse deep at))) (Err (refuse syntax at))

  -- what the attribute at m takes, after its parenthesis
  unfoldable pub arguments_at : (d : ℕ) → AttrKind → (m : ℕ) → Taking → Outcome (List Attribute)
  arguments_at d k m takes =
      follow (sees tokens) below_limit (read tokens) some_attributes (arguments_row tokens aliases d k m takes (λ x e. done (x ∷ []))) (m + 1 + 1)

  -- the attribute whose name or macro word stands at m
  unfoldable pub attribute_at : (d : ℕ) → AttrKind → (m : ℕ) → Outcome (List Attribute)
  attribute_at d k m =
      choose (lacks tokens aliases k m) (Err (refuse (barred lacking) m))
      (then (opening d (m + 1)) (λ u n. arguments_at (d + 1) k m (taking k)))

  -- the name at m that says nothing of threads, with its list where it has one
  unfoldable pub ignored_at : (d m : ℕ) → Outcome (Unit {0})
  ignored_at d m =
      choose (sees tokens (an_open aliases) (m + 1))
      (then (opening d (m + 1)) (λ u n. read tokens a_skip (balanced aliases (d + 1) closing_parenthesis) n)) (Ok (tt, m + 1))

  abbrev pub entry_by : (d m : ℕ) → Meaning → Outcome (List Attribute)
  entry_by d m (mean.Known k) = attribute_at d k m
  entry_by d m mean.LeftOut = Err (refuse (barred left_out) m)
  entry_by d m mean.Ignored = then (ignored_at d m) (λ u e. Ok ([], e))

  -- what stands between two commas of a list of attributes
  unfoldable pub entry_at : (d m : ℕ) → Outcome (List Attribute)
  entry_at d m = choose (is_word_at tokens m) (entry_by d m (entry_meaning tokens aliases m)) (Err (refuse syntax m))

  -- the entries after some that end at e
  unfoldable pub entries_on : (d : ℕ) → List Attribute → (e : ℕ) → Outcome (List Attribute)
  entries_on d front e = follow (sees tokens) below_limit (read tokens) some_attributes (entries_end tokens aliases d front e) e

-- a refusal of attributes: SY1, AT1, AT2, LM2 or want of memory
abbrev pub IsOfAttributes : SyntaxRefusal → Type 0
IsOfAttributes (At SY1 token) = Unit {0}
IsOfAttributes (At AT1 token) = Unit {0}
IsOfAttributes (At AT2 token) = Unit {0}
IsOfAttributes (At LM2 token) = Unit {0}
IsOfAttributes NoMemory = Unit {0}
IsOfAttributes _ = ⊥
