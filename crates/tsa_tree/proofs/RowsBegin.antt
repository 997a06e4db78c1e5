-- What stands where a part begins.
use Rattle.std.proofs.Common.{ℕ, ◌≡◌, refl, true, false, Option, Some, None, List, inl, inr}
use Rattle.tsa_base.specs.Tokens.{Lexeme}
use Rattle.tsa_tree.specs.declared.expr.UnaryOp.{UnaryOp}
use Rattle.tsa_tree.specs.declared.expr.BinaryOp.{BinaryOp}
use Rattle.tsa_tree.specs.declared.sign.Sign.{Sign}
use Rattle.tsa_tree.specs.declared.sign.Sign.TheVariants as sign
use Rattle.tsa_tree.specs.expressions.Syntax.{Expression}
use Rattle.tsa_tree.specs.tokens.Signs.{Aliases, sign_at, operator, prefix_of, entry_meaning}
use Rattle.tsa_tree.specs.Rows.{Sort, an_expression, Call, expression, operation, operand, postfix, series, attributes, group, entries}
use Rattle.tsa_tree.specs.Rows.{consts, storage, specifier, declarator, initialiser, initialisers, declared_rest, declarators, member_line}
use Rattle.tsa_tree.specs.Rows.{variable, variables, locals, parameter_list, signature, struct_body, constants, enum_body, declared, item}
use Rattle.tsa_tree.specs.Rows.{items, simple, statement, statements, Kind, an_operator, is_postfix, operation_row, postfix_row, prefix_row}
use Rattle.tsa_tree.specs.Rows.{operand_row, rule}
use Rattle.tsa_tree.proofs.RowFacts.{is_prefix, begins_operand, First, Start, never}
use Rattle.tsa_tree.proofs.attributes.Meet.{first_group, first_entry}
use Rattle.tsa_tree.proofs.declarations.Meet.{first_specifier, first_declarator, first_initialiser}
use Rattle.tsa_tree.proofs.declarations.DeclaratorsMeet.{first_rest}
use Rattle.tsa_tree.proofs.statements.Meet.{first_simple, first_statement}
use Rattle.tsa_tree.proofs.statements.BlocksMeet.{first_statements}
use Rattle.tsa_tree.proofs.units.Meet.{first_item, first_items}
use Rattle.tsa_tree.proofs.declarations.ItemsMeet.{first_signature, first_struct_body, first_enum_body}

module _ (tokens : List Lexeme) where
  first_prefix : (aliases : Aliases) (d m : ℕ) (q : Kind) (o : Option UnaryOp)
      → Start tokens an_expression (prefix_row tokens aliases d m q o) m → is_prefix o ≡ true
  first_prefix aliases d m q None h = never tokens m h
  first_prefix aliases d m q (Some o) h = refl

  first_operand : (aliases : Aliases) (d m : ℕ) (s : Sign) → Start tokens an_expression (operand_row tokens aliases d m s) m
      → begins_operand s ≡ true
  first_operand aliases d m sign.Not h = refl
  first_operand aliases d m sign.Flip h = refl
  first_operand aliases d m (sign.Operator o) h = first_prefix aliases d m (an_operator aliases) (prefix_of o) h
  first_operand aliases d m sign.Number h = refl
  first_operand aliases d m sign.Null h = refl
  first_operand aliases d m sign.Name h = refl
  first_operand aliases d m sign.Open h = refl
  first_operand aliases d m _ h = never tokens m h

  first_postfix : (aliases : Aliases) (d start : ℕ) (base : Expression) (m : ℕ) (s : Sign)
      → Start tokens an_expression (postfix_row tokens aliases d start base m s) m → is_postfix s ≡ true
  first_postfix aliases d start base m sign.Dot h = refl
  first_postfix aliases d start base m sign.Arrow h = refl
  first_postfix aliases d start base m sign.OpenBracket h = refl
  first_postfix aliases d start base m _ h = never tokens m h

  first_operation : (aliases : Aliases) (d k start : ℕ) (l : Expression) (m : ℕ) (o : Option BinaryOp)
      → operator (sign_at tokens aliases m) ≡ o
      → Start tokens an_expression (operation_row tokens aliases d k start l m o) m
      → First tokens an_expression (operation aliases d k start l) m
  first_operation aliases d k start l m None e h = never tokens m h
  first_operation aliases d k start l m (Some o) e (inl h) = (o, e, h.0)
  first_operation aliases d k start l m (Some o) e (inr h) = never tokens m h

  -- What stands where a part begins.
  pub firsts : (s : Sort) (c : Call s) (m : ℕ) → Start tokens s (rule tokens s c m) m → First tokens s c m
  firsts _ (expression aliases d k) m h = h
  firsts _ (operation aliases d k start l) m h = first_operation aliases d k start l m (operator (sign_at tokens aliases m)) refl h
  firsts _ (operand aliases d) m h = first_operand aliases d m (sign_at tokens aliases m) h
  firsts _ (postfix aliases d start base) m h = first_postfix aliases d start base m (sign_at tokens aliases m) h
  firsts _ (series aliases d) m h = h
  firsts _ (attributes aliases d) m h = h
  firsts _ (group aliases d) m h = first_group tokens aliases d m (sign_at tokens aliases m) h
  firsts _ (entries aliases d) m h = first_entry tokens aliases d m (entry_meaning tokens aliases m) h
  firsts _ (specifier aliases) m h = first_specifier tokens aliases m (sign_at tokens aliases m) refl h
  firsts _ (declarator aliases) m h = first_declarator tokens aliases m h
  firsts _ (initialiser aliases d) m h = first_initialiser tokens aliases d m h
  firsts _ (declared_rest aliases r d t c) m h = first_rest tokens aliases r d t c m h
  firsts _ (signature aliases) m h = first_signature tokens aliases m h
  firsts _ (struct_body aliases) m h = first_struct_body tokens aliases m h
  firsts _ (enum_body aliases) m h = first_enum_body tokens aliases m h
  firsts _ (consts aliases) m h = h
  firsts _ (storage aliases) m h = h
  firsts _ (initialisers aliases d) m h = h
  firsts _ (declarators aliases r d t) m h = h
  firsts _ (member_line aliases d) m h = h
  firsts _ (variable aliases d t) m h = h
  firsts _ (variables aliases d t) m h = h
  firsts _ (parameter_list aliases) m h = h
  firsts _ (constants aliases) m h = h
  firsts _ (declared aliases bodies t) m h = h
  firsts _ (locals aliases false d) m h = h
  firsts _ (locals aliases true d) m h = h
  firsts _ (item aliases bodies) m h = first_item tokens aliases bodies m (sign_at tokens aliases m) refl h
  firsts _ (items aliases) m h = first_items tokens aliases m h
  firsts _ (simple aliases d) m h = first_simple tokens aliases d m (sign_at tokens aliases m) h
  firsts _ (statement aliases d) m h = first_statement tokens aliases d m (sign_at tokens aliases m) refl h
  firsts _ (statements aliases d) m h = first_statements tokens aliases d m h
  firsts _ other m h = tt
