-- The rows of locals, part by part.
use Rattle.std.proofs.Common.{◌≡◌, ◌∙◌, ℕ, [], ◌∷◌, ◌++◌, length, refl, sym, ap}
use Rattle.tsa_base.specs.declared.token.Span.{Span}
use Rattle.tsa_tree.specs.declarations.Syntax.{Declaration, Initialisers, list}
use Rattle.tsa_tree.specs.declared.meaning.Symbol.TheVariants as symbol
use Rattle.tsa_tree.specs.types.Scopes.{Scope}
use Rattle.tsa_types_row.specs.BodyRows.{aside_given, aside_attributes, aside_items, declared_row, row_in_init, row_in_given_init, local_node}
use Rattle.tsa_types_row.specs.BodyRows.{local_parts, row_in_local}
use Rattle.tsa_types_row.specs.Rows.{closed, framed, hole}
use Rattle.tsa_types_row.specs.declared.node.Node.{Node}
use Rattle.tsa_types_expressions.proofs.RowLaws.{Notes, noted, noted_append, closed_is}

module _ (here : Scope) (f : ℕ) where
  -- a list that goes to a local stands aside
  pub init_list : (notes : Notes) (items : Initialisers) (span : Span) → noted notes (row_in_init here f (list items span)) ≡ noted notes (aside_items here f items)
  unfolding row_in_init
  init_list notes items span = refl

  -- a local in front of its parts, which came one behind the other
  pub local_row : (d : Declaration) (notes opened named measured guarded begun : Notes) (place : ℕ) (node : Node) → place ≡ length notes
      → opened ≡ noted notes (hole ∷ [])
      → named ≡ noted opened (declared_row (symbol.Local f here.locals) d.name.span)
      → measured ≡ noted named (aside_given here f d.ctype.length)
      → guarded ≡ noted measured (aside_attributes here f d.attrs)
      → begun ≡ noted guarded (row_in_given_init here f d.init)
      → node ≡ local_node here d
      → closed place node begun ≡ noted notes (row_in_local here f d)
  unfolding row_in_local local_parts
  local_row d notes opened named measured guarded begun place node at p q r s t is =
      let base = noted notes (hole ∷ []) in
      let name = declared_row (symbol.Local f here.locals) d.name.span in
      let size = aside_given here f d.ctype.length in
      let marks = aside_attributes here f d.attrs in
      let init = row_in_given_init here f d.init in
      closed_is notes place node (name ++ (size ++ (marks ++ init))) begun at
      (t
      ∙ ap (λ x. noted x init) s
      ∙ ap (λ x. noted (noted x marks) init) r
      ∙ ap (λ x. noted (noted (noted x size) marks) init) q
      ∙ ap (λ x. noted (noted (noted (noted x name) size) marks) init) p
      ∙ sym (noted_append base name (size ++ (marks ++ init)) ∙ noted_append (noted base name) size (marks ++ init) ∙ noted_append (noted (noted base name) size) marks init))
      ∙ ap (λ n. noted notes (framed n (name ++ (size ++ (marks ++ init))))) is
