-- Members one by one: what is wrong with them, which they are, and their nodes.
use Rattle.std.proofs.Common.{◌≡◌, ◌∙◌, ℕ, ◌+◌, suc, List, [], ◌∷◌, ◌++◌, drop, None, Err, refl, sym, ap, subst}
use Rattle.tsa_tree.specs.declared.decl.Decl.{Decl}
use Rattle.tsa_tree.specs.declarations.Shapes.{decl_shape, decl_shapes}
use Rattle.tsa_tree.specs.types.Premises.{Premise, first}
use Rattle.tsa_tree.specs.types.Scopes.{Scope, Members}
use Rattle.tsa_tree.specs.types.Structs.{member_premises, with_member, members_premises, members_behind}
use Rattle.tsa_types_row.specs.ItemRows.{row_in_member, row_in_members}
use Rattle.tsa_types_row.specs.declared.node.Node.{Node}
use Rattle.tsa_types_expressions.specs.declared.refusal.TypeRefusal.{TypeRefusal}
use Rattle.tsa_types_expressions.specs.Judgements.{Judges}
use Rattle.tsa_types_expressions.proofs.RowLaws.{Notes, noted}
use Rattle.tsa_types_declarations.proofs.Lists.{premises_end, premises_stop, premises_next, behind_end, behind_next, names_end, names_next}

module _ (here : Scope) where
  -- the members with a further one
  abbrev further : Members → Decl → Members
  further before d = with_member here before (decl_shape d)

  -- the premises of members, of one, and which they are
  abbrev wrong : Members → List Decl → List Premise
  wrong before decls = members_premises here before (decl_shapes decls)

  abbrev own : Members → Decl → List Premise
  own before d = member_premises here before (decl_shape d)

  abbrev behind : Members → List Decl → Members
  behind before decls = members_behind here before (decl_shapes decls)

  -- the nodes of members, and of one
  abbrev nodes : Members → List Decl → List Node
  nodes before decls = row_in_members here before (decl_shapes decls)

  abbrev own_nodes : Members → Decl → List Node
  own_nodes before d = row_in_member here before (decl_shape d)

  -- each by the rest
  wrong_nil : (before : Members) → wrong before [] ≡ []
  unfolding members_premises
  wrong_nil before = refl

  wrong_more : (before : Members) (d : Decl) (rest : List Decl) → wrong before (d ∷ rest) ≡ own before d ++ wrong (further before d) rest
  unfolding members_premises
  wrong_more before d rest = refl

  behind_nil : (before : Members) → behind before [] ≡ before
  unfolding members_behind
  behind_nil before = refl

  behind_more : (before : Members) (d : Decl) (rest : List Decl) → behind before (d ∷ rest) ≡ behind (further before d) rest
  unfolding members_behind
  behind_more before d rest = refl

  nodes_nil : (before : Members) → nodes before [] ≡ []
  unfolding row_in_members
  nodes_nil before = refl

  nodes_more : (before : Members) (d : Decl) (rest : List Decl) → nodes before (d ∷ rest) ≡ own_nodes before d ++ nodes (further before d) rest
  unfolding row_in_members
  nodes_more before d rest = refl

  module _ (decls : List Decl) (i : ℕ) (before : Members) where
    -- none is left
    pub members_end : drop i decls ≡ [] → first (wrong before (drop i decls)) ≡ None
    members_end = premises_end further decls i before wrong own wrong_nil

    pub known_end : drop i decls ≡ [] → behind before (drop i decls) ≡ before
    known_end = behind_end further decls i before behind (λ m. m) behind_nil

    pub noted_end : (notes : Notes) → drop i decls ≡ [] → noted notes (nodes before (drop i decls)) ≡ notes
    noted_end notes = names_end further decls i before nodes own_nodes notes nodes_nil

    -- the scope stays the same from member to member
    module _ (d : Decl) (at_i : drop i decls ≡ d ∷ drop (suc i) decls) (there : Scope) (same : there ≡ here) where
      -- the next one is refused
      pub members_stop : (e : TypeRefusal) → Judges (first (member_premises there before (decl_shape d))) (Err e) → Judges (first (wrong before (drop i decls))) (Err e)
      members_stop e h =
          premises_stop further decls i before wrong own wrong_more d at_i e (subst (λ x. Judges (first (member_premises x before (decl_shape d))) (Err e)) same h)

      module _ (after : Members) (known : after ≡ with_member there before (decl_shape d)) where
        -- the members are those with it
        moves : after ≡ further before d
        moves = known ∙ ap (λ x. with_member x before (decl_shape d)) same

        -- the next one holds
        pub members_next : first (member_premises there before (decl_shape d)) ≡ None → first (wrong after (drop (i + 1) decls)) ≡ first (wrong before (drop i decls))
        members_next none =
            premises_next further decls i before wrong own wrong_more d at_i after (sym (ap (λ x. first (member_premises x before (decl_shape d))) same) ∙ none) moves

        pub known_next : behind after (drop (i + 1) decls) ≡ behind before (drop i decls)
        known_next = behind_next further decls i before behind (λ m. m) behind_more d at_i after moves

        pub noted_next : (notes noticed : Notes) → noticed ≡ noted notes (row_in_member there before (decl_shape d))
            → noted noticed (nodes after (drop (i + 1) decls)) ≡ noted notes (nodes before (drop i decls))
        noted_next notes noticed is =
            names_next further decls i before nodes own_nodes notes nodes_more d at_i after noticed moves
            (is ∙ ap (λ x. noted notes (row_in_member x before (decl_shape d))) same)
