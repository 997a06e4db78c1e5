-- Members one after another: what they are, and what is known by name behind them.
use Rattle.std.proofs.Common.{◌≡◌, ◌∙◌, ℕ, suc, ◌+◌, arith, List, [], ◌∷◌, ◌++◌, drop, refl, sym, ap}
use Rattle.std.proofs.lemmas.List.{append-nil, append_assoc}
use Rattle.tsa_tree.specs.declared.decl.Decl.{Decl}
use Rattle.tsa_tree.specs.declarations.Shapes.{decl_shape, decl_shapes}
use Rattle.tsa_tree.specs.types.Scopes.{Scope, Members, with_owned}
use Rattle.tsa_place_model.specs.Layouts.{Part}
use Rattle.tsa_place_model.specs.Parts.{part_in, member_behind, members_after, parts_behind}

module _ (here : Scope) (before : Members) where
  no_parts : parts_behind here before (decl_shapes []) ≡ []
  unfolding parts_behind
  no_parts = refl

  more_parts : (d : Decl) (rest : List Decl) → parts_behind here before (decl_shapes (d ∷ rest))
      ≡ part_in here (with_owned before here) (decl_shape d) ∷ parts_behind here (member_behind here before (decl_shape d)) (decl_shapes rest)
  unfolding parts_behind
  more_parts d rest = refl

  none_known : members_after here before (decl_shapes []) ≡ before
  unfolding members_after
  none_known = refl

  more_known : (d : Decl) (rest : List Decl) → members_after here before (decl_shapes (d ∷ rest)) ≡ members_after here (member_behind here before (decl_shape d)) (decl_shapes rest)
  unfolding members_after
  more_known d rest = refl

  module _ (decls : List Decl) (i : ℕ) where
    -- none is left
    pub parts_end : (parts : List Part) → drop i decls ≡ [] → parts ++ parts_behind here before (decl_shapes (drop i decls)) ≡ parts
    parts_end parts e = ap (λ l. parts ++ parts_behind here before (decl_shapes l)) e ∙ ap (λ l. parts ++ l) no_parts ∙ append-nil parts

    pub known_end : drop i decls ≡ [] → members_after here before (decl_shapes (drop i decls)) ≡ before
    known_end e = ap (λ l. members_after here before (decl_shapes l)) e ∙ none_known

    -- the next one
    module _ (d : Decl) (at_i : drop i decls ≡ d ∷ drop (suc i) decls) (there : Scope) (same : there ≡ here) (after : Members) (known : after ≡ member_behind there before (decl_shape d)) where
      moves : after ≡ member_behind here before (decl_shape d)
      moves = known ∙ ap (λ s. member_behind s before (decl_shape d)) same

      plus : suc i ≡ i + 1
      plus = omega arith

      pub parts_next : (parts longer : List Part) (p : Part) → longer ≡ parts ++ p ∷ [] → p ≡ part_in there (with_owned before there) (decl_shape d)
          → longer ++ parts_behind here after (decl_shapes (drop (i + 1) decls)) ≡ parts ++ parts_behind here before (decl_shapes (drop i decls))
      parts_next parts longer p is own =
          let rest = parts_behind here (member_behind here before (decl_shape d)) (decl_shapes (drop (suc i) decls)) in
          ap (λ l. l ++ parts_behind here after (decl_shapes (drop (i + 1) decls))) is
          ∙ ap (λ m. (parts ++ p ∷ []) ++ parts_behind here m (decl_shapes (drop (i + 1) decls))) moves
          ∙ ap (λ j. (parts ++ p ∷ []) ++ parts_behind here (member_behind here before (decl_shape d)) (decl_shapes (drop j decls))) (sym plus)
          ∙ append_assoc parts (p ∷ []) rest
          ∙ ap (λ q. parts ++ q ∷ rest) (own ∙ ap (λ s. part_in s (with_owned before s) (decl_shape d)) same)
          ∙ ap (λ l. parts ++ l) (sym (more_parts d (drop (suc i) decls)))
          ∙ ap (λ l. parts ++ parts_behind here before (decl_shapes l)) (sym at_i)

      pub known_next : members_after here after (decl_shapes (drop (i + 1) decls)) ≡ members_after here before (decl_shapes (drop i decls))
      known_next =
          ap (λ m. members_after here m (decl_shapes (drop (i + 1) decls))) moves
          ∙ ap (λ j. members_after here (member_behind here before (decl_shape d)) (decl_shapes (drop j decls))) (sym plus)
          ∙ sym (more_known d (drop (suc i) decls)) ∙ ap (λ l. members_after here before (decl_shapes l)) (sym at_i)
