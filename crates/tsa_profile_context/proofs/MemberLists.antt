-- Members one by one, each behind those before it.
use Rattle.std.proofs.Common.{◌≡◌, ◌∙◌, ℕ, ◌+◌, suc, List, [], ◌∷◌, drop, Option, None, Err, sym, ap, subst}
use Rattle.tsa_tree.specs.declarations.Shapes.{decl_shape, decl_shapes}
use Rattle.tsa_tree.specs.declarations.Syntax.{Declaration}
use Rattle.tsa_tree.specs.declared.decl.Decl.{Decl}
use Rattle.tsa_tree.specs.types.Scopes.{Scope, Members, with_owned}
use Rattle.tsa_place_model.specs.Parts.{member_behind, members_after}
use Rattle.tsa_core.specs.Programs.{Attr}
use Rattle.tsa_profile_accesses.specs.declared.premise.Failure.{Failure}
use Rattle.tsa_profile_accesses.specs.Premises.{or_else, first}
use Rattle.tsa_core_environment.specs.Members.{behind_member}
use Rattle.tsa_profile_points.specs.Declarations.{guard_premises}
use Rattle.tsa_profile_context.specs.ItemJudgements.{Judges}
use Rattle.tsa_profile_context.specs.Judging.{Knowledge, with_scope}
use Rattle.tsa_profile_context.specs.Units.{Unit, member_premises, view_in}
use Rattle.tsa_profile_context.specs.declared.refusal.ProfileRefusal.{ProfileRefusal}
use Rattle.tsa_profile_context.proofs.Sequences.{judges_some}
use Rattle.tsa_base.proofs.Numbers.{plus_one}
use Rattle.tsa_profile_points.proofs.Failures.{first_append}

-- where no members are looked up first, a member is known behind others as the struct has it
alone : (here : Scope) → here.owned ≡ [] → with_owned [] here ≡ here
alone here e = ap (λ o. with_owned o here) (sym e)

known_behind : (here : Scope) (before : Members) (d : Declaration) → here.owned ≡ [] → behind_member (with_owned before here) d ≡ with_owned (member_behind here before d) here
known_behind here before d e = ap (λ h. with_owned (member_behind h before d) here) (alone here e)

module _ (u : Unit) (attributes : List (List Attr)) (here : Scope) (members : List Decl) (i : ℕ) (before : Members) where
  abbrev wrong_from : Members → ℕ → Option Failure
  wrong_from m j = first (member_premises u attributes here m (decl_shapes (drop j members)))

  pub members_end : drop i members ≡ [] → wrong_from before i ≡ None
  unfolding member_premises first
  members_end e = ap (λ xs. first (member_premises u attributes here before (decl_shapes xs))) e

  pub known_end : drop i members ≡ [] → members_after here before (decl_shapes (drop i members)) ≡ before
  unfolding members_after
  known_end e = ap (λ xs. members_after here before (decl_shapes xs)) e

  module _ (x : Decl) (at_i : drop i members ≡ x ∷ drop (suc i) members) where
    abbrev own : Option Failure
    own = first (guard_premises (view_in u attributes (with_owned before here)) (decl_shape x).attrs)

    abbrev after : Members
    after = member_behind here before (decl_shape x)

    members_more : wrong_from before i ≡ or_else own (wrong_from after (suc i))
    unfolding member_premises
    members_more =
        ap (λ xs. first (member_premises u attributes here before (decl_shapes xs))) at_i
        ∙ first_append (guard_premises (view_in u attributes (with_owned before here)) (decl_shape x).attrs) (member_premises u attributes here after (decl_shapes (drop (suc i) members)))

    pub members_stop : (e : ProfileRefusal) → Judges own (Err e) → Judges (wrong_from before i) (Err e)
    members_stop e h = subst (λ o. Judges o (Err e)) (sym members_more) (judges_some own (wrong_from after (suc i)) e h)

    pub members_next : own ≡ None → wrong_from after (i + 1) ≡ wrong_from before i
    members_next none =
        ap (wrong_from after) (sym (plus_one i)) ∙ sym (members_more ∙ ap (λ o. or_else o (wrong_from after (suc i))) none)

    pub known_next : members_after here after (decl_shapes (drop (i + 1) members)) ≡ members_after here before (decl_shapes (drop i members))
    unfolding members_after
    known_next = ap (λ j. members_after here after (decl_shapes (drop j members))) (sym (plus_one i)) ∙ sym (ap (λ xs. members_after here before (decl_shapes xs)) at_i)

-- the members so far are looked up first
module _ (u : Unit) (k : Knowledge) (outside : k.here.owned ≡ []) (members : List Decl) (i : ℕ) (now : Knowledge) (known : now ≡ with_scope (with_owned now.here.owned k.here) k)
    (x : Decl) (at_i : drop i members ≡ x ∷ drop (suc i) members) where
  abbrev so_far : Members
  so_far = now.here.owned

  abbrev with_x : Members
  with_x = member_behind k.here so_far (decl_shape x)

  -- what a member is asked, as it is asked beside the whole struct
  asked : first (guard_premises (view_in u now.attributes now.here) (decl_shape x).attrs) ≡ own u k.attributes k.here members i so_far x at_i
  asked = ap (λ m. first (guard_premises (view_in u m.attributes m.here) (decl_shape x).attrs)) known

  pub member_stops : (e : ProfileRefusal) → Judges (first (guard_premises (view_in u now.attributes now.here) (decl_shape x).attrs)) (Err e)
      → Judges (first (member_premises u k.attributes k.here so_far (decl_shapes (drop i members)))) (Err e)
  member_stops e h = members_stop u k.attributes k.here members i so_far x at_i e (subst (λ o. Judges o (Err e)) asked h)

  module _ (next : Knowledge) (told : next ≡ with_scope (behind_member now.here (decl_shape x)) now) where
    behind_is : next ≡ with_scope (with_owned with_x k.here) k
    behind_is =
        told
        ∙ ap (λ m. with_scope (behind_member m.here (decl_shape x)) m) known
        ∙ ap (λ h. with_scope h k) (known_behind k.here so_far (decl_shape x) outside)

    pub member_known : next ≡ with_scope (with_owned next.here.owned k.here) k
    member_known = behind_is ∙ sym (ap (λ m. with_scope (with_owned m.here.owned k.here) k) behind_is)

    pub member_judged : first (guard_premises (view_in u now.attributes now.here) (decl_shape x).attrs) ≡ None
        → first (member_premises u k.attributes k.here next.here.owned (decl_shapes (drop (i + 1) members)))
        ≡ first (member_premises u k.attributes k.here so_far (decl_shapes (drop i members)))
    member_judged none =
        ap (λ m. first (member_premises u k.attributes k.here m.here.owned (decl_shapes (drop (i + 1) members)))) behind_is
        ∙ members_next u k.attributes k.here members i so_far x at_i (sym asked ∙ none)

    pub member_behind_all : members_after k.here next.here.owned (decl_shapes (drop (i + 1) members)) ≡ members_after k.here so_far (decl_shapes (drop i members))
    member_behind_all =
        ap (λ m. members_after k.here m.here.owned (decl_shapes (drop (i + 1) members))) behind_is ∙ known_next u k.attributes k.here members i so_far x at_i
