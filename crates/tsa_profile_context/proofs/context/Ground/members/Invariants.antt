use Rattle.std.proofs.Common.{◌≡◌, [], drop}
use Rattle.tsa_place_model.specs.Parts.{members_after}
use Rattle.tsa_profile_accesses.specs.Premises.{first}
use Rattle.tsa_tree.specs.declarations.Shapes.{decl_shapes}
use Rattle.tsa_tree.specs.types.Scopes.{with_owned}
use Rattle.tsa_profile_context.specs.Judging.{unit_at, with_scope}
use Rattle.tsa_profile_context.specs.Units.{member_premises}
use Rattle.tsa_profile_context.proofs.context.Ground.members.Given as goal

-- the members so far are looked up first, what is left to ask is what decides, and what is known behind it is what is known behind all
abbrev pub invariant-each : goal.invariant-each
invariant-each l = record {
  known : l.known ≡ with_scope (with_owned l.known.here.owned l.fn.known.here) l.fn.known;
  judged : first (member_premises (unit_at l.self) l.fn.known.attributes l.fn.known.here l.known.here.owned (decl_shapes (drop l.decl-index l.decls)))
      ≡ first (member_premises (unit_at l.self) l.fn.known.attributes l.fn.known.here [] (decl_shapes l.decls));
  behind : members_after l.fn.known.here l.known.here.owned (decl_shapes (drop l.decl-index l.decls)) ≡ members_after l.fn.known.here [] (decl_shapes l.decls);
}
