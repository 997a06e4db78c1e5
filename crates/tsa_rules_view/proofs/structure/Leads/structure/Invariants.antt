use Rattle.std.proofs.Common.{◌≡◌, drop}
use Rattle.tsa_rules.specs.Attributes.{struct_along}
use Rattle.tsa_rules_view.specs.Structs.{struct_by}
use Rattle.tsa_rules_view.proofs.structure.Leads.structure.Given as goal

abbrev pub invariant-each : goal.invariant-each
invariant-each l = record {
  led : struct_along l.self.layout.now (drop l.step-index l.path.steps) l.structure ≡ struct_by l.self.layout.now l.self.locals.now l.path;
}
