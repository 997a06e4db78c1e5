use Rattle.std.proofs.Common.{rules}
use Rattle.tsa_expr.proofs.Answering.{gives_same}
use Rattle.tsa_decl.proofs.BegunLaws.{leads_without}
use Rattle.tsa_decl.proofs.ItemLaws.{declared_nameless, declared_globals, function_fails, function_begins}
use Rattle.tsa_decl.proofs.items.globals_or_head.Goals as goal

pub returns-in_err-of-clause-leads : goal.returns-in_err-of-clause-leads
returns-in_err-of-clause-leads c = search (rules, declared_nameless)

pub returns-in-Open-clause-leads : goal.returns-in-Open-clause-leads
returns-in-Open-clause-leads c = search (rules, function_fails, function_begins)

pub returns-in_default : goal.returns-in_default
returns-in_default c = record {
  leads = λ bodies. leads_without _ _ bodies _ _ _ _ c.without_head.ensures.cases (gives_same _ _ _ _ (search (rules, declared_globals)) c.globals.ensures.gives);
  bodiless = search rules;
  kept = search rules;
  pointed = search rules;
  ends = search rules;
  lent = search rules;
}
