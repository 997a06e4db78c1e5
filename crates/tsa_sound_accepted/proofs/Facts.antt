-- A unit in the profile of which no rule fails meets all that the laws of turns ask of a program.
use Rattle.std.proofs.Common.{◌≡◌, ℕ, List, refl, sym, subst}
use Rattle.std.specs.Prelude.{IsSome}
use Rattle.tsa_tree.specs.units.Syntax.{UnitItem}
use Rattle.tsa_place_model.specs.Calls.{Layout}
use Rattle.tsa_place_model.specs.Units.{laid_in}
use Rattle.tsa_core.specs.Programs.{Program, program_of}
use Rattle.tsa_core.proofs.ProgramKinds.{program_layout}
use Rattle.tsa_path.specs.Laws.{IsSmall}
use Rattle.tsa_rules.specs.Points.{function_at}
use Rattle.tsa_rules.specs.Warnings.{HasNoWarnings}
use Rattle.tsa_sound.specs.Facts.{FunctionFacts, PointFacts, ProgramFacts}
use Rattle.tsa_sound.specs.FramesFit.{ProgramRows}
use Rattle.tsa_sound.specs.LaidOut.{LaidOut}
use Rattle.tsa_profile.specs.Paths.{paths_of}
use Rattle.tsa_sound_accepted.specs.terms.Units.{IsInProfile}
use Rattle.tsa_sound_accepted.proofs.terms.PointsFit.{arguments_have_their_paths, points_have_their_terms}
use Rattle.tsa_sound_accepted.proofs.laid.Laying.{places_are_laid_out}
use Rattle.tsa_sound_accepted.specs.kept.Visits.{rows_of}
use Rattle.tsa_sound_accepted.proofs.kept.Functions.{locals_are_set_apart, units_keep_their_rows}
use Rattle.tsa_sound_accepted.proofs.called.CallsMeet.{calls_have_their_facts}
use Rattle.tsa_sound_accepted.proofs.entered.FunctionBodies.{bodies_may_be_entered}

-- the paths of each function, and the rows that are read off its walks
abbrev pub program_rows : Program → ProgramRows
program_rows u = record { paths = λ n. paths_of u (function_at u n); rows = λ n. rows_of u (function_at u n) }

module _ (items : List UnitItem) (l : Layout) (u : Program) (is : u ≡ program_of items) (ready : IsInProfile items l) (quiet : HasNoWarnings u) where
  module _ (n : ℕ) (bodied : IsSome (function_at u n).body) where
    point_facts : (p : ℕ) → PointFacts u (paths_of u (function_at u n)) (function_at u n) p
    point_facts p =
        let terms = points_have_their_terms items l u n ready is bodied p in
        let apart = locals_are_set_apart items l ready.typed ready.placed ready.profiled u (sym is) n bodied p in
        record {
          kinds = terms.kinds;
          args_fit = terms.args_fit;
          right_fits = terms.right_fits;
          left_fits = terms.left_fits;
          args_read = terms.args_read;
          right_read = terms.right_read;
          left_read = terms.left_read;
          old_read = terms.old_read;
          whole = terms.whole;
          written = terms.written;
          whole_local = terms.whole_local;
          assigned = apart.assigned;
          attributes = apart.attributes;
          tries = apart.tries;
          silent = terms.silent;
          goes_on = terms.goes_on;
          calls = calls_have_their_facts items l u n ready is bodied p;
        }

    function_facts : FunctionFacts u (program_rows u) n
    function_facts =
        let rows = units_keep_their_rows items u (sym is) quiet n bodied in
        record {
          kept = rows.kept;
          possible = rows.possible;
          once = rows.once;
          own = rows.own;
          called = rows.called;
          points = point_facts;
          entered = bodies_may_be_entered items l u n ready is bodied;
          leads = arguments_have_their_paths items l u n ready is bodied;
        }

  pub program_facts : ProgramFacts u (program_rows u)
  program_facts = record {
    laid = subst (λ v. LaidOut v.layout) (sym is) (subst LaidOut (sym (program_layout items (laid_in items) refl)) (places_are_laid_out items));
    small = subst (λ v. IsSmall v.layout) (sym is) (subst IsSmall (sym (program_layout items l ready.placed)) ready.small);
    functions = λ n bodied. function_facts n bodied;
  }
