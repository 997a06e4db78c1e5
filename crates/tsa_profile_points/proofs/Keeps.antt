-- What is kept of a path, of a call and of a point.
use Rattle.std.proofs.Common.{◌≡◌, ◌∙◌, ℕ, Bool, true, false, List, [], ◌∷◌, Option, Some, None, refl, sym, ap, if◌then◌else◌}
use Rattle.std.specs.Prelude.{slice_get, unwrap_or}
use Rattle.tsa_base.specs.declared.token.Span.{Span}
use Rattle.tsa_tree.specs.expressions.Syntax.{Expression}
use Rattle.tsa_tree.specs.points.Syntax.{Deed}
use Rattle.tsa_tree.specs.types.Scopes.{Scope}
use Rattle.tsa_place_model.specs.Ways.{Way}
use Rattle.tsa_core.specs.Programs.{Attr}
use Rattle.tsa_path.specs.declared.refusal.InternRefusal.TheVariants.{Full, NoMemory}
use Rattle.tsa_path.specs.PathTables.{is_full, refusal, with_path}
use Rattle.tsa_core_points.specs.Points.{placed}
use Rattle.tsa_profile_accesses.specs.Accesses.{Access}
use Rattle.tsa_profile_accesses.specs.Arguments.{arguments_of}
use Rattle.tsa_profile_points.specs.Bodies.{Around}
use Rattle.tsa_profile_points.specs.Gathering.{calls_ways, with_all, with_guards, with_way, with_ways}
use Rattle.tsa_profile_points.specs.PointAnswers.{deed_accesses}
use Rattle.tsa_profile_points.specs.Ways.{called_ways, calling, function_called, points_ways, substituted_ways}
use Rattle.tsa_profile_points.proofs.PointPaths.{point_gathers}

-- a path that was taken, and one for which there was no room
pub taken : (full : Bool) (old new : List Way) (w : Way) → new ≡ with_path old w → is_full old w ≡ false
    → (if full then None else Some new) ≡ with_way (if full then None else Some old) w
taken true old new w e h = refl
taken false old new w e h = ap Some e ∙ sym (ap (λ b. if b then None else Some (with_path old w)) h)

for_want : (old : List Way) (v w : Way) (b : Bool) → Full v ≡ (if b then Full w else NoMemory w) → None ≡ (if b then None else Some (with_path old w))
for_want old v w true e = refl
for_want old v w false e = absurd cc

pub refused : (full : Bool) (old : List Way) (v w : Way) → Full v ≡ refusal old w → None ≡ with_way (if full then None else Some old) w
refused true old v w e = refl
refused false old v w e = for_want old v w (is_full old w) e

pub ruleset table_keeps = (taken, refused)

module _ (a : Around) (here : Scope) (e : Expression) (s : Option (List Way)) where
  pub none_called : None ≡ function_called here e → s ≡ with_all s (calls_ways a here (Some e))
  none_called is = ap (λ f. with_all s (called_ways a.attributes (arguments_of a.stable here e) f)) is

  pub none_named : (n : ℕ) → Some n ≡ function_called here e → slice_get a.attributes n ≡ None → s ≡ with_all s (calls_ways a here (Some e))
  none_named n is at =
      sym (ap (λ found. with_all s (substituted_ways (arguments_of a.stable here e) (unwrap_or found []))) at)
      ∙ ap (λ f. with_all s (called_ways a.attributes (arguments_of a.stable here e) f)) is

  pub all_named : (n : ℕ) (locks : List Attr) (ways : List (Option Way)) (new : Option (List Way)) → Some n ≡ function_called here e
      → slice_get a.attributes n ≡ Some locks → ways ≡ arguments_of a.stable here e → new ≡ with_all s (substituted_ways ways locks)
      → new ≡ with_all s (calls_ways a here (Some e))
  all_named n locks ways new is at given made =
      made
      ∙ ap (λ ws. with_all s (substituted_ways ws locks)) given
      ∙ sym (ap (λ found. with_all s (substituted_ways (arguments_of a.stable here e) (unwrap_or found []))) at)
      ∙ ap (λ f. with_all s (called_ways a.attributes (arguments_of a.stable here e) f)) is

pub ruleset callee_keeps = (none_called, none_named, all_named)

-- a point behind others
pub point_keeps : (a : Around) (here : Scope) (deed : Deed) (span : Span) (s one two : Option (List Way)) (found : List Access) → found ≡ deed_accesses a here deed
    → one ≡ with_guards s found → two ≡ with_all one (calls_ways a here (calling deed)) → two ≡ with_ways s (points_ways a (placed here deed span ∷ []))
point_keeps a here deed span s one two found is first then_ =
    then_
    ∙ ap (λ t. with_all t (calls_ways a here (calling deed))) (first ∙ ap (with_guards s) is)
    ∙ point_gathers a here s deed span
