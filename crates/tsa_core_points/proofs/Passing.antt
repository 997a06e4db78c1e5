-- The steps of a body come by its points.
use Rattle.std.proofs.Common.{ℕ, ◌≡◌, ◌∙◌, ◌+◌, List, [], ◌∷◌, ◌++◌, take, length, Option, Some, None, refl, sym, ap, ap₂}
use Rattle.std.proofs.lemmas.List.{append-nil, append_assoc}
use Rattle.tsa_base.specs.declared.token.Span.{Span}
use Rattle.tsa_tree.specs.expressions.Syntax.{Expression}
use Rattle.tsa_tree.specs.points.Syntax.{Deed, ends}
use Rattle.tsa_tree.specs.statements.Syntax.{Simple, evaluation, assignment, ForInit, no_init, simple_init, local_init, Statement, block}
use Rattle.tsa_tree.specs.statements.Syntax.{empty, local, simple, if_alone, if_else, while_loop, do_loop, for_loop, switch, case}
use Rattle.tsa_tree.specs.statements.Syntax.{otherwise, label, break, continue, goto, return, Statements, none, more}
use Rattle.tsa_tree.specs.types.Scopes.{Scope, with_names, further}
use Rattle.tsa_tree.specs.types.Statements.{behind_init, behind, behind_all}
use Rattle.tsa_tree.specs.types.Targets.{declared_in, declared_in_all}
use Rattle.tsa_core_points.specs.Points.{PlacedPoint, placed, placed_init, placed_step, placed_for, placed_in, placed_all}
use Rattle.tsa_core_points.specs.Steps.{BodyStep, does, closes, nested, init_steps, third_steps, test_step, for_test, steps_of}
use Rattle.tsa_core_points.specs.Steps.{steps_of_all}
use Rattle.tsa_core_points.specs.Walks.{Walk, walk, behind_deed, pass, walk_behind, points_at, points_along}
use Rattle.tsa_core_points.specs.Laws.{StatementsArePassed, StepsAreThePoints, BodyStepsAreThePoints}
use Rattle.tsa_core_points.proofs.Closing.{closes_one, closes_all, closes_for, further_further, further_none}

points_append : (w : Walk) (xs ys : List BodyStep) → points_along w (xs ++ ys) ≡ points_along w xs ++ points_along (walk_behind w xs) ys
points_append w [] ys = refl
points_append w (x ∷ xs) ys =
    ap (λ ps. points_at w.here x ++ ps) (points_append (pass w x) xs ys)
    ∙ sym (append_assoc (points_at w.here x) (points_along (pass w x) xs) (points_along (walk_behind (pass w x) xs) ys))

behind_append : (w : Walk) (xs ys : List BodyStep) → walk_behind w (xs ++ ys) ≡ walk_behind (walk_behind w xs) ys
behind_append w [] ys = refl
behind_append w (x ∷ xs) ys = behind_append (pass w x) xs ys

-- the steps come by the points, and lead from one place to another
record Leads (before : Walk) (steps : List BodyStep) (points : List PlacedPoint) (after : Walk) : Type 0 where
  come : points_along before steps ≡ points
  gone : walk_behind before steps ≡ after

both : (a b c : Walk) (xs ys : List BodyStep) (ps qs : List PlacedPoint) → Leads a xs ps b → Leads b ys qs c → Leads a (xs ++ ys) (ps ++ qs) c
both a b c xs ys ps qs one two = record {
  come = points_append a xs ys ∙ ap₂ (λ x y. x ++ y) one.come (ap (λ w. points_along w ys) one.gone ∙ two.come);
  gone = behind_append a xs ys ∙ ap (λ w. walk_behind w ys) one.gone ∙ two.gone;
}

first : (here : Scope) (blocks : List ℕ) (d : Deed) (span : Span) (ys : List BodyStep) (qs : List PlacedPoint) (c : Walk)
    → Leads (walk (behind_deed here d) blocks) ys qs c → Leads (walk here blocks) (does d span ∷ ys) (placed here d span ∷ qs) c
first here blocks d span ys qs c two = record { come = ap (λ ps. placed here d span ∷ ps) two.come; gone = two.gone }

-- names that are declared inside end there
inside : (here there beyond : Scope) (blocks : List ℕ) (xs : List BodyStep) (ps : List PlacedPoint)
    → Leads (walk here (length here.names ∷ blocks)) xs ps (walk there (length here.names ∷ blocks))
    → with_names (take (length here.names) there.names) there ≡ beyond
    → Leads (walk here blocks) (nested xs) ps (walk beyond blocks)
inside here there beyond blocks xs ps one end =
    let opened = length here.names ∷ blocks in
    let whole = both (walk here opened) (walk there opened) (walk beyond blocks) xs (closes ∷ []) ps [] one (record { come = refl; gone = ap (λ x. walk x blocks) end }) in
    record { come = whole.come ∙ append-nil ps; gone = whole.gone }

simple_stays : (here : Scope) (blocks : List ℕ) (s : Simple) → walk_behind (walk here blocks) (third_steps (Some s)) ≡ walk here blocks
simple_stays here blocks (evaluation tree span) = refl
simple_stays here blocks (assignment left op right span) = refl

leads_init : (here : Scope) (blocks : List ℕ) (init : ForInit) → Leads (walk here blocks) (init_steps init) (placed_init here init) (walk (behind_init here init) blocks)
leads_init here blocks no_init = record { come = refl; gone = refl }
leads_init here blocks (simple_init s) = record { come = refl; gone = simple_stays here blocks s }
leads_init here blocks (local_init d) = record { come = refl; gone = refl }

leads_third : (here : Scope) (blocks : List ℕ) (step : Option Simple) → Leads (walk here blocks) (third_steps step) (placed_step here step) (walk here blocks)
leads_third here blocks None = record { come = refl; gone = refl }
leads_third here blocks (Some s) = record { come = refl; gone = simple_stays here blocks s }

leads_test : (here : Scope) (blocks : List ℕ) (loop : Span) (test : Option Expression) (ys : List BodyStep) (qs : List PlacedPoint) (c : Walk)
    → Leads (walk here blocks) ys qs c → Leads (walk here blocks) (for_test loop test ∷ ys) (placed_for here loop test ∷ qs) c
leads_test here blocks loop None ys qs c two = first here blocks _ _ ys qs c two
leads_test here blocks loop (Some e) ys qs c two = first here blocks _ _ ys qs c two

leads_inside : (here : Scope) (blocks : List ℕ) (s : Statement)
    → Leads (walk here (length here.names ∷ blocks)) (steps_of s) (placed_in here s) (walk (behind here s) (length here.names ∷ blocks))
    → Leads (walk here blocks) (nested (steps_of s)) (placed_in here s) (walk (further (declared_in s) here) blocks)
leads_inside here blocks s one = inside here (behind here s) _ blocks (steps_of s) (placed_in here s) one (closes_one here s)

-- an arm behind another
leads_to : (here : Scope) (blocks : List ℕ) (n : ℕ) (s : Statement)
    → Leads (walk (further n here) (length here.names ∷ blocks)) (steps_of s) (placed_in (further n here) s) (walk (behind (further n here) s) (length here.names ∷ blocks))
    → Leads (walk (further n here) blocks) (nested (steps_of s)) (placed_in (further n here) s) (walk (further (n + declared_in s) here) blocks)
leads_to here blocks n s one =
    let it = leads_inside (further n here) blocks s one in
    record { come = it.come; gone = it.gone ∙ ap (λ x. walk x blocks) (further_further n (declared_in s) here) }

stays : (here : Scope) (blocks : List ℕ) → walk here blocks ≡ walk (further 0 here) blocks
stays here blocks = ap (λ x. walk x blocks) (further_none here)

mutual
  unfolding placed_in placed_all behind behind_all declared_in declared_in_all

  leads_one : (here : Scope) (blocks : List ℕ) (s : Statement) → Leads (walk here blocks) (steps_of s) (placed_in here s) (walk (behind here s) blocks)
  leads_one here blocks (block items span) =
      inside here (behind_all here items) _ blocks (steps_of_all items) (placed_all here items) (leads_all here (length here.names ∷ blocks) items) (closes_all here items)
  leads_one here blocks (empty span) = record { come = refl; gone = stays here blocks }
  leads_one here blocks (local d) = record { come = refl; gone = refl }
  leads_one here blocks (simple s) = record { come = refl; gone = simple_stays here blocks s ∙ stays here blocks }
  leads_one here blocks (if_alone test arm span) = first here blocks _ _ _ _ _ (leads_inside here blocks arm (leads_one here (length here.names ∷ blocks) arm))
  leads_one here blocks (if_else test arm other span) =
      first here blocks _ _ _ _ _
      (both (walk here blocks) (walk (further (declared_in arm) here) blocks) _ (nested (steps_of arm)) (nested (steps_of other)) _ _ (leads_inside here blocks arm (leads_one here (length here.names ∷ blocks) arm))
      (leads_to here blocks (declared_in arm) other (leads_one (further (declared_in arm) here) (length here.names ∷ blocks) other)))
  leads_one here blocks (while_loop test body span) = first here blocks _ _ _ _ _ (leads_inside here blocks body (leads_one here (length here.names ∷ blocks) body))
  leads_one here blocks (do_loop body test span) =
      both (walk here blocks) (walk (further (declared_in body) here) blocks) _ (nested (steps_of body)) (test_step test ∷ []) _ _ (leads_inside here blocks body (leads_one here (length here.names ∷ blocks) body)) (record { come = refl; gone = refl })
  leads_one here blocks (for_loop init test step body span) =
      let opened = length here.names ∷ blocks in
      let inner = behind_init here init in
      inside here (behind inner body) _ blocks _ _
      (both (walk here opened) (walk inner opened) _ (init_steps init) _ _ _ (leads_init here opened init)
      (leads_test inner opened span test _ _ _
      (both (walk inner opened) (walk inner opened) _ (third_steps step) (steps_of body) _ _ (leads_third inner opened step) (leads_one inner opened body))))
      (closes_for here init body)
  leads_one here blocks (switch key body span) = first here blocks _ _ _ _ _ (leads_inside here blocks body (leads_one here (length here.names ∷ blocks) body))
  leads_one here blocks (case key body span) = leads_inside here blocks body (leads_one here (length here.names ∷ blocks) body)
  leads_one here blocks (otherwise body span) = leads_inside here blocks body (leads_one here (length here.names ∷ blocks) body)
  leads_one here blocks (label name body span) = leads_inside here blocks body (leads_one here (length here.names ∷ blocks) body)
  leads_one here blocks (break span) = record { come = refl; gone = stays here blocks }
  leads_one here blocks (continue span) = record { come = refl; gone = stays here blocks }
  leads_one here blocks (goto name span) = record { come = refl; gone = stays here blocks }
  leads_one here blocks (return given span) = record { come = refl; gone = stays here blocks }

  leads_all : (here : Scope) (blocks : List ℕ) (items : Statements) → Leads (walk here blocks) (steps_of_all items) (placed_all here items) (walk (behind_all here items) blocks)
  leads_all here blocks none = record { come = refl; gone = refl }
  leads_all here blocks (more s rest) =
      both (walk here blocks) (walk (behind here s) blocks) _ (steps_of s) (steps_of_all rest) _ _ (leads_one here blocks s) (leads_all (behind here s) blocks rest)

pub statements_are_passed : StatementsArePassed
statements_are_passed here blocks s = let it = leads_one here blocks s in (it.come, it.gone)

pub steps_are_the_points : StepsAreThePoints
steps_are_the_points here blocks body = let it = leads_all here blocks body in (it.come, it.gone)

pub body_steps_are_the_points : BodyStepsAreThePoints
body_steps_are_the_points here blocks body close =
    let beyond = further (declared_in_all body) here in
    let it = both (walk here blocks) (walk beyond blocks) (walk beyond blocks) (nested (steps_of_all body)) (does ends close ∷ []) (placed_all here body) (placed beyond ends close ∷ [])
    (inside here (behind_all here body) beyond blocks (steps_of_all body) (placed_all here body) (leads_all here (length here.names ∷ blocks) body) (closes_all here body))
    (record { come = refl; gone = refl }) in
    (it.come, it.gone)
