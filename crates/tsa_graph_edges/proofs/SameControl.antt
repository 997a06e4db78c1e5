-- The control of a statement is the same in each scope that knows the same constants, and for labels that are found alike.
use Rattle.std.proofs.Common.{◌≡◌, ◌∙◌, ℕ, suc, ◌+◌, Bool, true, false, List, [], ◌∷◌, ◌++◌, length, Option, Some, None, refl, sym, ap, ap₂}
use Rattle.std.specs.Map.{lookup}
use Rattle.std.specs.Str.{bytes_eq}
use Rattle.tsa_tree.specs.declarations.Syntax.{Declaration}
use Rattle.tsa_tree.specs.expressions.Syntax.{Expression}
use Rattle.tsa_tree.specs.points.Syntax.{points_of_init, points_of_step}
use Rattle.tsa_tree.specs.statements.Syntax.{ForInit, Statement, block, empty, local, simple, if_alone, if_else, while_loop, do_loop}
use Rattle.tsa_tree.specs.statements.Syntax.{for_loop, switch, case, otherwise, label, break, continue, goto, return, Statements, none}
use Rattle.tsa_tree.specs.statements.Syntax.{more}
use Rattle.tsa_tree.specs.types.DeclaredTypes.{value_in}
use Rattle.tsa_tree.specs.types.Locals.{local_entry, unless_taken, behind_local}
use Rattle.tsa_tree.specs.types.Scopes.{Scope, context_of, further, is_taken, with_name}
use Rattle.tsa_tree.specs.types.Statements.{behind, behind_init}
use Rattle.tsa_tree.specs.types.Targets.{declared_in, Labels}
use Rattle.tsa_core.proofs.EachScope.{statement_past, init_past}
use Rattle.tsa_core.proofs.SameConstants.{SameConstants, same_value}
use Rattle.tsa_core.specs.Control.{edge, Next, count, first, first_all, test_at, step_at, inner_at, again_at, a_case, cases, cases_all}
use Rattle.tsa_core.specs.Control.{Targets, or_else, test_edges, tested_edges, for_edges, step_edges, switch_edges, edges, edges_all}
use Rattle.tsa_base.proofs.Truths.{never}
use Rattle.tsa_core.proofs.SwitchCases.{same_through, same_with}

module _ (here : Scope) where
  abbrev pub Kept : Scope → Type 0
  Kept s = SameConstants (context_of here) (context_of s)

  pub kept_further : (s : Scope) (n : ℕ) → Kept s → Kept (further n s)
  kept_further s n h = record { values = h.values; entries = h.entries }

  kept_local : (s : Scope) (d : Declaration) → Kept s → Kept (behind_local s d)
  kept_local s d h = kept_further (unless_taken (is_taken d.name.text s) d.name.text (local_entry s d) s) 1 (by (is_taken d.name.text s))
    where
      by : (taken : Bool) → Kept (unless_taken taken d.name.text (local_entry s d) s)
      by true = h
      by false = same_through (context_of here) (context_of s) (context_of (with_name d.name.text (local_entry s d) s)) h (same_with s d.name.text (local_entry s d) refl)

  pub kept_same : Kept here
  kept_same = record { values = λ name. refl; entries = λ name made. refl }

  pub kept_behind : (s : Scope) (x : Statement) → Kept s → Kept (behind s x)
  kept_behind = statement_past Kept kept_further kept_local

  pub kept_init : (s : Scope) (init : ForInit) → Kept s → Kept (behind_init s init)
  kept_init = init_past Kept kept_further kept_local

  pub kept_value : (x y : Scope) → Kept x → Kept y → (e : Expression) → value_in (context_of x) e ≡ value_in (context_of y) e
  kept_value x y h g e = same_value (context_of here) (context_of x) h e ∙ sym (same_value (context_of here) (context_of y) g e)

  mutual
    unfolding cases cases_all

    pub cases_alike : (x y : Scope) → Kept x → Kept y → (s : Statement) (at follow : ℕ) → cases x s at follow ≡ cases y s at follow
    cases_alike x y h g (block items span) at follow = all_cases_alike x y h g items at follow
    cases_alike x y h g (if_alone test arm span) at follow = cases_alike x y h g arm (suc at) follow
    cases_alike x y h g (if_else test arm other span) at follow =
        ap₂ (λ a b. a ++ b) (cases_alike x y h g arm (suc at) follow) (cases_alike x y h g other (suc at + count arm) follow)
    cases_alike x y h g (while_loop test body span) at follow = cases_alike x y h g body (suc at) at
    cases_alike x y h g (do_loop body test span) at follow = cases_alike x y h g body at (at + count body)
    cases_alike x y h g (for_loop init test step body span) at follow = cases_alike x y h g body (inner_at init step at) (again_at init step at)
    cases_alike x y h g (case key body span) at follow =
        ap₂ (λ v b. a_case v (first body at follow) ++ b) (kept_value x y h g key) (cases_alike x y h g body at follow)
    cases_alike x y h g (otherwise body span) at follow = ap (λ b. (None, first body at follow) ∷ b) (cases_alike x y h g body at follow)
    cases_alike x y h g (label name body span) at follow = cases_alike x y h g body at follow
    cases_alike x y h g (switch key body span) at follow = refl
    cases_alike x y h g (empty span) at follow = refl
    cases_alike x y h g (local d) at follow = refl
    cases_alike x y h g (simple s) at follow = refl
    cases_alike x y h g (break span) at follow = refl
    cases_alike x y h g (continue span) at follow = refl
    cases_alike x y h g (goto name span) at follow = refl
    cases_alike x y h g (return given span) at follow = refl

    pub all_cases_alike : (x y : Scope) → Kept x → Kept y → (ss : Statements) (at follow : ℕ) → cases_all x ss at follow ≡ cases_all y ss at follow
    all_cases_alike x y h g none at follow = refl
    all_cases_alike x y h g (more s ss) at follow =
        ap₂ (λ a b. a ++ b) (cases_alike x y h g s at (first_all ss (at + count s) follow)) (all_cases_alike x y h g ss (at + count s) follow)

  abbrev pub jumps : (break_to continue_to : ℕ) → Labels → Targets
  jumps b c ls = record { break_to = b; continue_to = c; labels = ls }

  module _ (ls ms : Labels) (same : (name : List ℕ) → lookup (bytes_eq name) ls ≡ lookup (bytes_eq name) ms) where
    pub tests_alike : (x y : Scope) → Kept x → Kept y → (e : Expression) (at yes_to no_to : ℕ) → tested_edges x e at yes_to no_to ≡ tested_edges y e at yes_to no_to
    tests_alike x y h g e at yes_to no_to = ap (λ v. test_edges v at yes_to no_to) (kept_value x y h g e)

    pub for_alike : (x y : Scope) → Kept x → Kept y → (e : Option Expression) (at yes_to no_to : ℕ) → for_edges x e at yes_to no_to ≡ for_edges y e at yes_to no_to
    for_alike x y h g None at yes_to no_to = refl
    for_alike x y h g (Some e) at yes_to no_to = tests_alike x y h g e at yes_to no_to

    mutual
      unfolding edges edges_all

      pub edges_alike : (x y : Scope) → Kept x → Kept y → (s : Statement) (at follow b c : ℕ) → edges x s at follow (jumps b c ls) ≡ edges y s at follow (jumps b c ms)
      edges_alike x y h g (block items span) at follow b c = all_edges_alike x y h g items at follow b c
      edges_alike x y h g (empty span) at follow b c = refl
      edges_alike x y h g (local d) at follow b c = refl
      edges_alike x y h g (simple s) at follow b c = refl
      edges_alike x y h g (if_alone test arm span) at follow b c =
          ap₂ (λ a d. a ++ d) (tests_alike x y h g test at (first arm (suc at) follow) follow) (edges_alike x y h g arm (suc at) follow b c)
      edges_alike x y h g (if_else test arm other span) at follow b c =
          let mid = suc at + count arm in
          ap₂ (λ a d. a ++ d) (tests_alike x y h g test at (first arm (suc at) follow) (first other mid follow))
          (ap₂ (λ a d. a ++ d) (edges_alike x y h g arm (suc at) follow b c)
          (edges_alike (further (declared_in arm) x) (further (declared_in arm) y) (kept_further x (declared_in arm) h) (kept_further y (declared_in arm) g) other mid follow b c))
      edges_alike x y h g (while_loop test body span) at follow b c =
          ap₂ (λ a d. a ++ d) (tests_alike x y h g test at (first body (suc at) at) follow) (edges_alike x y h g body (suc at) at follow at)
      edges_alike x y h g (do_loop body test span) at follow b c =
          let back = at + count body in
          ap₂ (λ a d. a ++ d) (edges_alike x y h g body at back follow back) (tests_alike x y h g test back (first body at back) follow)
      edges_alike x y h g (for_loop init test step body span) at follow b c =
          let again = again_at init step at in
          let inner = inner_at init step at in
          let one = step_edges (length (points_of_init init)) at (test_at init at) in
          let three = step_edges (length (points_of_step step)) (step_at init at) (test_at init at) in
          let h' = kept_init x init h in
          let g' = kept_init y init g in
          ap (λ a. one ++ a)
          (ap₂ (λ a d. a ++ (three ++ d)) (for_alike (behind_init x init) (behind_init y init) h' g' test (test_at init at) (first body inner again) follow)
          (edges_alike (behind_init x init) (behind_init y init) h' g' body inner again follow again))
      edges_alike x y h g (switch key body span) at follow b c =
          ap₂ (λ a d. switch_edges a at follow ++ d) (cases_alike x y h g body (suc at) follow) (edges_alike x y h g body (suc at) follow follow c)
      edges_alike x y h g (case key body span) at follow b c = edges_alike x y h g body at follow b c
      edges_alike x y h g (otherwise body span) at follow b c = edges_alike x y h g body at follow b c
      edges_alike x y h g (label name body span) at follow b c = edges_alike x y h g body at follow b c
      edges_alike x y h g (break span) at follow b c = refl
      edges_alike x y h g (continue span) at follow b c = refl
      edges_alike x y h g (goto name span) at follow b c = ap (λ o. edge at Next (or_else follow o) ∷ []) (same name.text)
      edges_alike x y h g (return given span) at follow b c = refl

      pub all_edges_alike : (x y : Scope) → Kept x → Kept y → (ss : Statements) (at follow b c : ℕ) → edges_all x ss at follow (jumps b c ls) ≡ edges_all y ss at follow (jumps b c ms)
      all_edges_alike x y h g none at follow b c = refl
      all_edges_alike x y h g (more s ss) at follow b c =
          ap₂ (λ a d. a ++ d) (edges_alike x y h g s at (first_all ss (at + count s) follow) b c)
          (all_edges_alike (behind x s) (behind y s) (kept_behind x s h) (kept_behind y s g) ss (at + count s) follow b c)
