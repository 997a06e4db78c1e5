-- The locals of a body are those that its text declares, in order.
use Rattle.std.proofs.Common.{◌≡◌, ◌∙◌, ℕ, ◌+◌, ◌≤◌, arith, Bool, true, false, List, [], ◌∷◌, ◌++◌, All, length, Option, Some, None, refl}
use Rattle.std.proofs.Common.{ap, subst}
use Rattle.std.proofs.lemmas.Grind.{flat_map-append}
use Rattle.std.proofs.lemmas.List.{length-append}
use Rattle.std.proofs.lemmas.List.Elements.{All-append, All-cons, All-nil}
use Rattle.tsa_tree.specs.declarations.Syntax.{Declaration}
use Rattle.tsa_tree.specs.points.Syntax.{Deed, declares, tests, switches, jumps, idles, returns, ends, simple_deed}
use Rattle.tsa_tree.specs.statements.Syntax.{Simple, evaluation, assignment, ForInit, no_init, simple_init, local_init, Statement, block}
use Rattle.tsa_tree.specs.statements.Syntax.{empty, local, simple, if_alone, if_else, while_loop, do_loop, for_loop, switch, case}
use Rattle.tsa_tree.specs.statements.Syntax.{otherwise, label, break, continue, goto, return, Statements, none, more}
use Rattle.tsa_tree.specs.types.Locals.{local_entry, unless_taken}
use Rattle.tsa_tree.specs.types.Scopes.{Scope, further, is_taken}
use Rattle.tsa_tree.specs.types.Statements.{behind, behind_init}
use Rattle.tsa_tree.specs.types.Targets.{declared_by_init, declared_in, declared_in_all}
use Rattle.tsa_core.specs.Bodies.{Known, knows, known_init, known_step, known, known_all, kinds_by, kinds_declared}
use Rattle.tsa_core.specs.Laws.{IsNumbered, AreNumbered, LocalsAreListed}

-- how many locals some points declare
abbrev pub declared_at : List Known → ℕ
declared_at ks = length (kinds_declared ks)

both : (ks js : List Known) → declared_at (ks ++ js) ≡ declared_at ks + declared_at js
both ks js =
    ap length (flat_map-append (λ k. kinds_by k.here k.deed) ks js) ∙ length-append (kinds_declared ks) (kinds_declared js)

-- a point that declares none, and one more
abbrev DeclaresNone : Scope → Deed → Type 0
DeclaresNone here d = kinds_by here d ≡ []

behind_one : (here : Scope) (d : Deed) (ks : List Known) → DeclaresNone here d → declared_at (knows here d ∷ ks) ≡ declared_at ks
behind_one here d ks without = ap (λ kinds. length (kinds ++ kinds_declared ks)) without

simple_none : (here : Scope) (s : Simple) → DeclaresNone here (simple_deed s)
simple_none here (evaluation e span) = refl
simple_none here (assignment left op right span) = refl

init_declares : (here : Scope) (init : ForInit) → declared_at (known_init here init) ≡ declared_by_init init
init_declares here no_init = refl
init_declares here (simple_init s) = behind_one here (simple_deed s) [] (simple_none here s)
init_declares here (local_init d) = refl

step_declares : (here : Scope) (step : Option Simple) → declared_at (known_step here step) ≡ 0
step_declares here None = refl
step_declares here (Some s) = behind_one here (simple_deed s) [] (simple_none here s)

mutual
  unfolding known known_all declared_in declared_in_all

  declares_as : (here : Scope) (s : Statement) → declared_at (known here s) ≡ declared_in s
  declares_as here (block items span) = all_declare_as here items
  declares_as here (empty span) = refl
  declares_as here (local d) = refl
  declares_as here (simple s) = behind_one here (simple_deed s) [] (simple_none here s)
  declares_as here (if_alone test arm span) = declares_as here arm
  declares_as here (if_else test arm other span) =
      let there = further (declared_in arm) here in
      let n = both (known here arm) (known there other) in
      let one = declares_as here arm in
      let two = declares_as there other in
      omega (arith, n, one, two)
  declares_as here (while_loop test body span) = declares_as here body
  declares_as here (do_loop body test span) =
      let n : declared_at (known here body ++ knows here (tests (Some test)) ∷ []) ≡ declared_at (known here body) + 0 = both (known here body) (knows here (tests (Some test)) ∷ []) in
      let one = declares_as here body in
      omega (arith, n, one)
  declares_as here (for_loop init test step body span) =
      let there = behind_init here init in
      let rest = known_step there step ++ known there body in
      let n : declared_at (known_init here init ++ knows there (tests test) ∷ rest) ≡ declared_at (known_init here init) + declared_at rest =
      both (known_init here init) (knows there (tests test) ∷ rest)
      in
      let m = both (known_step there step) (known there body) in
      let i = init_declares here init in
      let s = step_declares there step in
      let b = declares_as there body in
      omega (arith, n, m, i, s, b)
  declares_as here (switch key body span) = declares_as here body
  declares_as here (case key body span) = declares_as here body
  declares_as here (otherwise body span) = declares_as here body
  declares_as here (label name body span) = declares_as here body
  declares_as here (break span) = refl
  declares_as here (continue span) = refl
  declares_as here (goto name span) = refl
  declares_as here (return e span) = refl

  all_declare_as : (here : Scope) (ss : Statements) → declared_at (known_all here ss) ≡ declared_in_all ss
  all_declare_as here none = refl
  all_declare_as here (more s ss) =
      let n = both (known here s) (known_all (behind here s) ss) in
      let one = declares_as here s in
      let two = all_declare_as (behind here s) ss in
      omega (arith, n, one, two)

-- How many locals there are behind a statement.
unless_locals : (here : Scope) (d : Declaration) (taken : Bool) → (further 1 (unless_taken taken d.name.text (local_entry here d) here)).locals ≡ here.locals + 1
unless_locals here d true = refl
unless_locals here d false = refl

pub behind_locals : (here : Scope) (s : Statement) → (behind here s).locals ≡ here.locals + declared_in s
unfolding behind declared_in
behind_locals here (local d) = unless_locals here d (is_taken d.name.text here)
behind_locals here (block items span) = refl
behind_locals here (empty span) = refl
behind_locals here (simple s) = refl
behind_locals here (if_alone test arm span) = refl
behind_locals here (if_else test arm other span) = refl
behind_locals here (while_loop test body span) = refl
behind_locals here (do_loop body test span) = refl
behind_locals here (for_loop init test step body span) = refl
behind_locals here (switch key body span) = refl
behind_locals here (case key body span) = refl
behind_locals here (otherwise body span) = refl
behind_locals here (label name body span) = refl
behind_locals here (break span) = refl
behind_locals here (continue span) = refl
behind_locals here (goto name span) = refl
behind_locals here (return e span) = refl

pub init_locals : (here : Scope) (init : ForInit) → (behind_init here init).locals ≡ here.locals + declared_by_init init
init_locals here no_init = omega arith
init_locals here (simple_init s) = omega arith
init_locals here (local_init d) = unless_locals here d (is_taken d.name.text here)

-- Numbers go on.
from : (n m : ℕ) (ks : List Known) → n ≡ m → AreNumbered n ks → AreNumbered m ks
from n m ks same h = subst (λ i. AreNumbered i ks) same h

numbered : (n m : ℕ) (ks js : List Known) → m ≡ n + declared_at ks → AreNumbered n ks → AreNumbered m js → AreNumbered n (ks ++ js)
numbered n m [] js same h g = let same' : m ≡ n = omega (arith, same) in from m n js same' g
numbered n m (k ∷ ks) js same h g =
    let own : declared_at (k ∷ ks) ≡ length (kinds_by k.here k.deed) + declared_at ks = length-append (kinds_by k.here k.deed) (kinds_declared ks) in
    (h.0, numbered (n + length (kinds_by k.here k.deed)) m ks js (omega (arith, same, own)) h.1 g)

one_more : (n : ℕ) (here : Scope) (d : Deed) (ks : List Known) → IsNumbered n here d → DeclaresNone here d → AreNumbered n ks → AreNumbered n (knows here d ∷ ks)
one_more n here d ks is without h =
    let none : length (kinds_by here d) ≡ 0 = ap length without in
    let same : n ≡ n + length (kinds_by here d) = omega (arith, none) in
    (is, from n (n + length (kinds_by here d)) ks same h)

simple_numbered : (n : ℕ) (here : Scope) (s : Simple) → AreNumbered n (knows here (simple_deed s) ∷ [])
simple_numbered n here (evaluation e span) = (tt, tt)
simple_numbered n here (assignment left op right span) = (tt, tt)

init_numbered : (here : Scope) (init : ForInit) → AreNumbered here.locals (known_init here init)
init_numbered here no_init = tt
init_numbered here (simple_init s) = simple_numbered here.locals here s
init_numbered here (local_init d) = (refl, tt)

step_numbered : (n : ℕ) (here : Scope) (step : Option Simple) → AreNumbered n (known_step here step)
step_numbered n here None = tt
step_numbered n here (Some s) = simple_numbered n here s

mutual
  unfolding known known_all

  statement_numbered : (here : Scope) (s : Statement) → AreNumbered here.locals (known here s)
  statement_numbered here (block items span) = all_numbered here items
  statement_numbered here (empty span) = (tt, tt)
  statement_numbered here (local d) = (refl, tt)
  statement_numbered here (simple s) = simple_numbered here.locals here s
  statement_numbered here (if_alone test arm span) = one_more here.locals here (tests (Some test)) (known here arm) tt refl (statement_numbered here arm)
  statement_numbered here (if_else test arm other span) =
      let there = further (declared_in arm) here in
      let n = declares_as here arm in
      one_more here.locals here (tests (Some test)) (known here arm ++ known there other) tt refl
      (numbered here.locals (here.locals + declared_in arm) (known here arm) (known there other) (omega (arith, n)) (statement_numbered here arm) (statement_numbered there other))
  statement_numbered here (while_loop test body span) = one_more here.locals here (tests (Some test)) (known here body) tt refl (statement_numbered here body)
  statement_numbered here (do_loop body test span) =
      numbered here.locals (here.locals + declared_at (known here body)) (known here body) (knows here (tests (Some test)) ∷ []) refl (statement_numbered here body) (tt, tt)
  statement_numbered here (for_loop init test step body span) =
      let there = behind_init here init in
      let i = init_declares here init in
      let l = init_locals here init in
      let s = step_declares there step in
      numbered here.locals there.locals (known_init here init) (knows there (tests test) ∷ (known_step there step ++ known there body)) (omega (arith, i, l)) (init_numbered here init)
      (one_more there.locals there (tests test) (known_step there step ++ known there body) tt refl
      (numbered there.locals there.locals (known_step there step) (known there body) (omega (arith, s)) (step_numbered there.locals there step) (statement_numbered there body)))
  statement_numbered here (switch key body span) = one_more here.locals here (switches key) (known here body) tt refl (statement_numbered here body)
  statement_numbered here (case key body span) = statement_numbered here body
  statement_numbered here (otherwise body span) = statement_numbered here body
  statement_numbered here (label name body span) = statement_numbered here body
  statement_numbered here (break span) = (tt, tt)
  statement_numbered here (continue span) = (tt, tt)
  statement_numbered here (goto name span) = (tt, tt)
  statement_numbered here (return e span) = (tt, tt)

  all_numbered : (here : Scope) (ss : Statements) → AreNumbered here.locals (known_all here ss)
  all_numbered here none = tt
  all_numbered here (more s ss) =
      let n = declares_as here s in
      let l = behind_locals here s in
      numbered here.locals (behind here s).locals (known here s) (known_all (behind here s) ss) (omega (arith, n, l)) (statement_numbered here s) (all_numbered (behind here s) ss)

-- At no point are more known.
module _ (end : ℕ) where
  abbrev Within : Known → Type 0
  Within k = k.here.locals ≤ end

  one : (here : Scope) (d : Deed) (ks : List Known) → here.locals ≤ end → All Within ks → All Within (knows here d ∷ ks)
  one here d ks le h = All-cons Within (knows here d) ks le h

  alone : (here : Scope) (d : Deed) → here.locals ≤ end → All Within (knows here d ∷ [])
  alone here d le = one here d [] le (All-nil Within)

  init_within : (here : Scope) (init : ForInit) → here.locals ≤ end → All Within (known_init here init)
  init_within here no_init le = All-nil Within
  init_within here (simple_init s) le = alone here (simple_deed s) le
  init_within here (local_init d) le = alone here (declares d) le

  step_within : (here : Scope) (step : Option Simple) → here.locals ≤ end → All Within (known_step here step)
  step_within here None le = All-nil Within
  step_within here (Some s) le = alone here (simple_deed s) le

  mutual
    unfolding known known_all declared_in declared_in_all

    within : (here : Scope) (s : Statement) → here.locals + declared_in s ≤ end → All Within (known here s)
    within here (block items span) le = all_within here items le
    within here (empty span) le = alone here idles (omega (arith, le))
    within here (local d) le = alone here (declares d) (omega (arith, le))
    within here (simple s) le = alone here (simple_deed s) (omega (arith, le))
    within here (if_alone test arm span) le = one here (tests (Some test)) (known here arm) (omega (arith, le)) (within here arm le)
    within here (if_else test arm other span) le =
        let there = further (declared_in arm) here in
        one here (tests (Some test)) (known here arm ++ known there other) (omega (arith, le))
        (All-append Within (known here arm) (known there other) (within here arm (omega (arith, le))) (within there other (omega (arith, le))))
    within here (while_loop test body span) le = one here (tests (Some test)) (known here body) (omega (arith, le)) (within here body le)
    within here (do_loop body test span) le =
        All-append Within (known here body) (knows here (tests (Some test)) ∷ []) (within here body le) (alone here (tests (Some test)) (omega (arith, le)))
    within here (for_loop init test step body span) le =
        let there = behind_init here init in
        let l = init_locals here init in
        All-append Within (known_init here init) (knows there (tests test) ∷ (known_step there step ++ known there body)) (init_within here init (omega (arith, le)))
        (one there (tests test) (known_step there step ++ known there body) (omega (arith, le, l))
        (All-append Within (known_step there step) (known there body) (step_within there step (omega (arith, le, l))) (within there body (omega (arith, le, l)))))
    within here (switch key body span) le = one here (switches key) (known here body) (omega (arith, le)) (within here body le)
    within here (case key body span) le = within here body le
    within here (otherwise body span) le = within here body le
    within here (label name body span) le = within here body le
    within here (break span) le = alone here jumps (omega (arith, le))
    within here (continue span) le = alone here jumps (omega (arith, le))
    within here (goto name span) le = alone here jumps (omega (arith, le))
    within here (return e span) le = alone here (returns e) (omega (arith, le))

    all_within : (here : Scope) (ss : Statements) → here.locals + declared_in_all ss ≤ end → All Within (known_all here ss)
    all_within here none le = All-nil Within
    all_within here (more s ss) le =
        let l = behind_locals here s in
        All-append Within (known here s) (known_all (behind here s) ss) (within here s (omega (arith, le))) (all_within (behind here s) ss (omega (arith, le, l)))

pub locals_are_listed : LocalsAreListed
locals_are_listed here result body =
    let ks = known_all here body in
    let n : declared_at (ks ++ knows here ends ∷ []) ≡ declared_at ks + 0 = both ks (knows here ends ∷ []) in
    let d = all_declare_as here body in
    let end = here.locals + declared_in_all body in
    let whole : here.locals + declared_in_all body ≤ end = omega arith in (
      omega (arith, n, d),
      (
        numbered here.locals (here.locals + declared_at ks) ks (knows here ends ∷ []) refl (all_numbered here body) (tt, tt),
        All-append (Within end) ks (knows here ends ∷ []) (all_within end here body whole) (alone end here ends (omega arith)),
      ),
    )
