-- At no point of a body are more locals known than were declared before it in the text.
use Rattle.std.proofs.Common.{◌≡◌, ◌∙◌, ℕ, ◌+◌, ◌≤◌, arith, List, [], ◌∷◌, ◌++◌, length, Option, Some, None, ap}
use Rattle.std.proofs.lemmas.Grind.{flat_map-append}
use Rattle.std.proofs.lemmas.List.{length-append}
use Rattle.tsa_tree.specs.declared.kind.Kind.TheVariants as type
use Rattle.tsa_tree.specs.points.Syntax.{Deed, declares, tests, switches, jumps, idles, returns, ends, simple_deed}
use Rattle.tsa_tree.specs.statements.Syntax.{Simple, ForInit, no_init, simple_init, local_init, Statement, block, empty, local, simple}
use Rattle.tsa_tree.specs.statements.Syntax.{if_alone, if_else, while_loop, do_loop, for_loop, switch, case, otherwise, label, break}
use Rattle.tsa_tree.specs.statements.Syntax.{continue, goto, return, Statements, none, more}
use Rattle.tsa_tree.specs.types.Scopes.{Scope, further}
use Rattle.tsa_tree.specs.types.Statements.{behind, behind_init}
use Rattle.tsa_tree.specs.types.Targets.{declared_by_init, declared_in, declared_in_all}
use Rattle.tsa_core.specs.Bodies.{Known, knows, known_in_body, known_init, known_step, known, known_all, kinds_by, kinds_declared}
use Rattle.tsa_core.proofs.LocalLists.{locals_are_listed, behind_locals, declared_at, init_locals}

abbrev pub AreCounted : ℕ → List Known → Type 0
AreCounted n [] = Unit {0}
AreCounted n (k ∷ ks) = (k.here.locals ≤ n) × AreCounted (n + length (kinds_by k.here k.deed)) ks

both : (ks js : List Known) → declared_at (ks ++ js) ≡ declared_at ks + declared_at js
both ks js = ap length (flat_map-append (λ k. kinds_by k.here k.deed) ks js) ∙ length-append (kinds_declared ks) (kinds_declared js)

-- a statement declares at its points as many as it counts
declares_as : (here : Scope) (s : Statement) → declared_at (known here s) ≡ declared_in s
unfolding known_all declared_in_all
declares_as here s =
    let listed : declared_at ((known here s ++ []) ++ knows here ends ∷ []) ≡ declared_in s + 0 = (locals_are_listed here type.Int (more s none)).0 in
    let one : declared_at ((known here s ++ []) ++ knows here ends ∷ []) ≡ declared_at (known here s ++ []) + 0 = both (known here s ++ []) (knows here ends ∷ []) in
    let two : declared_at (known here s ++ []) ≡ declared_at (known here s) + 0 = both (known here s) [] in
    omega (arith, listed, one, two)

-- counts go on
more_counted : (n m : ℕ) (ks : List Known) → n ≤ m → AreCounted n ks → AreCounted m ks
more_counted n m [] le h = tt
more_counted n m (k ∷ ks) le h =
    let own = h.0 in
    (omega (arith, le, own), more_counted (n + length (kinds_by k.here k.deed)) (m + length (kinds_by k.here k.deed)) ks (omega (arith, le)) h.1)

counted : (n m : ℕ) (ks js : List Known) → m ≤ n + declared_at ks → AreCounted n ks → AreCounted m js → AreCounted n (ks ++ js)
counted n m [] js same h g = let le : m ≤ n = omega (arith, same) in more_counted m n js le g
counted n m (k ∷ ks) js same h g =
    let own : declared_at (k ∷ ks) ≡ length (kinds_by k.here k.deed) + declared_at ks = length-append (kinds_by k.here k.deed) (kinds_declared ks) in
    (h.0, counted (n + length (kinds_by k.here k.deed)) m ks js (omega (arith, same, own)) h.1 g)

one_more : (here : Scope) (d : Deed) (ks : List Known) → AreCounted here.locals ks → AreCounted here.locals (knows here d ∷ ks)
one_more here d ks h = (omega arith, more_counted here.locals (here.locals + length (kinds_by here d)) ks (omega arith) h)

alone : (here : Scope) (d : Deed) → AreCounted here.locals (knows here d ∷ [])
alone here d = one_more here d [] tt

init_counted : (here : Scope) (init : ForInit) → AreCounted here.locals (known_init here init)
init_counted here no_init = tt
init_counted here (simple_init s) = alone here (simple_deed s)
init_counted here (local_init d) = alone here (declares d)

init_declares : (here : Scope) (init : ForInit) → declared_by_init init ≤ declared_at (known_init here init)
init_declares here no_init = omega arith
init_declares here (simple_init s) = omega arith
init_declares here (local_init d) = omega arith

step_counted : (here : Scope) (step : Option Simple) → AreCounted here.locals (known_step here step)
step_counted here None = tt
step_counted here (Some s) = alone here (simple_deed s)

mutual
  unfolding known known_all

  statement_counted : (here : Scope) (s : Statement) → AreCounted here.locals (known here s)
  statement_counted here (block items span) = all_counted here items
  statement_counted here (empty span) = alone here idles
  statement_counted here (local d) = alone here (declares d)
  statement_counted here (simple s) = alone here (simple_deed s)
  statement_counted here (if_alone test arm span) = one_more here (tests (Some test)) (known here arm) (statement_counted here arm)
  statement_counted here (if_else test arm other span) =
      let there = further (declared_in arm) here in
      let n = declares_as here arm in
      one_more here (tests (Some test)) (known here arm ++ known there other)
      (counted here.locals (here.locals + declared_in arm) (known here arm) (known there other) (omega (arith, n)) (statement_counted here arm) (statement_counted there other))
  statement_counted here (while_loop test body span) = one_more here (tests (Some test)) (known here body) (statement_counted here body)
  statement_counted here (do_loop body test span) =
      counted here.locals here.locals (known here body) (knows here (tests (Some test)) ∷ []) (omega arith) (statement_counted here body) (alone here (tests (Some test)))
  statement_counted here (for_loop init test step body span) =
      let there = behind_init here init in
      let i = init_declares here init in
      let l = init_locals here init in
      counted here.locals there.locals (known_init here init) (knows there (tests test) ∷ (known_step there step ++ known there body)) (omega (arith, i, l)) (init_counted here init)
      (one_more there (tests test) (known_step there step ++ known there body)
      (counted there.locals there.locals (known_step there step) (known there body) (omega arith) (step_counted there step) (statement_counted there body)))
  statement_counted here (switch key body span) = one_more here (switches key) (known here body) (statement_counted here body)
  statement_counted here (case key body span) = statement_counted here body
  statement_counted here (otherwise body span) = statement_counted here body
  statement_counted here (label name body span) = statement_counted here body
  statement_counted here (break span) = alone here jumps
  statement_counted here (continue span) = alone here jumps
  statement_counted here (goto name span) = alone here jumps
  statement_counted here (return e span) = alone here (returns e)

  all_counted : (here : Scope) (ss : Statements) → AreCounted here.locals (known_all here ss)
  all_counted here none = tt
  all_counted here (more s ss) =
      let n = declares_as here s in
      let l = behind_locals here s in
      counted here.locals (behind here s).locals (known here s) (known_all (behind here s) ss) (omega (arith, n, l)) (statement_counted here s) (all_counted (behind here s) ss)

pub body_counted : (here : Scope) (body : Statements) → AreCounted here.locals (known_in_body here body)
body_counted here body = counted here.locals here.locals (known_all here body) (knows here ends ∷ []) (omega arith) (all_counted here body) (alone here ends)
