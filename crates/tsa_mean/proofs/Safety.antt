-- What is worked out to be no violation is safe.
use Rattle.std.proofs.Common.{◌≡◌, ℕ, ◌+◌, ◌<◌, nat_eq, nat_lt, Bool, true, false, not, ◌&&◌, ◌||◌, length, Option, Some, None, is_some}
use Rattle.std.proofs.Common.{refl, eq-eqb, eqb-true}
use Rattle.std.proofs.lemmas.Bool.{ltb-true, lt-ltb}
use Rattle.std.specs.List.{list_all}
use Rattle.std.specs.Prelude.{All, IsSome, ◌↔◌}
use Rattle.tsa_base.specs.declared.value.Value.{Value}
use Rattle.tsa_base.proofs.Truths.{both}
use Rattle.tsa_place_model.specs.Calls.{guards_of}
use Rattle.tsa_place_model.specs.declared.place.Guard.{Guard}
use Rattle.tsa_place_model.specs.declared.place.Guard.TheVariants.{Lock, Nothing}
use Rattle.tsa_core.specs.Programs.{Attr, Program}
use Rattle.tsa_sched.specs.declared.event.Mode.{Mode}
use Rattle.tsa_sched.specs.declared.event.Mode.TheVariants.{Exclusive, Shared}
use Rattle.tsa_mean.specs.Acts.{to_read, to_write, to_step, to_set, to_branch, to_choose, to_take, to_try, to_give, to_ask, to_enter}
use Rattle.tsa_mean.specs.Acts.{to_leave, to_trap}
use Rattle.tsa_mean.specs.Laws.{WhatIsNoViolationIsSafe}
use Rattle.tsa_mean.specs.Returns.{attrs_of, change_in, given_back, lock_of, taken_over}
use Rattle.tsa_mean.specs.Safe.{CanBeGiven, IsHeld, IsHeldAlone, LeavesAsDeclared}
use Rattle.tsa_mean.specs.States.{Frame, Holds}
use Rattle.tsa_mean.specs.Violations.{all_below, can_be_given, is_counted, is_held, is_held_alone, is_held_somehow, leaves_as_declared}
use Rattle.tsa_mean.specs.Violations.{names_lock}
use Rattle.tsa_mean.proofs.Lists.{all_pass, below_pass, join, not_false}

positive : (n : ℕ) → (nat_lt 0 n ≡ true) ↔ (0 < n)
positive n = (ltb-true 0 n, lt-ltb 0 n)

equal : (m n : ℕ) → (nat_eq m n ≡ true) ↔ (m ≡ n)
equal m n = (eqb-true m n, eq-eqb m n)

-- a lock that is held in some mode
some_mode : (held : Holds) (l : ℕ) (a b : Bool) → nat_lt 0 (held l Exclusive) ≡ a → nat_lt 0 (held l Shared) ≡ b → (a || b) ≡ true → (mode : Mode) × (0 < held l mode)
some_mode held l true b alone shared e = (Exclusive, ltb-true 0 (held l Exclusive) alone)
some_mode held l false true alone shared e = (Shared, ltb-true 0 (held l Shared) shared)
some_mode held l false false alone shared e = absurd cc

either_first : (a b : Bool) → a ≡ true → (a || b) ≡ true
either_first true b e = refl
either_first false b e = absurd cc

either_second : (a b : Bool) → b ≡ true → (a || b) ≡ true
either_second true b e = refl
either_second false b e = e

in_mode : (held : Holds) (l : ℕ) (mode : Mode) → 0 < held l mode → is_held_somehow held l ≡ true
in_mode held l Exclusive some = either_first (nat_lt 0 (held l Exclusive)) (nat_lt 0 (held l Shared)) (lt-ltb 0 (held l Exclusive) some)
in_mode held l Shared some = either_second (nat_lt 0 (held l Exclusive)) (nat_lt 0 (held l Shared)) (lt-ltb 0 (held l Shared) some)

somehow : (held : Holds) (l : ℕ) → (is_held_somehow held l ≡ true) ↔ ((mode : Mode) × (0 < held l mode))
somehow held l = (some_mode held l (nat_lt 0 (held l Exclusive)) (nat_lt 0 (held l Shared)) refl refl, λ x. in_mode held l x.0 x.1)

guard_held : (held : Holds) (g : Guard) → (is_held held g ≡ true) ↔ IsHeld held g
guard_held held Nothing = (λ e. absurd cc, λ none. absurd none)
guard_held held (Lock l) = somehow held l

guard_held_alone : (held : Holds) (g : Guard) → (is_held_alone held g ≡ true) ↔ IsHeldAlone held g
guard_held_alone held Nothing = (λ e. absurd cc, λ none. absurd none)
guard_held_alone held (Lock l) = positive (held l Exclusive)

given : (held : Holds) (mode : Option Mode) (lock : ℕ) → (can_be_given held mode lock ≡ true) ↔ CanBeGiven held mode lock
given held None lock = somehow held lock
given held (Some mode) lock = positive (held lock mode)

-- returns
implies : (a b : Bool) → ((not a || b) ≡ true) ↔ (a ≡ true → b ≡ true)
implies true b = (λ e counts. e, λ f. f refl)
implies false b = (λ e counts. absurd cc, λ f. refl)

modes_both : (u : Program) (held : Holds) (frame : Frame) (v : Value) (lock : ℕ)
    → ((is_counted u held frame v lock Exclusive && is_counted u held frame v lock Shared) ≡ true)
    ↔ ((m : Mode) → held lock m + given_back u frame v (attrs_of u frame) lock m ≡ frame.at_call lock m + taken_over u frame v (attrs_of u frame) lock m)
modes_both u held frame v lock = (there, back)
  where
    there : (is_counted u held frame v lock Exclusive && is_counted u held frame v lock Shared) ≡ true
        → (m : Mode) → held lock m + given_back u frame v (attrs_of u frame) lock m ≡ frame.at_call lock m + taken_over u frame v (attrs_of u frame) lock m
    there e Exclusive = (equal _ _).0 (both (is_counted u held frame v lock Exclusive) (is_counted u held frame v lock Shared) e).0
    there e Shared = (equal _ _).0 (both (is_counted u held frame v lock Exclusive) (is_counted u held frame v lock Shared) e).1

    back : ((m : Mode) → held lock m + given_back u frame v (attrs_of u frame) lock m ≡ frame.at_call lock m + taken_over u frame v (attrs_of u frame) lock m)
        → (is_counted u held frame v lock Exclusive && is_counted u held frame v lock Shared) ≡ true
    back all = join (is_counted u held frame v lock Exclusive) (is_counted u held frame v lock Shared) ((equal _ _).1 (all Exclusive)) ((equal _ _).1 (all Shared))

names : (u : Program) (frame : Frame) (v : Value) (a : Attr) → (names_lock u frame v a ≡ true) ↔ ((change_in a v).counts ≡ true → IsSome (lock_of u frame a))
names u frame v a = implies (change_in a v).counts (is_some (lock_of u frame a))

leaves : (u : Program) (held : Holds) (frame : Frame) (v : Value) → (leaves_as_declared u held frame v ≡ true) ↔ LeavesAsDeclared u held frame v
leaves u held frame v = (there, back)
  where
    all_names : (list_all (names_lock u frame v) (attrs_of u frame) ≡ true) ↔ All (λ a. (change_in a v).counts ≡ true → IsSome (lock_of u frame a)) (attrs_of u frame)
    all_names = all_pass (names_lock u frame v) (λ a. (change_in a v).counts ≡ true → IsSome (lock_of u frame a)) (names u frame v) (attrs_of u frame)

    counted : (all_below (length u.layout.places) (λ lock. is_counted u held frame v lock Exclusive && is_counted u held frame v lock Shared) ≡ true)
        ↔ ((lock : ℕ) → lock < length u.layout.places
        → (m : Mode) → held lock m + given_back u frame v (attrs_of u frame) lock m ≡ frame.at_call lock m + taken_over u frame v (attrs_of u frame) lock m)
    counted = below_pass (length u.layout.places) (λ lock. is_counted u held frame v lock Exclusive && is_counted u held frame v lock Shared)
        (λ lock. (m : Mode) → held lock m + given_back u frame v (attrs_of u frame) lock m ≡ frame.at_call lock m + taken_over u frame v (attrs_of u frame) lock m)
        (modes_both u held frame v)

    there : leaves_as_declared u held frame v ≡ true → LeavesAsDeclared u held frame v
    there e = let parts = both _ _ e in record { names = all_names.0 parts.0; holds = counted.0 parts.1 }

    back : LeavesAsDeclared u held frame v → leaves_as_declared u held frame v ≡ true
    back x = join _ _ (all_names.1 x.names) (counted.1 x.holds)

-- from a test to its failing
without : {P : Type 0} (b : Bool) → (b ≡ true) ↔ P → (not b ≡ false) ↔ P
without b says = (λ e. says.0 ((not_false b).0 e), λ p. (not_false b).1 (says.1 p))

nothing : (false ≡ false) ↔ Unit {0}
nothing = (λ e. tt, λ x. refl)

pub what_is_no_violation_is_safe : WhatIsNoViolationIsSafe
what_is_no_violation_is_safe u held frame (to_read place left) =
    without (list_all (is_held held) (guards_of u.layout place)) (all_pass (is_held held) (IsHeld held) (guard_held held) (guards_of u.layout place))
what_is_no_violation_is_safe u held frame (to_write place v) =
    without (list_all (is_held_alone held) (guards_of u.layout place)) (all_pass (is_held_alone held) (IsHeldAlone held) (guard_held_alone held) (guards_of u.layout place))
what_is_no_violation_is_safe u held frame (to_give mode lock) = without (can_be_given held mode lock) (given held mode lock)
what_is_no_violation_is_safe u held frame (to_leave v) = without (leaves_as_declared u held frame v) (leaves u held frame v)
what_is_no_violation_is_safe u held frame to_step = nothing
what_is_no_violation_is_safe u held frame (to_set n v) = nothing
what_is_no_violation_is_safe u held frame (to_branch b) = nothing
what_is_no_violation_is_safe u held frame (to_choose v) = nothing
what_is_no_violation_is_safe u held frame (to_take mode lock) = nothing
what_is_no_violation_is_safe u held frame (to_try mode success lock) = nothing
what_is_no_violation_is_safe u held frame (to_ask f kind) = nothing
what_is_no_violation_is_safe u held frame (to_enter f args) = nothing
what_is_no_violation_is_safe u held frame (to_trap kind) = nothing
