use Rattle.std.proofs.Common.{◌≡◌, ◌∙◌, Some, None, if◌then◌else◌, option_map, arith, ap, subst, ℕ, ◌+◌, take}
use Rattle.tsa_sched.specs.Parts.{reading}
use Rattle.tsa_sched.specs.Schedules.{IsMalformed}
use Rattle.tsa_sched.proofs.Breaking.{short_at, breaks_at, byte_read, part_fits, ends_well, ends_badly}
use Rattle.tsa_sched.proofs.schedule.read_schedule.Goals as goal

pub overflow_cast-byte : goal.overflow_cast-byte
overflow_cast-byte c = record { fits = short_at c.args.text.now c.bytes.at (reading c.bytes.picks.items c.bytes.part) c.bytes.invariant.inside c.bytes.invariant.run }

pub returns-in_default-clause-malformed : goal.returns-in_default-clause-malformed
returns-in_default-clause-malformed c = λ byte is. let same : c.bytes.at ≡ byte = cc in subst (IsMalformed c.args.text.now) same
    (breaks_at c.args.text.now c.bytes.at (reading c.bytes.picks.items c.bytes.part) c.bytes-test.true c.bytes.invariant.run
    (c.in_ok-next.ensures ∙ ap (option_map (reading c.put_byte.new.picks.items)) c.in_default.is))

pub bytes-preserved : goal.bytes-preserved
bytes-preserved c = let run = byte_read c.args.text.now c.bytes.at (reading c.bytes.picks.items c.bytes.part) (reading c.put_byte.new.picks.items c.in-Some.next)
    c.bytes-test.true c.bytes.invariant.run (c.in_ok-next.ensures ∙ ap (option_map (reading c.put_byte.new.picks.items)) c.in-Some.is) in
    record { inside = omega (arith, c.bytes-test.true); run = run; part = part_fits (take (c.bytes.at + 1) c.args.text.now) (reading c.put_byte.new.picks.items c.in-Some.next) run }

pub overflow_cast-byte-else-branch : goal.overflow_cast-byte-else-branch
overflow_cast-byte-else-branch c = record { fits = short_at c.args.text.now c.bytes.at (reading c.bytes.picks.items c.bytes.part) c.bytes.invariant.inside c.bytes.invariant.run }

pub returns-then-branch-clause-picks : goal.returns-then-branch-clause-picks
returns-then-branch-clause-picks c = ends_well c.args.text.now c.bytes.at (reading c.bytes.picks.items c.bytes.part) c.put_end.new.picks.items
    (omega (arith, c.bytes-test.false, c.bytes.invariant.inside)) c.bytes.invariant.run
    (c.in_ok-put_end.ensures ∙ ap (λ b. if b then Some c.put_end.new.picks.items else None) c.if-branch.true)

pub returns-else-branch-clause-malformed : goal.returns-else-branch-clause-malformed
returns-else-branch-clause-malformed c = λ byte is. let same : c.bytes.at ≡ byte = cc in subst (IsMalformed c.args.text.now) same
    (ends_badly c.args.text.now c.bytes.at (reading c.bytes.picks.items c.bytes.part) (omega (arith, c.bytes-test.false, c.bytes.invariant.inside)) c.bytes.invariant.run
    (c.in_ok-put_end.ensures ∙ ap (λ b. if b then Some c.put_end.new.picks.items else None) c.if-branch.false))
