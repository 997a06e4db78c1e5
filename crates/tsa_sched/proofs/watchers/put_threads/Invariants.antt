use Rattle.std.proofs.Common.{◌≡◌, ◌++◌, drop, codes}
use Rattle.std.specs.List.{flat_map}
use Rattle.std.specs.Fmt.{decimal}
use Rattle.tsa_sched.proofs.watchers.put_threads.Given as goal

-- the text so far with the threads that are left is all of it
abbrev pub invariant-each : goal.invariant-each
invariant-each l = l.text.items ++ flat_map (λ t. codes " " ++ decimal t) (drop l.thread-index l.threads) ≡ l.fn.text.items ++ flat_map (λ t. codes " " ++ decimal t) l.threads
