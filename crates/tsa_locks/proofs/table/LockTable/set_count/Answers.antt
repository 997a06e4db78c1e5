use Rattle.std.proofs.Common.{◌≡◌, ◌≢◌, ℕ, ◌+◌, ◌*◌, ◌<◌, length, get_or, None, Some, IsSome, Option, false, true, arith, refl, ap, ◌∙◌, get_or-set_same, get_or-set_other, length-set}
use Rattle.std.proofs.lemmas.Nat.{same_from_place, mul-add-lt}
use Rattle.tsa_locks.specs.declared.table.Owner.{Owner}
use Rattle.tsa_locks.proofs.table.LockTable.set_count.Goals as goal

not_some : (o : Option Owner) → o ≡ None → IsSome o → ⊥
not_some None e h = let i : false ≡ true = h in cc
not_some (Some n) e h = cc

apart_places : (j u l t w : ℕ) → u < w → t < w → (j ≡ l → u ≡ t → ⊥) → j * w + u ≢ l * w + t
apart_places j u l t w h k d e = let s : (j ≡ l) × (u ≡ t) = same_from_place j u l t w h k e in d s.0 s.1

pub invariant_of-self : goal.invariant_of-self
invariant_of-self c = record {
  long = length-set c.args.self.now.counts.items (c.args.lock * c.args.self.now.threads + c.args.thread) c.args.count ∙ c.args.self.now.long;
  known = c.args.self.now.known;
  apart = λ l t h k owned. get_or-set_other c.args.self.now.counts.items (c.args.lock * c.args.self.now.threads + c.args.thread) (l * c.args.self.now.threads + t) c.args.count 0
      (apart_places l t c.args.lock c.args.thread c.args.self.now.threads k c.requires.thread (λ e _. not_some (get_or c.args.self.now.owners.items l None) (ap (λ m. get_or c.args.self.now.owners.items m None) e ∙ c.requires.free) owned))
      ∙ c.args.self.now.apart l t h k owned;
}

pub returns : goal.returns
returns c = record {
  threads = refl;
  locks = refl;
  here = get_or-set_same c.args.self.now.counts.items (c.args.lock * c.args.self.now.threads + c.args.thread) c.args.count 0 (omega (arith, mul-add-lt c.args.lock c.args.self.now.threads c.args.thread (length c.args.self.now.owners.items) c.requires.lock c.requires.thread, c.args.self.now.long));
  elsewhere = λ j u h d. get_or-set_other c.args.self.now.counts.items (c.args.lock * c.args.self.now.threads + c.args.thread) (j * c.args.self.now.threads + u) c.args.count 0 (apart_places j u c.args.lock c.args.thread c.args.self.now.threads h c.requires.thread d);
  owners = λ j. refl;
}
