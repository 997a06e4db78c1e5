use Rattle.std.proofs.Common.{arith}
use Rattle.tsa_base.proofs.PlacesLemmas.{starts-rise, found-in, place-found}
use Rattle.tsa_base.proofs.places.LineStarts.place.Goals as goal

pub begun-line-requires : goal.begun-line-requires
begun-line-requires c = rw c.deref.ensures.value (starts-rise _ _ c.self.invariant)

pub overflow_sub-line : goal.overflow_sub-line
overflow_sub-line c =
    let found = found-in _ _ _ _ _ c.deref.ensures.value c.self.invariant (omega arith) c.begun-line.ensures.within c.begun-line.ensures.begun in
    found.some

pub index-requires : goal.index-requires
index-requires c =
    let found = found-in _ _ _ _ _ c.deref.ensures.value c.self.invariant (omega arith) c.begun-line.ensures.within c.begun-line.ensures.begun in
    omega (arith, found.some)

pub overflow_sub-column : goal.overflow_sub-column
overflow_sub-column c =
    let found = found-in _ _ _ _ _ c.deref.ensures.value c.self.invariant (omega arith) c.begun-line.ensures.within c.begun-line.ensures.begun in
    (place-found _ _ _ _ _ _ c.min-at.ensures found c.index.ensures (omega arith)).0

pub returns : goal.returns
returns c =
    let found = found-in _ _ _ _ _ c.deref.ensures.value c.self.invariant (omega arith) c.begun-line.ensures.within c.begun-line.ensures.begun in
    rw (← c.self.view_is) (place-found _ _ _ _ _ _ c.min-at.ensures found c.index.ensures (omega arith)).1
