-- A local that is assigned changes.
use Rattle.std.proofs.Common.{◌≡◌, ◌∙◌, ℕ, zero, suc, ◌+◌, ◌<◌, arith, Bool, true, false, List, [], ◌∷◌, ◌++◌, length, map, replicate}
use Rattle.std.proofs.Common.{Option, Some, None, option_map, slice_get, slice_index_or, slice_set, refl, sym, ap, subst}
use Rattle.std.proofs.lemmas.List.{length-append, length-replicate, length-set}
use Rattle.tsa_tree.specs.declared.expr.BinaryOp.{BinaryOp}
use Rattle.tsa_tree.specs.declared.kind.Kind.{Kind}
use Rattle.tsa_tree.specs.declarations.Syntax.{Initialiser, value, list}
use Rattle.tsa_tree.specs.expressions.Syntax.{Expression}
use Rattle.tsa_tree.specs.points.Syntax.{Deed, declares, evaluates, assigns, tests, switches, jumps, idles, returns, ends}
use Rattle.tsa_tree.specs.types.DeclaredTypes.{thing_type}
use Rattle.tsa_tree.specs.types.Scopes.{Scope}
use Rattle.tsa_place_model.specs.LockPaths.{stable_in}
use Rattle.tsa_core.specs.Bodies.{Known, changed, declared, known_in_body, kinds_by, point_by, point_of, set_local, set_to, stable_behind}
use Rattle.tsa_core.specs.Bodies.{stable_by}
use Rattle.tsa_core.specs.Laws.{ActsBelow, KnowsBelow}
use Rattle.tsa_core.specs.Meanings.{meaning}
use Rattle.tsa_core.specs.Programs.{Bodied, body_in}
use Rattle.tsa_core.specs.Terms.{Term, constant, variable, answer, global, member, element, target, load, address, converted, prefixed}
use Rattle.tsa_core.specs.Terms.{joined}
use Rattle.tsa_core.proofs.KnownLocals.{points_speak_of_known}
use Rattle.tsa_core.proofs.MappedLists.{map_at}
use Rattle.tsa_rules.specs.Points.{or_idle}
use Rattle.tsa_sound_accepted.proofs.kept.CountedLocals.{AreCounted, body_counted}

-- A place of a list of tests is false, and stays so.
abbrev IsFalse : List Bool → ℕ → Type 0
IsFalse bs n = slice_get bs n ≡ Some false

front : (bs cs : List Bool) (n : ℕ) → IsFalse bs n → IsFalse (bs ++ cs) n
front [] cs n e = absurd cc
front (b ∷ bs) cs zero e = e
front (b ∷ bs) cs (suc n) e = front bs cs n e

set_false : (bs : List Bool) (m n : ℕ) → IsFalse bs n → IsFalse (slice_set bs m false) n
set_false [] m n e = absurd cc
set_false (b ∷ bs) zero zero e = refl
set_false (b ∷ bs) zero (suc n) e = e
set_false (b ∷ bs) (suc m) zero e = e
set_false (b ∷ bs) (suc m) (suc n) e = set_false bs m n e

set_here : (bs : List Bool) (n : ℕ) → n < length bs → IsFalse (slice_set bs n false) n
set_here [] n less = absurd (omega (arith, less))
set_here (b ∷ bs) zero less = refl
set_here (b ∷ bs) (suc n) less = set_here bs n (omega (arith, less))

changed_false : (bs : List Bool) (x : Term) (n : ℕ) → IsFalse bs n → IsFalse (changed bs x) n
changed_false bs (variable m) n e = set_false bs m n e
changed_false bs (constant v) n e = e
changed_false bs answer n e = e
changed_false bs (global m) n e = e
changed_false bs (member base m) n e = e
changed_false bs (element base i) n e = e
changed_false bs (target p) n e = e
changed_false bs (load s p) n e = e
changed_false bs (address p) n e = e
changed_false bs (converted to x) n e = e
changed_false bs (prefixed o x) n e = e
changed_false bs (joined o x y) n e = e

changed_length : (bs : List Bool) (x : Term) → length (changed bs x) ≡ length bs
changed_length bs (variable m) = length-set bs m false
changed_length bs (constant v) = refl
changed_length bs answer = refl
changed_length bs (global m) = refl
changed_length bs (member base m) = refl
changed_length bs (element base i) = refl
changed_length bs (target p) = refl
changed_length bs (load s p) = refl
changed_length bs (address p) = refl
changed_length bs (converted to x) = refl
changed_length bs (prefixed o x) = refl
changed_length bs (joined o x y) = refl

step_false : (bs : List Bool) (here : Scope) (d : Deed) (n : ℕ) → IsFalse bs n → IsFalse (stable_by bs here d) n
step_false bs here (declares d) n e = front bs (true ∷ []) n e
step_false bs here (assigns left o right) n e = changed_false bs (meaning here left).term n e
step_false bs here (evaluates x) n e = e
step_false bs here (tests x) n e = e
step_false bs here (switches x) n e = e
step_false bs here jumps n e = e
step_false bs here idles n e = e
step_false bs here (returns x) n e = e
step_false bs here ends n e = e

-- there are as many as are declared
step_length : (bs : List Bool) (here : Scope) (d : Deed) → length (stable_by bs here d) ≡ length bs + length (kinds_by here d)
step_length bs here (declares d) = length-append bs (true ∷ [])
step_length bs here (assigns left o right) = let h = changed_length bs (meaning here left).term in omega (arith, h)
step_length bs here (evaluates x) = omega arith
step_length bs here (tests x) = omega arith
step_length bs here (switches x) = omega arith
step_length bs here jumps = omega arith
step_length bs here idles = omega arith
step_length bs here (returns x) = omega arith
step_length bs here ends = omega arith

behind_false : (ks : List Known) (bs : List Bool) (n : ℕ) → IsFalse bs n → IsFalse (stable_behind bs ks) n
behind_false [] bs n e = e
behind_false (k ∷ ks) bs n e = behind_false ks (stable_by bs k.here k.deed) n (step_false bs k.here k.deed n e)

-- a point assigns a local
record AssignsLocal (k : Known) (n : ℕ) : Type 0 where
  left : Expression
  op : Option BinaryOp
  right : Expression
  deed_is : k.deed ≡ assigns left op right
  term_is : (meaning k.here left).term ≡ variable n

set_then : (ks : List Known) (bs : List Bool) (p n : ℕ) (k : Known) → AreCounted (length bs) ks → slice_get ks p ≡ Some k → AssignsLocal k n
    → n < k.here.locals → IsFalse (stable_behind bs ks) n
set_then [] bs p n k counted at x less = absurd cc
set_then (j ∷ ks) bs zero n k counted at x less =
    let same : j ≡ k = cc in
    let h = counted.0 in
    let locals : j.here.locals ≡ k.here.locals = ap (λ y. y.here.locals) same in
    behind_false ks (stable_by bs j.here j.deed) n
    (subst (λ y. IsFalse (stable_by bs y.here y.deed) n) (sym same)
    (subst (λ d. IsFalse (stable_by bs k.here d) n) (sym x.deed_is)
    (subst (λ t. IsFalse (changed bs t) n) (sym x.term_is) (set_here bs n (omega (arith, h, locals, less))))))
set_then (j ∷ ks) bs (suc p) n k counted at x less =
    set_then ks (stable_by bs j.here j.deed) p n k (subst (λ m. AreCounted m ks) (sym (step_length bs j.here j.deed)) counted.1) at x less

-- which points do
set_to_local : (x : Term) (o : Option BinaryOp) (kind : Kind) (r : Term) (n : ℕ) (q : Option BinaryOp) (other : Kind) (s : Term)
    → set_to x o kind r ≡ set_local n q other s → x ≡ variable n
set_to_local (variable m) o kind r n q other s e = let same : m ≡ n = cc in ap variable same
set_to_local (constant v) o kind r n q other s e = absurd cc
set_to_local answer o kind r n q other s e = absurd cc
set_to_local (global m) o kind r n q other s e = absurd cc
set_to_local (member base m) o kind r n q other s e = absurd cc
set_to_local (element base i) o kind r n q other s e = absurd cc
set_to_local (target p) o kind r n q other s e = absurd cc
set_to_local (load st p) o kind r n q other s e = absurd cc
set_to_local (address p) o kind r n q other s e = absurd cc
set_to_local (converted to y) o kind r n q other s e = absurd cc
set_to_local (prefixed u y) o kind r n q other s e = absurd cc
set_to_local (joined b y z) o kind r n q other s e = absurd cc

init_declared : (here : Scope) (kind : Kind) (init : Option Initialiser) (n : ℕ) (q : Option BinaryOp) (other : Kind) (s : Term)
    → (declared here kind init).action ≡ set_local n q other s → ⊥
init_declared here kind None n q other s e = cc
init_declared here kind (Some (value x)) n q other s e = cc
init_declared here kind (Some (list items span)) n q other s e = cc

assigns_local : (result : Kind) (k : Known) (deed : Deed) → k.deed ≡ deed → (n : ℕ) (q : Option BinaryOp) (other : Kind) (s : Term)
    → (point_by k.here result deed).action ≡ set_local n q other s → AssignsLocal k n
assigns_local result k (assigns left o right) is n q other s e = record {
  left = left;
  op = o;
  right = right;
  deed_is = is;
  term_is = set_to_local (meaning k.here left).term o _ _ n q other s e;
}
assigns_local result k (declares d) is n q other s e = absurd (init_declared k.here (thing_type k.here d.ctype).kind d.init n q other s e)
assigns_local result k (evaluates x) is n q other s e = absurd cc
assigns_local result k (tests None) is n q other s e = absurd cc
assigns_local result k (tests (Some x)) is n q other s e = absurd cc
assigns_local result k (switches x) is n q other s e = absurd cc
assigns_local result k jumps is n q other s e = absurd cc
assigns_local result k idles is n q other s e = absurd cc
assigns_local result k (returns None) is n q other s e = absurd cc
assigns_local result k (returns (Some x)) is n q other s e = absurd cc
assigns_local result k ends is n q other s e = absurd cc

pub at_index : {A : Type 0} (xs : List A) (n : ℕ) (x d : A) → slice_get xs n ≡ Some x → (n < length xs) × (slice_index_or xs n d ≡ x)
at_index [] n x d e = absurd cc
at_index (y ∷ xs) zero x d e = let same : y ≡ x = cc in (omega arith, same)
at_index (y ∷ xs) (suc n) x d e = let h = at_index xs n x d e in let less : n < length xs = h.0 in (omega (arith, less), h.1)

module _ (b : Bodied) (begins : KnowsBelow b.here) (result : Kind) where
  abbrev ks : List Known
  ks = known_in_body b.here b.body

  known_set : (p n : ℕ) (k : Known) → slice_get ks p ≡ Some k → (o : Option BinaryOp) (kind : Kind) (x : Term) → (point_of result k).action ≡ set_local n o kind x
      → slice_get (body_in b).stable n ≡ Some false
  known_set p n k at o kind x e =
      let i = at_index ks p k k at in
      let below = points_speak_of_known b.here result b.body begins p k i.0 in
      let acts = subst (λ y. ActsBelow y.here.locals (point_of result y).action) i.1 below.1 in
      let less = (subst (ActsBelow k.here.locals) e acts).0 in
      let long : length (replicate b.here.locals true) ≡ b.here.locals = length-replicate b.here.locals true in
      set_then ks (replicate b.here.locals true) p n k (subst (λ m. AreCounted m ks) (sym long) (body_counted b.here b.body)) at
      (assigns_local result k k.deed refl n o kind x e) less

  point_set : (p n : ℕ) (o : Option BinaryOp) (kind : Kind) (x : Term) → (or_idle (slice_get (map (point_of result) ks) p)).action ≡ set_local n o kind x
      → slice_get (body_in b).stable n ≡ Some false
  point_set p n o kind x e = by (slice_get ks p) refl (ap (λ y. (or_idle y).action) (sym (map_at (point_of result) ks p)) ∙ e)
    where
      by : (y : Option Known) → slice_get ks p ≡ y → (or_idle (option_map (point_of result) y)).action ≡ set_local n o kind x
          → slice_get (body_in b).stable n ≡ Some false
      by None at f = absurd cc
      by (Some k) at f = known_set p n k at o kind x f

  -- what is set at a point isn't stable
  pub set_changes : (p n : ℕ) (o : Option BinaryOp) (kind : Kind) (x : Term) → (or_idle (slice_get (map (point_of result) ks) p)).action ≡ set_local n o kind x
      → stable_in (body_in b).stable n ≡ false
  set_changes p n o kind x e = let h = point_set p n o kind x e in rw h refl
