-- What is said of a point by what is known there doesn't depend on how many locals there are, but where one is declared.
use Rattle.std.proofs.Common.{◌≡◌, ℕ, ◌≤◌, ◌+◌, arith, Bool, true, false, [], ◌∷◌, All, Some, None, sym, subst}
use Rattle.std.proofs.lemmas.List.Elements.{All-append}
use Rattle.tsa_tree.specs.declarations.Syntax.{Declaration}
use Rattle.tsa_tree.specs.declared.kind.ThingType.{ThingType}
use Rattle.tsa_tree.specs.points.Syntax.{Deed, declares, evaluates, assigns, tests, switches, jumps, idles, returns, ends}
use Rattle.tsa_tree.specs.expressions.Sound.{Words}
use Rattle.tsa_tree.specs.types.Locals.{local_entry, unless_taken}
use Rattle.tsa_tree.specs.types.Scopes.{Scope, further, is_taken, with_locals}
use Rattle.tsa_core.specs.Bodies.{known_in_body}
use Rattle.tsa_core.specs.Kinds.{Belongs, Setting}
use Rattle.tsa_core.specs.Laws.{IsBelow, KnowsBelow}
use Rattle.tsa_core.specs.Programs.{Bodied}
use Rattle.tsa_core.proofs.DeedsHold.{Facts}
use Rattle.tsa_core.proofs.EachScope.{each_point}
use Rattle.tsa_core.proofs.KnownLocals.{names_more, one_name}
use Rattle.tsa_core_points.specs.CoreLaws.{seen}

pub scope_moved : (here there : Scope) (d : Deed) → seen there d ≡ seen here d → (P : Scope → Type 0) → ((s : Scope) → P s → P (with_locals 0 s))
    → ((s : Scope) → P (with_locals 0 s) → P s)
    → P here → P there
scope_moved here there (tests e) same P to from h = from there (subst P (sym same) (to here h))
scope_moved here there ends same P to from h = from there (subst P (sym same) (to here h))
scope_moved here there (declares d) same P to from h = subst P (sym same) h
scope_moved here there (evaluates e) same P to from h = subst P (sym same) h
scope_moved here there (assigns left o right) same P to from h = subst P (sym same) h
scope_moved here there (switches e) same P to from h = subst P (sym same) h
scope_moved here there jumps same P to from h = subst P (sym same) h
scope_moved here there idles same P to from h = subst P (sym same) h
scope_moved here there (returns e) same P to from h = subst P (sym same) h

pub facts_moved : (words : Words) (result : ThingType) (here there : Scope) (d : Deed) → seen there d ≡ seen here d → Facts words result here d
    → Facts words result there d
facts_moved words result here there (tests None) same h = tt
facts_moved words result here there (tests (Some e)) same h = subst (λ s. Facts words result s (tests (Some e))) (sym same) h
facts_moved words result here there ends same h = tt
facts_moved words result here there (declares d) same h = subst (λ s. Facts words result s (declares d)) (sym same) h
facts_moved words result here there (evaluates e) same h = subst (λ s. Facts words result s (evaluates e)) (sym same) h
facts_moved words result here there (assigns left o right) same h = subst (λ s. Facts words result s (assigns left o right)) (sym same) h
facts_moved words result here there (switches e) same h = subst (λ s. Facts words result s (switches e)) (sym same) h
facts_moved words result here there jumps same h = tt
facts_moved words result here there idles same h = tt
facts_moved words result here there (returns e) same h = subst (λ s. Facts words result s (returns e)) (sym same) h

belongs_to : (k : Setting) (s : Scope) → Belongs s k → Belongs (with_locals 0 s) k
belongs_to k s h = record { global_is = h.global_is; local_is = h.local_is; members_are = h.members_are; none_owned = h.none_owned }

belongs_from : (k : Setting) (s : Scope) → Belongs (with_locals 0 s) k → Belongs s k
belongs_from k s h = record { global_is = h.global_is; local_is = h.local_is; members_are = h.members_are; none_owned = h.none_owned }

pub belongs_moved : (k : Setting) (here there : Scope) (d : Deed) → seen there d ≡ seen here d → Belongs here k → Belongs there k
belongs_moved k here there d same h = scope_moved here there d same (λ s. Belongs s k) (belongs_to k) (belongs_from k) h

-- the locals that are known at a point are among those declared so far, with the parameters
local_below : (here : Scope) (d : Declaration) (taken : Bool) → KnowsBelow here → KnowsBelow (further 1 (unless_taken taken d.name.text (local_entry here d) here))
local_below here d true h = names_more here.locals (here.locals + 1) here.names (omega arith) h
local_below here d false h =
    All-append (λ x. IsBelow (here.locals + 1) x.1.meaning) here.names ((d.name.text, local_entry here d) ∷ [])
    (names_more here.locals (here.locals + 1) here.names (omega arith) h) (one_name (here.locals + 1) d.name.text (local_entry here d) (omega arith))

pub points_know_below : (b : Bodied) → KnowsBelow b.here → All (λ k. KnowsBelow k.here) (known_in_body b.here b.body)
points_know_below b h =
    each_point KnowsBelow (λ here n g. names_more here.locals (here.locals + n) here.names (omega arith) g)
    (λ here d g. local_below here d (is_taken d.name.text here) g) b.here b.body h

one_more : (n : ℕ) (here : Scope) (x : Declaration) (taken : Bool) → n ≤ here.locals
    → n ≤ (further 1 (unless_taken taken x.name.text (local_entry here x) here)).locals
one_more n here x true h = omega (arith, h)
one_more n here x false h = omega (arith, h)

pub points_have_more : (b : Bodied) → All (λ k. b.here.locals ≤ k.here.locals) (known_in_body b.here b.body)
points_have_more b =
    each_point (λ here. b.here.locals ≤ here.locals) (λ here m h. omega (arith, h))
    (λ here x h. one_more b.here.locals here x (is_taken x.name.text here) h) b.here b.body (omega arith)
