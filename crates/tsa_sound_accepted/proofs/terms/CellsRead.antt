-- The guards of each place that is loaded or set at a point are among those that its uses name.
use Rattle.std.proofs.Common.{◌≡◌, ◌∙◌, inl, inr, ℕ, Bool, true, false, not, ◌&&◌, ◌||◌, List, [], ◌∷◌, ◌++◌, All, Contains, Option, Some}
use Rattle.std.proofs.Common.{None, sym, subst}
use Rattle.std.proofs.lemmas.List.Elements.{All-nil, All-cons, Contains-append_left, Contains-append_right, Contains-push}
use Rattle.std.proofs.lemmas.List.Folds.{list_any-append}
use Rattle.std.specs.List.{flat_map, list_any}
use Rattle.tsa_tree.specs.expressions.Syntax.{Expression}
use Rattle.tsa_tree.specs.expressions.Sound.{Words}
use Rattle.tsa_tree.specs.types.Scopes.{Scope}
use Rattle.tsa_place_model.specs.Ways.{Way}
use Rattle.tsa_core.specs.Kinds.{Setting, Belongs}
use Rattle.tsa_core.specs.Loads.{loads, places}
use Rattle.tsa_core.specs.Meanings.{meaning}
use Rattle.tsa_core.specs.Terms.{Term, constant, variable, answer, global, member, element, target, load, address, converted, prefixed}
use Rattle.tsa_core.specs.Terms.{joined}
use Rattle.tsa_core.specs.Uses.{Access, access, access_guards, accesses}
use Rattle.tsa_core.proofs.KindTests.{or_left, one_of}
use Rattle.tsa_core.proofs.ValuesServe.{free_gives}
use Rattle.tsa_path.specs.Sameness.{same_way}
use Rattle.tsa_path.proofs.PathsApart.{way_itself}
use Rattle.tsa_rules.specs.Attributes.{is_path}
use Rattle.tsa_rules.specs.Points.{is_guarded_by, is_read_under, is_write_under}
use Rattle.tsa_sound.specs.PartlyWorked.{guard_ways}
use Rattle.tsa_sound.specs.TermFacts.{AllLoad, Loads}
use Rattle.tsa_sound_accepted.proofs.terms.CellsAsked.{EachOf, HasPaths}
use Rattle.tsa_sound_accepted.proofs.terms.CellsTold.{IsTold}
use Rattle.tsa_sound_accepted.proofs.terms.GuardsAgree.{agree, all_there}
use Rattle.tsa_base.proofs.Truths.{never, or_right}

-- what a term loads is among its loads
pub loads_contained : (x : Term) (b : Bool) (q : Term) → Loads x b q → Contains (loads x) q
loads_contained (constant v) b q h = absurd h
loads_contained (variable n) b q h = absurd h
loads_contained answer b q h = absurd h
loads_contained (global n) b q h = absurd h
loads_contained (member base n) b q h = loads_contained base b q h
loads_contained (element base index) b q (inl h) = Contains-append_left (loads base) (loads index) q (loads_contained base b q h)
loads_contained (element base index) b q (inr h) = Contains-append_right (loads base) (loads index) q (loads_contained index b q h)
loads_contained (target pointer) b q h = loads_contained pointer b q h
loads_contained (load is_stable place) b q (inl h) =
    subst (Contains (place ∷ loads place)) h.1 (Contains-append_left (place ∷ []) (loads place) place (Contains-push [] place))
loads_contained (load is_stable place) b q (inr h) = Contains-append_right (place ∷ []) (loads place) q (loads_contained place b q h)
loads_contained (address place) b q h = loads_contained place b q h
loads_contained (converted kind inner) b q h = loads_contained inner b q h
loads_contained (prefixed o inner) b q h = loads_contained inner b q h
loads_contained (joined o left right) b q (inl h) = Contains-append_left (loads left) (loads right) q (loads_contained left b q h)
loads_contained (joined o left right) b q (inr h) = Contains-append_right (loads left) (loads right) q (loads_contained right b q h)

pub all_contained : (xs : List Term) (b : Bool) (q : Term) → AllLoad xs b q → Contains (flat_map loads xs) q
all_contained [] b q h = absurd h
all_contained (x ∷ xs) b q (inl h) = Contains-append_left (loads x) (flat_map loads xs) q (loads_contained x b q h)
all_contained (x ∷ xs) b q (inr h) = Contains-append_right (loads x) (flat_map loads xs) q (all_contained xs b q h)

-- guards that all have paths, each of which is among them
each_guard : (P : Option Way → Type 0) (ws : List (Option Way)) → all_there ws ≡ false → ((c : Way) → list_any (is_path c) ws ≡ true → P (Some c)) → All P ws
each_guard P [] h f = All-nil P
each_guard P (None ∷ ws) h f = never h
each_guard P (Some w ∷ ws) h f =
    All-cons P (Some w) ws (f w (or_left (same_way w w) (list_any (is_path w) ws) (way_itself w)))
    (each_guard P ws h (λ c g. f c (or_right (same_way w c) (list_any (is_path c) ws) g)))

-- an access under a path, for a write or a read
abbrev pub is_under : Bool → Way → Access → Bool
is_under true = is_write_under
is_under false = is_read_under

pub any_append : (p : Access → Bool) (xs ys : List Access) → (list_any p xs || list_any p ys) ≡ true → list_any p (xs ++ ys) ≡ true
any_append p xs ys h = list_any-append p xs ys ∙ h

-- what is accessed under a path is guarded by it
under_guarded : (b : Bool) (c : Way) (a : Access) → is_under b c a ≡ true → is_guarded_by c a ≡ true
under_guarded true c a h = by a.is_write h
  where
    by : (w : Bool) → (w && is_guarded_by c a) ≡ true → is_guarded_by c a ≡ true
    by true g = g
    by false g = never (sym g)
under_guarded false c a h = by a.is_write h
  where
    by : (w : Bool) → (not w && is_guarded_by c a) ≡ true → is_guarded_by c a ≡ true
    by true g = never (sym g)
    by false g = g

pub any_guarded : (b : Bool) (c : Way) (xs : List Access) → list_any (is_under b c) xs ≡ true → list_any (is_guarded_by c) xs ≡ true
any_guarded b c [] h = never (sym h)
any_guarded b c (a ∷ xs) h =
    one_of (is_under b c a) (list_any (is_under b c) xs) h (λ g. or_left (is_guarded_by c a) (list_any (is_guarded_by c) xs) (under_guarded b c a g))
    (λ g. or_right (is_guarded_by c a) (list_any (is_guarded_by c) xs) (any_guarded b c xs g))

module _ (here : Scope) (k : Setting) (bel : Belongs here k) (stable : ℕ → Bool) (words : Words) where
  own_access : (b : Bool) (e : Expression) (c : Way) → list_any (is_path c) (access_guards k.layout stable here e) ≡ true → is_under b c (access k.layout stable here b e) ≡ true
  own_access true e c h = h
  own_access false e c h = h

  -- the guards of cells that are accessed
  pub cells_under : (b : Bool) (P : Option Way → Type 0) (cs : List Expression) → EachOf (IsTold here words) cs → EachOf (HasPaths k.layout stable here) cs
      → ((c : Way) → list_any (is_under b c) (accesses k.layout stable here b cs) ≡ true → P (Some c)) → All (λ q. All P (guard_ways k stable q)) (places here cs)
  cells_under b P [] told has f = All-nil (λ q. All P (guard_ways k stable q))
  cells_under b P (e ∷ cs) told has f =
      let one = told.0 in
      let rest = accesses k.layout stable here b cs in
      All-cons (λ q. All P (guard_ways k stable q)) (meaning here e).term (places here cs)
      (subst (All P) (sym (agree here k bel stable words e one.sound (free_gives here k e one.free) one.t one.typed has.0))
      (each_guard P (access_guards k.layout stable here e) has.0
      (λ c g. f c (or_left (is_under b c (access k.layout stable here b e)) (list_any (is_under b c) rest) (own_access b e c g)))))
      (cells_under b P cs told.1 has.1 (λ c g. f c (or_right (is_under b c (access k.layout stable here b e)) (list_any (is_under b c) rest) g)))
