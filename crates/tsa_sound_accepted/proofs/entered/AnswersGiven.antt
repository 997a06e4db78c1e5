-- Where a function tries a lock, each of its returns gives an answer.
use Rattle.std.proofs.Common.{◌≡◌, ◌∙◌, ℕ, zero, suc, pos, negsuc, nat_eq, eqb-true, Bool, true, false, not, ◌&&◌, ◌||◌, List, [], ◌∷◌}
use Rattle.std.proofs.Common.{◌++◌, Option, Some, None, IsSome, option_and_then, option_map, slice_get, if◌then◌else◌, refl, sym, ap, subst}
use Rattle.tsa_base.specs.declared.token.Span.{Span}
use Rattle.tsa_base.proofs.Truths.{never}
use Rattle.tsa_tree.specs.declarations.Syntax.{Initialiser, value, list}
use Rattle.tsa_tree.specs.declared.expr.BinaryOp.{BinaryOp}
use Rattle.tsa_tree.specs.declared.kind.ExpressionType.{ExpressionType}
use Rattle.tsa_tree.specs.declared.kind.Kind.{Kind}
use Rattle.tsa_tree.specs.declared.kind.Kind.TheVariants as type
use Rattle.tsa_tree.specs.declared.number.Number.{Number}
use Rattle.tsa_tree.specs.declared.number.Number.TheVariants as numeral
use Rattle.tsa_tree.specs.expressions.Syntax.{Expression}
use Rattle.tsa_tree.specs.points.Syntax.{Deed, declares, evaluates, assigns, tests, switches, jumps, idles, returns, ends}
use Rattle.tsa_tree.specs.types.Constants.{constant_of}
use Rattle.tsa_tree.specs.types.DeclaredTypes.{thing_type, typed_value, value_in}
use Rattle.tsa_tree.specs.types.Expressions.{type_of}
use Rattle.tsa_tree.specs.types.Operands.{unsigned_kind}
use Rattle.tsa_tree.specs.types.Scopes.{Scope, context_of, further}
use Rattle.tsa_tree.specs.types.Targets.{declared_in_all}
use Rattle.tsa_core.specs.Bodies.{Known, declared, known_in_body, point_by, point_of, set_to}
use Rattle.tsa_core.specs.Meanings.{as_kind, loaded, meaning}
use Rattle.tsa_core.specs.Programs.{Bodied}
use Rattle.tsa_core.specs.Terms.{Term, constant, variable, answer, global, member, element, target, load, address, converted, prefixed}
use Rattle.tsa_core.specs.Terms.{joined}
use Rattle.tsa_core.proofs.KindTests.{one_of}
use Rattle.tsa_core.proofs.MappedLists.{map_at}
use Rattle.tsa_core.proofs.TypedTerms.{some_same}
use Rattle.tsa_place_model.proofs.GlobalsInRow.{by_last}
use Rattle.tsa_rules.specs.Conditions as told
use Rattle.tsa_rules.specs.Conditions.{answer_in, answer_of, constant_in, yes_or_no}
use Rattle.tsa_profile_accesses.specs.Premises.{first}
use Rattle.tsa_profile_accesses.specs.declared.premise.ProfileCode.TheVariants.{PF7}
use Rattle.tsa_profile_accesses.specs.declared.standing.Standing.TheVariants.{Whole}
use Rattle.tsa_profile_guards.proofs.NoneFails.{none_of_both, none_of_first}
use Rattle.tsa_profile_points.specs.Bodies.{Around, deed_premises, is_no_truth, point_premises, points_premises, value_misfits, view_at}
use Rattle.tsa_core_points.specs.CoreLaws.{known_of, seen, seen_at}
use Rattle.tsa_profile_accesses.specs.Expressions.{expression, is_truth}
use Rattle.tsa_core_points.specs.Points.{PlacedPoint, placed, placed_all}
use Rattle.tsa_core_points.proofs.PointsOfCore.{placed_are_known}
use Rattle.tsa_rules_roles.proofs.Constants.{terms_have_the_constants}
use Rattle.tsa_sound.specs.BodyFacts.{GivesAnAnswer}
use Rattle.tsa_sound_accepted.proofs.entered.ArgumentsLead.{constant_converted}

-- 0 and 1 are answers, converted or not
says : (n : ℕ) → (nat_eq n 0 || nat_eq n 1) ≡ true → IsSome (yes_or_no n)
says n h = by (nat_eq n 1) (nat_eq n 0) h
  where
    by : (one none : Bool) → (none || one) ≡ true → IsSome (if one then Some true else if none then Some false else None)
    by true none h = refl
    by false true h = refl
    by false false h = never (sym h)

number_says : (n : Number) → is_truth n ≡ true → IsSome (answer_in n)
number_says (numeral.Int (pos n)) h = says n h
number_says (numeral.Int (negsuc n)) h = never (sym h)
number_says (numeral.Unsigned n) h = says n h

abbrev Says : ℕ → Type 0
Says n = IsSome (answer_in (told.as_kind type.Int (numeral.Unsigned n)))

small_says : (n : ℕ) → (nat_eq n 0 || nat_eq n 1) ≡ true → Says n
small_says n h = one_of (nat_eq n 0) (nat_eq n 1) h (λ e. subst Says (sym (eqb-true n 0 e)) refl) (λ e. subst Says (sym (eqb-true n 1 e)) refl)

converted_says : (n : Number) → is_truth n ≡ true → IsSome (answer_in (told.as_kind type.Int n))
converted_says (numeral.Int (pos n)) h = says n h
converted_says (numeral.Int (negsuc n)) h = never (sym h)
converted_says (numeral.Unsigned n) h = small_says n h

int_says : (x : Term) (n : Number) (b : Bool) → constant_in x ≡ Some n → is_truth n ≡ true → IsSome (answer_of (if b then converted type.Int x else x))
int_says x n true is h = subst (λ o. IsSome (option_and_then answer_in o)) (sym (constant_converted type.Int x n is)) (converted_says n h)
int_says x n false is h = subst (λ o. IsSome (option_and_then answer_in o)) (sym is) (number_says n h)

-- an expression that is 0 or 1
no_misfit : (o : Option Number) → is_no_truth o ≡ false → (n : Number) × ((o ≡ Some n) × (is_truth n ≡ true))
no_misfit None h = never h
no_misfit (Some n) h = by (is_truth n) refl h
  where
    by : (b : Bool) → is_truth n ≡ b → not b ≡ false → (m : Number) × ((◌≡◌ {A = Option Number} (Some n) (Some m)) × (is_truth m ≡ true))
    by true e g = (n, (refl, e))
    by false e g = never g

value_constant : (t : Option ExpressionType) (v : Option Number) (n : Number) → typed_value t v ≡ Some n → v ≡ Some n
value_constant None v n h = absurd cc
value_constant (Some t) v n h = h

expression_says : (here : Scope) (e : Expression) → is_no_truth (value_in (context_of here) e) ≡ false → IsSome (answer_of (as_kind type.Int (meaning here e)))
expression_says here e h =
    let n = no_misfit (value_in (context_of here) e) h in
    let is = value_constant (type_of (context_of here) e) (constant_of (context_of here) e) n.0 n.1.0 in
    int_says (loaded (meaning here e)) n.0 (unsigned_kind (meaning here e).type.thing.kind) (terms_have_the_constants here e ∙ is) n.1.1

-- THE POINTS OF A BODY

set_gives : (x : Term) (o : Option BinaryOp) (kind : Kind) (right : Term) → GivesAnAnswer (set_to x o kind right)
set_gives (variable n) o kind right = tt
set_gives (global n) o kind right = tt
set_gives (member base n) o kind right = tt
set_gives (element base i) o kind right = tt
set_gives (target p) o kind right = tt
set_gives (constant v) o kind right = tt
set_gives answer o kind right = tt
set_gives (load s p) o kind right = tt
set_gives (address p) o kind right = tt
set_gives (converted to x) o kind right = tt
set_gives (prefixed u x) o kind right = tt
set_gives (joined b x y) o kind right = tt

init_gives : (here : Scope) (kind : Kind) (i : Option Initialiser) → GivesAnAnswer (declared here kind i).action
init_gives here kind None = tt
init_gives here kind (Some (value e)) = tt
init_gives here kind (Some (list xs span)) = tt

deed_gives : (here : Scope) (d : Deed) → ((e : Expression) → d ≡ returns (Some e) → is_no_truth (value_in (context_of here) e) ≡ false)
    → GivesAnAnswer (point_by here type.Int d).action
deed_gives here (declares d) h = init_gives here (thing_type here d.ctype).kind d.init
deed_gives here (evaluates e) h = tt
deed_gives here (assigns left o right) h = set_gives (meaning here left).term o _ _
deed_gives here (tests None) h = tt
deed_gives here (tests (Some e)) h = tt
deed_gives here (switches e) h = tt
deed_gives here jumps h = tt
deed_gives here idles h = tt
deed_gives here (returns None) h = (refl, refl)
deed_gives here (returns (Some e)) h = (refl, expression_says here e (h e refl))
deed_gives here ends h = (refl, refl)

-- what the profile asks at one of some points
premise_at : (a : Around) (qs : List PlacedPoint) (p : ℕ) (q : PlacedPoint) → first (points_premises a qs) ≡ None → slice_get qs p ≡ Some q
    → first (point_premises a q) ≡ None
unfolding points_premises
premise_at a [] p q h at = absurd cc
premise_at a (x ∷ qs) zero q h at =
    let same : x ≡ q = cc in
    subst (λ y. first (point_premises a y) ≡ None) same (none_of_both (point_premises a x) (points_premises a qs) h).0
premise_at a (x ∷ qs) (suc p) q h at = premise_at a qs p q (none_of_both (point_premises a x) (points_premises a qs) h).1 at

module _ (b : Bodied) (a : Around) (tries : a.tries ≡ true) (kept : first (points_premises a (placed_all b.here b.body)) ≡ None) where
  -- a point of the core program is one that the profile judges
  module _ (n : ℕ) (k : Known) (at : slice_get (known_in_body b.here b.body) n ≡ Some k) (e : Expression) (is : k.deed ≡ returns (Some e)) (close : Span) where
    abbrev all_placed : List PlacedPoint
    all_placed = placed_all b.here b.body

    seen_same : (o : Option PlacedPoint) → option_map (λ q. seen_at (known_of q)) o ≡ Some (seen_at k)
        → (q : PlacedPoint) × ((o ≡ Some q) × (seen_at (known_of q) ≡ seen_at k))
    seen_same None f = absurd cc
    seen_same (Some q) f = (q, (refl, some_same f))

    abbrev with_end : List PlacedPoint
    with_end = all_placed ++ placed (further (declared_in_all b.body) b.here) ends close ∷ []

    placed_there : (q : PlacedPoint) × ((slice_get with_end n ≡ Some q) × (seen_at (known_of q) ≡ seen_at k))
    placed_there =
        let qs = with_end in
        seen_same (slice_get qs n)
        (sym (map_at (λ q. seen_at (known_of q)) qs n) ∙ ap (λ xs. slice_get xs n) (placed_are_known b.here b.body close)
        ∙ map_at seen_at (known_in_body b.here b.body) n ∙ ap (option_map seen_at) at)

    deed_same : (q : PlacedPoint) → seen_at (known_of q) ≡ seen_at k → q.deed ≡ returns (Some e)
    deed_same q same = ap (λ x. x.deed) same ∙ is

    here_same : (q : PlacedPoint) → seen_at (known_of q) ≡ seen_at k → q.here ≡ k.here
    here_same q same = sym (ap (seen q.here) (deed_same q same)) ∙ ap (λ x. x.here) same ∙ ap (seen k.here) is

    fits : (tries : Bool) (misfits : Bool) → tries ≡ true → (tries && misfits) ≡ false → misfits ≡ false
    fits true m f g = g
    fits false m f g = never (sym f)

    asked : (q : PlacedPoint) → seen_at (known_of q) ≡ seen_at k → slice_get all_placed n ≡ Some q → is_no_truth (value_in (context_of k.here) e) ≡ false
    asked q same front =
        let h = premise_at a all_placed n q kept front in
        let g = subst (λ here. first (deed_premises a here q.span (returns (Some e))) ≡ None) (here_same q same)
        (subst (λ x. first (deed_premises a q.here q.span x) ≡ None) (deed_same q same) h) in
        let x = none_of_first PF7 q.span (value_misfits a k.here e) (expression (view_at a k.here) Whole e) g in
        fits a.tries (is_no_truth (value_in (context_of k.here) e)) tries x.0

    no_end : (q : PlacedPoint) → seen_at (known_of q) ≡ seen_at k → placed (further (declared_in_all b.body) b.here) ends close ≡ q → ⊥
    no_end q same last =
        let both : ends ≡ returns (Some e) = ap (λ x. x.deed) last ∙ deed_same q same in
        absurd cc

    returned : is_no_truth (value_in (context_of k.here) e) ≡ false
    returned =
        let x = placed_there in
        by_last all_placed (placed (further (declared_in_all b.body) b.here) ends close) n x.0 x.1.0
        (λ front. asked x.0 x.1.1 front) (λ m last. absurd (no_end x.0 x.1.1 last))

  pub known_gives : (close : Span) (n : ℕ) (k : Known) → slice_get (known_in_body b.here b.body) n ≡ Some k → GivesAnAnswer (point_of type.Int k).action
  known_gives close n k at = deed_gives k.here k.deed (λ e is. returned n k at e is close)
