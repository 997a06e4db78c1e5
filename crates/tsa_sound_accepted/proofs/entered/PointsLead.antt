-- At each point of each function with a body the arguments of its call are what their paths say.
use Rattle.std.proofs.Common.{◌≡◌, ℕ, zero, suc, Bool, List, [], ◌∷◌, All, Option, Some, None, option_map, slice_get, refl, sym, subst}
use Rattle.std.proofs.lemmas.List.Elements.{All-head, All-tail}
use Rattle.tsa_tree.specs.declared.kind.Kind.{Kind}
use Rattle.tsa_tree.specs.expressions.Sound.{all_words}
use Rattle.tsa_tree.specs.types.DeclaredTypes.{thing_type}
use Rattle.tsa_tree.specs.types.Units.{outset}
use Rattle.tsa_tree.specs.units.Syntax.{UnitItem}
use Rattle.tsa_place_model.specs.LockPaths.{stable_in}
use Rattle.tsa_core.specs.Bodies.{Known, Point, known_in_body, point_of}
use Rattle.tsa_place_model.specs.Calls.{Layout}
use Rattle.tsa_core.specs.KindLaws.{setting}
use Rattle.tsa_core.specs.Kinds.{Belongs}
use Rattle.tsa_core.specs.Meanings.{Call}
use Rattle.tsa_core.specs.Programs.{Bodied, bodied_function, body_in, uses_in}
use Rattle.tsa_core.specs.Uses.{Uses, uses_of}
use Rattle.tsa_core.proofs.FactsKnown.{FactsAt}
use Rattle.tsa_core.proofs.MappedLists.{map_at}
use Rattle.tsa_core.proofs.ScopesBelong.{scopes_belong}
use Rattle.tsa_rules.specs.Points.{or_idle, or_unused, point_at, uses_at}
use Rattle.tsa_sound.specs.BodyFacts.{AllLead}
use Rattle.tsa_sound.specs.FramesFit.{stable_of}
use Rattle.tsa_sound_accepted.specs.terms.Units.{IsInProfile}
use Rattle.tsa_sound_accepted.specs.entered.Laws.{ArgumentsLead}
use Rattle.tsa_sound_accepted.proofs.entered.CallsLead.{deed_leads}
use Rattle.tsa_sound_accepted.proofs.entered.Functions.{each_at, facts, function_made, result, runs, text}

all_at : {A : Type 0} (P : A → Type 0) (xs : List A) (n : ℕ) (x : A) → All P xs → slice_get xs n ≡ Some x → P x
all_at P [] n x h at = absurd cc
all_at P (y ∷ xs) zero x h at = let one : y ≡ x = cc in subst P one (All-head P y xs h)
all_at P (y ∷ xs) (suc n) x h at = all_at P xs n x (All-tail P y xs h) at

module _ (items : List UnitItem) (l : Layout) (in_profile : IsInProfile items l) (name : List ℕ) (b : Bodied)
    (is : bodied_function name (outset items) items ≡ Some b)
  where
    abbrev ks : List Known
    ks = known_in_body b.here b.body

    abbrev stable : ℕ → Bool
    stable = stable_in (body_in b).stable

    -- at a point, over what it uses
    abbrev At : Point → Uses → Type 0
    At p x = (c : Call) → p.call ≡ Some c → AllLead stable c.args x.arguments

    at_known : (r : Kind) (p : ℕ) (k : Known) → slice_get ks p ≡ Some k → At (point_of r k) (uses_of l stable k)
    at_known r p k at =
        deed_leads k.here (setting l b None)
        (all_at (λ x. Belongs x.here (setting l b None)) ks p k (scopes_belong items name b l None (runs items l in_profile name b is) in_profile.placed is) at)
        stable l all_words (result items l in_profile name b is) r k.deed
        (each_at (FactsAt all_words (result items l in_profile name b is)) ks p k (facts items l in_profile name b is) at)

    by_known : (r : Kind) (p : ℕ) (o : Option Known) → slice_get ks p ≡ o → At (or_idle (option_map (point_of r) o)) (or_unused (option_map (uses_of l stable) o))
    by_known r p None at = λ c h. absurd cc
    by_known r p (Some k) at = at_known r p k at

    abbrev r : Kind
    r = (thing_type b.here b.head.result).kind

    pub points_lead : (p : ℕ) → At (or_idle (slice_get (body_in b).points p)) (or_unused (slice_get (uses_in l b) p))
    points_lead p =
        subst (λ o. At (or_idle o) (or_unused (slice_get (uses_in l b) p))) (sym (map_at (point_of r) ks p))
        (subst (λ o. At (or_idle (option_map (point_of r) (slice_get ks p))) (or_unused o)) (sym (map_at (uses_of l stable) ks p)) (by_known r p (slice_get ks p) refl))

pub arguments_lead : ArgumentsLead
arguments_lead items l u n in_profile same body p c is =
    let m = function_made items l in_profile u same n body in
    subst (λ f. (point_at f p).call ≡ Some c → AllLead (stable_of f.body) c.args (uses_at f p).arguments) m.made
    (points_lead items l in_profile m.declared.head.name.text m.bodied m.body_at p c) is
