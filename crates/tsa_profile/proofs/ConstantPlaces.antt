-- A constant place of an initialiser is a place of an earlier global, const and guarded as its expression is.
use Rattle.std.proofs.Common.{◌≡◌, ◌∙◌, ℕ, zero, suc, ◌<◌, ◌≤◌, arith, pos, negsuc, nat_lt, nat_eq, Bool, true, false, not, ◌||◌, List, []}
use Rattle.std.proofs.Common.{◌∷◌, ◌++◌, length, map, Option, Some, None, is_none, is_some, option_map, option_and_then, slice_get, refl, sym, ap}
use Rattle.std.proofs.Common.{subst, if◌then◌else◌, eqb-true}
use Rattle.std.proofs.lemmas.Bool.Decides.{nat_tests}
use Rattle.tsa_tree.specs.declared.expr.UnaryOp.TheVariants as prefix
use Rattle.tsa_tree.specs.declared.kind.ExpressionType.{ExpressionType}
use Rattle.tsa_tree.specs.declared.kind.Kind.{Kind}
use Rattle.tsa_tree.specs.declared.kind.Kind.TheVariants as type
use Rattle.tsa_tree.specs.declared.kind.ThingType.{ThingType}
use Rattle.tsa_tree.specs.declared.meaning.Entry.{Entry}
use Rattle.tsa_tree.specs.declared.meaning.Meaning.{Meaning}
use Rattle.tsa_tree.specs.declared.meaning.Meaning.TheVariants as meant
use Rattle.tsa_tree.specs.declared.number.Number.{Number}
use Rattle.tsa_tree.specs.declared.number.Number.TheVariants as numeral
use Rattle.tsa_tree.specs.expressions.Syntax.{Expression, number, null, named, call, unary, binary, field, index}
use Rattle.tsa_tree.specs.types.DeclaredTypes.{value_in}
use Rattle.tsa_tree.specs.types.Expressions.{type_of, unless, both, entry_type, member_type, member_of, owner}
use Rattle.tsa_tree.specs.types.Initialisers.{is_earlier, is_constant_place}
use Rattle.tsa_tree.specs.types.Known.{Context}
use Rattle.tsa_tree.specs.types.Operands.{address_of, breaks_index, breaks_prefix, element_type, followed, is_struct_place, lacks}
use Rattle.tsa_tree.specs.types.Operands.{only, prefix_type, structure_of}
use Rattle.tsa_tree.specs.types.Scopes.{Scope, context_of, known_in}
use Rattle.tsa_tree.specs.types.Types as typed
use Rattle.tsa_tree.specs.types.Types.{place}
use Rattle.tsa_tree.specs.types.Lookups.{members_at, numbered}
use Rattle.tsa_place_model.specs.Arguments.{way_of}
use Rattle.tsa_place_model.specs.LockPaths as path
use Rattle.tsa_place_model.specs.LockPaths.{Led, led, leads, member_step, element_step, in_range, or_variable, index_step, name_way}
use Rattle.tsa_place_model.specs.Ways.{Way, from, onward}
use Rattle.tsa_place_model.specs.declared.path.Root.TheVariants.{Global}
use Rattle.tsa_place_model.specs.declared.path.PathStep.{PathStep}
use Rattle.tsa_place_model.specs.declared.path.PathStep.TheVariants.{Field, Constant, Variable, Follow}
use Rattle.tsa_place_model.specs.declared.spot.Spot.{Spot}
use Rattle.tsa_place_model.specs.declared.spot.Spot.TheVariants.{Place}
use Rattle.tsa_place_model.specs.Calls.{Layout, global_place, member_place, element_place, index_in, take_step, no_locals, part_guards}
use Rattle.tsa_place_model.specs.Layouts.{Part, Structures, no_members, structure_at}
use Rattle.tsa_place_model.specs.Parts.{no_stable}
use Rattle.tsa_place_model.specs.Places.{has_some}
use Rattle.tsa_place_model.proofs.GlobalsInRow.{IsLaid}
use Rattle.tsa_core.specs.Meanings.{meaning}
use Rattle.tsa_core.specs.Uses.{access_guards, member_guards, field_guards, name_guards}
use Rattle.tsa_core.proofs.KindTests.{both_true, not_false}
use Rattle.tsa_core.proofs.KindsOfTerms.{of_owner}
use Rattle.tsa_core.proofs.ScopesAlike.{Alike, no_function, known_alike}
use Rattle.tsa_core.proofs.TypedTerms.{some_same, terms_have_types, member_numbered}
use Rattle.tsa_path.proofs.ArgumentPaths.{bound}
use Rattle.tsa_path.proofs.Pointers.{spot_of, spot_onward}
use Rattle.tsa_path.proofs.StandDeclared.{Marks, marks, part_marks, inner_marks, StandsAs, Heads, global_marked, member_marked}
use Rattle.tsa_path.proofs.StandDeclared.{element_marked}
use Rattle.tsa_path.proofs.StepsBehind.{Inner, member_by, Piece, element_by}
use Rattle.tsa_profile_accesses.specs.Locks.{is_empty}
use Rattle.tsa_base.proofs.Truths.{never}

-- what is declared so far stays as it is
pub record Extends (l whole : Layout) : Type 0 where
  pub globals : (n : ℕ) (part : Part) → slice_get l.globals n ≡ Some part → slice_get whole.globals n ≡ Some part
  pub longer : length l.structs ≤ length whole.structs
  pub structs : (n : ℕ) → n < length l.structs → structure_at whole.structs n ≡ structure_at l.structs n

-- what an initialiser stands in: what types and places know there, its layout so far, and the layout of the unit
pub record Around (here there : Scope) (l whole : Layout) (own : ℕ) : Type 0 where
  pub alike : Alike here there
  pub globals : (name : List ℕ) (n : ℕ) (t : ThingType) → known_in here name ≡ Some (record { meaning = meant.Global n; thing = t }) → n < own
      → option_map (λ part. part.thing) (slice_get l.globals n) ≡ Some t
  pub members : (struct : ℕ) (name : List ℕ) (j : ℕ) (t : ThingType) → numbered (members_at here struct) name 0 ≡ Some (j, t)
      → option_map (λ m. m.thing) (slice_get (structure_at l.structs struct).members j) ≡ Some t
  pub laid : IsLaid l
  pub heads : Heads l
  pub extends : Extends l whole

mapped : {A B : Type 0} (f : A → B) (o : Option A) (b : B) → option_map f o ≡ Some b → (a : A) × ((o ≡ Some a) × (f a ≡ b))
mapped f None b e = cc
mapped f (Some a) b e = (a, (refl, some_same e))

pub one_is : (f : ExpressionType → ExpressionType) (b : Bool) (o : Option ExpressionType) (t : ExpressionType) → unless b (option_map f o) ≡ Some t
    → (b ≡ false) × ((x : ExpressionType) × ((o ≡ Some x) × (f x ≡ t)))
one_is f true o t e = cc
one_is f false None t e = cc
one_is f false (Some x) t e = (refl, (x, (refl, some_same e)))

two_is : (f : ExpressionType → ExpressionType → ExpressionType) (b : Bool) (o p : Option ExpressionType) (t : ExpressionType) → unless b (both f o p) ≡ Some t
    → (x : ExpressionType) × ((o ≡ Some x) × ((y : ExpressionType) × (f x y ≡ t)))
two_is f true o p t e = cc
two_is f false None p t e = cc
two_is f false (Some x) None t e = cc
two_is f false (Some x) (Some y) t e = (x, (refl, (y, some_same e)))

some_guards : {A : Type 0} (xs : List A) → has_some xs ≡ not (is_empty xs)
some_guards [] = refl
some_guards (x ∷ rest) = refl

empty_map : {A B : Type 0} (f : A → B) (xs : List A) → is_empty (map f xs) ≡ is_empty xs
empty_map f [] = refl
empty_map f (x ∷ rest) = refl

pub empty_append : {A : Type 0} (xs ys : List A) → not (is_empty (xs ++ ys)) ≡ (not (is_empty xs) || not (is_empty ys))
empty_append [] ys = refl
empty_append (x ∷ rest) ys = refl

or_swap : (a b : Bool) → (a || b) ≡ (b || a)
or_swap true true = refl
or_swap true false = refl
or_swap false true = refl
or_swap false false = refl

-- no struct beyond the last has a member
beyond : (structs : Structures) (n : ℕ) → length structs ≤ n → structure_at structs n ≡ no_members
unfolding structure_at
beyond [] n h = refl
beyond (s ∷ earlier) n h = by (nat_eq n (length earlier)) refl (beyond earlier n (omega (arith, h)))
  where
    by : (b : Bool) → nat_eq n (length earlier) ≡ b → structure_at earlier n ≡ no_members → (if b then s else structure_at earlier n) ≡ no_members
    by true e known = let same = eqb-true n (length earlier) e in absurd (omega (arith, h, same))
    by false e known = known

pub has_member : (structs : Structures) (n j : ℕ) (m : Part) → slice_get (structure_at structs n).members j ≡ Some m → n < length structs
has_member structs n j m e = by (nat_lt n (length structs)) refl
  where
    none : (j : ℕ) → slice_get no_members.members j ≡ Some m → ⊥
    none zero f = cc
    none (suc j) f = cc

    by : (b : Bool) → nat_lt n (length structs) ≡ b → n < length structs
    by true f = grind (arith, nat_tests, f)
    by false f = absurd (none j (sym (ap (λ s. slice_get s.members j) (beyond structs n (grind (arith, nat_tests, f)))) ∙ e))

-- an index is a constant, or a local
abbrev IsIndex : PathStep → Type 0
IsIndex (Constant i) = Unit {0}
IsIndex (Variable n) = Unit {0}
IsIndex (Field k) = ⊥
IsIndex Follow = ⊥

abbrev IsIndexOr : Option PathStep → Type 0
IsIndexOr None = Unit {0}
IsIndexOr (Some step) = IsIndex step

if_index : (b : Bool) (step : PathStep) → IsIndex step → IsIndexOr (if b then Some step else None)
if_index true step h = h
if_index false step h = tt

range_index : (n : ℕ) (o : Option Number) → IsIndexOr (in_range n o)
range_index n None = tt
range_index n (Some (numeral.Int (pos k))) = if_index (nat_lt k n) (Constant k) tt
range_index n (Some (numeral.Int (negsuc k))) = tt
range_index n (Some (numeral.Unsigned k)) = if_index (nat_lt k n) (Constant k) tt

variable_index : (stable : ℕ → Bool) (o : Option Entry) → IsIndexOr (path.variable stable o)
variable_index stable None = tt
variable_index stable (Some e) = by e.meaning e.thing
  where
    by : (m : Meaning) (t : ThingType) → IsIndexOr (path.variable stable (Some (record { meaning = m; thing = t })))
    by (meant.Global n) t = tt
    by (meant.Local n) t = if_index _ (Variable n) tt
    by (meant.Function n) t = tt
    by meant.Owned t = tt
    by (meant.Constant z) t = tt
    by meant.TypeName t = tt

or_index : (stable : ℕ → Bool) (here : Scope) (at : Expression) (o : Option PathStep) → IsIndexOr o → IsIndexOr (or_variable stable here at o)
or_index stable here at (Some step) h = h
or_index stable here (named name span) None h = variable_index stable (known_in here name.text)
or_index stable here (number n u span) None h = tt
or_index stable here (null span) None h = tt
or_index stable here (call callee args span) None h = tt
or_index stable here (unary o inner span) None h = tt
or_index stable here (binary o left right span) None h = tt
or_index stable here (field base name arrow span) None h = tt
or_index stable here (index base i span) None h = tt

is_index : (stable : ℕ → Bool) (here : Scope) (n : ℕ) (at : Expression) (step : PathStep) → index_step stable here n at ≡ Some step → IsIndex step
is_index stable here n at step e = subst IsIndexOr e (or_index stable here at (in_range n (value_in (context_of here) at)) (range_index n (value_in (context_of here) at)))

module _ (l : Layout) where
  abbrev spot : Way → Option Spot
  spot w = spot_of l no_locals None w

  -- where a way leads, something of a kind stands with these marks
  abbrev pub Ends : Way → Kind → Marks → Type 0
  Ends w kind m = (s : Spot) → spot w ≡ Some s → (p : ℕ) × ((s ≡ Place p) × StandsAs l p kind m)

  -- a way leads where the place of an expression of a type stands
  pub record At (g : Bool) (d : Led) (t : ExpressionType) : Type 0 where
    pub kind : d.thing.kind ≡ t.thing.kind
    pub length : d.thing.length ≡ t.thing.length
    pub ends : Ends d.way t.thing.kind (t.thing.is_const, g)

  -- a step from a place
  abbrev Step : PathStep → Kind → Marks → Kind → Marks → Type 0
  Step step kind m inner n = (q : ℕ) (s : Spot) → StandsAs l q kind m → take_step l no_locals step (Place q) ≡ Some s → (p : ℕ) × ((s ≡ Place p) × StandsAs l p inner n)

  goes_on : (w : Way) (step : PathStep) (kind inner : Kind) (m n : Marks) → Ends w kind m → Step step kind m inner n → Ends (onward step w) inner n
  goes_on w step kind inner m n ends onto s e =
      let b = bound (take_step l no_locals step) (spot w) s (sym (spot_onward l no_locals None w step) ∙ e) in
      let q = ends b.0 b.1.0 in
      onto q.0 s q.1.1 (ap (take_step l no_locals step) (sym q.1.0) ∙ b.1.1)

  abbrev at_place : Option ℕ → Spot → Type 0
  at_place o s = (p : ℕ) × ((o ≡ Some p) × (Place p ≡ s))

  index_place : (step : PathStep) (q : ℕ) (s : Spot) → IsIndex step → take_step l no_locals step (Place q) ≡ Some s
      → (i : ℕ) × ((p : ℕ) × ((element_place l q i ≡ Some p) × (Place p ≡ s)))
  index_place (Constant i) q s h e = let m = mapped Place (element_place l q i) s e in (i, (m.0, (m.1.0, m.1.1)))
  index_place (Variable n) q s h e =
      let m = mapped Place (option_and_then (element_place l q) (option_and_then index_in (no_locals n))) s e in
      let b = bound (element_place l q) (option_and_then index_in (no_locals n)) m.0 m.1.0 in
      (b.0, (m.0, (b.1.1, m.1.1)))
  index_place (Field k) q s h e = absurd h
  index_place Follow q s h e = absurd h

  module _ (laid : IsLaid l) (heads : Heads l) where
    global_ends : (n : ℕ) (part : Part) → slice_get l.globals n ≡ Some part → Ends (from (Global n)) part.thing.kind (part_marks part)
    global_ends n part is s e =
        let m = mapped Place (global_place l n) s e in
        (m.0, (sym m.1.1, global_marked l laid heads n m.0 part is m.1.0))

    member_steps : (struct j : ℕ) (part : Part) (m : Marks) → slice_get (structure_at l.structs struct).members j ≡ Some part
        → Step (Field j) (type.Structure struct) m part.thing.kind (inner_marks m part)
    member_steps struct j part m is q s h e =
        let p = mapped Place (member_place l q j) s e in (
          p.0,
          (
            sym p.1.1,
            subst (λ n. StandsAs l p.0 part.thing.kind (inner_marks n part)) h.1.1.1
                (member_marked l laid heads q struct j p.0 h.0 part h.1.0 h.1.1.0 is p.1.0),
          ),
        )

    element_steps : (step : PathStep) (kind : Kind) (m : Marks) → IsIndex step → Step step kind m kind m
    element_steps step kind m is q s h e =
        let p = index_place step q s is e in (
          p.1.0,
          (
            sym p.1.1.1,
            subst (λ n. StandsAs l p.1.0 kind n) h.1.1.1
                (subst (λ k. StandsAs l p.1.0 k (marks h.0)) h.1.1.0
                (element_marked l laid heads q p.0 p.1.0 h.0 h.1.0 p.1.1.0)),
          ),
        )

-- whether an access has guards
abbrev pub guarded : Layout → Scope → Expression → Bool
guarded whole here e = not (is_empty (access_guards whole no_stable here e))

-- Whether guards are declared anywhere on the way to a constant place, also before an address that `*` or `->` follows.
abbrev pub way_guarded : Layout → Scope → Expression → Bool
way_guarded whole here (named name span) = guarded whole here (named name span)
way_guarded whole here (field base name arrow span) =
    way_guarded whole here base || not (is_empty (field_guards whole here (way_of no_stable here arrow base) name.text (owner arrow (meaning here base).type)))
way_guarded whole here (index base at span) = way_guarded whole here base
way_guarded whole here (unary prefix.Address inner span) = way_guarded whole here inner
way_guarded whole here (unary prefix.Follow inner span) = way_guarded whole here inner
way_guarded whole here e = false

-- the type of the place that an expression stands for, or of the one that it points to
abbrev place_type : (as_pointer : Bool) → ExpressionType → ExpressionType
place_type false t = t
place_type true t = place (followed t.thing.kind)

-- An arrow's member is a point's, of what the pointer points to.
module _ (c : Context) (name : List ℕ) where
  abbrev Same : Bool → ExpressionType → ExpressionType → Type 0
  Same arrow x t =
      (owner false (place_type arrow x) ≡ owner arrow x)
      × (option_map (member_type false (place_type arrow x)) (member_of c false name (place_type arrow x)) ≡ Some t)

  arrow_is : (kind : Kind) (length : Option ℕ) (const is_place is_zero : Bool) (t : ExpressionType)
      → option_map (member_type true (record { thing = record { kind = kind; length = length; is_const = const }; is_place = is_place; is_zero = is_zero }))
      (member_of c true name (record { thing = record { kind = kind; length = length; is_const = const }; is_place = is_place; is_zero = is_zero })) ≡ Some t
      → Same true (record { thing = record { kind = kind; length = length; is_const = const }; is_place = is_place; is_zero = is_zero }) t
  arrow_is (type.Pointer n to_const) None const is_place is_zero t e = (refl, e)
  arrow_is (type.Pointer n to_const) (Some k) const is_place is_zero t e = cc
  arrow_is type.Int None const is_place is_zero t e = cc
  arrow_is type.Int (Some k) const is_place is_zero t e = cc
  arrow_is type.Unsigned None const is_place is_zero t e = cc
  arrow_is type.Unsigned (Some k) const is_place is_zero t e = cc
  arrow_is type.Void None const is_place is_zero t e = cc
  arrow_is type.Void (Some k) const is_place is_zero t e = cc
  arrow_is (type.Structure n) None const is_place is_zero t e = cc
  arrow_is (type.Structure n) (Some k) const is_place is_zero t e = cc
  arrow_is type.Null None const is_place is_zero t e = cc
  arrow_is type.Null (Some k) const is_place is_zero t e = cc
  arrow_is type.Function None const is_place is_zero t e = cc
  arrow_is type.Function (Some k) const is_place is_zero t e = cc

  member_as_point : (arrow : Bool) (x t : ExpressionType) → option_map (member_type arrow x) (member_of c arrow name x) ≡ Some t → Same arrow x t
  member_as_point false x t e = (refl, e)
  member_as_point true x t e = arrow_is x.thing.kind x.thing.length x.thing.is_const x.is_place x.is_zero t e

module _ (here there : Scope) (l whole : Layout) (own : ℕ) (a : Around here there l whole own) where
  -- a global
  global_at : (n : ℕ) (t : ThingType) (part : Part) → slice_get l.globals n ≡ Some part → part.thing ≡ t
      → At l (not (is_empty (part_guards (slice_get whole.globals n)))) (led (from (Global n)) t) (place t)
  global_at n t part is same =
      subst (λ g. At l g (led (from (Global n)) t) (place t))
      (some_guards part.guards ∙ ap (λ o. not (is_empty (part_guards o))) (sym (a.extends.globals n part is)))
      (record { kind = refl; length = refl; ends = subst (λ x. Ends l (from (Global n)) x.kind (x.is_const, has_some part.guards)) same (global_ends l a.laid a.heads n part is) })

  global_named : (name : List ℕ) (n : ℕ) (t : ThingType) → known_in here name ≡ Some (record { meaning = meant.Global n; thing = t }) → nat_lt n own ≡ true
      → At l (not (is_empty (name_guards whole here name (Some (record { meaning = meant.Global n; thing = t }))))) (led (from (Global n)) t) (place t)
  global_named name n t is less =
      let m = mapped (λ part. part.thing) (slice_get l.globals n) t (a.globals name n t is (grind (arith, nat_tests, less))) in
      global_at n t m.0 m.1.0 m.1.1

  entry_at : (name : List ℕ) (m : Meaning) (x : ThingType) → known_in here name ≡ Some (record { meaning = m; thing = x }) → is_earlier own (Some (record { meaning = m; thing = x })) ≡ true
      → (t : ExpressionType) (d : Led) → entry_type (record { meaning = m; thing = x }) ≡ t
      → option_and_then (name_way no_stable there name) (no_function (Some (record { meaning = m; thing = x }))) ≡ Some d
      → At l (not (is_empty (name_guards whole here name (Some (record { meaning = m; thing = x }))))) d t
  entry_at name (meant.Global n) x is c t d f e =
      let g = not (is_empty (name_guards whole here name (Some (record { meaning = meant.Global n; thing = x })))) in
      subst (λ y. At l g d y) f (subst (λ y. At l g y (place x)) (some_same e) (global_named name n x is c))
  entry_at name (meant.Local n) x is c t d f e = never (sym c)
  entry_at name (meant.Function n) x is c t d f e = never (sym c)
  entry_at name meant.Owned x is c t d f e = never (sym c)
  entry_at name (meant.Constant z) x is c t d f e = never (sym c)
  entry_at name meant.TypeName x is c t d f e = never (sym c)

  known_at : (name : List ℕ) (o : Option Entry) → known_in here name ≡ o → is_earlier own o ≡ true → (t : ExpressionType) (d : Led) → option_map entry_type o ≡ Some t
      → option_and_then (name_way no_stable there name) (no_function o) ≡ Some d → At l (not (is_empty (name_guards whole here name o))) d t
  known_at name None is c t d f e = never (sym c)
  known_at name (Some x) is c t d f e = entry_at name x.meaning x.thing is c t d (some_same f) e

  -- a member
  module _ (g : Bool) (before : Led) (x : ExpressionType) (h : At l g before x) (name : List ℕ) (d : Led) (i : Inner there name before.way before.thing.kind before.thing.length d) where
    owner_is : owner false x ≡ Some i.struct
    owner_is = let kind = sym h.kind ∙ i.kind_is in let one = sym h.length ∙ i.one in rw (one, kind) refl

    found_here : numbered (members_at here i.struct) name 0 ≡ Some (i.number, i.thing)
    found_here = subst (λ structs. numbered (members_at (record { tags = here.tags; locks = here.locks; structs = structs; owned = here.owned; names = here.names; functions = here.functions; globals = here.globals; locals = here.locals }) i.struct) name 0 ≡ Some (i.number, i.thing)) a.alike.structs i.found

    type_is : (t : ExpressionType) → option_map (member_type false x) (member_of (context_of here) false name x) ≡ Some t → member_type false x i.thing ≡ t
    type_is t e =
        some_same
        (sym (ap (λ o. option_map (member_type false x) (option_and_then (λ s. (context_of here).member s name) o)) owner_is
        ∙ ap (option_map (member_type false x)) (member_numbered here i.struct name ∙ ap (option_map (λ m. m.1)) found_here)) ∙ e)

    module _ (m : Part) (is : slice_get (structure_at l.structs i.struct).members i.number ≡ Some m) (same : m.thing ≡ i.thing) where
      inner_ends : Ends l (onward (Field i.number) before.way) i.thing.kind (i.thing.is_const || x.thing.is_const, g || has_some m.guards)
      inner_ends =
          subst (λ c. Ends l (onward (Field i.number) before.way) i.thing.kind (c, g || has_some m.guards)) (or_swap x.thing.is_const i.thing.is_const)
          (subst (λ t. Ends l (onward (Field i.number) before.way) t.kind (x.thing.is_const || t.is_const, g || has_some m.guards)) same
          (goes_on l before.way (Field i.number) (type.Structure i.struct) m.thing.kind (x.thing.is_const, g) (inner_marks (x.thing.is_const, g) m)
          (subst (λ k. Ends l before.way k (x.thing.is_const, g)) (sym h.kind ∙ i.kind_is) h.ends)
          (member_steps l a.laid a.heads i.struct i.number m (x.thing.is_const, g) is)))

      inner_at : At l (g || has_some m.guards) d (member_type false x i.thing)
      inner_at = subst (λ y. At l (g || has_some m.guards) y (member_type false x i.thing)) i.led_is (record { kind = refl; length = refl; ends = inner_ends })

      guards_are : (o : Option Way) → not (is_empty (field_guards whole here o name (Some i.struct))) ≡ has_some m.guards
      guards_are o =
          ap (λ q. not (is_empty (member_guards whole o i.struct q))) found_here
          ∙ ap not (empty_map _ (part_guards (slice_get (structure_at whole.structs i.struct).members i.number)))
          ∙ ap (λ s. not (is_empty (part_guards (slice_get s.members i.number)))) (a.extends.structs i.struct (has_member l.structs i.struct i.number m is))
          ∙ ap (λ q. not (is_empty (part_guards q))) is
          ∙ sym (some_guards m.guards)

    member_is : (t : ExpressionType) (o : Option Way) → option_map (member_type false x) (member_of (context_of here) false name x) ≡ Some t
        → At l (g || not (is_empty (field_guards whole here o name (owner false x)))) d t
    member_is t o e =
        let m = mapped (λ m. m.thing) (slice_get (structure_at l.structs i.struct).members i.number) i.thing (a.members i.struct name i.number i.thing found_here) in
        subst (λ y. At l (g || not (is_empty (field_guards whole here o name (owner false x)))) d y) (type_is t e)
        (subst (λ b. At l (g || b) d (member_type false x i.thing)) (sym (its_guards m.0 m.1.0 m.1.1)) (inner_at m.0 m.1.0 m.1.1))
      where
        its_guards : (m : Part) (at : slice_get (structure_at l.structs i.struct).members i.number ≡ Some m) (same : m.thing ≡ i.thing)
            → not (is_empty (field_guards whole here o name (owner false x))) ≡ has_some m.guards
        its_guards m at same = ap (λ q. not (is_empty (field_guards whole here o name q))) owner_is ∙ guards_are m at same o

  -- an element
  element_at : (g : Bool) (before : Led) (x : ExpressionType) → At l g before x → (at : Expression) (d : Led) → Piece no_stable there at before d → At l g d (element_type x)
  element_at g before x h at d i =
      subst (λ y. At l g y (element_type x)) i.led_is
      (record {
        kind = h.kind;
        length = refl;
        ends = goes_on l before.way i.step x.thing.kind x.thing.kind (x.thing.is_const, g) (x.thing.is_const, g) h.ends
            (element_steps l a.laid a.heads i.step x.thing.kind (x.thing.is_const, g) (is_index no_stable there i.count at i.step i.step_is));
      })

  -- the address of a struct object points to it
  pointed_at : (g : Bool) (d : Led) (x t : ExpressionType) → At l g d x → is_struct_place x ≡ true → prefix_type prefix.Address x ≡ t → At l g d (place_type true t)
  pointed_at g d x t h object is = subst (λ y. At l g d (place_type true y)) is (by x.thing.kind x.thing.length x.thing.is_const (both_true x.is_place _ object).1 h.kind h.length h.ends)
    where
      by : (kind : Kind) (length : Option ℕ) (const : Bool) → is_some (only (is_none length) (structure_of kind)) ≡ true → d.thing.kind ≡ kind → d.thing.length ≡ length
          → Ends l d.way kind (const, g) → At l g d (place_type true (typed.value (address_of (record { kind = kind; length = length; is_const = const }))))
      by (type.Structure n) None const e kind length ends = record { kind = kind; length = length; ends = ends }
      by type.Int None const e kind length ends = never (sym e)
      by type.Unsigned None const e kind length ends = never (sym e)
      by type.Void None const e kind length ends = never (sym e)
      by (type.Pointer n c) None const e kind length ends = never (sym e)
      by type.Null None const e kind length ends = never (sym e)
      by type.Function None const e kind length ends = never (sym e)
      by kind (Some k) const e k_is length ends = never (sym e)

  pub constant_place_at : (p : Bool) (e : Expression) (t : ExpressionType) (d : Led) → is_constant_place (context_of here) own p e ≡ true
      → type_of (context_of here) e ≡ Some t → leads no_stable there p e ≡ Some d → At l (way_guarded whole here e) d (place_type p t)
  unfolding type_of leads access_guards
  constant_place_at false (named name span) t d c is e =
      known_at name.text (known_in here name.text) refl c t d is
      (ap (option_and_then (name_way no_stable there name.text)) (sym (known_alike here there a.alike name.text)) ∙ e)
  constant_place_at false (field base name arrow span) t d c is e =
      let f : ExpressionType → Option ExpressionType = λ x. option_map (member_type arrow x) (member_of (context_of here) arrow name.text x) in
      let parts = of_owner f (lacks (λ x. is_some (owner arrow x)) (type_of (context_of here) base)) (type_of (context_of here) base) t is in
      let b = bound (member_step there name.text) (leads no_stable there arrow base) d e in
      let i = member_by there name.text b.0.way b.0.thing.kind b.0.thing.length b.0.thing.is_const b.0.is_stable d b.1.1 in
      let known = constant_place_at arrow base parts.0 b.0 c parts.1.0 b.1.0 in
      let same = member_as_point (context_of here) name.text arrow parts.0 t parts.1.1 in
      subst (λ o. At l (way_guarded whole here base || not (is_empty (field_guards whole here (way_of no_stable here arrow base) name.text o))) d t)
      (same.0 ∙ sym (ap (owner arrow) (terms_have_types here base parts.0 parts.1.0)))
      (member_is (way_guarded whole here base) b.0 (place_type arrow parts.0) known name.text d i t (way_of no_stable here arrow base) same.1)
  constant_place_at false (index base at span) t d c is e =
      let left = type_of (context_of here) base in
      let right = type_of (context_of here) at in
      let parts = two_is (λ x i. element_type x) (breaks_index left right) left right t is in
      let b = bound (element_step no_stable there at) (leads no_stable there false base) d e in
      let i = element_by no_stable there at b.0.way b.0.thing.kind b.0.thing.length b.0.thing.is_const b.0.is_stable d b.1.1 in
      let known = constant_place_at false base parts.0 b.0 (both_true (is_constant_place (context_of here) own false base) _ c).0 parts.1.0 b.1.0 in
      subst (λ y. At l (way_guarded whole here base) d y) parts.1.1.1 (element_at (way_guarded whole here base) b.0 parts.0 known at d i)
  constant_place_at false (unary prefix.Follow inner span) t d c is e =
      let x = one_is (prefix_type prefix.Follow) (breaks_prefix prefix.Follow (type_of (context_of here) inner)) (type_of (context_of here) inner) t is in
      subst (λ y. At l (way_guarded whole here inner) d y) x.1.1.1 (constant_place_at true inner x.1.0 d c x.1.1.0 e)
  constant_place_at true (unary prefix.Address inner span) t d c is e =
      let x = one_is (prefix_type prefix.Address) (breaks_prefix prefix.Address (type_of (context_of here) inner)) (type_of (context_of here) inner) t is in
      let object = not_false (is_struct_place x.1.0) (subst (λ o. breaks_prefix prefix.Address o ≡ false) x.1.1.0 x.0) in
      pointed_at (way_guarded whole here inner) d x.1.0 t (constant_place_at false inner x.1.0 d c x.1.1.0 e) object x.1.1.1
  constant_place_at false (number n u span) t d c is e = never (sym c)
  constant_place_at false (null span) t d c is e = never (sym c)
  constant_place_at false (call callee args span) t d c is e = never (sym c)
  constant_place_at false (unary prefix.Minus inner span) t d c is e = never (sym c)
  constant_place_at false (unary prefix.Not inner span) t d c is e = never (sym c)
  constant_place_at false (unary prefix.Flip inner span) t d c is e = never (sym c)
  constant_place_at false (binary o left right span) t d c is e = never (sym c)
  constant_place_at true (number n u span) t d c is e = never (sym c)
  constant_place_at true (null span) t d c is e = never (sym c)
  constant_place_at true (call callee args span) t d c is e = never (sym c)
  constant_place_at true (unary prefix.Minus inner span) t d c is e = never (sym c)
  constant_place_at true (unary prefix.Not inner span) t d c is e = never (sym c)
  constant_place_at true (unary prefix.Flip inner span) t d c is e = never (sym c)
  constant_place_at true (binary o left right span) t d c is e = never (sym c)
  constant_place_at true (named name span) t d c is e = never (sym c)
  constant_place_at true (field base name arrow span) t d c is e = never (sym c)
  constant_place_at true (index base at span) t d c is e = never (sym c)
  constant_place_at true (unary prefix.Follow inner span) t d c is e = never (sym c)
  constant_place_at false (unary prefix.Address inner span) t d c is e = never (sym c)
