-- The argument of a call is what its path says: a local, a constant, or a pointer to where the path leads.
use Rattle.std.proofs.Common.{◌≡◌, ◌∙◌, ℕ, pos, negsuc, ◌^◌, ◌<◌, ◌%◌, arith, nat_lt, Bool, true, false, not, ◌&&◌, ◌||◌, List, [], ◌∷◌}
use Rattle.std.proofs.Common.{Option, Some, None, Result, Ok, Err, is_some, is_none, option_map, if◌then◌else◌, refl, sym, ap, subst}
use Rattle.std.proofs.lemmas.Bool.Decides.{nat_tests}
use Rattle.std.proofs.Math.Nat.{mod-eq_of_lt}
use Rattle.tsa_tree.specs.declared.kind.ExpressionType.{ExpressionType}
use Rattle.tsa_tree.specs.declared.kind.Kind.{Kind}
use Rattle.tsa_tree.specs.declared.kind.Kind.TheVariants as type
use Rattle.tsa_tree.specs.declared.kind.ThingType.{ThingType}
use Rattle.tsa_tree.specs.declared.meaning.Entry.{Entry}
use Rattle.tsa_tree.specs.declared.meaning.Meaning.{Meaning}
use Rattle.tsa_tree.specs.declared.meaning.Meaning.TheVariants as known
use Rattle.tsa_tree.specs.declared.number.Number.{Number}
use Rattle.tsa_tree.specs.declared.number.Number.TheVariants as numeral
use Rattle.tsa_tree.specs.expressions.Syntax.{Expression, Arguments, number, null, named, call, unary, binary, field, index, none, more}
use Rattle.tsa_tree.specs.declared.number.Trap.{Trap}
use Rattle.tsa_tree.specs.types.Arithmetic.{modulus}
use Rattle.tsa_tree.specs.types.Constants.{go_on, without_trap}
use Rattle.tsa_tree.specs.types.DeclaredTypes.{value_in}
use Rattle.tsa_tree.specs.types.Expressions.{type_of, types_of, arguments_break, all_typed}
use Rattle.tsa_tree.specs.types.Operands.{integer_kind, unsigned_kind, is_integer, is_single, goes_to, lacks, target_of, same_target}
use Rattle.tsa_tree.specs.types.Operands.{keeps_const}
use Rattle.tsa_tree.specs.types.Scopes.{Scope, context_of, known_in}
use Rattle.tsa_place_model.specs.Arguments.{argument_way, index_argument, local_argument, or_local, way_of}
use Rattle.tsa_place_model.specs.LockPaths.{Led, in_range, leads}
use Rattle.tsa_place_model.specs.Ways.{Way, from, onward}
use Rattle.tsa_place_model.specs.declared.path.PathStep.{PathStep}
use Rattle.tsa_place_model.specs.declared.path.PathStep.TheVariants.{Field, Follow}
use Rattle.tsa_place_model.specs.declared.path.Root.{Root}
use Rattle.tsa_place_model.specs.declared.path.Root.TheVariants.{Global, Local, Owner}
use Rattle.tsa_place_model.specs.Calls.{index_in}
use Rattle.tsa_core.specs.Kinds.{Setting, Belongs}
use Rattle.tsa_core.specs.Meanings.{arguments, as_kind, is_int, loaded, meaning, null_pointer, of_name, of_number}
use Rattle.tsa_core.specs.Terms.{Term, constant, variable, answer, global, member, element, target, load, address, converted, prefixed}
use Rattle.tsa_core.specs.Terms.{joined, Sense}
use Rattle.tsa_core.specs.Uses.{argument_ways}
use Rattle.tsa_core.proofs.KindTests.{both_true, neither, not_false}
use Rattle.tsa_core.proofs.TypedTerms.{some_same}
use Rattle.tsa_path.proofs.ArgumentPaths.{Chosen, chosen}
use Rattle.tsa_rules.specs.Conditions as told
use Rattle.tsa_rules.specs.Conditions.{constant_in, constant_result, is_constant}
use Rattle.tsa_rules_roles.proofs.Constants.{terms_have_the_values}
use Rattle.tsa_sound.specs.BodyFacts.{AllLead, ArgumentLeads, IsOfLocal, IsOfNumber, LeadsAlong}
use Rattle.tsa_sound.specs.PartlyWorked.{followed, further, index_step, local_way, place_way, target_way}
use Rattle.tsa_sound_accepted.proofs.terms.LedTerms.{does}
use Rattle.tsa_base.proofs.Truths.{never}

-- WHERE POINTERS LEAD

-- a path to a place begins at a global, or goes on from a local
abbrev IsPlaced : Root → List PathStep → Type 0
IsPlaced (Global n) steps = Unit {0}
IsPlaced (Local n) [] = ⊥
IsPlaced (Local n) (step ∷ rest) = Unit {0}
IsPlaced Owner steps = ⊥

abbrev IsPlacedIfAny : Option Way → Type 0
IsPlacedIfAny None = Unit {0}
IsPlacedIfAny (Some w) = IsPlaced w.root w.steps

further_placed : (o : Option Way) (step : Option PathStep) → IsPlacedIfAny o → IsPlacedIfAny (further o step)
further_placed None None h = tt
further_placed None (Some step) h = tt
further_placed (Some w) None h = tt
further_placed (Some w) (Some step) h = by w.root w.steps h
  where
    by : (root : Root) (steps : List PathStep) → IsPlaced root steps → IsPlacedIfAny (Some (onward step (record { root = root; steps = steps })))
    by (Global n) steps h = tt
    by (Local n) (first ∷ rest) h = tt
    by (Local n) [] h = absurd h
    by Owner steps h = absurd h

followed_placed : (is_stable : Bool) (o : Option Way) → IsPlacedIfAny o → IsPlacedIfAny (followed is_stable o)
followed_placed true o h = further_placed o (Some Follow) h
followed_placed false o h = tt

local_placed : (is_stable : Bool) (n : ℕ) → IsPlacedIfAny (local_way is_stable n)
local_placed true n = tt
local_placed false n = tt

module _ (stable : ℕ → Bool) where
  mutual
    place_placed : (x : Term) → IsPlacedIfAny (place_way stable x)
    place_placed (global n) = tt
    place_placed (member base k) = further_placed (place_way stable base) (Some (Field k)) (place_placed base)
    place_placed (element base at) = further_placed (place_way stable base) (index_step stable at) (place_placed base)
    place_placed (target pointer) = target_placed pointer
    place_placed (constant v) = tt
    place_placed (variable n) = tt
    place_placed answer = tt
    place_placed (load is_stable place) = tt
    place_placed (address place) = tt
    place_placed (converted kind inner) = tt
    place_placed (prefixed o inner) = tt
    place_placed (joined o left right) = tt

    target_placed : (x : Term) → IsPlacedIfAny (target_way stable x)
    target_placed (variable n) = local_placed (stable n) n
    target_placed (load is_stable place) = followed_placed is_stable (place_way stable place) (place_placed place)
    target_placed (address place) = place_placed place
    target_placed (constant v) = tt
    target_placed answer = tt
    target_placed (global n) = tt
    target_placed (member base k) = tt
    target_placed (element base at) = tt
    target_placed (target pointer) = tt
    target_placed (converted kind inner) = tt
    target_placed (prefixed o inner) = tt
    target_placed (joined o left right) = tt

  -- so that what leads as a pointer leads as an argument
  placed_leads : (x : Term) (root : Root) (steps : List PathStep) → IsPlaced root steps → target_way stable x ≡ Some (record { root = root; steps = steps })
      → ArgumentLeads stable x root steps
  placed_leads x (Global n) steps h e = e
  placed_leads x (Local n) [] h e = absurd h
  placed_leads x (Local n) (step ∷ rest) h e = e
  placed_leads x Owner steps h e = absurd h

  target_leads : (x : Term) (w : Way) → target_way stable x ≡ Some w → LeadsAlong stable x (Some w)
  target_leads x w e = placed_leads x w.root w.steps (subst IsPlacedIfAny e (target_placed x)) e

-- NUMBERS

-- a constant that is converted or not
is_number : (k : ℕ) (x : Term) (n : Number) → constant_in x ≡ Some n → index_in (of_number n) ≡ Some k → IsOfNumber k x
is_number k x n h e = record { number = n; found = h; same = e }

converted_constant : (kind : Kind) (b : Bool) (r : Result Number Trap) (n : Number) → (if b then without_trap r else None) ≡ Some n
    → (if b then without_trap (go_on r (λ m. Ok (told.as_kind kind m))) else None) ≡ Some (told.as_kind kind n)
converted_constant kind true (Ok m) n h = ap (λ x. Some (told.as_kind kind x)) (some_same h)
converted_constant kind true (Err trap) n h = absurd cc
converted_constant kind false r n h = absurd cc

pub constant_converted : (kind : Kind) (x : Term) (n : Number) → constant_in x ≡ Some n → constant_in (converted kind x) ≡ Some (told.as_kind kind n)
constant_converted kind x n h = converted_constant kind (is_constant x) (constant_result x) n h

unsigned_index : (n : Number) (k : ℕ) → index_in (of_number n) ≡ Some k → k < 65536 → index_in (of_number (told.as_kind type.Unsigned n)) ≡ Some k
unsigned_index (numeral.Int (pos m)) k e h =
    let same : m ≡ k = some_same e in
    let small : m % modulus ≡ m = mod-eq_of_lt (omega (arith, same, h)) in
    ap (λ x. Some x) small ∙ e
unsigned_index (numeral.Int (negsuc m)) k e h = cc
unsigned_index (numeral.Unsigned m) k e h = e

int_index : (n : Number) (k : ℕ) → index_in (of_number n) ≡ Some k → k < 65536 → index_in (of_number (told.as_kind type.Int n)) ≡ Some k
int_index (numeral.Int z) k e h = e
int_index (numeral.Unsigned m) k e h =
    let same : m ≡ k = some_same e in
    let below : m < 2 ^ 31 = omega (arith, same, h) in
    let test : nat_lt m (2 ^ 31) ≡ true = grind (arith, nat_tests, below) in
    rw test e

-- an argument that is a constant ..
int_number : (x : Term) (n : Number) (k : ℕ) (b : Bool) → constant_in x ≡ Some n → index_in (of_number n) ≡ Some k → k < 65536
    → IsOfNumber k (if b then converted type.Int x else x)
int_number x n k true is at h = is_number k (converted type.Int x) (told.as_kind type.Int n) (constant_converted type.Int x n is) (int_index n k at h)
int_number x n k false is at h = is_number k x n is at

unsigned_number : (x : Term) (n : Number) (k : ℕ) (b : Bool) → constant_in x ≡ Some n → index_in (of_number n) ≡ Some k → k < 65536
    → IsOfNumber k (if b then converted type.Unsigned x else x)
unsigned_number x n k true is at h =
    is_number k (converted type.Unsigned x) (told.as_kind type.Unsigned n) (constant_converted type.Unsigned x n is) (unsigned_index n k at h)
unsigned_number x n k false is at h = is_number k x n is at

number_leads : (kind : Kind) (s : Sense) (n : Number) (k : ℕ) → integer_kind kind ≡ true → constant_in (loaded s) ≡ Some n → index_in (of_number n) ≡ Some k
    → k < 65536
    → IsOfNumber k (as_kind kind s)
number_leads type.Int s n k i is at h = int_number (loaded s) n k (unsigned_kind s.type.thing.kind) is at h
number_leads type.Unsigned s n k i is at h = unsigned_number (loaded s) n k (is_int s.type.thing.kind) is at h
number_leads type.Void s n k i is at h = never (sym i)
number_leads (type.Structure m) s n k i is at h = never (sym i)
number_leads (type.Pointer m c) s n k i is at h = never (sym i)
number_leads type.Null s n k i is at h = never (sym i)
number_leads type.Function s n k i is at h = never (sym i)

-- .. and one that is a local
local_converted : (kind : Kind) (n : ℕ) (b : Bool) → integer_kind kind ≡ true → IsOfLocal n (if b then converted kind (variable n) else variable n)
local_converted kind n true i = (i, refl)
local_converted kind n false i = refl

local_leads : (kind : Kind) (n : ℕ) (s : Sense) → integer_kind kind ≡ true → loaded s ≡ variable n → IsOfLocal n (as_kind kind s)
local_leads type.Int n s i e =
    subst (λ x. IsOfLocal n (if unsigned_kind s.type.thing.kind then converted type.Int x else x)) (sym e) (local_converted type.Int n (unsigned_kind s.type.thing.kind) i)
local_leads type.Unsigned n s i e =
    subst (λ x. IsOfLocal n (if is_int s.type.thing.kind then converted type.Unsigned x else x)) (sym e) (local_converted type.Unsigned n (is_int s.type.thing.kind) i)
local_leads type.Void n s i e = never (sym i)
local_leads (type.Structure m) n s i e = never (sym i)
local_leads (type.Pointer m c) n s i e = never (sym i)
local_leads type.Null n s i e = never (sym i)
local_leads type.Function n s i e = never (sym i)

module _ (here : Scope) (k : Setting) (bel : Belongs here k) (stable : ℕ → Bool) where
  abbrev Leads : Term → Option Way → Type 0
  Leads x w = LeadsAlong stable x w

  -- a pointer
  loaded_pointer : (n : ℕ) (c : Bool) (s : Sense) (m : ℕ) (d : Bool) → s.type.thing.kind ≡ type.Pointer m d → as_kind (type.Pointer n c) s ≡ loaded s
  loaded_pointer n c s m d e = ap (λ kind. if true && integer_kind kind then null_pointer else loaded s) e

  pointer_leads : (n : ℕ) (c : Bool) (e : Expression) (t : ExpressionType) → type_of (context_of here) e ≡ Some t
      → Leads (as_kind (type.Pointer n c) (meaning here e)) (way_of stable here true e)
  pointer_leads n c e t typed = by (leads stable here true e) refl
    where
      by : (o : Option Led) → leads stable here true e ≡ o → Leads (as_kind (type.Pointer n c) (meaning here e)) (option_map (λ l. l.way) o)
      by None is = tt
      by (Some d) is =
          let h = does here k bel stable true e t d typed is in
          target_leads stable (as_kind (type.Pointer n c) (meaning here e)) d.way
          (ap (target_way stable) (loaded_pointer n c (meaning here e) h.struct h.to_const h.kind_is) ∙ h.way_is)

  -- a number
  entry_leads : (kind : Kind) (m : Meaning) (t : ThingType) → integer_kind kind ≡ true
      → Leads (as_kind kind (of_name (Some (record { meaning = m; thing = t })))) (local_argument stable (Some (record { meaning = m; thing = t })))
  entry_leads kind (known.Local n) t i = by (stable n)
    where
      by : (b : Bool) → Leads (as_kind kind (of_name (Some (record { meaning = known.Local n; thing = t })))) (if b then Some (from (Local n)) else None)
      by true = local_leads kind n (of_name (Some (record { meaning = known.Local n; thing = t }))) i refl
      by false = tt
  entry_leads kind (known.Global n) t i = tt
  entry_leads kind (known.Function n) t i = tt
  entry_leads kind known.Owned t i = tt
  entry_leads kind (known.Constant z) t i = tt
  entry_leads kind known.TypeName t i = tt

  name_leads : (kind : Kind) (o : Option Entry) → integer_kind kind ≡ true → Leads (as_kind kind (of_name o)) (local_argument stable o)
  name_leads kind None i = tt
  name_leads kind (Some x) i = entry_leads kind x.meaning x.thing i

  or_local_leads : (kind : Kind) (e : Expression) → integer_kind kind ≡ true → Leads (as_kind kind (meaning here e)) (or_local stable here e None)
  unfolding meaning
  or_local_leads kind (named name span) i = name_leads kind (known_in here name.text) i
  or_local_leads kind (number n u span) i = tt
  or_local_leads kind (null span) i = tt
  or_local_leads kind (call callee args span) i = tt
  or_local_leads kind (unary o inner span) i = tt
  or_local_leads kind (binary o left right span) i = tt
  or_local_leads kind (field base name arrow span) i = tt
  or_local_leads kind (index base at span) i = tt

  index_leads : (kind : Kind) (e : Expression) (t : ExpressionType) → integer_kind kind ≡ true → type_of (context_of here) e ≡ Some t
      → Leads (as_kind kind (meaning here e)) (index_argument stable here e)
  index_leads kind e t i typed = by (in_range 65536 (value_in (context_of here) e)) refl
    where
      of_chosen : (step : PathStep) → Chosen 65536 (value_in (context_of here) e) step → Leads (as_kind kind (meaning here e)) (Some (onward step (from Owner)))
      of_chosen step c =
          let less = c.less in
          let below : c.number < 65536 = grind (arith, nat_tests, less) in
          subst (λ x. Leads (as_kind kind (meaning here e)) (Some (onward x (from Owner)))) c.step_is
          (number_leads kind (meaning here e) c.value c.number i (terms_have_the_values here e t typed ∙ c.value_is) c.index_is below)

      by : (o : Option PathStep) → in_range 65536 (value_in (context_of here) e) ≡ o
          → Leads (as_kind kind (meaning here e)) (or_local stable here e (option_map (λ step. onward step (from Owner)) o))
      by None is = or_local_leads kind e i
      by (Some step) is = of_chosen step (chosen 65536 (value_in (context_of here) e) step is)

  -- an argument, by the kind of its parameter
  abbrev Goes : ExpressionType → Kind → Bool
  Goes t w =
      (is_integer t && integer_kind w)
      || ((t.is_zero && is_some (target_of w))
      || (is_single t && (is_some (target_of w) && (same_target t.thing.kind w && keeps_const t.thing.kind w))))

  no_target : {A : Type 0} (a b c : Bool) → ((a && false) || ((b && false) || (c && (false && true)))) ≡ true → A
  no_target true true true e = never (sym e)
  no_target true true false e = never (sym e)
  no_target true false true e = never (sym e)
  no_target true false false e = never (sym e)
  no_target false true true e = never (sym e)
  no_target false true false e = never (sym e)
  no_target false false true e = never (sym e)
  no_target false false false e = never (sym e)

  kind_leads : (kind : Kind) (e : Expression) (t : ExpressionType) → type_of (context_of here) e ≡ Some t → Goes t kind ≡ true
      → Leads (as_kind kind (meaning here e)) (argument_way stable here kind e)
  kind_leads (type.Pointer n c) e t typed goes = pointer_leads n c e t typed
  kind_leads type.Int e t typed goes = index_leads type.Int e t refl typed
  kind_leads type.Unsigned e t typed goes = index_leads type.Unsigned e t refl typed
  kind_leads type.Void e t typed goes = no_target (is_integer t) t.is_zero (is_single t) goes
  kind_leads (type.Structure n) e t typed goes = no_target (is_integer t) t.is_zero (is_single t) goes
  kind_leads type.Null e t typed goes = no_target (is_integer t) t.is_zero (is_single t) goes
  kind_leads type.Function e t typed goes = no_target (is_integer t) t.is_zero (is_single t) goes

  -- all of them in order
  typed_first : (o : Option ExpressionType) (rest : List (Option ExpressionType)) → all_typed (o ∷ rest) ≡ true
      → (t : ExpressionType) × ((o ≡ Some t) × (all_typed rest ≡ true))
  typed_first None rest e = never (sym e)
  typed_first (Some t) rest e = (t, (refl, e))

  goes_first : (p : ThingType) (o : Option ExpressionType) (t : ExpressionType) (b : Bool) → o ≡ Some t → (lacks (λ x. goes_to x p) o || b) ≡ false
      → (goes_to t p ≡ true) × (b ≡ false)
  goes_first p None t b e f = cc
  goes_first p (Some x) t b e f =
      let both = neither (not (goes_to x p)) b f in
      (subst (λ y. goes_to y p ≡ true) (some_same e) (not_false (goes_to x p) both.0), both.1)

  pub all_lead : (params : List ThingType) (args : Arguments) → all_typed (types_of (context_of here) args) ≡ true
      → arguments_break params (types_of (context_of here) args) ≡ false → AllLead stable (arguments here params args) (argument_ways stable here params args)
  unfolding arguments type_of types_of
  all_lead (p ∷ params) (more e rest) typed goes =
      let t = typed_first (type_of (context_of here) e) (types_of (context_of here) rest) typed in
      let g = goes_first p (type_of (context_of here) e) t.0 (arguments_break params (types_of (context_of here) rest)) t.1.0 goes in
      (kind_leads p.kind e t.0 t.1.0 (both_true (is_none p.length) (Goes t.0 p.kind) g.0).1, all_lead params rest t.1.1 g.1)
  all_lead [] none typed goes = tt
  all_lead [] (more e rest) typed goes = tt
  all_lead (p ∷ params) none typed goes = tt
