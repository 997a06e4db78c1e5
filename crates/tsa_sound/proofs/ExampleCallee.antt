-- A function that is handed a lock and gives it back meets all that the laws ask of it.
use Rattle.std.proofs.Common.{◌≡◌, ◌∙◌, ℕ, zero, suc, Bool, true, false, List, [], ◌∷◌, length, ◌≤◌, ◌<◌, filter, if◌then◌else◌, Some, None}
use Rattle.std.proofs.Common.{inl, option_and_then, slice_get, refl, ap, sym, subst, arith, eqb-true, nat_eq}
use Rattle.std.specs.List.{list_any}
use Rattle.std.specs.Prelude.{All, AllPairs, Contains, IsSome}
use Rattle.tsa_place_model.specs.declared.path.PathStep.TheVariants.{Follow}
use Rattle.tsa_tree.specs.declared.attr.AttrKind.TheVariants as attr
use Rattle.tsa_tree.specs.declared.kind.Kind.{Kind}
use Rattle.tsa_tree.specs.declared.kind.Kind.TheVariants as type
use Rattle.tsa_place_model.specs.Ways.{Way}
use Rattle.tsa_core.specs.Bodies.{go_on}
use Rattle.tsa_core.specs.Meanings.{Call}
use Rattle.tsa_core.specs.Programs.{Attr, Function}
use Rattle.tsa_core.specs.Terms.{Term, answer, variable}
use Rattle.tsa_rules.specs.KeptLaws.{pointed}
use Rattle.tsa_core.proofs.BodyExamples.{worked}
use Rattle.tsa_path.specs.Substitution.{as_pointer, given}
use Rattle.tsa_rules.specs.Points.{is_index, mentions, attrs_at, edges_of, function_at, point_at, uses_at}
use Rattle.tsa_rules.specs.Sheets.{passes}
use Rattle.tsa_rules.proofs.Sheets.{sheets_that_pass_are_kept, sheets_that_pass_are_possible}
use Rattle.tsa_mean.proofs.Lists.{all_more, all_none}
use Rattle.tsa_mean.proofs.RunExamples.{turned}
use Rattle.tsa_sound.specs.CallFacts.{CallFacts, first_pointed, of_lock}
use Rattle.tsa_sound.specs.Examples.{call_rows, give_sheet, locked_call}
use Rattle.tsa_sound.specs.BodyFacts.{AllLead, BodyFacts, IsScalar, MentionsParameters, SaysItsMode}
use Rattle.tsa_sound.specs.Facts.{FunctionFacts, IsAmong, PointFacts, WritesUnder}
use Rattle.tsa_sound.specs.FramesFit.{setting_behind, setting_with, stable_of}
use Rattle.tsa_sound.specs.TermFacts.{AllFit, AllLoad}
use Rattle.tsa_sound.specs.PartlyWorked.{guard_ways, target_way}
use Rattle.tsa_sound.proofs.Sums.{first_in}
use Rattle.tsa_path.specs.Sameness.{same_way}
use Rattle.tsa_rules.specs.Attributes.{claim_count, claims_path}
use Rattle.tsa_sound.proofs.Constants.{differ}
use Rattle.tsa_sound.proofs.ExampleForms.{OfCall, OfSet, assigns, for_call, for_set, goes_next, joins, no_assign, no_call, no_declaration}
use Rattle.tsa_sound.proofs.ExampleForms.{no_join, nothing_loaded}
use Rattle.tsa_sound.proofs.Tests.{none_is_some, same_some}

-- the function, and its points
abbrev v : Function
v = function_at locked_call 2

kept_passes : passes locked_call v give_sheet ≡ true
unfolding worked
kept_passes = refl

-- the point of the call, which loads nothing
abbrev SilentCall : ℕ → Type 0
SilentCall p = OfCall (λ c. AllFit (setting_with locked_call v None) (stable_of v.body) c.args × ((b : Bool) (q : Term) → AllLoad c.args b q → ⊥)) (point_at v p).call

silent_args : (p : ℕ) → SilentCall p → (c : Call) → (point_at v p).call ≡ Some c
    → AllFit (setting_with locked_call v None) (stable_of v.body) c.args × ((b : Bool) (q : Term) → AllLoad c.args b q → ⊥)
silent_args p h c e = for_call (λ c. AllFit (setting_with locked_call v None) (stable_of v.body) c.args × ((b : Bool) (q : Term) → AllLoad c.args b q → ⊥)) (point_at v p).call h c e

giving_is_silent : SilentCall 0
unfolding turned OfCall
giving_is_silent = ((tt, tt), λ b q l. nothing_loaded l)

-- the attributes of the call, and its own
given_attrs : ◌≡◌ {A = List Attr} (record { kind = attr.Release; success = false; path = Some (pointed 0) } ∷ []) (attrs_at locked_call v 0)
unfolding worked
given_attrs = refl

own_attrs : ◌≡◌ {A = List Attr} (record { kind = attr.Release; success = false; path = Some (pointed 0) } ∷ []) v.attrs
unfolding worked
own_attrs = refl

abbrev released : Attr
released = record { kind = attr.Release; success = false; path = Some (pointed 0) }

has_path : All (λ (a : Attr). IsSome a.path) (released ∷ [])
has_path = all_more (λ (a : Attr). IsSome a.path) released [] refl (all_none (λ (a : Attr). IsSome a.path))

-- the one argument leads to the lock
first_argument : (k : ℕ) (x : Term) (w' : Way) → slice_get (variable 0 ∷ []) k ≡ Some x → option_and_then as_pointer (given (Some (pointed 0) ∷ []) k) ≡ Some w'
    → target_way (stable_of v.body) x ≡ Some w'
unfolding turned
first_argument zero x w' arg way = ap (target_way (stable_of v.body)) (sym (same_some arg)) ∙ way
first_argument (suc k) x w' arg way = none_is_some arg

giving_calls : OfCall (λ c. CallFacts locked_call v 0 c) (point_at v 0).call
unfolding turned OfCall
giving_calls = record {
  acts = tt;
  gives = λ uses. absurd uses;
  asks = λ k e. none_is_some e;
  tries = λ e. differ e;
  declares = λ n kind x e. no_declaration (point_at v 0).action refl n kind x e;
  named = subst (All (λ (a : Attr). IsSome a.path)) given_attrs has_path;
  arguments = λ k struct to_const x w' params arg way. first_argument k x w' arg way;
  outside = λ none. of_lock (record { kind = attr.Release; success = false; path = Some first_pointed }) 0 false refl refl refl refl (inl refl);
}

giving : PointFacts locked_call give_sheet.paths v 0
unfolding turned joins assigns OfSet
giving = record {
  kinds = ((type.Pointer 0 false ∷ [], (refl, ((type.Pointer 0 false, (refl, refl)), tt))), refl);
  args_fit = λ c e. (silent_args 0 giving_is_silent c e).0;
  right_fits = tt;
  left_fits = λ left e. none_is_some e;
  args_read = λ c b q e l. absurd ((silent_args 0 giving_is_silent c e).1 b q l);
  right_read = λ b q none l. absurd l;
  left_read = λ left b q e l. none_is_some e;
  old_read = λ place o kind x e. no_join (point_at v 0).action refl place o kind x e;
  whole = λ place o kind x e. no_join (point_at v 0).action refl place o kind x e;
  whole_local = λ n o kind x e. no_assign (point_at v 0).action refl n (Some o) kind x e;
  assigned = λ n o kind x c e i. no_assign (point_at v 0).action refl n o kind x e;
  attributes = λ n e. none_is_some e;
  tries = λ n v m e i. none_is_some e;
  written = λ place o kind x e. for_set (λ q. All (WritesUnder give_sheet.paths (uses_at v 0).left) (guard_ways (setting_behind locked_call v (point_at v 0)) (stable_of v.body) q))
      (point_at v 0).action tt place o kind x e;
  silent = λ b q some l. absurd l;
  goes_on = λ o some can. goes_next (edges_of v) 0 answer refl o can;
  calls = λ c e. for_call (λ c. CallFacts locked_call v 0 c) (point_at v 0).call giving_calls c e;
}

-- the end
ending : PointFacts locked_call give_sheet.paths v 1
unfolding turned joins assigns OfSet
ending = record {
  kinds = (tt, (refl, λ e. differ e));
  args_fit = λ c e. none_is_some e;
  right_fits = tt;
  left_fits = λ left e. none_is_some e;
  args_read = λ c b q e l. none_is_some e;
  right_read = λ b q none l. absurd l;
  left_read = λ left b q e l. none_is_some e;
  old_read = λ place o kind x e. no_join (point_at v 1).action refl place o kind x e;
  whole = λ place o kind x e. no_join (point_at v 1).action refl place o kind x e;
  whole_local = λ n o kind x e. no_assign (point_at v 1).action refl n (Some o) kind x e;
  assigned = λ n o kind x c e i. no_assign (point_at v 1).action refl n o kind x e;
  attributes = λ n e. none_is_some e;
  tries = λ n v m e i. none_is_some e;
  written = λ place o kind x e. for_set (λ q. All (WritesUnder give_sheet.paths (uses_at v 1).left) (guard_ways (setting_behind locked_call v (point_at v 1)) (stable_of v.body) q))
      (point_at v 1).action tt place o kind x e;
  silent = λ b q some l. no_call some;
  goes_on = λ o some can. no_call some;
  calls = λ c e. none_is_some e;
}

-- behind the end nothing stands
beyond : (p : ℕ) → PointFacts locked_call give_sheet.paths v (suc (suc p))
unfolding turned joins assigns OfSet
beyond p = record {
  kinds = (tt, tt);
  args_fit = λ c e. none_is_some e;
  right_fits = refl;
  left_fits = λ left e. none_is_some e;
  args_read = λ c b q e l. none_is_some e;
  right_read = λ b q none l. absurd l;
  left_read = λ left b q e l. none_is_some e;
  old_read = λ place o kind x e. no_join go_on refl place o kind x e;
  whole = λ place o kind x e. no_join go_on refl place o kind x e;
  whole_local = λ n o kind x e. no_assign go_on refl n (Some o) kind x e;
  assigned = λ n o kind x c e i. no_assign go_on refl n o kind x e;
  attributes = λ n e. none_is_some e;
  tries = λ n v m e i. none_is_some e;
  written = λ place o kind x e. for_set (λ q. All (WritesUnder give_sheet.paths (uses_at v (suc (suc p))).left)
      (guard_ways (setting_behind locked_call v (point_at v (suc (suc p)))) (stable_of v.body) q)) go_on tt place o kind x e;
  silent = λ b q some l. no_call some;
  goes_on = λ o some can. no_call some;
  calls = λ c e. none_is_some e;
}

points : (p : ℕ) → PointFacts locked_call give_sheet.paths v p
points zero = giving
points (suc zero) = ending
points (suc (suc p)) = beyond p

alone : AllPairs (λ c d. same_way c d ≡ false) (pointed 0 ∷ [])
alone i j d less inside = absurd (omega (arith, less, inside))

first_among : (c : Way) → Some (pointed 0) ≡ Some c → Contains (pointed 0 ∷ []) c
first_among c e = subst (Contains (pointed 0 ∷ [])) (same_some e) (first_in (pointed 0) [])

abbrev IsNamed : Attr → Type 0
IsNamed a = IsAmong give_sheet.paths a.path

one_named : All IsNamed (released ∷ [])
one_named = all_more IsNamed released [] first_among (all_none IsNamed)

named : (p : ℕ) → All IsNamed (attrs_at locked_call v p)
unfolding worked
named zero = subst (All IsNamed) given_attrs one_named
named (suc zero) = all_none IsNamed
named (suc (suc p)) = all_none IsNamed

-- the argument leads to the lock
giving_leads : OfCall (λ c. AllLead (stable_of v.body) c.args (uses_at v 0).arguments) (point_at v 0).call
unfolding turned OfCall
giving_leads = (refl, tt)

leads : (p : ℕ) (c : Call) → (point_at v p).call ≡ Some c → AllLead (stable_of v.body) c.args (uses_at v p).arguments
unfolding turned OfCall
leads zero c e = for_call (λ c. AllLead (stable_of v.body) c.args (uses_at v 0).arguments) (point_at v 0).call giving_leads c e
leads (suc zero) c e = none_is_some e
leads (suc (suc p)) c e = none_is_some e

-- it has one attribute, of its one parameter
one_claim : (c : Way) → claim_count (released ∷ []) c ≤ 1
one_claim c = by (claims_path c released)
  where
    by : (b : Bool) → length (if b then released ∷ filter (claims_path c) [] else filter (claims_path c) []) ≤ 1
    by true = omega arith
    by false = omega arith

parameter_mentioned : (n : ℕ) → mentions n (pointed 0) ≡ true → n < 1
parameter_mentioned n e = by (nat_eq 0 n) refl e
  where
    by : (b : Bool) → nat_eq 0 n ≡ b → (if b then true else list_any (is_index n) (Follow ∷ [])) ≡ true → n < 1
    by true is e = let same : 0 ≡ n = eqb-true 0 n is in omega (arith, same)
    by false is e = differ e

one_scalar : (n : ℕ) (kind : Kind) → slice_get (type.Pointer 0 false ∷ []) n ≡ Some kind → IsScalar kind
one_scalar zero kind e = subst IsScalar (same_some e) tt
one_scalar (suc n) kind e = none_is_some e

body_facts : BodyFacts v
unfolding worked
body_facts = record {
  named = subst (All (λ (a : Attr). IsSome a.path)) own_attrs has_path;
  parameters = subst (All (λ (a : Attr). MentionsParameters 1 a.path)) own_attrs
      (all_more (λ (a : Attr). MentionsParameters 1 a.path) released [] parameter_mentioned (all_none (λ (a : Attr). MentionsParameters 1 a.path)));
  once = one_claim;
  modes = subst (All (λ (a : Attr). SaysItsMode a.kind)) own_attrs (all_more (λ (a : Attr). SaysItsMode a.kind) released [] tt (all_none (λ (a : Attr). SaysItsMode a.kind)));
  scalars = one_scalar;
  result = λ e. differ e;
  answers = λ e. differ e;
}

pub callee_facts : FunctionFacts locked_call call_rows 2
unfolding worked
callee_facts = record {
  kept = sheets_that_pass_are_kept locked_call v give_sheet kept_passes;
  possible = sheets_that_pass_are_possible locked_call v give_sheet kept_passes;
  once = alone;
  own = subst (All IsNamed) own_attrs one_named;
  called = named;
  points = points;
  entered = body_facts;
  leads = leads;
}
