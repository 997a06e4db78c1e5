-- A unit that takes a lock meets all that the laws ask of a program.
use Rattle.std.proofs.Common.{◌≡◌, ◌∙◌, ℕ, zero, suc, Bool, true, false, List, [], ◌∷◌, length, ◌^◌, Some, None, inl, option_and_then}
use Rattle.std.proofs.Common.{slice_get, refl, ap, sym, subst, leb-true}
use Rattle.std.specs.Prelude.{All, IsSome}
use Rattle.tsa_tree.specs.declared.attr.AttrKind.TheVariants as attr
use Rattle.tsa_tree.specs.declared.kind.Kind.TheVariants as type
use Rattle.tsa_place_model.specs.Ways.{Way}
use Rattle.tsa_core.specs.Bodies.{go_on}
use Rattle.tsa_core.specs.Meanings.{Call}
use Rattle.tsa_core.specs.Programs.{Attr, Function}
use Rattle.tsa_core.specs.Terms.{Term, address, answer}
use Rattle.tsa_core.specs.Terms as term
use Rattle.tsa_rules.specs.Texts.{global}
use Rattle.tsa_core.proofs.BodyExamples.{worked}
use Rattle.tsa_rules.specs.KeptLaws.{locked_write}
use Rattle.tsa_path.specs.Substitution.{as_pointer, given}
use Rattle.tsa_rules.specs.Points.{attrs_at, edges_of, function_at, point_at, uses_at}
use Rattle.tsa_rules.specs.Sheets.{passes}
use Rattle.tsa_rules.proofs.Sheets.{sheets_that_pass_are_kept, sheets_that_pass_are_possible}
use Rattle.tsa_mean.proofs.Lists.{all_more, all_none}
use Rattle.tsa_mean.proofs.RunExamples.{turned}
use Rattle.tsa_sound.specs.CallFacts.{CallFacts, first_pointed, of_lock}
use Rattle.tsa_sound.specs.Examples.{ALockedWriteMeetsTheFacts, rows, sheet}
use Rattle.tsa_sound.specs.BodyFacts.{AllLead, BodyFacts, MentionsParameters, SaysItsMode}
use Rattle.tsa_sound.specs.Facts.{FunctionFacts, PointFacts, WritesUnder}
use Rattle.tsa_sound.specs.FramesFit.{setting_behind, setting_with, stable_of}
use Rattle.tsa_sound.specs.TermFacts.{AllFit, AllLoad, Loads, TermFits}
use Rattle.tsa_sound.specs.PartlyWorked.{guard_ways, target_way}
use Rattle.tsa_sound.proofs.Sums.{first_in}
use Rattle.tsa_path.specs.Laws.{IsSmall}
use Rattle.tsa_sound.proofs.Constants.{differ}
use Rattle.tsa_sound.proofs.ExampleForms.{OfCall, OfSet, assigns, for_call, for_set, goes_next, joins, no_assign, no_call, no_declaration}
use Rattle.tsa_sound.proofs.ExampleForms.{no_join, nothing_loaded}
use Rattle.tsa_sound.proofs.ExampleLayout.{laid_out}
use Rattle.tsa_sound.proofs.Tests.{none_is_some, same_some}
use Rattle.tsa_sound.proofs.ExampleCaller.{IsNamed, alone, has_path, no_body, none_claimed, one_named}

-- the function, and its points
abbrev w : Function
w = function_at locked_write 2

kept_passes : passes locked_write w sheet ≡ true
unfolding worked
kept_passes = refl

-- the point of a call of a lock function, which loads nothing
abbrev SilentCall : ℕ → Type 0
SilentCall p = OfCall (λ c. AllFit (setting_with locked_write w None) (stable_of w.body) c.args × ((b : Bool) (q : Term) → AllLoad c.args b q → ⊥)) (point_at w p).call

silent_args : (p : ℕ) → SilentCall p → (c : Call) → (point_at w p).call ≡ Some c
    → AllFit (setting_with locked_write w None) (stable_of w.body) c.args × ((b : Bool) (q : Term) → AllLoad c.args b q → ⊥)
silent_args p h c e = for_call (λ c. AllFit (setting_with locked_write w None) (stable_of w.body) c.args × ((b : Bool) (q : Term) → AllLoad c.args b q → ⊥)) (point_at w p).call h c e

taking_is_silent : SilentCall 0
unfolding turned OfCall
taking_is_silent = (((refl, tt), tt), λ b q l. nothing_loaded l)

giving_is_silent : SilentCall 2
unfolding turned OfCall
giving_is_silent = (((refl, tt), tt), λ b q l. nothing_loaded l)

-- the attributes of the calls
taken_attrs : ◌≡◌ {A = List Attr} (record { kind = attr.Acquire; success = false; path = Some (global 0) } ∷ []) (attrs_at locked_write w 0)
unfolding worked
taken_attrs = refl

given_attrs : ◌≡◌ {A = List Attr} (record { kind = attr.Release; success = false; path = Some (global 0) } ∷ []) (attrs_at locked_write w 2)
unfolding worked
given_attrs = refl

-- the one argument leads to the lock
first_argument : (k : ℕ) (x : Term) (w' : Way) → slice_get (address (term.global 0) ∷ []) k ≡ Some x → option_and_then as_pointer (given (Some (global 0) ∷ []) k) ≡ Some w'
    → target_way (stable_of w.body) x ≡ Some w'
first_argument zero x w' arg way = ap (target_way (stable_of w.body)) (sym (same_some arg)) ∙ way
first_argument (suc k) x w' arg way = none_is_some arg

taking_calls : OfCall (λ c. CallFacts locked_write w 0 c) (point_at w 0).call
unfolding turned OfCall
taking_calls = record {
  acts = tt;
  gives = λ uses. absurd uses;
  asks = λ k e. none_is_some e;
  tries = λ e. differ e;
  declares = λ n kind x e. no_declaration (point_at w 0).action refl n kind x e;
  named = subst (All (λ (a : Attr). IsSome a.path)) taken_attrs (has_path attr.Acquire);
  arguments = λ k struct to_const x w' params arg way. first_argument k x w' arg way;
  outside = λ none. of_lock (record { kind = attr.Acquire; success = false; path = Some first_pointed }) 0 false refl refl refl refl (inl refl);
}

giving_calls : OfCall (λ c. CallFacts locked_write w 2 c) (point_at w 2).call
unfolding turned OfCall
giving_calls = record {
  acts = tt;
  gives = λ uses. absurd uses;
  asks = λ k e. none_is_some e;
  tries = λ e. differ e;
  declares = λ n kind x e. no_declaration (point_at w 2).action refl n kind x e;
  named = subst (All (λ (a : Attr). IsSome a.path)) given_attrs (has_path attr.Release);
  arguments = λ k struct to_const x w' params arg way. first_argument k x w' arg way;
  outside = λ none. of_lock (record { kind = attr.Release; success = false; path = Some first_pointed }) 0 false refl refl refl refl (inl refl);
}

taking : PointFacts locked_write sheet.paths w 0
unfolding turned joins assigns OfSet
taking = record {
  kinds = ((type.Pointer 0 false ∷ [], (refl, ((type.Pointer 0 false, (refl, refl)), tt))), refl);
  args_fit = λ c e. (silent_args 0 taking_is_silent c e).0;
  right_fits = tt;
  left_fits = λ left e. none_is_some e;
  args_read = λ c b q e l. absurd ((silent_args 0 taking_is_silent c e).1 b q l);
  right_read = λ b q none l. absurd l;
  left_read = λ left b q e l. none_is_some e;
  old_read = λ place o kind x e. no_join (point_at w 0).action refl place o kind x e;
  whole = λ place o kind x e. no_join (point_at w 0).action refl place o kind x e;
  whole_local = λ n o kind x e. no_assign (point_at w 0).action refl n (Some o) kind x e;
  assigned = λ n o kind x c e i. no_assign (point_at w 0).action refl n o kind x e;
  attributes = λ n e. none_is_some e;
  tries = λ n w m e i. none_is_some e;
  written = λ place o kind x e. for_set (λ q. All (WritesUnder sheet.paths (uses_at w 0).left) (guard_ways (setting_behind locked_write w (point_at w 0)) (stable_of w.body) q))
      (point_at w 0).action tt place o kind x e;
  silent = λ b q some l. absurd l;
  goes_on = λ o some can. goes_next (edges_of w) 0 answer refl o can;
  calls = λ c e. for_call (λ c. CallFacts locked_write w 0 c) (point_at w 0).call taking_calls c e;
}

giving : PointFacts locked_write sheet.paths w 2
unfolding turned joins assigns OfSet
giving = record {
  kinds = ((type.Pointer 0 false ∷ [], (refl, ((type.Pointer 0 false, (refl, refl)), tt))), refl);
  args_fit = λ c e. (silent_args 2 giving_is_silent c e).0;
  right_fits = tt;
  left_fits = λ left e. none_is_some e;
  args_read = λ c b q e l. absurd ((silent_args 2 giving_is_silent c e).1 b q l);
  right_read = λ b q none l. absurd l;
  left_read = λ left b q e l. none_is_some e;
  old_read = λ place o kind x e. no_join (point_at w 2).action refl place o kind x e;
  whole = λ place o kind x e. no_join (point_at w 2).action refl place o kind x e;
  whole_local = λ n o kind x e. no_assign (point_at w 2).action refl n (Some o) kind x e;
  assigned = λ n o kind x c e i. no_assign (point_at w 2).action refl n o kind x e;
  attributes = λ n e. none_is_some e;
  tries = λ n w m e i. none_is_some e;
  written = λ place o kind x e. for_set (λ q. All (WritesUnder sheet.paths (uses_at w 2).left) (guard_ways (setting_behind locked_write w (point_at w 2)) (stable_of w.body) q))
      (point_at w 2).action tt place o kind x e;
  silent = λ b q some l. absurd l;
  goes_on = λ o some can. goes_next (edges_of w) 2 answer refl o can;
  calls = λ c e. for_call (λ c. CallFacts locked_write w 2 c) (point_at w 2).call giving_calls c e;
}

writing : PointFacts locked_write sheet.paths w 1
unfolding turned joins assigns OfSet
writing = record {
  kinds = (tt, ((record { kind = type.Int; length = None; is_const = false }, (refl, (refl, refl))), (type.Int, (refl, refl))));
  args_fit = λ c e. none_is_some e;
  right_fits = refl;
  left_fits = λ left e. subst (TermFits (setting_behind locked_write w (point_at w 1)) (stable_of w.body)) (same_some e) tt;
  args_read = λ c b q e l. none_is_some e;
  right_read = λ b q none l. absurd l;
  left_read = λ left b q e l. absurd (subst (λ x. Loads x b q) (sym (same_some e)) l);
  old_read = λ place o kind x e. no_join (point_at w 1).action refl place o kind x e;
  whole = λ place o kind x e. no_join (point_at w 1).action refl place o kind x e;
  whole_local = λ n o kind x e. no_assign (point_at w 1).action refl n (Some o) kind x e;
  assigned = λ n o kind x c e i. no_assign (point_at w 1).action refl n o kind x e;
  attributes = λ n e. none_is_some e;
  tries = λ n w m e i. none_is_some e;
  written = λ place o kind x e. for_set (λ q. All (WritesUnder sheet.paths (uses_at w 1).left) (guard_ways (setting_behind locked_write w (point_at w 1)) (stable_of w.body) q))
      (point_at w 1).action (all_more (WritesUnder sheet.paths (uses_at w 1).left) (Some (global 0)) [] (first_in (global 0) [], refl) (all_none (WritesUnder sheet.paths (uses_at w 1).left)))
      place o kind x e;
  silent = λ b q some l. no_call some;
  goes_on = λ o some can. no_call some;
  calls = λ c e. none_is_some e;
}

-- the end
ending : PointFacts locked_write sheet.paths w 3
unfolding turned joins assigns OfSet
ending = record {
  kinds = (tt, (refl, λ e. differ e));
  args_fit = λ c e. none_is_some e;
  right_fits = tt;
  left_fits = λ left e. none_is_some e;
  args_read = λ c b q e l. none_is_some e;
  right_read = λ b q none l. absurd l;
  left_read = λ left b q e l. none_is_some e;
  old_read = λ place o kind x e. no_join (point_at w 3).action refl place o kind x e;
  whole = λ place o kind x e. no_join (point_at w 3).action refl place o kind x e;
  whole_local = λ n o kind x e. no_assign (point_at w 3).action refl n (Some o) kind x e;
  assigned = λ n o kind x c e i. no_assign (point_at w 3).action refl n o kind x e;
  attributes = λ n e. none_is_some e;
  tries = λ n w m e i. none_is_some e;
  written = λ place o kind x e. for_set (λ q. All (WritesUnder sheet.paths (uses_at w 3).left) (guard_ways (setting_behind locked_write w (point_at w 3)) (stable_of w.body) q))
      (point_at w 3).action tt place o kind x e;
  silent = λ b q some l. no_call some;
  goes_on = λ o some can. no_call some;
  calls = λ c e. none_is_some e;
}

-- behind the end nothing stands
beyond : (p : ℕ) → PointFacts locked_write sheet.paths w (suc (suc (suc (suc p))))
unfolding turned joins assigns OfSet
beyond p = record {
  kinds = (tt, tt);
  args_fit = λ c e. none_is_some e;
  right_fits = refl;
  left_fits = λ left e. none_is_some e;
  args_read = λ c b q e l. none_is_some e;
  right_read = λ b q none l. absurd l;
  left_read = λ left b q e l. none_is_some e;
  old_read = λ place o kind x e. no_join go_on refl place o kind x e;
  whole = λ place o kind x e. no_join go_on refl place o kind x e;
  whole_local = λ n o kind x e. no_assign go_on refl n (Some o) kind x e;
  assigned = λ n o kind x c e i. no_assign go_on refl n o kind x e;
  attributes = λ n e. none_is_some e;
  tries = λ n w m e i. none_is_some e;
  written = λ place o kind x e. for_set (λ q. All (WritesUnder sheet.paths (uses_at w (suc (suc (suc (suc p))))).left)
      (guard_ways (setting_behind locked_write w (point_at w (suc (suc (suc (suc p)))))) (stable_of w.body) q)) go_on tt place o kind x e;
  silent = λ b q some l. no_call some;
  goes_on = λ o some can. no_call some;
  calls = λ c e. none_is_some e;
}

points : (p : ℕ) → PointFacts locked_write sheet.paths w p
points zero = taking
points (suc zero) = writing
points (suc (suc zero)) = giving
points (suc (suc (suc zero))) = ending
points (suc (suc (suc (suc p)))) = beyond p

named : (p : ℕ) → All IsNamed (attrs_at locked_write w p)
unfolding worked
named zero = subst (All IsNamed) taken_attrs (one_named attr.Acquire)
named (suc zero) = all_none IsNamed
named (suc (suc zero)) = subst (All IsNamed) given_attrs (one_named attr.Release)
named (suc (suc (suc zero))) = all_none IsNamed
named (suc (suc (suc (suc p)))) = all_none IsNamed

-- the arguments lead to the lock
abbrev Leads : ℕ → Type 0
Leads p = OfCall (λ c. AllLead (stable_of w.body) c.args (uses_at w p).arguments) (point_at w p).call

taking_leads : Leads 0
unfolding turned OfCall
taking_leads = (refl, tt)

giving_leads : Leads 2
unfolding turned OfCall
giving_leads = (refl, tt)

leads : (p : ℕ) (c : Call) → (point_at w p).call ≡ Some c → AllLead (stable_of w.body) c.args (uses_at w p).arguments
unfolding turned OfCall
leads zero c e = for_call (λ c. AllLead (stable_of w.body) c.args (uses_at w 0).arguments) (point_at w 0).call taking_leads c e
leads (suc zero) c e = none_is_some e
leads (suc (suc zero)) c e = for_call (λ c. AllLead (stable_of w.body) c.args (uses_at w 2).arguments) (point_at w 2).call giving_leads c e
leads (suc (suc (suc zero))) c e = none_is_some e
leads (suc (suc (suc (suc p)))) c e = none_is_some e

-- it has no attributes, no locals and no value
body_facts : BodyFacts w
unfolding worked
body_facts = record {
  named = all_none (λ (a : Attr). IsSome a.path);
  parameters = all_none (λ (a : Attr). MentionsParameters 0 a.path);
  once = none_claimed;
  modes = all_none (λ (a : Attr). SaysItsMode a.kind);
  scalars = λ n kind e. none_is_some e;
  result = λ e. differ e;
  answers = λ e. differ e;
}

function_facts : FunctionFacts locked_write rows 2
unfolding worked
function_facts = record {
  kept = sheets_that_pass_are_kept locked_write w sheet kept_passes;
  possible = sheets_that_pass_are_possible locked_write w sheet kept_passes;
  once = alone;
  own = all_none IsNamed;
  called = named;
  points = points;
  entered = body_facts;
  leads = leads;
}

few_places : IsSmall locked_write.layout
unfolding worked
few_places = leb-true (length locked_write.layout.places) (2 ^ 31) refl

with_body : (n : ℕ) → IsSome (function_at locked_write n).body → FunctionFacts locked_write rows n
unfolding worked
with_body zero h = no_body h
with_body (suc zero) h = no_body h
with_body (suc (suc zero)) h = function_facts
with_body (suc (suc (suc n))) h = no_body h

pub a_locked_write_meets_the_facts : ALockedWriteMeetsTheFacts
a_locked_write_meets_the_facts = record { laid = laid_out; small = few_places; functions = with_body }
