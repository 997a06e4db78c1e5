-- Threads begin well with which good words say that they begin.
use Rattle.std.proofs.Common.{◌≡◌, ◌∙◌, ℕ, zero, suc, Bool, true, false, not, List, [], ◌∷◌, length, Option, Some, None, Ok, is_some, slice_get, IsSome}
use Rattle.std.proofs.Common.{if◌then◌else◌, refl, sym, ap, subst}
use Rattle.std.specs.Prelude.{option_and_then}
use Rattle.std.specs.List.{list_any}
use Rattle.tsa_base.specs.Tokens.{Lexeme, tokens_of}
use Rattle.tsa_base.specs.declared.value.Value.{Value}
use Rattle.tsa_tree.proofs.expressions.LimitsApart.{free-spelled}
use Rattle.tsa_tree.proofs.expressions.ReadSound.{read_is_sound}
use Rattle.tsa_tree.specs.declared.kind.ThingType.{ThingType}
use Rattle.tsa_tree.specs.expressions.Answers.{an_expression, below_limit}
use Rattle.tsa_tree.specs.expressions.Sound.{Words, is_sound, are_sound, words_beside}
use Rattle.tsa_tree.specs.expressions.Syntax.{Expression, Arguments, number, null, named, call, unary, binary, field, index, none, more}
use Rattle.tsa_tree.specs.types.Lookups.{params_in}
use Rattle.tsa_tree.specs.types.Units.{refusal_of_types}
use Rattle.tsa_tree.specs.units.Sound.{SpellableItems}
use Rattle.tsa_tree.specs.units.Syntax.{UnitItem}
use Rattle.tsa_place_model.specs.Calls.{Layout}
use Rattle.tsa_place_model.specs.Leading.{HasPlaces}
use Rattle.tsa_place_model.specs.Stores.{is_value_of}
use Rattle.tsa_core.proofs.KindTests.{and_true, both_true, not_true}
use Rattle.tsa_core.proofs.TypedTerms.{some_same}
use Rattle.tsa_core.specs.Programs.{Function, program_of, program_with}
use Rattle.tsa_mean.specs.Starts.{Begin, AsksNothing, BeginsWell, are_values_of, binds_caller}
use Rattle.tsa_path.proofs.ArgumentPaths.{bound}
use Rattle.tsa_profile.specs.Arguments.{behind_unit, value_seen, view_behind}
use Rattle.tsa_profile.specs.Units.{refusal_of_profile}
use Rattle.tsa_profile.proofs.Parameters.{parameters_are_those}
use Rattle.tsa_profile.proofs.SeenValues.{seen_values_are_of_their_types}
use Rattle.tsa_profile.proofs.StartLaws.{layout_is}
use Rattle.tsa_rules.specs.Points.{function_at, or_no_function}
use Rattle.tsa_tool_starts.proofs.WholeWords.{same_tree}
use Rattle.tsa_tool_starts.specs.Laws.{GoodWordsBeginWell}
use Rattle.tsa_tool_starts.specs.Starts.{arguments_of, begin_with, can_begin, function_named, start_at, start_called, start_of, start_with, with_value}
use Rattle.tsa_tool_starts.specs.Words.{IsWhole, IsWordOf, Called, called_by}

-- lists with the same elements are one list
same_lists : {A : Type 0} (xs ys : List A) → ((k : ℕ) → slice_get xs k ≡ slice_get ys k) → xs ≡ ys
same_lists [] [] h = refl
same_lists [] (y ∷ ys) h = let e = h zero in absurd cc
same_lists (x ∷ xs) [] h = let e = h zero in absurd cc
same_lists (x ∷ xs) (y ∷ ys) h =
    ap (λ z. z ∷ xs) (some_same (h zero)) ∙ ap (λ zs. y ∷ zs) (same_lists xs ys (λ k. h (suc k)))

is_there : {A : Type 0} (o : Option A) → is_some o ≡ true → IsSome o
is_there o e = e

-- what a start is made of
record Parts (items : List UnitItem) (l : Layout) (e : Expression) (b : Begin) : Type 0 where
  called : Called
  is_called : called_by e ≡ Some called
  function : Function
  is_function : slice_get (program_with l items).functions b.function ≡ Some function
  can_begin : can_begin function ≡ true
  args : arguments_of (view_behind items l) (params_in (behind_unit items) b.function) called.args ≡ Some b.args

begun : (n : ℕ) (o : Option (List Value)) (b : Begin) → begin_with n o ≡ Some b → (b.function ≡ n) × (o ≡ Some b.args)
begun n None b e = absurd cc
begun n (Some vs) b e = (sym (ap (λ x. x.function) (some_same e)), ap (λ x. Some x.args) (some_same e))

with_one : (v : Value) (o : Option (List Value)) (vs : List Value) → with_value v o ≡ Some vs → (ws : List Value) × ((o ≡ Some ws) × (vs ≡ v ∷ ws))
with_one v None vs e = absurd cc
with_one v (Some ws) vs e = (ws, (refl, sym (some_same e)))

chosen : (g : Bool) (o : Option Begin) (b : Begin) → (if g then o else None) ≡ Some b → (g ≡ true) × (o ≡ Some b)
chosen true o b e = (refl, e)
chosen false o b e = absurd cc

parts_of : (items : List UnitItem) (l : Layout) (e : Expression) (b : Begin) → start_of items l e ≡ Some b → Parts items l e b
parts_of items l e b h =
    let c = bound (start_called items l) (called_by e) b h in
    let n = bound (start_with items l c.0.args) (function_named (behind_unit items) c.0.name) b c.1.1 in
    let f = bound (start_at items l c.0.args n.0) (slice_get (program_with l items).functions n.0) b n.1.1 in
    let k = chosen (can_begin f.0) (begin_with n.0 (arguments_of (view_behind items l) (params_in (behind_unit items) n.0) c.0.args)) b f.1.1 in
    let x = begun n.0 (arguments_of (view_behind items l) (params_in (behind_unit items) n.0) c.0.args) b k.1 in
    record {
      called = c.0;
      is_called = c.1.0;
      function = f.0;
      is_function = ap (slice_get (program_with l items).functions) x.0 ∙ f.1.0;
      can_begin = k.0;
      args = ap (λ m. arguments_of (view_behind items l) (params_in (behind_unit items) m) c.0.args) x.0 ∙ x.1;
    }

-- the program is that of the layout
pub program_is : (items : List UnitItem) (l : Layout) → HasPlaces items l → program_with l items ≡ program_of items
unfolding program_of
program_is items l has = ap (λ m. program_with m items) (sym has)

module _ (items : List UnitItem) (l : Layout) (has : HasPlaces items l) (e : Expression) (b : Begin) (p : Parts items l e b) where
  function_is : function_at (program_of items) b.function ≡ p.function
  function_is = ap or_no_function (ap (λ u. slice_get u.functions b.function) (sym (program_is items l has)) ∙ p.is_function)

  can : (is_some p.function.body ≡ true) × (not (list_any (λ a. binds_caller a.kind) p.function.attrs) ≡ true)
  can = both_true (is_some p.function.body) (not (list_any (λ a. binds_caller a.kind) p.function.attrs)) p.can_begin

  asks_nothing : AsksNothing (program_of items) b
  asks_nothing =
      ap (λ f. list_any (λ a. binds_caller a.kind) f.attrs) function_is
      ∙ not_true (list_any (λ a. binds_caller a.kind) p.function.attrs) can.1

  params_are : params_in (behind_unit items) b.function ≡ p.function.params
  params_are = same_lists (params_in (behind_unit items) b.function) p.function.params (λ k.
      parameters_are_those items l (record { function = b.function; number = k })
      ∙ ap (option_and_then (λ f. slice_get f.params k)) p.is_function)

  -- the arguments of what is called are sound
  args_sound : (words : Words) → is_sound words e ≡ true → are_sound words p.called.args ≡ true
  args_sound words h = by e p.is_called h
    where
      by : (x : Expression) → called_by x ≡ Some p.called → is_sound words x ≡ true → are_sound words p.called.args ≡ true
      by (named name span) c s = ap (λ y. are_sound words y.args) (sym (some_same c))
      by (call callee args span) c s = ap (λ y. are_sound words y.args) (sym (some_same c)) ∙ (both_true (words.things callee.text) (are_sound words args) s).1
      by (number value unsigned span) c s = absurd cc
      by (null span) c s = absurd cc
      by (unary op inner span) c s = absurd cc
      by (binary op left right span) c s = absurd cc
      by (field base name arrow span) c s = absurd cc
      by (index base at span) c s = absurd cc

  module _ (sound : SpellableItems items) (typed : refusal_of_types items ≡ None) (profiled : refusal_of_profile items ≡ None) (words : Words) where
    values : (params : List ThingType) (args : Arguments) (vs : List Value) → are_sound words args ≡ true → arguments_of (view_behind items l) params args ≡ Some vs → are_values_of l params vs ≡ true
    unfolding arguments_of
    values [] none [] s h = refl
    values [] none (v ∷ vs) s h = absurd cc
    values [] (more x args) vs s h = absurd cc
    values (t ∷ params) none vs s h = absurd cc
    values (t ∷ params) (more x args) vs s h =
        let seen = bound (λ v. with_value v (arguments_of (view_behind items l) params args)) (value_seen (view_behind items l) t x) vs h in
        let both = both_true (is_sound words x) (are_sound words args) s in
        let rest = with_one seen.0 (arguments_of (view_behind items l) params args) vs seen.1.1 in
        subst (λ ys. are_values_of l (t ∷ params) ys ≡ true) (sym rest.1.1)
        (and_true (is_value_of l t.kind seen.0) (are_values_of l params rest.0)
        (seen_values_are_of_their_types items l words t x seen.0 sound typed profiled has both.0 seen.1.0) (values params args rest.0 both.1 rest.1.0))

    well : is_sound words e ≡ true → BeginsWell (program_of items) b
    well h = record {
      body = subst (λ f. IsSome f.body) (sym function_is) (is_there p.function.body can.0);
      args =
          ap (λ m. are_values_of m (function_at (program_of items) b.function).params b.args) (layout_is items l has)
          ∙ ap (λ f. are_values_of l f.params b.args) function_is
          ∙ ap (λ ps. are_values_of l ps b.args) (sym params_are)
          ∙ values (params_in (behind_unit items) b.function) p.called.args b.args (args_sound words h) p.args;
    }

-- the expression of a word is sound
word_sound : (word : List ℕ) (e : Expression) → IsWordOf word e → is_sound (words_beside []) e ≡ true
word_sound word e w =
    read_is_sound word w.tokens [] an_expression 0 e 0 (length w.tokens) w.lexed
    (free-spelled w.tokens [] below_limit an_expression 0 e 0 (length w.tokens) w.whole.spelled)

-- a word spells one expression
same_tokens : (word : List ℕ) (s t : List Lexeme) → tokens_of word ≡ Ok s → tokens_of word ≡ Ok t → s ≡ t
same_tokens word s t h k = cc

pub one_expression : (word : List ℕ) (e x : Expression) → IsWordOf word e → IsWordOf word x → e ≡ x
one_expression word e x w z =
    same_tree w.tokens e x w.whole (subst (λ ts. IsWhole ts x) (same_tokens word z.tokens w.tokens z.lexed w.lexed) z.whole)

pub good_words_begin_well : GoodWordsBeginWell
good_words_begin_well = record {
  well = λ items l word b sound typed profiled has good.
      well items l has good.expression b (parts_of items l good.expression b good.start) sound typed profiled (words_beside []) (word_sound word good.expression good.spells);
  asks_nothing = λ items l word b has good. asks_nothing items l has good.expression b (parts_of items l good.expression b good.start);
  one = λ items l word b c good other.
      some_same (sym good.start ∙ ap (start_of items l) (one_expression word good.expression other.expression good.spells other.spells) ∙ other.start);
}
