-- No point speaks of a local that isn't known there.
use Rattle.std.proofs.Common.{◌≡◌, ℕ, ◌+◌, ◌≤◌, arith, Bool, true, false, ◌&&◌, List, [], ◌∷◌, All, IfSome, slice_index_or, Option, Some}
use Rattle.std.proofs.Common.{None, if◌then◌else◌, refl}
use Rattle.std.proofs.lemmas.List.Elements.{All-append, All-cons, All-nil}
use Rattle.std.proofs.lemmas.Map.Entries.{All-lookup}
use Rattle.std.specs.Str.{bytes_eq}
use Rattle.tsa_tree.specs.declarations.Syntax.{Declaration, Initialiser, value, list}
use Rattle.tsa_tree.specs.declared.expr.BinaryOp.{BinaryOp}
use Rattle.tsa_tree.specs.declared.expr.BinaryOp.TheVariants as op
use Rattle.tsa_tree.specs.declared.expr.UnaryOp.{UnaryOp}
use Rattle.tsa_tree.specs.declared.expr.UnaryOp.TheVariants as prefix
use Rattle.tsa_tree.specs.declared.kind.Kind.{Kind}
use Rattle.tsa_tree.specs.declared.kind.Kind.TheVariants as type
use Rattle.tsa_tree.specs.declared.kind.ThingType.{ThingType}
use Rattle.tsa_tree.specs.declared.meaning.Entry.{Entry}
use Rattle.tsa_tree.specs.declared.meaning.Meaning.{Meaning}
use Rattle.tsa_tree.specs.declared.meaning.Meaning.TheVariants as meant
use Rattle.tsa_tree.specs.expressions.Syntax.{Expression, number, null, named, call, unary, binary, field, index, Arguments}
use Rattle.tsa_tree.specs.expressions.Syntax as given
use Rattle.tsa_tree.specs.points.Syntax.{Deed, declares, evaluates, assigns, tests, switches, jumps, idles, returns, ends}
use Rattle.tsa_tree.specs.types.DeclaredTypes.{thing_type}
use Rattle.tsa_tree.specs.types.Locals.{local_entry, unless_taken}
use Rattle.tsa_tree.specs.types.Operands.{integer_kind, pointer_kind, unsigned_kind}
use Rattle.tsa_tree.specs.types.Scopes.{Scope, found, further, is_taken, known_in}
use Rattle.tsa_tree.specs.types.Lookups.{params_in}
use Rattle.tsa_core.specs.Bodies.{known_in_body, knows, declared, right_side, set_to}
use Rattle.tsa_core.specs.Laws.{SpeaksBelow, CallsBelow, ActsBelow, IsBelow, KnowsBelow, PointBelow, PointsSpeakOfKnown}
use Rattle.tsa_core.specs.Meanings.{Call, is_place, is_cell, loaded, name_term, of_name, of_call, prefix_term, beside, operands, base_of}
use Rattle.tsa_core.specs.Meanings.{to_member, meaning, is_int, as_kind, arguments, call_by, call_of, call_in, or_call}
use Rattle.tsa_core.specs.Terms.{Term, constant, variable, answer, global, member, element, target, load, address, converted, prefixed}
use Rattle.tsa_core.specs.Terms.{joined, Sense}
use Rattle.tsa_core.proofs.EachScope.{each_point}

-- Terms made of terms.
module _ (n : ℕ) where
  if_below : (b : Bool) (t u : Term) → SpeaksBelow n t → SpeaksBelow n u → SpeaksBelow n (if b then t else u)
  if_below true t u h g = h
  if_below false t u h g = g

  loaded_below : (s : Sense) → SpeaksBelow n s.term → SpeaksBelow n (loaded s)
  loaded_below s h = if_below (is_place s.term && is_cell s.type.thing) (load s.is_stable s.term) s.term h h

  beside_below : (kind : Kind) (s : Sense) → SpeaksBelow n s.term → SpeaksBelow n (beside kind s)
  beside_below kind s h = if_below (pointer_kind kind && integer_kind s.type.thing.kind) _ (loaded s) tt (loaded_below s h)

  converted_below : (b : Bool) (kind : Kind) (s : Sense) → SpeaksBelow n s.term → SpeaksBelow n (if b then converted kind (loaded s) else loaded s)
  converted_below b kind s h = if_below b (converted kind (loaded s)) (loaded s) (loaded_below s h) (loaded_below s h)

  as_kind_below : (kind : Kind) (s : Sense) → SpeaksBelow n s.term → SpeaksBelow n (as_kind kind s)
  as_kind_below type.Int s h = converted_below (unsigned_kind s.type.thing.kind) type.Int s h
  as_kind_below type.Unsigned s h = converted_below (is_int s.type.thing.kind) type.Unsigned s h
  as_kind_below type.Void s h = beside_below type.Void s h
  as_kind_below (type.Structure k) s h = beside_below (type.Structure k) s h
  as_kind_below (type.Pointer k c) s h = beside_below (type.Pointer k c) s h
  as_kind_below type.Null s h = beside_below type.Null s h
  as_kind_below type.Function s h = beside_below type.Function s h

  prefix_below : (o : UnaryOp) (s : Sense) → SpeaksBelow n s.term → SpeaksBelow n (prefix_term o s)
  prefix_below prefix.Minus s h = loaded_below s h
  prefix_below prefix.Not s h = loaded_below s h
  prefix_below prefix.Flip s h = loaded_below s h
  prefix_below prefix.Address s h = h
  prefix_below prefix.Follow s h = loaded_below s h

  both_below : (o : BinaryOp) (l r : Sense) → SpeaksBelow n l.term → SpeaksBelow n r.term → SpeaksBelow n (joined o (loaded l) (loaded r))
  both_below o l r h g = (loaded_below l h, loaded_below r g)

  operands_below : (o : BinaryOp) (l r : Sense) → SpeaksBelow n l.term → SpeaksBelow n r.term → SpeaksBelow n (operands o l r)
  operands_below op.Equal l r h g = (beside_below r.type.thing.kind l h, beside_below l.type.thing.kind r g)
  operands_below op.Unequal l r h g = (beside_below r.type.thing.kind l h, beside_below l.type.thing.kind r g)
  operands_below op.Or l r h g = both_below op.Or l r h g
  operands_below op.And l r h g = both_below op.And l r h g
  operands_below op.BitOr l r h g = both_below op.BitOr l r h g
  operands_below op.BitXor l r h g = both_below op.BitXor l r h g
  operands_below op.BitAnd l r h g = both_below op.BitAnd l r h g
  operands_below op.Less l r h g = both_below op.Less l r h g
  operands_below op.More l r h g = both_below op.More l r h g
  operands_below op.LessEqual l r h g = both_below op.LessEqual l r h g
  operands_below op.MoreEqual l r h g = both_below op.MoreEqual l r h g
  operands_below op.Plus l r h g = both_below op.Plus l r h g
  operands_below op.Minus l r h g = both_below op.Minus l r h g
  operands_below op.Times l r h g = both_below op.Times l r h g
  operands_below op.Divide l r h g = both_below op.Divide l r h g
  operands_below op.Remainder l r h g = both_below op.Remainder l r h g

  base_below : (arrow : Bool) (s : Sense) → SpeaksBelow n s.term → SpeaksBelow n (base_of arrow s)
  base_below true s h = loaded_below s h
  base_below false s h = h

  member_below : (arrow : Bool) (s : Sense) (m : Option (ℕ × ThingType)) → SpeaksBelow n s.term → SpeaksBelow n (to_member arrow s m).term
  member_below arrow s None h = tt
  member_below arrow s (Some m) h = base_below arrow s h

  entry_below : (m : Meaning) → IsBelow n m → SpeaksBelow n (name_term m)
  entry_below (meant.Global g) h = tt
  entry_below (meant.Local k) h = h
  entry_below (meant.Function f) h = tt
  entry_below meant.Owned h = tt
  entry_below (meant.Constant z) h = tt
  entry_below meant.TypeName h = tt

  name_below : (o : Option Entry) → IfSome o (λ e. IsBelow n e.meaning) → SpeaksBelow n (of_name o).term
  name_below None h = tt
  name_below (Some e) h = entry_below e.meaning h

  called_below : (o : Option Entry) → SpeaksBelow n (of_call o).term
  called_below None = tt
  called_below (Some e) = tt

-- what a name stands for is below, where all names do
known_below : (here : Scope) (name : List ℕ) → KnowsBelow here → IfSome (known_in here name) (λ e. IsBelow here.locals e.meaning)
known_below here name h = by (found here.owned name) refl
  where
    by : (o : Option ThingType) → found here.owned name ≡ o → IfSome (known_in here name) (λ e. IsBelow here.locals e.meaning)
    by None e = rw e (All-lookup (λ e. IsBelow here.locals e.meaning) (bytes_eq name) here.names h)
    by (Some t) e = rw e tt

module _ (here : Scope) (h : KnowsBelow here) where
  meaning_below : (e : Expression) → SpeaksBelow here.locals (meaning here e).term
  unfolding meaning
  meaning_below (number n u span) = tt
  meaning_below (null span) = tt
  meaning_below (named name span) = name_below here.locals (known_in here name.text) (known_below here name.text h)
  meaning_below (call callee args span) = called_below here.locals (known_in here callee.text)
  meaning_below (unary o inner span) = prefix_below here.locals o (meaning here inner) (meaning_below inner)
  meaning_below (binary o left right span) = operands_below here.locals o (meaning here left) (meaning here right) (meaning_below left) (meaning_below right)
  meaning_below (field base name arrow span) = member_below here.locals arrow (meaning here base) _ (meaning_below base)
  meaning_below (index base at span) = (meaning_below base, loaded_below here.locals (meaning here at) (meaning_below at))

  value_below : (e : Expression) → SpeaksBelow here.locals (loaded (meaning here e))
  value_below e = loaded_below here.locals (meaning here e) (meaning_below e)

  kind_below : (kind : Kind) (e : Expression) → SpeaksBelow here.locals (as_kind kind (meaning here e))
  kind_below kind e = as_kind_below here.locals kind (meaning here e) (meaning_below e)

  arguments_below : (params : List ThingType) (args : Arguments) → All (SpeaksBelow here.locals) (arguments here params args)
  unfolding arguments
  arguments_below [] given.none = All-nil (SpeaksBelow here.locals)
  arguments_below [] (given.more first rest) = All-nil (SpeaksBelow here.locals)
  arguments_below (p ∷ params) given.none = All-nil (SpeaksBelow here.locals)
  arguments_below (p ∷ params) (given.more first rest) =
      All-cons (SpeaksBelow here.locals) (as_kind p.kind (meaning here first)) (arguments here params rest) (kind_below p.kind first) (arguments_below params rest)

  function_below : (args : Arguments) (m : Meaning) → CallsBelow here.locals (call_by here args m)
  function_below args (meant.Function n) = arguments_below (params_in here n) args
  function_below args (meant.Global g) = tt
  function_below args (meant.Local k) = tt
  function_below args meant.Owned = tt
  function_below args (meant.Constant z) = tt
  function_below args meant.TypeName = tt

  call_of_below : (args : Arguments) (o : Option Entry) → CallsBelow here.locals (call_of here args o)
  call_of_below args None = tt
  call_of_below args (Some e) = function_below args e.meaning

  or_call_below : (c d : Option Call) → CallsBelow here.locals c → CallsBelow here.locals d → CallsBelow here.locals (or_call c d)
  or_call_below None d h g = g
  or_call_below (Some x) d h g = h

  call_below : (e : Expression) → CallsBelow here.locals (call_in here e)
  unfolding call_in
  call_below (number n u span) = tt
  call_below (null span) = tt
  call_below (named name span) = tt
  call_below (call callee args span) = call_of_below args (known_in here callee.text)
  call_below (unary prefix.Not inner span) = call_below inner
  call_below (unary prefix.Minus inner span) = tt
  call_below (unary prefix.Flip inner span) = tt
  call_below (unary prefix.Address inner span) = tt
  call_below (unary prefix.Follow inner span) = tt
  call_below (binary op.Equal left right span) = or_call_below (call_in here left) (call_in here right) (call_below left) (call_below right)
  call_below (binary op.Unequal left right span) = or_call_below (call_in here left) (call_in here right) (call_below left) (call_below right)
  call_below (binary op.Or left right span) = tt
  call_below (binary op.And left right span) = tt
  call_below (binary op.BitOr left right span) = tt
  call_below (binary op.BitXor left right span) = tt
  call_below (binary op.BitAnd left right span) = tt
  call_below (binary op.Less left right span) = tt
  call_below (binary op.More left right span) = tt
  call_below (binary op.LessEqual left right span) = tt
  call_below (binary op.MoreEqual left right span) = tt
  call_below (binary op.Plus left right span) = tt
  call_below (binary op.Minus left right span) = tt
  call_below (binary op.Times left right span) = tt
  call_below (binary op.Divide left right span) = tt
  call_below (binary op.Remainder left right span) = tt
  call_below (field base name arrow span) = tt
  call_below (index base at span) = tt

  set_below : (t : Term) (o : Option BinaryOp) (kind : Kind) (right : Term) → SpeaksBelow here.locals t → SpeaksBelow here.locals right
      → ActsBelow here.locals (set_to t o kind right)
  set_below (variable n) o kind right g r = (g, r)
  set_below (constant v) o kind right g r = (g, r)
  set_below answer o kind right g r = (g, r)
  set_below (global n) o kind right g r = (g, r)
  set_below (member base n) o kind right g r = (g, r)
  set_below (element base i) o kind right g r = (g, r)
  set_below (target p) o kind right g r = (g, r)
  set_below (load stable place) o kind right g r = (g, r)
  set_below (address place) o kind right g r = (g, r)
  set_below (converted to inner) o kind right g r = (g, r)
  set_below (prefixed u inner) o kind right g r = (g, r)
  set_below (joined b left other) o kind right g r = (g, r)

  right_below : (o : Option BinaryOp) (kind : Kind) (e : Expression) → SpeaksBelow here.locals (right_side o kind (meaning here e))
  right_below None kind e = kind_below kind e
  right_below (Some o) kind e = value_below e

  init_below : (result : Kind) (d : Declaration) (init : Option Initialiser) → CallsBelow here.locals (declared here (thing_type here d.ctype).kind init).call
      × ActsBelow here.locals (declared here (thing_type here d.ctype).kind init).action
  init_below result d None = (tt, (refl, tt))
  init_below result d (Some (value e)) = (call_below e, (refl, kind_below (thing_type here d.ctype).kind e))
  init_below result d (Some (list items span)) = (tt, (refl, tt))

  deed_below : (result : Kind) (d : Deed) → PointBelow result (knows here d)
  deed_below result (declares d) = init_below result d d.init
  deed_below result (evaluates e) = (call_below e, value_below e)
  deed_below result (assigns left o right) =
      (call_below right, set_below (meaning here left).term o (meaning here left).type.thing.kind _ (meaning_below left) (right_below o (meaning here left).type.thing.kind right))
  deed_below result (tests None) = (tt, tt)
  deed_below result (tests (Some e)) = (call_below e, value_below e)
  deed_below result (switches e) = (tt, value_below e)
  deed_below result jumps = (tt, tt)
  deed_below result idles = (tt, tt)
  deed_below result (returns None) = (tt, tt)
  deed_below result (returns (Some e)) = (call_below e, kind_below result e)
  deed_below result ends = (tt, tt)

-- More locals are known behind a declaration, and more are declared behind any other statement.
below_more : (n m : ℕ) (x : Meaning) → n ≤ m → IsBelow n x → IsBelow m x
below_more n m (meant.Local k) le h = omega (arith, le, h)
below_more n m (meant.Global g) le h = tt
below_more n m (meant.Function f) le h = tt
below_more n m meant.Owned le h = tt
below_more n m (meant.Constant z) le h = tt
below_more n m meant.TypeName le h = tt

abbrev pub NamesBelow : ℕ → List (List ℕ × Entry) → Type 0
NamesBelow n names = All (λ x. IsBelow n x.1.meaning) names

pub names_more : (n m : ℕ) (names : List (List ℕ × Entry)) → n ≤ m → NamesBelow n names → NamesBelow m names
names_more n m names le h k d less = below_more n m (slice_index_or names k d).1.meaning le (h k d less)

further_below : (n : ℕ) (here : Scope) → KnowsBelow here → KnowsBelow (further n here)
further_below n here h = names_more here.locals (here.locals + n) here.names (omega arith) h

pub one_name : (n : ℕ) (name : List ℕ) (e : Entry) → IsBelow n e.meaning → NamesBelow n ((name, e) ∷ [])
one_name n name e h = All-cons (λ x. IsBelow n x.1.meaning) (name, e) [] h (All-nil (λ x. IsBelow n x.1.meaning))

local_below : (here : Scope) (d : Declaration) (taken : Bool) → KnowsBelow here → KnowsBelow (further 1 (unless_taken taken d.name.text (local_entry here d) here))
local_below here d true h = further_below 1 here h
local_below here d false h =
    All-append (λ x. IsBelow (here.locals + 1) x.1.meaning) here.names ((d.name.text, local_entry here d) ∷ [])
    (names_more here.locals (here.locals + 1) here.names (omega arith) h) (one_name (here.locals + 1) d.name.text (local_entry here d) (omega arith))

pub points_speak_of_known : PointsSpeakOfKnown
points_speak_of_known here result body h k d less =
    let p = slice_index_or (known_in_body here body) k d in
    deed_below p.here (each_point KnowsBelow (λ there n. further_below n there) (λ there x. local_below there x (is_taken x.name.text there)) here body h k d less) result p.deed
