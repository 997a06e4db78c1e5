-- Cells that are read in a typed expression are typed, and have no call where calls stand as they may.
use Rattle.std.proofs.Common.{◌≡◌, Bool, true, false, ◌&&◌, ◌||◌, List, [], ◌∷◌, ◌++◌, Option, Some, None, is_some, option_map}
use Rattle.std.proofs.Common.{if◌then◌else◌, refl, sym, subst}
use Rattle.tsa_tree.specs.declared.expr.BinaryOp.TheVariants as op
use Rattle.tsa_tree.specs.declared.expr.UnaryOp.{UnaryOp}
use Rattle.tsa_tree.specs.declared.expr.UnaryOp.TheVariants as prefix
use Rattle.tsa_tree.specs.declared.kind.ExpressionType.{ExpressionType}
use Rattle.tsa_tree.specs.declared.meaning.Entry.{Entry}
use Rattle.tsa_tree.specs.expressions.Sound.{Words, SoundExpression, is_sound, are_sound}
use Rattle.tsa_tree.specs.expressions.Syntax.{Expression, Arguments, number, null, named, call, unary, binary, field, index, none, more}
use Rattle.tsa_tree.specs.types.Constants.{constant_of}
use Rattle.tsa_tree.specs.types.Expressions.{type_of, types_of, all_typed, member_of, member_type, owner}
use Rattle.tsa_tree.specs.types.Operands.{lacks, breaks_prefix, breaks_binary, breaks_index, prefix_type, binary_type, element_type}
use Rattle.tsa_tree.specs.types.Runnable.{has_call, have_call, is_free, is_whole, is_call, is_compared, is_comparison, is_condition}
use Rattle.tsa_tree.specs.types.Scopes.{Scope, context_of, known_in}
use Rattle.tsa_core.specs.Cells.{own_cell, inner_cells, argument_cells, cells_read}
use Rattle.tsa_core.specs.Meanings.{is_loaded, of_call, meaning}
use Rattle.tsa_core.proofs.CallsHold.{call_called, call_whole}
use Rattle.tsa_core.proofs.KindTests.{both_true, neither, not_true, one_of}
use Rattle.tsa_core.proofs.KindsOfTerms.{of_one, of_two, of_owner}
use Rattle.tsa_core.proofs.ValuesServe.{constant_free}
use Rattle.tsa_sound_accepted.proofs.terms.CellsAsked.{EachOf, each_of_both}
use Rattle.tsa_base.proofs.Truths.{never}

module _ (here : Scope) (words : Words) where
  -- a typed expression without a call
  pub record IsTold (e : Expression) : Type 0 where
    pub t : ExpressionType
    pub typed : type_of (context_of here) e ≡ Some t
    pub sound : SoundExpression words e
    pub free : has_call e ≡ false

  own_told : (e : Expression) → IsTold e → EachOf IsTold (own_cell here e)
  own_told e h = by (is_loaded (meaning here e))
    where
      by : (b : Bool) → EachOf IsTold (if b then e ∷ [] else [])
      by true = (h, tt)
      by false = tt

  abbrev Inner : Expression → Type 0
  Inner e = EachOf IsTold (inner_cells here e)

  read_told : (e : Expression) → IsTold e → Inner e → EachOf IsTold (cells_read here e)
  read_told e h inner = each_of_both IsTold (own_cell here e) (inner_cells here e) (own_told e h) inner

  pub inner_told : (e : Expression) → SoundExpression words e → has_call e ≡ false → (t : ExpressionType) → type_of (context_of here) e ≡ Some t → Inner e
  unfolding type_of types_of inner_cells argument_cells
  inner_told (number n u span) sound free t is = tt
  inner_told (null span) sound free t is = tt
  inner_told (named name span) sound free t is = tt
  inner_told (call callee args span) sound free t is = never free
  inner_told (unary o inner span) sound free t is =
      let parts = of_one (prefix_type o) (breaks_prefix o (type_of (context_of here) inner)) (type_of (context_of here) inner) t is in
      let told : IsTold inner = record { t = parts.1.0; typed = parts.1.1; sound = sound; free = free } in
      by o told (inner_told inner sound free parts.1.0 parts.1.1)
    where
      by : (o : UnaryOp) → IsTold inner → Inner inner → Inner (unary o inner span)
      by prefix.Address told rest = rest
      by prefix.Minus told rest = read_told inner told rest
      by prefix.Not told rest = read_told inner told rest
      by prefix.Flip told rest = read_told inner told rest
      by prefix.Follow told rest = read_told inner told rest
  inner_told (binary o left right span) sound free t is =
      let l = type_of (context_of here) left in
      let r = type_of (context_of here) right in
      let parts = of_two (binary_type o) (breaks_binary o l r) l r t is in
      let sounds = both_true (is_sound words left) (is_sound words right) sound in
      let frees = neither (has_call left) (has_call right) free in
      each_of_both IsTold (cells_read here left) (cells_read here right)
      (read_told left (record { t = parts.1.0.0; typed = parts.1.0.1; sound = sounds.0; free = frees.0 }) (inner_told left sounds.0 frees.0 parts.1.0.0 parts.1.0.1))
      (read_told right (record { t = parts.1.1.0; typed = parts.1.1.1; sound = sounds.1; free = frees.1 }) (inner_told right sounds.1 frees.1 parts.1.1.0 parts.1.1.1))
  inner_told (field base name true span) sound free t is =
      let f : ExpressionType → Option ExpressionType = λ x. option_map (member_type true x) (member_of (context_of here) true name.text x) in
      let parts = of_owner f (lacks (λ x. is_some (owner true x)) (type_of (context_of here) base)) (type_of (context_of here) base) t is in
      let s = (both_true (is_sound words base) _ sound).0 in
      read_told base (record { t = parts.0; typed = parts.1.0; sound = s; free = free }) (inner_told base s free parts.0 parts.1.0)
  inner_told (field base name false span) sound free t is =
      let f : ExpressionType → Option ExpressionType = λ x. option_map (member_type false x) (member_of (context_of here) false name.text x) in
      let parts = of_owner f (lacks (λ x. is_some (owner false x)) (type_of (context_of here) base)) (type_of (context_of here) base) t is in
      inner_told base (both_true (is_sound words base) _ sound).0 free parts.0 parts.1.0
  inner_told (index base at span) sound free t is =
      let l = type_of (context_of here) base in
      let r = type_of (context_of here) at in
      let parts = of_two (λ a i. element_type a) (breaks_index l r) l r t is in
      let sounds = both_true (is_sound words base) (is_sound words at) sound in
      let frees = neither (has_call base) (has_call at) free in
      each_of_both IsTold (inner_cells here base) (cells_read here at) (inner_told base sounds.0 frees.0 parts.1.0.0 parts.1.0.1)
      (read_told at (record { t = parts.1.1.0; typed = parts.1.1.1; sound = sounds.1; free = frees.1 }) (inner_told at sounds.1 frees.1 parts.1.1.0 parts.1.1.1))

  -- an expression without a call
  pub cells_told : (e : Expression) → IsTold e → EachOf IsTold (cells_read here e)
  cells_told e h = read_told e h (inner_told e h.sound h.free h.t h.typed)

  -- the arguments of a call
  one_typed : (o : Option ExpressionType) (rest : List (Option ExpressionType)) → all_typed (o ∷ rest) ≡ true → ((t : ExpressionType) × (o ≡ Some t)) × (all_typed rest ≡ true)
  one_typed None rest h = never (sym h)
  one_typed (Some t) rest h = ((t, refl), h)

  pub arguments_told : (args : Arguments) → all_typed (types_of (context_of here) args) ≡ true → are_sound words args ≡ true → have_call args ≡ false
      → EachOf IsTold (argument_cells here args)
  unfolding types_of argument_cells
  arguments_told none all sound free = tt
  arguments_told (more e rest) all sound free =
      let one = one_typed (type_of (context_of here) e) (types_of (context_of here) rest) all in
      let sounds = both_true (is_sound words e) (are_sound words rest) sound in
      let frees = neither (has_call e) (have_call rest) free in
      each_of_both IsTold (cells_read here e) (argument_cells here rest) (cells_told e (record { t = one.0.0; typed = one.0.1; sound = sounds.0; free = frees.0 }))
      (arguments_told rest one.1 sounds.1 frees.1)

  no_cell : (o : Option Entry) → is_loaded (of_call o) ≡ false
  no_cell None = refl
  no_cell (Some x) = refl

  -- one call that is the whole, or none
  pub whole_told : (e : Expression) (t : ExpressionType) → is_whole e ≡ true → SoundExpression words e → type_of (context_of here) e ≡ Some t → EachOf IsTold (cells_read here e)
  unfolding inner_cells meaning
  whole_told (call callee args span) t whole sound is =
      let c = call_called here callee args span t is in
      subst (λ b. EachOf IsTold ((if b then call callee args span ∷ [] else []) ++ argument_cells here args)) (sym (no_cell (known_in here callee.text)))
      (arguments_told args c.all (both_true _ (are_sound words args) sound).1 (not_true (have_call args) whole))
  whole_told (number n u span) t whole sound is = cells_told (number n u span) (record { t = t; typed = is; sound = sound; free = refl })
  whole_told (null span) t whole sound is = cells_told (null span) (record { t = t; typed = is; sound = sound; free = refl })
  whole_told (named name span) t whole sound is = cells_told (named name span) (record { t = t; typed = is; sound = sound; free = refl })
  whole_told (unary o inner span) t whole sound is = cells_told (unary o inner span) (record { t = t; typed = is; sound = sound; free = not_true (has_call inner) whole })
  whole_told (binary o left right span) t whole sound is =
      cells_told (binary o left right span) (record { t = t; typed = is; sound = sound; free = not_true (has_call left || has_call right) whole })
  whole_told (field base name arrow span) t whole sound is =
      cells_told (field base name arrow span) (record { t = t; typed = is; sound = sound; free = not_true (has_call base) whole })
  whole_told (index base at span) t whole sound is =
      cells_told (index base at span) (record { t = t; typed = is; sound = sound; free = not_true (has_call base || has_call at) whole })

  -- a call beside a constant
  constant_told : (e : Expression) (t : ExpressionType) → is_some (constant_of (context_of here) e) ≡ true → SoundExpression words e → type_of (context_of here) e ≡ Some t
      → EachOf IsTold (cells_read here e)
  constant_told e t constant sound is = cells_told e (record { t = t; typed = is; sound = sound; free = constant_free (context_of here) e constant })

  compared_told : (left right : Expression) (x y : ExpressionType) → SoundExpression words left → SoundExpression words right → type_of (context_of here) left ≡ Some x
      → type_of (context_of here) right ≡ Some y → is_comparison (context_of here) left right ≡ true → EachOf IsTold (cells_read here left ++ cells_read here right)
  compared_told left right x y sound other is and_is h =
      one_of (is_compared (context_of here) left right) (is_compared (context_of here) right left || (is_free left && is_free right)) h
      (λ g. let both = both_true (is_call left) (is_some (constant_of (context_of here) right)) g in
      each_of_both IsTold (cells_read here left) (cells_read here right) (whole_told left x (call_whole left both.0) sound is) (constant_told right y both.1 other and_is))
      (λ g.
      one_of (is_compared (context_of here) right left) (is_free left && is_free right) g
      (λ f. let both = both_true (is_call right) (is_some (constant_of (context_of here) left)) f in
      each_of_both IsTold (cells_read here left) (cells_read here right) (constant_told left x both.1 sound is) (whole_told right y (call_whole right both.0) other and_is))
      (λ f. let both = both_true (is_free left) (is_free right) f in
      each_of_both IsTold (cells_read here left) (cells_read here right)
      (cells_told left (record { t = x; typed = is; sound = sound; free = not_true (has_call left) both.0 }))
      (cells_told right (record { t = y; typed = and_is; sound = other; free = not_true (has_call right) both.1 }))))

  -- a test
  pub condition_told : (e : Expression) (t : ExpressionType) → is_condition (context_of here) e ≡ true → SoundExpression words e → type_of (context_of here) e ≡ Some t
      → EachOf IsTold (cells_read here e)
  unfolding type_of inner_cells meaning
  condition_told (unary prefix.Not x span) t h sound is =
      let parts = of_one (prefix_type prefix.Not) (breaks_prefix prefix.Not (type_of (context_of here) x)) (type_of (context_of here) x) t is in
      whole_told x parts.1.0 h sound parts.1.1
  condition_told (binary op.Equal left right span) t h sound is =
      let l = type_of (context_of here) left in
      let r = type_of (context_of here) right in
      let parts = of_two (binary_type op.Equal) (breaks_binary op.Equal l r) l r t is in
      let sounds = both_true (is_sound words left) (is_sound words right) sound in
      compared_told left right parts.1.0.0 parts.1.1.0 sounds.0 sounds.1 parts.1.0.1 parts.1.1.1 h
  condition_told (binary op.Unequal left right span) t h sound is =
      let l = type_of (context_of here) left in
      let r = type_of (context_of here) right in
      let parts = of_two (binary_type op.Unequal) (breaks_binary op.Unequal l r) l r t is in
      let sounds = both_true (is_sound words left) (is_sound words right) sound in
      compared_told left right parts.1.0.0 parts.1.1.0 sounds.0 sounds.1 parts.1.0.1 parts.1.1.1 h
  condition_told (unary prefix.Minus x span) t h sound is = whole_told (unary prefix.Minus x span) t h sound is
  condition_told (unary prefix.Flip x span) t h sound is = whole_told (unary prefix.Flip x span) t h sound is
  condition_told (unary prefix.Address x span) t h sound is = whole_told (unary prefix.Address x span) t h sound is
  condition_told (unary prefix.Follow x span) t h sound is = whole_told (unary prefix.Follow x span) t h sound is
  condition_told (binary op.Or left right span) t h sound is = whole_told (binary op.Or left right span) t h sound is
  condition_told (binary op.And left right span) t h sound is = whole_told (binary op.And left right span) t h sound is
  condition_told (binary op.BitOr left right span) t h sound is = whole_told (binary op.BitOr left right span) t h sound is
  condition_told (binary op.BitXor left right span) t h sound is = whole_told (binary op.BitXor left right span) t h sound is
  condition_told (binary op.BitAnd left right span) t h sound is = whole_told (binary op.BitAnd left right span) t h sound is
  condition_told (binary op.Less left right span) t h sound is = whole_told (binary op.Less left right span) t h sound is
  condition_told (binary op.More left right span) t h sound is = whole_told (binary op.More left right span) t h sound is
  condition_told (binary op.LessEqual left right span) t h sound is = whole_told (binary op.LessEqual left right span) t h sound is
  condition_told (binary op.MoreEqual left right span) t h sound is = whole_told (binary op.MoreEqual left right span) t h sound is
  condition_told (binary op.Plus left right span) t h sound is = whole_told (binary op.Plus left right span) t h sound is
  condition_told (binary op.Minus left right span) t h sound is = whole_told (binary op.Minus left right span) t h sound is
  condition_told (binary op.Times left right span) t h sound is = whole_told (binary op.Times left right span) t h sound is
  condition_told (binary op.Divide left right span) t h sound is = whole_told (binary op.Divide left right span) t h sound is
  condition_told (binary op.Remainder left right span) t h sound is = whole_told (binary op.Remainder left right span) t h sound is
  condition_told (number n u span) t h sound is = whole_told (number n u span) t h sound is
  condition_told (null span) t h sound is = whole_told (null span) t h sound is
  condition_told (named name span) t h sound is = whole_told (named name span) t h sound is
  condition_told (call callee args span) t h sound is = whole_told (call callee args span) t h sound is
  condition_told (field base name arrow span) t h sound is = whole_told (field base name arrow span) t h sound is
  condition_told (index base at span) t h sound is = whole_told (index base at span) t h sound is
