-- What the profile asks of an expression holds of each cell that is read in it, and of each address that is taken.
use Rattle.std.proofs.Common.{◌≡◌, ◌∙◌, ℕ, Bool, true, false, not, ◌&&◌, List, [], ◌∷◌, ◌++◌, None, is_some, is_none, if◌then◌else◌, refl}
use Rattle.std.proofs.Common.{sym, ap, subst}
use Rattle.std.specs.List.{list_any}
use Rattle.tsa_base.specs.declared.token.Span.{Span}
use Rattle.tsa_base.proofs.Truths.{never}
use Rattle.tsa_tree.specs.declared.expr.BinaryOp.TheVariants as op
use Rattle.tsa_tree.specs.declared.expr.UnaryOp.TheVariants as prefix
use Rattle.tsa_tree.specs.expressions.Syntax.{Expression, Arguments, number, null, named, call, unary, binary, field, index, none, more}
use Rattle.tsa_tree.specs.types.Scopes.{Scope}
use Rattle.tsa_place_model.specs.Calls.{Layout}
use Rattle.tsa_core.specs.Cells.{own_cell, inner_cells, argument_cells, cells_read}
use Rattle.tsa_core.specs.Meanings.{is_loaded, meaning}
use Rattle.tsa_core.specs.Uses.{access_guards}
use Rattle.tsa_profile_accesses.specs.declared.premise.ProfileCode.TheVariants.{PF2, PF3}
use Rattle.tsa_profile_accesses.specs.Premises.{first}
use Rattle.tsa_profile_accesses.specs.Locks.{is_empty}
use Rattle.tsa_profile_accesses.specs.declared.standing.Standing.{Standing}
use Rattle.tsa_profile_accesses.specs.declared.standing.Standing.TheVariants.{Inside}
use Rattle.tsa_profile_accesses.specs.Standing.{under_not, beside}
use Rattle.tsa_profile_accesses.specs.Expressions.{View, constant, guards, lacks_a_guard, own, parts, arguments, expression}
use Rattle.tsa_profile_guards.proofs.NoneFails.{none_of_both, none_of_first}

-- each of some expressions
abbrev pub EachOf : (Expression → Type 0) → List Expression → Type 0
EachOf P [] = Unit {0}
EachOf P (e ∷ es) = P e × EachOf P es

pub each_of_both : (P : Expression → Type 0) (xs ys : List Expression) → EachOf P xs → EachOf P ys → EachOf P (xs ++ ys)
each_of_both P [] ys h g = g
each_of_both P (x ∷ xs) ys h g = (h.0, each_of_both P xs ys h.1 g)

pub each_of_parts : (P : Expression → Type 0) (xs ys : List Expression) → EachOf P (xs ++ ys) → EachOf P xs × EachOf P ys
each_of_parts P [] ys h = (tt, h)
each_of_parts P (x ∷ xs) ys h = let rest = each_of_parts P xs ys h.1 in ((h.0, rest.0), rest.1)

-- a cell whose guards all have paths
abbrev pub HasPaths : Layout → (ℕ → Bool) → Scope → Expression → Type 0
HasPaths l stable here e = list_any is_none (access_guards l stable here e) ≡ false

-- the address of no guarded place is taken
abbrev mutual
  pub AddressesFree : Layout → (ℕ → Bool) → Scope → Expression → Type 0
  AddressesFree l stable here (number n u span) = Unit {0}
  AddressesFree l stable here (null span) = Unit {0}
  AddressesFree l stable here (named name span) = Unit {0}
  AddressesFree l stable here (call callee args span) = ArgumentsFree l stable here args
  AddressesFree l stable here (unary prefix.Address inner span) = (access_guards l stable here inner ≡ []) × AddressesFree l stable here inner
  AddressesFree l stable here (unary o inner span) = AddressesFree l stable here inner
  AddressesFree l stable here (binary o left right span) = AddressesFree l stable here left × AddressesFree l stable here right
  AddressesFree l stable here (field base name arrow span) = AddressesFree l stable here base
  AddressesFree l stable here (index base at span) = AddressesFree l stable here base × AddressesFree l stable here at

  pub ArgumentsFree : Layout → (ℕ → Bool) → Scope → Arguments → Type 0
  ArgumentsFree l stable here none = Unit {0}
  ArgumentsFree l stable here (more first rest) = AddressesFree l stable here first × ArgumentsFree l stable here rest

-- what is asked of the value of an expression
pub record IsAsked (l : Layout) (stable : ℕ → Bool) (here : Scope) (e : Expression) : Type 0 where
  pub cells : EachOf (HasPaths l stable here) (cells_read here e)
  pub addresses : AddressesFree l stable here e

empty_is : {A : Type 0} (xs : List A) → not (is_empty xs) ≡ false → xs ≡ []
empty_is [] h = refl
empty_is (x ∷ xs) h = never h

-- An expression is seen where another number of locals may be known.
module _ (v : View) (here : Scope) (run : v.is_run ≡ true) (meant : (e : Expression) → meaning v.here e ≡ meaning here e)
    (guarded : (e : Expression) → access_guards v.layout v.stable v.here e ≡ access_guards v.layout v.stable here e) where
  abbrev Has : Expression → Type 0
  Has e = HasPaths v.layout v.stable here e

  abbrev Free : Expression → Type 0
  Free e = AddressesFree v.layout v.stable here e

  abbrev cell_if : Bool → Expression → List Expression
  cell_if b e = if b then e ∷ [] else []

  there : (e : Expression) → list_any is_none (guards v e) ≡ false → Has e
  there e h = sym (ap (list_any is_none) (guarded e)) ∙ h

  of_run : (r empty lacks : Bool) → r ≡ true → empty ≡ false → (r && (not empty && lacks)) ≡ false → lacks ≡ false
  of_run true false lacks e f h = h
  of_run true true lacks e f h = never f
  of_run false empty lacks e f h = never (sym e)

  of_own : (e : Expression) (b : Bool) → (v.is_run && (not (is_empty (cell_if b e)) && list_any is_none (guards v e))) ≡ false → EachOf Has (cell_if b e)
  of_own e true h = (there e (of_run v.is_run false (list_any is_none (guards v e)) run refl h), tt)
  of_own e false h = tt

  one : (e : Expression) → lacks_a_guard v e ≡ false → EachOf Has (own_cell here e)
  one e h =
      subst (λ s. EachOf Has (cell_if (is_loaded s) e)) (meant e) (of_own e (is_loaded (meaning v.here e)) h)

  plain : (e : Expression) (b : Bool) → Has e → EachOf Has (cell_if b e)
  plain e true h = (h, tt)
  plain e false h = tt

  own_has : (s : Standing) (e : Expression) → first (own v s true e) ≡ None → EachOf Has (own_cell here e)
  unfolding access_guards
  own_has s (named name span) h = one (named name span) (none_of_first PF2 span (lacks_a_guard v (named name span)) [] h).0
  own_has s (field base name arrow span) h = one (field base name arrow span) (none_of_first PF2 span (lacks_a_guard v (field base name arrow span)) [] h).0
  own_has s (index base at span) h = one (index base at span) (none_of_first PF2 span (lacks_a_guard v (index base at span)) [] h).0
  own_has s (number n u span) h = plain (number n u span) (is_loaded (meaning here (number n u span))) refl
  own_has s (null span) h = plain (null span) (is_loaded (meaning here (null span))) refl
  own_has s (call callee args span) h = plain (call callee args span) (is_loaded (meaning here (call callee args span))) refl
  own_has s (unary o inner span) h = plain (unary o inner span) (is_loaded (meaning here (unary o inner span))) refl
  own_has s (binary o left right span) h = plain (binary o left right span) (is_loaded (meaning here (binary o left right span))) refl

  abbrev Inner : Expression → Type 0
  Inner e = EachOf Has (inner_cells here e)

  -- the cell of an operand, and those inside it
  operand : (s : Standing) (e : Expression) → first (own v s true e ++ parts v s e) ≡ None → (first (parts v s e) ≡ None → Inner e) → EachOf Has (cells_read here e)
  operand s e h inner =
      let both = none_of_both (own v s true e) (parts v s e) h in
      each_of_both Has (own_cell here e) (inner_cells here e) (own_has s e both.0) (inner both.1)

  behind_own : (s : Standing) (b : Bool) (e : Expression) → first (own v s b e ++ parts v s e) ≡ None → first (parts v s e) ≡ None
  behind_own s b e h = (none_of_both (own v s b e) (parts v s e) h).1

  two : (s t : Standing) (left right : Expression) → first ((own v s true left ++ parts v s left) ++ (own v t true right ++ parts v t right)) ≡ None
      → (first (parts v s left) ≡ None → Inner left) → (first (parts v t right) ≡ None → Inner right)
      → EachOf Has ((own_cell here left ++ inner_cells here left) ++ (own_cell here right ++ inner_cells here right))
  two s t left right h f g =
      let both = none_of_both (own v s true left ++ parts v s left) (own v t true right ++ parts v t right) h in
      each_of_both Has (cells_read here left) (cells_read here right) (operand s left both.0 f) (operand t right both.1 g)

  mutual
    unfolding inner_cells argument_cells parts arguments

    inner_has : (s : Standing) (e : Expression) → first (parts v s e) ≡ None → Inner e
    inner_has s (number n u span) h = tt
    inner_has s (null span) h = tt
    inner_has s (named name span) h = tt
    inner_has s (call callee args span) h = arguments_have args h
    inner_has s (unary prefix.Address inner span) h = inner_has Inside inner (behind_own Inside false inner h)
    inner_has s (unary prefix.Not inner span) h = operand (under_not s) inner h (λ g. inner_has (under_not s) inner g)
    inner_has s (unary prefix.Minus inner span) h = operand Inside inner h (λ g. inner_has Inside inner g)
    inner_has s (unary prefix.Flip inner span) h = operand Inside inner h (λ g. inner_has Inside inner g)
    inner_has s (unary prefix.Follow inner span) h = operand Inside inner h (λ g. inner_has Inside inner g)
    inner_has s (binary op.Equal left right span) h =
        two (beside s (is_some (constant v right))) (beside s (is_some (constant v left))) left right h
        (λ g. inner_has (beside s (is_some (constant v right))) left g) (λ g. inner_has (beside s (is_some (constant v left))) right g)
    inner_has s (binary op.Unequal left right span) h =
        two (beside s (is_some (constant v right))) (beside s (is_some (constant v left))) left right h
        (λ g. inner_has (beside s (is_some (constant v right))) left g) (λ g. inner_has (beside s (is_some (constant v left))) right g)
    inner_has s (binary op.Or left right span) h = two Inside Inside left right h (λ g. inner_has Inside left g) (λ g. inner_has Inside right g)
    inner_has s (binary op.And left right span) h = two Inside Inside left right h (λ g. inner_has Inside left g) (λ g. inner_has Inside right g)
    inner_has s (binary op.BitOr left right span) h = two Inside Inside left right h (λ g. inner_has Inside left g) (λ g. inner_has Inside right g)
    inner_has s (binary op.BitXor left right span) h = two Inside Inside left right h (λ g. inner_has Inside left g) (λ g. inner_has Inside right g)
    inner_has s (binary op.BitAnd left right span) h = two Inside Inside left right h (λ g. inner_has Inside left g) (λ g. inner_has Inside right g)
    inner_has s (binary op.Less left right span) h = two Inside Inside left right h (λ g. inner_has Inside left g) (λ g. inner_has Inside right g)
    inner_has s (binary op.More left right span) h = two Inside Inside left right h (λ g. inner_has Inside left g) (λ g. inner_has Inside right g)
    inner_has s (binary op.LessEqual left right span) h = two Inside Inside left right h (λ g. inner_has Inside left g) (λ g. inner_has Inside right g)
    inner_has s (binary op.MoreEqual left right span) h = two Inside Inside left right h (λ g. inner_has Inside left g) (λ g. inner_has Inside right g)
    inner_has s (binary op.Plus left right span) h = two Inside Inside left right h (λ g. inner_has Inside left g) (λ g. inner_has Inside right g)
    inner_has s (binary op.Minus left right span) h = two Inside Inside left right h (λ g. inner_has Inside left g) (λ g. inner_has Inside right g)
    inner_has s (binary op.Times left right span) h = two Inside Inside left right h (λ g. inner_has Inside left g) (λ g. inner_has Inside right g)
    inner_has s (binary op.Divide left right span) h = two Inside Inside left right h (λ g. inner_has Inside left g) (λ g. inner_has Inside right g)
    inner_has s (binary op.Remainder left right span) h = two Inside Inside left right h (λ g. inner_has Inside left g) (λ g. inner_has Inside right g)
    inner_has s (field base name true span) h =
        let both = none_of_both (own v Inside true base) (parts v Inside base) h in
        each_of_both Has (own_cell here base) (inner_cells here base) (own_has Inside base both.0) (inner_has Inside base both.1)
    inner_has s (field base name false span) h = inner_has Inside base (behind_own Inside false base h)
    inner_has s (index base at span) h =
        let both = none_of_both (own v Inside false base ++ parts v Inside base) (own v Inside true at ++ parts v Inside at) h in
        each_of_both Has (inner_cells here base) (cells_read here at) (inner_has Inside base (behind_own Inside false base both.0))
        (operand Inside at both.1 (λ g. inner_has Inside at g))

    arguments_have : (args : Arguments) → first (arguments v args) ≡ None → EachOf Has (argument_cells here args)
    arguments_have none h = tt
    arguments_have (more e rest) h =
        let both = none_of_both (own v Inside true e ++ parts v Inside e) (arguments v rest) h in
        each_of_both Has (cells_read here e) (argument_cells here rest) (operand Inside e both.0 (λ g. inner_has Inside e g)) (arguments_have rest both.1)

  -- addresses
  abbrev Keeps : Standing → Bool → Expression → Type 0
  Keeps s b e = (first (own v s b e) ≡ None) × (first (parts v s e) ≡ None)

  keeps : (s : Standing) (b : Bool) (e : Expression) → first (own v s b e ++ parts v s e) ≡ None → Keeps s b e
  keeps s b e h = none_of_both (own v s b e) (parts v s e) h

  address_free : (inner : Expression) (span : Span) (s : Standing) (b : Bool) → first (own v s b (unary prefix.Address inner span)) ≡ None
      → access_guards v.layout v.stable here inner ≡ []
  address_free inner span s b h = sym (guarded inner) ∙ empty_is (guards v inner) (none_of_first PF3 span (not (is_empty (guards v inner))) [] h).0

  both_kept : (s t : Standing) (a b : Bool) (left right : Expression) → first ((own v s a left ++ parts v s left) ++ (own v t b right ++ parts v t right)) ≡ None
      → Keeps s a left × Keeps t b right
  both_kept s t a b left right h =
      let both = none_of_both (own v s a left ++ parts v s left) (own v t b right ++ parts v t right) h in
      (keeps s a left both.0, keeps t b right both.1)

  two_free : (s t : Standing) (left right : Expression) → first ((own v s true left ++ parts v s left) ++ (own v t true right ++ parts v t right)) ≡ None
      → (Keeps s true left → Free left) → (Keeps t true right → Free right) → Free left × Free right
  two_free s t left right h f g = let x = both_kept s t true true left right h in (f x.0, g x.1)

  mutual
    unfolding parts arguments

    are_free : (s : Standing) (b : Bool) (e : Expression) → Keeps s b e → Free e
    are_free s b (number n u span) h = tt
    are_free s b (null span) h = tt
    are_free s b (named name span) h = tt
    are_free s b (call callee args span) h = arguments_free args h.1
    are_free s b (unary prefix.Address inner span) h = (address_free inner span s b h.0, are_free Inside false inner (keeps Inside false inner h.1))
    are_free s b (unary prefix.Not inner span) h = are_free (under_not s) true inner (keeps (under_not s) true inner h.1)
    are_free s b (unary prefix.Minus inner span) h = are_free Inside true inner (keeps Inside true inner h.1)
    are_free s b (unary prefix.Flip inner span) h = are_free Inside true inner (keeps Inside true inner h.1)
    are_free s b (unary prefix.Follow inner span) h = are_free Inside true inner (keeps Inside true inner h.1)
    are_free s b (binary op.Equal left right span) h =
        two_free (beside s (is_some (constant v right))) (beside s (is_some (constant v left))) left right h.1
        (λ g. are_free (beside s (is_some (constant v right))) true left g) (λ g. are_free (beside s (is_some (constant v left))) true right g)
    are_free s b (binary op.Unequal left right span) h =
        two_free (beside s (is_some (constant v right))) (beside s (is_some (constant v left))) left right h.1
        (λ g. are_free (beside s (is_some (constant v right))) true left g) (λ g. are_free (beside s (is_some (constant v left))) true right g)
    are_free s b (binary op.Or left right span) h = two_free Inside Inside left right h.1 (λ g. are_free Inside true left g) (λ g. are_free Inside true right g)
    are_free s b (binary op.And left right span) h = two_free Inside Inside left right h.1 (λ g. are_free Inside true left g) (λ g. are_free Inside true right g)
    are_free s b (binary op.BitOr left right span) h = two_free Inside Inside left right h.1 (λ g. are_free Inside true left g) (λ g. are_free Inside true right g)
    are_free s b (binary op.BitXor left right span) h = two_free Inside Inside left right h.1 (λ g. are_free Inside true left g) (λ g. are_free Inside true right g)
    are_free s b (binary op.BitAnd left right span) h = two_free Inside Inside left right h.1 (λ g. are_free Inside true left g) (λ g. are_free Inside true right g)
    are_free s b (binary op.Less left right span) h = two_free Inside Inside left right h.1 (λ g. are_free Inside true left g) (λ g. are_free Inside true right g)
    are_free s b (binary op.More left right span) h = two_free Inside Inside left right h.1 (λ g. are_free Inside true left g) (λ g. are_free Inside true right g)
    are_free s b (binary op.LessEqual left right span) h = two_free Inside Inside left right h.1 (λ g. are_free Inside true left g) (λ g. are_free Inside true right g)
    are_free s b (binary op.MoreEqual left right span) h = two_free Inside Inside left right h.1 (λ g. are_free Inside true left g) (λ g. are_free Inside true right g)
    are_free s b (binary op.Plus left right span) h = two_free Inside Inside left right h.1 (λ g. are_free Inside true left g) (λ g. are_free Inside true right g)
    are_free s b (binary op.Minus left right span) h = two_free Inside Inside left right h.1 (λ g. are_free Inside true left g) (λ g. are_free Inside true right g)
    are_free s b (binary op.Times left right span) h = two_free Inside Inside left right h.1 (λ g. are_free Inside true left g) (λ g. are_free Inside true right g)
    are_free s b (binary op.Divide left right span) h = two_free Inside Inside left right h.1 (λ g. are_free Inside true left g) (λ g. are_free Inside true right g)
    are_free s b (binary op.Remainder left right span) h = two_free Inside Inside left right h.1 (λ g. are_free Inside true left g) (λ g. are_free Inside true right g)
    are_free s b (field base name arrow span) h = are_free Inside arrow base (keeps Inside arrow base h.1)
    are_free s b (index base at span) h = let x = both_kept Inside Inside false true base at h.1 in (are_free Inside false base x.0, are_free Inside true at x.1)

    arguments_free : (args : Arguments) → first (arguments v args) ≡ None → ArgumentsFree v.layout v.stable here args
    arguments_free none h = tt
    arguments_free (more e rest) h =
        let both = none_of_both (own v Inside true e ++ parts v Inside e) (arguments v rest) h in
        (are_free Inside true e (keeps Inside true e both.0), arguments_free rest both.1)

  pub asked : (s : Standing) (e : Expression) → first (expression v s e) ≡ None → IsAsked v.layout v.stable here e
  asked s e h = record { cells = operand s e h (λ g. inner_has s e g); addresses = are_free s true e (keeps s true e h) }
