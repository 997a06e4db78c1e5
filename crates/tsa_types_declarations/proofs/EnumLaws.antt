-- What an enumerator is worth, what is wrong with it, and what is taken after enumerators.
use Rattle.std.proofs.Common.{◌≡◌, ◌∙◌, ℕ, ℤ, pos, ◌+ℤ◌, Bool, true, false, not, ◌||◌, List, [], ◌∷◌, ◌++◌, Option, Some, None, Result, Ok}
use Rattle.std.proofs.Common.{Err, refl, sym, ap, is_some, if◌then◌else◌}
use Rattle.std.specs.Option.{ok_or}
use Rattle.std.specs.Str.{bytes_eq}
use Rattle.tsa_base.specs.declared.token.Span.{Span}
use Rattle.tsa_tree.specs.declared.expr.Expr.{Expr}
use Rattle.tsa_tree.specs.declared.kind.ExpressionType.{ExpressionType}
use Rattle.tsa_tree.specs.declared.premise.Failure.{Failure}
use Rattle.tsa_tree.specs.declared.premise.TypeCode.TheVariants.{TY2, TY9}
use Rattle.tsa_tree.specs.declarations.Syntax.{EnumConstant}
use Rattle.tsa_tree.specs.expressions.Syntax.{Identifier, Expression}
use Rattle.tsa_tree.specs.expressions.Shapes.{shape}
use Rattle.tsa_tree.specs.types.Arithmetic.{is_int}
use Rattle.tsa_tree.specs.types.Enums.{int_value, as_int, or_worth, value_or_zero, value_verdict, value_premises, enumerator_value}
use Rattle.tsa_tree.specs.types.Enums.{enumerator_entry, enumerator_premises, behind_enumerators, other_enum, is_enumerator, enum_premises}
use Rattle.tsa_tree.specs.types.Premises.{or_else, first}
use Rattle.tsa_tree.specs.types.Scopes.{Scope, found, context_of, tag_in, with_name, is_taken, is_named_taken}
use Rattle.tsa_types_expressions.specs.Found.{number_in, with_constant, constant_in, found_in}
use Rattle.tsa_types_expressions.specs.Verdicts.{at, verdict_of}
use Rattle.tsa_types_expressions.proofs.ConstantLaws.{constant_is}
use Rattle.tsa_types_expressions.proofs.LengthLaws.{constant_fails, constant_passes, constant_misses, shape_span}
use Rattle.tsa_types_expressions.proofs.Sequences.{one_fails, one_holds}
use Rattle.tsa_types_declarations.specs.Enumerators.{worth_by, own_premises}

-- an enumerator without a value, and one with a value
abbrev plain : Identifier → EnumConstant
plain name = record { name = name; value = None }

abbrev valued : Identifier → Expression → EnumConstant
valued name e = record { name = name; value = Some e }

-- what it counts on to is its worth, or is refused
by_count : (b : Bool) (name : Identifier) (next : ℤ)
    → ok_or (if b then Some next else None) (at TY9 name.span)
    ≡ or_worth (or_else (if not b then Some (at TY9 name.span) else None) None) (value_or_zero (if b then Some next else None))
by_count true name next = refl
by_count false name next = refl

module _ (here : Scope) where
  -- an enumerator without a value, by what it counts on to
  pub counts_on : (name : Identifier) (next : ℤ) → ok_or (as_int next) (at TY9 name.span) ≡ value_verdict here (plain name) next
  unfolding value_verdict first
  counts_on name next = by_count (is_int next) name next

  module _ (name : Identifier) (e : Expr) (next : ℤ) where
    abbrev constant : Option ℤ
    constant = int_value (number_in (constant_in (context_of here) (shape e)))

    -- a value that is an `int` is its worth
    passes : (t : ExpressionType) (z : ℤ) → verdict_of (context_of here) (shape e) ≡ Ok t → constant ≡ Some z → value_verdict here (valued name (shape e)) next ≡ Ok z
    unfolding value_verdict
    passes t z h k =
        let worth = ap int_value (constant_is (context_of here) (shape e)) ∙ k in
        ap (λ x. or_worth x (enumerator_value here (valued name (shape e)) next))
        (constant_passes (context_of here) (λ n. is_some (int_value n)) (shape e) t h (ap is_some worth))
        ∙ ap (λ o. Ok (value_or_zero o)) worth

    -- one that is none is refused
    misses : (t : ExpressionType) → verdict_of (context_of here) (shape e) ≡ Ok t → constant ≡ None → value_verdict here (valued name (shape e)) next ≡ Err (at TY9 e.span)
    unfolding value_verdict
    misses t h k =
        let worth = ap int_value (constant_is (context_of here) (shape e)) ∙ k in
        ap (λ x. or_worth x (enumerator_value here (valued name (shape e)) next))
        (constant_misses (context_of here) (λ n. is_some (int_value n)) (shape e) t h (ap is_some worth))
        ∙ ap (λ s. Err (at TY9 s)) (shape_span e)

    -- one in which a premise fails is refused by that
    fails : (f : Failure) → verdict_of (context_of here) (shape e) ≡ Err f → value_verdict here (valued name (shape e)) next ≡ Err f
    unfolding value_verdict
    fails f h =
        ap (λ x. or_worth x (enumerator_value here (valued name (shape e)) next))
        (constant_fails (context_of here) (λ n. is_some (int_value n)) (shape e) f h)

    -- the three together
    by_verdict : (v : Result ExpressionType Failure) → verdict_of (context_of here) (shape e) ≡ v
        → worth_by e.span (with_constant (constant_in (context_of here) (shape e)) v) ≡ value_verdict here (valued name (shape e)) next
    by_verdict (Err f) h = sym (fails f h)
    by_verdict (Ok t) h = by_constant constant refl
      where
        by_constant : (o : Option ℤ) → constant ≡ o → ok_or constant (at TY9 e.span) ≡ value_verdict here (valued name (shape e)) next
        by_constant None k = ap (λ o. ok_or o (at TY9 e.span)) k ∙ sym (misses t h k)
        by_constant (Some z) k = ap (λ o. ok_or o (at TY9 e.span)) k ∙ sym (passes t z h k)

    -- a value, by what it was found to be
    pub value_is : worth_by e.span (found_in (context_of here) (shape e)) ≡ value_verdict here (valued name (shape e)) next
    unfolding found_in
    value_is = by_verdict (verdict_of (context_of here) (shape e)) refl

pub ruleset worth = (counts_on, value_is)

-- an enumerator's own premises, by its name and by what it is worth
no_failure : (x : Option Failure) (w z : ℤ) → or_worth x w ≡ Ok z → x ≡ None
no_failure (Some x) w z h = cc
no_failure None w z h = refl

its_worth : (x : Option Failure) (w z : ℤ) → or_worth x w ≡ Ok z → w ≡ z
its_worth (Some x) w z h = cc
its_worth None w z h = cc

its_failure : (x : Option Failure) (w : ℤ) (f : Failure) → or_worth x w ≡ Err f → x ≡ Some f
its_failure (Some x) w f h = cc
its_failure None w f h = cc

module _ (here : Scope) (e : EnumConstant) (next : ℤ) where
  abbrev of_value : Option Failure
  of_value = first (value_premises here e.name e.value next)

  -- a name that is taken is told first
  pub own_taken : is_taken e.name.text here ≡ true → first (own_premises here next e) ≡ Some (at TY2 e.name.span)
  unfolding own_premises
  own_taken h = one_fails TY2 e.name.span (is_taken e.name.text here) (value_premises here e.name e.value next) h

  -- then what is wrong with the value
  pub own_fails : (f : Failure) → is_taken e.name.text here ≡ false → value_verdict here e next ≡ Err f → first (own_premises here next e) ≡ Some f
  unfolding own_premises value_verdict
  own_fails f h v =
      one_holds TY2 e.name.span (is_taken e.name.text here) (value_premises here e.name e.value next) h ∙ its_failure of_value (enumerator_value here e next) f v

  -- where it has a worth nothing fails
  pub own_holds : (z : ℤ) → is_taken e.name.text here ≡ false → value_verdict here e next ≡ Ok z → first (own_premises here next e) ≡ None
  unfolding own_premises value_verdict
  own_holds z h v =
      one_holds TY2 e.name.span (is_taken e.name.text here) (value_premises here e.name e.value next) h ∙ no_failure of_value (enumerator_value here e next) z v

  -- and that is what it is known as
  pub own_worth : (z : ℤ) → value_verdict here e next ≡ Ok z → z ≡ enumerator_value here e next
  unfolding value_verdict
  own_worth z v = sym (its_worth of_value (enumerator_value here e next) z v)

-- the names after enumerators are those before them and their own
found_one : {A : Type 0} (b : Bool) (e : A) → is_some (if b then Some e else None) ≡ b
found_one true e = refl
found_one false e = refl

found_more : {A : Type 0} (b d : Bool) (e : A) (longer shorter : Option A) → is_some longer ≡ (is_some shorter || d)
    → is_some (if b then Some e else longer) ≡ (is_some (if b then Some e else shorter) || d)
found_more true d e longer shorter h = refl
found_more false d e longer shorter h = h

found_behind : {A : Type 0} (xs : List (List ℕ × A)) (name other : List ℕ) (e : A)
    → is_some (found (xs ++ (other, e) ∷ []) name) ≡ (is_some (found xs name) || bytes_eq name other)
found_behind [] name other e = found_one (bytes_eq name other) e
found_behind (x ∷ xs) name other e =
    found_more (bytes_eq name x.0) (bytes_eq name other) x.1 (found (xs ++ (other, e) ∷ []) name) (found xs name) (found_behind xs name other e)

or_assoc : (a b d : Bool) → ((a || b) || d) ≡ (a || (b || d))
or_assoc true b d = refl
or_assoc false b d = refl

or_false : (a : Bool) → (a || false) ≡ a
or_false true = refl
or_false false = refl

-- a name is taken behind enumerators where it was before, or is one of theirs
pub taken_behind : (here : Scope) (next : ℤ) (values : List EnumConstant) (name : List ℕ)
    → is_taken name (behind_enumerators here next values) ≡ (is_taken name here || is_enumerator name values)
unfolding behind_enumerators
taken_behind here next [] name = sym (or_false (is_taken name here))
taken_behind here next (e ∷ rest) name =
    let worth = enumerator_value here e next in
    taken_behind (with_name e.name.text (enumerator_entry worth) here) (worth +ℤ pos 1) rest name
    ∙ ap (λ b. b || is_enumerator name rest) (found_behind here.names name e.name.text (enumerator_entry worth))
    ∙ or_assoc (is_taken name here) (bytes_eq name e.name.text) (is_enumerator name rest)

-- an enum item: its tag and its name of a type, and then its enumerators
module _ (here : Scope) (tag alias : Option Identifier) (values : List EnumConstant) (span : Span) where
  abbrev elsewhere : Bool
  elsewhere = other_enum span.from (tag_in here tag) || is_named_taken alias (behind_enumerators here (pos 0) values)

  -- an item that is declared elsewhere is told first
  pub enum_again : elsewhere ≡ true → first (enum_premises here tag alias values span) ≡ Some (at TY2 span)
  unfolding enum_premises
  enum_again h = one_fails TY2 span elsewhere (enumerator_premises here (pos 0) values) h

  -- then its enumerators are judged
  pub enum_first : elsewhere ≡ false → first (enum_premises here tag alias values span) ≡ first (enumerator_premises here (pos 0) values)
  unfolding enum_premises
  enum_first h = one_holds TY2 span elsewhere (enumerator_premises here (pos 0) values) h

  -- its name of a type is free behind them
  pub enum_alias_free : elsewhere ≡ false → is_named_taken alias (behind_enumerators here (pos 0) values) ≡ false
  enum_alias_free h = neither (other_enum span.from (tag_in here tag)) (is_named_taken alias (behind_enumerators here (pos 0) values)) h
    where
      neither : (a b : Bool) → (a || b) ≡ false → b ≡ false
      neither true b k = cc
      neither false b k = k
