-- Constants are worked out alike where the same enumerators are known.
use Rattle.std.proofs.Common.{◌≡◌, ◌∙◌, ℕ, Bool, true, false, ◌&&◌, List, Option, Some, None, Ok, option_map, if◌then◌else◌, refl, sym, ap}
use Rattle.std.proofs.Common.{ap₂}
use Rattle.tsa_tree.specs.declared.kind.ExpressionType.{ExpressionType}
use Rattle.tsa_tree.specs.declared.number.Number.{Number}
use Rattle.tsa_tree.specs.expressions.Syntax.{Expression, number, null, named, call, unary, binary, field, index}
use Rattle.tsa_tree.specs.types.Arithmetic.{operate_prefix}
use Rattle.tsa_tree.specs.types.Constants.{enumerator, is_known_enumerator, takes_integers, is_made_of_constants, named_value, go_on}
use Rattle.tsa_tree.specs.types.Constants.{worked, worked_binary, without_trap, constant_of}
use Rattle.tsa_tree.specs.types.DeclaredTypes.{typed_value, value_in}
use Rattle.tsa_tree.specs.types.Expressions.{type_of, types_of, unless, both, entry_type}
use Rattle.tsa_tree.specs.types.Known.{Context}
use Rattle.tsa_tree.specs.types.Operands.{breaks_prefix, breaks_binary, prefix_type, binary_type}
use Rattle.tsa_core.proofs.KindTests.{both_true}
use Rattle.tsa_base.proofs.Truths.{never}

-- enumerators are known alike
pub record SameConstants (c d : Context) : Type 0 where
  pub values : (name : List ℕ) → enumerator (d.known name) ≡ enumerator (c.known name)
  pub entries : (name : List ℕ) → is_known_enumerator (enumerator (c.known name)) ≡ true → d.known name ≡ c.known name

typed_none : (o : Option ExpressionType) → typed_value o None ≡ None
typed_none None = refl
typed_none (Some t) = refl

module _ (c d : Context) (same : SameConstants c d) where
  made_same : (e : Expression) → is_made_of_constants d e ≡ is_made_of_constants c e
  made_same (number n u span) = refl
  made_same (named name span) = ap is_known_enumerator (same.values name.text)
  made_same (unary op inner span) = ap (λ b. takes_integers op && b) (made_same inner)
  made_same (binary op left right span) = ap₂ (λ a b. a && b) (made_same left) (made_same right)
  made_same (null span) = refl
  made_same (call callee args span) = refl
  made_same (field base name arrow span) = refl
  made_same (index base at span) = refl

  worked_same : (e : Expression) → worked d e ≡ worked c e
  worked_same (number n u span) = refl
  worked_same (named name span) = ap (λ z. Ok (named_value z)) (same.values name.text)
  worked_same (unary op inner span) = ap (λ r. go_on r (operate_prefix op)) (worked_same inner)
  worked_same (binary op left right span) = ap₂ (worked_binary op) (worked_same left) (worked_same right)
  worked_same (null span) = refl
  worked_same (call callee args span) = refl
  worked_same (field base name arrow span) = refl
  worked_same (index base at span) = refl

  type_same : (e : Expression) → is_made_of_constants c e ≡ true → type_of d e ≡ type_of c e
  unfolding type_of types_of
  type_same (number n u span) made = refl
  type_same (named name span) made = ap (option_map entry_type) (same.entries name.text made)
  type_same (unary op inner span) made =
      ap (λ o. unless (breaks_prefix op o) (option_map (prefix_type op) o)) (type_same inner (both_true (takes_integers op) (is_made_of_constants c inner) made).1)
  type_same (binary op left right span) made =
      let parts = both_true (is_made_of_constants c left) (is_made_of_constants c right) made in
      ap₂ (λ l r. unless (breaks_binary op l r) (both (binary_type op) l r)) (type_same left parts.0) (type_same right parts.1)
  type_same (null span) made = refl
  type_same (call callee args span) made = never (sym made)
  type_same (field base name arrow span) made = never (sym made)
  type_same (index base at span) made = never (sym made)

  pub same_constant : (e : Expression) → constant_of d e ≡ constant_of c e
  unfolding constant_of
  same_constant e = ap₂ (λ b r. if b then without_trap r else None) (made_same e) (worked_same e)

  pub same_value : (e : Expression) → value_in d e ≡ value_in c e
  unfolding constant_of
  same_value e = by (is_made_of_constants c e) refl
    where
      none_there : (b : Bool) → b ≡ false → (o : Option ExpressionType) (v : Option Number) → typed_value o (if b then v else None) ≡ None
      none_there true e o v = never e
      none_there false e o v = typed_none o

      by : (b : Bool) → is_made_of_constants c e ≡ b → value_in d e ≡ value_in c e
      by true made = ap₂ typed_value (type_same e made) (same_constant e)
      by false made =
          none_there (is_made_of_constants d e) (made_same e ∙ made) (type_of d e) (without_trap (worked d e))
          ∙ sym (none_there (is_made_of_constants c e) made (type_of c e) (without_trap (worked c e)))
