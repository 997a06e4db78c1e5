-- A constant expression is worth what it is worked out to.
use Rattle.std.proofs.Common.{◌≡◌, ◌∙◌, ℕ, Bool, true, false, ◌&&◌, not, Option, Some, None, option_map, option_and_then, Result, Ok, Err}
use Rattle.std.proofs.Common.{if◌then◌else◌, refl, sym, ap, ap₂}
use Rattle.tsa_tree.specs.declared.expr.BinaryOp.{BinaryOp}
use Rattle.tsa_tree.specs.declared.expr.BinaryOp.TheVariants as op
use Rattle.tsa_tree.specs.declared.expr.UnaryOp.{UnaryOp}
use Rattle.tsa_tree.specs.declared.expr.UnaryOp.TheVariants as prefix
use Rattle.tsa_tree.specs.declared.kind.Kind.{Kind}
use Rattle.tsa_tree.specs.declared.kind.Kind.TheVariants as type
use Rattle.tsa_tree.specs.declared.kind.ThingType.{ThingType}
use Rattle.tsa_tree.specs.declared.meaning.Entry.{Entry}
use Rattle.tsa_tree.specs.declared.meaning.Meaning.{Meaning}
use Rattle.tsa_tree.specs.declared.meaning.Meaning.TheVariants as meant
use Rattle.tsa_tree.specs.declared.number.Number.{Number}
use Rattle.tsa_tree.specs.declared.number.Number.TheVariants as numeral
use Rattle.tsa_tree.specs.declared.number.Trap.{Trap}
use Rattle.tsa_tree.specs.expressions.Syntax.{Expression, number, null, named, call, unary, binary, field, index}
use Rattle.tsa_tree.specs.types.Arithmetic.{truth, is_nonzero, operate, operate_prefix}
use Rattle.tsa_tree.specs.types.Constants.{enumerator, is_known_enumerator, takes_integers, is_made_of_constants, named_value, go_on}
use Rattle.tsa_tree.specs.types.Constants.{worked_binary, worked}
use Rattle.tsa_tree.specs.types.Expressions.{number_type}
use Rattle.tsa_tree.specs.types.Operands.{integer_kind, pointer_kind, common, binary_type}
use Rattle.tsa_tree.specs.types.Scopes.{Scope, context_of, known_in}
use Rattle.tsa_place_model.specs.Calls.{Layout}
use Rattle.tsa_place_model.specs.Stores.{Store}
use Rattle.tsa_core.specs.Meanings.{is_place, is_cell, loaded, null_pointer, of_number, of_name, beside, operands, of_prefix, of_binary}
use Rattle.tsa_core.specs.Meanings.{meaning}
use Rattle.tsa_core.specs.Terms.{load, joined, Sense}
use Rattle.tsa_core.proofs.KindTests.{both_true}
use Rattle.tsa_path.specs.Laws.{Locals}
use Rattle.tsa_path.specs.Values.{number_in, made, of_truth, is_true, truth_in, prefix_value, both, on_values, join, worth}
use Rattle.tsa_base.proofs.Truths.{never}

number_back : (n : Number) → number_in (of_number n) ≡ Some n
number_back (numeral.Int z) = refl
number_back (numeral.Unsigned n) = refl

true_number : (n : Number) → is_true (of_number n) ≡ is_nonzero n
true_number (numeral.Int z) = refl
true_number (numeral.Unsigned n) = refl

-- operators on numbers make what arithmetic makes
prefix_made : (o : UnaryOp) (r : Result Number Trap) → takes_integers o ≡ true → option_and_then (prefix_value o) (made r) ≡ made (go_on r (operate_prefix o))
prefix_made o (Err trap) e = refl
prefix_made prefix.Minus (Ok n) e = ap (option_and_then (λ n. made (operate_prefix prefix.Minus n))) (number_back n)
prefix_made prefix.Not (Ok n) e = ap (λ b. Some (of_truth (not b))) (true_number n)
prefix_made prefix.Flip (Ok n) e = ap (option_and_then (λ n. made (operate_prefix prefix.Flip n))) (number_back n)
prefix_made prefix.Address (Ok n) e = never (sym e)
prefix_made prefix.Follow (Ok n) e = never (sym e)

values_made : (o : BinaryOp) (a b : Number) → on_values o (of_number a) (of_number b) ≡ made (operate o a b)
values_made o (numeral.Int a) (numeral.Int b) = refl
values_made o (numeral.Int a) (numeral.Unsigned b) = refl
values_made o (numeral.Unsigned a) (numeral.Int b) = refl
values_made o (numeral.Unsigned a) (numeral.Unsigned b) = refl

both_made : (o : BinaryOp) (r s : Result Number Trap) → both (on_values o) (made r) (made s) ≡ made (go_on r (λ a. go_on s (λ b. operate o a b)))
both_made o (Err trap) s = refl
both_made o (Ok a) (Err trap) = refl
both_made o (Ok a) (Ok b) = values_made o a b

truth_made : (r : Result Number Trap) → option_map truth_in (made r) ≡ made (go_on r (λ n. Ok (truth (is_nonzero n))))
truth_made (Err trap) = refl
truth_made (Ok n) = ap (λ b. Some (of_truth b)) (true_number n)

and_made : (b : Bool) (s : Result Number Trap)
    → (if b then option_map truth_in (made s) else Some (of_truth false)) ≡ made (if b then go_on s (λ n. Ok (truth (is_nonzero n))) else Ok (truth false))
and_made true s = truth_made s
and_made false s = refl

or_made : (b : Bool) (s : Result Number Trap)
    → (if b then Some (of_truth true) else option_map truth_in (made s)) ≡ made (if b then Ok (truth true) else go_on s (λ n. Ok (truth (is_nonzero n))))
or_made true s = refl
or_made false s = truth_made s

join_made : (o : BinaryOp) (r s : Result Number Trap) → join o (made r) (made s) ≡ made (worked_binary o r s)
join_made op.And (Err trap) s = refl
join_made op.And (Ok a) s = ap (λ b. if b then option_map truth_in (made s) else Some (of_truth false)) (true_number a) ∙ and_made (is_nonzero a) s
join_made op.Or (Err trap) s = refl
join_made op.Or (Ok a) s = ap (λ b. if b then Some (of_truth true) else option_map truth_in (made s)) (true_number a) ∙ or_made (is_nonzero a) s
join_made op.BitOr r s = both_made op.BitOr r s
join_made op.BitXor r s = both_made op.BitXor r s
join_made op.BitAnd r s = both_made op.BitAnd r s
join_made op.Equal r s = both_made op.Equal r s
join_made op.Unequal r s = both_made op.Unequal r s
join_made op.Less r s = both_made op.Less r s
join_made op.More r s = both_made op.More r s
join_made op.LessEqual r s = both_made op.LessEqual r s
join_made op.MoreEqual r s = both_made op.MoreEqual r s
join_made op.Plus r s = both_made op.Plus r s
join_made op.Minus r s = both_made op.Minus r s
join_made op.Times r s = both_made op.Times r s
join_made op.Divide r s = both_made op.Divide r s
join_made op.Remainder r s = both_made op.Remainder r s

-- what is no place is its own value
pub loaded_plain : (s : Sense) → is_place s.term ≡ false → loaded s ≡ s.term
loaded_plain s e = ap (λ b. if b && is_cell s.type.thing then load s.is_stable s.term else s.term) e

-- beside a number a number is its own value
beside_plain : (other : Kind) (s : Sense) → pointer_kind other ≡ false → beside other s ≡ loaded s
beside_plain other s e = ap (λ b. if b && integer_kind s.type.thing.kind then null_pointer else loaded s) e

common_plain : (a b : Kind) → pointer_kind b ≡ false → pointer_kind (common a b) ≡ false
common_plain type.Int b e = e
common_plain type.Unsigned b e = refl
common_plain type.Void b e = e
common_plain (type.Structure n) b e = e
common_plain (type.Pointer n c) b e = e
common_plain type.Null b e = e
common_plain type.Function b e = e

module _ (l r : Sense) (left : pointer_kind l.type.thing.kind ≡ false) (right : pointer_kind r.type.thing.kind ≡ false) where
  operands_plain : (o : BinaryOp) → operands o l r ≡ joined o (loaded l) (loaded r)
  operands_plain op.Equal = ap₂ (joined op.Equal) (beside_plain r.type.thing.kind l right) (beside_plain l.type.thing.kind r left)
  operands_plain op.Unequal = ap₂ (joined op.Unequal) (beside_plain r.type.thing.kind l right) (beside_plain l.type.thing.kind r left)
  operands_plain op.Or = refl
  operands_plain op.And = refl
  operands_plain op.BitOr = refl
  operands_plain op.BitXor = refl
  operands_plain op.BitAnd = refl
  operands_plain op.Less = refl
  operands_plain op.More = refl
  operands_plain op.LessEqual = refl
  operands_plain op.MoreEqual = refl
  operands_plain op.Plus = refl
  operands_plain op.Minus = refl
  operands_plain op.Times = refl
  operands_plain op.Divide = refl
  operands_plain op.Remainder = refl

  binary_plain : (o : BinaryOp) → pointer_kind (binary_type o l.type r.type).thing.kind ≡ false
  binary_plain op.Equal = refl
  binary_plain op.Unequal = refl
  binary_plain op.Or = refl
  binary_plain op.And = refl
  binary_plain op.BitOr = common_plain l.type.thing.kind r.type.thing.kind right
  binary_plain op.BitXor = common_plain l.type.thing.kind r.type.thing.kind right
  binary_plain op.BitAnd = common_plain l.type.thing.kind r.type.thing.kind right
  binary_plain op.Less = refl
  binary_plain op.More = refl
  binary_plain op.LessEqual = refl
  binary_plain op.MoreEqual = refl
  binary_plain op.Plus = common_plain l.type.thing.kind r.type.thing.kind right
  binary_plain op.Minus = common_plain l.type.thing.kind r.type.thing.kind right
  binary_plain op.Times = common_plain l.type.thing.kind r.type.thing.kind right
  binary_plain op.Divide = common_plain l.type.thing.kind r.type.thing.kind right
  binary_plain op.Remainder = common_plain l.type.thing.kind r.type.thing.kind right

module _ (l : Layout) (store : Store) (locals : Locals) where
  -- what stands for a value that a constant has
  pub record Folded (s : Sense) (r : Result Number Trap) : Type 0 where
    pub plain : is_place s.term ≡ false
    pub number : pointer_kind s.type.thing.kind ≡ false
    pub value : worth l store locals s.term ≡ made r

  loaded_value : (s : Sense) (r : Result Number Trap) → Folded s r → worth l store locals (loaded s) ≡ made r
  loaded_value s r f = ap (worth l store locals) (loaded_plain s f.plain) ∙ f.value

  number_folded : (n : ℕ) (u : Bool) → pointer_kind (number_type n u).thing.kind ≡ false
  number_folded n true = refl
  number_folded n false = refl

  entry_folded : (m : Meaning) (t : ThingType) → is_known_enumerator (enumerator (Some (record { meaning = m; thing = t }))) ≡ true
      → Folded (of_name (Some (record { meaning = m; thing = t }))) (Ok (named_value (enumerator (Some (record { meaning = m; thing = t })))))
  entry_folded (meant.Constant z) t e = record { plain = refl; number = refl; value = refl }
  entry_folded (meant.Global n) t e = never (sym e)
  entry_folded (meant.Local n) t e = never (sym e)
  entry_folded (meant.Function n) t e = never (sym e)
  entry_folded meant.Owned t e = never (sym e)
  entry_folded meant.TypeName t e = never (sym e)

  name_folded : (o : Option Entry) → is_known_enumerator (enumerator o) ≡ true → Folded (of_name o) (Ok (named_value (enumerator o)))
  name_folded None e = never (sym e)
  name_folded (Some x) e = entry_folded x.meaning x.thing e

  prefix_folded : (o : UnaryOp) (s : Sense) (r : Result Number Trap) → takes_integers o ≡ true → Folded s r → Folded (of_prefix o s) (go_on r (operate_prefix o))
  prefix_folded prefix.Minus s r e f = record {
    plain = refl;
    number = f.number;
    value = ap (option_and_then (prefix_value prefix.Minus)) (loaded_value s r f) ∙ prefix_made prefix.Minus r e;
  }
  prefix_folded prefix.Not s r e f = record {
    plain = refl;
    number = refl;
    value = ap (option_and_then (prefix_value prefix.Not)) (loaded_value s r f) ∙ prefix_made prefix.Not r e;
  }
  prefix_folded prefix.Flip s r e f = record {
    plain = refl;
    number = f.number;
    value = ap (option_and_then (prefix_value prefix.Flip)) (loaded_value s r f) ∙ prefix_made prefix.Flip r e;
  }
  prefix_folded prefix.Address s r e f = never (sym e)
  prefix_folded prefix.Follow s r e f = never (sym e)

  binary_folded : (o : BinaryOp) (s t : Sense) (q r : Result Number Trap) → Folded s q → Folded t r → Folded (of_binary o s t) (worked_binary o q r)
  binary_folded o s t q r f g = record {
    plain = ap is_place (operands_plain s t f.number g.number o);
    number = binary_plain s t f.number g.number o;
    value =
        ap (worth l store locals) (operands_plain s t f.number g.number o)
        ∙ ap₂ (join o) (loaded_value s q f) (loaded_value t r g)
        ∙ join_made o q r;
  }

  module _ (here : Scope) where
    pub folded : (e : Expression) → is_made_of_constants (context_of here) e ≡ true → Folded (meaning here e) (worked (context_of here) e)
    unfolding meaning
    folded (number n u span) e = record { plain = refl; number = number_folded n u; value = refl }
    folded (named name span) e = name_folded (known_in here name.text) e
    folded (unary o inner span) e =
        let both = both_true (takes_integers o) (is_made_of_constants (context_of here) inner) e in
        prefix_folded o (meaning here inner) (worked (context_of here) inner) both.0 (folded inner both.1)
    folded (binary o left right span) e =
        let both = both_true (is_made_of_constants (context_of here) left) (is_made_of_constants (context_of here) right) e in
        binary_folded o (meaning here left) (meaning here right) (worked (context_of here) left) (worked (context_of here) right) (folded left both.0) (folded right both.1)
    folded (null span) e = never (sym e)
    folded (call callee args span) e = never (sym e)
    folded (field base name arrow span) e = never (sym e)
    folded (index base at span) e = never (sym e)

  -- .. and so is what it reads
  pub folded_value : (here : Scope) (e : Expression) → is_made_of_constants (context_of here) e ≡ true → worth l store locals (loaded (meaning here e)) ≡ made (worked (context_of here) e)
  folded_value here e is = loaded_value (meaning here e) (worked (context_of here) e) (folded here e is)
