-- What an expression means has its type.
use Rattle.std.proofs.Common.{◌≡◌, ◌∙◌, ℕ, suc, Bool, true, false, List, [], ◌∷◌, Option, Some, None, option_map, option_and_then}
use Rattle.std.proofs.Common.{slice_get, if◌then◌else◌, refl, sym, ap, ap₂, subst}
use Rattle.tsa_tree.specs.declared.kind.ExpressionType.{ExpressionType}
use Rattle.tsa_tree.specs.declared.kind.ThingType.{ThingType}
use Rattle.tsa_tree.specs.declared.meaning.Entry.{Entry}
use Rattle.tsa_tree.specs.expressions.Syntax.{number, null, named, call, unary, binary, field, index}
use Rattle.tsa_tree.specs.types.Expressions.{type_of, types_of, unless, both, entry_type, result_type, member_type, owner, member_of}
use Rattle.tsa_tree.specs.types.Operands.{prefix_type, binary_type, element_type}
use Rattle.tsa_tree.specs.types.Scopes.{Scope, Members, found, context_of}
use Rattle.tsa_tree.specs.types.Lookups.{members_at, numbered}
use Rattle.tsa_core.specs.Laws.{TermsHaveTheirTypes}
use Rattle.tsa_core.specs.Meanings.{meaning, of_name, of_call, to_member, of_field}
use Rattle.tsa_core.specs.Terms.{Sense}

pub some_same : {A : Type 0} {x y : A} → Some x ≡ Some y → x ≡ y
some_same h = cc

-- An expression whose parts have the types of what they mean.
abbrev IsTyped : Option ExpressionType → ExpressionType → Type 0
IsTyped o m = (x : ExpressionType) → o ≡ Some x → m ≡ x

of_one : (f : ExpressionType → ExpressionType) (broken : Bool) (o : Option ExpressionType) (m t : ExpressionType) → IsTyped o m
    → unless broken (option_map f o) ≡ Some t → f m ≡ t
of_one f true o m t same is = cc
of_one f false None m t same is = cc
of_one f false (Some x) m t same is = ap f (same x refl) ∙ some_same is

of_two : (f : ExpressionType → ExpressionType → ExpressionType) (broken : Bool) (o p : Option ExpressionType) (m n t : ExpressionType) → IsTyped o m → IsTyped p n
    → unless broken (both f o p) ≡ Some t → f m n ≡ t
of_two f true o p m n t same other is = cc
of_two f false None None m n t same other is = cc
of_two f false None (Some y) m n t same other is = cc
of_two f false (Some x) None m n t same other is = cc
of_two f false (Some x) (Some y) m n t same other is = ap₂ f (same x refl) (other y refl) ∙ some_same is

name_typed : (o : Option Entry) (t : ExpressionType) → option_map entry_type o ≡ Some t → (of_name o).type ≡ t
name_typed None t is = cc
name_typed (Some e) t is = some_same is

call_typed : (broken : Bool) (o : Option Entry) (t : ExpressionType) → unless broken (option_map result_type o) ≡ Some t → (of_call o).type ≡ t
call_typed true o t is = cc
call_typed false None t is = cc
call_typed false (Some e) t is = some_same is

-- a member is found with its number where it is found
found_step : (b : Bool) (k : ℕ) (t : ThingType) (p : Option ThingType) (q : Option (ℕ × ThingType)) → p ≡ option_map (λ m. m.1) q
    → (if b then Some t else p) ≡ option_map (λ m. m.1) (if b then Some (k, t) else q)
found_step true k t p q same = refl
found_step false k t p q same = same

found_numbered : (name : List ℕ) (ms : Members) (k : ℕ) → found ms name ≡ option_map (λ m. m.1) (numbered ms name k)
found_numbered name [] k = refl
found_numbered name (m ∷ rest) k = found_step _ k m.1 _ _ (found_numbered name rest (suc k))

pub member_numbered : (here : Scope) (struct : ℕ) (name : List ℕ) → (context_of here).member struct name ≡ option_map (λ m. m.1) (numbered (members_at here struct) name 0)
member_numbered here struct name = by (slice_get here.structs struct) refl
  where
    by : (o : Option Members) → slice_get here.structs struct ≡ o → (context_of here).member struct name ≡ option_map (λ m. m.1) (numbered (members_at here struct) name 0)
    by None e = rw e refl
    by (Some ms) e = rw e (found_numbered name ms 0)

module _ (here : Scope) (arrow : Bool) (name : List ℕ) (s : Sense) (t : ExpressionType) where
  member_typed : (q : Option (ℕ × ThingType)) → option_map (member_type arrow s.type) (option_map (λ m. m.1) q) ≡ Some t → (to_member arrow s q).type ≡ t
  member_typed None is = cc
  member_typed (Some m) is = some_same is

  owner_typed : (o : Option ℕ) → option_map (member_type arrow s.type) (option_and_then (λ n. (context_of here).member n name) o) ≡ Some t
      → (to_member arrow s (option_and_then (λ n. numbered (members_at here n) name 0) o)).type ≡ t
  owner_typed None is = cc
  owner_typed (Some n) is = member_typed (numbered (members_at here n) name 0) (subst (λ q. option_map (member_type arrow s.type) q ≡ Some t) (member_numbered here n name) is)

  field_typed : (broken : Bool) (o : Option ExpressionType) → IsTyped o s.type
      → unless broken (option_and_then (λ x. option_map (member_type arrow x) (member_of (context_of here) arrow name x)) o) ≡ Some t
      → (of_field here arrow name s).type ≡ t
  field_typed true o same is = cc
  field_typed false None same is = cc
  field_typed false (Some x) same is =
      owner_typed (owner arrow s.type)
      (subst (λ y. option_map (member_type arrow y) (member_of (context_of here) arrow name y) ≡ Some t) (sym (same x refl)) is)

pub terms_have_types : TermsHaveTheirTypes
unfolding type_of types_of meaning
terms_have_types here (number n u span) t is = some_same is
terms_have_types here (null span) t is = some_same is
terms_have_types here (named name span) t is = name_typed _ t is
terms_have_types here (call callee args span) t is = call_typed _ _ t is
terms_have_types here (unary o inner span) t is =
    of_one (prefix_type o) _ (type_of (context_of here) inner) (meaning here inner).type t (terms_have_types here inner) is
terms_have_types here (binary o left right span) t is =
    of_two (binary_type o) _ (type_of (context_of here) left) (type_of (context_of here) right) (meaning here left).type (meaning here right).type t
    (terms_have_types here left) (terms_have_types here right) is
terms_have_types here (field base name arrow span) t is =
    field_typed here arrow name.text (meaning here base) t _ (type_of (context_of here) base) (terms_have_types here base) is
terms_have_types here (index base at span) t is =
    of_two (λ a i. element_type a) _ (type_of (context_of here) base) (type_of (context_of here) at) (meaning here base).type (meaning here at).type t
    (terms_have_types here base) (terms_have_types here at) is
