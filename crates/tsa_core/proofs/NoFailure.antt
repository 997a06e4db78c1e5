-- Where no premise fails, each holds, and an expression has a type.
use Rattle.std.proofs.Common.{◌≡◌, ◌∙◌, ℕ, Bool, true, false, ◌&&◌, ◌||◌, not, List, [], ◌∷◌, ◌++◌, Option, Some, None, is_some, is_none}
use Rattle.std.proofs.Common.{option_map, option_and_then, refl, sym, ap, ap₂}
use Rattle.tsa_base.specs.declared.token.Span.{Span}
use Rattle.tsa_base.proofs.Truths.{never}
use Rattle.tsa_tree.specs.declared.kind.ExpressionType.{ExpressionType}
use Rattle.tsa_tree.specs.declared.meaning.Entry.{Entry}
use Rattle.tsa_tree.specs.declared.premise.Failure.{Failure}
use Rattle.tsa_tree.specs.declared.premise.TypeCode.{TypeCode}
use Rattle.tsa_tree.specs.declared.premise.TypeCode.TheVariants.{TY1, TY3, TY4, TY9}
use Rattle.tsa_tree.specs.expressions.Syntax.{Expression, Arguments, number, null, named, call, unary, binary, field, index, none, more}
use Rattle.tsa_tree.specs.declared.number.Number.{Number}
use Rattle.tsa_tree.specs.points.Syntax.{expression_span}
use Rattle.tsa_tree.specs.types.Constants.{constant_of}
use Rattle.tsa_tree.specs.types.DeclaredTypes.{constant_premises}
use Rattle.tsa_tree.specs.types.Expressions.{type_of, types_of, premises_of, premises_of_all, known_and, breaks_call, miscounts, all_typed}
use Rattle.tsa_tree.specs.types.Expressions.{unless, both, entry_type, result_type, member_type, member_of, number_type, owner}
use Rattle.tsa_tree.specs.types.Known.{Context}
use Rattle.tsa_tree.specs.types.Operands.{lacks, breaks_prefix, breaks_binary, breaks_index, prefix_type, binary_type, element_type}
use Rattle.tsa_tree.specs.types.Premises.{Premise, premise, or_else, failure_of, first}
use Rattle.tsa_tree.specs.declared.kind.Kind.TheVariants as type
use Rattle.tsa_tree.specs.types.Types.{value}
use Rattle.tsa_tree.proofs.types.NodeLists.{first-append}
use Rattle.tsa_core.proofs.KindTests.{not_false}

neither_fails : (a b : Option Failure) → or_else a b ≡ None → (a ≡ None) × (b ≡ None)
neither_fails (Some f) b h = absurd cc
neither_fails None b h = (refl, h)

pub none_of_both : (xs ys : List Premise) → first (xs ++ ys) ≡ None → (first xs ≡ None) × (first ys ≡ None)
none_of_both xs ys h = neither_fails (first xs) (first ys) (sym (first-append xs ys) ∙ h)

holds_by : (code : TypeCode) (span : Span) (fails : Bool) → failure_of (premise code span fails) ≡ None → fails ≡ false
holds_by code span true h = absurd cc
holds_by code span false h = refl

pub none_of_first : (code : TypeCode) (span : Span) (fails : Bool) (rest : List Premise) → first (premise code span fails ∷ rest) ≡ None → (fails ≡ false) × (first rest ≡ None)
unfolding first
none_of_first code span fails rest h = let x = neither_fails (failure_of (premise code span fails)) (first rest) h in (holds_by code span fails x.0, x.1)

pub known_some : {A : Type 0} (o : Option A) → is_none o ≡ false → (x : A) × (o ≡ Some x)
known_some None e = never e
known_some (Some x) e = (x, refl)

-- what has a type, by what has one
abbrev pub HasType : Option ExpressionType → Type 0
HasType o = (t : ExpressionType) × (o ≡ Some t)

typed_one : (f : ExpressionType → ExpressionType) (b : Bool) (o : Option ExpressionType) → b ≡ false → HasType o → HasType (unless b (option_map f o))
typed_one f b o e h = (f h.0, ap₂ (λ c p. unless c (option_map f p)) e h.1)

typed_two : (f : ExpressionType → ExpressionType → ExpressionType) (b : Bool) (o p : Option ExpressionType) → b ≡ false → HasType o → HasType p → HasType (unless b (both f o p))
typed_two f b o p e h g = (f h.0 g.0, ap (λ c. unless c (both f o p)) e ∙ ap₂ (both f) h.1 g.1)

typed_call : (a b c : Bool) (o : Option Entry) → is_none o ≡ false → a ≡ false → b ≡ false → c ≡ true → HasType (unless (a || (b || not c)) (option_map result_type o))
typed_call false false true (Some e) known x y z = (result_type e, refl)
typed_call false false true None known x y z = never known
typed_call true b c o known x y z = never x
typed_call false true c o known x y z = never y
typed_call false false false o known x y z = never (sym z)

missing : {A : Type 0} (s : Bool) (o : Option A) → (s && is_none o) ≡ false → s ≡ true → (x : A) × (o ≡ Some x)
missing true o e f = known_some o e
missing false o e f = never (sym f)

module _ (c : Context) (arrow : Bool) (name : List ℕ) where
  typed_member : (o : Option ExpressionType) → HasType o → lacks (λ t. is_some (owner arrow t)) o ≡ false
      → known_and (λ t. is_some (owner arrow t) && is_none (member_of c arrow name t)) o ≡ false
      → HasType (unless (lacks (λ t. is_some (owner arrow t)) o) (option_and_then (λ t. option_map (member_type arrow t) (member_of c arrow name t)) o))
  typed_member None h e f = let is = h.1 in absurd cc
  typed_member (Some t) h e f =
      let m = missing (is_some (owner arrow t)) (member_of c arrow name t) f (not_false (is_some (owner arrow t)) e) in
      (member_type arrow t m.0, ap (λ b. unless b (option_map (member_type arrow t) (member_of c arrow name t))) e ∙ ap (option_map (member_type arrow t)) m.1)

pub constant_told : (c : Context) (passes : Option Number → Bool) (e : Expression) → first (constant_premises c passes e) ≡ None → first (premises_of c e) ≡ None
constant_told c passes e h =
    (none_of_both (premises_of c e) (premise TY9 (expression_span e) (known_and (λ t. not (passes (constant_of c e))) (type_of c e)) ∷ []) h).0

-- what none of whose premises fails has a type
mutual
  unfolding type_of types_of premises_of premises_of_all first

  pub keeps_typed : (c : Context) (e : Expression) → first (premises_of c e) ≡ None → HasType (type_of c e)
  keeps_typed c (number n u span) h = (number_type n u, refl)
  keeps_typed c (null span) h = (value type.Null, refl)
  keeps_typed c (named name span) h =
      let k = known_some (c.known name.text) (none_of_first TY1 name.span (is_none (c.known name.text)) [] h).0 in
      (entry_type k.0, ap (option_map entry_type) k.1)
  keeps_typed c (call callee args span) h =
      let o = c.known callee.text in
      let breaks = premise TY3 span (known_and (breaks_call c (types_of c args)) o) in
      let counts = premise TY4 span (known_and (miscounts c (types_of c args)) o) in
      let a = none_of_first TY1 callee.span (is_none o) (breaks ∷ counts ∷ premises_of_all c args) h in
      let b = none_of_first TY3 span (known_and (breaks_call c (types_of c args)) o) (counts ∷ premises_of_all c args) a.1 in
      let d = none_of_first TY4 span (known_and (miscounts c (types_of c args)) o) (premises_of_all c args) b.1 in
      typed_call (known_and (breaks_call c (types_of c args)) o) (known_and (miscounts c (types_of c args)) o) (all_typed (types_of c args)) o a.0 b.0 d.0
      (all_keep_typed c args d.1)
  keeps_typed c (unary op inner span) h =
      let a = none_of_first TY3 span (breaks_prefix op (type_of c inner)) (premises_of c inner) h in
      typed_one (prefix_type op) (breaks_prefix op (type_of c inner)) (type_of c inner) a.0 (keeps_typed c inner a.1)
  keeps_typed c (binary op left right span) h =
      let a = none_of_first TY3 span (breaks_binary op (type_of c left) (type_of c right)) (premises_of c left ++ premises_of c right) h in
      let b = none_of_both (premises_of c left) (premises_of c right) a.1 in
      typed_two (binary_type op) (breaks_binary op (type_of c left) (type_of c right)) (type_of c left) (type_of c right) a.0 (keeps_typed c left b.0) (keeps_typed c right b.1)
  keeps_typed c (field base name arrow span) h =
      let o = type_of c base in
      let f = known_and (λ t. is_some (owner arrow t) && is_none (member_of c arrow name.text t)) o in
      let a = none_of_first TY3 span (lacks (λ t. is_some (owner arrow t)) o) (premises_of c base ++ premise TY1 name.span f ∷ []) h in
      let b = none_of_both (premises_of c base) (premise TY1 name.span f ∷ []) a.1 in
      typed_member c arrow name.text o (keeps_typed c base b.0) a.0 (none_of_first TY1 name.span f [] b.1).0
  keeps_typed c (index base at span) h =
      let a = none_of_first TY3 span (breaks_index (type_of c base) (type_of c at)) (premises_of c base ++ premises_of c at) h in
      let b = none_of_both (premises_of c base) (premises_of c at) a.1 in
      typed_two (λ x i. element_type x) (breaks_index (type_of c base) (type_of c at)) (type_of c base) (type_of c at) a.0 (keeps_typed c base b.0) (keeps_typed c at b.1)

  pub all_keep_typed : (c : Context) (args : Arguments) → first (premises_of_all c args) ≡ None → all_typed (types_of c args) ≡ true
  all_keep_typed c none h = refl
  all_keep_typed c (more e rest) h =
      let b = none_of_both (premises_of c e) (premises_of_all c rest) h in
      let t = keeps_typed c e b.0 in
      ap (λ o. all_typed (o ∷ types_of c rest)) t.1 ∙ all_keep_typed c rest b.1
