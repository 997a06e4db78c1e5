-- Each node's verdict from those of its parts: a part has a type exactly where no premise of it fails.
use Rattle.std.proofs.Common.{◌≡◌, ◌∙◌, Bool, true, false, not, ◌&&◌, ◌||◌, List, [], ◌∷◌, ◌++◌, Option, Some, None, is_some, is_none}
use Rattle.std.proofs.Common.{option_map, Err, refl, sym, ap, subst, if◌then◌else◌}
use Rattle.std.specs.Prelude.{option_and_then}
use Rattle.tsa_base.specs.declared.token.Span.{Span}
use Rattle.tsa_tree.specs.declared.expr.BinaryOp.{BinaryOp}
use Rattle.tsa_tree.specs.declared.expr.UnaryOp.{UnaryOp}
use Rattle.tsa_tree.specs.expressions.Syntax.{Identifier, Expression, Arguments, number, null, named, call, unary, binary, field, index}
use Rattle.tsa_tree.specs.expressions.Syntax.{none, more}
use Rattle.tsa_tree.specs.declared.premise.TypeCode.{TypeCode}
use Rattle.tsa_tree.specs.declared.premise.TypeCode.TheVariants.{TY1, TY3, TY4}
use Rattle.tsa_tree.specs.types.Expressions.{type_of, types_of, premises_of, premises_of_all, entry_type, result_type, unless, both}
use Rattle.tsa_tree.specs.types.Expressions.{all_typed, breaks_call, miscounts, known_and, owner, member_of, member_type}
use Rattle.tsa_tree.specs.types.Known.{Context}
use Rattle.tsa_tree.specs.declared.meaning.Entry.{Entry}
use Rattle.tsa_tree.specs.types.Operands.{lacks, breaks_prefix, breaks_binary, breaks_index, prefix_type, binary_type, element_type}
use Rattle.tsa_tree.specs.types.Premises.{Premise, premise, failure_of, or_else, first}
use Rattle.tsa_tree.specs.declared.premise.Failure.{Failure}
use Rattle.tsa_tree.specs.declared.kind.ThingType.{ThingType}
use Rattle.tsa_tree.specs.declared.kind.ExpressionType.{ExpressionType}
use Rattle.tsa_types_expressions.specs.Verdicts.{at, outcome, verdict_of, failure_of_all, found_type, name_verdict, one_verdict}
use Rattle.tsa_types_expressions.specs.Verdicts.{two_verdict, member_verdict, field_verdict, or_failed, call_verdict}

pub or_else_same : (a b d : Option Failure) → or_else a (or_else b d) ≡ or_else (or_else a b) d
or_else_same (Some x) b d = refl
or_else_same None b d = refl

pub first_append : (xs ys : List Premise) → first (xs ++ ys) ≡ or_else (first xs) (first ys)
unfolding first
first_append [] ys = refl
first_append (x ∷ xs) ys = ap (or_else (failure_of x)) (first_append xs ys) ∙ or_else_same (failure_of x) (first xs) (first ys)

-- a part has a type exactly where it has no failing premise
abbrev pub Alike : Option Failure → Option ExpressionType → Type 0
Alike x t = is_some t ≡ is_none x

-- the failure of a premise of its own
abbrev pub own : Bool → TypeCode → Span → Option Failure
own b code span = if b then Some (at code span) else None

one_gives : (s : Span) (b : Bool) (f : ExpressionType → ExpressionType) (x : Option Failure) (t : Option ExpressionType) → Alike x t
    → outcome (or_else (own b TY3 s) x) (unless b (option_map f t)) ≡ one_verdict s b f (outcome x t)
one_gives s true f x t h = refl
one_gives s false f (Some x) t h = refl
one_gives s false f None (Some t) h = refl
one_gives s false f None None h = cc

one_alike : (s : Span) (b : Bool) (f : ExpressionType → ExpressionType) (x : Option Failure) (t : Option ExpressionType) → Alike x t
    → Alike (or_else (own b TY3 s) x) (unless b (option_map f t))
one_alike s true f x t h = refl
one_alike s false f (Some x) (Some t) h = cc
one_alike s false f (Some x) None h = refl
one_alike s false f None (Some t) h = refl
one_alike s false f None None h = cc

two_gives : (s : Span) (b : Bool) (f : ExpressionType → ExpressionType → ExpressionType) (x y : Option Failure) (t u : Option ExpressionType)
    → Alike x t → Alike y u → outcome (or_else (own b TY3 s) (or_else x y)) (unless b (both f t u)) ≡ two_verdict s b f (outcome x t) (outcome y u)
two_gives s true f x y t u h k = refl
two_gives s false f (Some x) y t u h k = refl
two_gives s false f None y None u h k = cc
two_gives s false f None (Some y) (Some t) u h k = refl
two_gives s false f None None (Some t) (Some u) h k = refl
two_gives s false f None None (Some t) None h k = cc

two_alike : (s : Span) (b : Bool) (f : ExpressionType → ExpressionType → ExpressionType) (x y : Option Failure) (t u : Option ExpressionType)
    → Alike x t → Alike y u → Alike (or_else (own b TY3 s) (or_else x y)) (unless b (both f t u))
two_alike s true f x y t u h k = refl
two_alike s false f (Some x) y (Some t) u h k = cc
two_alike s false f (Some x) y None u h k = refl
two_alike s false f None y None u h k = cc
two_alike s false f None (Some y) (Some t) (Some u) h k = cc
two_alike s false f None (Some y) (Some t) None h k = refl
two_alike s false f None None (Some t) (Some u) h k = refl
two_alike s false f None None (Some t) None h k = cc

-- a member's name is asked for where its base has a struct
field_one : (s n : Span) (f : ThingType → ExpressionType) (b : Bool) (k : Option ThingType)
    → Alike (or_else (own (not b) TY3 s) (or_else (own (b && is_none k) TY1 n) None)) (unless (not b) (option_map f k))
field_one s n f false k = refl
field_one s n f true (Some m) = refl
field_one s n f true None = refl

field_two : (s n : Span) (f : ThingType → ExpressionType) (b : Bool) (k : Option ThingType)
    → outcome (or_else (own (not b) TY3 s) (or_else (own (b && is_none k) TY1 n) None)) (unless (not b) (option_map f k))
    ≡ (if b then member_verdict n f k else Err (at TY3 s))
field_two s n f false k = refl
field_two s n f true (Some m) = refl
field_two s n f true None = refl

field_alike : (s n : Span) (o : ExpressionType → Bool) (m : ExpressionType → Option ThingType) (f : ExpressionType → ThingType → ExpressionType) (x : Option Failure)
    (t : Option ExpressionType) → Alike x t
    → Alike (or_else (own (lacks o t) TY3 s) (or_else x (or_else (own (known_and (λ u. o u && is_none (m u)) t) TY1 n) None)))
    (unless (lacks o t) (option_and_then (λ u. option_map (f u) (m u)) t))
field_alike s n o m f (Some x) None h = refl
field_alike s n o m f None None h = cc
field_alike s n o m f (Some x) (Some t) h = cc
field_alike s n o m f None (Some t) h = field_one s n (f t) (o t) (m t)

field_gives : (s n : Span) (o : ExpressionType → Bool) (m : ExpressionType → Option ThingType) (f : ExpressionType → ThingType → ExpressionType) (x : Option Failure)
    (t : Option ExpressionType) → Alike x t
    → outcome (or_else (own (lacks o t) TY3 s) (or_else x (or_else (own (known_and (λ u. o u && is_none (m u)) t) TY1 n) None)))
    (unless (lacks o t) (option_and_then (λ u. option_map (f u) (m u)) t))
    ≡ field_verdict s n o m f (outcome x t)
field_gives s n o m f (Some x) None h = refl
field_gives s n o m f None None h = cc
field_gives s n o m f (Some x) (Some t) h = cc
field_gives s n o m f None (Some t) h = field_two s n (f t) (o t) (m t)

named_alike : (s : Span) (k : Option Entry) → Alike (or_else (own (is_none k) TY1 s) None) (option_map entry_type k)
named_alike s None = refl
named_alike s (Some e) = refl

named_gives : (s : Span) (k : Option Entry) → outcome (or_else (own (is_none k) TY1 s) None) (option_map entry_type k) ≡ name_verdict s k
named_gives s None = refl
named_gives s (Some e) = refl

-- the premises of a call's own
abbrev own_call : Span → Span → (Entry → Bool) → (Entry → Bool) → Option Entry → Option Failure → Option Failure
own_call n s p q k x = or_else (own (is_none k) TY1 n) (or_else (own (known_and p k) TY3 s) (or_else (own (known_and q k) TY4 s) x))

none_there : (b : Bool) → is_some (unless b None) ≡ false
none_there true = refl
none_there false = refl

call_alike : (n s : Span) (p q : Entry → Bool) (a : Bool) (x : Option Failure) (k : Option Entry) → a ≡ is_none x
    → Alike (own_call n s p q k x) (unless (known_and p k || (known_and q k || not a)) (option_map result_type k))
call_alike n s p q a x None h = none_there (false || (false || not a))
call_alike n s p q a x (Some e) h = known (p e) (q e) a x h
  where
    known : (b d a : Bool) (x : Option Failure) → a ≡ is_none x
        → Alike (or_else (own b TY3 s) (or_else (own d TY4 s) x)) (unless (b || (d || not a)) (Some (result_type e)))
    known true d a x h = refl
    known false true a x h = refl
    known false false true None h = refl
    known false false true (Some x) h = cc
    known false false false None h = cc
    known false false false (Some x) h = refl

call_gives : (n s : Span) (p q : Entry → Bool) (a : Bool) (x : Option Failure) (k : Option Entry) → a ≡ is_none x
    → outcome (own_call n s p q k x) (unless (known_and p k || (known_and q k || not a)) (option_map result_type k)) ≡ call_verdict n s p q x k
call_gives n s p q a x None h = refl
call_gives n s p q a x (Some e) h = known (p e) (q e) a x h
  where
    known : (b d a : Bool) (x : Option Failure) → a ≡ is_none x
        → outcome (or_else (own b TY3 s) (or_else (own d TY4 s) x)) (unless (b || (d || not a)) (Some (result_type e)))
        ≡ (if b then Err (at TY3 s) else (if d then Err (at TY4 s) else or_failed x (result_type e)))
    known true d a x h = refl
    known false true a x h = refl
    known false false true None h = refl
    known false false true (Some x) h = cc
    known false false false None h = cc
    known false false false (Some x) h = refl

all_or : (t : Option ExpressionType) (ts : List (Option ExpressionType)) (x y : Option Failure) → Alike x t → all_typed ts ≡ is_none y
    → all_typed (t ∷ ts) ≡ is_none (or_else x y)
all_or None ts (Some x) y h k = refl
all_or None ts None y h k = cc
all_or (Some t) ts (Some x) y h k = cc
all_or (Some t) ts None y h k = k

module _ (c : Context) where
  own_first : (b : Bool) (code : TypeCode) (s : Span) (rest : List Premise) → first (premise code s b ∷ rest) ≡ or_else (own b code s) (first rest)
  unfolding first
  own_first b code s rest = refl

  two_first : (b : Bool) (s : Span) (xs ys : List Premise) → first (premise TY3 s b ∷ xs ++ ys) ≡ or_else (own b TY3 s) (or_else (first xs) (first ys))
  two_first b s xs ys = own_first b TY3 s (xs ++ ys) ∙ ap (or_else (own b TY3 s)) (first_append xs ys)

  last_first : (d : Bool) (n : Span) → first (premise TY1 n d ∷ []) ≡ or_else (own d TY1 n) None
  unfolding first
  last_first d n = refl

  field_first : (b d : Bool) (s n : Span) (xs : List Premise) → first (premise TY3 s b ∷ xs ++ premise TY1 n d ∷ [])
      ≡ or_else (own b TY3 s) (or_else (first xs) (or_else (own d TY1 n) None))
  field_first b d s n xs =
      own_first b TY3 s (xs ++ premise TY1 n d ∷ [])
      ∙ ap (or_else (own b TY3 s)) (first_append xs (premise TY1 n d ∷ []) ∙ ap (or_else (first xs)) (last_first d n))

  mutual
    unfolding type_of types_of premises_of premises_of_all first

    pub alike : (e : Expression) → Alike (first (premises_of c e)) (type_of c e)
    alike (number n u span) = refl
    alike (null span) = refl
    alike (named name span) = named_alike name.span (c.known name.text)
    alike (call callee args span) =
        call_alike callee.span span (breaks_call c (types_of c args)) (miscounts c (types_of c args)) (all_typed (types_of c args)) (first (premises_of_all c args))
        (c.known callee.text) (all_alike args)
    alike (unary op inner span) = one_alike span (breaks_prefix op (type_of c inner)) (prefix_type op) (first (premises_of c inner)) (type_of c inner) (alike inner)
    alike (binary op left right span) =
        subst (λ x. Alike x (type_of c (binary op left right span)))
        (sym (two_first (breaks_binary op (type_of c left) (type_of c right)) span (premises_of c left) (premises_of c right)))
        (two_alike span (breaks_binary op (type_of c left) (type_of c right)) (binary_type op) (first (premises_of c left)) (first (premises_of c right)) (type_of c left)
        (type_of c right) (alike left) (alike right))
    alike (field base name arrow span) =
        subst (λ x. Alike x (type_of c (field base name arrow span)))
        (sym (field_first (lacks (λ t. is_some (owner arrow t)) (type_of c base))
        (known_and (λ t. is_some (owner arrow t) && is_none (member_of c arrow name.text t)) (type_of c base)) span name.span (premises_of c base)))
        (field_alike span name.span (λ t. is_some (owner arrow t)) (member_of c arrow name.text) (member_type arrow) (first (premises_of c base)) (type_of c base) (alike base))
    alike (index base at span) =
        subst (λ x. Alike x (type_of c (index base at span)))
        (sym (two_first (breaks_index (type_of c base) (type_of c at)) span (premises_of c base) (premises_of c at)))
        (two_alike span (breaks_index (type_of c base) (type_of c at)) (λ a i. element_type a) (first (premises_of c base)) (first (premises_of c at)) (type_of c base)
        (type_of c at) (alike base) (alike at))

    pub all_alike : (args : Arguments) → all_typed (types_of c args) ≡ is_none (first (premises_of_all c args))
    all_alike none = refl
    all_alike (more head rest) =
        all_or (type_of c head) (types_of c rest) (first (premises_of c head)) (first (premises_of_all c rest)) (alike head) (all_alike rest)
        ∙ ap is_none (sym (first_append (premises_of c head) (premises_of_all c rest)))

found_of : (x : Option Failure) (t : Option ExpressionType) → Alike x t → t ≡ found_type (outcome x t)
found_of (Some x) (Some t) h = cc
found_of (Some x) None h = refl
found_of None (Some t) h = refl
found_of None None h = cc

-- what each node comes to
module _ (c : Context) where
  pub found_is : (e : Expression) → type_of c e ≡ found_type (verdict_of c e)
  unfolding verdict_of
  found_is e = found_of (first (premises_of c e)) (type_of c e) (alike c e)

  pub named_step : (name : Identifier) (span : Span) → verdict_of c (named name span) ≡ name_verdict name.span (c.known name.text)
  unfolding verdict_of type_of premises_of first
  named_step name span = named_gives name.span (c.known name.text)

  pub unary_step : (op : UnaryOp) (inner : Expression) (span : Span)
      → verdict_of c (unary op inner span) ≡ one_verdict span (breaks_prefix op (found_type (verdict_of c inner))) (prefix_type op) (verdict_of c inner)
  unfolding verdict_of type_of premises_of first
  unary_step op inner span =
      one_gives span (breaks_prefix op (type_of c inner)) (prefix_type op) (first (premises_of c inner)) (type_of c inner) (alike c inner)
      ∙ ap (λ t. one_verdict span (breaks_prefix op t) (prefix_type op) (verdict_of c inner)) (found_is inner)

  pub binary_step : (op : BinaryOp) (left right : Expression) (span : Span)
      → verdict_of c (binary op left right span)
      ≡ two_verdict span (breaks_binary op (found_type (verdict_of c left)) (found_type (verdict_of c right))) (binary_type op) (verdict_of c left) (verdict_of c right)
  unfolding verdict_of type_of premises_of
  binary_step op left right span =
      ap (λ x. outcome x (type_of c (binary op left right span)))
      (two_first c (breaks_binary op (type_of c left) (type_of c right)) span (premises_of c left) (premises_of c right))
      ∙ two_gives span (breaks_binary op (type_of c left) (type_of c right)) (binary_type op) (first (premises_of c left)) (first (premises_of c right)) (type_of c left)
      (type_of c right) (alike c left) (alike c right)
      ∙ ap (λ t. two_verdict span (breaks_binary op t (type_of c right)) (binary_type op) (verdict_of c left) (verdict_of c right)) (found_is left)
      ∙ ap (λ t. two_verdict span (breaks_binary op (found_type (verdict_of c left)) t) (binary_type op) (verdict_of c left) (verdict_of c right)) (found_is right)

  pub index_step : (base at : Expression) (span : Span)
      → verdict_of c (index base at span)
      ≡ two_verdict span (breaks_index (found_type (verdict_of c base)) (found_type (verdict_of c at))) (λ a i. element_type a) (verdict_of c base) (verdict_of c at)
  unfolding verdict_of type_of premises_of
  index_step base at span =
      ap (λ x. outcome x (type_of c (index base at span)))
      (two_first c (breaks_index (type_of c base) (type_of c at)) span (premises_of c base) (premises_of c at))
      ∙ two_gives span (breaks_index (type_of c base) (type_of c at)) (λ a i. element_type a) (first (premises_of c base)) (first (premises_of c at)) (type_of c base)
      (type_of c at) (alike c base) (alike c at)
      ∙ ap (λ t. two_verdict span (breaks_index t (type_of c at)) (λ a i. element_type a) (verdict_of c base) (verdict_of c at)) (found_is base)
      ∙ ap (λ t. two_verdict span (breaks_index (found_type (verdict_of c base)) t) (λ a i. element_type a) (verdict_of c base) (verdict_of c at)) (found_is at)

  pub field_step : (base : Expression) (name : Identifier) (arrow : Bool) (span : Span)
      → verdict_of c (field base name arrow span)
      ≡ field_verdict span name.span (λ t. is_some (owner arrow t)) (member_of c arrow name.text) (member_type arrow) (verdict_of c base)
  unfolding verdict_of type_of premises_of
  field_step base name arrow span =
      ap (λ x. outcome x (type_of c (field base name arrow span)))
      (field_first c (lacks (λ t. is_some (owner arrow t)) (type_of c base))
      (known_and (λ t. is_some (owner arrow t) && is_none (member_of c arrow name.text t)) (type_of c base)) span name.span (premises_of c base))
      ∙ field_gives span name.span (λ t. is_some (owner arrow t)) (member_of c arrow name.text) (member_type arrow) (first (premises_of c base)) (type_of c base) (alike c base)

  pub call_step : (callee : Identifier) (args : Arguments) (span : Span)
      → verdict_of c (call callee args span)
      ≡ call_verdict callee.span span (breaks_call c (types_of c args)) (miscounts c (types_of c args)) (failure_of_all c args) (c.known callee.text)
  unfolding verdict_of type_of premises_of first failure_of_all
  call_step callee args span =
      call_gives callee.span span (breaks_call c (types_of c args)) (miscounts c (types_of c args)) (all_typed (types_of c args)) (first (premises_of_all c args))
      (c.known callee.text) (all_alike c args)
