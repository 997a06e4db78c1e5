-- What types and the profile ask of the attributes of a function with a body: they name paths, claim each once, and say what they do.
use Rattle.std.proofs.Common.{◌≡◌, ◌∙◌, suc, ◌≤◌, arith, Bool, true, false, not, ◌&&◌, ◌||◌, List, [], ◌∷◌, ◌++◌, All, filter, length}
use Rattle.std.proofs.Common.{Option, Some, None, IsSome, is_none, if◌then◌else◌, refl, sym, ap, subst}
use Rattle.std.proofs.lemmas.List.Elements.{All-append, All-cons, All-nil}
use Rattle.tsa_tree.specs.attributes.Syntax.{Attribute}
use Rattle.tsa_tree.specs.declared.attr.AttrKind.{AttrKind}
use Rattle.tsa_tree.specs.declared.attr.AttrKind.TheVariants as attr
use Rattle.tsa_tree.specs.declared.kind.Kind.{Kind}
use Rattle.tsa_tree.specs.declared.premise.Bearer.TheVariants as on
use Rattle.tsa_tree.specs.declared.premise.TypeCode.TheVariants.{TY6}
use Rattle.tsa_tree.specs.expressions.Syntax.{Arguments, Expression, none, more}
use Rattle.tsa_tree.specs.points.Syntax.{expression_span}
use Rattle.tsa_tree.specs.types.Attributes as types
use Rattle.tsa_tree.specs.types.Attributes.{attributes_premises, lock_premises, stands_on}
use Rattle.tsa_tree.specs.types.Premises as typing
use Rattle.tsa_tree.specs.types.Runnable.{is_generic}
use Rattle.tsa_place_model.specs.Ways.{Way}
use Rattle.tsa_core.specs.Programs.{Attr, attr_args, attrs_of}
use Rattle.tsa_core.proofs.KindTests.{both_true, neither, not_false, or_left}
use Rattle.tsa_core.proofs.NoFailure as typed
use Rattle.tsa_path.specs.PathTables.{is_known}
use Rattle.tsa_path.specs.Sameness.{same_way}
use Rattle.tsa_path.proofs.PathsApart.{way_equal}
use Rattle.tsa_rules.specs.Attributes.{claim_count, claims, claims_path, is_path}
use Rattle.tsa_profile_accesses.specs.Locks.{is_try}
use Rattle.tsa_profile_accesses.specs.Premises.{first, premise}
use Rattle.tsa_profile_accesses.specs.declared.premise.ProfileCode.TheVariants.{PF1, PF2, PF7, PF9}
use Rattle.tsa_profile_accesses.specs.declared.standing.Standing.TheVariants.{Inside}
use Rattle.tsa_profile_declarations.specs.Declarations.{argument, attribute_arguments, attribute_premises, is_among, is_call, is_int}
use Rattle.tsa_profile_declarations.specs.Declarations.{is_named_once, is_order, misfits, way, ways_behind, with_way}
use Rattle.tsa_profile_guards.proofs.NoneFails.{none_of_both, none_of_first}
use Rattle.tsa_profile_accesses.specs.Expressions.{View, own, parts}
use Rattle.tsa_sound.specs.BodyFacts.{SaysItsMode}
use Rattle.tsa_base.proofs.Truths.{never, or_right}

-- on functions stands no order of locks
no_order : (kind : AttrKind) → stands_on kind on.Function ≡ true → is_order kind ≡ false
no_order attr.AcquiredBefore h = never (sym h)
no_order attr.AcquiredAfter h = never (sym h)
no_order attr.Capability h = refl
no_order attr.GuardedBy h = refl
no_order attr.Requires h = refl
no_order attr.RequiresShared h = refl
no_order attr.Acquire h = refl
no_order attr.AcquireShared h = refl
no_order attr.Release h = refl
no_order attr.ReleaseShared h = refl
no_order attr.ReleaseGeneric h = refl
no_order attr.TryAcquire h = refl
no_order attr.TryAcquireShared h = refl
no_order attr.Excludes h = refl

says_mode : (kind : AttrKind) → is_generic kind ≡ false → SaysItsMode kind
says_mode attr.ReleaseGeneric h = never h
says_mode attr.AcquiredBefore h = tt
says_mode attr.AcquiredAfter h = tt
says_mode attr.Capability h = tt
says_mode attr.GuardedBy h = tt
says_mode attr.Requires h = tt
says_mode attr.RequiresShared h = tt
says_mode attr.Acquire h = tt
says_mode attr.AcquireShared h = tt
says_mode attr.Release h = tt
says_mode attr.ReleaseShared h = tt
says_mode attr.TryAcquire h = tt
says_mode attr.TryAcquireShared h = tt
says_mode attr.Excludes h = tt

-- what claims is named once
once_same : (kind : AttrKind) → claims kind ≡ is_named_once kind
once_same attr.ReleaseGeneric = refl
once_same attr.AcquiredBefore = refl
once_same attr.AcquiredAfter = refl
once_same attr.Capability = refl
once_same attr.GuardedBy = refl
once_same attr.Requires = refl
once_same attr.RequiresShared = refl
once_same attr.Acquire = refl
once_same attr.AcquireShared = refl
once_same attr.Release = refl
once_same attr.ReleaseShared = refl
once_same attr.TryAcquire = refl
once_same attr.TryAcquireShared = refl
once_same attr.Excludes = refl

some_path : (b : Bool) (w : Option Way) → b ≡ false → (not b && is_none w) ≡ false → IsSome w
some_path false None e h = never h
some_path false (Some w) e h = refl
some_path true w e h = never e

-- Of one attribute: it names a path and says its mode, and where it tries, the function gives an `int`.
pub record IsAsked (result : Kind) (a : Attr) : Type 0 where
  pub named : IsSome a.path
  pub mode : SaysItsMode a.kind
  pub answer : is_try a.kind ≡ true → is_int result ≡ true

-- of a lock that is named
pub record LockAsked (v : View) (kind : AttrKind) (ways : List Way) (e : Expression) : Type 0 where
  pub path : (not (is_order kind) && is_none (way v e)) ≡ false
  pub fresh : (is_named_once kind && is_among ways (way v e)) ≡ false

lock_asked : (v : View) (kind : AttrKind) (ways : List Way) (e : Expression) → first (argument v kind ways e) ≡ None → LockAsked v kind ways e
lock_asked v kind ways e h =
    let again = premise PF9 (expression_span e) (is_named_once kind && is_among ways (way v e)) in
    let behind = own v Inside false e ++ again ∷ parts v Inside e in
    let x = none_of_first PF1 (expression_span e) (is_call e) (premise PF2 (expression_span e) (not (is_order kind) && is_none (way v e)) ∷ behind) h in
    let y = none_of_first PF2 (expression_span e) (not (is_order kind) && is_none (way v e)) behind x.1 in
    let z = none_of_both (own v Inside false e) (again ∷ parts v Inside e) y.1 in
    record { path = y.0; fresh = (none_of_first PF9 (expression_span e) (is_named_once kind && is_among ways (way v e)) (parts v Inside e) z.1).0 }

-- EACH OF THEM

module _ (v : View) (result : Kind) where
  args_asked : (a : Attribute) (ways : List Way) (args : Arguments) → is_order a.kind ≡ false → SaysItsMode a.kind → (is_try a.kind ≡ true → is_int result ≡ true)
      → first (attribute_arguments v a.kind ways args) ≡ None → All (IsAsked result) (attr_args v.stable v.here a args)
  unfolding attribute_arguments attr_args
  args_asked a ways none order mode int h = All-nil (IsAsked result)
  args_asked a ways (more e rest) order mode int h =
      let there = with_way (is_named_once a.kind) ways (way v e) in
      let x = none_of_both (argument v a.kind ways e) (attribute_arguments v a.kind there rest) h in
      All-cons (IsAsked result) _ (attr_args v.stable v.here a rest)
      (record { named = some_path (is_order a.kind) (way v e) order (lock_asked v a.kind ways e x.0).path; mode = mode; answer = int })
      (args_asked a there rest order mode int x.1)

  gives_int : (t i o : Bool) → (t && (not i || o)) ≡ false → t ≡ true → i ≡ true
  gives_int true true o h e = refl
  gives_int true false o h e = never h
  gives_int false i o h e = never (sym e)

  pub each_asked : (before : List Attribute) (ways : List Way) (attrs : List Attribute) → typing.first (attributes_premises v.here on.Function attrs) ≡ None
      → first (attribute_premises v true result before ways attrs) ≡ None → All (IsAsked result) (attrs_of v.stable v.here attrs)
  unfolding attribute_premises attributes_premises attrs_of
  each_asked before ways [] typed h = All-nil (IsAsked result)
  each_asked before ways (a ∷ rest) kinds h =
      let behind = attribute_premises v true result (before ++ a ∷ []) (ways_behind v a.kind ways a.args) rest in
      let x = none_of_first PF7 a.span (misfits result before a) (attribute_arguments v a.kind ways a.args ++ behind) h in
      let y = none_of_both (attribute_arguments v a.kind ways a.args) behind x.1 in
      let s = typed.none_of_both (types.attribute_premises v.here on.Function a) (attributes_premises v.here on.Function rest) kinds in
      let t = typed.none_of_first TY6 a.span (not (stands_on a.kind on.Function)) (lock_premises v.here a.args) s.0 in
      let m = neither (is_generic a.kind) _ x.0 in
      All-append (IsAsked result) (attr_args v.stable v.here a a.args) (attrs_of v.stable v.here rest)
      (args_asked a ways a.args (no_order a.kind (not_false (stands_on a.kind on.Function) t.0)) (says_mode a.kind m.0)
      (gives_int (is_try a.kind) (is_int result) _ m.1) y.0)
      (each_asked (before ++ a ∷ []) (ways_behind v a.kind ways a.args) rest s.1 y.1)

-- HOW OFTEN A PATH IS CLAIMED

module _ (c : Way) where
  -- beside paths that are claimed before
  record ClaimsCounted (ways : List Way) (attrs : List Attr) : Type 0 where
    none_again : is_known ways c ≡ true → claim_count attrs c ≡ 0
    one : claim_count attrs c ≤ 1

  known_more : (ways others : List Way) → is_known ways c ≡ true → is_known (ways ++ others) c ≡ true
  known_more [] others h = never (sym h)
  known_more (w ∷ ways) others h = by (same_way c w) h (λ g. known_more ways others g)
    where
      by : (b : Bool) → (b || is_known ways c) ≡ true → (is_known ways c ≡ true → is_known (ways ++ others) c ≡ true) → (b || is_known (ways ++ others) c) ≡ true
      by true g deeper = refl
      by false g deeper = deeper g

  known_last : (ways : List Way) → same_way c c ≡ true → is_known (ways ++ c ∷ []) c ≡ true
  known_last [] h = or_left (same_way c c) false h
  known_last (w ∷ ways) h = or_right (same_way c w) (is_known (ways ++ c ∷ []) c) (known_last ways h)

  with_more : (once : Bool) (ways : List Way) (o : Option Way) → is_known ways c ≡ true → is_known (with_way once ways o) c ≡ true
  with_more true ways (Some w) h = known_more ways (w ∷ []) h
  with_more true ways None h = h
  with_more false ways o h = h

  claim_first : (x : Attr) (attrs : List Attr) (b : Bool) → claims_path c x ≡ b
      → claim_count (x ∷ attrs) c ≡ (if b then suc (claim_count attrs c) else claim_count attrs c)
  claim_first x attrs true e = ap (λ b. length (if b then x ∷ filter (claims_path c) attrs else filter (claims_path c) attrs)) e
  claim_first x attrs false e = ap (λ b. length (if b then x ∷ filter (claims_path c) attrs else filter (claims_path c) attrs)) e

  module _ (v : View) where
    one_counted : (a : Attribute) (ways : List Way) (o : Option Way) (attrs : List Attr) → (is_named_once a.kind && is_among ways o) ≡ false
        → ClaimsCounted (with_way (is_named_once a.kind) ways o) attrs → (success : Bool)
        → ClaimsCounted ways (record { kind = a.kind; success = success; path = o } ∷ attrs)
    one_counted a ways o attrs fresh h success = by (claims a.kind && is_path c o) refl
      where
        x : Attr
        x = record { kind = a.kind; success = success; path = o }

        -- the path that is claimed here was not claimed before, and is not claimed again
        here_claimed : (w : Way) → o ≡ Some w → claims a.kind ≡ true → same_way w c ≡ true → (is_known ways c ≡ false) × (claim_count attrs c ≡ 0)
        here_claimed w is kind same =
            let one : w ≡ c = way_equal w c same in
            let once : is_named_once a.kind ≡ true = sym (once_same a.kind) ∙ kind in
            let path : o ≡ Some c = is ∙ ap (λ y. Some y) one in
            let new : is_known ways c ≡ false =
            by_once (is_named_once a.kind) (is_known ways c) once (subst (λ y. (is_named_once a.kind && is_among ways y) ≡ false) path fresh)
            in (
              new,
              h.none_again (subst (λ y. is_known (with_way y ways o) c ≡ true) (sym once) (subst (λ y. is_known (with_way true ways y) c ≡ true) (sym path)
                  (known_last ways (subst (λ y. same_way y c ≡ true) one same)))),
            )
          where
            by_once : (p q : Bool) → p ≡ true → (p && q) ≡ false → q ≡ false
            by_once true q e f = f
            by_once false q e f = never (sym e)

        claimed : (w : Option Way) → o ≡ w → (claims a.kind && is_path c w) ≡ true → (is_known ways c ≡ false) × (claim_count attrs c ≡ 0)
        claimed None is e = never (sym (both_true (claims a.kind) false e).1)
        claimed (Some w) is e = let both = both_true (claims a.kind) (same_way w c) e in here_claimed w is both.0 both.1

        by : (b : Bool) → (claims a.kind && is_path c o) ≡ b → ClaimsCounted ways (x ∷ attrs)
        by true e =
            let g = claimed o refl e in
            let number : claim_count (x ∷ attrs) c ≡ suc (claim_count attrs c) = claim_first x attrs true e in
            let rest : claim_count attrs c ≡ 0 = g.1 in
            record { none_again = λ k. never (sym k ∙ g.0); one = omega (arith, number, rest) }
        by false e =
            let number : claim_count (x ∷ attrs) c ≡ claim_count attrs c = claim_first x attrs false e in
            let rest = h.one in
            record { none_again = λ k. number ∙ h.none_again (with_more (is_named_once a.kind) ways o k); one = omega (arith, number, rest) }

    args_counted : (a : Attribute) (ways : List Way) (args : Arguments) (attrs : List Attr) → first (attribute_arguments v a.kind ways args) ≡ None
        → ClaimsCounted (ways_behind v a.kind ways args) attrs → ClaimsCounted ways (attr_args v.stable v.here a args ++ attrs)
    unfolding attribute_arguments attr_args ways_behind
    args_counted a ways none attrs h g = g
    args_counted a ways (more e rest) attrs h g =
        let there = with_way (is_named_once a.kind) ways (way v e) in
        let x = none_of_both (argument v a.kind ways e) (attribute_arguments v a.kind there rest) h in
        one_counted a ways (way v e) (attr_args v.stable v.here a rest ++ attrs) (lock_asked v a.kind ways e x.0).fresh (args_counted a there rest attrs x.1 g) _

    all_counted : (result : Kind) (before : List Attribute) (ways : List Way) (attrs : List Attribute)
        → first (attribute_premises v true result before ways attrs) ≡ None
        → ClaimsCounted ways (attrs_of v.stable v.here attrs)
    unfolding attribute_premises attrs_of
    all_counted result before ways [] h = record { none_again = λ k. refl; one = omega arith }
    all_counted result before ways (a ∷ rest) h =
        let behind = attribute_premises v true result (before ++ a ∷ []) (ways_behind v a.kind ways a.args) rest in
        let x = none_of_first PF7 a.span (misfits result before a) (attribute_arguments v a.kind ways a.args ++ behind) h in
        let y = none_of_both (attribute_arguments v a.kind ways a.args) behind x.1 in
        args_counted a ways a.args (attrs_of v.stable v.here rest) y.0 (all_counted result (before ++ a ∷ []) (ways_behind v a.kind ways a.args) rest y.1)

    pub claimed_once : (result : Kind) (attrs : List Attribute) → first (attribute_premises v true result [] [] attrs) ≡ None
        → claim_count (attrs_of v.stable v.here attrs) c ≤ 1
    claimed_once result attrs h = (all_counted result [] [] attrs h).one
