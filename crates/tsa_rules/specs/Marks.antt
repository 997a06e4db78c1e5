-- What a point says of a path by itself: a mark, which holds all that the rules ask of the called function's attributes, of what is used
-- and of what is declared there.
use Rattle.std.specs.Prelude.{◌≡◌, ℕ, Bool, true, false, ◌&&◌, ◌||◌, not, List, [], ◌∷◌, ◌++◌, nat_lt, Option, Some, None, option_map}
use Rattle.std.specs.Prelude.{is_some, if◌then◌else◌}
use Rattle.std.specs.List.{list_any}
use Rattle.std.specs.Option.{option_or}
use Rattle.tsa_tree.specs.declared.attr.AttrKind.{AttrKind}
use Rattle.tsa_place_model.specs.Ways.{Way}
use Rattle.tsa_core.specs.Programs.{Attr, Function, Program}
use Rattle.tsa_core.specs.Uses.{Access}
use Rattle.tsa_rules.specs.declared.kinds.Kinds.{Kinds}
use Rattle.tsa_rules.specs.declared.mark.Claim.{Claim}
use Rattle.tsa_rules.specs.declared.mark.Mark.{Mark}
use Rattle.tsa_rules.specs.Attributes.{claims, is_try, names, claim, try_of, named, claim_count}
use Rattle.tsa_rules.specs.Points.{point_at, uses_at, attrs_at, local_begun, is_guarded_by, reads_under, writes_under, mentions}
use Rattle.tsa_rules.specs.Fails.{is_mentioned}
use Rattle.tsa_rules.specs.KindSets.{no_kinds, has_kind, with_kind, same_kind}

-- what an attribute claims, apart from its path
abbrev pub claim_in : Attr → Claim
claim_in a = record { kind = a.kind; success = a.success }

abbrev pub claim_kind : Option Claim → Option AttrKind
claim_kind a = option_map (λ a. a.kind) a

-- the kinds of the attributes that name a path, with some more
abbrev pub kinds_with : Way → Kinds → List Attr → Kinds
kinds_with c kinds [] = kinds
kinds_with c kinds (a ∷ attrs) = kinds_with c (if names c a then with_kind kinds a.kind else kinds) attrs

abbrev pub kinds_of : List Attr → Way → Kinds
kinds_of attrs c = kinds_with c no_kinds attrs

-- The mark of a path by the attributes of the called function, by what is used on the right side of an assignment or elsewhere, by what is
-- used on the left side of one, and by what is declared.
abbrev pub mark_by : List Attr → (right left : List Access) → Option ℕ → Way → Mark
mark_by attrs right left declared c = record {
  kinds = kinds_of attrs c;
  named = named attrs c;
  claim = option_map claim_in (claim attrs c);
  tried = option_map claim_in (try_of attrs c);
  is_claimed_twice = nat_lt 1 (claim_count attrs c);
  reads_before = reads_under c right;
  reads_after = reads_under c left;
  writes = writes_under c left;
  is_declared = is_mentioned declared c;
}

-- the mark of a path at a point
abbrev pub mark_of : Program → Function → (point : ℕ) → Way → Mark
mark_of u f p c = mark_by (attrs_at u f p) (uses_at f p).right (uses_at f p).left (local_begun (point_at f p).action) c

-- A mark is made step by step: from nothing, by each attribute behind the others that names the path, by each access that it guards, and by
-- the declaration of what it mentions.
abbrev pub no_mark : Mark
no_mark = record {
  kinds = no_kinds;
  named = None;
  claim = None;
  tried = None;
  is_claimed_twice = false;
  reads_before = false;
  reads_after = false;
  writes = false;
  is_declared = false;
}

abbrev pub if_claims : Claim → Option Claim
if_claims a = if claims a.kind then Some a else None

abbrev pub if_tries : Claim → Option Claim
if_tries a = if is_try a.kind then Some a else None

abbrev pub with_attribute : Mark → Claim → Mark
with_attribute m a = record m {
  kinds = with_kind m.kinds a.kind;
  named = option_or m.named (Some a.kind);
  claim = option_or m.claim (if_claims a);
  tried = option_or m.tried (if_tries a);
  is_claimed_twice = m.is_claimed_twice || (claims a.kind && is_some m.claim);
}

abbrev pub with_right : Mark → (is_write : Bool) → Mark
with_right m is_write = record m { reads_before = m.reads_before || not is_write }

abbrev pub with_left : Mark → (is_write : Bool) → Mark
with_left m is_write = record m { reads_after = m.reads_after || not is_write; writes = m.writes || is_write }

abbrev pub with_declaration : Mark → Mark
with_declaration m = record m { is_declared = true }

pub record MarksAreMadeStepByStep : Type 0 where
  pub nothing : (c : Way) → mark_by [] [] [] None c ≡ no_mark
  pub attribute : (attrs : List Attr) (a : Attr) (right left : List Access) (declared : Option ℕ) (c : Way) → mark_by (attrs ++ a ∷ []) right left declared c
      ≡ (if names c a then with_attribute (mark_by attrs right left declared c) (claim_in a) else mark_by attrs right left declared c)
  pub right : (attrs : List Attr) (right left : List Access) (x : Access) (declared : Option ℕ) (c : Way) → mark_by attrs (right ++ x ∷ []) left declared c
      ≡ (if is_guarded_by c x then with_right (mark_by attrs right left declared c) x.is_write else mark_by attrs right left declared c)
  pub left : (attrs : List Attr) (right left : List Access) (x : Access) (declared : Option ℕ) (c : Way) → mark_by attrs right (left ++ x ∷ []) declared c
      ≡ (if is_guarded_by c x then with_left (mark_by attrs right left declared c) x.is_write else mark_by attrs right left declared c)
  pub declaration : (attrs : List Attr) (right left : List Access) (local : ℕ) (c : Way) → mark_by attrs right left (Some local) c
      ≡ (if mentions local c then with_declaration (mark_by attrs right left None c) else mark_by attrs right left None c)

-- the kinds of a mark are those of the attributes that name the path
abbrev pub names_as : Way → AttrKind → Attr → Bool
names_as c k a = names c a && same_kind a.kind k

abbrev pub MarksTellKinds : Type 0
MarksTellKinds = (attrs : List Attr) (c : Way) (k : AttrKind) → has_kind (kinds_of attrs c) k ≡ list_any (names_as c k) attrs
