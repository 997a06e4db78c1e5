-- In a typed unit the members of a struct that come one by one make the struct.
use Rattle.std.specs.Prelude.{◌≡◌, List, [], Option, None}
use Rattle.tsa_base.specs.declared.token.Span.{Span}
use Rattle.tsa_tree.specs.attributes.Syntax.{Attribute}
use Rattle.tsa_tree.specs.declarations.Syntax.{Declaration}
use Rattle.tsa_tree.specs.expressions.Syntax.{Identifier}
use Rattle.tsa_tree.specs.types.Premises.{first}
use Rattle.tsa_tree.specs.types.Scopes.{Scope, Members, with_owned}
use Rattle.tsa_tree.specs.types.Structs.{struct_premises, behind_struct}
use Rattle.tsa_place_model.specs.Parts.{member_behind, members_after}
use Rattle.tsa_core_environment.specs.Members.{behind_member, with_members}

-- a member behind others, where outside of the struct no members are looked up first
abbrev pub MembersComeOneByOne : Type 0
MembersComeOneByOne = (here : Scope) (before : Members) (d : Declaration) → here.owned ≡ []
    → behind_member (with_owned before here) d ≡ with_owned (member_behind here before d) here

-- and the struct behind all of them
abbrev pub MembersMakeTheStruct : Type 0
MembersMakeTheStruct = (here : Scope) (tag alias : Option Identifier) (attrs : List Attribute) (members : List Declaration) (span : Span) → here.owned ≡ []
    → first (struct_premises here tag alias attrs members span) ≡ None
    → with_members (with_owned [] here) alias (members_after here [] members) ≡ behind_struct here alias members
