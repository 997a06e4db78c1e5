-- What the kinds of attributes have to do with locks, and what functions give that have such attributes.
use Rattle.std.proofs.Common.{◌≡◌, ◌⊎◌, inl, inr, ℕ, Bool, true, false, List, [], ◌∷◌, All, Option, refl, sym}
use Rattle.std.proofs.lemmas.List.Elements.{All-append, All-cons, All-nil}
use Rattle.tsa_base.specs.declared.token.Span.{Span}
use Rattle.tsa_base.proofs.Truths.{never}
use Rattle.tsa_tree.specs.attributes.Syntax.{Attribute}
use Rattle.tsa_tree.specs.declared.attr.AttrKind.{AttrKind}
use Rattle.tsa_tree.specs.declared.attr.AttrKind.TheVariants as attr
use Rattle.tsa_tree.specs.declared.kind.Kind.{Kind}
use Rattle.tsa_tree.specs.declared.kind.Kind.TheVariants as type
use Rattle.tsa_tree.specs.expressions.Syntax.{Arguments, none, more}
use Rattle.tsa_tree.specs.types.Runnable.{change_of, changes, gives, gives_number, leaves, leaves_all, tries}
use Rattle.tsa_tree.specs.types.Scopes.{Scope}
use Rattle.tsa_core.specs.Programs.{Attr, attr_args, attrs_of}
use Rattle.tsa_mean.specs.Acts.{changes_lock}
use Rattle.tsa_rules.specs.Attributes as rules
use Rattle.tsa_profile_accesses.specs.Locks as seen
use Rattle.tsa_profile_declarations.specs.Declarations.{is_order}
use Rattle.tsa_sound.specs.CallFacts.{GivesNumber}

-- KINDS OF ATTRIBUTES

pub same_test : (kind : AttrKind) → rules.is_try kind ≡ seen.is_try kind
same_test attr.TryAcquire = refl
same_test attr.TryAcquireShared = refl
same_test attr.Requires = refl
same_test attr.RequiresShared = refl
same_test attr.Acquire = refl
same_test attr.AcquireShared = refl
same_test attr.Release = refl
same_test attr.ReleaseShared = refl
same_test attr.ReleaseGeneric = refl
same_test attr.Excludes = refl
same_test attr.GuardedBy = refl
same_test attr.AcquiredBefore = refl
same_test attr.AcquiredAfter = refl
same_test attr.Capability = refl

changes_give : (kind : Kind) → gives changes kind ≡ true → (kind ≡ type.Void) ⊎ (kind ≡ type.Int)
changes_give type.Void h = inl refl
changes_give type.Int h = inr refl
changes_give type.Unsigned h = never (sym h)
changes_give (type.Structure n) h = never (sym h)
changes_give (type.Pointer n c) h = never (sym h)
changes_give type.Null h = never (sym h)
changes_give type.Function h = never (sym h)

tries_give : (kind : Kind) → gives tries kind ≡ true → kind ≡ type.Int
tries_give type.Int h = refl
tries_give type.Void h = never (sym h)
tries_give type.Unsigned h = never (sym h)
tries_give (type.Structure n) h = never (sym h)
tries_give (type.Pointer n c) h = never (sym h)
tries_give type.Null h = never (sym h)
tries_give type.Function h = never (sym h)

-- an attribute that has to do with a lock
pub record IsChange (kind : AttrKind) (result : Kind) : Type 0 where
  pub changes_it : changes_lock kind ≡ true
  pub is_no_order : is_order kind ≡ false
  pub gives_it : (result ≡ type.Void) ⊎ (result ≡ type.Int)
  pub tries_it : rules.is_try kind ≡ true → result ≡ type.Int

no_leave : {A : Type 0} (result : Kind) → gives leaves result ≡ true → A
no_leave type.Int h = never (sym h)
no_leave type.Void h = never (sym h)
no_leave type.Unsigned h = never (sym h)
no_leave (type.Structure n) h = never (sym h)
no_leave (type.Pointer n c) h = never (sym h)
no_leave type.Null h = never (sym h)
no_leave type.Function h = never (sym h)

pub change_is : (kind : AttrKind) (result : Kind) → gives (change_of kind) result ≡ true → IsChange kind result
change_is attr.Acquire result h = record { changes_it = refl; is_no_order = refl; gives_it = changes_give result h; tries_it = λ t. never (sym t) }
change_is attr.AcquireShared result h = record { changes_it = refl; is_no_order = refl; gives_it = changes_give result h; tries_it = λ t. never (sym t) }
change_is attr.Release result h = record { changes_it = refl; is_no_order = refl; gives_it = changes_give result h; tries_it = λ t. never (sym t) }
change_is attr.ReleaseShared result h = record { changes_it = refl; is_no_order = refl; gives_it = changes_give result h; tries_it = λ t. never (sym t) }
change_is attr.ReleaseGeneric result h = record { changes_it = refl; is_no_order = refl; gives_it = changes_give result h; tries_it = λ t. never (sym t) }
change_is attr.TryAcquire result h = record { changes_it = refl; is_no_order = refl; gives_it = inr (tries_give result h); tries_it = λ t. tries_give result h }
change_is attr.TryAcquireShared result h = record {
  changes_it = refl;
  is_no_order = refl;
  gives_it = inr
      (tries_give result h);
  tries_it = λ t. tries_give result h;
}
change_is attr.Requires result h = no_leave result h
change_is attr.RequiresShared result h = no_leave result h
change_is attr.Excludes result h = no_leave result h
change_is attr.GuardedBy result h = no_leave result h
change_is attr.AcquiredBefore result h = no_leave result h
change_is attr.AcquiredAfter result h = no_leave result h
change_is attr.Capability result h = no_leave result h

pub no_change_no_try : (kind : AttrKind) → changes_lock kind ≡ false → rules.is_try kind ≡ false
no_change_no_try attr.TryAcquire h = never h
no_change_no_try attr.TryAcquireShared h = never h
no_change_no_try attr.Requires h = refl
no_change_no_try attr.RequiresShared h = refl
no_change_no_try attr.Acquire h = refl
no_change_no_try attr.AcquireShared h = refl
no_change_no_try attr.Release h = refl
no_change_no_try attr.ReleaseShared h = refl
no_change_no_try attr.ReleaseGeneric h = refl
no_change_no_try attr.Excludes h = refl
no_change_no_try attr.GuardedBy h = refl
no_change_no_try attr.AcquiredBefore h = refl
no_change_no_try attr.AcquiredAfter h = refl
no_change_no_try attr.Capability h = refl

-- THE ENVIRONMENT'S FUNCTIONS

abbrev pub Leaves : Attr → Type 0
Leaves a = changes_lock a.kind ≡ false

leaves_first : (kind : AttrKind) (text : Option (List ℕ)) (success : Option Bool) (args : Arguments) (span : Span) (rest : List Attribute)
    → leaves_all (record { kind = kind; text = text; success = success; args = args; span = span } ∷ rest) ≡ true
    → (changes_lock kind ≡ false) × (leaves_all rest ≡ true)
leaves_first attr.Acquire text success args span rest h = never (sym h)
leaves_first attr.AcquireShared text success args span rest h = never (sym h)
leaves_first attr.Release text success args span rest h = never (sym h)
leaves_first attr.ReleaseShared text success args span rest h = never (sym h)
leaves_first attr.ReleaseGeneric text success args span rest h = never (sym h)
leaves_first attr.TryAcquire text success args span rest h = never (sym h)
leaves_first attr.TryAcquireShared text success args span rest h = never (sym h)
leaves_first attr.Requires text success args span rest h = (refl, h)
leaves_first attr.RequiresShared text success args span rest h = (refl, h)
leaves_first attr.Excludes text success args span rest h = (refl, h)
leaves_first attr.GuardedBy text success args span rest h = (refl, h)
leaves_first attr.AcquiredBefore text success args span rest h = (refl, h)
leaves_first attr.AcquiredAfter text success args span rest h = (refl, h)
leaves_first attr.Capability text success args span rest h = (refl, h)

args_leave : (stable : ℕ → Bool) (here : Scope) (a : Attribute) (args : Arguments) → changes_lock a.kind ≡ false → All Leaves (attr_args stable here a args)
unfolding attr_args
args_leave stable here a none h = All-nil Leaves
args_leave stable here a (more x rest) h = All-cons Leaves _ (attr_args stable here a rest) h (args_leave stable here a rest h)

pub attrs_leave : (stable : ℕ → Bool) (here : Scope) (attrs : List Attribute) → leaves_all attrs ≡ true → All Leaves (attrs_of stable here attrs)
unfolding attrs_of
attrs_leave stable here [] h = All-nil Leaves
attrs_leave stable here (a ∷ rest) h =
    let x = leaves_first a.kind a.text a.success a.args a.span rest h in
    All-append Leaves (attr_args stable here a a.args) (attrs_of stable here rest) (args_leave stable here a a.args x.0) (attrs_leave stable here rest x.1)

pub number_given : (kind : Kind) → gives_number kind ≡ true → GivesNumber kind
number_given type.Void h = tt
number_given type.Int h = tt
number_given type.Unsigned h = tt
number_given (type.Structure n) h = never (sym h)
number_given (type.Pointer n c) h = never (sym h)
number_given type.Null h = never (sym h)
number_given type.Function h = never (sym h)
