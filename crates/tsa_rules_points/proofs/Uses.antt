-- What is used at a point, by the expressions that its code walks.
use Rattle.std.proofs.Common.{◌≡◌, ◌∙◌, ℕ, List, [], map, Option, Some, None, refl, sym, ap, subst}
use Rattle.std.proofs.lemmas.List.{append-nil}
use Rattle.tsa_tree.specs.declarations.Syntax.{Declaration, Initialiser, value, list}
use Rattle.tsa_tree.specs.declared.expr.BinaryOp.{BinaryOp}
use Rattle.tsa_tree.specs.expressions.Syntax.{Expression}
use Rattle.tsa_tree.specs.points.Syntax.{Deed, declares, evaluates, assigns, tests, switches, jumps, idles, returns, ends}
use Rattle.tsa_place_model.specs.Ways.{Way}
use Rattle.tsa_core.specs.Bodies.{Known}
use Rattle.tsa_core.specs.Programs.{Attr}
use Rattle.tsa_core.specs.Uses.{init_uses, uses_by}
use Rattle.tsa_rules.specs.Attributes.{all_as_called}
use Rattle.tsa_profile_accesses.specs.Accesses.{Access as PlacedAccess}
use Rattle.tsa_profile_accesses.specs.Arguments.{arguments_of}
use Rattle.tsa_profile_guards.specs.Accesses.{reads, written}
use Rattle.tsa_profile_guards.proofs.Spans.{reads_are_those, writes_are_those}
use Rattle.tsa_rules_table.specs.Notes.{core_access, NotesAttributes, NotesDeclaration, NotesLeft, NotesRight, IsLastRow}
use Rattle.tsa_rules_table.specs.Rows.{Rows}
use Rattle.tsa_profile_points.specs.Bodies.{Around}
use Rattle.tsa_profile_points.specs.Ways.{called_at, calling, init_value}
use Rattle.tsa_rules_points.specs.Marking.{NotesBegun, value_in}
use Rattle.tsa_rules_points.specs.Points.{attrs_here, begun_by, called_attributes, uses_here}
use Rattle.tsa_base.proofs.Options.{some_same}

module _ (a : Around) (k : Known) where
  -- where the arguments lead of the call of an expression that calls
  init_arguments : (i : Option Initialiser) (e : Expression) → init_value i ≡ Some e → (init_uses a.layout a.stable k.here i).arguments ≡ arguments_of a.stable k.here e
  init_arguments None e is = absurd cc
  init_arguments (Some (value x)) e is = ap (arguments_of a.stable k.here) (some_same is)
  init_arguments (Some (list items span)) e is = absurd cc

  arguments_by : (deed : Deed) (e : Expression) → calling deed ≡ Some e → (uses_by a.layout a.stable k.here deed).arguments ≡ arguments_of a.stable k.here e
  arguments_by (declares d) e is = init_arguments d.init e is
  arguments_by (evaluates x) e is = ap (arguments_of a.stable k.here) (some_same is)
  arguments_by (assigns left o right) e is = ap (arguments_of a.stable k.here) (some_same is)
  arguments_by (tests None) e is = absurd cc
  arguments_by (tests (Some x)) e is = ap (arguments_of a.stable k.here) (some_same is)
  arguments_by (switches x) e is = absurd cc
  arguments_by jumps e is = absurd cc
  arguments_by idles e is = absurd cc
  arguments_by (returns None) e is = absurd cc
  arguments_by (returns (Some x)) e is = ap (arguments_of a.stable k.here) (some_same is)
  arguments_by ends e is = absurd cc

  -- what is read for the value that is worked out
  init_reads : (i : Option Initialiser) (e : Expression) → init_value i ≡ Some e → map core_access (reads a.layout a.stable k.here e) ≡ (init_uses a.layout a.stable k.here i).right
  init_reads None e is = absurd cc
  init_reads (Some (value x)) e is = reads_are_those a.layout a.stable k.here e ∙ ap (λ y. (init_uses a.layout a.stable k.here (Some (value y))).right) (sym (some_same is))
  init_reads (Some (list items span)) e is = absurd cc

  reads_by : (deed : Deed) (e : Expression) → value_in deed ≡ Some e → map core_access (reads a.layout a.stable k.here e) ≡ (uses_by a.layout a.stable k.here deed).right
  reads_by (declares d) e is = init_reads d.init e is
  reads_by (evaluates x) e is = reads_are_those a.layout a.stable k.here e ∙ ap (λ y. (uses_by a.layout a.stable k.here (evaluates y)).right) (sym (some_same is))
  reads_by (assigns left o right) e is =
      reads_are_those a.layout a.stable k.here e ∙ ap (λ y. (uses_by a.layout a.stable k.here (assigns left o y)).right) (sym (some_same is))
  reads_by (tests None) e is = absurd cc
  reads_by (tests (Some x)) e is = reads_are_those a.layout a.stable k.here e ∙ ap (λ y. (uses_by a.layout a.stable k.here (tests (Some y))).right) (sym (some_same is))
  reads_by (switches x) e is = reads_are_those a.layout a.stable k.here e ∙ ap (λ y. (uses_by a.layout a.stable k.here (switches y)).right) (sym (some_same is))
  reads_by jumps e is = absurd cc
  reads_by idles e is = absurd cc
  reads_by (returns None) e is = absurd cc
  reads_by (returns (Some x)) e is = reads_are_those a.layout a.stable k.here e ∙ ap (λ y. (uses_by a.layout a.stable k.here (returns (Some y))).right) (sym (some_same is))
  reads_by ends e is = absurd cc

  init_none : (i : Option Initialiser) → init_value i ≡ None → (init_uses a.layout a.stable k.here i).right ≡ []
  init_none None is = refl
  init_none (Some (value x)) is = absurd cc
  init_none (Some (list items span)) is = refl

  none_read : (deed : Deed) → value_in deed ≡ None → (uses_by a.layout a.stable k.here deed).right ≡ []
  none_read (declares d) is = init_none d.init is
  none_read (evaluates x) is = absurd cc
  none_read (assigns left o right) is = absurd cc
  none_read (tests None) is = refl
  none_read (tests (Some x)) is = absurd cc
  none_read (switches x) is = absurd cc
  none_read jumps is = refl
  none_read idles is = refl
  none_read (returns None) is = refl
  none_read (returns (Some x)) is = absurd cc
  none_read ends is = refl

  -- where nothing is named, and where a function is called
  module _ (paths : List Way) (old new : Rows) where
    pub no_attributes : called_attributes a.attributes (called_at k) ≡ [] → new ≡ old → NotesAttributes paths old new (attrs_here a k)
    no_attributes is same attrs right left declared different says =
        rw same (rw is (subst (λ xs. IsLastRow paths old xs right left declared) (sym (append-nil attrs)) says))

    pub all_attributes : (e : Expression) (ways : List (Option Way)) (locks : List Attr) → calling k.deed ≡ Some e → ways ≡ arguments_of a.stable k.here e
        → locks ≡ called_attributes a.attributes (called_at k) → NotesAttributes paths old new (all_as_called ways locks) → NotesAttributes paths old new (attrs_here a k)
    all_attributes e ways locks is given named h =
        subst (NotesAttributes paths old new) (ap (λ ws. all_as_called ws locks) (given ∙ sym (arguments_by k.deed e is)) ∙ ap (all_as_called (uses_here a k).arguments) named) h

    pub no_reads : value_in k.deed ≡ None → new ≡ old → NotesRight paths old new (uses_here a k).right
    no_reads is same attrs right left declared different says =
        rw same (rw (none_read k.deed is) (subst (λ xs. IsLastRow paths old attrs xs left declared) (sym (append-nil right)) says))

    pub all_reads : (e : Expression) (found : List PlacedAccess) → value_in k.deed ≡ Some e → found ≡ reads a.layout a.stable k.here e
        → NotesRight paths old new (map core_access found) → NotesRight paths old new (uses_here a k).right
    all_reads e found is read h = subst (NotesRight paths old new) (ap (map core_access) read ∙ reads_by k.deed e is) h

    pub no_left : (uses_here a k).left ≡ [] → new ≡ old → NotesLeft paths old new (uses_here a k).left
    no_left is same attrs right left declared different says =
        rw same (rw is (subst (λ xs. IsLastRow paths old attrs right xs declared) (sym (append-nil left)) says))

    pub all_left : (left right : Expression) (o : Option BinaryOp) (found : List PlacedAccess) → k.deed ≡ assigns left o right
        → found ≡ written a.layout a.stable k.here o left → NotesLeft paths old new (map core_access found) → NotesLeft paths old new (uses_here a k).left
    all_left left right o found is wrote h =
        subst (NotesLeft paths old new)
        (ap (map core_access) wrote ∙ writes_are_those a.layout a.stable k.here o left ∙ ap (λ d. (uses_by a.layout a.stable k.here d).left) (sym is)) h

pub ruleset marks_are = (no_attributes, all_attributes, no_reads, all_reads, no_left, all_left)

-- the local that begins
pub begun_noted : (paths : List Way) (old new : Rows) (local next : ℕ) (deed : Deed) (d : Declaration) → deed ≡ declares d → local ≡ next → NotesDeclaration paths old new local
    → NotesBegun paths old new (begun_by next deed)
begun_noted paths old new local next deed d is same h attrs right left says =
    subst (IsLastRow paths new attrs right left) (ap Some same ∙ sym (ap (begun_by next) is)) (h attrs right left says)
