-- What is made of a body is the view of its function.
use Rattle.std.proofs.Common.{◌≡◌, ◌∙◌, ◌<◌, ℕ, zero, suc, arith, List, [], ◌∷◌, ◌++◌, length, Option, Some, None, option_map, slice_get}
use Rattle.std.proofs.Common.{refl, sym, ap, ap₂, subst}
use Rattle.tsa_base.specs.declared.token.Span.{Span}
use Rattle.tsa_tree.specs.declared.kind.Kind.{Kind}
use Rattle.tsa_tree.specs.units.Syntax.{UnitItem}
use Rattle.tsa_place_model.specs.Ways.{Way}
use Rattle.tsa_core.specs.Programs.{Function, LockKind, Program, program_of}
use Rattle.tsa_core.proofs.MappedLists.{map_at}
use Rattle.tsa_path.specs.PathTables.{AreDifferent}
use Rattle.tsa_core_points.specs.Points.{PlacedPoint}
use Rattle.tsa_rules.specs.Attributes.{lock_kind_of, local_kinds}
use Rattle.tsa_rules.specs.Cases.{kept_of, lock_of}
use Rattle.tsa_rules.specs.Marks.{mark_of}
use Rattle.tsa_rules.specs.Points.{points_of}
use Rattle.tsa_rules_bodies.specs.Units.{stable_of, unit_of}
use Rattle.tsa_profile_points.specs.Bodies.{Around}
use Rattle.tsa_rules_view.specs.declared.kind.LockKind.{LockKind as CodeKind}
use Rattle.tsa_rules_view.specs.Kinds.{kind_in as kind_in_unit, kind_of, kinds_of, is_taken_again}
use Rattle.tsa_rules_view.specs.Structs.{struct_by}
use Rattle.tsa_rules_view.proofs.OfTheProgram.{lock_kinds_are_of_the_program}
use Rattle.tsa_rules_table.specs.Notes.{IsRow}
use Rattle.tsa_rules_table.specs.Rows.{mark_in}
use Rattle.tsa_rules_roles.specs.Roles.{begin_in}
use Rattle.tsa_rules_roles.specs.RoleLaws.{AreRolesOf}
use Rattle.tsa_rules_roles.specs.ProgramDuties.{AreRoles}
use Rattle.tsa_rules.specs.TryVariables.{AreInOrder}
use Rattle.tsa_rules_roles.proofs.OfPrograms.{roles_are_of_the_program}
use Rattle.tsa_rules_points.specs.declared.notes.Notes.{Notes}
use Rattle.tsa_rules_points.specs.Notes.{AreNotes}
use Rattle.tsa_rules_bodies.specs.Laws.{StandsFor}
use Rattle.tsa_rules_bodies.specs.Sites.{Site, within}
use Rattle.tsa_rules_view.specs.declared.content.RuleView.{RuleView}
use Rattle.tsa_rules_view.specs.Parts.{kinds_along, param_kinds}
use Rattle.tsa_rules_view.specs.Views.{IsViewOf, kept_from, kind_in, lock_in, or_none}
use Rattle.tsa_rules_view.proofs.Points.{agree, agrees_at, callees, count, kinds, mark_is, points}
use Rattle.tsa_rules_view.proofs.Points as body

-- a kind that stands in a list
kind_there : (o : Option (Option CodeKind)) (k : Option LockKind) → option_map (λ x. option_map kind_of x) o ≡ Some k → option_map kind_of (or_none o) ≡ k
kind_there None k is = absurd cc
kind_there (Some kind) k is = cc

none_within : {A : Type 0} (xs : List A) (i : ℕ) → i < length xs → slice_get xs i ≡ None → ⊥
none_within [] i less is = omega (arith, less)
none_within (x ∷ xs) zero less is = cc
none_within (x ∷ xs) (suc i) less is = none_within xs i (omega (arith, less)) is

-- the roles that are noted are those of the function
module _ (items : List UnitItem) (n : ℕ) (f : Function) (s : Site) (h : StandsFor items n f s) (a : Around) (close : Span)
    (layout_is : a.layout ≡ (program_of items).layout) (attributes_is : a.attributes ≡ s.attributes) (stable_is : a.stable ≡ stable_of (unit_of [] items) s.head)
    (paths : List Way) (notes : Notes) where
  pub roles_noted : AreNotes a (body.kind items n f s h a close layout_is attributes_is stable_is) paths (body.qs items n f s h a close layout_is attributes_is stable_is) notes
      → AreRolesOf (program_of items) f notes.roles
  roles_noted are =
      roles_are_of_the_program (program_of items) f (within s).locals notes.roles
      (subst (λ xs. AreRoles (program_of items) (within s).locals xs notes.roles) (points items n f s h a close layout_is attributes_is stable_is)
      (are.roles (program_of items) (within s).locals (agree items n f s h a close layout_is attributes_is stable_is)
      (subst (AreInOrder (within s).locals) (sym (points items n f s h a close layout_is attributes_is stable_is)) h.in_order)))

module _ (items : List UnitItem) (n : ℕ) (f : Function) (s : Site) (h : StandsFor items n f s) (a : Around) (close : Span)
    (layout_is : a.layout ≡ (program_of items).layout) (attributes_is : a.attributes ≡ s.attributes) (stable_is : a.stable ≡ stable_of (unit_of [] items) s.head)
    (paths : List Way) (different : AreDifferent paths) (v : RuleView)
    (notes : AreNotes a (body.kind items n f s h a close layout_is attributes_is stable_is) paths (body.qs items n f s h a close layout_is attributes_is stable_is) v.notes)
    (locals : List Kind) (locals_are : locals ≡ param_kinds (within s) s.head.params ++ v.notes.kinds.items)
    (kinds_are : kinds_of v.kinds.items ≡ kinds_along (program_of items).locks (program_of items).layout locals paths)
    (own_row : IsRow paths v.own 0 f.attrs [] [] None) (paths_are : v.numbers ≡ paths) where
  abbrev u : Program
  u = program_of items

  abbrev qs : List PlacedPoint
  qs = body.qs items n f s h a close layout_is attributes_is stable_is

  known : locals ≡ local_kinds f
  known = locals_are ∙ ap₂ (λ x y. x ++ y) (sym h.kinds) (notes.kinds ∙ kinds items n f s h a close layout_is attributes_is stable_is) ∙ rw h.body refl

  module _ (number : ℕ) (c : Way) (at : slice_get paths number ≡ Some c) where
    abbrev led : Option LockKind
    led = kind_in_unit u.locks (struct_by u.layout (local_kinds f) c)

    kind_at : slice_get (kinds_of v.kinds.items) number ≡ Some led
    kind_at =
        ap (λ xs. slice_get xs number) kinds_are
        ∙ map_at (λ c. kind_in_unit u.locks (struct_by u.layout locals c)) paths number
        ∙ ap (option_map (λ c. kind_in_unit u.locks (struct_by u.layout locals c))) at
        ∙ ap (λ ks. Some (kind_in_unit u.locks (struct_by u.layout ks c))) known

    kind_told : kind_in v number ≡ lock_kind_of u f c
    kind_told =
        kind_there (slice_get v.kinds.items number) led (sym (map_at (λ x. option_map kind_of x) v.kinds.items number) ∙ kind_at)
        ∙ (lock_kinds_are_of_the_program u f c).kind

    lock_told : lock_in v number ≡ lock_of u f c
    lock_told =
        ap₂ (λ r m. record { is_reentrant = r; claim = m.claim })
        (ap is_taken_again (kind_told ∙ sym (lock_kinds_are_of_the_program u f c).kind) ∙ (lock_kinds_are_of_the_program u f c).taken_again) (own_row number c at)

  roles : AreRolesOf u f v.notes.roles
  roles = roles_noted items n f s h a close layout_is attributes_is stable_is paths v.notes notes

  -- what the row of a point says
  mark_told : (p number : ℕ) (c : Way) → p < length (points_of f) → slice_get paths number ≡ Some c → mark_in v.notes.marks p number ≡ mark_of u f p c
  mark_told p number c less there = by (slice_get qs p) refl
    where
      by : (o : Option PlacedPoint) → slice_get qs p ≡ o → mark_in v.notes.marks p number ≡ mark_of u f p c
      by None at = absurd (none_within qs p (subst (λ m. p < m) (sym (count items n f s h a close layout_is attributes_is stable_is)) less) at)
      by (Some q) at =
          mark_is items n f s h a close layout_is attributes_is stable_is p q at (agrees_at items n f s h a close layout_is attributes_is stable_is p q at) paths v.notes.marks (notes.marks different p q at) number c there

  kept_told : (p number : ℕ) (c : Way) → slice_get paths number ≡ Some c → kept_from v number (begin_in v.notes.roles p) ≡ kept_of u f p c
  kept_told p number c there = by (begin_in v.notes.roles p) refl
    where
      by : (o : Option ℕ) → begin_in v.notes.roles p ≡ o → kept_from v number o ≡ kept_of u f p c
      by None is = sym (roles.none p c is)
      by (Some q) is = ap (λ m. m.tried) (mark_told q number c (roles.begins p q is) there) ∙ sym (roles.kept p q c is)

  pub is_view : IsViewOf u f paths v
  is_view = record {
    numbered = paths_are;
    callees = notes.callees ∙ callees items n f s h a close layout_is attributes_is stable_is;
    rows = notes.rows ∙ count items n f s h a close layout_is attributes_is stable_is;
    declared = notes.kinds ∙ kinds items n f s h a close layout_is attributes_is stable_is ∙ rw h.body refl;
    roles = roles.roles;
    locks = lock_told;
    kinds = kind_told;
    cases = λ p number c less there.
        rw (lock_told number c there) (rw (roles.roles p) (rw (mark_told p number c less there) (rw (kept_told p number c there) refl)));
  }
