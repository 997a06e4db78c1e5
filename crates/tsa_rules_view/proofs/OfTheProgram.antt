-- The structs to which paths lead, and their kinds, are those of the program.
use Rattle.std.specs.Prelude.{◌≡◌, ℕ, Option, Some, None, option_and_then, slice_get}
use Rattle.std.proofs.Common.{refl, ap, ◌∙◌}
use Rattle.tsa_place_model.specs.Ways.{Way}
use Rattle.tsa_place_model.specs.declared.path.Root.{Root}
use Rattle.tsa_place_model.specs.declared.path.Root.TheVariants as root
use Rattle.tsa_core.specs.Programs.{Function, LockKind, Program}
use Rattle.tsa_rules.specs.Attributes.{is_reentrant, local_kinds, lock_kind_at, lock_kind_of, root_struct, struct_along, struct_of}
use Rattle.tsa_rules_view.specs.Kinds.{is_taken_again, kind_in, kind_numbered}
use Rattle.tsa_rules_view.specs.Structs.{root_by, struct_by}
use Rattle.tsa_rules_view.specs.Laws.{LockKindsAreOfTheProgram, kind_led_to}

same_root : (u : Program) (f : Function) (r : Root) → root_by u.layout (local_kinds f) r ≡ root_struct u f r
same_root u f (root.Global n) = refl
same_root u f (root.Local n) = refl
same_root u f root.Owner = refl

same_struct : (u : Program) (f : Function) (c : Way) → struct_by u.layout (local_kinds f) c ≡ struct_of u f c
same_struct u f c = ap (struct_along u.layout c.steps) (same_root u f c.root)

-- by the kind of a struct, where there is one of the number
same_kind : (u : Program) (n : ℕ) → kind_numbered u.locks n ≡ lock_kind_at u n
same_kind u n = go (slice_get u.locks n) refl
  where
    go : (o : Option (Option LockKind)) → slice_get u.locks n ≡ o → kind_numbered u.locks n ≡ lock_kind_at u n
    go None e = rw e refl
    go (Some kind) e = rw e refl

same_kind_of : (u : Program) (struct : Option ℕ) → kind_in u.locks struct ≡ option_and_then (lock_kind_at u) struct
same_kind_of u None = refl
same_kind_of u (Some n) = same_kind u n

kind_of_path : (u : Program) (f : Function) (c : Way) → kind_led_to u f c ≡ lock_kind_of u f c
kind_of_path u f c = ap (kind_in u.locks) (same_struct u f c) ∙ same_kind_of u (struct_of u f c)

taken_of_path : (u : Program) (f : Function) (c : Way) → is_taken_again (lock_kind_of u f c) ≡ is_reentrant u f c
taken_of_path u f c = go (lock_kind_of u f c) refl
  where
    go : (o : Option LockKind) → lock_kind_of u f c ≡ o → is_taken_again (lock_kind_of u f c) ≡ is_reentrant u f c
    go None e = rw e refl
    go (Some kind) e = rw e refl

pub lock_kinds_are_of_the_program : LockKindsAreOfTheProgram
lock_kinds_are_of_the_program u f c = record {
  structure = same_struct u f c;
  kind = kind_of_path u f c;
  taken_again = ap is_taken_again (kind_of_path u f c) ∙ taken_of_path u f c;
}
