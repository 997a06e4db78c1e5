-- Programs whose functions keep rows have no warnings.
use Rattle.std.proofs.Common.{◌≡◌, ℕ, zero, suc, ◌+◌, ◌<◌, ◌≤◌, nat_lt, ◌⊎◌, inl, inr, Bool, true, false, List, [], ◌∷◌, ◌++◌, length}
use Rattle.std.proofs.Common.{Contains, Option, Some, None, slice_get, refl, sym, ◌∙◌, ap, subst, arith}
use Rattle.std.proofs.lemmas.Option.{slice_get_past}
use Rattle.std.specs.List.{list_all, list_any}
use Rattle.tsa_place_model.specs.Ways.{Way}
use Rattle.tsa_core.specs.Programs.{Attr, Function, Program}
use Rattle.tsa_core.specs.Uses.{Access}
use Rattle.tsa_path.specs.Sameness.{same_way}
use Rattle.tsa_path.proofs.PathsApart.{way_equal}
use Rattle.tsa_rules.specs.Attributes.{is_path, names, all_as_called}
use Rattle.tsa_rules.specs.Points.{points_of, or_idle, or_unused, attrs_called, attrs_at, uses_at, is_guarded_by}
use Rattle.tsa_rules.specs.StatusLaws.{IsUnnamed}
use Rattle.tsa_rules.specs.KeptRows.{KeepsRows, KeptProgramsHaveNoWarnings}
use Rattle.tsa_rules.specs.Sheets.{Sheet, rows_of, passes, is_among, has_attr, has_guards, lists_at, lists_from, lists, function_passes}
use Rattle.tsa_rules.specs.Sheets.{functions_pass, ProgramsThatPassHaveNoWarnings}
use Rattle.tsa_rules.proofs.Tests.{never, below, not_below, left_part, right_part}
use Rattle.tsa_rules.proofs.EdgeInduction.{kept_rows_break_no_rule}
use Rattle.tsa_rules.proofs.OtherPaths.{rules_speak_of_named_paths}
use Rattle.tsa_rules.proofs.Sheets.{sheets_that_pass_are_kept}
use Rattle.tsa_base.proofs.Options.{some_same}

pub kept_programs_have_no_warnings : KeptProgramsHaveNoWarnings
kept_programs_have_no_warnings u keeps w x = by (keeps w.function x.function x.is_there)
  where
    by : KeepsRows u x.function → ⊥
    by k = elim (k.all_named w.path) [
      | inl among ↦ kept_rows_break_no_rule u x.function k.paths k.rows k.are_kept w.rule w.point w.path among x.fails
      | inr unnamed ↦ rules_speak_of_named_paths u x.function w.path unnamed w.rule w.point x.fails
    ]

-- What is listed holds all paths that are named: another is not.
none_of : {X : Type 0} (all one : X → Bool) → ((x : X) → all x ≡ true → one x ≡ false) → (xs : List X) → list_all all xs ≡ true → list_any one xs ≡ false
none_of all one law [] e = refl
none_of all one law (x ∷ xs) e =
    let first : one x ≡ false = law x (left_part (all x) (list_all all xs) e) in
    rw first (none_of all one law xs (right_part (all x) (list_all all xs) e))

other_way : (paths : List Way) (c w : Way) (b : Bool) → same_way w c ≡ b → list_any (same_way c) paths ≡ false → list_any (same_way w) paths ≡ true → b ≡ false
other_way paths c w false e none some = refl
other_way paths c w true e none some =
    never (sym some ∙ (ap (λ v. list_any (same_way v) paths) (way_equal w c e) ∙ none))

other_path : (paths : List Way) (c : Way) → list_any (same_way c) paths ≡ false → (o : Option Way) → is_among paths o ≡ true → is_path c o ≡ false
other_path paths c none None e = refl
other_path paths c none (Some w) e = other_way paths c w (same_way w c) refl none e

other_attrs : (paths : List Way) (c : Way) → list_any (same_way c) paths ≡ false → (attrs : List Attr) → list_all (has_attr paths) attrs ≡ true → list_any (names c) attrs ≡ false
other_attrs paths c none attrs e = none_of (has_attr paths) (names c) (λ a. other_path paths c none a.path) attrs e

other_guards : (paths : List Way) (c : Way) → list_any (same_way c) paths ≡ false → (accesses : List Access) → list_all (has_guards paths) accesses ≡ true
    → list_any (is_guarded_by c) accesses ≡ false
other_guards paths c none accesses e =
    none_of (has_guards paths) (is_guarded_by c) (λ a. none_of (is_among paths) (is_path c) (other_path paths c none) a.guards) accesses e

-- behind the last point nothing is named
abbrev NamesNothing : Program → Function → Way → ℕ → Type 0
NamesNothing u f c p = (list_any (names c) (attrs_at u f p) ≡ false) × (list_any (is_guarded_by c) ((uses_at f p).left ++ (uses_at f p).right) ≡ false)

listed_at : (u : Program) (f : Function) (paths : List Way) (c : Way) → list_any (same_way c) paths ≡ false → (p : ℕ) → lists_at u f paths p ≡ true → NamesNothing u f c p
listed_at u f paths c none p e = (
  other_attrs paths c none (attrs_at u f p) (left_part (list_all (has_attr paths) (attrs_at u f p)) (list_all (has_guards paths) ((uses_at f p).left ++ (uses_at f p).right)) e),
  other_guards paths c none ((uses_at f p).left ++ (uses_at f p).right)
      (right_part (list_all (has_attr paths) (attrs_at u f p)) (list_all (has_guards paths) ((uses_at f p).left ++ (uses_at f p).right)) e),
)

listed_from : (u : Program) (f : Function) (paths : List Way) (c : Way) → list_any (same_way c) paths ≡ false → (at n p : ℕ) → lists_from u f paths at n ≡ true
    → p < n → NamesNothing u f c (at + p)
listed_from u f paths c none at zero p e h = absurd (omega arith)
listed_from u f paths c none at (suc n) zero e h =
    let here : at ≡ at + 0 = omega arith in
    subst (NamesNothing u f c) here (listed_at u f paths c none at (left_part (lists_at u f paths at) (lists_from u f paths (at + 1) n) e))
listed_from u f paths c none at (suc n) (suc p) e h =
    let near : p < n = omega arith in
    let there : at + 1 + p ≡ at + suc p = omega arith in
    subst (NamesNothing u f c) there (listed_from u f paths c none (at + 1) n p (right_part (lists_at u f paths at) (lists_from u f paths (at + 1) n) e) near)

nothing_behind : (u : Program) (f : Function) (c : Way) (p : ℕ) → length (points_of f) ≤ p → length f.uses ≤ p → NamesNothing u f c p
nothing_behind u f c p points uses =
    let no_point : slice_get (points_of f) p ≡ None = slice_get_past (points_of f) p points in
    let no_uses : slice_get f.uses p ≡ None = slice_get_past f.uses p uses in (
      ap (λ o. list_any (names c) (all_as_called (uses_at f p).arguments (attrs_called u (or_idle o).call))) no_point,
      ap (λ o. list_any (is_guarded_by c) ((or_unused o).left ++ (or_unused o).right)) no_uses,
    )

named_nowhere : (u : Program) (f : Function) (paths : List Way) (c : Way) → list_any (same_way c) paths ≡ false
    → (n : ℕ) → length (points_of f) ≤ n → length f.uses ≤ n → lists_from u f paths 0 n ≡ true → (p : ℕ) (b : Bool) → nat_lt p n ≡ b → NamesNothing u f c p
named_nowhere u f paths c none n points uses e p true is =
    let same : 0 + p ≡ p = omega arith in
    subst (NamesNothing u f c) same (listed_from u f paths c none 0 n p e (below p n is))
named_nowhere u f paths c none n points uses e p false is =
    let far : n ≤ p = not_below p n is in
    nothing_behind u f c p (omega arith) (omega arith)

contained_step : (c w : Way) (paths : List Way) (b : Bool) → same_way c w ≡ b → (list_any (same_way c) paths ≡ true → Contains paths c)
    → list_any (same_way c) (w ∷ paths) ≡ true → Contains (w ∷ paths) c
contained_step c w paths true e rest h = (0, omega arith, sym (way_equal c w e))
contained_step c w paths false e rest h =
    let more : list_any (same_way c) paths ≡ true = rw e at h in
    let found = rest more in
    let near : found.0 < length paths = found.1 in
    (suc found.0, omega arith, found.2)

contained : (c : Way) (paths : List Way) → list_any (same_way c) paths ≡ true → Contains paths c
contained c [] h = never (sym h)
contained c (w ∷ paths) h = contained_step c w paths (same_way c w) refl (contained c paths) h

-- A function that passes with a sheet keeps its rows.
all_named : (u : Program) (f : Function) (paths : List Way) → lists u f paths ≡ true → (c : Way) (b : Bool) → list_any (same_way c) paths ≡ b → Contains paths c ⊎ IsUnnamed u f c
all_named u f paths e c true is = inl (contained c paths is)
all_named u f paths e c false is =
    let own = left_part (list_all (has_attr paths) f.attrs) (lists_from u f paths 0 (length (points_of f) + length f.uses)) e in
    let inside = right_part (list_all (has_attr paths) f.attrs) (lists_from u f paths 0 (length (points_of f) + length f.uses)) e in
    inr (record {
      own = other_attrs paths c is f.attrs own;
      called = λ p. (named_nowhere u f paths c is (length (points_of f) + length f.uses) (omega arith) (omega arith) inside p (nat_lt p (length (points_of f) + length f.uses)) refl).0;
      guarding = λ p. (named_nowhere u f paths c is (length (points_of f) + length f.uses) (omega arith) (omega arith) inside p (nat_lt p (length (points_of f) + length f.uses)) refl).1;
    })

keeps : (u : Program) (f : Function) (x : Sheet) → function_passes u f x ≡ true → KeepsRows u f
keeps u f x e = record {
  paths = x.paths;
  rows = rows_of x;
  are_kept = sheets_that_pass_are_kept u f x (left_part (passes u f x) (lists u f x.paths) e);
  all_named = λ c. all_named u f x.paths (right_part (passes u f x) (lists u f x.paths) e) c (list_any (same_way c) x.paths) refl;
}

each_keeps : (u : Program) (functions : List Function) (sheets : List Sheet) → functions_pass u functions sheets ≡ true → (n : ℕ) (f : Function) → slice_get functions n ≡ Some f
    → KeepsRows u f
each_keeps u [] sheets e n f is = cc
each_keeps u (g ∷ functions) [] e n f is = never (sym e)
each_keeps u (g ∷ functions) (x ∷ sheets) e zero f is =
    subst (KeepsRows u) (some_same is) (keeps u g x (left_part (function_passes u g x) (functions_pass u functions sheets) e))
each_keeps u (g ∷ functions) (x ∷ sheets) e (suc n) f is =
    each_keeps u functions sheets (right_part (function_passes u g x) (functions_pass u functions sheets) e) n f is

pub programs_that_pass_have_no_warnings : ProgramsThatPassHaveNoWarnings
programs_that_pass_have_no_warnings u sheets e = kept_programs_have_no_warnings u (each_keeps u u.functions sheets e)
