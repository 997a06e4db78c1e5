-- A body that is entered is the one of the text, and its function that of the core program.
use Rattle.std.proofs.Common.{◌≡◌, ◌∙◌, ℕ, Bool, true, false, List, [], ◌∷◌, ◌++◌, length, map, Some, None, is_none, option_map, slice_get}
use Rattle.std.proofs.Common.{unwrap_or, if◌then◌else◌, nat_lt, refl, sym, ap}
use Rattle.std.proofs.lemmas.List.{map-append}
use Rattle.tsa_base.specs.declared.token.Span.{Span}
use Rattle.tsa_tree.specs.declarations.Shapes.{head_shape}
use Rattle.tsa_tree.specs.declarations.Syntax.{Head}
use Rattle.tsa_tree.specs.declared.item.FnTree.{FnTree}
use Rattle.tsa_tree.specs.points.Syntax.{points_of_body}
use Rattle.tsa_tree.specs.statements.Shapes.{point_shape}
use Rattle.tsa_tree.specs.statements.Syntax.{Statements}
use Rattle.tsa_tree.specs.types.FirstFailing.{first_failing}
use Rattle.tsa_tree.specs.types.Heads.{behind_head}
use Rattle.tsa_tree.specs.types.Symbols.{number_of}
use Rattle.tsa_tree.specs.units.Syntax.{UnitItem, body_item}
use Rattle.tsa_place_model.specs.Ways.{Way}
use Rattle.tsa_core.specs.Programs.{Declared, Function, declared_by, declared_functions, first_head, function_of, program_of}
use Rattle.tsa_core.proofs.MappedLists.{map_at}
use Rattle.tsa_profile_points.specs.Ways.{unless_many}
use Rattle.tsa_path.specs.PathTables.{path_limit}
use Rattle.tsa_rules_bodies.specs.Paths.{paths_if, paths_of}
use Rattle.tsa_profile_context.specs.Units.{attributes_behind, attributes_by, paths_at, points_in, unit_of}
use Rattle.tsa_rules_bodies.proofs.FunctionPaths.{body_paths}
use Rattle.tsa_rules_bodies.proofs.PathTables.{own_body}
use Rattle.tsa_rules_bodies.specs.Entering.{IsEntered, IsOf}
use Rattle.tsa_rules_bodies.specs.Sites.{Site}
use Rattle.tsa_rules_bodies.specs.declared.inside.Inside.{Inside}
use Rattle.tsa_rules_bodies.proofs.FirstBodies.{Stood}
use Rattle.tsa_rules_bodies.proofs.SiteLaws.{own_here, stands_for, the_function}
use Rattle.tsa_rules_bodies.proofs.Standing.{Own, next, own_first}
use Rattle.tsa_warn_bodies.specs.Bodies.{body_text}
use Rattle.tsa_warn_bodies.specs.Courses.{Course, first_params, params_by}
use Rattle.tsa_warn_bodies.specs.BodyEntries.{IsBodyAt}
use Rattle.tsa_warn_bodies.proofs.Limits.{body_has_paths}
use Rattle.tsa_warn_bodies.proofs.Reading.{Reading}

all_of_them : (ways : List Way) → is_none (unless_many ways) ≡ false → unless_many ways ≡ Some ways
all_of_them ways some = by (nat_lt path_limit (length ways)) some
  where
    by : (many : Bool) → is_none (if many then None else Some ways) ≡ false → (if many then None else Some ways) ≡ Some ways
    by true e = absurd cc
    by false e = refl

module _ (items : List UnitItem) (typed : first_failing items ≡ None) (c : Course) (head : Head) (body : Statements) (close : Span) (rest : List UnitItem)
    (r : Reading items c (body_item head body close ∷ rest)) where
  abbrev n : ℕ
  n = number_of c.known.here head

  abbrev so_far : List Declared
  so_far = r.ds ++ first_head c.known.here head true

  abbrev site : Site
  site = record { here = c.known.here; attributes = attributes_behind (unit_of [] items) c.known.attributes c.known.here (body_item head body close); head = head; body = body }

  same_attributes : site.attributes ≡ map (attributes_by (unit_of [] items)) so_far
  same_attributes =
      ap (λ known. attributes_behind (unit_of [] items) known c.known.here (body_item head body close)) r.attributes
      ∙ sym (map-append (attributes_by (unit_of [] items)) r.ds (first_head c.known.here head true))

  abbrev stood : Stood items n site
  stood = record { ds = r.ds; bodies = r.bodies; close = close; rest = rest; reads = r.reads; attributes = same_attributes; number = refl }

  abbrev own : Own items r.ds r.bodies c.known.here head body close rest r.reads
  own = own_here items n site stood

  abbrev function : Function
  function = function_of (program_of items).layout own.declared (Some (own_body c.known.here head body))

  function_is : slice_get (program_of items).functions n ≡ Some function
  unfolding program_of
  function_is = the_function items n site stood

  -- the paths that its body has are those of the function
  paths_are : paths_at (unit_of [] items) site.attributes c.known.here head (points_in c.known.here head body) ≡ paths_if (program_of items) function
  paths_are =
      ap (λ known. paths_at (unit_of [] items) known c.known.here head (points_in c.known.here head body)) same_attributes
      ∙ body_paths [] items so_far (declared_functions (behind_head c.known.here head true) rest) (next items r.ds r.bodies c.known.here head body close rest r.reads).declared
      c.known.here head body own.declared close (next items r.ds r.bodies c.known.here head body close rest r.reads).stands.named own.so_far own.its_first
      (own_first items r.ds r.bodies c.known.here head body close rest r.reads)

  has_all : paths_if (program_of items) function ≡ Some (paths_of (program_of items) function)
  has_all =
      all_of_them (paths_of (program_of items) function)
      (sym (ap is_none paths_are) ∙ body_has_paths (unit_of [] items) c.known.attributes c.known.here head body close rest r.limits)

  module _ (new : Course) (i : Inside) (tree : FnTree)
      (entered : IsEntered (unit_of [] items) c.known head body new.known i)
      (firsts : new.firsts ≡ c.firsts ++ map params_by (declared_by c.known.here (body_item head body close)))
      (tree_head : head_shape tree ≡ head) (points : map point_shape tree.points.now ≡ points_of_body body close) where
    first_at : first_params new n ≡ own.declared.head.params
    first_at =
        ap (λ ps. unwrap_or (slice_get ps n) [])
        (firsts ∙ ap (λ ps. ps ++ map params_by (first_head c.known.here head true)) r.firsts ∙ sym (map-append params_by r.ds (first_head c.known.here head true)))
        ∙ ap (λ o. unwrap_or o []) (map_at params_by so_far n ∙ ap (option_map params_by) own.so_far)

    of : IsOf (unit_of [] items) n site new.known i
    of = record {
      here = ap (λ k. k.here) entered.known;
      attributes = ap (λ k. k.attributes) entered.known;
      number = entered.number;
      head_is = entered.head_is;
      body_is = entered.body_is;
      stable = entered.stable;
      outside = entered.outside;
    }

    pub body_at : IsBodyAt items (body_text c.known.here head body close) new i tree
    body_at = record {
      function = function;
      site = site;
      declared = own.declared;
      close = close;
      is_there = function_is;
      has_paths = has_all;
      is_of = of;
      stands = stands_for items n site stood function typed function_is;
      is_declared = own.in_all;
      is_first = own.its_first;
      firsts = first_at;
      text = refl;
      tree_head = tree_head;
      points = points;
    }
