-- What is known and found behind all items.
use Rattle.std.proofs.Common.{◌≡◌, ◌∙◌, List, [], ◌∷◌, ◌++◌, refl, sym, ap}
use Rattle.tsa_tree.specs.types.Units.{behind_item, outset}
use Rattle.tsa_tree.specs.units.Syntax.{UnitItem}
use Rattle.tsa_profile_accesses.specs.Premises.{or_else, first}
use Rattle.tsa_profile_context.specs.Judging.{Knowledge, behind, behind_all, outset_of}
use Rattle.tsa_profile_context.specs.Tables.{tables_of_all}
use Rattle.tsa_profile_context.specs.Units.{Unit, attributes_behind, tries_limit, tries_limits, paths_limit, paths_limits}
use Rattle.tsa_profile_context.proofs.Sequences.{or_else_none}
use Rattle.tsa_profile_context.proofs.Failures.{first_append, or_else_or_else}

module _ (u : Unit) where
  -- the first function that passes a limit
  pub tries_all : (k : Knowledge) (items : List UnitItem) → (behind_all u k items).tries ≡ or_else k.tries (first (tries_limits u k.attributes k.here items))
  unfolding behind_all tries_limits first
  tries_all k [] = sym (or_else_none k.tries)
  tries_all k (item ∷ rest) =
      tries_all (behind u k item) rest
      ∙ or_else_or_else k.tries (first (tries_limit u (attributes_behind u k.attributes k.here item) k.here item)) (first (tries_limits u (attributes_behind u k.attributes k.here item) (behind_item k.here item) rest))
      ∙ ap (or_else k.tries) (sym (first_append (tries_limit u (attributes_behind u k.attributes k.here item) k.here item) (tries_limits u (attributes_behind u k.attributes k.here item) (behind_item k.here item) rest)))

  pub paths_all : (k : Knowledge) (items : List UnitItem) → (behind_all u k items).paths ≡ or_else k.paths (first (paths_limits u k.attributes k.here items))
  unfolding behind_all paths_limits first
  paths_all k [] = sym (or_else_none k.paths)
  paths_all k (item ∷ rest) =
      paths_all (behind u k item) rest
      ∙ or_else_or_else k.paths (first (paths_limit u (attributes_behind u k.attributes k.here item) k.here item)) (first (paths_limits u (attributes_behind u k.attributes k.here item) (behind_item k.here item) rest))
      ∙ ap (or_else k.paths) (sym (first_append (paths_limit u (attributes_behind u k.attributes k.here item) k.here item) (paths_limits u (attributes_behind u k.attributes k.here item) (behind_item k.here item) rest)))

  -- the paths of bodies by the numbers of their functions
  pub tables_all : (k : Knowledge) (items : List UnitItem) → (behind_all u k items).tables ≡ tables_of_all u k.attributes k.tables k.here items
  unfolding behind_all tables_of_all
  tables_all k [] = refl
  tables_all k (item ∷ rest) = tables_all (behind u k item) rest

  -- the limits are told behind all items, those of tries first
  pub limits_all : (known : Knowledge) → known ≡ behind_all u (outset_of u) u.items
      → or_else known.tries known.paths ≡ first (tries_limits u [] (outset u.items) u.items ++ paths_limits u [] (outset u.items) u.items)
  limits_all known is =
      ap (λ k. or_else k.tries k.paths) is
      ∙ ap (λ t. or_else t (behind_all u (outset_of u) u.items).paths) (tries_all (outset_of u) u.items)
      ∙ ap (or_else (first (tries_limits u [] (outset u.items) u.items))) (paths_all (outset_of u) u.items)
      ∙ sym (first_append (tries_limits u [] (outset u.items) u.items) (paths_limits u [] (outset u.items) u.items))
