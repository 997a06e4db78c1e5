-- The attributes of a function mention parameters alone.
use Rattle.std.proofs.Common.{◌≡◌, ℕ, nat_eq, eqb-true, Bool, true, false, if◌then◌else◌, List, [], ◌∷◌, ◌<◌, All, Option, Some, None, refl}
use Rattle.std.proofs.Common.{sym, subst}
use Rattle.std.proofs.lemmas.List.Elements.{All-append, All-cons, All-nil}
use Rattle.std.specs.List.{list_any}
use Rattle.tsa_tree.specs.attributes.Syntax.{Attribute}
use Rattle.tsa_tree.specs.declared.meaning.Entry.{Entry}
use Rattle.tsa_tree.specs.declared.meaning.Meaning.TheVariants as meant
use Rattle.tsa_tree.specs.expressions.Syntax.{Arguments, none, more}
use Rattle.tsa_tree.specs.types.Scopes.{Scope, known_in}
use Rattle.tsa_place_model.specs.LockPaths.{lock_way}
use Rattle.tsa_place_model.specs.Ways.{Way}
use Rattle.tsa_place_model.specs.declared.path.PathStep.{PathStep}
use Rattle.tsa_place_model.specs.declared.path.PathStep.TheVariants.{Constant, Field, Follow, Variable}
use Rattle.tsa_place_model.specs.declared.path.Root.{Root}
use Rattle.tsa_place_model.specs.declared.path.Root.TheVariants.{Global, Local, Owner}
use Rattle.tsa_core.specs.Programs.{attr_args, attrs_of}
use Rattle.tsa_core.proofs.KindTests.{one_of}
use Rattle.tsa_sound_accepted.proofs.laid.Mentions.{AreFine, IsFine, IsFineIfAny, IsFineRoot, way_fine}
use Rattle.tsa_rules.specs.Points.{is_index, is_rooted_at, mentions}
use Rattle.tsa_sound.specs.BodyFacts.{MentionsParameters}
use Rattle.tsa_base.proofs.Truths.{never}

module _ (count : ℕ) where
  abbrev Fine : ℕ → Type 0
  Fine n = n < count

  one_fine : (n m : ℕ) → nat_eq m n ≡ true → Fine m → Fine n
  one_fine n m e h = subst Fine (eqb-true m n e) h

  root_mentions : (n : ℕ) (root : Root) → is_rooted_at n root ≡ true → IsFineRoot Fine root → Fine n
  root_mentions n (Local m) e h = one_fine n m e h
  root_mentions n (Global m) e h = never (sym e)
  root_mentions n Owner e h = never (sym e)

  steps_mention : (n : ℕ) (steps : List PathStep) → list_any (is_index n) steps ≡ true → AreFine Fine steps → Fine n
  steps_mention n [] e h = never (sym e)
  steps_mention n (Variable m ∷ rest) e h = one_of (nat_eq m n) (list_any (is_index n) rest) e (λ f. one_fine n m f h.0) (λ f. steps_mention n rest f h.1)
  steps_mention n (Field k ∷ rest) e h = steps_mention n rest e h.1
  steps_mention n (Constant k ∷ rest) e h = steps_mention n rest e h.1
  steps_mention n (Follow ∷ rest) e h = steps_mention n rest e h.1

  way_mentions : (n : ℕ) (w : Way) → mentions n w ≡ true → IsFine Fine w → Fine n
  way_mentions n w e h = by (is_rooted_at n w.root) refl e
    where
      by : (b : Bool) → is_rooted_at n w.root ≡ b → (if b then true else list_any (is_index n) w.steps) ≡ true → Fine n
      by true f g = root_mentions n w.root f h.0
      by false f g = steps_mention n w.steps g h.1

  path_mentions : (o : Option Way) → IsFineIfAny Fine o → MentionsParameters count o
  path_mentions None h = tt
  path_mentions (Some w) h = λ n e. way_mentions n w e h

  module _ (stable : ℕ → Bool) (here : Scope)
      (told : (name : List ℕ) (e : Entry) (k : ℕ) → known_in here name ≡ Some e → e.meaning ≡ meant.Local k → stable k ≡ true → Fine k)
    where
      args_mention : (a : Attribute) (args : Arguments) → All (λ x. MentionsParameters count x.path) (attr_args stable here a args)
      unfolding attr_args
      args_mention a none = All-nil (λ x. MentionsParameters count x.path)
      args_mention a (more e rest) =
          All-cons (λ x. MentionsParameters count x.path) _ (attr_args stable here a rest)
          (path_mentions (lock_way stable here e) (way_fine Fine stable here told e)) (args_mention a rest)

      pub attributes_mention : (attrs : List Attribute) → All (λ x. MentionsParameters count x.path) (attrs_of stable here attrs)
      unfolding attrs_of
      attributes_mention [] = All-nil (λ x. MentionsParameters count x.path)
      attributes_mention (a ∷ rest) =
          All-append (λ x. MentionsParameters count x.path) (attr_args stable here a a.args) (attrs_of stable here rest) (args_mention a a.args) (attributes_mention rest)
