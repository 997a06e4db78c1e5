-- What stands at the body of a function: what was declared and what came before it.
use Rattle.std.proofs.Common.{◌≡◌, ◌∙◌, ℕ, List, [], ◌∷◌, ◌++◌, Some, true, slice_get, sym, ap, subst, append-nil}
use Rattle.tsa_base.specs.declared.token.Span.{Span}
use Rattle.tsa_tree.specs.declarations.Syntax.{Head}
use Rattle.tsa_tree.specs.statements.Syntax.{Statements}
use Rattle.tsa_tree.specs.types.Heads.{behind_head}
use Rattle.tsa_tree.specs.types.Scopes.{Scope}
use Rattle.tsa_tree.specs.types.Symbols.{number_of}
use Rattle.tsa_tree.specs.types.Units.{outset, behind_item, item_premises, items_premises}
use Rattle.tsa_tree.specs.units.Syntax.{UnitItem, body_item}
use Rattle.tsa_place_model.proofs.GlobalsInRow.{front_at}
use Rattle.tsa_core.specs.Programs.{Declared, bodied_function, declared_by, declared_functions, first_head}
use Rattle.tsa_core.proofs.NoFailure.{none_of_both}
use Rattle.tsa_core.proofs.BodiesAgree.{Means}
use Rattle.tsa_profile.proofs.FunctionScopes.{Bodies, Stands, TellsBody, body_told, one_meant}
use Rattle.tsa_profile.proofs.PathTables as tables
use Rattle.tsa_profile.proofs.PathTables.{Reads, bodies_behind, head_told, own_body, reads_on}

module _ (items : List UnitItem) where
  abbrev pub all : List Declared
  all = declared_functions (outset items) items

  -- Behind the last item all functions are known by their names.
  pub record AtEnd : Type 0 where
    pub there : Scope
    pub bodies : Bodies
    pub stands : Stands all bodies there

  pub to_end : (ds : List Declared) (bodies : Bodies) (here : Scope) (rest : List UnitItem) → Reads [] items ds bodies here rest → AtEnd
  unfolding declared_functions
  to_end ds bodies here [] r = record { there = here; bodies = bodies; stands = subst (λ xs. Stands xs bodies here) (sym (r.declared ∙ append-nil ds)) r.stands }
  to_end ds bodies here (item ∷ rest) r =
      to_end (ds ++ declared_by here item) (bodies_behind bodies here item) (behind_item here item) rest (reads_on [] items ds bodies here item rest r)

  -- so two functions have different names
  pub one_number : AtEnd → (n m : ℕ) (d x : Declared) → slice_get all n ≡ Some d → slice_get all m ≡ Some x → d.head.name.text ≡ x.head.name.text → n ≡ m
  one_number e n m d x at_n at_m same =
      one_meant e.there x.head.name.text n m (subst (λ text. Means e.there text n) same (e.stands.meant_by n d at_n)) (e.stands.meant_by m x at_m)

  -- A body that is read next.
  module _ (ds : List Declared) (bodies : Bodies) (here : Scope) (head : Head) (body : Statements) (close : Span) (rest : List UnitItem)
      (r : Reads [] items ds bodies here (body_item head body close ∷ rest)) where
    abbrev pub after : List Declared
    after = ds ++ first_head here head true

    pub next : Reads [] items after (bodies_behind bodies here (body_item head body close)) (behind_head here head true) rest
    next = reads_on [] items ds bodies here (body_item head body close) rest r

    told : TellsBody ds bodies here r.stands head
    unfolding items_premises
    told =
        body_told ds bodies here r.stands head
        (head_told here head body
        (none_of_both (item_premises here (body_item head body close)) (items_premises (behind_item here (body_item head body close)) rest) r.typed).0)

    -- its function was declared by now, is one of the unit's, and has its first body here
    pub record Own : Type 0 where
      pub declared : Declared
      pub so_far : slice_get after (number_of here head) ≡ Some declared
      pub in_all : slice_get all (number_of here head) ≡ Some declared
      pub name : declared.head.name.text ≡ head.name.text
      pub its_first : bodied_function declared.head.name.text (outset items) items ≡ Some (own_body here head body)

    pub own_first : bodied_function head.name.text (outset items) items ≡ Some (own_body here head body)
    own_first = tables.is_first [] items ds bodies here head body close rest r next told

    pub own : Own
    own =
        let x = next.stands.named head.name.text told.means.0 (number_of here head) told.means.1.0 told.means.1.1 in
        record {
          declared = x.0;
          so_far = x.1.0;
          in_all = ap (λ xs. slice_get xs (number_of here head)) next.declared ∙ front_at after (declared_functions (behind_head here head true) rest) (number_of here head) x.0 x.1.0;
          name = x.1.1;
          its_first = ap (λ text. bodied_function text (outset items) items) x.1.1 ∙ own_first;
        }
