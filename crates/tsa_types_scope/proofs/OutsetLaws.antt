-- The tags of a unit item by item, and which of its structs are locks.
use Rattle.std.proofs.Common.{ℕ, ◌≡◌, ◌∙◌, ◌+◌, suc, Bool, ◌||◌, List, [], ◌∷◌, ◌++◌, drop, Option, Some, None, option_map, refl, sym, ap}
use Rattle.std.proofs.lemmas.List.{append-nil, append_assoc}
use Rattle.std.specs.Borrow.{Bor}
use Rattle.std.specs.List.{list_any}
use Rattle.tsa_tree.specs.declared.attr.Attr.{Attr}
use Rattle.tsa_tree.specs.declared.item.Item.{Item}
use Rattle.tsa_tree.specs.declared.item.Item.TheVariants as item
use Rattle.tsa_tree.specs.declared.item.StructDef.{StructDef}
use Rattle.tsa_tree.specs.declared.item.EnumDef.{EnumDef}
use Rattle.tsa_tree.specs.declared.stmt.Stmt.{Stmt}
use Rattle.tsa_tree.specs.attributes.Syntax.{attr_shapes}
use Rattle.tsa_tree.specs.expressions.Shapes.{name_shape}
use Rattle.tsa_tree.specs.units.Syntax.{UnitItem}
use Rattle.tsa_tree.specs.units.Shapes.{shape_with, item_shape, item_shapes}
use Rattle.tsa_tree.specs.declared.meaning.Tag.TheVariants as kept
use Rattle.tsa_tree.specs.types.Units.{Tags, with_tag, tags_behind, is_capability, is_marked, locks_of}
use Rattle.tsa_base.proofs.Numbers.{plus_one}

-- an item is no struct
abbrev NoStruct : Item → Type 0
NoStruct x = (d : StructDef) → x ≡ item.Structure d → ⊥

-- an item is no enum
abbrev NoEnum : Item → Type 0
NoEnum x = (d : EnumDef) → x ≡ item.Enumeration d → ⊥

-- going past an item: the tags and the number that lead to the same tags of the unit
abbrev pub Passes : Tags → ℕ → Item → Tags → ℕ → Type 0
Passes tags n x known m = (rest : List UnitItem) → tags_behind known m rest ≡ tags_behind tags n (item_shape x ∷ rest)

module _ (tags : Tags) (n : ℕ) where
  -- a struct gives its tag a meaning, and takes a number
  pub structure_passes : (d : StructDef) → Passes tags n (item.Structure d) (with_tag (option_map name_shape d.tag) (kept.Structure n) tags) (n + 1)
  unfolding tags_behind
  structure_passes d rest = ap (λ m. tags_behind (with_tag (option_map name_shape d.tag) (kept.Structure n) tags) m rest) (sym (plus_one n))

  -- an enum gives its tag a meaning
  pub enumeration_passes : (d : EnumDef) → Passes tags n (item.Enumeration d) (with_tag (option_map name_shape d.tag) (kept.Enumeration d.span.from) tags) n
  unfolding tags_behind
  enumeration_passes d rest = refl

  -- any other item gives none
  pub other_passes : (x : Item) → NoStruct x → NoEnum x → Passes tags n x tags n
  unfolding tags_behind
  other_passes (item.Structure d) s e rest = absurd (s d refl)
  other_passes (item.Alias d) s e rest = refl
  other_passes (item.Enumeration d) s e rest = absurd (e d refl)
  other_passes (item.Global d) s e rest = refl
  other_passes (item.Function f) s e rest = by_body f.body
    where
      by_body : (b : Option (Bor (List Stmt))) → tags_behind tags n rest ≡ tags_behind tags n (shape_with f (option_map (λ x. x.now) b) ∷ rest)
      by_body None = refl
      by_body (Some b) = refl

-- after the last item all tags are known
pub tags_end : (tags : Tags) (n : ℕ) (items : List Item) (i : ℕ) → drop i items ≡ [] → tags_behind tags n (item_shapes (drop i items)) ≡ tags
unfolding tags_behind
tags_end tags n items i e = ap (λ xs. tags_behind tags n (item_shapes xs)) e

-- a struct is a lock or not
locks_structure : (d : StructDef) (rest : List UnitItem) → locks_of (item_shape (item.Structure d) ∷ rest) ≡ is_marked (attr_shapes d.attrs.now) ∷ locks_of rest
unfolding locks_of
locks_structure d rest = refl

-- any other item adds none
locks_other : (x : Item) (rest : List UnitItem) → NoStruct x → locks_of (item_shape x ∷ rest) ≡ locks_of rest
unfolding locks_of
locks_other (item.Structure d) rest s = absurd (s d refl)
locks_other (item.Alias d) rest s = refl
locks_other (item.Enumeration d) rest s = refl
locks_other (item.Global d) rest s = refl
locks_other (item.Function f) rest s = by_body f.body
  where
    by_body : (b : Option (Bor (List Stmt))) → locks_of (shape_with f (option_map (λ x. x.now) b) ∷ rest) ≡ locks_of rest
    by_body None = refl
    by_body (Some b) = refl

module _ (locks : List Bool) (items : List Item) (i : ℕ) where
  -- the locks among the items from one on, after those that are known
  abbrev locks_from : List Bool → ℕ → List Bool
  locks_from known j = known ++ locks_of (item_shapes (drop j items))

  -- after the last item they are all known
  pub locks_end : drop i items ≡ [] → locks_from locks i ≡ locks
  unfolding locks_of
  locks_end e = ap (λ xs. locks ++ locks_of (item_shapes xs)) e ∙ append-nil locks

  module _ (x : Item) (at_i : drop i items ≡ x ∷ drop (suc i) items) where
    -- going past a struct changes none of them
    pub locks_next_structure : (d : StructDef) → x ≡ item.Structure d → (known : List Bool) → known ≡ locks ++ is_marked (attr_shapes d.attrs.now) ∷ []
        → locks_from known (i + 1) ≡ locks_from locks i
    locks_next_structure d is known k =
        ap (λ t. locks_from t (i + 1)) k ∙ ap (locks_from (locks ++ is_marked (attr_shapes d.attrs.now) ∷ [])) (sym (plus_one i))
        ∙ append_assoc locks (is_marked (attr_shapes d.attrs.now) ∷ []) (locks_of (item_shapes (drop (suc i) items)))
        ∙ sym (ap (λ xs. locks ++ locks_of (item_shapes xs)) at_i ∙ ap (λ y. locks ++ locks_of (item_shape y ∷ item_shapes (drop (suc i) items))) is
        ∙ ap (λ l. locks ++ l) (locks_structure d (item_shapes (drop (suc i) items))))

    -- nor past any other item
    pub locks_next_other : NoStruct x → (known : List Bool) → known ≡ locks → locks_from known (i + 1) ≡ locks_from locks i
    locks_next_other s known k =
        ap (λ t. locks_from t (i + 1)) k ∙ ap (locks_from locks) (sym (plus_one i))
        ∙ sym (ap (λ xs. locks ++ locks_of (item_shapes xs)) at_i ∙ ap (λ l. locks ++ l) (locks_other x (item_shapes (drop (suc i) items)) s))

-- attributes make a struct a lock where one of them does
pub any_marks : (attrs : List Attr) → list_any (λ a. is_capability a.kind) attrs ≡ is_marked (attr_shapes attrs)
any_marks [] = refl
any_marks (a ∷ rest) = ap (λ b. is_capability a.kind || b) (any_marks rest)
