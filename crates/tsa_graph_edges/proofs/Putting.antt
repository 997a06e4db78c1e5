-- What a walk comes to at a statement, by what it came to in the parts of it.
use Rattle.std.proofs.Common.{◌≡◌, ◌∙◌, ℕ, zero, suc, ◌+◌, ◌-◌, ◌*◌, ◌<◌, ◌≤◌, arith, Result, Ok, Err, IfOk, get_or, drop, List, [], ◌∷◌}
use Rattle.std.proofs.Common.{◌++◌, length, Option, None, refl, sym, ap, ap₂, subst, append_assoc}
use Rattle.std.proofs.lemmas.List.{append-nil}
use Rattle.std.proofs.Math.Seq.{drop-cons}
use Rattle.tsa_base.specs.declared.token.Span.{Span}
use Rattle.tsa_base.specs.declared.traits.NoMemory.{NoMemory}
use Rattle.tsa_tree.specs.declarations.Syntax.{Declaration}
use Rattle.tsa_tree.proofs.statements.Trees.{tall, talls, shape_of}
use Rattle.tsa_tree.specs.declared.stmt.Stmt.{Stmt}
use Rattle.tsa_tree.specs.expressions.Syntax.{Expression, Identifier}
use Rattle.tsa_tree.specs.points.Syntax.{points_of_init, points_of_step}
use Rattle.tsa_tree.specs.statements.Shapes.{stmt_shapes}
use Rattle.tsa_tree.specs.statements.Syntax.{Simple, ForInit, Statement, block, empty, local, simple, if_alone, if_else, while_loop}
use Rattle.tsa_tree.specs.statements.Syntax.{do_loop, for_loop, switch, case, otherwise, label, break, continue, goto, return, Statements}
use Rattle.tsa_tree.specs.statements.Syntax.{none, more}
use Rattle.tsa_tree.specs.types.DeclaredTypes.{value_in}
use Rattle.tsa_tree.specs.types.Scopes.{Scope, found, context_of, further}
use Rattle.tsa_tree.specs.types.Statements.{behind, behind_init}
use Rattle.tsa_tree.specs.types.Targets.{declared_in, Labels}
use Rattle.tsa_core.proofs.Counts.{count_if, count_do, count_for, count_more}
use Rattle.tsa_core.specs.Control.{Edge, edge, Next, or_follow, count, count_all, first, first_all, test_at, step_at, inner_at, again_at}
use Rattle.tsa_core.specs.Control.{labels, labels_all, Cases, a_case, cases, cases_all, Targets, label_at, tested_edges, for_edges}
use Rattle.tsa_core.specs.Control.{step_edges, switch_edges, edges, edges_all, body_edges}
use Rattle.tsa_graph_edges.proofs.SameControl.{Kept, kept_same, kept_further, kept_behind, kept_init, edges_alike, all_edges_alike}
use Rattle.tsa_graph_edges.proofs.SameControl.{for_alike, jumps}
use Rattle.tsa_graph_edges.specs.Successors.{Ahead, ahead, with_edges, with_cases, with_labels, set_edges, set_cases, with_statement}
use Rattle.tsa_graph_edges.specs.Successors.{with_statements, whole_body}
use Rattle.tsa_graph_edges.specs.declared.walk.Spot.{Spot}
use Rattle.tsa_graph_edges.specs.declared.walk.Start.{Start}
use Rattle.tsa_graph_edges.specs.Spots.{targets_at, IsPut, ArePut}

abbrev pub start : ℕ → ℕ → Start
start at first = record { at = at; first = first }

abbrev pub spot_at : Spot → (end follow break_to continue_to : ℕ) → Spot
spot_at p end follow b c = record { scope = p.scope; labels = p.labels; end = end; follow = follow; break_to = b; continue_to = c }

same_ahead : (es fs : List Edge) (cs ds : Cases) (ls ms : Labels) → es ≡ fs → cs ≡ ds → ls ≡ ms → ahead es cs ls ≡ ahead fs ds ms
same_ahead es fs cs ds ls ms e c l = ap (λ x. ahead x cs ls) e ∙ ap (λ x. ahead fs x ls) c ∙ ap (λ x. ahead fs ds x) l

more_edges : (es fs gs : List Edge) (cs : Cases) (ls : Labels) → ahead (es ++ (fs ++ gs)) cs ls ≡ ahead ((es ++ fs) ++ gs) cs ls
more_edges es fs gs cs ls = ap (λ xs. ahead xs cs ls) (sym (append_assoc es fs gs))

-- the first point of two lists of points
two_firsts : (a b at follow : ℕ) → or_follow (a + b) at follow ≡ or_follow a at (or_follow b (at + a) follow)
two_firsts zero b at follow = let l : 0 + b ≡ b = omega arith in let r : at ≡ at + 0 = omega arith in ap (λ n. or_follow n at follow) l ∙ ap (λ n. or_follow b n follow) r
two_firsts (suc a) b at follow = let l : suc a + b ≡ suc (a + b) = omega arith in ap (λ n. or_follow n at follow) l

module _ (p : Spot) where
  abbrev here : Scope
  here = p.scope.now

  abbrev t : Targets
  t = targets_at p

  -- the same in a scope that is left out, since it knows the same constants
  edges_there : (x : Scope) → Kept here x → (s : Statement) (at follow b c : ℕ)
      → edges here s at follow (record { break_to = b; continue_to = c; labels = p.labels.now }) ≡ edges x s at follow (record { break_to = b; continue_to = c; labels = p.labels.now })
  edges_there x k s at follow b c = edges_alike here p.labels.now p.labels.now (λ name. refl) here x (kept_same here) k s at follow b c

  all_edges_there : (x : Scope) → Kept here x → (ss : Statements) (at follow b c : ℕ)
      → edges_all here ss at follow (record { break_to = b; continue_to = c; labels = p.labels.now }) ≡ edges_all x ss at follow (record { break_to = b; continue_to = c; labels = p.labels.now })
  all_edges_there x k ss at follow b c = all_edges_alike here p.labels.now p.labels.now (λ name. refl) here x (kept_same here) k ss at follow b c

  -- a part that begins there
  moved : (s : Statement) (n m follow : ℕ) (u : Targets) (old new : Ahead) → n ≡ m → new ≡ with_statement here s n follow u old → new ≡ with_statement here s m follow u old
  moved s n m follow u old new e h = h ∙ ap (λ k. with_statement here s k follow u old) e

  module _ (old new : Ahead) where
    -- Statements of one point.
    module _ (s : Start) (at : s.at + 1 ≡ p.end) (first : s.first ≡ s.at) where
      pub put_empty : (span : Span) → new ≡ with_edges (edge s.at Next p.follow ∷ []) old → IsPut p (empty span) s old new
      unfolding edges edges_all cases cases_all labels labels_all
      put_empty span is = record { ends = at; begins = first; put = is }

      pub put_local : (d : Declaration) → new ≡ with_edges (edge s.at Next p.follow ∷ []) old → IsPut p (local d) s old new
      unfolding edges edges_all cases cases_all labels labels_all
      put_local d is = record { ends = at; begins = first; put = is }

      pub put_simple : (x : Simple) → new ≡ with_edges (edge s.at Next p.follow ∷ []) old → IsPut p (simple x) s old new
      unfolding edges edges_all cases cases_all labels labels_all
      put_simple x is = record { ends = at; begins = first; put = is }

      pub put_break : (span : Span) → new ≡ with_edges (edge s.at Next p.break_to ∷ []) old → IsPut p (break span) s old new
      unfolding edges edges_all cases cases_all labels labels_all
      put_break span is = record { ends = at; begins = first; put = is }

      pub put_continue : (span : Span) → new ≡ with_edges (edge s.at Next p.continue_to ∷ []) old → IsPut p (continue span) s old new
      unfolding edges edges_all cases cases_all labels labels_all
      put_continue span is = record { ends = at; begins = first; put = is }

      pub put_goto : (name : Identifier) (span : Span) → new ≡ with_edges (edge s.at Next (label_at t name.text p.follow) ∷ []) old → IsPut p (goto name span) s old new
      unfolding edges edges_all cases cases_all labels labels_all
      put_goto name span is = record { ends = at; begins = first; put = is }

      pub put_return : (given : Option Expression) (span : Span) → new ≡ old → IsPut p (return given span) s old new
      unfolding edges edges_all cases cases_all labels labels_all
      put_return given span is = record { ends = at; begins = first; put = is }

    pub put_block : (s : Start) (items : Statements) (span : Span) → ArePut p items s old new → IsPut p (block items span) s old new
    unfolding edges edges_all cases cases_all labels labels_all
    put_block s items span h = record { ends = h.ends; begins = h.begins; put = h.put }

    pub put_if : (at : ℕ) (mid : Ahead) (inner : Start) (test : Expression) (arm : Statement) (span : Span) → IsPut p arm inner old mid → at + 1 ≡ inner.at
        → new ≡ with_edges (tested_edges here test at inner.first p.follow) mid → IsPut p (if_alone test arm span) (start at at) old new
    unfolding edges edges_all cases cases_all labels labels_all
    put_if at mid inner test arm span h e is =
        let n : inner.at ≡ suc at = omega (arith, e) in
        record {
          ends = omega (arith, h.ends, n);
          begins = refl;
          put = is ∙ ap₂ (λ f a. with_edges (tested_edges here test at f p.follow) a) (h.begins ∙ ap (λ k. first arm k p.follow) n) (moved arm inner.at (suc at) p.follow t old mid n h.put)
              ∙ more_edges (tested_edges here test at (first arm (suc at) p.follow) p.follow) (edges here arm (suc at) p.follow t) old.edges (cases here arm (suc at) p.follow ++ old.cases) (labels arm (suc at) p.follow ++ old.labels);
        }

    pub put_both : (at : ℕ) (one two : Ahead) (o inner : Start) (test : Expression) (arm other : Statement) (span : Span) (q : Spot) → IsPut p other o old one
        → q ≡ spot_at p o.at p.follow p.break_to p.continue_to → IsPut q arm inner one two → at + 1 ≡ inner.at
        → new ≡ with_edges (tested_edges here test at inner.first o.first) two → IsPut p (if_else test arm other span) (start at at) old new
    unfolding edges edges_all cases cases_all labels labels_all
    put_both at one two o inner test arm other span q h e g n is =
        let g' = subst (λ x. IsPut x arm inner one two) e g in
        let f = p.follow in
        let m : inner.at ≡ suc at = omega (arith, n) in
        let mid = suc at + count arm in
        let l : o.at ≡ mid = omega (arith, g'.ends, m) in
        let c = count_if test arm other span in
        let x = further (declared_in arm) here in
        let T = tested_edges here test at (first arm (suc at) f) (first other mid f) in
        let A = edges here arm (suc at) f t in
        let O = edges here other mid f t in
        record {
          ends = omega (arith, h.ends, l, c);
          begins = refl;
          put = is ∙ ap₂ (λ a b. with_edges (tested_edges here test at a b) two) (g'.begins ∙ ap (λ k. first arm k f) m) (h.begins ∙ ap (λ k. first other k f) l)
              ∙ ap (λ a. with_edges T a) (moved arm inner.at (suc at) f t one two m g'.put ∙ ap (λ a. with_statement here arm (suc at) f t a) (moved other o.at mid f t old one l h.put))
              ∙ same_ahead (T ++ (A ++ (O ++ old.edges))) ((T ++ (A ++ edges x other mid f t)) ++ old.edges)
              (cases here arm (suc at) f ++ (cases here other mid f ++ old.cases)) ((cases here arm (suc at) f ++ cases here other mid f) ++ old.cases)
              (labels arm (suc at) f ++ (labels other mid f ++ old.labels)) ((labels arm (suc at) f ++ labels other mid f) ++ old.labels)
              (ap (λ xs. T ++ xs) (sym (append_assoc A O old.edges)) ∙ sym (append_assoc T (A ++ O) old.edges)
              ∙ ap (λ xs. (T ++ (A ++ xs)) ++ old.edges) (edges_there x (kept_further here here (declared_in arm) (kept_same here)) other mid f p.break_to p.continue_to))
              (sym (append_assoc (cases here arm (suc at) f) (cases here other mid f) old.cases)) (sym (append_assoc (labels arm (suc at) f) (labels other mid f) old.labels));
        }

    pub put_while : (at : ℕ) (mid : Ahead) (inner : Start) (test : Expression) (body : Statement) (span : Span) (q : Spot) → q ≡ spot_at p p.end at p.follow at → IsPut q body inner old mid
        → inner.at ≡ at + 1 → new ≡ with_edges (tested_edges here test at inner.first p.follow) mid → IsPut p (while_loop test body span) (start at at) old new
    unfolding edges edges_all cases cases_all labels labels_all
    put_while at mid inner test body span q e g n is =
        let u = targets_at (spot_at p p.end at p.follow at) in
        let h = subst (λ x. IsPut x body inner old mid) e g in
        let m : inner.at ≡ suc at = omega (arith, n) in
        record {
          ends = omega (arith, h.ends, m);
          begins = refl;
          put = is ∙ ap₂ (λ f a. with_edges (tested_edges here test at f p.follow) a) (h.begins ∙ ap (λ k. first body k at) m) (moved body inner.at (suc at) at u old mid m h.put)
              ∙ more_edges (tested_edges here test at (first body (suc at) at) p.follow) (edges here body (suc at) at u) old.edges (cases here body (suc at) at ++ old.cases) (labels body (suc at) at ++ old.labels);
        }

    -- The body's edges stand alone at first, and are put before those of the test.
    pub put_do : (at : ℕ) (zero_th one two three : Ahead) (none_yet outer bodys : List Edge) (inner : Start) (test : Expression) (body : Statement) (span : Span) (q : Spot)
        → at + 1 ≡ p.end → zero_th ≡ set_edges none_yet old → none_yet ≡ [] → q ≡ spot_at p at at p.follow at → IsPut q body inner zero_th one → outer ≡ old.edges
        → two ≡ set_edges outer one → bodys ≡ one.edges → three ≡ with_edges (tested_edges here test at inner.first p.follow) two → new ≡ with_edges bodys three
        → IsPut p (do_loop body test span) (start inner.at inner.at) old new
    unfolding edges edges_all cases cases_all labels labels_all
    put_do at zero_th one two three none_yet outer bodys inner test body span q n is0 nil e g out is2 bod is3 is4 =
        let h = subst (λ x. IsPut x body inner zero_th one) e g in
        let a = inner.at in
        let back = a + count body in
        let f = p.follow in
        let l : at ≡ back = omega (arith, h.ends) in
        let c = count_do body test span in
        let u : ℕ → Targets = λ k. record { break_to = f; continue_to = k; labels = p.labels.now } in
        let B = edges here body a back (u back) in
        let T = tested_edges here test back (first body a back) f in
        let alone : zero_th ≡ set_edges [] old = is0 ∙ ap (λ es. set_edges es old) nil in
        let made : one ≡ with_statement here body a back (u back) (set_edges [] old) =
        h.put ∙ ap (λ k. with_statement here body a k (u k) zero_th) l ∙ ap (λ x. with_statement here body a back (u back) x) alone
        in
        let tested : three ≡ with_edges T (set_edges old.edges one) =
        is3 ∙ ap₂ (λ k x. with_edges (tested_edges here test k inner.first f) x) l (is2 ∙ ap (λ es. set_edges es one) out)
        ∙ ap (λ k. with_edges (tested_edges here test back k f) (set_edges old.edges one)) (h.begins ∙ ap (λ k. first body a k) l)
        in
        record {
          ends = omega (arith, n, l, c);
          begins = ap (λ k. or_follow k a f) (sym c);
          put = is4 ∙ ap₂ (λ es x. with_edges es x) (bod ∙ ap (λ x. x.edges) made ∙ append-nil B) (tested ∙ ap (λ x. with_edges T (set_edges old.edges x)) made)
              ∙ more_edges B T old.edges (cases here body a back ++ old.cases) (labels body a back ++ old.labels);
        }

    pub put_for : (at x y z w s : ℕ) (mid : Ahead) (inner : Start) (init : ForInit) (test : Option Expression) (step : Option Simple) (body : Statement) (span : Span) (q : Spot)
        → y ≡ x + 1 → s ≡ length (points_of_step step) → w ≡ or_follow s y x → q ≡ spot_at p p.end w p.follow w → IsPut q body inner old mid
        → z ≡ y + s → inner.at ≡ z → at + length (points_of_init init) ≡ x
        → new ≡ with_edges (step_edges (length (points_of_init init)) at x) (with_edges (for_edges here test x inner.first p.follow) (with_edges (step_edges (length (points_of_step step)) (x + 1) x) mid))
        → IsPut p (for_loop init test step body span) (start at at) old new
    unfolding edges edges_all cases cases_all labels labels_all
    put_for at x y z w s mid inner init test step body span q ey es ew e g ez ei ex is =
        let h = subst (λ r. IsPut r body inner old mid) e g in
        let f = p.follow in
        let I = length (points_of_init init) in
        let S = length (points_of_step step) in
        let X = test_at init at in
        let Y = step_at init at in
        let Z = inner_at init step at in
        let W = again_at init step at in
        let c = count_for init test step body span in
        let u : ℕ → Targets = λ k. record { break_to = f; continue_to = k; labels = p.labels.now } in
        let lx : x ≡ X = sym ex in
        let ly : x + 1 ≡ Y = omega (arith, ex) in
        let lz : inner.at ≡ Z = omega (arith, ez, ei, ey, es, ex) in
        let lw : w ≡ W = ew ∙ ap (λ k. or_follow k y x) es ∙ ap₂ (λ k m. or_follow S k m) (ey ∙ ly) lx in
        let there = behind_init here init in
        let kept = kept_init here here init (kept_same here) in
        let made : mid ≡ with_statement here body Z W (u W) old = h.put ∙ ap₂ (λ k m. with_statement here body k m (u m) old) lz lw in
        let one = step_edges I at X in
        let three = step_edges S Y X in
        let two = for_edges here test X (first body Z W) f in
        let four = edges here body Z W (u W) in
        let begun : inner.first ≡ first body Z W = h.begins ∙ ap₂ (λ k m. first body k m) lz lw in
        let laid : new ≡ ahead (one ++ (two ++ (three ++ (four ++ old.edges)))) (cases here body Z W ++ old.cases) (labels body Z W ++ old.labels) =
        is ∙ ap₂ (λ k m. with_edges (step_edges I at k) (with_edges (for_edges here test k inner.first f) (with_edges (step_edges S m k) mid))) lx ly
        ∙ ap₂ (λ k m. with_edges one (with_edges (for_edges here test X k f) (with_edges three m))) begun made
        in
        record {
          ends = omega (arith, h.ends, lz, c, ex);
          begins = ap (λ k. or_follow k at f) (sym c);
          put = laid ∙ ap (λ es. ahead es (cases here body Z W ++ old.cases) (labels body Z W ++ old.labels))
              (ap (λ es. one ++ (two ++ es)) (sym (append_assoc three four old.edges)) ∙ ap (λ es. one ++ es) (sym (append_assoc two (three ++ four) old.edges))
              ∙ sym (append_assoc one (two ++ (three ++ four)) old.edges)
              ∙ ap₂ (λ b d. (one ++ (b ++ (three ++ d))) ++ old.edges) (for_alike here p.labels.now p.labels.now (λ name. refl) here there (kept_same here) kept test X (first body Z W) f)
              (edges_there there kept body Z W f W));
        }

    pub put_switch : (at : ℕ) (zero_th one two : Ahead) (none_yet outer : Cases) (inner : Start) (key : Expression) (body : Statement) (span : Span) (q : Spot)
        → zero_th ≡ set_cases none_yet old → none_yet ≡ [] → q ≡ spot_at p p.end p.follow p.follow p.continue_to → IsPut q body inner zero_th one → at + 1 ≡ inner.at
        → two ≡ with_edges (switch_edges one.cases at p.follow) one → outer ≡ old.cases → new ≡ set_cases outer two → IsPut p (switch key body span) (start at at) old new
    unfolding edges edges_all cases cases_all labels labels_all
    put_switch at zero_th one two none_yet outer inner key body span q is0 nil e g n is2 out is3 =
        let h = subst (λ r. IsPut r body inner zero_th one) e g in
        let f = p.follow in
        let m : inner.at ≡ suc at = omega (arith, n) in
        let u = targets_at (spot_at p p.end f f p.continue_to) in
        let alone : zero_th ≡ set_cases [] old = is0 ∙ ap (λ cs. set_cases cs old) nil in
        let C = cases here body (suc at) f in
        let B = edges here body (suc at) f u in
        let made : one ≡ with_statement here body (suc at) f u (set_cases [] old) =
        moved body inner.at (suc at) f u zero_th one m h.put ∙ ap (λ x. with_statement here body (suc at) f u x) alone
        in
        let gathered : one.cases ≡ C = ap (λ x. x.cases) made ∙ append-nil C in
        record {
          ends = omega (arith, h.ends, m);
          begins = refl;
          put = is3 ∙ ap₂ (λ cs x. set_cases cs x) out (is2 ∙ ap₂ (λ cs x. with_edges (switch_edges cs at f) x) gathered made)
              ∙ more_edges (switch_edges C at f) B old.edges old.cases (labels body (suc at) f ++ old.labels);
        }

    pub put_case : (mid : Ahead) (inner : Start) (key : Expression) (body : Statement) (span : Span) → IsPut p body inner old mid
        → new ≡ with_cases (a_case (value_in (context_of here) key) inner.first) mid → IsPut p (case key body span) inner old new
    unfolding edges edges_all cases cases_all labels labels_all
    put_case mid inner key body span h is =
        let v = value_in (context_of here) key in
        let f = first body inner.at p.follow in
        let C = cases here body inner.at p.follow in
        record {
          ends = h.ends;
          begins = h.begins;
          put = is ∙ ap₂ (λ k x. with_cases (a_case v k) x) h.begins h.put
              ∙ ap (λ cs. ahead (edges here body inner.at p.follow t ++ old.edges) cs (labels body inner.at p.follow ++ old.labels)) (sym (append_assoc (a_case v f) C old.cases));
        }

    pub put_otherwise : (mid : Ahead) (inner : Start) (body : Statement) (span : Span) → IsPut p body inner old mid
        → new ≡ with_cases ((None, inner.first) ∷ []) mid → IsPut p (otherwise body span) inner old new
    unfolding edges edges_all cases cases_all labels labels_all
    put_otherwise mid inner body span h is =
        record { ends = h.ends; begins = h.begins; put = is ∙ ap₂ (λ k x. with_cases ((None, k) ∷ []) x) h.begins h.put }

    pub put_label : (mid : Ahead) (inner : Start) (name : Identifier) (body : Statement) (span : Span) → IsPut p body inner old mid
        → new ≡ with_labels ((name.text, inner.first) ∷ []) mid → IsPut p (label name body span) inner old new
    unfolding edges edges_all cases cases_all labels labels_all
    put_label mid inner name body span h is =
        record { ends = h.ends; begins = h.begins; put = is ∙ ap₂ (λ k x. with_labels ((name.text, k) ∷ []) x) h.begins h.put }

    pub put_more : (mid : Ahead) (s r : Start) (x : Statement) (rest : Statements) (q : Spot) → ArePut p rest r old mid → q ≡ spot_at p r.at r.first p.break_to p.continue_to
        → IsPut q x s mid new → ArePut p (more x rest) s old new
    unfolding edges edges_all cases cases_all labels labels_all
    put_more mid s r x rest q h e g =
        let k = subst (λ y. IsPut y x s mid new) e g in
        let f = p.follow in
        let n = s.at + count x in
        let l : r.at ≡ n = sym k.ends in
        let c = count_more x rest in
        let F = first_all rest n f in
        let begun : r.first ≡ F = h.begins ∙ ap (λ m. first_all rest m f) l in
        let X = edges here x s.at F t in
        let R = edges_all here rest n f t in
        let there = behind here x in
        let kept = kept_behind here here x (kept_same here) in
        let made : new ≡ with_statement here x s.at F t (with_statements here rest n f t old) =
        k.put ∙ ap₂ (λ m y. with_statement here x s.at m t y) begun (h.put ∙ ap (λ m. with_statements here rest m f t old) l)
        in
        let C = cases here x s.at F in
        let D = cases_all here rest n f in
        let L = labels x s.at F in
        let M = labels_all rest n f in
        record {
          ends = omega (arith, h.ends, l, c);
          begins = k.begins ∙ ap (λ m. first x s.at m) begun ∙ sym (two_firsts (count x) (count_all rest) s.at f) ∙ ap (λ m. or_follow m s.at f) (sym c);
          put = made ∙ same_ahead (X ++ (R ++ old.edges)) ((X ++ edges_all there rest n f t) ++ old.edges) (C ++ (D ++ old.cases)) ((C ++ D) ++ old.cases) (L ++ (M ++ old.labels)) ((L ++ M) ++ old.labels)
              (sym (append_assoc X R old.edges) ∙ ap (λ es. (X ++ es) ++ old.edges) (all_edges_there there kept rest n f p.break_to p.continue_to))
              (sym (append_assoc C D old.cases)) (sym (append_assoc L M old.labels));
        }

  pub put_none : (old : Ahead) → ArePut p none (start p.end p.follow) old old
  unfolding edges_all cases_all labels_all
  put_none old = record { ends = omega arith; begins = refl; put = refl }

  -- a statement of one point, where there is memory
  pub leaf : (x : Statement) (r : Result Start NoMemory) (to : ℕ) (old new : Ahead)
      → ((s : Start) → s.at + 1 ≡ p.end → s.first ≡ s.at → new ≡ with_edges (edge s.at Next to ∷ []) old → IsPut p x s old new)
      → IfOk r (λ s. s.at + 1 ≡ p.end) → IfOk r (λ s. s.first ≡ s.at) → IfOk r (λ s. new ≡ with_edges (edge s.at Next to ∷ []) old) → IfOk r (λ s. IsPut p x s old new)
  leaf x (Ok s) to old new f a b c = f s a b c
  leaf x (Err e) to old new f a b c = tt

  pub whole_block : (items : Statements) (span : Span) (r : Result Start NoMemory) (old new : Ahead) → IfOk r (λ s. ArePut p items s old new) → IfOk r (λ s. IsPut p (block items span) s old new)
  whole_block items span (Ok s) old new h = put_block old new s items span h
  whole_block items span (Err e) old new h = tt

  pub whole_for : (x y : Statement) (r : Result Start NoMemory) (old new : Ahead) → x ≡ y → IfOk r (λ s. IsPut p y s old new) → IfOk r (λ s. IsPut p x s old new)
  whole_for x y (Ok s) old new e h = subst (λ z. IsPut p z s old new) (sym e) h
  whole_for x y (Err e) old new is h = tt

  pub end_put : (ss : Statements) (s : Start) (old new : Ahead) → ArePut p ss s old new → p.end ≡ count_all ss → p.follow ≡ count_all ss → p.break_to ≡ count_all ss
      → p.continue_to ≡ count_all ss → old ≡ ahead [] [] [] → new ≡ whole_body here p.labels.now ss
  end_put ss s old new h e f b c is =
      let none : s.at ≡ 0 = omega (arith, h.ends, e) in
      let u : ℕ → ℕ → Targets = λ b c. record { break_to = b; continue_to = c; labels = p.labels.now } in
      h.put ∙ ap₂ (λ k a. with_statements here ss k p.follow t a) none is
      ∙ ap (λ f. with_statements here ss 0 f t (ahead [] [] [])) f
      ∙ ap₂ (λ b c. with_statements here ss 0 (count_all ss) (u b c) (ahead [] [] [])) b c

-- Statements in the arena, from the last one on.
pub tall_item : (items : List Stmt) (k : ℕ) (d : Stmt) → k < length items → tall (shape_of (get_or items k d)) ≤ talls (stmt_shapes items)
tall_item [] k d h = omega (arith, h)
tall_item (x ∷ xs) zero d h = omega arith
tall_item (x ∷ xs) (suc k) d h = let i = tall_item xs k d (omega (arith, h)) in omega (arith, i)

pub item_falls : (items : List Stmt) (k : ℕ) (d : Stmt) → k < length items → 3 * tall (shape_of (get_or items k d)) < 3 * talls (stmt_shapes items) + 1
item_falls items k d h = let i = tall_item items k d h in omega (arith, i)

pub item_before : (items : List Stmt) (n : ℕ) (d : Stmt) → 0 < n → n ≤ length items → drop (n - 1) items ≡ get_or items (n - 1) d ∷ drop n items
item_before items n d some within =
    let e : suc (n - 1) ≡ n = omega (arith, some) in
    drop-cons items (n - 1) d (omega (arith, some, within)) ∙ ap (λ k. get_or items (n - 1) d ∷ drop k items) e

-- The whole body.
pub body_is : (s : Scope) (body : Statements) (none_yet names ls : Labels) (one two : Ahead) (es : List Edge)
    → one ≡ whole_body s none_yet body → ((name : List ℕ) → found names name ≡ found ls name) → ls ≡ one.labels
    → two ≡ whole_body s names body → es ≡ two.edges → es ≡ body_edges s body
body_is s body none_yet names ls one two es is1 same listed is2 out =
    let c = count_all body in
    let L = labels_all body 0 c in
    let all : ls ≡ L = listed ∙ ap (λ a. a.labels) is1 ∙ append-nil L in
    out ∙ ap (λ a. a.edges) is2 ∙ append-nil (edges_all s body 0 c (jumps s c c names))
    ∙ all_edges_alike s names L (λ name. same name ∙ ap (λ xs. found xs name) all) s s (kept_same s) (kept_same s) body 0 c c c

-- The whole body, where it has no labels.
pub body_at_once : (s : Scope) (body : Statements) (none_yet : Labels) (one : Ahead) (es : List Edge) → none_yet ≡ []
    → one ≡ whole_body s none_yet body → one.labels ≡ [] → es ≡ one.edges → es ≡ body_edges s body
body_at_once s body none_yet one es unknown is bare out =
    let c = count_all body in
    let L = labels_all body 0 c in
    let same : none_yet ≡ L = unknown ∙ sym (sym (append-nil L) ∙ sym (ap (λ a. a.labels) is) ∙ bare) in
    out ∙ ap (λ a. a.edges) is ∙ append-nil (edges_all s body 0 c (jumps s c c none_yet)) ∙ ap (λ ls. edges_all s body 0 c (jumps s c c ls)) same
