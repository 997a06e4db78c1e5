-- Units in the profile and out of it, each with the first premise that fails and the place where that is told.
use Rattle.std.specs.Prelude.{◌≡◌, ℕ, ◌+◌, List, ◌++◌, length, Option, Some, None, option_map, codes}
use Rattle.tsa_lex.specs.Quick.{quick_tokens_of}
use Rattle.tsa_tree.specs.types.Texts.{unit_in}
use Rattle.tsa_profile_accesses.specs.declared.premise.Failure.{Failure}
use Rattle.tsa_profile_accesses.specs.declared.premise.ProfileCode.{ProfileCode}
use Rattle.tsa_profile_accesses.specs.declared.premise.ProfileCode.TheVariants.{PF1, PF2, PF3, PF4, PF5, PF6, PF7, PF8, PF9}
use Rattle.tsa_profile_items.specs.Units.{refusal_of_profile}

-- locks, functions that take and try them, and what they guard
abbrev prelude : List ℕ
prelude =
    codes "struct CAPABILITY(\"m\") l { int s; }; struct a { struct l m; int x GUARDED_BY(m); int y[2] GUARDED_BY(m); struct a *const next; struct a *other; }; "
    ++ (codes "struct l mu, *vp; int n GUARDED_BY(mu); int k; struct a g, b[2], h GUARDED_BY(mu); "
    ++ codes "int t(struct l *m) TRY_ACQUIRE(1, m); void take(struct l *m) ACQUIRE(m); int ask(int i); void with(struct a *q) REQUIRES(q->m) { ; } ")

abbrev told : Failure → ProfileCode × ℕ
told f = (f.code, f.span.from)

abbrev judged : List ℕ → Option (ProfileCode × ℕ)
judged text = option_map told (refusal_of_profile (unit_in (quick_tokens_of (prelude ++ text))))

-- a text is in the profile, or is refused where its second part begins
abbrev pub Fits : List ℕ → Type 0
Fits text = judged text ≡ None

abbrev pub Refused : ProfileCode → List ℕ → List ℕ → Type 0
Refused code before rest = judged (before ++ rest) ≡ Some (code, length prelude + length before)

-- the same of the statements of a body
abbrev pub FitsInside : List ℕ → Type 0
FitsInside text = Fits (codes "void f(struct a *q, int i) { " ++ (text ++ codes " }"))

abbrev pub RefusedInside : ProfileCode → List ℕ → List ℕ → Type 0
RefusedInside code before rest = Refused code (codes "void f(struct a *q, int i) { " ++ before) (rest ++ codes " }")

pub record ProfilesAreAsWritten : Type 0 where
  -- where calls stand
  pub calls : FitsInside (codes "ask(i); int c = ask(1); c = ask(2); if (ask(3) == 7) ; while (!ask(4)) ; for (; 0 != ask(5); ) ; do ; while (ask(k));")
  pub call_given : Fits (codes "int f(void) { return ask(1); }")
  pub call_inside : RefusedInside PF1 (codes "k = 1 + ") (codes "ask(i);")
  pub call_of_a_call : RefusedInside PF1 (codes "ask(") (codes "ask(i));")
  pub call_switched : RefusedInside PF1 (codes "switch (") (codes "ask(i)) { }")
  pub call_under_two : RefusedInside PF1 (codes "if (!!") (codes "ask(i)) ;")
  pub call_beside_a_variable : RefusedInside PF1 (codes "if (") (codes "ask(i) == k) ;")
  pub call_as_an_index : RefusedInside PF1 (codes "g.y[") (codes "ask(1)] = 2;")
  -- tries
  pub tries : FitsInside (codes "if (t(&mu)) ; while (t(&mu) != 1) ; if (0 == t(&g.m)) ; if (!t(&mu)) ; int ok = t(&mu); if (ok) ;")
  pub try_alone : RefusedInside PF5 (codes "") (codes "t(&mu);")
  pub try_assigned : RefusedInside PF5 (codes "k = ") (codes "t(&mu);")
  pub try_kept_in_what_changes : RefusedInside PF5 (codes "int ok = ") (codes "t(&mu); ok = 1;")
  pub try_kept_in_another : RefusedInside PF5 (codes "unsigned ok = ") (codes "t(&mu);")
  pub try_compared : RefusedInside PF8 (codes "if (") (codes "t(&mu) == 2) ;")
  pub try_compared_elsewhere : RefusedInside PF8 (codes "k = ") (codes "t(&mu) != -1;")
  -- what has no path
  pub access_by_what_changes : RefusedInside PF2 (codes "q = q->other; ") (codes "q->x = 1;")
  pub access_by_a_read_index : RefusedInside PF2 (codes "k = ") (codes "b[k].x;")
  pub access_without_a_guard : FitsInside (codes "q = q->other; k = b[k].m.s;")
  pub call_by_what_changes : RefusedInside PF2 (codes "") (codes "with(q->other);")
  pub call_by_a_path : FitsInside (codes "with(q->next); with(&b[i]); take(&q->next->m);")
  pub guard_by_what_changes : Refused PF2 (codes "int w GUARDED_BY(") (codes "vp);")
  pub member_by_what_changes : Refused PF2 (codes "struct c { struct l *p; int w GUARDED_BY(") (codes "p); };")
  pub requires_what_changes : Refused PF2 (codes "void f(struct a *q) REQUIRES(mu, ") (codes "q->m) { q = q; }")
  pub requires_of_a_prototype : Refused PF2 (codes "void f(struct a *q) REQUIRES(") (codes "q->m); void f(struct a *r) { r = r; }")
  pub order_of_locks : Fits (codes "struct l o ACQUIRED_BEFORE(b[k].m, *vp) ACQUIRED_AFTER(mu, mu);")
  pub order_of_a_call : Refused PF1 (codes "struct l o ACQUIRED_BEFORE(b[") (codes "ask(1)].m);")
  pub order_of_what_is_guarded : Refused PF3 (codes "struct l o ACQUIRED_BEFORE(") (codes "&h.m);")
  -- addresses
  pub address_inside_a_guard : RefusedInside PF3 (codes "take(") (codes "&h.m);")
  pub address_behind_a_guard : FitsInside (codes "take(&h.next->m);")
  pub address_in_an_attribute : Refused PF3 (codes "void f(void) REQUIRES(") (codes "&h.m) { ; }")
  pub address_in_an_initialiser : Refused PF3 (codes "struct l *w = ") (codes "&h.m;")
  -- locals and parameters
  pub local_struct : RefusedInside PF4 (codes "struct a ") (codes "c;")
  pub local_array : RefusedInside PF4 (codes "int ") (codes "c[2];")
  pub param_struct : Refused PF4 (codes "void f(struct a ") (codes "c) { ; }")
  -- functions
  pub without_a_body : Refused PF6 (codes "void ") (codes "f(struct a *q);")
  pub of_two_locks : Refused PF6 (codes "void ") (codes "f(struct l *p, struct l *q) ACQUIRE(p);")
  pub whose_body_comes : Fits (codes "void f(struct a *q); void f(struct a *q) { ; }")
  pub generic_with_a_body : Refused PF7 (codes "void f(void) ") (codes "RELEASE_GENERIC(mu) { ; }")
  pub try_with_a_body : Fits (codes "int f(void) TRY_ACQUIRE(1, mu) { if (t(&mu)) return 1; return 0; }")
  pub try_of_no_int : Refused PF7 (codes "unsigned f(void) ") (codes "TRY_ACQUIRE(1, mu) { return 0; }")
  pub try_of_two_values : Refused PF7 (codes "int f(void) TRY_ACQUIRE(1, mu) ") (codes "TRY_ACQUIRE(0, g.m) { return 0; }")
  pub try_of_another_value : Refused PF7 (codes "int f(int i) TRY_ACQUIRE(1, mu) { ") (codes "return i; }")
  pub named_twice : Refused PF9 (codes "void f(struct l *m) REQUIRES(mu, m) ACQUIRE(") (codes "*m) { ; }")
  pub two_elements : Fits (codes "void f(void) REQUIRES(b[0].m, b[1].m) EXCLUDES(b[0].m) { ; }")
