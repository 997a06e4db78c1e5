-- Sums over paths, by the attributes of a call that claim them.
use Rattle.std.proofs.Common.{◌≡◌, ◌∙◌, ℕ, zero, suc, ◌+◌, ◌≤◌, nat_eq, Bool, true, false, ◌&&◌, List, [], ◌∷◌, length, map, filter, Option}
use Rattle.std.proofs.Common.{Some, None, option_and_then, if◌then◌else◌, refl, ap, sym, arith}
use Rattle.std.specs.Prelude.{All, AllPairs, Contains, cond}
use Rattle.tsa_place_model.specs.Ways.{Way}
use Rattle.tsa_core.specs.Programs.{Attr, Program}
use Rattle.tsa_path.specs.Sameness.{same_way}
use Rattle.tsa_path.proofs.PathsApart.{way_equal, way_itself}
use Rattle.tsa_rules.specs.declared.status.Status.{Status}
use Rattle.tsa_rules.specs.declared.status.Status.TheVariants.{Free}
use Rattle.tsa_rules.specs.Attributes.{claim, claim_count, claims, claims_path, is_path}
use Rattle.tsa_sched.specs.declared.event.Mode.{Mode}
use Rattle.tsa_mean.specs.Returns.{if_lock}
use Rattle.tsa_mean.specs.Working.{Locals}
use Rattle.tsa_mean.proofs.Lists.{all_first, all_rest}
use Rattle.tsa_sound.specs.Facts.{IsAmong}
use Rattle.tsa_sound.specs.SettledStatuses.{hold, holds_for, lock_in, lock_named, total, units}
use Rattle.tsa_sound.proofs.Constants.{differ}
use Rattle.tsa_sound.proofs.Sums.{first_in, no_hold, rest_in, total_same}

pub total_plus : {A : Type 0} (f g : A → ℕ) (xs : List A) → total (λ x. f x + g x) xs ≡ total f xs + total g xs
total_plus f g [] = refl
total_plus f g (x ∷ xs) = let more = total_plus f g xs in omega (arith, more)

pub total_zero : {A : Type 0} (f : A → ℕ) (xs : List A) → ((x : A) → Contains xs x → f x ≡ 0) → total f xs ≡ 0
total_zero f [] none = refl
total_zero f (x ∷ xs) none =
    let here : f x ≡ 0 = none x (first_in x xs) in
    let there : total f xs ≡ 0 = total_zero f xs (λ y i. none y (rest_in x y xs i)) in
    omega (arith, here, there)

pub total_mapped : {A B : Type 0} (f : B → ℕ) (g : A → B) (xs : List A) → total f (map g xs) ≡ total (λ x. f (g x)) xs
total_mapped f g [] = refl
total_mapped f g (x ∷ xs) = ap (λ n. f (g x) + n) (total_mapped f g xs)

-- paths of which each stands once
abbrev pub Once : List Way → Type 0
Once paths = AllPairs (λ c d. same_way c d ≡ false) paths

once_rest : (c : Way) (cs : List Way) → Once (c ∷ cs) → Once cs
once_rest c cs once i j d less inside = once (suc i) (suc j) d (omega (arith, less)) (omega (arith, inside))

once_first : (c : Way) (cs : List Way) → Once (c ∷ cs) → (d : Way) → Contains cs d → same_way c d ≡ false
once_first c cs once d i =
    ap (same_way c) (sym i.2) ∙ once 0 (suc i.0) d (omega arith) (let l = i.1 in omega (arith, l))

counts : Bool → ℕ → ℕ
counts b n = if b then n else 0

-- one path counts once
pub total_one : (f : Way → ℕ) (w : Way) (paths : List Way) → Once paths → Contains paths w → total (λ c. if same_way w c then f c else 0) paths ≡ f w
total_one f w [] once i = let l = i.1 in absurd (omega (arith, l))
total_one f w (c ∷ cs) once i = by (same_way w c) refl i (total_one f w cs (once_rest c cs once))
  where
    none : same_way w c ≡ true → (d : Way) → Contains cs d → ◌≡◌ {A = ℕ} (if same_way w d then f d else 0) 0
    none same d j = ap (λ (b : Bool). if b then f d else 0) (ap (λ v. same_way v d) (way_equal w c same) ∙ once_first c cs once d j)

    later : same_way w c ≡ false → Contains (c ∷ cs) w → Contains cs w
    later differs (zero, l, is) = differ (sym differs ∙ ap (λ d. same_way w d) is ∙ way_itself w)
    later differs (suc k, l, is) = (k, omega (arith, l), is)

    by : (b : Bool) → same_way w c ≡ b → Contains (c ∷ cs) w → (Contains cs w → total (λ d. if same_way w d then f d else 0) cs ≡ f w)
        → (if b then f c else 0) + total (λ d. if same_way w d then f d else 0) cs ≡ f w
    by true same i rest =
        let others = total_zero (λ d. if same_way w d then f d else 0) cs (none same) in
        let is : f c ≡ f w = ap f (sym (way_equal w c same)) in
        omega (arith, others, is)
    by false differs i rest = let all = rest (later differs i) in omega (arith, all)

-- an attribute of a list is among some paths, with the path that it claims
module _ (paths : List Way) (once : Once paths) where
  module _ (G : Way → Option Attr → ℕ) (nothing : (c : Way) → G c None ≡ 0) where
    -- what an attribute that claims a path counts for that
    abbrev pub at_path : Attr → Option Way → ℕ
    at_path a None = 0
    at_path a (Some w) = G w (Some a)

    abbrev pub worth : Attr → ℕ
    worth a = if claims a.kind then at_path a a.path else 0

    one_claim : (a : Attr) (b : Bool) → claims a.kind ≡ b → (o : Option Way) → a.path ≡ o → IsAmong paths o
        → total (λ c. if b && is_path c o then G c (Some a) else 0) paths ≡ (if b then at_path a o else 0)
    one_claim a false e o is among = total_zero (λ c. 0) paths (λ c i. refl)
    one_claim a true e None is among = total_zero (λ c. 0) paths (λ c i. refl)
    one_claim a true e (Some w) is among = total_one (λ c. G c (Some a)) w paths once (among w refl)

    none_claims : (ats : List Attr) (c : Way) → claim_count ats c ≡ 0 → claim ats c ≡ None
    none_claims [] c e = refl
    none_claims (a ∷ rest) c e = by (claims_path c a) e (none_claims rest c)
      where
        by : (b : Bool) → length (if b then a ∷ filter (claims_path c) rest else filter (claims_path c) rest) ≡ 0 → (claim_count rest c ≡ 0 → claim rest c ≡ None)
            → cond b (Some a) (claim rest c) ≡ None
        by true e rest = absurd (omega (arith, e))
        by false e rest = rest e

    by_first : (a : Attr) (rest : List Attr) (c : Way) (b : Bool) → length (if b then a ∷ filter (claims_path c) rest else filter (claims_path c) rest) ≤ 1
        → G c (cond b (Some a) (claim rest c)) ≡ (if b then G c (Some a) else 0) + G c (claim rest c)
    by_first a rest c true alone =
        let none : claim_count rest c ≡ 0 = omega (arith, alone) in
        let free : G c (claim rest c) ≡ 0 = ap (G c) (none_claims rest c none) ∙ nothing c in
        omega (arith, free)
    by_first a rest c false alone = omega arith

    fewer : (a : Attr) (rest : List Attr) (c : Way) → claim_count (a ∷ rest) c ≤ 1 → claim_count rest c ≤ 1
    fewer a rest c = by (claims_path c a)
      where
        by : (b : Bool) → length (if b then a ∷ filter (claims_path c) rest else filter (claims_path c) rest) ≤ 1 → claim_count rest c ≤ 1
        by true alone = omega (arith, alone)
        by false alone = alone

    -- a sum over all paths, each by the attribute that claims it, is one over the attributes
    pub total_claimed : (ats : List Attr) → All (λ a. IsAmong paths a.path) ats → ((c : Way) → Contains paths c → claim_count ats c ≤ 1)
        → total (λ c. G c (claim ats c)) paths ≡ total worth ats
    total_claimed [] among alone = total_zero (λ c. G c None) paths (λ c i. nothing c)
    total_claimed (a ∷ rest) among alone =
        let one = one_claim a (claims a.kind) refl a.path refl (all_first (λ a. IsAmong paths a.path) a rest among) in
        let more = total_claimed rest (all_rest (λ a. IsAmong paths a.path) a rest among) (λ c i. fewer a rest c (alone c i)) in
        let each = total_same (λ c. G c (claim (a ∷ rest) c)) (λ c. (if claims_path c a then G c (Some a) else 0) + G c (claim rest c)) paths
        (λ c i. by_first a rest c (claims_path c a) (alone c i)) in
        let apart = total_plus (λ c. if claims_path c a then G c (Some a) else 0) (λ c. G c (claim rest c)) paths in
        omega (arith, one, more, each, apart)

-- a hold of one lock in two parts
pub lock_plus : (lock : ℕ) (o : Option ℕ) (n a b : ℕ) → n ≡ a + b → if_lock lock o n ≡ if_lock lock o a + if_lock lock o b
lock_plus lock None n a b e = refl
lock_plus lock (Some l) n a b e = by (nat_eq lock l)
  where
    by : (t : Bool) → (if t then n else 0) ≡ (if t then a else 0) + (if t then b else 0)
    by true = e
    by false = refl

-- the holds that the attributes of a call stand for, in the words of the caller
abbrev pub holds_named : Program → Locals → (Attr → Status) → List Attr → (lock : ℕ) → Mode → ℕ
holds_named u locals status ats lock mode = total (λ a. if_lock lock (lock_named u locals a) (units (status a) mode)) ats

-- Holds of paths in two parts, of which one is that of the attributes which claim them.
module _ (u : Program) (locals : Locals) (paths : List Way) (once : Once paths) (ats : List Attr) (among : All (λ a. IsAmong paths a.path) ats)
    (alone : (c : Way) → Contains paths c → claim_count ats c ≤ 1) where
  module _ (part : Way → Option Attr → Status) (nothing : (c : Way) → part c None ≡ Free) (lock : ℕ) (mode : Mode) where
    abbrev pub G : Way → Option Attr → ℕ
    G c o = hold u locals c (part c o) lock mode

    pub unclaimed : (c : Way) → G c None ≡ 0
    unclaimed c = ap (λ s. hold u locals c s lock mode) (nothing c) ∙ no_hold lock (lock_in u locals c)

    -- by the path of each attribute
    pub split_claimed : (whole kept : Way → Status) → ((c : Way) → Contains paths c → units (whole c) mode ≡ units (kept c) mode + units (part c (claim ats c)) mode)
        → holds_for u locals paths whole lock mode ≡ holds_for u locals paths kept lock mode + total (worth paths once G unclaimed) ats
    split_claimed whole kept each =
        let apart = total_same (λ c. hold u locals c (whole c) lock mode) (λ c. hold u locals c (kept c) lock mode + G c (claim ats c)) paths
        (λ c i. lock_plus lock (lock_in u locals c) (units (whole c) mode) (units (kept c) mode) (units (part c (claim ats c)) mode) (each c i)) in
        let sums = total_plus (λ c. hold u locals c (kept c) lock mode) (λ c. G c (claim ats c)) paths in
        let claimed = total_claimed paths once G unclaimed ats among alone in
        omega (arith, apart, sums, claimed)

  -- by what each attribute stands for, whatever its path
  pub split_named : (part : Option Attr → Status) → part None ≡ Free → ((a : Attr) → claims a.kind ≡ false → part (Some a) ≡ Free)
      → (lock : ℕ) (mode : Mode) (whole kept : Way → Status)
      → ((c : Way) → Contains paths c → units (whole c) mode ≡ units (kept c) mode + units (part (claim ats c)) mode)
      → holds_for u locals paths whole lock mode ≡ holds_for u locals paths kept lock mode + holds_named u locals (λ a. part (Some a)) ats lock mode
  split_named part nothing silent lock mode whole kept each =
      let sum = split_claimed (λ c o. part o) (λ c. nothing) lock mode whole kept each in
      let same = total_same (worth paths once (λ c o. hold u locals c (part o) lock mode) (λ c. unclaimed (λ c o. part o) (λ c. nothing) lock mode c))
      (λ a. if_lock lock (lock_named u locals a) (units (part (Some a)) mode)) ats (λ a i. one a (claims a.kind) refl) in
      omega (arith, sum, same)
    where
      at : (a : Attr) (o : Option Way) → at_path paths once (λ c o. hold u locals c (part o) lock mode) (λ c. unclaimed (λ c o. part o) (λ c. nothing) lock mode c) a o
          ≡ if_lock lock (option_and_then (lock_in u locals) o) (units (part (Some a)) mode)
      at a None = refl
      at a (Some w) = refl

      one : (a : Attr) (b : Bool) → claims a.kind ≡ b
          → (if b then at_path paths once (λ c o. hold u locals c (part o) lock mode) (λ c. unclaimed (λ c o. part o) (λ c. nothing) lock mode c) a a.path else 0)
          ≡ if_lock lock (lock_named u locals a) (units (part (Some a)) mode)
      one a true e = at a a.path
      one a false e = sym (ap (λ s. if_lock lock (lock_named u locals a) (units s mode)) (silent a e) ∙ no_hold lock (lock_named u locals a))
