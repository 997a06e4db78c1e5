-- What a front of a text that is longer than its first token looks like, and what it takes for the token to be the next one.
use Rattle.std.proofs.Common.{◌≡◌, ◌⊎◌, inl, inr, ℕ, ◌≤◌, Bool, true, false, ◌==◌, ◌&&◌, List, [], ◌∷◌, ◌++◌, length, refl, arith}
use Rattle.std.proofs.lemmas.Bool.Decides.{nat_tests}
use Rattle.std.specs.List.{list_all}
use Rattle.tsa_base.specs.Tokens.{is_token}
use Rattle.tsa_base.specs.PieceLaws.{IsLongest, begins_comment}

-- a front that goes on after a text
pub record GoesBeyond (text behind front : List ℕ) : Type 0 where
  pub byte : ℕ
  pub more : List ℕ
  pub rest : List ℕ
  pub behind_is : behind ≡ byte ∷ rest
  pub front_is : front ≡ text ++ byte ∷ more

beyond-more : (c f : ℕ) (text behind front : List ℕ) → c ≡ f → (length front ≤ length text) ⊎ GoesBeyond text behind front →
    (length (f ∷ front) ≤ length (c ∷ text)) ⊎ GoesBeyond (c ∷ text) behind (f ∷ front)
beyond-more c f text behind front same (inl short) = inl (omega arith)
beyond-more c f text behind front same (inr long) = inr (record {
  byte = long.byte;
  more = long.more;
  rest = long.rest;
  behind_is = long.behind_is;
  front_is = let tail = long.front_is in cc;
})

-- a front is no longer than the text, or goes on after it
pub front-cases : (text behind front others : List ℕ) → text ++ behind ≡ front ++ others → (length front ≤ length text) ⊎ GoesBeyond text behind front
front-cases text behind [] others whole = inl (omega arith)
front-cases [] behind (f ∷ front) others whole = inr (record { byte = f; more = front; rest = front ++ others; behind_is = whole; front_is = refl })
front-cases (c ∷ text) behind (f ∷ front) others whole =
    let first : c ≡ f = cc in
    let rest : text ++ behind ≡ front ++ others = cc in
    beyond-more c f text behind front first (front-cases text behind front others rest)

-- with the next byte, and whatever else, the text is no token
abbrev pub IsClosed : (text behind : List ℕ) → Type 0
IsClosed text behind = (byte : ℕ) (more rest : List ℕ) → behind ≡ byte ∷ rest → is_token (text ++ byte ∷ more) ≡ false

closed-short : (text behind front : List ℕ) → IsClosed text behind → is_token front ≡ true → (length front ≤ length text) ⊎ GoesBeyond text behind front →
    length front ≤ length text
closed-short text behind front closed is (inl short) = short
closed-short text behind front closed is (inr long) =
    let no : is_token (text ++ long.byte ∷ long.more) ≡ false = closed long.byte long.more long.rest long.behind_is in
    let yes : is_token (text ++ long.byte ∷ long.more) ≡ true = rw long.front_is at is in
    absurd (cc)

-- a token that no more bytes make a longer one is the next token
pub closed-longest : (text behind : List ℕ) → is_token text ≡ true → IsClosed text behind → begins_comment (text ++ behind) ≡ false → IsLongest text behind
closed-longest text behind is closed apart = record {
  is = is;
  longest = λ front others whole yes. closed-short text behind front closed yes (front-cases text behind front others whole);
  no_comment = apart;
}

-- only `/` begins a comment
pub no-slash : (c : ℕ) (cs : List ℕ) → (c == 47) ≡ false → begins_comment (c ∷ cs) ≡ false
no-slash c [] other = refl
no-slash c (d ∷ cs) other = rw other refl

-- bytes of a kind, and one of another
pub all-broken : (p : ℕ → Bool) (cs : List ℕ) (byte : ℕ) (more : List ℕ) → p byte ≡ false → list_all p (cs ++ byte ∷ more) ≡ false
all-broken p [] byte more other = rw other refl
all-broken p (c ∷ cs) byte more other = rw (all-broken p cs byte more other) (and_false (p c))
  where
    and_false : (b : Bool) → (b && false) ≡ false
    and_false true = refl
    and_false false = refl

-- a byte of a kind is none that isn't
pub not-of-kind : (p : ℕ → Bool) (d k : ℕ) → p d ≡ true → p k ≡ false → (d == k) ≡ false
not-of-kind p d k is other = by_test (d == k) refl
  where
    by_test : (b : Bool) → (d == k) ≡ b → b ≡ false
    by_test false e = refl
    by_test true e =
        let same : d ≡ k = grind (arith, nat_tests) in
        let wrong : p k ≡ true = rw same at is in
        cc
