-- What a digest of a password has under the counts that aren't lacking.
use Rattle.std.proofs.Common.{◌≡◌, ℕ, List, [], ◌∷◌, Bool, true, false, ◌||◌, refl, sym, ◌∙◌, ap, subst, map, arith}
use Rattle.std.specs.Prelude.{◌==◌}
use Rattle.std.proofs.lemmas.Bool.Decides.{nat_tests}
use Rattle.krb_keys.specs.declared.etype.Etype.TheVariants as etype
use Rattle.krb_keys.specs.Keys.{s2k, bytes_of}
use Rattle.chpw_rules.specs.declared.name.Name.{Name}
use Rattle.chpw_record.specs.declared.key.KeyRow.{KeyRow}
use Rattle.chpw_table.specs.declared.digest.Digest.{Digest}
use Rattle.chpw_table.specs.State.{State, new_count}
use Rattle.chpw_table.specs.Digests.{Derivation, has_count, aes128_under, aes256_under}
use Rattle.chpw_table.specs.Derivations.{keys_from, new_counts, digest_from}
use Rattle.chpw_table.specs.Wanted.{wanted, lacking, compared_keys, is_one_of}
use Rattle.chpw_table.proofs.WantedLemmas.{ascends_once}

itself : (n : ℕ) → (n == n) ≡ true
itself n = grind (arith, nat_tests)

-- its keys under a count
abbrev pub HasKeys : List ℕ → List ℕ → ℕ → Derivation → Type 0
HasKeys p salt n d =
    (aes128_under d n ≡ bytes_of (s2k etype.Aes128 p salt n)) × (aes256_under d n ≡ bytes_of (s2k etype.Aes256 p salt n))

key_at : (p salt : List ℕ) (ms : List ℕ) (n : ℕ) → has_count (map (keys_from p salt) ms) n ≡ true → HasKeys p salt n (map (keys_from p salt) ms)
key_at p salt [] n h = cc
key_at p salt (m ∷ ms) n h = at (m == n) refl (key_at p salt ms n)
  where
    at : (b : Bool) → (m == n) ≡ b → (has_count (map (keys_from p salt) ms) n ≡ true → HasKeys p salt n (map (keys_from p salt) ms))
        → HasKeys p salt n (map (keys_from p salt) (m ∷ ms))
    at true e ih =
        let same : m ≡ n = grind (arith, nat_tests) in (
          rw e (ap (λ k. bytes_of (s2k etype.Aes128 p salt k)) same),
          rw e (ap (λ k. bytes_of (s2k etype.Aes256 p salt k)) same),
        )
    at false e ih =
        let rest : has_count (map (keys_from p salt) ms) n ≡ true = sym (ap (λ (b : Bool). b || has_count (map (keys_from p salt) ms) n) e) ∙ h in
        (rw e ((ih rest).0), rw e ((ih rest).1))

-- a password's digest has its keys under each count that is there
pub derived_keys : (p salt counts : List ℕ) (d : Digest) → d ≡ digest_from p salt counts
    → (n : ℕ) → has_count d.derived n ≡ true → HasKeys p salt n d.derived
derived_keys p salt counts d e n =
    subst (λ (x : Derivation). has_count x n ≡ true → HasKeys p salt n x) (sym (ap (λ (x : Digest). x.derived) e)) (key_at p salt (new_counts [] counts) n)

-- what isn't lacking is there
pub there : (d : Derivation) (xs : List ℕ) (n : ℕ) → lacking d xs ≡ [] → is_one_of n xs ≡ true → has_count d n ≡ true
there d [] n h k = cc
there d (x ∷ xs) n h k = at (has_count d x) refl (x == n) refl (there d xs n)
  where
    at : (b : Bool) → has_count d x ≡ b → (c : Bool) → (x == n) ≡ c → (lacking d xs ≡ [] → is_one_of n xs ≡ true → has_count d n ≡ true) → has_count d n ≡ true
    at false e c f ih = let no : x ∷ lacking d xs ≡ [] = rw e at h in absurd (cc)
    at true e true f ih = let same : x ≡ n = grind (arith, nat_tests) in ap (has_count d) (sym same) ∙ e
    at true e false f ih =
        let rest : lacking d xs ≡ [] = rw e at h in
        let behind : is_one_of n xs ≡ true = sym (ap (λ (b : Bool). b || is_one_of n xs) f) ∙ k in
        ih rest behind

or_true : (a b : Bool) → b ≡ true → (a || b) ≡ true
or_true true b h = refl
or_true false b h = h

-- the count of new keys is wanted
pub wants_new : (s : State) (name : Name) → is_one_of (new_count s) (wanted s name) ≡ true
wants_new s name =
    let counts : List ℕ = map (λ (k : KeyRow). k.count) (compared_keys s name) in
    (ascends_once (new_count s ∷ counts)).1 (new_count s) ∙ ap (λ (b : Bool). b || is_one_of (new_count s) counts) (itself (new_count s))

-- and so is that of a key that is compared
pub wants_compared : (s : State) (name : Name) (n : ℕ) → is_one_of n (map (λ (k : KeyRow). k.count) (compared_keys s name)) ≡ true
    → is_one_of n (wanted s name) ≡ true
wants_compared s name n h =
    let counts : List ℕ = map (λ (k : KeyRow). k.count) (compared_keys s name) in
    (ascends_once (new_count s ∷ counts)).1 n ∙ or_true (new_count s == n) (is_one_of n counts) h
