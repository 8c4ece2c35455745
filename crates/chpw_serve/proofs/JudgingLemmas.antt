-- A verdict and a step depend on a digest at its wanted counts alone.
use Rattle.std.proofs.Common.{◌≡◌, ℕ, List, [], ◌∷◌, Bool, true, false, ◌||◌, if◌then◌else◌, Option, refl, sym, ◌∙◌, ap, subst, map, arith}
use Rattle.std.specs.Prelude.{◌==◌, bytes_eq}
use Rattle.std.proofs.lemmas.Bool.Decides.{nat_tests}
use Rattle.krb_keys.specs.declared.etype.Etype.TheVariants as etype
use Rattle.krb_keys.specs.Keys.{s2k, bytes_of}
use Rattle.chpw_rules.specs.declared.name.Name.{Name}
use Rattle.chpw_table.specs.declared.times.Moment.{Moment}
use Rattle.chpw_table.specs.declared.request.Target.{Target}
use Rattle.chpw_table.specs.declared.request.Body.TheVariants.{Ask}
use Rattle.chpw_table.specs.declared.request.Opened.{Opened}
use Rattle.chpw_record.specs.declared.key.KeyRow.{KeyRow}
use Rattle.chpw_table.specs.declared.table.Principal.{Principal}
use Rattle.chpw_table.specs.declared.verdict.Verdict.{Verdict}
use Rattle.chpw_table.specs.declared.verdict.Verdict.TheVariants.{Skew, Replay, NotYet, Expired, BadPrivate}
use Rattle.chpw_table.specs.declared.verdict.Verdict.TheVariants.{Denied, NeedInitial, Unknown, Short}
use Rattle.chpw_table.specs.declared.verdict.Verdict.TheVariants.{Classes, Reused, LastVersion, Broken, Done}
use Rattle.chpw_table.specs.Digests.{Derivation, has_count, aes128_under, aes256_under}
use Rattle.chpw_table.specs.Derivations.{with_counts, keys_from, new_counts}
use Rattle.chpw_table.specs.Requests.{target_of}
use Rattle.chpw_table.specs.State.{State, new_count, kept_count}
use Rattle.chpw_table.specs.Wanted.{wanted, lacking, compared_keys, is_one_of}
use Rattle.chpw_table.specs.Verdicts.{reads_keys, is_done}
use Rattle.chpw_table.specs.Decision.{verdict, is_reused}
use Rattle.chpw_table.specs.Step.{step, new_key, with_key, after}
use Rattle.chpw_table.specs.History.{missing}
use Rattle.chpw_table.proofs.WantedLemmas.{ascends_once, lacking_all}
use Rattle.chpw_decider.proofs.CompletingLemmas.{has_all}
use Rattle.chpw_serve.specs.Requests.{Request, Content, new_password, bad_data, opened_under}
use Rattle.chpw_serve.specs.Judging.{judged, JudgedAlike}

itself : (n : ℕ) → (n == n) ≡ true
itself n = grind (arith, nat_tests)

-- the keys that are derived under a count
key_at : (p s : List ℕ) (ms : List ℕ) (n : ℕ) → has_count (map (keys_from p s) ms) n ≡ true
    → (aes128_under (map (keys_from p s) ms) n ≡ bytes_of (s2k etype.Aes128 p s n))
    × (aes256_under (map (keys_from p s) ms) n ≡ bytes_of (s2k etype.Aes256 p s n))
key_at p s [] n h = cc
key_at p s (m ∷ ms) n h = at (m == n) refl (key_at p s ms n)
  where
    at : (b : Bool) → (m == n) ≡ b
        → (has_count (map (keys_from p s) ms) n ≡ true
        → (aes128_under (map (keys_from p s) ms) n ≡ bytes_of (s2k etype.Aes128 p s n))
        × (aes256_under (map (keys_from p s) ms) n ≡ bytes_of (s2k etype.Aes256 p s n)))
        → (aes128_under (map (keys_from p s) (m ∷ ms)) n ≡ bytes_of (s2k etype.Aes128 p s n))
        × (aes256_under (map (keys_from p s) (m ∷ ms)) n ≡ bytes_of (s2k etype.Aes256 p s n))
    at true e ih =
        let same : m ≡ n = grind (arith, nat_tests) in (
          rw e (ap (λ k. bytes_of (s2k etype.Aes128 p s k)) same),
          rw e (ap (λ k. bytes_of (s2k etype.Aes256 p s k)) same),
        )
    at false e ih =
        let rest : has_count (map (keys_from p s) ms) n ≡ true = sym (ap (λ (b : Bool). b || has_count (map (keys_from p s) ms) n) e) ∙ h in
        (rw e ((ih rest).0), rw e ((ih rest).1))

-- two lists of counts that both have one give its keys alike
alike_at : (p s xs ys : List ℕ) (n : ℕ) → has_count (with_counts p s [] xs) n ≡ true → has_count (with_counts p s [] ys) n ≡ true
    → (aes128_under (with_counts p s [] xs) n ≡ aes128_under (with_counts p s [] ys) n)
    × (aes256_under (with_counts p s [] xs) n ≡ aes256_under (with_counts p s [] ys) n)
alike_at p s xs ys n h g =
    let one = key_at p s (new_counts [] xs) n h in
    let other = key_at p s (new_counts [] ys) n g in
    (one.0 ∙ sym other.0, one.1 ∙ sym other.1)

-- what isn't lacking is there
there : (d : Derivation) (xs : List ℕ) (n : ℕ) → lacking d xs ≡ [] → is_one_of n xs ≡ true → has_count d n ≡ true
there d [] n h k = cc
there d (x ∷ xs) n h k = at (has_count d x) refl (x == n) refl (there d xs n)
  where
    at : (b : Bool) → has_count d x ≡ b → (c : Bool) → (x == n) ≡ c → (lacking d xs ≡ [] → is_one_of n xs ≡ true → has_count d n ≡ true) → has_count d n ≡ true
    at false e c f ih = let no : x ∷ lacking d xs ≡ [] = rw e at h in absurd (cc)
    at true e true f ih = let same : x ≡ n = grind (arith, nat_tests) in ap (has_count d) (sym same) ∙ e
    at true e false f ih =
        let rest : lacking d xs ≡ [] = rw e at h in
        let behind : is_one_of n xs ≡ true = sym (ap (λ (b : Bool). b || is_one_of n xs) f) ∙ k in
        ih rest behind

-- the rows of a request with a new password, by their tests
abbrev rows : (a b c d e f g h i j r l x : Bool) → Verdict
rows a b c d e f g h i j r l x =
    if a then Skew else if b then Replay else if c then NotYet else if d then Expired else if e then BadPrivate
    else if f then Denied else if g then NeedInitial
    else if h then Unknown else if i then Short else if j then Classes
    else if r then Reused else if l then LastVersion else if x then Broken else Done

last_reads : (r l x : Bool) → reads_keys (if r then Reused else if l then LastVersion else if x then Broken else Done) ≡ true
last_reads false false true = refl
last_reads r l x = refl

rows_alike : (a b c d e f g h i j r r' l x y : Bool) → (reads_keys (rows a b c d e f g h i j r l y) ≡ true → r ≡ r')
    → rows a b c d e f g h i j r l x ≡ rows a b c d e f g h i j r' l x
rows_alike false false false false false false false false false false r r' l x y k =
    ap (λ (z : Bool). rows false false false false false false false false false false z l x) (k (last_reads r l y))
rows_alike a b c d e f g h i j r r' l x y k = refl

done_reads : (a b c d e f g h i j r l x y : Bool) → is_done (rows a b c d e f g h i j r l x) ≡ true → reads_keys (rows a b c d e f g h i j r l y) ≡ true
done_reads false false false false false false false false false false r l x y k = last_reads r l y
done_reads a b c d e f g h i j r l x y k = cc

-- a request with this digest
module _ (s : State) (now : Moment) (base : Opened) (target : Option Target) (size classes : ℕ) where
  abbrev asking : Derivation → Opened
  asking d = record base { body = Ask target (record { length = size; classes = classes; derived = d }) }

  abbrev who : Name
  who = (target_of (asking [])).name

  abbrev counts_of : List KeyRow → List ℕ
  counts_of keys = map (λ (k : KeyRow). k.count) keys

  reused_alike : (d d' : Derivation) (keys : List KeyRow) → ((n : ℕ) → is_one_of n (counts_of keys) ≡ true → aes256_under d n ≡ aes256_under d' n)
      → is_reused (record { length = size; classes = classes; derived = d }) keys ≡ is_reused (record { length = size; classes = classes; derived = d' }) keys
  reused_alike d d' [] h = refl
  reused_alike d d' (k ∷ keys) h =
      let rest : Derivation → Bool = λ e. is_reused (record { length = size; classes = classes; derived = e }) keys in
      let here : is_one_of k.count (counts_of (k ∷ keys)) ≡ true = ap (λ (b : Bool). b || is_one_of k.count (counts_of keys)) (itself k.count) in
      let behind = λ (n : ℕ). λ (m : is_one_of n (counts_of keys) ≡ true). h n (either (k.count == n) (is_one_of n (counts_of keys)) m) in
      ap (λ (key : List ℕ). bytes_eq k.aes256 key || rest d) (h k.count here)
      ∙ ap (λ (b : Bool). bytes_eq k.aes256 (aes256_under d' k.count) || b) (reused_alike d d' keys behind)
    where
      either : (a b : Bool) → b ≡ true → (a || b) ≡ true
      either true b e = refl
      either false b e = e

  -- both have the keys under the wanted counts alike
  AreAlike : Derivation → Derivation → Type 0
  AreAlike d d' = (n : ℕ) → is_one_of n (wanted s who) ≡ true → (aes128_under d n ≡ aes128_under d' n) × (aes256_under d n ≡ aes256_under d' n)

  same_row : (d d' : Derivation) (io : Bool) → (reads_keys (verdict s now (asking d) false) ≡ true → AreAlike d d')
      → verdict s now (asking d) io ≡ verdict s now (asking d') io
  unfolding AreAlike
  same_row d d' io h = rows_alike _ _ _ _ _ _ _ _ _ _ _ _ _ _ (s.broken || false) (λ reads. reused_alike d d' (compared_keys s who)
      (λ n k. (h reads n ((ascends_once (new_count s ∷ counts_of (compared_keys s who))).1 n
      ∙ behind (new_count s == n) (is_one_of n (counts_of (compared_keys s who))) k)).1))
    where
      behind : (a b : Bool) → b ≡ true → (a || b) ≡ true
      behind true b e = refl
      behind false b e = e

  put_alike : (b : Bool) (one other : KeyRow) (ps : List Principal) → (b ≡ true → one ≡ other)
      → (if b then map (with_key (kept_count s) who one) ps else ps) ≡ (if b then map (with_key (kept_count s) who other) ps else ps)
  put_alike true one other ps h = ap (λ (k : KeyRow). map (with_key (kept_count s) who k) ps) (h refl)
  put_alike false one other ps h = refl

  same_key : (d d' : Derivation) → AreAlike d d' → new_key s (asking d) ≡ new_key s (asking d')
  unfolding AreAlike
  same_key d d' h =
      let mine = h (new_count s) ((ascends_once (new_count s ∷ counts_of (compared_keys s who))).1 (new_count s)
      ∙ ap (λ (b : Bool). b || is_one_of (new_count s) (counts_of (compared_keys s who))) (itself (new_count s))) in
      ap (λ (key : List ℕ). record (new_key s (asking d)) { aes128 = key }) mine.0
      ∙ ap (λ (key : List ℕ). record (new_key s (asking d')) { aes256 = key }) mine.1

  same_step : (d d' : Derivation) (io : Bool) → (reads_keys (verdict s now (asking d) false) ≡ true → AreAlike d d')
      → step s now (asking d) io ≡ step s now (asking d') io
  same_step d d' io h =
      let row = same_row d d' io h in
      let keys = put_alike (is_done (verdict s now (asking d) io)) (new_key s (asking d)) (new_key s (asking d')) s.principals
      (λ done. same_key d d' (h (done_reads _ _ _ _ _ _ _ _ _ _ _ _ _ (s.broken || false) done))) in
      ap (λ (ps : List Principal). record (after (verdict s now (asking d) io) s now (asking d) io) { principals = ps }) keys
      ∙ ap (λ (v : Verdict). after v s now (asking d') io) row

  judged_at : (p salt counts : List ℕ) (io : Bool) → missing s now (asking (with_counts p salt [] counts)) ≡ []
      → (verdict s now (asking (with_counts p salt [] counts)) io ≡ verdict s now (asking (with_counts p salt [] (wanted s who))) io)
      × (step s now (asking (with_counts p salt [] counts)) io ≡ step s now (asking (with_counts p salt [] (wanted s who))) io)
  unfolding AreAlike
  judged_at p salt counts io none =
      let d : Derivation = with_counts p salt [] counts in
      let all : (n : ℕ) → is_one_of n (wanted s who) ≡ true → has_count (with_counts p salt [] (wanted s who)) n ≡ true =
      λ n k. subst (λ (w : List ℕ). has_count (with_counts p salt [] w) n ≡ true)
      (lacking_all (wanted s who)) (has_all p salt [] (wanted s who) n k false refl) in
      let alike : reads_keys (verdict s now (asking d) false) ≡ true → AreAlike d (with_counts p salt [] (wanted s who)) =
      λ reads n k. alike_at p salt counts (wanted s who) n
      (there d (wanted s who) n (read_of (reads_keys (verdict s now (asking d) false)) reads none) k) (all n k) in
      (same_row d (with_counts p salt [] (wanted s who)) io alike, same_step d (with_counts p salt [] (wanted s who)) io alike)
    where
      read_of : (b : Bool) {xs : List ℕ} → b ≡ true → (if b then xs else []) ≡ [] → xs ≡ []
      read_of true e h = h
      read_of false e h = cc

judged_content : (s : State) (now : Moment) (q : Request) (content : Content) (counts : List ℕ) (io : Bool)
    → missing s now (opened_under counts (record q { content = content })) ≡ []
    → (verdict s now (opened_under counts (record q { content = content })) io ≡ verdict s now (judged s (record q { content = content })) io)
    × (step s now (opened_under counts (record q { content = content })) io ≡ step s now (judged s (record q { content = content })) io)
judged_content s now q (new_password target password) counts io none =
    judged_at s now (opened_under [] (record q { content = bad_data })) target _ _ password _ counts io none
judged_content s now q content counts io none = (refl, refl)

pub judged_alike : JudgedAlike
judged_alike s now q counts io none = judged_content s now q q.content counts io none
