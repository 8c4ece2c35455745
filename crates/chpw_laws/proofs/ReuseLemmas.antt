-- A password whose key is compared is refused.
use Rattle.std.proofs.Common.{◌≡◌, ◌≢◌, ℕ, zero, suc, ◌<◌, List, [], ◌∷◌, length, map, take, Bool, true, false, not, ◌&&◌, ◌||◌, if◌then◌else◌, Option}
use Rattle.std.proofs.Common.{is_none, unwrap_or, refl, sym, ◌∙◌, ap, subst, arith}
use Rattle.std.specs.Prelude.{◌==◌, nat_lt, int_le, bytes_eq, option_map, Contains, slice_index_or}
use Rattle.std.specs.List.{list_any}
use Rattle.std.specs.Cmp.Lexicographic.{bytes_decides}
use Rattle.std.proofs.lemmas.Bool.Decides.{nat_tests}
use Rattle.chpw_rules.specs.declared.name.Name.{Name}
use Rattle.chpw_rules.specs.Names.{is_same_name}
use Rattle.chpw_record.specs.declared.key.KeyRow.{KeyRow}
use Rattle.chpw_table.specs.declared.times.Moment.{Moment}
use Rattle.chpw_table.specs.declared.request.Target.{Target}
use Rattle.chpw_table.specs.declared.request.Opened.{Opened}
use Rattle.chpw_table.specs.declared.updating.KdcUpdate.TheVariants.{Lift}
use Rattle.chpw_table.specs.declared.verdict.Verdict.{Verdict}
use Rattle.chpw_table.specs.declared.verdict.Verdict.TheVariants.{Skew, Replay, NotYet, Expired, BadPrivate}
use Rattle.chpw_table.specs.declared.verdict.Verdict.TheVariants.{BadBody, Denied, NeedInitial, Unknown, Short}
use Rattle.chpw_table.specs.declared.verdict.Verdict.TheVariants.{Classes, Reused, LastVersion, Broken, Done}
use Rattle.chpw_table.specs.Digests.{aes256_under}
use Rattle.chpw_table.specs.Completing.{salt_of}
use Rattle.chpw_table.specs.Requests.{id_of, target_of, digest_of, is_bad_private, is_bad_data}
use Rattle.chpw_table.specs.State.{State, keys_held, is_used, new_count, kept_count}
use Rattle.chpw_table.specs.Wanted.{wanted, lacking, compared_keys, is_one_of}
use Rattle.chpw_table.specs.Verdicts.{reads_keys}
use Rattle.chpw_table.specs.Times.{clock_at, is_far, is_later, is_stale}
use Rattle.chpw_table.specs.Decision.{verdict, newest_kvno, is_denied, needs_initial, is_reused}
use Rattle.chpw_table.specs.Updates.{name_in, kind_of, key_in, keys_after as keys_after_update, with_newest, lifted_key, is_taken, update_verdict}
use Rattle.chpw_table.specs.History.{missing}
use Rattle.chpw_table.specs.Laws.{unversioned}
use Rattle.chpw_table.proofs.UpdateLemmas.{keys_updated}
use Rattle.chpw_laws.specs.OldPasswords.{IsFor, Refuses, principal, IsKeyOf, MakesItsKeys, RefusedWhileCompared}
use Rattle.chpw_laws.specs.OldPasswords.{RaiseComparesTheSame, UpdateLeavesOthers, LiftComparesTheSame}
use Rattle.chpw_laws.proofs.KeptLemmas.{alike_first, lift_alike}
use Rattle.chpw_laws.proofs.DerivedLemmas.{HasKeys, derived_keys, there, wants_new, wants_compared}

-- ---- the rows

-- those before the one on reuse
rows : (a b c d e f g h i j k : Bool) → Verdict → Verdict
rows a b c d e f g h i j k v =
    if a then Skew else if b then Replay else if c then NotYet else if d then Expired else if e then BadPrivate
    else if f then BadBody else if g then Denied else if h then NeedInitial
    else if i then Unknown else if j then Short else if k then Classes else v

-- and the last ones
abbrev last_rows : (r l x : Bool) → Verdict
last_rows r l x = if r then Reused else if l then LastVersion else if x then Broken else Done

last_reads : (r l x : Bool) → reads_keys (last_rows r l x) ≡ true
last_reads true l x = refl
last_reads false true x = refl
last_reads false false true = refl
last_reads false false false = refl

-- where the new password's keys are looked at, no row before refuses
past : (a b c d e f g h i j k : Bool) (v : Verdict) → reads_keys (rows a b c d e f g h i j k v) ≡ true
    → (g ≡ false) × ((w : Verdict) → rows a b c d e f g h i j k w ≡ w)
unfolding rows
past false false false false false false false false false false false v reads = (refl, λ w. refl)
past a b c d e f g h i j k v reads = absurd (cc)

module _ (s : State) (now : Moment) (o : Opened) where
  front : Verdict → Verdict
  front v =
      let clock = clock_at s now in
      rows (is_far clock o.ctime || int_le o.ctime s.fixed.quiet_until) (is_used s (id_of o))
      (is_later o.starts clock || o.invalid) (is_later clock o.ends) (is_bad_private o.body || is_stale clock o.stamp)
      (is_bad_data o.body) (is_denied s.fixed o) (needs_initial s.fixed o) (is_none (keys_held s (target_of o).name))
      (nat_lt (digest_of o).length s.fixed.policy.min_length) (nat_lt (digest_of o).classes s.fixed.policy.min_classes) v

  past_front : (v : Verdict) → reads_keys (front v) ≡ true → (is_denied s.fixed o ≡ false) × ((w : Verdict) → front w ≡ w)
  unfolding front
  past_front v reads = past _ _ _ _ _ _ _ _ _ _ _ v reads

  abbrev behind : Bool → Verdict
  behind io = last_rows (is_reused (digest_of o) (compared_keys s (target_of o).name))
      (newest_kvno (unwrap_or (keys_held s (target_of o).name) []) == 4294967295) (s.broken || io)

  in_rows : (io : Bool) → verdict s now o io ≡ front (behind io)
  unfolding front rows
  in_rows io = refl

  behind_reads : (io : Bool) → reads_keys (behind io) ≡ true
  behind_reads io = last_reads _ _ _

  -- what is known where the new password's keys were looked at
  module _ (io : Bool) (none : missing s now o ≡ []) (reads : reads_keys (verdict s now o io) ≡ true) where
    passed : (is_denied s.fixed o ≡ false) × ((w : Verdict) → front w ≡ w)
    passed = past_front (behind io) (ap reads_keys (sym (in_rows io)) ∙ reads)

    pub is_behind : verdict s now o io ≡ behind io
    is_behind = in_rows io ∙ passed.1 (behind io)

    pub lacks_none : lacking (digest_of o).derived (wanted s (target_of o).name) ≡ []
    lacks_none = of_missing (reads_keys (verdict s now o false)) (ap reads_keys (in_rows false ∙ passed.1 (behind false)) ∙ behind_reads false) none
      where
        of_missing : (b : Bool) {xs : List ℕ} → b ≡ true → (if b then xs else []) ≡ [] → xs ≡ []
        of_missing true e h = h
        of_missing false e h = cc

    pub in_realm : (target_of o).realm ≡ s.fixed.realm
    in_realm = (bytes_decides (target_of o).realm s.fixed.realm).0 (middle _ _ _ passed.0)
      where
        middle : (a b c : Bool) → (not a || not b || not c) ≡ false → b ≡ true
        middle a true c h = refl
        middle true false c h = cc
        middle false false c h = cc

-- ---- keys

-- the request's target is the principal of the name
pub is_principal : (s : State) (t : Target) (name : Name) → t.realm ≡ s.fixed.realm → t.name ≡ name → t ≡ principal s name
is_principal s t name e n i = record { realm = e i; name = n i }

-- and so the request's keys are made with its salt
module _ (s : State) (now : Moment) (o : Opened) (io : Bool) (name : Name) (password : List ℕ)
    (asked : IsFor name password o) (none : missing s now o ≡ []) (reads : reads_keys (verdict s now o io) ≡ true) where
  pub has_keys : (n : ℕ) → is_one_of n (wanted s (target_of o).name) ≡ true → HasKeys password (salt_of (principal s name)) n (digest_of o).derived
  has_keys n wants =
      let salt : salt_of (target_of o) ≡ salt_of (principal s name) =
      ap salt_of (is_principal s (target_of o) name (in_realm s now o io none reads) asked.0) in
      subst (λ (x : List ℕ). HasKeys password x n (digest_of o).derived) salt
      (derived_keys password (salt_of (target_of o)) asked.1.0 (digest_of o) asked.1.1 n
      (there (digest_of o).derived (wanted s (target_of o).name) n (lacks_none s now o io none reads) wants))

-- an element that passes a test
any_at : (test : KeyRow → Bool) (xs : List KeyRow) (k : ℕ) (x : KeyRow) → k < length xs → slice_index_or xs k x ≡ x → test x ≡ true → list_any test xs ≡ true
any_at test [] k x l e h = absurd (omega arith)
any_at test (y ∷ ys) zero x l e h = ap (λ (b : Bool). b || list_any test ys) (ap test e ∙ h)
any_at test (y ∷ ys) (suc k) x l e h = or_true (test y) (list_any test ys) (any_at test ys k x (omega arith) e h)
  where
    or_true : (a b : Bool) → b ≡ true → (a || b) ≡ true
    or_true true b h = refl
    or_true false b h = h

any_count : (n : ℕ) (xs : List KeyRow) → is_one_of n (map (λ (k : KeyRow). k.count) xs) ≡ list_any (λ (k : KeyRow). k.count == n) xs
any_count n [] = refl
any_count n (x ∷ xs) = ap (λ (b : Bool). (x.count == n) || b) (any_count n xs)

itself : (n : ℕ) → (n == n) ≡ true
itself n = grind (arith, nat_tests)

-- a key that is compared makes the test on reuse true
is_found : (s : State) (now : Moment) (o : Opened) (io : Bool) (password : List ℕ) (key : KeyRow)
    → IsFor (target_of o).name password o → missing s now o ≡ [] → reads_keys (verdict s now o io) ≡ true
    → Contains (compared_keys s (target_of o).name) key → IsKeyOf s (target_of o).name password key
    → is_reused (digest_of o) (compared_keys s (target_of o).name) ≡ true
is_found s now o io password key asked none reads inside is_key =
    let keys : List KeyRow = compared_keys s (target_of o).name in
    let wants = wants_compared s (target_of o).name key.count (any_count key.count keys
    ∙ any_at (λ (k : KeyRow). k.count == key.count) keys inside.0 key inside.1 inside.2 (itself key.count)) in
    any_at (λ (k : KeyRow). bytes_eq k.aes256 (aes256_under (digest_of o).derived k.count)) keys inside.0 key inside.1 inside.2
    ((bytes_decides key.aes256 (aes256_under (digest_of o).derived key.count)).1
    (is_key ∙ sym (has_keys s now o io (target_of o).name password asked none reads key.count wants).1))

-- a verdict that is the refusal for reuse wherever keys were looked at isn't Done
not_done : (v : Verdict) → (reads_keys v ≡ true → v ≡ Reused) → v ≢ Done
not_done v h done = apart (sym (h (ap reads_keys done)) ∙ done)
  where
    apart : Reused ≡ Done → ⊥
    apart e = cc

-- so a password is refused whose key is compared as it is
compared_is_refused : (s : State) (name : Name) (password : List ℕ) (key : KeyRow) →
    Contains (compared_keys s name) key → IsKeyOf s name password key → Refuses s name password
compared_is_refused s name password key inside is_key now o io asked none =
    let reused : reads_keys (verdict s now o io) ≡ true → verdict s now o io ≡ Reused = λ reads.
    is_behind s now o io none reads
    ∙ ap (λ (r : Bool). last_rows r (newest_kvno (unwrap_or (keys_held s (target_of o).name) []) == 4294967295) (s.broken || io))
    (is_found s now o io password key (refl, asked.1) none reads
    (subst (λ (n : Name). Contains (compared_keys s n) key) (sym asked.0) inside)
    (subst (λ (n : Name). IsKeyOf s n password key) (sym asked.0) is_key)) in
    (not_done (verdict s now o io) reused, reused)

-- the law on one state; a password's key doesn't depend on its version
pub refused_while_compared : RefusedWhileCompared
refused_while_compared s name password key (kvno, inside) is_key =
    compared_is_refused s name password (record key { kvno = kvno }) inside is_key

-- the law on the keys that a change makes
pub makes_its_keys : MakesItsKeys
makes_its_keys s now o io name password asked none done =
    let keys = has_keys s now o io name password asked none (ap reads_keys done) (new_count s) (wants_new s (target_of o).name) in
    (keys.1, keys.0)

-- the law on raises
pub raise_compares_the_same : RaiseComparesTheSame
raise_compares_the_same s now count io name = refl

-- the law on updates of other names
pub update_leaves_others : UpdateLeavesOthers
update_leaves_others s now u io name other =
    ap (λ (x : Option (List KeyRow)). take s.fixed.policy.depth (unwrap_or x []))
    (keys_updated (update_verdict s u io) s now u io name ∙ at (is_taken (update_verdict s u io)) (is_same_name (name_in u) name) other)
  where
    at : (b same : Bool) → same ≡ false
        → (if b && same then keys_after_update (kind_of u) (kept_count s) (key_in (keys_held s name) u) (keys_held s name) else keys_held s
        name) ≡ keys_held s name
    at true true h = cc
    at true false h = refl
    at false same h = refl

-- the law on lifts
pub lift_compares_the_same : LiftComparesTheSame
lift_compares_the_same s now lifted kvno io name =
    alike_first unversioned s.fixed.policy.depth _ _
    (ap (λ (x : Option (List KeyRow)). map unversioned (unwrap_or x [])) (keys_updated (update_verdict s (Lift lifted kvno) io) s now (Lift
    lifted kvno) io name)
    ∙ at (is_taken (update_verdict s (Lift lifted kvno) io) && is_same_name lifted name) (keys_held s name))
  where
    at : (b : Bool) (held : Option (List KeyRow))
        → map unversioned (unwrap_or (if b then option_map (with_newest (lifted_key kvno (unwrap_or held []))) held else held) []) ≡ map
        unversioned (unwrap_or held [])
    at true held = lift_alike unversioned kvno held (λ k n. refl)
    at false held = refl
