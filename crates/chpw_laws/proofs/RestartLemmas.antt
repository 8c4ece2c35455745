-- A name's keys over runs of the service.
use Rattle.std.proofs.Common.{◌≡◌, ℕ, ◌+◌, ◌<◌, ◌≤◌, List, [], ◌∷◌, ◌++◌, length, Option}
use Rattle.std.proofs.Common.{unwrap_or, refl, sym, ◌∙◌, ap, subst, arith, map, take, append_assoc, length-append}
use Rattle.std.proofs.lemmas.List.{take_all, take-take, length-take}
use Rattle.chpw_rules.specs.declared.name.Name.{Name}
use Rattle.chpw_record.specs.declared.key.KeyRow.{KeyRow}
use Rattle.chpw_table.specs.State.{State, keys_held, kept_count}
use Rattle.chpw_table.specs.Wanted.{compared_keys}
use Rattle.chpw_table.specs.History.{outcome}
use Rattle.chpw_table.specs.Laws.{keys_made, keys_or_none, unversioned}
use Rattle.chpw_table.proofs.KeyLemmas.{take_front}
use Rattle.chpw_journal.specs.Runs.{Run, AreRuns, last_state}
use Rattle.chpw_laws.specs.OldPasswords.{ComparesWith, new_keys_of, key_of, end_of}
use Rattle.chpw_laws.specs.Adoptions.{end_with}
use Rattle.chpw_laws.specs.Restarts.{new_keys_in, NeverRemovedIn, left_by, RefusedOverRestarts, AdoptedIsRefusedOverRestarts}
use Rattle.chpw_laws.proofs.KeptLemmas.{Alike, alike_front, alike_first, as_long, kept_throughout, as_many_made, after_entries}
use Rattle.chpw_laws.proofs.FrontLemmas.{among_first, contains_alike, kept_unversioned, StandsBehind}
use Rattle.chpw_laws.proofs.ChangeLemmas.{held_at_end, refused_in_later_histories}
use Rattle.chpw_laws.proofs.AdoptionLemmas.{adopted_at_end, same_key}
use Rattle.chpw_laws.proofs.ReuseLemmas.{refused_while_compared}

-- the keys that came in front in runs, newest first
made_in : List Run → Name → List KeyRow
made_in [] name = []
made_in (r ∷ rs) name = made_in rs name ++ keys_made r.opening r.history name

as_many_in : (runs : List Run) (name : Name) → length (made_in runs name) ≡ new_keys_in name runs
unfolding made_in
as_many_in [] name = refl
as_many_in (r ∷ rs) name =
    let behind = as_many_in rs name in
    let here = as_many_made r.opening r.history name in
    length-append (made_in rs name) (keys_made r.opening r.history name) ∙ omega (arith, behind, here)

-- the newest keys are kept, and as many as before
pub record Newest (s last : State) (name : Name) (made : List KeyRow) : Type 0 where
  pub keys : Alike unversioned (keys_or_none last name) (take (kept_count s) (made ++ keys_or_none s name))
  pub kept : kept_count last ≡ kept_count s

few_of : (xs : List KeyRow) (k : ℕ) (ys : List KeyRow) → Alike unversioned xs (take k ys) → length xs ≤ k
few_of xs k ys h = let long : length xs ≡ length (take k ys) = as_long unversioned xs (take k ys) h in rw (long, length-take k ys) (omega arith)

-- what was put in front twice
twice : (k : ℕ) (more made now held : List KeyRow) → Alike unversioned now (take k (made ++ held))
    → Alike unversioned (take k (more ++ now)) (take k ((more ++ made) ++ held))
twice k more made now held h = alike_front unversioned k more now (take k (made ++ held)) h
    ∙ ap (map unversioned) (take_front k k more (made ++ held) (omega arith) ∙ ap (take k) (sym (append_assoc more made held)))

after_runs : (s : State) (runs : List Run) (name : Name) → AreRuns s runs → NeverRemovedIn name runs
    → length (keys_or_none s name) ≤ kept_count s → Newest s (last_state s runs) name (made_in runs name)
unfolding made_in
after_runs s [] name are stays few = record {
  keys = ap (map unversioned) (sym (take_all (kept_count s) (keys_or_none s name) few));
  kept = refl;
}
after_runs s (r ∷ rs) name are stays few =
    let k : ℕ = kept_count s in
    let next : State = outcome r.opening r.history in
    let made : List KeyRow = keys_made r.opening r.history name in
    let same : keys_or_none s name ≡ keys_or_none r.opening name = ap (λ (x : Option (List KeyRow)). unwrap_or x []) (are.0.keys name) in
    let few_then : length (keys_or_none r.opening name) ≤ kept_count r.opening = rw (← same, ← are.0.kept) few in
    let here : Alike unversioned (keys_or_none next name) (take k (made ++ keys_or_none s name)) =
    after_entries unversioned name r.opening r.history are.2 stays.0 (kept_unversioned name r.history) few_then
    ∙ (ap (λ (n : ℕ). map unversioned (take n (made ++ keys_or_none r.opening name))) (sym are.0.kept)
    ∙ ap (λ (ks : List KeyRow). map unversioned (take k (made ++ ks))) (sym same)) in
    let kept : kept_count next ≡ k = kept_throughout r.opening r.history ∙ sym are.0.kept in
    let few_next : length (keys_or_none next name) ≤ kept_count next =
    rw kept (few_of (keys_or_none next name) k (made ++ keys_or_none s name) here) in
    let rest = after_runs next rs name are.4 stays.1 few_next in
    record {
      keys = rest.keys ∙ (ap (λ (n : ℕ). map unversioned (take n (made_in rs name ++ keys_or_none next name))) kept
          ∙ twice k (made_in rs name) made (keys_or_none next name) (keys_or_none s name) here);
      kept = rest.kept ∙ kept;
    }

-- a key after others at first is compared with in the end while few further keys came in front
compared_then : (s : State) (runs : List Run) (name : Name) (key : KeyRow) (count : ℕ) → AreRuns s runs → NeverRemovedIn name runs
    → StandsBehind name key count s → count + new_keys_in name runs < (last_state s runs).fixed.policy.depth
    → ComparesWith (last_state s runs) name key
compared_then s runs name key count are stays behind low =
    let k : ℕ = kept_count s in
    let depth : ℕ = (last_state s runs).fixed.policy.depth in
    let made : List KeyRow = made_in runs name in
    let front : List KeyRow = behind.front in
    let old : List KeyRow = behind.old in
    let all = after_runs s runs name are stays (few_of (keys_or_none s name) k (front ++ key ∷ old) behind.held) in
    let enough : depth ≤ k = subst (λ (n : ℕ). depth ≤ n) all.kept (omega arith) in
    let compared : Alike unversioned (compared_keys (last_state s runs) name) (take depth ((made ++ front) ++ key ∷ old)) =
    alike_first unversioned depth (keys_or_none (last_state s runs) name) (take k ((made ++ front) ++ key ∷ old))
    (all.keys ∙ twice k made front (keys_or_none s name) (key ∷ old) behind.held)
    ∙ ap (map unversioned) (take-take depth k ((made ++ front) ++ key ∷ old) enough) in
    let many : length (made ++ front) ≡ count + new_keys_in name runs =
    length-append made front ∙ sum (length made) (length front) (as_many_in runs name) behind.many in
    contains_alike (compared_keys (last_state s runs) name) (take depth ((made ++ front) ++ key ∷ old)) key compared
    (among_first depth (made ++ front) key old (subst (λ (n : ℕ). n < depth) (sym many) low))
  where
    sum : (a b : ℕ) → a ≡ new_keys_in name runs → b ≡ count → a + b ≡ count + new_keys_in name runs
    sum a b e f = omega (arith, e, f)

-- ---- the laws on restarts

pub refused_over_restarts : RefusedOverRestarts
refused_over_restarts h runs are realm stays stay few =
    refused_in_later_histories h (left_by h runs) realm
    (compared_then (end_of h) runs h.name (key_of h) (new_keys_of h.name h.later) are stay (held_at_end h stays) few)

pub adopted_is_refused_over_restarts : AdoptedIsRefusedOverRestarts
adopted_is_refused_over_restarts h password runs is_key are realm stays stay few =
    refused_while_compared (last_state (end_with h) runs) h.name password h.key
    (compared_then (end_with h) runs h.name h.key (new_keys_of h.name h.later) are stay (adopted_at_end h stays) few)
    (same_key h.opening (last_state (end_with h) runs) h.name password h.key (sym realm) is_key)
