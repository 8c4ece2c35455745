-- What an event does to the keys of a name.
use Rattle.std.proofs.Common.{◌≡◌, ◌≢◌, ℕ, zero, suc, ◌+◌, ◌≤◌, max, List, [], ◌∷◌, ◌++◌, length, Bool}
use Rattle.std.proofs.Common.{true, false, ◌&&◌, if◌then◌else◌, Option, Some, None, is_none, unwrap_or}
use Rattle.std.proofs.Common.{refl, sym, ◌∙◌, ap, subst, arith, rules, map, find, take, append_assoc}
use Rattle.std.specs.Prelude.{option_map, ℤ, IsSome, IfSome}
use Rattle.std.proofs.lemmas.List.{take_all, take-take, length-take}
use Rattle.chpw_rules.specs.declared.name.Name.{Name}
use Rattle.chpw_rules.specs.Names.{is_same_name}
use Rattle.chpw_table.specs.declared.times.Moment.{Moment}
use Rattle.chpw_table.specs.declared.request.Opened.{Opened}
use Rattle.chpw_table.specs.declared.verdict.Verdict.{Verdict}
use Rattle.chpw_table.specs.declared.verdict.Verdict.TheVariants.{Skew, Replay, NotYet, Expired, BadPrivate, BadBody, Denied, NeedInitial, Unknown, Done}
use Rattle.chpw_table.specs.declared.history.Event.{Event}
use Rattle.chpw_table.specs.declared.history.Event.TheVariants.{Ask, Raise, Update}
use Rattle.chpw_record.specs.declared.key.KeyRow.{KeyRow}
use Rattle.chpw_table.specs.declared.table.Principal.{Principal}
use Rattle.chpw_table.specs.Requests.{target_of}
use Rattle.chpw_table.specs.State.{State, Fixed, keys_held, kept_count}
use Rattle.chpw_table.specs.Verdicts.{is_done}
use Rattle.chpw_table.specs.Decision.{verdict, newest_kvno, message_row}
use Rattle.chpw_table.specs.Times.{clock_at}
use Rattle.chpw_table.specs.Step.{step, after, new_key, with_key}
use Rattle.chpw_table.specs.History.{IsJudged, step_event, step_entry, outcome}
use Rattle.chpw_table.specs.Laws.{DoneRaisesTarget, OthersStay}
use Rattle.chpw_table.specs.Decision.{key_row}
use Rattle.chpw_table.proofs.NameLemmas.{is_same_name-Decides, is_same_name-itself}

-- a name's keys in a list of principals
abbrev pub keys_in : List Principal → Name → Option (List KeyRow)
keys_in ps name = option_map (λ (p : Principal). p.keys) (find (λ (p : Principal). is_same_name p.name name) ps)

-- a test of names that are equal
pub same_test : (a b name : Name) → is_same_name a b ≡ true → is_same_name a name ≡ is_same_name b name
same_test a b name h = ap (λ (n : Name). is_same_name n name) ((is_same_name-Decides a b).0 h)

-- a key in front of others, of which the newest are kept
abbrev pub put : ℕ → KeyRow → List KeyRow → List KeyRow
put kept key keys = take kept (key ∷ keys)

-- at the head of the list
head_put : (kept : ℕ) (target : Name) (key : KeyRow) (p : Principal) (ps : List Principal) (name : Name)
    → keys_in (map (with_key kept target key) ps) name ≡ (if is_same_name target name then option_map (put kept key) (keys_in ps name) else keys_in ps name)
    → (b : Bool) → is_same_name p.name target ≡ b → (c : Bool) → is_same_name p.name name ≡ c
    → keys_in (with_key kept target key p ∷ map (with_key kept target key) ps) name ≡ (if is_same_name target name
    then option_map (put kept key) (keys_in (p ∷ ps) name) else keys_in (p ∷ ps) name)
head_put kept target key p ps name ih true e true f = let g : is_same_name target name ≡ true = sym (same_test p.name target name e) ∙ f in rw (e, f, g) refl
head_put kept target key p ps name ih true e false f =
    let g : is_same_name target name ≡ false = sym (same_test p.name target name e) ∙ f in rw (e, f, g) (rw g at ih)
head_put kept target key p ps name ih false e true f =
    let g : is_same_name target name ≡ false = elim (is_same_name target name) as (λ b. is_same_name target name ≡ b → b ≡ false) [
      | true ↦ λ x. absurd (apart (is_same_name p.name target) e ((is_same_name-Decides p.name target).1
          ((is_same_name-Decides p.name name).0 f ∙ sym ((is_same_name-Decides target name).0 x))))
      | false ↦ λ x. refl
    ] refl in
    rw (e, f, g) refl
  where
    apart : (b : Bool) → b ≡ false → b ≡ true → ⊥
    apart b x y = cc
head_put kept target key p ps name ih false e false f = rw (e, f) ih

none_put : (kept : ℕ) (key : KeyRow) (b : Bool) (o : Option (List KeyRow)) → o ≡ None → o ≡ (if b then option_map (put kept key) o else o)
none_put kept key true o h = rw h refl
none_put kept key false o h = refl

-- the keys of each name after a new key of one
pub keys_put : (kept : ℕ) (target : Name) (key : KeyRow) (ps : List Principal) (name : Name)
    → keys_in (map (with_key kept target key) ps) name ≡ (if is_same_name target name then option_map (put kept key) (keys_in ps name) else keys_in ps name)
keys_put kept target key [] name = none_put kept key (is_same_name target name) None refl
keys_put kept target key (p ∷ ps) name = head_put kept target key p ps name
    (keys_put kept target key ps name) (is_same_name p.name target) refl (is_same_name p.name name) refl

-- what an event makes of a name's keys
pub keys_after : (s : State) (v : Verdict) (now : Moment) (o : Opened) (io : Bool) (name : Name)
    → keys_held (after v s now o io) name ≡ (if is_done v && is_same_name (target_of o).name name
    then option_map (put (kept_count s) (new_key s o)) (keys_held s name) else keys_held s name)
keys_after s v now o io name = elim (is_done v) as (λ b. keys_in (if b
    then map (with_key (kept_count s) (target_of o).name (new_key s o)) s.principals else s.principals) name
    ≡ (if b && is_same_name (target_of o).name name
    then option_map (put (kept_count s) (new_key s o)) (keys_held s name) else keys_held s name)) [
      | true ↦ keys_put (kept_count s) (target_of o).name (new_key s o) s.principals name
      | false ↦ refl
    ]

other_test : (a b : Name) → b ≢ a → (c : Bool) → is_same_name a b ≡ c → c ≡ false
other_test a b h true e = absurd (h (sym ((is_same_name-Decides a b).0 e)))
other_test a b h false e = refl

and_false : (b : Bool) → (b && false) ≡ false
and_false true = refl
and_false false = refl

-- the law on the other names
pub others_stay : OthersStay
others_stay s now o io name h =
    keys_after s (verdict s now o io) now o io name
    ∙ (let e : is_same_name (target_of o).name name ≡ false = other_test (target_of o).name name h _ refl in rw (e, and_false) refl)

-- past a row that is not Done
past : (b : Bool) (v w : Verdict) → is_done v ≡ false → (if b then v else w) ≡ Done → (b ≡ false) × (w ≡ Done)
past true v w h e = absurd (apart v h e)
  where
    apart : (v : Verdict) → is_done v ≡ false → v ≡ Done → ⊥
    apart v h e = let d : is_done v ≡ true = ap is_done e in cc
past false v w h e = (refl, e)

held_at_done : (s : State) (o : Opened) (io : Bool) → key_row s o io ≡ Done → is_none (keys_held s (target_of o).name) ≡ false
held_at_done s o io h = (past (is_none (keys_held s (target_of o).name)) Unknown _ refl h).0

held_at_fresh_done : (s : State) (clock : ℤ) (o : Opened) (io : Bool) → message_row s clock o io ≡ Done → is_none (keys_held s (target_of o).name) ≡ false
held_at_fresh_done s clock o io h =
    held_at_done s o io (past _ NeedInitial _ refl (past _ Denied _ refl (past _ BadBody _ refl
    (past _ BadPrivate _ refl (past _ Expired _ refl (past _ NotYet _ refl h).1).1).1).1).1).1

-- at Done the target has keys
pub held_at_verdict : (s : State) (now : Moment) (o : Opened) (io : Bool) → verdict s now o io ≡ Done → is_none (keys_held s (target_of o).name) ≡ false
held_at_verdict s now o io h = held_at_fresh_done s (clock_at s now) o io (past _ Replay _ refl (past _ Skew _ refl h).1).1

-- at least one key is kept
pub kept_some : (depth : ℕ) → (k : ℕ) × (max depth 1 ≡ suc k)
kept_some zero = (0, refl)
kept_some (suc n) = (n, omega arith)

-- the key put in front is the newest
pub newest_put : (kept k : ℕ) (key : KeyRow) (keys : List KeyRow) → kept ≡ suc k → newest_kvno (put kept key keys) ≡ key.kvno
newest_put kept k key keys h = rw h refl

raised : (kept k : ℕ) (key : KeyRow) (held : Option (List KeyRow)) → kept ≡ suc k → is_none held ≡ false → key.kvno ≡ newest_kvno (unwrap_or held []) + 1
    → IsSome (option_map newest_kvno held) × (option_map newest_kvno (option_map (put kept key) held) ≡ option_map (λ n. n + 1) (option_map newest_kvno held))
raised kept k key None h there e = absurd (let x : true ≡ false = there in cc)
raised kept k key (Some keys) h there e = (search rules, ap Some (newest_put kept k key keys h ∙ e))

-- the law on the target of Done
pub done_raises_target : DoneRaisesTarget
done_raises_target s now o io h =
    let some = kept_some s.fixed.policy.depth in
    let all = raised (kept_count s) some.0 (new_key s o) (keys_held s (target_of o).name) some.1 (held_at_verdict s now o io h) refl in
    let keys : keys_held (step s now o io) (target_of o).name ≡ option_map (put (kept_count s) (new_key s o)) (keys_held s (target_of o).name) =
    keys_after s (verdict s now o io) now o io (target_of o).name ∙ rw (h, is_same_name-itself (target_of o).name) refl in
    (all.0, ap (λ (x : Option (List KeyRow)). option_map newest_kvno x) keys ∙ all.1)

-- cut before or after something is put in front
pub take_front : (m n : ℕ) (xs ys : List KeyRow) → m ≤ n → take m (xs ++ take n ys) ≡ take m (xs ++ ys)
take_front m n [] ys h = take-take m n ys h
take_front zero n (x ∷ xs) ys h = refl
take_front (suc m) n (x ∷ xs) ys h = ap (λ (zs : List KeyRow). x ∷ zs) (take_front m n xs ys (omega arith))

-- what an event leaves fixed
pub same_fixed : (s : State) (now : Moment) (io : Bool) (event : Event) → (step_event s now io event).fixed ≡ s.fixed
same_fixed s now io (Ask o v) = refl
same_fixed s now io (Raise count v) = refl
same_fixed s now io (Update u v) = refl

pub same_kept : (s : State) (now : Moment) (io : Bool) (event : Event) → kept_count (step_event s now io event) ≡ kept_count s
same_kept s now io event = ap (λ (f : Fixed). max f.policy.depth 1) (same_fixed s now io event)
