-- A state and what a table holds of it are judged alike, and go on alike.
use Rattle.std.proofs.Common.{filter, not, ◌≡◌, ℕ, max, List, [], ◌∷◌, ◌++◌, Bool, true, false}
use Rattle.std.proofs.Common.{◌&&◌, ◌||◌, if◌then◌else◌, Option, refl, sym, ◌∙◌, ap, subst, arith}
use Rattle.std.specs.Prelude.{option_map, ℤ, int_le, nat_le}
use Rattle.std.specs.Int.{int_max}
use Rattle.std.specs.List.{list_any}
use Rattle.std.proofs.lemmas.Int.{ints, clamps}
use Rattle.chpw_rules.specs.declared.name.Name.{Name}
use Rattle.chpw_rules.specs.Names.{is_same_name}
use Rattle.chpw_table.specs.declared.times.Moment.{Moment}
use Rattle.chpw_table.specs.declared.request.Opened.{Opened}
use Rattle.chpw_table.specs.declared.request.RequestId.{RequestId}
use Rattle.chpw_table.specs.declared.verdict.Verdict.{Verdict}
use Rattle.chpw_table.specs.declared.verdict.Verdict.TheVariants.{Skew, Replay}
use Rattle.chpw_table.specs.declared.raising.RaiseVerdict.{RaiseVerdict}
use Rattle.chpw_table.specs.declared.raising.RaiseVerdict.TheVariants.{NotHigher, Broken, Raised}
use Rattle.chpw_record.specs.declared.key.KeyRow.{KeyRow}
use Rattle.chpw_table.specs.Requests.{id_of, is_same_id, target_of, digest_of}
use Rattle.chpw_table.specs.State.{State, Fixed, keys_held, is_used, kept_count, new_count}
use Rattle.chpw_table.specs.Verdicts.{adds_id, is_done, is_broken, reads_keys}
use Rattle.chpw_table.specs.Wanted.{wanted, lacking}
use Rattle.chpw_table.specs.Decision.{verdict, message_row}
use Rattle.chpw_table.specs.Times.{clock_at, is_far, is_later}
use Rattle.chpw_table.specs.Step.{step, after, new_key}
use Rattle.chpw_table.specs.Raising.{raise_verdict, is_raised, is_unwritten, after_raise, step_raise}
use Rattle.chpw_table.specs.History.{missing}
use Rattle.chpw_table.specs.Agreement.{Agrees}
use Rattle.chpw_table.proofs.NameLemmas.{is_same_id-Decides}
use Rattle.chpw_table.proofs.StepLemmas.{used_more}
use Rattle.chpw_table.proofs.KeyLemmas.{keys_after, put}

-- from NotYet on only these are read
pub same_fresh : (t s : State) (clock : ℤ) (o : Opened) (io : Bool)
    → t.fixed ≡ s.fixed → keys_held t (target_of o).name ≡ keys_held s (target_of o).name → t.broken ≡ s.broken
    → message_row t clock o io ≡ message_row s clock o io
same_fresh t s clock o io f k b = simp (k, f, b)

-- the clock of an event is no earlier than the state's
pub not_old : (clock now ctime : ℤ) → is_far (int_max clock now) ctime ≡ false → is_later clock ctime ≡ false
not_old clock now ctime h = grind (arith, ints, clamps)

-- where the request is not too old, whether its id was used and the later rows decide alike
pub same_judged : (a b c d : Bool) (v w : Verdict) → (a ≡ false → b ≡ d) → (a ≡ false → v ≡ w)
    → (if a then Skew else if b then Replay else v) ≡ (if a then Skew else if d then Replay else w)
same_judged true b c d v w g h = refl
same_judged false b c d v w g h = ap (λ (x : Bool). if x then Replay else v) (g refl) ∙ ap (λ (x : Verdict). if d then Replay else x) (h refl)

-- neither of two tests holds
pub near_both : (a b : Bool) → (a || b) ≡ false → a ≡ false
near_both true b h = h
near_both false b h = refl

-- the same verdict
pub same_verdict : (t s : State) (now : Moment) (o : Opened) (io : Bool) → Agrees t s → verdict t now o io ≡ verdict s now o io
same_verdict t s now o io a =
    let skew : (is_far (clock_at t now) o.ctime || int_le o.ctime t.fixed.quiet_until)
    ≡ (is_far (clock_at s now) o.ctime || int_le o.ctime s.fixed.quiet_until) = simp (a.clock, a.fixed) in
    let fresh : message_row t (clock_at t now) o io ≡ message_row s (clock_at s now) o io =
    same_fresh t s (clock_at t now) o io a.fixed (a.principals (target_of o).name) a.broken
    ∙ ap (λ (c : ℤ). message_row s (int_max c now.seconds) o io) a.clock in
    ap (λ (b : Bool). if b then Skew else if is_used t (id_of o) then Replay else message_row t (clock_at t now) o io) skew
    ∙ same_judged (is_far (clock_at s now) o.ctime || int_le o.ctime s.fixed.quiet_until) (is_used t (id_of o)) false (is_used s (id_of o)) _ _
    (λ h. a.ids (id_of o) (not_old s.clock now.seconds o.ctime (near_both _ _ h)))
    (λ h. fresh)

-- the same new key
pub same_new_key : (t s : State) (o : Opened) → new_count t ≡ new_count s
    → keys_held t (target_of o).name ≡ keys_held s (target_of o).name → new_key t o ≡ new_key s o
same_new_key t s o c k = simp (k, c)

-- the same keys of each name after an event
pub agrees_keys : (t s : State) (v : Verdict) (now : Moment) (o : Opened) (io : Bool)
    → Agrees t s → (name : Name) → keys_held (after v t now o io) name ≡ keys_held (after v s now o io) name
agrees_keys t s v now o io a name =
    keys_after t v now o io name
    ∙ (ap (λ (x : Option (List KeyRow)). if is_done v && is_same_name (target_of o).name name
    then option_map (put (kept_count t) (new_key t o)) x else x) (a.principals name)
    ∙ (ap (λ (k : KeyRow). if is_done v && is_same_name (target_of o).name name then option_map (put (kept_count t) k)
    (keys_held s name) else keys_held s name) (same_new_key t s o a.count (a.principals (target_of o).name))
    ∙ (ap (λ (f : Fixed). if is_done v && is_same_name (target_of o).name name
    then option_map (put (max f.policy.depth 1) (new_key s o)) (keys_held s name) else keys_held s name) a.fixed
    ∙ sym (keys_after s v now o io name))))

pub still_young : (clock now ctime : ℤ) → is_later (int_max clock now) ctime ≡ false → is_later clock ctime ≡ false
still_young clock now ctime h = grind (arith, ints, clamps)

used_alike : (b : Bool) (x id : RequestId) (xs ys : List RequestId)
    → list_any (λ (y : RequestId). is_same_id y id) xs ≡ list_any (λ (y : RequestId). is_same_id y id) ys
    → list_any (λ (y : RequestId). is_same_id y id) (if b then xs ++ x ∷ [] else xs)
    ≡ list_any (λ (y : RequestId). is_same_id y id) (if b then ys ++ x ∷ [] else ys)
used_alike true x id xs ys h = used_more xs x id ∙ (ap (λ b. b || is_same_id x id) h ∙ sym (used_more ys x id))
used_alike false x id xs ys h = h

-- they agree after an event of the same verdict
pub agrees_after : (t s : State) (v : Verdict) (now : Moment) (o : Opened) (io : Bool) → Agrees t s → Agrees (after v t now o io) (after v s now o io)
agrees_after t s v now o io a = record {
  fixed = a.fixed;
  principals = agrees_keys t s v now o io a;
  clock = ap (λ c. int_max c now.seconds) a.clock;
  broken = ap (λ b. b || (is_broken v && io)) a.broken;
  count = a.count;
  ids = λ id h. used_alike (adds_id v) (id_of o) id t.used s.used (a.ids id (still_young s.clock now.seconds id.ctime h));
}

-- what a table does by its own state is a step of each state that it agrees with
pub agrees_step : (t s : State) (now : Moment) (o : Opened) (io : Bool) → Agrees t s → Agrees (step t now o io) (step s now o io)
agrees_step t s now o io a =
    subst (λ (v : Verdict). Agrees (step t now o io) (after v s now o io)) (same_verdict t s now o io a) (agrees_after t s (verdict t now o io) now o io a)

-- a raise is judged alike
pub same_raise_verdict : (t s : State) (count : ℕ) (io : Bool) → Agrees t s → raise_verdict t count io ≡ raise_verdict s count io
same_raise_verdict t s count io a =
    ap (λ (n : ℕ). if nat_le count n then NotHigher else if t.broken || io then Broken else Raised) a.count
    ∙ ap (λ (b : Bool). if nat_le count s.count then NotHigher else if b || io then Broken else Raised) a.broken

-- and they agree after it
agrees_after_raise : (t s : State) (v : RaiseVerdict) (now : Moment) (count : ℕ) (io : Bool)
    → Agrees t s → Agrees (after_raise v t now count io) (after_raise v s now count io)
agrees_after_raise t s v now count io a = record {
  fixed = a.fixed;
  principals = a.principals;
  clock = ap (λ c. int_max c now.seconds) a.clock;
  broken = ap (λ b. b || (is_unwritten v && io)) a.broken;
  count = ap (λ (n : ℕ). if is_raised v then count else n) a.count;
  ids = λ id h. a.ids id (still_young s.clock now.seconds id.ctime h);
}

pub agrees_raise : (t s : State) (now : Moment) (count : ℕ) (io : Bool) → Agrees t s → Agrees (step_raise t now count io) (step_raise s now count io)
agrees_raise t s now count io a =
    subst (λ (v : RaiseVerdict). Agrees (step_raise t now count io) (after_raise v s now count io)) (same_raise_verdict t s count io a)
    (agrees_after_raise t s (raise_verdict t count io) now count io a)

-- the same counts are missing
pub same_missing : (t s : State) (now : Moment) (o : Opened) → Agrees t s → missing t now o ≡ missing s now o
same_missing t s now o a =
    let c : new_count t ≡ new_count s = a.count in
    ap (λ (v : Verdict). if reads_keys v then lacking (digest_of o).derived (wanted t (target_of o).name) else []) (same_verdict t s now o false a)
    ∙ ap (λ (ns : List ℕ). if reads_keys (verdict s now o false)
    then lacking (digest_of o).derived ns else []) (simp (a.principals (target_of o).name, a.fixed, c))

-- what agrees with a state that agrees with another
pub agrees_onward : (a b c : State) → Agrees a b → Agrees b c → Agrees a c
agrees_onward a b c p q = record {
  fixed = p.fixed ∙ q.fixed;
  principals = λ name. p.principals name ∙ q.principals name;
  clock = p.clock ∙ q.clock;
  broken = p.broken ∙ q.broken;
  count = p.count ∙ q.count;
  ids = λ id h. p.ids id (ap (λ (k : ℤ). is_later k id.ctime) q.clock ∙ h) ∙ q.ids id h;
}

-- a state agrees with itself
pub agrees_itself : (s : State) → Agrees s s
agrees_itself s = record { fixed = refl; principals = λ name. refl; clock = refl; broken = refl; count = refl; ids = λ id h. refl }

young_used : (clock : ℤ) (x : RequestId) (xs : List RequestId) (id : RequestId) → is_later clock id.ctime ≡ false
    → list_any (λ (y : RequestId). is_same_id y id) (filter (λ (y : RequestId). not (is_later clock y.ctime)) xs)
    ≡ list_any (λ (y : RequestId). is_same_id y id) xs
    → (b : Bool) → is_later clock x.ctime ≡ b → (c : Bool) → is_same_id x id ≡ c
    → list_any (λ (y : RequestId). is_same_id y id) (filter (λ (y : RequestId). not (is_later clock y.ctime)) (x ∷ xs))
    ≡ list_any (λ (y : RequestId). is_same_id y id) (x ∷ xs)
young_used clock x xs id h ih false e c f = rw e (ap (λ b. is_same_id x id || b) ih)
young_used clock x xs id h ih true e false f = rw (e, f) ih
young_used clock x xs id h ih true e true f =
    let same : x ≡ id = (is_same_id-Decides x id).0 f in
    let old : is_later clock id.ctime ≡ true = ap (λ (y : RequestId). is_later clock y.ctime) (sym same) ∙ e in
    absurd (apart (is_later clock id.ctime) h old)
  where
    apart : (b : Bool) → b ≡ false → b ≡ true → ⊥
    apart b u v = cc

-- an id not too old is found alike without those that are
pub used_swept : (clock : ℤ) (xs : List RequestId) (id : RequestId) → is_later clock id.ctime ≡ false
    → list_any (λ (y : RequestId). is_same_id y id) (filter (λ (y : RequestId). not (is_later clock y.ctime)) xs)
    ≡ list_any (λ (y : RequestId). is_same_id y id) xs
used_swept clock [] id h = refl
used_swept clock (x ∷ xs) id h = young_used clock x xs id h (used_swept clock xs id h) (is_later clock x.ctime) refl (is_same_id x id) refl

-- the state without the ids that are too old to be judged
abbrev pub swept : State → State
swept t = record {
  fixed = t.fixed;
  principals = t.principals;
  used = filter (λ (y : RequestId). not (is_later t.clock y.ctime)) t.used;
  clock = t.clock;
  broken = t.broken;
  count = t.count;
}

-- a table that forgets the ids too old to be judged agrees as before
pub agrees_swept : (t s : State) → Agrees t s → Agrees (swept t) s
agrees_swept t s a = record {
  fixed = a.fixed;
  principals = a.principals;
  clock = a.clock;
  broken = a.broken;
  count = a.count;
  ids = λ id h. used_swept t.clock t.used id (ap (λ (c : ℤ). is_later c id.ctime) a.clock ∙ h) ∙ a.ids id h;
}
