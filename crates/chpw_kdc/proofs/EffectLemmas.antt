-- What an answer of the agent's may do to keys, tickets and updates: nothing, a put to set the KDC right, something for the desk,
-- or a put is settled.
use Rattle.std.proofs.Common.{◌≡◌, ◌∙◌, sym, ap, refl, subst, ℕ, ◌≤◌, ◌<◌, Bool, true, false, not, ◌&&◌, ◌==◌, nat_lt, is_some}
use Rattle.std.proofs.Common.{if◌then◌else◌, List, [], ◌∷◌, ◌++◌, length, Option, Some, None, Result, Ok, Err, inl, inr, ◌⊎◌}
use Rattle.std.proofs.Common.{arith}
use Rattle.std.proofs.lemmas.Bool.Decides.{nat_tests}
use Rattle.std.proofs.lemmas.Grind.{common_steps}
use Rattle.chpw_rules.specs.declared.name.Name.{Name}
use Rattle.chpw_record.specs.declared.key.KeyRow.{KeyRow}
use Rattle.chpw_kdc.specs.declared.fields.KeyPair.{KeyPair}
use Rattle.chpw_kdc.specs.declared.answer.Reason.{Reason}
use Rattle.chpw_kdc.specs.declared.answer.Answer.{Answer}
use Rattle.chpw_kdc.specs.declared.answer.Answer.TheVariants as answer
use Rattle.chpw_kdc.specs.declared.fault.ProtocolFault.{ProtocolFault}
use Rattle.chpw_kdc.specs.declared.fault.ProtocolFault.TheVariants as fault
use Rattle.chpw_kdc.specs.Lines.{is_changed}
use Rattle.chpw_kdc.specs.declared.judging.Judgement.{Judgement}
use Rattle.chpw_kdc.specs.declared.judging.Judgement.TheVariants as judged
use Rattle.chpw_kdc.specs.declared.put.Put.{Put}
use Rattle.chpw_kdc.specs.declared.put.UnderWay.{UnderWay}
use Rattle.chpw_kdc.specs.declared.put.UnderWay.TheVariants as asked
use Rattle.chpw_kdc.specs.declared.update.KdcUpdate.{KdcUpdate}
use Rattle.chpw_kdc.specs.declared.update.KdcUpdate.TheVariants as update
use Rattle.chpw_kdc.specs.Mirrors.{key_of, judgement, may_adopt, adopted, is_same}
use Rattle.chpw_kdc.specs.Dialogs.{State}
use Rattle.chpw_kdc.specs.Answering.{after_answer, awaiting, of_asked, of_list, of_get, of_put, compared, after_judgement, with_listed}
use Rattle.chpw_kdc.specs.Answering.{with_lacked, lacked_in, is_many, refused_if_held, list_postponed, with_update, settled, lifted, after_higher, is_newest}
use Rattle.chpw_kdc.specs.Answering.{accepted, refused, has_version, is_listed, is_first, is_put_for, if_named, without_first}
use Rattle.chpw_kdc.specs.Answering.{confirmed_with, is_on_its_way}
use Rattle.chpw_kdc.specs.Runs.{Settles, IsNews, HasVersion, IsAskedFor}
use Rattle.chpw_kdc.specs.Paces.{pace_due}

-- what the answer says that the desk is to do
abbrev pub Said : (Name → Bool) → State → Answer → KdcUpdate → Type 0
Said ours s a (update.Adopt name key) =
    (keys : KeyPair) × (a ≡ answer.Has name key.kvno keys) × (key ≡ adopted key.kvno keys) × IsNews ours (key_of s.mirror name) name key.kvno
Said ours s a (update.Lift name kvno) =
    (key : KeyRow) × (a ≡ answer.Put name kvno) × (s.asked ≡ Some (asked.Put key)) × (is_put_for s.puts name ≡ true)
    × (key.kvno < kvno) × HasVersion (key_of s.mirror name) key.kvno
Said ours s a (update.Remove name) = (a ≡ answer.None name) × IsAskedFor s name

-- no update more, or one that the answer says
abbrev pub Brings : (Name → Bool) → State → Answer → State → Type 0
Brings ours s a t = (t.updates ≡ s.updates) ⊎ ((u : KdcUpdate) × Said ours s a u × (t.updates ≡ s.updates ++ u ∷ []))

abbrev pub internal : ℕ → Name → KeyRow → Put
internal since name key = record { name = name; key = key; ticket = None; since = since }

-- no put more, or the mirror's key of a name
abbrev pub PutsRight : State → State → Type 0
PutsRight s t =
    (t.puts ≡ s.puts) ⊎ ((name : Name) × (held : KeyRow) × (key_of s.mirror name ≡ Some held) × (t.puts ≡ s.puts ++ internal s.pace.began name held ∷ []))

abbrev pub Waits : State → State → Type 0
Waits s t = PutsRight s t × (t.confirmed ≡ s.confirmed) × ((t.asked ≡ None) ⊎ (t.asked ≡ s.asked))

-- the first put is done with
abbrev pub IsSettled : State → Answer → State → Type 0
IsSettled s a t =
    (name : Name) × (key : KeyRow) × (s.asked ≡ Some (asked.Put key)) × (is_put_for s.puts name ≡ true) × Settles a name key
    × (t.puts ≡ without_first s.puts) × (t.confirmed ≡ confirmed_with s.confirmed s.puts) × (t.asked ≡ None)

abbrev pub Effect : (Name → Bool) → State → Answer → State → Type 0
Effect ours s a t = (t.mirror ≡ s.mirror) × (t.issued ≡ s.issued) × Brings ours s a t × (Waits s t ⊎ IsSettled s a t)

-- ---- tests

pub from_test : (b : Bool) (why : ProtocolFault) (x t : State) → (if b then Err why else Ok x) ≡ Ok t → (b ≡ false) × (x ≡ t)
from_test true why x t h = absurd cc
from_test false why x t h = (refl, cc)

pub from_named : (b : Bool) (x t : State) → if_named b x ≡ Ok t → (b ≡ true) × (x ≡ t)
from_named true x t h = (refl, cc)
from_named false x t h = absurd cc

not_false : (b : Bool) → not b ≡ false → b ≡ true
not_false true h = refl
not_false false h = cc

both : (b c : Bool) → (b && c) ≡ true → (b ≡ true) × (c ≡ true)
both true true h = (refl, refl)
both true false h = absurd cc
both false c h = absurd cc

-- ---- what is compared

news_if : (ours : Name → Bool) (b : Bool) (name : Name) (key k : KeyRow)
    → may_adopt ours name ≡ b → (if b then judged.Adopt k else judged.Leave) ≡ judged.Adopt key → (key ≡ k) × IsNews ours None name k.kvno
news_if ours true name key k is h = (cc, is)
news_if ours false name key k is h = absurd cc

newer_if : (ours : Name → Bool) (b c : Bool) (name : Name) (key k held : KeyRow) → nat_lt held.kvno k.kvno ≡ b
    → (if b then judged.Adopt k else if c then judged.Leave else judged.Put held) ≡ judged.Adopt key → (key ≡ k) × (held.kvno < k.kvno)
newer_if ours true c name key k held is h = (cc, grind (arith, nat_tests, common_steps))
newer_if ours false true name key k held is h = absurd cc
newer_if ours false false name key k held is h = absurd cc

judged_news : (ours : Name → Bool) (o : Option KeyRow) (name : Name) (kvno : ℕ) (keys : KeyPair) (key : KeyRow)
    → judgement ours o name kvno keys ≡ judged.Adopt key → (key ≡ adopted kvno keys) × IsNews ours o name kvno
judged_news ours None name kvno keys key h = news_if ours (may_adopt ours name) name key (adopted kvno keys) refl h
judged_news ours (Some held) name kvno keys key h =
    newer_if ours (nat_lt held.kvno kvno) (is_same held kvno keys) name key (adopted kvno keys) held refl h

right_if : (b : Bool) (key k : KeyRow) → (if b then judged.Adopt k else judged.Leave) ≡ judged.Put key → ⊥
right_if true key k h = cc
right_if false key k h = cc

right_of : (b c : Bool) (key k held : KeyRow) → (if b then judged.Adopt k else if c then judged.Leave else judged.Put held) ≡ judged.Put key → held ≡ key
right_of true c key k held h = absurd cc
right_of false true key k held h = absurd cc
right_of false false key k held h = cc

judged_put : (ours : Name → Bool) (o : Option KeyRow) (name : Name) (kvno : ℕ) (keys : KeyPair) (key : KeyRow)
    → judgement ours o name kvno keys ≡ judged.Put key → o ≡ Some key
judged_put ours None name kvno keys key h = absurd (right_if (may_adopt ours name) key (adopted kvno keys) h)
judged_put ours (Some held) name kvno keys key h =
    ap (λ (k : KeyRow). Some k) (right_of (nat_lt held.kvno kvno) (is_same held kvno keys) key (adopted kvno keys) held h)

-- what a comparison does, before the request is done with
abbrev pub Compares : (Name → Bool) → State → Answer → State → Type 0
Compares ours s a t =
    (t.mirror ≡ s.mirror) × (t.issued ≡ s.issued) × Brings ours s a t × PutsRight s t × (t.confirmed ≡ s.confirmed) × (t.asked ≡ s.asked)

-- the mirror's key of a name is put, unless this is so
put_unless : (ours : Name → Bool) (s : State) (a : Answer) (b : Bool) (name : Name) (key : KeyRow) → key_of s.mirror name ≡ Some key
    → Compares ours s a (if b then s else record s { puts = s.puts ++ internal s.pace.began name key ∷ [] })
put_unless ours s a true name key is = (refl, refl, inl refl, inl refl, refl, refl)
put_unless ours s a false name key is = (refl, refl, inl refl, inr (name, key, is, refl), refl, refl)

by_judgement : (ours : Name → Bool) (s : State) (name : Name) (kvno : ℕ) (keys : KeyPair) (j : Judgement)
    → judgement ours (key_of s.mirror name) name kvno keys ≡ j → Compares ours s (answer.Has name kvno keys) (after_judgement name j s)
by_judgement ours s name kvno keys judged.Leave is = (refl, refl, inl refl, inl refl, refl, refl)
by_judgement ours s name kvno keys (judged.Adopt key) is =
    let n = judged_news ours (key_of s.mirror name) name kvno keys key is in
    let version : kvno ≡ key.kvno = sym (ap (λ (k : KeyRow). k.kvno) n.0) in (
      refl,
      refl,
      inr (
        update.Adopt name key,
        (
          keys,
          ap (λ (k : ℕ). answer.Has name k keys) version,
          n.0 ∙ ap (λ (k : ℕ). adopted k keys) version,
          subst (λ (k : ℕ). IsNews ours (key_of s.mirror name) name k) version n.1,
        ),
        refl,
      ),
      inl refl,
      refl,
      refl,
    )
by_judgement ours s name kvno keys (judged.Put key) is =
    put_unless ours s (answer.Has name kvno keys) (is_on_its_way s.puts name key) name key
    (judged_put ours (key_of s.mirror name) name kvno keys key is)

compares : (ours : Name → Bool) (s : State) (name : Name) (kvno : ℕ) (keys : KeyPair)
    → Compares ours s (answer.Has name kvno keys) (compared ours name kvno keys s)
compares ours s name kvno keys = by_judgement ours s name kvno keys (judgement ours (key_of s.mirror name) name kvno keys) refl

refuses : (ours : Name → Bool) (s : State) (a : Answer) (b : Bool) (name : Name) (why : Reason)
    → Compares ours s a (if b then refused name why s else s)
refuses ours s a true name why = (refl, refl, inl refl, inl refl, refl, refl)
refuses ours s a false name why = (refl, refl, inl refl, inl refl, refl, refl)

-- ---- the list

lacks : (ours : Name → Bool) (s : State) (a : Answer) (b : Bool) (names : List Name) (x y : State)
    → Compares ours s a x → Compares ours s a y → Compares ours s a (if b then x else y)
lacks ours s a true names x y p q = p
lacks ours s a false names x y p q = q

-- the request goes on
goes_on : (ours : Name → Bool) (s t : State) (a : Answer) → Compares ours s a t → Effect ours s a t
goes_on ours s t a c = (c.0, c.1, c.2, inl (c.3, c.4, inr c.5))

of_the_list : (ours : Name → Bool) (now : ℕ) (s t : State) (a : Answer) → of_list ours now s a ≡ Ok t → Effect ours s a t
of_the_list ours now s t (answer.Has name kvno keys) h =
    subst (λ (u : State). Effect ours s (answer.Has name kvno keys) u) (from_test (is_listed s.listed name) _ _ t h).1
    (goes_on ours s (compared ours name kvno keys (with_listed name s)) (answer.Has name kvno keys) (compares ours (with_listed name s) name kvno keys))
of_the_list ours now s t (answer.Other name why) h =
    subst (λ (u : State). Effect ours s (answer.Other name why) u) (from_test (is_listed s.listed name) _ _ t h).1
    (goes_on ours s (refused_if_held name why (with_listed name s)) (answer.Other name why)
    (refuses ours (with_listed name s) (answer.Other name why) (is_some (key_of s.mirror name)) name why))
of_the_list ours now s t (answer.End count) h =
    let l = lacked_in s.listed s.mirror in
    let c : Compares ours s (answer.End count) (with_lacked l s) =
    lacks ours s (answer.End count) (is_many (length l) (length s.mirror)) l _ _
    (refl, refl, inl refl, inl refl, refl, refl) (refl, refl, inl refl, inl refl, refl, refl) in
    subst (λ (u : State). Effect ours s (answer.End count) u) (from_test (not (length s.listed == count)) _ _ t h).1
    (c.0, c.1, c.2, inl (c.3, c.4, inl refl))
of_the_list ours now s t (answer.ListFailed text) h =
    let e : list_postponed text now s ≡ t = cc in
    subst (λ (u : State). Effect ours s (answer.ListFailed text) u) e (refl, refl, inl refl, inl (inl refl, refl, inl refl))
of_the_list ours now s t (answer.None name) h = absurd cc
of_the_list ours now s t (answer.Put name kvno) h = absurd cc
of_the_list ours now s t (answer.Refused name why) h = absurd cc
of_the_list ours now s t (answer.Failed name text) h = absurd cc
of_the_list ours now s t answer.Changed h = absurd cc

-- ---- a name that was asked for alone

of_one_name : (ours : Name → Bool) (now : ℕ) (s t : State) (a : Answer) → s.asked ≡ Some asked.Get → of_get ours now s a ≡ Ok t → Effect ours s a t
of_one_name ours now s t (answer.Has name kvno keys) is h =
    let c = compares ours s name kvno keys in
    subst (λ (u : State). Effect ours s (answer.Has name kvno keys) u) (from_named (is_first s.gets name) _ t h).1
    (c.0, c.1, c.2, inl (c.3, c.4, inl refl))
of_one_name ours now s t (answer.Other name why) is h =
    let c = refuses ours s (answer.Other name why) (is_some (key_of s.mirror name)) name why in
    subst (λ (u : State). Effect ours s (answer.Other name why) u) (from_named (is_first s.gets name) _ t h).1
    (c.0, c.1, c.2, inl (c.3, c.4, inl refl))
of_one_name ours now s t (answer.None name) is h =
    let n = from_named (is_first s.gets name) _ t h in
    subst (λ (u : State). Effect ours s (answer.None name) u) n.1
    (refl, refl, inr (update.Remove name, (refl, inl (is, n.0)), refl), inl (inl refl, refl, inl refl))
of_one_name ours now s t (answer.Failed name text) is h =
    subst (λ (u : State). Effect ours s (answer.Failed name text) u) (from_named (is_first s.gets name) _ t h).1
    (refl, refl, inl refl, inl (inl refl, refl, inl refl))
of_one_name ours now s t (answer.End count) is h = absurd cc
of_one_name ours now s t (answer.ListFailed text) is h = absurd cc
of_one_name ours now s t (answer.Put name kvno) is h = absurd cc
of_one_name ours now s t (answer.Refused name why) is h = absurd cc
of_one_name ours now s t answer.Changed is h = absurd cc

-- ---- a put

version_is : (o : Option KeyRow) (kvno : ℕ) → has_version o kvno ≡ true → HasVersion o kvno
version_is None kvno h = cc
version_is (Some held) kvno h = grind (arith, nat_tests, common_steps)

higher : (ours : Name → Bool) (s : State) (name : Name) (kvno : ℕ) (key : KeyRow) (b : Bool)
    → s.asked ≡ Some (asked.Put key) → is_put_for s.puts name ≡ true → key.kvno < kvno → is_newest name key.kvno s ≡ b
    → Compares ours s (answer.Put name kvno) (if b then with_update (update.Lift name kvno) s else record s { pace = pace_due s.pace })
higher ours s name kvno key false is first lower test = (refl, refl, inl refl, inl refl, refl, refl)
higher ours s name kvno key true is first lower test =
    let of_two = both (has_version (key_of s.mirror name) key.kvno && (length s.updates == 0)) (s.deciding == 0) test in
    let version = both (has_version (key_of s.mirror name) key.kvno) (length s.updates == 0) of_two.0 in (
      refl,
      refl,
      inr (update.Lift name kvno, (key, refl, is, first, lower, version_is (key_of s.mirror name) key.kvno version.0), refl),
      inl refl,
      refl,
      refl,
    )

lifts : (ours : Name → Bool) (s : State) (name : Name) (kvno : ℕ) (key : KeyRow) (b : Bool)
    → s.asked ≡ Some (asked.Put key) → is_put_for s.puts name ≡ true → nat_lt key.kvno kvno ≡ b
    → Compares ours s (answer.Put name kvno) (if b then after_higher name key.kvno kvno s else s)
lifts ours s name kvno key false is first test = (refl, refl, inl refl, inl refl, refl, refl)
lifts ours s name kvno key true is first test =
    let lower : key.kvno < kvno = grind (arith, nat_tests, common_steps, test) in
    higher ours s name kvno key (is_newest name key.kvno s) is first lower refl

-- what a put does to the rest of the puts, if none came with the answer
put_done : (written : Bool) (ours : Name → Bool) (s t u : State) (a : Answer) (name : Name) (key : KeyRow)
    → (t.mirror ≡ s.mirror) → (t.issued ≡ s.issued) → Brings ours s a t → (t.puts ≡ s.puts) → (t.confirmed ≡ s.confirmed)
    → s.asked ≡ Some (asked.Put key) → is_put_for s.puts name ≡ true → Settles a name key → settled written t ≡ u → Effect ours s a u
put_done written ours s t u a name key m i b p c is first settles e =
    subst (λ (v : State). Effect ours s a v) e
    (m, i, b, inr (name, key, is, first, settles, ap without_first p, ap (λ (n : ℕ). confirmed_with n t.puts) c ∙ ap (confirmed_with s.confirmed) p, refl))

not_lower : (a b : ℕ) → nat_lt a b ≡ false → b ≤ a
not_lower a b h = grind (arith, nat_tests, common_steps)

lifted_puts : (name : Name) (put kvno : ℕ) (s : State) → (lifted name put kvno s).puts ≡ s.puts
lifted_puts name put kvno s = by_test (nat_lt put kvno) (is_newest name put s)
  where
    by_test : (b c : Bool) → (if b then if c then with_update (update.Lift name kvno) s else record s { pace = pace_due s.pace } else s).puts ≡ s.puts
    by_test true true = refl
    by_test true false = refl
    by_test false c = refl

of_a_put : (ours : Name → Bool) (now : ℕ) (s t : State) (key : KeyRow) (a : Answer) → s.asked ≡ Some (asked.Put key) → of_put key now s a ≡ Ok t
    → Effect ours s a t
of_a_put ours now s t key (answer.Put name kvno) is h = by_name (is_put_for s.puts name) refl h
  where
    by_version : (b : Bool) → nat_lt kvno key.kvno ≡ b → is_put_for s.puts name ≡ true
        → (if b then Err fault.LowerVersion else Ok (settled true (accepted name (lifted name key.kvno kvno s)))) ≡ Ok t
        → Effect ours s (answer.Put name kvno) t
    by_version b lower first g =
        let f = from_test b _ _ t g in
        let c = lifts ours s name kvno key _ is first refl in
        put_done true ours s (accepted name (lifted name key.kvno kvno s)) t (answer.Put name kvno) name key c.0 c.1 c.2
        (lifted_puts name key.kvno kvno s) c.4 is first
        (refl, not_lower kvno key.kvno (lower ∙ f.0)) f.1

    by_name : (b : Bool) → is_put_for s.puts name ≡ b
        → (if not b then Err fault.OtherName else if nat_lt kvno key.kvno then Err fault.LowerVersion
        else Ok (settled true (accepted name (lifted name key.kvno kvno s)))) ≡ Ok t
        → Effect ours s (answer.Put name kvno) t
    by_name true first g = by_version (nat_lt kvno key.kvno) refl first g
    by_name false first g = absurd cc
of_a_put ours now s t key (answer.None name) is h =
    let n = from_named (is_put_for s.puts name) _ t h in
    put_done false ours s (with_update (update.Remove name) s) t (answer.None name) name key refl refl
    (inr (update.Remove name, (refl, inr (key, is, n.0)), refl)) refl refl is n.0 refl n.1
of_a_put ours now s t key (answer.Refused name why) is h =
    let n = from_named (is_put_for s.puts name) _ t h in
    put_done false ours s (refused name why s) t (answer.Refused name why) name key refl refl (inl refl) refl refl is n.0 refl n.1
of_a_put ours now s t key (answer.Failed name text) is h =
    subst (λ (u : State). Effect ours s (answer.Failed name text) u) (from_named (is_put_for s.puts name) _ t h).1
    (refl, refl, inl refl, inl (inl refl, refl, inl refl))
of_a_put ours now s t key (answer.Has name kvno keys) is h = absurd cc
of_a_put ours now s t key (answer.Other name why) is h = absurd cc
of_a_put ours now s t key (answer.End count) is h = absurd cc
of_a_put ours now s t key (answer.ListFailed text) is h = absurd cc
of_a_put ours now s t key answer.Changed is h = absurd cc

-- ---- any answer

by_asked : (ours : Name → Bool) (now : ℕ) (s t : State) (a : Answer) (o : Option UnderWay) → s.asked ≡ o → of_asked ours now o s a ≡ Ok t → Effect ours s a t
by_asked ours now s t a None is h = absurd cc
by_asked ours now s t a (Some asked.List) is h = of_the_list ours now s t a h
by_asked ours now s t a (Some asked.Get) is h = of_one_name ours now s t a is h
by_asked ours now s t a (Some (asked.Put key)) is h = of_a_put ours now s t key a is h

pub changed : (b : Bool) (x : State) (r : Result State ProtocolFault) (ours : Name → Bool) (s t : State) (a : Answer)
    → (if b then Ok x else r) ≡ Ok t → Effect ours s a x → (r ≡ Ok t → Effect ours s a t) → Effect ours s a t
changed true x r ours s t a h quiet others =
    let e : x ≡ t = cc in
    subst (λ (u : State). Effect ours s a u) e quiet
changed false x r ours s t a h quiet others = others h

pub effect : (ours : Name → Bool) (now : ℕ) (s t : State) (a : Answer) → after_answer ours now s a ≡ Ok t → Effect ours s a t
effect ours now s t a h =
    changed (is_changed a) _ (of_asked ours now s.asked (awaiting now s) a) ours s t a h (refl, refl, inl refl, inl (inl refl, refl, inr refl))
    (λ g. by_asked ours now (awaiting now s) t a s.asked refl g)
