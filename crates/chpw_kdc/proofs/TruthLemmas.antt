-- A ticket is confirmed only by an answer to its put, or to a later one.
use Rattle.std.proofs.Common.{◌≡◌, ℕ, ◌+◌, ◌≤◌, ◌<◌, max, nat_lt, List, [], ◌∷◌, ◌++◌, Bool, true, false, ◌&&◌, is_none, is_some, Option}
use Rattle.std.proofs.Common.{Some, None, Ok, inl, inr, ◌⊎◌, refl, sym, ◌∙◌, ap, subst, append_assoc, if◌then◌else◌, arith}
use Rattle.std.proofs.lemmas.Bool.Decides.{nat_tests}
use Rattle.std.proofs.lemmas.Grind.{common_steps}
use Rattle.chpw_rules.specs.declared.name.Name.{Name}
use Rattle.chpw_record.specs.declared.key.KeyRow.{KeyRow}
use Rattle.chpw_kdc.specs.declared.answer.Answer.{Answer}
use Rattle.chpw_kdc.specs.declared.put.Put.{Put}
use Rattle.chpw_kdc.specs.declared.put.UnderWay.{UnderWay}
use Rattle.chpw_kdc.specs.declared.put.UnderWay.TheVariants as asked
use Rattle.chpw_kdc.specs.declared.update.KdcUpdate.{KdcUpdate}
use Rattle.chpw_kdc.specs.Lines.{Request, list_keys, get, put, answer_of}
use Rattle.chpw_kdc.specs.Paces.{may_ask}
use Rattle.chpw_kdc.specs.Dialogs.{State, at_start, ticketed, is_of_change, changes_of, after_fault, after_request, request_by, first_request, put_in}
use Rattle.chpw_kdc.specs.Dialogs.{get_in, or_else, is_late, without_update}
use Rattle.chpw_kdc.specs.Answering.{without_first, confirmed_with, later_ticket, is_put_for}
use Rattle.chpw_kdc.specs.Runs.{Event, holds, holds_none, fills, wants, loses_want, wants_comparison, connects, loses, asks, hears}
use Rattle.chpw_kdc.specs.Runs.{ticks, takes, decides, tells, behind, run, state_after, Settles, IsAnswered, IsConfirmed}
use Rattle.chpw_kdc.specs.Runs.{Truthful, NeverFalls}
use Rattle.chpw_kdc.proofs.MirrorLemmas.{name_exact}
use Rattle.chpw_kdc.proofs.EffectLemmas.{Waits, PutsRight, IsSettled, internal}
use Rattle.chpw_kdc.proofs.RunLemmas.{run_append, by_events, by_byte, IsHeard}
use Rattle.chpw_kdc.proofs.ToldLemmas.{allowed, no_put}

-- ---- the tickets on their way

abbrev ticket_or : ℕ → Option ℕ → ℕ
ticket_or low None = low
ticket_or low (Some t) = t

abbrev IsNext : ℕ → Option ℕ → Type 0
IsNext low None = Unit {0}
IsNext low (Some t) = t ≡ low + 1

-- they go up by one, from the last that is confirmed to the last that was given
abbrev IsRun : ℕ → List Put → ℕ → Type 0
IsRun low [] high = low ≡ high
IsRun low (p ∷ ps) high = IsNext low p.ticket × IsRun (ticket_or low p.ticket) ps high

run_want : (low high now : ℕ) (ps : List Put) (name : Name) (key : KeyRow) → IsRun low ps high
    → IsRun low (ps ++ ticketed now name key (high + 1) ∷ []) (high + 1)
run_want low high now [] name key r = (ap (λ (n : ℕ). n + 1) (sym r), refl)
run_want low high now (p ∷ ps) name key r = (r.0, run_want (ticket_or low p.ticket) high now ps name key r.1)

run_internal : (low high since : ℕ) (ps : List Put) (name : Name) (key : KeyRow) → IsRun low ps high → IsRun low (ps ++ internal since name key ∷ []) high
run_internal low high since [] name key r = (tt, r)
run_internal low high since (p ∷ ps) name key r = (r.0, run_internal (ticket_or low p.ticket) high since ps name key r.1)

run_later : (low high : ℕ) (o : Option ℕ) (ps : List Put) → IsNext low o → IsRun (ticket_or low o) ps high → IsRun (later_ticket low o) ps high
run_later low high None ps n r = r
run_later low high (Some t) ps n r =
    let same : t ≡ max low t = omega arith in
    subst (λ (l : ℕ). IsRun l ps high) same r

run_kept_if : (o : Option ℕ) (low high : ℕ) (p : Put) (rest : List Put) → p.ticket ≡ o → IsNext low o → IsRun (ticket_or low o) rest high
    → IsRun low (if is_some o then p ∷ rest else rest) high
run_kept_if None low high p rest is next r = r
run_kept_if (Some t) low high p rest is next r =
    (subst (IsNext low) (sym is) next, subst (λ (o : Option ℕ). IsRun (ticket_or low o) rest high) (sym is) r)

-- those of changes alone
run_kept : (low high : ℕ) (ps : List Put) → IsRun low ps high → IsRun low (changes_of ps) high
run_kept low high [] r = r
run_kept low high (p ∷ ps) r = run_kept_if p.ticket low high p (changes_of ps) refl r.0 (run_kept (ticket_or low p.ticket) high ps r.1)

run_popped : (low high : ℕ) (ps : List Put) → IsRun low ps high → IsRun (confirmed_with low ps) (without_first ps) high
run_popped low high [] r = r
run_popped low high (p ∷ ps) r = run_later low high p.ticket ps r.0 r.1

-- ---- what each ticket was given for

record WasWanted (start : ℕ) (events : List Event) (ticket : ℕ) (name : Name) (key : KeyRow) : Type 0 where
  before : List Event
  wanted_at : ℕ
  later : List Event
  parts : events ≡ before ++ wants wanted_at name key ∷ later
  issued : (state_after start before).issued + 1 ≡ ticket

abbrev TicketWanted : ℕ → List Event → Option ℕ → Name → KeyRow → Type 0
TicketWanted start events None name key = Unit {0}
TicketWanted start events (Some t) name key = WasWanted start events t name key

abbrev AllWanted : ℕ → List Event → List Put → Type 0
AllWanted start events [] = Unit {0}
AllWanted start events (p ∷ ps) = TicketWanted start events p.ticket p.name p.key × AllWanted start events ps

wanted_on : (start : ℕ) (events : List Event) (e : Event) (o : Option ℕ) (name : Name) (key : KeyRow)
    → TicketWanted start events o name key → TicketWanted start (events ++ e ∷ []) o name key
wanted_on start events e None name key w = tt
wanted_on start events e (Some t) name key w = record {
  before = w.before;
  wanted_at = w.wanted_at;
  later = w.later ++ e ∷ [];
  parts = ap (λ (xs : List Event). xs ++ e ∷ []) w.parts ∙ append_assoc w.before (wants w.wanted_at name key ∷ w.later) (e ∷ []);
  issued = w.issued;
}

all_on : (start : ℕ) (events : List Event) (e : Event) (ps : List Put) → AllWanted start events ps → AllWanted start (events ++ e ∷ []) ps
all_on start events e [] all = tt
all_on start events e (p ∷ ps) all = (wanted_on start events e p.ticket p.name p.key all.0, all_on start events e ps all.1)

all_more : (start : ℕ) (events : List Event) (ps : List Put) (p : Put) → AllWanted start events ps → TicketWanted start events p.ticket p.name p.key
    → AllWanted start events (ps ++ p ∷ [])
all_more start events [] p all w = (w, tt)
all_more start events (x ∷ xs) p all w = (all.0, all_more start events xs p all.1 w)

all_less : (start : ℕ) (events : List Event) (ps : List Put) → AllWanted start events ps → AllWanted start events (without_first ps)
all_less start events [] all = tt
all_less start events (p ∷ ps) all = all.1

all_kept_if : (start : ℕ) (events : List Event) (b : Bool) (p : Put) (rest : List Put) → TicketWanted start events p.ticket p.name p.key
    → AllWanted start events rest → AllWanted start events (if b then p ∷ rest else rest)
all_kept_if start events true p rest one all = (one, all)
all_kept_if start events false p rest one all = all

all_kept : (start : ℕ) (events : List Event) (ps : List Put) → AllWanted start events ps → AllWanted start events (changes_of ps)
all_kept start events [] all = tt
all_kept start events (p ∷ ps) all = all_kept_if start events (is_of_change p) p (changes_of ps) all.0 (all_kept start events ps all.1)

-- ---- what is under way

-- a put that is under way is the first one
abbrev IsFirst : Option UnderWay → List Put → Type 0
IsFirst None ps = Unit {0}
IsFirst (Some asked.List) ps = Unit {0}
IsFirst (Some asked.Get) ps = Unit {0}
IsFirst (Some (asked.Put key)) [] = ⊥
IsFirst (Some (asked.Put key)) (p ∷ ps) = key ≡ p.key

first_more : (o : Option UnderWay) (ps : List Put) (p : Put) → IsFirst o ps → IsFirst o (ps ++ p ∷ [])
first_more None ps p f = tt
first_more (Some asked.List) ps p f = tt
first_more (Some asked.Get) ps p f = tt
first_more (Some (asked.Put key)) [] p f = absurd f
first_more (Some (asked.Put key)) (x ∷ xs) p f = f

first_asked : (ps : List Put) (names : List Name) (b : Bool) (name : Name) (key : KeyRow)
    → or_else (put_in ps) (or_else (get_in names) (if b then Some list_keys else None)) ≡ Some (put name key) → IsFirst (Some (asked.Put key)) ps
first_asked [] names b name key h = absurd (no_put names b name key h)
first_asked (p ∷ ps) names b name key h = cc

-- ---- together

record Holds (start : ℕ) (events : List Event) (c : ℕ) (ps : List Put) (i : ℕ) (o : Option UnderWay) : Type 0 where
  tickets : IsRun c ps i
  wanted : AllWanted start events ps
  first : IsFirst o ps
  confirmed : (t : ℕ) → 0 < t → t ≤ c → IsConfirmed start events t

confirmed_on : (start : ℕ) (events : List Event) (e : Event) (t : ℕ) → IsConfirmed start events t → IsConfirmed start (events ++ e ∷ []) t
confirmed_on start events e t c = record {
  before = c.before;
  wanted_at = c.wanted_at;
  name = c.name;
  key = c.key;
  between = c.between;
  ours = c.ours;
  now = c.now;
  later = c.later ++ e ∷ [];
  parts =
      ap (λ (xs : List Event). xs ++ e ∷ []) c.parts
      ∙ append_assoc c.before (wants c.wanted_at c.name c.key ∷ (c.between ++ hears c.ours c.now 10 ∷ c.later)) (e ∷ [])
      ∙ ap (λ (xs : List Event). c.before ++ wants c.wanted_at c.name c.key ∷ xs) (append_assoc c.between (hears c.ours c.now 10 ∷ c.later) (e ∷ []));
  issued = c.issued;
  answered = c.answered;
}

on : (start : ℕ) (events : List Event) (e : Event) (c : ℕ) (ps : List Put) (i : ℕ) (o : Option UnderWay)
    → Holds start events c ps i o → Holds start (events ++ e ∷ []) c ps i o
on start events e c ps i o h = record {
  tickets = h.tickets;
  wanted = all_on start events e ps h.wanted;
  first = h.first;
  confirmed = λ t m n. confirmed_on start events e t (h.confirmed t m n);
}

-- a request is done with
unasked : (start : ℕ) (events : List Event) (c : ℕ) (ps : List Put) (i : ℕ) (o : Option UnderWay) → Holds start events c ps i o → Holds start events c ps i None
unasked start events c ps i o h = record { tickets = h.tickets; wanted = h.wanted; first = tt; confirmed = h.confirmed }

-- all that belongs to one connection is forgotten
forgets : (start : ℕ) (events : List Event) (c : ℕ) (ps : List Put) (i : ℕ) (o : Option UnderWay) → Holds start events c ps i o
    → Holds start events c (changes_of ps) i None
forgets start events c ps i o h = record {
  tickets = run_kept c i ps h.tickets;
  wanted = all_kept start events ps h.wanted;
  first = tt;
  confirmed = h.confirmed;
}

wanted_more : (start : ℕ) (done : List Event) (s : State) (now : ℕ) (name : Name) (key : KeyRow) → s ≡ state_after start done
    → Holds start done s.confirmed s.puts s.issued s.asked
    → Holds start (done ++ wants now name key ∷ []) s.confirmed (s.puts ++ ticketed now name key (s.issued + 1) ∷ []) (s.issued + 1) s.asked
wanted_more start done s now name key is h =
    let k = on start done (wants now name key) s.confirmed s.puts s.issued s.asked h in record {
      tickets = run_want s.confirmed s.issued now s.puts name key h.tickets;
      wanted = all_more start (done ++ wants now name key ∷ []) s.puts (ticketed now name key (s.issued + 1)) k.wanted
          (record { before = done; wanted_at = now; later = []; parts = refl; issued = ap (λ (t : State). t.issued + 1) (sym is) });
      first = first_more s.asked s.puts (ticketed now name key (s.issued + 1)) h.first;
      confirmed = k.confirmed;
    }

right_more : (start : ℕ) (events : List Event) (s t : State) → Holds start events s.confirmed s.puts s.issued s.asked → PutsRight s t
    → Holds start events s.confirmed t.puts s.issued s.asked
right_more start events s t h (inl same) = subst (λ (ps : List Put). Holds start events s.confirmed ps s.issued s.asked) (sym same) h
right_more start events s t h (inr p) =
    subst (λ (ps : List Put). Holds start events s.confirmed ps s.issued s.asked) (sym p.3) (record {
      tickets = run_internal s.confirmed s.issued s.pace.began s.puts p.0 p.1 h.tickets;
      wanted = all_more start events s.puts (internal s.pace.began p.0 p.1) h.wanted tt;
      first = first_more s.asked s.puts (internal s.pace.began p.0 p.1) h.first;
      confirmed = h.confirmed;
    })

asked_as : (start : ℕ) (events : List Event) (c : ℕ) (ps : List Put) (i : ℕ) (o p : Option UnderWay) → (p ≡ None) ⊎ (p ≡ o)
    → Holds start events c ps i o → Holds start events c ps i p
asked_as start events c ps i o p (inl none) h = subst (λ (q : Option UnderWay). Holds start events c ps i q) (sym none) (unasked start events c ps i o h)
asked_as start events c ps i o p (inr same) h = subst (λ (q : Option UnderWay). Holds start events c ps i q) (sym same) h

-- ---- a put is settled

-- the answer is one to the first put
answered_first : (s : State) (ps : List Put) (a : Answer) (name : Name) (key : KeyRow) (p : Put) (rest : List Put)
    → s.asked ≡ Some (asked.Put key) → ps ≡ p ∷ rest → is_put_for ps name ≡ true → Settles a name key → answer_of s.heard ≡ Ok a
    → IsFirst s.asked ps → IsAnswered s p.name p.key
answered_first s ps a name key p rest under parts first settles line below =
    let own : IsFirst (Some (asked.Put key)) (p ∷ rest) =
    subst (λ (o : Option UnderWay). IsFirst o (p ∷ rest)) under (subst (λ (qs : List Put). IsFirst s.asked qs) parts below) in
    let same : key ≡ p.key = own in
    let n : p.name ≡ name = name_exact p.name name (subst (λ (qs : List Put). is_put_for qs name ≡ true) parts first) in
    record {
      answer = a;
      under_way = under ∙ ap (λ (k : KeyRow). Some (asked.Put k)) same;
      line = line;
      settles = subst (λ (k : KeyRow). Settles a p.name k) same (subst (λ (m : Name). Settles a m key) (sym n) settles);
    }

confirmed_now : (start : ℕ) (done : List Event) (s : State) (ours : Name → Bool) (now : ℕ) (ticket : ℕ) (p : Put)
    → s ≡ state_after start done → WasWanted start done ticket p.name p.key → IsAnswered s p.name p.key
    → IsConfirmed start (done ++ hears ours now 10 ∷ []) ticket
confirmed_now start done s ours now ticket p is w answered = record {
  before = w.before;
  wanted_at = w.wanted_at;
  name = p.name;
  key = p.key;
  between = w.later;
  ours = ours;
  now = now;
  later = [];
  parts =
      ap (λ (xs : List Event). xs ++ hears ours now 10 ∷ []) w.parts
      ∙ append_assoc w.before (wants w.wanted_at p.name p.key ∷ w.later) (hears ours now 10 ∷ []);
  issued = w.issued;
  answered = subst (λ (t : State). IsAnswered t p.name p.key) (is ∙ ap (λ (xs : List Event). state_after start xs) w.parts) answered;
}

-- up to the ticket of the first put, if it has one
up_to_first : (start : ℕ) (done : List Event) (s : State) (ours : Name → Bool) (now c : ℕ) (p : Put) (o : Option ℕ)
    → s ≡ state_after start done → IsNext c o → TicketWanted start done o p.name p.key → IsAnswered s p.name p.key
    → ((t : ℕ) → 0 < t → t ≤ c → IsConfirmed start (done ++ hears ours now 10 ∷ []) t)
    → (t : ℕ) → 0 < t → t ≤ later_ticket c o → IsConfirmed start (done ++ hears ours now 10 ∷ []) t
up_to_first start done s ours now c p None is next w answered before t m n = before t m n
up_to_first start done s ours now c p (Some ticket) is next w answered before t m n = by_test (nat_lt c t) refl
  where
    by_test : (b : Bool) → nat_lt c t ≡ b → IsConfirmed start (done ++ hears ours now 10 ∷ []) t
    by_test true test =
        let more : c < t = grind (arith, nat_tests, common_steps) in
        let same : ticket ≡ t = omega arith in
        subst (λ (u : ℕ). IsConfirmed start (done ++ hears ours now 10 ∷ []) u) same (confirmed_now start done s ours now ticket p is w answered)
    by_test false test =
        let less : t ≤ c = grind (arith, nat_tests, common_steps) in
        before t m less

settled_puts : (start : ℕ) (done : List Event) (s : State) (ours : Name → Bool) (now : ℕ) (a : Answer) (name : Name) (key : KeyRow) (ps : List Put)
    → s ≡ state_after start done → s.asked ≡ Some (asked.Put key) → is_put_for ps name ≡ true → Settles a name key → answer_of s.heard ≡ Ok a
    → Holds start done s.confirmed ps s.issued s.asked
    → Holds start (done ++ hears ours now 10 ∷ []) (confirmed_with s.confirmed ps) (without_first ps) s.issued None
settled_puts start done s ours now a name key [] is under first settles line h = absurd cc
settled_puts start done s ours now a name key (p ∷ ps) is under first settles line h =
    let k = on start done (hears ours now 10) s.confirmed (p ∷ ps) s.issued s.asked h in record {
      tickets = run_popped s.confirmed s.issued (p ∷ ps) h.tickets;
      wanted = k.wanted.1;
      first = tt;
      confirmed = up_to_first start done s ours now s.confirmed p p.ticket is h.tickets.0 h.wanted.0
          (answered_first s (p ∷ ps) a name key p ps under refl first settles line h.first) k.confirmed;
    }

-- ---- after an event

abbrev Always : ℕ → List Event → State → Type 0
Always start events s = Holds start events s.confirmed s.puts s.issued s.asked

heard_holds : (start : ℕ) (done : List Event) (s t : State) (ours : Name → Bool) (now byte : ℕ) → s ≡ state_after start done → Always start done s
    → IsHeard ours s byte t → Always start (done ++ hears ours now byte ∷ []) t
heard_holds start done s t ours now byte is h (inl e) =
    subst (λ (u : State). Always start (done ++ hears ours now byte ∷ []) u) e (on start done (hears ours now byte) s.confirmed s.puts s.issued s.asked h)
heard_holds start done s t ours now byte is h (inr x) =
    subst (λ (i : ℕ). Holds start (done ++ hears ours now byte ∷ []) t.confirmed t.puts i t.asked) (sym x.3.1) (by_kind x.3.3)
  where
    later : Holds start (done ++ hears ours now byte ∷ []) s.confirmed s.puts s.issued s.asked
    later = on start done (hears ours now byte) s.confirmed s.puts s.issued s.asked h

    by_kind : Waits s t ⊎ IsSettled s x.0 t → Holds start (done ++ hears ours now byte ∷ []) t.confirmed t.puts s.issued t.asked
    by_kind (inl w) =
        subst (λ (c : ℕ). Holds start (done ++ hears ours now byte ∷ []) c t.puts s.issued t.asked) (sym w.1)
        (asked_as start (done ++ hears ours now byte ∷ []) s.confirmed t.puts s.issued s.asked t.asked w.2
        (right_more start (done ++ hears ours now byte ∷ []) s t later w.0))
    by_kind (inr d) =
        subst (λ (c : ℕ). Holds start (done ++ hears ours now byte ∷ []) c t.puts s.issued t.asked) (sym d.6)
        (subst (λ (ps : List Put). Holds start (done ++ hears ours now byte ∷ []) (confirmed_with s.confirmed s.puts) ps s.issued t.asked) (sym d.5)
        (subst (λ (o : Option UnderWay). Holds start (done ++ hears ours now byte ∷ []) (confirmed_with s.confirmed s.puts) (without_first s.puts) s.issued o)
        (sym d.7)
        (subst (λ (b : ℕ). Holds start (done ++ hears ours now b ∷ []) (confirmed_with s.confirmed s.puts) (without_first s.puts) s.issued None) (sym x.1)
        (settled_puts start done s ours now x.0 d.0 d.1 s.puts is d.2 d.3 d.4 x.2 h))))

request_holds : (start : ℕ) (events : List Event) (now : ℕ) (s : State) (o : Option Request) → request_by now s ≡ o → Always start events s
    → Always start events (after_request now o s)
request_holds start events now s None is h = h
request_holds start events now s (Some list_keys) is h = record { tickets = h.tickets; wanted = h.wanted; first = tt; confirmed = h.confirmed }
request_holds start events now s (Some (get name)) is h = record { tickets = h.tickets; wanted = h.wanted; first = tt; confirmed = h.confirmed }
request_holds start events now s (Some (put name key)) is h = record {
  tickets = h.tickets;
  wanted = h.wanted;
  first = first_asked s.puts s.gets _ name key (allowed (is_none s.asked && may_ask now s.pace) (first_request now s) (put name key) is);
  confirmed = h.confirmed;
}

tick_holds : (start : ℕ) (events : List Event) (now : ℕ) (s : State) (b : Bool) → Always start events s
    → Always start events (if b then after_fault now s else s)
tick_holds start events now s true h = forgets start events s.confirmed s.puts s.issued s.asked h
tick_holds start events now s false h = h

take_holds : (start : ℕ) (events : List Event) (s : State) (us : List KdcUpdate) → Always start events s → Always start events (without_update s us)
take_holds start events s [] h = h
take_holds start events s (u ∷ us) h = h

holds_behind : (start : ℕ) (done : List Event) (s : State) (e : Event) → s ≡ state_after start done → Always start done s
    → Always start (done ++ e ∷ []) (behind s e)
holds_behind start done s (holds name key) is h = on start done (holds name key) s.confirmed s.puts s.issued s.asked h
holds_behind start done s (holds_none name) is h = on start done (holds_none name) s.confirmed s.puts s.issued s.asked h
holds_behind start done s (fills name) is h = on start done (fills name) s.confirmed s.puts s.issued s.asked h
holds_behind start done s (wants now name key) is h = wanted_more start done s now name key is h
holds_behind start done s loses_want is h = on start done loses_want s.confirmed s.puts s.issued s.asked h
holds_behind start done s wants_comparison is h = on start done wants_comparison s.confirmed s.puts s.issued s.asked h
holds_behind start done s (connects now) is h =
    on start done (connects now) s.confirmed (changes_of s.puts) s.issued None (forgets start done s.confirmed s.puts s.issued s.asked h)
holds_behind start done s (loses now) is h =
    on start done (loses now) s.confirmed (changes_of s.puts) s.issued None (forgets start done s.confirmed s.puts s.issued s.asked h)
holds_behind start done s (asks now) is h =
    request_holds start (done ++ asks now ∷ []) now s (request_by now s) refl (on start done (asks now) s.confirmed s.puts s.issued s.asked h)
holds_behind start done s (hears ours now byte) is h =
    by_byte (Always start (done ++ hears ours now byte ∷ [])) ours now s byte
    (on start done (hears ours now byte) s.confirmed (changes_of s.puts) s.issued None
    (forgets start done s.confirmed s.puts s.issued s.asked h))
    (λ t f x. heard_holds start done s t ours now byte is h x)
holds_behind start done s (ticks now) is h =
    tick_holds start (done ++ ticks now ∷ []) now s (is_late now s) (on start done (ticks now) s.confirmed s.puts s.issued s.asked h)
holds_behind start done s takes is h = take_holds start (done ++ takes ∷ []) s s.updates (on start done takes s.confirmed s.puts s.issued s.asked h)
holds_behind start done s decides is h = on start done decides s.confirmed s.puts s.issued s.asked h
holds_behind start done s tells is h = on start done tells s.confirmed s.puts s.issued s.asked h

pub truthful : Truthful
truthful start events ticket m n =
    (by_events start (Always start)
    (record { tickets = refl; wanted = tt; first = tt; confirmed = λ t more less. absurd (omega arith) })
    (holds_behind start) events).confirmed ticket m n

-- ---- what was confirmed stays confirmed

with_more : (c : ℕ) (ps : List Put) → c ≤ confirmed_with c ps
with_more c [] = omega arith
with_more c (p ∷ ps) = by_ticket p.ticket
  where
    by_ticket : (o : Option ℕ) → c ≤ later_ticket c o
    by_ticket None = omega arith
    by_ticket (Some t) = omega arith

heard_grows : (ours : Name → Bool) (s t : State) (byte : ℕ) → IsHeard ours s byte t → s.confirmed ≤ t.confirmed
heard_grows ours s t byte (inl e) = subst (λ (u : State). s.confirmed ≤ u.confirmed) e (omega arith)
heard_grows ours s t byte (inr x) = by_kind x.3.3
  where
    by_kind : Waits s t ⊎ IsSettled s x.0 t → s.confirmed ≤ t.confirmed
    by_kind (inl w) = omega (arith, w.1)
    by_kind (inr d) = subst (λ (c : ℕ). s.confirmed ≤ c) (sym d.6) (with_more s.confirmed s.puts)

request_grows : (now : ℕ) (s : State) (o : Option Request) → s.confirmed ≤ (after_request now o s).confirmed
request_grows now s None = omega arith
request_grows now s (Some list_keys) = omega arith
request_grows now s (Some (get name)) = omega arith
request_grows now s (Some (put name key)) = omega arith

tick_grows : (now : ℕ) (s : State) (b : Bool) → s.confirmed ≤ (if b then after_fault now s else s).confirmed
tick_grows now s true = omega arith
tick_grows now s false = omega arith

take_grows : (s : State) (us : List KdcUpdate) → s.confirmed ≤ (without_update s us).confirmed
take_grows s [] = omega arith
take_grows s (u ∷ us) = omega arith

grows : (s : State) (e : Event) → s.confirmed ≤ (behind s e).confirmed
grows s (holds name key) = omega arith
grows s (holds_none name) = omega arith
grows s (fills name) = omega arith
grows s (wants now name key) = omega arith
grows s loses_want = omega arith
grows s wants_comparison = omega arith
grows s (connects now) = omega arith
grows s (loses now) = omega arith
grows s (asks now) = request_grows now s (request_by now s)
grows s (hears ours now byte) =
    by_byte (λ (t : State). s.confirmed ≤ t.confirmed) ours now s byte (omega arith) (λ t f x. heard_grows ours s t byte x)
grows s (ticks now) = tick_grows now s (is_late now s)
grows s takes = take_grows s s.updates
grows s decides = omega arith
grows s tells = omega arith

grows_on : (s : State) (es : List Event) → s.confirmed ≤ (run s es).confirmed
grows_on s [] = omega arith
grows_on s (e ∷ es) = omega (arith, grows s e, grows_on (behind s e) es)

pub never_falls : NeverFalls
never_falls start events more =
    subst (λ (t : State). (state_after start events).confirmed ≤ t.confirmed) (sym (run_append (at_start start) events more))
    (grows_on (state_after start events) more)
