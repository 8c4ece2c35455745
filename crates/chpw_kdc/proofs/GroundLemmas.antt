-- What the desk is asked was said by the agent, and not for many names at once.
use Rattle.std.proofs.Common.{◌≡◌, ℕ, nat_lt, ◌==◌, List, [], ◌∷◌, ◌++◌, length, Bool, true, false, not, is_some, Option}
use Rattle.std.proofs.Common.{Some, None, Result, Ok, Err, inl, inr, refl, sym, ◌∙◌, ap, subst, append_assoc, if◌then◌else◌}
use Rattle.std.proofs.Common.{is_ok}
use Rattle.std.specs.List.{AllByRecursion}
use Rattle.chpw_rules.specs.declared.name.Name.{Name}
use Rattle.chpw_record.specs.declared.key.KeyRow.{KeyRow}
use Rattle.chpw_kdc.specs.declared.answer.Reason.{Reason}
use Rattle.chpw_kdc.specs.declared.answer.Answer.{Answer}
use Rattle.chpw_kdc.specs.declared.answer.Answer.TheVariants as answer
use Rattle.chpw_kdc.specs.declared.fault.ProtocolFault.{ProtocolFault}
use Rattle.chpw_kdc.specs.declared.fault.ProtocolFault.TheVariants as fault
use Rattle.chpw_kdc.specs.declared.judging.Judgement.{Judgement}
use Rattle.chpw_kdc.specs.declared.judging.Judgement.TheVariants as judged
use Rattle.chpw_kdc.specs.declared.put.UnderWay.{UnderWay}
use Rattle.chpw_kdc.specs.declared.put.UnderWay.TheVariants as asked
use Rattle.chpw_kdc.specs.declared.update.KdcUpdate.{KdcUpdate}
use Rattle.chpw_kdc.specs.declared.update.KdcUpdate.TheVariants as update
use Rattle.chpw_kdc.specs.Lines.{Request, list_keys, get, put, answer_of, is_changed}
use Rattle.chpw_kdc.specs.Mirrors.{key_of, judgement}
use Rattle.chpw_kdc.specs.Dialogs.{State, at_start, after_fault, after_request, request_by, is_late, without_update, first_update}
use Rattle.chpw_kdc.specs.Answering.{after_byte, after_answer, awaiting, of_asked, of_list, of_get, of_put, after_judgement, with_listed}
use Rattle.chpw_kdc.specs.Answering.{with_lacked, lacked_in, is_many, refused, is_listed, is_first, is_put_for, without_first}
use Rattle.chpw_kdc.specs.Answering.{with_update, lifted, accepted, settled, is_newest, is_on_its_way}
use Rattle.chpw_kdc.specs.Runs.{Event, holds, holds_none, fills, wants, loses_want, wants_comparison, connects, loses, asks, hears}
use Rattle.chpw_kdc.specs.Runs.{ticks, takes, decides, tells, behind, run, state_after, Keeps, Lasts, Grounds, IsGrounded}
use Rattle.chpw_kdc.specs.Runs.{UpdatesAreGrounded, AsksFew, FewAreAsked}
use Rattle.chpw_kdc.specs.Paces.{pace_due}
use Rattle.chpw_kdc.specs.declared.put.Put.{Put}
use Rattle.chpw_kdc.proofs.EffectLemmas.{Said, Brings, from_test, from_named, internal}
use Rattle.chpw_kdc.proofs.RunLemmas.{run_append, by_events, by_byte, by_line, IsHeard}

-- ---- the connection lasts

lasts_more : (s : State) (xs : List Event) (e : Event) → Lasts s xs → Keeps (run s xs) e → Lasts s (xs ++ e ∷ [])
lasts_more s [] e l k = (k, tt)
lasts_more s (x ∷ xs) e l k = (l.0, lasts_more (behind s x) xs e l.1 k)

grounded_on : (start : ℕ) (done : List Event) (s : State) (e : Event) (u : KdcUpdate) → s ≡ state_after start done → Keeps s e
    → IsGrounded start done u → IsGrounded start (done ++ e ∷ []) u
grounded_on start done s e u is keeps g =
    let said : List Event = hears g.ours g.now 10 ∷ g.later in
    let here : s ≡ run (state_after start g.before) said =
    is ∙ (ap (λ (xs : List Event). state_after start xs) g.parts ∙ run_append (at_start start) g.before said) in
    record {
      before = g.before;
      ours = g.ours;
      now = g.now;
      later = g.later ++ e ∷ [];
      parts = ap (λ (xs : List Event). xs ++ e ∷ []) g.parts ∙ append_assoc g.before said (e ∷ []);
      grounds = g.grounds;
      lasts = lasts_more (state_after start g.before) said e g.lasts (subst (λ (t : State). Keeps t e) here keeps);
    }

abbrev AllGrounded : ℕ → List Event → List KdcUpdate → Type 0
AllGrounded start events us = AllByRecursion (λ (u : KdcUpdate). IsGrounded start events u) us

all_on : (start : ℕ) (done : List Event) (s : State) (e : Event) (us : List KdcUpdate) → s ≡ state_after start done → Keeps s e
    → AllGrounded start done us → AllGrounded start (done ++ e ∷ []) us
all_on start done s e [] is keeps all = tt
all_on start done s e (u ∷ us) is keeps all = (grounded_on start done s e u is keeps all.0, all_on start done s e us is keeps all.1)

all_more : (start : ℕ) (events : List Event) (us : List KdcUpdate) (u : KdcUpdate) → AllGrounded start events us → IsGrounded start events u
    → AllGrounded start events (us ++ u ∷ [])
all_more start events [] u all g = (g, tt)
all_more start events (x ∷ xs) u all g = (all.0, all_more start events xs u all.1 g)

-- ---- an answer

grounds_of : (ours : Name → Bool) (s : State) (a : Answer) (u : KdcUpdate) → answer_of s.heard ≡ Ok a → Said ours s a u → Grounds ours s u
grounds_of ours s a (update.Adopt name key) line said =
    (said.0, line ∙ ap (λ (b : Answer). Ok b) said.1, said.2, said.3)
grounds_of ours s a (update.Lift name kvno) line said =
    (said.0, line ∙ ap (λ (b : Answer). Ok b) said.1, said.2, said.3, said.4, said.5)
grounds_of ours s a (update.Remove name) line said = (line ∙ ap (λ (b : Answer). Ok b) said.0, said.1)

brought : (start : ℕ) (done : List Event) (s t : State) (ours : Name → Bool) (now byte : ℕ) (a : Answer) → s ≡ state_after start done
    → after_byte ours now s byte ≡ Ok t → byte ≡ 10 → answer_of s.heard ≡ Ok a → AllGrounded start (done ++ hears ours now byte ∷ []) s.updates
    → Brings ours s a t → AllGrounded start (done ++ hears ours now byte ∷ []) t.updates
brought start done s t ours now byte a is heard nl line all (inl same) = subst (AllGrounded start (done ++ hears ours now byte ∷ [])) (sym same) all
brought start done s t ours now byte a is heard nl line all (inr b) =
    subst (AllGrounded start (done ++ hears ours now byte ∷ [])) (sym b.2) (all_more start (done ++ hears ours now byte ∷ []) s.updates b.0 all new)
  where
    new : IsGrounded start (done ++ hears ours now byte ∷ []) b.0
    new = record {
      before = done;
      ours = ours;
      now = now;
      later = [];
      parts = ap (λ (c : ℕ). done ++ hears ours now c ∷ []) nl;
      grounds = subst (λ (r : State). Grounds ours r b.0) is (grounds_of ours s a b.0 line b.1);
      lasts = (
        subst (λ (r : State). is_ok (after_byte ours now r 10) ≡ true) is
            (subst (λ (c : ℕ). is_ok (after_byte ours now s c) ≡ true) nl (ap (λ (r : Result State ProtocolFault). is_ok r) heard)),
        tt,
      );
    }

heard_grounded : (start : ℕ) (done : List Event) (s t : State) (ours : Name → Bool) (now byte : ℕ) → s ≡ state_after start done
    → after_byte ours now s byte ≡ Ok t → AllGrounded start (done ++ hears ours now byte ∷ []) s.updates → IsHeard ours s byte t
    → AllGrounded start (done ++ hears ours now byte ∷ []) t.updates
heard_grounded start done s t ours now byte is heard all (inl e) = subst (λ (u : State). AllGrounded start (done ++ hears ours now byte ∷ []) u.updates) e all
heard_grounded start done s t ours now byte is heard all (inr x) = brought start done s t ours now byte x.0 is heard x.1 x.2 all x.3.2

-- ---- after an event

request_grounded : (start : ℕ) (events : List Event) (now : ℕ) (s : State) (o : Option Request) → AllGrounded start events s.updates
    → AllGrounded start events (after_request now o s).updates
request_grounded start events now s None all = all
request_grounded start events now s (Some list_keys) all = all
request_grounded start events now s (Some (get name)) all = all
request_grounded start events now s (Some (put name key)) all = all

tick_grounded : (start : ℕ) (done : List Event) (now : ℕ) (s : State) (b : Bool) → is_late now s ≡ b → s ≡ state_after start done
    → AllGrounded start done s.updates → AllGrounded start (done ++ ticks now ∷ []) (if b then after_fault now s else s).updates
tick_grounded start done now s true late is all = tt
tick_grounded start done now s false late is all = all_on start done s (ticks now) s.updates is late all

take_grounded : (start : ℕ) (events : List Event) (s : State) (us : List KdcUpdate) → s.updates ≡ us → AllGrounded start events us
    → AllGrounded start events (without_update s us).updates
take_grounded start events s [] is all = subst (AllGrounded start events) (sym is) all
take_grounded start events s (u ∷ us) is all = all.1

grounded_behind : (start : ℕ) (done : List Event) (s : State) (e : Event) → s ≡ state_after start done → AllGrounded start done s.updates
    → AllGrounded start (done ++ e ∷ []) (behind s e).updates
grounded_behind start done s (holds name key) is all = all_on start done s (holds name key) s.updates is tt all
grounded_behind start done s (holds_none name) is all = all_on start done s (holds_none name) s.updates is tt all
grounded_behind start done s (fills name) is all = all_on start done s (fills name) s.updates is tt all
grounded_behind start done s (wants now name key) is all = all_on start done s (wants now name key) s.updates is tt all
grounded_behind start done s loses_want is all = all_on start done s loses_want s.updates is tt all
grounded_behind start done s wants_comparison is all = all_on start done s wants_comparison s.updates is tt all
grounded_behind start done s (connects now) is all = tt
grounded_behind start done s (loses now) is all = tt
grounded_behind start done s (asks now) is all =
    request_grounded start (done ++ asks now ∷ []) now s (request_by now s) (all_on start done s (asks now) s.updates is tt all)
grounded_behind start done s (hears ours now byte) is all =
    by_byte (λ (t : State). AllGrounded start (done ++ hears ours now byte ∷ []) t.updates) ours now s byte tt
    (λ t heard x. heard_grounded start done s t ours now byte is heard
    (all_on start done s (hears ours now byte) s.updates is (ap (λ (r : Result State ProtocolFault). is_ok r) heard) all) x)
grounded_behind start done s (ticks now) is all = tick_grounded start done now s (is_late now s) refl is all
grounded_behind start done s takes is all =
    take_grounded start (done ++ takes ∷ []) s s.updates refl (all_on start done s takes s.updates is tt all)
grounded_behind start done s decides is all = all_on start done s decides s.updates is tt all
grounded_behind start done s tells is all = all_on start done s tells s.updates is tt all

first_grounded : (start : ℕ) (events : List Event) (us : List KdcUpdate) (u : KdcUpdate) → AllGrounded start events us → first_update us ≡ Some u
    → IsGrounded start events u
first_grounded start events [] u all h = absurd cc
first_grounded start events (x ∷ xs) u all h =
    let same : x ≡ u = cc in
    subst (λ (v : KdcUpdate). IsGrounded start events v) same all.0

pub updates_are_grounded : UpdatesAreGrounded
updates_are_grounded start events u h =
    first_grounded start events (state_after start events).updates u
    (by_events start (λ (es : List Event) (s : State). AllGrounded start es s.updates) tt (grounded_behind start) events) h

-- ---- few are asked for alone

unless_gets : (b : Bool) (ps : List Put) (s : State) → (if b then s else record s { puts = ps }).gets ≡ s.gets
unless_gets true ps s = refl
unless_gets false ps s = refl

judged_gets : (name : Name) (j : Judgement) (s : State) → (after_judgement name j s).gets ≡ s.gets
judged_gets name judged.Leave s = refl
judged_gets name (judged.Adopt key) s = refl
judged_gets name (judged.Put key) s =
    unless_gets (is_on_its_way s.puts name key) (s.puts ++ internal s.pace.began name key ∷ []) s

refused_gets : (b : Bool) (name : Name) (why : Reason) (s : State) → (if b then refused name why s else s).gets ≡ s.gets
refused_gets true name why s = refl
refused_gets false name why s = refl

lifted_gets : (b c : Bool) (u : KdcUpdate) (s : State)
    → (if b then if c then with_update u s else record s { pace = pace_due s.pace } else s).gets ≡ s.gets
lifted_gets true true u s = refl
lifted_gets true false u s = refl
lifted_gets false c u s = refl

lacked_gets : (b : Bool) (s x y : State) → is_many (length (lacked_in s.listed s.mirror)) (length s.mirror) ≡ b → x.gets ≡ s.gets
    → y.gets ≡ lacked_in s.listed s.mirror → AsksFew s (if b then x else y)
lacked_gets true s x y is same lacked = inl same
lacked_gets false s x y is same lacked = inr (inr (inr (lacked, is)))

list_gets : (ours : Name → Bool) (now : ℕ) (s t : State) (a : Answer) → of_list ours now s a ≡ Ok t → AsksFew s t
list_gets ours now s t (answer.Has name kvno keys) h =
    subst (AsksFew s) (from_test (is_listed s.listed name) _ _ t h).1
    (inl (judged_gets name (judgement ours (key_of s.mirror name) name kvno keys) (with_listed name s)))
list_gets ours now s t (answer.Other name why) h =
    subst (AsksFew s) (from_test (is_listed s.listed name) _ _ t h).1 (inl (refused_gets (is_some (key_of s.mirror name)) name why (with_listed name s)))
list_gets ours now s t (answer.End count) h =
    let names : List Name = lacked_in s.listed s.mirror in
    let few : AsksFew s (with_lacked names s) = lacked_gets (is_many (length names) (length s.mirror)) s _ _ refl refl refl in
    subst (AsksFew s) (from_test (not (length s.listed == count)) _ _ t h).1 few
list_gets ours now s t (answer.ListFailed text) h =
    let same : s.gets ≡ t.gets = cc in
    inl (sym same)
list_gets ours now s t (answer.None name) h = absurd cc
list_gets ours now s t (answer.Put name kvno) h = absurd cc
list_gets ours now s t (answer.Refused name why) h = absurd cc
list_gets ours now s t (answer.Failed name text) h = absurd cc
list_gets ours now s t answer.Changed h = absurd cc

get_gets : (ours : Name → Bool) (now : ℕ) (s t : State) (a : Answer) → of_get ours now s a ≡ Ok t → AsksFew s t
get_gets ours now s t (answer.Has name kvno keys) h =
    subst (AsksFew s) (from_named (is_first s.gets name) _ t h).1
    (inr (inl (ap without_first (judged_gets name (judgement ours (key_of s.mirror name) name kvno keys) s))))
get_gets ours now s t (answer.Other name why) h =
    subst (AsksFew s) (from_named (is_first s.gets name) _ t h).1 (inr (inl (ap without_first (refused_gets (is_some (key_of s.mirror name)) name why s))))
get_gets ours now s t (answer.None name) h = subst (AsksFew s) (from_named (is_first s.gets name) _ t h).1 (inr (inl refl))
get_gets ours now s t (answer.Failed name text) h = subst (AsksFew s) (from_named (is_first s.gets name) _ t h).1 (inr (inl refl))
get_gets ours now s t (answer.End count) h = absurd cc
get_gets ours now s t (answer.ListFailed text) h = absurd cc
get_gets ours now s t (answer.Put name kvno) h = absurd cc
get_gets ours now s t (answer.Refused name why) h = absurd cc
get_gets ours now s t answer.Changed h = absurd cc

put_gets : (key : KeyRow) (now : ℕ) (s t : State) (a : Answer) → of_put key now s a ≡ Ok t → AsksFew s t
put_gets key now s t (answer.Put name kvno) h = by_name (is_put_for s.puts name) h
  where
    by_name : (b : Bool)
        → (if not b then Err fault.OtherName else if nat_lt kvno key.kvno then Err fault.LowerVersion
        else Ok (settled true (accepted name (lifted name key.kvno kvno s)))) ≡ Ok t
        → AsksFew s t
    by_name true g =
        subst (AsksFew s) (from_test (nat_lt kvno key.kvno) _ _ t g).1
        (inl (lifted_gets (nat_lt key.kvno kvno) (is_newest name key.kvno s) (update.Lift name kvno) s))
    by_name false g = absurd cc
put_gets key now s t (answer.None name) h = subst (AsksFew s) (from_named (is_put_for s.puts name) _ t h).1 (inl refl)
put_gets key now s t (answer.Refused name why) h = subst (AsksFew s) (from_named (is_put_for s.puts name) _ t h).1 (inl refl)
put_gets key now s t (answer.Failed name text) h = subst (AsksFew s) (from_named (is_put_for s.puts name) _ t h).1 (inl refl)
put_gets key now s t (answer.Has name kvno keys) h = absurd cc
put_gets key now s t (answer.Other name why) h = absurd cc
put_gets key now s t (answer.End count) h = absurd cc
put_gets key now s t (answer.ListFailed text) h = absurd cc
put_gets key now s t answer.Changed h = absurd cc

asked_gets : (ours : Name → Bool) (now : ℕ) (s t : State) (a : Answer) (o : Option UnderWay) → of_asked ours now o s a ≡ Ok t → AsksFew s t
asked_gets ours now s t a None h = absurd cc
asked_gets ours now s t a (Some asked.List) h = list_gets ours now s t a h
asked_gets ours now s t a (Some asked.Get) h = get_gets ours now s t a h
asked_gets ours now s t a (Some (asked.Put key)) h = put_gets key now s t a h

changed_gets : (b : Bool) (s t x : State) (r : Result State ProtocolFault) → x.gets ≡ s.gets → (r ≡ Ok t → AsksFew s t)
    → (if b then Ok x else r) ≡ Ok t → AsksFew s t
changed_gets true s t x r same others h =
    let e : x ≡ t = cc in
    subst (AsksFew s) e (inl same)
changed_gets false s t x r same others h = others h

answer_gets : (ours : Name → Bool) (now : ℕ) (s t : State) (a : Answer) → after_answer ours now s a ≡ Ok t → AsksFew s t
answer_gets ours now s t a h =
    changed_gets (is_changed a) s t _ (of_asked ours now s.asked (awaiting now s) a) refl
    (λ g. asked_gets ours now (awaiting now s) t a s.asked g) h

request_gets : (now : ℕ) (s : State) (o : Option Request) → (after_request now o s).gets ≡ s.gets
request_gets now s None = refl
request_gets now s (Some list_keys) = refl
request_gets now s (Some (get name)) = refl
request_gets now s (Some (put name key)) = refl

tick_gets : (now : ℕ) (s : State) (b : Bool) → AsksFew s (if b then after_fault now s else s)
tick_gets now s true = inr (inr (inl refl))
tick_gets now s false = inl refl

take_gets : (s : State) (us : List KdcUpdate) → (without_update s us).gets ≡ s.gets
take_gets s [] = refl
take_gets s (u ∷ us) = refl

pub few_are_asked : FewAreAsked
few_are_asked s (holds name key) = inl refl
few_are_asked s (holds_none name) = inl refl
few_are_asked s (fills name) = inl refl
few_are_asked s (wants now name key) = inl refl
few_are_asked s loses_want = inl refl
few_are_asked s wants_comparison = inl refl
few_are_asked s (connects now) = inr (inr (inl refl))
few_are_asked s (loses now) = inr (inr (inl refl))
few_are_asked s (asks now) = inl (request_gets now s (request_by now s))
few_are_asked s (hears ours now byte) =
    by_line (λ (t : State). AsksFew s t) ours now s byte (inr (inr (inl refl))) (inl refl) (λ a t h. answer_gets ours now _ t a h)
few_are_asked s (ticks now) = tick_gets now s (is_late now s)
few_are_asked s takes = inl (take_gets s s.updates)
few_are_asked s decides = inl refl
few_are_asked s tells = inl refl
