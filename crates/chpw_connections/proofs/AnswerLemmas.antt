-- What is kept of what was answered.
use Rattle.std.proofs.Common.{◌≡◌, ◌==◌, ℕ, zero, suc, ◌+◌, ◌-◌, ◌<◌, ◌≤◌, List, [], ◌∷◌, ◌++◌, length}
use Rattle.std.proofs.Common.{take, Bool, true, false, ◌&&◌, cond, Option, Some, None, refl, sym}
use Rattle.std.proofs.Common.{◌∙◌, ap, subst, append_assoc, arith, nat_lt, nat_le, nat_eq}
use borrow.Author.Tests.{ltb-true, ltb-false}
use Rattle.std.specs.List.{All, filter, find}
use Rattle.std.specs.Option.{IfSome, IsSome, option_map, is_some}
use Rattle.std.specs.Str.{bytes_eq}
use Rattle.std.proofs.lemmas.List.{append-nil}
use Rattle.std.proofs.lemmas.List.Elements.{filter-append}
use Rattle.std.proofs.lemmas.Slice.Eq.{bytes_eq-Decides}
use Rattle.std.proofs.lemmas.Bool.Decides.{Decides-eqb}
use Rattle.std.proofs.Math.Seq.{take-append-add}
use Rattle.chpw_connections.specs.declared.sender.Sender.{Sender}
use Rattle.chpw_connections.specs.Senders.{is_same_address, is_same_sender}
use Rattle.std.specs.declared.net.ip_addr.IpAddr.TheVariants.{V4, V6}
use Rattle.std.specs.declared.net.ip_addr.IpAddr.{IpAddr}
use Rattle.chpw_connections.specs.Answers.{Answer, is_recent, is_for, size_of, bytes_of, within, after_keep, reply_for}
use Rattle.chpw_connections.specs.Laws.{kept_behind, WasGiven, GivenAgain, IsRemembered}
use Rattle.chpw_connections.proofs.WithinLemmas.{bytes-cons, bytes-filter, within-fits, within-append}

-- ---- tests

first_true : (b c : Bool) → (b && c) ≡ true → b ≡ true
first_true true c h = refl
first_true false c h = cc

second_true : (b c : Bool) → (b && c) ≡ true → c ≡ true
second_true true c h = h
second_true false c h = cc

both_true : (b c : Bool) → b ≡ true → c ≡ true → (b && c) ≡ true
both_true true c h g = g
both_true false c h g = cc

less_true : (m n : ℕ) → m < n → nat_lt m n ≡ true
less_true m n h = by_test (nat_lt m n) refl
  where
    by_test : (b : Bool) → nat_lt m n ≡ b → nat_lt m n ≡ true
    by_test true e = e
    by_test false e = absurd (let more : n ≤ m = ltb-false m n e in omega arith)

-- ---- what holds of each element

abbrev Each : {X : Type 0} → (X → Type 0) → List X → Type 0
Each P [] = Unit {0}
Each P (x ∷ xs) = P x × Each P xs

each_so : {X : Type 0} (P Q : X → Type 0) → ((x : X) → P x → Q x) → (xs : List X) → Each P xs → Each Q xs
each_so P Q h [] e = tt
each_so P Q h (x ∷ xs) e = (h x e.0, each_so P Q h xs e.1)

each_filter : {X : Type 0} (P : X → Type 0) (p : X → Bool) (xs : List X) → Each P xs → Each P (filter p xs)
each_filter P p [] e = tt
each_filter {X} P p (x ∷ xs) e = by_test (p x) (each_filter P p xs e.1)
  where
    by_test : (b : Bool) → Each P (filter p xs) → Each P (cond b (x ∷ filter p xs) (filter p xs))
    by_test true others = (e.0, others)
    by_test false others = others

each_take : {X : Type 0} (P : X → Type 0) (n : ℕ) (xs : List X) → Each P xs → Each P (take n xs)
each_take P zero xs e = tt
each_take P (suc n) [] e = tt
each_take P (suc n) (x ∷ xs) e = (e.0, each_take P n xs e.1)

each_within : (P : Answer → Type 0) (bytes : ℕ) (xs : List Answer) → Each P xs → Each P (within bytes xs)
each_within P bytes [] e = tt
each_within P bytes (x ∷ xs) e = by_test (nat_le (size_of x) bytes) (each_within P (bytes - size_of x) xs e.1)
  where
    by_test : (b : Bool) → Each P (within (bytes - size_of x) xs) → Each P (cond b (x ∷ within (bytes - size_of x) xs) [])
    by_test true others = (e.0, others)
    by_test false others = tt

found : {X : Type 0} (P : X → Type 0) (p : X → Bool) (xs : List X) → Each P xs → IfSome (find p xs) (λ (x : X). P x × (p x ≡ true))
found P p [] e = tt
found {X} P p (x ∷ xs) e = by_test (p x) refl (found P p xs e.1)
  where
    by_test : (b : Bool) → p x ≡ b → IfSome (find p xs) (λ (y : X). P y × (p y ≡ true))
        → IfSome (cond b (Some x) (find p xs)) (λ (y : X). P y × (p y ≡ true))
    by_test true h others = (e.0, h)
    by_test false h others = others

-- ---- what is given again was given

record Given (answers : List Answer) (a : Answer) : Type 0 where
  before : List Answer
  later : List Answer
  parts : answers ≡ before ++ a ∷ later

given_on : (done : List Answer) (b a : Answer) → Given done a → Given (done ++ b ∷ []) a
given_on done b a g = record {
  before = g.before;
  later = g.later ++ b ∷ [];
  parts = ap (λ (xs : List Answer). xs ++ b ∷ []) g.parts ∙ append_assoc g.before (a ∷ g.later) (b ∷ []);
}

all_given : (done kept rest : List Answer) → Each (Given done) kept → Each (Given (done ++ rest)) (kept_behind kept rest)
all_given done kept [] e = subst (λ (xs : List Answer). Each (Given xs) kept) (sym (append-nil done)) e
all_given done kept (b ∷ rest) e =
    let one : Given (done ++ b ∷ []) b = record { before = done; later = []; parts = refl } in
    let others = each_filter (Given (done ++ b ∷ [])) (is_recent b.moment) kept (each_so (Given done) (Given (done ++ b ∷ [])) (given_on done b) kept e) in
    let newest = each_take (Given (done ++ b ∷ [])) 1024 (b ∷ filter (is_recent b.moment) kept) (one, others) in
    let next = each_within (Given (done ++ b ∷ [])) 4194304 (take 1024 (b ∷ filter (is_recent b.moment) kept)) newest in
    subst (λ (xs : List Answer). Each (Given xs) (kept_behind (after_keep kept b) rest)) (append_assoc done (b ∷ []) rest)
    (all_given (done ++ b ∷ []) (after_keep kept b) rest next)

same_address : (a b : IpAddr) → is_same_address a b ≡ true → a ≡ b
same_address (V4 a) (V4 b) h =
    let of : List ℕ → IpAddr = λ o. V4 (record { octets = o }) in
    ap of ((bytes_eq-Decides a.octets b.octets).0 h)
same_address (V6 a) (V6 b) h =
    let of : List ℕ → IpAddr = λ s. V6 (record { segments = s }) in
    ap of ((bytes_eq-Decides a.segments b.segments).0 h)
same_address (V4 a) (V6 b) h = cc
same_address (V6 a) (V4 b) h = cc

own_address : (a : IpAddr) → is_same_address a a ≡ true
own_address (V4 a) = (bytes_eq-Decides a.octets a.octets).1 refl
own_address (V6 a) = (bytes_eq-Decides a.segments a.segments).1 refl

same_sender : (a b : Sender) → is_same_sender a b ≡ true → a ≡ b
same_sender a b h =
    let own : Bool = is_same_address a.ends.local b.ends.local in
    let rest : (own && (a.port == b.port)) ≡ true = second_true (is_same_address a.ends.peer b.ends.peer) (own && (a.port == b.port)) h in
    let peer : a.ends.peer ≡ b.ends.peer =
    same_address a.ends.peer b.ends.peer (first_true (is_same_address a.ends.peer b.ends.peer) (own && (a.port == b.port)) h) in
    let local : a.ends.local ≡ b.ends.local = same_address a.ends.local b.ends.local (first_true own (nat_eq a.port b.port) rest) in
    let port : a.port ≡ b.port = (Decides-eqb a.port b.port).0 (second_true own (nat_eq a.port b.port) rest) in
    let from : IpAddr → Sender = λ x. record { ends = record { peer = x; local = a.ends.local }; port = a.port } in
    let to : IpAddr → Sender = λ x. record { ends = record { peer = b.ends.peer; local = x }; port = a.port } in
    let on : ℕ → Sender = λ n. record { ends = b.ends; port = n } in
    ap from peer ∙ (ap to local ∙ ap on port)

own_sender : (a : Sender) → is_same_sender a a ≡ true
own_sender a =
    both_true (is_same_address a.ends.peer a.ends.peer) (is_same_address a.ends.local a.ends.local && (a.port == a.port)) (own_address a.ends.peer)
    (both_true (is_same_address a.ends.local a.ends.local) (nat_eq a.port a.port) (own_address a.ends.local) ((Decides-eqb a.port a.port).1 refl))

given_so : (answers : List Answer) (sender : Sender) (message : List ℕ) (now : ℕ) (a : Answer) → Given answers a
    → (is_for sender message a && is_recent now a) ≡ true → WasGiven answers sender message a.reply now
given_so answers sender message now a g h =
    let same = first_true (is_for sender message a) (is_recent now a) h in
    record {
      before = g.before;
      later = g.later;
      answer = a;
      parts = g.parts;
      sender_is = same_sender a.sender sender (first_true (is_same_sender a.sender sender) (bytes_eq a.message message) same);
      message_is = (bytes_eq-Decides a.message message).0 (second_true (is_same_sender a.sender sender) (bytes_eq a.message message) same);
      reply_is = refl;
      recent = ltb-true (now - a.moment) 5000 (second_true (is_for sender message a) (is_recent now a) h);
    }

pub given_again : GivenAgain
given_again answers sender message now =
    by_answer (find test kept) (found (Given answers) test kept (all_given [] [] answers tt))
  where
    test : Answer → Bool
    test a = is_for sender message a && is_recent now a

    kept : List Answer
    kept = kept_behind [] answers

    by_answer : (o : Option Answer) → IfSome o (λ (a : Answer). Given answers a × (test a ≡ true))
        → IfSome (option_map (λ (a : Answer). a.reply) o) (λ (reply : List ℕ). WasGiven answers sender message reply now)
    by_answer None h = tt
    by_answer (Some a) h = given_so answers sender message now a h.0 h.1

-- ---- within five seconds an answer is given again

-- it stands among those that are kept, and stays there while these are kept
record Stands (a : Answer) (kept later : List Answer) : Type 0 where
  front : List Answer
  rest : List Answer
  parts : kept ≡ front ++ a ∷ rest
  few : length front + length later < 1024
  few_bytes : bytes_of front + size_of a + bytes_of later ≤ 4194304

fewer : {X : Type 0} (p : X → Bool) (xs : List X) → length (filter p xs) ≤ length xs
fewer p [] = omega arith
fewer {X} p (x ∷ xs) = by_test (p x) (fewer p xs)
  where
    by_test : (b : Bool) → length (filter p xs) ≤ length xs → length (cond b (x ∷ filter p xs) (filter p xs)) ≤ length (x ∷ xs)
    by_test true h = omega (arith, h)
    by_test false h = omega (arith, h)

-- as many as may be kept, with one that stands in front
stands_in : (a : Answer) (front rest later : List Answer) → length front + length later < 1024 → bytes_of front + size_of a + bytes_of later ≤ 4194304
    → Stands a (within 4194304 (take 1024 (front ++ a ∷ rest))) later
stands_in a front rest later few few_bytes =
    let k = 1023 - length front in
    let bytes = 4194304 - bytes_of front in
    let size : 1024 ≡ length front + suc k = omega (arith, few) in
    record {
      front = front;
      rest = within (bytes - size_of a) (take k rest);
      parts =
          ap (within 4194304) (ap (λ (n : ℕ). take n (front ++ a ∷ rest)) size ∙ take-append-add front (a ∷ rest) (suc k))
          ∙ within-append 4194304 front (a ∷ take k rest) (omega (arith, few_bytes))
          ∙ ap (λ (xs : List Answer). front ++ xs) (within-fits bytes a (take k rest) (omega (arith, few_bytes)));
      few = few;
      few_bytes = few_bytes;
    }

stands_on : (a b : Answer) (kept later : List Answer) → is_recent b.moment a ≡ true → Stands a kept (b ∷ later) → Stands a (after_keep kept b) later
stands_on a b kept later recent s =
    let p = is_recent b.moment in
    let still : filter p (a ∷ s.rest) ≡ a ∷ filter p s.rest = ap (λ (t : Bool). cond t (a ∷ filter p s.rest) (filter p s.rest)) recent in
    let parts : filter p kept ≡ filter p s.front ++ a ∷ filter p s.rest =
    ap (filter p) s.parts ∙ filter-append p s.front (a ∷ s.rest) ∙ ap (λ (xs : List Answer). filter p s.front ++ xs) still in
    let shorter : length (filter p s.front) ≤ length s.front = fewer p s.front in
    let few : length (b ∷ filter p s.front) + length later < 1024 = omega (arith, shorter, s.few) in
    let few_bytes : bytes_of (b ∷ filter p s.front) + size_of a + bytes_of later ≤ 4194304 =
    omega (arith, bytes-filter p s.front, bytes-cons b (filter p s.front), bytes-cons b later, s.few_bytes) in
    subst (λ (xs : List Answer). Stands a (within 4194304 (take 1024 (b ∷ xs))) later) (sym parts)
    (stands_in a (b ∷ filter p s.front) (filter p s.rest) later few few_bytes)

first_of_all : (P : Answer → Type 0) (x : Answer) (xs : List Answer) → All P (x ∷ xs) → P x
first_of_all P x xs h = h 0 x (omega arith)

others_of_all : (P : Answer → Type 0) (x : Answer) (xs : List Answer) → All P (x ∷ xs) → All P xs
others_of_all P x xs h = λ k d less. h (suc k) d (omega (arith, less))

stands_behind : (a : Answer) (now : ℕ) (kept later : List Answer) → now - a.moment < 5000 → All (λ (b : Answer). b.moment ≤ now) later
    → Stands a kept later → Stands a (kept_behind kept later) []
stands_behind a now kept [] recent ascending s = s
stands_behind a now kept (b ∷ later) recent ascending s =
    let before : b.moment ≤ now = first_of_all (λ (c : Answer). c.moment ≤ now) b later ascending in
    let still : is_recent b.moment a ≡ true = less_true (b.moment - a.moment) 5000 (omega (arith, before, recent)) in
    stands_behind a now (after_keep kept b) later recent (others_of_all (λ (c : Answer). c.moment ≤ now) b later ascending)
    (stands_on a b kept later still s)

behind_append : (kept xs ys : List Answer) → kept_behind kept (xs ++ ys) ≡ kept_behind (kept_behind kept xs) ys
behind_append kept [] ys = refl
behind_append kept (x ∷ xs) ys = behind_append (after_keep kept x) xs ys

finds : (p : Answer → Bool) (front rest : List Answer) (a : Answer) → p a ≡ true → IsSome (find p (front ++ a ∷ rest))
finds p [] rest a h = ap (λ (b : Bool). is_some (cond b (Some a) (find p rest))) h
finds p (x ∷ front) rest a h = by_test (p x) (finds p front rest a h)
  where
    by_test : (b : Bool) → IsSome (find p (front ++ a ∷ rest)) → IsSome (cond b (Some x) (find p (front ++ a ∷ rest)))
    by_test true others = refl
    by_test false others = others

some_reply : (o : Option Answer) → IsSome o → IsSome (option_map (λ (a : Answer). a.reply) o)
some_reply None h = h
some_reply (Some a) h = refl

pub is_remembered : IsRemembered
is_remembered before later a now recent ascending few few_bytes =
    let kept = kept_behind [] before in
    let first : Stands a (after_keep kept a) later =
    stands_in a [] (filter (is_recent a.moment) kept) later (omega (arith, few)) (omega (arith, bytes-cons a later, few_bytes)) in
    let s = stands_behind a now (after_keep kept a) later recent ascending first in
    let p : Answer → Bool = λ b. is_for a.sender a.message b && is_recent now b in
    let same : is_for a.sender a.message a ≡ true =
    both_true (is_same_sender a.sender a.sender) (bytes_eq a.message a.message)
    (own_sender a.sender)
    ((bytes_eq-Decides a.message a.message).1 refl) in
    let passes : p a ≡ true = both_true (is_for a.sender a.message a) (is_recent now a) same (less_true (now - a.moment) 5000 recent) in
    let all : kept_behind [] (before ++ a ∷ later) ≡ s.front ++ a ∷ s.rest = behind_append [] before (a ∷ later) ∙ s.parts in
    subst (λ (xs : List Answer). IsSome (reply_for xs a.sender a.message now)) (sym all)
    (some_reply (find p (s.front ++ a ∷ s.rest)) (finds p s.front s.rest a passes))
