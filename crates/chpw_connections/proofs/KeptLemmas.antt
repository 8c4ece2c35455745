-- How answers are kept in a row of them.
use Rattle.std.proofs.Common.{◌≡◌, ℕ, zero, suc, ◌<◌, List, [], ◌∷◌, ◌++◌, take, map, Bool, true, false}
use Rattle.std.proofs.Common.{◌&&◌, cond, nat_lt, Option, Some, None, Bor, refl, sym, ◌∙◌, ap, subst}
use Rattle.std.specs.List.{filter, find}
use Rattle.std.specs.Option.{option_map, option_to_list, IfSome, IfNone}
use Rattle.std.proofs.lemmas.Bool.{ltb-true}
use Rattle.std.proofs.lemmas.List.{append-nil, map-append}
use Rattle.chpw_connections.specs.declared.kept.KeptAnswer.{KeptAnswer}
use Rattle.chpw_connections.specs.declared.sender.Sender.{Sender}
use Rattle.chpw_connections.specs.Answers.{Answer, is_for, is_recent, bytes_of, within, after_keep, reply_for}
use Rattle.chpw_connections.specs.Fields.{answer_of, answers_of}
use Rattle.chpw_connections.proofs.WithinLemmas.{within-push}

-- ---- looked for in two parts

-- what is found in either part, in the first one first
abbrev or_else : Option (List ℕ) → Option (List ℕ) → Option (List ℕ)
or_else None second = second
or_else (Some reply) second = Some reply

reply_in_both : (xs ys : List KeptAnswer) (sender : Sender) (message : List ℕ) (now : ℕ)
    → reply_for (answers_of (xs ++ ys)) sender message now
    ≡ or_else (reply_for (answers_of xs) sender message now) (reply_for (answers_of ys) sender message now)
reply_in_both [] ys sender message now = refl
reply_in_both (x ∷ xs) ys sender message now =
    by_test (is_for sender message (answer_of x) && is_recent now (answer_of x))
    (reply_in_both xs ys sender message now)
  where
    test : Answer → Bool
    test a = is_for sender message a && is_recent now a

    reply : Option Answer → Option (List ℕ)
    reply found = option_map (λ (a : Answer). a.reply) found

    by_test : (b : Bool)
        → reply (find test (answers_of (xs ++ ys))) ≡ or_else (reply (find test (answers_of xs))) (reply_for (answers_of ys) sender message now)
        → reply (cond b (Some (answer_of x)) (find test (answers_of (xs ++ ys))))
        ≡ or_else (reply (cond b (Some (answer_of x)) (find test (answers_of xs)))) (reply_for (answers_of ys) sender message now)
    by_test true others = refl
    by_test false others = others

pub reply_in_first : (xs ys all : List KeptAnswer) (sender : Sender) (message reply : List ℕ) (now : ℕ) → xs ++ ys ≡ all
    → reply_for (answers_of xs) sender message now ≡ Some reply → reply_for (answers_of all) sender message now ≡ Some reply
reply_in_first xs ys all sender message reply now e h =
    ap (λ (zs : List KeptAnswer). reply_for (answers_of zs) sender message now) (sym e)
    ∙ reply_in_both xs ys sender message now
    ∙ ap (λ (o : Option (List ℕ)). or_else o (reply_for (answers_of ys) sender message now)) h

pub reply_in_second : (xs ys all : List KeptAnswer) (sender : Sender) (message : List ℕ) (now : ℕ) → xs ++ ys ≡ all
    → reply_for (answers_of xs) sender message now ≡ None
    → reply_for (answers_of all) sender message now ≡ reply_for (answers_of ys) sender message now
reply_in_second xs ys all sender message now e h =
    ap (λ (zs : List KeptAnswer). reply_for (answers_of zs) sender message now) (sym e)
    ∙ reply_in_both xs ys sender message now
    ∙ ap (λ (o : Option (List ℕ)). or_else o (reply_for (answers_of ys) sender message now)) h

-- what the second part gave is what all give, where that is the same
pub so_some : (found : Option (Bor (List ℕ))) {all second : Option (List ℕ)} → all ≡ second
    → IfSome found (λ (reply : Bor (List ℕ)). second ≡ Some reply.now) → IfSome found (λ (reply : Bor (List ℕ)). all ≡ Some reply.now)
so_some None e h = tt
so_some (Some reply) e h = e ∙ h

pub so_none : (found : Option (Bor (List ℕ))) {all second : Option (List ℕ)} → all ≡ second → IfNone found (second ≡ None) → IfNone found (all ≡ None)
so_none None e h = e ∙ h
so_none (Some reply) e h = tt

-- ---- one more

map_take : {X Y : Type 0} (f : X → Y) (n : ℕ) (xs : List X) → map f (take n xs) ≡ take n (map f xs)
map_take f zero xs = refl
map_take f (suc n) [] = refl
map_take f (suc n) (x ∷ xs) = ap (λ ys. f x ∷ ys) (map_take f n xs)

map_filter : {X Y : Type 0} (f : X → Y) (p : Y → Bool) (xs : List X) → map f (filter (λ x. p (f x)) xs) ≡ filter p (map f xs)
map_filter f p [] = refl
map_filter {X} {Y} f p (x ∷ xs) = by_test (p (f x)) (map_filter f p xs)
  where
    by_test : (b : Bool) → map f (filter (λ (y : X). p (f y)) xs) ≡ filter p (map f xs)
        → map f (cond b (x ∷ filter (λ (y : X). p (f y)) xs) (filter (λ (y : X). p (f y)) xs))
        ≡ cond b (f x ∷ filter p (map f xs)) (filter p (map f xs))
    by_test true others = ap (λ (ys : List Y). f x ∷ ys) others
    by_test false others = others

pub kept_is : (k : KeptAnswer) (recent : List KeptAnswer) (old : List KeptAnswer) → recent ≡ filter (λ (x : KeptAnswer). is_recent k.moment (answer_of x)) old
    → within 4194304 (answers_of (k ∷ take 1023 recent)) ≡ after_keep (answers_of old) (answer_of k)
kept_is k recent old e =
    ap (λ (xs : List Answer). within 4194304 (answer_of k ∷ xs))
    (map_take answer_of 1023 recent ∙ ap (λ (xs : List Answer). take 1023 xs) (ap answers_of e ∙ map_filter answer_of (is_recent k.moment) old))

-- ---- without the oldest

pub within_without_last : (old new : List KeptAnswer) (last : Option KeptAnswer) → old ≡ new ++ option_to_list last
    → nat_lt 4194304 (bytes_of (answers_of old)) ≡ true
    → within 4194304 (answers_of old) ≡ within 4194304 (answers_of new)
within_without_last old new None e h = ap (λ (xs : List KeptAnswer). within 4194304 (answers_of xs)) (e ∙ append-nil new)
within_without_last old new (Some k) e h =
    let parts : answers_of old ≡ answers_of new ++ answer_of k ∷ [] = ap answers_of e ∙ map-append answer_of new (k ∷ []) in
    let more : 4194304 < bytes_of (answers_of new ++ answer_of k ∷ []) =
    ltb-true 4194304 (bytes_of (answers_of new ++ answer_of k ∷ []))
    (subst (λ (xs : List Answer). nat_lt 4194304 (bytes_of xs) ≡ true) parts h) in
    ap (within 4194304) parts ∙ within-push 4194304 (answers_of new) (answer_of k) more
