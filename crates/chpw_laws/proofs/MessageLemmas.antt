-- An old password in a message.
use Rattle.std.proofs.Common.{◌≡◌, ℕ, List, [], ◌∷◌, Bool, true, false, ◌||◌, if◌then◌else◌, Option, refl, sym, ap, subst, arith}
use Rattle.std.specs.Prelude.{◌==◌}
use Rattle.std.proofs.lemmas.Bool.Decides.{nat_tests}
use Rattle.chpw_rules.specs.declared.name.Name.{Name}
use Rattle.chpw_table.specs.declared.times.Moment.{Moment}
use Rattle.chpw_table.specs.declared.request.Target.{Target}
use Rattle.chpw_table.specs.Digests.{Derivation, has_count}
use Rattle.chpw_table.specs.Derivations.{with_counts}
use Rattle.chpw_table.specs.Completing.{salt_of}
use Rattle.chpw_table.specs.Requests.{named_or, target_of}
use Rattle.chpw_table.specs.State.{State}
use Rattle.chpw_table.specs.Verdicts.{reads_keys}
use Rattle.chpw_table.specs.Wanted.{wanted, lacking, is_one_of}
use Rattle.chpw_table.specs.Decision.{verdict}
use Rattle.chpw_table.specs.History.{missing}
use Rattle.chpw_table.proofs.WantedLemmas.{lacking_all}
use Rattle.chpw_decider.proofs.CompletingLemmas.{has_all}
use Rattle.chpw_serve.specs.Requests.{Request, Content, new_password, client_of, opened_under}
use Rattle.chpw_serve.specs.Judging.{judged}
use Rattle.chpw_laws.specs.OldPasswords.{IsFor, end_of}
use Rattle.chpw_laws.specs.Messages.{OpensForIt, RefusedAsJudged}
use Rattle.chpw_laws.proofs.ChangeLemmas.{refused_until_depth}

-- the law on what is decided
pub opens_for_it : OpensForIt
opens_for_it q counts target password is =
    subst (λ (c : Content). IsFor (named_or target (client_of q)).name password (opened_under counts (record q { content = c }))) (sym is)
    (refl, (counts, refl))

itself : (n : ℕ) → (n == n) ≡ true
itself n = grind (arith, nat_tests)

-- where all are there, none is lacking
none_lacking : (d : Derivation) (xs : List ℕ) → ((n : ℕ) → is_one_of n xs ≡ true → has_count d n ≡ true) → lacking d xs ≡ []
none_lacking d [] h = refl
none_lacking d (x ∷ xs) h =
    let here : has_count d x ≡ true = h x (ap (λ (b : Bool). b || is_one_of x xs) (itself x)) in
    rw here (none_lacking d xs (λ n k. h n (either (x == n) (is_one_of n xs) k)))
  where
    either : (a b : Bool) → b ≡ true → (a || b) ≡ true
    either true b e = refl
    either false b e = e

-- a digest made under counts lacks none of them
made_under : (password salt w : List ℕ) → lacking (with_counts password salt [] w) w ≡ []
made_under password salt w = none_lacking (with_counts password salt [] w) w
    (λ n k. subst (λ (x : List ℕ). has_count (with_counts password salt [] x) n ≡ true) (lacking_all w) (has_all password salt [] w n k false refl))

-- a request as it is judged lacks no key
judged_lacks_none : (s : State) (now : Moment) (q : Request) (target : Option Target) (password : List ℕ)
    → q.content ≡ new_password target password → missing s now (judged s q) ≡ []
judged_lacks_none s now q target password is =
    subst (λ (c : Content). missing s now (judged s (record q { content = c })) ≡ []) (sym is)
    (at (reads_keys (verdict s now (judged s (record q { content = new_password target password })) false)))
  where
    at : (b : Bool) → (if b then lacking (with_counts password (salt_of (named_or target (client_of q))) [] (wanted s (named_or target (client_of q)).name))
        (wanted s (named_or target (client_of q)).name) else []) ≡ []
    at true = made_under password (salt_of (named_or target (client_of q))) (wanted s (named_or target (client_of q)).name)
    at false = refl

-- and is for its password
judged_is_for : (s : State) (q : Request) (target : Option Target) (password : List ℕ) (name : Name)
    → q.content ≡ new_password target password → (named_or target (client_of q)).name ≡ name → IsFor name password (judged s q)
judged_is_for s q target password name is same = subst (λ (n : Name). IsFor n password (judged s q)) same
    (opens_for_it q (wanted s (target_of (opened_under [] q)).name) target password is)

-- the law on a message as it is judged
pub refused_as_judged : RefusedAsJudged
refused_as_judged h q target now io stays few is same =
    refused_until_depth h stays few now (judged (end_of h) q) io (judged_is_for (end_of h) q target h.password h.name is same)
    (judged_lacks_none (end_of h) now q target h.password is)
