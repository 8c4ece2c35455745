-- Keys derived in several steps.
use Rattle.std.proofs.Common.{◌≡◌, ℕ, List, [], ◌∷◌, ◌++◌, Bool, true, false, refl, sym, ◌∙◌, ap}
use Rattle.std.proofs.lemmas.List.{append-nil}
use Rattle.chpw_table.specs.declared.request.Body.{Body}
use Rattle.chpw_table.specs.declared.request.Body.TheVariants.{Ask}
use Rattle.chpw_table.specs.declared.request.Opened.{Opened}
use Rattle.chpw_table.specs.Digests.{Derivation, has_count}
use Rattle.chpw_table.specs.Derivations.{with_counts, keys_from}
use Rattle.chpw_table.specs.Requests.{target_of}
use Rattle.chpw_table.proofs.DerivationLemmas.{with_counts_there, with_counts_new}
use Rattle.chpw_table.specs.Completing.{completed, salt_of}
use Rattle.chpw_decider.specs.Deciding.{IsCompletedFrom}
use Rattle.chpw_serve.specs.declared.messages.OpenRequest.{OpenRequest}
use Rattle.chpw_serve.specs.Requests.{Request, Content, new_password, opened_under, password_in}
use Rattle.chpw_serve.specs.Holding.{IsOpenRequest}

with_none : (p s : List ℕ) (d : Derivation) → with_counts p s d [] ≡ d
with_none p s d = append-nil d

twice_at : (p s : List ℕ) (d : Derivation) (b : Bool) (x : ℕ) (xs ys : List ℕ)
    → ((k : Derivation) → with_counts p s (with_counts p s k xs) ys ≡ with_counts p s k (xs ++ ys)) → has_count d x ≡ b
    → with_counts p s (with_counts p s d (x ∷ xs)) ys ≡ with_counts p s d (x ∷ (xs ++ ys))
twice_at p s d true x xs ys ih e =
    ap (λ (k : Derivation). with_counts p s k ys) (with_counts_there p s d x xs e) ∙ (ih d ∙ sym (with_counts_there p s d x (xs ++ ys) e))
twice_at p s d false x xs ys ih e =
    ap (λ (k : Derivation). with_counts p s k ys) (with_counts_new p s d x xs e) ∙ (ih (d ++ keys_from p s x ∷ []) ∙ sym (with_counts_new p s d x (xs ++ ys) e))

-- keys under some counts, and then under others
twice : (p s : List ℕ) (xs ys : List ℕ) (d : Derivation) → with_counts p s (with_counts p s d xs) ys ≡ with_counts p s d (xs ++ ys)
twice p s [] ys d = ap (λ (k : Derivation). with_counts p s k ys) (with_none p s d)
twice p s (x ∷ xs) ys d = twice_at p s d (has_count d x) x xs ys (twice p s xs ys) refl

completed_twice_at : (p xs ys : List ℕ) (o : Opened) (b : Body)
    → completed p ys (completed p xs (record o { body = b })) ≡ completed p (xs ++ ys) (record o { body = b })
completed_twice_at p xs ys o (Ask target digest) =
    ap (λ (d : Derivation). record o { body = Ask target (record digest { derived = d }) })
    (twice p (salt_of (target_of (record o { body = Ask target digest }))) xs ys digest.derived)
completed_twice_at p xs ys o body = refl

pub completed_twice : (p xs ys : List ℕ) (o : Opened) → completed p ys (completed p xs o) ≡ completed p (xs ++ ys) o
completed_twice p xs ys o = completed_twice_at p xs ys o o.body

pub completed_on : (p : List ℕ) (a b c : Opened) → IsCompletedFrom p a b → IsCompletedFrom p b c → IsCompletedFrom p a c
completed_on p a b c h g = (h.0 ++ g.0, g.1 ∙ (ap (completed p g.0) h.1 ∙ completed_twice p h.0 g.0 a))

completed_none_at : (p : List ℕ) (o : Opened) (b : Body) → record o { body = b } ≡ completed p [] (record o { body = b })
completed_none_at p o (Ask target digest) =
    ap (λ (d : Derivation). record o { body = Ask target (record digest { derived = d }) })
    (sym (with_none p (salt_of (target_of (record o { body = Ask target digest }))) digest.derived))
completed_none_at p o body = refl

pub completed_none : (p : List ℕ) (o : Opened) → IsCompletedFrom p o o
completed_none p o = ([], completed_none_at p o o.body)

under_at : (counts : List ℕ) (q : Request) (a : Content)
    → completed (password_in a) counts (opened_under [] (record q { content = a }))
    ≡ opened_under counts (record q { content = a })
under_at counts q (new_password target password) = refl
under_at counts q content = refl

-- keys derived of the request's own password
pub under : (counts : List ℕ) (q : Request) → completed (password_in q.content) counts (opened_under [] q) ≡ opened_under counts q
under counts q = under_at counts q q.content

-- what a message opened to, with keys derived of its password, and then more of them
pub under_more : (q : Request) (i : OpenRequest) (password : List ℕ) (ready o : Opened) → IsOpenRequest q i → password ≡ i.password
    → IsCompletedFrom password i.opened ready → IsCompletedFrom password ready o → (counts : List ℕ) × (o ≡ opened_under counts q)
under_more q i password ready o holds is_password first more =
    let whole = completed_on password i.opened ready o first more in
    let counts : List ℕ = whole.0 in (
      counts,
      whole.1
          ∙ (ap (λ (p : List ℕ). completed p counts i.opened) (is_password ∙ holds.1)
          ∙ (ap (completed (password_in q.content) counts) holds.0 ∙ under counts q)),
    )
