use Rattle.std.proofs.Common.{rules, ◌≡◌, ℕ, ◌+◌, List, length, ap, ◌∙◌, arith}
use Rattle.std.proofs.lemmas.List.{take_at}
use Rattle.krb_keys.specs.Sealing.{IsSealed}
use Rattle.krb_keys.specs.Deciphering.{plain_part}
use Rattle.krb_keys.proofs.SealingLemmas.{short_seals_nothing, length-plain_part}
use Rattle.krb_keys.proofs.sealing.unseal.Goals as goal

pub returns-then-cipher-clause-too_short : goal.returns-then-cipher-clause-too_short
returns-then-cipher-clause-too_short c = λ e. short_seals_nothing c.args.key.now c.args.usage c.args.cipher.now (omega arith)

pub returns-then-not-opens_in_place-clause-bad_mac : goal.returns-then-not-opens_in_place-clause-bad_mac
returns-then-not-opens_in_place-clause-bad_mac c = λ e plain is_sealed.
    let same : c.deref_mut.result.now ≡ c.args.cipher.now = search rules in
    let there : IsSealed c.args.key.now c.args.usage c.deref_mut.result.now plain = rw same is_sealed in
    c.opens_in_place.ensures.nothing c.if-not-opens_in_place.true plain there

pub returns-clause-only : goal.returns-clause-only
returns-clause-only c = λ plain is_sealed.
    let same : c.deref_mut.result.now ≡ c.args.cipher.now = search rules in
    let there : IsSealed c.args.key.now c.args.usage c.deref_mut.result.now plain = rw same is_sealed in
    let whole : length c.opens_in_place.new.cipher ≡ c.in_ok-text.text.len = search rules in
    let part : c.plain_part.result.items ≡ plain_part c.opens_in_place.new.cipher =
    c.plain_part.ensures ∙ ap plain_part (take_at c.opens_in_place.new.cipher _ _ whole) in
    part ∙ c.opens_in_place.ensures.only plain there

pub returns-clause-len : goal.returns-clause-len
returns-clause-len c =
    let same : c.deref_mut.result.now ≡ c.args.cipher.now = search rules in
    let whole : length c.opens_in_place.new.cipher ≡ c.in_ok-text.text.len = search rules in
    let part : c.plain_part.result.items ≡ plain_part c.opens_in_place.new.cipher =
    c.plain_part.ensures ∙ ap plain_part (take_at c.opens_in_place.new.cipher _ _ whole) in
    let len = c.opens_in_place.ensures.len ∙ ap length same in
    ap (λ (xs : List ℕ). length xs + 28) part ∙ length-plain_part c.opens_in_place.new.cipher (omega arith) ∙ len
