use Rattle.std.proofs.Common.{◌-◌, take, length, ◌∙◌, arith}
use Rattle.std.proofs.lemmas.List.{take_rest}
use Rattle.krb_keys.proofs.SealingLemmas.{short_seals_nothing}
use Rattle.krb_keys.proofs.sealing.unseal_in_place.Goals as goal

pub returns-then-cipher-clause-too_short : goal.returns-then-cipher-clause-too_short
returns-then-cipher-clause-too_short c = λ e. short_seals_nothing c.args.key.now c.args.usage c.args.cipher.now (omega arith)

pub returns-then-not-opens_in_place-clause-bad_mac : goal.returns-then-not-opens_in_place-clause-bad_mac
returns-then-not-opens_in_place-clause-bad_mac c = λ e. c.opens_in_place.ensures.nothing c.if-not-opens_in_place.true

pub returns-clause-only : goal.returns-clause-only
returns-clause-only c = λ plain is_sealed.
    take_rest (take (length c.opens_in_place.new.cipher - 12) c.opens_in_place.new.cipher) 16 ∙ c.opens_in_place.ensures.only plain is_sealed
