use Rattle.std.proofs.Common.{◌≡◌, ℕ, ◌+◌, ◌-◌, ◌*◌, take, drop, ap, ◌∙◌, arith}
use Rattle.krb_aes.specs.Bytes.{xor_bytes}
use Rattle.krb_aes.specs.Aes.{add_round_key}
use Rattle.krb_aes.proofs.block_cipher.add_round_key.Goals as goal

pub returns : goal.returns
unfolding add_round_key
returns c =
    let at : ℕ = 16 * c.args.round in
    let width : at + 16 - at ≡ 16 = omega arith in
    c.xor_into.ensures.value ∙ ap (λ (n : ℕ). xor_bytes c.args.state.now (take n (drop at c.args.words.now))) width
