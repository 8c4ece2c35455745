use Rattle.std.proofs.Common.{◌≡◌, ℕ, List, sym, ◌∙◌, ap, ◌-◌, ◌+◌, ◌++◌, arith}
use Rattle.std.specs.Int.{w32, to_be_bytes}
use Rattle.krb_keys.specs.Hmac.{hmac}
use Rattle.krb_keys.specs.Pbkdf2.{xored, repeated}
use Rattle.krb_aes.specs.Bytes.{xor_bytes}
use Rattle.krb_keys.proofs.Pbkdf2Lemmas.{repeated_more, xored_more}
use Rattle.krb_keys.proofs.password_key.pbkdf2_block.Goals as goal

pub loop-init : goal.loop-init
unfolding xored repeated
loop-init c = λ password keyed.
    let e = rw c.to_be_bytes.ensures at (c.of_joined-hash.ensures password keyed) in (e, e)

pub loop-preserved : goal.loop-preserved
loop-preserved c = λ password keyed.
    let salt : List ℕ = c.args.salt.now ++ to_be_bytes w32 c.args.index in
    let was = c.loop.invariant password keyed in
    let t : ℕ = c.loop.counter in
    let u : c.of-hash.result ≡ repeated password salt (t + 1 - 1) =
    c.of-hash.ensures password keyed ∙ ap (hmac password) was.0 ∙ sym (repeated_more password salt t (omega arith)) in (
      u,
      c.xor_into.ensures.value ∙ ap (λ (x : List ℕ). xor_bytes x c.of-hash.result) was.1 ∙ ap (xor_bytes (xored password salt (t - 1))) u
          ∙ sym (xored_more password salt t (omega arith)),
    )
