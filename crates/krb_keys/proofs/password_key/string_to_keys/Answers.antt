use Rattle.std.proofs.Common.{◌≡◌, take, ap, ◌∙◌, arith}
use Rattle.krb_keys.specs.Keys.{s2k, dk, kerberos}
use Rattle.krb_keys.specs.Pbkdf2.{pbkdf2}
use Rattle.krb_keys.specs.declared.key.Key.TheVariants.{Aes128, Aes256}
use Rattle.krb_keys.proofs.Pbkdf2Lemmas.{pbkdf2_front}
use Rattle.krb_keys.proofs.password_key.string_to_keys.Goals as goal

pub returns : goal.returns
unfolding s2k
returns c =
    let password = c.args.password.now in
    let salt = c.args.salt.now in
    let n = c.args.n in
    let front : c.copy_from_slice.new.self ≡ pbkdf2 password salt n 16 =
    c.copy_from_slice.ensures.after ∙ ap (take 16) c.pbkdf2.ensures.value
    ∙ pbkdf2_front password salt n 16 32 (omega arith) (omega arith) (omega arith) (omega arith) in
    record {
      aes128 = c.derive_key.ensures.value ∙ ap (λ (bytes : _). dk (Aes128 bytes) kerberos) front;
      aes256 = c.derive_key-2.ensures.value ∙ ap (λ (bytes : _). dk (Aes256 bytes) kerberos) c.pbkdf2.ensures.value;
    }
