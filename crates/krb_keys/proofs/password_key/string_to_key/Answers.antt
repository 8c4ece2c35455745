use Rattle.std.proofs.Common.{◌≡◌, ap, ◌∙◌, refl}
use Rattle.krb_keys.specs.Keys.{s2k, dk, random_to_key, key_length, kerberos}
use Rattle.krb_keys.specs.Pbkdf2.{pbkdf2}
use Rattle.krb_keys.specs.declared.key.Key.{Key}
use Rattle.krb_keys.specs.declared.key.Key.TheVariants.{Aes128, Aes256}
use Rattle.krb_keys.proofs.password_key.string_to_key.Goals.{in-Aes128, in-Aes256}
use Rattle.krb_keys.proofs.password_key.string_to_key.Goals as goal

pub returns : goal.returns
unfolding s2k
returns c =
    let random : c.match-etype.random ≡ random_to_key c.args.etype (pbkdf2 c.args.password.now c.args.salt.now c.args.n (key_length c.args.etype)) =
    elim c.match-etype.branch [
      | in-Aes128 w ↦ w.random-is ∙ ap Aes128 w.pbkdf2.ensures.value ∙ rw w.in-Aes128.is refl
      | in-Aes256 w ↦ w.random-is ∙ ap Aes256 w.pbkdf2-in-Aes256.ensures.value ∙ rw w.in-Aes256.is refl
    ] in
    record { value = c.derive_key.ensures.value ∙ ap (λ (k : Key). dk k kerberos) random }
