use Rattle.std.proofs.Common.{ℕ, ◌<◌, ap, sym, ◌∙◌}
use Rattle.std.proofs.lemmas.List.Elements.{All-same}
use Rattle.krb_aes.specs.KeyExpansion.{key_expansion}
use Rattle.krb_aes.specs.Aes.{inv_cipher}
use Rattle.krb_aes.proofs.AesLemmas.{length_of_key, unaes_by_words}
use Rattle.krb_aes.proofs.block_cipher.Aes.decrypt_block.Goals as goal

pub returns : goal.returns
returns c =
    let words = c.self.inside.words in
    let key = c.args.self.now in
    let block = c.args.block.now in
    let len = length_of_key words key c.self.inside.key_len c.self.invariant.0 c.self.told.0 c.self.view_is in
    record {
      key = (rw len c.self.invariant.0, All-same (λ (x : ℕ). x < 256) key _ (sym c.self.view_is) c.self.invariant.1);
      value =
          c.eq_inv_cipher.ensures ∙ ap (λ (n : ℕ). inv_cipher words n block) c.round_count.ensures
          ∙ unaes_by_words words key block c.self.inside.key_len len (c.self.invariant.2 ∙ ap key_expansion c.self.view_is);
    }
