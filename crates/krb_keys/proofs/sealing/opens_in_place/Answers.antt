use Rattle.std.proofs.Common.{rules, ◌≡◌, ℕ, ◌-◌, List, ◌++◌, take, drop, length, length-drop, sym, ap, ◌∙◌, arith}
use Rattle.std.proofs.lemmas.Slice.Eq.{bytes_eq-Decides}
use Rattle.std.specs.Str.{bytes_eq}
use Rattle.krb_keys.specs.Sealing.{checksum_of}
use Rattle.krb_keys.specs.Deciphering.{IsDeciphered, plain_part}
use Rattle.krb_keys.proofs.SealingLemmas.{deciphered_in_place, plain_part_of, sealed_from, opened}
use Rattle.krb_keys.proofs.sealing.opens_in_place.Goals as goal

pub returns : goal.returns
returns c =
    let cipher : List ℕ = c.args.cipher.now in
    let n : ℕ = length cipher - 12 in
    let text : List ℕ = c.cts_decrypt.new.text in
    let same : length text ≡ length (take n cipher) = search rules in
    let h : IsDeciphered c.args.key.now c.args.usage (take n cipher) text =
    deciphered_in_place c.args.key.now c.args.usage _ _ _ c.encryption_cipher.ensures c.cts_decrypt.ensures.key same (search rules) (search rules) in
    let checksum : List ℕ = c.split_at_mut-body.result.1.now in
    let rest : checksum ≡ drop n cipher = c.split_at_mut-body.ensures.back in
    let twelve : length checksum ≡ 12 = omega (arith, ap length rest, length-drop n cipher) in
    let part : plain_part (text ++ checksum) ≡ drop 16 text = plain_part_of text checksum twelve in
    let decides = bytes_eq-Decides (checksum_of c.args.key.now c.args.usage text) (drop n cipher) in
    let value : c.is_checksum.result ≡ bytes_eq (checksum_of c.args.key.now c.args.usage text) (drop n cipher) = search rules in
    record {
      len = search rules;
      found = λ yes. rw part
          (sealed_from c.args.key.now c.args.usage n cipher text h (omega arith) (omega arith) (decides.0 (sym value ∙ yes)) (search rules));
      nothing = λ no plain is_sealed.
          let code = (opened c.args.key.now c.args.usage cipher plain text is_sealed h).0 in
          let yes = decides.1 code in
          cc;
      only = λ plain is_sealed. part ∙ (opened c.args.key.now c.args.usage cipher plain text is_sealed h).1;
    }
