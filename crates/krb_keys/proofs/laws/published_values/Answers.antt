-- The definitions computed.
use Rattle.std.proofs.Common.{refl}
use Rattle.sha1.specs.Sha1.{sha1, digest_bytes, hash_after, compress, rounds, schedule, first_words}
use Rattle.krb_aes.specs.Bytes.{xor_bytes}
use Rattle.krb_aes.specs.Field.{xtime, times_low, times, inverse, from_bits, affine, sub_byte}
use Rattle.krb_aes.specs.KeyExpansion.{power_of_x, key_step, expanded}
use Rattle.krb_aes.specs.Aes as cipher
use Rattle.krb_keys.specs.Hmac.{hmac, padded_key, key_block}
use Rattle.krb_keys.specs.Nfold.{nfold, ones_complement, sum_of_parts, joined, copy_count, copy, rotated, number_bytes, value}
use Rattle.krb_keys.specs.Pbkdf2.{pbkdf2, blocks, xored, repeated}
use Rattle.krb_keys.specs.Keys.{constant_block, dr, dk, s2k}
use Rattle.krb_keys.specs.Vectors.{HmacValue, Pbkdf2Value, Fold64Value, Fold56Value, Fold168Value, Fold128Value, Aes128KeyValue, Aes256KeyValue}
use Rattle.krb_keys.proofs.laws.published_values.Goals as goal

hmac_value : HmacValue
unfolding hmac padded_key key_block sha1 digest_bytes hash_after compress rounds schedule first_words
hmac_value = refl

pbkdf2_value : Pbkdf2Value
unfolding pbkdf2 blocks xored repeated xor_bytes hmac padded_key key_block sha1 digest_bytes hash_after compress rounds schedule first_words
pbkdf2_value = refl

fold_64_value : Fold64Value
unfolding nfold ones_complement sum_of_parts joined copy_count copy rotated number_bytes value
fold_64_value = refl

fold_56_value : Fold56Value
unfolding nfold ones_complement sum_of_parts joined copy_count copy rotated number_bytes value
fold_56_value = refl

fold_168_value : Fold168Value
unfolding nfold ones_complement sum_of_parts joined copy_count copy rotated number_bytes value
fold_168_value = refl

fold_128_value : Fold128Value
unfolding nfold ones_complement sum_of_parts joined copy_count copy rotated number_bytes value
fold_128_value = refl

aes_128_key_value : Aes128KeyValue
unfolding s2k dk dr constant_block
    pbkdf2 blocks xored repeated xor_bytes hmac padded_key key_block sha1 digest_bytes hash_after
    compress rounds schedule first_words nfold ones_complement sum_of_parts joined copy_count copy rotated number_bytes
    value cipher.aes cipher.cipher cipher.add_round_key cipher.times_matrix cipher.shift_rows cipher.sub_bytes expanded
    key_step power_of_x sub_byte affine from_bits inverse times times_low xtime cipher.rounds
aes_128_key_value = refl

aes_256_key_value : Aes256KeyValue
unfolding s2k dk dr constant_block
    pbkdf2 blocks xored repeated xor_bytes hmac padded_key key_block sha1 digest_bytes hash_after
    compress rounds schedule first_words nfold ones_complement sum_of_parts joined copy_count copy rotated number_bytes
    value cipher.aes cipher.cipher cipher.add_round_key cipher.times_matrix cipher.shift_rows cipher.sub_bytes expanded
    key_step power_of_x sub_byte affine from_bits inverse times times_low xtime cipher.rounds
aes_256_key_value = refl

pub returns : goal.returns
returns c = record {
  hmac = hmac_value;
  pbkdf2 = pbkdf2_value;
  fold_64 = fold_64_value;
  fold_56 = fold_56_value;
  fold_168 = fold_168_value;
  fold_128 = fold_128_value;
  aes_128_key = aes_128_key_value;
  aes_256_key = aes_256_key_value;
}
