-- For proofs alone: the version of a record read by places, and whether its numbers are within their limits.
use Rattle.std.specs.Prelude.{ℕ, List, take, drop, Bool, ◌&&◌}
use Rattle.std.specs.Int.{from_be_bytes, w32}
use Rattle.chpw_rules.specs.Limits.{is_in, kvnos, iteration_counts}
use Rattle.chpw_record.specs.declared.key.KeyRow.{KeyRow}

-- kvno, iteration count and keys after the kind
abbrev pub key_at : List ℕ → KeyRow
key_at bytes = record {
  kvno = from_be_bytes w32 (take 4 (drop 1 bytes));
  count = from_be_bytes w32 (take 4 (drop 5 bytes));
  aes128 = take 16 (drop 9 bytes);
  aes256 = take 32 (drop 25 bytes);
}

abbrev pub key_fits : KeyRow → Bool
key_fits key = is_in kvnos key.kvno && is_in iteration_counts key.count
