-- The keys of a line `principal`, one after the other.
use Rattle.std.proofs.Common.{◌≡◌, ℕ, ◌+◌, ◌-◌, ◌<◌, List, [], ◌∷◌, ◌++◌, length, get_or, drop, append_assoc, add-one}
use Rattle.std.proofs.Math.Seq.{drop-cons}
use Rattle.chpw_rules.specs.declared.config.KeyBytes.{KeyBytes}
use Rattle.chpw_commands.specs.declared.drill.words.CountedKey.{CountedKey}
use Rattle.chpw_commands.specs.Setup.{key_under, numbered}

abbrev pub no_key : CountedKey
no_key = record { count = 0; byte = 0 }

-- one more key
pub numbered_more : (rows whole : List KeyBytes) (kvno i : ℕ) (keys : List CountedKey) → i < length keys → rows ++ numbered kvno (drop i keys) ≡ whole →
    (rows ++ key_under kvno (get_or keys i no_key) ∷ []) ++ numbered (kvno - 1) (drop (i + 1) keys) ≡ whole
numbered_more rows whole kvno i keys lt h = rw (append_assoc, add-one) (rw (drop-cons keys i no_key lt) at h)
