-- The encryption type of a key of a password, and its row.
use Rattle.std.proofs.Common.{◌≡◌, refl, true, ◌&&◌, ℕ, List}
use Rattle.krb_keys.specs.declared.etype.Etype.TheVariants as etype
use Rattle.krb_keys.specs.Keys.{etype_of, s2k, dk}
use Rattle.std.proofs.lemmas.Bool.{and_parts}
use Rattle.chpw_rules.specs.declared.name.Name.{Name}
use Rattle.chpw_rules.specs.Fitting.{principal_fits}
use Rattle.chpw_rules.specs.Limits.{is_in, iteration_counts, kvnos}
use Rattle.chpw_rules.specs.Names.{is_name}
use Rattle.chpw_import.specs.declared.numbers.KeyNumbers.{KeyNumbers}
use Rattle.chpw_import.specs.Passwords.{row_of}

pub aes128_made : (password salt : List ℕ) (n : ℕ) → etype_of (s2k etype.Aes128 password salt n) ≡ etype.Aes128
unfolding s2k dk
aes128_made password salt n = refl

pub aes256_made : (password salt : List ℕ) (n : ℕ) → etype_of (s2k etype.Aes256 password salt n) ≡ etype.Aes256
unfolding s2k dk
aes256_made password salt n = refl

pub row_fits : (realm : List ℕ) (name : Name) (password : List ℕ) (numbers : KeyNumbers)
    → is_name name && is_in kvnos numbers.kvno && is_in iteration_counts numbers.iterations ≡ true → principal_fits (row_of realm name password numbers) ≡ true
row_fits realm name password numbers h =
    let (first, counted) = and_parts (is_name name && is_in kvnos numbers.kvno) _ h in
    let (named, versioned) = and_parts (is_name name) _ first in
    rw (named, versioned, counted) refl
