-- The two forms of the line `ask` of a drill script.
use Rattle.std.specs.Prelude.{ℕ, Bool, true, false, ◌&&◌, nat_le, if◌then◌else◌, List, [], ◌∷◌, length}
use Rattle.std.specs.Prelude.{map, replicate, Option, Some, None, option_map, pos, bytes_eq, codes}
use Rattle.krb_keys.specs.declared.key.Key.{Key}
use Rattle.krb_keys.specs.declared.key.Key.TheVariants.{Aes128, Aes256}
use Rattle.chpw_rules.specs.declared.limits.Limits.{Limits}
use Rattle.chpw_rules.specs.Limits.{range, min_class_counts}
use Rattle.chpw_table.specs.declared.request.Body.{Body}
use Rattle.chpw_table.specs.declared.request.Body.TheVariants.{Ask, BadPrivate, BadData}
use Rattle.chpw_table.specs.declared.request.Target.{Target}
use Rattle.chpw_table.specs.declared.times.Moment.{Moment}
use Rattle.chpw_table.specs.declared.request.Opened.{Opened}
use Rattle.chpw_table.specs.declared.digest.Digest.{Digest}
use Rattle.chpw_table.specs.Digests.{is_derivation}
use Rattle.chpw_commands.specs.declared.drill.words.CountedKey.{CountedKey}
use Rattle.chpw_commands.specs.declared.drill.asking.Asked.{Asked}
use Rattle.chpw_commands.specs.declared.drill.asking.Flags.{Flags}
use Rattle.chpw_commands.specs.declared.drill.asking.Times.{Times}
use Rattle.chpw_commands.specs.Words.{◌>>=◌, keep_if, split_first, number_in, counted_key, named_in, each_of}

-- seconds from 1970-01-01T00:00:00Z to the end of the year 9999
abbrev pub seconds : Limits
seconds = range 0 253402300799

abbrev pub microseconds : Limits
microseconds = range 0 999999

-- the bytes of a password
abbrev pub password_lengths : Limits
password_lengths = range 0 65535

-- CTIME.CUSEC STARTS ENDS
unfoldable pub times_of : List ℕ → List ℕ → List ℕ → Option Times
times_of stamp starts ends = do
  parts ← split_first 46 stamp
  ctime ← number_in seconds parts.0
  cusec ← number_in microseconds parts.1
  starts ← number_in seconds starts
  ends ← number_in seconds ends
  Some (record { ctime = pos ctime; cusec = cusec; starts = pos starts; ends = pos ends })

-- FLAGS: -, i, v or iv
unfoldable pub flags_of : List ℕ → Option Flags
flags_of word =
    if bytes_eq word (codes "-") then Some (record { initial = false; invalid = false })
    else if bytes_eq word (codes "i") then Some (record { initial = true; invalid = false })
    else if bytes_eq word (codes "v") then Some (record { initial = false; invalid = true })
    else if bytes_eq word (codes "iv") then Some (record { initial = true; invalid = true })
    else None

-- TARGET, or - if it is absent
unfoldable pub target_in : List ℕ → List ℕ → Option (Option Target)
target_in realm word =
    if bytes_eq word (codes "-") then Some None
    else option_map (λ target. Some target) (named_in realm word)

-- both keys of one byte under the count
abbrev pub derived_of : CountedKey → ℕ × Key × Key
derived_of k = (k.count, Aes128 (replicate 16 k.byte), Aes256 (replicate 32 k.byte))

-- COUNT:KEY .., at most 17, no count twice
unfoldable pub digest_of : ℕ → ℕ → List (List ℕ) → Option Digest
digest_of size classes words = do
  keys ← each_of counted_key words
  keep_if (nat_le (length keys) 17 && is_derivation (map derived_of keys))
      (record { length = size; classes = classes; derived = map derived_of keys })

-- TARGET LENGTH CLASSES COUNT:KEY ..
unfoldable pub ask_of : List ℕ → List (List ℕ) → Option Body
ask_of realm (target ∷ length ∷ classes ∷ keys) = do
  length ← number_in password_lengths length
  classes ← number_in min_class_counts classes
  target ← target_in realm target
  digest ← digest_of length classes keys
  Some (Ask target digest)
ask_of realm _ = None

unfoldable pub bad_body_of : List ℕ → Option Body
bad_body_of word =
    if bytes_eq word (codes "bad-private") then Some BadPrivate
    else if bytes_eq word (codes "bad-data") then Some BadData
    else None

-- bad-private|bad-data as the one word, or the other form
unfoldable pub body_of : List ℕ → List (List ℕ) → Option Body
body_of realm (word ∷ []) = bad_body_of word
body_of realm words = ask_of realm words

-- the request with these parts; there is no timestamp in the KRB-PRIV
abbrev pub opened_of : Target → Times → Flags → Body → Opened
opened_of client times flags body = record {
  crealm = client.realm;
  client = client.name;
  initial = flags.initial;
  invalid = flags.invalid;
  starts = times.starts;
  ends = times.ends;
  ctime = times.ctime;
  cusec = times.cusec;
  stamp = None;
  body = body;
}

-- NOW CLIENT CTIME.CUSEC STARTS ENDS FLAGS, and the body
unfoldable pub asked_of : List ℕ → List (List ℕ) → Option Asked
asked_of realm (now ∷ client ∷ stamp ∷ starts ∷ ends ∷ flags ∷ body) = do
  now ← number_in seconds now
  times ← times_of stamp starts ends
  flags ← flags_of flags
  client ← named_in realm client
  body ← body_of realm body
  Some (record {
    now = record { seconds = pos now; micros = 0 };
    opened = opened_of client times flags body;
  })
asked_of realm _ = None
