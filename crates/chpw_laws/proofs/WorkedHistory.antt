-- A worked history with a depth of 1: the password of RFC 3962 appendix B, another key, the same password again.
use Rattle.std.proofs.Common.{ℕ, List, [], ◌∷◌, true, false, None, refl, sym, subst, replicate}
use Rattle.std.specs.Prelude.{codes, pos, negsuc}
use Rattle.krb_keys.specs.declared.etype.Etype.TheVariants as etype
use Rattle.krb_keys.specs.declared.key.Key.{Key}
use Rattle.krb_keys.specs.declared.key.Key.TheVariants.{Aes128, Aes256}
use Rattle.krb_keys.specs.Keys.{s2k}
use Rattle.krb_keys.specs.Vectors.{Aes256KeyValue}
use Rattle.chpw_rules.specs.declared.name.Name.{Name}
use Rattle.chpw_table.specs.declared.digest.Digest.{Digest}
use Rattle.chpw_table.specs.declared.request.Body.TheVariants.{Ask as body_ask}
use Rattle.chpw_table.specs.declared.request.Opened.{Opened}
use Rattle.chpw_table.specs.declared.verdict.Verdict.TheVariants.{Done}
use Rattle.chpw_table.specs.declared.history.Event.TheVariants.{Ask}
use Rattle.chpw_table.specs.declared.history.Entry.{Entry}
use Rattle.chpw_table.specs.State.{State}
use Rattle.chpw_table.specs.History.{IsLegal}
use Rattle.chpw_laws.specs.OldPasswords.{IsFor}
use Rattle.chpw_laws.specs.WithoutUpdates.{OneIsEnough}

abbrev athena : List ℕ
athena = codes "ATHENA.MIT.EDU"

abbrev raeburn : Name
raeburn = record { parts = codes "raeburn" ∷ [] }

abbrev word : List ℕ
word = codes "password"

abbrev salt : List ℕ
salt = codes "ATHENA.MIT.EDUraeburn"

-- one key of zeros
abbrev start : State
start = record {
  fixed = record {
    realm = athena;
    policy = record { min_length = 0; min_classes = 0; depth = 1; iterations = 1; set_needs_initial = false };
    rules = record { list = [] };
    quiet_until = negsuc 0;
  };
  principals = record {
    name = raeburn;
    keys = record { kvno = 1; count = 1; aes128 = replicate 16 0; aes256 = replicate 32 0 } ∷ [];
  } ∷ [];
  used = [];
  clock = pos 0;
  broken = false;
  count = 1;
}

abbrev asked : ℕ → Digest → Opened
asked time digest = record {
  crealm = athena;
  client = raeburn;
  initial = true;
  invalid = false;
  starts = pos 0;
  ends = pos 9000;
  ctime = pos time;
  cusec = 0;
  stamp = None;
  body = body_ask None digest;
}

-- the password's digest, if this is its key of etype 18
abbrev digest_with : Key → Digest
digest_with key = record { length = 8; classes = 1; derived = (1, s2k etype.Aes128 word salt 1, key) ∷ [] }

abbrev zeros : Digest
zeros = record { length = 8; classes = 1; derived = (1, Aes128 (replicate 16 0), Aes256 (replicate 32 0)) ∷ [] }

abbrev accepted_at : ℕ → Digest → Entry
accepted_at time digest = record {
  worker = 0;
  number = time;
  now = record { seconds = pos time; micros = 0 };
  io_failed = false;
  event = Ask (asked time digest) Done;
}

abbrev entries : Key → List Entry
entries key = accepted_at 1 (digest_with key) ∷ accepted_at 2 zeros ∷ accepted_at 3 (digest_with key) ∷ []

abbrev first_two : Key → List Entry
first_two key = accepted_at 1 (digest_with key) ∷ accepted_at 2 zeros ∷ []

abbrev published : Key
published = Aes256 (0xfe ∷ 0x69 ∷ 0x7b ∷ 0x52 ∷ 0xbc ∷ 0x0d ∷ 0x3c ∷ 0xe1 ∷
    0x44 ∷ 0x32 ∷ 0xba ∷ 0x03 ∷ 0x6a ∷ 0x92 ∷ 0xe6 ∷ 0x5b ∷
    0xbb ∷ 0x52 ∷ 0x28 ∷ 0x09 ∷ 0x90 ∷ 0xa2 ∷ 0xfa ∷ 0x27 ∷
    0x88 ∷ 0x39 ∷ 0x98 ∷ 0xd7 ∷ 0x2a ∷ 0xf3 ∷ 0x01 ∷ 0x61 ∷ [])

both_legal : IsLegal start (entries published) × IsLegal start (first_two published)
both_legal = (
  (
    record { verdict_is = refl; derived = refl; append = λ h. cc },
    (
      record { verdict_is = refl; derived = refl; append = λ h. cc },
      (record { verdict_is = refl; derived = refl; append = λ h. cc }, tt),
    ),
  ),
  (
    record { verdict_is = refl; derived = refl; append = λ h. cc },
    (record { verdict_is = refl; derived = refl; append = λ h. cc }, tt),
  ),
)

abbrev key : Key
key = s2k etype.Aes256 word salt 1

is_for : (time : ℕ) → IsFor raeburn word (asked time (digest_with key))
is_for time = (refl, (1 ∷ [], refl))

-- the law on one change between
pub one_is_enough : Aes256KeyValue → OneIsEnough
one_is_enough value =
    let legal = subst (λ (k : Key). IsLegal start (entries k) × IsLegal start (first_two k)) (sym value) both_legal in (
      record {
        opening = start;
        before = [];
        change = accepted_at 1 (digest_with key);
        later = accepted_at 2 zeros ∷ [];
        opened = asked 1 (digest_with key);
        name = raeburn;
        password = word;
        legal = legal.1;
        accepted = refl;
        asked = is_for 1;
      },
      accepted_at 3 (digest_with key),
      asked 3 (digest_with key),
      legal.0,
      refl,
      is_for 3,
      refl,
      (refl, tt),
      refl,
    )
