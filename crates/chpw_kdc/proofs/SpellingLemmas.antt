-- Answers are read as they are spelled, and no two requests have one line.
use Rattle.std.proofs.Common.{◌≡◌, ◌∙◌, sym, ap, refl, ℕ, ◌<◌, Bool, false, bytes_eq, if◌then◌else◌, List, [], ◌∷◌, ◌++◌, codes}
use Rattle.std.proofs.Common.{Result, Ok, arith, lit<}
use Rattle.std.proofs.lemmas.Grind.{common_steps}
use Rattle.std.specs.List.{All, AllByRecursion, join_with_byte}
use Rattle.std.specs.Fmt.{decimal}
use Rattle.hex.specs.Hex.{encode_lower}
use Rattle.chpw_rules.specs.declared.name.Name.{Name}
use Rattle.chpw_kdc.specs.declared.fields.KeyPair.{KeyPair}
use Rattle.chpw_kdc.specs.declared.fault.LineFault.{LineFault}
use Rattle.chpw_kdc.specs.declared.answer.Reason.{Reason}
use Rattle.chpw_kdc.specs.declared.answer.Reason.TheVariants as reason
use Rattle.chpw_kdc.specs.declared.answer.Answer.{Answer}
use Rattle.chpw_kdc.specs.declared.answer.Answer.TheVariants as answer
use Rattle.chpw_kdc.specs.Lines.{Request, list_keys, get, put, request_text, name_text, words_of, first_word, answer_of}
use Rattle.chpw_kdc.specs.Lines.{longer_of, has_of, other_of, end_of, end_from, none_of, put_of, refused_of, failed_from}
use Rattle.chpw_kdc.specs.Lines.{reason_in, name_in, version_in, keys_in, key_in, ◌>>=◌}
use Rattle.chpw_kdc.specs.Spelling.{reason_word, IsSpelledName, IsVersion, AreKeys, ReadsBack, IsAskable, IsSameRequest, LinesDiffer}
use Rattle.chpw_kdc.proofs.WordLemmas.{Free, Plain, plain_word, plain_free, plain_ascii, split_joined, first_word_of, joined_all}
use Rattle.chpw_kdc.proofs.WordLemmas.{ascii_is_text, hex_plain, name_dashless, key_read, keys_read, name_read, name_plain}
use Rattle.chpw_kdc.proofs.WordLemmas.{number_plain, number_read, version_read}

abbrev Ascii : List ℕ → Type 0
Ascii w = All (λ (b : ℕ). b < 128) w

-- ---- a line of more than one word

spelled : (first rest : List ℕ) → All Plain first → Ascii rest → bytes_eq (first ++ 32 ∷ rest) (codes "changed") ≡ false
    → answer_of (first ++ 32 ∷ rest) ≡ longer_of first rest
spelled first rest plain ascii other =
    rw (
      ascii_is_text (first ++ 32 ∷ rest)
          (joined_all (λ (b : ℕ). b < 128) 32 (lit< tt) first (rest ∷ []) (plain_ascii first plain) (ascii, tt)),
      other,
      first_word_of first rest (plain_free first plain),
    ) refl

ascii_words : (ws : List (List ℕ)) → AllByRecursion (All Plain) ws → AllByRecursion Ascii ws
ascii_words [] all = tt
ascii_words (w ∷ ws) all = (plain_ascii w all.0, ascii_words ws all.1)

free_words : (ws : List (List ℕ)) → AllByRecursion (All Plain) ws → AllByRecursion (Free 32) ws
free_words [] all = tt
free_words (w ∷ ws) all = (plain_free w all.0, free_words ws all.1)

-- whose words are all plain
rest_ascii : (next : List ℕ) (ws : List (List ℕ)) → AllByRecursion (All Plain) (next ∷ ws) → Ascii (join_with_byte 32 (next ∷ ws))
rest_ascii next ws all = joined_all (λ (b : ℕ). b < 128) 32 (lit< tt) next ws (plain_ascii next all.0) (ascii_words ws all.1)

rest_words : (next : List ℕ) (ws : List (List ℕ)) → AllByRecursion (All Plain) (next ∷ ws) → words_of (join_with_byte 32 (next ∷ ws)) ≡ next ∷ ws
rest_words next ws all = split_joined 32 next ws (plain_free next all.0) (free_words ws all.1)

-- ---- reasons

reason_read : (why : Reason) → reason_in (reason_word why) ≡ Ok why
unfolding reason_in
reason_read reason.Reserved = refl
reason_read reason.Components = refl
reason_read reason.Lockdown = refl
reason_read reason.Keys = refl
reason_read reason.Version = refl

reason_plain : (why : Reason) → All Plain (reason_word why)
reason_plain reason.Reserved = plain_word (codes "reserved") refl
reason_plain reason.Components = plain_word (codes "components") refl
reason_plain reason.Lockdown = plain_word (codes "lockdown") refl
reason_plain reason.Keys = plain_word (codes "keys") refl
reason_plain reason.Version = plain_word (codes "version") refl

-- ---- answers

named_reason : (make : Name → Reason → Answer) (name : Name) (why : Reason) → IsSpelledName name
    → (name_in (name_text name.parts) >>= (λ n. reason_in (reason_word why) >>= (λ r. Ok (make n r)))) ≡ Ok (make name why)
named_reason make name why s =
    ap (λ (x : Result Name LineFault). x >>= (λ n. reason_in (reason_word why) >>= (λ r. Ok (make n r)))) (name_read name s)
    ∙ ap (λ (x : Result Reason LineFault). x >>= (λ r. Ok (make name r))) (reason_read why)

named_version : (name : Name) (kvno : ℕ) → IsSpelledName name → IsVersion kvno
    → put_of (name_text name.parts ∷ decimal kvno ∷ []) ≡ Ok (answer.Put name kvno)
named_version name kvno s v =
    ap (λ (x : Result Name LineFault). x >>= (λ n. version_in (decimal kvno) >>= (λ k. Ok (answer.Put n k)))) (name_read name s)
    ∙ ap (λ (x : Result ℕ LineFault). x >>= (λ k. Ok (answer.Put name k))) (version_read kvno v)

has_read : (name : Name) (kvno : ℕ) (keys : KeyPair) → IsSpelledName name → IsVersion kvno → AreKeys keys.aes256 keys.aes128
    → has_of (name_text name.parts ∷ decimal kvno ∷ encode_lower keys.aes256 ∷ encode_lower keys.aes128 ∷ []) ≡ Ok (answer.Has name kvno keys)
has_read name kvno keys s v k =
    ap (λ (x : Result Name LineFault). x >>= (λ n. version_in (decimal kvno) >>= (λ m.
    keys_in (encode_lower keys.aes256) (encode_lower keys.aes128) >>= (λ p. Ok (answer.Has n m p))))) (name_read name s)
    ∙ (ap (λ (x : Result ℕ LineFault). x >>= (λ m.
    keys_in (encode_lower keys.aes256) (encode_lower keys.aes128) >>= (λ p. Ok (answer.Has name m p)))) (version_read kvno v)
    ∙ ap (λ (x : Result KeyPair LineFault). x >>= (λ p. Ok (answer.Has name kvno p))) (keys_read keys.aes256 keys.aes128 k))

failed_read : (name : Name) (text : List ℕ) → IsSpelledName name → failed_from (first_word (name_text name.parts ++ 32 ∷ text)) ≡ Ok (answer.Failed name text)
failed_read name text s =
    ap failed_from (first_word_of (name_text name.parts) text (plain_free (name_text name.parts) (name_plain name s)))
    ∙ (ap (λ (b : Bool). if b then Ok (answer.ListFailed text) else name_in (name_text name.parts) >>= (λ n. Ok (answer.Failed n text)))
    (name_dashless name s)
    ∙ ap (λ (x : Result Name LineFault). x >>= (λ n. Ok (answer.Failed n text))) (name_read name s))

pub reads_back : ReadsBack
reads_back (answer.Has name kvno keys) s =
    let plain : AllByRecursion (All Plain) (name_text name.parts ∷ decimal kvno ∷ encode_lower keys.aes256 ∷ encode_lower keys.aes128 ∷ []) =
    (name_plain name s.0, (number_plain kvno s.1.1, (hex_plain keys.aes256 s.2.1, (hex_plain keys.aes128 s.2.3, tt)))) in
    spelled (codes "has") _ (plain_word (codes "has") refl)
    (rest_ascii (name_text name.parts) (decimal kvno ∷ encode_lower keys.aes256 ∷ encode_lower keys.aes128 ∷ []) plain) refl
    ∙ (ap has_of (rest_words (name_text name.parts) (decimal kvno ∷ encode_lower keys.aes256 ∷ encode_lower keys.aes128 ∷ []) plain)
    ∙ has_read name kvno keys s.0 s.1 s.2)
reads_back (answer.Other name why) s =
    let plain : AllByRecursion (All Plain) (name_text name.parts ∷ reason_word why ∷ []) = (name_plain name s, (reason_plain why, tt)) in
    spelled (codes "other") _ (plain_word (codes "other") refl) (rest_ascii (name_text name.parts) (reason_word why ∷ []) plain) refl
    ∙ (ap other_of (rest_words (name_text name.parts) (reason_word why ∷ []) plain) ∙ named_reason (λ n r. answer.Other n r) name why s)
reads_back (answer.End count) s =
    let plain : AllByRecursion (All Plain) (decimal count ∷ []) = (number_plain count s, tt) in
    spelled (codes "end") _ (plain_word (codes "end") refl) (rest_ascii (decimal count) [] plain) refl
    ∙ (ap end_of (rest_words (decimal count) [] plain) ∙ ap end_from (number_read count s))
reads_back (answer.None name) s =
    let plain : AllByRecursion (All Plain) (name_text name.parts ∷ []) = (name_plain name s, tt) in
    spelled (codes "none") _ (plain_word (codes "none") refl) (rest_ascii (name_text name.parts) [] plain) refl
    ∙ (ap none_of (rest_words (name_text name.parts) [] plain) ∙ ap (λ (x : Result Name LineFault). x >>= (λ n. Ok (answer.None n))) (name_read name s))
reads_back (answer.Put name kvno) s =
    let plain : AllByRecursion (All Plain) (name_text name.parts ∷ decimal kvno ∷ []) = (name_plain name s.0, (number_plain kvno s.1.1, tt)) in
    spelled (codes "put") _ (plain_word (codes "put") refl) (rest_ascii (name_text name.parts) (decimal kvno ∷ []) plain) refl
    ∙ (ap put_of (rest_words (name_text name.parts) (decimal kvno ∷ []) plain) ∙ named_version name kvno s.0 s.1)
reads_back (answer.Refused name why) s =
    let plain : AllByRecursion (All Plain) (name_text name.parts ∷ reason_word why ∷ []) = (name_plain name s, (reason_plain why, tt)) in
    spelled (codes "refused") _ (plain_word (codes "refused") refl) (rest_ascii (name_text name.parts) (reason_word why ∷ []) plain) refl
    ∙ (ap refused_of (rest_words (name_text name.parts) (reason_word why ∷ []) plain) ∙ named_reason (λ n r. answer.Refused n r) name why s)
reads_back (answer.Failed name text) s =
    spelled (codes "failed") _ (plain_word (codes "failed") refl)
    (joined_all (λ (b : ℕ). b < 128) 32 (lit< tt) (name_text name.parts) (text ∷ []) (plain_ascii (name_text name.parts) (name_plain name s.0)) (s.1, tt)) refl
    ∙ failed_read name text s.0
reads_back (answer.ListFailed text) s =
    spelled (codes "failed") _ (plain_word (codes "failed") refl)
    (joined_all (λ (b : ℕ). b < 128) 32 (lit< tt) (codes "-") (text ∷ []) (plain_ascii (codes "-") (plain_word (codes "-") refl)) (s, tt)) refl
    ∙ ap failed_from (first_word_of (codes "-") text (plain_free (codes "-") (plain_word (codes "-") refl)))
reads_back answer.Changed s = rw (ascii_is_text (codes "changed") (plain_ascii (codes "changed") (plain_word (codes "changed") refl))) refl

-- ---- requests

abbrev request_words : Request → List (List ℕ)
request_words list_keys = codes "list" ∷ codes "keys" ∷ []
request_words (get name) = codes "get" ∷ name_text name.parts ∷ []
request_words (put name key) = codes "put" ∷ name_text name.parts ∷ decimal key.kvno ∷ encode_lower key.aes256 ∷ encode_lower key.aes128 ∷ []

request_joined : (r : Request) → request_text r ≡ join_with_byte 32 (request_words r)
request_joined list_keys = refl
request_joined (get name) = refl
request_joined (put name key) = grind (arith, common_steps)

request_split : (r : Request) → IsAskable r → words_of (request_text r) ≡ request_words r
request_split list_keys a = refl
request_split (get name) a =
    let plain : AllByRecursion (All Plain) (codes "get" ∷ name_text name.parts ∷ []) = (plain_word (codes "get") refl, (name_plain name a, tt)) in
    ap words_of (request_joined (get name)) ∙ rest_words (codes "get") (name_text name.parts ∷ []) plain
request_split (put name key) a =
    let plain : AllByRecursion (All Plain) (request_words (put name key)) =
    (plain_word (codes "put") refl, (name_plain name a.0, (number_plain key.kvno a.1.1, (hex_plain key.aes256 a.2.1, (hex_plain key.aes128 a.2.3, tt))))) in
    ap words_of (request_joined (put name key))
    ∙ rest_words (codes "put") (name_text name.parts ∷ decimal key.kvno ∷ encode_lower key.aes256 ∷ encode_lower key.aes128 ∷ []) plain

same_ok : {A : Type 0} (a b : A) (r : Result A LineFault) → r ≡ Ok a → r ≡ Ok b → a ≡ b
same_ok a b r e f = cc

same_name : (a b : Name) → IsSpelledName a → IsSpelledName b → name_text a.parts ≡ name_text b.parts → a ≡ b
same_name a b s t e = same_ok a b (name_in (name_text a.parts)) (name_read a s) (ap name_in e ∙ name_read b t)

same_version : (a b : ℕ) → IsVersion a → IsVersion b → decimal a ≡ decimal b → a ≡ b
same_version a b s t e = same_ok a b (version_in (decimal a)) (version_read a s) (ap version_in e ∙ version_read b t)

same_keys : (a b c d : List ℕ) → AreKeys a b → AreKeys c d → encode_lower a ≡ encode_lower c → encode_lower b ≡ encode_lower d → (a ≡ c) × (b ≡ d)
same_keys a b c d s t e f = (
  same_ok a c (key_in 32 (encode_lower a)) (key_read 32 a s.0 s.1) (ap (key_in 32) e ∙ key_read 32 c t.0 t.1),
  same_ok b d (key_in 16 (encode_lower b)) (key_read 16 b s.2 s.3) (ap (key_in 16) f ∙ key_read 16 d t.2 t.3),
)

same_words : (r q : Request) → IsAskable r → IsAskable q → request_words r ≡ request_words q → IsSameRequest r q
same_words list_keys list_keys a b e = tt
same_words list_keys (get name) a b e = cc
same_words list_keys (put name key) a b e = cc
same_words (get name) list_keys a b e = cc
same_words (get name) (get other) a b e =
    let n : name_text name.parts ≡ name_text other.parts = cc in
    same_name name other a b n
same_words (get name) (put other key) a b e = cc
same_words (put name key) list_keys a b e = cc
same_words (put name key) (get other) a b e = cc
same_words (put name key) (put other k) a b e =
    let n : name_text name.parts ≡ name_text other.parts = cc in
    let v : decimal key.kvno ≡ decimal k.kvno = cc in
    let x : encode_lower key.aes256 ≡ encode_lower k.aes256 = cc in
    let y : encode_lower key.aes128 ≡ encode_lower k.aes128 = cc in
    let keys = same_keys key.aes256 key.aes128 k.aes256 k.aes128 a.2 b.2 x y in
    (same_name name other a.0 b.0 n, same_version key.kvno k.kvno a.1 b.1 v, keys.0, keys.1)

pub lines_differ : LinesDiffer
lines_differ r q a b e = same_words r q a b (sym (request_split r a) ∙ (ap words_of e ∙ request_split q b))
