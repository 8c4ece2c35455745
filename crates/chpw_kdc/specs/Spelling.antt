-- Answers as the agent spells them (agent/README.md): words with single spaces between them.
use Rattle.std.specs.Prelude.{◌≡◌, ℕ, ◌<◌, ◌^◌, List, [], ◌∷◌, length, codes, Ok}
use Rattle.std.specs.Fmt.{decimal}
use Rattle.std.specs.List.{All, AllByRecursion, join_with_byte}
use Rattle.hex.specs.Hex.{encode_lower, IsBytes}
use Rattle.chpw_rules.specs.declared.name.Name.{Name}
use Rattle.chpw_kdc.specs.declared.answer.Reason.{Reason}
use Rattle.chpw_kdc.specs.declared.answer.Reason.TheVariants as reason
use Rattle.chpw_kdc.specs.declared.answer.Answer.{Answer}
use Rattle.chpw_kdc.specs.declared.answer.Answer.TheVariants as answer
use Rattle.chpw_kdc.specs.Lines.{Request, list_keys, get, put, request_text, name_text, answer_of}

abbrev pub reason_word : Reason → List ℕ
reason_word reason.Reserved = codes "reserved"
reason_word reason.Components = codes "components"
reason_word reason.Lockdown = codes "lockdown"
reason_word reason.Keys = codes "keys"
reason_word reason.Version = codes "version"

-- TEXT may have spaces of its own
abbrev pub answer_words : Answer → List (List ℕ)
answer_words (answer.Has name kvno keys) =
    codes "has" ∷ name_text name.parts ∷ decimal kvno ∷ encode_lower keys.aes256 ∷ encode_lower keys.aes128 ∷ []
answer_words (answer.Other name why) = codes "other" ∷ name_text name.parts ∷ reason_word why ∷ []
answer_words (answer.End count) = codes "end" ∷ decimal count ∷ []
answer_words (answer.None name) = codes "none" ∷ name_text name.parts ∷ []
answer_words (answer.Put name kvno) = codes "put" ∷ name_text name.parts ∷ decimal kvno ∷ []
answer_words (answer.Refused name why) = codes "refused" ∷ name_text name.parts ∷ reason_word why ∷ []
answer_words (answer.Failed name text) = codes "failed" ∷ name_text name.parts ∷ text ∷ []
answer_words (answer.ListFailed text) = codes "failed" ∷ codes "-" ∷ text ∷ []
answer_words answer.Changed = codes "changed" ∷ []

abbrev pub answer_line : Answer → List ℕ
answer_line a = join_with_byte 32 (answer_words a)

-- ---- what can be spelled

abbrev pub IsPart : List ℕ → Type 0
IsPart part = (0 < length part) × IsBytes part

-- a name has components, and none is empty
abbrev pub IsSpelledName : Name → Type 0
IsSpelledName name = (0 < length name.parts) × AllByRecursion IsPart name.parts

abbrev pub IsVersion : ℕ → Type 0
IsVersion kvno = (0 < kvno) × (kvno < 2 ^ 32)

-- the keys of etypes 18 and 17
abbrev pub AreKeys : List ℕ → List ℕ → Type 0
AreKeys aes256 aes128 = (length aes256 ≡ 32) × IsBytes aes256 × (length aes128 ≡ 16) × IsBytes aes128

abbrev pub IsAsciiText : List ℕ → Type 0
IsAsciiText text = All (λ (b : ℕ). b < 128) text

abbrev pub IsSpelled : Answer → Type 0
IsSpelled (answer.Has name kvno keys) = IsSpelledName name × IsVersion kvno × AreKeys keys.aes256 keys.aes128
IsSpelled (answer.Other name why) = IsSpelledName name
IsSpelled (answer.End count) = count < 2 ^ 32
IsSpelled (answer.None name) = IsSpelledName name
IsSpelled (answer.Put name kvno) = IsSpelledName name × IsVersion kvno
IsSpelled (answer.Refused name why) = IsSpelledName name
IsSpelled (answer.Failed name text) = IsSpelledName name × IsAsciiText text
IsSpelled (answer.ListFailed text) = IsAsciiText text
IsSpelled answer.Changed = Unit {0}

-- ---- the laws

-- an answer is read as it is spelled
abbrev pub ReadsBack : Type 0
ReadsBack = (a : Answer) → IsSpelled a → answer_of (answer_line a) ≡ Ok a

abbrev pub IsAskable : Request → Type 0
IsAskable list_keys = Unit {0}
IsAskable (get name) = IsSpelledName name
IsAskable (put name key) = IsSpelledName name × IsVersion key.kvno × AreKeys key.aes256 key.aes128

-- the same request; a key's iteration count is no part of it
abbrev pub IsSameRequest : Request → Request → Type 0
IsSameRequest list_keys list_keys = Unit {0}
IsSameRequest (get name) (get other) = name ≡ other
IsSameRequest (put name key) (put other k) = (name ≡ other) × (key.kvno ≡ k.kvno) × (key.aes256 ≡ k.aes256) × (key.aes128 ≡ k.aes128)
IsSameRequest r q = ⊥

-- a request's line is that of no other
abbrev pub LinesDiffer : Type 0
LinesDiffer = (r q : Request) → IsAskable r → IsAskable q → request_text r ≡ request_text q → IsSameRequest r q
