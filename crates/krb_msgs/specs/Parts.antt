-- Messages and their sealed parts (RFC 4120 section 5.2.9).
use Rattle.std.specs.Prelude.{◌≡◌, ℕ, List, Option, Result}
use Rattle.krb_codec.specs.Shapes.{Shape, Value}
use Rattle.krb_codec.specs.Grammar.{Spells}
use Rattle.krb_keys.specs.Keys.{etype_of, number_of}
use Rattle.krb_keys.specs.Sealing.{IsSealed, sealed}
use Rattle.krb_keys.specs.declared.key.Key.{Key}
use Rattle.krb_der.specs.declared.encrypted_data.EncryptedData.{EncryptedData}
use Rattle.krb_msgs.specs.Checks.{Found, Then, Passed}

-- a part has the key's encryption type and is the sealed text of a plain text, under some confounder; its kvno is
-- ignored
abbrev pub IsSealedPart : Key → ℕ → EncryptedData → List ℕ → Type 0
IsSealedPart key usage part plain =
    (part.etype ≡ number_of (etype_of key)) × IsSealed key usage part.cipher plain

-- the record that a text spells, or a fault
abbrev pub Reads : {X F : Type 0} (shape : Shape) → (X → Value shape) → List ℕ → F
    → Result X F → Type 0
Reads shape value text fault = Found (λ x. Spells shape text (value x)) fault Passed

-- the plain text of a part, or a fault
abbrev pub Unseals : {F : Type 0} → Key → ℕ → EncryptedData → F → Result (List ℕ) F → Type 0
Unseals key usage part fault = Found (IsSealedPart key usage part) fault Passed

-- the record that the plain text of a part spells; one fault where there is no plain text, another where it spells no
-- record
abbrev pub OpensPart : {X F : Type 0} (shape : Shape) → (X → Value shape)
    → Key → (usage : ℕ) → EncryptedData → (sealed_otherwise spelled_otherwise : F)
    → Result X F → Type 0
OpensPart shape value key usage part sealed_otherwise spelled_otherwise =
    Then (Unseals key usage part sealed_otherwise) (λ plain.
    Reads shape value plain spelled_otherwise)

-- the part that is made from a plain text
abbrev pub sealed_part : Key → ℕ → Option ℕ → List ℕ → List ℕ → EncryptedData
sealed_part key usage kvno confounder plain = record {
  etype = number_of (etype_of key);
  kvno = kvno;
  cipher = sealed key usage confounder plain;
}
