-- What is made of a part's record is unsealed and spelled.
use Rattle.std.proofs.Common.{◌≡◌, rules, ℕ, ◌<◌, List, ◌∷◌, length, inl, inr, refl, subst, sym, true, arith, length-append, Ok}
use Rattle.krb_keys.specs.Keys.{etype_of, number_of}
use Rattle.krb_keys.specs.declared.key.Key.{Key}
use Rattle.krb_keys.specs.declared.key.Key.TheVariants.{Aes128, Aes256}
use Rattle.krb_codec.specs.Shapes.{Shape, Value, primitive, tagged}
use Rattle.krb_codec.specs.Texts.{element, length_octets, text, fits}
use Rattle.krb_codec.specs.Grammar.{is_element, is_legal}
use Rattle.krb_codec.proofs.TextLemmas.{text_spells}
use Rattle.krb_der.specs.declared.encrypted_data.EncryptedData.{EncryptedData}
use Rattle.krb_msgs.specs.Checks.{of_one, goes_on}
use Rattle.krb_msgs.specs.Parts.{IsSealedPart, OpensPart, Reads, sealed_part}
use Rattle.krb_msgs.specs.Presented.{IsKnownEtype}
use Rattle.krb_msgs.specs.Laws.{Seals}

some_element : (tag : ℕ) (content : List ℕ) → 0 < length (element tag content)
unfolding element
some_element tag content =
    omega (arith, length-append (tag ∷ length_octets (length content)) content)

-- an element isn't empty
pub some_text : (s : Shape) (v : Value s) → is_element s ≡ true → 0 < length (text s v)
some_text (primitive kind) v h = some_element _ _
some_text (tagged tag s) v h = some_element tag (text s v)
some_text s v h = absurd (search (rules, h))

-- a record is read from its text
pub reads_text : {X F : Type 0} (s : Shape) (view : X → Value s) (x : X) (fault : F)
    → is_legal s ≡ true → fits s (view x) ≡ true → Reads s view (text s (view x)) fault (Ok x)
reads_text s view x fault legal fit = of_one x (text_spells s legal (view x) fit) refl

-- a part that seals a record's text opens to the record
pub opens_sealed : {X F : Type 0} (key : Key) (usage : ℕ) (part : EncryptedData) (s : Shape)
    (view : X → Value s) (x : X) (fault other : F) → is_legal s ≡ true → is_element s ≡ true
    → Seals key usage part s (view x) → OpensPart s view key usage part fault other (Ok x)
opens_sealed key usage part s view x fault other legal one (confounder, kvno, c16, cb, fit, pb, is) =
    let sealed : IsSealedPart key usage (sealed_part key usage kvno confounder (text s (view x))) (text s (view x)) =
    (refl, (confounder, c16, some_text s (view x) one, cb, pb, refl)) in
    goes_on (text s (view x))
    (of_one (text s (view x)) (subst (λ (p : EncryptedData). IsSealedPart key usage p (text s (view x))) (sym is) sealed) refl)
    (reads_text s view x other legal fit)

-- a key's encryption type is 17 or 18
known_of : (key : Key) → IsKnownEtype (number_of (etype_of key))
known_of (Aes128 bytes) = inl refl
known_of (Aes256 bytes) = inr refl

pub known_etype : (key : Key) (usage : ℕ) (part : EncryptedData) (s : Shape) (v : Value s)
    → Seals key usage part s v → IsKnownEtype part.etype
known_etype key usage part s v (confounder, kvno, c16, cb, fit, pb, is) =
    subst (λ (x : EncryptedData). IsKnownEtype x.etype) (sym is) (known_of key)
