-- Which bytes spell which value (X.690 section 8.1; RFC 4120 section 5), by cases on whole texts.
use Rattle.std.specs.Prelude.{◌≡◌, ℕ, ◌+◌, ◌<◌, ◌≤◌, Bool, true, false, not, ◌&&◌, ◌==◌, List, [], ◌∷◌, ◌++◌, length, Option, Some, None, nat_le, pos, negsuc}
use Rattle.krb_codec.specs.Integers.{number, IsInteger, IsSequenceNumber}
use Rattle.krb_codec.specs.BitStrings.{IsBits}
use Rattle.krb_codec.specs.Times.{IsTime}
use Rattle.krb_codec.specs.Shapes.{Primitive, integer, sequence_number, octets, bits, time, Shape, primitive, tagged}
use Rattle.krb_codec.specs.Shapes.{many, further, nothing, field, option, Meaning, Value, is_between, tag_of}

-- A length below 128 is one byte. A longer one follows a byte that counts its bytes, at most four of them, the first
-- not 0 (sections 8.1.3 and 10.1).
abbrev pub IsLength : List ℕ → ℕ → Type 0
IsLength [] n = ⊥
IsLength (b ∷ []) n = (b < 128) × (n ≡ b)
IsLength (b ∷ c ∷ bytes) n =
    (b ≡ 128 + length (c ∷ bytes)) × (length (c ∷ bytes) ≤ 4) × (0 < c) × (128 ≤ n) × (n ≡ number (c ∷ bytes))

-- a tag, the length of the contents, the contents
abbrev pub IsElement : ℕ → List ℕ → List ℕ → Type 0
IsElement tag content text =
    (octets : List ℕ) × IsLength octets (length content) × (text ≡ tag ∷ octets ++ content)

abbrev pub IsMeaning : (kind : Primitive) → List ℕ → Meaning kind → Type 0
IsMeaning (integer low high) content n = IsInteger low high content n
IsMeaning sequence_number content n = IsSequenceNumber content n
IsMeaning (octets tag) content bytes = content ≡ bytes
IsMeaning bits content n = IsBits content n
IsMeaning time content t = IsTime content t

-- texts one after the other
abbrev pub AreInTurn : {A : Type 0} → (List ℕ → A → Type 0) → List ℕ → List A → Type 0
AreInTurn spells text [] = text ≡ []
AreInTurn spells text (v ∷ vs) =
    (one others : List ℕ) × (text ≡ one ++ others) × spells one v × AreInTurn spells others vs

-- an element with one of some tags: its tag and contents
abbrev pub IsFurther : ℕ → ℕ → List ℕ → ℕ × List ℕ → Type 0
IsFurther low high text e = (low ≤ e.0) × (e.0 ≤ high) × IsElement e.0 e.1 text

abbrev pub IsOptional : {A B : Type 0} → (List ℕ → A → Type 0) → (List ℕ → B → Type 0) → List ℕ → Option A → B → Type 0
IsOptional spells rest text None w = rest text w
IsOptional spells rest text (Some v) w =
    (one others : List ℕ) × (text ≡ one ++ others) × spells one v × rest others w

abbrev pub Spells : (s : Shape) → List ℕ → Value s → Type 0
Spells (primitive kind) text v =
    (content : List ℕ) × IsElement (tag_of kind) content text × IsMeaning kind content v
Spells (tagged tag s) text v = (content : List ℕ) × IsElement tag content text × Spells s content v
Spells (many item) text vs = AreInTurn (Spells item) text vs
Spells (further low high) text v =
    (elements : List (ℕ × List ℕ)) × AreInTurn (IsFurther low high) text elements
Spells nothing text v = text ≡ []
Spells (field first rest) text v =
    (one others : List ℕ) × (text ≡ one ++ others) × Spells first one v.0 × Spells rest others v.1
Spells (option tag first rest) text v =
    IsOptional (λ one w. (content : List ℕ) × IsElement tag content one × Spells first content w) (Spells rest) text v.0 v.1

-- ---- which shapes can be distinguished

-- whether it is one element
abbrev pub is_element : Shape → Bool
is_element (primitive kind) = true
is_element (tagged tag content) = true
is_element (many item) = false
is_element (further low high) = false
is_element nothing = false
is_element (field first rest) = false
is_element (option tag first rest) = false

-- no text of that shape begins with that tag
abbrev pub is_apart : ℕ → Shape → Bool
is_apart tag (primitive kind) = not (tag_of kind == tag)
is_apart tag (tagged other s) = not (other == tag)
is_apart tag (many item) = is_apart tag item
is_apart tag (further low high) = not (nat_le low tag && nat_le tag high)
is_apart tag nothing = true
is_apart tag (field first rest) = is_apart tag first
is_apart tag (option other first rest) = not (other == tag) && is_apart tag rest

-- the bounds of its numbers fit 64 bits
abbrev pub is_bounded : Primitive → Bool
is_bounded (integer low high) =
    is_between (negsuc 9223372036854775807) (pos 9223372036854775807) low
    && is_between (negsuc 9223372036854775807) (pos 9223372036854775807) high
is_bounded sequence_number = true
is_bounded (octets tag) = true
is_bounded bits = true
is_bounded time = true

-- an optional field can be distinguished from what follows it
abbrev pub is_clear : Shape → Bool
is_clear (primitive kind) = is_bounded kind
is_clear (tagged tag s) = is_clear s
is_clear (many item) = is_element item && is_clear item
is_clear (further low high) = true
is_clear nothing = true
is_clear (field first rest) = is_element first && is_clear first && is_clear rest
is_clear (option tag first rest) = is_clear first && is_clear rest && is_apart tag rest

-- whether it is one element, whose optional fields can be distinguished
abbrev pub is_legal : Shape → Bool
is_legal s = is_element s && is_clear s
