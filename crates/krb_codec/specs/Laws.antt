-- Laws of the grammar alone.
use Rattle.std.specs.Prelude.{◌≡◌, ℕ, ◌<◌, true, List, [], ◌∷◌, ◌++◌, length, slice_index, Some, None, Err, pos, ◌≤◌, ◌≤ℤ◌}
use Rattle.std.specs.List.{AllByRecursion}
use Rattle.krb_codec.specs.Integers.{signed}
use Rattle.krb_codec.specs.Shapes.{Primitive, integer, sequence_number, octets, bits, time, Shape}
use Rattle.krb_codec.specs.Shapes.{primitive, tagged, many, further, nothing, field, option, Value}
use Rattle.krb_codec.specs.Texts.{text, fits}
use Rattle.krb_codec.specs.declared.fault.DerFault.{DerFault}
use Rattle.krb_codec.specs.Reading.{reads_all}
use Rattle.krb_codec.specs.Grammar.{AreInTurn, Spells, is_legal}

-- the text that is written for a value spells it
abbrev pub TextSpells : Type 0
TextSpells = (s : Shape) → is_legal s ≡ true → (v : Value s) → fits s v ≡ true → Spells s (text s v) v

-- a text spells one value
abbrev pub OneValue : Type 0
OneValue = (s : Shape) → is_legal s ≡ true → (bytes : List ℕ) (v w : Value s)
    → Spells s bytes v → Spells s bytes w → v ≡ w

-- ---- unusual spellings

-- contents in the form that is written: no negative sequence number, and 32 flags with no unused
-- bits
abbrev pub IsUsualContent : Primitive → List ℕ → Type 0
IsUsualContent (integer low high) content = Unit {0}
IsUsualContent sequence_number content = pos 0 ≤ℤ signed content
IsUsualContent (octets tag) content = Unit {0}
IsUsualContent bits content = (length content ≡ 5) × (slice_index content 0 ≡ 0)
IsUsualContent time content = Unit {0}

abbrev pub AreUsual : {A : Type 0} (spells : List ℕ → A → Type 0) → ((text : List ℕ) (v : A) → spells text v → Type 0)
    → (text : List ℕ) (vs : List A) → AreInTurn spells text vs → Type 0
AreUsual spells usual text [] h = Unit {0}
AreUsual spells usual text (v ∷ vs) h = usual h.0 v h.3 × AreUsual spells usual h.1 vs h.4

-- a spelling whose contents are all in that form, with no further elements
abbrev pub IsUsual : (s : Shape) (text : List ℕ) (v : Value s) → Spells s text v → Type 0
IsUsual (primitive kind) text v h = IsUsualContent kind h.0
IsUsual (tagged tag s) text v h = IsUsual s h.0 v h.2
IsUsual (many item) text vs h = AreUsual (Spells item) (IsUsual item) text vs h
IsUsual (further low high) text v h = h.0 ≡ []
IsUsual nothing text v h = Unit {0}
IsUsual (field first rest) text v h = IsUsual first h.0 v.0 h.3 × IsUsual rest h.1 v.1 h.4
IsUsual (option tag first rest) text (None, w) h = IsUsual rest text w h
IsUsual (option tag first rest) text (Some v, w) h = IsUsual first h.3.0 v h.3.2 × IsUsual rest h.1 w h.4

-- a value has one regular spelling, its text; other spellings have a negative sequence number, a BIT
-- STRING of another length, or further elements
abbrev pub OneText : Type 0
OneText = (s : Shape) → is_legal s ≡ true → (bytes : List ℕ) (v : Value s) (h : Spells s bytes v)
    → IsUsual s bytes v h → AllByRecursion (λ b. b < 256) bytes → bytes ≡ text s v

-- no spelling is a proper prefix of another one of its shape
abbrev pub NoPrefix : Type 0
NoPrefix = (s : Shape) → is_legal s ≡ true → (bytes more : List ℕ) (v w : Value s)
    → Spells s bytes v → Spells s (bytes ++ more) w → more ≡ []

-- the first fault is within the text, or at its end
abbrev pub FaultsWithin : Type 0
FaultsWithin = (s : Shape) (bytes : List ℕ) (f : DerFault)
    → reads_all s bytes ≡ Err f → f.place ≤ length bytes
