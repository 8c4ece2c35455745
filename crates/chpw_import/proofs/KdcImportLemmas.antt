-- What is imported of an answer, and the faults of `import --kdc`.
use Rattle.std.proofs.Common.{◌≡◌, ◌⊎◌, inl, inr, ℕ, List, [], ◌++◌, ◌∙◌, ap, Option, Some, None, option_map, take, IfSome, Bool, true, false, refl}
use Rattle.std.proofs.lemmas.Str.{IsUtf8-from_is_utf8, is_utf8-from_IsUtf8}
use Rattle.std.specs.Str.{IsUtf8, is_utf8}
use Rattle.chpw_rules.specs.declared.pattern.NamePatterns.{NamePatterns}
use Rattle.chpw_invocation.specs.declared.invocation.KdcOptions.{KdcOptions}
use Rattle.chpw_import.specs.declared.fault.KeysFault.{KeysFault}
use Rattle.chpw_import.specs.declared.fault.KeysFault.TheVariants.{NoPrincipal}
use Rattle.chpw_import.specs.declared.kdc.choosing.KdcImport.{KdcImport}
use Rattle.chpw_import.specs.Faults.{IsLate}
use Rattle.chpw_import.specs.KdcChoices.{choice_of}
use Rattle.chpw_import.specs.KdcFaults.{Heard, IsHeard, IsNone, IsOfKdc, IsOfList, IsUnheard}

-- none of the principals is imported
none_imported : (o : KdcOptions) (patterns : NamePatterns) (bytes : List ℕ) (import : KdcImport) (fault : KeysFault)
    → Heard o patterns bytes (choice_of import) → IsNone o.socket.now import fault → IsOfList o patterns bytes fault
none_imported o patterns bytes import (NoPrincipal socket) heard none = (none.0, (choice_of import, heard, none.1))
none_imported o patterns bytes import fault heard none = absurd none

-- a fault once the answer is read
pub late_fault : (o : KdcOptions) (patterns : NamePatterns) (answer : Option (List ℕ)) (bytes : List ℕ) (import : KdcImport) (fault : KeysFault)
    → IsHeard answer bytes → Heard o patterns bytes (choice_of import) → IsNone o.socket.now import fault ⊎ IsLate fault
    → IsUnheard o.socket.now fault ⊎ (((bytes : List ℕ) × IsHeard answer bytes × IsOfList o patterns bytes fault) ⊎ IsLate fault)
late_fault o patterns answer bytes import fault is heard (inl none) =
    inr (inl (bytes, is, none_imported o patterns bytes import fault heard none))
late_fault o patterns answer bytes import fault is heard (inr late) = inr (inr late)

-- a fault of the whole command
pub kdc_fault : (o : KdcOptions) (patterns : NamePatterns) (answer : Option (List ℕ)) (fault : KeysFault)
    → IsUnheard o.socket.now fault ⊎ (((bytes : List ℕ) × IsHeard answer bytes × IsOfList o patterns bytes fault) ⊎ IsLate fault)
    → IsOfKdc o fault
kdc_fault o patterns answer fault (inl unheard) = inr (inr (inl unheard))
kdc_fault o patterns answer fault (inr (inl (bytes, is, of))) = inr (inr (inr (inl (patterns, bytes, of))))
kdc_fault o patterns answer fault (inr (inr late)) = inr (inr (inr (inr late)))

-- what is read of bytes up to a limit
pub taken : (o : Option (List ℕ)) (n : ℕ) (before items : List ℕ) → before ≡ []
    → IfSome (option_map (take n) o) (λ xs. items ≡ before ++ xs) → IfSome o (λ all. items ≡ take n all)
taken None n before items e h = tt
taken (Some all) n before items e h = h ∙ ap (λ (l : List ℕ). l ++ take n all) e

-- ---- UTF-8 as a test

false_unless : (b : Bool) → ¬ (b ≡ true) → b ≡ false
false_unless true h = absurd (h refl)
false_unless false h = refl

pub utf8_no : (bytes : List ℕ) → ¬ (IsUtf8 bytes) → is_utf8 bytes ≡ false
utf8_no bytes h = false_unless (is_utf8 bytes) (λ e. h (IsUtf8-from_is_utf8 bytes e))

pub utf8_yes : (bytes : List ℕ) → IsUtf8 bytes → is_utf8 bytes ≡ true
utf8_yes bytes h = is_utf8-from_IsUtf8 bytes h
