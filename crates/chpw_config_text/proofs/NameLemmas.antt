-- A name is read as it is written.
use Rattle.std.proofs.Common.{◌≡◌, ◌∙◌, ℕ, Bool, true, false, not, ◌==◌, codes, List, [], ◌∷◌, Option, Some, None, Ok, refl, ap}
use Rattle.std.specs.List.{All, join_with_byte, list_all, list_any}
use Rattle.std.specs.Str.{bytes_eq, is_utf8}
use Rattle.std.proofs.lemmas.Bool.{and_parts, false≢true, not-true, or_parts}
use Rattle.std.proofs.lemmas.List.Elements.{All-cons, All-nil}
use Rattle.std.proofs.lemmas.List.Splits.{slice_split_none, slice_split_at}
use Rattle.chpw_rules.specs.declared.name.Name.{Name}
use Rattle.chpw_rules.specs.Fitting.{target_fits}
use Rattle.chpw_rules.specs.Names.{is_name, name_from, parts_of}
use Rattle.chpw_config.specs.Faults.{◌>>=◌}
use Rattle.chpw_config.specs.Kinds.{spelled_name, spelled_target}
use Rattle.chpw_config_text.specs.Tables.{target_text, text_of}
use Rattle.chpw_config_text.specs.Writable.{is_writable_name, is_writable_part, is_writable_target}

abbrev is_slash : ℕ → Bool
is_slash byte = byte == 47

-- no byte of the part is a `/`
no_slash : (part : List ℕ) → list_any is_slash part ≡ false → All (λ byte. is_slash byte ≡ false) part
no_slash [] none = All-nil (λ byte. is_slash byte ≡ false)
no_slash (byte ∷ part) none =
    let (here, rest) = or_parts (is_slash byte) (list_any is_slash part) none in
    All-cons (λ byte. is_slash byte ≡ false) byte part here (no_slash part rest)

one_part : (part : List ℕ) → is_writable_part part ≡ true → All (λ byte. is_slash byte ≡ false) part
one_part part writable =
    no_slash part (not-true (list_any is_slash part) (and_parts (is_utf8 part) (not (list_any is_slash part)) writable).1)

parts_of_joined : (first : List ℕ) (parts : List (List ℕ)) → list_all is_writable_part (first ∷ parts) ≡ true
    → parts_of (join_with_byte 47 (first ∷ parts)) ≡ first ∷ parts
parts_of_joined first [] writable =
    slice_split_none is_slash first (one_part first (and_parts (is_writable_part first) true writable).0)
parts_of_joined first (next ∷ parts) writable =
    let (here, rest) = and_parts (is_writable_part first) (list_all is_writable_part (next ∷ parts)) writable in
    slice_split_at is_slash first 47 (join_with_byte 47 (next ∷ parts)) (one_part first here) refl
    ∙ ap (λ ps. first ∷ ps) (parts_of_joined next parts rest)

parts_spelled : (parts : List (List ℕ)) → is_name (name_from parts) ≡ true → list_all is_writable_part parts ≡ true
    → spelled_name (join_with_byte 47 parts) ≡ Ok (name_from parts)
parts_spelled [] fits writable = absurd (false≢true fits)
parts_spelled (first ∷ parts) fits writable = rw (parts_of_joined first parts writable, fits)

pub name_spelled : (name : Name) → is_name name ≡ true → is_writable_name name ≡ true → spelled_name (text_of name) ≡ Ok name
name_spelled name fits writable = parts_spelled name.parts fits writable

pub target_spelled : (target : Option Name) → target_fits target ≡ true → is_writable_target target ≡ true
    → spelled_target (target_text target) ≡ Ok target
target_spelled None fits writable = refl
target_spelled (Some name) fits writable =
    let (named, other) = and_parts (is_writable_name name) (not (bytes_eq (text_of name) (codes "*"))) writable in
    let no_star : bytes_eq (text_of name) (codes "*") ≡ false = not-true (bytes_eq (text_of name) (codes "*")) other in
    rw no_star (ap (λ r. r >>= (λ name. Ok (Some name))) (name_spelled name fits named))
