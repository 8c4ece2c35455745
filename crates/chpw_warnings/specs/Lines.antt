-- Warnings as they are printed.
use Rattle.std.specs.Prelude.{ℕ, List, [], ◌∷◌, ◌++◌, codes}
use Rattle.std.specs.Fmt.{decimal}
use Rattle.chpw_rules.specs.declared.name.Name.{Name}
use Rattle.chpw_printing.specs.Quoting.{name_text as printed_name, quoted}
use Rattle.chpw_warnings.specs.declared.warning.Doubt.{Doubt}
use Rattle.chpw_warnings.specs.declared.warning.Doubt.TheVariants.{Realm, Unknown}
use Rattle.chpw_warnings.specs.declared.warning.Party.{Party}
use Rattle.chpw_warnings.specs.declared.warning.Party.TheVariants.{Actor, Target}
use Rattle.chpw_warnings.specs.declared.warning.Place.{Place}
use Rattle.chpw_warnings.specs.declared.warning.Place.TheVariants.{File, Service, ServiceKey, Policy, Rule, Principal, PrincipalKey, Kdc}
use Rattle.chpw_warnings.specs.declared.warning.Warning.{Warning}
use Rattle.chpw_warnings.specs.declared.warning.Warning.TheVariants.{Unread, Named, Everybody}

-- in the words of a configuration's faults
abbrev pub place_text : Place → List ℕ
place_text File = codes "the file"
place_text Service = codes "[service]"
place_text (ServiceKey n) = codes "service key " ++ decimal n
place_text Policy = codes "[policy]"
place_text (Rule n) = codes "rule " ++ decimal n
place_text (Principal n) = codes "principal " ++ decimal n
place_text (PrincipalKey n k) = codes "principal " ++ decimal n ++ codes ", key " ++ decimal k
place_text Kdc = codes "[kdc]"

abbrev pub party_word : Party → List ℕ
party_word Actor = codes "actor"
party_word Target = codes "target"

abbrev pub doubt_words : Doubt → List ℕ
doubt_words Realm = codes " has an @: names here have no realm"
doubt_words Unknown = codes ": no such principal yet"

abbrev pub name_text : Party → Name → Doubt → List ℕ
name_text party name doubt = codes ": " ++ party_word party ++ codes " " ++ printed_name name ++ doubt_words doubt

abbrev pub unread_text : Place → List ℕ → List ℕ
unread_text place key = place_text place ++ codes ": nothing reads " ++ quoted key

abbrev pub everybody_text : Name → List ℕ
everybody_text actor = codes ": " ++ printed_name actor ++ codes " may set everybody's password"

abbrev pub warning_text : Warning → List ℕ
warning_text (Unread place key) = unread_text place key
warning_text (Named rule party name doubt) = place_text (Rule rule) ++ name_text party name doubt
warning_text (Everybody rule actor) = place_text (Rule rule) ++ everybody_text actor

-- a line for each, behind the file's name
abbrev pub file_lines : List ℕ → List Warning → List ℕ
file_lines file [] = []
file_lines file (warning ∷ warnings) = file ++ codes ": " ++ warning_text warning ++ codes "\n" ++ file_lines file warnings
