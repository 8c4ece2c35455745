-- The settings of a configuration's file that nothing reads.
use Rattle.std.specs.Prelude.{ℕ, suc, Bool, ◌||◌, List, [], ◌∷◌, ◌++◌, codes, bytes_eq, Option, Some, None, if◌then◌else◌}
use Rattle.toml.specs.Data.{Data, Items, no_items, item, Members, no_members, member, as_array, as_table, get_member}
use Rattle.toml.specs.Parse.{parse_document}
use Rattle.chpw_warnings.specs.declared.settings.Listed.{Listed}
use Rattle.chpw_warnings.specs.declared.settings.Listed.TheVariants.{ServiceKeys, Rules, KeysOf}
use Rattle.chpw_warnings.specs.declared.warning.Place.{Place}
use Rattle.chpw_warnings.specs.declared.warning.Place.TheVariants.{File, Service, ServiceKey, Policy, Rule, Principal, PrincipalKey, Kdc}
use Rattle.chpw_warnings.specs.declared.warning.Warning.{Warning}
use Rattle.chpw_warnings.specs.declared.warning.Warning.TheVariants.{Unread}

-- the settings that are read, of each table
abbrev pub reads : Place → List ℕ → Bool
reads File key =
    bytes_eq key (codes "service") || bytes_eq key (codes "policy") || bytes_eq key (codes "rule")
    || bytes_eq key (codes "principal") || bytes_eq key (codes "kdc")
reads Service key = bytes_eq key (codes "realm") || bytes_eq key (codes "max_entries") || bytes_eq key (codes "key")
reads (ServiceKey _) key = bytes_eq key (codes "kvno") || bytes_eq key (codes "etype") || bytes_eq key (codes "key")
reads Policy key =
    bytes_eq key (codes "min_length") || bytes_eq key (codes "min_classes") || bytes_eq key (codes "depth")
    || bytes_eq key (codes "iterations") || bytes_eq key (codes "set_needs_initial")
reads (Rule _) key = bytes_eq key (codes "actor") || bytes_eq key (codes "target")
reads (Principal _) key = bytes_eq key (codes "name") || bytes_eq key (codes "key")
reads (PrincipalKey _ _) key =
    bytes_eq key (codes "kvno") || bytes_eq key (codes "iterations") || bytes_eq key (codes "aes128")
    || bytes_eq key (codes "aes256")
reads Kdc key = bytes_eq key (codes "include") || bytes_eq key (codes "exclude")

-- those of a table that aren't
abbrev pub unread : Place → Members → List Warning
unread place no_members = []
unread place (member key value members) =
    if reads place key then unread place members else Unread place key ∷ unread place members

-- ---- tables and lists, where there are any

abbrev pub members_in : Option Members → Members
members_in None = no_members
members_in (Some members) = members

abbrev pub table_in : Option Data → Members
table_in None = no_members
table_in (Some value) = members_in (as_table value)

abbrev pub items_of_array : Option Items → Items
items_of_array None = no_items
items_of_array (Some items) = items

abbrev pub items_in : Option Data → Items
items_in None = no_items
items_in (Some value) = items_of_array (as_array value)

abbrev pub within : List ℕ → Option Data → Option Data
within key table = get_member key (table_in table)

-- ---- the file

abbrev pub in_table : Place → Option Data → List Warning
in_table place table = unread place (table_in table)

-- the element of this number, from 1
abbrev pub at : Listed → ℕ → Place
at ServiceKeys number = ServiceKey number
at Rules number = Rule number
at (KeysOf principal) number = PrincipalKey principal number

abbrev pub in_list : Listed → ℕ → Items → List Warning
in_list listed number no_items = []
in_list listed number (item value items) =
    in_table (at listed number) (Some value) ++ in_list listed (suc number) items

-- a principal, followed by its keys
abbrev pub principal_warnings : ℕ → Data → List Warning
principal_warnings number value =
    in_table (Principal number) (Some value) ++ in_list (KeysOf number) 1 (items_in (within (codes "key") (Some value)))

abbrev pub principals_warnings : ℕ → Items → List Warning
principals_warnings number no_items = []
principals_warnings number (item value items) =
    principal_warnings number value ++ principals_warnings (suc number) items

abbrev pub file_warnings : Members → List Warning
file_warnings file =
    let service = get_member (codes "service") file in
    unread File file
    ++ in_table Service service
    ++ in_list ServiceKeys 1 (items_in (within (codes "key") service))
    ++ in_table Policy (get_member (codes "policy") file)
    ++ in_list Rules 1 (items_in (get_member (codes "rule") file))
    ++ principals_warnings 1 (items_in (get_member (codes "principal") file))
    ++ in_table Kdc (get_member (codes "kdc") file)

abbrev pub of_document : Option Members → List Warning
of_document None = []
of_document (Some file) = file_warnings file

abbrev pub setting_warnings : List ℕ → List Warning
setting_warnings text = of_document (parse_document text)
