-- Which configurations a file can set: those whose texts are UTF-8, whose names' components have no `/`, and without a
-- rule whose target is the name `*` alone, since that means everyone in a file.
use Rattle.std.specs.Prelude.{ℕ, Bool, true, false, not, ◌&&◌, ◌==◌, ◌≡◌, List, codes, bytes_eq, Option, Some, None, Result, Ok, Err}
use Rattle.std.specs.List.{list_all, list_any}
use Rattle.std.specs.Str.{is_utf8}
use Rattle.chpw_rules.specs.declared.name.Name.{Name}
use Rattle.chpw_rules.specs.declared.rules.Rule.{Rule}
use Rattle.chpw_rules.specs.declared.config.Config.{Config}
use Rattle.chpw_rules.specs.declared.config.PrincipalRow.{PrincipalRow}
use Rattle.chpw_config_text.specs.declared.fault.WriteFault.{WriteFault}
use Rattle.chpw_config_text.specs.declared.fault.WriteFault.TheVariants.{Unwritable, Memory}
use Rattle.chpw_config_text.specs.Tables.{text_of}

-- a component: a text without `/` (47)
abbrev pub is_writable_part : List ℕ → Bool
is_writable_part part = is_utf8 part && not (list_any (λ byte. byte == 47) part)

abbrev pub is_writable_name : Name → Bool
is_writable_name name = list_all is_writable_part name.parts

-- everyone, or a name other than `*`
abbrev pub is_writable_target : Option Name → Bool
is_writable_target None = true
is_writable_target (Some name) =
    is_writable_name name && not (bytes_eq (text_of name) (codes "*"))

abbrev pub is_writable_rule : Rule → Bool
is_writable_rule rule = is_writable_name rule.actor && is_writable_target rule.target

abbrev pub is_writable_principal : PrincipalRow → Bool
is_writable_principal row = is_writable_name row.name

abbrev pub is_writable : Config → Bool
is_writable config =
    is_utf8 config.realm
    && list_all is_writable_rule config.rules.list
    && list_all is_writable_principal config.principals

-- what can be written is written, and what can't is refused as such, unless memory runs out
abbrev pub JustWritable : {A : Type 0} → Result A WriteFault → Bool → Type 0
JustWritable (Ok _) writable = writable ≡ true
JustWritable (Err Unwritable) writable = writable ≡ false
JustWritable (Err Memory) writable = Unit {0}
