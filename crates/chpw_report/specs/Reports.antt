-- The report of the principals that a table holds: a text for each, in the order of their names.
use Rattle.std.specs.Prelude.{ℕ, List, [], ◌++◌, length, codes}
use Rattle.std.specs.List.{flat_map}
use Rattle.std.specs.Option.{option_map_or}
use Rattle.std.specs.Fmt.{decimal}
use Rattle.hex.specs.Hex.{encode_lower}
use Rattle.chpw_rules.specs.declared.name.Name.{Name}
use Rattle.chpw_printing.specs.Quoting.{name_text, number_text, principal_text, quoted}
use Rattle.chpw_record.specs.declared.key.KeyRow.{KeyRow}
use Rattle.chpw_table.specs.declared.table.Lookup.{Lookup}
use Rattle.chpw_table.specs.State.{keys_held}
use Rattle.chpw_table.specs.Agreement.{Held}
use Rattle.chpw_table.specs.Lookups.{lookup_of}
use Rattle.chpw_report.specs.Configurations.{names_of}
use Rattle.chpw_report.specs.declared.form.Form.{Form}
use Rattle.chpw_report.specs.declared.form.Form.TheVariants.{Lines, Keys}

-- ---- a line for a person: `alice kvno 3 counts 4096 4096`

abbrev pub shown_line : Name → Lookup → List ℕ
shown_line name shown =
    name_text name ++ codes " kvno " ++ decimal shown.kvno
    ++ codes " counts" ++ flat_map number_text shown.held ++ codes "\n"

-- ---- lines for a KDC's tools, a line for each key: principal, kvno, etype, iterations, key, salt

-- the default salt (RFC 4120 section 4): the realm, then the name's components
abbrev pub salt_text : List ℕ → Name → List ℕ
salt_text realm name = quoted (realm ++ flat_map (λ (part : List ℕ). part) name.parts)

abbrev pub key_line : List ℕ → List ℕ → ℕ → ℕ → ℕ → List ℕ → List ℕ
key_line principal salt kvno etype count key =
    principal ++ number_text kvno ++ number_text etype ++ number_text count
    ++ codes " " ++ encode_lower key ++ codes " " ++ salt ++ codes "\n"

-- both keys of a version (etypes 18 and 17, RFC 3962 section 7)
abbrev pub row_lines : List ℕ → List ℕ → KeyRow → List ℕ
row_lines principal salt row =
    key_line principal salt row.kvno 18 row.count row.aes256
    ++ key_line principal salt row.kvno 17 row.count row.aes128

abbrev pub keys_lines : List ℕ → Name → List KeyRow → List ℕ
keys_lines realm name rows = flat_map (row_lines (principal_text realm name) (salt_text realm name)) rows

-- ---- the whole

abbrev pub told_of : Form → List ℕ → Held → Name → List ℕ
told_of Lines realm t name = option_map_or (shown_line name) (lookup_of t name) []
told_of Keys realm t name = option_map_or (keys_lines realm name) (keys_held t.state name) []

-- after the lines for a person: how many principals there are, and how many changes a journal had
abbrev pub end_of : Form → ℕ → ℕ → List ℕ
end_of Lines principals changes =
    codes "principals " ++ decimal principals ++ codes " changes " ++ decimal changes ++ codes "\n"
end_of Keys principals changes = []

abbrev pub report : Form → List ℕ → Held → ℕ → List ℕ
report form realm t changes =
    flat_map (told_of form realm t) (names_of t.state) ++ end_of form (length (names_of t.state)) changes
