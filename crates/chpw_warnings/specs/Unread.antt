-- What is warned of as unread is read by nothing: a table sets the same whatever else stands in it.
use Rattle.std.specs.Prelude.{◌≡◌, ℕ, true, List, codes, Some}
use Rattle.toml.specs.Data.{Members, get_member, table}
use Rattle.chpw_rules.specs.declared.config.KeyBytes.{KeyBytes}
use Rattle.chpw_rules.specs.declared.config.PrincipalRow.{PrincipalRow}
use Rattle.chpw_rules.specs.declared.config.ServiceRow.{ServiceRow}
use Rattle.chpw_rules.specs.declared.rules.Rule.{Rule as RuleOf}
use Rattle.chpw_config.specs.declared.fault.Location.{Location}
use Rattle.chpw_config.specs.Kdc.{kdc_of_table, kdc_table}
use Rattle.chpw_config.specs.Rows.{key_row, policy_of, principal_row, rule_row, service_row}
use Rattle.chpw_config.specs.Settings.{settings}
use Rattle.chpw_warnings.specs.declared.warning.Place.{Place}
use Rattle.chpw_warnings.specs.declared.warning.Place.TheVariants.{File, Service, ServiceKey, Policy, Rule, Principal, PrincipalKey, Kdc}
use Rattle.chpw_warnings.specs.Settings.{reads}

-- two tables at a place have the same of all that is read there
abbrev pub AreAlike : Place → Members → Members → Type 0
AreAlike place a b = (key : List ℕ) → reads place key ≡ true → get_member key a ≡ get_member key b

-- two files, which also may differ in what isn't read of [service]
pub record HaveAlike (a b : Members) : Type 0 where
  pub here : Members
  pub there : Members
  pub first : get_member (codes "service") a ≡ Some (table here)
  pub second : get_member (codes "service") b ≡ Some (table there)
  pub service : AreAlike Service here there
  pub policy : get_member (codes "policy") a ≡ get_member (codes "policy") b
  pub rule : get_member (codes "rule") a ≡ get_member (codes "rule") b
  pub principal : get_member (codes "principal") a ≡ get_member (codes "principal") b

abbrev pub FilesAreRead : Type 0
FilesAreRead = (a b : Members) → AreAlike File a b
    → (settings a ≡ settings b) × (kdc_of_table (Some a) ≡ kdc_of_table (Some b))

abbrev pub ServicesAreRead : Type 0
ServicesAreRead = (a b : Members) → HaveAlike a b → settings a ≡ settings b

abbrev pub ServiceKeysAreRead : Type 0
ServiceKeysAreRead = (n : ℕ) (before : List ServiceRow) (a b : Members) → AreAlike (ServiceKey n) a b
    → service_row before (table a) ≡ service_row before (table b)

abbrev pub PoliciesAreRead : Type 0
PoliciesAreRead = (a b : Members) → AreAlike Policy a b → policy_of a ≡ policy_of b

abbrev pub RulesAreRead : Type 0
RulesAreRead = (n : ℕ) (before : List RuleOf) (a b : Members) → AreAlike (Rule n) a b
    → rule_row before (table a) ≡ rule_row before (table b)

abbrev pub PrincipalsAreRead : Type 0
PrincipalsAreRead = (n : ℕ) (before : List PrincipalRow) (a b : Members) → AreAlike (Principal n) a b
    → principal_row before (table a) ≡ principal_row before (table b)

abbrev pub KeysAreRead : Type 0
KeysAreRead = (n k : ℕ) (at : Location) (before : List KeyBytes) (a b : Members) → AreAlike (PrincipalKey n k) a b
    → key_row at before (table a) ≡ key_row at before (table b)

abbrev pub KdcsAreRead : Type 0
KdcsAreRead = (a b : Members) → AreAlike Kdc a b → kdc_table a ≡ kdc_table b
