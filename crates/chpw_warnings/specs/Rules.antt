-- The rules of a configuration that may not mean what was meant, and all that it is warned of.
use Rattle.std.specs.Prelude.{ℕ, suc, Bool, ◌==◌, List, [], ◌∷◌, ◌++◌, Option, Some, None, if◌then◌else◌}
use Rattle.std.specs.List.{list_any}
use Rattle.chpw_rules.specs.declared.config.Config.{Config}
use Rattle.chpw_rules.specs.declared.config.PrincipalRow.{PrincipalRow}
use Rattle.chpw_rules.specs.declared.name.Name.{Name}
use Rattle.chpw_rules.specs.declared.rules.Rule.{Rule}
use Rattle.chpw_rules.specs.Names.{is_same_name}
use Rattle.chpw_warnings.specs.declared.warning.Doubt.{Doubt}
use Rattle.chpw_warnings.specs.declared.warning.Doubt.TheVariants.{Realm, Unknown}
use Rattle.chpw_warnings.specs.declared.warning.Party.{Party}
use Rattle.chpw_warnings.specs.declared.warning.Party.TheVariants.{Actor, Target}
use Rattle.chpw_warnings.specs.declared.warning.Warning.{Warning}
use Rattle.chpw_warnings.specs.declared.warning.Warning.TheVariants.{Named, Everybody}
use Rattle.chpw_warnings.specs.Settings.{setting_warnings}

-- one of these principals has this name
abbrev pub is_listed : List PrincipalRow → Name → Bool
is_listed principals name = list_any (λ row. is_same_name name row.name) principals

-- a component has an `@` (64)
abbrev pub part_has_at : List ℕ → Bool
part_has_at part = list_any (λ byte. byte == 64) part

abbrev pub has_at : Name → Bool
has_at name = list_any part_has_at name.parts

-- why a name may be a mistake
abbrev pub doubt_of : (is_known : Name → Bool) → Name → Option Doubt
doubt_of is_known name = if has_at name then Some Realm else if is_known name then None else Some Unknown

abbrev pub if_doubted : ℕ → Party → Name → Option Doubt → List Warning
if_doubted rule party name None = []
if_doubted rule party name (Some doubt) = Named rule party name doubt ∷ []

abbrev pub of_name : (Name → Bool) → ℕ → Party → Name → List Warning
of_name is_known rule party name = if_doubted rule party name (doubt_of is_known name)

-- a target, and everybody
abbrev pub of_target : (Name → Bool) → ℕ → (actor : Name) → Option Name → List Warning
of_target is_known rule actor None = Everybody rule actor ∷ []
of_target is_known rule actor (Some target) = of_name is_known rule Target target

abbrev pub of_rule : (Name → Bool) → ℕ → Rule → List Warning
of_rule is_known number rule = of_name is_known number Actor rule.actor ++ of_target is_known number rule.actor rule.target

-- rules with their numbers, from this one on
abbrev pub rule_warnings : (Name → Bool) → ℕ → List Rule → List Warning
rule_warnings is_known number [] = []
rule_warnings is_known number (rule ∷ rules) = of_rule is_known number rule ++ rule_warnings is_known (suc number) rules

-- a configuration that this text sets
abbrev pub config_warnings : List ℕ → Config → List Warning
config_warnings text config = setting_warnings text ++ rule_warnings (is_listed config.principals) 1 config.rules.list
