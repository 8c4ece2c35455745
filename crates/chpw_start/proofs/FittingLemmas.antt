-- A configuration that fits has a realm that a journal may begin with.
use Rattle.std.proofs.Common.{◌≡◌, Bool, true, false, ◌&&◌, length, refl}
use Rattle.chpw_rules.specs.declared.config.Config.{Config}
use Rattle.chpw_rules.specs.Fitting.{config_fits, service_fits, policy_fits, rules_fit, principals_fit}
use Rattle.chpw_rules.specs.Limits.{is_in, realm_lengths, entry_counts}

first : (a b s p r q : Bool) → (a && b && s && p && r && q) ≡ true → a ≡ true
first true b s p r q h = refl
first false b s p r q h = h

pub realm_fits : (c : Config) → config_fits c ≡ true → is_in realm_lengths (length c.realm) ≡ true
realm_fits c h =
    first (is_in realm_lengths (length c.realm)) (is_in entry_counts c.max_entries) (service_fits c.service) (policy_fits c.policy)
    (rules_fit c.rules.list) (principals_fit c.principals) h
