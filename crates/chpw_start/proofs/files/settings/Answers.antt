use Rattle.std.proofs.Common.{Err, ap, inl, inr, subst}
use Rattle.chpw_config.specs.Faults.{UnlessMemory}
use Rattle.chpw_config.specs.Settings.{settings_of}
use Rattle.chpw_config.specs.declared.fault.ConfigError.{ConfigError}
use Rattle.chpw_config.specs.declared.fault.ConfigError.TheVariants.{Fault}
use Rattle.chpw_start.proofs.files.settings.Goals as goal

pub returns-in_default-clause-fault : goal.returns-in_default-clause-fault
returns-in_default-clause-fault c = inr (c.in_default.ensures.cases.0, ap Err c.not_toml.ensures.value)

pub returns-in-Ok-read_config-clause-value : goal.returns-in-Ok-read_config-clause-value
returns-in-Ok-read_config-clause-value c =
    inl (c.in-Ok.ensures.cases.1, rw (← c.in-Ok.ensures.cases.0) c.in-Ok-read_config.ensures.value)

pub returns-in-Err-Fault-clause-fault : goal.returns-in-Err-Fault-clause-fault
returns-in-Err-Fault-clause-fault c =
    let said : UnlessMemory (Err (Fault c.in-Err-Fault.fault)) (settings_of c.in-Ok.text.now) =
    subst (λ (e : ConfigError). UnlessMemory (Err e) (settings_of c.in-Ok.text.now)) c.in-Err-Fault.field-0-is c.in-Err-Fault.ensures.value in
    inl (c.in-Ok.ensures.cases.1, rw (← c.in-Ok.ensures.cases.0) said)
