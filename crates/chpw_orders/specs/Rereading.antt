-- What a service reads of its files while it runs: for a reload, and for a compact journal.
use Rattle.std.specs.Prelude.{◌≡◌, ◌≢◌, ◌⊎◌, ℕ, Bool, List, [], ◌++◌, Option, IfSome, is_some, position, Ok, Err, if◌then◌else◌}
use Rattle.std.specs.Str.{is_utf8}
use Rattle.chpw_rules.specs.declared.config.Config.{Config}
use Rattle.chpw_config.specs.declared.fault.ConfigFault.{ConfigFault}
use Rattle.chpw_rules.specs.declared.name.Name.{Name}
use Rattle.chpw_rules.specs.Names.{is_same_name}
use Rattle.chpw_table.specs.Agreement.{Agrees, Held}
use Rattle.chpw_journal.specs.Headings.{heading}
use Rattle.chpw_table.specs.State.{State}
use Rattle.chpw_warnings.specs.declared.warning.Warning.{Warning}
use Rattle.chpw_warnings.specs.Rules.{rule_warnings}
use Rattle.chpw_warnings.specs.Settings.{setting_warnings}
use Rattle.chpw_report.specs.Held.{opening}
use Rattle.chpw_reload.specs.Reloading.{IsPrepared, IsUnprepared}
use Rattle.chpw_invocation.specs.declared.invocation.ServeOptions.{ServeOptions}
use Rattle.chpw_start.specs.Faults.{IsOfBytes, IsOfNames, IsUnread, Sets, SetsNames}
use Rattle.chpw_journal.specs.declared.explaining.Explanation.{Explanation}
use Rattle.chpw_journal.specs.declared.fault.RestoreFault.{RestoreFault}
use Rattle.chpw_journal.specs.Explaining.{explanation_text}
use Rattle.chpw_reload.specs.declared.fault.ReloadFault.{ReloadFault}
use Rattle.chpw_reload.specs.declared.fault.ReloadFault.TheVariants as reload_fault
use Rattle.chpw_start.specs.Explaining.{IsExplainedBy}
use Rattle.chpw_start.specs.declared.fault.ServeFault.{ServeFault}
use Rattle.chpw_start.specs.declared.fault.ServeFault.TheVariants.{Journal}
use Rattle.chpw_start.specs.Rules.{AreRulesOf}
use Rattle.chpw_start.specs.Telling.{IsOfText as IsOfTable}
use Rattle.chpw_orders.specs.declared.compacting.CompactFault.{CompactFault}
use Rattle.chpw_orders.specs.declared.compacting.CompactFault.TheVariants.{Unread, Changed, NoCopy}
use Rattle.chpw_orders.specs.declared.rereading.PendingReload.{PendingReload}
use Rattle.chpw_orders.specs.declared.rereading.PrepareFault.{PrepareFault}
use Rattle.chpw_orders.specs.declared.rereading.PrepareFault.TheVariants.{Start, Config as Unset, Reload}

-- ---- a reload

-- the table has a principal of this name
abbrev pub is_held : State → Name → Bool
is_held s name = is_some (position (λ p. is_same_name p.name name) s.principals)

-- the settings that nothing reads; bytes that are not UTF-8 have none
abbrev pub settings_in : List ℕ → List Warning
settings_in bytes = if is_utf8 bytes then setting_warnings bytes else []

-- what the configuration that these bytes set may not mean, beside the table that it and the journal give
abbrev pub reload_warnings : List ℕ → Config → State → List Warning
reload_warnings bytes config s = settings_in bytes ++ rule_warnings (is_held s) 1 config.rules.list

-- table and rules are those of one configuration, and the KDC's names and the warnings are those of its text
pub record IsReadAnew (options : ServeOptions) (p : PendingReload) : Type 0 where
  pub config : Config
  pub journal : Option (List ℕ)
  pub prepared : IsPrepared config journal p.renewed
  pub rules : AreRulesOf config options p.rules
  pub names : SetsNames p.rules.text.items (Ok p.names)
  pub warned : p.warnings.items ≡ reload_warnings p.rules.text.items p.renewed.settings p.renewed.table.state

-- the fault of these bytes of a configuration, or of what they say of the KDC's names
abbrev pub IsOfText : List ℕ → ServeFault → Type 0
IsOfText bytes fault = IsOfBytes bytes fault ⊎ IsOfNames bytes fault

-- the first fault that they have
abbrev pub HasFault : List ℕ → ConfigFault → Type 0
HasFault bytes fault = Sets bytes (Err fault) ⊎ SetsNames bytes (Err fault)

-- the fault of these bytes of a configuration, in words; or memory was refused
abbrev pub IsUnset : List ℕ → PrepareFault → Type 0
IsUnset bytes (Start fault) = IsOfText bytes fault
IsUnset bytes (Unset words) = (fault : ConfigFault) × HasFault bytes fault
IsUnset bytes (Reload fault told) = ⊥

-- what a journal says at this fault over the configuration that these bytes set
abbrev pub IsTold : List ℕ → RestoreFault → List ℕ → Type 0
IsTold bytes fault words = (explanation : Explanation) × IsExplainedBy bytes fault explanation × (words ≡ explanation_text explanation)

-- and where it can't be replayed over that
abbrev pub IsToldOf : List ℕ → ReloadFault → List ℕ → Type 0
IsToldOf bytes (reload_fault.Journal fault) words = IsTold bytes fault words
IsToldOf bytes fault words = ⊥

-- a file's fault; the fault of some bytes of a configuration, in words; or a journal can't be replayed over one, and what it
-- says there
abbrev pub IsNotReadAnew : ServeOptions → PrepareFault → Type 0
IsNotReadAnew o (Start fault) = IsUnread o.config.now fault ⊎ ((bytes : List ℕ) × IsOfText bytes fault) ⊎ IsUnread o.journal.now fault
IsNotReadAnew o (Unset words) = (bytes : List ℕ) × (fault : ConfigFault) × HasFault bytes fault
IsNotReadAnew o (Reload fault told) = (config : Config) × (text : List ℕ) × (bytes : Option (List ℕ)) × IsUnprepared config bytes fault
    × Sets text (Ok config) × IfSome told (λ words. IsToldOf text fault words)

-- ---- a compact journal

-- the table that the configuration of these bytes opens with
pub record IsBase (bytes : List ℕ) (base : Held) : Type 0 where
  pub config : Config
  pub sets : Sets bytes (Ok config)
  pub opens : Agrees base.state (opening config)

-- the record of the realm that the configuration of these bytes sets, or nothing
abbrev pub IsHeadingIn : List ℕ → List ℕ → Type 0
IsHeadingIn bytes text = (config : Config) × (is_named : Bool) × Sets bytes (Ok config) × (text ≡ heading is_named config.realm)

-- what the journal says where that has a fault over the configuration of these bytes
abbrev pub IsToldAt : List ℕ → ServeFault → List ℕ → Type 0
IsToldAt bytes (Journal fault) words = IsTold bytes fault words
IsToldAt bytes fault words = ⊥

-- a fault of the configuration's file, or one of the configuration in force and the journal, which says more there; the file has other bytes
-- than the configuration in force; or the copy of this name can't be made
abbrev pub IsNotBegun : ServeOptions → List ℕ → List ℕ → CompactFault → Type 0
IsNotBegun o in_force copy (Unread fault told) = (IsUnread o.config.now fault ⊎ IsOfTable in_force o.journal.now fault)
    × IfSome told (λ words. IsToldAt in_force fault words)
IsNotBegun o in_force copy Changed = (bytes : List ℕ) × (bytes ≢ in_force)
IsNotBegun o in_force copy (NoCopy path) = path ≡ copy
