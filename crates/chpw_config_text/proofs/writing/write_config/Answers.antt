-- The table of the configuration is read back as the configuration.
use Rattle.std.proofs.Common.{◌≡◌, ◌≤◌, ◌∙◌, ap, Some, string_bytes}
use Rattle.toml.specs.Data.{members_depth}
use Rattle.toml.specs.Parse.{parse_document}
use Rattle.toml.specs.View.{table_view}
use Rattle.chpw_config_text.specs.Tables.{members_of}
use Rattle.chpw_config_text.proofs.DepthLemmas.{file_depth}
use Rattle.chpw_config_text.proofs.SettingsLemmas.{text_read}
use Rattle.chpw_config_text.proofs.writing.write_config.Goals as goal

pub returns-in-Ok-clause-reads : goal.returns-in-Ok-clause-reads
returns-in-Ok-clause-reads c =
    let made = c.in_ok-file.ensures in
    let shallow : members_depth (table_view c.in_ok-file.file) ≤ 80 = rw made.value (file_depth c.args.config.now) in
    let parsed : parse_document (string_bytes c.in-Ok.text) ≡ Some (members_of c.args.config.now) = c.in-Ok.ensures.reads_back shallow ∙ ap Some made.value in
    λ fits some. text_read c.args.config.now (string_bytes c.in-Ok.text) parsed made.just made.typed fits some
