use Rattle.std.proofs.Common.{◌≡◌, rules}
use Rattle.std.specs.List.{filter}
use Rattle.std.proofs.lemmas.Fn.{filter_same}
use Rattle.chpw_kdc.specs.Dialogs.{is_of_change}
use Rattle.chpw_kdc.proofs.dialog.keep_changes.Goals as goal

pub returns : goal.returns
returns c =
    let kept : c.retain.new.self.items ≡ filter is_of_change c.args.puts.now.items =
    filter_same _ _ _ (λ x b f' k. search rules) _ _ c.retain.ensures.filtered in
    record { value = kept }
