use Rattle.std.proofs.Common.{ℕ, List, ◌++◌, sym, ◌∙◌, ap, append-nil}
use Rattle.std.proofs.lemmas.Result.{on_ok_weaker}
use Rattle.chpw_record.specs.declared.record.KeyKind.TheVariants.{Remove}
use Rattle.chpw_record.specs.declared.record.Record.TheVariants as record_of
use Rattle.chpw_record.specs.Records.{record_text}
use Rattle.chpw_table.specs.Updates.{blank_key}
use Rattle.chpw_journal.proofs.compact.put_removal.Goals as goal

pub returns-clause-value : goal.returns-clause-value
returns-clause-value c =
    let text : List ℕ = record_text (record_of.Key Remove (record { name = c.args.name.now; key = blank_key })) in
    on_ok_weaker c.put_key.result
    (λ g. rw c.blank_key.ensures.value at g ∙ ap (λ (xs : List ℕ). c.args.text.now.items ++ xs) (sym (append-nil text))) c.put_key.ensures.value
