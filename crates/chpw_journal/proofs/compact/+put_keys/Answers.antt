use Rattle.std.proofs.Common.{◌≡◌, ◌≤◌, ◌++◌, ◌∷◌, ℕ, List, length, ◌∙◌, ap, arith, append_assoc}
use Rattle.std.proofs.lemmas.Grind.{common_steps}
use Rattle.std.proofs.lemmas.Result.{on_ok_weaker}
use Rattle.chpw_record.specs.declared.record.Record.TheVariants as record_of
use Rattle.chpw_record.specs.Records.{record_text, records_text}
use Rattle.chpw_journal.specs.Compact.{key_records, newer_kind}
use Rattle.chpw_journal.proofs.CompactTextLemmas.{key_text, key_whole}
use Rattle.chpw_journal.proofs.compact.+put_keys.Goals as goal

pub returns : goal.returns
returns t c =
    let first = c.args.first in
    let name = c.args.name.now in
    let key = c.in-Some.key.now in
    let older = c.in-Some.older.now in
    let old : List ℕ = c.args.text.now.items in
    let front : List ℕ = records_text (key_records first name older) in
    let last : List ℕ = record_text (record_of.Key (newer_kind key older) (record { name = name; key = key })) in
    let is : c.args.keys.now ≡ key ∷ older = c.in-Some.ensures.cases.0 in
    let some : 1 ≤ length older = grind (arith, common_steps) in
    record {
      value = on_ok_weaker c.put_key-2.result
          (λ g. rw c.newer_kind.ensures.value at g ∙ (ap (λ (xs : List ℕ). xs ++ last) c.in_ok-put_keys.ensures.value ∙ (append_assoc old front last
          ∙ ap (λ (xs : List ℕ). old ++ xs) (key_text first name c.args.keys.now key older is some))))
          c.put_key-2.ensures.value;
      whole = on_ok_weaker c.put_key-2.result (λ w. key_whole first name
          c.args.keys.now key older is some c.requires.name c.in_ok-put_keys.ensures.whole w) c.put_key-2.ensures.whole;
    }
