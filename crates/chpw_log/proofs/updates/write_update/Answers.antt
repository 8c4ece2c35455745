use Rattle.std.proofs.Common.{rules, ◌≡◌, ◌++◌, ◌∷◌, [], ◌∙◌, List, ℕ, ap, codes, subst, sym, true}
use Rattle.std.proofs.lemmas.Bool.{and_parts}
use Rattle.chpw_printing.specs.Quoting.{are_printed}
use Rattle.chpw_printing.proofs.QuotingLemmas.{graphic_printed}
use Rattle.chpw_log.specs.Lines.{IsRecord}
use Rattle.chpw_log.specs.Moments.{moment_text}
use Rattle.chpw_log.specs.Updates.{update_line, update_words}
use Rattle.chpw_log.proofs.LineLemmas.{event_record}
use Rattle.chpw_log.proofs.updates.write_update.Goals as goal

-- what was put, as a line
put_together : (c : goal.In_ok-push) → c.push.new.self.items ≡ update_line c.args.moment c.args.update.now c.args.verdict
put_together c =
    let a = moment_text c.args.moment in
    let words = update_words c.args.update.now c.args.verdict in
    let empty : c.new-text.result.items ≡ [] = search rules in
    let front : c.put_moment.new.text.items ≡ c.new-text.result.items ++ a = c.in_ok-put_moment.ensures.value in
    let middle : c.extend_from_slice.new.self.items ≡ c.put_moment.new.text.items ++ codes " service " = c.in_ok-extend_from_slice.ensures.items in
    let back : c.put_update.new.text.items ≡ c.extend_from_slice.new.self.items ++ words = c.in_ok-put_update.ensures.value in
    let pushed : c.push.new.self.items ≡ c.put_update.new.text.items ++ 10 ∷ [] = search rules in
    let begun = front ∙ ap (λ (xs : List ℕ). xs ++ a) empty in
    let before = back ∙ ap (λ (xs : List ℕ). xs ++ words) (middle ∙ ap (λ (xs : List ℕ). xs ++ codes " service ") begun) in
    pushed ∙ ap (λ (xs : List ℕ). xs ++ 10 ∷ []) before

pub returns-clause-value : goal.returns-clause-value
returns-clause-value c = put_together c

pub returns-clause-record : goal.returns-clause-record
returns-clause-record c =
    let a = moment_text c.args.moment in
    let printed : are_printed a ≡ true = graphic_printed a (and_parts _ _ c.put_moment.ensures.field).1 in
    subst IsRecord (sym (put_together c)) (event_record a (update_words c.args.update.now c.args.verdict) printed c.in_ok-put_update.ensures.printed)
