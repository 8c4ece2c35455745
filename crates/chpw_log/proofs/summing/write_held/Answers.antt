use Rattle.std.proofs.Common.{rules, ◌≡◌, ◌++◌, ◌∷◌, [], ◌∙◌, List, ℕ, ap, codes, subst, sym, true}
use Rattle.chpw_log.specs.Lines.{IsRecord, are_fields}
use Rattle.chpw_log.specs.Moments.{moment_text}
use Rattle.chpw_log.specs.Summaries.{held_fields, held_line, held_words}
use Rattle.chpw_log.proofs.LineLemmas.{fields_record, held_joined}
use Rattle.chpw_log.proofs.summing.write_held.Goals as goal

-- what was put, as a line
put_together : (c : goal.In_ok-push) → c.push.new.self.items ≡ held_line c.args.moment c.args.kind c.args.held.now
put_together c =
    let a = moment_text c.args.moment in
    let words = held_words c.args.kind c.args.held.now in
    let dashes = codes " worker - peer - client - target - code - error - kvno - text " in
    let front : c.put_moment.new.text.items ≡ [] ++ a = search rules in
    let middle : c.extend_from_slice.new.self.items ≡ c.put_moment.new.text.items ++ dashes = c.in_ok-extend_from_slice.ensures.items in
    let back : c.put_words.new.text.items ≡ c.extend_from_slice.new.self.items ++ words = c.in_ok-put_words.ensures.value in
    let pushed : c.push.new.self.items ≡ c.put_words.new.text.items ++ 10 ∷ [] = search rules in
    let before = back ∙ ap (λ (xs : List ℕ). xs ++ words) (middle ∙ ap (λ (xs : List ℕ). xs ++ dashes) front) in
    pushed ∙ ap (λ (xs : List ℕ). xs ++ 10 ∷ []) (before ∙ held_joined a words)

pub returns-clause-value : goal.returns-clause-value
returns-clause-value c = put_together c

pub returns-clause-record : goal.returns-clause-record
returns-clause-record c =
    let fields = held_fields c.args.moment c.args.kind c.args.held.now in
    let all : are_fields fields ≡ true = rw c.in_ok-put_moment.ensures.field c.in_ok-put_words.ensures.printed in
    subst IsRecord (sym (put_together c)) (fields_record fields all)
