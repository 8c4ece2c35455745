use Rattle.std.proofs.Common.{rules, ◌≡◌, ◌++◌, ◌∷◌, [], ◌∙◌, List, ℕ, ap, codes, subst, sym, true}
use Rattle.chpw_log.specs.Lines.{IsRecord, address_text, are_fields}
use Rattle.chpw_log.specs.Moments.{moment_text}
use Rattle.chpw_log.specs.Unconfirmed.{unconfirmed_fields, unconfirmed_line, unconfirmed_words}
use Rattle.chpw_log.proofs.LineLemmas.{fields_record, unconfirmed_joined}
use Rattle.chpw_log.proofs.unconfirmed.write_unconfirmed.Goals as goal

-- what was put, as a line
put_together : (c : goal.In_ok-push) → c.push.new.self.items ≡ unconfirmed_line c.args.moment c.args.peer c.args.ticket
put_together c =
    let a = moment_text c.args.moment in
    let b = address_text c.args.peer in
    let words = unconfirmed_words c.args.ticket in
    let dashes = codes " client - target - code - error - kvno - text " in
    let empty : c.new-text.result.items ≡ [] = search rules in
    let started : c.put_start.new.text.items ≡ c.new-text.result.items ++ a ++ codes " worker - peer " ++ b = c.in_ok-put_start.ensures.value in
    let front : c.put_start.new.text.items ≡ [] ++ a ++ codes " worker - peer " ++ b =
    started ∙ ap (λ (xs : List ℕ). xs ++ a ++ codes " worker - peer " ++ b) empty in
    let middle : c.extend_from_slice.new.self.items ≡ c.put_start.new.text.items ++ dashes = search rules in
    let back : c.put_ticket.new.text.items ≡ c.extend_from_slice.new.self.items ++ words = c.in_ok-put_ticket.ensures.value in
    let pushed : c.push.new.self.items ≡ c.put_ticket.new.text.items ++ 10 ∷ [] = search rules in
    let before = back ∙ ap (λ (xs : List ℕ). xs ++ words) (middle ∙ ap (λ (xs : List ℕ). xs ++ dashes) front) in
    pushed ∙ ap (λ (xs : List ℕ). xs ++ 10 ∷ []) (before ∙ unconfirmed_joined a b words)

pub returns-clause-value : goal.returns-clause-value
returns-clause-value c = put_together c

pub returns-clause-record : goal.returns-clause-record
returns-clause-record c =
    let fields = unconfirmed_fields c.args.moment c.args.peer c.args.ticket in
    let all : are_fields fields ≡ true = rw c.in_ok-put_start.ensures.moment (rw c.in_ok-put_start.ensures.peer c.in_ok-put_ticket.ensures.printed) in
    subst IsRecord (sym (put_together c)) (fields_record fields all)
