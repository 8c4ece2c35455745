use Rattle.std.proofs.Common.{◌≡◌, ◌++◌, ◌∷◌, [], ◌∙◌, List, ℕ, ap, codes, rules, subst, sym, true}
use Rattle.std.specs.List.{join_with_byte}
use Rattle.std.specs.Fmt.{decimal}
use Rattle.chpw_log.specs.Lines.{IsRecord, Outcome, are_fields, address_text, fields_of, line_of, outcome_fields, outcome_of}
use Rattle.chpw_log.specs.Moments.{moment_text}
use Rattle.chpw_log.specs.Tellings.{said}
use Rattle.chpw_log.proofs.LineLemmas.{fields_record, front_joined}
use Rattle.chpw_log.proofs.writing.write_line.Goals as goal

-- what was put, as a line
put_together : (c : goal.In_ok-push) → c.push.new.self.items ≡ line_of c.args.line.now
put_together c =
    let l = c.args.line.now in
    let a = moment_text l.moment in
    let b = decimal l.worker in
    let d = address_text l.peer in
    let o = outcome_of l.news in
    let behind : Outcome → List ℕ = λ x. 32 ∷ join_with_byte 32 (outcome_fields x) in
    let pushed : c.push.new.self.items ≡ c.put_told.new.text.items ++ 10 ∷ [] = search rules in
    let told = c.in_ok-put_told.ensures.value in
    let same = ap behind c.fields.ensures.value in
    let front : c.put_front.new.text.items ≡ [] ++ a ++ codes " worker " ++ b ++ codes " peer " ++ d = search rules in
    let whole = told ∙ (ap (λ (xs : List ℕ). xs ++ behind (said c.fields.result)) front
    ∙ (ap (λ (xs : List ℕ). [] ++ a ++ codes " worker " ++ b ++ codes " peer " ++ d ++ xs) same
    ∙ front_joined a b d o)) in
    pushed ∙ ap (λ (xs : List ℕ). xs ++ 10 ∷ []) whole

pub returns-clause-value : goal.returns-clause-value
returns-clause-value c = put_together c

pub returns-clause-record : goal.returns-clause-record
returns-clause-record c =
    let l = c.args.line.now in
    let front = c.in_ok-put_front.ensures in
    let told = subst (λ (o : Outcome). are_fields (outcome_fields o) ≡ true) c.fields.ensures.value c.in_ok-put_told.ensures.fields in
    let all : are_fields (fields_of l) ≡ true = rw (front.moment, front.worker, front.peer) told in
    subst IsRecord (sym (put_together c)) (fields_record (fields_of l) all)
