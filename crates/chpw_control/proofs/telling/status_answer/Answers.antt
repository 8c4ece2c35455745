use Rattle.std.proofs.Common.{◌≡◌, ◌∷◌, [], ◌++◌, ◌∙◌, List, ℕ, ap, rules}
use Rattle.chpw_control.specs.Answers.{lines_text, ok_line}
use Rattle.chpw_control.specs.Statuses.{connection_lines, history_lines, kdc_lines, keeping_lines, service_lines, status_lines, worker_lines}
use Rattle.chpw_control.proofs.AnswerLemmas.{further}
use Rattle.chpw_control.proofs.EndingLemmas.{and_lines}
use Rattle.chpw_control.proofs.telling.status_answer.Goals as goal

pub returns-clause-value : goal.returns-clause-value
returns-clause-value c =
    let s = c.args.status.now in
    let old = c.new-text.result.items in
    let one = service_lines s in
    let two = one ++ history_lines s in
    let three = two ++ connection_lines s in
    let four = three ++ worker_lines s in
    let a = c.put_service.new.text.items in
    let b = c.put_history.new.text.items in
    let d = c.put_connections.new.text.items in
    let e = c.put_workers.new.text.items in
    let f = c.put_keeping.new.text.items in
    let until_two = further old a b one (history_lines s) c.in_ok-put_service.ensures.value c.in_ok-put_history.ensures.value in
    let until_three = further old b d two (connection_lines s) until_two c.in_ok-put_connections.ensures.value in
    let until_four = further old d e three (worker_lines s) until_three c.in_ok-put_workers.ensures.value in
    let until_five = further old e f four (keeping_lines s) until_four c.in_ok-put_keeping.ensures.value in
    let five = four ++ keeping_lines s in
    let h = c.put_kdc.new.text.items in
    let until_six = further old f h five (kdc_lines s) until_five c.in_ok-put_kdc.ensures.value in
    let all = further old h c.put_ok.new.text.items (status_lines s) (ok_line ∷ []) until_six c.in_ok-put_ok.ensures.value in
    let empty : old ≡ [] = search rules in
    all ∙ ap (λ (xs : List ℕ). xs ++ lines_text (status_lines s ++ ok_line ∷ [])) empty

pub returns-clause-lines : goal.returns-clause-lines
returns-clause-lines c =
    let s = c.args.status.now in
    let one = service_lines s in
    let two = one ++ history_lines s in
    let three = two ++ connection_lines s in
    let four = three ++ worker_lines s in
    let a = and_lines one (history_lines s) c.in_ok-put_service.ensures.lines c.in_ok-put_history.ensures.lines in
    let b = and_lines two (connection_lines s) a c.in_ok-put_connections.ensures.lines in
    let d = and_lines three (worker_lines s) b c.in_ok-put_workers.ensures.lines in
    let five = four ++ keeping_lines s in
    let e = and_lines four (keeping_lines s) d c.in_ok-put_keeping.ensures.lines in
    and_lines five (kdc_lines s) e c.in_ok-put_kdc.ensures.lines
