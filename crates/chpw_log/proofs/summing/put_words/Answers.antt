use Rattle.std.proofs.Common.{rules, ◌≡◌, ◌+◌, ◌++◌, ◌∙◌, List, ℕ, ◌<◌, ◌^◌, arith, ap, codes}
use Rattle.std.specs.Fmt.{decimal}
use Rattle.chpw_printing.proofs.QuotingLemmas.{decimal_graphic, graphic_printed}
use Rattle.chpw_log.specs.Summaries.{kind_words}
use Rattle.chpw_log.proofs.LineLemmas.{kind_printed, words_joined, words_printed}
use Rattle.chpw_log.proofs.summing.put_words.Goals as goal

pub returns-clause-value : goal.returns-clause-value
returns-clause-value c =
    let h = c.args.held.now in
    let old = c.args.text.now.items in
    let kinds : List ℕ → List ℕ = λ xs. xs ++ kind_words c.args.kind ++ decimal h.loopback ++ codes " from 127.0.0.0/8 or ::1, " ++ decimal h.other in
    let one : c.put_number.new.text.items ≡ old ++ decimal (h.loopback + h.other) = search rules in
    let two : c.put_counts.new.text.items ≡ kinds c.put_number.new.text.items = c.in_ok-put_counts.ensures.value in
    let three : c.extend_from_slice.new.self.items ≡ c.put_counts.new.text.items ++ codes " from elsewhere" = c.in_ok-extend_from_slice.ensures.items in
    three ∙ (ap (λ (xs : List ℕ). xs ++ codes " from elsewhere") (two ∙ ap kinds one)
    ∙ words_joined old (decimal (h.loopback + h.other)) (kind_words c.args.kind) (decimal h.loopback) (decimal h.other))

pub returns-clause-printed : goal.returns-clause-printed
returns-clause-printed c =
    let h = c.args.held.now in
    let few = c.requires.few in
    let a : h.loopback + h.other < 2 ^ 64 = omega arith in
    let b : h.loopback < 2 ^ 64 = omega arith in
    let d : h.other < 2 ^ 64 = omega arith in
    words_printed (decimal (h.loopback + h.other)) (kind_words c.args.kind) (decimal h.loopback) (decimal h.other)
    (graphic_printed (decimal (h.loopback + h.other)) (decimal_graphic (h.loopback + h.other) a))
    (kind_printed c.args.kind)
    (graphic_printed (decimal h.loopback) (decimal_graphic h.loopback b))
    (graphic_printed (decimal h.other) (decimal_graphic h.other d))
