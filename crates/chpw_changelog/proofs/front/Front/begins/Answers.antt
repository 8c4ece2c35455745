use Rattle.std.proofs.Common.{List, ◌≡◌, ◌<◌, ◌++◌, ◌∷◌, [], length, ap, subst, arith}
use mathlib.Core.List.{IsPrefix}
use Rattle.chpw_changelog.specs.declared.entry.LogEntry.{LogEntry}
use Rattle.chpw_changelog.specs.declared.change.NumberedChange.{NumberedChange}
use Rattle.chpw_changelog.specs.Changes.{named}
use Rattle.chpw_changelog.specs.Pens.{first_pen, opening_state, changes_in}
use Rattle.chpw_changelog.proofs.ListLemmas.{begins_shorter, begins_whole, prefix_written}
use Rattle.chpw_changelog.proofs.front.Front.begins.Goals as goal

pub returns-then-self-len-clause-some : goal.returns-then-self-len-clause-some
returns-then-self-len-clause-some g c t e =
    let k = first_pen g.D.LogName.root in
    let both = c.learn.new.self.log in
    let mine : IsPrefix c.self.inside.seen.log both = subst (λ (l : List LogEntry). IsPrefix l both) (ap (λ s. s.log) c.again-both.ensures) c.learn.ensures.2 in
    let less : length (changes_in g.D.LogName.root c.self.inside.seen.log) < length
    (changes_in g.D.LogName.root c.args.seen.now.log ++ named (opening_state g.D.LogName.root) c.args.last ∷ []) =
    omega (arith, c.self.invariant.0, c.if-self-len.true, e) in
    rw (← c.self.view_is) (begins_shorter _ _ (changes_in g.D.LogName.root both) _
    (prefix_written k _ both mine) (prefix_written k _ both c.learn.ensures.3) less)

pub returns-then-is_same-clause-some : goal.returns-then-is_same-clause-some
returns-then-is_same-clause-some g c t e =
    let k = first_pen g.D.LogName.root in
    let both = c.learn.new.self.log in
    let mine : IsPrefix c.self.inside.seen.log both = subst (λ (l : List LogEntry). IsPrefix l both) (ap (λ s. s.log) c.again-both.ensures) c.learn.ensures.2 in
    let long : length (changes_in g.D.LogName.root c.self.inside.seen.log)
    ≡ length (changes_in g.D.LogName.root c.args.seen.now.log ++ named (opening_state g.D.LogName.root) c.args.last
    ∷ []) = omega (arith, c.self.invariant.0, c.if-self-len.false, c.if-self-len-2.false, e) in
    let some : 0 < length (changes_in g.D.LogName.root c.self.inside.seen.log) = omega (arith, c.if-len-eq0.false, e, long) in
    let ends = c.self.invariant.2 some in
    rw (← c.self.view_is) (begins_whole _ _ (changes_in g.D.LogName.root both) _ _ (prefix_written k _ both mine)
    (prefix_written k _ both c.learn.ensures.3) long ends.0 ends.1 (ap (λ (x : NumberedChange).
    named (opening_state g.D.LogName.root) x) (c.is_same.ensures.same c.if-is_same.true)))
