use Rattle.std.proofs.Common.{◌≡◌, ℕ, ◌+◌, ◌++◌, List, Some, take, sym, ◌∙◌, ap, subst, rules}
use Rattle.std.specs.Prelude.{slice_get}
use Rattle.std.specs.List.{flat_map}
use Rattle.std.specs.Io.KnownBytes.{Appends}
use Rattle.chpw_report.specs.Configurations.{names_of}
use Rattle.chpw_report.specs.Reports.{told_of}
use Rattle.chpw_report.proofs.ReportLemmas.{appends_more, texts_more}
use Rattle.chpw_report.proofs.report.write_report.Goals as goal

pub loop-name-preserved : goal.loop-name-preserved
loop-name-preserved g c =
    let t = c.args.table.now in
    let text = told_of c.args.form c.args.realm.now t in
    let place : ℕ = c.loop-name.place in
    let found : slice_get (names_of t.state) place ≡ Some c.in-Some.name.now = search rules in
    let more = texts_more text (names_of t.state) place c.in-Some.name.now found in
    let next : c.in-Some-checked_add.next ≡ place + 1 = search rules in
    let front : List ℕ = flat_map text (take place (names_of t.state)) in
    let out = appends_more (g.W.Write.contents c.args.writer.now)
    (g.W.Write.contents c.loop-name.writer) (g.W.Write.contents c.put.new.writer)
    front c.deref.result.now c.loop-name.invariant.0 c.in_ok-put.ensures.written in
    let whole = ap (λ (xs : List ℕ). front ++ xs) (c.deref.ensures.value ∙ c.in_ok-text.ensures.value) ∙ sym more.1 in (
      rw next (subst (λ (xs : List ℕ). Appends (g.W.Write.contents c.args.writer.now) (g.W.Write.contents c.put.new.writer) xs) whole out),
      rw next more.0,
    )
