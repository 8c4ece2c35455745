use Rattle.std.proofs.Common.{◌≡◌, List, sym, ◌∙◌, ap, subst}
use Rattle.chpw_changelog.specs.declared.entry.LogEntry.{LogEntry}
use Rattle.chpw_changelog.specs.Pens.{opening_table}
use Rattle.chpw_table.specs.Agreement.{Held}
use Rattle.chpw_snapshots.specs.Rows.{Rowed, IsPositive, ShowsOpening}
use Rattle.chpw_book.specs.Publishing.{table_rows}
use Rattle.chpw_book.proofs.RowsLemmas.{table_shows}
use Rattle.chpw_book.proofs.book.Book.start.Goals as goal

pub start-requires-clause-rows : goal.start-requires-clause-rows
start-requires-clause-rows g c =
    let t : Held = c.args.unnamed.table in
    let rows : Rowed = c.in_ok-rows.rows in
    let made : rows ≡ table_rows t = c.in_ok-rows.ensures.value in
    let positive : IsPositive (table_rows t) = subst (λ (r : Rowed). IsPositive r) made c.in_ok-rows.ensures.positive in
    let named : opening_table g.D.LogName.root ≡ t = ap (λ (log : List LogEntry). opening_table log) (sym c.requires.name.list.1) ∙ c.args.unnamed.opening in (
      subst (λ (x : Held). ShowsOpening x rows) (sym named) (subst (λ (r : Rowed). ShowsOpening t r)
          (sym made) (table_shows t c.in_ok-rows.ensures.few positive.0 positive.1)),
      c.in_ok-again.ensures.value ∙ sym made,
    )
