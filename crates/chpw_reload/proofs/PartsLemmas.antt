-- A journal that is read in two parts, and the reload that two parts give.
use Rattle.std.proofs.Common.{◌≡◌, ℕ, ◌+◌, List, ◌++◌, drop, length, Option, Some, None, refl}
use Rattle.std.proofs.Common.{sym, ◌∙◌, ap, subst, arith, append_assoc, append-nil, length-append}
use Rattle.std.specs.Io.KnownBytes.{Consumes, IsAtEnd}
use Rattle.std.proofs.Math.Seq.{drop-append_seam}
use Rattle.chpw_rules.specs.declared.config.Config.{Config}
use Rattle.chpw_table.specs.State.{State}
use Rattle.chpw_table.specs.Agreement.{Held, Agrees}
use Rattle.chpw_record.specs.declared.record.Record.{Record}
use Rattle.chpw_record.specs.Records.{records_text}
use Rattle.chpw_journal.specs.JournalText.{restored, whole, IsReading}
use Rattle.chpw_journal.specs.Restoring.{IsRestored}
use Rattle.chpw_journal.specs.declared.restoring.Restored.{Restored}
use Rattle.chpw_record.proofs.RecordLemmas.{records_joined}
use Rattle.chpw_journal.proofs.RecordsLemmas.{restored_joined, next_joined}
use Rattle.chpw_report.specs.Held.{opening}
use Rattle.chpw_reload.specs.Next.{next_state}
use Rattle.chpw_reload.specs.Comparing.{MayFollow}
use Rattle.chpw_reload.specs.Laws.{TwoPartsAreOne, ReloadedIsReload}

-- all that a reader had was read
all_read : (text read : List ℕ) (new : Option (List ℕ)) → Consumes (Some text) new read → IsAtEnd new → text ≡ read
all_read text read None h e = absurd h
all_read text read (Some ys) h e = h ∙ (ap (λ (zs : List ℕ). read ++ zs) e ∙ append-nil read)

-- what was read of a text after a front is read of the whole
read_after : (front text read : List ℕ) (new : Option (List ℕ)) → Consumes (Some text) new read → Consumes (Some (front ++ text)) new (front ++ read)
read_after front text read None h = absurd h
read_after front text read (Some ys) h = ap (λ (zs : List ℕ). front ++ zs) h ∙ sym (append_assoc front read ys)

-- the records of both readings, one after the other
joined_text : (cs ds : List Record) (rest : List ℕ) → records_text cs ++ (records_text ds ++ rest) ≡ records_text (cs ++ ds) ++ rest
joined_text cs ds rest = sym (append_assoc (records_text cs) (records_text ds) rest) ∙ ap (λ (xs : List ℕ). xs ++ rest) (sym (records_joined cs ds))

pub two_parts_are_one : TwoPartsAreOne
two_parts_are_one before front more new later first second a b =
    let cs : List Record = a.whole_records in
    let ds : List Record = b.whole_records in
    let text : front ≡ records_text cs ++ a.rest = all_read front (records_text cs ++ a.rest) new a.read a.end in
    let all : front ++ more ≡ records_text cs ++ (a.rest ++ more) = ap (λ (xs : List ℕ). xs ++ more) text ∙ append_assoc (records_text cs) a.rest more in
    let behind : drop first.kept (front ++ more) ≡ a.rest ++ more =
    ap (λ (n : ℕ). drop n (front ++ more)) a.kept ∙ (ap (drop (length (records_text cs))) all ∙ drop-append_seam (records_text cs) (a.rest ++ more)) in
    let rest_read : Consumes (Some (a.rest ++ more)) later (records_text ds ++ b.rest) =
    subst (λ (xs : List ℕ). Consumes (Some xs) later (records_text ds ++ b.rest)) behind b.read in
    let read : Consumes (Some (front ++ more)) later (records_text cs ++ (records_text ds ++ b.rest)) =
    subst (λ (xs : List ℕ). Consumes (Some xs) later (records_text cs ++ (records_text ds ++ b.rest)))
    (sym all) (read_after (records_text cs) (a.rest ++ more) (records_text ds ++ b.rest) later rest_read) in
    record {
      whole_records = cs ++ ds;
      rest = b.rest;
      read = subst (λ (xs : List ℕ). Consumes (Some (front ++ more)) later xs) (joined_text cs ds b.rest) read;
      end = b.end;
      reading = λ s g.
          let one : IsReading s (records_text cs ++ a.rest) (whole cs a.rest) = a.reading s g in
          let two : IsReading (restored s cs) (records_text ds ++ b.rest) (whole ds b.rest) = b.reading (restored s cs) (a.table s g) in
          (record { text_is = refl; next = next_joined s cs ds one.0.next two.0.next }, two.1);
      table = λ s g. subst (λ (t : State). Agrees second.table.state t) (sym (restored_joined s cs ds)) (b.table (restored s cs) (a.table s g));
      events = b.events ∙ a.events;
      seen = b.seen ∙ a.seen;
      max_entries = b.max_entries ∙ a.max_entries;
      records =
          let n : length (cs ++ ds) ≡ length cs + length ds = length-append cs ds in
          omega (arith, n, a.records, b.records);
      kept =
          let n : length (records_text (cs ++ ds)) ≡ length (records_text cs) + length (records_text ds) =
          ap (λ (xs : List ℕ). length xs) (records_joined cs ds)
          ∙ length-append (records_text cs) (records_text ds) in
          omega (arith, n, a.kept, b.kept);
      torn = b.torn;
    }

pub reloaded_is_reload : ReloadedIsReload
reloaded_is_reload file journal rest renewal closed next left p r same =
    let first_part : Restored = p.read.records in
    let one : IsRestored p.before p.read.behind p.read.left first_part = p.read.read in
    let same_table : renewal.table ≡ first_part.table = p.table ∙ ap (λ (x : Restored). x.table) p.read.whole in
    let two : IsRestored first_part.table rest r.read.0 r.renewed = subst (λ (t : Held). IsRestored t rest r.read.0 r.renewed) same_table r.read.1 in
    let cs : List Record = one.whole_records in
    let ds : List Record = two.whole_records in
    let s : State = opening file in
    let mid : Agrees first_part.table.state (restored s cs) = one.table s p.opens in
    let first : IsReading s (records_text cs ++ one.rest) (whole cs one.rest) = one.reading s p.opens in
    let second : IsReading (restored s cs) (records_text ds ++ two.rest) (whole ds two.rest) = two.reading (restored s cs) mid in (
      cs ++ ds,
      record {
        closed = closed.state;
        renewed = r.renewed.table.state;
        is_left = same;
        is_renewed = record {
          next = next_joined s cs ds first.0.next second.0.next;
          table = subst (λ (t : State). Agrees r.renewed.table.state t) (sym (restored_joined s cs ds)) (two.table (restored s cs) mid);
        };
        may = subst (λ (c : Config). MayFollow c closed.state r.renewed.table.state) p.settings r.may;
        opens = subst (λ (c : Config). Agrees next.table.state (next_state c closed.state r.renewed.table.state)) p.settings r.table;
      },
    )
