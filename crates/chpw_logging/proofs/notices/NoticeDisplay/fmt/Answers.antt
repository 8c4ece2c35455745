use Rattle.std.proofs.Common.{ℕ, List, ap, sym, subst}
use Rattle.std.specs.Fmt.{HasWritten}
use Rattle.chpw_logging.specs.Notices.{notice_line}
use Rattle.chpw_logging.proofs.notices.NoticeDisplay.fmt.Goals as goal

pub returns-in-TailCut-clause-writes : goal.returns-in-TailCut-clause-writes
returns-in-TailCut-clause-writes g c = λ plain whole.
    subst (λ (text : List ℕ). HasWritten {W = g.row.W.Denot} g.W.Write.write_str_gives c.args.f.now text c.write-in-TailCut.new.self)
    (sym (ap notice_line c.in-TailCut.is)) (c.write-in-TailCut.ensures.writes plain whole)

pub returns-in-KdcRefused-clause-writes : goal.returns-in-KdcRefused-clause-writes
returns-in-KdcRefused-clause-writes g c = λ plain whole.
    subst (λ (text : List ℕ). HasWritten {W = g.row.W.Denot} g.W.Write.write_str_gives c.args.f.now text c.write-in-KdcRefused.new.self)
    (sym (ap notice_line c.in-KdcRefused.is)) (c.write-in-KdcRefused.ensures.writes plain whole)

pub returns-in-KdcFailed-clause-writes : goal.returns-in-KdcFailed-clause-writes
returns-in-KdcFailed-clause-writes g c = λ plain whole.
    subst (λ (text : List ℕ). HasWritten {W = g.row.W.Denot} g.W.Write.write_str_gives c.args.f.now text c.write-in-KdcFailed.new.self)
    (sym (ap notice_line c.in-KdcFailed.is)) (c.write-in-KdcFailed.ensures.writes plain whole)

pub returns-in-KdcLacks-clause-writes : goal.returns-in-KdcLacks-clause-writes
returns-in-KdcLacks-clause-writes g c = λ plain whole.
    subst (λ (text : List ℕ). HasWritten {W = g.row.W.Denot} g.W.Write.write_str_gives c.args.f.now text c.write-in-KdcLacks.new.self)
    (sym (ap notice_line c.in-KdcLacks.is)) (c.write-in-KdcLacks.ensures.writes plain whole)

pub returns-in-SetAside-clause-writes : goal.returns-in-SetAside-clause-writes
returns-in-SetAside-clause-writes g c = λ plain whole.
    subst (λ (text : List ℕ). HasWritten {W = g.row.W.Denot} g.W.Write.write_str_gives c.args.f.now text c.write-in-SetAside.new.self)
    (sym (ap notice_line c.in-SetAside.is)) (c.write-in-SetAside.ensures.writes plain whole)

pub returns-in-NotKept-clause-writes : goal.returns-in-NotKept-clause-writes
returns-in-NotKept-clause-writes g c = λ plain whole.
    subst (λ (text : List ℕ). HasWritten {W = g.row.W.Denot} g.W.Write.write_str_gives c.args.f.now text c.write-in-NotKept.new.self)
    (sym (ap notice_line c.in-NotKept.is)) (c.write-in-NotKept.ensures.writes plain whole)

pub returns-in-Quiet-clause-writes : goal.returns-in-Quiet-clause-writes
returns-in-Quiet-clause-writes g c = λ plain whole.
    subst (λ (text : List ℕ). HasWritten {W = g.row.W.Denot} g.W.Write.write_str_gives c.args.f.now text c.write-in-Quiet.new.self)
    (sym (ap notice_line c.in-Quiet.is)) (c.write-in-Quiet.ensures.writes plain whole)

pub returns-in-JournalFailed-clause-writes : goal.returns-in-JournalFailed-clause-writes
returns-in-JournalFailed-clause-writes g c = λ plain whole.
    subst (λ (text : List ℕ). HasWritten {W = g.row.W.Denot} g.W.Write.write_str_gives c.args.f.now text c.write-in-JournalFailed.new.self)
    (sym (ap notice_line c.in-JournalFailed.is)) (c.write-in-JournalFailed.ensures.writes plain whole)
