use Rattle.std.proofs.Common.{Some}
use Rattle.chpw_workers.proofs.worker.reply_to.Goals as goal

pub returns-clause-replied : goal.returns-clause-replied
returns-clause-replied g c = (
  c.serve_stream-ended.result,
  c.serve_stream-ended.new.writer.items,
  Some c.serve_stream-ended.new.reader.now,
  (rw (c.new-bytes.ensures.items, c.message-left.ensures.value, c.ends.ensures.value) at c.serve_stream-ended.ensures.served),
  c.reply_of.ensures.value,
)
