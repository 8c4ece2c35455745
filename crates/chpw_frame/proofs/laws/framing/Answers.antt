use Rattle.chpw_frame.proofs.FramingLemmas.{framed_is_whole, whole_is_framed}
use Rattle.chpw_frame.proofs.PieceLemmas.{sent_is_next}
use Rattle.chpw_frame.proofs.CutLemmas.{cut_once}
use Rattle.chpw_frame.proofs.Worked.{worked_rows}
use Rattle.chpw_frame.proofs.laws.framing.Goals as goal

pub returns : goal.returns
returns c = record { framed = framed_is_whole; whole = whole_is_framed; sent = sent_is_next; cut = cut_once; rows = worked_rows }
