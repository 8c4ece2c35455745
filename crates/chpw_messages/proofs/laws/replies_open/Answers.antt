use Rattle.chpw_messages.proofs.RepliesOpenLemmas.{error_frames_open, private_frames_open}
use Rattle.chpw_messages.proofs.laws.replies_open.Goals as goal

pub returns : goal.returns
returns c = record { krb_error = error_frames_open; private = private_frames_open }
