-- How `AnswerCache` represents what has been answered.
use Rattle.std.specs.Prelude.{List, map}
use Rattle.chpw_connections.specs.declared.kept.KeptAnswer.{KeptAnswer}
use Rattle.chpw_connections.specs.Answers.{Answer}

abbrev pub answer_of : KeptAnswer → Answer
answer_of k = record { sender = k.sender; message = k.message.items; reply = k.reply.items; moment = k.moment }

abbrev pub answers_of : List KeptAnswer → List Answer
answers_of kept = map answer_of kept
