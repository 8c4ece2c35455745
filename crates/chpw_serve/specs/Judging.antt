-- How a request is judged: with the password's keys under the wanted counts. Keys under other counts
-- make no difference.
use Rattle.std.specs.Prelude.{◌≡◌, ℕ, List, [], Bool}
use Rattle.chpw_table.specs.declared.times.Moment.{Moment}
use Rattle.chpw_table.specs.declared.request.Opened.{Opened}
use Rattle.chpw_table.specs.State.{State}
use Rattle.chpw_table.specs.Requests.{target_of}
use Rattle.chpw_table.specs.Wanted.{wanted}
use Rattle.chpw_table.specs.History.{missing}
use Rattle.chpw_table.specs.Decision.{verdict}
use Rattle.chpw_table.specs.Step.{step}
use Rattle.chpw_serve.specs.Requests.{Request, opened_under}

abbrev pub judged : State → Request → Opened
judged s q = opened_under (wanted s (target_of (opened_under [] q)).name) q

-- if no wanted count is missing, verdict and step are those of the request as it is judged
abbrev pub JudgedAlike : Type 0
JudgedAlike = (s : State) (now : Moment) (q : Request) (counts : List ℕ) (io : Bool)
    → missing s now (opened_under counts q) ≡ []
    → (verdict s now (opened_under counts q) io ≡ verdict s now (judged s q) io)
    × (step s now (opened_under counts q) io ≡ step s now (judged s q) io)
