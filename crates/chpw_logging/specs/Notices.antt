-- Notices on standard error of a service that goes on.
use Rattle.std.specs.Prelude.{ℕ, List, ◌++◌, codes}
use Rattle.std.specs.Fmt.{decimal}
use Rattle.chpw_logging.specs.declared.notices.Notice.{Notice}
use Rattle.chpw_logging.specs.declared.notices.Notice.TheVariants.{LogLost, JournalFailed, OutputLost, Expired, Unconfirmed}
use Rattle.chpw_logging.specs.declared.notices.Notice.TheVariants.{KdcDown, KdcMisspoken, KdcRefused, KdcFailed, KdcLacks, KdcTableFull, KdcLost}
use Rattle.chpw_logging.specs.declared.notices.Notice.TheVariants.{Shared, ManagerNotTold, Lacked, TailCut, SetAside, NotKept, Quiet}
use Rattle.chpw_journal.specs.Causes.{cause_text}
use Rattle.chpw_start.specs.Resuming.{reason_words}

abbrev pub notice_line : Notice → List ℕ
notice_line (LogLost log) = log.now ++ codes ": a line of the log was lost; further losses are not reported"
notice_line (JournalFailed journal why) =
    journal.now ++ (codes ": journal failed: " ++ (cause_text why ++ codes ": no change is accepted until a restart"))
notice_line OutputLost = codes "standard output: a line was lost; further losses are not reported"
notice_line (Expired count) = codes "messages dropped after waiting 5 seconds for a worker: " ++ decimal count
notice_line (Unconfirmed socket) =
    socket.now ++ codes ": the KDC did not have a change in time; more are not reported until one is confirmed"
notice_line (KdcDown socket) = socket.now ++ codes ": no connection to the KDC's agent; it is tried again"
notice_line (KdcMisspoken socket) = socket.now ++ codes ": the KDC's agent said what it may not; it is called again"
notice_line (KdcRefused socket refusal) = socket.now ++ (codes ": the KDC's agent refuses " ++ refusal.now)
notice_line (KdcFailed socket text) = socket.now ++ (codes ": the KDC's database can't be had: " ++ text.now)
notice_line (KdcLacks socket gone of) =
    socket.now ++ (codes ": the KDC lacks " ++ (decimal gone ++ (codes " of " ++ (decimal of ++ codes " principals; none is removed"))))
notice_line (KdcTableFull socket name) =
    socket.now ++ (codes ": " ++ (name.now ++ codes " is not adopted from the KDC: there are 10000 principals already"))
notice_line (KdcLost socket) = socket.now ++ codes ": a change was lost on its way to the KDC; both are compared"
notice_line (Shared file) = file.now ++ codes ": other users may read or write it"
notice_line ManagerNotTold = codes "NOTIFY_SOCKET: the service manager could not be told that the service is ready"
notice_line (Lacked count) = codes "principals missing from the configuration: "
    ++ (decimal count ++ codes "; the service cannot start once one of them changes its password")
notice_line (TailCut journal kept) = journal.now ++ (codes ": a torn tail was cut off after " ++ (decimal kept ++ codes " bytes"))
notice_line (SetAside file why) = file.now ++ (codes ": set aside, since " ++ reason_words why)
notice_line (NotKept file) = codes "cannot write " ++ (file.now ++ codes ": the next start will be quiet for 300 seconds")
notice_line (Quiet time) =
    codes "quiet until " ++ (time.now ++ codes
    ": requests are refused as clock skew until then, since some may have been answered before this start; the clients' clocks are not at fault")
