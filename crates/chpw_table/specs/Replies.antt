-- The answer of each row: the result code (RFC 3244 section 2), the error code of its KRB-ERROR, if it is answered by
-- one (RFC 4120 section 7.5.9), and the text.
use Rattle.std.specs.Prelude.{ℕ, ℤ, List, Option, Some, None, codes}
use Rattle.krb_protocol.specs.declared.codes.TheConstants.{KRB5_KPASSWD_SUCCESS, KRB5_KPASSWD_MALFORMED}
use Rattle.krb_protocol.specs.declared.codes.TheConstants.{KRB5_KPASSWD_HARDERROR, KRB5_KPASSWD_AUTHERROR}
use Rattle.krb_protocol.specs.declared.codes.TheConstants.{KRB5_KPASSWD_SOFTERROR, KRB5_KPASSWD_ACCESSDENIED}
use Rattle.krb_protocol.specs.declared.codes.TheConstants.{KRB5_KPASSWD_INITIAL_FLAG_NEEDED, KRB_AP_ERR_SKEW}
use Rattle.krb_protocol.specs.declared.codes.TheConstants.{KRB_AP_ERR_REPEAT, KRB_AP_ERR_TKT_NYV}
use Rattle.krb_protocol.specs.declared.codes.TheConstants.{KRB_AP_ERR_TKT_EXPIRED}
use Rattle.chpw_table.specs.declared.raising.RaiseVerdict.{RaiseVerdict}
use Rattle.chpw_table.specs.declared.raising.RaiseVerdict.TheVariants as raise
use Rattle.chpw_table.specs.declared.updating.KdcUpdate.{KdcUpdate}
use Rattle.chpw_table.specs.declared.updating.KdcUpdate.TheVariants as update
use Rattle.chpw_table.specs.declared.updating.UpdateVerdict.{UpdateVerdict}
use Rattle.chpw_table.specs.declared.updating.UpdateVerdict.TheVariants as taking
use Rattle.chpw_table.specs.declared.verdict.Verdict.{Verdict}
use Rattle.chpw_table.specs.declared.verdict.Verdict.TheVariants.{Skew, Replay, NotYet, Expired, BadPrivate}
use Rattle.chpw_table.specs.declared.verdict.Verdict.TheVariants.{BadBody, Denied, NeedInitial, Unknown, Short}
use Rattle.chpw_table.specs.declared.verdict.Verdict.TheVariants.{Classes, Reused, LastVersion, Broken, Done}

pub record Answer : Type 0 where
  pub code : ℕ
  pub error : Option ℤ
  pub text : List ℕ

-- answered by a KRB-ERROR
abbrev pub by_error : ℕ → ℤ → List ℕ → Answer
by_error code error text = record { code = code; error = Some error; text = text }

-- answered by AP-REP and KRB-PRIV
abbrev pub by_private : ℕ → List ℕ → Answer
by_private code text = record { code = code; error = None; text = text }

abbrev pub answer_of : Verdict → Answer
answer_of Skew = by_error KRB5_KPASSWD_AUTHERROR KRB_AP_ERR_SKEW (codes "clock skew too great")
answer_of Replay = by_error KRB5_KPASSWD_AUTHERROR KRB_AP_ERR_REPEAT (codes "request replayed")
answer_of NotYet = by_error KRB5_KPASSWD_AUTHERROR KRB_AP_ERR_TKT_NYV (codes "ticket not yet valid")
answer_of Expired = by_error KRB5_KPASSWD_AUTHERROR KRB_AP_ERR_TKT_EXPIRED (codes "ticket expired")
answer_of BadPrivate = by_private KRB5_KPASSWD_AUTHERROR (codes "authentication failed")
answer_of BadBody = by_private KRB5_KPASSWD_MALFORMED (codes "malformed")
answer_of Denied = by_private KRB5_KPASSWD_ACCESSDENIED (codes "access denied")
answer_of NeedInitial = by_private KRB5_KPASSWD_INITIAL_FLAG_NEEDED (codes "initial ticket needed")
answer_of Unknown = by_private KRB5_KPASSWD_HARDERROR (codes "no such principal")
answer_of Short = by_private KRB5_KPASSWD_SOFTERROR (codes "password too short")
answer_of Classes = by_private KRB5_KPASSWD_SOFTERROR (codes "too few character classes")
answer_of Reused = by_private KRB5_KPASSWD_SOFTERROR (codes "password used before")
answer_of LastVersion = by_private KRB5_KPASSWD_HARDERROR (codes "no version left")
answer_of Broken = by_private KRB5_KPASSWD_HARDERROR (codes "journal failed")
answer_of Done = by_private KRB5_KPASSWD_SUCCESS (codes "password changed")

-- the answer to a raise, by a result code and a text; no message carries it
pub record Told : Type 0 where
  pub code : ℕ
  pub text : List ℕ

abbrev pub told_of : RaiseVerdict → Told
told_of raise.NotHigher = record { code = KRB5_KPASSWD_SOFTERROR; text = codes "count not higher" }
told_of raise.Broken = record { code = KRB5_KPASSWD_HARDERROR; text = codes "journal failed" }
told_of raise.Raised = record { code = KRB5_KPASSWD_SUCCESS; text = codes "count raised" }

-- the answer to an update from the KDC, likewise
abbrev pub taken_text : KdcUpdate → List ℕ
taken_text (update.Adopt name key) = codes "adopted"
taken_text (update.Lift name kvno) = codes "lifted"
taken_text (update.Remove name) = codes "removed"

abbrev pub told_of_update : KdcUpdate → UpdateVerdict → Told
told_of_update u taking.NoSuchPrincipal = record { code = KRB5_KPASSWD_HARDERROR; text = codes "no such principal" }
told_of_update u taking.NotNewer = record { code = KRB5_KPASSWD_HARDERROR; text = codes "not newer" }
told_of_update u taking.Broken = record { code = KRB5_KPASSWD_HARDERROR; text = codes "journal failed" }
told_of_update u taking.Taken = record { code = KRB5_KPASSWD_SUCCESS; text = taken_text u }
