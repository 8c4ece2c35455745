-- The numbers of each row's reply in digits: its result code (RFC 3244 section 2), and the error code of its KRB-ERROR
-- (RFC 4120 section 7.5.9) where it is answered by one.
use Rattle.std.specs.Prelude.{◌≡◌, ℕ, pos, Some, None}
use Rattle.chpw_table.specs.declared.raising.RaiseVerdict.TheVariants as raise
use Rattle.chpw_table.specs.declared.updating.KdcUpdate.{KdcUpdate}
use Rattle.chpw_table.specs.declared.updating.UpdateVerdict.TheVariants as taking
use Rattle.chpw_table.specs.declared.verdict.Verdict.{Verdict}
use Rattle.chpw_table.specs.declared.verdict.Verdict.TheVariants as row
use Rattle.chpw_table.specs.Replies.{answer_of, told_of, told_of_update}

-- the result code and the error code of a KRB-ERROR
abbrev pub ByError : Verdict → ℕ → ℕ → Type 0
ByError v code error = ((answer_of v).code ≡ code) × ((answer_of v).error ≡ Some (pos error))

-- the result code in a KRB-PRIV
abbrev pub ByPrivate : Verdict → ℕ → Type 0
ByPrivate v code = ((answer_of v).code ≡ code) × ((answer_of v).error ≡ None)

-- AUTHERROR, with AP_ERR_SKEW, AP_ERR_REPEAT, AP_ERR_TKT_NYV and AP_ERR_TKT_EXPIRED
pub record ErrorRows : Type 0 where
  pub skew : ByError row.Skew 3 37
  pub replay : ByError row.Replay 3 34
  pub not_yet : ByError row.NotYet 3 33
  pub expired : ByError row.Expired 3 32

-- AUTHERROR, MALFORMED, ACCESSDENIED, INITIAL_FLAG_NEEDED; HARDERROR or SOFTERROR; SUCCESS
pub record PrivateRows : Type 0 where
  pub bad_private : ByPrivate row.BadPrivate 3
  pub bad_body : ByPrivate row.BadBody 1
  pub denied : ByPrivate row.Denied 5
  pub need_initial : ByPrivate row.NeedInitial 7
  pub unknown : ByPrivate row.Unknown 2
  pub short : ByPrivate row.Short 4
  pub classes : ByPrivate row.Classes 4
  pub reused : ByPrivate row.Reused 4
  pub last_version : ByPrivate row.LastVersion 2
  pub broken : ByPrivate row.Broken 2
  pub done : ByPrivate row.Done 0

-- what an administrator is told of a raise: SOFTERROR, HARDERROR, SUCCESS
pub record RaiseRows : Type 0 where
  pub not_higher : (told_of raise.NotHigher).code ≡ 4
  pub broken : (told_of raise.Broken).code ≡ 2
  pub raised : (told_of raise.Raised).code ≡ 0

-- and of an update from the KDC: HARDERROR, SUCCESS
pub record UpdateRows (u : KdcUpdate) : Type 0 where
  pub no_such_principal : (told_of_update u taking.NoSuchPrincipal).code ≡ 2
  pub not_newer : (told_of_update u taking.NotNewer).code ≡ 2
  pub broken : (told_of_update u taking.Broken).code ≡ 2
  pub taken : (told_of_update u taking.Taken).code ≡ 0
