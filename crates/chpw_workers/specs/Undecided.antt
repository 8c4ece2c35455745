-- A request that opens and isn't decided, since the KDC is out of reach.
use Rattle.std.specs.Prelude.{◌≡◌, ℕ, List, codes}
use Rattle.krb_protocol.specs.declared.codes.TheConstants.{KRB5_KPASSWD_HARDERROR, KRB_ERR_GENERIC}
use Rattle.chpw_endpoints.specs.declared.endpoints.Endpoints.{Endpoints}
use Rattle.chpw_table.specs.Replies.{Answer, by_error}
use Rattle.chpw_serve.specs.Requests.{Opens, refused, opened}

abbrev pub kdc_out_of_reach : Answer
kdc_out_of_reach = by_error KRB5_KPASSWD_HARDERROR KRB_ERR_GENERIC (codes "KDC out of reach")

-- it is refused, and what doesn't open is refused as ever
abbrev pub undecided : Opens → Opens
undecided (refused a) = refused a
undecided (opened q) = refused kdc_out_of_reach

abbrev pub OpensUndecided : (Endpoints → List ℕ → Opens → Type 0) → Endpoints → List ℕ → Opens → Type 0
OpensUndecided opens ends text o = (found : Opens) × opens ends text found × (o ≡ undecided found)
