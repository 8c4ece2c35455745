-- The request that a `Request` stands for.
use Rattle.chpw_kdc.specs.declared.request.Request.{Request as UnderWay}
use Rattle.chpw_kdc.specs.declared.request.Request.TheVariants as asked
use Rattle.chpw_kdc.specs.Lines.{Request, list_keys, get, put}

abbrev pub request_of : UnderWay → Request
request_of asked.ListKeys = list_keys
request_of (asked.Get name) = get name.now
request_of (asked.Put name key) = put name.now key.now
