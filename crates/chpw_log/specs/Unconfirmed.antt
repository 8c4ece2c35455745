-- The line for a change whose reply was sent although the KDC hadn't confirmed it.
use Rattle.std.specs.Prelude.{ℕ, List, [], ◌∷◌, ◌++◌, codes}
use Rattle.std.specs.List.{join_with_byte}
use Rattle.std.specs.Fmt.{decimal}
use Rattle.std.specs.declared.net.ip_addr.IpAddr.{IpAddr}
use Rattle.chpw_table.specs.declared.times.Moment.{Moment}
use Rattle.chpw_log.specs.Lines.{address_text}
use Rattle.chpw_log.specs.Moments.{moment_text}

-- the change of this number since the service started
abbrev pub unconfirmed_words : ℕ → List ℕ
unconfirmed_words ticket = codes "not confirmed by the KDC: change " ++ decimal ticket

-- the peer whose reply it was; the change itself has a line of its own before it
abbrev pub unconfirmed_fields : Moment → IpAddr → ℕ → List (List ℕ)
unconfirmed_fields moment peer ticket =
    moment_text moment
    ∷ codes "worker" ∷ codes "-"
    ∷ codes "peer" ∷ address_text peer
    ∷ codes "client" ∷ codes "-"
    ∷ codes "target" ∷ codes "-"
    ∷ codes "code" ∷ codes "-"
    ∷ codes "error" ∷ codes "-"
    ∷ codes "kvno" ∷ codes "-"
    ∷ codes "text" ∷ unconfirmed_words ticket ∷ []

abbrev pub unconfirmed_line : Moment → IpAddr → ℕ → List ℕ
unconfirmed_line moment peer ticket = join_with_byte 32 (unconfirmed_fields moment peer ticket) ++ codes "\n"
