use Rattle.std.proofs.Common.{rules, ◌≡◌}
use Rattle.std.proofs.lemmas.Slice.Eq.{bytes_eq-Decides, slice_eq-Decides}
use Rattle.krb_msgs.proofs.accepting.is_same_client.Goals as goal

pub returns-then-eq : goal.returns-then-eq
returns-then-eq c =
    let part = c.args.part.now in
    let a = c.args.authenticator.now in
    let names = slice_eq-Decides bytes_eq-Decides part.cname.name_string a.cname.name_string c.eq-then-eq.result c.eq-then-eq.ensures in
    let realm : part.crealm ≡ a.crealm = search rules in
    (λ yes. (realm, names.0 yes), λ same. names.1 same.1)
