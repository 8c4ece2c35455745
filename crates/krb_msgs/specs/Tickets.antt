-- The contents of a ticket (RFC 4120 section 5.3): its part under the service's key, and the session key.
use Rattle.std.specs.Prelude.{◌≡◌, Some, Result}
use Rattle.krb_keys.specs.Keys.{key_of}
use Rattle.krb_keys.specs.declared.key.Key.{Key}
use Rattle.krb_keys.specs.KeyUsages.{usage_ticket}
use Rattle.krb_der.specs.Types.{enc_ticket_part}
use Rattle.krb_der.specs.Values.{enc_ticket_part_value}
use Rattle.krb_der.specs.declared.encrypted_data.EncryptedData.{EncryptedData}
use Rattle.krb_der.specs.declared.encrypted_data.EncryptionKey.{EncryptionKey}
use Rattle.krb_der.specs.declared.enc_ticket_part.EncTicketPart.{EncTicketPart}
use Rattle.krb_msgs.specs.Checks.{Found, Then, Passed}
use Rattle.krb_msgs.specs.Parts.{OpensPart}
use Rattle.krb_msgs.specs.declared.fault.ApFault.{ApFault}
use Rattle.krb_msgs.specs.declared.fault.ApFault.TheVariants as fault

-- the key that a key field holds
abbrev pub IsKeyIn : EncryptionKey → Key → Type 0
IsKeyIn field key = key_of field.keytype field.keyvalue ≡ Some key

unfoldable pub OpensTicket : Key → EncryptedData → Result (EncTicketPart × Key) ApFault → Type 0
OpensTicket key sealed =
    Then (OpensPart enc_ticket_part enc_ticket_part_value key usage_ticket sealed
    fault.BadTicket fault.BadTicket) (λ (part : EncTicketPart).
    Found (IsKeyIn part.key) fault.BadSessionKey (λ session.
    Passed (part, session)))
