-- What a message is refused with: result code (RFC 3244 section 2), error code (RFC 4120 section
-- 7.5.9) and text.
use Rattle.std.specs.Prelude.{ℕ, ℤ, List}
use Rattle.krb_protocol.specs.declared.refusal.Refusal as program

pub record Refusal : Type 0 where
  pub code : ℕ
  pub error : ℤ
  pub text : List ℕ

-- the definition's view of a refusal
abbrev pub said : program.Refusal → Refusal
said r = record { code = r.code; error = r.error; text = r.text.now }
