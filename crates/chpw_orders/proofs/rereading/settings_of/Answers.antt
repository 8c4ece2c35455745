-- Bytes are UTF-8 exactly where they are a text.
use Rattle.std.proofs.Common.{◌≡◌, ℕ, List, Bool, true, false, refl, rules}
use Rattle.std.proofs.lemmas.Str.{IsUtf8-from_is_utf8, is_utf8-from_IsUtf8}
use Rattle.std.specs.Str.{IsUtf8, is_utf8}
use Rattle.chpw_orders.proofs.rereading.settings_of.Goals as goal

false_unless : (b : Bool) → ¬ (b ≡ true) → b ≡ false
false_unless true h = absurd (h refl)
false_unless false h = refl

utf8_no : (bytes : List ℕ) → ¬ (IsUtf8 bytes) → is_utf8 bytes ≡ false
utf8_no bytes h = false_unless (is_utf8 bytes) (λ e. h (IsUtf8-from_is_utf8 bytes e))

pub returns-in-Ok : goal.returns-in-Ok
returns-in-Ok c = record {
  value = rw (is_utf8-from_IsUtf8 c.args.text.now c.in-Ok.ensures.cases.1, ← c.in-Ok.ensures.cases.0) c.setting_warnings.ensures.value;
}

pub returns-in-Err : goal.returns-in-Err
returns-in-Err c = record { value = rw (utf8_no c.args.text.now c.in-Err.ensures.cases.0) (search rules) }
