-- What is printed of lines.
use Rattle.std.proofs.Common.{◌≡◌, true, List, [], ◌∷◌, ℕ, refl, ap, ◌∙◌}
use Rattle.std.proofs.lemmas.Bool.{and_from, and_parts}
use Rattle.chpw_rules.specs.Limits.{range, is_in}
use Rattle.chpw_printing.specs.Quoting.{are_graphic, are_printed}
use Rattle.chpw_printing.specs.Lines.{are_lines, is_plain_in_lines}
use Rattle.chpw_printing.proofs.QuotingLemmas.{graphic_printed}

printed_line : (byte : ℕ) → is_in (range 0x20 0x7e) byte ≡ true → is_plain_in_lines byte ≡ true
printed_line byte h = rw h refl

printed_lines : (text : List ℕ) → are_printed text ≡ true → are_lines text ≡ true
printed_lines [] h = refl
printed_lines (byte ∷ rest) h =
    let parts = and_parts _ _ h in
    and_from _ _ (printed_line byte parts.0) (printed_lines rest parts.1)

-- what is graphic may stand in a line
pub graphic_lines : (text : List ℕ) → are_graphic text ≡ true → are_lines text ≡ true
graphic_lines text h = printed_lines text (graphic_printed text h)
