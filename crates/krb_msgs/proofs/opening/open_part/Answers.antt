use Rattle.std.proofs.Common.{rules, ◌≡◌, ℕ, List, refl, ◌∙◌, Err}
use Rattle.std.specs.Result.{IsErrOf}
use Rattle.krb_keys.specs.declared.key.Key.{Key}
use Rattle.krb_keys.specs.declared.sealing.UnsealFault.{UnsealFault}
use Rattle.krb_keys.specs.declared.sealing.UnsealFault.TheVariants as unsealing
use Rattle.krb_keys.specs.Sealing.{IsSealed, SealsNothing}
use Rattle.krb_msgs.specs.Checks.{of_one, of_none, goes_on, stops}
use Rattle.krb_msgs.specs.Parts.{OpensPart, Reads}
use Rattle.krb_msgs.proofs.AnswerLemmas.{says}
use Rattle.krb_msgs.proofs.opening.open_part.Goals as goal

-- a text that doesn't unseal seals nothing, whatever the fault: for memory it can't be
of_any_fault : {T : Type 0} (key : Key) (usage : ℕ) (cipher : List ℕ) (fault : UnsealFault)
    → (IsErrOf {T = T} (Err fault) unsealing.TooShort → SealsNothing key usage cipher)
    → (IsErrOf {T = T} (Err fault) unsealing.BadMac → SealsNothing key usage cipher)
    → (IsErrOf {T = T} (Err fault) unsealing.Memory → ⊥) → SealsNothing key usage cipher
of_any_fault key usage cipher unsealing.TooShort too_short bad_mac no_memory = too_short refl
of_any_fault key usage cipher unsealing.BadMac too_short bad_mac no_memory = bad_mac refl
of_any_fault key usage cipher unsealing.Memory too_short bad_mac no_memory = absurd (no_memory refl)

pub returns-then-part-number : goal.returns-then-part-number
returns-then-part-number g c = stops c.args.sealed_otherwise (of_none (λ plain is. let same = is.0 in search (rules, same)) refl) refl

pub returns-in-Ok : goal.returns-in-Ok
returns-in-Ok g c =
    let there : c.deref_mut.result.now ≡ c.args.part.cipher = c.deref_mut.ensures.value ∙ c.into_vec-text.ensures.value in
    let sealed : IsSealed c.args.key.now c.args.usage c.args.part.cipher c.in-Ok.plain.now = rw there at c.in-Ok.ensures.found in
    says (Reads g.T.Element.shape g.T.Element.value c.in-Ok.plain.now c.args.spelled_otherwise)
    (OpensPart g.T.Element.shape g.T.Element.value c.args.key.now c.args.usage c.args.part c.args.sealed_otherwise c.args.spelled_otherwise)
    (λ r h. goes_on c.in-Ok.plain.now (of_one c.in-Ok.plain.now (search rules, sealed) refl) h) c.read_record.result c.read_record.ensures

pub returns-in-Err : goal.returns-in-Err
returns-in-Err g c =
    let there : c.deref_mut.result.now ≡ c.args.part.cipher = c.deref_mut.ensures.value ∙ c.into_vec-text.ensures.value in
    let e = c.in-Err.ensures in
    let nothing = of_any_fault c.args.key.now c.args.usage c.deref_mut.result.now c.in-Err.field-0 e.too_short e.bad_mac e.no_memory in
    stops c.args.sealed_otherwise (of_none (λ plain is. nothing plain (rw there is.1)) refl) refl
