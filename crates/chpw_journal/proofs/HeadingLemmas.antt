-- What a journal begins with, and what is restored from after that.
use Rattle.std.proofs.Common.{◌≡◌, ℕ, ◌+◌, ◌-◌, ◌<◌, ◌≤◌, List, [], ◌∷◌, ◌++◌, length, true, false, inr, Option, None, Some, IfSome, refl}
use Rattle.std.proofs.Common.{sym, ◌∙◌, ap, subst, arith, length-append, append-nil}
use Rattle.std.specs.Int.{from_be_bytes, to_be_bytes, w16}
use Rattle.std.specs.Io.KnownBytes.{Consumes, IsAtEnd}
use Rattle.std.proofs.lemmas.List.{take-append-le}
use Rattle.std.specs.Fmt.{option_append}
use Rattle.chpw_record.specs.Records.{stated_length}
use Rattle.chpw_table.specs.Agreement.{Held}
use Rattle.chpw_journal.specs.declared.fault.RestoreFault.{RestoreFault}
use Rattle.chpw_journal.specs.declared.fault.RestoreFault.TheVariants as fault
use Rattle.chpw_journal.specs.declared.restoring.Restored.{Restored}
use Rattle.chpw_journal.specs.Restoring.{IsRestored, IsRefused}
use Rattle.chpw_journal.specs.Headings.{begins_as_heading, realm_record, IsPartOfHeading, IsWholeRestored, IsWholeRefused}

-- ---- its first three bytes

-- three bytes tell
pub begins_stays : (head rest : List ℕ) → 3 ≤ length head → begins_as_heading (head ++ rest) ≡ begins_as_heading head
begins_stays [] rest h = absurd (omega (arith, h))
begins_stays (a ∷ []) rest h = absurd (omega (arith, h))
begins_stays (a ∷ b ∷ []) rest h = absurd (omega (arith, h))
begins_stays (a ∷ b ∷ k ∷ more) rest h = refl

-- and with fewer there is none
pub too_short : (text : List ℕ) → length text < 3 → begins_as_heading text ≡ false
too_short [] h = refl
too_short (a ∷ []) h = refl
too_short (a ∷ b ∷ []) h = refl
too_short (a ∷ b ∷ k ∷ more) h = absurd (omega (arith, h))

-- nor does all that a reader has, where that is fewer
pub short_unheaded : (old new : Option (List ℕ)) (read : List ℕ) → Consumes old new read → IsAtEnd new → length read < 3
    → IfSome old (λ text. false ≡ begins_as_heading text)
short_unheaded None new read d e h = tt
short_unheaded (Some xs) None read d e h = absurd d
short_unheaded (Some xs) (Some ys) read d e h =
    let same : xs ≡ read = d ∙ (ap (λ (zs : List ℕ). read ++ zs) e ∙ append-nil read) in
    sym (ap begins_as_heading same ∙ too_short read h)

pub part_of_heading : (head rest : List ℕ) (n : ℕ) → length head ≡ 3 → begins_as_heading head ≡ true → n ≡ stated_length head
    → length rest < n - 1 → IsPartOfHeading (head ++ rest)
part_of_heading head rest n three begins stated few =
    let same : stated_length (head ++ rest) ≡ stated_length head = ap (from_be_bytes w16) (take-append-le 2 head rest (omega (arith, three))) in
    let size = length-append head rest in
    (begins_stays head rest (omega (arith, three)) ∙ begins, omega (arith, size, three, stated, same, few))

-- ---- without a realm's record

-- what was read of bytes that aren't known
forget_fault : (before : Held) (given left : Option (List ℕ)) (f : RestoreFault) → IsRefused before given left f → IsRefused before None left f
forget_fault before given left (fault.BadRecord n) h = (h.0, tt, h.2)
forget_fault before given left (fault.WrongVersion n) h = (h.0, tt, h.2)
forget_fault before given left (fault.UnknownPrincipal n) h = (h.0, tt, h.2)
forget_fault before given left (fault.TooMany n) h = (h.0, tt, h.2)
forget_fault before given left fault.OtherRealm h = absurd h
forget_fault before given left fault.CannotRead h = (h.0, h.1, tt, h.3)
forget_fault before given left fault.Memory h = tt

pub unnamed_refused : (before : Held) (old mid given left : Option (List ℕ)) (head : List ℕ) (f : RestoreFault) → given ≡ option_append (Some head) mid
    → Consumes old mid head → IfSome old (λ text. begins_as_heading text ≡ false) → IsRefused before given left f → IsWholeRefused before old f
unnamed_refused before None mid given left head f e d none h = inr (false, None, left, (refl, tt), forget_fault before given left f h)
unnamed_refused before (Some xs) None given left head f e d none h = absurd d
unnamed_refused before (Some xs) (Some ys) given left head f e d none h =
    inr (false, Some xs, left, (refl, none), subst (λ (o : Option (List ℕ)). IsRefused before o left f) (e ∙ ap Some (sym d)) h)

-- ---- after the record of the realm

record_length : (realm : List ℕ) → length (realm_record realm) ≡ 3 + length realm
record_length realm =
    let size = length-append (to_be_bytes w16 (1 + length realm)) (7 ∷ realm) in
    omega (arith, size)

pub named_restored : (before : Held) (old mid left : Option (List ℕ)) (realm : List ℕ) (r later : Restored) → realm ≡ before.state.fixed.realm
    → Consumes old mid (realm_record realm) → IsRestored before mid left r → later ≡ record r { kept = r.kept + (3 + length realm) }
    → IsWholeRestored before old later
named_restored before old mid left realm r later same d h e =
    let size : length (realm_record before.state.fixed.realm) ≡ 3 + length realm =
    ap (λ (xs : List ℕ). length (realm_record xs)) (sym same) ∙ record_length realm in
    record {
      is_named = true;
      behind = mid;
      left = left;
      headed = subst (λ (xs : List ℕ). Consumes old mid (realm_record xs)) same d;
      records = r;
      read = h;
      whole = e ∙ ap (λ (n : ℕ). record r { kept = n }) (omega (arith, size));
    }

pub named_refused : (before : Held) (old mid left : Option (List ℕ)) (realm : List ℕ) (f : RestoreFault) → realm ≡ before.state.fixed.realm
    → Consumes old mid (realm_record realm) → IsRefused before mid left f → IsWholeRefused before old f
named_refused before old mid left realm f same d h =
    inr (true, mid, left, subst (λ (xs : List ℕ). Consumes old mid (realm_record xs)) same d, h)
