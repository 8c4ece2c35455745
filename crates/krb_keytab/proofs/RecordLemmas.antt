-- Records read one after the other, as the loop does.
use Rattle.std.proofs.Common.{◌≡◌, ℕ, zero, suc, ◌-◌, ◌+◌, ◌≤◌, Bool, true, false, cond, List, [], ◌∷◌, ◌++◌}
use Rattle.std.proofs.Common.{length, Some, None, Result, Ok, Err, refl, sym, ap, subst, ◌∙◌, append_assoc, arith}
use Rattle.std.proofs.lemmas.List.{append-nil, length-take-le, length-drop}
use Rattle.std.proofs.lemmas.Bool.{ltb-false}
use Rattle.std.specs.Prelude.{take, drop, nat_lt, ◌==◌, ◌^◌}
use Rattle.krb_keytab.specs.declared.fault.KeytabFault.{KeytabFault}
use Rattle.krb_keytab.specs.declared.fault.KeytabFault.TheVariants.{CutOff, BadLength}
use Rattle.krb_keytab.specs.declared.fault.KeytabError.{KeytabError}
use Rattle.krb_keytab.specs.declared.fault.KeytabError.TheVariants as error
use Rattle.krb_keytab.specs.Entries.{Entry}
use Rattle.krb_keytab.specs.Keytabs.{Piece, ◌>>=◌, record_at, from_place, length_at, is_positive, size_of}
use Rattle.krb_keytab.specs.Answers.{Fails, placed}

-- what was read before, and what is still read
abbrev pub with_front : List Entry → Result (List Entry) KeytabFault → Result (List Entry) KeytabFault
with_front front read = read >>= λ es. Ok (front ++ es)

pub starts_out : (read : Result (List Entry) KeytabFault) → with_front [] read ≡ read
starts_out (Ok es) = refl
starts_out (Err fault) = refl

regroup : (front : List Entry) (e : Entry) (read : Result (List Entry) KeytabFault)
    → with_front front (read >>= λ es. Ok (e ∷ es)) ≡ with_front (front ++ e ∷ []) read
regroup front e (Ok es) = ap (λ (xs : List Entry). Ok xs) (simp append_assoc)
regroup front e (Err fault) = refl

-- the file's records, some of them read: the entries so far and those of the rest are those of all
pub record IsBegun (front : List Entry) (place : ℕ) (rest : List ℕ) (total : Result (List Entry) KeytabFault) : Type 0 where
  pub budget : ℕ
  pub enough : length rest ≤ budget
  pub so_far : with_front front (from_place budget place rest) ≡ total

-- nothing is left to read
pub at_end : (place : ℕ) (rest : List ℕ) → length rest ≤ 0 → record_at place rest ≡ Ok None
unfolding record_at
at_end place [] none = refl
at_end place (x ∷ xs) none = absurd (omega arith)

-- what a record that is found says of the tests before it
found : (place : ℕ) (a b c d e : Bool) (p q : Piece)
    → cond a (Ok None) (cond b (Err (CutOff place))
    (cond c (Ok None) (cond d (Err (BadLength place)) (cond e (Err (CutOff place)) (Ok (Some p)))))) ≡ Ok (Some q)
    → (b ≡ false) × (e ≡ false) × (p ≡ q)
found place false false false false false p q h = (refl, refl, cc)
found place a b c d e p q h = cc

-- a record and what follows it make up the bytes, after the four of its length
pub whole : (place : ℕ) (bytes : List ℕ) (piece : Piece) → record_at place bytes ≡ Ok (Some piece) → length bytes ≡ 4 + length piece.bytes + length piece.rest
unfolding record_at
whole place bytes piece h =
    let n : ℕ = length_at bytes in
    let behind : List ℕ = drop 4 bytes in
    let made : Piece = record { is_entry = is_positive n; bytes = take (size_of n) behind; rest = drop (size_of n) behind } in
    let f = found place (length bytes == 0) (nat_lt (length bytes) 4) (n == 0) (n == 2 ^ 31) (nat_lt (length behind) (size_of n)) made piece h in
    let four : 4 ≤ length bytes = ltb-false _ _ f.0 in
    let fits : size_of n ≤ length behind = ltb-false _ _ f.1 in
    let size : length (take (size_of n) behind) ≡ size_of n = length-take-le (size_of n) behind fits in
    let left : length (drop (size_of n) behind) ≡ length behind - size_of n = length-drop (size_of n) behind in
    let after_is : length behind ≡ length bytes - 4 = length-drop 4 bytes in
    let made_whole : length bytes ≡ 4 + length made.bytes + length made.rest = omega (arith, four, fits, size, left, after_is) in
    subst (λ (p : Piece). length bytes ≡ 4 + length p.bytes + length p.rest) f.2 made_whole

pub begins : (file : List ℕ) (place : ℕ) (rest : List ℕ) → length rest ≤ length file → IsBegun [] place rest (from_place (length file) place rest)
begins file place rest within = record { budget = length file; enough = within; so_far = starts_out _ }

pub past_entry : (front : List Entry) (place : ℕ) (rest : List ℕ) (total : Result (List Entry) KeytabFault) (piece : Piece) (e : Entry)
    → IsBegun front place rest total → record_at place rest ≡ Ok (Some piece) → piece.is_entry ≡ true → placed place piece.bytes ≡ Ok e
    → IsBegun (front ++ e ∷ []) (place + (4 + length piece.bytes)) piece.rest total
past_entry front place rest total piece e begun next is one = past begun.budget begun.enough begun.so_far
  where
    past : (budget : ℕ) → length rest ≤ budget → with_front front (from_place budget place rest) ≡ total
        → IsBegun (front ++ e ∷ []) (place + (4 + length piece.bytes)) piece.rest total
    past zero enough so_far = let none = at_end place rest enough in absurd cc
    past (suc b) enough so_far =
        let size = whole place rest piece next in
        let step : with_front front (from_place (suc b) place rest)
        ≡ with_front (front ++ e ∷ []) (from_place b (place + (4 + length piece.bytes)) piece.rest) =
        rw (next, is, one) (regroup front e (from_place b (place + (4 + length piece.bytes)) piece.rest)) in
        record { budget = b; enough = omega (arith, size, enough); so_far = sym step ∙ so_far }

pub past_hole : (front : List Entry) (place : ℕ) (rest : List ℕ) (total : Result (List Entry) KeytabFault) (piece : Piece)
    → IsBegun front place rest total → record_at place rest ≡ Ok (Some piece) → piece.is_entry ≡ false
    → IsBegun front (place + (4 + length piece.bytes)) piece.rest total
past_hole front place rest total piece begun next is = past begun.budget begun.enough begun.so_far
  where
    past : (budget : ℕ) → length rest ≤ budget → with_front front (from_place budget place rest) ≡ total
        → IsBegun front (place + (4 + length piece.bytes)) piece.rest total
    past zero enough so_far = let none = at_end place rest enough in absurd cc
    past (suc b) enough so_far =
        let size = whole place rest piece next in
        let step : with_front front (from_place (suc b) place rest)
        ≡ with_front front (from_place b (place + (4 + length piece.bytes)) piece.rest) = rw (next, is) refl in
        record { budget = b; enough = omega (arith, size, enough); so_far = sym step ∙ so_far }

-- a fault of a record is that of the file
pub record_fails : (front : List Entry) (place : ℕ) (rest : List ℕ) (total : Result (List Entry) KeytabFault) (fault : KeytabFault)
    → IsBegun front place rest total → record_at place rest ≡ Err fault → total ≡ Err fault
record_fails front place rest total fault begun next = fails begun.budget begun.enough begun.so_far
  where
    fails : (budget : ℕ) → length rest ≤ budget → with_front front (from_place budget place rest) ≡ total → total ≡ Err fault
    fails zero enough so_far = let none = at_end place rest enough in absurd cc
    fails (suc b) enough so_far =
        let step : with_front front (from_place (suc b) place rest) ≡ Err fault = rw next refl in
        sym so_far ∙ step

-- and so is the fault of an entry
pub entry_fails : (e : KeytabError) (front : List Entry) (place : ℕ) (rest : List ℕ) (total : Result (List Entry) KeytabFault) (piece : Piece)
    → IsBegun front place rest total → record_at place rest ≡ Ok (Some piece) → piece.is_entry ≡ true → Fails e (placed place piece.bytes) → Fails e total
entry_fails error.Memory front place rest total piece begun next is failed = tt
entry_fails (error.Fault fault) front place rest total piece begun next is failed = fails begun.budget begun.enough begun.so_far
  where
    fails : (budget : ℕ) → length rest ≤ budget → with_front front (from_place budget place rest) ≡ total → total ≡ Err fault
    fails zero enough so_far = let none = at_end place rest enough in absurd cc
    fails (suc b) enough so_far =
        let step : with_front front (from_place (suc b) place rest) ≡ Err fault = rw (next, is, failed) refl in
        sym so_far ∙ step

pub is_done : (front : List Entry) (place : ℕ) (rest : List ℕ) (total : Result (List Entry) KeytabFault)
    → IsBegun front place rest total → record_at place rest ≡ Ok None → total ≡ Ok front
is_done front place rest total begun next = done begun.budget begun.so_far
  where
    done : (budget : ℕ) → with_front front (from_place budget place rest) ≡ total → total ≡ Ok front
    done zero so_far = sym so_far ∙ ap (λ (es : List Entry). Ok es) (append-nil front)
    done (suc b) so_far =
        let step : with_front front (from_place (suc b) place rest) ≡ Ok front = rw next (ap (λ (es : List Entry). Ok es) (append-nil front)) in
        sym so_far ∙ step
