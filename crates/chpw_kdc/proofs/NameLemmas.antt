-- The components that words spell, read one after the other.
use Rattle.std.proofs.Common.{◌≡◌, ℕ, List, [], ◌∷◌, ◌++◌, Result, Ok, Err, refl, sym, ◌∙◌, ap, append_assoc, append-nil, inl, inr}
use Rattle.chpw_kdc.specs.declared.fault.LineFault.{LineFault}
use Rattle.chpw_kdc.specs.Faults.{IsReadFault, ReadUnlessMemory}
use Rattle.chpw_kdc.specs.Lines.{part_of, parts_from, ◌>>=◌}

-- these parts in front of the others
abbrev pub in_front : List (List ℕ) → Result (List (List ℕ)) LineFault → Result (List (List ℕ)) LineFault
in_front done (Ok parts) = Ok (done ++ parts)
in_front done (Err why) = Err why

one_more : (done : List (List ℕ)) (part : List ℕ) (others : Result (List (List ℕ)) LineFault)
    → in_front (done ++ part ∷ []) others ≡ in_front done (others >>= (λ parts. Ok (part ∷ parts)))
one_more done part (Ok parts) = ap (λ (ps : List (List ℕ)). Ok ps) (append_assoc done (part ∷ []) parts)
one_more done part (Err why) = refl

-- another part was read
pub read_one : (done : List (List ℕ)) (word : List ℕ) (words : List (List ℕ)) (part : List ℕ) (whole : Result (List (List ℕ)) LineFault)
    → ReadUnlessMemory (Ok part) (part_of word) → in_front done (parts_from (word ∷ words)) ≡ whole
    → in_front (done ++ part ∷ []) (parts_from words) ≡ whole
read_one done word words part whole (inl none) h = cc
read_one done word words part whole (inr is) h =
    one_more done part (parts_from words)
    ∙ (ap (λ (r : Result (List ℕ) LineFault). in_front done (r >>= (λ p. parts_from words >>= (λ ps. Ok (p ∷ ps))))) is ∙ h)

-- a part was not read
pub read_fault : (done : List (List ℕ)) (word : List ℕ) (words : List (List ℕ)) (why : LineFault) (whole : Result (List (List ℕ)) LineFault)
    → ReadUnlessMemory {A = List ℕ} (Err why) (part_of word) → in_front done (parts_from (word ∷ words)) ≡ whole → IsReadFault whole why
read_fault done word words why whole (inl none) h = inl cc
read_fault done word words why whole (inr is) h =
    inr (sym h ∙ ap (λ (r : Result (List ℕ) LineFault). in_front done (r >>= (λ p. parts_from words >>= (λ ps. Ok (p ∷ ps))))) (sym is))

pub all_read : (done : List (List ℕ)) (whole : Result (List (List ℕ)) LineFault) → in_front done (parts_from []) ≡ whole → whole ≡ Ok done
all_read done whole h = sym h ∙ ap (λ (ps : List (List ℕ)). Ok ps) (append-nil done)
