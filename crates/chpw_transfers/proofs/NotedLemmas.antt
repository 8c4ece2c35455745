-- A round over the slots that are noted.
use Rattle.std.proofs.Common.{◌≡◌, ◌∙◌, ℕ, ◌+◌, ◌<◌, ◌≤◌, List, [], ◌∷◌, ◌++◌, length, Option, Some, None, refl, sym, ap, subst, arith}
use Rattle.std.proofs.Common.{append_assoc, length-append}
use Rattle.std.proofs.lemmas.List.{append-nil}
use Rattle.std.specs.Prelude.{IfSome}
use Rattle.chpw_transfers.specs.Rounds.{LooksAtFirst}

-- of the slots that were noted so many were looked at; the others still are noted, before those that were noted meanwhile
pub record Looks (slots : List ℕ) (after : Option (List ℕ)) (before seen : List ℕ) (count : ℕ) : Type 0 where
  pub done : List ℕ
  pub left : List ℕ
  pub more : List ℕ
  pub all : slots ≡ done ++ left
  pub so_many : length done ≡ count
  pub noted : after ≡ Some (left ++ more)
  pub looked : seen ≡ before ++ done

-- if it is known which were
abbrev pub LooksIf : Option (List ℕ) → Option (List ℕ) → List ℕ → List ℕ → ℕ → Type 0
LooksIf slots after before seen count = IfSome slots (λ noted. Looks noted after before seen count)

pub looks_first : (slots : Option (List ℕ)) (seen : List ℕ) → LooksIf slots slots seen seen 0
looks_first None seen = tt
looks_first (Some slots) seen = record {
  done = [];
  left = slots;
  more = [];
  all = refl;
  so_many = refl;
  noted = ap Some (sym (append-nil slots));
  looked = sym (append-nil seen);
}

-- one more
looks_on : (slots done left more before seen behind : List ℕ) (after next : Option (List ℕ)) (count : ℕ)
    → slots ≡ done ++ left → length done ≡ count → after ≡ Some (left ++ more) → seen ≡ before ++ done → count < length slots
    → LooksAtFirst after next seen behind → Looks slots next before behind (count + 1)
looks_on slots done [] more before seen behind after next count all so_many noted looked within first =
    let e = ap length all ∙ length-append done [] in absurd (omega arith)
looks_on slots done (x ∷ left) more before seen behind after next count all so_many noted looked within first =
    let one : LooksAtFirst (Some (x ∷ (left ++ more))) next seen behind = subst (λ (o : Option (List ℕ)). LooksAtFirst o next seen behind) noted first in
    let longer = length-append done (x ∷ []) in
    record {
      done = done ++ x ∷ [];
      left = left;
      more = more ++ one.0.0;
      all = all ∙ sym (append_assoc done (x ∷ []) left);
      so_many = omega arith;
      noted = one.0.1 ∙ ap Some (append_assoc left more one.0.0);
      looked = one.1 ∙ ap (λ (l : List ℕ). l ++ x ∷ []) looked ∙ append_assoc before done (x ∷ []);
    }

pub looks_next : (slots after next : Option (List ℕ)) (before seen behind : List ℕ) (count all : ℕ) → IfSome slots (λ noted. all ≡ length noted)
    → count < all → LooksIf slots after before seen count → LooksAtFirst after next seen behind → LooksIf slots next before behind (count + 1)
looks_next None after next before seen behind count all is within looks first = tt
looks_next (Some slots) after next before seen behind count all is within looks first =
    looks_on slots looks.done looks.left looks.more before seen behind after next count looks.all looks.so_many looks.noted looks.looked
    (omega (arith, is, within)) first

-- all of them
none_left : (left : List ℕ) → length left ≤ 0 → left ≡ []
none_left [] none = refl
none_left (x ∷ left) none = absurd (omega (arith, none))

pub looks_all : (slots after : Option (List ℕ)) (before seen : List ℕ) (count all : ℕ) → IfSome slots (λ noted. all ≡ length noted)
    → all ≤ count → LooksIf slots after before seen count → IfSome slots (λ noted. seen ≡ before ++ noted)
looks_all None after before seen count all is past looks = tt
looks_all (Some slots) after before seen count all is past looks =
    let both = ap length looks.all ∙ length-append looks.done looks.left in
    let same = looks.so_many in
    let none : looks.left ≡ [] = none_left looks.left (omega arith) in
    let done : slots ≡ looks.done = looks.all ∙ ap (λ (l : List ℕ). looks.done ++ l) none ∙ append-nil looks.done in
    looks.looked ∙ ap (λ (l : List ℕ). before ++ l) (sym done)
