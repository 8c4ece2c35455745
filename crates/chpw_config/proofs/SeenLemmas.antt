-- Texts that spell names, among those read so far.
use Rattle.std.proofs.Common.{◌≡◌, ◌∙◌, sym, ap, ℕ, Bool, true, false, List, Some, refl, cond, ◌||◌, [], ◌∷◌, ◌++◌}
use Rattle.std.specs.Bool.{Decides}
use Rattle.std.specs.Cmp.Lexicographic.{slice_cmp}
use Rattle.std.specs.Ordering.{is_eq, nat_cmp}
use Rattle.std.specs.List.{join_with_byte, list_any}
use Rattle.std.specs.Str.{bytes_eq}
use Rattle.std.proofs.lemmas.List.Folds.{list_any-append}
use Rattle.std.proofs.lemmas.Map.Text.{is_eq-slice_cmp}
use Rattle.std.proofs.lemmas.Slice.Eq.{bytes_eq-Decides}
use Rattle.chpw_rules.specs.declared.name.Name.{Name}
use Rattle.chpw_rules.specs.Names.{is_same_name, name_of, name_from, parts_of}
use Rattle.chpw_rules.proofs.NameLemmas.{is_same_name-Decides, joined, name_of_parts}

two_tests : (p q : Bool) (P Q : Type 0) → Decides p P → Decides q Q → (P → Q) → (Q → P) → p ≡ q
two_tests true true P Q dp dq there back = refl
two_tests true false P Q dp dq there back = sym (dq.1 (there (dp.0 refl)))
two_tests false true P Q dp dq there back = dp.1 (back (dq.0 refl))
two_tests false false P Q dp dq there back = refl

-- two texts spell one name where they are the same
pub same_texts : (s t : List ℕ) (a b : Name) → name_of s ≡ Some a → name_of t ≡ Some b
    → is_same_name a b ≡ bytes_eq t s
same_texts s t a b ea eb =
    two_tests (is_same_name a b) (bytes_eq t s) (a.parts ≡ b.parts) (t ≡ s) (is_same_name-Decides a b) (bytes_eq-Decides t s)
    (λ same. sym (joined t b eb) ∙ ap (join_with_byte 47) (sym same) ∙ joined s a ea)
    (λ same. ap (λ (n : Name). n.parts) (sym (name_of_parts s a ea) ∙ ap (λ text. name_from (parts_of text)) (sym same) ∙ name_of_parts t b eb))

-- one more text among those that are known
pub known_more : (s t : List ℕ) (a b : Name) (names : List Name) (seen : Bool) → name_of s ≡ Some a → name_of t ≡ Some b
    → seen ≡ list_any (is_same_name b) names
    → cond (is_eq (slice_cmp nat_cmp s t)) true seen ≡ list_any (is_same_name b) (names ++ a ∷ [])
known_more s t a b names seen ea eb known =
    rw (list_any-append (is_same_name b) names (a ∷ []), is_eq-slice_cmp s t, ← same_texts t s b a eb ea, ← known)
    (among (is_same_name b a) seen)
  where
    among : (here before : Bool) → cond here true before ≡ (before || (here || false))
    among true true = refl
    among true false = refl
    among false true = refl
    among false false = refl
