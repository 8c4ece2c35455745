-- Prefixes of a pattern, and prefixes of a text that they match.
use Rattle.std.proofs.Common.{◌≡◌, ◌≢◌, ◌↔◌, ◌⊎◌, inl, inr, ◌∙◌, sym, ap, ℕ, Bool, true, false, not, ◌&&◌, ◌||◌, ◌==◌}
use Rattle.std.proofs.Common.{List, [], ◌∷◌, ◌++◌, append_assoc, refl, cond, subst, zero, add-one, get_or, set, take}
use Rattle.std.proofs.Common.{◌+◌, ◌<◌, ◌≤◌, get_or-set_other, get_or-set_same, suc, length, arith}
use Rattle.std.specs.Bool.{Decides}
use Rattle.std.specs.List.{join_with_byte}
use Rattle.std.proofs.lemmas.Bool.{and_parts, cases_eq, eqb-true, ne_eqb}
use Rattle.std.proofs.lemmas.Bool.Decides.{Decides-eqb, Decides-like, Decides-and, Decides-or, Decides-not}
use Rattle.std.proofs.lemmas.List.{append-nil, take_more}
use Rattle.std.proofs.lemmas.List.Folds.{Any-from_list_any, list_all-append, list_any-from_Any}
use Rattle.chpw_rules.specs.Patterns.{star, slash, after_run, after_byte, any_matches, is_ours, matches, has_no_slash}
use Rattle.chpw_rules.specs.Patterns.{StandsFor, Matches, AnyMatches, IsOurs, of_one_component, spelling}
use Rattle.chpw_rules.specs.declared.name.Name.{Name}
use Rattle.chpw_rules.specs.declared.pattern.NamePatterns.{NamePatterns}
use Rattle.chpw_rules.specs.Prefixes.{AreMatched, is_matched}

-- ---- lists

-- a list is empty or has a last element
pub record Ends {A : Type 0} (xs : List A) : Type 0 where
  pub init : List A
  pub last : A
  pub same : xs ≡ init ++ last ∷ []

ends : {A : Type 0} (x : A) (xs : List A) → Ends (x ∷ xs)
ends x [] = record { init = []; last = x; same = refl }
ends x (y ∷ xs) =
    let e = ends y xs in
    record { init = x ∷ e.init; last = e.last; same = ap (λ l. x ∷ l) e.same }

-- no list with a last element is empty
never_empty : {A : Type 0} (xs : List A) (a : A) → xs ++ a ∷ [] ≡ [] → ⊥
never_empty [] a e = cc
never_empty (x ∷ xs) a e = cc

same_ends : {A : Type 0} (xs ys : List A) (a b : A) → xs ++ a ∷ [] ≡ ys ++ b ∷ [] → (xs ≡ ys) × (a ≡ b)
same_ends [] [] a b e = (refl, cc)
same_ends [] (y ∷ ys) a b e = let rest : [] ≡ ys ++ b ∷ [] = cc in absurd (never_empty ys b (sym rest))
same_ends (x ∷ xs) [] a b e = let rest : xs ++ a ∷ [] ≡ [] = cc in absurd (never_empty xs a rest)
same_ends (x ∷ xs) (y ∷ ys) a b e =
    let first : x ≡ y = cc in
    let rest : xs ++ a ∷ [] ≡ ys ++ b ∷ [] = cc in
    let (inits, lasts) = same_ends xs ys a b rest in
    (rw (first, inits), lasts)

-- ---- a pattern with one more byte

-- a text that a pattern matches, followed by a run that one more byte stands for
pub more_matches : (pattern text run : List ℕ) (byte : ℕ) → Matches pattern text → StandsFor byte run
    → Matches (pattern ++ byte ∷ []) (text ++ run)
more_matches [] text run byte same stands = (run, [], rw (same, append-nil), stands, refl)
more_matches (b ∷ pattern) text run byte (first, rest, same, here, others) stands =
    (first, rest ++ run, rw (same, append_assoc), here, more_matches pattern rest run byte others stands)

-- what one more byte of a pattern stands for is at the text's end
pub record Cut (pattern text : List ℕ) (byte : ℕ) : Type 0 where
  pub front : List ℕ
  pub run : List ℕ
  pub same : text ≡ front ++ run
  pub matches : Matches pattern front
  pub stands : StandsFor byte run

pub cut : (pattern text : List ℕ) (byte : ℕ) → Matches (pattern ++ byte ∷ []) text → Cut pattern text byte
cut [] text byte (run, rest, same, stands, none) =
    record { front = []; run = run; same = same ∙ rw (none, append-nil); matches = refl; stands = stands }
cut (b ∷ pattern) text byte (first, rest, same, here, others) =
    let c = cut pattern rest byte others in
    record {
      front = first ++ c.front;
      run = c.run;
      same = same ∙ ap (λ l. first ++ l) c.same ∙ sym (append_assoc first c.front c.run);
      matches = (first, c.front, refl, here, c.matches);
      stands = c.stands;
    }

-- ---- one more byte of pattern and text

-- a star takes the text's last byte, or none
star_ends : (pattern text front run : List ℕ) (last : ℕ) → text ++ last ∷ [] ≡ front ++ run → Matches pattern front
    → has_no_slash run ≡ true
    → Matches pattern (text ++ last ∷ []) ⊎ (Matches (pattern ++ star ∷ []) text × (last ≢ slash))
star_ends pattern text front [] last same m clear =
    let e : front ≡ text ++ last ∷ [] = sym (same ∙ append-nil front) in inl (rw e at m)
star_ends pattern text front (x ∷ xs) last same m clear =
    let e = ends x xs in
    let (texts, lasts) = same_ends text (front ++ e.init) last e.last
    (same ∙ ap (λ l. front ++ l) e.same ∙ sym (append_assoc front e.init (e.last ∷ []))) in
    let all : (has_no_slash e.init && has_no_slash (e.last ∷ [])) ≡ true
    = sym (list_all-append (λ byte. not (byte == slash)) e.init (e.last ∷ [])) ∙ ap has_no_slash (sym e.same) ∙ clear in
    let (init_clear, last_clear) = and_parts (has_no_slash e.init) (has_no_slash (e.last ∷ [])) all in
    inr (
      rw texts (more_matches pattern front e.init star m (inl (refl, init_clear))),
      λ is_slash. no_slash e.last last_clear (sym lasts ∙ is_slash),
    )
  where
    no_slash : (byte : ℕ) → has_no_slash (byte ∷ []) ≡ true → byte ≢ slash
    no_slash byte h is_slash = let no : false ≡ true = rw is_slash at h in cc

star_either : (pattern text : List ℕ) (last : ℕ) → Matches (pattern ++ star ∷ []) (text ++ last ∷ [])
    → Matches pattern (text ++ last ∷ []) ⊎ (Matches (pattern ++ star ∷ []) text × (last ≢ slash))
star_either pattern text last m =
    let c = cut pattern (text ++ last ∷ []) star m in
    elim c.stands [
      | inl h ↦ star_ends pattern text c.front c.run last c.same c.matches h.1
      | inr h ↦ absurd (h.0 refl)
    ]

star_both : (pattern text : List ℕ) (last : ℕ)
    → Matches pattern (text ++ last ∷ []) ⊎ (Matches (pattern ++ star ∷ []) text × (last ≢ slash))
    → Matches (pattern ++ star ∷ []) (text ++ last ∷ [])
star_both pattern text last (inl m) =
    rw append-nil at (more_matches pattern (text ++ last ∷ []) [] star m (inl (refl, refl)))
star_both pattern text last (inr (m, other)) =
    let c = cut pattern text star m in
    elim c.stands [
      | inl h ↦
          let same : text ++ last ∷ [] ≡ c.front ++ (c.run ++ last ∷ [])
          = ap (λ l. l ++ last ∷ []) c.same ∙ append_assoc c.front c.run (last ∷ []) in
          let clear : has_no_slash (c.run ++ last ∷ []) ≡ true
          = list_all-append (λ byte. not (byte == slash)) c.run (last ∷ []) ∙ rw (h.1, differs last other) in
          rw same (more_matches pattern c.front (c.run ++ last ∷ []) star c.matches (inl (refl, clear)))
      | inr h ↦ absurd (h.0 refl)
    ]
  where
    differs : (byte : ℕ) → byte ≢ slash → has_no_slash (byte ∷ []) ≡ true
    differs byte other = let no : (byte == slash) ≡ false = ne_eqb byte slash other in rw no

-- every other byte takes itself
byte_ends : (pattern text : List ℕ) (byte last : ℕ) → byte ≢ star → Matches (pattern ++ byte ∷ []) (text ++ last ∷ [])
    → Matches pattern text × (byte ≡ last)
byte_ends pattern text byte last other m =
    let c = cut pattern (text ++ last ∷ []) byte m in
    elim c.stands [
      | inl h ↦ absurd (other h.0)
      | inr h ↦
          let (texts, lasts) = same_ends text c.front last byte (c.same ∙ ap (λ l. c.front ++ l) h.1) in
          (rw texts c.matches, sym lasts)
    ]

-- ---- what is known of a prefix with one more byte

stepped_star : (pattern text : List ℕ) (last : ℕ) (shorter same : Bool)
    → Decides shorter (Matches pattern (text ++ last ∷ [])) → Decides same (Matches (pattern ++ star ∷ []) text)
    → Decides (shorter || (same && not (last == slash))) (Matches (pattern ++ star ∷ []) (text ++ last ∷ []))
stepped_star pattern text last shorter same ds de =
    Decides-like (shorter || (same && not (last == slash))) (star_both pattern text last) (star_either pattern text last)
    (Decides-or shorter (same && not (last == slash)) ds
    (Decides-and same (not (last == slash)) de (Decides-not (last == slash) (Decides-eqb last slash))))

stepped_byte : (pattern text : List ℕ) (byte last : ℕ) (before : Bool) → byte ≢ star
    → Decides before (Matches pattern text)
    → Decides (before && (byte == last)) (Matches (pattern ++ byte ∷ []) (text ++ last ∷ []))
stepped_byte pattern text byte last before other db =
    Decides-like (before && (byte == last))
    (λ both. more_matches pattern text (last ∷ []) byte both.0 (inr (other, ap (λ b. b ∷ []) (sym both.1))))
    (byte_ends pattern text byte last other)
    (Decides-and before (byte == last) db (Decides-eqb byte last))

pub stepped-Decides : (pattern text : List ℕ) (byte last : ℕ) (shorter same before : Bool)
    → Decides shorter (Matches pattern (text ++ last ∷ [])) → Decides same (Matches (pattern ++ byte ∷ []) text)
    → Decides before (Matches pattern text)
    → Decides (is_matched byte last shorter same before) (Matches (pattern ++ byte ∷ []) (text ++ last ∷ []))
stepped-Decides pattern text byte last shorter same before ds de db = chosen (byte == star) (Decides-eqb byte star)
  where
    chosen : (test : Bool) → Decides test (byte ≡ star)
        → Decides (cond test (shorter || (same && not (last == slash))) (before && (byte == last)))
        (Matches (pattern ++ byte ∷ []) (text ++ last ∷ []))
    chosen true d =
        let e : star ≡ byte = sym (d.0 refl) in
        let P : ℕ → Type 0 = λ b. Decides same (Matches (pattern ++ b ∷ []) text)
        → Decides (shorter || (same && not (last == slash))) (Matches (pattern ++ b ∷ []) (text ++ last ∷ [])) in
        subst P e (stepped_star pattern text last shorter same ds) de
    chosen false d = stepped_byte pattern text byte last before (λ e. let no : false ≡ true = d.1 e in cc) db

-- a prefix with one more byte matches the empty text if that byte is a star
pub begun-Decides : (pattern : List ℕ) (byte : ℕ) (before : Bool) → Decides before (Matches pattern [])
    → Decides (before && (byte == star)) (Matches (pattern ++ byte ∷ []) [])
begun-Decides pattern byte before d =
    Decides-like (before && (byte == star))
    (λ both. more_matches pattern [] [] byte both.0 (inl (both.1, refl)))
    (λ m. nothing (cut pattern [] byte m))
    (Decides-and before (byte == star) d (Decides-eqb byte star))
  where
    nothing : Cut pattern [] byte → Matches pattern [] × (byte ≡ star)
    nothing c = empty c.front c.run c.same c.matches c.stands
      where
        empty : (front run : List ℕ) → [] ≡ front ++ run → Matches pattern front → StandsFor byte run
            → Matches pattern [] × (byte ≡ star)
        empty [] [] same m stands = elim stands [ inl h ↦ (m, h.0) | inr h ↦ let no : [] ≡ byte ∷ [] = h.1 in cc ]
        empty [] (x ∷ run) same m stands = cc
        empty (x ∷ front) run same m stands = cc

-- ---- what is known of all prefixes

-- one more place, where what the prefix does is known
matched_more : (pattern text : List ℕ) (matched : List Bool) (k : ℕ) (value : Bool) → k + 1 < length matched
    → ((n : ℕ) → n ≤ k → Decides (get_or matched n false) (Matches (take n pattern) text))
    → Decides value (Matches (take (k + 1) pattern) text)
    → (n : ℕ) → n ≤ k + 1 → Decides (get_or (set matched (k + 1) value) n false) (Matches (take n pattern) text)
matched_more pattern text matched k value room before here n h =
    elim (cases_eq n (k + 1)) [
      | inl same ↦ let e : get_or (set matched (k + 1) value) (k + 1) false ≡ value = rw get_or-set_same in
          rw (same, e) here
      | inr other ↦ let ne : n ≢ k + 1 = other in
          let below : n ≤ k = omega arith in rw get_or-set_other (before n below)
    ]

-- the empty text
pub begun_more : (pattern : List ℕ) (matched : List Bool) (k : ℕ) (value : Bool) → k < length pattern
    → k + 1 < length matched
    → ((n : ℕ) → n ≤ k → Decides (get_or matched n false) (Matches (take n pattern) []))
    → value ≡ (get_or matched k false && (get_or pattern k 0 == star))
    → (n : ℕ) → n ≤ k + 1 → Decides (get_or (set matched (k + 1) value) n false) (Matches (take n pattern) [])
begun_more pattern matched k value within room before is =
    let here : Decides value (Matches (take (k + 1) pattern) [])
    = rw (is, take_more pattern k 0 within) (begun-Decides (take k pattern) (get_or pattern k 0) (get_or matched k false) (before k (omega arith))) in
    matched_more pattern [] matched k value room before here

-- a text with one more byte: `old` are the places of the shorter text
pub read_more : (pattern text : List ℕ) (last : ℕ) (old matched : List Bool) (k : ℕ) (value : Bool) → k < length pattern
    → k + 1 < length matched → AreMatched pattern text old
    → ((n : ℕ) → n ≤ k → Decides (get_or matched n false) (Matches (take n pattern) (text ++ last ∷ [])))
    → value ≡ is_matched (get_or pattern k 0) last (get_or matched k false) (get_or old (k + 1) false) (get_or old k false)
    → (n : ℕ) → n ≤ k + 1
    → Decides (get_or (set matched (k + 1) value) n false) (Matches (take n pattern) (text ++ last ∷ []))
read_more pattern text last old matched k value within room known before is =
    let longer : Decides (get_or old (k + 1) false) (Matches (take k pattern ++ get_or pattern k 0 ∷ []) text)
    = rw (take_more pattern k 0 within) at (known (k + 1) (omega arith)) in
    let here : Decides value (Matches (take (k + 1) pattern) (text ++ last ∷ []))
    = rw (is, take_more pattern k 0 within)
    (stepped-Decides (take k pattern) text (get_or pattern k 0) last (get_or matched k false) (get_or old (k + 1) false) (get_or old k false)
    (before k (omega arith)) longer (known k (omega arith))) in
    matched_more pattern (text ++ last ∷ []) matched k value room before here

-- ---- a name's components, joined

-- the first component
pub joined_first : (parts : List (List ℕ)) (d : List ℕ) → 0 < length parts
    → join_with_byte slash (take 1 parts) ≡ get_or parts 0 d
joined_first [] d h = absurd (omega arith)
joined_first (part ∷ parts) d h = refl

-- one more component after others
joined_after : (first : List ℕ) (parts : List (List ℕ)) (last : List ℕ)
    → join_with_byte slash (first ∷ parts ++ last ∷ []) ≡ join_with_byte slash (first ∷ parts) ++ slash ∷ last
joined_after first [] last = refl
joined_after first (part ∷ parts) last =
    ap (λ l. first ++ (slash ∷ l)) (joined_after part parts last)
    ∙ sym (append_assoc first (slash ∷ join_with_byte slash (part ∷ parts)) (slash ∷ last))

pub joined_more : (parts : List (List ℕ)) (i : ℕ) (d : List ℕ) → 0 < i → i < length parts
    → join_with_byte slash (take (i + 1) parts) ≡ join_with_byte slash (take i parts) ++ slash ∷ get_or parts i d
joined_more [] i d some h = absurd (omega arith)
joined_more (first ∷ parts) zero d some h = absurd (omega arith)
joined_more (first ∷ parts) (suc i) d some h =
    let shorter : i < length parts = omega arith in
    let e : take (suc i + 1) (first ∷ parts) ≡ first ∷ (take i parts ++ get_or parts i d ∷ [])
    = rw add-one (ap (λ l. first ∷ l) (rw add-one at (take_more parts i d shorter))) in
    rw e (joined_after first (take i parts) (get_or parts i d))

-- ---- the pattern that is a star alone

-- it matches each text without `/`
star_alone : (text : List ℕ) → Matches (star ∷ []) text ↔ (has_no_slash text ≡ true)
star_alone text = (there, back)
  where
    there : Matches (star ∷ []) text → has_no_slash text ≡ true
    there (run, rest, same, stands, none) =
        let e : text ≡ run = same ∙ rw (none, append-nil) in
        elim stands [ inl h ↦ rw e h.1 | inr h ↦ absurd (h.0 refl) ]

    back : has_no_slash text ≡ true → Matches (star ∷ []) text
    back clear = (text, [], sym (append-nil text), inl (refl, clear), refl)

pub one_component : (name : Name) → IsOurs of_one_component name ↔ (has_no_slash (spelling name) ≡ true)
one_component name = (λ h. there h.0, λ clear. ((0, star ∷ [], omega arith, refl, (star_alone (spelling name)).1 clear), none))
  where
    there : AnyMatches ((star ∷ []) ∷ []) name → has_no_slash (spelling name) ≡ true
    there (zero, pattern, within, is, m) = let e : pattern ≡ star ∷ [] = sym is in (star_alone (spelling name)).0 (rw e at m)
    there (suc k, pattern, within, is, m) = absurd (omega arith)

    none : AnyMatches [] name → ⊥
    none (k, pattern, within, is, m) = absurd (omega arith)

-- ---- the tests decide

after_run-Decides : (pattern : List ℕ) → ((text : List ℕ) → Decides (matches pattern text) (Matches pattern text))
    → (text : List ℕ) → Decides (after_run (matches pattern) text) (Matches (star ∷ pattern) text)
after_run-Decides pattern rest [] =
    (λ h. ([], [], refl, inl (refl, refl), (rest []).0 h), λ m. (rest []).1 (empty m.0 m.1 m.2 m.4))
  where
    empty : (run more : List ℕ) → [] ≡ run ++ more → Matches pattern more → Matches pattern []
    empty [] more same m = rw (← same) at m
    empty (x ∷ run) more same m = cc
after_run-Decides pattern rest (byte ∷ text) =
    Decides-like (matches pattern (byte ∷ text) || (not (byte == slash) && after_run (matches pattern) text)) there back
    (Decides-or (matches pattern (byte ∷ text)) (not (byte == slash) && after_run (matches pattern) text) (rest (byte ∷ text))
    (Decides-and (not (byte == slash)) (after_run (matches pattern) text) (Decides-not (byte == slash) (Decides-eqb byte slash))
    (after_run-Decides pattern rest text)))
  where
    longer : (run : List ℕ) → byte ≢ slash → StandsFor star run → StandsFor star (byte ∷ run)
    longer run other (inl h) = let no : (byte == slash) ≡ false = ne_eqb byte slash other in inl (refl, rw (no, h.1))
    longer run other (inr h) = absurd (h.0 refl)

    there : Matches pattern (byte ∷ text) ⊎ ((byte ≢ slash) × Matches (star ∷ pattern) text) → Matches (star ∷ pattern) (byte ∷ text)
    there (inl m) = ([], byte ∷ text, refl, inl (refl, refl), m)
    there (inr (other, (run, more, same, stands, m))) =
        (byte ∷ run, more, ap (λ l. byte ∷ l) same, longer run other stands, m)

    shorter : (run more : List ℕ) → byte ∷ text ≡ run ++ more → StandsFor star run → Matches pattern more
        → Matches pattern (byte ∷ text) ⊎ ((byte ≢ slash) × Matches (star ∷ pattern) text)
    shorter [] more same stands m = inl (rw (← same) at m)
    shorter (x ∷ run) more same (inr h) m = absurd (h.0 refl)
    shorter (x ∷ run) more same (inl h) m =
        let first : byte ≡ x = cc in
        let others : text ≡ run ++ more = cc in
        let (one, clear) = and_parts (not (x == slash)) (has_no_slash run) h.1 in
        inr (
          λ e. let no : not (slash == slash) ≡ true = rw (sym first ∙ e) at one in let f : false ≡ true = no in cc,
          (run, more, others, inl (refl, clear), m),
        )

    back : Matches (star ∷ pattern) (byte ∷ text) → Matches pattern (byte ∷ text) ⊎ ((byte ≢ slash) × Matches (star ∷ pattern) text)
    back (run, more, same, stands, m) = shorter run more same stands m

after_byte-Decides : (byte : ℕ) (pattern : List ℕ) → byte ≢ star
    → ((text : List ℕ) → Decides (matches pattern text) (Matches pattern text))
    → (text : List ℕ) → Decides (after_byte byte (matches pattern) text) (Matches (byte ∷ pattern) text)
after_byte-Decides byte pattern other rest [] = (λ h. let no : false ≡ true = h in cc, λ m. none m)
  where
    none : Matches (byte ∷ pattern) [] → false ≡ true
    none (run, more, same, inl h, m) = absurd (other h.0)
    none (run, more, same, inr h, m) = let e : [] ≡ byte ∷ more = same ∙ ap (λ l. l ++ more) h.1 in cc
after_byte-Decides byte pattern other rest (first ∷ text) =
    Decides-like ((first == byte) && matches pattern text) there back
    (Decides-and (first == byte) (matches pattern text) (Decides-eqb first byte) (rest text))
  where
    there : (first ≡ byte) × Matches pattern text → Matches (byte ∷ pattern) (first ∷ text)
    there (e, m) = (byte ∷ [], text, ap (λ b. b ∷ text) e, inr (other, refl), m)

    back : Matches (byte ∷ pattern) (first ∷ text) → (first ≡ byte) × Matches pattern text
    back (run, more, same, inl h, m) = absurd (other h.0)
    back (run, more, same, inr h, m) =
        let e : first ∷ text ≡ byte ∷ more = same ∙ ap (λ l. l ++ more) h.1 in
        let here : first ≡ byte = cc in
        let others : text ≡ more = cc in
        (here, rw others m)

pub matches-Decides : (pattern text : List ℕ) → Decides (matches pattern text) (Matches pattern text)
matches-Decides [] [] = (λ _. refl, λ _. refl)
matches-Decides [] (byte ∷ text) =
    (λ h. let no : length (byte ∷ text) ≡ 0 = eqb-true (length (byte ∷ text)) 0 h in absurd (omega arith), λ h. cc)
matches-Decides (byte ∷ pattern) text = chosen (matches-Decides pattern) (byte == star) (Decides-eqb byte star)
  where
    chosen : ((t : List ℕ) → Decides (matches pattern t) (Matches pattern t)) → (test : Bool) → Decides test (byte ≡ star)
        → Decides (cond test (after_run (matches pattern) text) (after_byte byte (matches pattern) text)) (Matches (byte ∷ pattern) text)
    chosen rest true d =
        let e : star ≡ byte = sym (d.0 refl) in
        let P : ℕ → Type 0 = λ b. Decides (after_run (matches pattern) text) (Matches (b ∷ pattern) text) in
        subst P e (after_run-Decides pattern rest text)
    chosen rest false d =
        after_byte-Decides byte pattern (λ e. let no : false ≡ true = d.1 e in cc) rest text

any_matches-Decides : (patterns : List (List ℕ)) (name : Name)
    → Decides (any_matches patterns name) (AnyMatches patterns name)
any_matches-Decides patterns name = (there, back)
  where
    there : any_matches patterns name ≡ true → AnyMatches patterns name
    there h =
        let (k, pattern, within, is, holds) = Any-from_list_any (λ p. matches p (spelling name)) patterns h in
        (k, pattern, within, is, (matches-Decides pattern (spelling name)).0 holds)

    back : AnyMatches patterns name → any_matches patterns name ≡ true
    back (k, pattern, within, is, m) =
        list_any-from_Any (λ p. matches p (spelling name)) patterns (k, pattern, within, is, (matches-Decides pattern (spelling name)).1 m)

pub is_ours-Decides : (patterns : NamePatterns) (name : Name) → Decides (is_ours patterns name) (IsOurs patterns name)
is_ours-Decides patterns name =
    Decides-and (any_matches patterns.include name) (not (any_matches patterns.exclude name)) (any_matches-Decides patterns.include name)
    (Decides-not (any_matches patterns.exclude name) (any_matches-Decides patterns.exclude name))
