-- Texts have one list of addresses at most, and either that or a refusal.
use Rattle.std.proofs.Common.{◌≡◌, ◌≢◌, ◌≤◌, ◌<◌, ◌∙◌, ◌⊎◌, ℕ, refl, sym, ap, subst, codes, arith}
use Rattle.std.proofs.Common.{List, [], ◌∷◌, ◌++◌, length, length-append, take, drop, take-append-drop, get_or, drop-cons, take_all}
use Rattle.std.proofs.Common.{◌+◌, ◌-◌, suc, lit≤, map, Result, Ok, Err, IfOk, IfErr, Option, Some, None, option_map, inl, inr}
use Rattle.std.proofs.lemmas.List.{map-append, take_more}
use Rattle.std.specs.Prelude.{unwrap_or}
use Rattle.std.specs.Borrow.{Bor}
use Rattle.std.specs.Net.Addr.{IsCanonicalOf, MatchIp, ipv6_segments, low_octets}
use Rattle.std.specs.Net.Grammar.{IsIpText}
use Rattle.std.specs.declared.net.ip_addr.IpAddr.{IpAddr}
use Rattle.std.specs.declared.net.ip_addr.IpAddr.TheVariants.{V4, V6}
use Rattle.std.specs.declared.net.ipv4_addr.Ipv4Addr.{Ipv4Addr}
use Rattle.std.specs.declared.net.ipv6_addr.Ipv6Addr.{Ipv6Addr}
use Rattle.std.proofs.NetLemmas.Theorems.{IsIpText_unique}
use Rattle.clap.specs.Matches.{matched_of, raw_values}
use Rattle.clap.specs.Simple.{filled}
use Rattle.clap.specs.Walk.{Row, Text, rows_of}
use Rattle.clap.specs.declared.parser.matches.Found.{Found}
use Rattle.clap.proofs.WalkLemmas.{raw_values-rows}
use Rattle.chpw_invocation.specs.Invocations.{Listens, RefusesListen, given}
use Rattle.chpw_invocation.specs.Needs.{Suits}
use Rattle.chpw_invocation.specs.Options.{flag}
use Rattle.chpw_invocation.proofs.NeedLemmas.{flag_given}
use Rattle.chpw_invocation.specs.Addresses.{AreAddresses, AreApart, AreListed, HasAddress, HasWildcard, IsAmong, IsListening, IsNoList, IsOneMore, IsWildcard}
use Rattle.chpw_invocation.specs.Addresses.{NamesNoAddress, RefusesAddress, RefusesText}
use Rattle.chpw_invocation.specs.Listening.{listened}
use Rattle.chpw_invocation.specs.declared.listening.ListenAddresses.{ListenAddresses}
use Rattle.chpw_invocation.specs.declared.refusing.Refusal.{Refusal}
use Rattle.chpw_invocation.specs.declared.refusing.Refusal.TheVariants.{ManyAddresses, NoAddress, SameAddress}

parts_at : (xs : List IpAddr) (i : ℕ) (d : IpAddr) → i < length xs → xs ≡ take i xs ++ get_or xs i d ∷ drop (suc i) xs
parts_at xs i d inside = sym (take-append-drop i xs) ∙ ap (λ (l : List IpAddr). take i xs ++ l) (drop-cons xs i d inside)

-- ---- one address to a text

canonical_one : (x : Ipv6Addr) (a b : IpAddr) → IsCanonicalOf x a → IsCanonicalOf x b → a ≡ b
canonical_one x (V4 a) (V4 b) is was = ap V4 (λ i. record { octets = (is.1 ∙ sym was.1) i })
canonical_one x (V4 a) (V6 b) is was = absurd (was.0 is.0)
canonical_one x (V6 a) (V4 b) is was = absurd (is.0 was.0)
canonical_one x (V6 a) (V6 b) is was = ap V6 (is.1 ∙ sym was.1)

same_one : (x : IpAddr) (a b : IpAddr) → MatchIp x (λ ip. a ≡ V4 ip) (λ ip. IsCanonicalOf ip a)
    → MatchIp x (λ ip. b ≡ V4 ip) (λ ip. IsCanonicalOf ip b) → a ≡ b
same_one (V4 x) a b is was = is ∙ sym was
same_one (V6 x) a b is was = canonical_one x a b is was

has_one : (text : Text) (a b : IpAddr) → HasAddress text a → HasAddress text b → a ≡ b
has_one text a b is was =
    same_one was.0 a b
    (subst (λ (x : IpAddr). MatchIp x (λ ip. a ≡ V4 ip) (λ ip. IsCanonicalOf ip a)) (IsIpText_unique text is.0 was.0 is.1 was.1) is.2)
    was.2

-- ---- one list to texts

are_one : (texts : List Text) (xs ys : List IpAddr) → AreAddresses texts xs → AreAddresses texts ys → xs ≡ ys
are_one [] [] [] is was = refl
are_one [] [] (y ∷ ys) is was = absurd was
are_one [] (x ∷ xs) ys is was = absurd is
are_one (t ∷ ts) [] ys is was = absurd is
are_one (t ∷ ts) (x ∷ xs) [] is was = absurd was
are_one (t ∷ ts) (x ∷ xs) (y ∷ ys) is was =
    let first : x ≡ y = has_one t x y is.0 was.0 in
    let more : xs ≡ ys = are_one ts xs ys is.1 was.1 in
    λ i. first i ∷ more i

-- the addresses of texts that are two parts
record Parts (before : List Text) (text : Text) (after : List Text) (addresses : List IpAddr) : Type 0 where
  earlier : List IpAddr
  own : IpAddr
  later : List IpAddr
  whole : addresses ≡ earlier ++ own ∷ later
  are : AreAddresses before earlier
  has : HasAddress text own

parted : (before : List Text) (text : Text) (after : List Text) (addresses : List IpAddr) → AreAddresses (before ++ text ∷ after) addresses
    → Parts before text after addresses
parted [] text after [] is = absurd is
parted [] text after (a ∷ as_) is = record { earlier = []; own = a; later = as_; whole = refl; are = tt; has = is.0 }
parted (t ∷ ts) text after [] is = absurd is
parted (t ∷ ts) text after (a ∷ as_) is =
    let rest : Parts ts text after as_ = parted ts text after as_ is.1 in
    record {
      earlier = a ∷ rest.earlier;
      own = rest.own;
      later = rest.later;
      whole = ap (λ (l : List IpAddr). a ∷ l) rest.whole;
      are = (is.0, rest.are);
      has = rest.has;
    }

among_mid : (a b : IpAddr) (xs ys : List IpAddr) → a ≡ b → IsAmong a (xs ++ b ∷ ys)
among_mid a b [] ys same = inl same
among_mid a b (x ∷ xs) ys same = inr (among_mid a b xs ys same)

apart_mid : (xs : List IpAddr) (y : IpAddr) (ys : List IpAddr) → AreApart (xs ++ y ∷ ys) → IsAmong y xs → ⊥
apart_mid [] y ys apart among = among
apart_mid (x ∷ xs) y ys apart (inl same) = apart.0 (among_mid x y xs ys (sym same))
apart_mid (x ∷ xs) y ys apart (inr among) = apart_mid xs y ys apart.1 among

-- ---- one more text

pub are_more : (texts : List Text) (xs : List IpAddr) (text : Text) (a : IpAddr) → AreAddresses texts xs → HasAddress text a
    → AreAddresses (texts ++ text ∷ []) (xs ++ a ∷ [])
are_more [] [] text a are has = (has, tt)
are_more [] (x ∷ xs) text a are has = absurd are
are_more (t ∷ ts) [] text a are has = absurd are
are_more (t ∷ ts) (x ∷ xs) text a are has = (are.0, are_more ts xs text a are.1 has)

among_end : (x a : IpAddr) (xs : List IpAddr) → IsAmong x (xs ++ a ∷ []) → IsAmong x xs ⊎ (x ≡ a)
among_end x a [] (inl same) = inr same
among_end x a [] (inr none) = absurd none
among_end x a (y ∷ ys) (inl same) = inl (inl same)
among_end x a (y ∷ ys) (inr among) = elim (among_end x a ys among) [ inl m ↦ inl (inr m) | inr same ↦ inr same ]

pub apart_more : (xs : List IpAddr) (a : IpAddr) → AreApart xs → ¬ (IsAmong a xs) → AreApart (xs ++ a ∷ [])
apart_more [] a apart other = (λ none. none, tt)
apart_more (x ∷ xs) a apart other = (
  λ among. elim (among_end x a xs among) [ inl m ↦ apart.0 m | inr same ↦ other (inl (sym same)) ],
  apart_more xs a apart.1 (λ among. other (inr among)),
)

pub listed_more : (texts : List Text) (xs : List IpAddr) (text : Text) (ys : List IpAddr) → AreListed texts xs → IsOneMore xs text ys
    → AreListed (texts ++ text ∷ []) ys
listed_more texts xs text ys are more =
    subst (λ (l : List IpAddr). length l ≤ 64 → AreListed (texts ++ text ∷ []) l) (sym more.2)
    (λ few. (are_more texts xs text more.0 are.0 more.1, apart_more xs more.0 are.1 more.3, few))
    more.4

pub one_listed : (text : Text) (a : IpAddr) → HasAddress text a → AreListed (text ∷ []) (a ∷ [])
one_listed text a has = ((has, tt), (λ none. none, tt), lit≤ tt)

texts_at : (texts : List (Bor Text)) (i : ℕ) (d : Bor Text) → i < length texts
    → map (λ t. t.now) texts ≡ map (λ t. t.now) (take i texts) ++ (get_or texts i d).now ∷ map (λ t. t.now) (drop (suc i) texts)
texts_at texts i d inside =
    ap (λ (l : List (Bor Text)). map (λ t. t.now) l)
    (sym (take-append-drop i texts) ∙ ap (λ (l : List (Bor Text)). take i texts ++ l) (drop-cons texts i d inside))
    ∙ map-append _ (take i texts) (get_or texts i d ∷ drop (suc i) texts)

-- the next text of a list is added, or refused
pub next_listed : (text : Text) (texts : List (Bor Text)) (i : ℕ) (d : Bor Text) (xs ys : List IpAddr) → i < length texts
    → AreListed (text ∷ map (λ t. t.now) (take i texts)) xs → IsOneMore xs (get_or texts i d).now ys
    → AreListed (text ∷ map (λ t. t.now) (take (i + 1) texts)) ys
next_listed text texts i d xs ys inside are more =
    let all : map (λ t. t.now) (take (i + 1) texts) ≡ map (λ t. t.now) (take i texts) ++ (get_or texts i d).now ∷ [] =
    ap (λ (l : List (Bor Text)). map (λ t. t.now) l) (take_more texts i d inside) ∙ map-append _ (take i texts) (get_or texts i d ∷ []) in
    subst (λ (l : List Text). AreListed (text ∷ l) ys) (sym all)
    (listed_more (text ∷ map (λ t. t.now) (take i texts)) xs (get_or texts i d).now ys are more)

pub next_refused : (text : Text) (texts : List (Bor Text)) (i : ℕ) (d : Bor Text) (xs : List IpAddr) (refusal : Refusal) → i < length texts
    → AreListed (text ∷ map (λ t. t.now) (take i texts)) xs → RefusesText xs (get_or texts i d).now refusal
    → IsNoList (text ∷ map (λ t. t.now) texts) refusal
next_refused text texts i d xs refusal inside are why = (
  text ∷ map (λ t. t.now) (take i texts),
  (get_or texts i d).now,
  map (λ t. t.now) (drop (suc i) texts),
  xs,
  ap (λ (l : List Text). text ∷ l) (texts_at texts i d inside),
  are,
  why,
)

-- no text is left
pub all_taken : (text : Text) (texts : List (Bor Text)) (i : ℕ) (xs : List IpAddr) → length texts ≤ i
    → AreListed (text ∷ map (λ t. t.now) (take i texts)) xs → AreListed (text ∷ map (λ t. t.now) texts) xs
all_taken text texts i xs all are =
    subst (λ (l : List (Bor Text)). AreListed (text ∷ map (λ t. t.now) l) xs) (take_all i texts all) are

first_refused : (text : Text) (texts : List Text) (refusal : Refusal) → (refusal ≡ NoAddress) × NamesNoAddress text
    → IsNoList (text ∷ texts) refusal
first_refused text texts refusal why = ([], text, texts, [], refl, (tt, tt, lit≤ tt), inl why)

-- ---- the first text, and the others

-- all but the first, as a pattern takes them
abbrev rest_of : List (Bor Text) → List (Bor Text)
rest_of texts = take (length texts - 1) (drop 1 texts)

texts_from : (texts : List (Bor Text)) (d : Bor Text) → 1 ≤ length texts
    → map (λ t. t.now) texts ≡ (get_or texts 0 d).now ∷ map (λ t. t.now) (rest_of texts)
texts_from [] d some = absurd (omega arith)
texts_from (t ∷ ts) d some =
    let all : length (t ∷ ts) - 1 ≡ length ts = omega arith in
    let same : length ts ≤ length ts = omega arith in
    ap (λ (l : List (Bor Text)). t.now ∷ map (λ t. t.now) l) (sym (ap (λ (n : ℕ). take n ts) all ∙ take_all (length ts) ts same))

pub all_listed : (texts : List (Bor Text)) (d : Bor Text) (a : IpAddr) (r : Result ListenAddresses Refusal) → 1 ≤ length texts
    → HasAddress (get_or texts 0 d).now a
    → IfOk r (λ l. (text : Text) → HasAddress text a → AreListed (text ∷ map (λ t. t.now) (rest_of texts)) (listened l))
    → IfOk r (λ l. IsListening (map (λ t. t.now) texts) (listened l))
all_listed texts d a (Ok l) some has listed =
    subst (λ (l' : List Text). IsListening l' (listened l)) (sym (texts_from texts d some)) (listed (get_or texts 0 d).now has)
all_listed texts d a (Err e) some has listed = listed

pub all_refused : (texts : List (Bor Text)) (d : Bor Text) (a : IpAddr) (r : Result ListenAddresses Refusal) → 1 ≤ length texts
    → HasAddress (get_or texts 0 d).now a
    → IfErr r (λ refusal. (text : Text) → HasAddress text a → IsNoList (text ∷ map (λ t. t.now) (rest_of texts)) refusal)
    → IfErr r (IsNoList (map (λ t. t.now) texts))
all_refused texts d a (Ok l) some has refused = refused
all_refused texts d a (Err e) some has refused =
    subst (λ (l : List Text). IsNoList l e) (sym (texts_from texts d some)) (refused (get_or texts 0 d).now has)

pub first_of_all_refused : (texts : List (Bor Text)) (d : Bor Text) (refusal : Refusal) → 1 ≤ length texts
    → (refusal ≡ NoAddress) × NamesNoAddress (get_or texts 0 d).now → IsNoList (map (λ t. t.now) texts) refusal
first_of_all_refused texts d refusal some why =
    subst (λ (l : List Text). IsNoList l refusal) (sym (texts_from texts d some))
    (first_refused (get_or texts 0 d).now (map (λ t. t.now) (rest_of texts)) refusal why)

-- ---- looking through a list

pub among_at : (a : IpAddr) (xs : List IpAddr) (i : ℕ) (d : IpAddr) → i < length xs → get_or xs i d ≡ a → IsAmong a xs
among_at a xs i d inside is =
    subst (IsAmong a) (sym (parts_at xs i d inside)) (among_mid a (get_or xs i d) (take i xs) (drop (suc i) xs) (sym is))

pub among_below : (a : IpAddr) (xs : List IpAddr) (i : ℕ) (d : IpAddr) → i < length xs → ¬ (IsAmong a (take i xs)) → ¬ (get_or xs i d ≡ a)
    → ¬ (IsAmong a (take (i + 1) xs))
among_below a xs i d inside before other among =
    elim (among_end a (get_or xs i d) (take i xs) (subst (IsAmong a) (take_more xs i d inside) among)) [
      | inl m ↦ before m
      | inr same ↦ other (sym same)
    ]

wildcard_mid : (a : IpAddr) (xs ys : List IpAddr) → IsWildcard a → HasWildcard (xs ++ a ∷ ys)
wildcard_mid a [] ys is = inl is
wildcard_mid a (x ∷ xs) ys is = inr (wildcard_mid a xs ys is)

wildcard_end : (a : IpAddr) (xs : List IpAddr) → HasWildcard (xs ++ a ∷ []) → HasWildcard xs ⊎ IsWildcard a
wildcard_end a [] (inl is) = inr is
wildcard_end a [] (inr none) = absurd none
wildcard_end a (x ∷ xs) (inl is) = inl (inl is)
wildcard_end a (x ∷ xs) (inr some) = elim (wildcard_end a xs some) [ inl m ↦ inl (inr m) | inr is ↦ inr is ]

pub wildcard_at : (xs : List IpAddr) (i : ℕ) (d : IpAddr) → i < length xs → IsWildcard (get_or xs i d) → HasWildcard xs
wildcard_at xs i d inside is =
    subst HasWildcard (sym (parts_at xs i d inside)) (wildcard_mid (get_or xs i d) (take i xs) (drop (suc i) xs) is)

pub wildcard_below : (xs : List IpAddr) (i : ℕ) (d : IpAddr) → i < length xs → ¬ (HasWildcard (take i xs)) → ¬ (IsWildcard (get_or xs i d))
    → ¬ (HasWildcard (take (i + 1) xs))
wildcard_below xs i d inside before other some =
    elim (wildcard_end (get_or xs i d) (take i xs) (subst HasWildcard (take_more xs i d inside) some)) [
      | inl m ↦ before m
      | inr is ↦ other is
    ]

-- ---- it is a list, or none

nothing_refused : (before : List Text) (text : Text) (after : List Text) (others addresses : List IpAddr) (refusal : Refusal)
    → AreListed (before ++ text ∷ after) addresses → AreListed before others → RefusesText others text refusal → ⊥
nothing_refused before text after others addresses refusal listed were why =
    let parts : Parts before text after addresses = parted before text after addresses listed.0 in
    let same : parts.earlier ≡ others = are_one before parts.earlier others parts.are were.0 in
    go parts same why
  where
    address_refused : (parts : Parts before text after addresses) → parts.earlier ≡ others → RefusesAddress others parts.own refusal → ⊥
    address_refused parts same (inl r) =
        apart_mid parts.earlier parts.own parts.later (subst AreApart parts.whole listed.1) (subst (IsAmong parts.own) (sym same) r.1)
    address_refused parts same (inr r) =
        let all : length addresses ≡ length (parts.earlier ++ parts.own ∷ parts.later) = ap length parts.whole in
        let full : length parts.earlier ≡ 64 = ap length same ∙ r.1 in
        let sum = length-append parts.earlier (parts.own ∷ parts.later) in
        let few : length addresses ≤ 64 = listed.2 in
        omega arith

    go : (parts : Parts before text after addresses) → parts.earlier ≡ others → RefusesText others text refusal → ⊥
    go parts same (inl r) = r.1 parts.has.0 parts.has.1
    go parts same (inr r) =
        let one : r.0 ≡ parts.own = has_one text r.0 parts.own r.1 parts.has in
        address_refused parts same (subst (λ (a : IpAddr). RefusesAddress others a refusal) one r.2)

no_list : (texts : List Text) (addresses : List IpAddr) (refusal : Refusal) → IsListening texts addresses → IsNoList texts refusal → ⊥
no_list texts addresses refusal listens (before, text, after, others, is, were, why) =
    go texts before is were listens
  where
    go : (texts before : List Text) → texts ≡ before ++ text ∷ after → AreListed before others → IsListening texts addresses → ⊥
    go [] [] is were listens = cc
    go [] (b ∷ bs) is were listens = cc
    go (t ∷ ts) before is were listens =
        nothing_refused before text after others addresses refusal (subst (λ (l : List Text). AreListed l addresses) is listens) were why

listening_one : (texts : List Text) (xs ys : List IpAddr) → IsListening texts xs → IsListening texts ys → xs ≡ ys
listening_one [] xs ys is was = is ∙ sym was
listening_one (t ∷ ts) xs ys is was = are_one (t ∷ ts) xs ys is.0 was.0

-- what can listen isn't refused
pub listens_or_not : (options : List Row) (addresses : List IpAddr) (refusal : Refusal) → Suits (filled (flag (codes "udp"))) options
    → Listens options addresses → RefusesListen options refusal → ⊥
listens_or_not options addresses refusal suits listens (inl r) = no_list (given options) addresses refusal listens.0 r
listens_or_not options addresses refusal suits listens (inr r) =
    listens.1 (flag_given (codes "udp") options suits r.1)
    (subst HasWildcard (listening_one (given options) r.2.0 addresses r.2.1 listens.0) r.2.2)

pub given_texts : (f : Found) (texts : List Text) → Some texts ≡ option_map raw_values (matched_of f (codes "listen")) → given (rows_of f) ≡ texts
given_texts f texts is = ap (λ (o : Option (List Text)). unwrap_or o []) (sym (is ∙ raw_values-rows f (codes "listen")))

pub no_texts : (f : Found) → None ≡ option_map raw_values (matched_of f (codes "listen")) → given (rows_of f) ≡ []
no_texts f is = ap (λ (o : Option (List Text)). unwrap_or o []) (sym (is ∙ raw_values-rows f (codes "listen")))
