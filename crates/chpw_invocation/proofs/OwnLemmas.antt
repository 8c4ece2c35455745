-- What the program itself refuses, command by command.
use Rattle.std.proofs.Common.{◌≡◌, ◌≢◌, ◌∙◌, ◌⊎◌, Bool, true, false, refl, sym, subst, codes}
use Rattle.std.proofs.Common.{List, Option, Some, None, is_some, option_map, true≢false, inl, inr}
use Rattle.std.specs.Borrow.{Bor}
use Rattle.std.specs.Str.{bytes_eq}
use Rattle.std.proofs.lemmas.Slice.Eq.{bytes_eq-Decides}
use Rattle.clap.specs.Simple.{filled}
use Rattle.clap.specs.Walk.{Row, Text, first_of}
use Rattle.chpw_invocation.specs.Controls.{takes_file}
use Rattle.chpw_invocation.specs.Invocations.{AimsOld, HasNoPassword, HasTwoPasswords, IsGiven, IsOwnReason}
use Rattle.chpw_invocation.specs.Invocations.{IsOwnRefusal, LacksKdc, Listens, RefusesListen, RefusesClient, RefusesControl, RefusesImport, RefusesServe}
use Rattle.std.specs.declared.net.ip_addr.IpAddr.{IpAddr}
use Rattle.chpw_invocation.specs.Needs.{IsSuited, Meets, Suits}
use Rattle.chpw_invocation.specs.Options.{flag}
use Rattle.chpw_invocation.specs.Program.{client, serve}
use Rattle.chpw_invocation.proofs.ListeningLemmas.{listens_or_not}
use Rattle.chpw_invocation.proofs.NeedLemmas.{not_aimed}
use Rattle.chpw_invocation.specs.declared.refusing.Refusal.{Refusal}
use Rattle.chpw_invocation.specs.declared.refusing.Refusal.TheVariants.{OldTarget, TwoPasswords, NoPassword, NoCommand, NoFile, SpareFile, NoKdc, NoLimit}

-- ---- a refusal is one of the command that is named

differ : (a b : Text) → bytes_eq a b ≡ false → a ≡ b → ⊥
differ a b apart same = true≢false (sym ((bytes_eq-Decides a b).1 same) ∙ apart)

of_client : (options : List Row) (refusal : Refusal) → IsOwnRefusal (Some (codes "client", options)) refusal → RefusesClient options refusal
of_client options refusal (inl r) = r.1
of_client options refusal (inr (inl r)) = absurd (differ (codes "client") (codes "control") refl r.0)
of_client options refusal (inr (inr (inl r))) = absurd (differ (codes "client") (codes "table") refl r.0)
of_client options refusal (inr (inr (inr (inl r)))) = absurd (differ (codes "client") (codes "serve") refl r.0)
of_client options refusal (inr (inr (inr (inr (inl r))))) = absurd (differ (codes "client") (codes "import") refl r.0)
of_client options refusal (inr (inr (inr (inr (inr r))))) = absurd (differ (codes "client") (codes "key") refl r.0)

of_control : (options : List Row) (refusal : Refusal) → IsOwnRefusal (Some (codes "control", options)) refusal → RefusesControl options refusal
of_control options refusal (inl r) = absurd (differ (codes "control") (codes "client") refl r.0)
of_control options refusal (inr (inl r)) = r.1
of_control options refusal (inr (inr (inl r))) = absurd (differ (codes "control") (codes "table") refl r.0)
of_control options refusal (inr (inr (inr (inl r)))) = absurd (differ (codes "control") (codes "serve") refl r.0)
of_control options refusal (inr (inr (inr (inr (inl r))))) = absurd (differ (codes "control") (codes "import") refl r.0)
of_control options refusal (inr (inr (inr (inr (inr r))))) = absurd (differ (codes "control") (codes "key") refl r.0)

of_import : (options : List Row) (refusal : Refusal) → IsOwnRefusal (Some (codes "import", options)) refusal → RefusesImport options refusal
of_import options refusal (inl r) = absurd (differ (codes "import") (codes "client") refl r.0)
of_import options refusal (inr (inl r)) = absurd (differ (codes "import") (codes "control") refl r.0)
of_import options refusal (inr (inr (inl r))) = absurd (differ (codes "import") (codes "table") refl r.0)
of_import options refusal (inr (inr (inr (inl r)))) = absurd (differ (codes "import") (codes "serve") refl r.0)
of_import options refusal (inr (inr (inr (inr (inl r))))) = r.1
of_import options refusal (inr (inr (inr (inr (inr r))))) = absurd (differ (codes "import") (codes "key") refl r.0)

of_serve : (options : List Row) (refusal : Refusal) → IsOwnRefusal (Some (codes "serve", options)) refusal → RefusesServe options refusal
of_serve options refusal (inl r) = absurd (differ (codes "serve") (codes "client") refl r.0)
of_serve options refusal (inr (inl r)) = absurd (differ (codes "serve") (codes "control") refl r.0)
of_serve options refusal (inr (inr (inl r))) = absurd (differ (codes "serve") (codes "table") refl r.0)
of_serve options refusal (inr (inr (inr (inl r)))) = r.1
of_serve options refusal (inr (inr (inr (inr (inl r))))) = absurd (differ (codes "serve") (codes "import") refl r.0)
of_serve options refusal (inr (inr (inr (inr (inr r))))) = absurd (differ (codes "serve") (codes "key") refl r.0)

-- the flag of a service whose KDC has to be in reach is given once
pub flag_suits : (options : List Row) → Meets serve options → Suits (filled (flag (codes "require-kdc"))) options
flag_suits options whole = whole.1.1.1.1.1.1.1.1.1.1.1.1.1.1.1.1.0

-- the same of the flag for datagrams
pub udp_suits : (options : List Row) → Meets serve options → Suits (filled (flag (codes "udp"))) options
udp_suits options whole = whole.1.1.1.1.1.1.1.1.1.1.1.1.1.1.1.1.1.1.0

pub client_refused : (asked : Option (Text × List Row)) (options : List Row) (refusal : Refusal) → asked ≡ Some (codes "client", options)
    → (Suits (filled (flag (codes "old"))) options → (r : Refusal) → RefusesClient options r → RefusesClient options refusal)
    → IsSuited asked → IsOwnReason asked → IsOwnRefusal asked refusal
client_refused asked options refusal is why suited reason =
    let whole : Meets client options = subst IsSuited is suited in
    let own : IsOwnReason (Some (codes "client", options)) = subst IsOwnReason is reason in
    subst (λ (o : Option (Text × List Row)). IsOwnRefusal o refusal) (sym is)
    (inl (refl, why whole.1.1.1.1.1.1.1.1.0 own.0 (of_client options own.0 own.1)))

pub control_refused : (asked : Option (Text × List Row)) (options : List Row) (refusal : Refusal) → asked ≡ Some (codes "control", options)
    → ((r : Refusal) → RefusesControl options r → RefusesControl options refusal) → IsOwnReason asked → IsOwnRefusal asked refusal
control_refused asked options refusal is why reason =
    let own : IsOwnReason (Some (codes "control", options)) = subst IsOwnReason is reason in
    subst (λ (o : Option (Text × List Row)). IsOwnRefusal o refusal) (sym is) (inr (inl (refl, why own.0 (of_control options own.0 own.1))))

pub import_refused : (asked : Option (Text × List Row)) (options : List Row) (refusal : Refusal) → asked ≡ Some (codes "import", options)
    → ((r : Refusal) → RefusesImport options r → RefusesImport options refusal) → IsOwnReason asked → IsOwnRefusal asked refusal
import_refused asked options refusal is why reason =
    let own : IsOwnReason (Some (codes "import", options)) = subst IsOwnReason is reason in
    subst (λ (o : Option (Text × List Row)). IsOwnRefusal o refusal) (sym is)
    (inr (inr (inr (inr (inl (refl, why own.0 (of_import options own.0 own.1)))))))

pub serve_refused : (asked : Option (Text × List Row)) (options : List Row) (refusal : Refusal) → asked ≡ Some (codes "serve", options)
    → (Meets serve options → (r : Refusal) → RefusesServe options r → RefusesServe options refusal)
    → IsSuited asked → IsOwnReason asked → IsOwnRefusal asked refusal
serve_refused asked options refusal is why suited reason =
    let whole : Meets serve options = subst IsSuited is suited in
    let own : IsOwnReason (Some (codes "serve", options)) = subst IsOwnReason is reason in
    subst (λ (o : Option (Text × List Row)). IsOwnRefusal o refusal) (sym is)
    (inr (inr (inr (inl (refl, why whole own.0 (of_serve options own.0 own.1))))))

-- a refusal that is there is one
pub some_refusal : (o p : Option Refusal) → is_some o ≡ true → o ≡ p → (refusal : Refusal) × (p ≡ Some refusal)
some_refusal None p some is = absurd (true≢false (sym some))
some_refusal (Some refusal) p some is = (refusal, sym is)

-- ---- why `serve` is refused

pub lacking : (options : List Row) → LacksKdc options → RefusesServe options NoKdc
lacking options lacks = inl (refl, lacks)

pub unlimited : (options : List Row) → Suits (filled (flag (codes "udp"))) options → ¬ (LacksKdc options)
    → (addresses : List IpAddr) × Listens options addresses → (refusal : Refusal) → RefusesServe options refusal → RefusesServe options NoLimit
unlimited options suits other listen refusal (inl r) = absurd (other r.1)
unlimited options suits other listen refusal (inr (inl r)) = absurd (listens_or_not options listen.0 refusal suits listen.1 r.0)
unlimited options suits other listen refusal (inr (inr r)) = inr (inr (refl, r.1, r.2, r.3))

pub unlistened : (options : List Row) → ¬ (LacksKdc options) → (refusal : Refusal) → RefusesListen options refusal → RefusesServe options refusal
unlistened options other refusal why = inr (inl (why, other))

-- ---- why `client` is refused

given_as : (options : List Row) (given : Bool) → IsGiven options (codes "old") given → given ≡ true → IsGiven options (codes "old") true
given_as options given is true_is = subst (λ (b : Bool). IsGiven options (codes "old") b) true_is is

pub aimed : (options : List Row) (given : Bool) (target : Option (Bor Text)) → IsGiven options (codes "old") given → given ≡ true
    → option_map (λ s. s.now) target ≡ first_of (codes "target") options → is_some target ≡ true → (refusal : Refusal) × RefusesClient options refusal
aimed options given None is true_is value some = absurd (true≢false (sym some))
aimed options given (Some t) is true_is value some =
    (OldTarget, inl (refl, (given_as options given is true_is, λ none. let bad : Some t.now ≡ None = value ∙ none in cc)))

pub untargeted : (options : List Row) (target : Option (Bor Text)) → option_map (λ s. s.now) target ≡ first_of (codes "target") options
    → is_some target ≡ false → AimsOld options → ⊥
untargeted options None value none aims = aims.1 (sym value)
untargeted options (Some t) value none aims = true≢false none

pub is_no_old : (options : List Row) (given : Bool) → Meets client options → IsGiven options (codes "old") given → given ≡ false → AimsOld options → ⊥
is_no_old options given whole is none aims = not_aimed options given whole.1.1.1.1.1.1.1.1.0 is none aims

pub unpassed : (options : List Row) → ¬ (AimsOld options) → HasTwoPasswords options ⊎ HasNoPassword options
    → (refusal : Refusal) × RefusesClient options refusal
unpassed options other (inl two) = (TwoPasswords, inr (inl (refl, two, other)))
unpassed options other (inr lacks) = (NoPassword, inr (inr (refl, lacks, other)))

pub two_told : (options : List Row) (text : Option (Bor Text)) → option_map (λ s. s.now) text ≡ first_of (codes "password") options
    → is_some text ≡ true → ¬ (AimsOld options) → (refusal : Refusal) → RefusesClient options refusal → RefusesClient options TwoPasswords
two_told options text value some other refusal (inl r) = absurd (other r.1)
two_told options text value some other refusal (inr (inl r)) = inr (inl (refl, r.1, r.2))
two_told options None value some other refusal (inr (inr r)) = absurd (true≢false (sym some))
two_told options (Some t) value some other refusal (inr (inr r)) = let bad : Some t.now ≡ None = value ∙ r.1.0 in cc

pub none_told : (options : List Row) (text : Option (Bor Text)) → option_map (λ s. s.now) text ≡ first_of (codes "password") options
    → is_some text ≡ false → ¬ (AimsOld options) → (refusal : Refusal) → RefusesClient options refusal → RefusesClient options NoPassword
none_told options text value none other refusal (inl r) = absurd (other r.1)
none_told options None value none other refusal (inr (inl r)) = absurd (r.1.0 (sym value))
none_told options (Some t) value none other refusal (inr (inl r)) = absurd (true≢false none)
none_told options text value none other refusal (inr (inr r)) = inr (inr (refl, r.1, r.2))

-- ---- why `control` is refused

pub wants_other : (options : List Row) (word : Text) → Some word ≡ first_of (codes "command") options → None ≡ first_of (codes "file") options
    → takes_file word ≢ Some false → (refusal : Refusal) × RefusesControl options refusal
wants_other options word is none other = go (takes_file word) refl
  where
    go : (o : Option Bool) → takes_file word ≡ o → (refusal : Refusal) × RefusesControl options refusal
    go None e = (NoCommand, inl (refl, (word, sym is, e)))
    go (Some true) e = (NoFile, inr (inl (refl, (word, sym is, e, sym none))))
    go (Some false) e = absurd (other e)

pub wants_none : (options : List Row) (word file : Text) → Some word ≡ first_of (codes "command") options → Some file ≡ first_of (codes "file") options
    → takes_file word ≢ Some true → (refusal : Refusal) × RefusesControl options refusal
wants_none options word file is given other = go (takes_file word) refl
  where
    go : (o : Option Bool) → takes_file word ≡ o → (refusal : Refusal) × RefusesControl options refusal
    go None e = (NoCommand, inl (refl, (word, sym is, e)))
    go (Some true) e = absurd (other e)
    go (Some false) e =
        (SpareFile, inr (inr (refl, (word, sym is, e, λ none. let bad : Some file ≡ None = given ∙ none in cc))))
