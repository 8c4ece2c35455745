use Rattle.std.proofs.Common.{◌≡◌, ◌∙◌, ◌<◌, ◌^◌, Some, None, sym, arith}
use Rattle.std.specs.Str.Parse.{ParsesUnsigned, ExplainsUnsignedError, HasUnsignedDigitsIfOk}
use Rattle.clap.specs.Words.{found_of, one_text}
use Rattle.clap.proofs.WalkLemmas.{one_text-rows}
use Rattle.chpw_invocation.proofs.PortLemmas.{number_found, number_read, number_taken}
use Rattle.chpw_invocation.proofs.values.number_of.Goals as goal

pub returns-in-Some-clause-number : goal.returns-in-Some-clause-number
returns-in-Some-clause-number c =
    let found =
    number_read (λ bs r. ParsesUnsigned 32 10 bs r × ExplainsUnsignedError 10 bs r × HasUnsignedDigitsIfOk bs r)
    (one_text (found_of c.args.options.now) c.args.name.now) c.get_one.result c.in-Some.number
    (λ t n g. g.0.1) c.get_one.ensures.none c.get_one.ensures.value c.in-Some.is in
    let same = one_text-rows (found_of c.args.options.now) c.args.name.now in
    (found.0, sym same ∙ found.1, found.2, omega arith, omega arith)

pub returns-in_default-clause-lacks : goal.returns-in_default-clause-lacks
returns-in_default-clause-lacks c = λ none number low high is.
    let fits : c.args.greatest < 2 ^ 32 = c.ranges.greatest.fits in
    let same = one_text-rows (found_of c.args.options.now) c.args.name.now in
    let found = number_found (λ bs r. ParsesUnsigned 32 10 bs r × ExplainsUnsignedError 10 bs r
    × HasUnsignedDigitsIfOk bs r) (one_text (found_of c.args.options.now) c.args.name.now) c.get_one.result number
    (λ t r g. g.0) (omega (arith, fits, high)) c.get_one.ensures.value (same ∙ is) in
    let one : Some c.in-Some.number ≡ Some number = sym c.in-Some.is ∙ found in
    let number_is : c.in-Some.number ≡ number = cc in
    omega (arith, number_is, high, low)

pub returns-in_default-2-clause-lacks : goal.returns-in_default-2-clause-lacks
returns-in_default-2-clause-lacks c = λ none number low high is.
    let fits : c.args.greatest < 2 ^ 32 = c.ranges.greatest.fits in
    let same = one_text-rows (found_of c.args.options.now) c.args.name.now in
    let found = number_found (λ bs r. ParsesUnsigned 32 10 bs r × ExplainsUnsignedError 10 bs r
    × HasUnsignedDigitsIfOk bs r) (one_text (found_of c.args.options.now) c.args.name.now) c.get_one.result number
    (λ t r g. g.0) (omega (arith, fits, high)) c.get_one.ensures.value (same ∙ is) in
    let one : Some c.in-Some.number ≡ Some number = sym c.in-Some.is ∙ found in
    let number_is : c.in-Some.number ≡ number = cc in
    omega (arith, number_is, high, low)

pub returns-in_default-3-clause-lacks : goal.returns-in_default-3-clause-lacks
returns-in_default-3-clause-lacks c = λ none number low high is.
    let fits : c.args.greatest < 2 ^ 32 = c.ranges.greatest.fits in
    let same = one_text-rows (found_of c.args.options.now) c.args.name.now in
    let found = number_found (λ bs r. ParsesUnsigned 32 10 bs r × ExplainsUnsignedError 10 bs r
    × HasUnsignedDigitsIfOk bs r) (one_text (found_of c.args.options.now) c.args.name.now) c.get_one.result number
    (λ t r g. g.0) (omega (arith, fits, high)) c.get_one.ensures.value (same ∙ is) in
    let bad : None ≡ Some number = sym c.in_default.is ∙ found in
    cc

pub returns-in_default-clause-taken : goal.returns-in_default-clause-taken
returns-in_default-clause-taken c = λ taken none.
    let fits : c.args.greatest < 2 ^ 32 = c.ranges.greatest.fits in
    let same = one_text-rows (found_of c.args.options.now) c.args.name.now in
    let got =
    number_taken (λ bs r. ParsesUnsigned 32 10 bs r × ExplainsUnsignedError 10 bs r × HasUnsignedDigitsIfOk bs r)
    taken.0 (one_text (found_of c.args.options.now) c.args.name.now) c.get_one.result c.args.greatest
    (λ t r g. g.0) fits c.get_one.ensures.value (same ∙ taken.1) taken.2 in
    let one : Some c.in-Some.number ≡ Some got.0 = sym c.in-Some.is ∙ got.1 in
    let number_is : c.in-Some.number ≡ got.0 = cc in
    omega (arith, number_is, got.2, got.3)

pub returns-in_default-2-clause-taken : goal.returns-in_default-2-clause-taken
returns-in_default-2-clause-taken c = λ taken none.
    let fits : c.args.greatest < 2 ^ 32 = c.ranges.greatest.fits in
    let same = one_text-rows (found_of c.args.options.now) c.args.name.now in
    let got =
    number_taken (λ bs r. ParsesUnsigned 32 10 bs r × ExplainsUnsignedError 10 bs r × HasUnsignedDigitsIfOk bs r)
    taken.0 (one_text (found_of c.args.options.now) c.args.name.now) c.get_one.result c.args.greatest
    (λ t r g. g.0) fits c.get_one.ensures.value (same ∙ taken.1) taken.2 in
    let one : Some c.in-Some.number ≡ Some got.0 = sym c.in-Some.is ∙ got.1 in
    let number_is : c.in-Some.number ≡ got.0 = cc in
    omega (arith, number_is, got.2, got.3)

pub returns-in_default-3-clause-taken : goal.returns-in_default-3-clause-taken
returns-in_default-3-clause-taken c = λ taken none.
    let fits : c.args.greatest < 2 ^ 32 = c.ranges.greatest.fits in
    let same = one_text-rows (found_of c.args.options.now) c.args.name.now in
    let got =
    number_taken (λ bs r. ParsesUnsigned 32 10 bs r × ExplainsUnsignedError 10 bs r × HasUnsignedDigitsIfOk bs r)
    taken.0 (one_text (found_of c.args.options.now) c.args.name.now) c.get_one.result c.args.greatest
    (λ t r g. g.0) fits c.get_one.ensures.value (same ∙ taken.1) taken.2 in
    let bad : None ≡ Some got.0 = sym c.in_default.is ∙ got.1 in
    cc
