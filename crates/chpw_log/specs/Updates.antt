-- The line of an update from the KDC: the moment, `service`, and what was taken, or what was refused and the verdict's text.
use Rattle.std.specs.Prelude.{ℕ, List, ◌++◌, codes, if◌then◌else◌}
use Rattle.std.specs.Fmt.{decimal}
use Rattle.chpw_printing.specs.Quoting.{name_text, words_text}
use Rattle.chpw_rules.specs.declared.name.Name.{Name}
use Rattle.chpw_table.specs.declared.times.Moment.{Moment}
use Rattle.chpw_table.specs.declared.updating.KdcUpdate.{KdcUpdate}
use Rattle.chpw_table.specs.declared.updating.KdcUpdate.TheVariants.{Adopt, Lift, Remove}
use Rattle.chpw_table.specs.declared.updating.UpdateVerdict.{UpdateVerdict}
use Rattle.chpw_table.specs.Updates.{is_taken}
use Rattle.chpw_table.specs.Replies.{told_of_update}
use Rattle.chpw_log.specs.Moments.{moment_text}

-- a word, and a name without its realm
abbrev pub name_words : List ℕ → Name → List ℕ
name_words word name = word ++ name_text name

-- and a version
abbrev pub version_words : List ℕ → Name → ℕ → List ℕ
version_words word name kvno = name_words word name ++ codes " kvno " ++ decimal kvno

abbrev pub taken_words : KdcUpdate → List ℕ
taken_words (Adopt name key) = version_words (codes "adopted ") name key.kvno
taken_words (Lift name kvno) = version_words (codes "lifted ") name kvno
taken_words (Remove name) = name_words (codes "removed ") name

abbrev pub refused_words : KdcUpdate → List ℕ
refused_words (Adopt name key) = version_words (codes "refused adopt ") name key.kvno
refused_words (Lift name kvno) = version_words (codes "refused lift ") name kvno
refused_words (Remove name) = name_words (codes "refused remove ") name

abbrev pub update_words : KdcUpdate → UpdateVerdict → List ℕ
update_words u v =
    if is_taken v then taken_words u
    else refused_words u ++ codes " text " ++ words_text (told_of_update u v).text

abbrev pub update_line : Moment → KdcUpdate → UpdateVerdict → List ℕ
update_line moment u v = moment_text moment ++ codes " service " ++ update_words u v ++ codes "\n"
