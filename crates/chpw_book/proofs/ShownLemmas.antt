-- A lookup after the accepted changes shows what the table shows.
use Rattle.std.proofs.Common.{◌≡◌, ℕ, ◌+◌, List, length, map, Option, Some, None, refl, sym, ◌∙◌, ap, subst}
use Rattle.std.specs.Prelude.{option_map}
use mathlib.Core.List.{IsPrefix}
use Rattle.chpw_table.specs.declared.change.AcceptedChange.{AcceptedChange}
use Rattle.chpw_record.specs.declared.key.KeyRow.{KeyRow}
use Rattle.chpw_table.specs.State.{State, keys_held, new_count}
use Rattle.chpw_table.specs.Decision.{newest_kvno}
use Rattle.chpw_table.specs.Versions.{Shown, accepted, shown_count, shown_keys}
use Rattle.chpw_table.proofs.VersionLemmas.{shows_held, shows_count}
use Rattle.chpw_snapshots.specs.Rows.{lookup_with, lookup_after}
use Rattle.chpw_book.specs.ShownLaws.{LookupsShowHistories, LookupsAreOfHistories}
use Rattle.chpw_book.proofs.ChangeLemmas.{beginnings}

keys_shown : (policy seen : ℕ) (held : Option (List KeyRow))
    → option_map (lookup_with policy seen) (option_map shown_keys held)
    ≡ option_map (λ (keys : List KeyRow). record {
      kvno = newest_kvno keys;
      held = map (λ (k : KeyRow). k.count) keys;
      policy = policy;
      seen = seen;
    }) held
keys_shown policy seen None = refl
keys_shown policy seen (Some keys) = refl

pub histories_shown : LookupsShowHistories
histories_shown opening t history name legal agrees seen =
    let s : State = opening.state in
    let list : List AcceptedChange = accepted s history in
    let count : ℕ = opening.seen + length list in
    let same : new_count t.state ≡ shown_count s list = agrees.count ∙ sym (shows_count s history legal) in
    ap (λ (x : Option Shown). option_map (lookup_with (shown_count s list) count) x) (shows_held s history name legal)
    ∙ (ap (λ (x : Option (List KeyRow)). option_map (lookup_with (shown_count s list) count) (option_map shown_keys x)) (sym (agrees.principals name))
    ∙ (ap (λ (n : ℕ). option_map (lookup_with n count) (option_map shown_keys (keys_held t.state name))) (sym same)
    ∙ (ap (λ (n : ℕ). option_map (lookup_with (new_count t.state) n) (option_map shown_keys (keys_held t.state name))) (sym seen)
    ∙ keys_shown (new_count t.state) t.seen (keys_held t.state name))))

pub lookups_of_histories : LookupsAreOfHistories
lookups_of_histories opening mine more name found h =
    let a = h.accepted in
    record {
      history = a.history;
      legal = a.legal;
      list_is = a.list_is;
      shows = λ t agrees seen. h.shown
          ∙ (ap (λ (l : List AcceptedChange). lookup_after opening l name) a.list_is
          ∙ histories_shown opening t a.history name a.legal agrees (seen ∙ ap (λ (l : List AcceptedChange). opening.seen + length l) a.list_is));
      saw = beginnings opening.state a.history mine.seen (subst (λ (l : List AcceptedChange). IsPrefix mine.seen l) a.list_is h.later);
      told = beginnings opening.state a.history mine.told (subst (λ (l : List AcceptedChange). IsPrefix mine.told l) a.list_is h.after);
    }
