-- The ends of a stream over a table that one thread has alone.
use Rattle.std.proofs.Common.{◌≡◌, ℕ, ◌+◌, ◌≤◌, ◌<◌, List, [], ◌∷◌, ◌++◌, Bool, true, false, Option, Some}
use Rattle.std.proofs.Common.{None, refl, sym, ◌∙◌, ap, subst, append_assoc, inl, inr, length, arith}
use Rattle.std.specs.Prelude.{IfSome, MatchBool}
use Rattle.std.proofs.lemmas.List.{append-nil}
use Rattle.std.specs.Io.KnownBytes.{Appends}
use Rattle.std.specs.declared.net.ip_addr.IpAddr.{IpAddr}
use Rattle.chpw_frame.specs.Stream.{Piece, message, ended, cut_off, too_long, next_piece, after_piece, sent}
use Rattle.chpw_frame.specs.Receiving.{ConsumesSome, AppendsFront, TakesPiece, TakesLength}
use Rattle.chpw_frame.proofs.StreamLemmas.{appends_more, put_after}
use Rattle.chpw_table.specs.declared.times.Moment.{Moment}
use Rattle.chpw_table.specs.declared.history.Receipt.{Receipt}
use Rattle.chpw_table.specs.Agreement.{Held}
use Rattle.chpw_table.specs.History.{IsLegal}
use Rattle.chpw_table.specs.Replies.{Answer}
use Rattle.chpw_decider.specs.Keeping.{Kept, IsKept, entries}
use Rattle.chpw_serve.specs.declared.messages.Seal.{Seal}
use Rattle.chpw_serve.specs.Requests.{Opens, refused, opened}
use Rattle.chpw_serve.specs.Answers.{IsAnswer}
use Rattle.chpw_serve.specs.declared.gate.Spot.{Spot}
use Rattle.chpw_serve.specs.Hearing.{Heard, AreCallsUnanswered}
use Rattle.chpw_decider.specs.Making.{Makes}
use Rattle.chpw_serve.specs.declared.serving.Ended.{Ended}
use Rattle.chpw_serve.specs.declared.serving.Ended.TheVariants as end
use Rattle.chpw_serve.specs.InTurn.{InTurn}
use Rattle.chpw_serve.specs.Serving.{StreamState, stream_state, Around, Turn, Refuses, IsEnd, IsServed, TakesAtMostOne, message_too_long}
use Rattle.chpw_serve.specs.StreamReplies.{Draw, Run, written_for, replies}
use Rattle.chpw_serve.specs.ServedAlone.{AnsweringAlone, AddsOneAlone, run_of, IsDrawnFor, AreDrawnFor, left_after}
use Rattle.chpw_serve.specs.ServedAlone.{IsEndOf, Leaves, Writes, HasDrawn, AreReceipts, AreMore, IsServedAlone}
use Rattle.chpw_serve.proofs.ChainLemmas.{took, moments_of, words_of, opening_stays, Chain, turn_of, first, drawn_first, chain}

pub at_most : (b : Bool) (m n : ℕ) → MatchBool b (m ≡ n) (m < n) → m ≤ n
at_most true m n h = omega (arith, h)
at_most false m n h = omega (arith, h)

module _ {C X G : Type 0} (error_frame : Answer → Moment → List ℕ) (private_frame : Seal → Answer → List ℕ → List ℕ)
    (opens : List ℕ → Opens → Type 0) (passes : G → Spot → G → Type 0) (hears : G → Heard → G → Type 0)
    (peer : IpAddr) (moments : C → Moment → C → Type 0) (random : X → ℕ → X → Type 0) where
  abbrev refused_by : Moment → List ℕ
  refused_by now = error_frame message_too_long now

  abbrev EndsAlone : Ended → ℕ → StreamState C X Kept G → StreamState C X Kept G → Type 0
  EndsAlone e n last final = IsEnd (AnsweringAlone passes hears error_frame private_frame opens peer)
      (AddsOneAlone passes hears opens peer) refused_by moments random passes hears peer e n last final

  -- the receipts grow, and the opening stays, at the end too
  Grows : Kept → Kept → Type 0
  Grows before after = ((own : List Receipt) × (after.receipts ≡ before.receipts ++ own)) × (after.opening ≡ before.opening)

  stays : (before after : Kept) → after ≡ before → Grows before after
  unfolding Grows
  stays before after e = (([], ap (λ (k : Kept). k.receipts) e ∙ sym (append-nil before.receipts)), ap (λ (k : Kept). k.opening) e)

  answer_grows : (full : Type 0) (text words : List ℕ) (now : Moment) (old new : List Receipt) (bytes : List ℕ)
      → IsAnswer error_frame private_frame full (opens text) words now old new bytes
      → (own : List Receipt) × (new ≡ old ++ own)
  answer_grows full text words now old new bytes (refused a, o, h) = ([], h.0 ∙ sym (append-nil old))
  answer_grows full text words now old new bytes (opened q, o, inl h) = ([], h.0 ∙ sym (append-nil old))
  answer_grows full text words now old new bytes (opened q, o, inr h) = (h.2.receipt ∷ [], h.2.added)

  abbrev AddsAtMostOne : List Receipt → List Receipt → Type 0
  AddsAtMostOne old new = (own : List Receipt) × (new ≡ old ++ own) × (length own ≤ 1)

  -- where memory ran out there is a receipt more at the most
  one_at_most : (text : List ℕ) (now : Moment) (before after : Kept) (gate later : G)
      → AddsOneAlone passes hears opens peer text now before after gate later
      → AddsAtMostOne before.receipts after.receipts
  one_at_most text now before after gate later h = one_of h.calls_are
    where
      one_of : AreCallsUnanswered peer now (Makes after) before.receipts after.receipts (opens text) h.calls → AddsAtMostOne before.receipts after.receipts
      one_of (inl k) = ([], k.0 ∙ sym (append-nil before.receipts), omega arith)
      one_of (inr (refused a, o, k)) = ([], k.0 ∙ sym (append-nil before.receipts), omega arith)
      one_of (inr (opened q, o, inl k)) = ([], k.0 ∙ sym (append-nil before.receipts), omega arith)
      one_of (inr (opened q, o, inr k)) = (k.2.receipt ∷ [], k.2.added, omega arith)

  end_grows : (e : Ended) (n : ℕ) (last final : StreamState C X Kept G) → EndsAlone e n last final → Grows last.decider final.decider
  unfolding Grows
  end_grows end.TooLong n last final (less, h) = stays last.decider final.decider h.2
  end_grows end.WriteFault n last final (less, inl h) = (
    answer_grows _ h.0.text
        h.0.words h.0.moment last.decider.receipts final.decider.receipts h.0.reply h.2.answer.reply,
    h.2.answer.goes_on,
  )
  end_grows end.WriteFault n last final (less, inr h) = stays last.decider final.decider h.2
  end_grows end.Memory n last final (less, inl h) = stays last.decider final.decider h.1.1
  end_grows end.Memory n last final (less, inr (inl h)) =
      (let one = one_at_most h.text h.moment last.decider final.decider last.around.gate final.around.gate h.adds_it in
      ((one.0, one.1), h.adds_it.goes_on))
  end_grows end.Memory n last final (less, inr (inr h)) = stays last.decider final.decider h.2
  end_grows end.Count n last final h = stays last.decider final.decider (ap (λ (p : StreamState C X Kept G). p.decider) h.1)
  end_grows e n last final (less, h) = stays last.decider final.decider h.1.1

  module _ (start last final : StreamState C X Kept G)
      (legal : IsLegal start.decider.opening.state (entries final.decider.receipts))
      (room : start.decider.opening.events + length final.decider.receipts ≤ start.decider.opening.max_entries)
      (turns : List Turn) (stream : List ℕ) (w : Chain error_frame private_frame opens passes
      hears peer moments random start.decider.opening final.decider.receipts legal room start last turns stream)
      (like : final.decider.opening ≡ start.decider.opening) where
    abbrev limit : ℕ
    limit = start.decider.opening.max_entries

    abbrev run_at_last : Run
    run_at_last = run_of (record last.decider { opening = start.decider.opening })

    -- with nothing more, or one draw more
    close : (e : Ended) (ds : List Draw) (own more : List Receipt) → length turns + length ds ≤ 65536 → AreDrawnFor opens w.rest ds
        → AreReceipts limit run_at_last ds own → final.decider.receipts ≡ last.decider.receipts ++ own ++ more → AreMore e more
        → IsEndOf e stream (w.draws ++ ds) → Leaves e (left_after w.rest ds) final.left
        → HasDrawn moments e start.around.clock (moments_of (w.draws ++ ds)) final.around.clock
        → HasDrawn random e start.around.words (words_of (w.draws ++ ds)) final.around.words
        → Writes e start.around.out final.around.out (w.bytes ++ replies limit error_frame private_frame w.rest run_at_last ds)
        → IsServedAlone error_frame private_frame opens moments random e stream start final
    close e ds own more size drawn are grown ends_with is left ms ws bytes =
        let count = w.count ds in
        record {
          draws = w.draws ++ ds;
          drawn_for = w.drawn_on ds drawn;
          few = omega (arith, count, size);
          end_is = is;
          left = subst (λ (zs : List ℕ). Leaves e zs final.left) (sym (w.behind ds)) left;
          moments_are = ms;
          words_are = ws;
          written = subst (λ (zs : List ℕ). Writes e start.around.out final.around.out zs) (sym (w.replies_on ds)) bytes;
          receipts = (
            w.added ++ own,
            more,
            grown ∙ ap (λ (rs : List Receipt). rs ++ more) (ap (λ (rs : List Receipt). rs ++ own) w.grown ∙ append_assoc start.decider.receipts w.added own),
            w.receipts_on ds own are,
            ends_with,
          );
          opening = like;
        }

    none_more : final.decider ≡ last.decider → final.decider.receipts ≡ last.decider.receipts ++ [] ++ []
    none_more e = ap (λ (k : Kept). k.receipts) e ∙ (sym (append-nil last.decider.receipts) ∙ sym (append-nil (last.decider.receipts ++ [])))

    clock_now : (a : Around C X G) → a ≡ last.around → InTurn moments start.around.clock (moments_of (w.draws ++ [])) a.clock
    clock_now a e = w.moments_on [] a.clock (ap (λ (k : Around C X G). k.clock) (sym e))

    words_now : (a : Around C X G) → a ≡ last.around → InTurn random start.around.words (words_of (w.draws ++ [])) a.words
    words_now a e = w.words_on [] a.words (ap (λ (k : Around C X G). k.words) (sym e))

    out_now : (out : Option (List ℕ)) → out ≡ last.around.out → Appends start.around.out out (w.bytes ++ [])
    out_now out e = subst (λ (o : Option (List ℕ)). Appends start.around.out o (w.bytes ++ [])) (sym e)
        (subst (λ (bs : List ℕ). Appends start.around.out last.around.out bs) (sym (append-nil w.bytes)) w.written)

    -- a message that is too long
    abbrev draw_for : (bytes : List ℕ) → Refuses refused_by moments random hears peer last.around final.around bytes → Draw
    draw_for bytes r = record { moment = r.moment; words = r.words; io = false; opens = refused message_too_long }

    refused_as : (d : Draw) → next_piece w.rest ≡ too_long
        → replies limit error_frame private_frame w.rest run_at_last (d ∷ [])
        ≡ sent (error_frame message_too_long d.moment)
    refused_as d e = ap (λ (p : Piece). written_for limit error_frame private_frame p run_at_last d []) e

    refused_for : (bytes : List ℕ) (r : Refuses refused_by moments random hears peer last.around final.around bytes)
        → next_piece w.rest ≡ too_long → AreDrawnFor opens w.rest (draw_for bytes r ∷ [])
    refused_for bytes r e = (subst (λ (p : Piece). IsDrawnFor opens p (draw_for bytes r) []) (sym e) (refl, r.nine, refl), tt)

    clock_then : (d : Draw) → moments last.around.clock d.moment final.around.clock
        → InTurn moments start.around.clock (moments_of (w.draws ++ d ∷ [])) final.around.clock
    clock_then d h = w.moments_on (d ∷ []) final.around.clock (final.around.clock, h, refl)

    words_then : (d : Draw) → InTurn random last.around.words d.words final.around.words
        → InTurn random start.around.words (words_of (w.draws ++ d ∷ [])) final.around.words
    words_then d h = w.words_on (d ∷ []) final.around.words
        (subst (λ (ws : List ℕ). InTurn random last.around.words ws final.around.words) (sym (append-nil d.words)) h)

    out_then : (d : Draw) (bytes : List ℕ) → replies limit error_frame private_frame w.rest run_at_last (d ∷ []) ≡ bytes
        → Appends last.around.out final.around.out bytes
        → Appends start.around.out final.around.out (w.bytes ++ replies limit error_frame private_frame w.rest run_at_last (d ∷ []))
    out_then d bytes e h = subst (λ (bs : List ℕ). Appends start.around.out final.around.out (w.bytes ++ bs))
        (sym e) (appends_more start.around.out last.around.out final.around.out w.bytes bytes w.written h)

    front_then : (d : Draw) (bytes : List ℕ)
        → replies limit error_frame private_frame w.rest run_at_last (d ∷ []) ≡ bytes
        → AppendsFront last.around.out final.around.out bytes
        → AppendsFront start.around.out final.around.out (w.bytes ++ replies limit error_frame private_frame w.rest run_at_last (d ∷ []))
    front_then d bytes e h = subst (λ (bs : List ℕ). AppendsFront start.around.out final.around.out (w.bytes ++ bs))
        (sym e) (h.0, put_after start.around.out last.around.out final.around.out w.bytes bytes h.0 w.written h.1, h.2)

    left_now : (p : Piece) → next_piece w.rest ≡ p → final.left ≡ Some (after_piece p w.rest) → final.left ≡ Some (after_piece (next_piece w.rest) w.rest)
    left_now p e h = h ∙ ap (λ (q : Piece). Some (after_piece q w.rest)) (sym e)

    none_but : (own : List Receipt) → final.decider.receipts ≡ last.decider.receipts ++ own → final.decider.receipts ≡ last.decider.receipts ++ own ++ []
    none_but own h = h ∙ sym (append-nil (last.decider.receipts ++ own))

    so_far : left_after stream w.draws ≡ w.rest
    so_far = ap (left_after stream) (sym (append-nil w.draws)) ∙ w.behind []

    -- memory ran out, with a receipt more at the most
    memory_ends : length turns < 65536
        → (more : List Receipt) → final.decider.receipts ≡ last.decider.receipts ++ [] ++ more
        → length more ≤ 1 → TakesAtMostOne (Some w.rest) final.left → final.around.out ≡ last.around.out
        → IsServedAlone error_frame private_frame opens moments random end.Memory stream start final
    memory_ends less more grown few taken out =
        close end.Memory [] [] more (omega (arith, less)) tt refl grown few
        tt taken (last.around.clock, clock_now last.around refl) (last.around.words, words_now last.around refl) (out_now final.around.out out)

    -- how it ends
    ends : (e : Ended) → EndsAlone e (length turns) last final → IsServedAlone error_frame private_frame opens moments random e stream start final
    ends end.Input (less, h) =
        let next = took ended w.rest last.left final.left w.left h.0 in
        close end.Input [] [] [] (omega (arith, less)) tt refl (none_more h.1.1) refl
        (ap next_piece (w.behind []) ∙ next.0) next.1 (clock_now final.around h.1.0)
        (words_now final.around h.1.0) (out_now final.around.out (ap (λ (a : Around C X G). a.out) h.1.0))
    ends end.CutOff (less, h) =
        let next = took cut_off w.rest last.left final.left w.left h.0 in
        close end.CutOff [] [] [] (omega (arith, less)) tt refl (none_more h.1.1) refl
        (ap next_piece (w.behind []) ∙ next.0) next.1 (clock_now final.around h.1.0)
        (words_now final.around h.1.0) (out_now final.around.out (ap (λ (a : Around C X G). a.out) h.1.0))
    ends end.ReadFault (less, h) =
        close end.ReadFault [] [] [] (omega (arith, less)) tt refl (none_more h.1.1) refl
        tt (subst (λ (o : Option (List ℕ)). ConsumesSome o final.left) w.left h.0) (clock_now final.around h.1.0)
        (words_now final.around h.1.0) (out_now final.around.out (ap (λ (a : Around C X G). a.out) h.1.0))
    ends end.Memory (less, inl h) =
        memory_ends less [] (none_more h.1.1)
        (omega arith) (inl (subst (λ (o : Option (List ℕ)). TakesLength o final.left) w.left h.0))
        (ap (λ (a : Around C X G). a.out) h.1.0)
    ends end.Memory (less, inr (inl h)) =
        let one = one_at_most h.text h.moment last.decider final.decider last.around.gate final.around.gate h.adds_it in
        memory_ends less one.0 (one.1 ∙ ap (λ (rs : List Receipt). rs ++ one.0)
        (sym (append-nil last.decider.receipts))) one.2 (inr (
          message h.text,
          subst (λ (o : Option (List ℕ)). TakesPiece (message h.text) o final.left) w.left h.taken,
        )) h.out
    ends end.Memory (less, inr (inr h)) =
        memory_ends less [] (none_more h.2) (omega arith) (inr (too_long, subst (λ (o : Option (List ℕ)). TakesPiece too_long o final.left) w.left h.0)) h.1.2
    ends end.Count h =
        let around : final.around ≡ last.around = ap (λ (p : StreamState C X Kept G). p.around) h.1 in
        let count = w.count [] in
        close end.Count [] [] [] (omega (arith, h.0)) tt refl (none_more (ap (λ (p : StreamState C X Kept G). p.decider) h.1)) refl
        (omega (arith, count, h.0))
        (ap (λ (p : StreamState C X Kept G). p.left) h.1 ∙ w.left) (clock_now final.around around)
        (words_now final.around around) (out_now final.around.out (ap (λ (a : Around C X G). a.out) around))
    ends end.TooLong (less, h) =
        let next = took too_long w.rest last.left final.left w.left h.0 in
        let r = h.1.1 in
        let d : Draw = draw_for h.1.0 r in
        close end.TooLong (d ∷ []) [] [] (omega (arith, less)) (refused_for h.1.0 r next.0) ([], [], refl, refl, refl) (none_more h.2) refl
        (w.draws, d, refl, ap next_piece so_far ∙ next.0) (left_now too_long next.0 next.1) (clock_then d r.moment_is)
        (words_then d r.words_are) (out_then d h.1.0 (refused_as d next.0 ∙ sym r.bytes_are) h.1.2)
    ends end.WriteFault (less, inr h) =
        let next = took too_long w.rest last.left final.left w.left h.0 in
        let r = h.1.1 in
        let d : Draw = draw_for h.1.0 r in
        close end.WriteFault (d ∷ []) [] [] (omega (arith, less)) (refused_for h.1.0 r next.0) ([], [], refl, refl, refl) (none_more h.2) refl
        tt (left_now too_long next.0 next.1) (clock_then d r.moment_is)
        (words_then d r.words_are) (front_then d h.1.0 (refused_as d next.0 ∙ sym r.bytes_are) h.1.2)
    ends end.WriteFault (less, inl h) =
        let t : Turn = h.0 in
        let next = took (message t.text) w.rest last.left final.left w.left h.1 in
        let one = turn_of error_frame private_frame opens passes hears
        peer moments random start.decider.opening final.decider.receipts legal room false last final t h.2 like
        ([], sym (append-nil final.decider.receipts)) in
        let d : Draw = one.draw in
        close end.WriteFault (d ∷ []) one.own [] (omega (arith, less)) (
          drawn_first error_frame private_frame opens passes hears peer moments random
              start.decider.opening final.decider.receipts legal room last final t w.rest one [] h.2.nine next.0,
          tt,
        )
        (one.own, [], sym (append-nil one.own), one.own_are, refl) (none_but one.own one.added) refl
        tt (left_now (message t.text) next.0 next.1)
        (clock_then d (subst (λ (m : Moment). moments last.around.clock m final.around.clock) (sym one.moment_is) h.2.moment))
        (words_then d (subst (λ (ws : List ℕ). InTurn random last.around.words ws final.around.words) (sym one.words_are) h.2.words))
        (front_then d (sent t.reply) (first error_frame private_frame opens passes hears peer
        moments random start.decider.opening final.decider.receipts legal room last final t w.rest one [] next.0
        ∙ append-nil (sent t.reply)) h.3)

  -- the whole, where the history kept in the end is legal and has room
  pub served_alone : (e : Ended) (start final : StreamState C X Kept G) (stream : List ℕ)
      → IsServed (AnsweringAlone passes hears error_frame private_frame opens peer)
      (AddsOneAlone passes hears opens peer) refused_by moments random passes hears peer e start final
      → start.left ≡ Some stream → IsKept final.decider → final.decider.table.events ≤ final.decider.table.max_entries
      → IsServedAlone error_frame private_frame opens moments random e stream start final
  unfolding Grows
  served_alone e start final stream h is kept few =
      let last = h.last in
      let grown = end_grows e (length h.turns) last final h.end_is in
      let like : final.decider.opening ≡ start.decider.opening = grown.1 ∙ opening_stays error_frame
      private_frame opens passes hears peer moments random start h.turns last h.served in
      let legal : IsLegal start.decider.opening.state (entries final.decider.receipts) =
      subst (λ (o : Held). IsLegal o.state (entries final.decider.receipts)) like kept.legal in
      let events : start.decider.opening.events + length final.decider.receipts ≡ final.decider.table.events =
      ap (λ (o : Held). o.events + length final.decider.receipts) (sym like) ∙ sym kept.events in
      let limit : final.decider.table.max_entries ≡ start.decider.opening.max_entries = kept.limit ∙ ap (λ (o : Held). o.max_entries) like in
      let room : start.decider.opening.events + length final.decider.receipts ≤ start.decider.opening.max_entries = omega (arith, events, limit, few) in
      let w = chain error_frame private_frame opens passes hears peer moments random
      start.decider.opening final.decider.receipts legal room start h.turns last stream h.served is refl grown.0 in
      ends start last final legal room h.turns stream w like e h.end_is

  -- where the reader tells its bytes
  pub served_alone_of : (e : Ended) (left rest : Option (List ℕ))
      (before after : Kept) (old new : Option (List ℕ)) (clock then : C) (words later : X) (gate passed : G)
      → IsServed (AnsweringAlone passes hears error_frame private_frame opens peer)
      (AddsOneAlone passes hears opens peer) refused_by moments random passes hears peer e
      (stream_state left before old clock words gate) (stream_state rest after new then later passed)
      → IsKept after → after.table.events ≤ after.table.max_entries
      → IfSome left (λ stream. (gate passed : G) × IsServedAlone error_frame private_frame opens moments random e stream
      (stream_state left before old clock words gate) (stream_state rest after new then later passed))
  served_alone_of e None rest before after old new clock then words later gate passed h kept few = tt
  served_alone_of e (Some stream) rest before after old new clock then words later gate passed h kept few = (
    gate,
    passed,
    served_alone e (stream_state (Some stream) before old clock words gate)
        (stream_state rest after new then later passed) stream h refl kept few,
  )
