-- The turns of a stream, one after the other, are those of the machine of one thread.
use Rattle.std.proofs.Common.{◌≡◌, ℕ, ◌+◌, ◌≤◌, List, [], ◌∷◌, ◌++◌, Bool, true, Option, Some, None, refl, sym, ◌∙◌, ap, subst, append_assoc, length, arith}
use Rattle.std.specs.Prelude.{map}
use Rattle.std.specs.List.{flat_map}
use Rattle.std.proofs.lemmas.List.{append-nil}
use Rattle.std.specs.Io.KnownBytes.{Appends}
use Rattle.std.specs.declared.net.ip_addr.IpAddr.{IpAddr}
use Rattle.chpw_frame.specs.Stream.{Piece, message, next_piece, after_piece, sent}
use Rattle.chpw_frame.specs.Receiving.{TakesPiece}
use Rattle.chpw_frame.proofs.StreamLemmas.{appends_none, appends_more}
use Rattle.chpw_table.specs.declared.times.Moment.{Moment}
use Rattle.chpw_table.specs.declared.history.Receipt.{Receipt}
use Rattle.chpw_table.specs.Agreement.{Held}
use Rattle.chpw_table.specs.History.{IsLegal}
use Rattle.chpw_table.specs.Replies.{Answer}
use Rattle.chpw_decider.specs.Keeping.{Kept, IsFullAt, entries}
use Rattle.chpw_serve.specs.declared.messages.Seal.{Seal}
use Rattle.chpw_serve.specs.Requests.{Opens}
use Rattle.chpw_serve.specs.declared.gate.Spot.{Spot}
use Rattle.chpw_serve.specs.Hearing.{Heard}
use Rattle.chpw_serve.specs.InTurn.{InTurn}
use Rattle.chpw_serve.specs.Serving.{StreamState, Turn, Serves, Answers, message_too_long}
use Rattle.chpw_serve.specs.StreamReplies.{Draw, Run, run_after, written_for, replies}
use Rattle.chpw_serve.specs.ServedAlone.{AnsweringAlone, AddsOneAlone, IsDrawnFor, AreDrawnFor, left_after, AreReceipts}
use Rattle.chpw_serve.proofs.DrawLemmas.{drawn_more}
use Rattle.chpw_serve.proofs.StreamRepliesLemmas.{run_at, Answered, IsFront, answered}

some_inside : (s t : List ℕ) → Some s ≡ Some t → s ≡ t
some_inside s t e = cc

-- a piece that was taken of known bytes
pub took : (p : Piece) (stream : List ℕ) (before after : Option (List ℕ))
    → before ≡ Some stream → TakesPiece p before after → (next_piece stream ≡ p) × (after ≡ Some (after_piece p stream))
took p stream None after e h = cc
took p stream (Some s) None e h = absurd h
took p stream (Some s) (Some left) e h =
    let same : s ≡ stream = some_inside s stream e in
    (ap next_piece (sym same) ∙ h.0, ap (λ (xs : List ℕ). Some xs) (h.1 ∙ ap (after_piece p) same))

abbrev pub moments_of : List Draw → List Moment
moments_of draws = map (λ (d : Draw). d.moment) draws

abbrev pub words_of : List Draw → List ℕ
words_of draws = flat_map (λ (d : Draw). d.words) draws

module _ {C X G : Type 0} (error_frame : Answer → Moment → List ℕ) (private_frame : Seal → Answer → List ℕ → List ℕ)
    (opens : List ℕ → Opens → Type 0) (passes : G → Spot → G → Type 0) (hears : G → Heard → G → Type 0)
    (peer : IpAddr) (moments : C → Moment → C → Type 0) (random : X → ℕ → X → Type 0) where
  abbrev pub refusal : Moment → List ℕ
  refusal now = error_frame message_too_long now

  abbrev pub ServesAlone : StreamState C X Kept G → Turn → StreamState C X Kept G → Type 0
  ServesAlone before t after = Serves (AnsweringAlone passes hears error_frame private_frame opens peer)
      (AddsOneAlone passes hears opens peer) refusal moments random passes hears peer before t after

  -- the opening stays
  pub opening_stays : (start : StreamState C X Kept G) (turns : List Turn) (last : StreamState C X Kept G)
      → InTurn ServesAlone start turns last → last.decider.opening ≡ start.decider.opening
  opening_stays start [] last h = ap (λ (p : StreamState C X Kept G). p.decider.opening) (sym h)
  opening_stays start (t ∷ ts) last h = opening_stays h.0 ts last h.2 ∙ h.1.1.answer.goes_on

  module _ (opening : Held) (all : List Receipt) (legal : IsLegal opening.state (entries all)) (room : opening.events + length all ≤ opening.max_entries) where
    -- from the start of these turns to after them, whatever is drawn after that
    pub record Chain (start last : StreamState C X Kept G) (turns : List Turn) (stream : List ℕ) : Type 0 where
      pub rest : List ℕ
      pub bytes : List ℕ
      pub draws : List Draw
      pub added : List Receipt
      pub left : last.left ≡ Some rest
      pub written : Appends start.around.out last.around.out bytes
      pub grown : last.decider.receipts ≡ start.decider.receipts ++ added
      pub count : (ds : List Draw) → length (draws ++ ds) ≡ length turns + length ds
      pub moments_on : (ds : List Draw) (c : C) → InTurn moments last.around.clock (moments_of ds) c
          → InTurn moments start.around.clock (moments_of (draws ++ ds)) c
      pub words_on : (ds : List Draw) (x : X) → InTurn random last.around.words (words_of ds) x → InTurn random start.around.words (words_of (draws ++ ds)) x
      pub drawn_on : (ds : List Draw) → AreDrawnFor opens rest ds → AreDrawnFor opens stream (draws ++ ds)
      pub behind : (ds : List Draw) → left_after stream (draws ++ ds) ≡ left_after rest ds
      pub replies_on : (ds : List Draw) → replies opening.max_entries error_frame private_frame stream
          (run_at error_frame private_frame opens opening start.decider.receipts) (draws ++ ds)
          ≡ bytes ++ replies opening.max_entries error_frame private_frame rest (run_at error_frame private_frame opens opening last.decider.receipts) ds
      pub receipts_on : (ds : List Draw) (rs : List Receipt)
          → AreReceipts opening.max_entries (run_at error_frame private_frame opens opening last.decider.receipts) ds rs
          → AreReceipts opening.max_entries (run_at error_frame private_frame opens opening start.decider.receipts) (draws ++ ds) (added ++ rs)

    abbrev pub run_behind : List Receipt → Run
    run_behind receipts = run_at error_frame private_frame opens opening receipts

    abbrev pub IsTurn : StreamState C X Kept G → Turn → StreamState C X Kept G → Type 0
    IsTurn before t after = Answered error_frame private_frame opens opening before.decider.receipts after.decider.receipts t.text t.words t.moment t.reply

    -- a turn is one of the machine
    pub turn_of : (is_written : Bool) (before after : StreamState C X Kept G) (t : Turn)
        → Answers (AnsweringAlone passes hears error_frame private_frame opens peer)
        (AddsOneAlone passes hears opens peer) refusal moments random passes hears peer is_written before t after
        → after.decider.opening ≡ opening
        → IsFront error_frame private_frame opens opening all legal room after.decider.receipts → IsTurn before t after
    turn_of is_written before after t a like front =
        let rs = after.decider.receipts in
        answered error_frame private_frame opens opening all legal room
        (IsFullAt after.decider rs) before.decider.receipts rs t.text t.words t.moment t.reply front
        (λ h. ap (λ (o : Held). o.events + length rs) (sym like) ∙ (h ∙ ap (λ (o : Held). o.max_entries) like)) a.answer.reply

    -- its reply stands in front of the others
    pub first : (before after : StreamState C X Kept G)
        (t : Turn) (stream : List ℕ) (one : IsTurn before t after) (ds : List Draw) → next_piece stream ≡ message t.text
        → replies opening.max_entries error_frame private_frame stream (run_behind before.decider.receipts) (one.draw ∷ ds)
        ≡ sent t.reply ++ replies opening.max_entries error_frame private_frame (after_piece (message t.text) stream) (run_behind after.decider.receipts) ds
    first before after t stream one ds e =
        let run = run_behind before.decider.receipts in
        let d : Draw = one.draw in
        let next : Run = run_after opening.max_entries run d d.opens in
        ap (λ (p : Piece). written_for opening.max_entries error_frame private_frame p run d
        (replies opening.max_entries error_frame private_frame (after_piece p stream) next ds)) e
        ∙ (ap (λ (bs : List ℕ). sent bs ++ replies opening.max_entries error_frame private_frame
        (after_piece (message t.text) stream) next ds) (sym one.reply_is)
        ∙ ap (λ (r : Run). sent t.reply ++ replies opening.max_entries error_frame private_frame (after_piece (message t.text) stream) r ds) (sym one.goes_on))

    pub drawn_first : (before after : StreamState C X Kept G) (t : Turn) (stream : List ℕ)
        (one : IsTurn before t after) (ds : List Draw) → length t.words ≡ 9 → next_piece stream ≡ message t.text
        → IsDrawnFor opens (next_piece stream) one.draw ds
    drawn_first before after t stream one ds nine e =
        subst (λ (p : Piece). IsDrawnFor opens p one.draw ds) (sym e) (one.opens_so, ap length one.words_are ∙ nine)

    here : (start : StreamState C X Kept G) (stream : List ℕ) → start.left ≡ Some stream → Chain start start [] stream
    here start stream e = record {
      rest = stream;
      bytes = [];
      draws = [];
      added = [];
      left = e;
      written = appends_none start.around.out;
      grown = sym (append-nil start.decider.receipts);
      count = λ ds. omega arith;
      moments_on = λ ds c h. h;
      words_on = λ ds x h. h;
      drawn_on = λ ds h. h;
      behind = λ ds. refl;
      replies_on = λ ds. refl;
      receipts_on = λ ds rs h. h;
    }

    one_more : (start mid last : StreamState C X Kept G) (t : Turn) (ts : List Turn) (stream : List ℕ)
        → ServesAlone start t mid → next_piece stream ≡ message t.text
        → IsTurn start t mid → Chain mid last ts (after_piece (message t.text) stream) → Chain start last (t ∷ ts) stream
    one_more start mid last t ts stream h e one more = record {
      rest = more.rest;
      bytes = sent t.reply ++ more.bytes;
      draws = one.draw ∷ more.draws;
      added = one.own ++ more.added;
      left = more.left;
      written = appends_more start.around.out mid.around.out last.around.out (sent t.reply) more.bytes h.2 more.written;
      grown = more.grown ∙ (ap (λ (rs : List Receipt). rs ++ more.added) one.added ∙ append_assoc start.decider.receipts one.own more.added);
      count = λ ds. let k = more.count ds in omega (arith, k);
      moments_on = λ ds c g. (
        mid.around.clock,
        subst (λ (m : Moment). moments start.around.clock m mid.around.clock)
            (sym one.moment_is) h.1.moment,
        more.moments_on ds c g,
      );
      words_on =
          λ ds x g. drawn_more random start.around.words one.draw.words mid.around.words (words_of (more.draws ++ ds)) x
          (subst (λ (ws : List ℕ). InTurn random start.around.words ws mid.around.words) (sym one.words_are) h.1.words)
          (more.words_on ds x g);
      drawn_on = λ ds g. (
        drawn_first start mid t stream one (more.draws ++ ds) h.1.nine e,
        subst (λ (p : Piece).
            AreDrawnFor opens (after_piece p stream) (more.draws ++ ds)) (sym e) (more.drawn_on ds g),
      );
      behind = λ ds. ap (λ (p : Piece). left_after (after_piece p stream) (more.draws ++ ds)) e ∙ more.behind ds;
      replies_on = λ ds. first start mid t stream one (more.draws ++ ds) e
          ∙ (ap (λ (bs : List ℕ). sent t.reply ++ bs) (more.replies_on ds)
          ∙ sym (append_assoc (sent t.reply) more.bytes
          (replies opening.max_entries error_frame private_frame more.rest (run_behind last.decider.receipts) ds)));
      receipts_on = λ ds rs g. (
        one.own,
        more.added ++ rs,
        append_assoc one.own more.added rs,
        one.own_are,
        subst (λ (r : Run). AreReceipts opening.max_entries r
            (more.draws ++ ds) (more.added ++ rs)) one.goes_on (more.receipts_on ds rs g),
      );
    }

    pub chain : (start : StreamState C X Kept G) (turns : List Turn) (last : StreamState C X Kept G) (stream : List ℕ)
        → InTurn ServesAlone start turns last → start.left ≡ Some stream → start.decider.opening ≡ opening
        → IsFront error_frame private_frame opens opening all legal room last.decider.receipts → Chain start last turns stream
    chain start [] last stream h e like front = subst (λ (p : StreamState C X Kept G). Chain start p [] stream) h (here start stream e)
    chain start (t ∷ ts) last stream h e like front =
        let k = took (message t.text) stream start.left h.0.left e h.1.0 in
        let then_like = h.1.1.answer.goes_on ∙ like in
        let more = chain h.0 ts last (after_piece (message t.text) stream) h.2 k.1 then_like front in
        let ahead : IsFront error_frame private_frame opens opening all legal room h.0.decider.receipts = (
          more.added ++ front.0,
          front.1 ∙ (ap (λ (rs : List Receipt). rs ++ front.0) more.grown
              ∙ append_assoc h.0.decider.receipts more.added front.0),
        ) in
        one_more start h.0 last t ts stream h.1 k.0 (turn_of true start h.0 t h.1.1 then_like ahead) more
