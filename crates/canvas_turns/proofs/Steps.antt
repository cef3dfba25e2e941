-- No byte is lost: what each part of a step says joins what the writer writes.
use Rattle.std.proofs.Common.{◌≡◌, ◌⊎◌, ℕ, zero, suc, Bool, true, false, List, [], ◌∷◌, ◌++◌, length, map, Option, refl, sym, ap, subst, ◌∙◌, append_assoc, append-nil}
use mathlib.Core.Logic.{inl, inr}
use Rattle.std.proofs.KnownBytes.{Appends-nil}
use Rattle.std.specs.Io.KnownBytes.{Appends, append_known}
use Rattle.websocket.specs.declared.protocol.config.Role.TheVariants.{Server}
use Rattle.tungstenite.specs.Content.{Content, text, binary, ping, pong, close}
use Rattle.tungstenite.specs.Socket.{Socket, content_of}
use Rattle.canvas_model.specs.Messages.{Message}
use Rattle.canvas_sockets.specs.Turned.{IsTurn, Puts, TakesEach, TakesFrame}
use Rattle.canvas_sockets.specs.declared.line.Line.{Line}
use Rattle.canvas_sockets.specs.declared.turning.TurnEnd.{TurnEnd}
use Rattle.canvas_sockets.specs.declared.turning.TurnEnd.TheVariants as turn
use Rattle.net_outbox.specs.Outboxes.{contents_of, waiting_bytes}
use Rattle.net_outbox.specs.declared.outbox.Outbox.{Outbox}
use Rattle.canvas_turns.specs.Lines.{Inlet, IsNextLine, OpenLine}
use Rattle.canvas_turns.specs.Told.{LeavesSome, MayTell, MayWhisper, Pings, TellsSome}
use Rattle.canvas_turns.specs.Served.{StepsAndTells, StepsOn, StepsTimes}
use Rattle.canvas_turns.specs.Said.{Event, Elsewhere, Heard, Published, Quiet, Whispered, NoByteIsLost, Says, SaysEach, frame_of, frames_of, joined}
use Rattle.canvas_turns.proofs.Joined.{Grows, flush_joins, frame_joins, grows_on, stays, texts_join}

-- the frames of the one, and then of the other
frames_append : (xs ys : List Content) → frames_of (xs ++ ys) ≡ frames_of xs ++ frames_of ys
frames_append [] ys = refl
frames_append (x ∷ xs) ys = ap (λ l. frame_of x ++ l) (frames_append xs ys) ∙ sym (append_assoc (frame_of x) (frames_of xs) (frames_of ys))

module _ {A : Type 0} (Replies : A → List ℕ → List Message → A → Type 0) (Tells : A → List Message → A → Type 0) (GoesTo : A → ℕ → A → Type 0) (Whispers : List ℕ → Type 0)
    (Between : A → A → Type 0) where
  -- what events have said, and then what more have
  says_more : (es fs : List Event) (old mid new : A) (xs ys : List Content) → SaysEach Replies Tells GoesTo Whispers Between es old xs mid → SaysEach Replies Tells GoesTo Whispers Between fs mid ys new
      → SaysEach Replies Tells GoesTo Whispers Between (es ++ fs) old (xs ++ ys) new
  says_more [] fs old mid new xs ys first second =
      subst (λ (l : List Content). SaysEach Replies Tells GoesTo Whispers Between fs old (l ++ ys) new) (sym first.0)
      (subst (λ (a : A). SaysEach Replies Tells GoesTo Whispers Between fs a ys new) first.1 second)
  says_more (e ∷ es) fs old mid new xs ys first second = (
    first.0,
    first.1,
    first.2 ++ ys,
    ap (λ (l : List Content). l ++ ys) first.3 ∙ append_assoc first.1 first.2 ys,
    first.4,
    says_more es fs first.0 mid new first.2 ys first.5 second,
  )

  module _ {S : Type 0} (contents : S → Option (List ℕ)) where
    -- what events said joined what a server's socket writes, as frames
    pub record Went (old : A) (before : Socket S) (new : A) (after : Socket S) : Type 0 where
      pub events : List Event
      pub said : List Content
      pub says : SaysEach Replies Tells GoesTo Whispers Between events old said new
      pub grows : Grows contents before after (frames_of said)

    -- the same of a server's socket
    abbrev pub Goes : A → Socket S → A → Socket S → Type 0
    Goes old before new after = before.conn.role ≡ Server → Went old before new after

    -- nothing was said
    pub goes_quiet : (a : A) (before after : Socket S) → (before.conn.role ≡ Server → Grows contents before after []) → Goes a before a after
    goes_quiet a before after grows = λ server. record { events = []; said = []; says = (refl, refl); grows = grows server }

    pub goes_nowhere : (old : A) (before : Socket S) (new : A) (after : Socket S) → new ≡ old → after ≡ before → Goes old before new after
    goes_nowhere old before new after same still =
        subst (λ (a : A). Goes old before a after) (sym same) (subst (λ (s : Socket S). Goes old before old s) (sym still) (goes_quiet old before before (λ server. stays contents before server)))

    -- one event said this
    pub goes_once : (e : Event) (said : List Content) (old : A) (before : Socket S) (new : A) (after : Socket S) → Says Replies Tells GoesTo Whispers Between e old said new
        → (before.conn.role ≡ Server → Grows contents before after (frames_of said)) → Goes old before new after
    goes_once e said old before new after says grows =
        λ server. record { events = e ∷ []; said = said; says = (new, said, [], sym (append-nil said), says, (refl, refl)); grows = grows server }

    -- one event said this frame
    pub goes_by_frame : (e : Event) (c : Content) (old : A) (before : Socket S) (new : A) (after : Socket S) → Says Replies Tells GoesTo Whispers Between e old (c ∷ []) new
        → (before.conn.role ≡ Server → Grows contents before after (frame_of c)) → Goes old before new after
    goes_by_frame e c old before new after says grows =
        goes_once e (c ∷ []) old before new after says (λ server. subst (λ (bs : List ℕ). Grows contents before after bs) (sym (append-nil (frame_of c))) (grows server))

    -- the one, and then the other
    pub goes_on : (old : A) (before : Socket S) (a : A) (s : Socket S) (new : A) (after : Socket S) → Goes old before a s → Goes a s new after → Goes old before new after
    goes_on old before a s new after first second = λ server.
        let w = first server in
        let v = second w.grows.0 in
        record {
          events = w.events ++ v.events;
          said = w.said ++ v.said;
          says = says_more w.events v.events old a new w.said v.said w.says v.says;
          grows = subst (λ (bs : List ℕ). Grows contents before after bs) (sym (frames_append w.said v.said)) (grows_on contents before s after (frames_of w.said) (frames_of v.said) w.grows v.grows);
        }

    -- the reply to a frame
    pub puts_go : (c : Content) (on : Bool) (old : A) (before : Socket S) (new : A) (after : Socket S) → Puts Replies contents c on old before new after → Goes old before new after
    puts_go (binary bytes) on old before new after (is, (answer, replies, (ts, are, wrote))) =
        goes_once (Heard (binary bytes)) (map binary ts) old before new after (answer, replies, (ts, are, refl)) (λ server. texts_join contents before after ts server wrote)
    puts_go (text bytes) on old before new after (is, same, (ts, are, wrote)) =
        goes_once (Heard (text bytes)) (map binary ts) old before new after (same, (ts, are, refl)) (λ server. texts_join contents before after ts server wrote)
    puts_go (ping bytes) on old before new after (is, same, wrote) =
        goes_by_frame (Heard (ping bytes)) (pong bytes) old before new after (same, refl) (λ server. frame_joins contents before after (pong bytes) server wrote)
    puts_go (pong bytes) on old before new after (is, same, still) = goes_nowhere old before new after same still
    puts_go (close frame) on old before new after (is, same, wrote) =
        goes_by_frame (Heard (close frame)) (close frame) old before new after (same, refl) (λ server. frame_joins contents before after (close frame) server wrote)

    module _ {I : Type 0} (remaining : I → Option (List ℕ)) where
      -- a frame was read, and the reply to it put
      pub frame_goes : (on : Bool) (old : A) (before : Line I S) (new : A) (after : Line I S) → TakesFrame Replies remaining contents on old before new after → Goes old before.writer new after.writer
      frame_goes on old before new after (frame, reads, puts) = puts_go (content_of frame) on old before.writer new after.writer puts

      module _ (waits : S → ℕ) (room : ℕ) where
        pub each_goes : (n : ℕ) (old : A) (before : Line I S) (new : A) (after : Line I S) → TakesEach Replies remaining contents waits room n old before new after → Goes old before.writer new after.writer
        each_goes zero old before new after (same, still) = goes_nowhere old before.writer new after.writer same (ap (λ (l : Line I S). l.writer) still)
        each_goes (suc n) old before new after (a, l, each, has, takes) =
            goes_on old before.writer a l.writer new after.writer (each_goes n old before a l each) (frame_goes true a l new after takes)

        -- a turn, however it ends
        pub turn_goes : (most : ℕ) (t : TurnEnd) (old : A) (before : Line I S) (new : A) (after : Line I S) → IsTurn Replies remaining contents waits room most t old before new after
            → Goes old before.writer new after.writer
        turn_goes most turn.Most old before new after each = each_goes most old before new after each
        turn_goes most turn.Full old before new after (n, less, each, full) = each_goes n old before new after each
        turn_goes most turn.Dry old before new after (n, a, l, less, each, has, (same, still, failed)) =
            goes_on old before.writer a l.writer new after.writer (each_goes n old before a l each) (goes_nowhere a l.writer new after.writer same still)
        turn_goes most turn.Closed old before new after (n, a, l, less, each, has, takes) =
            goes_on old before.writer a l.writer new after.writer (each_goes n old before a l each) (frame_goes false a l new after takes)

  module _ {I O : Type 0} (contents : O → Option (List ℕ)) where
    -- what the peer took
    pub leaves_go : (a : A) (before after : OpenLine I O) → LeavesSome contents before after → Goes (contents_of contents) a before.writer a after.writer
    leaves_go a before after (flushed, empty, same) = goes_quiet (contents_of contents) a before.writer after.writer (λ server. flush_joins (contents_of contents) before.writer after.writer server flushed)

    -- what was told unasked, and what the peer took of it
    pub told_goes : (old : A) (before : OpenLine I O) (new : A) (after : OpenLine I O) → TellsSome Tells GoesTo contents old before new after → Goes (contents_of contents) old before.writer new after.writer
    told_goes old before new after t =
        goes_once (contents_of contents) Published (map binary t.texts) old before.writer new after.writer
        (inl (record { told = t.told; looked = t.looked; finds = t.finds; place = t.place; last = t.last; is_last = t.is_last; are = (t.texts, t.are, refl); moved = t.moved }))
        (λ server. texts_join (contents_of contents) before.writer after.writer t.texts server t.wrote)

    nothing_goes : (old : A) (before : OpenLine I O) (new : A) (after : OpenLine I O) → after ≡ before → (new ≡ old) ⊎ Tells old [] new → Goes (contents_of contents) old before.writer new after.writer
    nothing_goes old before new after still (inl same) = goes_nowhere (contents_of contents) old before.writer new after.writer same (ap (λ (l : OpenLine I O). l.writer) still)
    nothing_goes old before new after still (inr looks) =
        subst (λ (l : OpenLine I O). Goes (contents_of contents) old before.writer new l.writer) (sym still)
        (goes_once (contents_of contents) Published [] old before.writer new before.writer (inr (refl, looks)) (λ server. stays (contents_of contents) before.writer server))

    pub may_tell_goes : (has : Bool) (old : A) (before : OpenLine I O) (new : A) (after : OpenLine I O) → MayTell Tells GoesTo contents has old before new after → Goes (contents_of contents) old before.writer new after.writer
    may_tell_goes true old before new after (mid, tells, leaves) =
        goes_on (contents_of contents) old before.writer new mid.writer new after.writer (told_goes old before new mid tells) (leaves_go new mid after leaves)
    may_tell_goes false old before new after (still, looked) = nothing_goes old before new after still looked

    -- what was whispered, and what the peer took of it
    pub may_whisper_goes : (a : A) (before after : OpenLine I O) → MayWhisper Whispers contents before after → Goes (contents_of contents) a before.writer a after.writer
    may_whisper_goes a before after (inl still) = goes_nowhere (contents_of contents) a before.writer a after.writer refl (ap (λ (l : OpenLine I O). l.writer) still)
    may_whisper_goes a before after (inr (mid, (texts, are, wrote, same), leaves)) =
        goes_on (contents_of contents) a before.writer a mid.writer a after.writer
        (goes_once (contents_of contents) Whispered (map binary texts) a before.writer a mid.writer (refl, (texts, are, refl)) (λ server. texts_join (contents_of contents) before.writer mid.writer texts server wrote))
        (leaves_go a mid after leaves)

    -- the sockets that go on
    pub next_goes : (a : A) (before after : OpenLine I O) → (after ≡ before) ⊎ IsNextLine before after ⊎ Pings contents before after → Goes (contents_of contents) a before.writer a after.writer
    next_goes a before after (inl still) = goes_nowhere (contents_of contents) a before.writer a after.writer refl (ap (λ (l : OpenLine I O). l.writer) still)
    next_goes a before after (inr (inl next)) =
        let empty = next.1.0 in
        let fresh = next.1.1 in
        let bytes = λ (s : Outbox O) (out : List ℕ). append_known (contents_of contents s) out in
        let same : joined (contents_of contents) after.writer ≡ joined (contents_of contents) before.writer
        = ap (λ (s : Outbox O). bytes s after.writer.output) fresh.on_stream ∙ ap (λ (out : List ℕ). bytes before.writer.stream out) (fresh.nothing_waits ∙ sym empty) in
        goes_quiet (contents_of contents) a before.writer after.writer
        (λ server. (fresh.has_role, subst (λ (known : Option (List ℕ)). Appends (joined (contents_of contents) before.writer) known []) (sym same) (Appends-nil (joined (contents_of contents) before.writer))))
    next_goes a before after (inr (inr pings)) =
        goes_by_frame (contents_of contents) Quiet (ping []) a before.writer a after.writer (refl, refl) (λ server. frame_joins (contents_of contents) before.writer after.writer (ping []) server pings.0)

  module _ {I O : Type 0} (remaining : I → Option (List ℕ)) (contents : O → Option (List ℕ)) where
    tells_go : (old : A) (before : OpenLine I O) (new : A) (after : OpenLine I O) → StepsAndTells Replies Tells GoesTo Whispers remaining contents old before new after → Goes (contents_of contents) old before.writer new after.writer
    tells_go old before new after (t, a, l, opened, (turned, takes, leaves), (has, tells)) =
        goes_on (contents_of contents) old before.writer a l.writer new after.writer
        (goes_on (contents_of contents) old before.writer a turned.writer a l.writer
        (turn_goes (contents_of contents) (λ (d : Inlet I). remaining d.reader.stream) (λ (o : Outbox O). length (waiting_bytes o)) 262144 64 t old before a turned takes)
        (leaves_go contents a turned l leaves))
        (may_tell_goes contents has a l new after tells)

    step_goes : (old : A) (before : OpenLine I O) (new : A) (after : OpenLine I O) → StepsOn Replies Tells GoesTo Whispers remaining contents old before new after → Goes (contents_of contents) old before.writer new after.writer
    step_goes old before new after (mid, (l, tells, whispers), next) =
        goes_on (contents_of contents) old before.writer new mid.writer new after.writer
        (goes_on (contents_of contents) old before.writer new l.writer new mid.writer (tells_go old before new l tells) (may_whisper_goes contents new l mid whispers))
        (next_goes contents new mid after next)

    -- what its handler did for others
    elsewhere_goes : (a b : A) (l : OpenLine I O) → Between a b → Goes (contents_of contents) a l.writer b l.writer
    elsewhere_goes a b l between = goes_once (contents_of contents) Elsewhere [] a l.writer b l.writer (refl, between) (λ server. stays (contents_of contents) l.writer server)

    steps_go : (n : ℕ) (old : A) (before : OpenLine I O) (new : A) (after : OpenLine I O) → StepsTimes Replies Tells GoesTo Whispers remaining contents Between n old before new after
        → Goes (contents_of contents) old before.writer new after.writer
    steps_go zero old before new after (same, still) = goes_nowhere (contents_of contents) old before.writer new after.writer same (ap (λ (l : OpenLine I O). l.writer) still)
    steps_go (suc n) old before new after (a, b, l, steps, between, on) =
        goes_on (contents_of contents) old before.writer b l.writer new after.writer
        (goes_on (contents_of contents) old before.writer a l.writer b l.writer (steps_go n old before a l steps) (elsewhere_goes a b l between))
        (step_goes b l new after on)

    -- after any steps
    pub no_byte_is_lost : NoByteIsLost Replies Tells GoesTo Whispers Between remaining contents
    no_byte_is_lost n old new before after server steps =
        let w = steps_go n old before new after steps server in
        (w.events, w.said, w.says, w.grows.1)
