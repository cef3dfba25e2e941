-- What a connection went through, one step more.
use Rattle.std.proofs.Common.{◌≡◌, ℕ, suc, ◌+◌, ◌<◌, true, List, [], ◌∷◌, ◌++◌, length, get_or, map, take, drop, Option, refl, ap, sym, ◌∙◌, subst}
use mathlib.Core.Logic.{inl, inr}
use Rattle.std.proofs.lemmas.List.{append_assoc, map-append, take-append-drop, take_more}
use Rattle.tungstenite.specs.Connection.{write_step}
use Rattle.tungstenite.specs.Content.{Content, binary}
use Rattle.tungstenite.specs.Failure.{IsIo}
use Rattle.tungstenite.specs.Socket.{Socket, Writes, Flushed}
use Rattle.tungstenite.specs.declared.error.Error.{Error}
use Rattle.tungstenite.specs.declared.error.Error.TheVariants.{OutOfMemory, WriteBufferFull}
use Rattle.canvas_model.specs.Messages.{Message}
use Rattle.canvas_sockets.specs.Served.{WritesEach, SendsAnswer, Handles, Turns, GoesThrough, RefusesText, StopsAnswer, StopsHandling, StopsWriting}
use Rattle.canvas_nodes.specs.Answers.{AreMessageTexts, Replies}

module _ {S : Type 0} (contents : S → Option (List ℕ)) where
  pub wrote_one : (old mid new : Socket S) (ts : List (List ℕ)) (t : List ℕ) (content : Content) → WritesEach contents old ts mid → content ≡ binary t → Writes contents mid new (write_step mid.conn content) → WritesEach contents old (ts ++ t ∷ []) new
  wrote_one old mid new [] t content are is wrote =
      let first : Writes contents mid new (write_step mid.conn (binary t)) = subst (λ (c : Content). Writes contents mid new (write_step mid.conn c)) is wrote in
      (new, subst (λ (s : Socket S). Writes contents s new (write_step s.conn (binary t))) are first, refl)
  wrote_one old mid new (u ∷ ts) t content are is wrote = (are.0, are.1, wrote_one are.0 mid new ts t content are.2 is wrote)

  -- the same for texts that are kept in vectors
  pub wrote_further : {V : Type 0} (text_of : V → List ℕ) (old mid new : Socket S) (whole : List V) (i : ℕ) (v : V) (content : Content) → i < length whole → v ≡ get_or whole i v → WritesEach contents old (map text_of (take i whole)) mid → content ≡ binary (text_of v)
      → Writes contents mid new (write_step mid.conn content) → WritesEach contents old (map text_of (take (i + 1) whole)) new
  wrote_further {V = V} text_of old mid new whole i v content within at are is wrote =
      subst (λ (ts : List (List ℕ)). WritesEach contents old ts new) (sym (ap (map text_of) more ∙ map-append text_of (take i whole) (v ∷ []))) (wrote_one old mid new (map text_of (take i whole)) (text_of v) content are is wrote)
    where
      more : take (i + 1) whole ≡ take i whole ++ v ∷ []
      more = take_more whole i v within ∙ ap (λ (x : V). take i whole ++ x ∷ []) (sym at)

  -- one text alone that was sent
  pub sends_one : (old mid new : Socket S) (t : List ℕ) (answer : List Message) → AreMessageTexts (t ∷ []) answer → Writes contents old mid (write_step old.conn (binary t))
      → Flushed contents mid new → new.output ≡ [] → SendsAnswer contents old answer new
  sends_one old mid new t answer are wrote flushed empty = (t ∷ [], are, (mid, (mid, wrote, refl), (flushed, empty)))

  -- a text for which there was no memory
  pub no_memory : (s : Socket S) (t : List ℕ) → RefusesText contents s t OutOfMemory s
  no_memory s t = record { full = λ is. refl; memory = λ is. refl; failed = λ no. absurd no }

  -- a message that the socket refused
  pub refused_text : (old new : Socket S) (t : List ℕ) (content : Content) (e : Error) → content ≡ binary t → (e ≡ WriteBufferFull → new ≡ old) → (e ≡ OutOfMemory → new ≡ old)
      → (IsIo e → Writes contents old new (write_step old.conn content)) → RefusesText contents old t e new
  refused_text old new t content e is full memory failed =
      record { full = full; memory = memory; failed = λ io. subst (λ (c : Content). Writes contents old new (write_step old.conn c)) is (failed io) }

  -- the text at a place of texts that are kept in vectors didn't leave
  pub stopped_at : {V : Type 0} (text_of : V → List ℕ) (old mid new : Socket S) (whole : List V) (i : ℕ) (v : V) (e : Error) → i < length whole → v ≡ get_or whole i v
      → WritesEach contents old (map text_of (take i whole)) mid → RefusesText contents mid (text_of v) e new → StopsWriting contents old (map text_of whole) e new
  stopped_at {V = V} text_of old mid new whole i v e within at wrote refuses =
      record { done = map text_of (take i whole); next = text_of v; rest = map text_of (drop (i + 1) whole); mid = mid; are = sym (ap (map text_of) parts) ∙ map-append text_of (take i whole) (v ∷ drop (i + 1) whole); wrote = wrote; refuses = refuses }
    where
      more : take (i + 1) whole ≡ take i whole ++ v ∷ []
      more = take_more whole i v within ∙ ap (λ (x : V). take i whole ++ x ∷ []) (sym at)

      parts : take i whole ++ v ∷ drop (i + 1) whole ≡ whole
      parts = sym (append_assoc (take i whole) (v ∷ []) (drop (i + 1) whole)) ∙ ap (λ (l : List V). l ++ drop (i + 1) whole) (sym more) ∙ take-append-drop (i + 1) whole

  -- one text alone that didn't join the output
  pub refuses_one : (old new : Socket S) (t : List ℕ) (answer : List Message) (e : Error) → AreMessageTexts (t ∷ []) answer → RefusesText contents old t e new → StopsAnswer contents old answer e new
  refuses_one old new t answer e are refuses = (t ∷ [], are, inl (record { done = []; next = t; rest = []; mid = old; are = refl; wrote = refl; refuses = refuses }))

  -- one text alone that didn't leave
  pub stops_one : (old mid new : Socket S) (t : List ℕ) (answer : List Message) (e : Error) → AreMessageTexts (t ∷ []) answer → Writes contents old mid (write_step old.conn (binary t))
      → Flushed contents mid new → IsIo e → StopsAnswer contents old answer e new
  stops_one old mid new t answer e are wrote flushed io = (t ∷ [], are, inr (mid, (mid, wrote, refl), flushed, io))

module _ {A S : Type 0} (Gives : A → Message → List Message → A → Type 0) (remaining contents : S → Option (List ℕ)) where
  pub one_turn : (n m : ℕ) (old : A) (before : Socket S) (a : A) (s : Socket S) (new : A) (after : Socket S) → m ≡ suc n → GoesThrough Gives remaining contents n old before a s → Turns Gives remaining contents true a s new after → GoesThrough Gives remaining contents m old before new after
  one_turn n m old before a s new after is through turn = subst (λ (k : ℕ). GoesThrough Gives remaining contents k old before new after) (sym is) (a, s, through, turn)

  pub handles_binary : (content : Content) (bytes lent : List ℕ) (old : A) (before : Socket S) (new : A) (after : Socket S) → content ≡ binary bytes → lent ≡ bytes
      → ((answer : List Message) × Replies Gives old lent answer new × SendsAnswer contents before answer after) → Handles Gives remaining contents content true old before new after
  handles_binary content bytes lent old before new after is same h =
      subst (λ (c : Content). Handles Gives remaining contents c true old before new after) (sym is)
      (refl, (h.0, subst (λ (bs : List ℕ). Replies Gives old bs h.0 new) same h.1, h.2))

  -- a message whose answer didn't leave whole
  pub stops_binary : (content : Content) (bytes lent : List ℕ) (e : Error) (old : A) (before : Socket S) (new : A) (after : Socket S) → content ≡ binary bytes → lent ≡ bytes
      → ((answer : List Message) × Replies Gives old lent answer new × StopsAnswer contents before answer e after) → StopsHandling Gives remaining contents content e old before new after
  stops_binary content bytes lent e old before new after is same h =
      subst (λ (c : Content). StopsHandling Gives remaining contents c e old before new after) (sym is)
      (h.0, subst (λ (bs : List ℕ). Replies Gives old bs h.0 new) same h.1, h.2)
