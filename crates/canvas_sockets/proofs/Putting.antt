-- What a turn puts into the output, and what it took, one message more.
use Rattle.std.proofs.Common.{◌≡◌, ℕ, zero, suc, ◌<◌, ◌≤◌, true, List, [], ◌∷◌, map, take, Option, Result, Ok, Err, refl, ap, sym, subst, arith}
use Rattle.std.specs.Result.{IfErr, OnErr}
use Rattle.tungstenite.specs.Connection.{write_step}
use Rattle.tungstenite.specs.Content.{Content, binary}
use Rattle.tungstenite.specs.Failure.{IsIo}
use Rattle.tungstenite.specs.Socket.{Socket, Writes}
use Rattle.tungstenite.specs.declared.error.Error.{Error}
use Rattle.canvas_model.specs.Messages.{Message}
use Rattle.canvas_nodes.specs.Answers.{AreMessageTexts}
use Rattle.canvas_sockets.specs.Served.{RefusesText, WritesEach}
use Rattle.canvas_sockets.specs.Turned.{Puts, PutsAnswer, RefusesFrame, StopsPutting, StopsPuttingAnswer, Takes, TakesEach}
use Rattle.canvas_sockets.specs.declared.line.Line.{Line}
use Rattle.canvas_sockets.specs.declared.turning.Taken.TheVariants as taken

-- what two facts of an error make
pub at_err : {T E P : Type 0} (Q R : E → Type 0) (r : Result T E) → ((e : E) → P → Q e → R e) → OnErr r P → IfErr r Q → IfErr r R
at_err Q R (Ok x) f p q = tt
at_err Q R (Err e) f p q = f e p q

module _ {S : Type 0} (contents : S → Option (List ℕ)) where
  -- a text that wasn't taken, by a writer that has changed nothing and whose stream didn't fail
  pub refused_text : (old new : Socket S) (t : List ℕ) (e : Error) → new ≡ old → (IsIo e → ⊥) → RefusesText contents old t e new
  refused_text old new t e same no_io = record { full = λ is. same; memory = λ is. same; failed = λ io. absurd (no_io io) }

  -- the same of a frame
  pub refused_frame : (old new : Socket S) (c : Content) (e : Error) → new ≡ old → (IsIo e → ⊥) → RefusesFrame contents old c e new
  refused_frame old new c e same no_io = record { full = λ is. same; memory = λ is. same; failed = λ io. absurd (no_io io) }

  -- one text alone that joined the output
  pub puts_one : (old new : Socket S) (t : List ℕ) (answer : List Message) → AreMessageTexts (t ∷ []) answer → Writes contents old new (write_step old.conn (binary t)) → PutsAnswer contents old answer new
  puts_one old new t answer are wrote = (t ∷ [], are, (new, wrote, refl))

  -- one text alone that didn't
  pub refuses_one : (old new : Socket S) (t : List ℕ) (answer : List Message) (e : Error) → AreMessageTexts (t ∷ []) answer → RefusesText contents old t e new → StopsPuttingAnswer contents old answer e new
  refuses_one old new t answer e are refuses = (t ∷ [], are, record { done = []; next = t; rest = []; mid = old; are = refl; wrote = refl; refuses = refuses })

  -- where there was room at first, and there is none now, some text joined the output
  pub put_first : {V : Type 0} (text_of : V → List ℕ) (waits : S → ℕ) (room n : ℕ) (whole : List V) (old new : Socket S) → WritesEach contents old (map text_of (take n whole)) new
      → room ≤ waits new.stream → waits old.stream < room → 0 < n
  put_first text_of waits room zero whole old new wrote full had = absurd (omega (arith, ap (λ (s : Socket S). waits s.stream) wrote, full, had))
  put_first text_of waits room (suc n) whole old new wrote full had = omega arith

module _ {A S : Type 0} (Replies : A → List ℕ → List Message → A → Type 0) (contents : S → Option (List ℕ)) where
  -- the reply to a binary message
  pub puts_binary : (content : Content) (bytes lent : List ℕ) (old : A) (before : Socket S) (new : A) (after : Socket S) → content ≡ binary bytes → lent ≡ bytes
      → ((answer : List Message) × Replies old lent answer new × PutsAnswer contents before answer after) → Puts Replies contents content true old before new after
  puts_binary content bytes lent old before new after is same h =
      subst (λ (c : Content). Puts Replies contents c true old before new after) (sym is)
      (refl, (h.0, subst (λ (bs : List ℕ). Replies old bs h.0 new) same h.1, h.2))

  -- one that didn't join the output whole
  pub stops_binary : (content : Content) (bytes lent : List ℕ) (e : Error) (old : A) (before : Socket S) (new : A) (after : Socket S) → content ≡ binary bytes → lent ≡ bytes
      → ((answer : List Message) × Replies old lent answer new × StopsPuttingAnswer contents before answer e after) → StopsPutting Replies contents content e old before new after
  stops_binary content bytes lent e old before new after is same h =
      subst (λ (c : Content). StopsPutting Replies contents c e old before new after) (sym is)
      (h.0, subst (λ (bs : List ℕ). Replies old bs h.0 new) same h.1, h.2)

module _ {A I O : Type 0} (Replies : A → List ℕ → List Message → A → Type 0) (remaining : I → Option (List ℕ)) (contents : O → Option (List ℕ)) (waits : O → ℕ) (room : ℕ) where
  -- one message more was taken
  pub one_more : (n m : ℕ) (old : A) (before : Line I O) (a : A) (l : Line I O) (new : A) (after : Line I O) → m ≡ suc n → TakesEach Replies remaining contents waits room n old before a l
      → waits l.writer.stream < room → Takes Replies remaining contents taken.Message a l new after → TakesEach Replies remaining contents waits room m old before new after
  one_more n m old before a l new after is each has takes = subst (λ (k : ℕ). TakesEach Replies remaining contents waits room k old before new after) (sym is) (a, l, each, has, takes)
