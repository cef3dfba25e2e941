-- What events do to the number of synced entries and the number of nodes.
use Rattle.std.proofs.Common.{◌≡◌, ℕ, zero, suc, ◌+◌, ◌≤◌, refl, sym, ap, subst, ◌∙◌, inl, inr, Bool, true, false, List, [], ◌∷◌, length, arith, length-append, slice_set}
use Rattle.std.specs.Prelude.{Option, Some, None, not, cond, ◌&&◌, nat_le, nat_lt}
use Rattle.std.proofs.lemmas.Bool.{and_parts}
use Rattle.canvas_model.specs.State.{joined, done}
use Rattle.canvas_model.specs.Log.{What, Join, Edit}
use Rattle.canvas_model.specs.Client.{Yields}
use Rattle.canvas_model.specs.Numbered.{nth}
use Rattle.canvas_model.specs.Messages.{Message, Welcome, Idle, No}
use Rattle.canvas_model.specs.Messages as messages
use Rattle.canvas_model.specs.World.{Letter, Node, World, Event, Answer, new_node, state, node, put_node, posted, appended, restarted, Appends, Takes, At, If, is_full, Edits, joined_as, Step, Run, nothing, and_then}
use Rattle.canvas_model.specs.World as world
use Rattle.canvas_model.specs.World.{AddNode, AskJoin, MakeEdit, Send, Take, Sync, Publish, SendWelcome, Tell, Copy, Deliver, Checkpoint, Restart}
use Rattle.canvas_model.specs.Good.{IsGood}
use Rattle.canvas_model.specs.Laws.{AfterEachStep}
use Rattle.canvas_model.proofs.Tests.{le_true}

-- how many nodes the event adds
abbrev pub adds : Event → ℕ
adds AddNode = 1
adds (AskJoin k) = 0
adds (MakeEdit k request) = 0
adds (Send k i) = 0
adds (Take m) = 0
adds Sync = 0
adds Publish = 0
adds (SendWelcome v) = 0
adds (Tell v k) = 0
adds (Copy k) = 0
adds (Deliver m) = 0
adds Checkpoint = 0
adds (Restart n) = 0

-- how many nodes the events add
abbrev pub added : List Event → ℕ
added [] = 0
added (event ∷ events) = adds event + added events

-- no fewer are synced in the new world, and there are n nodes more
abbrev pub Grows : ℕ → World → World → Type 0
Grows n old new = (old.synced ≤ new.synced) × (length new.nodes ≡ length old.nodes + n)

as_many : (n : ℕ) → n ≤ n
as_many n = omega arith

itself : (w : World) → Grows 0 w w
itself w = (as_many w.synced, omega arith)

yields : {A : Type 0} (n : ℕ) (wanted answer : A) (old made new : World) → Grows n old made → Yields wanted made answer new → Grows n old new
yields n wanted answer old made new grows s = subst (Grows n old) (sym s.1) grows

stays : {A : Type 0} (wanted answer : A) (old new : World) → Yields wanted old answer new → Grows 0 old new
stays wanted answer old new s = yields 0 wanted answer old old new (itself old) s

at_grows : {X : Type 0} (o : Option X) (old : World) (answer : Answer) (new : World) (P : X → Type 0) → At o old answer new P → ((x : X) → P x → Grows 0 old new) → Grows 0 old new
at_grows None old answer new P h f = stays world.Nothing answer old new h
at_grows (Some x) old answer new P h f = f x h

if_grows : (b : Bool) (old : World) (answer : Answer) (new : World) (P : Type 0) → If b old answer new P → (b ≡ true → P → Grows 0 old new) → Grows 0 old new
if_grows true old answer new P h f = f refl h
if_grows false old answer new P h f = stays world.Nothing answer old new h

either : (b : Bool) (P Q R : Type 0) → (P → R) → (Q → R) → cond b P Q → R
either true P Q R f h p = f p
either false P Q R f h q = h q

appends_grows : (old : World) (author seq : ℕ) (what : What) (asker : ℕ) (answer : Answer) (new : World) → Appends old author seq what asker answer new → Grows 0 old new
appends_grows old author seq what asker answer new a = yields 0 _ answer old (appended old a.entry asker) new (itself old) a.yields

takes_grows : (old : World) (from : ℕ) (m : Message) (answer : Answer) (new : World) → Takes old from m answer new → Grows 0 old new
takes_grows old from messages.Join answer new t = either (is_full old Join) _ _ _ (stays world.FullServer answer old new) (appends_grows old 0 0 Join from answer new) t
takes_grows old from (messages.Edit c n change) answer new t =
    either (not (joined (state old) c)) _ _ _ (stays world.Stranger answer old new)
    (either (nat_le n (done (state old) c)) _ _ _ (stays world.Repeat answer old new)
    (either (nat_lt (done (state old) c + 1) n) _ _ _ (stays world.Gap answer old new)
    (either (is_full old (Edit change)) _ _ _ (stays world.FullServer answer old new) (appends_grows old c n (Edit change) 0 answer new)))) t
takes_grows old from (Welcome c) answer new t = stays world.Nothing answer old new t
takes_grows old from (messages.Entry v e) answer new t = stays world.Nothing answer old new t
takes_grows old from (messages.Copy v n d) answer new t = stays world.Nothing answer old new t
takes_grows old from (messages.Ask c v) answer new t = stays world.Nothing answer old new t
takes_grows old from Idle answer new t = stays world.Nothing answer old new t
takes_grows old from (No reason) answer new t = stays world.Nothing answer old new t

put_length : (ns : List Node) (i : ℕ) (n : Node) → length (slice_set ns i n) ≡ length ns
put_length [] i n = refl
put_length (x ∷ ns) zero n = refl
put_length (x ∷ ns) (suc i) n = ap suc (put_length ns i n)

put_grows : (w : World) (k : ℕ) (n : Node) → Grows 0 w (put_node w k n)
put_grows w zero n = itself w
put_grows w (suc i) n = (as_many w.synced, put_length w.nodes i n ∙ (itself w).1)

posts_grows : (old : World) (letter : Letter) (answer : Answer) (new : World) → world.Posts old letter answer new → Grows 0 old new
posts_grows old letter answer new s = yields 0 (world.MessageIs (length old.letters + 1)) answer old (posted old letter) new (itself old) s

-- what each event does to them
pub step_grows : (old : World) (event : Event) (answer : Answer) (new : World) → old.synced ≤ length old.log → Step old event answer new → Grows (adds event) old new
step_grows old AddNode answer new high s = yields 1 _ answer old _ new (as_many old.synced, length-append old.nodes (new_node ∷ [])) s
step_grows old (AskJoin k) answer new high s = at_grows (node old k) old answer new _ s (λ n s. if_grows _ old answer new _ s (λ b s. posts_grows old (record { from = k; to = 0; message = messages.Join }) answer new s))
step_grows old (MakeEdit k request) answer new high s = at_grows (node old k) old answer new _ s (λ n s. each n s)
  where
    each : (n : Node) → Edits old k n request answer new → Grows 0 old new
    each n (inl r) = stays _ answer old new r.2
    each n (inr r) = yields 0 _ answer old _ new (put_grows old k _) r.2
step_grows old (Send k i) answer new high s =
    at_grows (node old k) old answer new _ s (λ n s. at_grows n.client.id old answer new _ s (λ c s. at_grows (nth n.client.waiting i) old answer new _ s (λ change s.
    posts_grows old (record { from = k; to = 0; message = messages.Edit c (n.client.acknowledged + i) change }) answer new s)))
step_grows old (Take m) answer new high s = at_grows (nth old.letters m) old answer new _ s (λ letter s. if_grows _ old answer new _ s (λ b s. takes_grows old letter.from letter.message answer new s))
step_grows old Sync answer new high s = yields 0 _ answer old _ new (high, (itself old).1) s
step_grows old Publish answer new high s = yields 0 _ answer old _ new (itself old) s
step_grows old (SendWelcome v) answer new high s =
    if_grows _ old answer new _ s (λ b s. at_grows (nth old.log v) old answer new _ s (λ e s. at_grows (joined_as e.outcome) old answer new _ s (λ c s. at_grows (nth old.askers v) old answer new _ s (λ k s.
    posts_grows old (record { from = 0; to = k; message = Welcome c }) answer new s))))
step_grows old (Tell v k) answer new high s =
    at_grows (node old k) old answer new _ s (λ n s. if_grows _ old answer new _ s (λ b s. at_grows (nth old.log v) old answer new _ s (λ e s. posts_grows old (record { from = 0; to = k; message = messages.Entry v e }) answer new s)))
step_grows old (Copy k) answer new high s =
    at_grows (node old k) old answer new _ s (λ n s. at_grows n.client.id old answer new _ s (λ c s. if_grows _ old answer new _ s (λ b s.
    posts_grows old (record { from = 0; to = k; message = messages.Copy (length old.log) (done (state old) c) (state old).doc }) answer new s)))
step_grows old (Deliver m) answer new high s =
    at_grows (nth old.letters m) old answer new _ s (λ letter s. at_grows (node old letter.to) old answer new _ s (λ n s. yields 0 _ answer old _ new (put_grows old letter.to _) s.3))
step_grows old Checkpoint answer new high s = if_grows _ old answer new _ s (λ b s. yields 0 (world.FloorIs (length old.log)) answer old (record old { floor = length old.log }) new (itself old) s)
step_grows old (Restart n) answer new high s =
    if_grows (nat_le old.synced n && nat_le n (length old.log)) old answer new (Yields (world.VersionIs n) (restarted old n) answer new) s
    (λ b s. yields 0 (world.VersionIs n) answer old (restarted old n) new (le_true old.synced n (and_parts _ _ b).0, (itself old).1) s)

sums : (a b c m n : ℕ) → b ≡ a + m → c ≡ b + n → c ≡ a + (m + n)
sums a b c m n first rest = omega (arith, first, rest)

-- after all events of a run there are as many nodes more as they add
pub run_adds : AfterEachStep IsGood → (old : World) (events : List Event) (new : World) → Run old events new → IsGood old → length new.nodes ≡ length old.nodes + added events
run_adds keeps old [] new nothing good = (itself old).1
run_adds keeps old (event ∷ events) new (and_then {u = mid} answer step rest) good =
    sums (length old.nodes) (length mid.nodes) (length new.nodes) (adds event) (added events)
    (step_grows old event answer mid good.bounds.kept step).1
    (run_adds keeps mid events new rest (keeps old event answer mid good step))
