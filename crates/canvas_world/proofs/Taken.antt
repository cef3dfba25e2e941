-- What the server makes of a message.
use Rattle.std.proofs.Common.{◌≡◌, ◌≢◌, ℕ, ◌+◌, ◌≤◌, refl, sym, ap, subst, ◌∙◌, Bool, true, false, List, length}
use Rattle.std.specs.Prelude.{Option, Some, None, Result, Ok, Err, IfOk, not, cond, ◌==◌, nat_le, nat_lt}
use Rattle.canvas_model.specs.Change.{Change}
use Rattle.canvas_model.specs.State.{joined, done}
use Rattle.canvas_model.specs.Log.{What, Join, Edit, Entry, Fits, last_version}
use Rattle.canvas_model.specs.Client.{Yields}
use Rattle.canvas_model.specs.Numbered.{nth}
use Rattle.canvas_model.specs.Messages.{Message, Welcome, Idle, No}
use Rattle.canvas_model.specs.Messages as messages
use Rattle.canvas_model.specs.World.{Letter, World, Answer, Take, Appends, Takes, If, At, is_full, state, appended, Step}
use Rattle.canvas_model.specs.World as world
use Rattle.canvas_model.proofs.Tests.{eq_true}
use Rattle.canvas_server.specs.Asked.{Asked, asked_by}
use Rattle.canvas_world.specs.Parts.{asker_of}
use Rattle.canvas_server.specs.Served.{Served}
use Rattle.canvas_server.specs.Answered.{Looks, LooksAs, IsNext, has_no_room}
use Rattle.canvas_server.proofs.Tested.{room}
use Rattle.canvas_server.specs.declared.taking.Looked.{Looked}
use Rattle.canvas_server.specs.declared.taking.Looked.TheVariants as looked
use Rattle.canvas_server.specs.declared.taking.TakeError.{TakeError}
use Rattle.canvas_server.specs.declared.taking.TakeError.TheVariants as refusal
use Rattle.canvas_world.specs.Running.{served_in}
use Rattle.canvas_world.specs.Parts.{BecomesJudging, IsJudging}
use Rattle.canvas_world.specs.declared.changing.Judging.{Judging}
use Rattle.canvas_world.specs.declared.changing.Judging.TheVariants as judging
use Rattle.canvas_world.proofs.Placed.{at_some, if_so, if_not}

-- what the world answers, and becomes, after the server looked
abbrev Follows : {A : Type 0} → World → ℕ → Result (Looked A) TakeError → Answer → World → Type 0
Follows w asker (Ok (looked.Next e)) a new = Yields (world.Judged (length w.log + 1)) (appended w e asker) a new
Follows w asker (Ok (looked.Repeat d)) a new = Yields world.Repeat w a new
Follows w asker (Ok (looked.Gap d)) a new = Yields world.Gap w a new
Follows w asker (Err refusal.Stranger) a new = Yields world.Stranger w a new
Follows w asker (Err refusal.Full) a new = Yields world.FullServer w a new
Follows w asker (Err refusal.Memory) a new = ⊥

-- memory wasn't refused
stripped : {A : Type 0} (w : World) (s : Served) (r : Asked) (asker : ℕ) (result : Result (Looked A) TakeError) (a : Answer) (new : World) → Looks s r result → Follows w asker result a new → LooksAs s r r.what result
stripped w s r asker (Ok (looked.Next e)) a new l f = l
stripped w s r asker (Ok (looked.Repeat d)) a new l f = l
stripped w s r asker (Ok (looked.Gap d)) a new l f = l
stripped w s r asker (Err refusal.Stranger) a new l f = l
stripped w s r asker (Err refusal.Full) a new l f = l
stripped w s r asker (Err refusal.Memory) a new l f = absurd f

both : (b : Bool) (P Q R S : Type 0) → (P → R) → (Q → S) → cond b P Q → cond b R S
both true P Q R S f h p = f p
both false P Q R S f h q = h q

-- the entry that comes next is appended
appends : {A : Type 0} (w : World) (r : Asked) (asker : ℕ) (result : Result (Looked A) TakeError) (a : Answer) (new : World) → IsNext (state w) r result → Follows w asker result a new → Appends w r.author r.seq r.what asker a new
appends w r asker (Ok (looked.Next e)) a new n f = record { entry = e; author_is = n.0; seq_is = n.1; what_is = n.2; fits = n.3; yields = f }
appends w r asker (Ok (looked.Repeat d)) a new n f = absurd n
appends w r asker (Ok (looked.Gap d)) a new n f = absurd n
appends w r asker (Err e) a new n f = absurd n

-- the server takes a join
takes_join : {A : Type 0} (w : World) (from : ℕ) (result : Result (Looked A) TakeError) (a : Answer) (new : World) → LooksAs (served_in w) (record { author = 0; seq = 0; what = Join }) Join result → Follows w from result a new → Takes w from messages.Join a new
takes_join {A} w from result a new l f =
    both (is_full w Join) (result ≡ Err refusal.Full) (IsNext (state w) (record { author = 0; seq = 0; what = Join }) result) _ _
    (λ is. subst (λ (x : Result (Looked A) TakeError). Follows w from x a new) is f) (λ n. appends w (record { author = 0; seq = 0; what = Join }) from result a new n f) l

-- the server takes an edit
takes_edit : {A : Type 0} (w : World) (from c n : ℕ) (change : Change) (result : Result (Looked A) TakeError) (a : Answer) (new : World)
    → LooksAs (served_in w) (record { author = c; seq = n; what = Edit change }) (Edit change) result → Follows w 0 result a new → Takes w from (messages.Edit c n change) a new
takes_edit {A} w from c n change result a new l f =
    both (not (joined (state w) c)) _ _ _ _ as_it_is
    (both (nat_le n (done (state w) c)) _ _ _ _ as_it_is
    (both (nat_lt (done (state w) c + 1) n) _ _ _ _ as_it_is
    (both (length w.log == last_version) _ _ _ _ as_it_is
    (λ x. appends w (record { author = c; seq = n; what = Edit change }) 0 result a new x f)))) l
  where
    as_it_is : {x : Result (Looked A) TakeError} → result ≡ x → Follows w 0 x a new
    as_it_is is = subst (λ (x : Result (Looked A) TakeError). Follows w 0 x a new) is f

-- the server takes a message
takes : {A : Type 0} (w : World) (from : ℕ) (message : Message) (r : Asked) (asker : ℕ) (result : Result (Looked A) TakeError) (a : Answer) (new : World) → Some r ≡ asked_by message → asker ≡ asker_of r from
    → Looks (served_in w) r result → Follows w asker result a new → Takes w from message a new
takes {A} w from message r asker result a new is asks looks follows = by message is
  where
    stripped_now : LooksAs (served_in w) r r.what result
    stripped_now = stripped w (served_in w) r asker result a new looks follows

    by : (message : Message) → Some r ≡ asked_by message → Takes w from message a new
    by messages.Join is =
        let same : r ≡ record { author = 0; seq = 0; what = Join } = cc in
        takes_join w from result a new (subst (λ (r : Asked). LooksAs (served_in w) r r.what result) same stripped_now)
        (subst (λ (k : ℕ). Follows w k result a new) (asks ∙ ap (λ (r : Asked). asker_of r from) same) follows)
    by (messages.Edit c n change) is =
        let same : r ≡ record { author = c; seq = n; what = Edit change } = cc in
        takes_edit w from c n change result a new (subst (λ (r : Asked). LooksAs (served_in w) r r.what result) same stripped_now)
        (subst (λ (k : ℕ). Follows w k result a new) (asks ∙ ap (λ (r : Asked). asker_of r from) same) follows)
    by (Welcome c) is = absurd (cc)
    by (messages.Ask c v) is = absurd (cc)
    by (messages.Entry v e) is = absurd (cc)
    by (messages.Copy v n d) is = absurd (cc)
    by Idle is = absurd (cc)
    by (No reason) is = absurd (cc)

peel : (b : Bool) (P Q : Type 0) → cond b P Q → (P → ⊥) → (b ≡ false) × Q
peel true P Q h never = absurd (never h)
peel false P Q h never = (refl, h)

-- an entry that comes next fits, and there is room for it
fits_next : (A : Type 0) (s : Served) (r : Asked) (e : Entry) (what : What) → LooksAs {A = A} s r what (Ok (looked.Next e)) → Fits s.state e × (has_no_room s what ≡ false)
fits_next A s r e Join l = let x = peel (has_no_room s Join) _ _ l (λ h. absurd (cc)) in (x.1.3, x.0)
fits_next A s r e (Edit change) l =
    let a = peel (not (joined s.state r.author)) _ _ l (λ h. absurd (cc)) in
    let b = peel (nat_le r.seq (done s.state r.author)) _ _ a.1 (λ h. absurd (cc)) in
    let d = peel (nat_lt (done s.state r.author + 1) r.seq) _ _ b.1 (λ h. absurd (cc)) in
    let x = peel (has_no_room s (Edit change)) _ _ d.1 (λ h. absurd (cc)) in
    (x.1.3, x.0)

judged : {A : Type 0} (w : World) (s : Served) (m : ℕ) (letter : Letter) (r : Asked) (asker : ℕ) (result : Result (Looked A) TakeError) (j : Judging A) → s ≡ served_in w → length w.log ≤ last_version → nth w.letters m ≡ Some letter
    → letter.to ≡ 0 → Some r ≡ asked_by letter.message → asker ≡ asker_of r letter.from → Looks s r result → BecomesJudging asker result j → IsJudging w m j
judged {A} w s m letter r asker result j serves few is server asks is_asker looks becomes = by result j looks_here becomes
  where
    looks_here : Looks (served_in w) r result
    looks_here = subst (λ (s : Served). Looks s r result) serves looks

    step : (result : Result (Looked A) TakeError) (a : Answer) (new : World) → Looks (served_in w) r result → Follows w asker result a new → Step w (Take m) a new
    step result a new l f =
        at_some (nth w.letters m) letter w a new _ is (if_so (letter.to == 0) w a new _ (ap (λ (k : ℕ). k == 0) server) (takes w letter.from letter.message r asker result a new asks is_asker l f))

    by : (result : Result (Looked A) TakeError) (j : Judging A) → Looks (served_in w) r result → BecomesJudging asker result j → IsJudging w m j
    by (Ok (looked.Next e)) j l is =
        let x = fits_next A (served_in w) r e r.what l in
        subst (λ (j : Judging A). IsJudging w m j) (sym is) (x.0, room (served_in w) r.what x.1 few, step (Ok (looked.Next e)) _ _ l (refl, refl))
    by (Ok (looked.Repeat d)) j l is = subst (λ (j : Judging A). IsJudging w m j) (sym is) (step (Ok (looked.Repeat d)) _ _ l (refl, refl))
    by (Ok (looked.Gap d)) j l is = subst (λ (j : Judging A). IsJudging w m j) (sym is) (step (Ok (looked.Gap d)) _ _ l (refl, refl))
    by (Err refusal.Stranger) j l is = subst (λ (j : Judging A). IsJudging w m j) (sym is) (step (Err refusal.Stranger) _ _ l (refl, refl))
    by (Err refusal.Full) j l is = subst (λ (j : Judging A). IsJudging w m j) (sym is) (step (Err refusal.Full) _ _ l (refl, refl))
    by (Err refusal.Memory) j l is = absurd is

differs : (k : ℕ) → ((k == 0) ≡ true → ⊥) → (b : Bool) → (k == 0) ≡ b → (k == 0) ≡ false
differs k h true e = absurd (h e)
differs k h false e = e

-- a message for a node isn't taken
pub not_for_server : (w : World) (m : ℕ) (letter : Letter) → nth w.letters m ≡ Some letter → letter.to ≢ 0 → Step w (Take m) world.Nothing w
not_for_server w m letter is other = at_some (nth w.letters m) letter w world.Nothing w _ is (if_not (letter.to == 0) w _ (by letter.to other))
  where
    by : (k : ℕ) → k ≢ 0 → (k == 0) ≡ false
    by k h = differs k (λ e. h (eq_true k 0 e)) (k == 0) refl

-- a message that asks nothing of the server is answered nothing
pub no_request : (w : World) (m : ℕ) (letter : Letter) → nth w.letters m ≡ Some letter → letter.to ≡ 0 → None ≡ asked_by letter.message → Step w (Take m) world.Nothing w
no_request w m letter is server none = at_some (nth w.letters m) letter w world.Nothing w _ is (if_so (letter.to == 0) w _ _ _ (ap (λ (k : ℕ). k == 0) server) (by letter.message none))
  where
    by : (message : Message) → None ≡ asked_by message → Takes w letter.from message world.Nothing w
    by messages.Join h = absurd (cc)
    by (messages.Edit c n change) h = absurd (cc)
    by (Welcome c) h = (refl, refl)
    by (messages.Ask c v) h = (refl, refl)
    by (messages.Entry v e) h = (refl, refl)
    by (messages.Copy v n d) h = (refl, refl)
    by Idle h = (refl, refl)
    by (No reason) h = (refl, refl)

-- an element that was found in a list, seen as what it holds
pub found : {X : Type 0} (xs ys : List X) (n : ℕ) (x y : X) → Some x ≡ nth ys n → ys ≡ xs → y ≡ x → nth xs n ≡ Some y
found xs ys n x y is same view = sym (is ∙ ap (λ l. nth l n) same) ∙ ap Some (sym view)

pub missing : {X : Type 0} (xs ys : List X) (n : ℕ) → None ≡ nth ys n → ys ≡ xs → nth xs n ≡ None
missing xs ys n is same = sym (is ∙ ap (λ l. nth l n) same)

-- the answers, for the world as its contracts see it
pub judged_ok : {A E : Type 0} (w old : World) (s : Served) (m : ℕ) (ls : List Letter) (now letter : Letter) (r : Asked) (asker : ℕ) (result : Result (Looked A) TakeError) (made : Result (Judging A) E) → w ≡ old → s ≡ served_in w → length w.log ≤ last_version
    → Some now ≡ nth ls m → ls ≡ w.letters → letter ≡ now → letter.to ≡ 0 → Some r ≡ asked_by letter.message → asker ≡ asker_of r letter.from → Looks s r result → IfOk made (BecomesJudging asker result) → IfOk made (IsJudging old m)
judged_ok w old s m ls now letter r asker result (Ok j) here serves few is same view server asks is_asker looks becomes =
    subst (λ (u : World). IsJudging u m j) here (judged w s m letter r asker result j serves few (found w.letters ls m now letter is same view) server asks is_asker looks becomes)
judged_ok w old s m ls now letter r asker result (Err e) here serves few is same view server asks is_asker looks becomes = tt

pub not_for_server_at : (w old : World) (m : ℕ) (ls : List Letter) (now letter : Letter) → w ≡ old → Some now ≡ nth ls m → ls ≡ w.letters → letter ≡ now → letter.to ≢ 0 → Step old (Take m) world.Nothing old
not_for_server_at w old m ls now letter here is same view other = subst (λ (u : World). Step u (Take m) world.Nothing u) here (not_for_server w m letter (found w.letters ls m now letter is same view) other)

pub no_request_at : (w old : World) (m : ℕ) (ls : List Letter) (now letter : Letter) (o : Option Asked) → w ≡ old → Some now ≡ nth ls m → ls ≡ w.letters → letter ≡ now → letter.to ≡ 0 → o ≡ asked_by letter.message → o ≡ None → Step old (Take m) world.Nothing old
no_request_at w old m ls now letter o here is same view server asks none =
    subst (λ (u : World). Step u (Take m) world.Nothing u) here (no_request w m letter (found w.letters ls m now letter is same view) server (sym none ∙ asks))

pub take_event : {A : Type 0} (w : World) (m : ℕ) (j : Judging A) (e : Entry) (asker : ℕ) → j ≡ judging.Append e asker → IsJudging w m j → (event : world.Event) × Step w event (world.Judged (length w.log + 1)) (appended w e asker)
take_event {A} w m j e asker is judges = (Take m, (subst (λ (j : Judging A). IsJudging w m j) is judges).2)
