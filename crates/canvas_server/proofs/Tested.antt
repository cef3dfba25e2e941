-- What is answered a request, from what was found out of it.
use Rattle.std.proofs.Common.{◌≡◌, inl, inr, ℕ, ◌+◌, ◌≤◌, ◌<◌, ◌==◌, Bool, true, false, cond, not, Result, Ok, Err, refl, sym, ap, subst, ◌∙◌, arith}
use Rattle.std.specs.Prelude.{nat_le, nat_lt}
use Rattle.std.proofs.lemmas.Bool.{or_parts}
use Rattle.std.proofs.lemmas.Bool.Decides.{nat_tests}
use Rattle.canvas_model.specs.State.{joined, done, next}
use Rattle.canvas_model.specs.Log.{What, Join, Edit, Entry, last_version}
use Rattle.canvas_model.specs.Client.{Yields}
use Rattle.canvas_server.specs.declared.taking.Looked.{Looked}
use Rattle.canvas_server.specs.declared.taking.Looked.TheVariants as looked
use Rattle.canvas_server.specs.declared.taking.Took.{Took}
use Rattle.canvas_server.specs.declared.taking.TakeError.{TakeError}
use Rattle.canvas_server.specs.declared.taking.TakeError.TheVariants as refusal
use Rattle.canvas_server.specs.Asked.{Asked}
use Rattle.canvas_server.specs.Served.{Served}
use Rattle.canvas_server.specs.Answered.{Follows, IsJudged, IsNext, IsNextFor, Looks, LooksAs, MayFollow, Takes, TakesAs, has_no_room}

-- ---- room

less : (m n : ℕ) → (m == n) ≡ false → m ≤ n → m < n
less m n is le = grind (arith, nat_tests)

-- where there is room, a version is left
pub room : (s : Served) (what : What) → has_no_room s what ≡ false → s.version ≤ last_version → s.version < last_version
room s Join is le = less s.version last_version (or_parts (s.version == last_version) (next s.state == 4294967295) is).0 le
room s (Edit change) is le = less s.version last_version is le

-- a test that would have refused did not
passes : (b : Bool) (P Q R : Type 0) → (P → ⊥) → (b ≡ false → Q → R) → cond b P Q → R
passes true P Q R refused go h = absurd (refused h)
passes false P Q R refused go h = go refl h

-- an entry comes next only where there is room
next_has_room : (A : Type 0) (s : Served) (r : Asked) (what : What) (e : Entry) → LooksAs {A = A} s r what (Ok (looked.Next e)) → IsNextFor s.state r e × (has_no_room s what ≡ false)
next_has_room A s r Join e h = passes (has_no_room s Join) _ _ _ (λ is. absurd (cc)) (λ is n. (n, is)) h
next_has_room A s r (Edit change) e h =
    passes (not (joined s.state r.author)) _ _ _ (λ is. absurd (cc)) (λ _ h.
    passes (nat_le r.seq (done s.state r.author)) _ _ _ (λ is. absurd (cc)) (λ _ h.
    passes (nat_lt (done s.state r.author + 1) r.seq) _ _ _ (λ is. absurd (cc)) (λ _ h.
    passes (has_no_room s (Edit change)) _ _ _ (λ is. absurd (cc)) (λ is n. (n, is)) h) h) h) h

-- what was found may be done
pub may_follow : (A : Type 0) (s : Served) (r : Asked) (found : Looked A) → Looks s r (Ok found) → s.version ≤ last_version → MayFollow s found
may_follow A s r (looked.Next e) h le = let n = next_has_room A s r r.what e h in (n.0.3, room s r.what n.1 le)
may_follow A s r (looked.Repeat n) h le = tt
may_follow A s r (looked.Gap n) h le = tt

-- ---- answers

both : (b : Bool) (P Q R S : Type 0) → (P → R) → (Q → S) → cond b P Q → cond b R S
both true P Q R S f g h = f h
both false P Q R S f g h = g h

-- the answer is that memory was refused
abbrev is_memory : Result Took TakeError → Bool
is_memory (Err refusal.Memory) = true
is_memory _ = false

another : (answer : Result Took TakeError) → is_memory answer ≡ false → answer ≡ Err refusal.Memory → ⊥
another answer not_it is = let f : true ≡ false = sym (ap is_memory is) ∙ not_it in let none : ⊥ = cc in none

module _ (A : Type 0) (s : Served) (r : Asked) (new : Served) where
  -- what is answered where this was found, or refused
  abbrev Does : Result (Looked A) TakeError → Result Took TakeError → Type 0
  Does (Ok found) answer = Follows s found answer new
  Does (Err e) answer = Yields (Err e) s answer new

  judged : (found : Result (Looked A) TakeError) (answer : Result Took TakeError) → (answer ≡ Err refusal.Memory → ⊥) → Does found answer → IsNext s.state r found → IsJudged s r answer new
  judged (Ok (looked.Next e)) answer other (inl y) n = (e, n, y)
  judged (Ok (looked.Next e)) answer other (inr y) n = absurd (other y.0)
  judged (Ok (looked.Repeat k)) answer other does n = absurd n
  judged (Ok (looked.Gap k)) answer other does n = absurd n
  judged (Err e) answer other does n = absurd n

  -- the tests of a request, once for what is found and once for what is answered
  module _ (found : Result (Looked A) TakeError) (answer : Result Took TakeError) (other : answer ≡ Err refusal.Memory → ⊥) (does : Does found answer) where
    as_found : (x : Result (Looked A) TakeError) → found ≡ x → Does x answer
    as_found x is = subst (λ (x : Result (Looked A) TakeError). Does x answer) is does

    takes_as : (what : What) → LooksAs s r what found → TakesAs s r what answer new
    takes_as Join h = both (has_no_room s Join) _ _ _ _ (as_found (Err refusal.Full)) (judged found answer other does) h
    takes_as (Edit change) h =
        both (not (joined s.state r.author)) _ _ _ _ (as_found (Err refusal.Stranger))
        (both (nat_le r.seq (done s.state r.author)) _ _ _ _ (as_found (Ok (looked.Repeat (done s.state r.author))))
        (both (nat_lt (done s.state r.author + 1) r.seq) _ _ _ _ (as_found (Ok (looked.Gap (done s.state r.author))))
        (both (has_no_room s (Edit change)) _ _ _ _ (as_found (Err refusal.Full)) (judged found answer other does)))) h

  -- where the answer isn't that memory was refused, the tests were made
  tested : (found : Result (Looked A) TakeError) (answer : Result Took TakeError) → (answer ≡ Err refusal.Memory → ⊥) → Does found answer → Looks s r found → LooksAs s r r.what found
  tested (Ok found) answer other does looks = looks
  tested (Err refusal.Stranger) answer other does looks = looks
  tested (Err refusal.Full) answer other does looks = looks
  tested (Err refusal.Memory) answer other does looks = absurd (other does.0)

  -- and else nothing is new
  nothing_new : (found : Result (Looked A) TakeError) → Does found (Err refusal.Memory) → new ≡ s
  nothing_new (Ok (looked.Next e)) (inl y) = absurd (let f : false ≡ true = sym (ap is_memory y.0) in cc)
  nothing_new (Ok (looked.Next e)) (inr y) = y.1
  nothing_new (Ok (looked.Repeat n)) y = y.1
  nothing_new (Ok (looked.Gap n)) y = y.1
  nothing_new (Err e) y = y.1

  does_takes : (found : Result (Looked A) TakeError) (answer : Result Took TakeError) → Looks s r found → Does found answer → Takes s r answer new
  does_takes found (Ok x) looks does = let other = another (Ok x) refl in takes_as found (Ok x) other does r.what (tested found (Ok x) other does looks)
  does_takes found (Err refusal.Stranger) looks does = let other = another (Err refusal.Stranger) refl in takes_as found (Err refusal.Stranger) other does r.what (tested found (Err refusal.Stranger) other does looks)
  does_takes found (Err refusal.Full) looks does = let other = another (Err refusal.Full) refl in takes_as found (Err refusal.Full) other does r.what (tested found (Err refusal.Full) other does looks)
  does_takes found (Err refusal.Memory) looks does = nothing_new found does

  -- what was found was done
  pub follows_takes : (found : Looked A) (answer : Result Took TakeError) → Looks s r (Ok found) → Follows s found answer new → Takes s r answer new
  follows_takes found answer looks does = does_takes (Ok found) answer looks does

-- a request was refused
pub refused_takes : (A : Type 0) (s : Served) (r : Asked) (e : TakeError) → Looks {A = A} s r (Err e) → Takes s r (Err e) s
refused_takes A s r e looks = does_takes A s r s (Err e) (Err e) looks (refl, refl)
