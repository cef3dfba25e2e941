-- A client that joins at a seat, makes edits and exchanges follows what its seat has seen.
use Rattle.std.proofs.Common.{◌≡◌, ℕ, zero, suc, ◌+◌, ◌≤◌, ◌<◌, List, [], ◌∷◌, ◌++◌, length, get_or, take, Option, Some, None, true, false, refl, ap, sym, ◌∙◌, subst, arith, length-append}
use mathlib.Core.Logic.{inl, inr}
use Rattle.std.specs.Prelude.{IsSome}
use Rattle.std.proofs.lemmas.List.{take_more}
use Rattle.canvas_model.specs.Change.{Change}
use Rattle.canvas_model.specs.Log.{Entry}
use Rattle.canvas_model.specs.Numbered.{nth}
use Rattle.canvas_model.specs.Client.{Client, last_number, new_client}
use Rattle.canvas_model.specs.Local.{EditRequest}
use Rattle.canvas_model.specs.Local as local
use Rattle.canvas_model.specs.Receive.{IsEdit}
use Rattle.canvas_model.proofs.Lists.{nth-append, nth_some}
use Rattle.canvas_client.specs.Asked.{HasMade, IsRefusal, refusal}
use Rattle.canvas_client.specs.declared.error.EditError.{EditError}
use Rattle.canvas_client.specs.declared.error.EditError.TheVariants as error
use Rattle.canvas_board.specs.Marks.{IsLegalHistory, Mark, Opening}
use Rattle.canvas_nodes.specs.GoesOn.{GoesOn}
use Rattle.room_handler.specs.Table.{SeesOn}
use Rattle.canvas_threads.specs.Follows.{AreFirstOf}
use Rattle.canvas_threads.specs.Histories.{FollowsAt, OpensAfter, log_of}
use Rattle.canvas_threads.specs.Exchanges.{CatchesUpAt, JoinsAt, KeepsFollowing}
use Rattle.canvas_threads.specs.Laws.{EachEditIsFollowed}
use Rattle.canvas_threads.proofs.Histories.{first_before, records, seen_legal, seen_longer}
use Rattle.canvas_threads.proofs.Nexts.{all_first}
use Rattle.canvas_threads.specs.Worked.{AreMadeOf, HasWorked, IsMadeOf, IsRefusedByClient}
use Rattle.canvas_threads.specs.Shown.{Ends, FollowsRoom, HasFollowed, ShowsPlan, ShowsTheRoom}

-- a request more, of which a change was made
made_more : (requests : List EditRequest) (changes : List Change) (request : EditRequest) (change : Change) → IsMadeOf request change → AreMadeOf requests changes → AreMadeOf (requests ++ request ∷ []) (changes ++ change ∷ [])
made_more [] [] request change made are = inl (made, tt)
made_more [] (x ∷ changes) request change made are = absurd are
made_more (r ∷ requests) [] request change made are = inr (are.0, made_more requests [] request change made are.1)
made_more (r ∷ requests) (x ∷ changes) request change made (inl are) = inl (are.0, made_more requests changes request change made are.1)
made_more (r ∷ requests) (x ∷ changes) request change made (inr are) = inr (are.0, made_more requests (x ∷ changes) request change made are.1)

-- a request more, which was refused
refused_more : (requests : List EditRequest) (changes : List Change) (request : EditRequest) → IsRefusedByClient request → AreMadeOf requests changes → AreMadeOf (requests ++ request ∷ []) changes
refused_more [] [] request refused are = (refused, tt)
refused_more [] (x ∷ changes) request refused are = absurd are
refused_more (r ∷ requests) [] request refused are = (are.0, refused_more requests [] request refused are.1)
refused_more (r ∷ requests) (x ∷ changes) request refused (inl are) = inl (are.0, refused_more requests changes request refused are.1)
refused_more (r ∷ requests) (x ∷ changes) request refused (inr are) = inr (are.0, refused_more requests (x ∷ changes) request refused are.1)

-- no more changes were made than asked for
made_few : (requests : List EditRequest) (changes : List Change) → AreMadeOf requests changes → length changes ≤ length requests
made_few [] [] are = omega arith
made_few [] (x ∷ changes) are = absurd are
made_few (r ∷ requests) [] are = omega arith
made_few (r ∷ requests) (x ∷ changes) (inl are) = let few = made_few requests changes are.1 in omega (arith, few)
made_few (r ∷ requests) (x ∷ changes) (inr are) = let few = made_few requests (x ∷ changes) are.1 in omega (arith, few)

-- the edits of these numbers are the same where there are more behind them
nth_front : (xs ys : List Change) (v : ℕ) → v ≤ length xs → nth (xs ++ ys) v ≡ nth xs v
nth_front xs ys zero low = refl
nth_front xs ys (suc v) low = let x = nth_some xs (suc v) (omega arith) low in nth-append xs ys (suc v) x.0 x.1 ∙ sym x.1

-- the first edits of an id are so without the last of them
fewer_first : (c : ℕ) (xs ys : List Change) (log : List Entry) → AreFirstOf c (xs ++ ys) log → AreFirstOf c xs log
fewer_first c xs ys log first v e here mine low =
    subst (IsEdit e.what) (nth_front xs ys e.seq low) (first v e here mine (omega (arith, low, length-append xs ys)))

-- a client that has gone on has the id that it had
id_before : (old new : Client) (c : ℕ) → IsSome old.id → GoesOn old new → new.id ≡ Some c → old.id ≡ Some c
id_before old new c some g is = by_id old.id refl some
  where
    by_id : (id : Option ℕ) → old.id ≡ id → IsSome id → old.id ≡ Some c
    by_id None at s = let f : false ≡ true = s in absurd (cc)
    by_id (Some d) at s = let both : Some d ≡ Some c = sym (g.same_id d at) ∙ is in at ∙ both

-- the same
pub id_stays : (old new : Client) → IsSome old.id → GoesOn old new → new.id ≡ old.id
id_stays old new some g = by_id old.id refl some
  where
    by_id : (id : Option ℕ) → old.id ≡ id → IsSome id → new.id ≡ old.id
    by_id None at s = let f : false ≡ true = s in absurd (cc)
    by_id (Some d) at s = g.same_id d at ∙ sym at

still_joined : (old new : Client) → IsSome old.id → GoesOn old new → IsSome new.id
still_joined old new some g = by_id old.id refl some
  where
    by_id : (id : Option ℕ) → old.id ≡ id → IsSome id → IsSome new.id
    by_id None at s = let f : false ≡ true = s in absurd (cc)
    by_id (Some d) at s = subst (λ (i : Option ℕ). IsSome i) (sym (g.same_id d at)) refl

-- a new client that has joined
pub joined_follows : (o : Opening) (before after : List Mark) (old new : Client) → old ≡ new_client → GoesOn old new → IsSome new.id → IsLegalHistory o after → JoinsAt o before new after → FollowsRoom o [] after new
joined_follows o before after old new is g some legal joins = record {
  joined = some;
  edits = [];
  made = tt;
  count = g.same_last ∙ ap last_number is;
  legal = legal;
  follows = λ past opens c id first.
      let j = joins past opens in
      let both : Some j.0 ≡ Some c = sym j.1.follows.holds ∙ id in
      subst (λ (x : ℕ). FollowsAt o past x [] after new) (cc) j.1;
}

-- it has made an edit more
pub edit_follows : EachEditIsFollowed → (o : Opening) (requests : List EditRequest) (seen : List Mark) (old new : Client) (request : EditRequest) → HasMade old request new → FollowsRoom o requests seen old → FollowsRoom o (requests ++ request ∷ []) seen new
edit_follows law o requests seen old new request made f = record {
  joined = subst (λ (i : Option ℕ). IsSome i) (sym same) f.joined;
  edits = f.edits ++ made.0 ∷ [];
  made = made_more requests f.edits request made.0 (old, made.1) f.made;
  count =
      let more = ap last_number made.2 in
      let one = length-append old.waiting (made.0 ∷ []) in
      let last = length-append f.edits (made.0 ∷ []) in
      let count = f.count in
      omega (arith, more, one, last, count);
  legal = f.legal;
  follows = λ past opens c id first.
      let g = f.follows past opens c (sym same ∙ id) (fewer_first c f.edits (made.0 ∷ []) (log_of past seen) first) in
      record {
        legal = f.legal;
        follows = subst (λ (x : Client). Rattle.canvas_threads.specs.Follows.FollowsLog (log_of past seen) c (f.edits ++ made.0 ∷ []) x) (sym made.2)
            (law (log_of past seen) (records o past opens seen f.legal).legal c f.edits old g.follows request made.0 made.1);
      };
}
  where
    same : new.id ≡ old.id
    same = ap (λ (x : Client). x.id) made.2

-- or has refused one
pub refused_follows : (o : Opening) (requests : List EditRequest) (seen : List Mark) (old new : Client) (request : EditRequest) → IsRefusedByClient request → new ≡ old → FollowsRoom o requests seen old → FollowsRoom o (requests ++ request ∷ []) seen new
refused_follows o requests seen old new request refused same f =
    subst (FollowsRoom o (requests ++ request ∷ []) seen) (sym same)
    (record { joined = f.joined; edits = f.edits; made = refused_more requests f.edits request refused f.made; count = f.count; legal = f.legal; follows = f.follows })

module _ (o : Opening) (requests : List EditRequest) (before after : List Mark) (old new : Client) (g : GoesOn old new) (sees : SeesOn o before after) (f : FollowsRoom o requests before old) where
  first_then : (past : List Entry) (c : ℕ) → AreFirstOf c f.edits (log_of past after) → AreFirstOf c f.edits (log_of past before)
  first_then past c first = first_before (log_of past before) (log_of past after) c f.edits (seen_longer o past before after sees) first

  followed : (past : List Entry) → OpensAfter o past → (c : ℕ) → new.id ≡ Some c → AreFirstOf c f.edits (log_of past after) → FollowsAt o past c f.edits before old
  followed past opens c id first = f.follows past opens c (id_before old new c f.joined g id) (first_then past c first)

  -- it has exchanged
  pub exchanged_follows : KeepsFollowing o old before new after → FollowsRoom o requests after new
  exchanged_follows keeps = record {
    joined = still_joined old new f.joined g;
    edits = f.edits;
    made = f.made;
    count = g.same_last ∙ f.count;
    legal = seen_legal o before after f.legal sees;
    follows = λ past opens c id first. (keeps past opens c f.edits (followed past opens c id first) first).0;
  }

  -- and then it shows what its seat has seen
  pub exchanged_shows : KeepsFollowing o old before new after → CatchesUpAt o old before new after → ShowsTheRoom o requests new
  exchanged_shows keeps catches = record {
    joined = still_joined old new f.joined g;
    edits = f.edits;
    made = f.made;
    count = g.same_last ∙ f.count;
    seen = after;
    legal = seen_legal o before after f.legal sees;
    shows = λ past opens c id alone.
        let first = all_first c f.edits (log_of past after) alone in
        let then = followed past opens c id first in
        let kept = keeps past opens c f.edits then first in
        record { follows = kept.0; headline = kept.1; up_to_date = catches past opens c f.edits then alone };
  }

-- a client that shows the room has worked
pub shows_worked : (o : Opening) (requests : List EditRequest) (client : Client) → ShowsTheRoom o requests client → HasWorked (length requests) client
shows_worked o requests client s = record { joined = s.joined; few = let few = made_few requests s.edits s.made in let count = s.count in omega (arith, few, count) }

-- a client that followed a plan shows what it asked for in the end
pub plan_shows : {P : Type 0} (o : Opening) (asks : P → ℕ → List EditRequest → Type 0) (plan : P) (seen : List Mark) (old new : Client) → HasFollowed asks (FollowsRoom o) plan seen old → Ends (FollowsRoom o) (ShowsTheRoom o) seen old new → ShowsPlan o asks plan new
plan_shows o asks plan seen old new f ends = record { requests = f.requests; asked = λ c id. f.asked c (sym ends.0 ∙ id); shows = ends.1 f.requests f.made }

-- what a list asks for is the list
pub list_shows : (o : Opening) (edits requests : List EditRequest) (client : Client) → ((c : ℕ) → client.id ≡ Some c → requests ≡ edits) → ShowsTheRoom o requests client → ShowsTheRoom o edits client
list_shows o edits requests client asked s = by_id client.id refl s.joined
  where
    by_id : (id : Option ℕ) → client.id ≡ id → IsSome id → ShowsTheRoom o edits client
    by_id None at some = let f : false ≡ true = some in absurd (cc)
    by_id (Some c) at some = subst (λ (rs : List EditRequest). ShowsTheRoom o rs client) (asked c at) s

-- an edit that isn't made is refused, where it isn't for want of memory
pub refused_so : (client : Client) (request : EditRequest) (e : EditError) → (e ≡ error.Memory → ⊥) → IsRefusal client request (refusal e) → IsRefusedByClient request
refused_so client request error.NotOpen other is = (client, local.NotOpen, is)
refused_so client request error.IsRoot other is = (client, local.IsRoot, is)
refused_so client request error.NotShown other is = (client, local.NotShown, is)
refused_so client request error.ParentNotShown other is = (client, local.ParentNotShown, is)
refused_so client request error.BadParent other is = (client, local.BadParent, is)
refused_so client request error.OwnDescendant other is = (client, local.OwnDescendant, is)
refused_so client request error.TooDeep other is = (client, local.TooDeep, is)
refused_so client request error.Crowded other is = (client, local.Crowded, is)
refused_so client request error.IdsSpent other is = (client, local.IdsSpent, is)
refused_so client request error.Full other is = (client, local.Full, is)
refused_so client request error.Memory other is = absurd (other refl)

-- it has come one request further in a list
pub one_further : (o : Opening) (whole : List EditRequest) (i : ℕ) (request : EditRequest) (seen : List Mark) (client : Client) → i < length whole → request ≡ get_or whole i request → FollowsRoom o (take i whole ++ request ∷ []) seen client → FollowsRoom o (take (i + 1) whole) seen client
one_further o whole i request seen client within is f =
    subst (λ (requests : List EditRequest). FollowsRoom o requests seen client) (sym (take_more whole i request within ∙ ap (λ (x : EditRequest). take i whole ++ x ∷ []) (sym is))) f
