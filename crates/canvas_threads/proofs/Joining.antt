-- A new client that joins at a seat follows what the seat has seen then.
use Rattle.std.proofs.Common.{◌≡◌, ◌⊎◌, ℕ, ◌<◌, List, [], ◌∷◌, ◌++◌, length, refl, ap, sym, ◌∙◌, subst, arith, length-append}
use mathlib.Core.Logic.{inl, inr}
use Rattle.canvas_model.specs.declared.ObjId.{ObjId}
use Rattle.canvas_model.specs.Change.{Create}
use Rattle.canvas_model.specs.State.{opening}
use Rattle.canvas_model.specs.Log.{Entry, What, Join, Edit}
use Rattle.canvas_model.specs.Client.{Client, new_client}
use Rattle.canvas_model.specs.Messages.{Message, Welcome}
use Rattle.canvas_model.specs.Messages as messages
use Rattle.canvas_model.specs.Receive.{welcomed}
use Rattle.canvas_model.proofs.Lists.{nth-none}
use Rattle.canvas_model.proofs.Log.{done_opening, joined_positive}
use Rattle.canvas_model.proofs.Opening.{only_root}
use Rattle.canvas_server.specs.Asked.{Asked}
use Rattle.canvas_board.specs.Marks.{IsLegalHistory, Logged, Mark, Opening}
use Rattle.canvas_desk.specs.declared.faults.Refusal.TheVariants.{Stranger, Repeat, Gap, Full}
use Rattle.canvas_desk.specs.declared.faults.SubmitError.{SubmitError}
use Rattle.canvas_desk.specs.declared.faults.SubmitError.TheVariants.{Refused, NotKept, Owed}
use Rattle.canvas_room.specs.Seats.{RefusesEdit}
use Rattle.canvas_nodes.specs.declared.link.LinkError.{LinkError}
use Rattle.canvas_nodes.specs.Hears.{BreaksAtJoin, HearsEach, HearsOfJoin, HearsOne}
use Rattle.room_handler.specs.Table.{IsJudgedSince, IsSince, IsToldAs, SaysOf, SeesOn, answer_of}
use Rattle.room_handler.specs.Links.{Grants, IsNo, RefusesRound}
use Rattle.canvas_threads.specs.Follows.{FollowsLog}
use Rattle.canvas_threads.specs.Histories.{OpensAfter, log_of}
use Rattle.canvas_threads.specs.Exchanges.{FollowsAnew}
use Rattle.canvas_threads.proofs.Histories.{records}
use Rattle.canvas_threads.proofs.Rounds.{since_there}

-- a new client that was given an id follows every log, at version 0
follows_welcomed : (log : List Entry) (c : ℕ) → 0 < c → FollowsLog log c [] (welcomed new_client c)
follows_welcomed log c given = record {
  holds = refl;
  given = given;
  reached = omega arith;
  acknowledged = sym (done_opening c);
  made = omega arith;
  waiting = refl;
  stands = record {
    shown = refl;
    fresh = λ q made. absurd (cc made);
    counters = λ b q id alive mine. absurd (let root_is = ap (λ (x : ObjId). x.client) (only_root q alive) in let same : c ≡ b = cc id in omega (arith, root_is, mine, same, given));
  };
  owns = λ b id. tt;
  own = λ i id made. absurd (nth-none i (Create id made.0 made.1) made.2);
  known = λ i change more there. absurd (nth-none i change there);
}

-- what is asked by a Join
abbrev joining : Asked
joining = record { author = 0; seq = 0; what = Join }

-- a Join that was answered with no No is judged
granted_judged : (o : Opening) (before after : List Mark) (m : Message) → SaysOf o joining before m after → (IsNo (m ∷ []) → ⊥) → IsJudgedSince joining before m after
granted_judged o before after m (inl j) granted = j
granted_judged o before after m (inr t) granted = by t.error t.refuses t.told
  where
    by : (e : SubmitError) → RefusesEdit joining e → m ≡ answer_of e → IsJudgedSince joining before m after
    by (Refused Stranger) refuses told = absurd refuses
    by (Refused (Repeat d)) refuses told = absurd refuses.0
    by (Refused (Gap d)) refuses told = absurd refuses.0
    by (Refused Full) refuses told = absurd (granted (subst (λ (x : Message). IsNo (x ∷ [])) (sym told) tt))
    by (NotKept error) refuses told = absurd (granted (subst (λ (x : Message). IsNo (x ∷ [])) (sym told) tt))
    by (Owed v) refuses told = absurd (granted (subst (λ (x : Message). IsNo (x ∷ [])) (sym told) tt))

-- where an entry was judged since, a legal history was seen
since_legal : (o : Opening) (before after : List Mark) (e : Entry) → IsSince before after e → SeesOn o before after → IsLegalHistory o after
since_legal o before after e since (inr sees) = sees.1
since_legal o before after e since (inl same) =
    let more = ap length (sym same ∙ since.new_is) in
    let first = length-append before (since.before ++ Logged e ∷ since.after) in
    let second = length-append since.before (Logged e ∷ since.after) in
    absurd (omega (arith, more, first, second))

-- what was seen is legal where a Join was granted
pub join_legal : (o : Opening) (before : List Mark) (answer : List Message) (after : List Mark) → Grants o before messages.Join answer after → IsLegalHistory o after
join_legal o before answer after g =
    let j = granted_judged o before after g.0.1.0 g.0.1.2 (λ is_no. g.1 (subst IsNo (sym g.0.1.1) is_no)) in
    since_legal o before after j.entry j.since g.0.0

module _ (o : Opening) (past : List Entry) (opens : OpensAfter o past) (before after : List Mark) (legal : IsLegalHistory o after) where
  -- the answer's one message gives an id
  welcome : (m : Message) → SaysOf o joining before m after → (IsNo (m ∷ []) → ⊥) → (c : ℕ) × (0 < c) × (m ≡ Welcome c)
  welcome m says granted = judged (granted_judged o before after m says granted)
    where
      judged : IsJudgedSince joining before m after → (c : ℕ) × (0 < c) × (m ≡ Welcome c)
      judged j = by j.entry.what j.answers.what_is j.told
        where
          by : (what : What) → what ≡ Join → IsToldAs what j.entry.outcome m → (c : ℕ) × (0 < c) × (m ≡ Welcome c)
          by Join is told =
              let there = since_there past before after j.entry j.since in
              (told.0, joined_positive opening (log_of past after) (records o past opens after legal).legal.fits told.0 there.0 j.entry there.1 told.1, told.2)
          by (Edit change) is told = absurd (cc is)

  given_id : (c : ℕ) (m : Message) (new : Client) → m ≡ Welcome c → HearsOne new_client m new → new ≡ welcomed new_client c
  given_id c m new is h = let one = subst (λ (x : Message). HearsOne new_client x new) is h in (one.follows tt).1

  -- a beginning of the answer was heard: nothing, or the id
  heard_beginning : (c : ℕ) → 0 < c → (heard rest : List Message) (m : Message) (new : Client) → m ≡ Welcome c → m ∷ [] ≡ heard ++ rest → HearsEach new_client heard new → (new ≡ new_client) ⊎ FollowsAnew o past after new
  heard_beginning c given [] rest m new is whole h = inl h
  heard_beginning c given (n ∷ []) rest m new is whole h =
      let same : n ≡ m = cc whole in
      let now : new ≡ welcomed new_client c = h.2 ∙ given_id c n h.0 (same ∙ is) h.1 in
      inr (c, record { legal = legal; follows = subst (FollowsLog (log_of past after) c []) (sym now) (follows_welcomed (log_of past after) c given) })
  heard_beginning c given (n ∷ k ∷ heard) rest m new is whole h = absurd (cc whole)

module _ (o : Opening) (past : List Entry) (opens : OpensAfter o past) (before after : List Mark) where
  pub joined : (new : Client) → HearsOfJoin (Grants o) (RefusesRound o) new_client before new after → FollowsAnew o past after new
  joined new h =
      let now = join_legal o before h.0 after h.1 in
      let w = welcome o past opens before after now h.1.0.1.0 h.1.0.1.2 (λ is_no. h.1.1 (subst IsNo (sym h.1.0.1.1) is_no)) in
      let each = subst (λ (ms : List Message). HearsEach new_client ms new) h.1.0.1.1 h.2 in
      let is : new ≡ welcomed new_client w.0 = each.2 ∙ given_id o past opens before after now w.0 h.1.0.1.0 each.0 w.2 each.1 in
      (w.0, record { legal = now; follows = subst (FollowsLog (log_of past after) w.0 []) (sym is) (follows_welcomed (log_of past after) w.0 w.1) })

  -- a join that broke off
  pub join_broke : (e : LinkError) (new : Client) → BreaksAtJoin (Grants o) (RefusesRound o) e new_client before new after → (new ≡ new_client) ⊎ FollowsAnew o past after new
  join_broke e new (inl (inl h)) = inl h.1
  join_broke e new (inl (inr h)) =
      let now = join_legal o before h.0 after h.1 in
      let w = welcome o past opens before after now h.1.0.1.0 h.1.0.1.2 (λ is_no. h.1.1 (subst IsNo (sym h.1.0.1.1) is_no)) in
      heard_beginning o past opens before after now w.0 w.1 h.2.0 h.2.1 h.1.0.1.0 new w.2 (sym h.1.0.1.1 ∙ h.2.2) h.2.3
  join_broke e new (inr h) = inr (joined new h.0)
