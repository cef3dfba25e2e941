-- The log of a history: it is legal, the board is what it leads to, and it only grows.
use Rattle.std.proofs.Common.{◌≡◌, ℕ, ◌-◌, ◌≤◌, List, [], ◌∷◌, ◌++◌, length, drop, refl, ap, sym, ◌∙◌, subst, arith, append_assoc, length-append}
use Rattle.std.proofs.lemmas.List.{append-nil}
use mathlib.Core.Logic.{inl, inr}
use Rattle.canvas_model.specs.Change.{Change, object_of}
use Rattle.canvas_model.specs.State.{State, opening, done}
use Rattle.canvas_model.specs.Log.{Entry, at_version, effect, fold}
use Rattle.canvas_model.specs.Log as model
use Rattle.canvas_model.specs.Numbered.{nth}
use Rattle.canvas_model.specs.Client.{Client}
use Rattle.canvas_model.specs.Standing.{Stands}
use Rattle.canvas_model.specs.Good.{IsKnown}
use Rattle.canvas_model.proofs.Lists.{drop-append, drop-drop, nth-append, take-append}
use Rattle.canvas_model.proofs.Log.{fits-append, fold-append}
use Rattle.canvas_server.specs.Served.{Served}
use Rattle.canvas_board.specs.Marks.{Failed, Floor, IsLegalHistory, LegalFrom, Logged, Mark, MarkMayFollow, Opening, board, board_from, start, step}
use Rattle.room_handler.specs.Table.{SeesOn}
use Rattle.canvas_threads.specs.Follows.{AreFirstOf, FollowsLog}
use Rattle.canvas_threads.specs.Histories.{OpensAfter, entries_of, log_of}

-- A board that a legal log leads to, of which all is published and the entries after the floor are kept.
pub record Records (b : Served) (log : List Entry) : Type 0 where
  pub legal : model.IsLegal opening log
  pub state : b.state ≡ fold opening log
  pub version : b.version ≡ length log
  pub shown : b.published ≡ b.version
  pub low : b.floor ≤ b.version
  pub kept : b.kept ≡ drop b.floor log

drop_all : (xs : List Entry) → [] ≡ drop (length xs) xs
drop_all [] = refl
drop_all (x ∷ xs) = drop_all xs

one_more : (b : Served) (log : List Entry) (e : Entry) → Records b log → MarkMayFollow b (Logged e) → Records (step b (Logged e)) (log ++ e ∷ [])
one_more b log e r may = record {
  legal = record {
    fits = fits-append opening log e r.legal.fits (subst (λ (s : State). model.Fits s e) r.state may.0);
    short = omega (arith, may.1, r.version, length-append log (e ∷ []));
  };
  state = ap (λ (s : State). effect s e) r.state ∙ sym (fold-append opening log e);
  version = omega (arith, r.version, length-append log (e ∷ []));
  shown = refl;
  low = omega (arith, r.low);
  kept = ap (λ (l : List Entry). l ++ e ∷ []) r.kept ∙ sym (drop-append b.floor log (e ∷ []) (omega (arith, r.low, r.version)));
}

floored : (b : Served) (log : List Entry) (v : ℕ) → Records b log → MarkMayFollow b (Floor v) → Records (step b (Floor v)) log
floored b log v r may = record {
  legal = r.legal;
  state = r.state;
  version = r.version;
  shown = r.shown;
  low = may.1;
  kept = ap (drop (v - b.floor)) r.kept ∙ drop-drop b.floor (v - b.floor) log ∙ ap (λ (k : ℕ). drop k log) (omega (arith, may.0));
}

records_from : (b : Served) (log : List Entry) (marks : List Mark) → Records b log → LegalFrom b marks → Records (board_from b marks) (log ++ entries_of marks)
records_from b log [] r l = subst (Records b) (sym (append-nil log)) r
records_from b log (Logged e ∷ marks) r l = subst (Records (board_from (step b (Logged e)) marks)) (append_assoc log (e ∷ []) (entries_of marks)) (records_from (step b (Logged e)) (log ++ e ∷ []) marks (one_more b log e r l.0) l.1)
records_from b log (Floor v ∷ marks) r l = records_from (step b (Floor v)) log marks (floored b log v r l.0) l.1
records_from b log (Failed ∷ marks) r l = records_from b log marks r l.1

-- the board of a history records its log
pub records : (o : Opening) (past : List Entry) → OpensAfter o past → (seen : List Mark) → IsLegalHistory o seen → Records (board o seen) (log_of past seen)
records o past opens seen legal = records_from (start o) past seen (record {
  legal = opens.legal;
  state = opens.state;
  version = opens.version;
  shown = refl;
  low = omega arith;
  kept = drop_all past ∙ ap (λ (k : ℕ). drop k past) (sym opens.version);
}) legal

pub entries_append : (xs ys : List Mark) → entries_of (xs ++ ys) ≡ entries_of xs ++ entries_of ys
entries_append [] ys = refl
entries_append (Logged e ∷ xs) ys = ap (λ (l : List Entry). e ∷ l) (entries_append xs ys)
entries_append (Floor v ∷ xs) ys = entries_append xs ys
entries_append (Failed ∷ xs) ys = entries_append xs ys

-- a longer history has a longer log
pub log_append : (past : List Entry) (seen more : List Mark) → log_of past (seen ++ more) ≡ log_of past seen ++ entries_of more
log_append past seen more = ap (λ (l : List Entry). past ++ l) (entries_append seen more) ∙ sym (append_assoc past (entries_of seen) (entries_of more))

-- What a log has become that has gone on: it is longer by these entries.
pub record Longer (old new : List Entry) : Type 0 where
  pub more : List Entry
  pub is : new ≡ old ++ more

pub longer_itself : (log : List Entry) → Longer log log
longer_itself log = record { more = []; is = sym (append-nil log) }

pub longer_on : (a b c : List Entry) → Longer a b → Longer b c → Longer a c
longer_on a b c g h = record { more = g.more ++ h.more; is = h.is ∙ ap (λ (l : List Entry). l ++ h.more) g.is ∙ append_assoc a g.more h.more }

pub seen_longer : (o : Opening) (past : List Entry) (before after : List Mark) → SeesOn o before after → Longer (log_of past before) (log_of past after)
seen_longer o past before after (inl same) = subst (λ (x : List Mark). Longer (log_of past before) (log_of past x)) (sym same) (longer_itself (log_of past before))
seen_longer o past before after (inr sees) = record { more = entries_of sees.0.0; is = ap (log_of past) (sym sees.0.1) ∙ log_append past before sees.0.0 }

pub seen_legal : (o : Opening) (before after : List Mark) → IsLegalHistory o before → SeesOn o before after → IsLegalHistory o after
seen_legal o before after legal (inl same) = subst (IsLegalHistory o) (sym same) legal
seen_legal o before after legal (inr sees) = sees.1

-- at each version that there was, the state is the same in a longer log
pub same_at : (log more : List Entry) (v : ℕ) → v ≤ length log → at_version (log ++ more) v ≡ at_version log v
same_at log more v low = ap (fold opening) (take-append log more v low)

-- a client that follows a log follows every longer one
pub follows_longer : (log new : List Entry) (c : ℕ) (edits : List Change) (client : Client) → Longer log new → FollowsLog log c edits client → FollowsLog new c edits client
follows_longer log new c edits client longer f = subst (λ (l : List Entry). FollowsLog l c edits client) (sym longer.is) (record {
  holds = f.holds;
  given = f.given;
  reached = omega (arith, f.reached, length-append log longer.more);
  acknowledged = f.acknowledged ∙ ap (λ (s : State). done s c) same;
  made = f.made;
  waiting = f.waiting;
  stands = subst (λ (s : State). Stands client s.doc) same f.stands;
  owns = f.owns;
  own = f.own;
  known = λ i change more there. subst (λ (s : State). IsKnown s edits i (object_of change)) same (f.known i change more there);
})
  where
    same : at_version log client.version ≡ at_version (log ++ longer.more) client.version
    same = sym (same_at log longer.more client.version f.reached)

-- the first edits of an id in a log are so in what the log was before
pub first_before : (log new : List Entry) (c : ℕ) (edits : List Change) → Longer log new → AreFirstOf c edits new → AreFirstOf c edits log
first_before log new c edits longer all v e here mine = all v e (ap (λ (l : List Entry). nth l v) longer.is ∙ nth-append log longer.more v e here) mine
