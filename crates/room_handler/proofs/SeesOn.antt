-- What a seat has seen after an exchange goes on from what it had seen.
use Rattle.std.proofs.Common.{ℕ, zero, suc, ◌+◌, List, ◌++◌, ap, sym, ◌∙◌, subst, append_assoc}
use mathlib.Core.Logic.{inl, inr}
use Rattle.canvas_model.specs.Client.{Client}
use Rattle.canvas_model.specs.Messages.{Message, Ask}
use Rattle.canvas_board.specs.Marks.{Mark, Opening, SeesHistory}
use Rattle.canvas_nodes.specs.declared.link.LinkError.{LinkError}
use Rattle.canvas_nodes.specs.declared.link.LinkError.TheVariants as link
use Rattle.canvas_nodes.specs.Hears.{Breaks, BreaksAtEdit, BreaksCatching, BreaksOff, BreaksSending, CatchesUp, Climbs, Exchanges, SendsEdit, SendsEach}
use Rattle.room_handler.specs.Links.{Grants, RefusesRound}
use Rattle.room_handler.specs.Seats.{SeatSeesOn, SeatValue}
use Rattle.room_handler.specs.Table.{SeesOn}
use Rattle.room_handler.specs.Exchanges.{ExchangesSeeOn}

pub sees_further : (o : Opening) (a b c : List Mark) → SeesOn o a b → SeesOn o b c → SeesOn o a c
sees_further o a b c (inl h) (inl i) = inl (i ∙ h)
sees_further o a b c (inl h) (inr i) = inr (subst (λ (x : List Mark). SeesHistory o x c) h i)
sees_further o a b c (inr h) (inl i) = inr (subst (λ (x : List Mark). SeesHistory o a x) (sym i) h)
sees_further o a b c (inr h) (inr i) = inr ((h.0.0 ++ i.0.0, sym (append_assoc a h.0.0 i.0.0) ∙ ap (λ (x : List Mark). x ++ i.0.0) h.0.1 ∙ i.0.1), i.1)

-- the same of a seat
pub seat_further : (o : Opening) (a b c : SeatValue) → SeatSeesOn o a b → SeatSeesOn o b c → SeatSeesOn o a c
seat_further o a b c earlier later = (sees_further o a.seen b.seen c.seen earlier.0 later.0, later.1 ∙ earlier.1)

pub refused_sees : (o : Opening) (a : List Mark) (m : Message) (e : LinkError) (b : List Mark) → RefusesRound o a m e b → SeesOn o a b
refused_sees o a m (link.Refused reason) b h = h.0
refused_sees o a m link.Memory b h = h
refused_sees o a m link.Ended b h = absurd h
refused_sees o a m link.NotRead b h = absurd h

module _ (o : Opening) where
  pub by_break : (asked : Message) (e : LinkError) (old : Client) (before : List Mark) (new : Client) (after : List Mark) → Breaks (Grants o) (RefusesRound o) asked e old before new after → SeesOn o before after
  by_break asked e old before new after (inl h) = refused_sees o before asked e after h.0
  by_break asked e old before new after (inr h) = h.1.0.0

  pub at_edit : (i : ℕ) (e : LinkError) (old : Client) (before : List Mark) (new : Client) (after : List Mark) → BreaksAtEdit (Grants o) (RefusesRound o) i e old before new after → SeesOn o before after
  at_edit i e old before new after (inl h) = inl h.2
  at_edit i e old before new after (inr h) = by_break h.0 e old before new after h.2

  pub by_sending : (number : ℕ) (old : Client) (before : List Mark) (new : Client) (after : List Mark) → SendsEdit (Grants o) (RefusesRound o) number old before new after → SeesOn o before after
  by_sending number old before new after (inl h) = inl h.2
  by_sending number old before new after (inr h) = h.2.2.1.0.0

  pub by_sending_each : (last n : ℕ) (old : Client) (before : List Mark) (new : Client) (after : List Mark) → SendsEach (Grants o) (RefusesRound o) last n old before new after → SeesOn o before after
  by_sending_each last zero old before new after h = inl h.1
  by_sending_each last (suc n) old before new after h = sees_further o before h.1 after (by_sending_each last n old before h.0 h.1 h.2) (by_sending (last + suc n) h.0 h.1 new after h.3)

  pub by_climbing : (n : ℕ) (old : Client) (before : List Mark) (new : Client) (after : List Mark) → Climbs (Grants o) (RefusesRound o) n old before new after → SeesOn o before after
  by_climbing zero old before new after h = inl h.1
  by_climbing (suc n) old before new after h = sees_further o before h.1 after (by_climbing n old before h.0 h.1 h.2) h.3.2.1.0.0

  pub by_catching_up : (old : Client) (before : List Mark) (new : Client) (after : List Mark) → CatchesUp (Grants o) (RefusesRound o) old before new after → SeesOn o before after
  by_catching_up old before new after h = sees_further o before h.2 after (by_climbing h.0 old before h.1 h.2 h.3) h.4.2.1.0.0

  pub while_catching_up : (e : LinkError) (old : Client) (before : List Mark) (new : Client) (after : List Mark) → BreaksCatching (Grants o) (RefusesRound o) e old before new after → SeesOn o before after
  while_catching_up e old before new after h = sees_further o before h.2 after (by_climbing h.0 old before h.1 h.2 h.3) (by_break (Ask h.4.0 h.1.version) e h.1 h.2 new after h.4.2)

  while_sending : (e : LinkError) (old : Client) (before : List Mark) (new : Client) (after : List Mark) → BreaksSending (Grants o) (RefusesRound o) e old before new after → SeesOn o before after
  while_sending e old before new after h = sees_further o before h.3 after (by_sending_each old.acknowledged h.0 old before h.2 h.3 h.5) (at_edit h.1 e h.2 h.3 new after h.7)

  exchanged : (old : Client) (before : List Mark) (new : Client) (after : List Mark) → Exchanges (Grants o) (RefusesRound o) old before new after → SeesOn o before after
  exchanged old before new after h = sees_further o before h.1 after (by_sending_each old.acknowledged h.2.0 old before h.0 h.1 h.2.2) (by_catching_up h.0 h.1 new after h.3)

  broke_off : (e : LinkError) (old : Client) (before : List Mark) (new : Client) (after : List Mark) → BreaksOff (Grants o) (RefusesRound o) e old before new after → SeesOn o before after
  broke_off e old before new after (inl h) = while_sending e old before new after h
  broke_off e old before new after (inr h) = sees_further o before h.1 after (by_sending_each old.acknowledged h.2.0 old before h.0 h.1 h.2.2) (while_catching_up e h.0 h.1 new after h.3)

  pub exchanges_see_on : ExchangesSeeOn o
  exchanges_see_on = record { exchanged = exchanged; broke_off = broke_off }
