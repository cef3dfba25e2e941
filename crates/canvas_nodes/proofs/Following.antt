-- A client goes on, whatever it hears over a link.
use Rattle.std.proofs.Common.{ℕ, zero, suc, List, [], ◌∷◌, ◌+◌}
use mathlib.Core.Logic.{inl, inr}
use Rattle.canvas_model.specs.Client.{Client}
use Rattle.canvas_model.specs.Messages.{Message}
use Rattle.canvas_nodes.specs.declared.link.LinkError.{LinkError}
use Rattle.canvas_nodes.specs.GoesOn.{GoesOn}
use Rattle.canvas_nodes.specs.Hears.{HearsEach, HearsSome, Hears, Breaks, BreaksAtEdit, SendsEdit, SendsEach, Climbs, CatchesUp, BreaksCatching, BreaksSending, Exchanges, BreaksOff, BreaksAtJoin, GoesOnByJoins, GoesOnByExchanges}
use Rattle.canvas_nodes.proofs.Going.{stays, further, received, as_it_is}

by_each : (old : Client) (ms : List Message) (new : Client) → HearsEach old ms new → GoesOn old new
by_each old [] new h = as_it_is old old new (stays old) h
by_each old (m ∷ ms) new h = further old h.0 new (received old h.0 m h.1.answer h.1.apart) (by_each h.0 ms new h.2)

by_some : (old : Client) (ms : List Message) (e : LinkError) (new : Client) → HearsSome old ms e new → GoesOn old new
by_some old ms e new h = by_each old h.0 new h.3

module _ {L : Type 0} (Gives : L → Message → List Message → L → Type 0) (Fails : L → Message → LinkError → L → Type 0) where
  by_hearing : (asked : Message) (old : Client) (before : L) (new : Client) (after : L) → Hears Gives Fails asked old before new after → GoesOn old new
  by_hearing asked old before new after h = by_each old h.0 new h.2

  by_break : (asked : Message) (e : LinkError) (old : Client) (before : L) (new : Client) (after : L) → Breaks Gives Fails asked e old before new after → GoesOn old new
  by_break asked e old before new after (inl h) = as_it_is old old new (stays old) h.1
  by_break asked e old before new after (inr h) = by_some old h.0 e new h.2

  at_edit : (i : ℕ) (e : LinkError) (old : Client) (before : L) (new : Client) (after : L) → BreaksAtEdit Gives Fails i e old before new after → GoesOn old new
  at_edit i e old before new after (inl h) = as_it_is old old new (stays old) h.1
  at_edit i e old before new after (inr h) = by_break h.0 e old before new after h.2

  by_sending : (number : ℕ) (old : Client) (before : L) (new : Client) (after : L) → SendsEdit Gives Fails number old before new after → GoesOn old new
  by_sending number old before new after (inl h) = as_it_is old old new (stays old) h.1
  by_sending number old before new after (inr h) = by_hearing h.2.0 old before new after h.2.2

  by_sending_each : (last n : ℕ) (old : Client) (before : L) (new : Client) (after : L) → SendsEach Gives Fails last n old before new after → GoesOn old new
  by_sending_each last zero old before new after h = as_it_is old old new (stays old) h.0
  by_sending_each last (suc n) old before new after h = further old h.0 new (by_sending_each last n old before h.0 h.1 h.2) (by_sending (last + suc n) h.0 h.1 new after h.3)

  by_climbing : (n : ℕ) (old : Client) (before : L) (new : Client) (after : L) → Climbs Gives Fails n old before new after → GoesOn old new
  by_climbing zero old before new after h = as_it_is old old new (stays old) h.0
  by_climbing (suc n) old before new after h = further old h.0 new (by_climbing n old before h.0 h.1 h.2) (by_each h.0 h.3.2.0 new h.3.2.2)

  by_catching_up : (old : Client) (before : L) (new : Client) (after : L) → CatchesUp Gives Fails old before new after → GoesOn old new
  by_catching_up old before new after h = further old h.1 new (by_climbing h.0 old before h.1 h.2 h.3) (by_each h.1 h.4.2.0 new h.4.2.2)

  while_catching_up : (e : LinkError) (old : Client) (before : L) (new : Client) (after : L) → BreaksCatching Gives Fails e old before new after → GoesOn old new
  while_catching_up e old before new after h = further old h.1 new (by_climbing h.0 old before h.1 h.2 h.3) (by_break _ e h.1 h.2 new after h.4.2)

  while_sending : (e : LinkError) (old : Client) (before : L) (new : Client) (after : L) → BreaksSending Gives Fails e old before new after → GoesOn old new
  while_sending e old before new after h = further old h.2 new (by_sending_each old.acknowledged h.0 old before h.2 h.3 h.5) (at_edit h.1 e h.2 h.3 new after h.7)

  exchanged : (old : Client) (before : L) (new : Client) (after : L) → Exchanges Gives Fails old before new after → GoesOn old new
  exchanged old before new after h = further old h.0 new (by_sending_each old.acknowledged h.2.0 old before h.0 h.1 h.2.2) (by_catching_up h.0 h.1 new after h.3)

  broke_off : (e : LinkError) (old : Client) (before : L) (new : Client) (after : L) → BreaksOff Gives Fails e old before new after → GoesOn old new
  broke_off e old before new after (inl h) = while_sending e old before new after h
  broke_off e old before new after (inr h) = further old h.0 new (by_sending_each old.acknowledged h.2.0 old before h.0 h.1 h.2.2) (while_catching_up e h.0 h.1 new after h.3)

  joining_broke : (e : LinkError) (old : Client) (before : L) (new : Client) (after : L) → BreaksAtJoin Gives Fails e old before new after → GoesOn old new
  joining_broke e old before new after (inl h) = by_break _ e old before new after h
  joining_broke e old before new after (inr h) = by_hearing _ old before new after h.0

  pub joins_go_on : GoesOnByJoins Gives Fails
  joins_go_on = record { joins = by_hearing _; breaks = joining_broke }

  pub exchanges_go_on : GoesOnByExchanges Gives Fails
  exchanges_go_on = record { exchanges = exchanged; breaks = broke_off }
