-- What a call says of the session that it took out of a handle and put back.
use Rattle.std.proofs.Common.{◌≡◌, refl, sym, subst}
use Rattle.std.specs.Prelude.{ℕ, List, Option, Some, None}
use Rattle.canvas_model.specs.Client.{Client}
use Rattle.canvas_embed.specs.Saves.{SpellsClient}
use Rattle.canvas_c.specs.Answers.{IsLoaded, LoadAnswer}
use Rattle.canvas_c.specs.Numbers.{call_done}
use Rattle.canvas_c.specs.declared.session.Session.{Session}
use Rattle.canvas_c.specs.Held.{OnHeld}

pub held_both : (Holds : Session → Session → Type 0) (Without : Type 0) (before after : Option Session) (old new : Session) → before ≡ Some old → after ≡ Some new → Holds old new → OnHeld Holds Without before after
held_both Holds Without before after old new e f h = subst (λ v. OnHeld Holds Without v after) (sym e) (subst (OnHeld Holds Without (Some old)) (sym f) h)

-- and of one that it made of bytes and put where none was
pub loaded_new : (bytes : List ℕ) (before after : Option Session) (s : Session) → before ≡ None → after ≡ Some s → IsLoaded bytes s → ((client : Client) → SpellsClient bytes client → s.client ≡ client) → LoadAnswer bytes call_done before after
loaded_new bytes before after s e f loaded only = subst (λ v. LoadAnswer bytes call_done v after) (sym e) (subst (λ v. LoadAnswer bytes call_done None v) (sym f) (refl, loaded, only))
