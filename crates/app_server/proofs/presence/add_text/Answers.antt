use Rattle.std.proofs.Common.{ℕ, List, Vec, Global, map, subst, sym, ◌∙◌}
use Rattle.serde_json.specs.Data.{Data}
use Rattle.canvas_live.specs.Presence.{TellsHere}
use Rattle.canvas_turns.specs.Told.{AreAll}
use Rattle.app_server.specs.Live.{TellsSomeHere}
use Rattle.app_server.proofs.Heres.{all_pushed}
use Rattle.app_server.proofs.presence.add_text.Goals as goal

pub returns : goal.returns
returns c =
    let here = c.args.here.now in
    let same = c.in_ok-text.ensures.items ∙ c.deref.ensures.value in
    let tells : TellsSomeHere c.in_ok-text.text.items
    = (here.client, here.value_bytes, subst (λ (t : List ℕ). ∥ ((value : Data) × TellsHere t here.client value here.value_bytes) ∥₁) (sym same) here.told) in
    λ are. subst (λ (l : List (Vec ℕ Global)). AreAll TellsSomeHere (map (λ (t : Vec ℕ Global). t.items) l)) (sym c.in_ok-push.ensures.items)
    (all_pushed (λ (t : Vec ℕ Global). t.items) c.args.texts.now.items c.in_ok-text.text tells are)
