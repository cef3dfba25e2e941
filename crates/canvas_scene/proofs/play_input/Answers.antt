use Rattle.std.proofs.Common.{List, ℕ, ◌++◌, ◌∙◌, ap, subst, sym}
use Rattle.std.specs.Io.KnownBytes.{Appends, Consumes}
use Rattle.canvas_scene.proofs.play_input.Goals as goal

pub returns-clause-played : goal.returns-clause-played
returns-clause-played g c =
    let played = c.in_ok-played.ensures.played in
    record {
      text = c.deref.result.now;
      printed = played.0;
      is_read = subst (Consumes (g.R.Read.remaining c.args.input.now) (g.R.Read.remaining c.read_input.new.input)) (sym c.deref.ensures.value) c.in_ok-text.ensures.bytes;
      at_end = c.in_ok-text.ensures.end;
      is_printed = played.1;
      is_written = subst (Appends (g.W.Write.contents c.args.output.now) (g.W.Write.contents c.write_out.new.output))
          (c.deref-2.ensures.value ∙ played.2 ∙ ap (λ (none : List ℕ). none ++ played.0) c.new-out.ensures.items)
          c.in_ok-write_out.ensures.bytes;
    }
