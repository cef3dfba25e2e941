-- Bounds of how deep the objects of a document stand.
use Rattle.std.specs.Prelude.{◌≤◌, ℕ}
use Rattle.canvas_model.specs.Document.{Doc}
use Rattle.canvas_model.specs.Depth.{StandsWithin, depth_limit}
use Rattle.canvas_model.specs.Log.{What}
use Rattle.canvas_model.specs.Verdict.{Outcome}
use Rattle.canvas_model.specs.Laws.{PutsWithin}

-- nothing stands deeper than this, which is no more than the limit
pub record IsBound (d : Doc) (bound : ℕ) : Type 0 where
  pub within : StandsWithin d bound
  pub few : bound ≤ depth_limit

-- nor does the change put anything deeper
pub record IsBoundAfter (d : Doc) (what : What) (outcome : Outcome) (bound : ℕ) : Type 0 where
  pub before : IsBound d bound
  pub puts : PutsWithin d what outcome bound
