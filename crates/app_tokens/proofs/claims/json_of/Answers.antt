use Rattle.serde_json.specs.View.{view}
use Rattle.app_tokens.proofs.Jsons.{json_none, json_some, not_both}
use Rattle.app_tokens.proofs.claims.json_of.Goals as goal

pub returns-in-Ok : goal.returns-in-Ok
returns-in-Ok c = json_some c.args.bytes.now (view c.in-Ok.json) c.in-Ok.ensures.ok.0 c.in-Ok.ensures.ok.1

pub returns-else-is_memory : goal.returns-else-is_memory
returns-else-is_memory c = json_none c.args.bytes.now (c.in-Err.ensures.err (λ m. not_both c.is_memory.result (c.is_memory.ensures.1 m) c.if-is_memory.false))
