use Rattle.std.proofs.Common.{◌↔◌, ℕ, List, IsTrue, subst}
use Rattle.std.proofs.lemmas.List.{take_rest}
use Rattle.disk_integrity.specs.Parts.{IsText}
use Rattle.disk_integrity.proofs.parts.is_cut_record.Goals as goal

pub returns : goal.returns
returns c = subst (λ (x : List ℕ). IsTrue c.is_text.result ↔ IsText x) (take_rest c.args.rest.now 4) c.is_text.ensures
