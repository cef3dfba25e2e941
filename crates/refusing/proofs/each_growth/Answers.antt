use Rattle.refusing.proofs.Count.{refuses-one}
use Rattle.refusing.proofs.each_growth.Goals as goal

pub returns : goal.returns
returns c = refuses-one
