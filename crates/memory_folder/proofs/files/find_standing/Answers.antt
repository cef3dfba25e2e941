use Rattle.memory_folder.proofs.Changing.{stands_within, bytes_are_at}
use Rattle.memory_folder.proofs.files.find_standing.Goals as goal

pub returns-clause-within : goal.returns-clause-within
returns-clause-within c = stands_within c.args.name.now c.args.files.now c.find.result c.requires c.find.ensures.within c.find.ensures.other

pub returns-clause-found : goal.returns-clause-found
returns-clause-found c d = c.find.ensures.found d (stands_within c.args.name.now c.args.files.now c.find.result c.requires c.find.ensures.within c.find.ensures.other)

pub returns-clause-bytes : goal.returns-clause-bytes
returns-clause-bytes c d =
    let less = stands_within c.args.name.now c.args.files.now c.find.result c.requires c.find.ensures.within c.find.ensures.other in
    bytes_are_at c.args.name.now c.args.files.now c.find.result d less c.find.ensures.other (c.find.ensures.found d less)
