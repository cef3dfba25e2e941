use Rattle.std.proofs.Common.{append_assoc}
use Rattle.std.proofs.Output.{has_written_of_eq}
use Rattle.app_faults.proofs.causes.LostDisplay.fmt.Goals as goal

pub returns-in-Unreadable-clause-writes : goal.returns-in-Unreadable-clause-writes
returns-in-Unreadable-clause-writes g c = λ plain ok. rw c.in-Sums.is (rw c.in-Unreadable.is (has_written_of_eq _ _ _ _ _ (simp append_assoc) (c.write.ensures.writes plain ok)))

pub returns-in-NoCutRecord-clause-writes : goal.returns-in-NoCutRecord-clause-writes
returns-in-NoCutRecord-clause-writes g c = λ plain ok. rw c.in-NoCutRecord.is (has_written_of_eq _ _ _ _ _ (simp append_assoc) (c.write-in-NoCutRecord.ensures.writes plain ok))
