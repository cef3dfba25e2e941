use Rattle.std.proofs.Common.{append_assoc}
use Rattle.std.proofs.Output.{has_written_of_eq}
use Rattle.app_faults.proofs.sentences.ToldDisplay.fmt.Goals as goal

pub returns-in-NotKept-clause-writes : goal.returns-in-NotKept-clause-writes
returns-in-NotKept-clause-writes g c = λ plain ok. rw c.in-NotKept.is (has_written_of_eq _ _ _ _ _ (simp append_assoc) (c.write-in-NotKept.ensures.writes plain ok))

pub returns-in-Busy-clause-writes : goal.returns-in-Busy-clause-writes
returns-in-Busy-clause-writes g c = λ plain ok. rw c.in-Busy.is (has_written_of_eq _ _ _ _ _ (simp append_assoc) (c.write-in-Busy.ensures.writes plain ok))

pub returns-in-Damaged-clause-writes : goal.returns-in-Damaged-clause-writes
returns-in-Damaged-clause-writes g c = λ plain ok. rw c.in-Damaged.is (has_written_of_eq _ _ _ _ _ (simp append_assoc) (c.write-in-Damaged.ensures.writes plain ok))

pub returns-in-NoSpace-clause-writes : goal.returns-in-NoSpace-clause-writes
returns-in-NoSpace-clause-writes g c = λ plain ok. rw c.in-NoSpace.is (has_written_of_eq _ _ _ _ _ (simp append_assoc) (c.write-in-NoSpace.ensures.writes plain ok))

pub returns-in-JournalFailed-clause-writes : goal.returns-in-JournalFailed-clause-writes
returns-in-JournalFailed-clause-writes g c = λ plain ok. rw c.in-JournalFailed.is (has_written_of_eq _ _ _ _ _ (simp append_assoc) (c.write-in-JournalFailed.ensures.writes plain ok))

pub returns-in-StoreFailed-clause-writes : goal.returns-in-StoreFailed-clause-writes
returns-in-StoreFailed-clause-writes g c = λ plain ok. rw c.in-StoreFailed.is (has_written_of_eq _ _ _ _ _ (simp append_assoc) (c.write-in-StoreFailed.ensures.writes plain ok))

pub returns-in-TooLarge-clause-writes : goal.returns-in-TooLarge-clause-writes
returns-in-TooLarge-clause-writes g c = λ plain ok. rw c.in-TooLarge.is (c.write-in-TooLarge.ensures.writes plain ok)

pub returns-in-LeaseEnded-clause-writes : goal.returns-in-LeaseEnded-clause-writes
returns-in-LeaseEnded-clause-writes g c = λ plain ok. rw c.in-LeaseEnded.is (c.write-in-LeaseEnded.ensures.writes plain ok)
