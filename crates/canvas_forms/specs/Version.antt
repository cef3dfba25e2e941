-- What a version of the wire fixes: a later one is another such record.
use Rattle.std.specs.Prelude.{ℕ}

pub record Version : Type 0 where
  -- the number that a client names as it joins, and a checkpoint at its head
  pub number : ℕ
  -- the greatest number of a reason for which a change is refused
  pub last_reason : ℕ
  -- the greatest number of a reason for which a message is refused
  pub last_no : ℕ

-- the first version, of which checkpoints are found in old journals
abbrev pub version_one : Version
version_one = record { number = 1; last_reason = 7; last_no = 9 }

-- the second version, which is written today
abbrev pub version_two : Version
version_two = record { number = 2; last_reason = 8; last_no = 9 }
