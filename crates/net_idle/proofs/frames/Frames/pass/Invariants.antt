-- What has passed so far.
use Rattle.std.proofs.Common.{ℕ, List, ◌++◌, take}
use Rattle.net_idle.specs.Frames.{HasFollowedBytes}
use Rattle.net_idle.proofs.frames.Frames.pass.Given as goal

abbrev pub invariant-loop-byte : goal.invariant-loop-byte
invariant-loop-byte l = (before : List ℕ) → HasFollowedBytes l.initial.self before → HasFollowedBytes l.self (before ++ take l.byte-index l.bytes)
