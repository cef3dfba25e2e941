use denote.Text.{Utf8}
use denote.Shadow.{shadow}
use Rattle.test_hostile.proofs.repeats.add_lines.Given as goal

-- the last line is a text
abbrev pub invariant-loop-line : goal.invariant-loop-line
invariant-loop-line l = shadow (Utf8 l.last)
