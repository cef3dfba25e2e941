use Rattle.std.proofs.Common.{take, map}
use Rattle.httparse.specs.Spans.{header_bytes}
use Rattle.net_heads.specs.Fields.{IsFoundUnderName, values_named}
use Rattle.net_heads.proofs.Fields.find.Given as goal

-- what was found is of the values so far
abbrev pub invariant-loop-span : goal.invariant-loop-span
invariant-loop-span l = IsFoundUnderName l.found (values_named l.name (map (header_bytes l.self.bytes.now) (take l.span-index l.self.spans.now)))
