use Rattle.canvas_judge.specs.declared.message.NoReason.TheVariants.{Stranger, Repeat, Gap, Full, Device, Failed, Memory, TooLarge, NotRead}
use Rattle.canvas_nodes.proofs.NoTexts.{encodes}
use Rattle.canvas_nodes.proofs.answering.no_text.Goals as goal

pub returns-in-Stranger : goal.returns-in-Stranger
returns-in-Stranger c = rw c.in-Stranger.is (encodes Stranger)

pub returns-in-Repeat : goal.returns-in-Repeat
returns-in-Repeat c = rw c.in-Repeat.is (encodes Repeat)

pub returns-in-Gap : goal.returns-in-Gap
returns-in-Gap c = rw c.in-Gap.is (encodes Gap)

pub returns-in-Full : goal.returns-in-Full
returns-in-Full c = rw c.in-Full.is (encodes Full)

pub returns-in-Device : goal.returns-in-Device
returns-in-Device c = rw c.in-Device.is (encodes Device)

pub returns-in-Failed : goal.returns-in-Failed
returns-in-Failed c = rw c.in-Failed.is (encodes Failed)

pub returns-in-Memory : goal.returns-in-Memory
returns-in-Memory c = rw c.in-Memory.is (encodes Memory)

pub returns-in-TooLarge : goal.returns-in-TooLarge
returns-in-TooLarge c = rw c.in-TooLarge.is (encodes TooLarge)

pub returns-in-NotRead : goal.returns-in-NotRead
returns-in-NotRead c = rw c.in-NotRead.is (encodes NotRead)
