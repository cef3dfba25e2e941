-- What contracts see of what a client is told.
use Rattle.canvas_model.specs.Messages.{Message}
use Rattle.canvas_model.specs.Messages as messages
use Rattle.canvas_judge.specs.Seen.{seen_message}
use Rattle.room_handler.specs.declared.told.Told.{Told}
use Rattle.room_handler.specs.declared.told.Told.TheVariants as told

-- the message that is told
abbrev pub seen_told : Told → Message
seen_told (told.Entry version entry) = messages.Entry version entry
seen_told (told.Other m) = seen_message m
