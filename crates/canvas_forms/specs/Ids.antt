-- Clients, versions and ids of objects as JSON.
use Rattle.std.specs.Prelude.{ℕ}
use Rattle.canvas_model.specs.declared.ObjId.{ObjId}
use Rattle.canvas_codec.specs.Codec.{Codec}
use Rattle.canvas_codec.specs.Parts.{whole, via, array_of, member, end}

-- a client, a counter or a colour: a whole number of 32 bits
abbrev pub client_form : Codec ℕ
client_form = whole 0 4294967295

-- a version, or a number of a request: as many as a log has entries
abbrev pub version_form : Codec ℕ
version_form = whole 0 4611686018427387904

-- `[client,counter]`
abbrev pub id_form : Codec ObjId
id_form = via (λ p. record { client = p.0; counter = p.1.0 }) (λ id. (id.client, (id.counter, tt))) (array_of (member client_form (member client_form end)))
