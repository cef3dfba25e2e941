-- How a server tells what it has counted.
use Rattle.std.specs.Prelude.{ℕ, List, ◌++◌, codes}
use Rattle.std.specs.Fmt.{decimal}
use Rattle.app_metrics.specs.declared.numbers.Noes.{Noes}
use Rattle.app_metrics.specs.declared.numbers.Numbers.{Numbers}
use Rattle.app_metrics.specs.declared.numbers.Refusals.{Refusals}
use Rattle.app_metrics.specs.Prometheus.{type_line, gauge, counter, by_reason, seconds_counter}

-- the line of a server that serves: what is published, and how many clients are connected
abbrev pub health_line : Numbers → List ℕ
health_line n = codes "serving version " ++ decimal n.published ++ codes " clients " ++ decimal n.clients ++ codes "\n"

-- how the document stands
abbrev pub document_text : Numbers → List ℕ
document_text n =
    gauge (codes "lugcurrant_version") n.version
    ++ gauge (codes "lugcurrant_published_version") n.published
    ++ gauge (codes "lugcurrant_floor_version") n.floor
    ++ gauge (codes "lugcurrant_objects") n.objects

-- who has connected
abbrev pub clients_text : Numbers → List ℕ
clients_text n =
    gauge (codes "lugcurrant_clients") n.clients
    ++ gauge (codes "lugcurrant_live_clients") n.live
    ++ counter (codes "lugcurrant_connections_total") n.connections
    ++ counter (codes "lugcurrant_turned_away_total") n.turned_away
    ++ counter (codes "lugcurrant_pushes_total") n.pushes
    ++ counter (codes "lugcurrant_requests_total") n.requests

-- a number of edits that the rules refused, for a reason
abbrev pub refused_by_reason : List ℕ → ℕ → List ℕ
refused_by_reason = by_reason (codes "lugcurrant_refused_total")

-- the edits that the rules refused, by the reason
abbrev pub refusals_text : Refusals → List ℕ
refusals_text r =
    type_line (codes "lugcurrant_refused_total") (codes "counter")
    ++ refused_by_reason (codes "is_root") r.is_root
    ++ refused_by_reason (codes "bad_id") r.bad_id
    ++ refused_by_reason (codes "gone") r.gone
    ++ refused_by_reason (codes "parent_gone") r.parent_gone
    ++ refused_by_reason (codes "bad_parent") r.bad_parent
    ++ refused_by_reason (codes "cycle") r.cycle
    ++ refused_by_reason (codes "crowded") r.crowded
    ++ refused_by_reason (codes "too_deep") r.too_deep

-- a number of messages that were answered by a No, for a reason
abbrev pub said_no : List ℕ → ℕ → List ℕ
said_no = by_reason (codes "lugcurrant_no_total")

-- the messages that were answered by a No, by the reason
abbrev pub noes_text : Noes → List ℕ
noes_text n =
    type_line (codes "lugcurrant_no_total") (codes "counter")
    ++ said_no (codes "stranger") n.stranger
    ++ said_no (codes "repeat") n.repeat
    ++ said_no (codes "gap") n.gap
    ++ said_no (codes "full") n.full
    ++ said_no (codes "device") n.device
    ++ said_no (codes "failed") n.failed
    ++ said_no (codes "memory") n.memory
    ++ said_no (codes "too_large") n.too_large
    ++ said_no (codes "not_read") n.not_read

-- what was asked, and refused
abbrev pub edits_text : Numbers → List ℕ
edits_text n = counter (codes "lugcurrant_edits_total") n.edits ++ refusals_text n.refusals ++ noes_text n.noes

-- what the journal has done
abbrev pub journal_text : Numbers → List ℕ
journal_text n =
    counter (codes "lugcurrant_entries_total") n.entries
    ++ counter (codes "lugcurrant_syncs_total") n.syncs
    ++ counter (codes "lugcurrant_checkpoints_total") n.checkpoints
    ++ counter (codes "lugcurrant_checkpoints_refused_total") n.checkpoints_refused
    ++ seconds_counter (codes "lugcurrant_checkpoint_seconds_total") n.checkpoint_micros
    ++ gauge (codes "lugcurrant_checkpoint_bytes") n.checkpoint_bytes

-- all numbers, as text for Prometheus
abbrev pub metrics_text : Numbers → List ℕ
metrics_text n = document_text n ++ clients_text n ++ edits_text n ++ journal_text n
