-- What contracts see of a request.
use Rattle.canvas_lines.specs.Spelling.{Requested, RequestedJoin, RequestedEdit}
use Rattle.canvas_lines.specs.declared.requests.LogRequest.{LogRequest}
use Rattle.canvas_lines.specs.declared.requests.LogRequest.TheVariants.{Join, Edit}

abbrev pub seen_log_request : LogRequest → Requested
seen_log_request Join = RequestedJoin
seen_log_request (Edit author change) = RequestedEdit author change
