use Rattle.std.proofs.Common.{rules}
use Rattle.net_http.proofs.Words.{joined_yes, joined_no}
use Rattle.net_http.proofs.routes.is_joined.Goals as goal

pub returns-then-is_same_word : goal.returns-then-is_same_word
returns-then-is_same_word c = search (rules, joined_yes)

pub returns-else-is_same_word : goal.returns-else-is_same_word
returns-else-is_same_word c = search (rules, joined_no)
