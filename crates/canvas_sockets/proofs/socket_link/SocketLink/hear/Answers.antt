use Rattle.canvas_judge.specs.Seen.{seen_message}
use Rattle.canvas_nodes.proofs.Begun.{decodes, extends}
use Rattle.canvas_sockets.proofs.socket_link.SocketLink.hear.Goals as goal

pub returns-clause-extends : goal.returns-clause-extends
returns-clause-extends g c = extends seen_message c.args.answer.now.items c.push.new.self.items c.in_ok-message.message c.is_end-last.result c.is_end-last.ensures c.in_ok-push.ensures.items

pub returns-clause-decoded : goal.returns-clause-decoded
returns-clause-decoded g c = decodes seen_message c.args.answer.now.items c.push.new.self.items c.in_ok-message.message c.in_ok-message.ensures c.in_ok-push.ensures.items
