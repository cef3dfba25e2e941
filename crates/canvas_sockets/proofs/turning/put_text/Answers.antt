use Rattle.canvas_sockets.proofs.turning.put_text.Goals as goal

pub returns-clause-writes : goal.returns-clause-writes
returns-clause-writes g c = rw (c.own.ensures, c.shared.ensures) at c.put_bytes.ensures.writes

pub returns-clause-refuses : goal.returns-clause-refuses
returns-clause-refuses g c = rw (c.own.ensures, c.shared.ensures) at c.put_bytes.ensures.refuses
