use Rattle.line.proofs.LineDisplay.fmt.Goals as goal

pub returns-in-Stray-clause-writes : goal.returns-in-Stray-clause-writes
returns-in-Stray-clause-writes g c = rw c.in-Stray.is c.write-in-Stray.ensures.writes

pub returns-in-Starved-clause-writes : goal.returns-in-Starved-clause-writes
returns-in-Starved-clause-writes g c = rw c.in-Starved.is c.write-in-Starved.ensures.writes
