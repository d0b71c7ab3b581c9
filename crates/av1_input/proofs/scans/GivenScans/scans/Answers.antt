use Rattle.av1_input.proofs.scans.GivenScans.scans.Goals as goal

pub returns-in-Diagonal : goal.returns-in-Diagonal
returns-in-Diagonal c = rw c.in-Diagonal.is c.diagonal.ensures.value
