use Rattle.av1_model.proofs.ReadPaths.{read_path}
use Rattle.av1_model.proofs.ReadBack.{held_before, read_back, read_final}
use Rattle.av1_model.proofs.reading.law_of_reading.Goals as goal

pub returns-clause-earlier : goal.returns-clause-earlier
returns-clause-earlier g c contents adapted t ss at bytes v f h = held_before contents adapted bytes t ss at v f h

pub returns-clause-read_back : goal.returns-clause-read_back
returns-clause-read_back g c contents adapted t ss a at bytes v l f h = read_back contents adapted bytes t ss a at v l f h

pub returns-clause-read_final : goal.returns-clause-read_final
returns-clause-read_final g c contents adapted t ss a at v l f = read_final contents adapted t ss a at v l f

pub returns-clause-path : goal.returns-clause-path
returns-clause-path g c contents adapted t a at end bytes h = read_path contents adapted bytes t a at end h
