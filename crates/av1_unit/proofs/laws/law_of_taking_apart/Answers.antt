use Rattle.std.proofs.Common.{◌≡◌, ◌++◌, List, ℕ, sym, ap, ◌∙◌}
use Rattle.av1_unit.specs.Coded.{numbered, tiles_of}
use Rattle.av1_unit.specs.Tiles.{bytes_of}
use Rattle.av1_unit.proofs.UnitApart.{apart, no_prefix}
use Rattle.av1_unit.proofs.UnitTiles.{tiles_apart}
use Rattle.av1_unit.proofs.Written.{written_is}
use Rattle.av1_unit.proofs.laws.law_of_taking_apart.Goals as goal

pub returns-clause-obus : goal.returns-clause-obus
returns-clause-obus c g tiles more n few = apart g tiles more n few

pub returns-clause-none : goal.returns-clause-none
returns-clause-none c u v bytes more one two w x =
    let first : bytes ≡ bytes_of u = (written_is u bytes one w).0 in
    let both : bytes ++ more ≡ bytes_of v = (written_is v (bytes ++ more) two x).0 in
    no_prefix u.given v.given (tiles_of u.given (numbered u)) (tiles_of v.given (numbered v)) more (ap (λ (l : List ℕ). l ++ more) (sym first) ∙ both)

pub returns-clause-tiles : goal.returns-clause-tiles
returns-clause-tiles c u valid = tiles_apart u valid
