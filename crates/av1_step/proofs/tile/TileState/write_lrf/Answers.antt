use Rattle.std.proofs.Common.{refl}
use Rattle.av1_step.specs.State.{tile_of}
use Rattle.av1_step.proofs.RestorationArms.{lrf_kept, lrf_writes}
use Rattle.av1_step.proofs.RestorationSteps.{lrf_allowed}
use Rattle.av1_step.proofs.Switches.{switched}
use Rattle.av1_step.proofs.tile.TileState.write_lrf.Goals as goal

pub write_lrf-requires-clause-plane : goal.write_lrf-requires-clause-plane
write_lrf-requires-clause-plane g c = (lrf_allowed c.args.plane (tile_of c.args.self.now) c.args.filter c.args.self.now.kept c.requires.rules).there

pub write_lrf-requires-clause-lrf_type : goal.write_lrf-requires-clause-lrf_type
write_lrf-requires-clause-lrf_type g c = (lrf_allowed c.args.plane (tile_of c.args.self.now) c.args.filter c.args.self.now.kept c.requires.rules).type_few

pub write_lrf-requires-clause-references : goal.write_lrf-requires-clause-references
write_lrf-requires-clause-references g c = (lrf_allowed c.args.plane (tile_of c.args.self.now) c.args.filter c.args.self.now.kept c.requires.rules).references

pub write_lrf-requires-clause-filter : goal.write_lrf-requires-clause-filter
write_lrf-requires-clause-filter g c = (lrf_allowed c.args.plane (tile_of c.args.self.now) c.args.filter c.args.self.now.kept c.requires.rules).filter

pub invariant_of-self : goal.invariant_of-self
invariant_of-self g c =
    let e = c.write_lrf.ensures in
    record {
      cdfs = e.moves.cdfs;
      kept = lrf_kept c.write_lrf.result (tile_of c.args.self.now) c.write_lrf.new.self.fc c.write_lrf.new.self.bc c.write_lrf.new.rs c.args.plane c.args.filter c.args.self.now.kept e.moves.cdfs c.requires.rules e.rest e.renewed e.refused;
      switches = switched _ _ _ _ _ _ _ _ _ e.moves c.args.self.now.switches;
    }

pub returns : goal.returns
returns g c =
    let e = c.write_lrf.ensures in
    lrf_writes g.W.Known c.write_lrf.result c.args.plane c.args.filter _ _ _ _ c.requires.rules refl e.wrote e.rest e.renewed e.refused e.moves
