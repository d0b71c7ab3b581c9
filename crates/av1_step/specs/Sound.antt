-- What holds of every place between two steps.
use Rattle.av1_cdf.specs.Context.{AreCdfs}
use Rattle.av1_model.specs.Interval.{IsInterval}
use Rattle.av1_model.specs.Reading.{Coding}
use Rattle.av1_step.specs.Kept.{IsKept}
use Rattle.av1_step.specs.Tile.{Tile}

pub record IsSound (at : Coding Tile) : Type 0 where
  pub interval : IsInterval at.interval
  pub cdfs : AreCdfs at.context.numbers
  pub kept : IsKept at.context
