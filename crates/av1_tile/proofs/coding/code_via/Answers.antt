use Rattle.av1_tile.proofs.Coded.{replayed_stands}
use Rattle.av1_tile.proofs.coding.code_via.Goals as goal

pub returns-in_ok-encoder-in-Recorded-clause-coded : goal.returns-in_ok-encoder-in-Recorded-clause-coded
returns-in_ok-encoder-in-Recorded-clause-coded c =
    replayed_stands _ _ _ _ c.new-writer-in-Recorded.ensures c.in_ok-recorder-in-Recorded.ensures.coded c.in_ok-encoder-in-Recorded.ensures
