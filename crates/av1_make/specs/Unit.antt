-- The unit that a number makes.
use Rattle.std.specs.Prelude.{ℕ, ◌*◌, ◌/◌, ◌%◌, max, List, [], true, false, None, replicate}
use Rattle.std.specs.Int.{div_ceil}
use Rattle.av1_cdf.specs.Tables.{uniform_sets}
use Rattle.av1_coef.specs.Diagonal.{diagonal_scans}
use Rattle.av1_frame.specs.Defaults.{key_frame, plain_state, still_sequence}
use Rattle.av1_frame.specs.HeaderRules.{blocks}
use Rattle.av1_step.specs.Given.{Given}
use Rattle.av1_step.specs.declared.unit.Item.{Item}
use Rattle.av1_make.specs.declared.tree.Area.{Area}
use Rattle.av1_make.specs.Tree.{superblocks}

-- the sides of its frame
abbrev pub made_width : ℕ → ℕ
made_width n = max 1 (n / 1000)

abbrev pub made_height : ℕ → ℕ
made_height n = max 1 (n % 1000)

-- what is not said by a number is as where nothing is said
unfoldable pub made_given : ℕ → Given
made_given n = record {
  tables = uniform_sets;
  scans = diagonal_scans;
  fi = key_frame still_sequence (made_width n) (made_height n);
  fs = plain_state;
  refs = replicate 8 None;
  metadata = [];
  delimiter = true;
  eob_by_coded = false;
}

-- the one tile, which is the frame
abbrev pub made_area : ℕ → Area
made_area n = record { cols = blocks (made_width n); rows = blocks (made_height n) }

-- its items: all superblocks, by draws from the number
unfoldable pub made_script : ℕ → List Item
made_script n =
    let across = div_ceil (made_width n) 64 in
    let down = div_ceil (made_height n) 64 in
    (superblocks (made_area n) across (across * down) n).items
