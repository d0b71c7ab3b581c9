-- The text that tells a unit's bytes and its report.
use Rattle.std.specs.Prelude.{ℕ, ◌*◌, ◌%◌, ◌^◌, Bool, List, [], ◌++◌, length, codes, decimal, if◌then◌else◌}
use Rattle.std.specs.List.{enumerate_from, flat_map, sum_by}
use Rattle.hex.specs.Hex.{encode_lower}
use Rattle.av1_tile.specs.declared.report.TileReport.{TileReport}
use Rattle.av1_tile.specs.declared.report.TrialCost.{TrialCost}
use Rattle.av1_unit.specs.Report.{ReportLists}
use Rattle.av1_program.specs.declared.words.Word.{Word}
use Rattle.av1_program.specs.declared.words.Word.TheVariants.{Write, Raw, Make}

-- a tile's number, bytes and bits
unfoldable pub tile_line : ℕ → TileReport → List ℕ
tile_line number tile = codes "tile " ++ decimal number ++ codes " " ++ decimal tile.bytes ++ codes " " ++ decimal tile.bits ++ codes "\n"

-- what became of a trial
unfoldable pub trial_end : Bool → List ℕ
trial_end kept = if kept then codes "kept" else codes "abandoned"

-- a trial's tile, item and eighths of a bit, and what became of it
unfoldable pub trial_line : TrialCost → List ℕ
trial_line trial =
    codes "trial " ++ decimal trial.tile ++ codes " " ++ decimal trial.item ++ codes " " ++ decimal trial.eighths ++ codes " "
    ++ trial_end trial.kept ++ codes "\n"

abbrev pub tile_lines : List TileReport → List ℕ
tile_lines tiles = flat_map (λ t. tile_line t.0 t.1) (enumerate_from 0 tiles)

abbrev pub trial_lines : List TrialCost → List ℕ
trial_lines trials = flat_map trial_line trials

-- a line for each tile and each trial
abbrev pub report_text : ReportLists → List ℕ
report_text report = tile_lines report.tiles ++ trial_lines report.trials

-- the bytes in hex digits, and then a line for each tile and each trial
abbrev pub unit_text : List ℕ → ReportLists → List ℕ
unit_text bytes report = encode_lower bytes ++ codes "\n" ++ tile_lines report.tiles ++ trial_lines report.trials

-- each byte times its place from 1 on, all together, of which 16 bits are told
abbrev pub weighted : List ℕ → ℕ
weighted bytes = sum_by (λ b. b.0 * b.1) (enumerate_from 1 bytes) % 2 ^ 16

-- what the kept trials cost together, and what those that were given up
abbrev pub kept_cost : List TrialCost → ℕ
kept_cost trials = sum_by (λ t. if t.kept then t.eighths else 0) trials

abbrev pub abandoned_cost : List TrialCost → ℕ
abandoned_cost trials = sum_by (λ t. if t.kept then 0 else t.eighths) trials

-- what a number made: so many bytes, and a sum over them
unfoldable pub made_line : ℕ → List ℕ → List ℕ
made_line n bytes = codes "make " ++ decimal n ++ codes " " ++ decimal (length bytes) ++ codes " " ++ decimal (weighted bytes) ++ codes "\n"

-- how many trials there were, and what they cost
unfoldable pub trials_line : List TrialCost → List ℕ
trials_line trials =
    codes "trials " ++ decimal (length trials) ++ codes " " ++ decimal (kept_cost trials) ++ codes " " ++ decimal (abandoned_cost trials) ++ codes "\n"

-- what a number made, with a line for each tile
abbrev pub summary : ℕ → List ℕ → ReportLists → List ℕ
summary n bytes report = made_line n bytes ++ tile_lines report.tiles ++ trials_line report.trials

-- what goes to `out`, and what to `err`, where all is sent
abbrev pub out_text : Word → List ℕ → ReportLists → List ℕ
out_text Write bytes report = unit_text bytes report
out_text Raw bytes report = bytes
out_text (Make n) bytes report = summary n bytes report

abbrev pub err_text : Word → ReportLists → List ℕ
err_text Write report = []
err_text Raw report = report_text report
err_text (Make n) report = []
