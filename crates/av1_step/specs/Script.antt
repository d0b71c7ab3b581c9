-- A list of steps: what is coded before and after it, what is wrong with it, and what a reader takes.
use Rattle.std.specs.Prelude.{ℕ, ◌+◌, List, [], ◌∷◌, Option, Some, None, option_map, option_and_then}
use Rattle.std.specs.Option.{option_map_or}
use Rattle.av1_cdf.specs.Distribution.{coded_by, learnt}
use Rattle.av1_cdf.specs.Tables.{set_at, set_number}
use Rattle.av1_geometry.specs.declared.error.Rule.{Rule}
use Rattle.av1_geometry.specs.Rules.{first_broken}
use Rattle.av1_model.specs.Interval.{Token, whole}
use Rattle.av1_model.specs.Paths.{tokens_along, context_along}
use Rattle.av1_model.specs.Reading.{Coding, along, read}
use Rattle.av1_step.specs.declared.step.TileStep.{TileStep}
use Rattle.av1_step.specs.Given.{Given}
use Rattle.av1_step.specs.Tile.{Tile, fresh, with_numbers}
use Rattle.av1_step.specs.Step.{Question, question_of, rules, syntax_of, entered, symbols_of}

-- the numbers that the distributions of a frame's tiles start from: those of the set for its quantizer
abbrev pub numbers_of : Given → List ℕ
numbers_of g = set_at g.tables (set_number g.fi.base_q_idx)

-- what is coded before the first step of tile number k: nothing
abbrev pub begin : Given → ℕ → Coding Tile
begin g k = record { interval = whole; context = fresh g k (numbers_of g) }

-- the interval and the numbers, which coding moves on
abbrev pub numbers_at : Coding Tile → Coding (List ℕ)
numbers_at at = record { interval = at.interval; context = at.context.numbers }

-- the tile after a step whose symbols leave these numbers
abbrev pub tile_with : Tile → TileStep → List ℕ → Tile
tile_with t step numbers = entered step (with_numbers numbers t)

-- what is coded after a step whose symbols leave this
abbrev pub with_step : Tile → TileStep → Coding (List ℕ) → Coding Tile
with_step t step c = record { interval = c.interval; context = tile_with t step c.context }

-- after a step: its symbols are coded, and its answer is entered
abbrev pub after_step : Coding Tile → TileStep → Coding Tile
after_step at step =
    with_step at.context step (along coded_by (learnt at.context.learns) (syntax_of (question_of step) at.context) (symbols_of step at.context) (numbers_at at))

-- what a writer stores of a step
abbrev pub tokens_of : TileStep → Tile → List Token
tokens_of step t = tokens_along coded_by (learnt t.learns) (syntax_of (question_of step) t) (symbols_of step t) t.numbers

-- the tile after a step, whatever was coded before it
abbrev pub tile_after : Tile → TileStep → Tile
tile_after t step = tile_with t step (context_along coded_by (learnt t.learns) (syntax_of (question_of step) t) (symbols_of step t) t.numbers)

abbrev pub after_all : Coding Tile → List TileStep → Coding Tile
after_all at [] = at
after_all at (step ∷ steps) = after_all (after_step at step) steps

-- what a reader takes from bytes: the steps that answer these questions, and what is coded then; no answer is known before it is read
abbrev pub read_steps : List Question → List ℕ → Coding Tile → Option (List TileStep × Coding Tile)
read_steps [] bytes at = Some ([], at)
read_steps (q ∷ qs) bytes at =
    option_and_then (λ r. option_map (λ rest. (r.0 ∷ rest.0, rest.1)) (read_steps qs bytes (with_step at.context r.0 r.1)))
    (read coded_by (learnt at.context.learns) (syntax_of q at.context) bytes (numbers_at at))

-- the first step, numbered from n on, that breaks a rule where it begins, and the rule
abbrev pub first_broken_step : ℕ → Coding Tile → List TileStep → Option (ℕ × Rule)
first_broken_step n at [] = None
first_broken_step n at (step ∷ steps) =
    option_map_or (λ r. Some (n, r)) (first_broken (rules step at.context)) (first_broken_step (n + 1) (after_step at step) steps)
