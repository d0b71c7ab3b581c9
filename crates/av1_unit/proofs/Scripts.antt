-- The scripts of a unit one after another.
use Rattle.std.proofs.Common.{◌≡◌, ℕ, ◌+◌, ◌<◌, List, [], ◌∷◌, ◌++◌, Some, None, map, length, take, get_or, refl, sym, ◌∙◌, ap}
use Rattle.std.specs.List.{enumerate_from, flat_map}
use Rattle.std.proofs.lemmas.Grind.{flat_map-append}
use Rattle.std.proofs.lemmas.List.{append-nil, map-append}
use Rattle.av1_model.specs.Interval.{final_bytes}
use Rattle.av1_tile.specs.declared.error.UnitError.{UnitError}
use Rattle.av1_step.specs.declared.unit.Item.{Item}
use Rattle.av1_step.specs.Given.{Given}
use Rattle.av1_tile.specs.TileBytes.{costs_of, ending, tile_report, wrong_in}
use Rattle.av1_unit.specs.declared.tiles.CodedTiles.{CodedTiles}
use Rattle.av1_unit.specs.Coded.{Numbered, tiles_of, told_of, trials_of}
use Rattle.av1_unit.specs.Findings.{scripts_wrong}
use Rattle.av1_unit.specs.Tiles.{coded_of}
use Rattle.av1_unit.proofs.Places.{one_more, right_more, wrong_here}

-- the first k scripts, numbered
abbrev pub first : ℕ → List (List Item) → List Numbered
first k scripts = enumerate_from 0 (take k scripts)

-- nothing is wrong with one more
pub right_script : (g : Given) (scripts : List (List Item)) (k j : ℕ) → k < length scripts → j ≡ k + 1 → scripts_wrong g (first k scripts) ≡ None → wrong_in g k (get_or scripts k []) ≡ None
    → scripts_wrong g (first j scripts) ≡ None
unfolding scripts_wrong
right_script g scripts k j within is before here = right_more (λ s. wrong_in g s.0 s.1) scripts k j [] within is before here

-- the first with which something is wrong
pub wrong_script : (g : Given) (scripts : List (List Item)) (k : ℕ) (e : UnitError) → k < length scripts → scripts_wrong g (first k scripts) ≡ None → wrong_in g k (get_or scripts k []) ≡ Some e
    → scripts_wrong g (enumerate_from 0 scripts) ≡ Some e
unfolding scripts_wrong
wrong_script g scripts k e within before here = wrong_here (λ s. wrong_in g s.0 s.1) scripts k [] e within before here

pub no_scripts : (g : Given) → scripts_wrong g [] ≡ None
unfolding scripts_wrong
no_scripts g = refl

-- a tile more
pub told_more : (g : Given) (scripts : List (List Item)) (k j : ℕ) → k < length scripts → j ≡ k + 1 → told_of g (first j scripts) ≡ told_of g (first k scripts) ++ tile_report g k (get_or scripts k []) ∷ []
unfolding told_of
told_more g scripts k j within is =
    ap (map (λ s. tile_report g s.0 s.1)) (one_more scripts k j [] within is) ∙ map-append (λ s. tile_report g s.0 s.1) (first k scripts) ((k, get_or scripts k []) ∷ [])

tiles_more : (g : Given) (scripts : List (List Item)) (k j : ℕ) → k < length scripts → j ≡ k + 1 → tiles_of g (first j scripts) ≡ tiles_of g (first k scripts) ++ final_bytes (ending g k (get_or scripts k [])) ∷ []
unfolding tiles_of
tiles_more g scripts k j within is =
    ap (map (λ s. final_bytes (ending g s.0 s.1))) (one_more scripts k j [] within is) ∙ map-append (λ s. final_bytes (ending g s.0 s.1)) (first k scripts) ((k, get_or scripts k []) ∷ [])

trials_more : (g : Given) (scripts : List (List Item)) (k j : ℕ) → k < length scripts → j ≡ k + 1 → trials_of g (first j scripts) ≡ trials_of g (first k scripts) ++ costs_of g k (get_or scripts k [])
unfolding trials_of
trials_more g scripts k j within is =
    ap (flat_map (λ s. costs_of g s.0 s.1)) (one_more scripts k j [] within is) ∙ flat_map-append (λ s. costs_of g s.0 s.1) (first k scripts) ((k, get_or scripts k []) ∷ [])
    ∙ ap (λ l. trials_of g (first k scripts) ++ l) (append-nil (costs_of g k (get_or scripts k [])))

-- what has come of one more script
pub coded_more : (g : Given) (scripts : List (List Item)) (k j : ℕ) (c d : CodedTiles) → k < length scripts → j ≡ k + 1 → c ≡ coded_of g (first k scripts)
    → d.tiles ≡ c.tiles ++ final_bytes (ending g k (get_or scripts k [])) ∷ [] → d.report.tiles ≡ c.report.tiles ++ tile_report g k (get_or scripts k []) ∷ []
    → d.report.trials ≡ c.report.trials ++ costs_of g k (get_or scripts k []) → d ≡ coded_of g (first j scripts)
coded_more g scripts k j c d within is before tiles told trials =
    let a : d.tiles ≡ tiles_of g (first j scripts) =
    tiles ∙ ap (λ (x : CodedTiles). x.tiles ++ final_bytes (ending g k (get_or scripts k [])) ∷ []) before ∙ sym (tiles_more g scripts k j within is) in
    let b : d.report.tiles ≡ told_of g (first j scripts) =
    told ∙ ap (λ (x : CodedTiles). x.report.tiles ++ tile_report g k (get_or scripts k []) ∷ []) before ∙ sym (told_more g scripts k j within is) in
    let e : d.report.trials ≡ trials_of g (first j scripts) =
    trials ∙ ap (λ (x : CodedTiles). x.report.trials ++ costs_of g k (get_or scripts k [])) before ∙ sym (trials_more g scripts k j within is) in
    λ i. record { tiles = a i; report = record { tiles = b i; trials = e i } }

pub coded_none : (g : Given) → coded_of g [] ≡ record { tiles = []; report = record { tiles = []; trials = [] } }
unfolding tiles_of told_of trials_of
coded_none g = refl

pub none_told : (g : Given) → told_of g [] ≡ []
unfolding told_of
none_told g = refl
