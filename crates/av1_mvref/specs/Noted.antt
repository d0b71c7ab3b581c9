-- The list of candidates while neighbours are visited.
use Rattle.std.specs.Prelude.{ℕ, zero, suc, ◌+◌, max, List, [], ◌∷◌, ◌++◌, Bool, fold, take, if◌then◌else◌}
use Rattle.av1_geometry.specs.declared.motion_vector.MotionVector.{MotionVector}
use Rattle.av1_geometry.specs.declared.ref_type.RefType.{RefType}
use Rattle.av1_mvref.specs.declared.candidate.CandidateMV.{CandidateMV}
use Rattle.av1_mvref.specs.declared.candidate.Wanted.{Wanted}
use Rattle.av1_blocks.specs.declared.block.Block.{Block}
use Rattle.av1_mvref.specs.Neighbours.{Neighbour}
use Rattle.av1_mvref.specs.Candidates.{same, given}
use Rattle.av1_mvref.specs.ExtraSearch.{referred, to_same, to_others}

-- a list of at most so many, after one that is seen: its weight is added where it is there, else it comes last while there is room
abbrev pub noted : ℕ → List CandidateMV → CandidateMV → List CandidateMV
noted zero [] c = []
noted (suc n) [] c = c ∷ []
noted zero (d ∷ ds) c = d ∷ ds
noted (suc n) (d ∷ ds) c = if same c d then record d { weight = d.weight + c.weight } ∷ ds else d ∷ noted n ds c

abbrev pub took : Wanted → List CandidateMV → Neighbour → List CandidateMV
took w list n = fold (noted 8) list (given w n)

abbrev pub took_all : Wanted → List CandidateMV → List Neighbour → List CandidateMV
took_all w list ns = fold (took w) list ns

-- the greatest weight
abbrev pub heaviest : List CandidateMV → ℕ
heaviest [] = 0
heaviest (c ∷ cs) = max c.weight (heaviest cs)

-- with what is more for one that a near neighbour gives
abbrev pub nearer : CandidateMV → CandidateMV
nearer c = record c { weight = c.weight + 640 }

-- the first two vectors, after those of a block
abbrev pub kept_same : RefType → List MotionVector → Block → List MotionVector
kept_same to vs b = take 2 (vs ++ to_same to (referred b))

abbrev pub kept_others : List Bool → RefType → List MotionVector → Block → List MotionVector
kept_others sign_bias to vs b = take 2 (vs ++ to_others sign_bias to (referred b))
