-- The order of candidates: by falling weight and then by the place of first sight.
use Rattle.std.specs.Prelude.{ℕ, suc, ◌-◌, List, [], ◌∷◌, slice_index_or}
use Rattle.av1_mvref.specs.declared.candidate.CandidateMV.{CandidateMV}
use Rattle.av1_mvref.specs.Candidates.{no_vector}

-- each candidate's rank: what its weight lacks, and its place
abbrev pub ranks_from : ℕ → List CandidateMV → List (ℕ × ℕ)
ranks_from n [] = []
ranks_from n (c ∷ cs) = (4294967295 - c.weight, n) ∷ ranks_from (suc n) cs

abbrev pub candidate_at : List CandidateMV → ℕ × ℕ → CandidateMV
candidate_at cs r = slice_index_or cs r.1 record { this_mv = no_vector; comp_mv = no_vector; weight = 0 }
