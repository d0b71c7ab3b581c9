-- CDFs from tables of cumulated frequencies.
use Rattle.std.specs.Prelude.{ℕ, ◌-◌, ◌≤◌, List, ◌++◌, All, map, replicate, length}

-- no number is above 32768
abbrev pub AtMostOne : List ℕ → Type 0
AtMostOne vars = All (λ v. v ≤ 32768) vars

-- 32768 minus each number, and then zeros up to the length
abbrev pub complemented : ℕ → List ℕ → List ℕ
complemented len vars = map (λ v. 32768 - v) vars ++ replicate (len - length vars) 0
