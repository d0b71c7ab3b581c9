use Rattle.std.proofs.Common.{◌≡◌, ℕ, Bool, true, false, if◌then◌else◌, refl}
use Rattle.av1_header.proofs.Words.{word_of_only}
use Rattle.av1_header.proofs.rows.fixed.Goals as goal

either : (there : Bool) → let none : ℕ = 0 in (if there then none else none) ≡ none
either true = refl
either false = refl

pub returns : goal.returns
returns c = record { grown = c.put_bits.ensures; fits = λ e. word_of_only _ _; told = either c.args.there }
