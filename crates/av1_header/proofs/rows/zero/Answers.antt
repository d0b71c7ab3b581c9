use Rattle.std.proofs.Common.{◌≡◌, ℕ, ◌<◌, ◌-◌, ◌*◌, ◌∷◌, [], refl, arith, subst, pos, unsigned_abs}
use Rattle.std.specs.Prelude.{◌+ℤ◌}
use Rattle.std.proofs.lemmas.Int.{ints}
use Rattle.av1_model.specs.Codes.{refsubexp}
use Rattle.av1_header.specs.Rows.{Grew, word_if}
use Rattle.av1_header.proofs.Words.{word_of_near}
use Rattle.av1_header.proofs.rows.zero.Goals as goal

middle : (m : ℕ) → unsigned_abs (pos 0 +ℤ pos m) ≡ m
middle m = omega (arith, ints)

pub returns : goal.returns
returns c =
    let m = c.args.n - 1 in
    let below : m < 2 * c.args.n - 1 = omega arith in
    record {
      grown = subst (λ k. Grew (word_if c.args.there (refsubexp (2 * c.args.n - 1) 3 k k) ∷ []) c.args.refused.now c.put_zero.new.refused c.args.bits.now c.put_zero.new.bits) (middle m) c.put_zero.ensures;
      fits = λ e. word_of_near _ _ _ _ below below;
      told = refl;
    }
