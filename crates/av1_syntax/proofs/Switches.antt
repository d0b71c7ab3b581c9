-- What a symbol does where distributions learn.
use Rattle.std.proofs.Common.{◌≡◌, ℕ, List, Bool, true, false, if◌then◌else◌, sym, ap, ◌∙◌}
use Rattle.av1_cdf.specs.Context.{contents, with_contents}
use Rattle.av1_cdf.specs.Distribution.{learnt}
use Rattle.av1_cdf.specs.Distribution.Distribution.{Adaptive}
use Rattle.av1_cdf.specs.Layout.{Slot}
use Rattle.av1_model.specs.Cdf.{adapt}
use Rattle.av1_syntax.specs.Calls.{Context}

pub on_off : (b : Bool) → b ≡ true → b ≡ false → ⊥
on_off true h g = absurd cc
on_off false h g = absurd cc

-- the numbers after a symbol
pub learnt_is : (c : Context) (p : Slot) (s : ℕ) (numbers : List ℕ) → c.adapt ≡ true → numbers ≡ with_contents c.numbers p (adapt (contents c.numbers p) s) → numbers ≡ learnt c.adapt c.numbers (Adaptive p) s
learnt_is c p s numbers on e = e ∙ ap (λ b. if b then with_contents c.numbers p (adapt (contents c.numbers p) s) else c.numbers) (sym on)
