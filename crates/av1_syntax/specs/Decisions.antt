-- Decisions: a flag tells which of two elements follows.
use Rattle.std.specs.Prelude.{Bool}
use Rattle.av1_cdf.specs.Distribution.{Distribution}
use Rattle.av1_cdf.specs.Distribution.Distribution.{Adaptive}
use Rattle.av1_cdf.specs.Layout.{Slot}
use Rattle.av1_model.specs.Element.{Element, after, choose}
use Rattle.av1_syntax.specs.Flags.{flag}

-- the first element where the flag is set, which is where a value passes the test, else the second
abbrev pub decide : {A : Type 0} → (A → Bool) → Slot → Element Distribution A → Element Distribution A → Element Distribution A
decide test s e f = after (flag (Adaptive s)) (λ b. choose b e f) test
