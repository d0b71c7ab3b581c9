use Rattle.std.proofs.Common.{[], ◌∷◌, sym, arith}
use Rattle.std.proofs.lemmas.List.{take_at}
use Rattle.av1_mvref.proofs.pairs.keep.Goals as goal

pub returns-else-len-lt2-clause-items : goal.returns-else-len-lt2-clause-items
returns-else-len-lt2-clause-items c = sym (take_at c.args.list.now.items (c.args.mv ∷ []) 2 (omega arith))
