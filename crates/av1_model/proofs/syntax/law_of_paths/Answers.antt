use Rattle.av1_model.proofs.TreeLaws.{leads_apart, leads_then, no_prefix}
use Rattle.av1_model.proofs.syntax.law_of_paths.Goals as goal

pub returns-clause-both : goal.returns-clause-both
returns-clause-both g c t f xs ys a b h k = leads_then t f xs ys a b h k

pub returns-clause-apart : goal.returns-clause-apart
returns-clause-apart g c t f zs b h = leads_apart t f zs b h

pub returns-clause-no_beginning : goal.returns-clause-no_beginning
returns-clause-no_beginning g c t xs y ys a b h k = no_prefix t xs y ys a b h k
