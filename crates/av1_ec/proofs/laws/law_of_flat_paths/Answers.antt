use Rattle.av1_ec.proofs.CodeTrees.{flat_along, flat_context, flat_fits}
use Rattle.av1_ec.proofs.laws.law_of_flat_paths.Goals as goal

pub returns-clause-fits : goal.returns-clause-fits
returns-clause-fits g c contents adapted q t bits a at flat asks leads = flat_fits contents adapted q flat t bits a at asks leads

pub returns-clause-tokens : goal.returns-clause-tokens
returns-clause-tokens g c contents adapted q t bits a at flat asks leads = flat_along contents adapted q flat t bits a at asks leads

pub returns-clause-context : goal.returns-clause-context
returns-clause-context g c contents adapted q t ss at flat asks = flat_context contents adapted q flat t ss at asks
