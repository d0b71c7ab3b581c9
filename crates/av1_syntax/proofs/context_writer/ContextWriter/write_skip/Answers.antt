use Rattle.std.proofs.Common.{[], ◌∷◌, ◌∙◌, ap, codes, subst}
use Rattle.av1_cdf.specs.Layout.{Slot, slot}
use Rattle.av1_cdf.specs.Distribution.Distribution.{Adaptive}
use Rattle.av1_syntax.specs.Calls.{Coded}
use Rattle.av1_syntax.specs.Flags.{flag}
use Rattle.av1_syntax.proofs.context_writer.ContextWriter.write_skip.Goals as goal

pub returns-clause-wrote : goal.returns-clause-wrote
returns-clause-wrote g c =
    let is = c.skip_cdfs-cdf.ensures ∙ ap (λ k. slot (codes "skip_cdfs") (k ∷ [])) c.skip_context.ensures.value in
    subst (λ (s : Slot). Coded g.W.Known c.flag.result (flag (Adaptive s)) c.args.skip c.args.w.now c.flag.new.w c.args.self.now c.flag.new.self) is c.flag.ensures.wrote
