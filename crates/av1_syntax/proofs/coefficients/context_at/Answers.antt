use Rattle.std.proofs.Common.{◌∙◌, ap, pos, unsigned_abs}
use Rattle.std.specs.Prelude.{slice_index_or}
use Rattle.av1_syntax.proofs.CoeffSteps.{byte_back, size_of_pos, cast_fits}
use Rattle.av1_syntax.proofs.coefficients.context_at.Goals as goal

pub overflow_cast-result : goal.overflow_cast-result
overflow_cast-result c =
    let v = slice_index_or c.args.contexts.now c.args.c (pos 0) in
    rw (byte_back v c.requires.least c.requires.most) (cast_fits v c.requires.least c.requires.most)

pub returns : goal.returns
returns c =
    let v = slice_index_or c.args.contexts.now c.args.c (pos 0) in
    ap (λ v. pos (unsigned_abs v)) (byte_back v c.requires.least c.requires.most) ∙ size_of_pos v c.requires.least
