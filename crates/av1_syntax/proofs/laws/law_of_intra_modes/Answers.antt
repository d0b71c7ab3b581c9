use Rattle.av1_syntax.proofs.Elements.{intra_mode_kf_reads, intra_mode_reads, uv_mode_reads, angle_delta_reads, palette_reads}
use Rattle.av1_syntax.proofs.laws.law_of_intra_modes.Goals as goal

pub returns-clause-kf : goal.returns-clause-kf
returns-clause-kf c = intra_mode_kf_reads

pub returns-clause-luma : goal.returns-clause-luma
returns-clause-luma c = intra_mode_reads

pub returns-clause-chroma : goal.returns-clause-chroma
returns-clause-chroma c = uv_mode_reads

pub returns-clause-angle : goal.returns-clause-angle
returns-clause-angle c = angle_delta_reads

pub returns-clause-palette : goal.returns-clause-palette
returns-clause-palette c = palette_reads
