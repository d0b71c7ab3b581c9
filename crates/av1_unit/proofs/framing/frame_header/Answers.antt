use Rattle.std.proofs.Common.{◌++◌, Bool, List, sym, ◌∙◌, ap}
use Rattle.av1_header.specs.FrameHeader.{header_of}
use Rattle.av1_model.specs.Bits.{byte_aligned}
use Rattle.av1_model.specs.WholeBytes.{to_bytes}
use Rattle.av1_step.specs.Given.{given_of}
use Rattle.av1_unit.specs.Framing.{bits_of_rows, frame_header, frame_with}
use Rattle.av1_unit.proofs.Headers.{frame_fits, shows_itself}
use Rattle.av1_unit.proofs.framing.frame_header.Goals as goal

pub write_frame_header_obu-requires-clause-index : goal.write_frame_header_obu-requires-clause-index
write_frame_header_obu-requires-clause-index c shows = let never = sym (shows_itself (given_of c.args.unit.now) c.requires.checked.given) ∙ shows in absurd (cc)

pub write_frame_header_obu-requires-clause-fits : goal.write_frame_header_obu-requires-clause-fits
write_frame_header_obu-requires-clause-fits c shows = frame_fits (given_of c.args.unit.now) c.args.width c.requires.checked.given c.requires.width

pub returns-clause-is : goal.returns-clause-is
unfolding frame_header
returns-clause-is c =
    let g = given_of c.args.unit.now in
    let rows = bits_of_rows (header_of g.fi) (frame_with g c.args.width) in
    c.whole_bytes.ensures ∙ ap to_bytes (c.in_ok-write_frame_header_obu.ensures.grown ∙ ap (λ (l : List Bool). byte_aligned (l ++ rows)) c.new-bits.ensures)

pub returns-clause-back : goal.returns-clause-back
returns-clause-back c = c.in_ok-write_frame_header_obu.ensures.back
