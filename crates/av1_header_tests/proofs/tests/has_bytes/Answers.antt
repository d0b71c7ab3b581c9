use Rattle.av1_header_tests.proofs.tests.has_bytes.Goals as goal

pub write_sequence_header_obu-requires : goal.write_sequence_header_obu-requires
write_sequence_header_obu-requires c = c.law_of_rules.ensures.sequence c.args.fi.now c.args.fs.now c.args.refs.now c.requires.sequence c.requires.frame

pub write_frame_header_obu-requires-clause-fits : goal.write_frame_header_obu-requires-clause-fits
write_frame_header_obu-requires-clause-fits c _ = c.law_of_rules.ensures.frame c.args.fi.now c.args.fs.now c.args.refs.now c.requires.sequence c.requires.frame c.requires.some c.requires.few

pub write_frame_header_obu-requires-clause-index : goal.write_frame_header_obu-requires-clause-index
write_frame_header_obu-requires-clause-index c _ = c.requires.index
