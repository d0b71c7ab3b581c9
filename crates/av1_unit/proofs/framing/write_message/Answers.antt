use Rattle.av1_header.specs.Metadata.{message_of, sequence_metadata, t35_metadata}
use Rattle.av1_frame.specs.declared.obu.ObuMetaType.TheVariants.{OBU_META_HDR_CLL, OBU_META_HDR_MDCV}
use Rattle.av1_unit.specs.Framing.{message_obu}
use Rattle.av1_unit.proofs.Bits.{cll_bytes, cll_fits, mdcv_bytes, mdcv_fits, message_is, t35_bytes, t35_fits}
use Rattle.av1_unit.proofs.MessageReading.{cll_read, mdcv_read, t35_read}
use Rattle.av1_unit.proofs.framing.write_message.Goals as goal

pub write_sequence_metadata_obu-requires : goal.write_sequence_metadata_obu-requires
write_sequence_metadata_obu-requires c = cll_fits c.args.seq.now c.args.metadata.now c.in-Cll.is c.requires.rules

pub write_sequence_metadata_obu-requires-in-Mdcv : goal.write_sequence_metadata_obu-requires-in-Mdcv
write_sequence_metadata_obu-requires-in-Mdcv c = mdcv_fits c.args.seq.now c.args.metadata.now c.in-Mdcv.is c.requires.rules

pub write_t35_metadata_obu-requires : goal.write_t35_metadata_obu-requires
write_t35_metadata_obu-requires c = t35_fits c.args.seq.now c.args.metadata.now c.in-T35.t35 c.in-T35.is c.requires.rules

pub returns-in-Cll-clause-is : goal.returns-in-Cll-clause-is
returns-in-Cll-clause-is c =
    let seq = c.args.seq.now in
    let m = c.args.metadata.now in
    message_is c.write_sequence_metadata_obu.result sequence_metadata (message_of OBU_META_HDR_CLL seq) (message_obu seq m) c.args.bits.now c.write_sequence_metadata_obu.new.self c.write_sequence_metadata_obu.ensures c.requires.none
    (cll_bytes seq m c.in-Cll.is)

pub returns-in-Mdcv-clause-is : goal.returns-in-Mdcv-clause-is
returns-in-Mdcv-clause-is c =
    let seq = c.args.seq.now in
    let m = c.args.metadata.now in
    message_is c.write_sequence_metadata_obu-in-Mdcv.result sequence_metadata (message_of OBU_META_HDR_MDCV seq) (message_obu seq m) c.args.bits.now c.write_sequence_metadata_obu-in-Mdcv.new.self
    c.write_sequence_metadata_obu-in-Mdcv.ensures c.requires.none (mdcv_bytes seq m c.in-Mdcv.is)

pub returns-in-T35-clause-is : goal.returns-in-T35-clause-is
returns-in-T35-clause-is c =
    let seq = c.args.seq.now in
    let m = c.args.metadata.now in
    message_is c.write_t35_metadata_obu.result t35_metadata c.in-T35.t35 (message_obu seq m) c.args.bits.now c.write_t35_metadata_obu.new.self c.write_t35_metadata_obu.ensures c.requires.none
    (t35_bytes seq m c.in-T35.t35 c.in-T35.is)

pub returns-in-Cll-clause-header : goal.returns-in-Cll-clause-header
returns-in-Cll-clause-header c = cll_read c.write_sequence_metadata_obu.result c.args.seq.now c.args.metadata.now _ _ c.in-Cll.is c.write_sequence_metadata_obu.ensures

pub returns-in-Mdcv-clause-header : goal.returns-in-Mdcv-clause-header
returns-in-Mdcv-clause-header c = mdcv_read c.write_sequence_metadata_obu-in-Mdcv.result c.args.seq.now c.args.metadata.now _ _ c.in-Mdcv.is c.write_sequence_metadata_obu-in-Mdcv.ensures

pub returns-in-T35-clause-header : goal.returns-in-T35-clause-header
returns-in-T35-clause-header c = t35_read c.write_t35_metadata_obu.result c.args.seq.now c.args.metadata.now c.in-T35.t35 _ _ c.in-T35.is c.write_t35_metadata_obu.ensures
