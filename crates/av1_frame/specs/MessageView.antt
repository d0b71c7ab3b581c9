-- A message by ITU-T T.35 as contracts see it.
use Rattle.av1_frame.specs.Message.{Message}
use Rattle.av1_frame.specs.declared.metadata.T35.TheInside.{Inside}

abbrev pub message_of : Inside → Message
message_of m = record {
  country_code = m.country_code;
  country_code_extension_byte = m.country_code_extension_byte;
  payload = m.payload.items;
}
