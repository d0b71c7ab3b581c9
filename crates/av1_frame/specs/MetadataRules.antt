-- The rules of a metadata OBU.
use Rattle.std.specs.Prelude.{List, [], ◌∷◌, Bool, is_some, nat_le, length}
use Rattle.av1_geometry.specs.Rules.{Check, rule}
use Rattle.av1_frame.specs.declared.metadata.Metadata.{Metadata}
use Rattle.av1_frame.specs.declared.metadata.Metadata.TheVariants.{Cll, Mdcv, T35}
use Rattle.av1_frame.specs.declared.sequence.Sequence.{Sequence}

-- light and display are in the sequence, and a message is short
unfoldable pub metadata_fits : Metadata → Sequence → Bool
metadata_fits Cll seq = is_some seq.content_light
metadata_fits Mdcv seq = is_some seq.mastering_display
metadata_fits (T35 message) seq = nat_le (length message.payload) 65535

abbrev pub metadata_rules : Metadata → Sequence → List Check
metadata_rules m seq = rule 50 (metadata_fits m seq) ∷ []
