-- What a metadata OBU is: a word, or an object.
use Rattle.std.specs.Prelude.{ℕ, List, [], ◌∷◌, Option, Some, None, if◌then◌else◌, codes}
use Rattle.std.specs.Str.{bytes_eq}
use Rattle.serde_json.specs.Data.{Data, string}
use Rattle.av1_frame.specs.Message.{Message}
use Rattle.av1_frame.specs.declared.metadata.Metadata.{Metadata}
use Rattle.av1_frame.specs.declared.metadata.Metadata.TheVariants.{Cll, Mdcv, T35}
use Rattle.av1_input.specs.Fitted.{Fitted, Fits, ◌>>=◌, or_unfit}
use Rattle.av1_input.specs.Kinds.{Kind, list, whole}
use Rattle.av1_input.specs.Rows.{Row, object_of, optional}

abbrev pub no_message : Message
no_message = record { country_code = 0; country_code_extension_byte = 0; payload = [] }

abbrev pub message_rows : List (Row Message)
message_rows =
    optional (codes "country_code") (whole 8) (λ m x. record m { country_code = x })
    ∷ optional (codes "country_code_extension_byte") (whole 8) (λ m x. record m { country_code_extension_byte = x })
    ∷ optional (codes "payload") (list (whole 8)) (λ m x. record m { payload = x })
    ∷ []

abbrev pub message : Kind Message
message = object_of message_rows no_message

abbrev pub metadata_named : List ℕ → Option Metadata
metadata_named name = if bytes_eq name (codes "cll") then Some Cll else if bytes_eq name (codes "mdcv") then Some Mdcv else None

unfoldable pub fit_metadata : Data → Fitted Metadata
fit_metadata (string name) = or_unfit (metadata_named name)
fit_metadata d = message.fit d >>= λ m. Fits (T35 m)

abbrev pub metadata : Kind Metadata
metadata = record { none = Cll; fit = fit_metadata }
