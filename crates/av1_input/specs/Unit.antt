-- What unit a JSON value stands for, and a text.
use Rattle.std.specs.Prelude.{ℕ, List, [], ◌∷◌, true, false, Option, Some, None, option_map, if◌then◌else◌, codes}
use Rattle.std.specs.Str.{bytes_eq, is_utf8}
use Rattle.serde_json.specs.Data.{Data}
use Rattle.serde_json.specs.Read.{read}
use Rattle.av1_frame.specs.Defaults.{still_sequence}
use Rattle.av1_step.specs.Given.{Given, given_of}
use Rattle.av1_step.specs.declared.unit.Item.{Item}
use Rattle.av1_step.specs.declared.unit.Unit.{Unit}
use Rattle.av1_tile.specs.declared.coding.Via.{Via}
use Rattle.av1_tile.specs.declared.coding.Via.TheVariants.{Direct, Recorded}
use Rattle.av1_input.specs.Fitted.{Fitted, Fits, ◌>>=◌}
use Rattle.av1_input.specs.Item.{script}
use Rattle.av1_input.specs.Kinds.{Kind, list, truth, word}
use Rattle.av1_input.specs.Metadata.{metadata}
use Rattle.av1_input.specs.Refs.{refs}
use Rattle.av1_input.specs.Rows.{Row, object_of, optional, or, required}
use Rattle.av1_input.specs.Said.{Said}
use Rattle.av1_input.specs.Scans.{given_scans, scans_of}
use Rattle.av1_input.specs.Sequence.{sequence}
use Rattle.av1_input.specs.Tables.{given_tables, sets_of}
use Rattle.av1_input.specs.WholeFrame.{frame}

abbrev pub via_named : List ℕ → Option Via
via_named name = if bytes_eq name (codes "direct") then Some Direct else if bytes_eq name (codes "recorded") then Some Recorded else None

abbrev pub via : Kind Via
via = word via_named Direct

abbrev pub nothing_said : Said
nothing_said = record {
  tables = given_tables.none;
  scans = given_scans.none;
  sequence = still_sequence;
  frame = frame.none;
  refs = refs.none;
  metadata = [];
  delimiter = true;
  eob_by_coded = false;
  via = Direct;
  scripts = [];
}

abbrev pub unit_rows : List (Row Said)
unit_rows =
    optional (codes "tables") given_tables (λ s x. record s { tables = x })
    ∷ optional (codes "scans") given_scans (λ s x. record s { scans = x })
    ∷ optional (codes "seq") sequence (λ s x. record s { sequence = x })
    ∷ required (codes "frame") frame (λ s x. record s { frame = x })
    ∷ optional (codes "refs") refs (λ s x. record s { refs = x })
    ∷ optional (codes "metadata") (list metadata) (λ s x. record s { metadata = x })
    ∷ or (codes "delimiter") truth true (λ s x. record s { delimiter = x })
    ∷ optional (codes "eob_by_coded") truth (λ s x. record s { eob_by_coded = x })
    ∷ optional (codes "via") via (λ s x. record s { via = x })
    ∷ required (codes "tiles") (list script) (λ s x. record s { scripts = x })
    ∷ []

abbrev pub said : Kind Said
said = object_of unit_rows nothing_said

-- what a reader is given, what is coded in each tile, and the way of a tile's symbols to its bytes
pub record Input : Type 0 where
  pub given : Given
  pub scripts : List (List Item)
  pub via : Via

-- that of a unit
abbrev pub input_of : Unit → Via → Input
input_of u way = record { given = given_of u; scripts = u.scripts.items; via = way }

-- that of what is said: the frame's sequence is the one that `seq` says
abbrev pub input_said : Said → Input
input_said s = record {
  given = record {
    tables = sets_of s.tables;
    scans = scans_of s.scans;
    fi = record s.frame.fi { sequence = s.sequence };
    fs = s.frame.fs;
    refs = s.refs;
    metadata = s.metadata;
    delimiter = s.delimiter;
    eob_by_coded = s.eob_by_coded;
  };
  scripts = s.scripts;
  via = s.via;
}

-- what a JSON value stands for
unfoldable pub unit_of : Data → Fitted Input
unit_of d = said.fit d >>= λ s. Fits (input_said s)

-- the value of a JSON text, which is UTF-8
unfoldable pub json_of : List ℕ → Option Data
json_of text = if is_utf8 text then read text else None

-- what a text stands for, where it is JSON
abbrev pub shape : List ℕ → Option (Fitted Input)
shape text = option_map unit_of (json_of text)
