-- What the eight reference frames are.
use Rattle.std.specs.Prelude.{List, [], ◌∷◌, pos, replicate, codes, Option}
use Rattle.av1_frame.specs.declared.reference.RefState.{RefState}
use Rattle.av1_input.specs.Kinds.{Kind, exactly, nullable, signed, whole}
use Rattle.av1_input.specs.Rows.{Row, object_of, optional, required}

abbrev pub no_ref : RefState
no_ref = record {
  order_hint = 0;
  width = 0;
  height = 0;
  render_width = 0;
  render_height = 0;
  ref_deltas = replicate 8 (pos 0);
  mode_deltas = replicate 2 (pos 0);
}

abbrev pub ref_rows : List (Row RefState)
ref_rows =
    optional (codes "order_hint") (whole 32) (λ r x. record r { order_hint = x })
    ∷ required (codes "width") (whole 64) (λ r x. record r { width = x })
    ∷ required (codes "height") (whole 64) (λ r x. record r { height = x })
    ∷ required (codes "render_width") (whole 64) (λ r x. record r { render_width = x })
    ∷ required (codes "render_height") (whole 64) (λ r x. record r { render_height = x })
    ∷ optional (codes "ref_deltas") (exactly 8 (signed 8)) (λ r x. record r { ref_deltas = x })
    ∷ optional (codes "mode_deltas") (exactly 2 (signed 8)) (λ r x. record r { mode_deltas = x })
    ∷ []

abbrev pub ref_state : Kind RefState
ref_state = object_of ref_rows no_ref

abbrev pub refs : Kind (List (Option RefState))
refs = exactly 8 (nullable ref_state)
