-- What the filter of a restoration unit is: nothing, the taps of a Wiener filter, or a set and the weights of a self-guided one.
use Rattle.std.specs.Prelude.{ℕ, ℤ, List, [], ◌∷◌, is_some, if◌then◌else◌, codes}
use Rattle.serde_json.specs.Data.{Data, null, Members as Left}
use Rattle.serde_json.specs.Find.{get_member}
use Rattle.av1_syntax.specs.declared.restoration.RestorationFilter.{RestorationFilter}
use Rattle.av1_syntax.specs.declared.restoration.RestorationFilter.TheVariants.{None as NoFilter, Wiener, Sgrproj}
use Rattle.av1_input.specs.Fitted.{Fitted, Fits}
use Rattle.av1_input.specs.Kinds.{Kind, exactly, signed, whole}
use Rattle.av1_input.specs.Rows.{Row, closed, fit_then, required, then_of}

-- three taps of each pass
abbrev pub wiener_rows : List (Row (List (List ℤ)))
wiener_rows = required (codes "wiener") (exactly 2 (exactly 3 (signed 8))) (λ s x. x) ∷ []

-- a set of parameters, and a weight of each pass
pub record Guided : Type 0 where
  pub set : ℕ
  pub xqd : List ℤ

abbrev pub no_guided : Guided
no_guided = record { set = 0; xqd = [] }

abbrev pub guided_rows : List (Row Guided)
guided_rows =
    required (codes "set") (whole 8) (λ g x. record g { set = x })
    ∷ required (codes "xqd") (exactly 2 (signed 8)) (λ g x. record g { xqd = x })
    ∷ []

abbrev pub guided : Guided → RestorationFilter
guided g = Sgrproj g.set g.xqd

-- an object with a member `wiener` is a Wiener filter, any other a self-guided one
abbrev pub filter_by : Unit {0} → Left → Fitted RestorationFilter
filter_by start ms =
    if is_some (get_member (codes "wiener") ms) then then_of wiener_rows (closed Wiener) [] ms
    else then_of guided_rows (closed guided) no_guided ms

unfoldable pub fit_filter : Data → Fitted RestorationFilter
fit_filter null = Fits NoFilter
fit_filter d = fit_then [] filter_by tt d

abbrev pub filter : Kind RestorationFilter
filter = record { none = NoFilter; fit = fit_filter }
