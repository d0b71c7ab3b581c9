-- What an item of a tile's script is: its kind, which is said by `op`, and then the members of that kind.
use Rattle.std.specs.Prelude.{ℕ, ℤ, pos, List, [], ◌∷◌, Bool, false, slice_index_or, if◌then◌else◌, codes}
use Rattle.std.specs.Str.{bytes_eq}
use Rattle.serde_json.specs.Data.{Members as Left}
use Rattle.av1_geometry.specs.BlockSize.{size_of}
use Rattle.av1_geometry.specs.declared.block_size.BlockSize.{BlockSize}
use Rattle.av1_geometry.specs.declared.block_size.BlockSize.TheVariants.{BLOCK_4X4}
use Rattle.av1_geometry.specs.declared.motion_vector.MotionVector.{MotionVector}
use Rattle.av1_geometry.specs.declared.partition_type.PartitionType.{PartitionType}
use Rattle.av1_geometry.specs.declared.partition_type.PartitionType.TheVariants.{PARTITION_NONE}
use Rattle.av1_geometry.specs.PartitionType.{partition_of}
use Rattle.av1_geometry.specs.declared.prediction_mode.PredictionMode.{PredictionMode}
use Rattle.av1_geometry.specs.declared.prediction_mode.PredictionMode.TheVariants.{DC_PRED}
use Rattle.av1_geometry.specs.PredictionMode.{prediction_mode_of}
use Rattle.av1_geometry.specs.RefType.{reference_of}
use Rattle.av1_geometry.specs.declared.ref_type.RefType.{RefType}
use Rattle.av1_geometry.specs.declared.ref_type.RefType.TheVariants.{INTRA_FRAME}
use Rattle.av1_geometry.specs.TxSize.{tx_size_of}
use Rattle.av1_geometry.specs.declared.tx_size.TxSize.{TxSize}
use Rattle.av1_geometry.specs.declared.tx_size.TxSize.TheVariants.{TX_4X4}
use Rattle.av1_geometry.specs.TxType.{tx_type_of}
use Rattle.av1_geometry.specs.declared.tx_type.TxType.{TxType}
use Rattle.av1_geometry.specs.declared.tx_type.TxType.TheVariants.{DCT_DCT}
use Rattle.av1_syntax.specs.declared.restoration.RestorationFilter.{RestorationFilter}
use Rattle.av1_step.specs.declared.unit.Item.{Item}
use Rattle.av1_step.specs.declared.unit.Item.TheVariants.{Step, Begin, Keep, Abandon}
use Rattle.av1_step.specs.declared.step.TileStep.TheVariants.{RowStart, Block, Partition, Skip, Segment, Cdef, DeltaLf, IntraModeKf, IntraMode}
use Rattle.av1_step.specs.declared.step.TileStep.TheVariants.{UvMode, AngleDelta, CflAlphas, FilterIntra, Palette, TxNote, TxIntra, TxInter, Coeffs}
use Rattle.av1_step.specs.declared.step.TileStep.TheVariants.{IsInter, RefFrames, MvRefs, InterMode, CompoundMode, Drl, Mv, Lrf}
use Rattle.av1_input.specs.Filter.{filter}
use Rattle.av1_input.specs.Fitted.{Fitted, Unfit, name_step}
use Rattle.av1_input.specs.Kinds.{Kind, choice, exactly, list, signed, text, truth, whole}
use Rattle.av1_input.specs.Rows.{Row, closed, fit_then, required, then_of}

-- the members of a question, and its answer
pub record Asked (A : Type 0) : Type 0 where
  pub x : ℕ
  pub y : ℕ
  pub size : BlockSize
  pub chroma : Bool
  pub has_tr : Bool
  pub idx : ℕ
  pub list : ℕ
  pub plane : ℕ
  pub tx_type : TxType
  pub a : A

-- nothing is said yet, and this stands for the answer
abbrev pub nothing : {A : Type 0} → A → Asked A
nothing a = record { x = 0; y = 0; size = BLOCK_4X4; chroma = false; has_tr = false; idx = 0; list = 0; plane = 0; tx_type = DCT_DCT; a = a }

abbrev pub block_size : Kind BlockSize
block_size = choice size_of BLOCK_4X4

-- ---- the kinds

abbrev pub block_rows : List (Row (Asked (Unit {0})))
block_rows =
    required (codes "x") (whole 64) (λ s x. record s { x = x })
    ∷ required (codes "y") (whole 64) (λ s x. record s { y = x })
    ∷ required (codes "size") block_size (λ s x. record s { size = x })
    ∷ []

abbrev pub block : Asked (Unit {0}) → Item
block s = Step (Block s.x s.y s.size)

abbrev pub partition : Kind PartitionType
partition = choice partition_of PARTITION_NONE

abbrev pub partition_rows : List (Row (Asked PartitionType))
partition_rows =
    required (codes "x") (whole 64) (λ s x. record s { x = x })
    ∷ required (codes "y") (whole 64) (λ s x. record s { y = x })
    ∷ required (codes "size") block_size (λ s x. record s { size = x })
    ∷ required (codes "a") partition (λ s x. record s { a = x })
    ∷ []

abbrev pub parted : Asked PartitionType → Item
parted s = Step (Partition s.x s.y s.size s.a)

abbrev pub flag_rows : List (Row (Asked Bool))
flag_rows = required (codes "a") truth (λ s x. record s { a = x }) ∷ []

-- an answer in a byte, and one that is a mode
abbrev pub byte_rows : List (Row (Asked ℕ))
byte_rows = required (codes "a") (whole 8) (λ s x. record s { a = x }) ∷ []

abbrev pub mode : Kind PredictionMode
mode = choice prediction_mode_of DC_PRED

abbrev pub prediction_rows : List (Row (Asked PredictionMode))
prediction_rows = required (codes "a") mode (λ s x. record s { a = x }) ∷ []

abbrev pub skip : Asked Bool → Item
skip s = Step (Skip s.a)

abbrev pub intra_mode_kf : Asked PredictionMode → Item
intra_mode_kf s = Step (IntraModeKf s.a)

abbrev pub intra_mode : Asked PredictionMode → Item
intra_mode s = Step (IntraMode s.a)

abbrev pub uv_mode : Asked PredictionMode → Item
uv_mode s = Step (UvMode s.a)

abbrev pub filter_intra : Asked Bool → Item
filter_intra s = Step (FilterIntra s.a)

abbrev pub palette : Asked Bool → Item
palette s = Step (Palette s.a)

abbrev pub cdef : Asked ℕ → Item
cdef s = Step (Cdef s.a)

abbrev pub segment : Asked ℕ → Item
segment s = Step (Segment s.a)

-- a delta for each of the four filters
abbrev pub delta_lf_rows : List (Row (Asked (List ℤ)))
delta_lf_rows = required (codes "a") (exactly 4 (signed 8)) (λ s x. record s { a = x }) ∷ []

abbrev pub delta_lf : Asked (List ℤ) → Item
delta_lf s = Step (DeltaLf s.a)

abbrev pub angle_delta_rows : List (Row (Asked ℤ))
angle_delta_rows =
    required (codes "chroma") truth (λ s x. record s { chroma = x })
    ∷ required (codes "a") (signed 8) (λ s x. record s { a = x })
    ∷ []

abbrev pub angle_delta : Asked ℤ → Item
angle_delta s = Step (AngleDelta s.chroma s.a)

-- two numbers: that of the first chroma plane and that of the second
abbrev pub cfl_alphas_rows : List (Row (Asked (List ℤ)))
cfl_alphas_rows = required (codes "a") (exactly 2 (signed 16)) (λ s x. record s { a = x }) ∷ []

abbrev pub of_alphas : List ℤ → Item
of_alphas alphas = Step (CflAlphas (slice_index_or alphas 0 (pos 0), slice_index_or alphas 1 (pos 0)))

abbrev pub cfl_alphas : Asked (List ℤ) → Item
cfl_alphas s = of_alphas s.a

-- whether a block is an inter block, and the two frames that it refers to
abbrev pub is_inter : Asked Bool → Item
is_inter s = Step (IsInter s.a)

abbrev pub reference : Kind RefType
reference = choice reference_of INTRA_FRAME

abbrev pub ref_frames_rows : List (Row (Asked (List RefType)))
ref_frames_rows = required (codes "a") (exactly 2 reference) (λ s x. record s { a = x }) ∷ []

abbrev pub of_references : List RefType → Item
of_references refs = Step (RefFrames (slice_index_or refs 0 INTRA_FRAME, slice_index_or refs 1 INTRA_FRAME))

abbrev pub ref_frames : Asked (List RefType) → Item
ref_frames s = of_references s.a

-- the candidates of its vectors, and its mode
abbrev pub mv_refs_rows : List (Row (Asked (Unit {0})))
mv_refs_rows = required (codes "has_tr") truth (λ s x. record s { has_tr = x }) ∷ []

abbrev pub mv_refs : Asked (Unit {0}) → Item
mv_refs s = Step (MvRefs s.has_tr)

abbrev pub inter_mode : Asked PredictionMode → Item
inter_mode s = Step (InterMode s.a)

abbrev pub compound_mode : Asked PredictionMode → Item
compound_mode s = Step (CompoundMode s.a)

-- whether a later candidate is taken than one, by its number
abbrev pub drl_rows : List (Row (Asked Bool))
drl_rows =
    required (codes "idx") (whole 64) (λ s x. record s { idx = x })
    ∷ required (codes "a") truth (λ s x. record s { a = x })
    ∷ []

abbrev pub drl : Asked Bool → Item
drl s = Step (Drl s.idx s.a)

-- a vector of a list: its row and its column
abbrev pub mv_rows : List (Row (Asked (List ℤ)))
mv_rows =
    required (codes "list") (whole 64) (λ s x. record s { list = x })
    ∷ required (codes "a") (exactly 2 (signed 16)) (λ s x. record s { a = x })
    ∷ []

abbrev pub vector_of : List ℤ → MotionVector
vector_of parts = record { row = slice_index_or parts 0 (pos 0); col = slice_index_or parts 1 (pos 0) }

abbrev pub of_vector : ℕ → List ℤ → Item
of_vector list parts = Step (Mv list (vector_of parts))

abbrev pub mv : Asked (List ℤ) → Item
mv s = of_vector s.list s.a

abbrev pub size_of_transform : Kind TxSize
size_of_transform = choice tx_size_of TX_4X4

abbrev pub tx_intra_rows : List (Row (Asked TxSize))
tx_intra_rows = required (codes "a") size_of_transform (λ s x. record s { a = x }) ∷ []

abbrev pub tx_intra : Asked TxSize → Item
tx_intra s = Step (TxIntra s.a)

abbrev pub tx_inter : Asked Bool → Item
tx_inter s = Step (TxInter s.a)

-- the type of a transform, and the levels of its coefficients
abbrev pub type_of_transform : Kind TxType
type_of_transform = choice tx_type_of DCT_DCT

abbrev pub levels : Kind (List ℤ)
levels = list (signed 32)

abbrev pub coeffs_rows : List (Row (Asked (List ℤ)))
coeffs_rows =
    required (codes "plane") (whole 64) (λ s x. record s { plane = x })
    ∷ required (codes "x") (whole 64) (λ s x. record s { x = x })
    ∷ required (codes "y") (whole 64) (λ s x. record s { y = x })
    ∷ required (codes "tx_type") type_of_transform (λ s x. record s { tx_type = x })
    ∷ required (codes "a") levels (λ s x. record s { a = x })
    ∷ []

abbrev pub coeffs : Asked (List ℤ) → Item
coeffs s = Step (Coeffs s.plane s.x s.y s.tx_type s.a)

abbrev pub lrf_rows : List (Row (Asked RestorationFilter))
lrf_rows =
    required (codes "plane") (whole 64) (λ s x. record s { plane = x })
    ∷ required (codes "a") filter (λ s x. record s { a = x })
    ∷ []

abbrev pub lrf : Asked RestorationFilter → Item
lrf s = Step (Lrf s.plane s.a)

abbrev pub begin_rows : List (Row (Asked (Unit {0})))
begin_rows =
    required (codes "x") (whole 64) (λ s x. record s { x = x })
    ∷ required (codes "y") (whole 64) (λ s x. record s { y = x })
    ∷ []

abbrev pub begin : Asked (Unit {0}) → Item
begin s = Begin record { 0 = record { x = s.x; y = s.y } }

-- what the members beside `op` come to
abbrev pub made_of : {A : Type 0} → List (Row (Asked A)) → A → (Asked A → Item) → Left → Fitted Item
made_of rows a make ms = then_of rows (closed make) (nothing a) ms

-- nothing is said beside `op`
abbrev pub end_of : Item → Left → Fitted Item
end_of end ms = made_of {A = Unit {0}} [] tt (λ s. end) ms

-- transforms, restoration and trials
abbrev pub further_kinds : List (List ℕ × (Left → Fitted Item))
further_kinds =
    (codes "TxNote", end_of (Step TxNote))
    ∷ (codes "TxIntra", made_of tx_intra_rows TX_4X4 tx_intra)
    ∷ (codes "TxInter", made_of flag_rows false tx_inter)
    ∷ (codes "Coeffs", made_of coeffs_rows [] coeffs)
    ∷ (codes "Lrf", made_of lrf_rows filter.none lrf)
    ∷ (codes "Begin", made_of begin_rows tt begin)
    ∷ (codes "Keep", end_of Keep)
    ∷ (codes "Abandon", end_of Abandon)
    ∷ []

-- what an inter block is predicted from
abbrev pub inter_kinds : List (List ℕ × (Left → Fitted Item))
inter_kinds =
    (codes "IsInter", made_of flag_rows false is_inter)
    ∷ (codes "RefFrames", made_of ref_frames_rows [] ref_frames)
    ∷ (codes "MvRefs", made_of mv_refs_rows tt mv_refs)
    ∷ (codes "InterMode", made_of prediction_rows DC_PRED inter_mode)
    ∷ (codes "CompoundMode", made_of prediction_rows DC_PRED compound_mode)
    ∷ (codes "Drl", made_of drl_rows false drl)
    ∷ (codes "Mv", made_of mv_rows [] mv)
    ∷ further_kinds

-- what a mode leaves open, and filters
abbrev pub tool_kinds : List (List ℕ × (Left → Fitted Item))
tool_kinds =
    (codes "AngleDelta", made_of angle_delta_rows (pos 0) angle_delta)
    ∷ (codes "CflAlphas", made_of cfl_alphas_rows [] cfl_alphas)
    ∷ (codes "FilterIntra", made_of flag_rows false filter_intra)
    ∷ (codes "Palette", made_of flag_rows false palette)
    ∷ (codes "Cdef", made_of byte_rows 0 cdef)
    ∷ (codes "DeltaLf", made_of delta_lf_rows [] delta_lf)
    ∷ inter_kinds

-- each kind by its name
abbrev pub item_kinds : List (List ℕ × (Left → Fitted Item))
item_kinds =
    (codes "RowStart", end_of (Step RowStart))
    ∷ (codes "Block", made_of block_rows tt block)
    ∷ (codes "Partition", made_of partition_rows PARTITION_NONE parted)
    ∷ (codes "Skip", made_of flag_rows false skip)
    ∷ (codes "Segment", made_of byte_rows 0 segment)
    ∷ (codes "IntraModeKf", made_of prediction_rows DC_PRED intra_mode_kf)
    ∷ (codes "IntraMode", made_of prediction_rows DC_PRED intra_mode)
    ∷ (codes "UvMode", made_of prediction_rows DC_PRED uv_mode)
    ∷ tool_kinds

-- the members of the first kind of this name; where there is none, `op` is unfit
abbrev pub of_op : List (List ℕ × (Left → Fitted Item)) → List ℕ → Left → Fitted Item
of_op [] op ms = Unfit (name_step (codes "op"))
of_op (kind ∷ kinds) op ms = if bytes_eq op kind.0 then kind.1 ms else of_op kinds op ms

-- `op` comes first, and is a text
abbrev pub op_rows : List (Row (List ℕ))
op_rows = required (codes "op") text (λ s x. x) ∷ []

abbrev pub item : Kind Item
item = record { none = Keep; fit = fit_then op_rows (of_op item_kinds) [] }

abbrev pub script : Kind (List Item)
script = list item
