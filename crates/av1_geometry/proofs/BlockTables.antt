-- What the tables of block sizes give at a size.
use Rattle.std.proofs.Common.{◌≡◌, ◌<◌, ℕ, get_or, map, ap, ◌∙◌, zero-add, List, Option}
use Rattle.std.specs.List.{range_with_len}
use Rattle.std.proofs.lemmas.List.FromFn.{get_or-map-range_with_len}
use Rattle.av1_geometry.specs.declared.block_size.BlockSize.{BlockSize}
use Rattle.av1_geometry.specs.declared.block_tables.TheConstants.{SIZES_BY_SIDES, max_txsize_rect_lookup, size_group_lookup}
use Rattle.av1_geometry.specs.declared.tx_size.TxSize.{TxSize}
use Rattle.av1_geometry.specs.BlockSize.{number_of, with_sides}
use Rattle.av1_geometry.proofs.Lookup.{at_size}
use Rattle.av1_geometry.specs.BlockTables.{max_tx_size, size_group}

pub largest_transform : (size : BlockSize) (d : TxSize) → get_or max_txsize_rect_lookup (number_of size) d ≡ max_tx_size size
largest_transform size d = at_size max_tx_size size d

pub group_of_size : (size : BlockSize) (d : ℕ) → get_or size_group_lookup (number_of size) d ≡ size_group size
group_of_size size d = at_size size_group size d

pub by_sides_table : (w h : ℕ) (d : List (Option BlockSize)) (e : Option BlockSize) → w < 8 → h < 8 → get_or (get_or SIZES_BY_SIDES w d) h e ≡ with_sides w h
by_sides_table w h d e p q =
    ap (λ (r : List (Option BlockSize)). get_or r h e) (get_or-map-range_with_len (λ v. map (λ u. with_sides v u) (range_with_len 0 8)) 0 8 w w d p (zero-add w))
    ∙ get_or-map-range_with_len (λ u. with_sides w u) 0 8 h h e q (zero-add h)
