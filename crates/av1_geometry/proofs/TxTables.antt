-- What the tables of transforms give at a type, a set and a size.
use Rattle.std.proofs.Common.{◌≡◌, ℕ, get_or, map, ap, ◌∙◌, List, length, if◌then◌else◌}
use Rattle.av1_geometry.specs.declared.tx_size.TxSize.{TxSize}
use Rattle.av1_geometry.specs.declared.tx_type.TxType.{TxType}
use Rattle.av1_geometry.specs.declared.tx_type.TxSet.{TxSet}
use Rattle.av1_geometry.specs.declared.tx_type.TxClass.{TxClass}
use Rattle.av1_geometry.specs.declared.tx_type.TheConstants.{ALL_TX_TYPES}
use Rattle.av1_geometry.specs.declared.tx_tables.TheConstants.{num_tx_set, av1_tx_used, av1_tx_ind, sub_tx_size_map, tx_type_to_class}
use Rattle.av1_geometry.specs.TxType.{tx_type_number, tx_set_number}
use Rattle.av1_geometry.specs.TxSize.{tx_number}
use Rattle.av1_geometry.proofs.Lookup.{at_tx_size, at_type, at_set}
use Rattle.av1_geometry.specs.TxTables.{coded_types, uses, index_in, class_of, half_size}

pub half_of_size : (size : TxSize) (d : TxSize) → get_or sub_tx_size_map (tx_number size) d ≡ half_size size
half_of_size size d = at_tx_size half_size size d

pub class_of_type : (t : TxType) (d : TxClass) → get_or tx_type_to_class (tx_type_number t) d ≡ class_of t
class_of_type t d = at_type class_of t d

pub size_of_set : (set : TxSet) (d : ℕ) → get_or num_tx_set (tx_set_number set) d ≡ length (coded_types set)
size_of_set set d = at_set (λ s. length (coded_types s)) set d

pub index_in_set : (set : TxSet) (t : TxType) (d : List ℕ) (e : ℕ) → get_or (get_or av1_tx_ind (tx_set_number set) d) (tx_type_number t) e ≡ index_in set t
index_in_set set t d e =
    ap (λ (r : List ℕ). get_or r (tx_type_number t) e) (at_set (λ s. map (index_in s) ALL_TX_TYPES) set d) ∙ at_type (index_in set) t e

pub used_in_set : (set : TxSet) (t : TxType) (d : List ℕ) (e : ℕ) → get_or (get_or av1_tx_used (tx_set_number set) d) (tx_type_number t) e ≡ (if uses set t then 1 else 0)
used_in_set set t d e =
    ap (λ (r : List ℕ). get_or r (tx_type_number t) e) (at_set (λ s. map (λ u. if uses s u then 1 else 0) ALL_TX_TYPES) set d) ∙ at_type (λ u. if uses set u then 1 else 0) t e
