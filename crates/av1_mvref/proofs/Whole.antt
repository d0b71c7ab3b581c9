-- The candidates of a block that refers to its own frame, and of one that does not.
use Rattle.std.proofs.Common.{◌≡◌, ℕ, ◌≤◌, Bool, false, List, [], ap, arith, if◌then◌else◌}
use Rattle.std.specs.Prelude.{nat_eq}
use Rattle.std.proofs.lemmas.Bool.{ne_eqb}
use Rattle.av1_geometry.specs.declared.block_offset.BlockOffset.{BlockOffset}
use Rattle.av1_geometry.specs.declared.block_size.BlockSize.{BlockSize}
use Rattle.av1_geometry.specs.declared.ref_type.RefType.{RefType}
use Rattle.av1_geometry.specs.RefType.{reference_number}
use Rattle.av1_blocks.specs.Grid.{Grid}
use Rattle.av1_mvref.specs.ExtraSearch.{Candidates, candidates, found, wanted_of}

pub candidates-none : (g : Grid) (bo : BlockOffset) (size : BlockSize) (refs : List RefType) (is_compound has_tr : Bool) (sign_bias : List Bool) →
    reference_number (wanted_of refs is_compound).first ≡ 0 → candidates g bo size refs is_compound has_tr sign_bias ≡ record { list = []; context = 0 }
unfolding candidates
candidates-none g bo size refs is_compound has_tr sign_bias h =
    let none : Candidates = record { list = []; context = 0 } in
    ap (λ (n : ℕ). if nat_eq n 0 then none else found g bo size (wanted_of refs is_compound) has_tr sign_bias) h

pub candidates-some : (g : Grid) (bo : BlockOffset) (size : BlockSize) (refs : List RefType) (is_compound has_tr : Bool) (sign_bias : List Bool) →
    1 ≤ reference_number (wanted_of refs is_compound).first → candidates g bo size refs is_compound has_tr sign_bias ≡ found g bo size (wanted_of refs is_compound) has_tr sign_bias
unfolding candidates
candidates-some g bo size refs is_compound has_tr sign_bias h =
    let none : Candidates = record { list = []; context = 0 } in
    let e : nat_eq (reference_number (wanted_of refs is_compound).first) 0 ≡ false = ne_eqb (reference_number (wanted_of refs is_compound).first) 0 (λ q. omega arith) in
    ap (λ (b : Bool). if b then none else found g bo size (wanted_of refs is_compound) has_tr sign_bias) e
