-- How many coefficients are coded at most.
use Rattle.std.proofs.Common.{ℕ, ◌+◌, ◌*◌, ◌^◌, ◌≤◌, min, arith}
use Rattle.std.proofs.Math.Pow.{pow_mono}
use Rattle.std.proofs.lemmas.Nat.{mul-le}
use Rattle.av1_geometry.specs.declared.tx_size.TxSize.{TxSize}
use Rattle.av1_geometry.specs.TxSize.{tx_width_log2, tx_height_log2}
use Rattle.av1_coef.specs.Contexts.{coded_width, coded_height, coded_area}

few : (n : ℕ) → 2 ^ min n 5 ≤ 32
few n = pow_mono {i = min n 5} {j = 5} (omega arith)

pub width_few : (size : TxSize) → coded_width size ≤ 32
width_few size = few (tx_width_log2 size)

pub height_few : (size : TxSize) → coded_height size ≤ 32
height_few size = few (tx_height_log2 size)

pub area_few : (size : TxSize) → coded_area size ≤ 1024
area_few size = mul-le (coded_width size) (coded_height size) 32 32 (width_few size) (height_few size)

pub room_few : (size : TxSize) → (coded_width size + 4) * (coded_height size + 4) ≤ 1296
room_few size = mul-le (coded_width size + 4) (coded_height size + 4) 36 36 (omega (arith, width_few size)) (omega (arith, height_few size))
