-- The range coder of AV1 on whole numbers without bound: what a list of symbols leaves of the interval from 0 to 1.
use Rattle.std.specs.Prelude.{ℕ, ◌+◌, ◌-◌, ◌*◌, ◌/◌, ◌^◌, ◌<◌, ◌≤◌, List, Bool, nat_eq, nat_lt, nat_le, if◌then◌else◌, length, ◌&&◌}
use Rattle.std.specs.Int.{leading_zeros, w16, bytes_high_first}
use Rattle.std.specs.Int.Digits.{number_from_digits}

-- from low to low + range, in units of 2^-(15 + shift)
pub record Interval : Type 0 where
  pub low : ℕ
  pub range : ℕ
  pub shift : ℕ

-- a range of 16 bits, and an end of at most 1
pub record IsInterval (i : Interval) : Type 0 where
  pub wide : 32768 ≤ i.range
  pub below : i.range < 65536
  pub inside : i.low + i.range ≤ 2 ^ (15 + i.shift)

-- where coding starts
abbrev pub whole : Interval
whole = record { low = 0; range = 32768; shift = 0 }

-- how many bits an interval stands for
abbrev pub bits : Interval → ℕ
bits i = i.shift + 1

-- one symbol's part of 32768: from fl down to fh, where it and the later ones are nms symbols
pub record Token : Type 0 where
  pub fl : ℕ
  pub fh : ℕ
  pub nms : ℕ

pub record IsToken (t : Token) : Type 0 where
  pub below_whole : t.fl ≤ 32768
  pub below : t.fh < 32768
  pub falls : t.fh / 64 ≤ t.fl / 64
  pub some : 1 ≤ t.nms
  pub few : t.nms ≤ 16

-- how far below the end of a range f of 32768 lies, where 4 are kept for each of n symbols
abbrev pub edge : ℕ → ℕ → ℕ → ℕ
edge r f n = if nat_eq f 32768 then r else r / 256 * (f / 64) / 2 + 4 * n

abbrev pub top : ℕ → Token → ℕ
top r t = edge r t.fl t.nms

abbrev pub bottom : ℕ → Token → ℕ
bottom r t = edge r t.fh (t.nms - 1)

-- a symbol's part of an interval
abbrev pub part : Interval → Token → Interval
part i t = record { low = i.low + (i.range - top i.range t); range = top i.range t - bottom i.range t; shift = i.shift }

-- the same interval in units that are halved d times
abbrev pub doubled : ℕ → Interval → Interval
doubled d i = record { low = i.low * 2 ^ d; range = i.range * 2 ^ d; shift = i.shift + d }

-- a symbol's part, in units that are halved until its range has 16 bits, and no further
abbrev pub narrow : Interval → Token → Interval
narrow i t = let p = part i t in doubled (leading_zeros w16 p.range) p

-- the number made of the first n bits of bytes, with zero bits after their end
abbrev pub leading : List ℕ → ℕ → ℕ
leading bytes n = number_from_digits 256 bytes * 2 ^ n / 256 ^ length bytes

-- bytes, as a binary fraction, lie in an interval
pub record Holds (bytes : List ℕ) (i : Interval) : Type 0 where
  pub from : i.low ≤ leading bytes (15 + i.shift)
  pub to : leading bytes (15 + i.shift) < i.low + i.range

abbrev pub holds : List ℕ → Interval → Bool
holds bytes i = nat_le i.low (leading bytes (15 + i.shift)) && nat_lt (leading bytes (15 + i.shift)) (i.low + i.range)

-- the least odd multiple of 2^14 from a number on, in units of 2^14
abbrev pub point : ℕ → ℕ
point low = (low + 16383) / 16384 / 2 * 2 + 1

-- the digits of the point, and zeros that fill the last byte
abbrev pub final_bytes : Interval → List ℕ
final_bytes i = let n = (i.shift + 8) / 8 in bytes_high_first n (point i.low * 2 ^ (8 * n - (i.shift + 1)))
