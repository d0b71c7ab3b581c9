-- How many bits an interval stands for, to an eighth.
use Rattle.std.specs.Prelude.{ℕ, zero, suc, ◌+◌, ◌-◌, ◌*◌, ◌/◌, ◌^◌, nat_lt, if◌then◌else◌}
use Rattle.av1_model.specs.Interval.{Interval, bits}

-- n binary digits of the logarithm of r / 32768 to base 2, as rav1e finds them: by squares, which are cut to whole 32768ths.
-- So they may be one too low at the last.
unfoldable pub log_digits : ℕ → ℕ → ℕ
log_digits zero r = 0
log_digits (suc n) r = let q = r * r / 32768 in if nat_lt q 65536 then log_digits n q else 2 ^ n + log_digits n (q / 2)

abbrev pub eighths : Interval → ℕ
eighths i = 8 * bits i - log_digits 3 i.range
