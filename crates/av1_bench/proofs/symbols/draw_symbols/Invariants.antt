use Rattle.std.proofs.Common.{◌≡◌, ℕ, ◌+◌, ◌%◌, ◌<◌, length, get_or}
use Rattle.av1_bench.proofs.symbols.draw_symbols.Given as goal

abbrev pub invariant-loop-i : goal.invariant-loop-i
invariant-loop-i l = record {
  many : length l.symbols.items ≡ l.i;
  small : (k : ℕ) → k < l.i → get_or l.symbols.items k 0 < k % 15 + 2;
}
