use Rattle.std.proofs.Common.{◌≡◌, ℕ, ◌+◌, ◌%◌, ◌<◌, List, [], ◌∷◌, ◌++◌, length, get_or, min, arith, below_more}
use Rattle.std.proofs.lemmas.Grind.{common_steps}
use Rattle.av1_bench.proofs.symbols.draw_symbols.Goals as goal

-- one more small symbol after small symbols
drawn : (before after : List ℕ) (i x : ℕ) → after ≡ before ++ x ∷ [] → length before ≡ i → x < i % 15 + 2
    → ((k : ℕ) → k < i → get_or before k 0 < k % 15 + 2) → (k : ℕ) → k < i + 1 → get_or after k 0 < k % 15 + 2
drawn before after i x pushed many here below =
    below_more (λ (k : ℕ). get_or after k 0 < k % 15 + 2) i
    (λ k h. let b = below k h in grind (arith, common_steps, b))
    (grind (arith, common_steps))

longer : (before after : List ℕ) (i x : ℕ) → after ≡ before ++ x ∷ [] → length before ≡ i → length after ≡ i + 1
longer before after i x pushed many = grind (arith, common_steps)

-- the lesser of two remainders
lesser : (a b size x : ℕ) → 0 < size → x ≡ min (a % size) (b % size) → x < size
lesser a b size x some least = omega arith

pub loop-i-preserved : goal.loop-i-preserved
loop-i-preserved c =
    let before = c.loop-i.symbols.items in
    let after = c.push.new.self.items in
    let small = lesser c.draw.result c.draw-in-loop-i.result (c.loop-i.i % 15 + 2) c.min.result (omega arith) c.min.ensures in
    record {
      many = longer before after c.loop-i.i c.min.result c.in_ok-push.ensures.items c.loop-i.invariant.many;
      small = drawn before after c.loop-i.i c.min.result c.in_ok-push.ensures.items c.loop-i.invariant.many small c.loop-i.invariant.small;
    }
