use Rattle.std.proofs.Common.{◌≡◌, ℕ, ◌<◌, ap, arith, refl, ◌-◌, ◌+◌, ◌*◌, inl, inr}
use Rattle.std.proofs.lemmas.Bool.{cases_lt}
use Rattle.av1_header.proofs.TileLoops.{spans_done, spans_on, just_enough}
use Rattle.av1_header.proofs.tiles.write_spans.Goals as goal

-- before the first span all is left
untouched : (left total side count : ℕ) → count ≡ 0 → left ≡ total - count * side → left ≡ total
untouched left total side count none is = omega (arith, is, ap (λ k. k * side) none)

pub loop-left-preserved : goal.loop-left-preserved
loop-left-preserved c =
    let i = c.loop-left.invariant in
    let some : 0 < c.loop-left.left = omega arith in
    record {
      left = omega (arith, i.left, c.write_span-span.ensures.value);
      few = omega (arith, i.left, some);
      bound = omega (arith, i.bound, some);
      none = λ e. absurd (omega (arith, e));
      some = λ _. elim (cases_lt 0 c.loop-left.count) [
        | inl more ↦ omega (arith, i.some more, c.write_span-span.ensures.value, c.max-widest.ensures)
        | inr none ↦
            let zero : c.loop-left.count ≡ 0 = omega (arith, none) in
            omega (arith, untouched _ _ _ _ zero i.left, i.none zero, c.write_span-span.ensures.value, c.max-widest.ensures, c.requires.side.2)
      ];
      rest = λ a r new x. i.rest a r new
          (spans_on _ (c.args.total - (c.loop-left.count + 1)) _ _ _ _ _ _ _ _ _ _ _ _ _ _ _ _ (omega (arith, i.bound, some)) some c.write_span-span.ensures.wrote refl refl c.max-widest.ensures x);
    }

pub returns-clause-wrote : goal.returns-clause-wrote
returns-clause-wrote c = c.loop-left.invariant.rest _ _ _ (spans_done _ _ _ _ _ _ _ _ (omega arith))

pub returns-clause-widest : goal.returns-clause-widest
returns-clause-widest c = elim (cases_lt 0 c.loop-left.count) [
  | inl more ↦ c.loop-left.invariant.some more
  | inr none ↦
      let zero : c.loop-left.count ≡ 0 = omega (arith, none) in
      absurd (omega (arith, untouched _ _ _ _ zero c.loop-left.invariant.left, c.requires.side.0, c.requires.side.2))
]

pub returns-clause-count : goal.returns-clause-count
returns-clause-count c = just_enough _ _ _ (omega arith) (omega (arith, c.loop-left.invariant.left)) c.loop-left.invariant.few

pub returns-clause-few : goal.returns-clause-few
returns-clause-few c = omega (arith, c.loop-left.invariant.bound)
