-- What a symbol adds to a writer's shift.
use Rattle.std.proofs.Common.{◌≡◌, ℕ, ◌+◌, ◌<◌, ◌≤◌, List, length, ap, arith, Result, Ok, Err, OnOk, OnErr}
use Rattle.av1_model.specs.Cdf.{IsCdf, token_of}
use Rattle.av1_model.specs.Interval.{Token}
use Rattle.av1_model.specs.Position.{Position, advance}
use Rattle.av1_model.proofs.Positions.{advance_shift}
use Rattle.av1_model.proofs.Symbols.{token_valid}
use Rattle.av1_ec.specs.Writing.{IsPosition}

pub symbol_shift : (p : Position) (cdf : List ℕ) (s : ℕ) → IsPosition p → IsCdf cdf → s < length cdf → (advance p (token_of cdf s)).shift ≤ p.shift + 13
symbol_shift p cdf s v h l = advance_shift p (token_of cdf s) v.interval (token_valid cdf s h l)

pub stored_shift : {T E : Type 0} (r : Result T E) (p q : Position) (t : Token) → OnOk r (q ≡ advance p t) → OnErr r (q ≡ p) → (advance p t).shift ≤ p.shift + 13 → q.shift ≤ p.shift + 13
stored_shift (Ok x) p q t a b h = let e : q.shift ≡ (advance p t).shift = ap (λ (p : Position). p.shift) a in omega (arith, e, h)
stored_shift (Err x) p q t a b h = let e : q.shift ≡ p.shift = ap (λ (p : Position). p.shift) b in omega (arith, e)
