-- What calls write.
use Rattle.std.proofs.Common.{◌≡◌, ℕ, ◌+◌, ◌*◌, ◌^◌, ◌<◌, ◌≤◌, Bool, true, false, Option, Some, Result, Ok, Err, refl, sym, subst, ap, arith}
use Rattle.std.specs.Prelude.{OnOk, OnErr}
use Rattle.std.proofs.lemmas.List.{length-map}
use Rattle.av1_cdf.specs.Distribution.{Distribution, Even}
use Rattle.av1_cdf.specs.Distribution.Distribution.{Adaptive}
use Rattle.av1_cdf.specs.Layout.{Slot}
use Rattle.av1_ec.specs.CodeTrees.{IsFlat, literal_tree, bit_symbols}
use Rattle.av1_ec.specs.Flat.{bool_token, flat_tokens}
use Rattle.av1_ec.proofs.CodeTrees.{literal_reads, flat_writes}
use Rattle.av1_ec.proofs.Lengths.{flat_valid}
use Rattle.av1_model.specs.Bits.{bits_of}
use Rattle.av1_model.specs.Comes.{Standing, standing, Stores, Wrote, Writes, Begins}
use Rattle.av1_model.specs.Element.{Element, symbol, choose}
use Rattle.av1_model.specs.Interval.{IsInterval}
use Rattle.av1_model.specs.Position.{Position, advance_all, interval_of}
use Rattle.av1_model.proofs.BitsNumbers.{length-bits_of}
use Rattle.av1_model.proofs.ComesLaws.{writes_symbol, begins_symbol, begins_none}
use Rattle.av1_model.proofs.Positions.{advance_all_shift}
use Rattle.av1_syntax.specs.Calls.{Context, coded_in, learnt_in}
use Rattle.av1_syntax.specs.Literals.{literal}

abbrev Numbers : Type 0
Numbers = Standing Context

-- a symbol by other names of its distribution and itself
pub stores_as : (p q : Distribution) (s n : ℕ) (old new : Numbers) → p ≡ q → s ≡ n → Stores coded_in learnt_in p s old new → Stores coded_in learnt_in q n old new
stores_as p q s n old new e f h = subst (λ (x : Distribution). Stores coded_in learnt_in x n old new) e (subst (λ k. Stores coded_in learnt_in p k old new) f h)

-- a call that codes one symbol
pub wrote_by : {A U E : Type 0} (r : Result U E) (p q : Distribution) (value : ℕ → Option A) (number : A → ℕ) (s : ℕ) (a : A) (old new : Numbers) → p ≡ q → s ≡ number a → value (number a) ≡ Some a →
    OnOk r (Stores coded_in learnt_in p s old new) → OnErr r (new ≡ old) → Wrote coded_in learnt_in r (symbol q value number).tree a old new
wrote_by (Ok u) p q value number s a old new e f v ok err =
    writes_symbol coded_in learnt_in q value number a old new v (stores_as p q s (number a) old new e f ok)
wrote_by (Err u) p q value number s a old new e f v ok err = begins_symbol coded_in learnt_in q value number a old new v err

-- a call that codes one symbol of the context
pub wrote_symbol : {A U E : Type 0} (r : Result U E) (p q : Slot) (value : ℕ → Option A) (number : A → ℕ) (s : ℕ) (a : A) (old new : Numbers) → p ≡ q → s ≡ number a → value (number a) ≡ Some a →
    OnOk r (Stores coded_in learnt_in (Adaptive p) s old new) → OnErr r (new ≡ old) → Wrote coded_in learnt_in r (symbol (Adaptive q) value number).tree a old new
wrote_symbol r p q value number s a old new e f v ok err = wrote_by r (Adaptive p) (Adaptive q) value number s a old new (ap Adaptive e) f v ok err

-- the first of two elements
pub chosen : {A U E : Type 0} (r : Result U E) (b : Bool) (e f : Element Distribution A) (a : A) (old new : Numbers) → b ≡ true →
    Wrote coded_in learnt_in r e.tree a old new → Wrote coded_in learnt_in r (choose b e f).tree a old new
chosen r b e f a old new h w = subst (λ (b : Bool). Wrote coded_in learnt_in r (choose b e f).tree a old new) (sym h) w

pub chosen_last : {A U E : Type 0} (r : Result U E) (b : Bool) (e f : Element Distribution A) (a : A) (old new : Numbers) → b ≡ false →
    Wrote coded_in learnt_in r f.tree a old new → Wrote coded_in learnt_in r (choose b e f).tree a old new
chosen_last r b e f a old new h w = subst (λ (b : Bool). Wrote coded_in learnt_in r (choose b e f).tree a old new) (sym h) w

-- bits that are as likely as not
pub even_flat : IsFlat coded_in learnt_in Even
even_flat = record { even = λ c. refl; same = λ c s. refl }

pub literal_near : (p : Position) (bits v : ℕ) → IsInterval (interval_of p) → (advance_all p (flat_tokens (bits_of bits v))).shift ≤ p.shift + 13 * bits
literal_near p bits v h =
    let n = length-map (bits_of bits v) (bool_token 16384) in
    let k = length-bits_of bits v in
    let a = advance_all_shift p (flat_tokens (bits_of bits v)) h (flat_valid (bits_of bits v)) in
    omega (arith, a, n, k)

pub literal_written : (bits v : ℕ) (p q : Position) (at : Context) → v < 2 ^ bits → q ≡ advance_all p (flat_tokens (bits_of bits v)) → Writes coded_in learnt_in (literal bits).tree v (standing p at) (standing q at)
literal_written bits v p q at h e =
    let r = literal_reads Even bits in
    flat_writes coded_in learnt_in Even even_flat (literal_tree Even bits) (bits_of bits v) v (standing p at) (standing q at) r.asks (r.leads v h) e refl

pub literal_begun : (bits v : ℕ) (p q : Position) (at : Context) → v < 2 ^ bits → q ≡ p → Begins coded_in learnt_in (literal bits).tree v (standing p at) (standing q at)
literal_begun bits v p q at h e =
    begins_none coded_in learnt_in (literal_tree Even bits) (bit_symbols (bits_of bits v)) v (standing p at) (standing q at) ((literal_reads Even bits).leads v h) (ap (λ p. standing p at) e)
