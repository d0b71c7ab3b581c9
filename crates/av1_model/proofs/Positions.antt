-- What is known of a writer advances as its interval is narrowed.
use Rattle.std.proofs.Common.{◌≡◌, ℕ, ◌+◌, ◌*◌, ◌≤◌, List, [], ◌∷◌, ◌++◌, ap, sym, refl, ◌∙◌, arith, Option, Some, None, length, append_assoc}
use Rattle.std.proofs.lemmas.List.{append-nil}
use Rattle.std.proofs.lemmas.List.Elements.{All-head, All-tail}
use Rattle.std.specs.Prelude.{option_map, All}
use Rattle.av1_model.specs.Interval.{Interval, IsInterval, Token, IsToken, narrow}
use Rattle.av1_model.specs.Position.{Position, interval_at, interval_of, advance, advance_all, encoder_at}
use Rattle.av1_model.proofs.Tokens.{narrow_valid, narrow_shift}

-- range and shift advance as those of an interval with any low end
pub range_any_low : (p : Position) (low : ℕ) (t : Token) → (advance p t).range ≡ (narrow (interval_at p low) t).range
range_any_low p low t = refl

pub shift_any_low : (p : Position) (low : ℕ) (t : Token) → (advance p t).shift ≡ (narrow (interval_at p low) t).shift
shift_any_low p low t = refl

-- so writers of the same range and shift keep the same range and shift, whatever else is known of them
pub range_advanced : (p q : Position) (t : Token) → p.range ≡ q.range → p.shift ≡ q.shift → (advance p t).range ≡ (advance q t).range
range_advanced p q t a b = cc

pub shift_advanced : (p q : Position) (t : Token) → p.range ≡ q.range → p.shift ≡ q.shift → (advance p t).shift ≡ (advance q t).shift
shift_advanced p q t a b = cc

pub range_advanced_all : (p q : Position) (ts : List Token) → p.range ≡ q.range → p.shift ≡ q.shift → (advance_all p ts).range ≡ (advance_all q ts).range
range_advanced_all p q [] a b = a
range_advanced_all p q (t ∷ ts) a b = range_advanced_all (advance p t) (advance q t) ts (range_advanced p q t a b) (shift_advanced p q t a b)

pub shift_advanced_all : (p q : Position) (ts : List Token) → p.range ≡ q.range → p.shift ≡ q.shift → (advance_all p ts).shift ≡ (advance_all q ts).shift
shift_advanced_all p q [] a b = b
shift_advanced_all p q (t ∷ ts) a b = shift_advanced_all (advance p t) (advance q t) ts (range_advanced p q t a b) (shift_advanced p q t a b)

-- an encoder's position advances as its interval is narrowed
pub advance_encoder : (i : Interval) (t : Token) → advance (encoder_at i) t ≡ encoder_at (narrow i t)
advance_encoder i t = refl

-- also with fake bits
pub advance_with_fake : (i : Interval) (fake : ℕ) (t : Token) → advance (record (encoder_at i) { fake = fake }) t ≡ record (encoder_at (narrow i t)) { fake = fake }
advance_with_fake i fake t = refl

pub interval_of_encoder : (i : Interval) → interval_of (encoder_at i) ≡ i
interval_of_encoder i = refl

-- tokens are stored one after another
pub advance_all-append : (p : Position) (xs ys : List Token) → advance_all p (xs ++ ys) ≡ advance_all (advance_all p xs) ys
advance_all-append p [] ys = refl
advance_all-append p (x ∷ xs) ys = advance_all-append (advance p x) xs ys

pub advance_all-last : (p : Position) (xs : List Token) (t : Token) → advance_all p (xs ++ t ∷ []) ≡ advance (advance_all p xs) t
advance_all-last p xs t = advance_all-append p xs (t ∷ [])

pub fake_advanced_all : (p : Position) (ts : List Token) → (advance_all p ts).fake ≡ p.fake
fake_advanced_all p [] = refl
fake_advanced_all p (t ∷ ts) = fake_advanced_all (advance p t) ts

-- what a recorder knows of its tokens grows by these
pub tokens_advanced_all : (p : Position) (ts xs : List Token) → p.tokens ≡ Some xs → (advance_all p ts).tokens ≡ Some (xs ++ ts)
tokens_advanced_all p [] xs e = e ∙ ap Some (sym (append-nil xs))
tokens_advanced_all p (t ∷ ts) xs e = tokens_advanced_all (advance p t) ts (xs ++ t ∷ []) (ap (option_map (λ ts. ts ++ t ∷ [])) e) ∙ ap Some (append_assoc xs (t ∷ []) ts)

-- a writer that knows its low end has the narrowed interval
pub interval_advanced : (p : Position) (low : ℕ) (t : Token) → p.low ≡ Some low → interval_of (advance p t) ≡ narrow (interval_of p) t
interval_advanced p low t e = cc

valid_at : (range shift fake : ℕ) (low : Option ℕ) (tokens : Option (List Token)) (t : Token) → let p : Position = record { range = range; shift = shift; fake = fake; low = low; tokens = tokens } in IsInterval (interval_of p) → IsToken t → IsInterval (interval_of (advance p t))
valid_at range shift fake (Some low) tokens t v w = narrow_valid _ t v w
valid_at range shift fake None tokens t v w = let n = narrow_valid _ t v w in record { wide = n.wide; below = n.below; inside = omega (arith, n.inside) }

-- a valid token keeps a writer's interval an interval
pub advance_valid : (p : Position) (t : Token) → IsInterval (interval_of p) → IsToken t → IsInterval (interval_of (advance p t))
advance_valid p t v w = valid_at p.range p.shift p.fake p.low p.tokens t v w

pub advance_all_valid : (p : Position) (ts : List Token) → IsInterval (interval_of p) → All IsToken ts → IsInterval (interval_of (advance_all p ts))
advance_all_valid p [] v w = v
advance_all_valid p (t ∷ ts) v w = advance_all_valid (advance p t) ts (advance_valid p t v (All-head IsToken t ts w)) (All-tail IsToken t ts w)

-- a token adds at most 13 bits
pub advance_shift : (p : Position) (t : Token) → IsInterval (interval_of p) → IsToken t → (advance p t).shift ≤ p.shift + 13
advance_shift p t v w = narrow_shift (interval_of p) t v w

pub advance_all_shift : (p : Position) (ts : List Token) → IsInterval (interval_of p) → All IsToken ts → (advance_all p ts).shift ≤ p.shift + 13 * length ts
advance_all_shift p [] v w = omega arith
advance_all_shift p (t ∷ ts) v w =
    let h : IsToken t = All-head IsToken t ts w in
    omega (arith, advance_all_shift (advance p t) ts (advance_valid p t v h) (All-tail IsToken t ts w), advance_shift p t v h)
