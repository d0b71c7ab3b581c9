-- What is known of a writer, whichever it is: an encoder, a recorder or a counter.
use Rattle.std.specs.Prelude.{ℕ, List, [], ◌∷◌, ◌++◌, Option, Some, None, option_map, unwrap_or}
use Rattle.av1_model.specs.Interval.{Interval, Token, narrow}

-- the range and the shift of its interval, the fake bits in 256ths of a bit, an encoder's low end, a recorder's tokens
pub record Position : Type 0 where
  pub range : ℕ
  pub shift : ℕ
  pub fake : ℕ
  pub low : Option ℕ
  pub tokens : Option (List Token)

-- the interval of a writer whose low end is this
abbrev pub interval_at : Position → ℕ → Interval
interval_at p low = record { low = low; range = p.range; shift = p.shift }

-- the interval of an encoder; of another writer, its range and shift
abbrev pub interval_of : Position → Interval
interval_of p = interval_at p (unwrap_or p.low 0)

-- after a token: the range and the shift don't depend on the low end
abbrev pub advance : Position → Token → Position
advance p t = record {
  range = (narrow (interval_at p 0) t).range;
  shift = (narrow (interval_at p 0) t).shift;
  fake = p.fake;
  low = option_map (λ low. (narrow (interval_at p low) t).low) p.low;
  tokens = option_map (λ ts. ts ++ t ∷ []) p.tokens;
}

-- after tokens, in order
abbrev pub advance_all : Position → List Token → Position
advance_all p [] = p
advance_all p (t ∷ ts) = advance_all (advance p t) ts

-- an encoder that stands at this interval, with no fake bits
abbrev pub encoder_at : Interval → Position
encoder_at i = record { range = i.range; shift = i.shift; fake = 0; low = Some i.low; tokens = None }
