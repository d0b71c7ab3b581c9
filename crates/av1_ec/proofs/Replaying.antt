-- Tokens that are stored one after another into another writer.
use Rattle.std.proofs.Common.{◌≡◌, ℕ, ◌+◌, ◌<◌, ◌≤◌, List, [], ◌∷◌, ◌++◌, length, take, drop, get_or, ap, subst, sym, ◌∙◌, arith}
use Rattle.std.proofs.lemmas.List.{length-map, map_more, take-map, take-append-drop, get_or-map}
use Rattle.std.specs.List.{All}
use Rattle.av1_model.specs.Interval.{IsToken}
use Rattle.av1_model.specs.Position.{Position, advance, advance_all}
use Rattle.av1_model.proofs.Positions.{advance_all-append, advance_all-last}
use Rattle.av1_ec.specs.Recorder.{token_in, tokens_in}
use Rattle.av1_ec.specs.declared.recorder.Recorded.{Recorded}
use Rattle.av1_ec.proofs.FlatBits.{shift_rises}

-- one token more
tokens_more : (rs xs : List Recorded) (i : ℕ) (d : Recorded) → xs ≡ rs → i < length xs → take (i + 1) (tokens_in rs) ≡ take i (tokens_in rs) ++ token_in (get_or xs i d) ∷ []
tokens_more rs xs i d e h =
    let l : i < length rs = subst (λ ys. i < length ys) e h in
    take-map token_in (i + 1) rs ∙ map_more token_in rs i d l ∙ ap (λ ys. ys ++ token_in (get_or rs i d) ∷ []) (sym (take-map token_in i rs))
    ∙ ap (λ ys. take i (tokens_in rs) ++ token_in (get_or ys i d) ∷ []) (sym e)

pub token_valid : (rs xs : List Recorded) (i : ℕ) (d : Recorded) → All IsToken (tokens_in rs) → xs ≡ rs → i < length xs → IsToken (token_in (get_or xs i d))
token_valid rs xs i d v e h =
    let l : i < length rs = subst (λ ys. i < length ys) e h in
    subst (λ ys. IsToken (token_in (get_or ys i d))) (sym e) (subst IsToken (get_or-map token_in rs i d (token_in d) l) (v i (token_in d) (omega (arith, length-map rs token_in))))

pub token_stored : (p q q' : Position) (rs xs : List Recorded) (i : ℕ) (d : Recorded) → xs ≡ rs → i < length xs → q ≡ advance_all p (take i (tokens_in rs)) → q' ≡ advance q (token_in (get_or xs i d)) →
    q' ≡ advance_all p (take (i + 1) (tokens_in rs))
token_stored p q q' rs xs i d e h f g =
    g ∙ ap (λ r. advance r (token_in (get_or xs i d))) f ∙ sym (ap (advance_all p) (tokens_more rs xs i d e h) ∙ advance_all-last p (take i (tokens_in rs)) (token_in (get_or xs i d)))

-- no beginning of the tokens takes more than all of them
pub token_within : (p q : Position) (rs xs : List Recorded) (i most : ℕ) (d : Recorded) → xs ≡ rs → i < length xs → q ≡ advance_all p (take i (tokens_in rs)) → (advance_all p (tokens_in rs)).shift ≤ most →
    (advance q (token_in (get_or xs i d))).shift ≤ most
token_within p q rs xs i most d e h f b =
    let ts = tokens_in rs in
    let s = token_stored p q (advance q (token_in (get_or xs i d))) rs xs i d e h f (λ _. advance q (token_in (get_or xs i d))) in
    let whole : advance_all p ts ≡ advance_all (advance_all p (take (i + 1) ts)) (drop (i + 1) ts) = ap (advance_all p) (sym (take-append-drop (i + 1) ts)) ∙ advance_all-append p (take (i + 1) ts) (drop (i + 1) ts) in
    let first : (advance q (token_in (get_or xs i d))).shift ≡ (advance_all p (take (i + 1) ts)).shift = ap (λ (p : Position). p.shift) s in
    let all : (advance_all p ts).shift ≡ (advance_all (advance_all p (take (i + 1) ts)) (drop (i + 1) ts)).shift = ap (λ (p : Position). p.shift) whole in
    omega (arith, first, all, b, shift_rises (advance_all p (take (i + 1) ts)) (drop (i + 1) ts))
