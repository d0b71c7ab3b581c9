-- The trees of codes: the bits of a value lead to it, and no other symbols do.
use Rattle.std.proofs.Common.{◌≡◌, ℕ, zero, suc, ◌+◌, ◌-◌, ◌*◌, ◌/◌, ◌%◌, ◌^◌, ◌<◌, ◌≤◌, List, [], ◌∷◌, ◌++◌, Bool, true, false, nat_eq, nat_lt, nat_le, if◌then◌else◌, replicate, max, ℤ, pos, ◌+ℤ◌, ◌-ℤ◌, ◌≤ℤ◌, ◌<ℤ◌, unsigned_abs, slice_index, length, refl, sym, ◌∙◌, ap, subst, arith, inl, inr}
use Rattle.std.proofs.lemmas.Bool.{cases_lt}
use Rattle.std.proofs.lemmas.Bool.Decides.{nat_tests}
use Rattle.std.proofs.lemmas.Int.{ints}
use Rattle.std.proofs.lemmas.List.{map-append, append-nil}
use Rattle.std.proofs.lemmas.Nat.{pow-add, mod-pow-add, pow_pos}
use Rattle.std.proofs.Math.Nat.{mod-eq_of_lt, mul-le-mul_right}
use Rattle.std.proofs.Math.Pow.{pow_mono}
use Rattle.av1_model.specs.Bits.{has_bit, bits_of}
use Rattle.av1_model.specs.Cdf.{IsCdf, token_of}
use Rattle.av1_model.specs.Comes.{Standing, standing, Writes}
use Rattle.av1_model.specs.Element.{Asks, Reads}
use Rattle.av1_model.specs.Interval.{whole}
use Rattle.av1_model.specs.Position.{advance_all}
use Rattle.av1_model.proofs.ComesLaws.{stored_is}
use Rattle.av1_model.specs.Paths.{tokens_along, context_along}
use Rattle.av1_model.specs.Reading.{Coding, coded, Fits}
use Rattle.av1_model.specs.Syntax.{Syntax, Leads, bind, follow}
use Rattle.av1_model.specs.Syntax.Syntax.{Bad, Done, Ask}
use Rattle.av1_model.proofs.BitsNumbers.{bits_of-zero, bits_of-suc, bits_of-zero_before, bits_of-one_before}
use Rattle.av1_model.proofs.CodesSubexp.{step-last, step-low, step-high}
use Rattle.av1_model.proofs.CodesRecenter.{recenter_finite-below, inverse_recenter_finite-below, inverse-recenter_finite, recenter_finite-inverse}
use Rattle.av1_model.proofs.TreeLaws.{leads_then, leads_apart}
use Rattle.av1_model.specs.Codes.{binary_digits, short_words, quniform, subexp_step, subexp_from, subexp, recenter_finite, inverse_recenter_finite, refsubexp}
use Rattle.av1_model.proofs.CodesDigits.{binary_digits-between}
use Rattle.av1_model.proofs.CodesQuniform.{halves, quniform-one, quniform-short, quniform-long}
use Rattle.av1_ec.specs.CodeTrees.{bit_symbols, bit_then, bits_below, literal_tree, quniform_tree, subexp_step_tree, subexp_tree_from, subexp_tree, refsubexp_tree, between_tree, golomb_tree_after, golomb_tree, AsksOnly, IsFlat, ReadsCode, code}
use Rattle.av1_codes.specs.Codes.{golomb, refsubexp_between}
use Rattle.av1_ec.specs.Flat.{bool_token, flat_tokens}

-- what a bit is worth
abbrev worth : Bool → ℕ
worth b = if b then 1 else 0

never : {Q A : Type 0} (ss : List ℕ) (a : A) → Leads {Q = Q} Bad ss a → ⊥
never [] a h = cc
never (s ∷ ss) a h = cc

done_apart : {Q A : Type 0} (x a : A) (ss : List ℕ) → Leads {Q = Q} (Done x) ss a → (ss ≡ []) × (x ≡ a)
done_apart x a [] h = (refl, let e : x ≡ a = cc in e)
done_apart x a (s ∷ ss) h = absurd cc

module _ {Q : Type 0} (q : Q) where
  -- trees of bits alone
  asks_bind : {A B : Type 0} (t : Syntax Q A) (f : A → Syntax Q B) → AsksOnly q t → ((a : A) → AsksOnly q (f a)) → AsksOnly q (bind t f)
  asks_bind Bad f h k = tt
  asks_bind (Done a) f h k = k a
  asks_bind (Ask p n) f h k = (h.0, λ s l. ap (λ x. bind x f) (h.1 s l), λ s. asks_bind (n s) f (h.2 s) k)

  asks_either : {A : Type 0} (b : Bool) (t u : Syntax Q A) → AsksOnly q t → AsksOnly q u → AsksOnly q (if b then t else u)
  asks_either true t u h k = h
  asks_either false t u h k = k

  asks_bit : {A : Type 0} (k : ℕ → Syntax Q A) → ((s : ℕ) → AsksOnly q (k s)) → AsksOnly q (bit_then q k)
  asks_bit {A} k h = (refl, λ s l. ap (λ (b : Bool). if b then k s else Bad) (let e : nat_lt s 2 ≡ false = grind (arith, nat_tests, l) in e), λ s. asks_either (nat_lt s 2) (k s) Bad (h s) tt)

  below_asks : (n high : ℕ) → AsksOnly q (bits_below q n high)
  below_asks zero high = tt
  below_asks (suc n) high = asks_bit (λ s. bits_below q n (2 * high + s)) (λ s. below_asks n (2 * high + s))

  bit_leads : {A : Type 0} (k : ℕ → Syntax Q A) (b : Bool) (ss : List ℕ) (a : A) → Leads (k (worth b)) ss a → Leads (bit_then q k) (worth b ∷ ss) a
  bit_leads k true ss a h = h
  bit_leads k false ss a h = h

  -- a path of a bit
  record BitPath {A : Type 0} (k : ℕ → Syntax Q A) (ss : List ℕ) (a : A) : Type 0 where
    bit : Bool
    rest : List ℕ
    is : ss ≡ worth bit ∷ rest
    leads : Leads (k (worth bit)) rest a

  bit_apart : {A : Type 0} (k : ℕ → Syntax Q A) (ss : List ℕ) (a : A) → Leads (bit_then q k) ss a → BitPath k ss a
  bit_apart k [] a h = absurd cc
  bit_apart k (zero ∷ rest) a h = record { bit = false; rest = rest; is = refl; leads = h }
  bit_apart k (suc zero ∷ rest) a h = record { bit = true; rest = rest; is = refl; leads = h }
  bit_apart {A} k (suc (suc s) ∷ rest) a h =
      let test : nat_lt (suc (suc s)) 2 ≡ false = grind (arith, nat_tests) in
      absurd (never rest a (subst (λ (b : Bool). Leads (if b then k (suc (suc s)) else Bad) rest a) test h))

  -- the bits below a number lead to what they make of it
  below_leads : (n high v : ℕ) → Leads (bits_below q n high) (bit_symbols (bits_of n v)) (high * 2 ^ n + v % 2 ^ n)
  below_leads zero high v =
      ap (λ (bits : List Bool). follow (Done high) (bit_symbols bits)) (bits_of-zero v) ∙ ap Done (let e : high ≡ high * 2 ^ 0 + v % 2 ^ 0 = omega arith in e)
  below_leads (suc n) high v =
      let b = has_bit v n in
      let low : v % 2 ^ (1 + n) ≡ (v / 2 ^ n % 2 ^ 1) * 2 ^ n + v % 2 ^ n = mod-pow-add v 1 n in
      let size : 2 ^ suc n ≡ 2 ^ n * 2 = ap (λ k. 2 ^ k) (let e : suc n ≡ n + 1 = omega arith in e) ∙ pow-add 2 n 1 in
      let same : 1 + n ≡ suc n = omega arith in
      let w : worth b ≡ v / 2 ^ n % 2 = grind (arith, nat_tests) in
      let low' : v % 2 ^ suc n ≡ (v / 2 ^ n % 2) * 2 ^ n + v % 2 ^ n = ap (λ k. v % 2 ^ k) (sym same) ∙ low in
      let sum : (2 * high + worth b) * 2 ^ n + v % 2 ^ n ≡ high * 2 ^ suc n + v % 2 ^ suc n = rw (low', size, w) (omega arith) in
      subst (λ (bits : List Bool). Leads (bits_below q (suc n) high) (bit_symbols bits) (high * 2 ^ suc n + v % 2 ^ suc n)) (sym (bits_of-suc n v))
      (bit_leads (λ s. bits_below q n (2 * high + s)) b (bit_symbols (bits_of n v)) _ (subst (Leads (bits_below q n (2 * high + worth b)) (bit_symbols (bits_of n v))) sum (below_leads n (2 * high + worth b) v)))

  -- a number of one bit more
  one_more : (b : Bool) (n v : ℕ) → v < 2 ^ n → bits_of (suc n) (worth b * 2 ^ n + v) ≡ b ∷ bits_of n v
  one_more true n v h =
      let e : worth true * 2 ^ n + v ≡ 2 ^ n + v = omega arith in
      let s : suc n ≡ n + 1 = omega arith in
      ap (bits_of (suc n)) e ∙ ap (λ k. bits_of k (2 ^ n + v)) s ∙ bits_of-one_before n v h
  one_more false n v h =
      let e : worth false * 2 ^ n + v ≡ v = omega arith in
      let s : suc n ≡ n + 1 = omega arith in
      ap (bits_of (suc n)) e ∙ ap (λ k. bits_of k v) s ∙ bits_of-zero_before n v h

  -- a path of bits below a number
  record BelowPath (n high : ℕ) (ss : List ℕ) (a : ℕ) : Type 0 where
    low : ℕ
    small : low < 2 ^ n
    value : a ≡ high * 2 ^ n + low
    is : ss ≡ bit_symbols (bits_of n low)

  below_apart : (n high : ℕ) (ss : List ℕ) (a : ℕ) → Leads (bits_below q n high) ss a → BelowPath n high ss a
  below_apart zero high ss a h =
      let d = done_apart high a ss h in
      record { low = 0; small = omega arith; value = omega (arith, d.1); is = d.0 ∙ ap bit_symbols (sym (bits_of-zero 0)) }
  below_apart (suc n) high ss a h =
      let p = bit_apart (λ s. bits_below q n (2 * high + s)) ss a h in
      let r = below_apart n (2 * high + worth p.bit) p.rest a p.leads in
      let size : 2 ^ suc n ≡ 2 ^ n * 2 = ap (λ k. 2 ^ k) (let e : suc n ≡ n + 1 = omega arith in e) ∙ pow-add 2 n 1 in
      let w : worth p.bit ≤ 1 = elim p.bit as (λ b. worth b ≤ 1) [ true ↦ omega arith | false ↦ omega arith ] in
      record {
        low = worth p.bit * 2 ^ n + r.low;
        small = rw size (omega (arith, r.small, mul-le-mul_right (2 ^ n) w));
        value = r.value ∙ rw size (omega arith);
        is = p.is ∙ ap (λ l. worth p.bit ∷ l) r.is ∙ ap bit_symbols (sym (one_more p.bit n r.low r.small));
      }

  pub literal_reads : (n : ℕ) → ReadsCode q (literal_tree q n) (λ v. v < 2 ^ n) (bits_of n)
  unfolding literal_tree
  literal_reads n = record {
    asks = below_asks n 0;
    leads = λ v h. subst (Leads (bits_below q n 0) (bit_symbols (bits_of n v))) (let m : v % 2 ^ n ≡ v = mod-eq_of_lt h in omega (arith, m)) (below_leads n 0 v);
    one_path = λ v ss h. let p = below_apart n 0 ss v h in let e : v ≡ p.low = omega (arith, p.value) in (rw e p.small, p.is ∙ ap (λ x. bit_symbols (bits_of n x)) (sym e));
  }

  -- a code whose values are renamed
  mapped_reads : {V W : Type 0} (t : Syntax Q V) (IsV : V → Type 0) (IsW : W → Type 0) (word : V → List Bool) (f : V → W) (g : W → V) →
      ReadsCode q t IsV word → ((w : W) → IsW w → IsV (g w) × (f (g w) ≡ w)) → ((v : V) → IsV v → IsW (f v) × (g (f v) ≡ v)) →
      ReadsCode q (bind t (λ v. Done (f v))) IsW (λ w. word (g w))
  mapped_reads t IsV IsW word f g r to from = record {
    asks = asks_bind t (λ v. Done (f v)) r.asks (λ v. tt);
    leads = λ w h.
        let n = to w h in
        subst (λ ss. Leads (bind t (λ v. Done (f v))) ss w) (append-nil (bit_symbols (word (g w)))) (leads_then t (λ v. Done (f v)) (bit_symbols (word (g w))) [] (g w) w (r.leads (g w) n.0) (ap Done n.1));
    one_path = λ w ss h.
        let (a, xs, ys, is, first, last) = leads_apart t (λ v. Done (f v)) ss w h in
        let d = done_apart (f a) w ys last in
        let p = r.one_path a xs first in
        let n = from a p.0 in
        (subst IsW d.1 n.0, is ∙ ap (λ l. xs ++ l) d.0 ∙ append-nil xs ∙ p.1 ∙ ap (λ v. bit_symbols (word v)) (sym n.1 ∙ ap g d.1));
  }

  -- one of two trees
  then_tree : {A : Type 0} (b : Bool) (t u : Syntax Q A) → b ≡ true → (if b then t else u) ≡ t
  then_tree true t u h = refl
  then_tree false t u h = cc

  else_tree : {A : Type 0} (b : Bool) (t u : Syntax Q A) → b ≡ false → (if b then t else u) ≡ u
  else_tree true t u h = cc
  else_tree false t u h = refl

  is_less : (v m : ℕ) → v < m → nat_lt v m ≡ true
  is_less v m h = grind (arith, nat_tests)

  is_more : (v m : ℕ) → m ≤ v → nat_lt v m ≡ false
  is_more v m h = grind (arith, nat_tests)

  -- what is read after the shorter part of a quasi-uniform word
  quniform_rest : ℕ → ℕ → Syntax Q ℕ
  quniform_rest m v = if nat_lt v m then Done v else bit_then q (λ s. Done (2 * v - m + s))

  quniform_leads : (n v : ℕ) → 2 ≤ n → v < n → Leads (bind (literal_tree q (binary_digits n - 1)) (quniform_rest (short_words n))) (bit_symbols (quniform n v)) v
  unfolding quniform_rest
  quniform_leads n v two below =
      let m = short_words n in
      let h = binary_digits n - 1 in
      let parts = halves n two in
      let r = literal_reads h in
      elim (cases_lt v m) [
        | inl short ↦
            let l : Leads (quniform_rest m v) [] v = then_tree (nat_lt v m) (Done v) (bit_then q (λ s. Done (2 * v - m + s))) (is_less v m short) in
            subst (λ ss. Leads (bind (literal_tree q h) (quniform_rest m)) ss v) (append-nil (bit_symbols (bits_of h v)) ∙ ap bit_symbols (sym (quniform-short n v two short)))
            (leads_then (literal_tree q h) (quniform_rest m) (bit_symbols (bits_of h v)) [] v v (r.leads v (omega (arith, short, parts.fits))) l)
        | inr long ↦
            let x = m + (v - m) / 2 in
            let b = has_bit (v - m) 0 in
            let w : worth b ≡ (v - m) % 2 = grind (arith, nat_tests) in
            let value : 2 * x - m + worth b ≡ v = rw w (omega (arith, long)) in
            let d : Leads (bit_then q (λ s. Done (2 * x - m + s))) (worth b ∷ []) v = bit_leads (λ s. Done (2 * x - m + s)) b [] v (ap Done value) in
            let l : Leads (quniform_rest m x) (worth b ∷ []) v =
            subst (λ (t : Syntax Q ℕ). Leads t (worth b ∷ []) v) (sym (else_tree (nat_lt x m) (Done x) (bit_then q (λ s. Done (2 * x - m + s))) (is_more x m (omega arith)))) d in
            subst (λ ss. Leads (bind (literal_tree q h) (quniform_rest m)) ss v) (sym (map-append worth (bits_of h x) (b ∷ [])) ∙ ap bit_symbols (sym (quniform-long n v two long)))
            (leads_then (literal_tree q h) (quniform_rest m) (bit_symbols (bits_of h x)) (worth b ∷ []) x v (r.leads x (omega (arith, below, long, parts.all))) l)
      ]

  -- the value of a longer word, of its shorter part and its last bit
  long_value : (n v a : ℕ) (b : Bool) → 2 ≤ n → short_words n ≤ a → a < 2 ^ (binary_digits n - 1) → v ≡ 2 * a - short_words n + worth b →
      (v < n) × (quniform n v ≡ bits_of (binary_digits n - 1) a ++ b ∷ [])
  long_value n v a b two long small e =
      let m = short_words n in
      let h = binary_digits n - 1 in
      let parts = halves n two in
      let w : worth b ≤ 1 = elim b as (λ b. worth b ≤ 1) [ true ↦ omega arith | false ↦ omega arith ] in
      let half : m + (v - m) / 2 ≡ a = omega (arith, long, e, w) in
      let low : (v - m) % 2 ≡ worth b = omega (arith, long, e, w) in
      let bit : has_bit (v - m) 0 ≡ b = ap (λ x. nat_eq x 1) (let f : (v - m) / 2 ^ 0 % 2 ≡ worth b = omega (arith, low) in f) ∙ elim b as (λ b. nat_eq (worth b) 1 ≡ b) [ true ↦ refl | false ↦ refl ] in
      (omega (arith, e, w, small, parts.all), quniform-long n v two (omega (arith, long, e)) ∙ ap (λ x. bits_of h x ++ has_bit (v - m) 0 ∷ []) half ∙ ap (λ (c : Bool). bits_of h a ++ c ∷ []) bit)

  quniform_path : (n v : ℕ) (ss : List ℕ) → 2 ≤ n → Leads (bind (literal_tree q (binary_digits n - 1)) (quniform_rest (short_words n))) ss v → (v < n) × (ss ≡ bit_symbols (quniform n v))
  unfolding quniform_rest
  quniform_path n v ss two l =
      let m = short_words n in
      let h = binary_digits n - 1 in
      let parts = halves n two in
      let (a, xs, ys, is, first, last) = leads_apart (literal_tree q h) (quniform_rest m) ss v l in
      let p = (literal_reads h).one_path a xs first in
      elim (cases_lt a m) [
        | inl short ↦
            let d = done_apart a v ys (subst (λ (t : Syntax Q ℕ). Leads t ys v) (then_tree (nat_lt a m) (Done a) (bit_then q (λ s. Done (2 * a - m + s))) (is_less a m short)) last) in
            let below : v < n = omega (arith, d.1, short, parts.fits, parts.all) in
            (below, is ∙ ap (λ l. xs ++ l) d.0 ∙ append-nil xs ∙ p.1 ∙ ap bit_symbols (ap (bits_of h) d.1 ∙ sym (quniform-short n v two (omega (arith, d.1, short)))))
        | inr long ↦
            let b = bit_apart (λ s. Done (2 * a - m + s)) ys v (subst (λ (t : Syntax Q ℕ). Leads t ys v) (else_tree (nat_lt a m) (Done a) (bit_then q (λ s. Done (2 * a - m + s))) (is_more a m long)) last) in
            let d = done_apart (2 * a - m + worth b.bit) v b.rest b.leads in
            let f = long_value n v a b.bit two long p.0 (sym d.1) in
            (f.0, is ∙ ap (λ l. xs ++ l) (b.is ∙ ap (λ l. worth b.bit ∷ l) d.0) ∙ ap (λ l. l ++ worth b.bit ∷ []) p.1 ∙ sym (map-append worth (bits_of h a) (b.bit ∷ [])) ∙ ap bit_symbols (sym f.1))
      ]

  pub quniform_reads : (n : ℕ) → ReadsCode q (quniform_tree q n) (λ v. v < max n 1) (quniform n)
  unfolding quniform_tree quniform_rest
  quniform_reads n =
      let rest = bind (literal_tree q (binary_digits n - 1)) (quniform_rest (short_words n)) in
      elim (cases_lt n 2) [
        | inl few ↦
            let start : Syntax Q ℕ = Done 0 in
            let one : ReadsCode q start (λ v. v < max n 1) (quniform n) = record {
              asks = tt;
              leads = λ v h.
                  let z : 0 ≡ v = grind (arith, nat_tests) in
                  ap (λ (bits : List Bool). follow (Done 0) (bit_symbols bits)) (quniform-one n v few) ∙ ap Done z;
              one_path = λ v ss h. let d = done_apart 0 v ss h in (grind (arith, nat_tests), d.0 ∙ ap bit_symbols (sym (quniform-one n v few)));
            } in
            subst (λ (t : Syntax Q ℕ). ReadsCode q t (λ v. v < max n 1) (quniform n)) (sym (then_tree (nat_lt n 2) (Done 0) rest (is_less n 2 few))) one
        | inr two ↦
            let m = short_words n in
            let many : ReadsCode q rest (λ v. v < max n 1) (quniform n) = record {
              asks = asks_bind (literal_tree q (binary_digits n - 1)) (quniform_rest m) (literal_reads (binary_digits n - 1)).asks
                  (λ v. asks_either (nat_lt v m) (Done v) (bit_then q (λ s. Done (2 * v - m + s))) tt (asks_bit (λ s. Done (2 * v - m + s)) (λ s. tt)));
              leads = λ v h. quniform_leads n v two (let e : v < n = grind (arith, nat_tests) in e);
              one_path = λ v ss h. let p = quniform_path n v ss two h in (let e : v < n = p.0 in grind (arith, nat_tests), p.1);
            } in
            subst (λ (t : Syntax Q ℕ). ReadsCode q t (λ v. v < max n 1) (quniform n)) (sym (else_tree (nat_lt n 2) (Done 0) rest (is_more n 2 two))) many
      ]

  -- what is read after the bit that says whether a value lies above a width
  subexp_rest : ℕ → Syntax Q ℕ → ℕ → Syntax Q ℕ
  subexp_rest b rest more = if nat_eq more 0 then literal_tree q b else bind rest (λ v. Done (2 ^ b + v))

  -- the values above a width
  high_reads : (b n : ℕ) (rest : Syntax Q ℕ) (word : ℕ → List Bool) → 3 * 2 ^ b < n → ReadsCode q rest (λ v. v < max (n - 2 ^ b) 1) word →
      ReadsCode q (bind rest (λ v. Done (2 ^ b + v))) (λ v. (2 ^ b ≤ v) × (v < n)) (λ v. word (v - 2 ^ b))
  high_reads b n rest word many r =
      mapped_reads rest (λ v. v < max (n - 2 ^ b) 1) (λ v. (2 ^ b ≤ v) × (v < n)) word (λ v. 2 ^ b + v) (λ v. v - 2 ^ b) r
      (λ w h. let e : w - 2 ^ b < n - 2 ^ b = omega (arith, h.0, h.1) in (grind (arith, nat_tests), omega (arith, h.0)))
      (λ v h. let e : v < n - 2 ^ b = grind (arith, nat_tests) in ((omega arith, omega (arith, e)), omega arith))

  step_many : (b n : ℕ) (rest : Syntax Q ℕ) (word : ℕ → List Bool) → 3 * 2 ^ b < n → ReadsCode q rest (λ v. v < max (n - 2 ^ b) 1) word →
      ReadsCode q (bit_then q (subexp_rest b rest)) (λ v. v < n) (λ v. subexp_step b n v (word (v - 2 ^ b)))
  unfolding subexp_rest
  step_many b n rest word many r =
      let low = literal_reads b in
      let high = high_reads b n rest word many r in
      record {
        asks = asks_bit (subexp_rest b rest) (λ more. asks_either (nat_eq more 0) (literal_tree q b) (bind rest (λ v. Done (2 ^ b + v))) low.asks high.asks);
        leads = λ v h. elim (cases_lt v (2 ^ b)) [
          | inl l ↦
              subst (λ (bits : List Bool). Leads (bit_then q (subexp_rest b rest)) (bit_symbols bits) v) (sym (step-low b n v (word (v - 2 ^ b)) many l))
              (bit_leads (subexp_rest b rest) false (bit_symbols (bits_of b v)) v (low.leads v l))
          | inr l ↦
              subst (λ (bits : List Bool). Leads (bit_then q (subexp_rest b rest)) (bit_symbols bits) v) (sym (step-high b n v (word (v - 2 ^ b)) many l))
              (bit_leads (subexp_rest b rest) true (bit_symbols (word (v - 2 ^ b))) v (high.leads v (l, h)))
        ];
        one_path = λ v ss h. let p = bit_apart (subexp_rest b rest) ss v h in step_path v ss p.bit p.rest p.is p.leads;
      }
    where
      step_path : (v : ℕ) (ss : List ℕ) (bit : Bool) (after : List ℕ) → ss ≡ worth bit ∷ after → Leads (subexp_rest b rest (worth bit)) after v →
          (v < n) × (ss ≡ bit_symbols (subexp_step b n v (word (v - 2 ^ b))))
      step_path v ss false after is l =
          let p = (literal_reads b).one_path v after l in
          (omega (arith, p.0, many), is ∙ ap (λ l. 0 ∷ l) p.1 ∙ ap bit_symbols (sym (step-low b n v (word (v - 2 ^ b)) many p.0)))
      step_path v ss true after is l =
          let p = (high_reads b n rest word many r).one_path v after l in
          (p.0.1, is ∙ ap (λ l. 1 ∷ l) p.1 ∙ ap bit_symbols (sym (step-high b n v (word (v - 2 ^ b)) many p.0.0)))

  step_reads : (b n : ℕ) (rest : Syntax Q ℕ) (word : ℕ → List Bool) → (3 * 2 ^ b < n → ReadsCode q rest (λ v. v < max (n - 2 ^ b) 1) word) →
      ReadsCode q (subexp_step_tree q b n rest) (λ v. v < max n 1) (λ v. subexp_step b n v (word (v - 2 ^ b)))
  unfolding subexp_rest
  step_reads b n rest word r =
      elim (cases_lt (3 * 2 ^ b) n) [
        | inr few ↦
            let s = quniform_reads n in
            let t : nat_le n (3 * 2 ^ b) ≡ true = grind (arith, nat_tests) in
            let last : ReadsCode q (quniform_tree q n) (λ v. v < max n 1) (λ v. subexp_step b n v (word (v - 2 ^ b))) = record {
              asks = s.asks;
              leads = λ v h. subst (λ (bits : List Bool). Leads (quniform_tree q n) (bit_symbols bits) v) (sym (step-last b n v (word (v - 2 ^ b)) few)) (s.leads v h);
              one_path = λ v ss h. let p = s.one_path v ss h in (p.0, p.1 ∙ ap bit_symbols (sym (step-last b n v (word (v - 2 ^ b)) few)));
            } in
            subst (λ (t : Syntax Q ℕ). ReadsCode q t (λ v. v < max n 1) (λ v. subexp_step b n v (word (v - 2 ^ b)))) (sym (then_tree (nat_le n (3 * 2 ^ b)) (quniform_tree q n) (bit_then q (subexp_rest b rest)) t)) last
        | inl many ↦
            let s = step_many b n rest word many (r many) in
            let t : nat_le n (3 * 2 ^ b) ≡ false = grind (arith, nat_tests) in
            let more : ReadsCode q (bit_then q (subexp_rest b rest)) (λ v. v < max n 1) (λ v. subexp_step b n v (word (v - 2 ^ b))) = record {
              asks = s.asks;
              leads = λ v h. s.leads v (let e : v < n = grind (arith, nat_tests) in e);
              one_path = λ v ss h. let p = s.one_path v ss h in (let e : v < n = p.0 in grind (arith, nat_tests), p.1);
            } in
            subst (λ (t : Syntax Q ℕ). ReadsCode q t (λ v. v < max n 1) (λ v. subexp_step b n v (word (v - 2 ^ b)))) (sym (else_tree (nat_le n (3 * 2 ^ b)) (quniform_tree q n) (bit_then q (subexp_rest b rest)) t)) more
      ]

  from_reads : (steps b n : ℕ) → n ≤ steps → ReadsCode q (subexp_tree_from q steps b n) (λ v. v < max n 1) (subexp_from steps b n)
  from_reads zero b n enough = record {
    asks = tt;
    leads = λ v h. ap Done (let z : 0 ≡ v = grind (arith, nat_tests) in z);
    one_path = λ v ss h. let d = done_apart 0 v ss h in (grind (arith, nat_tests), d.0);
  }
  from_reads (suc steps) b n enough =
      step_reads b n (subexp_tree_from q steps (suc b) (n - 2 ^ b)) (subexp_from steps (suc b) (n - 2 ^ b)) (λ many. from_reads steps (suc b) (n - 2 ^ b) (omega (arith, enough, many, pow_pos b)))

  pub subexp_reads : (n k : ℕ) → ReadsCode q (subexp_tree q n k) (λ v. v < max n 1) (subexp n k)
  unfolding subexp_tree subexp
  subexp_reads n k = step_reads k n (subexp_tree_from q n k (n - 2 ^ k)) (subexp_from n k (n - 2 ^ k)) (λ many. from_reads n k (n - 2 ^ k) (omega arith))

  pub refsubexp_reads : (n k r : ℕ) → r < n → ReadsCode q (refsubexp_tree q n k r) (λ v. v < n) (refsubexp n k r)
  refsubexp_reads n k r within =
      mapped_reads (subexp_tree q n k) (λ v. v < max n 1) (λ v. v < n) (subexp n k) (inverse_recenter_finite n r) (recenter_finite n r) (subexp_reads n k)
      (λ w h. (let e : recenter_finite n r w < n = recenter_finite-below n r w within h in grind (arith, nat_tests), inverse-recenter_finite n r w within h))
      (λ v h. let e : v < n = grind (arith, nat_tests) in (inverse_recenter_finite-below n r v within e, recenter_finite-inverse n r v within e))

  pub between_reads : (low high r : ℤ) (k : ℕ) → low ≤ℤ r → r <ℤ high → ReadsCode q (between_tree q low high k r) (λ v. (low ≤ℤ v) × (v <ℤ high)) (refsubexp_between low high k r)
  between_reads low high r k from to =
      let n = unsigned_abs (high -ℤ low) in
      let at = unsigned_abs (r -ℤ low) in
      mapped_reads (refsubexp_tree q n k at) (λ v. v < n) (λ v. (low ≤ℤ v) × (v <ℤ high)) (refsubexp n k at) (λ v. low +ℤ pos v) (λ v. unsigned_abs (v -ℤ low)) (refsubexp_reads n k at (omega (arith, ints, from, to)))
      (λ w h. (omega (arith, ints, h.0, h.1), omega (arith, ints, h.0, h.1)))
      (λ v h. ((omega (arith, ints), omega (arith, ints, h, from, to)), omega (arith, ints)))

  -- the rest of a golomb word after n zeros
  golomb_after : ℕ → ℕ → List Bool
  golomb_after n level = let l = binary_digits (level + 1) in replicate (l - 1 - n) false ++ bits_of l (level + 1)

  digits_are : (n x : ℕ) → 2 ^ n ≤ x → x < 2 ^ (n + 1) → binary_digits x ≡ n + 1
  digits_are n x from to =
      let there = binary_digits-between x (omega (arith, from, pow_pos n)) in
      let l = binary_digits x in
      let most : l ≤ n + 1 = elim (cases_lt (n + 1) l) [ inr h ↦ h | inl h ↦ absurd (omega (arith, to, there.from, pow_mono {i = n + 1} {j = l - 1} (omega (arith, h)))) ] in
      let least : n + 1 ≤ l = elim (cases_lt l (n + 1)) [ inr h ↦ h | inl h ↦ absurd (omega (arith, from, there.to, pow_mono {i = l} {j = n} (omega (arith, h)))) ] in
      omega (arith, most, least)

  -- where the first one comes now
  golomb_now : (n level low : ℕ) → low < 2 ^ n → level + 1 ≡ 2 ^ n + low → (binary_digits (level + 1) ≡ n + 1) × (golomb_after n level ≡ true ∷ bits_of n low)
  unfolding golomb_after
  golomb_now n level low small e =
      let up : 2 ^ (n + 1) ≡ 2 ^ n * 2 = pow-add 2 n 1 in
      let d = digits_are n (level + 1) (omega (arith, e)) (omega (arith, e, up, small)) in
      let none : n + 1 - 1 - n ≡ 0 = omega arith in
      (d, ap (λ l. replicate (l - 1 - n) false ++ bits_of l (level + 1)) d ∙ ap (λ k. replicate k false ++ bits_of (n + 1) (level + 1)) none ∙ ap (bits_of (n + 1)) e ∙ bits_of-one_before n low small)

  -- where another zero comes first
  golomb_later : (n level : ℕ) → n + 1 < binary_digits (level + 1) → golomb_after n level ≡ false ∷ golomb_after (suc n) level
  unfolding golomb_after
  golomb_later n level h =
      let l = binary_digits (level + 1) in
      ap (λ k. replicate k false ++ bits_of l (level + 1)) (let e : l - 1 - n ≡ suc (l - 1 - suc n) = omega (arith, h) in e)

  -- what is read after a bit of the zeros
  golomb_rest : ℕ → ℕ → ℕ → Syntax Q ℕ
  golomb_rest more n s = if nat_eq s 0 then golomb_tree_after q more (suc n) else bind (bits_below q n 1) (λ v. Done (v - 1))

  -- the values that are read after n zeros, where so many bits may follow up to the first one
  HasDigits : ℕ → ℕ → ℕ → Type 0
  HasDigits more n v = (n < binary_digits (v + 1)) × (binary_digits (v + 1) ≤ n + more)

  golomb_path : (more n : ℕ) → ReadsCode q (golomb_tree_after q more (suc n)) (HasDigits more (suc n)) (golomb_after (suc n)) → (v : ℕ) (ss : List ℕ) (bit : Bool) (after : List ℕ) →
      ss ≡ worth bit ∷ after → Leads (golomb_rest more n (worth bit)) after v → HasDigits (suc more) n v × (ss ≡ bit_symbols (golomb_after n v))
  unfolding golomb_rest HasDigits
  golomb_path more n deeper v ss false after is l =
      let p = deeper.one_path v after l in
      ((omega (arith, p.0.0), omega (arith, p.0.1)), is ∙ ap (λ l. 0 ∷ l) p.1 ∙ ap bit_symbols (sym (golomb_later n v (omega (arith, p.0.0)))))
  golomb_path more n deeper v ss true after is l =
      let (a, xs, ys, at, first, last) = leads_apart (bits_below q n 1) (λ v. Done (v - 1)) after v l in
      let p = below_apart n 1 xs a first in
      let d = done_apart (a - 1) v ys last in
      let now = golomb_now n v p.low p.small (omega (arith, p.value, d.1, pow_pos n)) in
      ((omega (arith, now.0), omega (arith, now.0)), is ∙ ap (λ l. 1 ∷ l) (at ∙ ap (λ l. xs ++ l) d.0 ∙ append-nil xs ∙ p.is) ∙ ap bit_symbols (sym now.1))

  golomb_after_reads : (more n : ℕ) → ReadsCode q (golomb_tree_after q more n) (HasDigits more n) (golomb_after n)
  unfolding golomb_rest HasDigits
  golomb_after_reads zero n = record {
    asks = tt;
    leads = λ v h. absurd (omega (arith, h.0, h.1));
    one_path = λ v ss h. absurd (never ss v h);
  }
  golomb_after_reads (suc more) n = record {
    asks = asks_bit (golomb_rest more n)
        (λ s. asks_either (nat_eq s 0) (golomb_tree_after q more (suc n)) (bind (bits_below q n 1) (λ v. Done (v - 1))) (golomb_after_reads more (suc n)).asks (asks_bind (bits_below q n 1) (λ v. Done (v - 1)) (below_asks n 1) (λ v. tt)));
    leads = λ v h. elim (cases_lt (n + 1) (binary_digits (v + 1))) [
      | inl l ↦
          subst (λ (bits : List Bool). Leads (bit_then q (golomb_rest more n)) (bit_symbols bits) v) (sym (golomb_later n v l))
          (bit_leads (golomb_rest more n) false (bit_symbols (golomb_after (suc n) v)) v ((golomb_after_reads more (suc n)).leads v (omega (arith, l), omega (arith, h.1))))
      | inr l ↦
          let there = binary_digits-between (v + 1) (omega arith) in
          let d : binary_digits (v + 1) ≡ n + 1 = omega (arith, l, h.0) in
          let from : 2 ^ n ≤ v + 1 = subst (λ k. 2 ^ k ≤ v + 1) (let e : binary_digits (v + 1) - 1 ≡ n = omega (arith, d) in e) there.from in
          let to : v + 1 < 2 ^ n * 2 = omega (arith, pow-add 2 n 1, subst (λ k. v + 1 < 2 ^ k) d there.to) in
          let low = v + 1 - 2 ^ n in
          let small : low < 2 ^ n = omega (arith, from, to) in
          let now = golomb_now n v low small (omega (arith, from)) in
          let value : 1 * 2 ^ n + low % 2 ^ n - 1 ≡ v = omega (arith, mod-eq_of_lt small, from) in
          let after : Leads (golomb_rest more n 1) (bit_symbols (bits_of n low)) v =
          subst (λ ss. Leads (golomb_rest more n 1) ss v) (append-nil (bit_symbols (bits_of n low)))
          (leads_then (bits_below q n 1) (λ v. Done (v - 1)) (bit_symbols (bits_of n low)) [] (1 * 2 ^ n + low % 2 ^ n) v (below_leads n 1 low) (ap Done value)) in
          subst (λ (bits : List Bool). Leads (bit_then q (golomb_rest more n)) (bit_symbols bits) v) (sym now.1) (bit_leads (golomb_rest more n) true (bit_symbols (bits_of n low)) v after)
    ];
    one_path = λ v ss h. let p = bit_apart (golomb_rest more n) ss v h in golomb_path more n (golomb_after_reads more (suc n)) v ss p.bit p.rest p.is p.leads;
  }

  pub golomb_reads : (most : ℕ) → ReadsCode q (golomb_tree q most) (λ v. v + 1 < 2 ^ most) golomb
  unfolding golomb_tree golomb_after HasDigits
  golomb_reads most =
      let all : (v : ℕ) → golomb_after 0 v ≡ golomb v = λ v. let l = binary_digits (v + 1) in ap (λ k. replicate k false ++ bits_of l (v + 1)) (let e : l - 1 - 0 ≡ l - 1 = omega arith in e) in
      record {
        asks = (golomb_after_reads most 0).asks;
        leads = λ v h.
            let there = binary_digits-between (v + 1) (omega arith) in
            let few : binary_digits (v + 1) ≤ most = elim (cases_lt most (binary_digits (v + 1))) [ inr l ↦ l | inl l ↦ absurd (omega (arith, h, there.from, pow_mono {i = most} {j = binary_digits (v + 1) - 1} (omega (arith, l)))) ] in
            subst (λ (bits : List Bool). Leads (golomb_tree_after q most 0) (bit_symbols bits) v) (all v) ((golomb_after_reads most 0).leads v (there.some, omega (arith, few)));
        one_path = λ v ss h.
            let p = (golomb_after_reads most 0).one_path v ss h in
            let there = binary_digits-between (v + 1) (omega arith) in
            (omega (arith, there.to, pow_mono {i = binary_digits (v + 1)} {j = most} (omega (arith, p.0.1))), p.1 ∙ ap bit_symbols (all v));
      }

even_cdf : IsCdf (16384 ∷ 0 ∷ [])
even_cdf = record { two = omega arith; few = omega arith; below = below; falls = falls; count = omega arith }
  where
    below : (k : ℕ) → k + 1 < 2 → slice_index (16384 ∷ 0 ∷ []) k < 32768
    below zero h = omega arith
    below (suc k) h = absurd (omega (arith, h))

    falls : (j k : ℕ) → j ≤ k → k + 1 < 2 → slice_index (16384 ∷ 0 ∷ []) k ≤ slice_index (16384 ∷ 0 ∷ []) j
    falls zero zero l h = omega arith
    falls (suc j) zero l h = absurd (omega (arith, l))
    falls j (suc k) l h = absurd (omega (arith, h))

-- paths of trees of bits alone, each as likely as not
module _ {Q C : Type 0} (contents : C → Q → List ℕ) (adapted : C → Q → ℕ → C) (q : Q) (flat : IsFlat contents adapted q) where
  pub flat_context : {A : Type 0} (t : Syntax Q A) (ss : List ℕ) (c : C) → AsksOnly q t → context_along contents adapted t ss c ≡ c
  flat_context t [] c h = refl
  flat_context Bad (s ∷ ss) c h = refl
  flat_context (Done a) (s ∷ ss) c h = refl
  flat_context (Ask p k) (s ∷ ss) c h = flat_context (k s) ss (adapted c p s) (h.2 s) ∙ ap (λ p. adapted c p s) h.0 ∙ flat.same c s

  pub flat_along : {A : Type 0} (t : Syntax Q A) (bits : List Bool) (a : A) (c : C) → AsksOnly q t → Leads t (bit_symbols bits) a → tokens_along contents adapted t (bit_symbols bits) c ≡ flat_tokens bits
  flat_along t [] a c h l = refl
  flat_along Bad (b ∷ bits) a c h l = cc
  flat_along (Done d) (b ∷ bits) a c h l = cc
  flat_along (Ask p k) (b ∷ bits) a c h l =
      let s = worth b in
      let rest = tokens_along contents adapted (k s) (bit_symbols bits) (adapted c p s) in
      ap (λ cdf. token_of cdf s ∷ rest) (ap (contents c) h.0 ∙ flat.even c) ∙ ap (λ ts. bool_token 16384 b ∷ ts) (flat_along (k s) bits a (adapted c p s) (h.2 s) l)

  pub flat_fits : {A : Type 0} (t : Syntax Q A) (bits : List Bool) (a : A) (at : Coding C) → AsksOnly q t → Leads t (bit_symbols bits) a → Fits contents adapted t (bit_symbols bits) at.context
  flat_fits t [] a at h l = tt
  flat_fits Bad (b ∷ bits) a at h l = absurd cc
  flat_fits (Done d) (b ∷ bits) a at h l = absurd cc
  flat_fits (Ask p k) (b ∷ bits) a at h l =
      let e : contents at.context p ≡ 16384 ∷ 0 ∷ [] = ap (contents at.context) h.0 ∙ flat.even at.context in
      let w : worth b < 2 = elim b as (λ b. worth b < 2) [ true ↦ omega arith | false ↦ omega arith ] in
      (subst IsCdf (sym e) even_cdf, subst (λ (cdf : List ℕ). worth b < length cdf) (sym e) w, flat_fits (k (worth b)) bits a (coded contents adapted at p (worth b)) (h.2 (worth b)) l)

  -- bits of a code are written where their tokens are stored and the context stays
  pub flat_writes : {A : Type 0} (t : Syntax Q A) (bits : List Bool) (a : A) (old new : Standing C) → AsksOnly q t → Leads t (bit_symbols bits) a →
      new.position ≡ advance_all old.position (flat_tokens bits) → new.context ≡ old.context → Writes contents adapted t a old new
  flat_writes t bits a old new asks leads e f = record {
    symbols = bit_symbols bits;
    follows = leads;
    fits = flat_fits t bits a (record { interval = whole; context = old.context }) asks leads;
    wrote = (let p = e ∙ ap (advance_all old.position) (sym (flat_along t bits a old.context asks leads)) in let d = f ∙ sym (flat_context t (bit_symbols bits) old.context asks) in λ i. standing (p i) (d i))
        ∙ sym (stored_is contents adapted t (bit_symbols bits) old);
  }

-- a code is an element with one path to each value
module _ {Q : Type 0} (IsOne : Q → ℕ → Type 0) where
  code_asks : {A : Type 0} (q : Q) (t : Syntax Q A) → IsOne q 2 → AsksOnly q t → Asks IsOne t
  code_asks q Bad one h = tt
  code_asks q (Done a) one h = tt
  code_asks q (Ask p k) one h = (2, subst (λ x. IsOne x 2) (sym h.0) one, h.1, λ s l. code_asks q (k s) one (h.2 s))

  length-bits : (bits : List Bool) → length (bit_symbols bits) ≡ length bits
  length-bits [] = refl
  length-bits (b ∷ bits) = ap suc (length-bits bits)

  pub code_reads : {V : Type 0} (q : Q) (t : Syntax Q V) (P : V → Type 0) (word : V → List Bool) (most : ℕ) → IsOne q 2 → ReadsCode q t P word → ((v : V) → P v → length (word v) ≤ most) → Reads IsOne (code t word) P most
  code_reads q t P word most one r few = record { leads = r.leads; one_path = r.one_path; asks = code_asks q t one r.asks; few = λ v h. let b = few v h in omega (arith, b, length-bits (word v)) }
