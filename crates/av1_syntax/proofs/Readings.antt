-- The factors of chroma from luma, the segments and the literals have one path to each value.
use Rattle.std.proofs.Common.{◌≡◌, ℕ, zero, suc, ◌+◌, ◌-◌, ◌*◌, ◌^◌, ◌<◌, ◌≤◌, [], ◌∷◌, Bool, true, false, Option, Some, None, if◌then◌else◌, nat_lt, codes, refl, sym, ap, subst, ◌∙◌, arith, ℤ, pos, negsuc}
use Rattle.std.proofs.lemmas.Bool.Decides.{nat_tests}
use Rattle.std.proofs.lemmas.Option.{slice_get_past}
use Rattle.av1_blocks.specs.Grid.{Grid}
use Rattle.av1_cdf.specs.Distribution.{Distribution, Even, HasSymbols}
use Rattle.av1_ec.specs.CodeTrees.{literal_tree}
use Rattle.av1_ec.proofs.CodeTrees.{literal_reads, code_reads}
use Rattle.av1_geometry.specs.Cfl.{sign_number, sign_of, signed, magnitude}
use Rattle.av1_geometry.specs.declared.block_offset.BlockOffset.{BlockOffset}
use Rattle.av1_geometry.specs.declared.cfl.CFLSign.{CFLSign}
use Rattle.av1_geometry.specs.declared.cfl.CFLSign.TheVariants.{CFL_SIGN_ZERO, CFL_SIGN_NEG, CFL_SIGN_POS}
use Rattle.av1_model.specs.Bits.{bits_of}
use Rattle.av1_model.specs.Element.{Element, known, symbol, renamed, Reads}
use Rattle.av1_model.proofs.BitsNumbers.{length-bits_of}
use Rattle.av1_model.proofs.ElementLaws.{known_reads, reads_as, symbol_reads, choose_reads, after_reads, renamed_reads}
use Rattle.av1_syntax.specs.Calls.{adaptive}
use Rattle.av1_syntax.specs.Factors.{joint_signs, signs_of, signs_number, signs_element, factor_of, factor_number, factor_element, sizes_element, factors_element, AreFactors}
use Rattle.av1_syntax.specs.Literals.{literal}
use Rattle.av1_syntax.specs.Segments.{interleaved, deinterleaved, agreement, segment_before, predicted_segment, segment_context, segment_element, IsSegment}
use Rattle.av1_syntax.proofs.Factors.{neg_is, signs_told, magnitude_signed, factor_told}
use Rattle.av1_syntax.proofs.Gathering.{two_numbers}
use Rattle.av1_syntax.proofs.Segments.{deinterleaved_below, deinterleaved_back, segment_told, predicted_few}
use Rattle.av1_syntax.proofs.Slots.{cfl_sign_has, cfl_alpha_has, segmentation_has}
use Rattle.av1_syntax.proofs.Values.{past, told_below}

pub even_has : HasSymbols Even 2
even_has = (two_numbers 16384 (omega arith), refl)

pub literals_read : (bits : ℕ) → Reads HasSymbols (literal bits) (λ v. v < 2 ^ bits) bits
literals_read bits = code_reads HasSymbols Even (literal_tree Even bits) (λ v. v < 2 ^ bits) (bits_of bits) bits even_has (literal_reads Even bits) (λ v h. omega (arith, length-bits_of bits v))

agreement_few : (corner above left : ℕ) → agreement corner above left < 3
agreement_few corner above left = grind (arith, nat_tests)

or_few : (b : Bool) (n : ℕ) → n < 3 → (if b then 0 else n) < 3
or_few true n h = omega arith
or_few false n h = h

context_few : (g : Grid) (bo : BlockOffset) → segment_context g bo < 3
context_few g bo = or_few _ _ (agreement_few (segment_before g bo 1 1) (segment_before g bo 0 1) (segment_before g bo 1 0))

segment_at : (n r s a : ℕ) → (if nat_lt s n then Some (deinterleaved n r s) else None) ≡ Some a → (s < n) × (deinterleaved n r s ≡ a)
segment_at n r s a h = let t = told_below n s (Some (deinterleaved n r s)) a h in (t.0, let e = t.1 in let f : deinterleaved n r s ≡ a = cc in f)

coded_reads : (n r context : ℕ) → r < n → n ≤ 8 → context < 3 →
    Reads HasSymbols (symbol (adaptive (codes "spatial_segmentation_cdfs") (context ∷ [])) (λ s. if nat_lt s n then Some (deinterleaved n r s) else None) (interleaved n r)) (λ a. a < n) 1
coded_reads n r context h l k =
    let value = λ (s : ℕ). if nat_lt s n then Some (deinterleaved n r s) else None in
    let q = adaptive (codes "spatial_segmentation_cdfs") (context ∷ []) in
    reads_as HasSymbols (symbol q value (interleaved n r)) (λ a. value (interleaved n r a) ≡ Some a) (λ a. a < n) 1 1
    (λ a e. let t = segment_at n r (interleaved n r a) a e in let b = deinterleaved_below n r (interleaved n r a) t.0 h in let f = t.1 in omega (arith, b, f))
    (λ a b. segment_told n r a h b) (omega arith)
    (symbol_reads HasSymbols q 8 value (interleaved n r) (segmentation_has context k) (λ s b. past n s (Some (deinterleaved n r s)) (omega (arith, b, l)))
    (λ s a e. let t = segment_at n r s a e in ap (interleaved n r) (sym t.1) ∙ deinterleaved_back n r s t.0 h))

-- the coded segment of a block that is not skipped
abbrev coded_segment : Grid → BlockOffset → ℕ → Element Distribution ℕ
coded_segment g bo last =
    let r = predicted_segment g bo last in
    symbol (adaptive (codes "spatial_segmentation_cdfs") (segment_context g bo ∷ [])) (λ s. if nat_lt s (last + 1) then Some (deinterleaved (last + 1) r s) else None) (interleaved (last + 1) r)

pub segment_reads : (g : Grid) (bo : BlockOffset) (skip : Bool) (last : ℕ) → last ≤ 7 → Reads HasSymbols (segment_element g bo skip last) (IsSegment g bo skip last) 1
segment_reads g bo true last h =
    let r = predicted_segment g bo last in
    choose_reads HasSymbols true (known r) (coded_segment g bo last) (IsSegment g bo true last) 1
    (λ t. reads_as HasSymbols (known r) (λ a. a ≡ r) (IsSegment g bo true last) 0 1 (λ a e. e) (λ a e. e) (omega arith) (known_reads HasSymbols r)) (λ t. let z : ⊥ = cc in absurd z)
segment_reads g bo false last h =
    let r = predicted_segment g bo last in
    choose_reads HasSymbols false (known r) (coded_segment g bo last) (IsSegment g bo false last) 1 (λ t. let z : ⊥ = cc in absurd z)
    (λ t. reads_as HasSymbols (coded_segment g bo last) (λ a. a < last + 1) (IsSegment g bo false last) 1 1 (λ a l. omega (arith, l)) (λ a l. omega (arith, l)) (omega arith)
    (coded_reads (last + 1) r (segment_context g bo) (predicted_few g bo last) (omega (arith, h)) (context_few g bo)))

signs_past : (s : ℕ) → 8 ≤ s → signs_of s ≡ None
signs_past s h = slice_get_past joint_signs s h

signs_named : (s : ℕ) (x : CFLSign × CFLSign) → signs_of s ≡ Some x → signs_number x ≡ s
signs_named zero x h = let e : (CFL_SIGN_ZERO, CFL_SIGN_NEG) ≡ x = cc in ap signs_number (sym e)
signs_named (suc zero) x h = let e : (CFL_SIGN_ZERO, CFL_SIGN_POS) ≡ x = cc in ap signs_number (sym e)
signs_named (suc (suc zero)) x h = let e : (CFL_SIGN_NEG, CFL_SIGN_ZERO) ≡ x = cc in ap signs_number (sym e)
signs_named (suc (suc (suc zero))) x h = let e : (CFL_SIGN_NEG, CFL_SIGN_NEG) ≡ x = cc in ap signs_number (sym e)
signs_named (suc (suc (suc (suc zero)))) x h = let e : (CFL_SIGN_NEG, CFL_SIGN_POS) ≡ x = cc in ap signs_number (sym e)
signs_named (suc (suc (suc (suc (suc zero))))) x h = let e : (CFL_SIGN_POS, CFL_SIGN_ZERO) ≡ x = cc in ap signs_number (sym e)
signs_named (suc (suc (suc (suc (suc (suc zero)))))) x h = let e : (CFL_SIGN_POS, CFL_SIGN_NEG) ≡ x = cc in ap signs_number (sym e)
signs_named (suc (suc (suc (suc (suc (suc (suc zero))))))) x h = let e : (CFL_SIGN_POS, CFL_SIGN_POS) ≡ x = cc in ap signs_number (sym e)
signs_named (suc (suc (suc (suc (suc (suc (suc (suc s)))))))) x h = absurd cc

abbrev second_sign : Option (CFLSign × CFLSign) → CFLSign
second_sign None = CFL_SIGN_ZERO
second_sign (Some signs) = signs.1

signs_some : (a b : CFLSign) → signs_of (signs_number (a, b)) ≡ Some (a, b) → 1 ≤ sign_number a + sign_number b
signs_some CFL_SIGN_ZERO CFL_SIGN_ZERO h = let e : CFL_SIGN_NEG ≡ CFL_SIGN_ZERO = ap second_sign h in absurd cc
signs_some CFL_SIGN_ZERO CFL_SIGN_NEG h = omega arith
signs_some CFL_SIGN_ZERO CFL_SIGN_POS h = omega arith
signs_some CFL_SIGN_NEG b h = omega arith
signs_some CFL_SIGN_POS b h = omega arith

abbrev AreSigns : CFLSign × CFLSign → Type 0
AreSigns x = 1 ≤ sign_number x.0 + sign_number x.1

signs_read : Reads HasSymbols signs_element AreSigns 1
signs_read =
    reads_as HasSymbols signs_element (λ x. signs_of (signs_number x) ≡ Some x) AreSigns 1 1 (λ x e. signs_some x.0 x.1 e) (λ x l. signs_told x.0 x.1 l) (omega arith)
    (symbol_reads HasSymbols (adaptive (codes "cfl_sign_cdf") []) 8 signs_of signs_number cfl_sign_has signs_past signs_named)

-- a factor of a sign
abbrev IsFactor : CFLSign → ℤ → Type 0
IsFactor own a = (sign_of a ≡ own) × (magnitude a ≤ 16)

factor_is : (a : ℤ) → signed (sign_of a) (magnitude a) ≡ a
factor_is (pos zero) = refl
factor_is (pos (suc n)) = refl
factor_is (negsuc n) = neg_is n

sign_signed : (own : CFLSign) (n : ℕ) → 1 ≤ sign_number own → 1 ≤ n → sign_of (signed own n) ≡ own
sign_signed CFL_SIGN_ZERO n h l = absurd (omega (arith, h))
sign_signed own zero h l = absurd (omega (arith, l))
sign_signed CFL_SIGN_NEG (suc n) h l = ap sign_of (neg_is n)
sign_signed CFL_SIGN_POS (suc n) h l = refl

size_some : (a : ℤ) → 1 ≤ sign_number (sign_of a) → 1 ≤ magnitude a
size_some (pos zero) h = absurd (omega (arith, h))
size_some (pos (suc n)) h = omega arith
size_some (negsuc n) h = omega arith

sign_few : (s : CFLSign) → sign_number s ≤ 2
sign_few CFL_SIGN_ZERO = omega arith
sign_few CFL_SIGN_NEG = omega arith
sign_few CFL_SIGN_POS = omega arith

factor_at : (own : CFLSign) (s : ℕ) (a : ℤ) → factor_of own s ≡ Some a → (s < 16) × (signed own (s + 1) ≡ a)
factor_at own s a h = let t = told_below 16 s (Some (signed own (s + 1))) a h in (t.0, let e = t.1 in let f : signed own (s + 1) ≡ a = cc in f)

factor_past : (own : CFLSign) (s : ℕ) → 16 ≤ s → factor_of own s ≡ None
factor_past own s h = past 16 s (Some (signed own (s + 1))) h

module _ (own : CFLSign) (is : 1 ≤ sign_number own) where
  factor_named : (s : ℕ) (a : ℤ) → factor_of own s ≡ Some a → factor_number a ≡ s
  factor_named s a h =
      let t = factor_at own s a h in
      let m = magnitude_signed own (s + 1) is in
      ap factor_number (sym t.1) ∙ (let e : magnitude (signed own (s + 1)) - 1 ≡ s = omega (arith, m) in e)

  factor_one : (a : ℤ) → factor_of own (factor_number a) ≡ Some a → IsFactor own a
  factor_one a h =
      let k = factor_number a in
      let t = factor_at own k a h in
      let m = magnitude_signed own (k + 1) is in
      let n : magnitude a ≡ k + 1 = ap magnitude (sym t.1) ∙ m in
      (ap sign_of (sym t.1) ∙ sign_signed own (k + 1) is (omega arith), let l = t.0 in omega (arith, n, l))

  one_factor : (a : ℤ) → IsFactor own a → factor_of own (factor_number a) ≡ Some a
  one_factor a h =
      let e : signed own (magnitude a) ≡ a = ap (λ (s : CFLSign). signed s (magnitude a)) (sym h.0) ∙ factor_is a in
      let some = size_some a (subst (λ (s : CFLSign). 1 ≤ sign_number s) (sym h.0) is) in
      subst (λ a. factor_of own (factor_number a) ≡ Some a) e (factor_told own (magnitude a) is (λ l. (some, h.1)))

  sized_reads : (context : ℕ) → context < 6 → Reads HasSymbols (symbol (adaptive (codes "cfl_alpha_cdf") (context ∷ [])) (factor_of own) factor_number) (IsFactor own) 1
  sized_reads context l =
      let q = adaptive (codes "cfl_alpha_cdf") (context ∷ []) in
      reads_as HasSymbols (symbol q (factor_of own) factor_number) (λ a. factor_of own (factor_number a) ≡ Some a) (IsFactor own) 1 1 factor_one one_factor (omega arith)
      (symbol_reads HasSymbols q 16 (factor_of own) factor_number (cfl_alpha_has context l) (factor_past own) factor_named)

factor_reads : (own other : CFLSign) → Reads HasSymbols (factor_element own other) (IsFactor own) 1
factor_reads CFL_SIGN_ZERO other =
    reads_as HasSymbols (known (pos 0)) (λ a. a ≡ pos 0) (IsFactor CFL_SIGN_ZERO) 0 1 (λ a e. (ap sign_of e, let m = ap magnitude e in omega (arith, m))) (λ a h. sym (factor_is a) ∙ ap (λ (s : CFLSign). signed s (magnitude a)) h.0) (omega arith)
    (known_reads HasSymbols (pos 0))
factor_reads CFL_SIGN_NEG other = sized_reads CFL_SIGN_NEG (omega arith) (3 * sign_number CFL_SIGN_NEG + sign_number other - 3) (omega (arith, sign_few other))
factor_reads CFL_SIGN_POS other = sized_reads CFL_SIGN_POS (omega arith) (3 * sign_number CFL_SIGN_POS + sign_number other - 3) (omega (arith, sign_few other))

abbrev After : CFLSign → ℤ → ℤ × ℤ → Type 0
After b u f = (f.0 ≡ u) × IsFactor b f.1

sizes_read : (a b : CFLSign) → Reads HasSymbols (sizes_element (a, b)) (λ f. IsFactor a f.0 × IsFactor b f.1) 2
sizes_read a b =
    reads_as HasSymbols (sizes_element (a, b)) (λ f. IsFactor a f.0 × After b f.0 f) (λ f. IsFactor a f.0 × IsFactor b f.1) 2 2 (λ f h. (h.0, h.1.1)) (λ f h. (h.0, (refl, h.1))) (omega arith)
    (after_reads HasSymbols (factor_element a b) (λ u. renamed (factor_element b a) (λ v. (u, v)) (λ f. f.1)) (λ f. f.0) (IsFactor a) (After b) 1 1 (λ u f p q. q.0) (factor_reads a b)
    (λ u p. renamed_reads HasSymbols (factor_element b a) (λ v. (u, v)) (λ f. f.1) (IsFactor b) (After b u) 1 (λ f r. (r.1, λ i. (sym r.0 i, f.1))) (λ v r. ((refl, r), refl)) (factor_reads b a)))

sizes_told : (a b : ℤ) → 1 ≤ sign_number (sign_of a) + sign_number (sign_of b) → 1 ≤ magnitude a + magnitude b
sizes_told (pos zero) (pos zero) h = absurd (omega (arith, h))
sizes_told (pos zero) (pos (suc n)) h = omega arith
sizes_told (pos zero) (negsuc n) h = omega arith
sizes_told (pos (suc m)) b h = omega arith
sizes_told (negsuc m) b h = omega arith

signs_by : (a b : ℤ) → 1 ≤ magnitude a + magnitude b → 1 ≤ sign_number (sign_of a) + sign_number (sign_of b)
signs_by (pos zero) (pos zero) h = absurd (omega (arith, h))
signs_by (pos zero) (pos (suc n)) h = omega arith
signs_by (pos zero) (negsuc n) h = omega arith
signs_by (pos (suc m)) b h = omega arith
signs_by (negsuc m) b h = omega arith

pub factors_read : Reads HasSymbols factors_element AreFactors 3
factors_read =
    let Both : CFLSign × CFLSign → ℤ × ℤ → Type 0 = λ x f. IsFactor x.0 f.0 × IsFactor x.1 f.1 in
    reads_as HasSymbols factors_element (λ f. AreSigns (sign_of f.0, sign_of f.1) × Both (sign_of f.0, sign_of f.1) f) AreFactors 3 3
    (λ f h. record { first = h.1.0.1; second = h.1.1.1; some = sizes_told f.0 f.1 h.0 }) (λ f h. (signs_by f.0 f.1 h.some, ((refl, h.first), (refl, h.second)))) (omega arith)
    (after_reads HasSymbols signs_element sizes_element (λ f. (sign_of f.0, sign_of f.1)) AreSigns Both 1 2 (λ x f p q. λ i. (q.0.0 i, q.1.0 i)) signs_read (λ x p. sizes_read x.0 x.1))
