-- The deltas of the loop filter have one path to each list of them.
use Rattle.std.proofs.Common.{◌≡◌, ℕ, zero, suc, ◌+◌, ◌-◌, ◌*◌, ◌^◌, ◌<◌, ◌≤◌, List, [], ◌∷◌, ◌++◌, Bool, true, false, Some, None, if◌then◌else◌, min, nat_eq, nat_lt, eqb-true, length, replicate, take, inl, inr, refl, sym, ap, subst, ◌∙◌, arith, ℤ, pos, negsuc, ◌-ℤ◌}
use Rattle.std.proofs.Math.ListN.{get_or-append, get_or-eq_default}
use Rattle.std.proofs.Math.Seq.{get_or-append_seam}
use Rattle.std.proofs.lemmas.Bool.{cases_lt}
use Rattle.std.proofs.lemmas.Bool.Decides.{nat_tests}
use Rattle.std.proofs.lemmas.List.{length-append, length-replicate, length-take-le, get_or-take, get_or-replicate, get_or-append_right, ext_get_or, take_more}
use Rattle.av1_cdf.specs.Distribution.{Distribution, Even, HasSymbols}
use Rattle.av1_cdf.proofs.Cells.{is_lt, lt_not}
use Rattle.av1_geometry.specs.Cfl.{magnitude}
use Rattle.av1_model.specs.Element.{known, symbol, choose, nothing, Reads}
use Rattle.av1_model.specs.Syntax.Syntax.{Bad, Done}
use Rattle.av1_model.proofs.ElementLaws.{nothing_reads, known_reads, reads_as, ask_reads, symbol_reads, choose_reads, after_reads, renamed_reads}
use Rattle.av1_syntax.specs.Deltas.{rem_bits, rest_of, rest_element, size_after, size_element, signed_of, sign_bit, sign_element, delta_element, delta_at, deltas_after, delta_slot, delta_count, deltas_element, AreDeltas}
use Rattle.av1_syntax.specs.Literals.{literal}
use Rattle.av1_syntax.proofs.Factors.{neg_is, magnitude_neg}
use Rattle.av1_syntax.proofs.Readings.{literals_read, even_has}
use Rattle.av1_syntax.proofs.Slots.{delta_has, delta_multi_has}

-- a size that is above n of the powers of two
abbrev pub IsRest : ℕ → ℕ → Type 0
IsRest n a = (2 ^ (n + 1) + 1 ≤ a) × (a ≤ 2 ^ (n + 1) + 2 ^ (n + 1))

pub rem_told : (n a : ℕ) → n < 8 → IsRest n a → rem_bits a ≡ n
rem_told zero a l h = let p : 3 ≤ a = omega (arith, h.0) in let q : a ≤ 4 = omega (arith, h.1) in grind (arith, nat_tests)
rem_told (suc zero) a l h = let p : 5 ≤ a = omega (arith, h.0) in let q : a ≤ 8 = omega (arith, h.1) in grind (arith, nat_tests)
rem_told (suc (suc zero)) a l h = let p : 9 ≤ a = omega (arith, h.0) in let q : a ≤ 16 = omega (arith, h.1) in grind (arith, nat_tests)
rem_told (suc (suc (suc zero))) a l h = let p : 17 ≤ a = omega (arith, h.0) in let q : a ≤ 32 = omega (arith, h.1) in grind (arith, nat_tests)
rem_told (suc (suc (suc (suc zero)))) a l h = let p : 33 ≤ a = omega (arith, h.0) in let q : a ≤ 64 = omega (arith, h.1) in grind (arith, nat_tests)
rem_told (suc (suc (suc (suc (suc zero))))) a l h = let p : 65 ≤ a = omega (arith, h.0) in let q : a ≤ 128 = omega (arith, h.1) in grind (arith, nat_tests)
rem_told (suc (suc (suc (suc (suc (suc zero)))))) a l h = let p : 129 ≤ a = omega (arith, h.0) in let q : a ≤ 256 = omega (arith, h.1) in grind (arith, nat_tests)
rem_told (suc (suc (suc (suc (suc (suc (suc zero))))))) a l h = let p : 257 ≤ a = omega (arith, h.0) in let q : a ≤ 512 = omega (arith, h.1) in grind (arith, nat_tests)
rem_told (suc (suc (suc (suc (suc (suc (suc (suc n)))))))) a l h = absurd (omega (arith, l))

rest_range : (n a : ℕ) → n < 8 → IsRest n a → (3 ≤ a) × (a ≤ 512)
rest_range zero a l h = (omega (arith, h.0), omega (arith, h.1))
rest_range (suc zero) a l h = (omega (arith, h.0), omega (arith, h.1))
rest_range (suc (suc zero)) a l h = (omega (arith, h.0), omega (arith, h.1))
rest_range (suc (suc (suc zero))) a l h = (omega (arith, h.0), omega (arith, h.1))
rest_range (suc (suc (suc (suc zero)))) a l h = (omega (arith, h.0), omega (arith, h.1))
rest_range (suc (suc (suc (suc (suc zero))))) a l h = (omega (arith, h.0), omega (arith, h.1))
rest_range (suc (suc (suc (suc (suc (suc zero)))))) a l h = (omega (arith, h.0), omega (arith, h.1))
rest_range (suc (suc (suc (suc (suc (suc (suc zero))))))) a l h = (omega (arith, h.0), omega (arith, h.1))
rest_range (suc (suc (suc (suc (suc (suc (suc (suc n)))))))) a l h = absurd (omega (arith, l))

rest_by : (n a : ℕ) → n < 8 → IsRest n a → (rem_bits a < 8) × IsRest (rem_bits a) a
rest_by n a l h = let e = rem_told n a l h in (omega (arith, e, l), subst (λ k. IsRest k a) (sym e) h)

rest_is : (a : ℕ) → 3 ≤ a → a ≤ 512 → (rem_bits a < 8) × IsRest (rem_bits a) a
rest_is a l h = elim (cases_lt 4 a) [
  | inr p ↦ rest_by 0 a (omega arith) (omega (arith, l), omega (arith, p))
  | inl p ↦ elim (cases_lt 8 a) [
    | inr q ↦ rest_by 1 a (omega arith) (omega (arith, p), omega (arith, q))
    | inl q ↦ elim (cases_lt 16 a) [
      | inr r ↦ rest_by 2 a (omega arith) (omega (arith, q), omega (arith, r))
      | inl r ↦ elim (cases_lt 32 a) [
        | inr s ↦ rest_by 3 a (omega arith) (omega (arith, r), omega (arith, s))
        | inl s ↦ elim (cases_lt 64 a) [
          | inr t ↦ rest_by 4 a (omega arith) (omega (arith, s), omega (arith, t))
          | inl t ↦ elim (cases_lt 128 a) [
            | inr u ↦ rest_by 5 a (omega arith) (omega (arith, t), omega (arith, u))
            | inl u ↦ elim (cases_lt 256 a) [
              | inr v ↦ rest_by 6 a (omega arith) (omega (arith, u), omega (arith, v))
              | inl v ↦ rest_by 7 a (omega arith) (omega (arith, v), omega (arith, h))
            ]
          ]
        ]
      ]
    ]
  ]
]

pub rest_of_reads : (n : ℕ) → n < 8 → Reads HasSymbols (rest_of n) (IsRest n) 8
rest_of_reads n l =
    let p = 2 ^ (n + 1) in
    reads_as HasSymbols (rest_of n) (IsRest n) (IsRest n) (n + 1) 8 (λ a h. h) (λ a h. h) (omega (arith, l))
    (renamed_reads HasSymbols (literal (n + 1)) (λ v. v + 2 ^ (n + 1) + 1) (λ a. a - 2 ^ (n + 1) - 1) (λ v. v < 2 ^ (n + 1)) (IsRest n) (n + 1) (λ a h. (omega (arith, h), omega (arith, h))) (λ v h. ((omega (arith, h), omega (arith, h)), omega (arith, h)))
    (literals_read (n + 1)))

abbrev pub IsLong : ℕ → Type 0
IsLong a = (3 ≤ a) × (a ≤ 512)

pub rest_reads : Reads HasSymbols rest_element IsLong 11
rest_reads =
    reads_as HasSymbols rest_element (λ a. (rem_bits a < 2 ^ 3) × IsRest (rem_bits a) a) IsLong 11 11 (λ a h. rest_range (rem_bits a) a h.0 h.1) (λ a h. rest_is a h.0 h.1) (omega arith)
    (after_reads HasSymbols (literal 3) rest_of rem_bits (λ n. n < 2 ^ 3) IsRest 3 8 rem_told (literals_read 3) rest_of_reads)

-- a size that a symbol stands for
abbrev IsSized : ℕ → ℕ → Type 0
IsSized s a = (min a 3 ≡ s) × (a ≤ 512)

size_past : (s : ℕ) → 4 ≤ s → (size_after s).tree ≡ Bad
size_past s h =
    let e : nat_eq s 3 ≡ false = grind (arith, nat_tests, h) in
    ap (λ (b : Bool). if b then Done s else (if nat_eq s 3 then rest_element.tree else Bad)) (lt_not s 3 (omega (arith, h))) ∙ ap (λ (b : Bool). if b then rest_element.tree else Bad) e

size_after_reads : (s : ℕ) → Reads HasSymbols (size_after s) (IsSized s) 11
size_after_reads s =
    choose_reads HasSymbols (nat_lt s 3) (known s) (choose (nat_eq s 3) rest_element nothing) (IsSized s) 11
    (λ t. let l = is_lt s 3 t in reads_as HasSymbols (known s) (λ a. a ≡ s) (IsSized s) 0 11 (λ a e. (omega (arith, e, l), omega (arith, e, l))) (λ a h. omega (arith, h, l)) (omega arith) (known_reads HasSymbols s))
    (λ f. choose_reads HasSymbols (nat_eq s 3) rest_element nothing (IsSized s) 11
    (λ t. let e = eqb-true s 3 t in reads_as HasSymbols rest_element IsLong (IsSized s) 11 11 (λ a h. (omega (arith, e, h), h.1)) (λ a h. (omega (arith, e, h), h.1)) (omega arith) rest_reads)
    (λ g. reads_as HasSymbols nothing (IsSized s) (IsSized s) 0 11 (λ a h. h) (λ a h. h) (omega arith) (nothing_reads HasSymbols (IsSized s) (λ a h. let e = h.0 in let n : nat_lt s 3 ≡ false = f in grind (arith, nat_tests, e, f, g)))))

pub size_reads : (q : Distribution) → HasSymbols q 4 → Reads HasSymbols (size_element q) (λ a. a ≤ 512) 12
size_reads q has =
    reads_as HasSymbols (size_element q) (λ a. IsSized (min a 3) a) (λ a. a ≤ 512) 12 12 (λ a h. h.1) (λ a h. (refl, h)) (omega arith)
    (ask_reads HasSymbols q 4 size_after (λ a. min a 3) IsSized 11 has size_past (λ s a h. h.0) size_after_reads)

pub zero_is : (d : ℤ) → magnitude d ≡ 0 → d ≡ pos 0
zero_is (pos zero) h = refl
zero_is (pos (suc n)) h = absurd (omega (arith, h))
zero_is (negsuc n) h = absurd (omega (arith, h))

pub signed_told : (d : ℤ) (a : ℕ) → magnitude d ≡ a → signed_of a (sign_bit d) ≡ Some d
signed_told (pos n) a h = ap (λ a. Some (pos a)) (sym h)
signed_told (negsuc n) a h = ap (λ a. Some (pos 0 -ℤ pos a)) (sym h) ∙ ap Some (neg_is n)

told_signed : (d : ℤ) (a : ℕ) → signed_of a (sign_bit d) ≡ Some d → magnitude d ≡ a
told_signed (pos n) a h = let e : pos a ≡ pos n = cc in sym (ap magnitude e)
told_signed (negsuc n) a h = let e : pos 0 -ℤ pos a ≡ negsuc n = cc in sym (ap magnitude e) ∙ magnitude_neg a

sign_past : (a s : ℕ) → 2 ≤ s → signed_of a s ≡ None
sign_past a zero h = absurd (omega (arith, h))
sign_past a (suc zero) h = absurd (omega (arith, h))
sign_past a (suc (suc s)) h = refl

sign_named : (a : ℕ) → nat_eq a 0 ≡ false → (s : ℕ) (d : ℤ) → signed_of a s ≡ Some d → sign_bit d ≡ s
sign_named a z zero d h = let e : pos a ≡ d = cc in ap sign_bit (sym e)
sign_named zero z (suc zero) d h = absurd cc
sign_named (suc m) z (suc zero) d h = let e : pos 0 -ℤ pos (suc m) ≡ d = cc in ap sign_bit (sym e ∙ neg_is m)
sign_named a z (suc (suc s)) d h = absurd cc

pub sign_reads : (a : ℕ) → Reads HasSymbols (sign_element a) (λ d. magnitude d ≡ a) 1
sign_reads a =
    choose_reads HasSymbols (nat_eq a 0) (known (pos 0)) (symbol Even (signed_of a) sign_bit) (λ d. magnitude d ≡ a) 1
    (λ t. let e = eqb-true a 0 t in reads_as HasSymbols (known (pos 0)) (λ d. d ≡ pos 0) (λ d. magnitude d ≡ a) 0 1 (λ d h. ap magnitude h ∙ sym e) (λ d h. zero_is d (h ∙ e)) (omega arith) (known_reads HasSymbols (pos 0)))
    (λ f. reads_as HasSymbols (symbol Even (signed_of a) sign_bit) (λ d. signed_of a (sign_bit d) ≡ Some d) (λ d. magnitude d ≡ a) 1 1 (λ d h. told_signed d a h) (λ d h. signed_told d a h) (omega arith)
    (symbol_reads HasSymbols Even 2 (signed_of a) sign_bit even_has (sign_past a) (sign_named a f)))

pub delta_reads : (q : Distribution) → HasSymbols q 4 → Reads HasSymbols (delta_element q) (λ d. magnitude d ≤ 512) 13
delta_reads q has =
    reads_as HasSymbols (delta_element q) (λ d. (magnitude d ≤ 512) × (magnitude d ≡ magnitude d)) (λ d. magnitude d ≤ 512) 13 13 (λ d h. h.0) (λ d h. (h, refl)) (omega arith)
    (after_reads HasSymbols (size_element q) sign_element magnitude (λ a. a ≤ 512) (λ a d. magnitude d ≡ a) 12 1 (λ a d p r. r) (size_reads q has) (λ a p. sign_reads a))

-- four deltas, of which the first are known and so many follow
abbrev pub IsDeltas : List ℤ → ℕ → List ℤ → Type 0
IsDeltas done zero ds = ds ≡ done ++ replicate (4 - length done) (pos 0)
IsDeltas done (suc more) ds = (magnitude (delta_at ds (length done)) ≤ 512) × IsDeltas (done ++ delta_at ds (length done) ∷ []) more ds

begins_with : (done : List ℤ) (more : ℕ) (ds : List ℤ) → IsDeltas done more ds → (k : ℕ) → k < length done → delta_at ds k ≡ delta_at done k
begins_with done zero ds h k l = ap (λ (ds : List ℤ). delta_at ds k) h ∙ get_or-append done (replicate (4 - length done) (pos 0)) (pos 0) k l
begins_with done (suc more) ds h k l =
    let d = delta_at ds (length done) in
    let n = length-append done (d ∷ []) in
    begins_with (done ++ d ∷ []) more ds h.1 k (omega (arith, l, n)) ∙ get_or-append done (d ∷ []) (pos 0) k l

next_told : (done : List ℤ) (d : ℤ) (more : ℕ) (ds : List ℤ) → IsDeltas (done ++ d ∷ []) more ds → delta_at ds (length done) ≡ d
next_told done d more ds h =
    let n = length-append done (d ∷ []) in
    begins_with (done ++ d ∷ []) more ds h (length done) (omega (arith, n)) ∙ get_or-append_seam done d [] (pos 0)

pub deltas_read : (q : ℕ → Distribution) (done : List ℤ) (more : ℕ) → ((k : ℕ) → k < length done + more → HasSymbols (q k) 4) → Reads HasSymbols (deltas_after q done more) (IsDeltas done more) (13 * more)
deltas_read q done zero has =
    let all = done ++ replicate (4 - length done) (pos 0) in
    reads_as HasSymbols (known all) (λ ds. ds ≡ all) (IsDeltas done zero) 0 (13 * zero) (λ ds h. h) (λ ds h. h) (omega arith) (known_reads HasSymbols all)
deltas_read q done (suc more) has =
    reads_as HasSymbols (deltas_after q done (suc more)) (λ ds. (magnitude (delta_at ds (length done)) ≤ 512) × IsDeltas (done ++ delta_at ds (length done) ∷ []) more ds) (IsDeltas done (suc more)) (13 + 13 * more) (13 * suc more)
    (λ ds h. h) (λ ds h. h) (omega arith)
    (after_reads HasSymbols (delta_element (q (length done))) (λ d. deltas_after q (done ++ d ∷ []) more) (λ ds. delta_at ds (length done)) (λ d. magnitude d ≤ 512) (λ d ds. IsDeltas (done ++ d ∷ []) more ds) 13 (13 * more) (λ d ds p h. next_told done d more ds h)
    (delta_reads (q (length done)) (has (length done) (omega arith))) (λ d p. deltas_read q (done ++ d ∷ []) more (λ k l. let n = length-append done (d ∷ []) in has k (omega (arith, l, n)))))

zeros : (n k : ℕ) → delta_at (replicate n (pos 0)) k ≡ pos 0
zeros n k = elim (cases_lt k n) [
  | inl l ↦ get_or-replicate n k (pos 0) (pos 0) l
  | inr m ↦ get_or-eq_default (replicate n (pos 0)) (pos 0) (let e = length-replicate n (pos 0) in omega (arith, e, m))
]

module _ (count : ℕ) (ds : List ℤ) (are : AreDeltas 512 count ds) (four : count ≤ 4) where
  taken : (k : ℕ) → k ≤ count → length (take k ds) ≡ k
  taken k l = length-take-le k ds (omega (arith, l, four, are.four))

  last_is : (i : ℕ) → delta_at ds i ≡ delta_at (take count ds ++ replicate (4 - length (take count ds)) (pos 0)) i
  last_is i = elim (cases_lt i count) [
    | inl l ↦
        let n = taken count (omega arith) in
        sym (get_or-append (take count ds) (replicate (4 - length (take count ds)) (pos 0)) (pos 0) i (omega (arith, n, l)) ∙ get_or-take count ds i (pos 0) l)
    | inr m ↦
        are.none i m
        ∙ sym (get_or-append_right (take count ds) (replicate (4 - length (take count ds)) (pos 0)) count i (pos 0) (taken count (omega arith)) m ∙ zeros (4 - length (take count ds)) (i - count))
  ]

  all_taken : ds ≡ take count ds ++ replicate (4 - length (take count ds)) (pos 0)
  all_taken =
      let n = taken count (omega arith) in
      let a = length-append (take count ds) (replicate (4 - length (take count ds)) (pos 0)) in
      let b = length-replicate (4 - length (take count ds)) (pos 0) in
      ext_get_or (pos 0) ds (take count ds ++ replicate (4 - length (take count ds)) (pos 0)) (omega (arith, n, a, b, four, are.four)) (λ i l. last_is i)

  -- from a place on
  pub deltas_are : (more k : ℕ) → k + more ≡ count → IsDeltas (take k ds) more ds
  deltas_are zero k e =
      let same : count ≡ k = omega (arith, e) in
      subst (λ (k : ℕ). ds ≡ take k ds ++ replicate (4 - length (take k ds)) (pos 0)) same all_taken
  deltas_are (suc more) k e =
      let n = taken k (omega (arith, e)) in
      let rest = deltas_are more (k + 1) (omega (arith, e)) in
      let l : k < length ds = omega (arith, e, four, are.four) in
      let here = subst (λ (xs : List ℤ). IsDeltas xs more ds) (take_more ds k (pos 0) l) rest in
      (subst (λ (m : ℕ). magnitude (delta_at ds m) ≤ 512) (sym n) (are.small k (omega (arith, e))), subst (λ (m : ℕ). IsDeltas (take k ds ++ delta_at ds m ∷ []) more ds) (sym n) here)

-- and what is read are such deltas
record Follow (done : List ℤ) (more : ℕ) (ds : List ℤ) : Type 0 where
  four : length ds ≡ 4
  small : (k : ℕ) → length done ≤ k → k < length done + more → magnitude (delta_at ds k) ≤ 512
  none : (k : ℕ) → length done + more ≤ k → delta_at ds k ≡ pos 0

follow_by : (done : List ℤ) (more : ℕ) (ds : List ℤ) → length done + more ≤ 4 → IsDeltas done more ds → Follow done more ds
follow_by done zero ds l h =
    let a = length-append done (replicate (4 - length done) (pos 0)) in
    let b = length-replicate (4 - length done) (pos 0) in
    let n = ap length h in
    record {
      four = omega (arith, a, b, n, l);
      small = λ k from to. absurd (omega (arith, from, to));
      none = λ k from. ap (λ (ds : List ℤ). delta_at ds k) h ∙ get_or-append_right done (replicate (4 - length done) (pos 0)) (length done) k (pos 0) refl (omega (arith, from)) ∙ zeros (4 - length done) (k - length done);
    }
follow_by done (suc more) ds l h =
    let d = delta_at ds (length done) in
    let n = length-append done (d ∷ []) in
    let f = follow_by (done ++ d ∷ []) more ds (omega (arith, n, l)) h.1 in
    record {
      four = f.four;
      small = λ k from to. elim (cases_lt (length done) k) [
        | inl p ↦ f.small k (omega (arith, n, p)) (omega (arith, n, to))
        | inr p ↦ let e : length done ≡ k = omega (arith, p, from) in subst (λ (k : ℕ). magnitude (delta_at ds k) ≤ 512) e h.0
      ];
      none = λ k from. f.none k (omega (arith, n, from));
    }

pub count_few : (multi : Bool) (planes : ℕ) → planes ≤ 3 → delta_count multi planes ≤ 4
count_few true planes h = omega (arith, h)
count_few false planes h = omega arith

pub slot_four : (multi : Bool) (k : ℕ) → k < 4 → HasSymbols (delta_slot multi k) 4
slot_four true k h = delta_multi_has k h
slot_four false k h = delta_has

pub deltas_reads : (multi : Bool) (planes : ℕ) → planes ≤ 3 → Reads HasSymbols (deltas_element multi planes) (AreDeltas 512 (delta_count multi planes)) 52
deltas_reads multi planes h =
    let count = delta_count multi planes in
    let few = count_few multi planes h in
    reads_as HasSymbols (deltas_element multi planes) (IsDeltas [] count) (AreDeltas 512 count) (13 * count) 52
    (λ ds p. let f = follow_by [] count ds (omega (arith, few)) p in record { four = f.four; small = λ k l. f.small k (omega arith) (omega (arith, l)); none = λ k l. f.none k (omega (arith, l)) })
    (λ ds a. deltas_are count ds a few count 0 (omega arith)) (omega (arith, few)) (deltas_read (delta_slot multi) [] count (λ k l. slot_four multi k (omega (arith, l, few))))
