-- The sizes of transforms have one path to each.
use Rattle.std.proofs.Common.{◌≡◌, ℕ, zero, suc, ◌+◌, ◌-◌, ◌*◌, ◌<◌, ◌≤◌, [], ◌∷◌, Bool, true, false, ◌||◌, IsTrue, if◌then◌else◌, Option, Some, min, nat_eq, codes, refl, sym, ap, subst, ◌∙◌, arith, inl, inr, ◌⊎◌}
use Rattle.std.specs.Prelude.{unwrap_or}
use Rattle.std.proofs.lemmas.Bool.Decides.{nat_tests}
use Rattle.av1_blocks.specs.declared.block_context.BlockContext.{BlockContext}
use Rattle.av1_cdf.specs.Distribution.{HasSymbols}
use Rattle.av1_cdf.specs.Distribution.Distribution.{Adaptive}
use Rattle.av1_cdf.specs.Layout.{slot, layout, fields, vector_fields, component_fields}
use Rattle.av1_cdf.specs.Runs.{has_run}
use Rattle.av1_cdf.proofs.Cells.{slot_of_run}
use Rattle.av1_geometry.specs.BlockSize.{number_of}
use Rattle.av1_geometry.specs.BlockTables.{max_tx_size}
use Rattle.av1_geometry.specs.TxSize.{tx_number, tx_size_of}
use Rattle.av1_geometry.specs.declared.block_offset.BlockOffset.{BlockOffset}
use Rattle.av1_geometry.specs.declared.block_size.BlockSize.{BlockSize}
use Rattle.av1_geometry.specs.declared.block_size.BlockSize.TheVariants.{BLOCK_4X4}
use Rattle.av1_geometry.specs.declared.tx_size.TxSize.{TxSize}
use Rattle.av1_geometry.specs.declared.tx_size.TxSize.TheVariants.{TX_4X4, TX_8X8, TX_4X8, TX_8X4}
use Rattle.av1_model.specs.Element.{Reads}
use Rattle.av1_model.proofs.ElementLaws.{reads_as, symbol_reads}
use Rattle.av1_syntax.specs.TransformSizes.{longer, halved, depths, size_at, depth_of, same_size, is_offered, depth_slot, is_wide_above, is_high_left, tx_size_context, tx_size_element}
use Rattle.av1_syntax.proofs.Values.{past, told_below}

-- the slots
pub eight_has : (k : ℕ) → k < 3 → HasSymbols (Adaptive (slot (codes "tx_size_8x8_cdf") (k ∷ []))) 2
unfolding slot layout fields vector_fields component_fields has_run
eight_has k h = (slot_of_run (record { place = 592; count = 3; len = 2 }) k refl h, refl)

pub larger_has : (category k : ℕ) → category < 3 → k < 3 → HasSymbols (Adaptive (slot (codes "tx_size_cdf") (category ∷ k ∷ []))) 3
unfolding slot layout fields vector_fields component_fields has_run
larger_has category k a b = (slot_of_run (record { place = 729; count = 9; len = 3 }) (category * 3 + k) refl (omega arith), refl)

by_side : (n k : ℕ) → 3 ≤ n → n ≤ 6 → k < 3 → HasSymbols (Adaptive (if nat_eq n 3 then slot (codes "tx_size_8x8_cdf") (k ∷ []) else slot (codes "tx_size_cdf") ((n - 4) ∷ k ∷ []))) (min (n - 2) 2 + 1)
by_side (suc (suc (suc zero))) k a b h = eight_has k h
by_side (suc (suc (suc (suc zero)))) k a b h = larger_has 0 k (omega arith) h
by_side (suc (suc (suc (suc (suc zero))))) k a b h = larger_has 1 k (omega arith) h
by_side (suc (suc (suc (suc (suc (suc zero)))))) k a b h = larger_has 2 k (omega arith) h
by_side n k a b h = absurd (omega arith)

pub side_few : (tx : TxSize) → longer tx ≤ 6
side_few TX_4X4 = omega arith
side_few _ = omega arith

pub depth_has : (largest : TxSize) (k : ℕ) → 3 ≤ longer largest → k < 3 → HasSymbols (Adaptive (depth_slot largest k)) (depths largest)
depth_has largest k h l = by_side (longer largest) k h (side_few largest) l

-- a block that is not 4x4 has a side of 8 or more
pub larger_block : (size : BlockSize) → 1 ≤ number_of size → 3 ≤ longer (max_tx_size size)
larger_block BLOCK_4X4 h = absurd (omega arith)
larger_block _ h = omega arith

-- a size is told by its number
size_told : (tx : TxSize) → tx_size_of (tx_number tx) ≡ Some tx
size_told TX_4X4 = refl
size_told _ = refl

same_number : (m n : ℕ) → nat_eq m n ≡ true → m ≡ n
same_number m n e = grind (arith, nat_tests)

pub same_is : (s t : TxSize) → same_size s t ≡ true → s ≡ t
same_is s t e = ap (λ (o : Option TxSize). unwrap_or o s) (sym (size_told s) ∙ ap tx_size_of (same_number _ _ e) ∙ size_told t)

either : (a b : Bool) → (a || b) ≡ true → (a ≡ true) ⊎ (b ≡ true)
either true b e = inl refl
either false b e = inr e

-- the sizes that are offered are told by their depth
at_once : (largest : TxSize) → 3 ≤ longer largest → size_at largest (depth_of largest largest) ≡ Some largest
at_once TX_4X4 h = absurd (omega arith)
at_once _ h = refl

after_one : (largest : TxSize) → 3 ≤ longer largest → size_at largest (depth_of largest (halved 1 largest)) ≡ Some (halved 1 largest)
after_one TX_4X4 h = absurd (omega arith)
after_one _ h = refl

after_two : (largest : TxSize) → 3 ≤ longer largest → size_at largest (depth_of largest (halved 2 largest)) ≡ Some (halved 2 largest)
after_two TX_4X4 h = absurd (omega arith)
after_two _ h = refl

pub offered_told : (largest tx : TxSize) → 3 ≤ longer largest → IsTrue (is_offered largest tx) → size_at largest (depth_of largest tx) ≡ Some tx
offered_told largest tx h o =
    let is = λ (t : TxSize) (e : same_size tx t ≡ true) (k : size_at largest (depth_of largest t) ≡ Some t). subst (λ t. size_at largest (depth_of largest t) ≡ Some t) (sym (same_is tx t e)) k in
    elim (either (same_size tx largest || same_size tx (halved 1 largest)) (same_size tx (halved 2 largest)) o) [
      | inl p ↦ elim (either (same_size tx largest) (same_size tx (halved 1 largest)) p) [
        | inl e ↦ is largest e (at_once largest h)
        | inr e ↦ is (halved 1 largest) e (after_one largest h)
      ]
      | inr e ↦ is (halved 2 largest) e (after_two largest h)
    ]

pub offered_few : (largest tx : TxSize) → 3 ≤ longer largest → IsTrue (is_offered largest tx) → depth_of largest tx < depths largest
offered_few largest tx h o = (told_below (depths largest) (depth_of largest tx) (Some (halved (depth_of largest tx) largest)) tx (offered_told largest tx h o)).0

-- and none is larger
at_most : (largest : TxSize) → (longer (halved 1 largest) ≤ longer largest) × (longer (halved 2 largest) ≤ longer largest)
at_most TX_4X4 = (omega arith, omega arith)
at_most _ = (omega arith, omega arith)

pub offered_within : (largest tx : TxSize) → IsTrue (is_offered largest tx) → longer tx ≤ longer largest
offered_within largest tx o =
    let is = λ (t : TxSize) (e : same_size tx t ≡ true) (k : longer t ≤ longer largest). subst (λ t. longer t ≤ longer largest) (sym (same_is tx t e)) k in
    elim (either (same_size tx largest || same_size tx (halved 1 largest)) (same_size tx (halved 2 largest)) o) [
      | inl p ↦ elim (either (same_size tx largest) (same_size tx (halved 1 largest)) p) [
        | inl e ↦ is largest e (omega arith)
        | inr e ↦ is (halved 1 largest) e (at_most largest).0
      ]
      | inr e ↦ is (halved 2 largest) e (at_most largest).1
    ]

offered : (largest : TxSize) → IsTrue (is_offered largest largest) × IsTrue (is_offered largest (halved 1 largest)) × IsTrue (is_offered largest (halved 2 largest))
offered TX_4X4 = (refl, refl, refl)
offered _ = (refl, refl, refl)

-- the symbol of a size is its depth
size_of : (largest tx : TxSize) (s : ℕ) → size_at largest s ≡ Some tx → (s < depths largest) × (halved s largest ≡ tx)
size_of largest tx s e = let t = told_below (depths largest) s (Some (halved s largest)) tx e in (t.0, let f = t.1 in let g : halved s largest ≡ tx = cc in g)

size_offered : (largest tx : TxSize) (s : ℕ) → size_at largest s ≡ Some tx → IsTrue (is_offered largest tx)
size_offered largest tx zero e = subst (λ t. IsTrue (is_offered largest t)) (size_of largest tx 0 e).1 (offered largest).0
size_offered largest tx (suc zero) e = subst (λ t. IsTrue (is_offered largest t)) (size_of largest tx 1 e).1 (offered largest).1
size_offered largest tx (suc (suc zero)) e = subst (λ t. IsTrue (is_offered largest t)) (size_of largest tx 2 e).1 (offered largest).2
size_offered largest tx (suc (suc (suc s))) e = absurd (let t = (size_of largest tx (suc (suc (suc s))) e).0 in omega (arith, t))

pub halved_once : (largest : TxSize) → 3 ≤ longer largest → depth_of largest (halved 1 largest) ≡ 1
halved_once TX_4X4 h = absurd (omega arith)
halved_once _ h = refl

halved_twice : (largest : TxSize) → 4 ≤ longer largest → depth_of largest (halved 2 largest) ≡ 2
halved_twice TX_4X4 h = absurd (omega arith)
halved_twice TX_8X8 h = absurd (omega arith)
halved_twice TX_4X8 h = absurd (omega arith)
halved_twice TX_8X4 h = absurd (omega arith)
halved_twice _ h = refl

depth_named : (largest tx : TxSize) (s : ℕ) → 3 ≤ longer largest → size_at largest s ≡ Some tx → depth_of largest tx ≡ s
depth_named largest tx zero h e = let t = (size_of largest tx 0 e).1 in ap (depth_of largest) (sym t) ∙ omega arith
depth_named largest tx (suc zero) h e = let t = (size_of largest tx 1 e).1 in ap (depth_of largest) (sym t) ∙ halved_once largest h
depth_named largest tx (suc (suc zero)) h e = let t = size_of largest tx 2 e in ap (depth_of largest) (sym t.1) ∙ halved_twice largest (let l = t.0 in omega (arith, l))
depth_named largest tx (suc (suc (suc s))) h e = absurd (let t = (size_of largest tx (suc (suc (suc s))) e).0 in omega (arith, t))

pub two_flags : (a b : Bool) → (if a then 1 else 0) + (if b then 1 else 0) < 3
two_flags true true = omega arith
two_flags true false = omega arith
two_flags false true = omega arith
two_flags false false = omega arith

pub context_few : (bc : BlockContext) (bo : BlockOffset) (largest : TxSize) → tx_size_context bc bo largest < 3
context_few bc bo largest = two_flags (is_wide_above bc bo largest) (is_high_left bc bo largest)

pub tx_size_reads : (bc : BlockContext) (bo : BlockOffset) (size : BlockSize) → 1 ≤ number_of size → Reads HasSymbols (tx_size_element bc bo size) (λ t. IsTrue (is_offered (max_tx_size size) t)) 1
tx_size_reads bc bo size h =
    let largest = max_tx_size size in
    let long = larger_block size h in
    reads_as HasSymbols (tx_size_element bc bo size) (λ t. size_at largest (depth_of largest t) ≡ Some t) (λ t. IsTrue (is_offered largest t)) 1 1 (λ t e. size_offered largest t (depth_of largest t) e) (λ t o. offered_told largest t long o) (omega arith)
    (symbol_reads HasSymbols _ (depths largest) (size_at largest) (depth_of largest) (depth_has largest (tx_size_context bc bo largest) long (context_few bc bo largest)) (λ s l. past (depths largest) s (Some (halved s largest)) l) (λ s t e. depth_named largest t s long e))
