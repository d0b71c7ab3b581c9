use Rattle.std.proofs.Common.{◌≡◌, ℕ, ◌*◌, ◌^◌, ◌&&◌, ◌||◌, ◌++◌, ◌==◌, not, List, [], ◌∷◌, Bool, true, false, Option, Some, None, ℤ, min, refl, sym, ap, ◌∙◌, arith}
use Rattle.std.proofs.lemmas.Bool.Decides.{nat_tests}
use Rattle.av1_coef.specs.Contexts.{coded_area}
use Rattle.av1_geometry.specs.Rules.{first_broken, rule}
use Rattle.av1_geometry.specs.TxSize.{tx_width_log2, tx_height_log2}
use Rattle.av1_geometry.specs.declared.block_offset.BlockOffset.{BlockOffset}
use Rattle.av1_geometry.specs.declared.prediction_mode.PredictionMode.{PredictionMode}
use Rattle.av1_geometry.specs.declared.tx_size.TxSize.{TxSize}
use Rattle.av1_geometry.specs.declared.tx_type.TxType.{TxType}
use Rattle.av1_step.specs.CoeffSteps.{are_levels, coeffs_answering, coeffs_asking, has_coeffs, has_type, is_transform, tx_in}
use Rattle.av1_step.specs.IntraSteps.{mode_at}
use Rattle.av1_step.specs.State.{tile_of}
use Rattle.av1_step.specs.Tile.{Tile, CurrentBlock, is_inside}
use Rattle.av1_step.proofs.tile.TileState.broken_coeffs.Goals as goal
use Rattle.av1_step.proofs.tile.TileState.broken_coeffs.Goals.{then-has_coeffs, else-has_coeffs, then-plane-ne0, else-plane-ne0}

is_chroma : (n : ℕ) → (n ≡ 0 → ⊥) → (n == 0) ≡ false
is_chroma n h = grind (arith, nat_tests, h)

-- where rule 60 alone is not broken, it holds
not_outside : (b : Bool) → first_broken (rule 60 b ∷ []) ≡ None → b ≡ true
not_outside true h = refl
not_outside false h = cc h

-- what the rules come to where there is a current block
by_rules : (t : Tile) (o : Option CurrentBlock) (b : CurrentBlock) (plane : ℕ) (place : BlockOffset) (given : TxType) (levels : List ℤ) (there fit : Bool) → o ≡ Some b → is_inside t place ≡ true →
    (has_coeffs t b plane && is_transform t b plane place) ≡ there → are_levels (coded_area (tx_in t plane b)) levels ≡ fit →
    first_broken (coeffs_asking t o plane place ++ coeffs_answering t o plane given levels)
    ≡ first_broken (rule 60 true ∷ rule 64 true ∷ rule 83 there ∷ rule 84 fit ∷ rule 85 (not (plane == 0) || has_type (tx_in t plane b) (mode_at t b) t.given.fi.use_reduced_tx_set given levels) ∷ [])
by_rules t o b plane place given levels there fit e inside asked are =
    let typed = not (plane == 0) || has_type (tx_in t plane b) (mode_at t b) t.given.fi.use_reduced_tx_set given levels in
    let l = are_levels (coded_area (tx_in t plane b)) levels in
    ap (λ (q : Option CurrentBlock). first_broken (coeffs_asking t q plane place ++ coeffs_answering t q plane given levels)) e
    ∙ ap (λ a. first_broken (rule 60 a ∷ rule 64 true ∷ rule 83 (has_coeffs t b plane && is_transform t b plane place) ∷ rule 84 l ∷ rule 85 typed ∷ [])) inside
    ∙ ap (λ a. first_broken (rule 60 true ∷ rule 64 true ∷ rule 83 a ∷ rule 84 l ∷ rule 85 typed ∷ [])) asked
    ∙ ap (λ a. first_broken (rule 60 true ∷ rule 64 true ∷ rule 83 there ∷ rule 84 a ∷ rule 85 typed ∷ [])) are

pub returns-then-not-is_transform : goal.returns-then-not-is_transform
returns-then-not-is_transform c =
    let a = c.args in
    let t = tile_of a.self.now in
    let b = c.in-Some-current.b in
    let T = is_transform t b a.plane a.place in
    let there : (has_coeffs t b a.plane && T) ≡ c.if-has_coeffs.value = elim c.if-has_coeffs.branch [
      | then-has_coeffs w ↦ ap (λ h. h && T) (sym c.has_coeffs.ensures ∙ w.if-has_coeffs.true) ∙ sym w.is_transform.ensures ∙ sym w.value-is
      | else-has_coeffs w ↦ ap (λ h. h && T) (sym c.has_coeffs.ensures ∙ w.if-has_coeffs.false) ∙ sym w.if-has_coeffs.false ∙ sym w.value-is
    ] in
    sym (by_rules t t.current b a.plane a.place a.tx_type a.levels.now false _ c.in-Some-current.is (not_outside _ (sym c.outside.ensures ∙ c.in_default.is)) (there ∙ c.if-not-is_transform.true) refl)

pub returns-then-not-are_levels : goal.returns-then-not-are_levels
returns-then-not-are_levels c =
    let a = c.args in
    let t = tile_of a.self.now in
    let b = c.in-Some-current.b in
    let T = is_transform t b a.plane a.place in
    let there : (has_coeffs t b a.plane && T) ≡ c.if-has_coeffs.value = elim c.if-has_coeffs.branch [
      | then-has_coeffs w ↦ ap (λ h. h && T) (sym c.has_coeffs.ensures ∙ w.if-has_coeffs.true) ∙ sym w.is_transform.ensures ∙ sym w.value-is
      | else-has_coeffs w ↦ ap (λ h. h && T) (sym c.has_coeffs.ensures ∙ w.if-has_coeffs.false) ∙ sym w.if-has_coeffs.false ∙ sym w.value-is
    ] in
    let coded = c.av1_get_coded_tx_size.result in
    let size = c.tx_in-tx.result in
    let area : c.area.result ≡ coded_area (tx_in t a.plane b) = c.area.ensures.value ∙ ap (λ n. 2 ^ n * 2 ^ tx_height_log2 coded) c.av1_get_coded_tx_size.ensures.width
    ∙ ap (λ n. 2 ^ min (tx_width_log2 size) 5 * 2 ^ n) c.av1_get_coded_tx_size.ensures.height ∙ ap coded_area c.tx_in-tx.ensures in
    let fit : are_levels (coded_area (tx_in t a.plane b)) a.levels.now ≡ c.are_levels.result = ap (λ n. are_levels n a.levels.now) (sym area) ∙ sym c.are_levels.ensures in
    sym (by_rules t t.current b a.plane a.place a.tx_type a.levels.now true false c.in-Some-current.is (not_outside _ (sym c.outside.ensures ∙ c.in_default.is)) (there ∙ c.if-not-is_transform.false) (fit ∙ c.if-not-are_levels.true))

pub returns-then-has_type : goal.returns-then-has_type
returns-then-has_type c =
    let a = c.args in
    let t = tile_of a.self.now in
    let b = c.in-Some-current.b in
    let T = is_transform t b a.plane a.place in
    let there : (has_coeffs t b a.plane && T) ≡ c.if-has_coeffs.value = elim c.if-has_coeffs.branch [
      | then-has_coeffs w ↦ ap (λ h. h && T) (sym c.has_coeffs.ensures ∙ w.if-has_coeffs.true) ∙ sym w.is_transform.ensures ∙ sym w.value-is
      | else-has_coeffs w ↦ ap (λ h. h && T) (sym c.has_coeffs.ensures ∙ w.if-has_coeffs.false) ∙ sym w.if-has_coeffs.false ∙ sym w.value-is
    ] in
    let coded = c.av1_get_coded_tx_size.result in
    let size = c.tx_in-tx.result in
    let area : c.area.result ≡ coded_area (tx_in t a.plane b) = c.area.ensures.value ∙ ap (λ n. 2 ^ n * 2 ^ tx_height_log2 coded) c.av1_get_coded_tx_size.ensures.width
    ∙ ap (λ n. 2 ^ min (tx_width_log2 size) 5 * 2 ^ n) c.av1_get_coded_tx_size.ensures.height ∙ ap coded_area c.tx_in-tx.ensures in
    let fit : are_levels (coded_area (tx_in t a.plane b)) a.levels.now ≡ c.are_levels.result = ap (λ n. are_levels n a.levels.now) (sym area) ∙ sym c.are_levels.ensures in
    let D = λ (luma : Bool). not luma || has_type (tx_in t a.plane b) (mode_at t b) t.given.fi.use_reduced_tx_set a.tx_type a.levels.now in
    let typed : D (a.plane == 0) ≡ c.if-plane-ne0.value = elim c.if-plane-ne0.branch [
      | then-plane-ne0 w ↦ (let e = is_chroma a.plane w.if-plane-ne0.true in ap D e ∙ sym (ap not e) ∙ sym w.value-is)
      | else-plane-ne0 w ↦ (let e : (a.plane == 0) ≡ true = grind (arith, nat_tests, w.if-plane-ne0.false) in ap D e
          ∙ ap (λ (x : TxSize). has_type x (mode_at t b) t.given.fi.use_reduced_tx_set a.tx_type a.levels.now) (sym c.tx_in-tx.ensures)
          ∙ ap (λ (m : PredictionMode). has_type size m t.given.fi.use_reduced_tx_set a.tx_type a.levels.now) (sym w.mode_at.ensures) ∙ sym w.has_type.ensures ∙ sym w.value-is)
    ] in
    let all = by_rules t t.current b a.plane a.place a.tx_type a.levels.now true true c.in-Some-current.is (not_outside _ (sym c.outside.ensures ∙ c.in_default.is)) (there ∙ c.if-not-is_transform.false) (fit ∙ c.if-not-are_levels.false)
    ∙ ap (λ d. first_broken (rule 60 true ∷ rule 64 true ∷ rule 83 true ∷ rule 84 true ∷ rule 85 d ∷ [])) (typed ∙ c.if-has_type.true) in
    sym all

pub returns-else-has_type : goal.returns-else-has_type
returns-else-has_type c =
    let a = c.args in
    let t = tile_of a.self.now in
    let b = c.in-Some-current.b in
    let T = is_transform t b a.plane a.place in
    let there : (has_coeffs t b a.plane && T) ≡ c.if-has_coeffs.value = elim c.if-has_coeffs.branch [
      | then-has_coeffs w ↦ ap (λ h. h && T) (sym c.has_coeffs.ensures ∙ w.if-has_coeffs.true) ∙ sym w.is_transform.ensures ∙ sym w.value-is
      | else-has_coeffs w ↦ ap (λ h. h && T) (sym c.has_coeffs.ensures ∙ w.if-has_coeffs.false) ∙ sym w.if-has_coeffs.false ∙ sym w.value-is
    ] in
    let coded = c.av1_get_coded_tx_size.result in
    let size = c.tx_in-tx.result in
    let area : c.area.result ≡ coded_area (tx_in t a.plane b) = c.area.ensures.value ∙ ap (λ n. 2 ^ n * 2 ^ tx_height_log2 coded) c.av1_get_coded_tx_size.ensures.width
    ∙ ap (λ n. 2 ^ min (tx_width_log2 size) 5 * 2 ^ n) c.av1_get_coded_tx_size.ensures.height ∙ ap coded_area c.tx_in-tx.ensures in
    let fit : are_levels (coded_area (tx_in t a.plane b)) a.levels.now ≡ c.are_levels.result = ap (λ n. are_levels n a.levels.now) (sym area) ∙ sym c.are_levels.ensures in
    let D = λ (luma : Bool). not luma || has_type (tx_in t a.plane b) (mode_at t b) t.given.fi.use_reduced_tx_set a.tx_type a.levels.now in
    let typed : D (a.plane == 0) ≡ c.if-plane-ne0.value = elim c.if-plane-ne0.branch [
      | then-plane-ne0 w ↦ (let e = is_chroma a.plane w.if-plane-ne0.true in ap D e ∙ sym (ap not e) ∙ sym w.value-is)
      | else-plane-ne0 w ↦ (let e : (a.plane == 0) ≡ true = grind (arith, nat_tests, w.if-plane-ne0.false) in ap D e
          ∙ ap (λ (x : TxSize). has_type x (mode_at t b) t.given.fi.use_reduced_tx_set a.tx_type a.levels.now) (sym c.tx_in-tx.ensures)
          ∙ ap (λ (m : PredictionMode). has_type size m t.given.fi.use_reduced_tx_set a.tx_type a.levels.now) (sym w.mode_at.ensures) ∙ sym w.has_type.ensures ∙ sym w.value-is)
    ] in
    let all = by_rules t t.current b a.plane a.place a.tx_type a.levels.now true true c.in-Some-current.is (not_outside _ (sym c.outside.ensures ∙ c.in_default.is)) (there ∙ c.if-not-is_transform.false) (fit ∙ c.if-not-are_levels.false)
    ∙ ap (λ d. first_broken (rule 60 true ∷ rule 64 true ∷ rule 83 true ∷ rule 84 true ∷ rule 85 d ∷ [])) (typed ∙ c.if-has_type.false) in
    sym all
