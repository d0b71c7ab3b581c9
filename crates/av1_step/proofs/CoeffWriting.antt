-- The coefficients of a transform block are checked and written.
use Rattle.std.proofs.Common.{◌≡◌, ℕ, zero, suc, ◌+◌, ◌-◌, ◌/◌, ◌%◌, ◌^◌, ◌<◌, ◌≤◌, ◌||◌, ◌&&◌, ◌==◌, not, List, [], ◌∷◌, ◌++◌, Bool, true, false, Option, Some, None, Result, Ok, Err, is_none, is_some, IfSome, OnOk, OnErr, IsErr, unsigned_abs, length, map, take, slice_index_or, ℤ, pos, refl, sym, ap, subst, ◌∙◌, arith, inl, inr, ◌⊎◌, IsTrue, nat_eq}
use Rattle.std.proofs.lemmas.Bool.Decides.{nat_tests}
use Rattle.av1_blocks.proofs.GoingBack.{halved_once, one_or_two}
use Rattle.av1_blocks.specs.Edges.{with_coefficients}
use Rattle.av1_blocks.specs.declared.block_context.BlockContext.{BlockContext}
use Rattle.av1_cdf.specs.Context.{AreCdfs}
use Rattle.av1_coef.proofs.AllScans.{passing_each, passing_scan}
use Rattle.av1_coef.proofs.Causal.{scan_keeps}
use Rattle.av1_coef.proofs.CodedSizes.{area_few}
use Rattle.av1_coef.specs.Contexts.{coded_area}
use Rattle.av1_coef.specs.Scans.{all_there, each_once, is_in, of_each, scan_of}
use Rattle.av1_ec.specs.declared.known.Known.{Ghosts}
use Rattle.av1_geometry.specs.ChromaSampling.{xdec_of, ydec_of, planes_of}
use Rattle.av1_geometry.specs.TxSize.{tx_width_log2, tx_height_log2}
use Rattle.av1_geometry.specs.declared.chroma_sampling.ChromaSampling.{ChromaSampling}
use Rattle.av1_geometry.specs.declared.chroma_sampling.ChromaSampling.TheVariants.{Cs420, Cs422, Cs444, Cs400}
use Rattle.av1_geometry.specs.PredictionMode.{prediction_mode_number}
use Rattle.av1_geometry.specs.Rules.{first_broken}
use Rattle.av1_geometry.specs.TxTables.{class_of}
use Rattle.av1_geometry.specs.declared.block_offset.BlockOffset.{BlockOffset}
use Rattle.av1_geometry.specs.declared.tx_type.TxType.{TxType}
use Rattle.av1_model.specs.Comes.{Standing, Wrote}
use Rattle.av1_model.proofs.ComesLaws.{wrote_as}
use Rattle.av1_model.specs.Syntax.Syntax.{Done}
use Rattle.av1_syntax.proofs.CoeffKnown.{scan_long}
use Rattle.av1_syntax.specs.Coefficients.{entry_of, levels_at, value_at, AreCoded, AreLevels, HasType}
use Rattle.av1_syntax.specs.Calls.{Context, Moving, coded_in, context_of, learnt_in, stands}
use Rattle.av1_step.specs.declared.coeff_steps.TransformBlock.{TransformBlock}
use Rattle.av1_step.specs.declared.tile.TileState.{TileState}
use Rattle.av1_step.specs.declared.step.TileStep.TheVariants.{Coeffs}
use Rattle.av1_step.specs.CoeffSteps.{chroma_coeffs_kind, coeffs_answering, coeffs_asking, coeffs_by, coeffs_in, coeffs_effects, coeffs_of, has_type, luma_coeffs_kind, transform_of, tx_in, xdec_in, ydec_in}
use Rattle.av1_step.specs.Effect.{changed_by_all}
use Rattle.av1_step.specs.Given.{broken_scan_rule}
use Rattle.av1_step.specs.IntraSteps.{mode_at}
use Rattle.av1_step.specs.Kept.{IsKept, IsTransform}
use Rattle.av1_step.specs.Kind.{holds, rules_of, steps}
use Rattle.av1_step.specs.State.{tile_of, log_of}
use Rattle.av1_step.specs.Step.{entered, kind_of, question_of, rules}
use Rattle.av1_step.specs.Tile.{Tile, CurrentBlock, is_inside, sampling, with_numbers}
use Rattle.av1_step.specs.Writing.{Writes}
use Rattle.av1_step.proofs.Arms.{writes_whole, writes_front}
use Rattle.av1_step.proofs.CoeffPlaces.{once_within}
use Rattle.av1_step.proofs.CoeffSteps.{answer_levels, few_halvings, halved_down, is_asked_for, mode_is_luma, transform_fits, typed_are, IsAsked}
use Rattle.av1_step.proofs.KindLaws.{answering_holds, asking_holds, none_is}
use Rattle.av1_step.proofs.Places.{all_hold}
use Rattle.av1_step.proofs.Marking.{inside_is}
use Rattle.av1_step.proofs.Effects.{numbers_kept}
use Rattle.av1_step.proofs.FilterArms.{only_numbers}
use Rattle.av1_step.proofs.Ready.{is_paired}
use Rattle.av1_step.proofs.StepLaws.{IsAllowed, kept_after}

both_pass : (a b : Bool) → (a && b) ≡ true → (a ≡ true) × (b ≡ true)
both_pass true b h = (refl, h)
both_pass false b h = cc

few_planes : (cs : ChromaSampling) → planes_of cs ≤ 3
few_planes Cs420 = omega arith
few_planes Cs422 = omega arith
few_planes Cs444 = omega arith
few_planes Cs400 = omega arith

-- a transform block is within the edges
in_edges : (m x w cols : ℕ) → (m ≡ 1) ⊎ (m ≡ 2) → x < cols → cols ≤ 1024 → x % 16 / m + w ≤ 16 / m → x / m + w ≤ 1024
in_edges m x w cols (inl one) inside few fits = subst (λ k. x % 16 / k + w ≤ 16 / k → x / k + w ≤ 1024) (sym one) (λ h. omega (arith, inside, few, h)) fits
in_edges m x w cols (inr two) inside few fits = subst (λ k. x % 16 / k + w ≤ 16 / k → x / k + w ≤ 1024) (sym two) (λ h. omega (arith, inside, few, h)) fits

rows_within : (m y h : ℕ) → (m ≡ 1) ⊎ (m ≡ 2) → y / m + h ≤ 16 / m → y / m + h ≤ 16
rows_within m y h (inl one) fits = subst (λ k. y / k + h ≤ 16 / k → y / k + h ≤ 16) (sym one) (λ f. omega (arith, f)) fits
rows_within m y h (inr two) fits = subst (λ k. y / k + h ≤ 16 / k → y / k + h ≤ 16) (sym two) (λ f. omega (arith, f)) fits

-- what a call that writes a transform block asks for
pub record CanBeWritten (t : Tile) (plane : ℕ) (bo : BlockOffset) (of : TransformBlock) : Type 0 where
  pub plane_is : plane < 3
  pub xdec : of.xdec ≤ 1
  pub ydec : of.ydec ≤ 1
  pub columns : bo.x / 2 ^ of.xdec + 2 ^ (tx_width_log2 of.tx_size - 2) ≤ 1024
  pub rows : bo.y % 16 / 2 ^ of.ydec + 2 ^ (tx_height_log2 of.tx_size - 2) ≤ 16
  pub width : of.width ≤ 2 ^ tx_width_log2 of.tx_size
  pub height : of.height ≤ 2 ^ tx_height_log2 of.tx_size

pub can_be_written : (t : Tile) (b : CurrentBlock) (plane : ℕ) (bo : BlockOffset) → IsKept t → is_inside t bo ≡ true → IsTransform (sampling t) plane bo (tx_in t plane b) → CanBeWritten t plane bo (transform_of t b plane bo)
can_be_written t b plane bo k inside fits =
    let xdec = xdec_of (sampling t) in
    let ydec = ydec_of (sampling t) in
    let in_tile = inside_is t bo inside in
    let across = one_or_two xdec (nat_eq plane 0) (halved_once (sampling t)) in
    let down = one_or_two ydec (nat_eq plane 0) (halved_down (sampling t)) in
    let few = few_planes (sampling t) in
    record {
      plane_is = omega (arith, fits.plane_is, few);
      xdec = omega (arith, few_halvings xdec plane (halved_once (sampling t)));
      ydec = omega (arith, few_halvings ydec plane (halved_down (sampling t)));
      columns = in_edges (2 ^ xdec_in t plane) bo.x (2 ^ (tx_width_log2 (tx_in t plane b) - 2)) t.bc.blocks.cols across in_tile.0 (is_paired t k).few fits.columns;
      rows = rows_within (2 ^ ydec_in t plane) (bo.y % 16) (2 ^ (tx_height_log2 (tx_in t plane b) - 2)) down fits.rows;
      width = omega arith;
      height = omega arith;
    }

pub map_same : (xs : List ℤ) → map (λ x. x) xs ≡ xs
map_same [] = refl
map_same (x ∷ xs) = ap (λ (l : List ℤ). x ∷ l) (map_same xs)

-- the scans of a unit have one for each size and class
pub each_there : (t : Tile) → IsKept t → IsTrue (of_each t.given.scans)
unfolding broken_scan_rule
each_there t k = passing_each t.given.scans k.given.scans

-- what a call that failed answered
pub err_is : {U E : Type 0} (r : Result U E) → IsErr r → (e : E) × (r ≡ Err e)
err_is (Ok v) h = absurd cc
err_is (Err e) h = (e, refl)

-- an array that has room for the current block's transform
pub room_is : (P : CurrentBlock → Type 0) (o : Option CurrentBlock) (b : CurrentBlock) → o ≡ Some b → IfSome o P → P b
room_is P o b is h = subst (λ (c : Option CurrentBlock). IfSome c P) is h

-- levels that were laid out, by the names of a call
pub laid_is : (values from levels : List ℤ) (positions scan : List ℕ) (n : ℕ) → levels_at values positions (length from) ≡ from → from ≡ levels → positions ≡ scan → n ≡ length levels → levels_at (map (λ x. x) values) scan n ≡ levels
laid_is values from levels positions scan n laid same there count =
    ap (λ (v : List ℤ). levels_at v scan n) (map_same values) ∙ ap (λ k. levels_at values scan k) (count ∙ sym (ap (λ (l : List ℤ). length l) same)) ∙ ap (λ (s : List ℕ). levels_at values s (length from)) (sym there) ∙ laid ∙ same

pub none_laid : (values from levels : List ℤ) (positions scan : List ℕ) (n : ℕ) → ((p : ℕ) → is_in (take (length from) positions) p ≡ false → value_at values p ≡ pos 0) → from ≡ levels → positions ≡ scan → n ≡ length levels →
    (p : ℕ) → is_in (take n scan) p ≡ false → value_at (map (λ x. x) values) p ≡ pos 0
none_laid values from levels positions scan n none same there count p h =
    ap (λ (v : List ℤ). value_at v p) (map_same values)
    ∙ none p (ap (λ (s : List ℕ). is_in (take (length from) s) p) there ∙ ap (λ k. is_in (take k scan) p) (ap (λ (l : List ℤ). length l) same ∙ sym count) ∙ h)

module _ (plane x y : ℕ) (given : TxType) (levels : List ℤ) where
  abbrev place : BlockOffset
  place = record { x = x; y = y }

  -- the rules are the same in luma and in chroma
  pub rules_are : (t : Tile) → rules (Coeffs plane x y given levels) t ≡ coeffs_asking t t.current plane place ++ coeffs_answering t t.current plane given levels
  rules_are t = by_plane plane
    where
      by_plane : (p : ℕ) → rules (Coeffs p x y given levels) t ≡ coeffs_asking t t.current p place ++ coeffs_answering t t.current p given levels
      by_plane zero = refl
      by_plane (suc p) = refl

  -- the step has its own place
  pub place_is : (t : Tile) → Some place ≡ (kind_of (question_of (Coeffs plane x y given levels)) t).place
  place_is t = by_plane plane
    where
      by_plane : (p : ℕ) → Some place ≡ (kind_of (question_of (Coeffs p x y given levels)) t).place
      by_plane zero = refl
      by_plane (suc p) = refl

  -- what it enters
  pub entered_is : (t : Tile) → entered (Coeffs plane x y given levels) t ≡ changed_by_all (coeffs_effects t t.current plane place levels) t
  entered_is t = by_plane plane
    where
      by_plane : (p : ℕ) → entered (Coeffs p x y given levels) t ≡ changed_by_all (coeffs_effects t t.current p place levels) t
      by_plane zero = refl
      by_plane (suc p) = refl

  -- where it keeps its rules there is a current block, of which it is asked
  pub block_there : (t : Tile) → IsAllowed (Coeffs plane x y given levels) t → is_some t.current ≡ true
  block_there t h = by_block t.current (ap first_broken (sym (rules_are t)) ∙ h)
    where
      by_block : (o : Option CurrentBlock) → first_broken (coeffs_asking t o plane place ++ coeffs_answering t o plane given levels) ≡ None → is_some o ≡ true
      by_block None g = let e : false ≡ true = (all_hold (coeffs_asking t None plane place ++ coeffs_answering t None plane given levels) g).1.0 in cc
      by_block (Some b) g = refl

  pub allowed_is : (t : Tile) (b : CurrentBlock) → t.current ≡ Some b → IsAllowed (Coeffs plane x y given levels) t →
      (holds (coeffs_asking t (Some b) plane place) ≡ true) × (holds (coeffs_answering t (Some b) plane given levels) ≡ true)
  allowed_is t b e h =
      let all : holds (coeffs_asking t (Some b) plane place ++ coeffs_answering t (Some b) plane given levels) ≡ true =
      ap is_none (subst (λ (o : Option CurrentBlock). first_broken (coeffs_asking t o plane place ++ coeffs_answering t o plane given levels) ≡ None) e (ap first_broken (sym (rules_are t)) ∙ h)) in
      (asking_holds (coeffs_asking t (Some b) plane place) (coeffs_answering t (Some b) plane given levels) all, answering_holds (coeffs_asking t (Some b) plane place) (coeffs_answering t (Some b) plane given levels) all)

  -- its type is one that a block with so many levels has
  pub type_fits : (t : Tile) (b : CurrentBlock) → holds (coeffs_answering t (Some b) plane given levels) ≡ true → HasType plane (tx_in t plane b) (mode_at t b) t.given.fi.use_reduced_tx_set (length levels) given
  type_fits t b h =
      let rule = (all_hold (coeffs_answering t (Some b) plane given levels) (none_is _ h)).1.0 in
      let size = tx_in t plane b in
      let mode = mode_at t b in
      let reduced = t.given.fi.use_reduced_tx_set in
      let typed : plane ≡ 0 → has_type size mode reduced given levels ≡ true = λ luma. second (not (plane == 0)) _ (let e : (plane == 0) ≡ true = grind (arith, nat_tests, luma) in ap not e) rule in
      record { none = λ luma. (typed_are size mode reduced given levels (typed luma)).0; some = λ luma. (typed_are size mode reduced given levels (typed luma)).1 }
    where
      second : (a b : Bool) → a ≡ false → (a || b) ≡ true → b ≡ true
      second true b e g = cc
      second false b e g = g

  -- coefficients by position that have these levels
  pub coded_are : (t : Tile) (b : CurrentBlock) (values : List ℤ) → IsKept t → holds (coeffs_answering t (Some b) plane given levels) ≡ true → coded_area (tx_in t plane b) ≤ length values →
      let size = tx_in t plane b in
      let scan = scan_of t.given.scans size (class_of given) in
      levels_at values scan (length levels) ≡ levels → ((p : ℕ) → is_in (take (length levels) scan) p ≡ false → value_at values p ≡ pos 0) → AreCoded size (class_of given) scan (length levels) values
  unfolding broken_scan_rule
  coded_are t b values k h long same none =
      let size = tx_in t plane b in
      let are = answer_levels t b plane given levels h in
      record {
        order = passing_scan t.given.scans size (class_of given) k.given.scans;
        area = long;
        few = are.few;
        levels = subst (λ (l : List ℤ). AreLevels (coded_area size) l) (sym same) are;
        none = none;
      }

  -- the scan of its transform has each position once, and at least as many as there are levels
  pub scan_is : (t : Tile) (b : CurrentBlock) → IsKept t → holds (coeffs_answering t (Some b) plane given levels) ≡ true → let scan = scan_of t.given.scans (tx_in t plane b) (class_of given) in
      (each_once (coded_area (tx_in t plane b)) scan ≡ true) × (length levels ≤ length scan)
  unfolding broken_scan_rule
  scan_is t b k h =
      let size = tx_in t plane b in
      let scan = scan_of t.given.scans size (class_of given) in
      let order = passing_scan t.given.scans size (class_of given) k.given.scans in
      let kept = scan_keeps size (class_of given) scan order in
      let once = both_pass (each_once (coded_area size) scan) (all_there (coded_area size) scan) kept.0 in
      (once.0, omega (arith, (answer_levels t b plane given levels h).few, scan_long size (class_of given) scan order))

  -- what the call of the element asks for, of what it is given
  module _ (t : Tile) (b : CurrentBlock) (of : TransformBlock) (k : IsKept t) (current : t.current ≡ Some b) (allowed : IsAllowed (Coeffs plane x y given levels) t) where
    pub asked_is : IsAsked t b plane place
    asked_is = is_asked_for t b plane place (allowed_is t b current allowed).0

    pub fits_is : IsTransform (sampling t) plane place (tx_in t plane b)
    fits_is = transform_fits t b plane place k current asked_is

    pub call_fits : of ≡ transform_of t b plane place → CanBeWritten t plane place of
    call_fits is = subst (CanBeWritten t plane place) (sym is) (can_be_written t b plane place k asked_is.inside fits_is)

    pub call_mode : of ≡ transform_of t b plane place → plane ≡ 0 → prediction_mode_number of.mode ≡ 13 → ⊥
    call_mode is luma h = mode_is_luma t b k current (sym (ap (λ (o : TransformBlock). prediction_mode_number o.mode) is) ∙ h)

    pub call_type : of ≡ transform_of t b plane place → HasType plane of.tx_size of.mode t.given.fi.use_reduced_tx_set (length levels) given
    call_type is = subst (λ (o : TransformBlock). HasType plane o.tx_size o.mode t.given.fi.use_reduced_tx_set (length levels) given) (sym is) (type_fits t b (allowed_is t b current allowed).1)

    pub call_scan : of ≡ transform_of t b plane place → (n : ℕ) → coded_area (tx_in t plane b) ≤ n →
        let scan = scan_of t.given.scans of.tx_size (class_of given) in (each_once n scan ≡ true) × (length levels ≤ length scan)
    call_scan is n room =
        let scan = scan_is t b k (allowed_is t b current allowed).1 in
        let positions = scan_of t.given.scans (tx_in t plane b) (class_of given) in
        let whole : (each_once n positions ≡ true) × (length levels ≤ length positions) = (once_within (coded_area (tx_in t plane b)) n positions room scan.0, scan.1) in
        subst (λ (o : TransformBlock). let scan = scan_of t.given.scans o.tx_size (class_of given) in (each_once n scan ≡ true) × (length levels ≤ length scan)) (sym is) whole

    pub call_few : length levels ≤ 1024
    call_few = omega (arith, (answer_levels t b plane given levels (allowed_is t b current allowed).1).few, area_few (tx_in t plane b))

    pub call_small : (k : ℕ) → k < length levels → unsigned_abs (slice_index_or levels k (pos 0)) < 2 ^ 20
    call_small = (answer_levels t b plane given levels (allowed_is t b current allowed).1).small

    pub call_coded : of ≡ transform_of t b plane place → (values : List ℤ) (scan : List ℕ) (n : ℕ) → n ≡ length levels → coded_area (tx_in t plane b) ≤ length values → scan ≡ scan_of t.given.scans of.tx_size (class_of given) → levels_at values scan n ≡ levels →
        ((p : ℕ) → is_in (take n scan) p ≡ false → value_at values p ≡ pos 0) → AreCoded of.tx_size (class_of given) scan n values
    call_coded is values scan n count long same laid none =
        let there : scan ≡ scan_of t.given.scans (tx_in t plane b) (class_of given) = same ∙ ap (λ (o : TransformBlock). scan_of t.given.scans o.tx_size (class_of given)) is in
        subst (λ (o : TransformBlock). AreCoded o.tx_size (class_of given) scan n values) (sym is)
        (subst (λ m. AreCoded (tx_in t plane b) (class_of given) scan m values) (sym count)
        (subst (λ (s : List ℕ). AreCoded (tx_in t plane b) (class_of given) s (length levels) values) (sym there)
        (coded_are t b values k (allowed_is t b current allowed).1 long
        (subst (λ (s : List ℕ). levels_at values s (length levels) ≡ levels) there (subst (λ m. levels_at values scan m ≡ levels) count laid))
        (subst (λ (s : List ℕ). (p : ℕ) → is_in (take (length levels) s) p ≡ false → value_at values p ≡ pos 0) there (subst (λ m. (p : ℕ) → is_in (take m scan) p ≡ false → value_at values p ≡ pos 0) count none)))))

  -- a call is given what the definitions say, and wrote the levels' element
  pub written_is : {U E : Type 0} (r : Result U E) (t : Tile) (b : CurrentBlock) (of : TransformBlock) (by_coded : Bool) (laid : List ℤ) (from to : Standing Context) → by_coded ≡ t.given.eob_by_coded → of ≡ transform_of t b plane place → laid ≡ levels →
      Wrote coded_in learnt_in r (coeffs_in by_coded t plane place given of).tree (given, laid) from to → Wrote coded_in learnt_in r (coeffs_of t b plane place given).tree (given, levels) from to
  written_is r t b of by_coded laid from to by is same w =
      subst (λ (l : List ℤ). Wrote coded_in learnt_in r (coeffs_of t b plane place given).tree (given, l) from to) same
      (subst (λ (o : TransformBlock). Wrote coded_in learnt_in r (coeffs_by t plane place given o).tree (given, laid) from to) is
      (subst (λ c. Wrote coded_in learnt_in r (coeffs_in c t plane place given of).tree (given, laid) from to) by w))

  -- the state after the call
  pub coeffs_entered : (t : Tile) (b : CurrentBlock) (fc : List ℕ) (bc : BlockContext) (of : TransformBlock) (laid : List ℤ) → t.current ≡ Some b → of ≡ transform_of t b plane place → laid ≡ levels →
      bc ≡ with_coefficients plane place of.tx_size of.xdec of.ydec (entry_of laid) t.bc → record t { numbers = fc; bc = bc } ≡ entered (Coeffs plane x y given levels) (with_numbers fc t)
  coeffs_entered t b fc bc of laid current is same edges =
      let u = with_numbers fc t in
      ap (λ (c : BlockContext). record t { numbers = fc; bc = c }) edges
      ∙ ap (λ (o : TransformBlock). record t { numbers = fc; bc = with_coefficients plane place o.tx_size o.xdec o.ydec (entry_of laid) t.bc }) is
      ∙ ap (λ (l : List ℤ). record t { numbers = fc; bc = with_coefficients plane place (tx_in t plane b) (xdec_in t plane) (ydec_in t plane) (entry_of l) t.bc }) same
      ∙ sym (entered_is u ∙ ap (λ (o : Option CurrentBlock). changed_by_all (coeffs_effects u o plane place levels) u) current)

  -- every state keeps the same after the call, whether it was refused or not
  pub coeffs_kept : {U E : Type 0} (r : Result U E) (t : Tile) (b : CurrentBlock) (fc : List ℕ) (bc : BlockContext) (of : TransformBlock) (laid : List ℤ) → IsKept t → AreCdfs fc → t.current ≡ Some b → IsAllowed (Coeffs plane x y given levels) t →
      of ≡ transform_of t b plane place → laid ≡ levels → OnOk r (bc ≡ with_coefficients plane place of.tx_size of.xdec of.ydec (entry_of laid) t.bc) → OnErr r (bc ≡ t.bc) → IsKept record t { numbers = fc; bc = bc }
  coeffs_kept (Ok v) t b fc bc of laid k cdfs current allowed is same edges rest =
      subst IsKept (sym (coeffs_entered t b fc bc of laid current is same edges)) (kept_after (Coeffs plane x y given levels) fc t cdfs k allowed)
  coeffs_kept (Err e) t b fc bc of laid k cdfs current allowed is same edges rest = subst IsKept (sym (only_numbers t fc bc rest)) (numbers_kept fc t k)

  module _ {W : Type 0} (writer : Ghosts W) (b : CurrentBlock) (w later : W) (old new : TileState) (is : (tile_of old).current ≡ Some b) (allowed : IsAllowed (Coeffs plane x y given levels) (tile_of old))
      (moves : Moving writer (2 ^ 20) w later (log_of old) (log_of new) (context_of old.cw) (context_of new.cw)) where
    -- what the call of the element wrote
    abbrev HasWritten : {U E : Type 0} → Result U E → ℕ → Type 0
    HasWritten r p = Wrote coded_in learnt_in r (coeffs_of (tile_of old) b p place given).tree (given, levels) (stands writer w old.cw) (stands writer later new.cw)

    pub coeffs_written : {U E : Type 0} (v : U) → HasWritten {U = U} {E = E} (Ok v) plane → tile_of new ≡ entered (Coeffs plane x y given levels) (with_numbers (tile_of new).numbers (tile_of old)) → (r : Result U E) → r ≡ Ok v →
        Writes writer r (Coeffs plane x y given levels) w later old new
    coeffs_written {U} {E} v wrote tile r ok = by_plane plane wrote tile allowed
      where
        by_plane : (p : ℕ) → HasWritten {U = U} {E = E} (Ok v) p → tile_of new ≡ entered (Coeffs p x y given levels) (with_numbers (tile_of new).numbers (tile_of old)) → IsAllowed (Coeffs p x y given levels) (tile_of old) → Writes writer r (Coeffs p x y given levels) w later old new
        by_plane zero wrote tile allowed =
            let t = tile_of old in
            writes_whole writer r v ok (Coeffs 0 x y given levels) (luma_coeffs_kind t (Some b) place) (given, levels) w later old new (2 ^ 20) (ap (λ (o : Option CurrentBlock). steps (luma_coeffs_kind t o place)) (sym is)) refl
            (subst (λ (o : Option CurrentBlock). first_broken (rules_of (luma_coeffs_kind t o place) (given, levels)) ≡ None) is allowed) wrote tile (omega arith) moves
        by_plane (suc p) wrote tile allowed =
            let t = tile_of old in
            writes_whole writer r v ok (Coeffs (suc p) x y given levels) (chroma_coeffs_kind t (Some b) (suc p) place given) levels w later old new (2 ^ 20) (ap (λ (o : Option CurrentBlock). steps (chroma_coeffs_kind t o (suc p) place given)) (sym is)) refl
            (subst (λ (o : Option CurrentBlock). first_broken (rules_of (chroma_coeffs_kind t o (suc p) place given) levels) ≡ None) is allowed)
            (wrote_as coded_in learnt_in {U = U} {E = E} (Ok v) (coeffs_of t b (suc p) place given).tree (λ a. Done a.1) (given, levels) levels (stands writer w old.cw) (stands writer later new.cw) refl wrote) tile (omega arith) moves

    pub coeffs_refused : {U E : Type 0} (e : E) → HasWritten {U = U} {E = E} (Err e) plane → tile_of new ≡ with_numbers (tile_of new).numbers (tile_of old) → (r : Result U E) → r ≡ Err e → Writes writer r (Coeffs plane x y given levels) w later old new
    coeffs_refused {U} {E} e wrote tile r err = by_plane plane wrote allowed
      where
        by_plane : (p : ℕ) → HasWritten {U = U} {E = E} (Err e) p → IsAllowed (Coeffs p x y given levels) (tile_of old) → Writes writer r (Coeffs p x y given levels) w later old new
        by_plane zero wrote allowed =
            let t = tile_of old in
            writes_front writer r e err (Coeffs 0 x y given levels) (luma_coeffs_kind t (Some b) place) (given, levels) w later old new (2 ^ 20) (ap (λ (o : Option CurrentBlock). steps (luma_coeffs_kind t o place)) (sym is)) refl
            (subst (λ (o : Option CurrentBlock). first_broken (rules_of (luma_coeffs_kind t o place) (given, levels)) ≡ None) is allowed) wrote tile (omega arith) moves
        by_plane (suc p) wrote allowed =
            let t = tile_of old in
            writes_front writer r e err (Coeffs (suc p) x y given levels) (chroma_coeffs_kind t (Some b) (suc p) place given) levels w later old new (2 ^ 20) (ap (λ (o : Option CurrentBlock). steps (chroma_coeffs_kind t o (suc p) place given)) (sym is)) refl
            (subst (λ (o : Option CurrentBlock). first_broken (rules_of (chroma_coeffs_kind t o (suc p) place given) levels) ≡ None) is allowed)
            (wrote_as coded_in learnt_in {U = U} {E = E} (Err e) (coeffs_of t b (suc p) place given).tree (λ a. Done a.1) (given, levels) levels (stands writer w old.cw) (stands writer later new.cw) refl wrote) tile (omega arith) moves
