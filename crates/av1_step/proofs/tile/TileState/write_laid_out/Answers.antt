use Rattle.std.proofs.Common.{◌≡◌, ◌^◌, ◌≤◌, ℕ, ℤ, List, Some, Ok, Err, true, ◌<◌, unsigned_abs, slice_index_or, pos, length, map, refl, sym, ap, subst, ◌∙◌, arith, rules}
use Rattle.av1_coef.specs.Contexts.{coded_area}
use Rattle.av1_coef.specs.Scans.{each_once, scan_of}
use Rattle.av1_geometry.specs.TxTables.{class_of}
use Rattle.av1_syntax.specs.Coefficients.{levels_at, HasType}
use Rattle.av1_syntax.specs.Calls.{stands}
use Rattle.av1_step.specs.CoeffSteps.{transform_of, tx_in}
use Rattle.av1_step.specs.State.{tile_of}
use Rattle.av1_step.proofs.CoeffWriting.{asked_is, block_there, call_coded, call_few, call_fits, call_mode, call_scan, call_small, call_type, coeffs_entered, coeffs_kept, coeffs_refused, coeffs_written, each_there, err_is, fits_is, laid_is, map_same, none_laid, room_is, written_is}
use Rattle.av1_step.proofs.FilterArms.{only_numbers}
use Rattle.av1_step.proofs.Switches.{switched}
use Rattle.av1_step.proofs.tile.TileState.write_laid_out.Goals as goal

pub unwrap-b-requires : goal.unwrap-b-requires
unwrap-b-requires g c = let a = c.args in block_there a.plane a.x a.y a.tx_type a.levels.now (tile_of a.self.now) c.requires.rules

pub transform-of-requires-clause-inside : goal.transform-of-requires-clause-inside
transform-of-requires-clause-inside g c =
    let t = tile_of c.args.self.now in
    let b = c.unwrap-b.result in
    let current : t.current ≡ Some b = search rules in
    let a = c.args in
    (asked_is a.plane a.x a.y a.tx_type a.levels.now t b (transform_of t b a.plane record { x = a.x; y = a.y }) a.self.now.kept current c.requires.rules).inside

pub transform-of-requires-clause-transform : goal.transform-of-requires-clause-transform
transform-of-requires-clause-transform g c =
    let t = tile_of c.args.self.now in
    let b = c.unwrap-b.result in
    let current : t.current ≡ Some b = search rules in
    let a = c.args in
    fits_is a.plane a.x a.y a.tx_type a.levels.now t b (transform_of t b a.plane record { x = a.x; y = a.y }) a.self.now.kept current c.requires.rules

pub scan-scan-requires : goal.scan-scan-requires
scan-scan-requires g c = each_there (tile_of c.args.self.now) c.args.self.now.kept

pub write_coeffs_lv_map-requires-clause-plane : goal.write_coeffs_lv_map-requires-clause-plane
write_coeffs_lv_map-requires-clause-plane g c =
    let t = tile_of c.args.self.now in
    let b = c.unwrap-b.result in
    let current : t.current ≡ Some b = search rules in
    let a = c.args in
    (call_fits a.plane a.x a.y a.tx_type a.levels.now t b c.transform-of.result a.self.now.kept current c.requires.rules c.transform-of.ensures).plane_is

pub write_coeffs_lv_map-requires-clause-xdec : goal.write_coeffs_lv_map-requires-clause-xdec
write_coeffs_lv_map-requires-clause-xdec g c =
    let t = tile_of c.args.self.now in
    let b = c.unwrap-b.result in
    let current : t.current ≡ Some b = search rules in
    let a = c.args in
    (call_fits a.plane a.x a.y a.tx_type a.levels.now t b c.transform-of.result a.self.now.kept current c.requires.rules c.transform-of.ensures).xdec

pub write_coeffs_lv_map-requires-clause-ydec : goal.write_coeffs_lv_map-requires-clause-ydec
write_coeffs_lv_map-requires-clause-ydec g c =
    let t = tile_of c.args.self.now in
    let b = c.unwrap-b.result in
    let current : t.current ≡ Some b = search rules in
    let a = c.args in
    (call_fits a.plane a.x a.y a.tx_type a.levels.now t b c.transform-of.result a.self.now.kept current c.requires.rules c.transform-of.ensures).ydec

pub write_coeffs_lv_map-requires-clause-columns : goal.write_coeffs_lv_map-requires-clause-columns
write_coeffs_lv_map-requires-clause-columns g c =
    let t = tile_of c.args.self.now in
    let b = c.unwrap-b.result in
    let current : t.current ≡ Some b = search rules in
    let a = c.args in
    (call_fits a.plane a.x a.y a.tx_type a.levels.now t b c.transform-of.result a.self.now.kept current c.requires.rules c.transform-of.ensures).columns

pub write_coeffs_lv_map-requires-clause-rows : goal.write_coeffs_lv_map-requires-clause-rows
write_coeffs_lv_map-requires-clause-rows g c =
    let t = tile_of c.args.self.now in
    let b = c.unwrap-b.result in
    let current : t.current ≡ Some b = search rules in
    let a = c.args in
    (call_fits a.plane a.x a.y a.tx_type a.levels.now t b c.transform-of.result a.self.now.kept current c.requires.rules c.transform-of.ensures).rows

pub write_coeffs_lv_map-requires-clause-clipped_width : goal.write_coeffs_lv_map-requires-clause-clipped_width
write_coeffs_lv_map-requires-clause-clipped_width g c =
    let t = tile_of c.args.self.now in
    let b = c.unwrap-b.result in
    let current : t.current ≡ Some b = search rules in
    let a = c.args in
    (call_fits a.plane a.x a.y a.tx_type a.levels.now t b c.transform-of.result a.self.now.kept current c.requires.rules c.transform-of.ensures).width

pub write_coeffs_lv_map-requires-clause-clipped_height : goal.write_coeffs_lv_map-requires-clause-clipped_height
write_coeffs_lv_map-requires-clause-clipped_height g c =
    let t = tile_of c.args.self.now in
    let b = c.unwrap-b.result in
    let current : t.current ≡ Some b = search rules in
    let a = c.args in
    (call_fits a.plane a.x a.y a.tx_type a.levels.now t b c.transform-of.result a.self.now.kept current c.requires.rules c.transform-of.ensures).height

pub write_coeffs_lv_map-requires-clause-mode : goal.write_coeffs_lv_map-requires-clause-mode
write_coeffs_lv_map-requires-clause-mode g c =
    let t = tile_of c.args.self.now in
    let b = c.unwrap-b.result in
    let current : t.current ≡ Some b = search rules in
    let a = c.args in
    call_mode a.plane a.x a.y a.tx_type a.levels.now t b c.transform-of.result a.self.now.kept current c.requires.rules c.transform-of.ensures

pub write_coeffs_lv_map-requires-clause-typed : goal.write_coeffs_lv_map-requires-clause-typed
write_coeffs_lv_map-requires-clause-typed g c =
    let a = c.args in
    let t = tile_of a.self.now in
    let b = c.unwrap-b.result in
    let of = c.transform-of.result in
    let current : t.current ≡ Some b = search rules in
    let same : c.deref.result.now ≡ a.levels.now = c.deref.ensures.value ∙ c.levels.view_is in
    let there : c.deref-2.result.now ≡ c.scan-scan.result.now = c.deref-2.ensures.value ∙ c.scan.view_is in
    let count : c.len.result ≡ length a.levels.now = c.len.ensures ∙ sym c.deref.ensures.len ∙ ap (λ (l : List ℤ). length l) same in
    subst (λ n. HasType a.plane of.tx_size of.mode t.given.fi.use_reduced_tx_set n a.tx_type) (sym count) (call_type a.plane a.x a.y a.tx_type a.levels.now t b of a.self.now.kept current c.requires.rules c.transform-of.ensures)

pub overflow_cast-len : goal.overflow_cast-len
overflow_cast-len g c =
    let a = c.args in
    let t = tile_of a.self.now in
    let b = c.unwrap-b.result in
    let of = c.transform-of.result in
    let current : t.current ≡ Some b = search rules in
    let same : c.deref.result.now ≡ a.levels.now = c.deref.ensures.value ∙ c.levels.view_is in
    let there : c.deref-2.result.now ≡ c.scan-scan.result.now = c.deref-2.ensures.value ∙ c.scan.view_is in
    let count : c.len.result ≡ length a.levels.now = c.len.ensures ∙ sym c.deref.ensures.len ∙ ap (λ (l : List ℤ). length l) same in
    omega (arith, count, call_few a.plane a.x a.y a.tx_type a.levels.now t b of a.self.now.kept current c.requires.rules)

pub lay_out-requires-clause-once : goal.lay_out-requires-clause-once
lay_out-requires-clause-once g c =
    let a = c.args in
    let t = tile_of a.self.now in
    let b = c.unwrap-b.result in
    let of = c.transform-of.result in
    let current : t.current ≡ Some b = search rules in
    let same : c.deref.result.now ≡ a.levels.now = c.deref.ensures.value ∙ c.levels.view_is in
    let there : c.deref-2.result.now ≡ c.scan-scan.result.now = c.deref-2.ensures.value ∙ c.scan.view_is in
    let scan : c.scan-scan.result.now ≡ scan_of t.given.scans of.tx_size (class_of a.tx_type) = c.scan-scan.ensures ∙ ap (scan_of t.given.scans of.tx_size) c.class.ensures in
    subst (λ (s : List ℕ). each_once (length a.coeffs.now) s ≡ true) (sym (there ∙ scan)) (call_scan a.plane a.x a.y a.tx_type a.levels.now t b of a.self.now.kept current c.requires.rules c.transform-of.ensures (length a.coeffs.now) (room_is (λ b. coded_area (tx_in t a.plane b) ≤ (length a.coeffs.now)) t.current b current c.requires.room)).0

pub lay_out-requires-clause-few : goal.lay_out-requires-clause-few
lay_out-requires-clause-few g c =
    let a = c.args in
    let t = tile_of a.self.now in
    let b = c.unwrap-b.result in
    let of = c.transform-of.result in
    let current : t.current ≡ Some b = search rules in
    let same : c.deref.result.now ≡ a.levels.now = c.deref.ensures.value ∙ c.levels.view_is in
    let there : c.deref-2.result.now ≡ c.scan-scan.result.now = c.deref-2.ensures.value ∙ c.scan.view_is in
    let scan : c.scan-scan.result.now ≡ scan_of t.given.scans of.tx_size (class_of a.tx_type) = c.scan-scan.ensures ∙ ap (scan_of t.given.scans of.tx_size) c.class.ensures in
    subst (λ (s : List ℕ). length c.deref.result.now ≤ length s) (sym (there ∙ scan)) (subst (λ (l : List ℤ). length l ≤ length (scan_of t.given.scans of.tx_size (class_of a.tx_type))) (sym same) (call_scan a.plane a.x a.y a.tx_type a.levels.now t b of a.self.now.kept current c.requires.rules c.transform-of.ensures (length a.coeffs.now) (room_is (λ b. coded_area (tx_in t a.plane b) ≤ (length a.coeffs.now)) t.current b current c.requires.room)).1)

pub lay_out-requires-clause-small : goal.lay_out-requires-clause-small
lay_out-requires-clause-small g c =
    let a = c.args in
    let t = tile_of a.self.now in
    let b = c.unwrap-b.result in
    let of = c.transform-of.result in
    let current : t.current ≡ Some b = search rules in
    let same : c.deref.result.now ≡ a.levels.now = c.deref.ensures.value ∙ c.levels.view_is in
    let there : c.deref-2.result.now ≡ c.scan-scan.result.now = c.deref-2.ensures.value ∙ c.scan.view_is in
    subst (λ (l : List ℤ). (k : ℕ) → k < length l → unsigned_abs (slice_index_or l k (pos 0)) < 2 ^ 20) (sym same) (call_small a.plane a.x a.y a.tx_type a.levels.now t b of a.self.now.kept current c.requires.rules)

pub write_coeffs_lv_map-requires-clause-coded : goal.write_coeffs_lv_map-requires-clause-coded
write_coeffs_lv_map-requires-clause-coded g c =
    let a = c.args in
    let t = tile_of a.self.now in
    let b = c.unwrap-b.result in
    let of = c.transform-of.result in
    let current : t.current ≡ Some b = search rules in
    let same : c.deref.result.now ≡ a.levels.now = c.deref.ensures.value ∙ c.levels.view_is in
    let there : c.deref-2.result.now ≡ c.scan-scan.result.now = c.deref-2.ensures.value ∙ c.scan.view_is in
    let count : c.len.result ≡ length a.levels.now = c.len.ensures ∙ sym c.deref.ensures.len ∙ ap (λ (l : List ℤ). length l) same in
    let laid = levels_at (map (λ x. x) c.lay_out.new.coeffs) c.scan-scan.result.now c.len.result in
    let laid_same : laid ≡ a.levels.now = laid_is c.lay_out.new.coeffs c.deref.result.now a.levels.now c.deref-2.result.now c.scan-scan.result.now c.len.result c.lay_out.ensures.levels_are same there count in
    let scan : c.scan-scan.result.now ≡ scan_of t.given.scans of.tx_size (class_of a.tx_type) = c.scan-scan.ensures ∙ ap (scan_of t.given.scans of.tx_size) c.class.ensures in
    call_coded a.plane a.x a.y a.tx_type a.levels.now t b of a.self.now.kept current c.requires.rules c.transform-of.ensures (map (λ x. x) c.lay_out.new.coeffs) c.scan-scan.result.now c.len.result count
    (let long : length (map (λ x. x) c.lay_out.new.coeffs) ≡ (length a.coeffs.now) = ap (λ (l : List ℤ). length l) (map_same c.lay_out.new.coeffs) ∙ c.lay_out.ensures.long in
    subst (λ n. coded_area (tx_in t a.plane b) ≤ n) (sym long) (room_is (λ b. coded_area (tx_in t a.plane b) ≤ (length a.coeffs.now)) t.current b current c.requires.room)) scan laid_same
    (none_laid c.lay_out.new.coeffs c.deref.result.now a.levels.now c.deref-2.result.now c.scan-scan.result.now c.len.result c.lay_out.ensures.none same there count)

pub invariant_of-self : goal.invariant_of-self
invariant_of-self g c =
    let a = c.args in
    let t = tile_of a.self.now in
    let b = c.unwrap-b.result in
    let of = c.transform-of.result in
    let current : t.current ≡ Some b = search rules in
    let same : c.deref.result.now ≡ a.levels.now = c.deref.ensures.value ∙ c.levels.view_is in
    let there : c.deref-2.result.now ≡ c.scan-scan.result.now = c.deref-2.ensures.value ∙ c.scan.view_is in
    let count : c.len.result ≡ length a.levels.now = c.len.ensures ∙ sym c.deref.ensures.len ∙ ap (λ (l : List ℤ). length l) same in
    let laid = levels_at (map (λ x. x) c.lay_out.new.coeffs) c.scan-scan.result.now c.len.result in
    let laid_same : laid ≡ a.levels.now = laid_is c.lay_out.new.coeffs c.deref.result.now a.levels.now c.deref-2.result.now c.scan-scan.result.now c.len.result c.lay_out.ensures.levels_are same there count in
    let new = c.write_coeffs_lv_map.new.self in
    let ens = c.write_coeffs_lv_map.ensures in
    record { cdfs = ens.moves.cdfs; kept = coeffs_kept a.plane a.x a.y a.tx_type a.levels.now c.write_coeffs_lv_map.result t b new.fc new.bc of laid a.self.now.kept ens.moves.cdfs current c.requires.rules c.transform-of.ensures laid_same ens.edges ens.refused; switches = switched _ _ _ _ _ _ _ _ _ ens.moves a.self.now.switches }

pub returns-in_err-write_coeffs_lv_map : goal.returns-in_err-write_coeffs_lv_map
returns-in_err-write_coeffs_lv_map g c =
    let a = c.args in
    let t = tile_of a.self.now in
    let b = c.unwrap-b.result in
    let of = c.transform-of.result in
    let current : t.current ≡ Some b = search rules in
    let same : c.deref.result.now ≡ a.levels.now = c.deref.ensures.value ∙ c.levels.view_is in
    let there : c.deref-2.result.now ≡ c.scan-scan.result.now = c.deref-2.ensures.value ∙ c.scan.view_is in
    let count : c.len.result ≡ length a.levels.now = c.len.ensures ∙ sym c.deref.ensures.len ∙ ap (λ (l : List ℤ). length l) same in
    let laid = levels_at (map (λ x. x) c.lay_out.new.coeffs) c.scan-scan.result.now c.len.result in
    let laid_same : laid ≡ a.levels.now = laid_is c.lay_out.new.coeffs c.deref.result.now a.levels.now c.deref-2.result.now c.scan-scan.result.now c.len.result c.lay_out.ensures.levels_are same there count in
    let scan : c.scan-scan.result.now ≡ scan_of t.given.scans of.tx_size (class_of a.tx_type) = c.scan-scan.ensures ∙ ap (scan_of t.given.scans of.tx_size) c.class.ensures in
    let new = c.write_coeffs_lv_map.new.self in
    let ens = c.in_err-write_coeffs_lv_map.ensures in
    let e = err_is c.from_residual.result c.from_residual.ensures.0 in
    let from = stands g.W.Known a.w.now a.self.now.cw in
    let to = stands g.W.Known c.write_coeffs_lv_map.new.w new in
    coeffs_refused a.plane a.x a.y a.tx_type a.levels.now g.W.Known b _ _ _ _ current c.requires.rules ens.moves e.0
    (written_is a.plane a.x a.y a.tx_type a.levels.now {U = Unit {0}} (Err e.0) t b of a.self.now.cw.eob_by_coded laid from to a.self.now.switches.eob_by_coded_is c.transform-of.ensures laid_same (ens.wrote (scan_of t.given.scans of.tx_size) (sym scan))) (only_numbers t new.fc new.bc ens.refused) c.from_residual.result e.1

pub returns : goal.returns
returns g c =
    let a = c.args in
    let t = tile_of a.self.now in
    let b = c.unwrap-b.result in
    let of = c.transform-of.result in
    let current : t.current ≡ Some b = search rules in
    let same : c.deref.result.now ≡ a.levels.now = c.deref.ensures.value ∙ c.levels.view_is in
    let there : c.deref-2.result.now ≡ c.scan-scan.result.now = c.deref-2.ensures.value ∙ c.scan.view_is in
    let count : c.len.result ≡ length a.levels.now = c.len.ensures ∙ sym c.deref.ensures.len ∙ ap (λ (l : List ℤ). length l) same in
    let laid = levels_at (map (λ x. x) c.lay_out.new.coeffs) c.scan-scan.result.now c.len.result in
    let laid_same : laid ≡ a.levels.now = laid_is c.lay_out.new.coeffs c.deref.result.now a.levels.now c.deref-2.result.now c.scan-scan.result.now c.len.result c.lay_out.ensures.levels_are same there count in
    let scan : c.scan-scan.result.now ≡ scan_of t.given.scans of.tx_size (class_of a.tx_type) = c.scan-scan.ensures ∙ ap (scan_of t.given.scans of.tx_size) c.class.ensures in
    let new = c.write_coeffs_lv_map.new.self in
    let ens = c.in_ok-write_coeffs_lv_map.ensures in
    let from = stands g.W.Known a.w.now a.self.now.cw in
    let to = stands g.W.Known c.write_coeffs_lv_map.new.w new in
    coeffs_written a.plane a.x a.y a.tx_type a.levels.now g.W.Known b _ _ _ _ current c.requires.rules ens.moves tt
    (written_is a.plane a.x a.y a.tx_type a.levels.now {U = Unit {0}} {E = Unit {0}} (Ok tt) t b of a.self.now.cw.eob_by_coded laid from to a.self.now.switches.eob_by_coded_is c.transform-of.ensures laid_same (ens.wrote (scan_of t.given.scans of.tx_size) (sym scan)))
    (coeffs_entered a.plane a.x a.y a.tx_type a.levels.now t b new.fc new.bc of laid current c.transform-of.ensures laid_same ens.edges) (Ok tt) refl
