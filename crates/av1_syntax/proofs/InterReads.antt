-- What inter blocks code has one path to each value: whether a block is one, modes and references.
use Rattle.std.proofs.Common.{◌≡◌, ℕ, zero, suc, ◌+◌, ◌-◌, ◌*◌, ◌<◌, ◌≤◌, List, [], ◌∷◌, Bool, true, false, not, ◌&&◌, ◌||◌, IsTrue, if◌then◌else◌, Some, None, nat_eq, eqb-true, codes, refl, sym, ap, subst, ◌∙◌, arith}
use Rattle.std.specs.Prelude.{slice_get}
use Rattle.std.proofs.lemmas.Bool.Decides.{nat_tests}
use Rattle.std.proofs.lemmas.Option.{slice_get_past}
use Rattle.av1_blocks.specs.Grid.{Grid, block_at, intra_inter_context}
use Rattle.av1_cdf.specs.Distribution.{Distribution, HasSymbols}
use Rattle.av1_cdf.specs.Distribution.Distribution.{Adaptive}
use Rattle.av1_cdf.specs.Layout.{Slot, slot}
use Rattle.av1_geometry.specs.declared.block_offset.BlockOffset.{BlockOffset}
use Rattle.av1_geometry.specs.declared.frame_type.ReferenceMode.{ReferenceMode}
use Rattle.av1_geometry.specs.declared.prediction_mode.PredictionMode.{PredictionMode}
use Rattle.av1_geometry.specs.declared.prediction_mode.PredictionMode.TheVariants.{DC_PRED, NEARESTMV, NEAR0MV, GLOBALMV, NEWMV, NEAREST_NEARESTMV, NEAR_NEAR0MV, NEAREST_NEWMV, NEW_NEARESTMV, NEAR_NEW0MV, NEW_NEAR0MV, GLOBAL_GLOBALMV, NEW_NEWMV}
use Rattle.av1_geometry.specs.declared.ref_type.RefType.{RefType}
use Rattle.av1_geometry.specs.declared.ref_type.RefType.TheVariants.{INTRA_FRAME, LAST_FRAME, LAST2_FRAME, LAST3_FRAME, GOLDEN_FRAME, BWDREF_FRAME, ALTREF2_FRAME, ALTREF_FRAME, NONE_FRAME}
use Rattle.av1_geometry.specs.PredictionMode.{prediction_mode_number, prediction_mode_of}
use Rattle.av1_geometry.specs.RefType.{reference_number, reference_of}
use Rattle.av1_model.specs.Element.{Element, known, renamed, Reads}
use Rattle.av1_model.proofs.ElementLaws.{known_reads, reads_as, symbol_reads, choose_reads, after_reads, renamed_reads}
use Rattle.av1_mvref.specs.References.{count_of, by_counts, comp_mode_context, comp_ref_type_context, refs_above, refs_left, differ, same_direction, is_inter_there, is_compound, is_one_sided, one_if, ref_type_of_two}
use Rattle.av1_syntax.specs.declared.ref_frames.RefContexts.{RefContexts}
use Rattle.av1_syntax.specs.Calls.{adaptive}
use Rattle.av1_syntax.specs.Decisions.{decide}
use Rattle.av1_syntax.specs.Flags.{flag_number}
use Rattle.av1_syntax.specs.InterModes.{is_inter_element, drl_mode_element, new_context, zero_context, ref_context, is_mode, is_among, inter_modes, unless, inter_mode_element, compound_modes, compound_number, compound_context, compound_mode_element}
use Rattle.av1_syntax.specs.RefFrames.{contexts_at, AreContexts, from_ref, behind, ahead, single_element, forward_element, backward_element, both_sides_of, both_sides_element, one_element, pair_element, two_element, is_pair, among_element, may_be_pair, ref_frames_element, AreRefFrames}
use Rattle.av1_syntax.proofs.Elements.{flag_reads}
use Rattle.av1_syntax.proofs.Following.{Picked, decide_reads}
use Rattle.av1_syntax.proofs.InterSlots.{intra_inter_has, drl_has, newmv_has, zeromv_has, refmv_has, compound_mode_has, comp_mode_has, comp_ref_type_has, comp_bwd_has, comp_has, single_has}

intra_few : (g : Grid) (bo : BlockOffset) → intra_inter_context g bo < 4
intra_few g bo = grind (arith, nat_tests)

pub is_inter_reads : (g : Grid) (bo : BlockOffset) → Reads HasSymbols (is_inter_element g bo) (λ on. Unit {0}) 1
is_inter_reads g bo = flag_reads _ (intra_inter_has (intra_inter_context g bo) (intra_few g bo))

pub drl_mode_reads : (ctx : ℕ) → ctx ≤ 2 → Reads HasSymbols (drl_mode_element ctx) (λ on. Unit {0}) 1
drl_mode_reads ctx h = flag_reads _ (drl_has ctx (omega (arith, h)))

-- a mode by its number
mode_told : (m : PredictionMode) → prediction_mode_of (prediction_mode_number m) ≡ Some m
mode_told DC_PRED = refl
mode_told _ = refl

pub same_mode : (m a : PredictionMode) → is_mode m a ≡ true → a ≡ m
same_mode m a h =
    let e : prediction_mode_number a ≡ prediction_mode_number m = eqb-true (prediction_mode_number a) (prediction_mode_number m) h in
    let f : Some a ≡ Some m = sym (mode_told a) ∙ ap prediction_mode_of e ∙ mode_told m in
    let g : a ≡ m = cc in g

abbrev pub IsAmong : List PredictionMode → PredictionMode → Type 0
IsAmong ms a = IsTrue (is_among ms a)

or_first : (x y : Bool) → x ≡ true → IsTrue (x || y)
or_first true y h = refl
or_first false y h = absurd cc

or_second : (x y : Bool) → IsTrue y → IsTrue (x || y)
or_second true y h = refl
or_second false y h = h

is_itself : (m : PredictionMode) → is_mode m m ≡ true
is_itself m = grind (arith, nat_tests)

among_first : (m : PredictionMode) (ms : List PredictionMode) (a : PredictionMode) → a ≡ m → IsAmong (m ∷ ms) a
among_first m ms a e = subst (λ x. IsAmong (m ∷ ms) x) (sym e) (or_first (is_mode m m) (is_among ms m) (is_itself m))

other_told : (m : PredictionMode) (ms : List PredictionMode) → is_among ms m ≡ false → (a : PredictionMode) (b : Bool) → is_mode m a ≡ b → IsAmong ms a → not b ≡ true
other_told m ms n a true e h = let t : is_among ms m ≡ true = subst (λ x. IsAmong ms x) (same_mode m a e) h in absurd cc
other_told m ms n a false e h = refl

pub among_split : (m : PredictionMode) (ms : List PredictionMode) (a : PredictionMode) (b : Bool) → is_mode m a ≡ b → IsTrue (b || is_among ms a) → Picked (IsAmong ms) (λ a. a ≡ m) (not b) a
among_split m ms a true e h = same_mode m a e
among_split m ms a false e h = h

among_either : (m : PredictionMode) (ms : List PredictionMode) (a : PredictionMode) (b : Bool) → Picked (IsAmong ms) (λ a. a ≡ m) b a → IsAmong (m ∷ ms) a
among_either m ms a true h = or_second (is_mode m a) (is_among ms a) h
among_either m ms a false h = among_first m ms a h

unless_reads : (m : PredictionMode) (ms : List PredictionMode) (s : Slot) (next : Element Distribution PredictionMode) (n : ℕ) → HasSymbols (Adaptive s) 2 → is_among ms m ≡ false → Reads HasSymbols next (IsAmong ms) n → Reads HasSymbols (unless m s next) (IsAmong (m ∷ ms)) (suc n)
unless_reads m ms s next n has none r =
    decide_reads (λ a. not (is_mode m a)) s next (known m) (IsAmong ms) (λ a. a ≡ m) (IsAmong (m ∷ ms)) n has
    (λ a h. other_told m ms none a (is_mode m a) refl h) (λ a e. ap (λ x. not (is_mode m x)) e ∙ ap not (is_itself m)) (λ a h. among_either m ms a (not (is_mode m a)) h) (λ a h. among_split m ms a (is_mode m a) refl h) r
    (reads_as HasSymbols (known m) (λ a. a ≡ m) (λ a. a ≡ m) 0 n (λ a e. e) (λ a e. e) (omega arith) (known_reads HasSymbols m))

last_mode : (a : PredictionMode) → IsAmong (NEAR0MV ∷ []) a → a ≡ NEAR0MV
last_mode a h = same_mode NEAR0MV a (one (is_mode NEAR0MV a) h)
  where
    one : (b : Bool) → IsTrue (b || false) → b ≡ true
    one true h = refl
    one false h = absurd cc

pub inter_mode_reads : (ctx : ℕ) → new_context ctx ≤ 5 → ref_context ctx ≤ 5 → Reads HasSymbols (inter_mode_element ctx) (IsAmong inter_modes) 3
inter_mode_reads ctx h k =
    unless_reads NEWMV (GLOBALMV ∷ NEARESTMV ∷ NEAR0MV ∷ []) _ _ 2 (newmv_has (new_context ctx) (omega (arith, h))) refl
    (unless_reads GLOBALMV (NEARESTMV ∷ NEAR0MV ∷ []) _ _ 1 (zeromv_has (zero_context ctx) (omega arith)) refl
    (unless_reads NEARESTMV (NEAR0MV ∷ []) _ _ 0 (refmv_has (ref_context ctx) (omega (arith, k))) refl
    (reads_as HasSymbols (known NEAR0MV) (λ a. a ≡ NEAR0MV) (IsAmong (NEAR0MV ∷ [])) 0 0 (among_first NEAR0MV []) last_mode (omega arith) (known_reads HasSymbols NEAR0MV))))

pub compound_few : (ctx : ℕ) → compound_context ctx < 8
compound_few ctx = grind (arith, nat_tests)

-- what holds of each mode of a list
abbrev pub AllOf : (PredictionMode → Type 0) → List PredictionMode → Type 0
AllOf Q [] = Unit {0}
AllOf Q (m ∷ ms) = Q m × AllOf Q ms

of_first : (Q : PredictionMode → Type 0) (m : PredictionMode) (ms : List PredictionMode) (a : PredictionMode) (b : Bool) → is_mode m a ≡ b → IsTrue (b || is_among ms a) → Q m → (IsAmong ms a → Q a) → Q a
of_first Q m ms a true e i q more = subst Q (sym (same_mode m a e)) q
of_first Q m ms a false e i q more = more i

pub of_all : (Q : PredictionMode → Type 0) (ms : List PredictionMode) → AllOf Q ms → (a : PredictionMode) → IsAmong ms a → Q a
of_all Q [] h a i = absurd cc
of_all Q (m ∷ ms) h a i = of_first Q m ms a (is_mode m a) refl i h.0 (λ j. of_all Q ms h.1 a j)

pub compound_told : (m : PredictionMode) → IsAmong compound_modes m → slice_get compound_modes (compound_number m) ≡ Some m
compound_told m h = of_all (λ m. slice_get compound_modes (compound_number m) ≡ Some m) compound_modes (refl, (refl, (refl, (refl, (refl, (refl, (refl, (refl, tt)))))))) m h

pub compound_below : (m : PredictionMode) → IsAmong compound_modes m → (20 ≤ prediction_mode_number m) × (prediction_mode_number m < 34) × (compound_number m < 8)
compound_below m h =
    of_all (λ m. (20 ≤ prediction_mode_number m) × (prediction_mode_number m < 34) × (compound_number m < 8)) compound_modes
    ((omega arith, omega arith, omega arith), ((omega arith, omega arith, omega arith), ((omega arith, omega arith, omega arith), ((omega arith, omega arith, omega arith), ((omega arith, omega arith, omega arith), ((omega arith, omega arith, omega arith), ((omega arith, omega arith, omega arith), ((omega arith, omega arith, omega arith), tt))))))))
    m h

abbrev IsNamed : ℕ → PredictionMode → Type 0
IsNamed s m = (compound_number m ≡ s) × IsAmong compound_modes m

named_by : (s : ℕ) (x m : PredictionMode) → Some x ≡ Some m → IsNamed s x → IsNamed s m
named_by s x m e h = let f : x ≡ m = cc in subst (IsNamed s) f h

compound_named : (s : ℕ) (m : PredictionMode) → slice_get compound_modes s ≡ Some m → IsNamed s m
compound_named zero m h = named_by 0 NEAREST_NEARESTMV m h (refl, refl)
compound_named (suc zero) m h = named_by 1 NEAR_NEAR0MV m h (refl, refl)
compound_named (suc (suc zero)) m h = named_by 2 NEAREST_NEWMV m h (refl, refl)
compound_named (suc (suc (suc zero))) m h = named_by 3 NEW_NEARESTMV m h (refl, refl)
compound_named (suc (suc (suc (suc zero)))) m h = named_by 4 NEAR_NEW0MV m h (refl, refl)
compound_named (suc (suc (suc (suc (suc zero))))) m h = named_by 5 NEW_NEAR0MV m h (refl, refl)
compound_named (suc (suc (suc (suc (suc (suc zero)))))) m h = named_by 6 GLOBAL_GLOBALMV m h (refl, refl)
compound_named (suc (suc (suc (suc (suc (suc (suc zero))))))) m h = named_by 7 NEW_NEWMV m h (refl, refl)
compound_named (suc (suc (suc (suc (suc (suc (suc (suc s)))))))) m h = absurd cc

pub compound_mode_reads : (ctx : ℕ) → Reads HasSymbols (compound_mode_element ctx) (IsAmong compound_modes) 1
compound_mode_reads ctx =
    let q = adaptive (codes "compound_mode_cdf") (compound_context ctx ∷ []) in
    reads_as HasSymbols (compound_mode_element ctx) (λ m. slice_get compound_modes (compound_number m) ≡ Some m) (IsAmong compound_modes) 1 1 (λ m e. (compound_named (compound_number m) m e).1) compound_told (omega arith)
    (symbol_reads HasSymbols q 8 (λ s. slice_get compound_modes s) compound_number (compound_mode_has (compound_context ctx) (compound_few ctx)) (λ s l. slice_get_past compound_modes s l) (λ s m e. (compound_named s m e).0))

-- a reference by its number
ref_told : (r : RefType) → reference_of (reference_number r) ≡ Some r
ref_told INTRA_FRAME = refl
ref_told _ = refl

pub same_ref : (r a : RefType) → reference_number a ≡ reference_number r → a ≡ r
same_ref r a e =
    let f : Some a ≡ Some r = sym (ref_told a) ∙ ap reference_of e ∙ ref_told r in
    let g : a ≡ r = cc in g

-- references from one number up to another
abbrev pub Between : ℕ → ℕ → RefType → Type 0
Between from to r = (from ≤ reference_number r) × (reference_number r ≤ to)

known_ref : (r : RefType) (n : ℕ) → Reads HasSymbols (known {Q = Distribution} r) (Between (reference_number r) (reference_number r)) n
known_ref r n =
    reads_as HasSymbols (known r) (λ a. a ≡ r) (Between (reference_number r) (reference_number r)) 0 n (λ a e. let k = ap reference_number e in (omega (arith, k), omega (arith, k)))
    (λ a h. same_ref r a (omega (arith, h))) (omega arith) (known_reads HasSymbols r)

picked_between : (r : RefType) (from to : ℕ) (a : RefType) (b : Bool) → from_ref r a ≡ b → from ≤ reference_number r → reference_number r ≤ to + 1 → Picked (Between (reference_number r) to) (Between from (reference_number r - 1)) b a → Between from to a
picked_between r from to a true e l k h = (omega (arith, h, l), h.1)
picked_between r from to a false e l k h = (h.0, omega (arith, h, k))

between_picked : (r : RefType) (from to : ℕ) (a : RefType) (b : Bool) → from_ref r a ≡ b → Between from to a → Picked (Between (reference_number r) to) (Between from (reference_number r - 1)) b a
between_picked r from to a true e h = (grind (arith, nat_tests, e), h.1)
between_picked r from to a false e h = (h.0, grind (arith, nat_tests, e))

-- a decision from which reference on it is
from_reads : (r : RefType) (from to : ℕ) (s : Slot) (late early : Element Distribution RefType) (n : ℕ) → HasSymbols (Adaptive s) 2 → 1 ≤ reference_number r → from ≤ reference_number r → reference_number r ≤ to + 1 →
    Reads HasSymbols late (Between (reference_number r) to) n → Reads HasSymbols early (Between from (reference_number r - 1)) n → Reads HasSymbols (decide (from_ref r) s late early) (Between from to) (suc n)
from_reads r from to s late early n has one l k ry rn =
    decide_reads (from_ref r) s late early (Between (reference_number r) to) (Between from (reference_number r - 1)) (Between from to) n has
    (λ a h. let g = h.0 in grind (arith, nat_tests, g)) (λ a h. let g = h.1 in grind (arith, nat_tests, g, one)) (λ a h. picked_between r from to a (from_ref r a) refl l k h) (λ a h. between_picked r from to a (from_ref r a) refl h) ry rn

pub behind_reads : (pair early late : Slot) → HasSymbols (Adaptive pair) 2 → HasSymbols (Adaptive early) 2 → HasSymbols (Adaptive late) 2 → Reads HasSymbols (behind pair early late) (Between 1 4) 2
behind_reads pair early late p e l =
    from_reads LAST3_FRAME 1 4 pair _ _ 1 p (omega arith) (omega arith) (omega arith) (from_reads GOLDEN_FRAME 3 4 late _ _ 0 l (omega arith) (omega arith) (omega arith) (known_ref GOLDEN_FRAME 0) (known_ref LAST3_FRAME 0))
    (from_reads LAST2_FRAME 1 2 early _ _ 0 e (omega arith) (omega arith) (omega arith) (known_ref LAST2_FRAME 0) (known_ref LAST_FRAME 0))

pub ahead_reads : (last near : Slot) → HasSymbols (Adaptive last) 2 → HasSymbols (Adaptive near) 2 → Reads HasSymbols (ahead last near) (Between 5 7) 2
ahead_reads last near l n =
    from_reads ALTREF_FRAME 5 7 last _ _ 1 l (omega arith) (omega arith) (omega arith) (known_ref ALTREF_FRAME 1)
    (from_reads ALTREF2_FRAME 5 6 near _ _ 0 n (omega arith) (omega arith) (omega arith) (known_ref ALTREF2_FRAME 0) (known_ref BWDREF_FRAME 0))

few : (k : ℕ) → k ≤ 2 → k < 3
few k h = omega (arith, h)

pub single_reads : (c : RefContexts) → AreContexts c → Reads HasSymbols (single_element c) (Between 1 7) 3
single_reads c h =
    from_reads BWDREF_FRAME 1 7 _ _ _ 2 (single_has c.side 0 (few _ h.side) (omega arith)) (omega arith) (omega arith) (omega arith)
    (ahead_reads _ _ (single_has c.ahead 1 (few _ h.ahead) (omega arith)) (single_has c.near 5 (few _ h.near) (omega arith)))
    (behind_reads _ _ _ (single_has c.behind 2 (few _ h.behind) (omega arith)) (single_has c.early 3 (few _ h.early) (omega arith)) (single_has c.late 4 (few _ h.late) (omega arith)))

pub forward_reads : (c : RefContexts) → AreContexts c → Reads HasSymbols (forward_element c) (Between 1 4) 2
forward_reads c h = behind_reads _ _ _ (comp_has c.behind 0 (few _ h.behind) (omega arith)) (comp_has c.early 1 (few _ h.early) (omega arith)) (comp_has c.late 2 (few _ h.late) (omega arith))

pub backward_reads : (c : RefContexts) → AreContexts c → Reads HasSymbols (backward_element c) (Between 5 7) 2
backward_reads c h = ahead_reads _ _ (comp_bwd_has c.ahead 0 (few _ h.ahead) (omega arith)) (comp_bwd_has c.near 1 (few _ h.near) (omega arith))

-- one reference alone, and one on each side
abbrev pub IsAlone : RefType × RefType → Type 0
IsAlone rs = Between 1 7 rs.0 × (rs.1 ≡ NONE_FRAME)

abbrev pub AreApart : RefType × RefType → Type 0
AreApart rs = Between 1 4 rs.0 × Between 5 7 rs.1

abbrev After : RefType → RefType × RefType → Type 0
After f rs = (rs.0 ≡ f) × Between 5 7 rs.1

pub one_reads : (c : RefContexts) → AreContexts c → Reads HasSymbols (one_element c) IsAlone 3
one_reads c h =
    renamed_reads HasSymbols (single_element c) (λ r. (r, NONE_FRAME)) (λ rs. rs.0) (Between 1 7) IsAlone 3 (λ rs p. (p.0, λ i. (rs.0, sym p.1 i))) (λ r p. ((p, refl), refl)) (single_reads c h)

pub after_forward_reads : (c : RefContexts) (f : RefType) → AreContexts c → Reads HasSymbols (renamed (backward_element c) (λ b. (f, b)) (λ rs. rs.1)) (After f) 2
after_forward_reads c f h =
    renamed_reads HasSymbols (backward_element c) (λ b. (f, b)) (λ rs. rs.1) (Between 5 7) (After f) 2 (λ rs p. (p.1, λ i. (sym p.0 i, rs.1))) (λ b p. ((refl, p), refl)) (backward_reads c h)

pub pair_reads : (c : RefContexts) → AreContexts c → Reads HasSymbols (pair_element c) AreApart 4
pair_reads c h =
    reads_as HasSymbols (pair_element c) (λ rs. Between 1 4 rs.0 × After rs.0 rs) AreApart 4 4 (λ rs p. (p.0, p.1.1)) (λ rs p. (p.0, (refl, p.1))) (omega arith)
    (after_reads HasSymbols (forward_element c) (λ f. renamed (backward_element c) (λ b. (f, b)) (λ rs. rs.1)) (λ rs. rs.0) (Between 1 4) After 2 2 (λ f rs p q. q.0) (forward_reads c h) (λ f p. after_forward_reads c f h))

both_past : (s : ℕ) → 2 ≤ s → both_sides_of s ≡ None
both_past zero h = absurd (omega (arith, h))
both_past (suc zero) h = absurd (omega (arith, h))
both_past (suc (suc s)) h = refl

both_named : (s : ℕ) (on : Bool) → both_sides_of s ≡ Some on → flag_number on ≡ s
both_named zero on h = absurd cc
both_named (suc zero) on h = let e : true ≡ on = cc in ap flag_number (sym e)
both_named (suc (suc s)) on h = absurd cc

both_only : (on : Bool) → both_sides_of (flag_number on) ≡ Some on → on ≡ true
both_only true h = refl
both_only false h = absurd cc

only_both : (on : Bool) → on ≡ true → both_sides_of (flag_number on) ≡ Some on
only_both true h = refl
only_both false h = absurd cc

few_or : (b : Bool) (m n : ℕ) → m < 5 → n < 5 → (if b then m else n) < 5
few_or true m n h k = h
few_or false m n h k = k

side_few : (c e : Bool) → (if c then 1 else 0) + (if c then 2 else 4) * one_if e < 5
side_few true true = omega arith
side_few true false = omega arith
side_few false true = omega arith
side_few false false = omega arith

one_few : (b : Bool) → one_if b ≤ 1
one_few true = omega arith
one_few false = omega arith

two_few : (g : Grid) (bo : BlockOffset) → ref_type_of_two (refs_above g bo) (refs_left g bo) < 5
two_few g bo =
    let a = refs_above g bo in
    let l = refs_left g bo in
    let s = one_few (same_direction a.first l.first) in
    let t = one_few (not (differ (nat_eq a.first 5) (nat_eq l.first 5))) in
    few_or (not (is_compound a) && not (is_compound l)) _ _ (omega (arith, s))
    (few_or (not (is_compound a)) _ _ (few_or (is_one_sided l) _ _ (omega (arith, s)) (omega arith))
    (few_or (not (is_compound l)) _ _ (few_or (is_one_sided a) _ _ (omega (arith, s)) (omega arith))
    (few_or (not (is_one_sided a) && not (is_one_sided l)) _ _ (omega arith) (few_or (not (is_one_sided a) || not (is_one_sided l)) _ _ (omega arith) (omega (arith, t))))))

pub ref_type_few : (g : Grid) (bo : BlockOffset) → comp_ref_type_context (refs_above g bo) (refs_left g bo) < 5
ref_type_few g bo =
    let a = refs_above g bo in
    let l = refs_left g bo in
    few_or (is_inter_there a && is_inter_there l) _ _ (two_few g bo)
    (few_or (is_compound a) _ _ (side_few (a.is_there && l.is_there) (is_one_sided a)) (few_or (is_compound l) _ _ (side_few (a.is_there && l.is_there) (is_one_sided l)) (omega arith)))

pub both_sides_reads : (g : Grid) (bo : BlockOffset) → Reads HasSymbols (both_sides_element g bo) (λ on. on ≡ true) 1
both_sides_reads g bo =
    let k = comp_ref_type_context (refs_above g bo) (refs_left g bo) in
    reads_as HasSymbols (both_sides_element g bo) (λ on. both_sides_of (flag_number on) ≡ Some on) (λ on. on ≡ true) 1 1 both_only only_both (omega arith)
    (symbol_reads HasSymbols (adaptive (codes "comp_ref_type_cdf") (k ∷ [])) 2 both_sides_of flag_number (comp_ref_type_has k (ref_type_few g bo)) both_past both_named)

pub two_reads : (g : Grid) (bo : BlockOffset) (c : RefContexts) → AreContexts c → Reads HasSymbols (two_element g bo c) AreApart 5
two_reads g bo c h =
    reads_as HasSymbols (two_element g bo c) (λ rs. (true ≡ true) × AreApart rs) AreApart 5 5 (λ rs p. p.1) (λ rs p. (refl, p)) (omega arith)
    (after_reads HasSymbols (both_sides_element g bo) (λ on. pair_element c) (λ rs. true) (λ on. on ≡ true) (λ on rs. AreApart rs) 1 4 (λ on rs p q. sym p) (both_sides_reads g bo) (λ on p. pair_reads c h))

by_counts_few : (m n : ℕ) → by_counts m n ≤ 2
by_counts_few m n = grind (arith, nat_tests)

pub contexts_few : (g : Grid) (bo : BlockOffset) → AreContexts (contexts_at g bo)
contexts_few g bo =
    let n = count_of g bo in
    record {
      side = by_counts_few (n 1 + n 2 + n 3 + n 4) (n 5 + n 6 + n 7);
      behind = by_counts_few (n 1 + n 2) (n 3 + n 4);
      early = by_counts_few (n 1) (n 2);
      late = by_counts_few (n 3) (n 4);
      ahead = by_counts_few (n 5 + n 6) (n 7);
      near = by_counts_few (n 5) (n 6);
    }

pub comp_mode_few : (g : Grid) (bo : BlockOffset) → comp_mode_context (refs_above g bo) (refs_left g bo) < 5
comp_mode_few g bo = grind (arith, nat_tests)

apart_is_pair : (rs : RefType × RefType) → AreApart rs → is_pair rs ≡ true
apart_is_pair rs h = let l = h.1.0 in let k = h.1.1 in grind (arith, nat_tests, l, k)

alone_is_none : (rs : RefType × RefType) → IsAlone rs → is_pair rs ≡ false
alone_is_none rs h = ap (λ r. is_pair (rs.0, r)) h.1

apart_are : (two : Bool) (rs : RefType × RefType) → two ≡ true → AreApart rs → AreRefFrames two rs
apart_are two rs t h = record {
  some = h.0.0;
  alone = λ e. let p = apart_is_pair rs h in absurd cc;
  apart = λ e. (t, h.0.1, h.1.0);
}

alone_are : (two : Bool) (rs : RefType × RefType) → IsAlone rs → AreRefFrames two rs
alone_are two rs h = record {
  some = h.0.0;
  alone = λ e. (h.0.1, h.1);
  apart = λ e. let p = alone_is_none rs h in absurd cc;
}

pair_few : (rs : RefType × RefType) → is_pair rs ≡ true → reference_number rs.1 ≤ 7
pair_few rs h = grind (arith, nat_tests, h)

pub are_picked : (two : Bool) (rs : RefType × RefType) → AreRefFrames two rs → (b : Bool) → is_pair rs ≡ b → Picked AreApart IsAlone b rs
are_picked two rs h true e = let a = h.apart e in ((h.some, a.1), (a.2, pair_few rs e))
are_picked two rs h false e = let a = h.alone e in ((h.some, a.0), a.1)

picked_are : (rs : RefType × RefType) (b : Bool) → Picked AreApart IsAlone b rs → AreRefFrames true rs
picked_are rs true h = apart_are true rs refl h
picked_are rs false h = alone_are true rs h

pub are_alone : (rs : RefType × RefType) → AreRefFrames false rs → (b : Bool) → is_pair rs ≡ b → IsAlone rs
are_alone rs h true e = let a = h.apart e in absurd (let z = a.0 in cc)
are_alone rs h false e = let a = h.alone e in ((h.some, a.0), a.1)

pub among_reads : (g : Grid) (bo : BlockOffset) (c : RefContexts) (two : Bool) → AreContexts c → Reads HasSymbols (among_element g bo c two) (AreRefFrames two) 6
among_reads g bo c true f =
    let k = comp_mode_context (refs_above g bo) (refs_left g bo) in
    let s = slot (codes "comp_mode_cdf") (k ∷ []) in
    choose_reads HasSymbols true (decide is_pair s (two_element g bo c) (one_element c)) (one_element c) (AreRefFrames true) 6
    (λ t. decide_reads is_pair s (two_element g bo c) (one_element c) AreApart IsAlone (AreRefFrames true) 5 (comp_mode_has k (comp_mode_few g bo)) apart_is_pair alone_is_none (λ rs h. picked_are rs (is_pair rs) h)
    (λ rs h. are_picked true rs h (is_pair rs) refl) (two_reads g bo c f) (reads_as HasSymbols (one_element c) IsAlone IsAlone 3 5 (λ rs h. h) (λ rs h. h) (omega arith) (one_reads c f))) (λ t. absurd cc)
among_reads g bo c false f =
    let s = slot (codes "comp_mode_cdf") (comp_mode_context (refs_above g bo) (refs_left g bo) ∷ []) in
    choose_reads HasSymbols false (decide is_pair s (two_element g bo c) (one_element c)) (one_element c) (AreRefFrames false) 6 (λ t. absurd cc)
    (λ t. reads_as HasSymbols (one_element c) IsAlone (AreRefFrames false) 3 6 (alone_are false) (λ rs h. are_alone rs h (is_pair rs) refl) (omega arith) (one_reads c f))

pub ref_frames_reads : (g : Grid) (bo : BlockOffset) (mode : ReferenceMode) → Reads HasSymbols (ref_frames_element g bo mode) (AreRefFrames (may_be_pair mode (block_at g bo.x bo.y))) 6
ref_frames_reads g bo mode = among_reads g bo (contexts_at g bo) (may_be_pair mode (block_at g bo.x bo.y)) (contexts_few g bo)
