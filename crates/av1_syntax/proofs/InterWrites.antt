-- What calls that code modes and references write.
use Rattle.std.proofs.Common.{◌≡◌, ℕ, ◌<◌, nat_le, List, [], ◌∷◌, Bool, true, false, not, ◌||◌, IsTrue, nat_eq, eqb-true, if◌then◌else◌, codes, Result, Ok, refl, sym, ap, subst, ◌∙◌, arith}
use Rattle.std.specs.Prelude.{IsErr}
use Rattle.std.proofs.lemmas.Bool.Decides.{nat_tests}
use Rattle.av1_blocks.specs.Grid.{Grid}
use Rattle.av1_cdf.specs.Distribution.{Distribution, HasSymbols}
use Rattle.av1_cdf.specs.Distribution.Distribution.{Adaptive}
use Rattle.av1_cdf.specs.Layout.{Slot, slot}
use Rattle.av1_geometry.specs.declared.block_offset.BlockOffset.{BlockOffset}
use Rattle.av1_geometry.specs.declared.prediction_mode.PredictionMode.{PredictionMode}
use Rattle.av1_geometry.specs.declared.prediction_mode.PredictionMode.TheVariants.{NEARESTMV, NEAR0MV, GLOBALMV, NEWMV}
use Rattle.av1_geometry.specs.declared.ref_type.RefType.{RefType}
use Rattle.av1_geometry.specs.declared.ref_type.RefType.TheVariants.{INTRA_FRAME, LAST_FRAME, LAST2_FRAME, LAST3_FRAME, GOLDEN_FRAME, BWDREF_FRAME, ALTREF2_FRAME, ALTREF_FRAME, NONE_FRAME}
use Rattle.av1_geometry.specs.PredictionMode.{prediction_mode_number}
use Rattle.av1_geometry.specs.RefType.{reference_number}
use Rattle.av1_model.specs.Comes.{Stores, Wrote, Writes, Begins}
use Rattle.av1_model.specs.Element.{Element, known, choose, renamed, Reads}
use Rattle.av1_model.specs.Syntax.{Leads}
use Rattle.av1_model.specs.Syntax.Syntax.{Done}
use Rattle.av1_model.proofs.ComesLaws.{stays, comes_as, writes_symbol, begins_symbol}
use Rattle.av1_model.proofs.ElementLaws.{reads_as}
use Rattle.av1_mvref.specs.References.{comp_mode_context, comp_ref_type_context, refs_above, refs_left}
use Rattle.av1_syntax.specs.Calls.{coded_in, learnt_in}
use Rattle.av1_syntax.specs.declared.ref_frames.RefContexts.{RefContexts}
use Rattle.av1_syntax.specs.Decisions.{decide}
use Rattle.av1_syntax.specs.Flags.{flag, flag_number}
use Rattle.av1_syntax.specs.InterModes.{zero_context, ref_context, is_mode, is_among, inter_modes, unless}
use Rattle.av1_syntax.specs.RefFrames.{AreContexts, from_ref, behind, ahead, single_slot, single_element, forward_element, backward_element, both_sides_of, both_sides_element, pair_element, one_element, two_element, is_second, is_pair, among_element, AreRefFrames}
use Rattle.av1_syntax.proofs.Following.{Numbers, Picked, picked_reads, first_refused, second_wrote, renamed_wrote, flag_refused, decided, told_by_flag}
use Rattle.av1_syntax.proofs.InterReads.{IsAmong, of_all, among_split, same_mode, Between, AreApart, IsAlone, after_forward_reads, pair_reads, two_reads, one_reads, are_picked, are_alone}
use Rattle.av1_syntax.proofs.Writing.{chosen, chosen_last, stores_as}

-- a value that nothing tells
pub known_written : {A : Type 0} (x a : A) (at : Numbers) → x ≡ a → Writes coded_in learnt_in (known {Q = Distribution} x).tree a at at
known_written x a at e = comes_as coded_in learnt_in (Done x) (Done x) (Done a) at at at (stays coded_in learnt_in (Done x) at) (ap Done e) refl

abbrev Late : Slot → Element Distribution RefType
Late late = decide (from_ref GOLDEN_FRAME) late (known GOLDEN_FRAME) (known LAST3_FRAME)

abbrev Early : Slot → Element Distribution RefType
Early early = decide (from_ref LAST2_FRAME) early (known LAST2_FRAME) (known LAST_FRAME)

abbrev Near : Slot → Element Distribution RefType
Near near = decide (from_ref ALTREF2_FRAME) near (known ALTREF2_FRAME) (known BWDREF_FRAME)

-- after the first flag of a reference there is a path to it
abbrev Goes : {A : Type 0} → Bool → Element Distribution A → Element Distribution A → A → Type 0
Goes b e f a = Leads (choose b e f).tree ((choose b e f).symbols a) a

behind_goes : (early late : Slot) (r : RefType) → Between 1 4 r → Goes (from_ref LAST3_FRAME r) (Late late) (Early early) r
behind_goes early late INTRA_FRAME h = absurd (omega (arith, h))
behind_goes early late LAST_FRAME h = refl
behind_goes early late LAST2_FRAME h = refl
behind_goes early late LAST3_FRAME h = refl
behind_goes early late GOLDEN_FRAME h = refl
behind_goes early late BWDREF_FRAME h = absurd (omega (arith, h))
behind_goes early late ALTREF2_FRAME h = absurd (omega (arith, h))
behind_goes early late ALTREF_FRAME h = absurd (omega (arith, h))
behind_goes early late NONE_FRAME h = absurd (omega (arith, h))

ahead_goes : (near : Slot) (r : RefType) → Between 5 7 r → Goes (from_ref ALTREF_FRAME r) (known ALTREF_FRAME) (Near near) r
ahead_goes near INTRA_FRAME h = absurd (omega (arith, h))
ahead_goes near LAST_FRAME h = absurd (omega (arith, h))
ahead_goes near LAST2_FRAME h = absurd (omega (arith, h))
ahead_goes near LAST3_FRAME h = absurd (omega (arith, h))
ahead_goes near GOLDEN_FRAME h = absurd (omega (arith, h))
ahead_goes near BWDREF_FRAME h = refl
ahead_goes near ALTREF2_FRAME h = refl
ahead_goes near ALTREF_FRAME h = refl
ahead_goes near NONE_FRAME h = absurd (omega (arith, h))

single_goes : (c : RefContexts) (r : RefType) → Between 1 7 r →
    Goes (from_ref BWDREF_FRAME r) (ahead (single_slot 1 c.ahead) (single_slot 5 c.near)) (behind (single_slot 2 c.behind) (single_slot 3 c.early) (single_slot 4 c.late)) r
single_goes c INTRA_FRAME h = absurd (omega (arith, h))
single_goes c LAST_FRAME h = refl
single_goes c LAST2_FRAME h = refl
single_goes c LAST3_FRAME h = refl
single_goes c GOLDEN_FRAME h = refl
single_goes c BWDREF_FRAME h = refl
single_goes c ALTREF2_FRAME h = refl
single_goes c ALTREF_FRAME h = refl
single_goes c NONE_FRAME h = absurd (omega (arith, h))

late_told : (r : RefType) → Between 1 4 r → from_ref LAST3_FRAME r ≡ true → (if from_ref GOLDEN_FRAME r then GOLDEN_FRAME else LAST3_FRAME) ≡ r
late_told INTRA_FRAME h e = absurd (omega (arith, h))
late_told LAST_FRAME h e = absurd cc
late_told LAST2_FRAME h e = absurd cc
late_told LAST3_FRAME h e = refl
late_told GOLDEN_FRAME h e = refl
late_told BWDREF_FRAME h e = absurd (omega (arith, h))
late_told ALTREF2_FRAME h e = absurd (omega (arith, h))
late_told ALTREF_FRAME h e = absurd (omega (arith, h))
late_told NONE_FRAME h e = absurd (omega (arith, h))

early_told : (r : RefType) → Between 1 4 r → from_ref LAST3_FRAME r ≡ false → (if from_ref LAST2_FRAME r then LAST2_FRAME else LAST_FRAME) ≡ r
early_told INTRA_FRAME h e = absurd (omega (arith, h))
early_told LAST_FRAME h e = refl
early_told LAST2_FRAME h e = refl
early_told LAST3_FRAME h e = absurd cc
early_told GOLDEN_FRAME h e = absurd cc
early_told BWDREF_FRAME h e = absurd (omega (arith, h))
early_told ALTREF2_FRAME h e = absurd (omega (arith, h))
early_told ALTREF_FRAME h e = absurd (omega (arith, h))
early_told NONE_FRAME h e = absurd (omega (arith, h))

last_told : (r : RefType) → Between 5 7 r → from_ref ALTREF_FRAME r ≡ true → ALTREF_FRAME ≡ r
last_told INTRA_FRAME h e = absurd (omega (arith, h))
last_told LAST_FRAME h e = absurd (omega (arith, h))
last_told LAST2_FRAME h e = absurd (omega (arith, h))
last_told LAST3_FRAME h e = absurd (omega (arith, h))
last_told GOLDEN_FRAME h e = absurd (omega (arith, h))
last_told BWDREF_FRAME h e = absurd cc
last_told ALTREF2_FRAME h e = absurd cc
last_told ALTREF_FRAME h e = refl
last_told NONE_FRAME h e = absurd (omega (arith, h))

near_told : (r : RefType) → Between 5 7 r → from_ref ALTREF_FRAME r ≡ false → (if from_ref ALTREF2_FRAME r then ALTREF2_FRAME else BWDREF_FRAME) ≡ r
near_told INTRA_FRAME h e = absurd (omega (arith, h))
near_told LAST_FRAME h e = absurd (omega (arith, h))
near_told LAST2_FRAME h e = absurd (omega (arith, h))
near_told LAST3_FRAME h e = absurd (omega (arith, h))
near_told GOLDEN_FRAME h e = absurd (omega (arith, h))
near_told BWDREF_FRAME h e = refl
near_told ALTREF2_FRAME h e = refl
near_told ALTREF_FRAME h e = absurd cc
near_told NONE_FRAME h e = absurd (omega (arith, h))

as_told : {A : Type 0} (x y a : A) (b d : Bool) → d ≡ b → (if b then x else y) ≡ a → (if d then x else y) ≡ a
as_told x y a b d e h = ap (λ (b : Bool). if b then x else y) e ∙ h

module _ {U E : Type 0} (res : Result U E) (pair early late : Slot) (r : RefType) (b : Bool) (h : Between 1 4 r) (is : b ≡ from_ref LAST3_FRAME r) where
  pub behind_refused : (old new : Numbers) → IsErr res → Begins coded_in learnt_in (flag (Adaptive pair)).tree b old new → Wrote coded_in learnt_in res (behind pair early late).tree r old new
  behind_refused old new err w =
      flag_refused res (from_ref LAST3_FRAME) pair (Late late) (Early early) r b is old new err (subst (λ b. Goes b (Late late) (Early early) r) (sym is) (behind_goes early late r h)) w

  pub behind_late : (d : Bool) (old mid new : Numbers) → d ≡ from_ref GOLDEN_FRAME r → b ≡ true → Writes coded_in learnt_in (flag (Adaptive pair)).tree b old mid → Wrote coded_in learnt_in res (flag (Adaptive late)).tree d mid new → Wrote coded_in learnt_in res (behind pair early late).tree r old new
  behind_late d old mid new e t v w =
      decided res (from_ref LAST3_FRAME) pair (Late late) (Early early) r b is old mid new v
      (chosen res b (Late late) (Early early) r mid new t (told_by_flag res (from_ref GOLDEN_FRAME) late GOLDEN_FRAME LAST3_FRAME r d mid new (as_told GOLDEN_FRAME LAST3_FRAME r (from_ref GOLDEN_FRAME r) d e (late_told r h (sym is ∙ t))) w))

  pub behind_early : (d : Bool) (old mid new : Numbers) → d ≡ from_ref LAST2_FRAME r → b ≡ false → Writes coded_in learnt_in (flag (Adaptive pair)).tree b old mid → Wrote coded_in learnt_in res (flag (Adaptive early)).tree d mid new → Wrote coded_in learnt_in res (behind pair early late).tree r old new
  behind_early d old mid new e t v w =
      decided res (from_ref LAST3_FRAME) pair (Late late) (Early early) r b is old mid new v
      (chosen_last res b (Late late) (Early early) r mid new t (told_by_flag res (from_ref LAST2_FRAME) early LAST2_FRAME LAST_FRAME r d mid new (as_told LAST2_FRAME LAST_FRAME r (from_ref LAST2_FRAME r) d e (early_told r h (sym is ∙ t))) w))

module _ {U E : Type 0} (res : Result U E) (last near : Slot) (r : RefType) (b : Bool) (h : Between 5 7 r) (is : b ≡ from_ref ALTREF_FRAME r) where
  pub ahead_refused : (old new : Numbers) → IsErr res → Begins coded_in learnt_in (flag (Adaptive last)).tree b old new → Wrote coded_in learnt_in res (ahead last near).tree r old new
  ahead_refused old new err w =
      flag_refused res (from_ref ALTREF_FRAME) last (known ALTREF_FRAME) (Near near) r b is old new err (subst (λ b. Goes b (known ALTREF_FRAME) (Near near) r) (sym is) (ahead_goes near r h)) w

  pub ahead_near : (d : Bool) (old mid new : Numbers) → d ≡ from_ref ALTREF2_FRAME r → b ≡ false → Writes coded_in learnt_in (flag (Adaptive last)).tree b old mid → Wrote coded_in learnt_in res (flag (Adaptive near)).tree d mid new → Wrote coded_in learnt_in res (ahead last near).tree r old new
  ahead_near d old mid new e t v w =
      decided res (from_ref ALTREF_FRAME) last (known ALTREF_FRAME) (Near near) r b is old mid new v
      (chosen_last res b (known ALTREF_FRAME) (Near near) r mid new t (told_by_flag res (from_ref ALTREF2_FRAME) near ALTREF2_FRAME BWDREF_FRAME r d mid new (as_told ALTREF2_FRAME BWDREF_FRAME r (from_ref ALTREF2_FRAME r) d e (near_told r h (sym is ∙ t))) w))

pub ahead_last : (last near : Slot) (r : RefType) (b : Bool) (old new : Numbers) → Between 5 7 r → b ≡ from_ref ALTREF_FRAME r → b ≡ true → Writes coded_in learnt_in (flag (Adaptive last)).tree b old new → Writes coded_in learnt_in (ahead last near).tree r old new
ahead_last last near r b old new h is t v =
    decided {U = Unit {0}} {E = Unit {0}} (Ok tt) (from_ref ALTREF_FRAME) last (known ALTREF_FRAME) (Near near) r b is old new new v
    (chosen {U = Unit {0}} {E = Unit {0}} (Ok tt) b (known ALTREF_FRAME) (Near near) r new new t (known_written ALTREF_FRAME r new (last_told r h (sym is ∙ t))))

abbrev Aheads : RefContexts → Element Distribution RefType
Aheads c = ahead (single_slot 1 c.ahead) (single_slot 5 c.near)

abbrev Behinds : RefContexts → Element Distribution RefType
Behinds c = behind (single_slot 2 c.behind) (single_slot 3 c.early) (single_slot 4 c.late)

as_slot : {A U E : Type 0} (res : Result U E) (e : Slot → Element Distribution A) (p q : Slot) (a : A) (old new : Numbers) → p ≡ q → Wrote coded_in learnt_in res (e p).tree a old new → Wrote coded_in learnt_in res (e q).tree a old new
as_slot res e p q a old new is w = subst (λ s. Wrote coded_in learnt_in res (e s).tree a old new) is w

-- by other names of the distributions
pub behind_as : {U E : Type 0} (res : Result U E) (p q s p' q' s' : Slot) (r : RefType) (old new : Numbers) → p ≡ p' → q ≡ q' → s ≡ s' → Wrote coded_in learnt_in res (behind p q s).tree r old new → Wrote coded_in learnt_in res (behind p' q' s').tree r old new
behind_as res p q s p' q' s' r old new a b c w = as_slot res (λ x. behind x q' s') p p' r old new a (as_slot res (λ x. behind p x s') q q' r old new b (as_slot res (λ x. behind p q x) s s' r old new c w))

pub ahead_as : {U E : Type 0} (res : Result U E) (p q p' q' : Slot) (r : RefType) (old new : Numbers) → p ≡ p' → q ≡ q' → Wrote coded_in learnt_in res (ahead p q).tree r old new → Wrote coded_in learnt_in res (ahead p' q').tree r old new
ahead_as res p q p' q' r old new a b w = as_slot res (λ x. ahead x q') p p' r old new a (as_slot res (λ x. ahead p x) q q' r old new b w)

module _ {U E : Type 0} (res : Result U E) (c : RefContexts) (r : RefType) (p : Slot) (b : Bool) (h : Between 1 7 r) (at : p ≡ single_slot 0 c.side) (is : b ≡ from_ref BWDREF_FRAME r) where
  pub single_refused : (old new : Numbers) → IsErr res → Begins coded_in learnt_in (flag (Adaptive p)).tree b old new → Wrote coded_in learnt_in res (single_element c).tree r old new
  single_refused old new err w =
      as_slot res (λ s. decide (from_ref BWDREF_FRAME) s (Aheads c) (Behinds c)) p (single_slot 0 c.side) r old new at
      (flag_refused res (from_ref BWDREF_FRAME) p (Aheads c) (Behinds c) r b is old new err (subst (λ b. Goes b (Aheads c) (Behinds c) r) (sym is) (single_goes c r h)) w)

  pub single_ahead : (old mid new : Numbers) → b ≡ true → Writes coded_in learnt_in (flag (Adaptive p)).tree b old mid → Wrote coded_in learnt_in res (Aheads c).tree r mid new → Wrote coded_in learnt_in res (single_element c).tree r old new
  single_ahead old mid new t v w =
      as_slot res (λ s. decide (from_ref BWDREF_FRAME) s (Aheads c) (Behinds c)) p (single_slot 0 c.side) r old new at
      (decided res (from_ref BWDREF_FRAME) p (Aheads c) (Behinds c) r b is old mid new v (chosen res b (Aheads c) (Behinds c) r mid new t w))

  pub single_behind : (old mid new : Numbers) → b ≡ false → Writes coded_in learnt_in (flag (Adaptive p)).tree b old mid → Wrote coded_in learnt_in res (Behinds c).tree r mid new → Wrote coded_in learnt_in res (single_element c).tree r old new
  single_behind old mid new t v w =
      as_slot res (λ s. decide (from_ref BWDREF_FRAME) s (Aheads c) (Behinds c)) p (single_slot 0 c.side) r old new at
      (decided res (from_ref BWDREF_FRAME) p (Aheads c) (Behinds c) r b is old mid new v (chosen_last res b (Aheads c) (Behinds c) r mid new t w))

module _ {U E : Type 0} (res : Result U E) (c : RefContexts) (f b : RefType) where
  pub pair_refused : (old new : Numbers) → AreContexts c → Between 5 7 b → IsErr res → Begins coded_in learnt_in (forward_element c).tree f old new → Wrote coded_in learnt_in res (pair_element c).tree (f, b) old new
  pair_refused old new are h err w =
      first_refused res (forward_element c) (λ f. renamed (backward_element c) (λ b. (f, b)) (λ rs. rs.1)) (λ rs. rs.0) f (f, b) old new err ((after_forward_reads c f are).leads (f, b) (refl, h)) w

  pub pair_wrote : (old mid new : Numbers) → Writes coded_in learnt_in (forward_element c).tree f old mid → Wrote coded_in learnt_in res (backward_element c).tree b mid new → Wrote coded_in learnt_in res (pair_element c).tree (f, b) old new
  pair_wrote old mid new v w =
      second_wrote res (forward_element c) (λ f. renamed (backward_element c) (λ b. (f, b)) (λ rs. rs.1)) (λ rs. rs.0) f (f, b) old mid new v (renamed_wrote res (backward_element c) (λ b. (f, b)) (λ rs. rs.1) b (f, b) mid new refl w)

-- comparisons as the code makes them
pub from_is : (r a : RefType) (m n : ℕ) → m ≡ reference_number r → n ≡ reference_number a → nat_le m n ≡ from_ref r a
from_is r a m n e f = ap (λ k. nat_le k n) e ∙ ap (nat_le (reference_number r)) f

pub le_not : (m n : ℕ) → n < m → nat_le m n ≡ false
le_not m n h = grind (arith, nat_tests, h)

one_reads_5 : (c : RefContexts) → AreContexts c → Reads HasSymbols (one_element c) IsAlone 5
one_reads_5 c h = reads_as HasSymbols (one_element c) IsAlone IsAlone 3 5 (λ rs p. p) (λ rs p. p) (omega arith) (one_reads c h)

-- two references, after the symbol that says that they lie on both sides
module _ {U E : Type 0} (res : Result U E) (g : Grid) (bo : BlockOffset) (c : RefContexts) (f b : RefType) (q : Slot) (at : q ≡ slot (codes "comp_ref_type_cdf") (comp_ref_type_context (refs_above g bo) (refs_left g bo) ∷ [])) where
  pub two_refused : (old new : Numbers) → AreContexts c → AreApart (f, b) → IsErr res → new ≡ old → Wrote coded_in learnt_in res (two_element g bo c).tree (f, b) old new
  two_refused old new are h err e =
      first_refused res (both_sides_element g bo) (λ on. pair_element c) (λ rs. true) true (f, b) old new err ((pair_reads c are).leads (f, b) h)
      (begins_symbol coded_in learnt_in (Adaptive (slot (codes "comp_ref_type_cdf") (comp_ref_type_context (refs_above g bo) (refs_left g bo) ∷ []))) both_sides_of flag_number true old new refl e)

  pub two_wrote : (old mid new : Numbers) → Stores coded_in learnt_in (Adaptive q) 1 old mid → Wrote coded_in learnt_in res (pair_element c).tree (f, b) mid new → Wrote coded_in learnt_in res (two_element g bo c).tree (f, b) old new
  two_wrote old mid new v w =
      let s = slot (codes "comp_ref_type_cdf") (comp_ref_type_context (refs_above g bo) (refs_left g bo) ∷ []) in
      second_wrote res (both_sides_element g bo) (λ on. pair_element c) (λ rs. true) true (f, b) old mid new
      (writes_symbol coded_in learnt_in (Adaptive s) both_sides_of flag_number true old mid refl (stores_as (Adaptive q) (Adaptive s) 1 1 old mid (ap Adaptive at) refl v)) w

-- references, by whether there may be two
module _ {U E : Type 0} (res : Result U E) (g : Grid) (bo : BlockOffset) (c : RefContexts) (f b : RefType) where
  abbrev Pair : Slot → Element Distribution (RefType × RefType)
  Pair q = decide is_pair q (two_element g bo c) (one_element c)

  abbrev at : Slot
  at = slot (codes "comp_mode_cdf") (comp_mode_context (refs_above g bo) (refs_left g bo) ∷ [])

  one_is : (old new : Numbers) → b ≡ NONE_FRAME → Wrote coded_in learnt_in res (single_element c).tree f old new → Wrote coded_in learnt_in res (one_element c).tree (f, b) old new
  one_is old new e w = renamed_wrote res (single_element c) (λ r. (r, NONE_FRAME)) (λ rs. rs.0) f (f, b) old new (λ i. (f, sym e i)) w

  pub among_one : (two : Bool) (old new : Numbers) → two ≡ false → AreRefFrames two (f, b) → Wrote coded_in learnt_in res (single_element c).tree f old new → Wrote coded_in learnt_in res (among_element g bo c two).tree (f, b) old new
  among_one two old new t are w =
      let alone = are_alone (f, b) (subst (λ x. AreRefFrames x (f, b)) t are) (is_second b) refl in
      chosen_last res two (Pair at) (one_element c) (f, b) old new t (one_is old new alone.1 w)

  pub among_refused : (two d : Bool) (q : Slot) (old new : Numbers) → two ≡ true → d ≡ is_second b → q ≡ at → AreContexts c → AreRefFrames two (f, b) → IsErr res → Begins coded_in learnt_in (flag (Adaptive q)).tree d old new → Wrote coded_in learnt_in res (among_element g bo c two).tree (f, b) old new
  among_refused two d q old new t is e few are err w =
      let r = picked_reads (two_element g bo c) (one_element c) AreApart IsAlone 5 (two_reads g bo c few) (one_reads_5 c few) d in
      let p = subst (λ d. Picked AreApart IsAlone d (f, b)) (sym is) (are_picked two (f, b) are (is_second b) refl) in
      chosen res two (Pair at) (one_element c) (f, b) old new t (as_slot res Pair q at (f, b) old new e (flag_refused res is_pair q (two_element g bo c) (one_element c) (f, b) d is old new err (r.leads (f, b) p) w))

  pub among_two : (two d : Bool) (q : Slot) (old mid new : Numbers) → two ≡ true → d ≡ is_second b → q ≡ at → d ≡ true → Writes coded_in learnt_in (flag (Adaptive q)).tree d old mid → Wrote coded_in learnt_in res (two_element g bo c).tree (f, b) mid new →
      Wrote coded_in learnt_in res (among_element g bo c two).tree (f, b) old new
  among_two two d q old mid new t is e y v w =
      chosen res two (Pair at) (one_element c) (f, b) old new t
      (as_slot res Pair q at (f, b) old new e (decided res is_pair q (two_element g bo c) (one_element c) (f, b) d is old mid new v (chosen res d (two_element g bo c) (one_element c) (f, b) mid new y w)))

  pub among_alone : (two d : Bool) (q : Slot) (old mid new : Numbers) → two ≡ true → d ≡ is_second b → q ≡ at → d ≡ false → AreRefFrames two (f, b) → Writes coded_in learnt_in (flag (Adaptive q)).tree d old mid → Wrote coded_in learnt_in res (single_element c).tree f mid new →
      Wrote coded_in learnt_in res (among_element g bo c two).tree (f, b) old new
  among_alone two d q old mid new t is e y are v w =
      let none = are.alone (sym is ∙ y) in
      chosen res two (Pair at) (one_element c) (f, b) old new t
      (as_slot res Pair q at (f, b) old new e (decided res is_pair q (two_element g bo c) (one_element c) (f, b) d is old mid new v (chosen_last res d (two_element g bo c) (one_element c) (f, b) mid new y (one_is mid new none.1 w))))

-- by other names of contexts, of whether there may be two, and of the references
pub among_as : {U E : Type 0} (res : Result U E) (g : Grid) (bo : BlockOffset) (c d : RefContexts) (two three : Bool) (rs ss : RefType × RefType) (old new : Numbers) → c ≡ d → two ≡ three → rs ≡ ss → Wrote coded_in learnt_in res (among_element g bo c two).tree rs old new →
    Wrote coded_in learnt_in res (among_element g bo d three).tree ss old new
among_as res g bo c d two three rs ss old new x y z w =
    subst (λ t. Wrote coded_in learnt_in res (among_element g bo d three).tree t old new) z
    (subst (λ t. Wrote coded_in learnt_in res (among_element g bo d t).tree rs old new) y (subst (λ t. Wrote coded_in learnt_in res (among_element g bo t two).tree rs old new) x w))

-- modes of one vector
pub other_is : (m a : PredictionMode) (x y : ℕ) → x ≡ prediction_mode_number a → y ≡ prediction_mode_number m → not (nat_eq x y) ≡ not (is_mode m a)
other_is m a x y e f = ap (λ k. not (nat_eq k y)) e ∙ ap (λ k. not (nat_eq (prediction_mode_number a) k)) f

module _ {U E : Type 0} (res : Result U E) (m : PredictionMode) (p s : Slot) (next : Element Distribution PredictionMode) (a : PredictionMode) (d : Bool) (at : p ≡ s) (is : d ≡ not (is_mode m a)) where
  abbrev Unless : Slot → Element Distribution PredictionMode
  Unless s = unless m s next

  pub unless_refused : (old new : Numbers) → Goes (not (is_mode m a)) next (known m) a → IsErr res → Begins coded_in learnt_in (flag (Adaptive p)).tree d old new → Wrote coded_in learnt_in res (unless m s next).tree a old new
  unless_refused old new goes err w =
      as_slot res Unless p s a old new at (flag_refused res (λ a. not (is_mode m a)) p next (known m) a d is old new err (subst (λ d. Goes d next (known m) a) (sym is) goes) w)

  pub unless_on : (old mid new : Numbers) → d ≡ true → Writes coded_in learnt_in (flag (Adaptive p)).tree d old mid → Wrote coded_in learnt_in res next.tree a mid new → Wrote coded_in learnt_in res (unless m s next).tree a old new
  unless_on old mid new t v w = as_slot res Unless p s a old new at (decided res (λ a. not (is_mode m a)) p next (known m) a d is old mid new v (chosen res d next (known m) a mid new t w))

not_not : (b : Bool) → not b ≡ false → b ≡ true
not_not true h = refl
not_not false h = absurd cc

not_true : (b : Bool) → not b ≡ true → b ≡ false
not_true true h = absurd cc
not_true false h = refl

pub unless_is : (m : PredictionMode) (p s : Slot) (next : Element Distribution PredictionMode) (a : PredictionMode) (d : Bool) → p ≡ s → d ≡ not (is_mode m a) → (old new : Numbers) → d ≡ false → Writes coded_in learnt_in (flag (Adaptive p)).tree d old new →
    Writes coded_in learnt_in (unless m s next).tree a old new
unless_is m p s next a d at is old new t v =
    as_slot {U = Unit {0}} {E = Unit {0}} (Ok tt) (λ s. unless m s next) p s a old new at
    (decided {U = Unit {0}} {E = Unit {0}} (Ok tt) (λ a. not (is_mode m a)) p next (known m) a d is old new new v
    (chosen_last {U = Unit {0}} {E = Unit {0}} (Ok tt) d next (known m) a new new t (known_written m a new (sym (same_mode m a (not_not (is_mode m a) (sym is ∙ t)))))))

module _ (ctx : ℕ) where
  abbrev pub Nears : Element Distribution PredictionMode
  Nears = unless NEARESTMV (slot (codes "refmv_cdf") (ref_context ctx ∷ [])) (known NEAR0MV)

  abbrev pub Others : Element Distribution PredictionMode
  Others = unless GLOBALMV (slot (codes "zeromv_cdf") (zero_context ctx ∷ [])) Nears

  abbrev pub rest : List PredictionMode
  rest = GLOBALMV ∷ NEARESTMV ∷ NEAR0MV ∷ []

  pub new_goes : (m : PredictionMode) → IsAmong inter_modes m → Goes (not (is_mode NEWMV m)) Others (known NEWMV) m
  new_goes m h = of_all (λ m. Goes (not (is_mode NEWMV m)) Others (known NEWMV) m) inter_modes (refl, (refl, (refl, (refl, tt)))) m h

  pub other_goes : (m : PredictionMode) → IsAmong rest m → Goes (not (is_mode GLOBALMV m)) Nears (known GLOBALMV) m
  other_goes m h = of_all (λ m. Goes (not (is_mode GLOBALMV m)) Nears (known GLOBALMV) m) rest (refl, (refl, (refl, tt))) m h

  pub not_new : (m : PredictionMode) (d : Bool) → IsAmong inter_modes m → d ≡ not (is_mode NEWMV m) → d ≡ true → IsAmong rest m
  not_new m d h is t = among_split NEWMV rest m false (not_true (is_mode NEWMV m) (sym is ∙ t)) (subst (λ b. IsTrue (b || is_among rest m)) (not_true (is_mode NEWMV m) (sym is ∙ t)) h)

  pub near_wrote : {U E : Type 0} (res : Result U E) (m : PredictionMode) (p : Slot) (d e : Bool) (old new : Numbers) → p ≡ slot (codes "refmv_cdf") (ref_context ctx ∷ []) → d ≡ not (is_mode NEARESTMV m) → e ≡ not (is_mode GLOBALMV m) → e ≡ true → IsAmong rest m →
      Wrote coded_in learnt_in res (flag (Adaptive p)).tree d old new → Wrote coded_in learnt_in res Nears.tree m old new
  near_wrote res m p d e old new at is was t h w =
      let far = not_true (is_mode GLOBALMV m) (sym was ∙ t) in
      let near = among_split GLOBALMV (NEARESTMV ∷ NEAR0MV ∷ []) m false far (subst (λ b. IsTrue (b || is_among (NEARESTMV ∷ NEAR0MV ∷ []) m)) far h) in
      let told = of_all (λ m. (if not (is_mode NEARESTMV m) then NEAR0MV else NEARESTMV) ≡ m) (NEARESTMV ∷ NEAR0MV ∷ []) (refl, (refl, tt)) m near in
      as_slot res (λ s. unless NEARESTMV s (known NEAR0MV)) p (slot (codes "refmv_cdf") (ref_context ctx ∷ [])) m old new at
      (told_by_flag res (λ a. not (is_mode NEARESTMV a)) p NEAR0MV NEARESTMV m d old new (as_told NEAR0MV NEARESTMV m (not (is_mode NEARESTMV m)) d is told) w)

-- whether two numbers differ, as a test tells it
pub alike : (x y : ℕ) → x ≡ y → not (nat_eq x y) ≡ false
alike x y h = grind (arith, nat_tests, h)

pub unlike : (x y : ℕ) → (x ≡ y → ⊥) → not (nat_eq x y) ≡ true
unlike x y h = by (nat_eq x y) refl
  where
    by : (b : Bool) → nat_eq x y ≡ b → not b ≡ true
    by true e = absurd (h (eqb-true x y e))
    by false e = refl
