-- A frame that keeps the rule of film grain has a grain that a header can say.
use Rattle.std.proofs.Common.{◌≡◌, ℕ, ◌<◌, ◌≤◌, List, length, Bool, true, false, not, nat_lt, Option, Some, None, subst, sym, ap, refl, arith, ◌∙◌, lit<}
use Rattle.std.specs.Prelude.{◌==◌, ◌&&◌, ◌||◌, if◌then◌else◌}
use Rattle.std.proofs.lemmas.Bool.Decides.{nat_tests}
use Rattle.av1_geometry.specs.ChromaSampling.{planes_of}
use Rattle.av1_geometry.specs.declared.chroma_sampling.ChromaSampling.{ChromaSampling}
use Rattle.av1_geometry.specs.declared.chroma_sampling.ChromaSampling.TheVariants.{Cs420, Cs422, Cs444, Cs400}
use Rattle.av1_frame.specs.Grain.{Grain}
use Rattle.av1_frame.specs.GrainRules.{grain_fits, grain_numbers_fit, coefficient_lists_fit, chroma_points_fit, chroma_positions}
use Rattle.av1_frame.specs.SequenceRules.{is_monochrome}
use Rattle.av1_frame.specs.declared.sequence.Sequence.{Sequence}
use Rattle.av1_header.specs.FilmGrain.{GrainFits, HasCoefficients, FilmGrainFits, all_points, points, point, count_if, chroma_coefficients}
use Rattle.av1_header.specs.Color.{color_of}
use Rattle.av1_header.specs.Rows.{Rows, told, ◌>>=◌, each, on, flag_or, number_or}
use Rattle.av1_header.specs.declared.values.Color.{Color}
use Rattle.av1_header.specs.declared.values.GrainPoints.{GrainPoints}
use Rattle.av1_header.proofs.RowLaws.{told-bind, told-on}
use Rattle.av1_header.proofs.RulesFit.{both, is_at_most, is_below, small_of}

told_then : {S A B : Type 0} (t : Rows S A) (g : A → Rows S B) (s : S) (a : A) (b : B) → told t s ≡ a → told (g a) s ≡ b → told (t >>= g) s ≡ b
told_then t g s a b e k = told-bind t g s ∙ ap (λ v. told (g v) s) e ∙ k

told_flag : {S : Type 0} (there other : Bool) (name : List ℕ) (value : S → Bool) (s : S) → told (flag_or there other name value) s ≡ (if there then value s else other)
unfolding flag_or
told_flag there other name value s = refl

told_points : (there : Bool) (ps : List (List ℕ)) → told (points there) ps ≡ count_if there (length ps)
unfolding points number_or ◌>>=◌
told_points there ps = let count = count_if there (length ps) in told-bind (each count 0 point) (λ _. Rows.Done count) ps

-- whether chroma has points of its own
coded : Color → Grain → Bool
coded color g = (not color.monochrome && not (if not color.monochrome then g.chroma_scaling_from_luma else false)) && not ((color.xdec && color.ydec) && length g.scaling_points_y == 0)

points_of : Color → Grain → GrainPoints
points_of color g = record {
  y = length g.scaling_points_y;
  cb = count_if (coded color g) (length g.scaling_points_cb);
  cr = count_if (coded color g) (length g.scaling_points_cr);
  from_luma = if not color.monochrome then g.chroma_scaling_from_luma else false;
}

told_all : (color : Color) (g : Grain) → told (all_points color) g ≡ points_of color g
unfolding all_points points_of coded
told_all color g =
    told_then _ _ g _ _ (told-on _ (points true) g ∙ told_points true g.scaling_points_y)
    (told_then _ _ g _ _ (told_flag _ _ _ _ g)
    (told_then _ _ g _ _ (told-on _ (points (coded color g)) g ∙ told_points (coded color g) g.scaling_points_cb)
    (told_then _ _ g _ _ (told-on _ (points (coded color g)) g ∙ told_points (coded color g) g.scaling_points_cr) refl)))

has_some : (inner : Bool) (n : ℕ) → nat_lt 0 (count_if inner n) ≡ true → not (n == 0) ≡ true
has_some true n h = grind (arith, nat_tests)
has_some false n h = absurd cc

-- where chroma's coefficients are written, they are coded
wanted : (mono luma inner : Bool) (n : ℕ) → ((if not mono then luma else false) || nat_lt 0 (count_if inner n)) ≡ true → ((luma && not mono) || not (n == 0)) ≡ true
wanted false true inner n h = refl
wanted true true inner n h = has_some inner n h
wanted true false inner n h = has_some inner n h
wanted false false inner n h = has_some inner n h

-- a list is long enough where it is coded
long_enough : (wants coded : Bool) (n positions len : ℕ) → (wants ≡ true → coded ≡ true) → n ≡ positions → (len == positions || (not coded && len == 0)) ≡ true → count_if wants n ≤ len
long_enough false coded n positions len h e fits = omega arith
long_enough true coded n positions len h e fits =
    let whole : (len == positions || (not true && len == 0)) ≡ true = subst (λ b. (len == positions || (not b && len == 0)) ≡ true) (h refl) fits in
    grind (arith, nat_tests)

few_points : (coded : Bool) (ps : List (List ℕ)) → chroma_points_fit coded ps ≡ true → length ps < 16
few_points true ps h = small_of _ 10 _ h (lit< tt)
few_points false ps h = grind (arith, nat_tests)

mono_is : (c : ChromaSampling) → (planes_of c == 1) ≡ is_monochrome c
mono_is Cs420 = refl
mono_is Cs422 = refl
mono_is Cs444 = refl
mono_is Cs400 = refl

positions_are : (g : Grain) → chroma_coefficients g.ar_coeff_lag (length g.scaling_points_y) ≡ chroma_positions g
positions_are g = grind (arith, nat_tests)

and_holds : (a b : Bool) → a ≡ true → b ≡ true → (a && b) ≡ true
and_holds true b e k = k
and_holds false b e k = absurd cc

-- chroma's coefficients are coded where they are written
chroma_coded : (c : ChromaSampling) (present luma inner : Bool) (n : ℕ) → present ≡ true → ((if not (planes_of c == 1) then luma else false) || nat_lt 0 (count_if inner n)) ≡ true →
    (present && ((luma && not (is_monochrome c)) || not (n == 0))) ≡ true
chroma_coded c present luma inner n on h = and_holds present _ on (subst (λ m. ((luma && not m) || not (n == 0)) ≡ true) (mono_is c) (wanted (planes_of c == 1) luma inner n h))

numbers_within : (g : Grain) → grain_numbers_fit g ≡ true → length g.scaling_points_y < 16 → length g.scaling_points_cb < 16 → length g.scaling_points_cr < 16 → GrainFits g
numbers_within g h y cb cr =
    let last = both _ _ h in
    let offset = both _ _ last.0 in
    let scale = both _ _ offset.0 in
    let shift = both _ _ scale.0 in
    let lag = both _ _ shift.0 in
    let scaling = both _ _ lag.0 in
    let within_shift = both _ _ shift.1 in
    record {
      y_points = y;
      cb_points = cb;
      cr_points = cr;
      scaling = (is_at_most _ _ scaling.0, is_at_most _ _ scaling.1);
      lag = is_at_most _ _ lag.1;
      shift = (is_at_most _ _ within_shift.0, is_at_most _ _ within_shift.1);
      scale = is_at_most _ _ scale.1;
      cb_offset = is_below _ _ offset.1;
      cr_offset = is_below _ _ last.1;
    }

lists_within : (seq : Sequence) (g : Grain) → coefficient_lists_fit seq g ≡ true → seq.film_grain_params_present ≡ true → HasCoefficients (points_of (color_of seq.chroma_sampling) g) g
unfolding points_of
lists_within seq g h on =
    let last = both _ _ h in
    let front = both _ _ last.0 in
    let color = color_of seq.chroma_sampling in (
      long_enough _ _ _ _ _ (λ w. and_holds _ _ on (has_some true (length g.scaling_points_y) w)) refl front.0,
      long_enough _ _ _ _ _ (λ w. chroma_coded seq.chroma_sampling _ g.chroma_scaling_from_luma (coded color g) (length g.scaling_points_cb) on w) (positions_are g) front.1,
      long_enough _ _ _ _ _ (λ w. chroma_coded seq.chroma_sampling _ g.chroma_scaling_from_luma (coded color g) (length g.scaling_points_cr) on w) (positions_are g) last.1,
    )

pub grain_within : (seq : Sequence) (grain : Option Grain) → grain_fits seq grain ≡ true → seq.film_grain_params_present ≡ true → FilmGrainFits (color_of seq.chroma_sampling) grain
unfolding grain_fits
grain_within seq None h on = tt
grain_within seq (Some g) h on =
    let last = both _ _ h in
    let front = both _ _ last.0 in
    let cr = both _ _ front.0 in
    let cb = both _ _ cr.0 in (
      numbers_within g front.1 (small_of _ 14 _ cb.0 (lit< tt)) (few_points _ _ cb.1) (few_points _ _ cr.1),
      subst (λ p. HasCoefficients p g) (sym (told_all (color_of seq.chroma_sampling) g)) (lists_within seq g last.1 on),
    )
