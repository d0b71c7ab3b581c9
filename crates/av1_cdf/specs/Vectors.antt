-- The distributions of vectors that rav1e starts with, by cumulated frequencies out of 32768.
use Rattle.std.specs.Prelude.{ℕ, ◌*◌, List, [], ◌∷◌, map}
use Rattle.av1_geometry.specs.Tables.{complemented}
use Rattle.av1_cdf.specs.declared.nmv.NMVComponent.{NMVComponent}
use Rattle.av1_cdf.specs.declared.nmv.NMVContext.{NMVContext}

-- a distribution by the frequencies, out of 256, up to its first symbol
abbrev pub of_two : ℕ → List ℕ
of_two n = complemented 2 (128 * n ∷ [])

abbrev pub default_bits : List (List ℕ)
default_bits = map of_two (136 ∷ 140 ∷ 148 ∷ 160 ∷ 176 ∷ 192 ∷ 224 ∷ 234 ∷ 234 ∷ 240 ∷ [])

abbrev pub default_component : NMVComponent
default_component = record {
  sign_cdf = of_two 128;
  class0_hp_cdf = of_two 160;
  hp_cdf = of_two 128;
  class0_cdf = of_two 216;
  bits_cdf = default_bits;
  class0_fp_cdf = map (complemented 4) ((16384 ∷ 24576 ∷ 26624 ∷ []) ∷ (12288 ∷ 21248 ∷ 24128 ∷ []) ∷ []);
  fp_cdf = complemented 4 (8192 ∷ 17408 ∷ 21248 ∷ []);
  classes_cdf = complemented 11 (28672 ∷ 30976 ∷ 31858 ∷ 32320 ∷ 32551 ∷ 32656 ∷ 32740 ∷ 32757 ∷ 32762 ∷ 32767 ∷ []);
}

abbrev pub default_nmv : NMVContext
default_nmv = record { joints_cdf = complemented 4 (4096 ∷ 11264 ∷ 19328 ∷ []); comps = default_component ∷ default_component ∷ [] }
