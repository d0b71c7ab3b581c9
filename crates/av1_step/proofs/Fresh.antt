-- Before the first step.
use Rattle.std.proofs.Common.{◌≡◌, ℕ, ◌*◌, ◌<◌, List, [], length, get_or, replicate, refl, sym, ◌∙◌, ap, subst, arith}
use Rattle.std.proofs.lemmas.List.{length-replicate, get_or-replicate}
use Rattle.av1_blocks.specs.declared.block.TheConstants.Block.{DEFAULT}
use Rattle.av1_cdf.specs.Context.{AreCdfs}
use Rattle.av1_frame.specs.declared.frame.FrameInvariants.{FrameInvariants}
use Rattle.av1_model.proofs.Tokens.{whole_valid}
use Rattle.av1_step.specs.Given.{Given, IsGiven, tile_count, tile_cols, tile_rows}
use Rattle.av1_step.specs.Kept.{IsFine, IsKept}
use Rattle.av1_step.specs.Sound.{IsSound}
use Rattle.av1_step.specs.Tile.{fresh}
use Rattle.av1_step.specs.Script.{begin, numbers_of}
use Rattle.av1_step.proofs.Effects.{never, no_counts, no_vector_valid}
use Rattle.av1_step.proofs.Planes.{first_fit}

planes_fresh : (p : ℕ) → p < 3 → length {A = ℕ} (get_or (replicate 3 (replicate 1024 0)) p []) ≡ 1024
planes_fresh p h = ap (λ (l : List ℕ). length l) (get_or-replicate 3 p (replicate 1024 0) [] h) ∙ length-replicate {A = ℕ} 1024 0

default_fine : (fi : FrameInvariants) → IsFine fi DEFAULT
default_fine fi = record {
  mode = λ intra. omega arith;
  segment = omega arith;
  sound = record { width = refl; height = refl; first_valid = no_vector_valid; second_valid = no_vector_valid; counts = no_counts; refers = λ h. absurd (never h); refers_within = λ h. absurd (never h) };
}

pub fresh_kept : (g : Given) (k : ℕ) (numbers : List ℕ) → IsGiven g → k < tile_count g.fi → IsKept (fresh g k numbers)
fresh_kept g k numbers given number =
    let n = tile_cols g.fi k * tile_rows g.fi k in
    record {
      given = given;
      number = number;
      sides = record { cols = refl; rows = refl; corner = (refl, refl); all = length-replicate n DEFAULT; frame = (refl, refl) };
      edges = record { above_partition = length-replicate {A = ℕ} 512 0; above_tx = length-replicate {A = ℕ} 1024 0; above_planes = length-replicate {A = List ℕ} 3 (replicate 1024 0); above_coeff = planes_fresh };
      current = λ b e. cc;
      coded = λ b e. cc;
      entered = λ b e. cc;
      alike = λ b e. cc;
      fine = λ i h. subst (IsFine g.fi) (sym (get_or-replicate n i DEFAULT DEFAULT (subst (λ m. i < m) (length-replicate n DEFAULT) h))) (default_fine g.fi);
      planes = first_fit g.fs;
      cands = λ c e. cc;
    }

pub fresh_sound : (g : Given) (k : ℕ) → IsGiven g → k < tile_count g.fi → AreCdfs (numbers_of g) → IsSound (begin g k)
fresh_sound g k given number v = record { interval = whole_valid; cdfs = v; kept = fresh_kept g k (numbers_of g) given number }
