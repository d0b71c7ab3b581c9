-- Contexts whose distributions are valid: those that a tile starts with, and one whose distribution learns.
use Rattle.std.proofs.Common.{◌≡◌, ℕ, ◌+◌, inl, inr, None, List, IsTrue, length, sym, ◌∙◌, subst, arith}
use Rattle.av1_model.specs.Cdf.{IsCdf, adapt}
use Rattle.av1_model.proofs.Adapting.{adapt_valid, length-adapt}
use Rattle.av1_cdf.specs.Context.{AreCdfs, contents, with_contents, uniform_numbers}
use Rattle.av1_cdf.specs.Layout.{Slot, is_slot}
use Rattle.av1_cdf.specs.Tables.{table_rules, set_at, set_number}
use Rattle.av1_geometry.specs.Rules.{first_broken}
use Rattle.av1_cdf.proofs.Cells.{slot_within, slots_apart}
use Rattle.av1_cdf.proofs.Parts.{written_length, part_written, part_stays}
use Rattle.av1_cdf.proofs.Sets.{whole}
use Rattle.av1_cdf.proofs.Valid.{contents_length, below_four, tables_start, uniform_start, uniform_whole}

-- a distribution of a context has the length of its slot
pub contents_long : (numbers : List ℕ) (s : Slot) → AreCdfs numbers → IsTrue (is_slot s.place s.len) → length (contents numbers s) ≡ s.len
contents_long numbers s v h = let w = slot_within s.place s.len h in contents_length numbers s (omega (arith, w, v.size))

-- a context stays valid as one of its distributions learns
pub cdfs_adapted : (numbers : List ℕ) (s : Slot) (symbol : ℕ) → AreCdfs numbers → IsTrue (is_slot s.place s.len) → AreCdfs (with_contents numbers s (adapt (contents numbers s) symbol))
cdfs_adapted numbers s symbol v h =
    let ws = adapt (contents numbers s) symbol in
    let w = slot_within s.place s.len h in
    let long : length ws ≡ s.len = length-adapt (contents numbers s) symbol ∙ contents_long numbers s v h in
    let own : contents (with_contents numbers s ws) s ≡ ws = part_written numbers s.place (s.place + s.len) ws (omega arith) (omega (arith, w.0, v.size)) (omega (arith, long)) in
    record {
      size = written_length numbers s.place (s.place + s.len) ws ∙ v.size;
      valid = λ t is.
          let u = slot_within t.place t.len is in
          elim (slots_apart s t h is) [
            | inl e ↦ subst (λ (r : Slot). IsCdf (contents (with_contents numbers s ws) r)) e (subst IsCdf (sym own) (adapt_valid (contents numbers s) symbol (v.valid s h)))
            | inr (inl o) ↦ subst IsCdf (sym (part_stays numbers s.place (s.place + s.len) ws t.place (t.place + t.len) (omega (arith, u.0, v.size)) (inr o))) (v.valid t is)
            | inr (inr o) ↦ subst IsCdf (sym (part_stays numbers s.place (s.place + s.len) ws t.place (t.place + t.len) (omega (arith, u.0, v.size)) (inl o))) (v.valid t is)
          ];
    }

-- the set that a quantizer chooses, of tables that break no rule
pub cdfs_of_tables : (sets : List (List ℕ)) (quantizer : ℕ) → first_broken (table_rules sets) ≡ None → AreCdfs (set_at sets (set_number quantizer))
cdfs_of_tables sets quantizer h = record { size = whole sets h (set_number quantizer) (below_four quantizer); valid = λ s is. tables_start sets quantizer s h is }

-- the uniform context
pub cdfs_of_uniform : AreCdfs uniform_numbers
cdfs_of_uniform = record { size = uniform_whole; valid = uniform_start }
