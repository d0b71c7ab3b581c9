use Rattle.std.proofs.Common.{◌≡◌, ℕ, inl, inr, List, subst, sym, ap, ◌∙◌, arith, true, false}
use Rattle.av1_blocks.specs.Edges.{partition_context}
use Rattle.av1_cdf.specs.Context.{contents}
use Rattle.av1_cdf.specs.Distribution.Distribution.{Fixed}
use Rattle.av1_cdf.specs.Layout.{Slot}
use Rattle.av1_cdf.specs.Slots.{slot_of}
use Rattle.av1_geometry.specs.PartitionType.{partition_number}
use Rattle.av1_geometry.specs.declared.partition_type.PartitionType.TheVariants.{PARTITION_HORZ, PARTITION_VERT}
use Rattle.av1_model.specs.Cdf.{IsCdf}
use Rattle.av1_syntax.specs.Partition.{partition_slot, partition_below, gathered, vert_alike, horz_alike, split_or, split_number, has_cols, has_rows}
use Rattle.av1_syntax.proofs.Gathering.{ten_large, allowed_few, partition_told, vert_told, horz_told, wrote_among, allowed_at, two_numbers, vert_few, horz_few}
use Rattle.av1_syntax.proofs.Writing.{wrote_symbol, wrote_by}
use Rattle.av1_syntax.proofs.context_writer.ContextWriter.write_partition.Goals as goal

pub symbol-requires-clause-s : goal.symbol-requires-clause-s
symbol-requires-clause-s g c =
    let cols : has_cols c.args.self.now.bc.blocks c.args.bo.0 c.args.bsize ≡ true = sym c.in-true-true.ensures in
    let rows : has_rows c.args.self.now.bc.blocks c.args.bo.0 c.args.bsize ≡ true = sym c.in-true-true.ensures' in
    let allowed = allowed_few c.args.bsize c.args.p (allowed_at _ _ true true c.args.bsize c.args.p cols rows c.requires.allowed) in
    omega (arith, c.partition_cdf-cdf.ensures.len, allowed, c.number.ensures.value)

pub returns-in-true-true-clause-wrote : goal.returns-in-true-true-clause-wrote
returns-in-true-true-clause-wrote g c =
    let cols : has_cols c.args.self.now.bc.blocks c.args.bo.0 c.args.bsize ≡ true = sym c.in-true-true.ensures in
    let rows : has_rows c.args.self.now.bc.blocks c.args.bo.0 c.args.bsize ≡ true = sym c.in-true-true.ensures' in
    let allowed = allowed_few c.args.bsize c.args.p (allowed_at _ _ true true c.args.bsize c.args.p cols rows c.requires.allowed) in
    let cdf = c.partition_cdf-cdf.ensures in
    let s = partition_slot (partition_context c.args.self.now.bc c.args.bo.0 c.args.bsize) in
    wrote_among c.symbol.result _ _ true true s (contents c.args.self.now.fc s) c.args.p _ _ cols rows
    (wrote_symbol c.symbol.result _ s (partition_below s.len) partition_number c.number.result c.args.p _ _ cdf.is
    c.number.ensures.value (partition_told s.len c.args.p (omega (arith, allowed, cdf.len, ap (λ (t : Slot). t.len) cdf.is))) c.symbol.ensures.ok c.symbol.ensures.err)

pub gather_vert_alike-gathered-requires-clause-cdf : goal.gather_vert_alike-gathered-requires-clause-cdf
gather_vert_alike-gathered-requires-clause-cdf g c =
    subst IsCdf (sym c.values_of.ensures.value) (c.requires.cdfs.valid (slot_of c.partition_cdf-cdf.result) c.partition_cdf-cdf.result.is_slot)

pub gather_vert_alike-gathered-requires-clause-ten : goal.gather_vert_alike-gathered-requires-clause-ten
gather_vert_alike-gathered-requires-clause-ten g c =
    let rows : has_rows c.args.self.now.bc.blocks c.args.bo.0 c.args.bsize ≡ false = sym c.in-true-false.ensures' in
    c.values_of.ensures.len ∙ c.partition_cdf-cdf.ensures.len ∙ ten_large c.args.self.now.bc.blocks c.args.bo.0 c.args.bsize c.requires.place (inr rows)

pub fixed_symbol-requires-clause-cdf : goal.fixed_symbol-requires-clause-cdf
fixed_symbol-requires-clause-cdf g c =
    let rows : has_rows c.args.self.now.bc.blocks c.args.bo.0 c.args.bsize ≡ false = sym c.in-true-false.ensures' in
    let ten = c.values_of.ensures.len ∙ c.partition_cdf-cdf.ensures.len ∙ ten_large c.args.self.now.bc.blocks c.args.bo.0 c.args.bsize c.requires.place (inr rows) in
    let valid = subst IsCdf (sym c.values_of.ensures.value) (c.requires.cdfs.valid (slot_of c.partition_cdf-cdf.result) c.partition_cdf-cdf.result.is_slot) in
    subst IsCdf (sym c.gather_vert_alike-gathered.ensures) (two_numbers _ (vert_few _ valid ten))

pub returns-in-true-false-clause-wrote : goal.returns-in-true-false-clause-wrote
returns-in-true-false-clause-wrote g c =
    let cols : has_cols c.args.self.now.bc.blocks c.args.bo.0 c.args.bsize ≡ true = sym c.in-true-false.ensures in
    let rows : has_rows c.args.self.now.bc.blocks c.args.bo.0 c.args.bsize ≡ false = sym c.in-true-false.ensures' in
    let cdf = c.gather_vert_alike-gathered.ensures ∙ ap (λ (ns : List ℕ). gathered ns vert_alike) (c.values_of.ensures.value ∙ ap (contents c.args.self.now.fc) c.partition_cdf-cdf.ensures.is) in
    let allowed = allowed_at _ _ true false c.args.bsize c.args.p cols rows c.requires.allowed in
    wrote_among c.fixed_symbol.result _ _ true false _ _ c.args.p _ _ cols rows
    (wrote_by c.fixed_symbol.result (Fixed _) (Fixed _) (split_or PARTITION_HORZ) split_number c.split_number.result c.args.p _ _ (ap Fixed cdf) c.split_number.ensures (vert_told c.args.bsize c.args.p allowed) c.fixed_symbol.ensures.ok c.fixed_symbol.ensures.err)

pub gather_horz_alike-gathered-requires-clause-cdf : goal.gather_horz_alike-gathered-requires-clause-cdf
gather_horz_alike-gathered-requires-clause-cdf g c =
    subst IsCdf (sym c.values_of-in-false-true.ensures.value) (c.requires.cdfs.valid (slot_of c.partition_cdf-cdf.result) c.partition_cdf-cdf.result.is_slot)

pub gather_horz_alike-gathered-requires-clause-ten : goal.gather_horz_alike-gathered-requires-clause-ten
gather_horz_alike-gathered-requires-clause-ten g c =
    let cols : has_cols c.args.self.now.bc.blocks c.args.bo.0 c.args.bsize ≡ false = sym c.in-false-true.ensures in
    c.values_of-in-false-true.ensures.len ∙ c.partition_cdf-cdf.ensures.len ∙ ten_large c.args.self.now.bc.blocks c.args.bo.0 c.args.bsize c.requires.place (inl cols)

pub fixed_symbol-requires-in-false-true-clause-cdf : goal.fixed_symbol-requires-in-false-true-clause-cdf
fixed_symbol-requires-in-false-true-clause-cdf g c =
    let cols : has_cols c.args.self.now.bc.blocks c.args.bo.0 c.args.bsize ≡ false = sym c.in-false-true.ensures in
    let ten = c.values_of-in-false-true.ensures.len ∙ c.partition_cdf-cdf.ensures.len ∙ ten_large c.args.self.now.bc.blocks c.args.bo.0 c.args.bsize c.requires.place (inl cols) in
    let valid = subst IsCdf (sym c.values_of-in-false-true.ensures.value) (c.requires.cdfs.valid (slot_of c.partition_cdf-cdf.result) c.partition_cdf-cdf.result.is_slot) in
    subst IsCdf (sym c.gather_horz_alike-gathered.ensures) (two_numbers _ (horz_few _ valid ten))

pub returns-in-false-true-clause-wrote : goal.returns-in-false-true-clause-wrote
returns-in-false-true-clause-wrote g c =
    let cols : has_cols c.args.self.now.bc.blocks c.args.bo.0 c.args.bsize ≡ false = sym c.in-false-true.ensures in
    let rows : has_rows c.args.self.now.bc.blocks c.args.bo.0 c.args.bsize ≡ true = sym c.in-false-true.ensures' in
    let cdf = c.gather_horz_alike-gathered.ensures ∙ ap (λ (ns : List ℕ). gathered ns horz_alike) (c.values_of-in-false-true.ensures.value ∙ ap (contents c.args.self.now.fc) c.partition_cdf-cdf.ensures.is) in
    let allowed = allowed_at _ _ false true c.args.bsize c.args.p cols rows c.requires.allowed in
    wrote_among c.fixed_symbol-in-false-true.result _ _ false true _ _ c.args.p _ _ cols rows
    (wrote_by c.fixed_symbol-in-false-true.result (Fixed _) (Fixed _) (split_or PARTITION_VERT) split_number c.split_number-in-false-true.result c.args.p _ _ (ap Fixed cdf) c.split_number-in-false-true.ensures (horz_told c.args.bsize c.args.p allowed) c.fixed_symbol-in-false-true.ensures.ok c.fixed_symbol-in-false-true.ensures.err)
