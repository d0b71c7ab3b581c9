use Rattle.std.proofs.Common.{ap, sym, ◌∙◌, Vec, Global, nat_eq, length}
use Rattle.std.specs.List.{list_all}
use Rattle.av1_coef.specs.declared.scans.Scan.{Scan}
use Rattle.av1_coef.specs.Scans.{of_each}
use Rattle.av1_coef.proofs.AllScans.{of_each_is}
use Rattle.av1_coef.proofs.scans.of_each.Goals as goal

pub returns-then-lists-eq-TX_SIZES_ALL : goal.returns-then-lists-eq-TX_SIZES_ALL
returns-then-lists-eq-TX_SIZES_ALL c =
    c.all_three.ensures ∙ ap (list_all (λ (v : Vec Scan Global). nat_eq (length v.items) 3)) c.as_slice-lists.ensures.value
    ∙ of_each_is (Vec Scan Global) (λ v. v.items) c.scans.inside.scans.items (sym (ap length c.as_slice-lists.ensures.value) ∙ c.if-lists-eq-TX_SIZES_ALL.true)
    ∙ ap of_each c.scans.view_is
