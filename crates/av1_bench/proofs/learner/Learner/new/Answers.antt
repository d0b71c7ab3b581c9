use Rattle.std.proofs.Common.{List, ℕ, sym, subst}
use Rattle.av1_cdf.specs.Context.{AreCdfs}
use Rattle.av1_cdf.proofs.Learning.{cdfs_of_uniform}
use Rattle.av1_bench.proofs.learner.Learner.new.Goals as goal

pub invariant_of-result-clause-cdfs : goal.invariant_of-result-clause-cdfs
invariant_of-result-clause-cdfs g c = subst (λ (numbers : List ℕ). AreCdfs numbers) (sym c.uniform.ensures) cdfs_of_uniform

pub invariant_of-result-clause-undone : goal.invariant_of-result-clause-undone
invariant_of-result-clause-undone g c = subst (λ (numbers : List ℕ). AreCdfs numbers) (sym (c.checkpoint.ensures.undone c.uniform.result)) (subst (λ (numbers : List ℕ). AreCdfs numbers) (sym c.uniform.ensures) cdfs_of_uniform)
