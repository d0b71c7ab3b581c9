-- What follows for the steps of a kind from what the kind brings.
use Rattle.std.proofs.Common.{◌≡◌, ℕ, ◌^◌, ◌≤◌, ◌++◌, List, [], ◌∷◌, Bool, true, false, arith, Option, Some, None, is_none, if◌then◌else◌, refl, sym, ap, ◌∙◌, subst, Result}
use Rattle.std.proofs.lemmas.List.{append-nil}
use Rattle.av1_cdf.specs.Distribution.{coded_by, learnt, HasSymbols}
use Rattle.av1_geometry.specs.declared.error.Rule.{Rule}
use Rattle.av1_geometry.specs.Rules.{Check, first_broken}
use Rattle.av1_model.specs.Comes.{Standing, Wrote}
use Rattle.av1_model.specs.Element.{Asks, Reads, choose, nothing, tested}
use Rattle.av1_model.specs.Syntax.{Leads}
use Rattle.av1_model.specs.Syntax.Syntax.{Bad, Done}
use Rattle.av1_model.proofs.ComesLaws.{wrote_as}
use Rattle.av1_model.proofs.ElementLaws.{asks_bind, choose_reads, done_apart, nothing_reads, reads_as, tested_reads}
use Rattle.av1_model.proofs.TreeLaws.{leads_then, leads_apart}
use Rattle.av1_step.specs.declared.step.TileStep.{TileStep}
use Rattle.av1_step.specs.Kind.{Kind, holds, rules_of, answers, steps, IsKind}
use Rattle.av1_step.specs.Tile.{Tile}

pub none_is : (o : Option Rule) → is_none o ≡ true → o ≡ None
none_is None h = refl
none_is (Some n) h = cc

-- the rules of a question and of an answer hold together
pub both_hold : (cs ds : List Check) → holds cs ≡ true → holds ds ≡ true → holds (cs ++ ds) ≡ true
both_hold [] ds h g = g
both_hold (c ∷ cs) ds h g = elim c.1 as (λ b. is_none (if b then first_broken cs else Some c.0) ≡ true → is_none (if b then first_broken (cs ++ ds) else Some c.0) ≡ true) [ true ↦ λ e. both_hold cs ds e g | false ↦ λ e. cc ] h

pub asking_holds : (cs ds : List Check) → holds (cs ++ ds) ≡ true → holds cs ≡ true
asking_holds [] ds h = refl
asking_holds (c ∷ cs) ds h = elim c.1 as (λ b. is_none (if b then first_broken (cs ++ ds) else Some c.0) ≡ true → is_none (if b then first_broken cs else Some c.0) ≡ true) [ true ↦ λ e. asking_holds cs ds e | false ↦ λ e. cc ] h

pub answering_holds : (cs ds : List Check) → holds (cs ++ ds) ≡ true → holds ds ≡ true
answering_holds [] ds h = h
answering_holds (c ∷ cs) ds h = elim c.1 as (λ b. is_none (if b then first_broken (cs ++ ds) else Some c.0) ≡ true → holds ds ≡ true) [ true ↦ λ e. answering_holds cs ds e | false ↦ λ e. cc ] h

-- where the question keeps its rules, an element with one path to each value has one to each answer whose rules hold
pub kind_reads : {A : Type 0} (k : Kind A) (P : A → Type 0) (most : ℕ) → most ≤ 2 ^ 20 → ((a : A) → holds k.asking ≡ true → holds (k.answering a) ≡ true → P a) → (holds k.asking ≡ true → Reads HasSymbols k.element P most) →
    Reads HasSymbols (answers k) (λ a. holds (rules_of k a) ≡ true) (2 ^ 20)
kind_reads {A} k P most few fine r =
    choose_reads HasSymbols (holds k.asking) (tested (λ a. holds (k.answering a)) k.element) nothing (λ a. holds (rules_of k a) ≡ true) (2 ^ 20)
    (λ asked.
    reads_as HasSymbols (tested (λ a. holds (k.answering a)) k.element) (λ a. holds (k.answering a) ≡ true) (λ a. holds (rules_of k a) ≡ true) most (2 ^ 20) (λ a h. both_hold k.asking (k.answering a) asked h) (λ a h. answering_holds k.asking (k.answering a) h) few
    (tested_reads HasSymbols (λ a. holds (k.answering a)) k.element P most (λ a h. fine a asked h) (r asked)))
    (λ refused. reads_as HasSymbols nothing (λ a. holds (rules_of k a) ≡ true) (λ a. holds (rules_of k a) ≡ true) 0 (2 ^ 20) (λ a h. h) (λ a h. h) (omega arith)
    (nothing_reads HasSymbols (λ a. holds (rules_of k a) ≡ true) (λ a h. let yes = asking_holds k.asking (k.answering a) h in cc (yes, refused))))

module _ {A : Type 0} (t : Tile) (k : Kind A) (is : IsKind t k) where
  -- the symbols of an answer whose rules hold lead to its step
  pub leads_step : (a : A) → first_broken (rules_of k a) ≡ None → Leads (steps k) ((answers k).symbols a) (k.step a)
  leads_step a h =
      subst (λ ss. Leads (steps k) ss (k.step a)) (append-nil ((answers k).symbols a))
      (leads_then (answers k).tree (λ a. Done (k.step a)) ((answers k).symbols a) [] a (k.step a) (is.reads.leads a (ap is_none h)) refl)

  -- what leads to a step are the symbols of such an answer
  pub step_apart : (ss : List ℕ) (step : TileStep) → Leads (steps k) ss step → (a : A) × (k.step a ≡ step) × (first_broken (rules_of k a) ≡ None) × (ss ≡ (answers k).symbols a)
  step_apart ss step h =
      let x = leads_apart (answers k).tree (λ a. Done (k.step a)) ss step h in
      let d = done_apart (k.step x.0) step x.2 x.5 in
      let p = is.reads.one_path x.0 x.1 x.4 in
      (x.0, d.1, none_is (first_broken (rules_of k x.0)) p.0, x.3 ∙ ap (λ l. x.1 ++ l) d.0 ∙ append-nil x.1 ∙ p.1)

  pub steps_ask : Asks HasSymbols (steps k)
  steps_ask = asks_bind HasSymbols (answers k).tree (λ a. Done (k.step a)) is.reads.asks (λ a ss h. tt)

-- a write call of the element of a kind writes the step
pub wrote_step : {A U E : Type 0} (learns : Bool) (r : Result U E) (k : Kind A) (a : A) (old new : Standing (List ℕ)) → first_broken (rules_of k a) ≡ None → Wrote coded_by (learnt learns) r k.element.tree a old new → Wrote coded_by (learnt learns) r (steps k) (k.step a) old new
wrote_step {A} learns r k a old new h w =
    let all : holds (rules_of k a) ≡ true = ap is_none h in
    let asked = asking_holds k.asking (k.answering a) all in
    let answered = answering_holds k.asking (k.answering a) all in
    let within : Wrote coded_by (learnt learns) r (tested (λ b. holds (k.answering b)) k.element).tree a old new =
    wrote_as coded_by (learnt learns) r k.element.tree (λ b. if holds (k.answering b) then Done b else Bad) a a old new (ap (λ b. if b then Done a else Bad) answered) w in
    wrote_as coded_by (learnt learns) r (answers k).tree (λ b. Done (k.step b)) a (k.step a) old new refl
    (subst (λ b. Wrote coded_by (learnt learns) r (choose b (tested (λ x. holds (k.answering x)) k.element) nothing).tree a old new) (sym asked) within)
