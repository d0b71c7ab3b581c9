-- Reading back a list of steps: two inductions, which rest on what each kind brings.
use Rattle.std.proofs.Common.{◌≡◌, ℕ, ◌+◌, ◌^◌, ◌≤◌, List, [], ◌∷◌, Option, Some, None, map, option_map, option_and_then, refl, sym, ◌∙◌, ap, subst, arith}
use Rattle.std.specs.Option.{option_map_or}
use Rattle.av1_cdf.specs.Context.{AreCdfs}
use Rattle.av1_cdf.specs.Distribution.{coded_by, learnt}
use Rattle.av1_geometry.specs.declared.error.Rule.{Rule}
use Rattle.av1_geometry.specs.Rules.{first_broken}
use Rattle.av1_model.specs.Interval.{Holds}
use Rattle.av1_model.specs.Position.{advance_all, encoder_at}
use Rattle.av1_model.specs.Reading.{Coding, along, read}
use Rattle.av1_model.proofs.Encoded.{encoder_along, context-along, along_shift}
use Rattle.av1_model.proofs.ReadBack.{along_valid, held_before, read_back}
use Rattle.av1_model.proofs.ReadPaths.{and_then_some, done_is, read_path}
use Rattle.av1_step.specs.declared.step.TileStep.{TileStep}
use Rattle.av1_step.specs.Script.{numbers_at, tile_with, with_step, after_step, after_all, tokens_of, tile_after, read_steps, first_broken_step}
use Rattle.av1_step.specs.Kept.{IsKept}
use Rattle.av1_step.specs.Sound.{IsSound}
use Rattle.av1_step.specs.Step.{Question, question_of, rules, syntax_of, symbols_of}
use Rattle.av1_step.specs.Tile.{Tile}
use Rattle.av1_step.proofs.StepLaws.{IsAllowed, leads, one_path, fits, few_symbols, cdfs_after, kept_past}

-- the tile after a step doesn't depend on what was coded before it
pub context-after : (at : Coding Tile) (step : TileStep) → (after_step at step).context ≡ tile_after at.context step
context-after at step = ap (tile_with at.context step) (context-along coded_by (learnt at.context.learns) (syntax_of (question_of step) at.context) (symbols_of step at.context) (numbers_at at))

-- an encoder that stores a step's tokens stands at the interval after it
pub encoder_after : (at : Coding Tile) (step : TileStep) → advance_all (encoder_at at.interval) (tokens_of step at.context) ≡ encoder_at (after_step at step).interval
encoder_after at step = encoder_along coded_by (learnt at.context.learns) (syntax_of (question_of step) at.context) (symbols_of step at.context) (numbers_at at)

pub sound_after : (at : Coding Tile) (step : TileStep) → IsSound at → IsAllowed step at.context → IsSound (after_step at step)
sound_after at step v h = record {
  interval = along_valid coded_by (learnt at.context.learns) (syntax_of (question_of step) at.context) (symbols_of step at.context) (numbers_at at) v.interval (fits step at.context v.cdfs v.kept h);
  cdfs = subst (λ (t : Tile). AreCdfs t.numbers) (sym (context-after at step)) (cdfs_after at.context step v.cdfs v.kept h);
  kept = subst IsKept (sym (context-after at step)) (kept_past at.context step v.cdfs v.kept h);
}

-- a step adds at most 2^24 bits
pub shift_after : (at : Coding Tile) (step : TileStep) → IsSound at → IsAllowed step at.context → (after_step at step).interval.shift ≤ at.interval.shift + 2 ^ 24
shift_after at step v h =
    let added = along_shift coded_by (learnt at.context.learns) (syntax_of (question_of step) at.context) (symbols_of step at.context) (numbers_at at) v.interval (fits step at.context v.cdfs v.kept h) in
    omega (arith, added, few_symbols step at.context v.cdfs v.kept h)

-- where no step of a list breaks a rule, the first does not, and nor does one of the others
pub allowed : (n : ℕ) (at : Coding Tile) (step : TileStep) (steps : List TileStep) → first_broken_step n at (step ∷ steps) ≡ None → IsAllowed step at.context × (first_broken_step (n + 1) (after_step at step) steps ≡ None)
allowed n at step steps h = neither (first_broken (rules step at.context)) (first_broken_step (n + 1) (after_step at step) steps) h
  where
    neither : (o : Option Rule) (rest : Option (ℕ × Rule)) → option_map_or (λ rule. Some (n, rule)) o rest ≡ None → (o ≡ None) × (rest ≡ None)
    neither None rest e = (refl, e)
    neither (Some rule) rest e = cc

pub sound_after_all : (n : ℕ) (at : Coding Tile) (steps : List TileStep) → IsSound at → first_broken_step n at steps ≡ None → IsSound (after_all at steps)
sound_after_all n at [] v h = v
sound_after_all n at (step ∷ steps) v h =
    let a = allowed n at step steps h in
    sound_after_all (n + 1) (after_step at step) steps (sound_after at step v a.0) a.1

-- bytes that the end of a list of steps holds, each beginning holds
pub held_from : (bytes : List ℕ) (n : ℕ) (at : Coding Tile) (steps : List TileStep) → IsSound at → first_broken_step n at steps ≡ None → Holds bytes (after_all at steps).interval → Holds bytes at.interval
held_from bytes n at [] v h b = b
held_from bytes n at (step ∷ steps) v h b =
    let a = allowed n at step steps h in
    held_before coded_by (learnt at.context.learns) bytes (syntax_of (question_of step) at.context) (symbols_of step at.context) (numbers_at at) v.interval (fits step at.context v.cdfs v.kept a.0)
    (held_from bytes (n + 1) (after_step at step) steps (sound_after at step v a.0) a.1 b)

-- a reader of such bytes, led by the questions, takes the steps and ends where coding ended
pub read_all : (bytes : List ℕ) (n : ℕ) (at : Coding Tile) (steps : List TileStep) → IsSound at → first_broken_step n at steps ≡ None → Holds bytes (after_all at steps).interval
    → read_steps (map question_of steps) bytes at ≡ Some (steps, after_all at steps)
read_all bytes n at [] v h b = refl
read_all bytes n at (step ∷ steps) v h b =
    let a = allowed n at step steps h in
    let v' = sound_after at step v a.0 in
    let q = question_of step in
    ap (option_and_then (λ r. option_map (λ rest. (r.0 ∷ rest.0, rest.1)) (read_steps (map question_of steps) bytes (with_step at.context r.0 r.1))))
    (read_back coded_by (learnt at.context.learns) bytes (syntax_of q at.context) (symbols_of step at.context) step (numbers_at at) v.interval (leads step at.context v.cdfs v.kept a.0) (fits step at.context v.cdfs v.kept a.0)
    (held_from bytes (n + 1) (after_step at step) steps v' a.1 b))
    ∙ ap (option_map (λ rest. (step ∷ rest.0, rest.1))) (read_all bytes (n + 1) (after_step at step) steps v' a.1 b)

-- what a reader has taken
pub record HasRead (n : ℕ) (qs : List Question) (steps : List TileStep) (at end : Coding Tile) : Type 0 where
  pub asked : map question_of steps ≡ qs
  pub right : first_broken_step n at steps ≡ None
  pub ends : end ≡ after_all at steps

mapped : {A C : Type 0} (o : Option (List A × C)) (x : A) (b : List A × C) → option_map (λ r. (x ∷ r.0, r.1)) o ≡ Some b → (r : List A × C) × (o ≡ Some r) × ((x ∷ r.0, r.1) ≡ b)
mapped None x b h = cc
mapped (Some r) x b h = (r, refl, cc)

-- whatever bytes a reader takes steps from, they answer the questions, break no rule, and the reading ends where coding them does
pub read_is : (bytes : List ℕ) (n : ℕ) (qs : List Question) (steps : List TileStep) (at end : Coding Tile) → IsSound at → read_steps qs bytes at ≡ Some (steps, end) → HasRead n qs steps at end
read_is bytes n [] steps at end v h = let e = done_is [] steps at end h in
    subst (λ ss. HasRead n [] ss at end) e.0 (record { asked = refl; right = refl; ends = sym e.1 })
read_is bytes n (q ∷ qs) steps at end v h =
    let t = at.context in
    let first = and_then_some (read coded_by (learnt t.learns) (syntax_of q t) bytes (numbers_at at)) (λ r. option_map (λ rest. (r.0 ∷ rest.0, rest.1)) (read_steps qs bytes (with_step t r.0 r.1))) (steps, end) h in
    let step = first.0.0 in
    let path = read_path coded_by (learnt t.learns) bytes (syntax_of q t) step (numbers_at at) first.0.1 first.1 in
    let one = one_path q t path.0 step v.cdfs v.kept path.1 in
    let there : with_step t step first.0.1 ≡ after_step at step =
    ap (with_step t step) (path.2 ∙ ap (λ ss. along coded_by (learnt t.learns) (syntax_of q t) ss (numbers_at at)) one.2
    ∙ ap (λ p. along coded_by (learnt t.learns) (syntax_of p t) (symbols_of step t) (numbers_at at)) (sym one.0)) in
    let rest = mapped (read_steps qs bytes (with_step t step first.0.1)) step (steps, end) first.2 in
    let more = read_is bytes (n + 1) qs rest.0.0 (after_step at step) rest.0.1 (sound_after at step v one.1) (ap (read_steps qs bytes) (sym there) ∙ rest.1) in
    let same : step ∷ rest.0.0 ≡ steps = ap (λ (r : List TileStep × Coding Tile). r.0) rest.2 in
    let last : rest.0.1 ≡ end = ap (λ (r : List TileStep × Coding Tile). r.1) rest.2 in
    subst (λ ss. HasRead n (q ∷ qs) ss at end) same (record {
      asked = (let f = one.0 in let g = more.asked in cc);
      right = ap (λ o. option_map_or (λ rule. Some (n, rule)) o (first_broken_step (n + 1) (after_step at step) rest.0.0)) one.1 ∙ more.right;
      ends = sym last ∙ more.ends;
    })
