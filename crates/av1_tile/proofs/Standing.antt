-- What each item does to a tile on its way.
use Rattle.std.proofs.Common.{◌≡◌, ◌⊎◌, inl, inr, ℕ, suc, ◌+◌, ◌-◌, ◌*◌, ◌^◌, ◌<◌, ◌≤◌, ◌&&◌, ◌||◌, Bool, true, false, IsTrue, List, [], ◌∷◌, ◌++◌, Option, Some, None, Result, Ok, option_map, unwrap_or, length, set, get_or, refl, sym, ◌∙◌, ap, subst, arith, not, if◌then◌else◌}
use Rattle.std.specs.Option.{option_map_or}
use Rattle.std.specs.Prelude.{OnOk}
use Rattle.std.proofs.lemmas.List.{length-append}
use Rattle.av1_ec.specs.Rate.{tell_frac_at}
use Rattle.av1_ec.specs.declared.known.Known.{Ghosts}
use Rattle.av1_geometry.specs.declared.block_offset.BlockOffset.{BlockOffset}
use Rattle.av1_geometry.specs.declared.block_offset.TileBlockOffset.{TileBlockOffset}
use Rattle.av1_geometry.specs.Rules.{first_broken, rule}
use Rattle.av1_model.specs.Eighths.{eighths}
use Rattle.av1_model.specs.Interval.{bits}
use Rattle.av1_model.specs.Position.{Position, advance_all}
use Rattle.av1_model.specs.Reading.{Coding}
use Rattle.av1_model.proofs.Costs.{log_below}
use Rattle.av1_step.specs.declared.error.StepFault.{StepFault}
use Rattle.av1_step.specs.declared.error.StepFault.TheVariants.{Broken}
use Rattle.av1_tile.specs.declared.error.UnitError.TheVariants.{BadScript}
use Rattle.av1_tile.specs.declared.report.TrialCost.{TrialCost}
use Rattle.av1_step.specs.declared.tile.TileState.{TileState}
use Rattle.av1_step.specs.declared.trial.TrialMark.{TrialMark}
use Rattle.av1_step.specs.declared.unit.Item.{Item}
use Rattle.av1_step.specs.declared.unit.Item.TheVariants.{Step, Begin, Keep, Abandon}
use Rattle.av1_step.specs.declared.step.TileStep.{TileStep}
use Rattle.av1_tile.specs.Coder.{HasCoded, all_costs, begun_of, unknown_cost, MarkIs, MarksAre, StandsAt}
use Rattle.av1_tile.specs.Items.{IsNearLast, CanCome, Steps, Begins, EndsKept, EndsUndone}
use Rattle.av1_step.specs.Mark.{back_to, IsMarkOf}
use Rattle.av1_tile.specs.Marks.{AreMarks}
use Rattle.av1_step.specs.Script.{after_step, tile_after, tile_with, tokens_of}
use Rattle.av1_step.specs.Sound.{IsSound}
use Rattle.av1_step.specs.State.{tile_of, log_of}
use Rattle.av1_step.specs.Step.{most_bits, entered, is_untried, step_fault}
use Rattle.av1_step.specs.Tile.{Tile, is_inside, with_numbers}
use Rattle.av1_tile.specs.Trials.{item_fault, error_of, Trial, Progress, with_costs, ended, cost_of, strays, no_trial, place_of, same_superblock, moved, misplaced, first_wrong}
use Rattle.av1_step.specs.Writing.{WroteStep}
use Rattle.av1_tile.proofs.Coded.{coded_after, coded_shift, told_is}
use Rattle.av1_tile.proofs.Marks.{last_one, none_last, set-among, all_costs-with, begun-with, marks_split, trials_still, marks_with}
use Rattle.av1_step.proofs.ReadingBack.{sound_after, shift_after, context-after}
use Rattle.av1_step.proofs.StepLaws.{IsAllowed, step_written}

-- a step adds at most 2^24 bits
step_rise : (at : Coding Tile) (step : TileStep) → IsSound at → IsAllowed step at.context → eighths (after_step at step).interval ≤ 8 * (bits at.interval + 2 ^ 24)
step_rise at step v h = omega (arith, shift_after at step v h)

not_false : (b : Bool) → not b ≡ false → IsTrue b
not_false true h = refl
not_false false h = cc

neither_of : (a b : Bool) → (a || b) ≡ false → b ≡ false
neither_of true b h = cc
neither_of false b h = h

module _ {W : Type 0} (writer : Ghosts W) (start : Position) where
  -- where a trial has begun, the innermost is that of the last mark
  pub innermost : (w : W) (tile : TileState) (outer : List TrialMark) (m : TrialMark) (trials : List Trial) → MarksAre writer start w tile (outer ++ m ∷ []) trials
      → (t : Trial) × (ts : List Trial) × (trials ≡ t ∷ ts) × MarkIs writer start w tile m t × MarksAre writer start w tile outer ts
  innermost w tile outer m [] a = absurd (none_last outer m a)
  innermost w tile outer m (t ∷ ts) (before, k, is, mark, more) =
      let e = last_one outer before m k is in
      (t, ts, refl, subst (λ (x : TrialMark). MarkIs writer start w tile x t) (sym e.1) mark, subst (λ (o : List TrialMark). MarksAre writer start w tile o ts) (sym e.0) more)

  -- a place lies in another superblock than the last mark's
  pub strays_is : (w : W) (tile : TileState) (outer : List TrialMark) (m : TrialMark) (trials : List Trial) (place : BlockOffset) → MarksAre writer start w tile (outer ++ m ∷ []) trials
      → strays trials (Some place) ≡ not (same_superblock place m.place.0)
  strays_is w tile outer m trials place a =
      let r = innermost w tile outer m trials a in
      let is = r.2 in
      let mark = r.3 in
      ap (λ (l : List Trial). strays l (Some place)) is ∙ ap (λ (p : BlockOffset). not (same_superblock place p)) (sym mark.place_is)

  no_marks : (w : W) (tile : TileState) (marks : List TrialMark) (trials : List Trial) → MarksAre writer start w tile marks trials → length marks ≡ 0 → no_trial trials ≡ true
  no_marks w tile marks [] a e = refl
  no_marks w tile marks (t ∷ ts) (outer, m, is, mark, more) e =
      absurd (omega (arith, e, ap (λ (l : List TrialMark). length l) is ∙ length-append outer (m ∷ [])))

  some_marks : (w : W) (tile : TileState) (marks : List TrialMark) (trials : List Trial) → MarksAre writer start w tile marks trials → 0 < length marks → no_trial trials ≡ false
  some_marks w tile marks [] a h = absurd (omega (arith, h, ap (λ (l : List TrialMark). length l) a))
  some_marks w tile marks (t ∷ ts) a h = refl

  -- trials are there where marks are
  pub no_trial_is : (tile : TileState) (w : W) (marks : List TrialMark) (places : List ℕ) (all : List TrialCost) (p : Progress) → StandsAt writer start tile w marks places all p → length marks ≡ 0 → no_trial p.trials ≡ true
  no_trial_is tile w marks places all p s e = no_marks w tile marks p.trials s.marks_are e

  pub some_trial_is : (tile : TileState) (w : W) (marks : List TrialMark) (places : List ℕ) (all : List TrialCost) (p : Progress) → StandsAt writer start tile w marks places all p → 0 < length marks → no_trial p.trials ≡ false
  some_trial_is tile w marks places all p s h = some_marks w tile marks p.trials s.marks_are h

  -- costs that end join those of the innermost trial, or of the script
  stands_with : (tile : TileState) (w : W) (marks : List TrialMark) (places : List ℕ) (at : Coding Tile) (more : List TrialCost) (ts : List Trial) (costs : List TrialCost)
      → StandsAt writer start tile w marks places (all_costs ts costs) record { at = at; trials = ts; costs = costs }
      → StandsAt writer start tile w marks places (all_costs ts costs ++ more) (with_costs more at ts costs)
  stands_with tile w marks places at more [] costs s =
      record { tile_is = s.tile_is; coded = s.coded; marks_stand = s.marks_stand; marks_are = s.marks_are; begun_are = s.begun_are; costs_are = refl; sound = s.sound; few = s.few }
  stands_with tile w marks places at more (t ∷ ts) costs s =
      record {
        tile_is = s.tile_is;
        coded = s.coded;
        marks_stand = s.marks_stand;
        marks_are = marks_with writer start w tile marks at more (t ∷ ts) costs s.marks_are;
        begun_are = s.begun_are ∙ sym (begun-with at more (t ∷ ts) costs);
        costs_are = sym (all_costs-with at more (t ∷ ts) costs);
        sound = s.sound;
        few = s.few;
      }

  -- a trial begins
  pub begun : {E : Type 0} (r : Result (Option ℕ) E) (a : Option ℕ) → r ≡ Ok a → (n : ℕ) (tile next : TileState) (w later : W) (marks left : List TrialMark) (places : List ℕ) (all : List TrialCost) (bo : TileBlockOffset) (p : Progress)
      → StandsAt writer start tile w marks places all p → Begins writer w later tile next marks left r bo → AreMarks writer later next left
      → let t : Trial = record { place = bo.0; item = n; start = p.at; inner = [] } in
      StandsAt writer start next later left (places ++ length all ∷ []) (all ++ record { tile = (tile_of tile).number; item = n; eighths = 0; kept = false } ∷ []) record { at = p.at; trials = t ∷ p.trials; costs = p.costs }
  begun {E} r a ok n tile next w later marks left places all bo p s b stand =
      let mark = subst (λ (x : Result (Option ℕ) E). OnOk x ((m : TrialMark) × (left ≡ marks ++ m ∷ []) × IsMarkOf writer w (log_of tile) (tile_of tile) bo m)) ok b.begun in
      let m = mark.0 in
      let is = mark.2 in
      let at_next : MarksAre writer start later next marks p.trials =
      subst (λ (x : TileState). MarksAre writer start later x marks p.trials) (sym b.tile) (subst (λ (v : W). MarksAre writer start v tile marks p.trials) (sym b.writer_is) s.marks_are) in
      record {
        tile_is = ap (λ (x : TileState). tile_of x) b.tile ∙ s.tile_is;
        coded = subst (λ (v : W). HasCoded start (writer.position v) p.at.interval) (sym b.writer_is) s.coded;
        marks_stand = stand;
        marks_are = (
          marks,
          m,
          mark.1,
          record {
            place_is = ap (λ (b : TileBlockOffset). b.0) is.place_is;
            told = is.tell_is ∙ told_is start (writer.position w) p.at.interval s.coded;
            coded = subst (λ (v : W). HasCoded start (writer.position_at v m.writer) p.at.interval) (sym b.writer_is) (subst (λ (q : Position). HasCoded start q p.at.interval) (sym is.position) s.coded);
            back = ap (λ (x : TileState). back_to m (log_of x) (tile_of x)) b.tile ∙ is.back ∙ s.tile_is;
            sound = s.sound;
          },
          at_next,
        );
        begun_are = ap (λ (l : List ℕ). l ++ length all ∷ []) s.begun_are ∙ ap (λ (l : List TrialCost). begun_of p.trials p.costs ++ length l ∷ []) s.costs_are;
        costs_are = ap (λ (l : List TrialCost). l ++ record { tile = (tile_of tile).number; item = n; eighths = 0; kept = false } ∷ []) s.costs_are
            ∙ ap (λ (x : Tile). all_costs p.trials p.costs ++ record { tile = x.number; item = n; eighths = 0; kept = false } ∷ []) s.tile_is;
        sound = s.sound;
        few = omega (arith, s.few);
      }

  -- the places of costs that are not known yet, the last of which is that of the innermost trial
  last_place : (places : List ℕ) (trial : ℕ) (ts : List Trial) (t : Trial) (costs : List TrialCost) → places ++ trial ∷ [] ≡ begun_of (t ∷ ts) costs → (places ≡ begun_of ts costs) × (trial ≡ length (all_costs ts costs))
  last_place places trial ts t costs h = last_one places (begun_of ts costs) trial (length (all_costs ts costs)) h

  -- what becomes of the costs where the innermost trial ends
  cost_known : (kept : Bool) (places : List ℕ) (trial : ℕ) (all : List TrialCost) (cost e k : ℕ) (p : Progress) (t : Trial) (ts : List Trial) → places ++ trial ∷ [] ≡ begun_of p.trials p.costs → all ≡ all_costs p.trials p.costs → p.trials ≡ t ∷ ts
      → cost ≡ e - k → e ≡ eighths p.at.interval → k ≡ eighths t.start.interval
      → p.at.context.number ≡ t.start.context.number → (d : TrialCost)
      → set all trial (record (get_or all trial d) { eighths = cost; kept = kept }) ≡ all_costs ts p.costs ++ cost_of kept p.at t ∷ t.inner
  cost_known kept places trial all cost e k p t ts b c is difference told before number d =
      let trial_is = (last_place places trial ts t p.costs (b ∙ ap (λ (l : List Trial). begun_of l p.costs) is)).1 in
      let costs = c ∙ ap (λ (l : List Trial). all_costs l p.costs) is in
      let old = unknown_cost t in
      let there : get_or all trial d ≡ old = ap (λ (l : List TrialCost). get_or l trial d) costs ∙ ap (λ n. get_or (all_costs ts p.costs ++ old ∷ t.inner) n d) trial_is ∙ get-among (all_costs ts p.costs) t.inner old d in
      let new : TrialCost = record old { eighths = cost; kept = kept } in
      let same : new ≡ cost_of kept p.at t = cc (difference, told, before, number) in
      ap (λ (x : TrialCost). set all trial (record x { eighths = cost; kept = kept })) there
      ∙ ap (λ (l : List TrialCost). set l trial new) costs
      ∙ ap (λ n. set (all_costs ts p.costs ++ old ∷ t.inner) n new) trial_is
      ∙ set-among (all_costs ts p.costs) t.inner old new
      ∙ ap (λ (x : TrialCost). all_costs ts p.costs ++ x ∷ t.inner) same
    where
      get-among : (xs ys : List TrialCost) (x other : TrialCost) → get_or (xs ++ x ∷ ys) (length xs) other ≡ x
      get-among [] ys x other = refl
      get-among (y ∷ xs) ys x other = get-among xs ys x other

  -- what is known where the innermost trial ends
  pub at_end : (tile : TileState) (w : W) (outer : List TrialMark) (m : TrialMark) (places : List ℕ) (all : List TrialCost) (p : Progress) → StandsAt writer start tile w (outer ++ m ∷ []) places all p
      → (t : Trial) × (ts : List Trial) × (p.trials ≡ t ∷ ts) × (places ≡ begun_of ts p.costs ++ length (all_costs ts p.costs) ∷ []) × (length (all_costs ts p.costs) < length all)
  at_end tile w outer m places all p s =
      let r = innermost w tile outer m p.trials s.marks_are in
      let count : length all ≡ length (all_costs r.1 p.costs) + suc (length r.0.inner) =
      ap (λ (l : List TrialCost). length l) (s.costs_are ∙ ap (λ (l : List Trial). all_costs l p.costs) r.2) ∙ length-append (all_costs r.1 p.costs) (unknown_cost r.0 ∷ r.0.inner) in
      (r.0, r.1, r.2, s.begun_are ∙ ap (λ (l : List Trial). begun_of l p.costs) r.2, omega (arith, count))

  -- a trial ends and stays
  pub kept_end : (tile next : TileState) (w later : W) (marks left : List TrialMark) (places : List ℕ) (trial : ℕ) (all : List TrialCost) (a : Option ℕ) (p : Progress)
      → StandsAt writer start tile w marks (places ++ trial ∷ []) all p → EndsKept writer w later tile next marks left a → AreMarks writer later next left
      → (d : TrialCost) → StandsAt writer start next later left places (set all trial (record (get_or all trial d) { eighths = unwrap_or a 0; kept = true })) (ended true p.at p.trials p.costs)
  kept_end tile next w later marks left places trial all a p s e stand d =
      let m = e.mark in
      let at_last = subst (λ (l : List TrialMark). MarksAre writer start w tile l p.trials) e.ends.marks_are s.marks_are in
      let r = innermost w tile left m p.trials at_last in
      let t = r.0 in
      let ts = r.1 in
      let is = r.2 in
      let mark = r.3 in
      let more = r.4 in
      let number : p.at.context.number ≡ t.start.context.number = sym (ap (λ (x : Tile). x.number) s.tile_is) ∙ ap (λ (x : Tile). x.number) mark.back in
      let known = cost_known true places trial all (unwrap_or a 0) (tell_frac_at (writer.position w)) m.tell p t ts s.begun_are s.costs_are is (ap (λ (o : Option ℕ). unwrap_or o 0) e.ends.told) (told_is start (writer.position w) p.at.interval s.coded) mark.told number d in
      let base : StandsAt writer start next later left places (all_costs ts p.costs) record { at = p.at; trials = ts; costs = p.costs } =
      record {
        tile_is = e.tile ∙ s.tile_is;
        coded = subst (λ (v : W). HasCoded start (writer.position v) p.at.interval) (sym e.writer_is) s.coded;
        marks_stand = stand;
        marks_are = trials_still writer start w later tile next left ts e.ends.still more;
        begun_are = (last_place places trial ts t p.costs (s.begun_are ∙ ap (λ (l : List Trial). begun_of l p.costs) is)).0;
        costs_are = refl;
        sound = s.sound;
        few = omega (arith, s.few);
      } in
      subst (λ (l : List TrialCost). StandsAt writer start next later left places l (ended true p.at p.trials p.costs)) (sym known)
      (subst (λ (l : List Trial). StandsAt writer start next later left places (all_costs ts p.costs ++ cost_of true p.at t ∷ t.inner) (ended true p.at l p.costs)) (sym is)
      (stands_with next later left places p.at (cost_of true p.at t ∷ t.inner) ts p.costs base))

  -- a trial ends and is undone
  pub undone_end : (tile next : TileState) (w later : W) (marks left : List TrialMark) (places : List ℕ) (trial : ℕ) (all : List TrialCost) (a : Option ℕ) (p : Progress)
      → StandsAt writer start tile w marks (places ++ trial ∷ []) all p → EndsUndone writer w later tile next marks left a → AreMarks writer later next left
      → (d : TrialCost) → StandsAt writer start next later left places (set all trial (record (get_or all trial d) { eighths = unwrap_or a 0; kept = false })) (ended false p.at p.trials p.costs)
  undone_end tile next w later marks left places trial all a p s e stand d =
      let m = e.mark in
      let at_last = subst (λ (l : List TrialMark). MarksAre writer start w tile l p.trials) e.ends.marks_are s.marks_are in
      let r = innermost w tile left m p.trials at_last in
      let t = r.0 in
      let ts = r.1 in
      let is = r.2 in
      let mark = r.3 in
      let more = r.4 in
      let told = told_is start (writer.position w) p.at.interval s.coded in
      let last = (marks_split writer w tile left m (subst (λ (l : List TrialMark). AreMarks writer w tile l) e.ends.marks_are s.marks_stand)).1 in
      let number : p.at.context.number ≡ t.start.context.number = sym (ap (λ (x : Tile). x.number) s.tile_is) ∙ ap (λ (x : Tile). x.number) mark.back in
      let known = cost_known false places trial all (unwrap_or a 0) (tell_frac_at (writer.position w)) m.tell p t ts s.begun_are s.costs_are is (ap (λ (o : Option ℕ). unwrap_or o 0) e.ends.told) told mark.told number d in
      let base : StandsAt writer start next later left places (all_costs ts p.costs) record { at = t.start; trials = ts; costs = p.costs } =
      record {
        tile_is = e.tile ∙ mark.back;
        coded = subst (λ (q : Position). HasCoded start q t.start.interval) (sym e.writer_went.position) mark.coded;
        marks_stand = stand;
        marks_are = trials_still writer start w later tile next left ts e.ends.still more;
        begun_are = (last_place places trial ts t p.costs (s.begun_are ∙ ap (λ (l : List Trial). begun_of l p.costs) is)).0;
        costs_are = refl;
        sound = mark.sound;
        few = omega (arith, s.few, mark.told, told, last.told_by_now);
      } in
      subst (λ (l : List TrialCost). StandsAt writer start next later left places l (ended false p.at p.trials p.costs)) (sym known)
      (subst (λ (l : List Trial). StandsAt writer start next later left places (all_costs ts p.costs ++ cost_of false p.at t ∷ t.inner) (ended false p.at l p.costs)) (sym is)
      (stands_with next later left places t.start (cost_of false p.at t ∷ t.inner) ts p.costs base))

  -- a step is coded
  pub stepped : {E : Type 0} (r : Result (Option ℕ) E) (a : Option ℕ) → r ≡ Ok a → (tile next : TileState) (w later : W) (marks left : List TrialMark) (places : List ℕ) (all : List TrialCost) (p : Progress) (step : TileStep)
      → StandsAt writer start tile w marks places all p → IsAllowed step (tile_of tile) → bits p.at.interval ≤ most_bits → Steps writer w later tile next marks left r step → AreMarks writer later next left
      → StandsAt writer start next later left places all record { at = after_step p.at step; trials = p.trials; costs = p.costs }
  stepped {E} r a ok tile next w later marks left places all p step s allowed short e stand =
      let here : IsAllowed step p.at.context = subst (λ (t : Tile). IsAllowed step t) s.tile_is allowed in
      let rise = step_rise p.at step s.sound here in
      let wrote = subst (λ (x : Result (Option ℕ) E). WroteStep writer x step (tile_of tile) w later (tile_of next).numbers) ok e.wrote in
      let moved = subst (λ (x : Result (Option ℕ) E). OnOk x (tile_of next ≡ entered step (with_numbers (tile_of next).numbers (tile_of tile)))) ok e.tile in
      let written = step_written step (tile_of tile) (writer.position w) (writer.position later) (tile_of next).numbers tile.cdfs tile.kept wrote in
      record {
        tile_is = moved ∙ ap (tile_with (tile_of tile) step) written.1 ∙ ap (λ (t : Tile). tile_after t step) s.tile_is ∙ sym (context-after p.at step);
        coded = coded_after start (writer.position w) (writer.position later) p.at step s.coded (written.0 ∙ ap (λ (t : Tile). advance_all (writer.position w) (tokens_of step t)) s.tile_is);
        marks_stand = stand;
        marks_are = subst (λ (l : List TrialMark). MarksAre writer start later next l p.trials) (sym e.marks_are) (trials_still writer start w later tile next marks p.trials e.still s.marks_are);
        begun_are = s.begun_are;
        costs_are = s.costs_are;
        sound = sound_after p.at step s.sound here;
        few = omega (arith, short, rise, log_below 3 p.at.interval.range);
      }

pub strays_none : (ts : List Trial) → strays ts None ≡ false
strays_none [] = refl
strays_none (t ∷ ts) = refl

pub wrong_place : (n : ℕ) (p : Progress) (item : Item) (rest : List Item) → misplaced item p.at.context p.trials ≡ true → first_wrong n p (item ∷ rest) ≡ Some (BadScript p.at.context.number n)
wrong_place n p item rest h =
    ap (λ b. if b then Some (BadScript p.at.context.number n) else option_map_or (λ fault. Some (error_of p.at.context.number n fault)) (item_fault item p.at) (first_wrong (n + 1) (moved n p item) rest)) h

in_place : (n : ℕ) (p : Progress) (item : Item) (rest : List Item) (o : Option StepFault) → misplaced item p.at.context p.trials ≡ false → item_fault item p.at ≡ o
    → first_wrong n p (item ∷ rest) ≡ option_map_or (λ fault. Some (error_of p.at.context.number n fault)) o (first_wrong (n + 1) (moved n p item) rest)
in_place n p item rest o h b =
    ap (λ x. if x then Some (BadScript p.at.context.number n) else option_map_or (λ fault. Some (error_of p.at.context.number n fault)) (item_fault item p.at) (first_wrong (n + 1) (moved n p item) rest)) h
    ∙ ap (λ x. option_map_or (λ fault. Some (error_of p.at.context.number n fault)) x (first_wrong (n + 1) (moved n p item) rest)) b

pub wrong_item : (n : ℕ) (p : Progress) (item : Item) (rest : List Item) (fault : StepFault) → misplaced item p.at.context p.trials ≡ false → item_fault item p.at ≡ Some fault → first_wrong n p (item ∷ rest) ≡ Some (error_of p.at.context.number n fault)
wrong_item n p item rest fault h b = in_place n p item rest (Some fault) h b

pub right_item : (n : ℕ) (p : Progress) (item : Item) (rest : List Item) → misplaced item p.at.context p.trials ≡ false → item_fault item p.at ≡ None → first_wrong n p (item ∷ rest) ≡ first_wrong (n + 1) (moved n p item) rest
right_item n p item rest h b = in_place n p item rest None h b

-- a trial that may begin begins inside the tile
pub begin_inside : (place : TileBlockOffset) (at : Coding Tile) → item_fault (Begin place) at ≡ None → is_inside at.context place.0 ≡ true
begin_inside place at h = inside_of (is_inside at.context place.0) h
  where
    inside_of : (b : Bool) → option_map Broken (first_broken (rule 60 b ∷ [])) ≡ None → b ≡ true
    inside_of true h = refl
    inside_of false h = cc

-- an item in its place does not stray from the trials
no_stray : (item : Item) (t : Tile) (ts : List Trial) → misplaced item t ts ≡ false → strays ts (place_of item t) ≡ false
no_stray (Step step) t ts h = neither_of (is_untried step && not (no_trial ts)) (strays ts (place_of (Step step) t)) h
no_stray (Begin place) t ts h = h
no_stray Keep t ts h = strays_none ts
no_stray Abandon t ts h = strays_none ts

-- nor does a step that no trial has come in one
no_bar : (untried : Bool) (ts : List Trial) (b : Bool) → ((untried && not (no_trial ts)) || b) ≡ false → untried ≡ true → no_trial ts ≡ true
no_bar true [] b h e = refl
no_bar true (t ∷ ts) b h e = cc
no_bar false ts b h e = cc

-- a trial that ends has begun
end_begun : (item : Item) (t : Tile) (ts : List Trial) → misplaced item t ts ≡ false → (item ≡ Keep) ⊎ (item ≡ Abandon) → no_trial ts ≡ false
end_begun item t ts h e =
    elim e [
      | inl k ↦ ap (λ (i : Item). misplaced i t ts) (sym k) ∙ h
      | inr a ↦ ap (λ (i : Item). misplaced i t ts) (sym a) ∙ h
    ]

module _ {W : Type 0} (writer : Ghosts W) (start : Position) where
  marks_begun : (w : W) (tile : TileState) (marks : List TrialMark) (ts : List Trial) → MarksAre writer start w tile marks ts → no_trial ts ≡ false → 0 < length marks
  marks_begun w tile marks [] a h = cc
  marks_begun w tile marks (t ∷ ts) (outer, m, is, mark, more) h = omega (arith, ap (λ (l : List TrialMark). length l) is ∙ length-append outer (m ∷ []))

  marks_none : (w : W) (tile : TileState) (marks : List TrialMark) (ts : List Trial) → MarksAre writer start w tile marks ts → no_trial ts ≡ true → marks ≡ []
  marks_none w tile marks [] a h = a
  marks_none w tile marks (t ∷ ts) a h = cc

  -- an item in its place, in which nothing is wrong, can come
  pub can_come : (tile : TileState) (w : W) (marks : List TrialMark) (places : List ℕ) (all : List TrialCost) (p : Progress) (item : Item) → StandsAt writer start tile w marks places all p
      → misplaced item p.at.context p.trials ≡ false → item_fault item p.at ≡ None → CanCome (tile_of tile) ((writer.position w).shift + 1) marks item
  can_come tile w marks places all p item s in_place right = record {
    step = λ step e. ap (λ (t : Tile). step_fault t ((writer.position w).shift + 1) step) s.tile_is
        ∙ ap (λ (k : ℕ). step_fault p.at.context (k + 1) step) (coded_shift start (writer.position w) p.at.interval s.coded)
        ∙ ap (λ (i : Item). item_fault i p.at) (sym e) ∙ right;
    begun = λ e. marks_begun w tile marks p.trials s.marks_are (end_begun item p.at.context p.trials in_place e);
    inside = λ place e. ap (λ (t : Tile). is_inside t place.0) s.tile_is ∙ begin_inside place p.at (ap (λ (i : Item). item_fault i p.at) (sym e) ∙ right);
    near = λ bo e. near_last bo (ap (λ (t : Tile). place_of item t) (sym s.tile_is) ∙ e);
    outside = λ step e untried. marks_none w tile marks p.trials s.marks_are
        (no_bar (is_untried step) p.trials (strays p.trials (place_of (Step step) p.at.context)) (ap (λ (i : Item). misplaced i p.at.context p.trials) (sym e) ∙ in_place) untried);
  }
    where
      near_last : (bo : BlockOffset) → place_of item p.at.context ≡ Some bo → IsNearLast marks bo
      near_last bo e outer m is =
          let a = subst (λ (l : List TrialMark). MarksAre writer start w tile l p.trials) is s.marks_are in
          not_false (same_superblock bo m.place.0) (sym (strays_is writer start w tile outer m p.trials bo a) ∙ ap (strays p.trials) (sym e) ∙ no_stray item p.at.context p.trials in_place)
