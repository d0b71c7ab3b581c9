-- What each item does to the marks.
use Rattle.std.proofs.Common.{◌≡◌, inl, inr, ℕ, ◌*◌, ◌/◌, ◌≤◌, IsTrue, List, [], ◌∷◌, ◌++◌, Bool, None, Ok, Err, All, true, false, length, ◌<◌, refl, sym, ◌∙◌, ap, subst, arith}
use Rattle.std.specs.Option.{ForSome}
use Rattle.std.proofs.lemmas.List.Elements.{All-cons, All-nil}
use Rattle.av1_blocks.specs.declared.block_context.BlockContext.{BlockContext}
use Rattle.av1_blocks.specs.GoingBack.{gone_back}
use Rattle.av1_cdf.specs.Context.{AreCdfs}
use Rattle.av1_cdf.specs.Distribution.{Distribution, coded_by, learnt}
use Rattle.av1_cdf.specs.Log.{IsReached as HasSaves, IsWithin, KeepsUndone, undone}
use Rattle.av1_cdf.specs.declared.log.CDFContextCheckpoint.{CDFContextCheckpoint}
use Rattle.av1_ec.specs.Rate.{tell_frac_at}
use Rattle.av1_ec.specs.Storing.{Keeps}
use Rattle.av1_ec.specs.declared.known.Known.{Ghosts}
use Rattle.av1_ec.proofs.OneRate.{frac_rises}
use Rattle.av1_geometry.specs.declared.block_offset.TileBlockOffset.{TileBlockOffset}
use Rattle.av1_model.specs.Comes.{Standing, standing, Comes, Writes, Begins}
use Rattle.av1_model.specs.Interval.{IsInterval, IsToken}
use Rattle.av1_model.specs.Paths.{tokens_along}
use Rattle.av1_model.specs.Position.{Position, advance_all, interval_of}
use Rattle.av1_model.specs.Reading.{Fits}
use Rattle.av1_model.specs.Syntax.{Syntax}
use Rattle.av1_model.specs.Syntax.Syntax.{Bad, Done, Ask}
use Rattle.av1_model.proofs.ComesLaws.{stored_is}
use Rattle.av1_model.proofs.Symbols.{token_valid}
use Rattle.av1_step.specs.declared.tile.TileState.{TileState}
use Rattle.av1_step.specs.declared.trial.TrialMark.{TrialMark}
use Rattle.av1_step.specs.declared.unit.Item.TheVariants.{Step}
use Rattle.av1_step.specs.declared.step.TileStep.{TileStep}
use Rattle.av1_step.specs.Given.{Given}
use Rattle.av1_tile.specs.Items.{IsNearLast, Steps}
use Rattle.av1_step.specs.Kept.{IsKept}
use Rattle.av1_step.specs.Mark.{back_to, IsOfTile, IsMarkOf, WentBack}
use Rattle.av1_tile.specs.Marks.{IsBefore, CanGoBack, AreMarks, StandsStill, AllStandStill}
use Rattle.av1_step.specs.Place.{candidates_in}
use Rattle.av1_step.specs.State.{tile_of, log_of}
use Rattle.av1_step.specs.Step.{effects_of, entered, is_untried, question_of, syntax_of}
use Rattle.av1_step.specs.Tile.{Tile, with_numbers}
use Rattle.av1_tile.specs.Trials.{place_of, same_superblock}
use Rattle.av1_tile.proofs.AllBack.{back_again}
use Rattle.av1_step.proofs.Effects.{all_hidden, all_same}
use Rattle.av1_tile.proofs.Marks.{none_last, none_or_last, same_of, same_back, same_trans, AllBefore, before_with, marks_split, marks_joined, marks_carried, mark_carried}
use Rattle.av1_step.proofs.StepLaws.{IsAllowed, step_fit, step_at, tried_still}

-- the tokens of a path are valid
tokens_valid : {A : Type 0} (learns : List ℕ → Distribution → ℕ → List ℕ) (t : Syntax Distribution A) (ss : List ℕ) (c : List ℕ) → Fits coded_by learns t ss c → All IsToken (tokens_along coded_by learns t ss c)
tokens_valid learns t [] c f = All-nil IsToken
tokens_valid learns Bad (s ∷ ss) c f = absurd f
tokens_valid learns (Done a) (s ∷ ss) c f = absurd f
tokens_valid learns (Ask q k) (s ∷ ss) c f = All-cons IsToken _ _ (token_valid (coded_by c q) s f.0 f.1) (tokens_valid learns (k s) ss (learns c q s) f.2)

-- a writer that comes along a path tells no less than before
comes_told : {A : Type 0} (learns : Bool) (t u : Syntax Distribution A) (old new : Standing (List ℕ)) → IsInterval (interval_of old.position) → Comes coded_by (learnt learns) t u old new → tell_frac_at old.position ≤ tell_frac_at new.position
comes_told learns t u old new v h =
    let is : new.position ≡ advance_all old.position (tokens_along coded_by (learnt learns) t h.symbols old.context) =
    ap (λ (s : Standing (List ℕ)). s.position) (h.wrote ∙ stored_is coded_by (learnt learns) t h.symbols old) in
    subst (λ (p : Position). tell_frac_at old.position ≤ tell_frac_at p) (sym is)
    (frac_rises old.position (tokens_along coded_by (learnt learns) t h.symbols old.context) v (tokens_valid (learnt learns) t h.symbols old.context h.fits))

module _ {W : Type 0} (writer : Ghosts W) where
  -- nor does one that writes a step
  pub written_told : (step : TileStep) (t : Tile) (w later : W) (numbers : List ℕ) → IsInterval (interval_of (writer.position w))
      → Writes coded_by (learnt t.learns) (syntax_of (question_of step) t) step (standing (writer.position w) t.numbers) (standing (writer.position later) numbers) → tell_frac_at (writer.position w) ≤ tell_frac_at (writer.position later)
  written_told step t w later numbers v h = comes_told t.learns (syntax_of (question_of step) t) (Done step) (standing (writer.position w) t.numbers) (standing (writer.position later) numbers) v h

  -- or a front of it
  pub front_told : (step : TileStep) (t : Tile) (w later : W) (numbers : List ℕ) → IsInterval (interval_of (writer.position w))
      → Begins coded_by (learnt t.learns) (syntax_of (question_of step) t) step (standing (writer.position w) t.numbers) (standing (writer.position later) numbers) → tell_frac_at (writer.position w) ≤ tell_frac_at (writer.position later)
  front_told step t w later numbers v h = comes_told t.learns (syntax_of (question_of step) t) h.left (standing (writer.position w) t.numbers) (standing (writer.position later) numbers) v h.comes

  -- a mark stands still while a step is written in its superblock
  step_carried : (w later : W) (old new : TileState) (last m : TrialMark) (step : TileStep) → CanGoBack writer w (log_of old) (tile_of old) m → IsBefore m last → IsAllowed step (tile_of old) → is_untried step ≡ false
      → tile_of new ≡ entered step (with_numbers (tile_of new).numbers (tile_of old)) → ForSome (place_of (Step step) (tile_of old)) (λ bo. IsTrue (same_superblock bo last.place.0))
      → Keeps writer w later → KeepsUndone (log_of old) (log_of new) (tile_of old).numbers (tile_of new).numbers → tell_frac_at (writer.position w) ≤ tell_frac_at (writer.position later)
      → CanGoBack writer later (log_of new) (tile_of new) m × StandsStill writer w later old new m
  step_carried w later old new last m step k before allowed tried is near keeps und rises =
      let tile = tile_of old in
      let moved = tile_of new in
      let u = with_numbers moved.numbers tile in
      let es = effects_of step u in
      let same = all_same es u in
      let hidden = all_hidden m.context.bc m.blocks m.place.0 k.of_tile.column k.of_tile.place es (place_of (Step step) tile) u (step_fit step moved.numbers tile new.cdfs old.kept allowed) (step_at step moved.numbers tile new.cdfs old.kept)
      (λ bo e. let x = same_of bo m.place.0 (same_trans bo last.place.0 m.place.0 (near bo e) (same_back m.place.0 last.place.0 before.near)) in record { column = x.0; row = x.1 }) k.of_tile.sampling_is in
      let numbers = undone (log_of old) tile.numbers m.context.fc in
      let given : moved.given ≡ tile.given = ap (λ (x : Tile). x.given) is ∙ same.given in
      let number : moved.number ≡ tile.number = ap (λ (x : Tile). x.number) is ∙ same.number in
      let learns : moved.learns ≡ tile.learns = ap (λ (x : Tile). x.learns) is ∙ same.learns in
      let rs : moved.rs ≡ tile.rs = ap (λ (x : Tile). x.rs) is ∙ tried_still step moved.numbers tile new.cdfs old.kept tried in
      let x : moved.bc.blocks.x ≡ tile.bc.blocks.x = ap (λ (x : Tile). x.bc.blocks.x) is ∙ same.x in
      let y : moved.bc.blocks.y ≡ tile.bc.blocks.y = ap (λ (x : Tile). x.bc.blocks.y) is ∙ same.y in
      let cols : moved.bc.blocks.cols ≡ tile.bc.blocks.cols = ap (λ (x : Tile). x.bc.blocks.cols) is ∙ same.cols in
      let rows : moved.bc.blocks.rows ≡ tile.bc.blocks.rows = ap (λ (x : Tile). x.bc.blocks.rows) is ∙ same.rows in
      let bc : gone_back m.context.bc m.blocks moved.bc ≡ gone_back m.context.bc m.blocks tile.bc = ap (λ (x : Tile). gone_back m.context.bc m.blocks x.bc) is ∙ hidden in
      mark_carried writer w later old new m k (keeps.reached m.writer k.reached) (keeps.same m.writer k.reached) (und.reached m.context.fc k.saves)
      (record {
        column = k.of_tile.column;
        sampling_is = k.of_tile.sampling_is ∙ sym (ap (λ (g : Given). g.fi.sequence.chroma_sampling) given);
        place = k.of_tile.place;
        blocks = record { x = k.of_tile.blocks.x ∙ sym x; y = k.of_tile.blocks.y ∙ sym y; cols = k.of_tile.blocks.cols ∙ sym cols; rows = k.of_tile.blocks.rows ∙ sym rows };
      })
      (ap (λ (ns : List ℕ). record moved { numbers = ns; bc = gone_back m.context.bc m.blocks moved.bc; current = m.current; uv = m.uv; cands = candidates_in m.cands; pick = m.pick }) (und.same m.context.fc k.saves)
      ∙ ap (λ (v : BlockContext). record moved { numbers = numbers; bc = v; current = m.current; uv = m.uv; cands = candidates_in m.cands; pick = m.pick }) bc
      ∙ same_rest moved tile (gone_back m.context.bc m.blocks tile.bc) numbers m given number learns rs)
      (omega (arith, k.told_by_now, rises)) (omega (arith, k.stored, keeps.more))
    where
      same_rest : (t v : Tile) (bc : BlockContext) (ns : List ℕ) (m : TrialMark) → t.given ≡ v.given → t.number ≡ v.number → t.learns ≡ v.learns → t.rs ≡ v.rs
          → ◌≡◌ {A = Tile} (record t { numbers = ns; bc = bc; current = m.current; uv = m.uv; cands = candidates_in m.cands; pick = m.pick }) (record v { numbers = ns; bc = bc; current = m.current; uv = m.uv; cands = candidates_in m.cands; pick = m.pick })
      same_rest t v bc ns m a b c d = cc (a, b, c, d)

  -- or refused
  refused_carried : (w later : W) (old new : TileState) (m : TrialMark) → CanGoBack writer w (log_of old) (tile_of old) m → tile_of new ≡ with_numbers (tile_of new).numbers (tile_of old)
      → Keeps writer w later → KeepsUndone (log_of old) (log_of new) (tile_of old).numbers (tile_of new).numbers → tell_frac_at (writer.position w) ≤ tell_frac_at (writer.position later)
      → CanGoBack writer later (log_of new) (tile_of new) m × StandsStill writer w later old new m
  refused_carried w later old new m k is keeps und rises =
      mark_carried writer w later old new m k (keeps.reached m.writer k.reached) (keeps.same m.writer k.reached) (und.reached m.context.fc k.saves)
      (subst (IsOfTile m) (sym is) (same_of_tile (tile_of new).numbers))
      (ap (λ (ns : List ℕ). record (tile_of new) { numbers = ns; bc = gone_back m.context.bc m.blocks (tile_of new).bc; current = m.current; uv = m.uv; cands = candidates_in m.cands; pick = m.pick }) (und.same m.context.fc k.saves)
      ∙ ap (λ (x : Tile). record x { numbers = undone (log_of old) (tile_of old).numbers m.context.fc; bc = gone_back m.context.bc m.blocks x.bc; current = m.current; uv = m.uv; cands = candidates_in m.cands; pick = m.pick }) is)
      (omega (arith, k.told_by_now, rises)) (omega (arith, k.stored, keeps.more))
    where
      same_of_tile : (ns : List ℕ) → IsOfTile m (with_numbers ns (tile_of old))
      same_of_tile ns = record { column = k.of_tile.column; sampling_is = k.of_tile.sampling_is; place = k.of_tile.place; blocks = k.of_tile.blocks }

  -- where there is a mark, a step is one that a trial can have
  tried_in : (untried : Bool) (outer : List TrialMark) (last : TrialMark) → (untried ≡ true → outer ++ last ∷ [] ≡ []) → untried ≡ false
  tried_in true outer last h = absurd (none_last outer last (h refl))
  tried_in false outer last h = refl

  -- marks stand still while a step is written near the last of them
  pub step_still : (w later : W) (old new : TileState) (marks : List TrialMark) (step : TileStep) → AreMarks writer w old marks → IsAllowed step (tile_of old) → (is_untried step ≡ true → marks ≡ [])
      → tile_of new ≡ entered step (with_numbers (tile_of new).numbers (tile_of old)) → ForSome (place_of (Step step) (tile_of old)) (IsNearLast marks)
      → Keeps writer w later → KeepsUndone (log_of old) (log_of new) (tile_of old).numbers (tile_of new).numbers → tell_frac_at (writer.position w) ≤ tell_frac_at (writer.position later)
      → AreMarks writer later new marks × AllStandStill writer w later old new marks
  step_still w later old new marks step a allowed outside is near keeps und rises =
      elim (none_or_last marks) [
        | inl e ↦ subst (λ (l : List TrialMark). AreMarks writer later new l × AllStandStill writer w later old new l) (sym e) (tt, tt)
        | inr r ↦
            let last = r.1 in
            let tried = tried_in (is_untried step) r.0 last (λ e. sym r.2 ∙ outside e) in
            let p = marks_split writer w old r.0 last (subst (λ (l : List TrialMark). AreMarks writer w old l) r.2 a) in
            marks_carried writer w later old new last (λ m k before. step_carried w later old new last m step k before allowed tried is (λ bo e. near bo e r.0 last r.2) keeps und rises) marks a
            (subst (λ (l : List TrialMark). AllBefore l last) (sym r.2) (before_with r.0 last p.2))
      ]

  pub refused_still : (w later : W) (old new : TileState) (marks : List TrialMark) → AreMarks writer w old marks → tile_of new ≡ with_numbers (tile_of new).numbers (tile_of old)
      → Keeps writer w later → KeepsUndone (log_of old) (log_of new) (tile_of old).numbers (tile_of new).numbers → tell_frac_at (writer.position w) ≤ tell_frac_at (writer.position later)
      → AreMarks writer later new marks × AllStandStill writer w later old new marks
  refused_still w later old new marks a is keeps und rises =
      elim (none_or_last marks) [
        | inl e ↦ subst (λ (l : List TrialMark). AreMarks writer later new l × AllStandStill writer w later old new l) (sym e) (tt, tt)
        | inr r ↦
            let p = marks_split writer w old r.0 r.1 (subst (λ (l : List TrialMark). AreMarks writer w old l) r.2 a) in
            marks_carried writer w later old new r.1 (λ m k before. refused_carried w later old new m k is keeps und rises) marks a
            (subst (λ (l : List TrialMark). AllBefore l r.1) (sym r.2) (before_with r.0 r.1 p.2))
      ]

  -- a mark of now comes after all that are there
  begin_before : (w : W) (s : TileState) (place : TileBlockOffset) (m : TrialMark) → IsMarkOf writer w (log_of s) (tile_of s) place m → (marks : List TrialMark) → AreMarks writer w s marks
      → (last : TrialMark) → AllBefore marks last → IsTrue (same_superblock place.0 last.place.0) → AllBefore marks m
  begin_before w s place m is [] a last b near = tt
  begin_before w s place m is (o ∷ marks) (k, all, rest) last (one, more) near = (
    record {
      near = subst (λ (q : TileBlockOffset). IsTrue (same_superblock o.place.0 q.0)) (sym is.place_is) (same_trans o.place.0 last.place.0 place.0 one.near (same_back place.0 last.place.0 near));
      told = omega (arith, k.told_by_now, is.tell_is);
      stored = omega (arith, k.stored, is.all_stored);
      saves = is.all_saves o.context.fc k.saves;
    },
    begin_before w s place m is marks rest last more near,
  )

  pub begin_marks : (w : W) (s : TileState) (marks : List TrialMark) (place : TileBlockOffset) (m : TrialMark) → AreMarks writer w s marks → IsNearLast marks place.0 → IsMarkOf writer w (log_of s) (tile_of s) place m → AreMarks writer w s (marks ++ m ∷ [])
  begin_marks w s marks place m a near is = marks_joined writer w s marks m a now before
    where
      now : CanGoBack writer w (log_of s) (tile_of s) m
      now = record {
        reached = is.reached;
        saves = is.has_saves;
        of_tile = is.of_tile;
        kept = subst IsKept (sym is.back) s.kept;
        cdfs = subst (λ (t : Tile). AreCdfs t.numbers) (sym is.back) s.cdfs;
        told = subst (λ (p : Position). m.tell ≤ tell_frac_at p) (sym is.position) (omega (arith, is.tell_is));
        told_by_now = omega (arith, is.tell_is);
        stored = omega (arith, is.all_stored);
      }

      before : AllBefore marks m
      before =
          elim (none_or_last marks) [
            | inl e ↦ subst (λ (l : List TrialMark). AllBefore l m) (sym e) tt
            | inr r ↦
                let p = marks_split writer w s r.0 r.1 (subst (λ (l : List TrialMark). AreMarks writer w s l) r.2 a) in
                begin_before w s place m is marks a r.1 (subst (λ (l : List TrialMark). AllBefore l r.1) (sym r.2) (before_with r.0 r.1 p.2)) (near r.0 r.1 r.2)
          ]

  -- a mark says the same of the tile that went back to a later one
  below_carried : (w later : W) (old new : TileState) (last m : TrialMark) → CanGoBack writer w (log_of old) (tile_of old) last → CanGoBack writer w (log_of old) (tile_of old) m → IsBefore m last
      → tile_of new ≡ back_to last (log_of old) (tile_of old) → WentBack writer last w later → HasSaves (log_of new) m.context.fc
      → undone (log_of new) (tile_of new).numbers m.context.fc ≡ undone (log_of old) (tile_of old).numbers m.context.fc
      → CanGoBack writer later (log_of new) (tile_of new) m × StandsStill writer w later old new m
  below_carried w later old new last m i k before is went saved same =
      let tile = tile_of old in
      let moved = tile_of new in
      let one = same_of last.place.0 m.place.0 (same_back m.place.0 last.place.0 before.near) in
      let numbers = undone (log_of old) tile.numbers m.context.fc in
      let column = i.of_tile.column ∙ ap (λ n. 16 * n) one.0 ∙ sym k.of_tile.column in
      let cs = i.of_tile.sampling_is ∙ sym k.of_tile.sampling_is in
      let corner = i.of_tile.place ∙ ap (λ n. record { x = 16 * n; y = 16 * (last.place.0.y / 16) }) one.0 ∙ ap (λ n. record { x = 16 * (m.place.0.x / 16); y = 16 * n }) one.1 ∙ sym k.of_tile.place in
      mark_carried writer w later old new m k (went.reached m.writer before.stored k.reached) (went.kept m.writer before.stored k.reached) saved
      (subst (IsOfTile m) (sym is) (record {
        column = k.of_tile.column;
        sampling_is = k.of_tile.sampling_is;
        place = k.of_tile.place;
        blocks = record { x = k.of_tile.blocks.x; y = k.of_tile.blocks.y; cols = k.of_tile.blocks.cols; rows = k.of_tile.blocks.rows };
      }))
      (ap (λ (ns : List ℕ). record moved { numbers = ns; bc = gone_back m.context.bc m.blocks moved.bc; current = m.current; uv = m.uv; cands = candidates_in m.cands; pick = m.pick }) same
      ∙ ap (λ (x : Tile). record x { numbers = numbers; bc = gone_back m.context.bc m.blocks x.bc; current = m.current; uv = m.uv; cands = candidates_in m.cands; pick = m.pick }) is
      ∙ ap (λ (x : BlockContext). record tile { numbers = numbers; bc = x; current = m.current; uv = m.uv; cands = candidates_in m.cands; pick = m.pick }) (back_again m.context.bc last.context.bc m.blocks last.blocks tile.bc column cs corner))
      (subst (λ (p : Position). m.tell ≤ tell_frac_at p) (sym went.position) (omega (arith, before.told, i.told)))
      (omega (arith, before.stored, went.stored))

  -- marks stand still while the last one is gone back to
  pub back_still : (w later : W) (old new : TileState) (outer : List TrialMark) (last : TrialMark) → AreMarks writer w old (outer ++ last ∷ []) → tile_of new ≡ back_to last (log_of old) (tile_of old) → WentBack writer last w later
      → ((c : CDFContextCheckpoint) → IsWithin c last.context.fc → HasSaves (log_of new) c)
      → ((c : CDFContextCheckpoint) → IsWithin c last.context.fc → undone (log_of new) (tile_of new).numbers c ≡ undone (log_of old) (tile_of old).numbers c)
      → AreMarks writer later new outer × AllStandStill writer w later old new outer
  back_still w later old new outer last a is went saves same =
      let p = marks_split writer w old outer last a in
      marks_carried writer w later old new last (λ m k before. below_carried w later old new last m p.1 k before is went (saves m.context.fc before.saves) (same m.context.fc before.saves)) outer p.0 p.2

not_err : false ≡ true → ⊥
not_err h = cc h

module _ {W : Type 0} (writer : Ghosts W) where
  -- where the log was cleared, no mark is there
  pub settled_marks : (w : W) (old new : TileState) (marks : List TrialMark) → (0 < length marks → new ≡ old) → AreMarks writer w old marks → AreMarks writer w new marks
  settled_marks w old new [] same a = tt
  settled_marks w old new (m ∷ marks) same a = subst (λ (x : TileState). AreMarks writer w x (m ∷ marks)) (sym (same (omega arith))) a

  pub settled_still : (w later : W) (old mid new : TileState) (marks : List TrialMark) → (0 < length marks → new ≡ mid) → AllStandStill writer w later old mid marks → AllStandStill writer w later old new marks
  settled_still w later old mid new [] same a = tt
  settled_still w later old mid new (m ∷ marks) same a = subst (λ (x : TileState). AllStandStill writer w later old x (m ∷ marks)) (sym (same (omega arith))) a

  -- a step that was written and settled
  pub step_done : {E : Type 0} (w later : W) (old mid new : TileState) (marks : List TrialMark) (step : TileStep)
      → Writes coded_by (learnt (tile_of old).learns) (syntax_of (question_of step) (tile_of old)) step (standing (writer.position w) (tile_of old).numbers) (standing (writer.position later) (tile_of mid).numbers)
      → tile_of mid ≡ entered step (with_numbers (tile_of mid).numbers (tile_of old)) → Keeps writer w later → KeepsUndone (log_of old) (log_of mid) (tile_of old).numbers (tile_of mid).numbers → AllStandStill writer w later old mid marks
      → tile_of new ≡ tile_of mid → (0 < length marks → new ≡ mid) → Steps writer w later old new marks marks {E = E} (Ok None) step
  step_done w later old mid new marks step wrote moved keeps und still is same = record {
    answer = refl;
    wrote = subst (λ (x : Tile). Writes coded_by (learnt (tile_of old).learns) (syntax_of (question_of step) (tile_of old)) step (standing (writer.position w) (tile_of old).numbers) (standing (writer.position later) x.numbers)) (sym is) wrote;
    tile = is ∙ moved ∙ ap (λ (x : Tile). entered step (with_numbers x.numbers (tile_of old))) (sym is);
    refused = tt;
    kept = keeps;
    undone = λ e. elim e [
      | inl some ↦ subst (λ (x : TileState). KeepsUndone (log_of old) (log_of x) (tile_of old).numbers (tile_of x).numbers) (sym (same some)) und
      | inr failed ↦ absurd (not_err failed)
    ];
    marks_are = refl;
    still = settled_still w later old mid new marks same still;
  }

  -- a step that was refused
  pub step_refused : {E : Type 0} (e : E) (w later : W) (old new : TileState) (marks : List TrialMark) (step : TileStep)
      → Begins coded_by (learnt (tile_of old).learns) (syntax_of (question_of step) (tile_of old)) step (standing (writer.position w) (tile_of old).numbers) (standing (writer.position later) (tile_of new).numbers)
      → tile_of new ≡ with_numbers (tile_of new).numbers (tile_of old) → Keeps writer w later → KeepsUndone (log_of old) (log_of new) (tile_of old).numbers (tile_of new).numbers → AllStandStill writer w later old new marks → Steps writer w later old new marks marks {E = E} (Err e) step
  step_refused e w later old new marks step begun same keeps und still = record { answer = tt; wrote = begun; tile = tt; refused = same; kept = keeps; undone = λ h. und; marks_are = refl; still = still }
