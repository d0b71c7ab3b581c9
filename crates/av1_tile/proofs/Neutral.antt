-- A trial that is given up leaves no trace.
use Rattle.std.proofs.Common.{◌≡◌, inl, inr, ℕ, suc, ◌+◌, ◌==◌, List, [], ◌∷◌, ◌++◌, true, false, Option, length, sym, ◌∙◌, ap, subst, arith, append_assoc}
use Rattle.std.proofs.lemmas.List.{length_push}
use Rattle.av1_ec.specs.declared.known.Known.{Ghosts}
use Rattle.av1_geometry.specs.declared.block_offset.TileBlockOffset.{TileBlockOffset}
use Rattle.av1_model.specs.Position.{Position}
use Rattle.av1_step.specs.declared.tile.TileState.{TileState}
use Rattle.av1_step.specs.declared.trial.TrialMark.{TrialMark}
use Rattle.av1_step.specs.declared.unit.Item.{Item}
use Rattle.av1_step.specs.declared.unit.Item.TheVariants.{Step, Begin, Keep, Abandon}
use Rattle.av1_tile.specs.Items.{Ends, Stage, TakesAll, ends_its_own}
use Rattle.av1_step.specs.Mark.{back_to}
use Rattle.av1_tile.specs.Marks.{StandsStill, AllStandStill}
use Rattle.av1_step.specs.State.{tile_of, log_of}
use Rattle.av1_step.specs.Tile.{Tile}
use Rattle.av1_tile.proofs.Marks.{last_one, none_or_last}
use Rattle.av1_step.proofs.StepLaws.{is_same}

not_none : (n : ℕ) → (suc n == 0) ≡ true → ⊥
not_none n h = let e : suc n ≡ 0 = is_same (suc n) 0 h in omega (arith, e)

apart : true ≡ false → ⊥
apart h = cc h

module _ {W : Type 0} (writer : Ghosts W) where
  still_among : (w later : W) (old new : TileState) (outer : List TrialMark) (m : TrialMark) (inner : List TrialMark) → AllStandStill writer w later old new (outer ++ m ∷ inner) → StandsStill writer w later old new m
  still_among w later old new [] m inner (one, rest) = one
  still_among w later old new (o ∷ outer) m inner (one, rest) = still_among w later old new outer m inner rest

  -- going back to a mark gives this position and this tile
  pub record Gives (at : Stage W) (m : TrialMark) (p : Position) (t : Tile) : Type 0 where
    pub position : writer.position_at at.writer m.writer ≡ p
    pub tile : back_to m (log_of at.tile) (tile_of at.tile) ≡ t

  still_gives : (at to : Stage W) (outer : List TrialMark) (m : TrialMark) (inner : List TrialMark) (p : Position) (t : Tile) → AllStandStill writer at.writer to.writer at.tile to.tile (outer ++ m ∷ inner) → Gives at m p t → Gives to m p t
  still_gives at to outer m inner p t still g = let x = still_among at.writer to.writer at.tile to.tile outer m inner still in record { position = x.position ∙ g.position; tile = x.tile ∙ g.tile }

  -- a trial in another one ends
  inner_ends : (at to : Stage W) (outer : List TrialMark) (m : TrialMark) (inner : List TrialMark) (last : TrialMark) (answer : Option ℕ) (mark : TrialMark) (p : Position) (t : Tile) → at.marks ≡ outer ++ m ∷ (inner ++ last ∷ [])
      → Ends writer at.writer to.writer at.tile to.tile at.marks to.marks answer mark → Gives at m p t → (to.marks ≡ outer ++ m ∷ inner) × Gives to m p t
  inner_ends at to outer m inner last answer mark p t is e g =
      let left : to.marks ≡ outer ++ m ∷ inner = (last_one to.marks (outer ++ m ∷ inner) mark last (sym e.marks_are ∙ is ∙ sym (append_assoc outer (m ∷ inner) (last ∷ [])))).0 in
      (left, still_gives at to outer m inner p t (subst (λ (l : List TrialMark). AllStandStill writer at.writer to.writer at.tile to.tile l) left e.still) g)

  -- items that end what they begin, and then the end of the trial that goes back
  pub undone_all : (p : Position) (t : Tile) (outer : List TrialMark) (m : TrialMark) (items : List Item) (inner : List TrialMark) (at to : Stage W) → at.marks ≡ outer ++ m ∷ inner → ends_its_own (length inner) items ≡ true → Gives at m p t
      → TakesAll writer at to (items ++ Abandon ∷ []) → (tile_of to.tile ≡ t) × (writer.position to.writer ≡ p) × (to.marks ≡ outer)
  undone_all p t outer m [] (x ∷ inner) at to is own g all = absurd (not_none (length inner) own)
  undone_all p t outer m [] [] at to is own g (mid, one, same) =
      let u = one.1 in
      let e = last_one mid.marks outer u.mark m (sym u.ends.marks_are ∙ is) in (
        ap (λ (s : Stage W). tile_of s.tile) same ∙ u.tile ∙ ap (λ (x : TrialMark). back_to x (log_of at.tile) (tile_of at.tile)) e.1 ∙ g.tile,
        ap (λ (s : Stage W). writer.position s.writer) same ∙ u.writer_went.position ∙ ap (λ (x : TrialMark). writer.position_at at.writer x.writer) e.1 ∙ g.position,
        ap (λ (s : Stage W). s.marks) same ∙ e.0,
      )
  undone_all p t outer m (Step step ∷ items) inner at to is own g (mid, one, rest) =
      let u = one.1 in
      undone_all p t outer m items inner mid to (u.marks_are ∙ is) own (still_gives at mid outer m inner p t (subst (λ (l : List TrialMark). AllStandStill writer at.writer mid.writer at.tile mid.tile l) is u.still) g) rest
  undone_all p t outer m (Begin place ∷ items) inner at to is own g (mid, one, rest) =
      let u = one.1 in
      let n = u.begun.0 in
      let more : length (inner ++ n ∷ []) ≡ suc (length inner) = omega (arith, length_push inner n) in
      undone_all p t outer m items (inner ++ n ∷ []) mid to
      (u.begun.1 ∙ ap (λ (l : List TrialMark). l ++ n ∷ []) is ∙ append_assoc outer (m ∷ inner) (n ∷ []))
      (ap (λ k. ends_its_own k items) more ∙ own)
      (record {
        position = ap (λ (w : W). writer.position_at w m.writer) u.writer_is ∙ g.position;
        tile = ap (λ (s : TileState). back_to m (log_of s) (tile_of s)) u.tile ∙ g.tile;
      }) rest
  undone_all p t outer m (Keep ∷ items) inner at to is own g (mid, one, rest) =
      elim (none_or_last inner) [
        | inl e ↦ let none : ends_its_own (length inner) (Keep ∷ items) ≡ false = ap (λ (l : List TrialMark). ends_its_own (length l) (Keep ∷ items)) e in absurd (apart (sym own ∙ none))
        | inr r ↦
            let x = inner_ends at mid outer m r.0 r.1 one.0 one.1.mark p t (is ∙ ap (λ (l : List TrialMark). outer ++ m ∷ l) r.2) one.1.ends g in
            let more : length inner ≡ suc (length r.0) = omega (arith, ap (λ (l : List TrialMark). length l) r.2, length_push r.0 r.1) in
            let own' : ends_its_own (length r.0) items ≡ true = sym (ap (λ k. ends_its_own k (Keep ∷ items)) more) ∙ own in
            undone_all p t outer m items r.0 mid to x.0 own' x.1 rest
      ]
  undone_all p t outer m (Abandon ∷ items) inner at to is own g (mid, one, rest) =
      elim (none_or_last inner) [
        | inl e ↦ let none : ends_its_own (length inner) (Abandon ∷ items) ≡ false = ap (λ (l : List TrialMark). ends_its_own (length l) (Abandon ∷ items)) e in absurd (apart (sym own ∙ none))
        | inr r ↦
            let x = inner_ends at mid outer m r.0 r.1 one.0 one.1.mark p t (is ∙ ap (λ (l : List TrialMark). outer ++ m ∷ l) r.2) one.1.ends g in
            let more : length inner ≡ suc (length r.0) = omega (arith, ap (λ (l : List TrialMark). length l) r.2, length_push r.0 r.1) in
            let own' : ends_its_own (length r.0) items ≡ true = sym (ap (λ k. ends_its_own k (Abandon ∷ items)) more) ∙ own in
            undone_all p t outer m items r.0 mid to x.0 own' x.1 rest
      ]

  -- a whole trial
  pub trial_undone : (place : TileBlockOffset) (items : List Item) (from to : Stage W) → ends_its_own 0 items ≡ true → TakesAll writer from to (Begin place ∷ (items ++ Abandon ∷ []))
      → (tile_of to.tile ≡ tile_of from.tile) × (writer.position to.writer ≡ writer.position from.writer) × (to.marks ≡ from.marks)
  trial_undone place items from to own (mid, one, rest) =
      let u = one.1 in
      let m = u.begun.0 in
      let is = u.begun.2 in
      undone_all (writer.position from.writer) (tile_of from.tile) from.marks m items [] mid to u.begun.1 own
      (record { position = ap (λ (w : W). writer.position_at w m.writer) u.writer_is ∙ is.position; tile = ap (λ (s : TileState). back_to m (log_of s) (tile_of s)) u.tile ∙ is.back }) rest
