use Rattle.std.proofs.Common.{◌≡◌, ℕ, ◌+◌, ◌<◌, ◌&&◌, IsTrue, List, [], ◌∷◌, ◌++◌, true, false, Option, Some, None, is_some, Result, Ok, Err, nat_lt, inl, inr, refl, sym, ◌∙◌, ap, subst, arith}
use Rattle.std.specs.Prelude.{IsOkAnd, OnOk}
use Rattle.std.proofs.lemmas.Bool.Decides.{nat_tests}
use Rattle.av1_ec.specs.Rate.{tell_at}
use Rattle.av1_geometry.specs.declared.block_offset.BlockOffset.{BlockOffset}
use Rattle.av1_geometry.specs.declared.block_offset.TileBlockOffset.{TileBlockOffset}
use Rattle.av1_step.specs.declared.tile.TileState.{TileState}
use Rattle.av1_step.specs.declared.unit.Item.TheVariants.{Step, Begin, Keep, Abandon}
use Rattle.av1_step.specs.declared.step.TileStep.{TileStep}
use Rattle.av1_step.specs.declared.step.TileStep.TheVariants.{Skip}
use Rattle.av1_step.specs.Kind.{of_current}
use Rattle.av1_step.specs.State.{tile_of}
use Rattle.av1_step.specs.Step.{is_untried, skip_kind, step_fault}
use Rattle.av1_step.specs.Tile.{CurrentBlock, is_inside}
use Rattle.av1_tile.specs.Trials.{place_of, same_superblock}
use Rattle.av1_uses.proofs.cost_of_skip.Goals as goal

not_pushed : {A : Type 0} (outer : List A) (m : A) → [] ≡ outer ++ m ∷ [] → ⊥
not_pushed [] m h = cc h
not_pushed (o ∷ outer) m h = cc h

one_last : {A : Type 0} (outer : List A) (m n : A) → m ∷ [] ≡ outer ++ n ∷ [] → m ≡ n
one_last [] m n h = cc h
one_last (o ∷ []) m n h = cc
one_last (o ∷ p ∷ outer) m n h = cc

none_of : {A : Type 0} (o : Option A) → is_some o ≡ false → o ≡ None
none_of None h = refl
none_of (Some a) h = cc

inside_of : (x y cols rows : ℕ) → x < cols → y < rows → (nat_lt x cols && nat_lt y rows) ≡ true
inside_of x y cols rows a b = grind (arith, nat_tests)

same_self : (a : BlockOffset) → IsTrue (same_superblock a a)
same_self a = grind (arith, nat_tests)

not_kept : (place : TileBlockOffset) → Begin place ≡ Keep → ⊥
not_kept place h = cc h

not_abandoned : (place : TileBlockOffset) → Begin place ≡ Abandon → ⊥
not_abandoned place h = cc h

step_not_kept : (step : TileStep) → Step step ≡ Keep → ⊥
step_not_kept step h = cc h

step_not_abandoned : (step : TileStep) → Step step ≡ Abandon → ⊥
step_not_abandoned step h = cc h

on_ok : {U E : Type 0} (r : Result U E) (P : U → Type 0) (T : Type 0) → IsOkAnd r P → ((u : U) → P u → T) → OnOk r T
on_ok (Ok u) P T h f = f u h
on_ok (Err e) P T h f = tt

pub write_item-requires-clause-item : goal.write_item-requires-clause-item
write_item-requires-clause-item g c =
    let place = c.in-Some.place in
    let none = c.new-marks.ensures.items in
    let b = c.args.state.now.kept.current _ c.in-Some.is in
    let inside : is_inside (tile_of c.args.state.now) place.0 ≡ true = inside_of place.0.x place.0.y _ _ b.column b.row in
    record {
      step = λ s e. cc;
      begun = λ e. elim e [
        | inl k ↦ absurd (not_kept place k)
        | inr a ↦ absurd (not_abandoned place a)
      ];
      inside = λ q e. let same : place ≡ q = cc e in subst (λ (x : TileBlockOffset). is_inside (tile_of c.args.state.now) x.0 ≡ true) same inside;
      near = λ bo e outer m is. absurd (not_pushed outer m (sym none ∙ is));
      outside = λ s e u. none;
    }

pub write_item-requires-2-clause-item : goal.write_item-requires-2-clause-item
write_item-requires-2-clause-item g c =
    let place = c.in-Some.place in
    let skip = Skip c.args.skip in
    let old = c.args.state.now in
    let w = c.args.w.now in
    let took = c.in_ok-write_item.ensures.took in
    let m = took.begun.0 in
    let at : m.place ≡ place = took.begun.2.place_is in
    let marks = took.begun.1 ∙ ap (λ l. l ++ m ∷ []) c.new-marks.ensures.items in
    let asked : step_fault (tile_of old) (tell_at (g.W.Known.position w)) skip ≡ None =
    ap (λ (k : ℕ). step_fault (tile_of old) k skip) (sym c.tell.ensures) ∙ sym c.check_step.ensures ∙ none_of c.check_step.result (sym c.is_some.ensures ∙ c.if-is_some.false) in
    let free : step_fault (tile_of old) ((g.W.Known.position w).shift + 1) skip ≡ None =
    c.law_of_steps.ensures.fewer_bits skip (tile_of old) (tell_at (g.W.Known.position w)) ((g.W.Known.position w).shift + 1) asked (omega arith) in
    let now : step_fault (tile_of c.write_item.new.state) ((g.W.Known.position c.write_item.new.w).shift + 1) skip ≡ None = rw (took.tile, took.writer_is) free in
    let there : place_of (Step skip) (tile_of c.write_item.new.state) ≡ Some place.0 =
    ap (λ (s : TileState). place_of (Step skip) (tile_of s)) took.tile ∙ ap (λ (o : Option CurrentBlock). (of_current o Skip (skip_kind (tile_of old))).place) c.in-Some.is in
    record {
      step = λ s e. let same : skip ≡ s = cc e in subst (λ (x : TileStep). step_fault (tile_of c.write_item.new.state) ((g.W.Known.position c.write_item.new.w).shift + 1) x ≡ None) same now;
      begun = λ e. elim e [
        | inl k ↦ absurd (step_not_kept skip k)
        | inr a ↦ absurd (step_not_abandoned skip a)
      ];
      inside = λ q e. cc;
      near = λ bo e outer n is.
          let here : place.0 ≡ bo = cc (there, e) in
          let last : m ≡ n = one_last outer m n (sym marks ∙ is) in
          rw (sym here, sym last, at) (same_self place.0);
      outside = λ s e u. let same : skip ≡ s = cc e in let no : is_untried skip ≡ true = ap (λ (x : TileStep). is_untried x) same ∙ u in cc no;
    }

pub returns-clause-tile : goal.returns-clause-tile
returns-clause-tile g c =
    on_ok c.write_item-3.result _ _ c.write_item-3.ensures.took (λ answer ends.
    (c.law_of_trials.ensures c.in-Some.place (Step (Skip c.args.skip) ∷ [])
    (record { writer = c.args.w.now; tile = c.args.state.now; marks = c.new-marks.result.items })
    (record { writer = c.write_item-3.new.w; tile = c.write_item-3.new.state; marks = c.write_item-3.new.marks.items })
    refl (
      record { writer = c.write_item.new.w; tile = c.write_item.new.state; marks = c.write_item.new.marks.items },
      (c.in_ok-write_item.field-0, c.in_ok-write_item.ensures.took),
      (
        record { writer = c.write_item-2.new.w; tile = c.write_item-2.new.state; marks = c.write_item-2.new.marks.items },
        (c.in_ok-write_item-2.field-0, c.in_ok-write_item-2.ensures.took),
        (
          record { writer = c.write_item-3.new.w; tile = c.write_item-3.new.state; marks = c.write_item-3.new.marks.items },
          (answer, ends),
          refl,
        ),
      ),
    )).0)

pub returns-clause-writer : goal.returns-clause-writer
returns-clause-writer g c =
    on_ok c.write_item-3.result _ _ c.write_item-3.ensures.took (λ answer ends.
    (c.law_of_trials.ensures c.in-Some.place (Step (Skip c.args.skip) ∷ [])
    (record { writer = c.args.w.now; tile = c.args.state.now; marks = c.new-marks.result.items })
    (record { writer = c.write_item-3.new.w; tile = c.write_item-3.new.state; marks = c.write_item-3.new.marks.items })
    refl (
      record { writer = c.write_item.new.w; tile = c.write_item.new.state; marks = c.write_item.new.marks.items },
      (c.in_ok-write_item.field-0, c.in_ok-write_item.ensures.took),
      (
        record { writer = c.write_item-2.new.w; tile = c.write_item-2.new.state; marks = c.write_item-2.new.marks.items },
        (c.in_ok-write_item-2.field-0, c.in_ok-write_item-2.ensures.took),
        (
          record { writer = c.write_item-3.new.w; tile = c.write_item-3.new.state; marks = c.write_item-3.new.marks.items },
          (answer, ends),
          refl,
        ),
      ),
    )).1)
