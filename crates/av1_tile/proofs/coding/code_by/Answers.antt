use Rattle.std.proofs.lemmas.List.{get_or_default}
use Rattle.std.proofs.Common.{[], rules, refl, ◌≡◌, ◌⊎◌, Some, Err, inl, inr, ◌∙◌}
use Rattle.av1_step.specs.Given.{given_of}
use Rattle.av1_step.specs.Script.{begin}
use Rattle.av1_tile.specs.TileBytes.{started, script_of, wrong_in}
use Rattle.av1_tile.specs.declared.error.UnitError.TheVariants.{OutOfMemory}
use Rattle.av1_cdf.proofs.Learning.{cdfs_of_tables}
use Rattle.av1_step.proofs.Fresh.{fresh_sound}
use Rattle.av1_tile.proofs.Starting.{fresh_stands}
use Rattle.av1_tile.proofs.Coming.{costs_all}
use Rattle.av1_tile.proofs.coding.code_by.Goals as goal

pub code_items-requires : goal.code_items-requires
code_items-requires g c = record { standing = (g.W.Known.position c.args.writer, started (begin (given_of c.args.unit.now) c.args.tile), fresh_stands g.W.Known (g.W.Known.position c.args.writer) (given_of c.args.unit.now) c.args.tile c.in_ok-new.field-0 c.args.writer _ _ _ (fresh_sound (given_of c.args.unit.now) c.args.tile c.requires.given c.requires.tile (cdfs_of_tables c.args.unit.now.tables c.args.unit.now.fi.base_q_idx c.requires.given.tables)) c.in_ok-new.ensures.tile c.requires.new refl c.new-2.ensures.items c.new-3.ensures.begun c.new-3.ensures.all) }

pub returns-in_err-code_items-clause-err : goal.returns-in_err-code_items-clause-err
returns-in_err-code_items-clause-err g c =
    let e = c.in_err-code_items.field-0.0 in
    let items : c.deref.result.now ≡ script_of c.args.unit.now c.args.tile = c.deref.ensures.value ∙ c.script.view_is ∙ c.index-script.ensures ∙ get_or_default c.args.unit.now.scripts.items c.args.tile _ [] c.requires.script in
    let ensures = rw (items) at c.in_err-code_items.ensures in
    let told : (e ≡ OutOfMemory) ⊎ (wrong_in (given_of c.args.unit.now) c.args.tile (script_of c.args.unit.now c.args.tile) ≡ Some e) =
    elim ensures.err [
      | inl m ↦ inl m
      | inr here ↦ inr (here (g.W.Known.position c.args.writer) _ (fresh_stands g.W.Known (g.W.Known.position c.args.writer) (given_of c.args.unit.now) c.args.tile c.in_ok-new.field-0 c.args.writer _ _ _ (fresh_sound (given_of c.args.unit.now) c.args.tile c.requires.given c.requires.tile (cdfs_of_tables c.args.unit.now.tables c.args.unit.now.fi.base_q_idx c.requires.given.tables)) c.in_ok-new.ensures.tile c.requires.new refl c.new-2.ensures.items c.new-3.ensures.begun c.new-3.ensures.all))
    ] in
    let is : c.from_residual-in_err-code_items.result ≡ Err e = search rules in
    rw (is) told

pub returns-clause-allowed : goal.returns-clause-allowed
returns-clause-allowed g c =
    let items : c.deref.result.now ≡ script_of c.args.unit.now c.args.tile = c.deref.ensures.value ∙ c.script.view_is ∙ c.index-script.ensures ∙ get_or_default c.args.unit.now.scripts.items c.args.tile _ [] c.requires.script in
    let done = rw (items) at c.in_ok-code_items.ensures in
    done.right (g.W.Known.position c.args.writer) _ (fresh_stands g.W.Known (g.W.Known.position c.args.writer) (given_of c.args.unit.now) c.args.tile c.in_ok-new.field-0 c.args.writer _ _ _ (fresh_sound (given_of c.args.unit.now) c.args.tile c.requires.given c.requires.tile (cdfs_of_tables c.args.unit.now.tables c.args.unit.now.fi.base_q_idx c.requires.given.tables)) c.in_ok-new.ensures.tile c.requires.new refl c.new-2.ensures.items c.new-3.ensures.begun c.new-3.ensures.all)

pub returns-clause-coded : goal.returns-clause-coded
returns-clause-coded g c =
    let items : c.deref.result.now ≡ script_of c.args.unit.now c.args.tile = c.deref.ensures.value ∙ c.script.view_is ∙ c.index-script.ensures ∙ get_or_default c.args.unit.now.scripts.items c.args.tile _ [] c.requires.script in
    let done = rw (items) at c.in_ok-code_items.ensures in
    (done.ok (g.W.Known.position c.args.writer) _ (fresh_stands g.W.Known (g.W.Known.position c.args.writer) (given_of c.args.unit.now) c.args.tile c.in_ok-new.field-0 c.args.writer _ _ _ (fresh_sound (given_of c.args.unit.now) c.args.tile c.requires.given c.requires.tile (cdfs_of_tables c.args.unit.now.tables c.args.unit.now.fi.base_q_idx c.requires.given.tables)) c.in_ok-new.ensures.tile c.requires.new refl c.new-2.ensures.items c.new-3.ensures.begun c.new-3.ensures.all)).coded

pub returns-clause-few : goal.returns-clause-few
returns-clause-few g c =
    let items : c.deref.result.now ≡ script_of c.args.unit.now c.args.tile = c.deref.ensures.value ∙ c.script.view_is ∙ c.index-script.ensures ∙ get_or_default c.args.unit.now.scripts.items c.args.tile _ [] c.requires.script in
    let done = rw (items) at c.in_ok-code_items.ensures in
    (done.ok (g.W.Known.position c.args.writer) _ (fresh_stands g.W.Known (g.W.Known.position c.args.writer) (given_of c.args.unit.now) c.args.tile c.in_ok-new.field-0 c.args.writer _ _ _ (fresh_sound (given_of c.args.unit.now) c.args.tile c.requires.given c.requires.tile (cdfs_of_tables c.args.unit.now.tables c.args.unit.now.fi.base_q_idx c.requires.given.tables)) c.in_ok-new.ensures.tile c.requires.new refl c.new-2.ensures.items c.new-3.ensures.begun c.new-3.ensures.all)).few

pub returns-clause-trials : goal.returns-clause-trials
returns-clause-trials g c =
    let items : c.deref.result.now ≡ script_of c.args.unit.now c.args.tile = c.deref.ensures.value ∙ c.script.view_is ∙ c.index-script.ensures ∙ get_or_default c.args.unit.now.scripts.items c.args.tile _ [] c.requires.script in
    let done = rw (items) at c.in_ok-code_items.ensures in
    let f = fresh_stands g.W.Known (g.W.Known.position c.args.writer) (given_of c.args.unit.now) c.args.tile c.in_ok-new.field-0 c.args.writer _ _ _ (fresh_sound (given_of c.args.unit.now) c.args.tile c.requires.given c.requires.tile (cdfs_of_tables c.args.unit.now.tables c.args.unit.now.fi.base_q_idx c.requires.given.tables)) c.in_ok-new.ensures.tile c.requires.new refl c.new-2.ensures.items c.new-3.ensures.begun c.new-3.ensures.all in
    (done.ok (g.W.Known.position c.args.writer) _ f).costs_are
    ∙ costs_all (started (begin (given_of c.args.unit.now) c.args.tile)) (script_of c.args.unit.now c.args.tile) (done.right (g.W.Known.position c.args.writer) _ f)
