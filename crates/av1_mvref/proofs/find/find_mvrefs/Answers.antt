use Rattle.std.proofs.Common.{◌≤◌, ◌∙◌, ap, sym, subst, arith}
use Rattle.av1_geometry.specs.RefType.{reference_number}
use Rattle.av1_mvref.specs.declared.candidate.Wanted.{Wanted}
use Rattle.av1_mvref.specs.Conditions.{AreReferences}
use Rattle.av1_mvref.specs.ExtraSearch.{Candidates, found, wanted_of}
use Rattle.av1_mvref.proofs.Whole.{candidates-none, candidates-some}
use Rattle.av1_mvref.proofs.find.find_mvrefs.Goals as goal

pub returns-then-number-eq0-clause-list : goal.returns-then-number-eq0-clause-list
returns-then-number-eq0-clause-list c =
    let none = sym (ap (λ (w : Wanted). reference_number w.first) c.of-wanted.ensures) ∙ sym c.number.ensures.value ∙ c.if-number-eq0.true in
    c.requires.empty ∙ sym (ap (λ (r : Candidates). r.list) (candidates-none c.args.blocks.now c.args.bo.0 c.args.bsize c.args.ref_frames c.args.is_compound c.args.has_tr c.args.sign_bias.now none))

pub returns-then-number-eq0-clause-context : goal.returns-then-number-eq0-clause-context
returns-then-number-eq0-clause-context c =
    let none = sym (ap (λ (w : Wanted). reference_number w.first) c.of-wanted.ensures) ∙ sym c.number.ensures.value ∙ c.if-number-eq0.true in
    sym (ap (λ (r : Candidates). r.context) (candidates-none c.args.blocks.now c.args.bo.0 c.args.bsize c.args.ref_frames c.args.is_compound c.args.has_tr c.args.sign_bias.now none))

pub find-requires-clause-references : goal.find-requires-clause-references
find-requires-clause-references c =
    let first = c.number.ensures.value ∙ ap (λ (w : Wanted). reference_number w.first) c.of-wanted.ensures in
    let some : 1 ≤ reference_number (wanted_of c.args.ref_frames c.args.is_compound).first = omega arith in
    subst AreReferences (sym c.of-wanted.ensures) record {
      first = record { first = some; last = c.requires.first };
      second = λ k. (c.requires.pair k).1;
    }

pub returns-clause-list : goal.returns-clause-list
returns-clause-list c =
    let first = c.number.ensures.value ∙ ap (λ (w : Wanted). reference_number w.first) c.of-wanted.ensures in
    let some : 1 ≤ reference_number (wanted_of c.args.ref_frames c.args.is_compound).first = omega arith in
    c.find.ensures.list
    ∙ ap (λ (w : Wanted). (found c.args.blocks.now c.args.bo.0 c.args.bsize w c.args.has_tr c.args.sign_bias.now).list) c.of-wanted.ensures
    ∙ sym (ap (λ (r : Candidates). r.list) (candidates-some c.args.blocks.now c.args.bo.0 c.args.bsize c.args.ref_frames c.args.is_compound c.args.has_tr c.args.sign_bias.now some))

pub returns-clause-context : goal.returns-clause-context
returns-clause-context c =
    let first = c.number.ensures.value ∙ ap (λ (w : Wanted). reference_number w.first) c.of-wanted.ensures in
    let some : 1 ≤ reference_number (wanted_of c.args.ref_frames c.args.is_compound).first = omega arith in
    c.find.ensures.context
    ∙ ap (λ (w : Wanted). (found c.args.blocks.now c.args.bo.0 c.args.bsize w c.args.has_tr c.args.sign_bias.now).context) c.of-wanted.ensures
    ∙ sym (ap (λ (r : Candidates). r.context) (candidates-some c.args.blocks.now c.args.bo.0 c.args.bsize c.args.ref_frames c.args.is_compound c.args.has_tr c.args.sign_bias.now some))
