use Rattle.std.proofs.Common.{◌≡◌, ◌++◌, ◌∷◌, ◌∙◌, [], true, false, take, ap, sym, arith}
use Rattle.std.specs.Prelude.{not}
use Rattle.std.proofs.lemmas.Grind.{common_steps}
use Rattle.std.proofs.lemmas.Bool.{ne_eqb}
use Rattle.std.proofs.lemmas.Bool.Decides.{nat_tests}
use Rattle.av1_geometry.specs.RefType.{reference_number}
use Rattle.av1_mvref.specs.Candidates.{same_ref, ref_of, mv_of}
use Rattle.av1_mvref.specs.ExtraSearch.{Referred, is_frame, turned}
use Rattle.av1_mvref.proofs.Kept.{kept-nothing, picked, passed, absent}
use Rattle.av1_mvref.proofs.pairs.keep_vector.Goals as goal

pub returns-then-not-is_frame-clause-same : goal.returns-then-not-is_frame-clause-same
returns-then-not-is_frame-clause-same c =
    let b = c.args.block.now in
    let i = c.args.list in
    let v : Referred = record { ref = ref_of b i; mv = mv_of b i } in
    let h : is_frame (ref_of b i) ≡ false = grind (arith, common_steps) in
    kept-nothing c.args.same.now.items _ (absent (λ u. u.mv) (λ u. same_ref u.ref c.args.to) (is_frame (ref_of b i)) v h) c.requires.few

pub returns-then-not-is_frame-clause-others : goal.returns-then-not-is_frame-clause-others
returns-then-not-is_frame-clause-others c =
    let b = c.args.block.now in
    let i = c.args.list in
    let v : Referred = record { ref = ref_of b i; mv = mv_of b i } in
    let h : is_frame (ref_of b i) ≡ false = grind (arith, common_steps) in
    kept-nothing c.args.others.now.items _ (absent (turned c.args.sign_bias.now c.args.to) (λ u. not (same_ref u.ref c.args.to)) (is_frame (ref_of b i)) v h) c.requires.few_others

pub returns-then-number-clause-others : goal.returns-then-number-clause-others
returns-then-number-clause-others c =
    let b = c.args.block.now in
    let i = c.args.list in
    let v : Referred = record { ref = ref_of b i; mv = mv_of b i } in
    let h : is_frame (ref_of b i) ≡ true = grind (arith, common_steps) in
    let e : same_ref (ref_of b i) c.args.to ≡ true = grind (arith, common_steps, nat_tests) in
    kept-nothing c.args.others.now.items _ (passed (turned c.args.sign_bias.now c.args.to) (λ u. not (same_ref u.ref c.args.to)) (is_frame (ref_of b i)) v h (ap not e)) c.requires.few_others

pub returns-else-number-clause-same : goal.returns-else-number-clause-same
returns-else-number-clause-same c =
    let b = c.args.block.now in
    let i = c.args.list in
    let v : Referred = record { ref = ref_of b i; mv = mv_of b i } in
    let h : is_frame (ref_of b i) ≡ true = grind (arith, common_steps) in
    let m : c.number.result ≡ reference_number (ref_of b i) = grind (arith, common_steps) in
    let n : c.number-2.result ≡ reference_number c.args.to = c.number-2.ensures.value in
    let e : same_ref (ref_of b i) c.args.to ≡ false = ne_eqb (reference_number (ref_of b i)) (reference_number c.args.to) (λ q. omega arith) in
    kept-nothing c.args.same.now.items _ (passed (λ u. u.mv) (λ u. same_ref u.ref c.args.to) (is_frame (ref_of b i)) v h e) c.requires.few

pub returns-else-number-clause-others : goal.returns-else-number-clause-others
returns-else-number-clause-others c =
    let b = c.args.block.now in
    let i = c.args.list in
    let v : Referred = record { ref = ref_of b i; mv = mv_of b i } in
    let h : is_frame (ref_of b i) ≡ true = grind (arith, common_steps) in
    let m : c.number.result ≡ reference_number (ref_of b i) = grind (arith, common_steps) in
    let n : c.number-2.result ≡ reference_number c.args.to = c.number-2.ensures.value in
    let e : same_ref (ref_of b i) c.args.to ≡ false = ne_eqb (reference_number (ref_of b i)) (reference_number c.args.to) (λ q. omega arith) in
    let t : c.turned.result ≡ turned c.args.sign_bias.now c.args.to v = grind (arith, common_steps) in
    c.keep-else-number.ensures.items
    ∙ ap (λ m. take 2 (c.args.others.now.items ++ m ∷ [])) t
    ∙ ap (λ vs. take 2 (c.args.others.now.items ++ vs)) (sym (picked (turned c.args.sign_bias.now c.args.to) (λ u. not (same_ref u.ref c.args.to)) (is_frame (ref_of b i)) v h (ap not e)))
